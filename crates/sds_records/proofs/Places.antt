-- Under a sound configuration each table and each channel is found by its name, and the key columns of a table are columns of it.
use Rattle.std.proofs.Common.{◌≡◌, ◌≢◌, ℕ, zero, suc, ◌+◌, ◌<◌, ◌≤◌, Bool, true, false, cond, List, [], ◌∷◌, length, None, Some, refl, sym, ap, subst, ◌∙◌, arith, not}
use Rattle.std.specs.List.{All, AllPairs, position, prefix_len}
use Rattle.std.specs.Prelude.{slice_get, nat_lt}
use Rattle.std.specs.Str.{bytes_eq}
use Rattle.std.proofs.lemmas.Bool.Decides.{nat_tests}
use Rattle.sds_types.specs.declared.channel.ChannelDef.{ChannelDef}
use Rattle.sds_types.specs.declared.config.Config.{Config}
use Rattle.sds_value.specs.Names.{is_name_text}
use Rattle.sds_value.specs.declared.table.TableDef.{TableDef}
use Rattle.sds_trade.proofs.Lists.{all_head, all_tail, pairs_head, pairs_tail}
use Rattle.sds_trade.specs.rules.Places.{columns_at}
use Rattle.sds_trade.specs.rules.Sound.{IsSound}
use Rattle.sds_trade.specs.sound.Sections.{IsChannel}
use Rattle.sds_trade.specs.sound.Tables.{IsKey}
use Rattle.sds_records.specs.Parts.{HasKey}
use Rattle.sds_records.specs.Told.{HasChannel, HasTable}
use Rattle.sds_records.proofs.Texts.{equal_texts, one_text}

-- what holds of each item holds of the one at a place
pub at_place : {X : Type 0} (P : X → Type 0) (items : List X) (place : ℕ) (item : X) → All P items → slice_get items place ≡ Some item → P item
at_place P [] place item all is = absurd (cc)
at_place P (x ∷ items) zero item all is = subst P (some_of is) (all_head P x items all)
  where
    some_of : {A : Type 0} {a b : A} → Some a ≡ Some b → a ≡ b
    some_of {A} {a} {b} same = cc
at_place P (x ∷ items) (suc place) item all is = at_place P items place item (all_tail P x items all) is

-- an item stands at a place that lies within
pub stands : {X : Type 0} (items : List X) (place : ℕ) → place < length items → (item : X) × (slice_get items place ≡ Some item)
stands [] place within = absurd (omega (arith, within))
stands (x ∷ items) zero within = (x, refl)
stands (x ∷ items) (suc place) within = stands items place (omega (arith, within))

-- of items that are named apart the one at a place is the first of its name
before_it : {X : Type 0} (name : X → List ℕ) (items : List X) (place : ℕ) (item : X) → AllPairs (λ (a b : X). name a ≢ name b) items
    → slice_get items place ≡ Some item → prefix_len (λ (x : X). not (bytes_eq (name x) (name item))) items ≡ place
before_it name [] place item apart is = absurd (cc)
before_it {X} name (x ∷ items) zero item apart is =
    ap (λ b. cond (not b) (1 + prefix_len (λ (x : X). not (bytes_eq (name x) (name item))) items) 0)
    (ap (λ (it : X). bytes_eq (name x) (name it)) (sym (some_of is)) ∙ one_text (name x))
  where
    some_of : {A : Type 0} {a b : A} → Some a ≡ Some b → a ≡ b
    some_of {A} {a} {b} same = cc
before_it {X} name (x ∷ items) (suc place) item apart is =
    let differs : name x ≢ name item = at_place (λ (y : X). name x ≢ name y) items place item (pairs_head (λ (a b : X). name a ≢ name b) x items apart) is in
    ap (λ b. cond (not b) (1 + prefix_len (λ (x : X). not (bytes_eq (name x) (name item))) items) 0) (fails (bytes_eq (name x) (name item)) refl differs)
    ∙ (ap (λ n. 1 + n) (before_it name items place item (pairs_tail (λ (a b : X). name a ≢ name b) x items apart) is) ∙ count place)
  where
    count : (n : ℕ) → 1 + n ≡ suc n
    count n = omega arith

    fails : (b : Bool) → bytes_eq (name x) (name item) ≡ b → name x ≢ name item → b ≡ false
    fails true pass differs = absurd (differs (equal_texts (name x) (name item) pass))
    fails false fail differs = refl

within_of : {X : Type 0} (items : List X) (place : ℕ) (item : X) → slice_get items place ≡ Some item → place < length items
within_of [] place item is = absurd (cc)
within_of (x ∷ items) zero item is = omega arith
within_of (x ∷ items) (suc place) item is = let less = within_of items place item is in omega (arith, less)

pub found_at : {X : Type 0} (name : X → List ℕ) (items : List X) (place : ℕ) (item : X) → AllPairs (λ (a b : X). name a ≢ name b) items
    → slice_get items place ≡ Some item → position (λ (x : X). bytes_eq (name x) (name item)) items ≡ Some place
found_at name items place item apart is =
    let test : (nat_lt place (length items)) ≡ true = lt_true place (length items) (within_of items place item is) in
    ap (λ n. cond (nat_lt n (length items)) (Some n) None) (before_it name items place item apart is) ∙ ap (λ b. cond b (Some place) None) test
  where
    lt_true : (a b : ℕ) → a < b → (nat_lt a b) ≡ true
    lt_true a b less = grind (arith, nat_tests, less)

table_by : (config : Config) (table : ℕ) (def : TableDef) → IsSound config → slice_get config.tables table ≡ Some def → HasTable config table
table_by config table def sound is = record {
  named = rw (is) (at_place (λ (d : TableDef). is_name_text d.name ≡ true) config.tables table def sound.tables.named is);
  found = rw (is) (found_at (λ (d : TableDef). d.name) config.tables table def sound.tables.apart is);
}

pub sound_table : (config : Config) (table : ℕ) → IsSound config → table < length config.tables → HasTable config table
sound_table config table sound within = let at = stands config.tables table within in table_by config table at.0 sound at.1

channel_by : (config : Config) (channel : ℕ) (def : ChannelDef) → IsSound config → slice_get config.channels channel ≡ Some def → HasChannel config channel
channel_by config channel def sound is = record {
  named = rw (is) (at_place (λ (d : ChannelDef). IsChannel d) config.channels channel def sound.channels.each is).named;
  found = rw (is) (found_at (λ (d : ChannelDef). d.id) config.channels channel def sound.channels.apart is);
}

pub sound_channel : (config : Config) (channel : ℕ) → IsSound config → channel < length config.channels → HasChannel config channel
sound_channel config channel sound within = let at = stands config.channels channel within in channel_by config channel at.0 sound at.1

key_by : (config : Config) (table : ℕ) (def : TableDef) → IsSound config → slice_get config.tables table ≡ Some def → HasKey config.tables table
key_by config table def sound is = rw (is) (at_place (λ (d : TableDef). IsKey d.columns d.key) config.tables table def sound.tables.keys is).within

pub sound_key : (config : Config) (table : ℕ) → IsSound config → table < length config.tables → HasKey config.tables table
sound_key config table sound within = let at = stands config.tables table within in key_by config table at.0 sound at.1

-- and each table has a column
pub columns_by : (config : Config) (table : ℕ) (def : TableDef) → IsSound config → slice_get config.tables table ≡ Some def → 0 < length (columns_at config.tables table)
columns_by config table def sound is = rw (is) (some def (at_place (λ (d : TableDef). IsKey d.columns d.key) config.tables table def sound.tables.keys is))
  where
    first_within : (width : ℕ) (places : List ℕ) → 1 ≤ length places → All (λ (place : ℕ). place < width) places → 0 < width
    first_within width [] long each = absurd (omega (arith, long))
    first_within width (place ∷ places) long each = let less = all_head (λ (at : ℕ). at < width) place places each in omega (arith, less)

    some : (def : TableDef) → IsKey def.columns def.key → 0 < length def.columns
    some def key = first_within (length def.columns) def.key key.some key.within
