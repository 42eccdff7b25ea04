-- The configuration of the tests is sound, and so is a state that is read from records.
use Rattle.std.proofs.Common.{◌≡◌, ◌≢◌, ℕ, ◌<◌, ◌≤◌, Bool, true, false, List, [], ◌∷◌, ◌++◌, length, map, Option, None, Some, refl, sym, ap, subst, ◌∙◌, arith, true≢false, All, AllPairs}
use Rattle.std.proofs.lemmas.List.Elements.{All-nil, All-cons}
use Rattle.std.proofs.lemmas.List.Kept.{AllPairs-cons}
use Rattle.std.proofs.lemmas.Slice.Eq.{bytes_eq-Decides}
use Rattle.std.specs.List.{enumerate_from}
use Rattle.std.specs.Prelude.{codes, IsTrue, IsSomeAnd, Ok, slice_get}
use Rattle.std.specs.Str.{bytes_eq}
use Rattle.sds_outside.specs.Records as outside
use Rattle.sds_value.specs.Names.{is_name_text}
use Rattle.sds_value.specs.declared.kind.Kind.TheVariants.{Integer, Varchar}
use Rattle.sds_value.specs.declared.table.ColumnDef.{ColumnDef}
use Rattle.sds_value.specs.declared.table.TableDef.{TableDef}
use Rattle.sds_types.specs.declared.channel.ChannelDef.{ChannelDef}
use Rattle.sds_types.specs.declared.config.Config.{Config}
use Rattle.sds_trade.specs.rules.Sound.{IsSound}
use Rattle.sds_trade.specs.sound.Tables.{AreColumns, AreTableDefs, HasSize, IsKey, IsPresent, ReferWell, RefersWell}
use Rattle.sds_trade.specs.sound.Sections.{AreChannels, AreGroups, IsChannel}
use Rattle.sds_trade.specs.worked.Entries.{column_def, table_def}
use Rattle.sds_history.specs.history.Records.{Record}
use Rattle.sds_batchtext.specs.Writable.{is_batch_text, is_writable}
use Rattle.sds_types.specs.declared.batch.OutBatch.{OutBatch}
use Rattle.sds_history.specs.history.Acts.{State}
use Rattle.sds_history.specs.history.Documents.{doc_of_batch}
use Rattle.sds_history.specs.history.SoundStates.{IsSoundState}
use Rattle.sds_nodelaws.proofs.Held.{mapped}
use Rattle.sds_doclaws.specs.Writable.{HasFewKeys, IsOfCharacters}
use Rattle.sds_doclaws.proofs.Writable.{documents_are_writable}
use Rattle.sds_messages.specs.Texts.{AreWritable}
use Rattle.sds_image.specs.Meaning.{meaning_of}
use Rattle.sds_image.specs.Pairs.{pairs}
use Rattle.sds_image.specs.ReadStates.{IsReading}
use Rattle.sds_image.specs.declared.state.State as kept
use Rattle.sds_imagelaws.proofs.AgreeingStates.{agreeing_records_are_images}
use Rattle.sds_messages.specs.TwoChannels.{channel_with, named_columns, two_channels}

-- LISTS of two, and of none
no_pairs : {A : Type 0} (R : A → A → Type 0) → AllPairs R []
no_pairs R i j d below within = absurd (omega (arith, within))

one_pair : {A : Type 0} (R : A → A → Type 0) (a : A) → AllPairs R (a ∷ [])
one_pair R a = AllPairs-cons R a [] (All-nil (R a)) (no_pairs R)

both_apart : {A : Type 0} (R : A → A → Type 0) (a b : A) → R a b → AllPairs R (a ∷ b ∷ [])
both_apart R a b apart = AllPairs-cons R a (b ∷ []) (All-cons (R a) b [] apart (All-nil (R a))) (one_pair R b)

one : {A : Type 0} (P : A → Type 0) (a : A) → P a → All P (a ∷ [])
one P a is = All-cons P a [] is (All-nil P)

two : {A : Type 0} (P : A → Type 0) (a b : A) → P a → P b → All P (a ∷ b ∷ [])
two P a b first second = All-cons P a (b ∷ []) first (one P b second)

other : (a b : List ℕ) → bytes_eq a b ≡ false → a ≢ b
other a b differ same = true≢false (sym ((bytes_eq-Decides a b).1 same) ∙ differ)

-- a list of two that were put one after the other
pub two_put : {A : Type 0} (none first both : List A) (a b x y : A) → none ≡ [] → first ≡ none ++ a ∷ [] → both ≡ first ++ b ∷ [] → a ≡ x → b ≡ y → both ≡ x ∷ (y ∷ [])
two_put none first both a b x y empty one_in both_in is also =
    both_in ∙ (ap (λ l. l ++ b ∷ []) (one_in ∙ ap (λ l. l ++ a ∷ []) empty) ∙ (ap (λ e. e ∷ (b ∷ [])) is ∙ ap (λ e. x ∷ (e ∷ [])) also))

-- THE CONFIGURATION
abbrev id_column : ColumnDef
id_column = column_def (codes "id") Integer None

abbrev name_column : ColumnDef
name_column = column_def (codes "name") (Varchar 40) None

columns_sound : AreColumns named_columns
columns_sound = record {
  few = omega arith;
  narrow = omega arith;
  sized = two (λ (column : ColumnDef). HasSize column.kind) id_column name_column tt (omega arith, omega arith);
  named = two (λ (column : ColumnDef). IsTrue (is_name_text column.name)) id_column name_column refl refl;
  apart = both_apart (λ (a b : ColumnDef). a.name ≢ b.name) id_column name_column (other (codes "id") (codes "name") refl);
}

key_sound : IsKey named_columns (0 ∷ [])
key_sound = record {
  some = omega arith;
  few = omega arith;
  ascends = one_pair (λ (a b : ℕ). a < b) 0;
  within = one (λ (place : ℕ). place < length named_columns) 0 (omega arith);
  present = one (λ (place : ℕ). IsSomeAnd (slice_get named_columns place) IsPresent) 0 refl;
}

abbrev item : TableDef
item = table_def (codes "item") named_columns

abbrev shelf : TableDef
shelf = table_def (codes "shelf") named_columns

refer_well : (place : ℕ) → All (RefersWell two_channels.tables place) named_columns
refer_well place = two (RefersWell two_channels.tables place) id_column name_column tt tt

tables_sound : AreTableDefs two_channels.tables
tables_sound = record {
  few = omega arith;
  named = two (λ (def : TableDef). IsTrue (is_name_text def.name)) item shelf refl refl;
  apart = both_apart (λ (a b : TableDef). a.name ≢ b.name) item shelf (other (codes "item") (codes "shelf") refl);
  columns = two (λ (def : TableDef). AreColumns def.columns) item shelf columns_sound columns_sound;
  keys = two (λ (def : TableDef). IsKey def.columns def.key) item shelf key_sound key_sound;
  references = two (ReferWell two_channels.tables) (0, item) (1, shelf) (refer_well 0) (refer_well 1);
}

abbrev orders : ChannelDef
orders = channel_with (codes "orders") 20 2

abbrev stock : ChannelDef
stock = channel_with (codes "stock") 10 10

orders_sound : IsChannel orders
orders_sound = record { named = refl; order = omega arith; size = omega arith; size_end = omega arith; count = omega arith; count_end = omega arith }

stock_sound : IsChannel stock
stock_sound = record { named = refl; order = omega arith; size = omega arith; size_end = omega arith; count = omega arith; count_end = omega arith }

channels_sound : AreChannels two_channels.channels
channels_sound = record {
  few = omega arith;
  each = two IsChannel orders stock orders_sound stock_sound;
  apart = both_apart (λ (a b : ChannelDef). a.id ≢ b.id) orders stock (other (codes "orders") (codes "stock") refl);
}

groups_sound : AreGroups two_channels.groups
groups_sound = record {
  few = omega arith;
  named = two (λ (group : List ℕ). IsTrue (is_name_text group)) (codes "corp") (codes "store") refl refl;
  apart = both_apart (λ (a b : List ℕ). a ≢ b) (codes "corp") (codes "store") (other (codes "corp") (codes "store") refl);
}

pub two_channels_sound : IsSound two_channels
two_channels_sound = record {
  groups = groups_sound;
  links = record { few = omega arith; source = All-nil _; target = All-nil _; apart = λ i j d below within. absurd (omega (arith, within)) };
  channels = channels_sound;
  tables = tables_sound;
  triggers = record { few = omega arith; each = All-nil _; apart = λ i j d below within. absurd (omega (arith, within)); single = λ i j d below within. absurd (omega (arith, within)) };
  routers = record { few = omega arith; each = All-nil _; apart = λ i j d below within. absurd (omega (arith, within)) };
  trigger_routers = record { few = omega arith; each = All-nil _; apart = λ i j d below within. absurd (omega (arith, within)) };
  transforms = record { few = omega arith; each = All-nil _; apart = λ i j d below within. absurd (omega (arith, within)) };
  conflicts = record { few = omega arith; each = All-nil _; apart = λ i j d below within. absurd (omega (arith, within)) };
}

-- A STATE that is read is sound: records of a keeper, as the definitions of histories have them and back
abbrev records_of : List outside.Record → List Record
records_of records = map (λ (at : outside.Record). record { key = at.0; body = at.1 }) records

pairs_back : (records : List outside.Record) → pairs (records_of records) ≡ records
pairs_back [] = refl
pairs_back (first ∷ records) = ap (λ rest. first ∷ rest) (pairs_back records)

pub read_sound : (config : Config) (records : List outside.Record) (state : kept.State) → IsSound config
    → ((told : List Record) → pairs told ≡ records → IsReading config told (Ok state)) → IsSoundState config (meaning_of state)
read_sound config records state sound reading =
    let told = reading (records_of records) (pairs_back records) in
    (agreeing_records_are_images config (records_of records) told.parts (meaning_of state) sound told.told told.state_is told.agree).0

-- so each of its batches has a written form
pub all_written : (config : Config) (state : State) → config ≡ two_channels → IsSoundState config state → AreWritable config state
all_written config state is sound =
    subst (λ (c : Config). AreWritable c state) (sym is)
    (mapped (λ (batch : OutBatch). IsTrue (is_writable (doc_of_batch two_channels state batch)) × IsTrue (is_batch_text (doc_of_batch two_channels state batch)))
    (λ (batch : OutBatch). IsTrue (is_writable (doc_of_batch two_channels state batch))) state.batches (λ batch both. both.0)
    (documents_are_writable two_channels state two_channels_sound (All-nil IsOfCharacters) (All-nil (HasFewKeys two_channels))
    (subst (λ (c : Config). IsSoundState c state) is sound)))
