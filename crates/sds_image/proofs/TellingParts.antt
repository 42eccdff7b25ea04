-- Records that are read one after another: each tells a part, or is the first bad one.
use Rattle.std.proofs.Common.{◌≡◌, inl, inr, ℕ, zero, suc, ◌+◌, ◌-◌, ◌<◌, Bool, true, false, not, ◌||◌, List, [], ◌∷◌, ◌++◌, length, map, take, Option, None, Some, refl, sym, ap, subst, ◌∙◌, arith, All, get_or}
use Rattle.std.specs.Prelude.{codes, slice_get, IsSomeAnd, IsTrue}
use Rattle.std.specs.List.{last_or, list_any}
use Rattle.std.specs.Option.{option_map_or}
use Rattle.std.specs.Str.{bytes_eq}
use Rattle.std.proofs.Math.Seq.{take-suc}
use Rattle.std.proofs.lemmas.Cmp.{nat_list_cmp_total}
use Rattle.std.proofs.lemmas.List.{map-append, take-map}
use Rattle.std.proofs.lemmas.List.Elements.{All-append, All-cons, All-nil}
use Rattle.std.specs.Cmp.Lexicographic.{slice_cmp}
use Rattle.std.specs.Ordering.{is_lt, nat_cmp}
use Rattle.sds_outside.specs.Records as outside
use Rattle.sds_types.specs.declared.config.Config.{Config}
use Rattle.sds_trade.proofs.Lists.{all_head, pairs_append, pairs_head, pairs_tail}
use Rattle.sds_trade.proofs.TableLaws.{less_is}
use Rattle.sds_history.specs.history.Image.{key_of_record}
use Rattle.sds_history.specs.history.Orders.{is_before}
use Rattle.sds_history.specs.history.Records.{Record}
use Rattle.sds_history.specs.history.SoundParts.{AscendBy}
use Rattle.sds_records.specs.Told.{IsHeld, Tells, record_of_told}
use Rattle.sds_records.specs.declared.told.Told.{Told}
use Rattle.sds_image.specs.Pairs.{pairs}
use Rattle.sds_image.specs.PartsSeen.{IsBadAmong, IsBadNext, record_of_pair, records_of_pairs}
use Rattle.sds_image.specs.ReadStates.{has_me}
use Rattle.sds_image.specs.Reading.{AreTold, IsBad, IsTold, TellsNone, is_after_last}
use Rattle.sds_image.specs.declared.refusal.StateRefusal.{StateRefusal}
use Rattle.sds_image.specs.declared.refusal.StateRefusal.TheVariants.{BadRecord, Contradicts, NoMemory}

-- PAIRS of keys and bodies are records
pub pairs_back : (records : List Record) (all : List outside.Record) → pairs records ≡ all → records_of_pairs all ≡ records
pairs_back records all is = ap records_of_pairs (sym is) ∙ back records
  where
    back : (records : List Record) → records_of_pairs (pairs records) ≡ records
    back [] = refl
    back (kept ∷ records) = ap (λ xs. kept ∷ xs) (back records)

pub any_me : (all : List outside.Record) → has_me (records_of_pairs all) ≡ list_any (λ (kept : outside.Record). bytes_eq kept.0 (codes "me")) all
any_me [] = refl
any_me (kept ∷ all) = ap (λ b. bytes_eq kept.0 (codes "me") || b) (any_me all)

pub me_kept : (records : List Record) (all : List outside.Record) (b : Bool) → pairs records ≡ all
    → b ≡ list_any (λ (kept : outside.Record). bytes_eq kept.0 (codes "me")) all → has_me records ≡ b
me_kept records all b are is = ap has_me (sym (pairs_back records all are)) ∙ (any_me all ∙ sym is)

-- THE LAST of records
module _ (key : List ℕ) where
  abbrev is_after : Option Record → Bool
  is_after last = option_map_or (λ (earlier : Record). is_before earlier.key key) last true

  abbrev pair_after : Option outside.Record → Bool
  pair_after last = option_map_or (λ (earlier : outside.Record). is_before earlier.0 key) last true

  last_from : (last : outside.Record) (all : List outside.Record)
      → is_after (last_or (Some (record_of_pair last)) (records_of_pairs all)) ≡ pair_after (last_or (Some last) all)
  last_from last [] = refl
  last_from last (kept ∷ all) = last_from kept all

  pub last_is : (all : List outside.Record) → is_after (last_or None (records_of_pairs all)) ≡ pair_after (last_or None all)
  last_is [] = refl
  last_is (kept ∷ all) = last_from kept all

last_of : {A : Type 0} (x : A) (xs : List A) → slice_get (x ∷ xs) (length xs) ≡ last_or (Some x) xs
last_of x [] = refl
last_of x (y ∷ ys) = last_of y ys

last_get : {A : Type 0} (xs : List A) → slice_get xs (length xs - 1) ≡ last_or None xs
last_get [] = refl
last_get (x ∷ xs) = ap (slice_get (x ∷ xs)) (less (length xs)) ∙ last_of x xs
  where
    less : (n : ℕ) → suc n - 1 ≡ n
    less n = omega arith

pub later_key : (all : List outside.Record) (key : List ℕ) (earlier : outside.Record) (b : Bool) → Some earlier ≡ slice_get all (length all - 1)
    → b ≡ is_before earlier.0 key → b ≡ option_map_or (λ (earlier : outside.Record). is_before earlier.0 key) (last_or None all) true
later_key all key earlier b some is =
    is ∙ ap (λ o. option_map_or (λ (earlier : outside.Record). is_before earlier.0 key) o true) (some ∙ last_get all)

-- ONE MORE record after others
abbrev Before : Record → Record → Type 0
Before a b = IsTrue (is_before a.key b.key)

before_trans : (a b c : List ℕ) → is_before a b ≡ true → is_before b c ≡ true → is_before a c ≡ true
before_trans a b c first second =
    ap is_lt (nat_list_cmp_total.trans a b c (less_is (slice_cmp nat_cmp a b) first) (less_is (slice_cmp nat_cmp b c) second))

all_before : (kept y : Record) (ys : List Record) → AscendBy key_of_record (y ∷ ys) → is_after_last (y ∷ ys) kept ≡ true → All (λ (e : Record). Before e kept) (y ∷ ys)
all_before kept y [] up is = All-cons (λ (e : Record). Before e kept) y [] is (All-nil (λ (e : Record). Before e kept))
all_before kept y (z ∷ zs) up is =
    let rest = all_before kept z zs (pairs_tail Before y (z ∷ zs) up) is in
    All-cons (λ (e : Record). Before e kept) y (z ∷ zs)
    (before_trans y.key z.key kept.key (all_head (Before y) z zs (pairs_head Before y (z ∷ zs) up)) (all_head (λ (e : Record). Before e kept) z zs rest)) rest

before_one : (kept : Record) (records : List Record) → AscendBy key_of_record records → is_after_last records kept ≡ true → All (λ (e : Record). Before e kept) records
before_one kept [] up is = All-nil (λ (e : Record). Before e kept)
before_one kept (y ∷ ys) up is = all_before kept y ys up is

single : {A : Type 0} (P : A → Type 0) (x : A) → P x → All P (x ∷ [])
single P x is = All-cons P x [] is (All-nil P)

one_pair : (kept : Record) → AscendBy key_of_record (kept ∷ [])
one_pair kept i j d less within = absurd (omega (arith, less, within))

ascend_more : (records : List Record) (kept : Record) → AscendBy key_of_record records → is_after_last records kept ≡ true → AscendBy key_of_record (records ++ kept ∷ [])
ascend_more records kept up is =
    pairs_append Before records (kept ∷ []) up (one_pair kept)
    (λ k d within. single (Before (get_or records k d)) kept (before_one kept records up is k d within))

told_more : (config : Config) (records : List Record) (parts : List Told) (kept : Record) (part : Told) → AreTold config records parts
    → Tells config kept part → IsHeld part → is_after_last records kept ≡ true → AreTold config (records ++ kept ∷ []) (parts ++ part ∷ [])
told_more config records parts kept part told tells held after = record {
  each = All-append (IsTold config) parts (part ∷ []) told.each
      (single (IsTold config) part (record { form = tells.form; values = tells.values; held = held }));
  records_are = map-append (record_of_told config) parts (part ∷ [])
      ∙ (ap (λ xs. xs ++ record_of_told config part ∷ []) told.records_are ∙ ap (λ x. records ++ x ∷ []) tells.record_is);
  ascend = ascend_more records kept told.ascend after;
}

pub none_told : (config : Config) → AreTold config [] []
none_told config = record {
  each = All-nil (IsTold config);
  records_are = refl;
  ascend = λ i j d less within. absurd (omega (arith, within));
}

next : (n : ℕ) → n + 1 ≡ suc n
next n = omega arith

next_pairs : (all : List outside.Record) (place : ℕ) (kept : outside.Record) → place < length all → get_or all place kept ≡ kept
    → records_of_pairs (take place all) ++ record_of_pair kept ∷ [] ≡ records_of_pairs (take (suc place) all)
next_pairs all place kept within is =
    sym (ap records_of_pairs (take-suc all place kept within ∙ ap (λ x. take place all ++ x ∷ []) is) ∙ map-append record_of_pair (take place all) (kept ∷ []))

pub told_next : (config : Config) (all : List outside.Record) (place : ℕ) (kept : outside.Record) (parts : List Told) (part : Told)
    → AreTold config (records_of_pairs (take place all)) parts → place < length all → get_or all place kept ≡ kept
    → Tells config (record_of_pair kept) part → IsHeld part → is_after_last (records_of_pairs (take place all)) (record_of_pair kept) ≡ true
    → AreTold config (records_of_pairs (take (place + 1) all)) (parts ++ part ∷ [])
told_next config all place kept parts part told within is tells held after =
    subst (λ n. AreTold config (records_of_pairs (take n all)) (parts ++ part ∷ [])) (sym (next place))
    (subst (λ xs. AreTold config xs (parts ++ part ∷ [])) (next_pairs all place kept within is)
    (told_more config (records_of_pairs (take place all)) parts (record_of_pair kept) part told tells held after))

-- A BAD RECORD among others
get_mapped : {A B : Type 0} (f : A → B) (xs : List A) (place : ℕ) (d : A) → place < length xs → slice_get (map f xs) place ≡ Some (f (get_or xs place d))
get_mapped f [] place d within = absurd (omega (arith, within))
get_mapped f (x ∷ xs) zero d within = refl
get_mapped f (x ∷ xs) (suc place) d within = get_mapped f xs place d (omega (arith, within))

pub bad_among : (config : Config) (all : List outside.Record) (place : ℕ) (kept : outside.Record) (parts : List Told) (refusal : StateRefusal)
    → AreTold config (records_of_pairs (take place all)) parts → place < length all → get_or all place kept ≡ kept
    → IsBadNext config (records_of_pairs (take place all)) (record_of_pair kept) refusal → IsBadAmong config (records_of_pairs all) refusal
bad_among config all place kept parts (BadRecord key) told within is bad =
    let there : slice_get (records_of_pairs all) place ≡ Some (record_of_pair kept) =
    get_mapped record_of_pair all place kept within ∙ ap (λ x. Some (record_of_pair x)) is in
    let before : records_of_pairs (take place all) ≡ take place (records_of_pairs all) = sym (take-map record_of_pair place all) in
    record {
      place = place;
      first = record {
        parts = parts;
        before = subst (λ xs. AreTold config xs parts) before told;
        bad = subst (λ o. IsSomeAnd o (IsBad config (take place (records_of_pairs all)))) (sym there)
            (subst (λ xs. IsBad config xs (record_of_pair kept)) before bad.0);
      };
      own_key = subst (λ o. IsSomeAnd o (λ (r : Record). r.key ≡ key)) (sym there) bad.1;
    }
bad_among config all place kept parts (Contradicts key) told within is bad = absurd bad
bad_among config all place kept parts NoMemory told within is bad = tt

-- HOW ONE IS REFUSED
pub not_after : (config : Config) (before : List outside.Record) (key body copy : List ℕ) (b : Bool)
    → b ≡ option_map_or (λ (earlier : outside.Record). is_before earlier.0 key) (last_or None before) true → b ≡ false → copy ≡ key
    → IsBadNext config (records_of_pairs before) (record_of_pair (key, body)) (BadRecord copy)
not_after config before key body copy b is none same = (inr (ap not (last_is key before ∙ (sym is ∙ none))), sym same)

pub next_after : (before : List outside.Record) (key body : List ℕ) (b : Bool)
    → b ≡ option_map_or (λ (earlier : outside.Record). is_before earlier.0 key) (last_or None before) true → b ≡ true
    → is_after_last (records_of_pairs before) (record_of_pair (key, body)) ≡ true
next_after before key body b is has = last_is key before ∙ (sym is ∙ has)

pub tells_none : (config : Config) (before : List Record) (kept : Record) (copy : List ℕ) → TellsNone config kept → copy ≡ kept.key
    → IsBadNext config before kept (BadRecord copy)
tells_none config before kept copy none same = (inl none, sym same)
