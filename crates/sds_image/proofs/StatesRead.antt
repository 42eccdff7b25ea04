-- The state of parts that records tell, and how records are refused.
use Rattle.std.proofs.Common.{◌≡◌, ℕ, zero, suc, true, false, List, [], ◌∷◌, map, Option, None, Some, refl, sym, ap, subst, ◌∙◌, arith, ◌<◌, get_or, length, true≢false}
use Rattle.std.specs.Prelude.{option_and_then, option_map, slice_get, IsSome, Err, Ok}
use Rattle.std.proofs.lemmas.Option.{same_Some}
use Rattle.sds_outside.specs.Records as outside
use Rattle.sds_value.specs.declared.row.Peer as node
use Rattle.sds_types.specs.declared.config.Config.{Config}
use Rattle.sds_history.specs.history.Acts.{State}
use Rattle.sds_history.specs.history.Records.{Record}
use Rattle.sds_records.specs.Told.{record_of_told}
use Rattle.sds_records.specs.declared.told.Told.{Told}
use Rattle.sds_records.specs.declared.told.Told.TheVariants.{Me, Counts, Peer, Opening, Writer, Row, Change, Batch, Lane}
use Rattle.sds_image.specs.Meaning.{meaning_of}
use Rattle.sds_image.specs.Pairs.{pairs}
use Rattle.sds_image.specs.PartsSeen.{IsBadAmong, IsSeen, records_of_pairs}
use Rattle.sds_image.specs.ReadStates.{IsReading, has_me}
use Rattle.sds_image.specs.Reading.{AreTold, first_disagreement, first_told, me_of_part, state_told, state_with}
use Rattle.sds_image.specs.declared.refusal.StateRefusal.{StateRefusal}
use Rattle.sds_image.specs.declared.refusal.StateRefusal.TheVariants.{BadRecord, Contradicts, NoMemory}
use Rattle.sds_image.specs.declared.seen.Seen.{Seen}
use Rattle.sds_image.specs.declared.state.State as kept
use Rattle.sds_image.proofs.TellingParts.{pairs_back}

-- where a record has the key of the node itself, a part tells the node
me_among : (config : Config) (parts : List Told) → has_me (map (record_of_told config) parts) ≡ true → IsSome (first_told me_of_part parts)
me_among config [] is = absurd (true≢false (sym is))
me_among config (Me me ∷ parts) is = refl
me_among config (Counts counts ∷ parts) is = me_among config parts is
me_among config (Peer kept ∷ parts) is = me_among config parts is
me_among config (Opening opening ∷ parts) is = me_among config parts is
me_among config (Writer last ∷ parts) is = me_among config parts is
me_among config (Row row ∷ parts) is = me_among config parts is
me_among config (Change change ∷ parts) is = me_among config parts is
me_among config (Batch batch ∷ parts) is = me_among config parts is
me_among config (Lane lane ∷ parts) is = me_among config parts is

pub me_told : (config : Config) (records : List Record) (parts : List Told) → AreTold config records parts → has_me records ≡ true → IsSome (first_told me_of_part parts)
me_told config records parts told has = me_among config parts (ap has_me told.records_are ∙ has)

-- REFUSALS
pub no_me : (config : Config) (records : List Record) (key : List ℕ) → has_me records ≡ false → key ≡ [] → IsReading config records (Err (BadRecord key))
no_me config records key none empty = record {
  without_me = λ is. empty;
  with_me = λ is. absurd (true≢false (sym is ∙ none));
}

pub refused : (config : Config) (records : List Record) (refusal : StateRefusal) → has_me records ≡ true → IsBadAmong config records refusal
    → IsReading config records (Err refusal)
refused config records (BadRecord key) has bad = record {
  without_me = λ none. absurd (true≢false (sym has ∙ none));
  with_me = λ is. bad;
}
refused config records (Contradicts key) has bad = absurd bad
refused config records NoMemory has bad = tt

-- THE PART at a place, and its record
record Placed (config : Config) (all : List outside.Record) (parts : List Told) (place : ℕ) : Type 0 where
  part : Told
  there : slice_get parts place ≡ Some part
  own : (pair : outside.Record) → get_or all place pair ≡ pair → (record_of_told config part).key ≡ pair.0

placed : (config : Config) (all : List outside.Record) (parts : List Told) (place : ℕ) → map (record_of_told config) parts ≡ records_of_pairs all
    → place < length parts → Placed config all parts place
placed config all [] place are within = absurd (omega (arith, within))
placed config [] (part ∷ parts) place are within = absurd (cc)
placed config (pair ∷ all) (part ∷ parts) zero are within = record {
  part = part;
  there = refl;
  own = λ kept is. ap (λ (xs : List Record). elim xs [ [] ↦ (record_of_told config part).key | x ∷ rest ↦ x.key ]) are ∙ ap (λ (p : outside.Record). p.0) is;
}
placed config (pair ∷ all) (part ∷ parts) (suc place) are within =
    let rest = placed config all parts place
    (ap (λ (xs : List Record). elim xs [ [] ↦ map (record_of_told config) parts | x ∷ later ↦ later ]) are) (omega (arith, within)) in
    record { part = rest.part; there = rest.there; own = rest.own }

-- where a part tells the node itself, there is the state of the parts
record Stated (config : Config) (parts : List Told) : Type 0 where
  me : node.Peer
  is : state_told config parts ≡ Some (state_with config parts me)

stated : (config : Config) (parts : List Told) → IsSome (first_told me_of_part parts) → Stated config parts
stated config parts some = on (first_told me_of_part parts) refl some
  where
    on : (o : Option node.Peer) → first_told me_of_part parts ≡ o → IsSome o → Stated config parts
    on None is none = absurd (true≢false (sym none))
    on (Some me) is have = record { me = me; is = ap (option_map (state_with config parts)) is }

-- ONE PART contradicts
pub contradicts : (config : Config) (records : List Record) (all : List outside.Record) (parts : List Told) (place : ℕ) (pair : outside.Record) (key : List ℕ)
    → pairs records ≡ all → AreTold config (records_of_pairs all) parts → IsSome (first_told me_of_part parts)
    → ((me : node.Peer) → first_disagreement config (state_with config parts me) parts ≡ slice_get parts place)
    → place < length parts → get_or all place pair ≡ pair → key ≡ pair.0 → IsReading config records (Err (Contradicts key))
contradicts config records all parts place pair key are told some first within there is =
    let found = placed config all parts place told.records_are within in
    let state = stated config parts some in
    record {
      parts = parts;
      told = subst (λ xs. AreTold config xs parts) (pairs_back records all are) told;
      state = state_with config parts state.me;
      state_is = state.is;
      part = found.part;
      first = first state.me ∙ found.there;
      own_key = found.own pair there ∙ sym is;
    }

-- NONE disagrees
pub agrees : (config : Config) (records : List Record) (all : List outside.Record) (parts : List Told) (state : kept.State)
    → pairs records ≡ all → AreTold config (records_of_pairs all) parts → IsSome (first_told me_of_part parts)
    → ((me : node.Peer) → first_disagreement config (state_with config parts me) parts ≡ None)
    → state_told config parts ≡ Some (meaning_of state) → IsReading config records (Ok state)
agrees config records all parts state are told some first is =
    let whole = stated config parts some in
    record {
      parts = parts;
      told = subst (λ xs. AreTold config xs parts) (pairs_back records all are) told;
      state_is = is;
      agree = subst (λ (s : State). first_disagreement config s parts ≡ None)
          (same_Some (state_with config parts whole.me) (meaning_of state) (sym whole.is ∙ is)) (first whole.me);
    }

-- what is judged of the parts is so of the state that they tell
pub first_is : (config : Config) (parts seen_parts judged : List Told) (seen : Seen) (place : Option ℕ) → seen_parts ≡ parts → judged ≡ parts
    → ((me : node.Peer) → IsSeen (state_with config seen_parts me) seen)
    → ((state : State) → IsSeen state seen → first_disagreement config state judged ≡ option_and_then (slice_get judged) place)
    → (me : node.Peer) → first_disagreement config (state_with config parts me) parts ≡ option_and_then (slice_get parts) place
first_is config parts seen_parts judged seen place one other are first me =
    subst (λ xs. first_disagreement config (state_with config parts me) xs ≡ option_and_then (slice_get xs) place) other
    (first (state_with config parts me) (subst (λ xs. IsSeen (state_with config xs me) seen) one (are me)))

pub no_one : node.Peer
no_one = record { id = []; group = []; external = [] }

pub none_of : {A : Type 0} (o : Option A) → ((x : A) → o ≡ Some x → ⊥) → o ≡ None
none_of None isnt = refl
none_of (Some x) isnt = absurd (isnt x refl)
