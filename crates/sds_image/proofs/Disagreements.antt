-- Which parts disagree, part after part.
use Rattle.std.proofs.Common.{◌≡◌, ℕ, zero, suc, ◌+◌, ◌≤◌, ◌<◌, Bool, true, false, not, ◌||◌, List, [], ◌∷◌, ◌++◌, cond, length, map, take, drop, drop-cons, get_or, Option, None, Some, refl, sym, ap, subst, ◌∙◌, arith, append-nil, true≢false}
use Rattle.std.specs.Prelude.{nat_le, slice_get}
use Rattle.std.specs.List.{cons_option, filter_map}
use Rattle.std.proofs.Math.Seq.{take-suc}
use Rattle.std.proofs.lemmas.Bool.Decides.{nat_tests}
use Rattle.std.specs.List.{list_any}
use Rattle.sds_image.proofs.SeenParts.{any_seen}
use Rattle.std.proofs.lemmas.List.{length-append}
use Rattle.std.proofs.lemmas.List.Elements.{filter_map-append}
use Rattle.sds_types.specs.Limits.{most_peers, most_rows}
use Rattle.sds_types.specs.declared.config.Config.{Config}
use Rattle.sds_types.specs.declared.peer.KeptPeer.{KeptPeer}
use Rattle.sds_types.specs.declared.row.TableRow.{TableRow}
use Rattle.sds_trade.specs.rules.Places.{columns_at}
use Rattle.sds_trade.specs.rules.StepRules.{has_null}
use Rattle.sds_trade.specs.rules.Tables.{finds_parents}
use Rattle.sds_history.specs.history.Acts.{State}
use Rattle.sds_records.specs.declared.told.Told.{Told}
use Rattle.sds_records.specs.declared.told.Told.TheVariants.{Me, Counts, Peer, Opening, Writer, Row, Change, Batch, Lane}
use Rattle.sds_image.specs.Reading.{disagreement_after, disagrees, first_disagreement, peer_of_part, row_of_part}

-- what disagrees by a test of earlier items, where it doesn't by itself
pub later_any : {A B : Type 0} (p : A → Bool) (f : B → A) (xs : List B) (ys : List A) (itself found : Bool) → itself ≡ true
    → found ≡ list_any (λ x. p (f x)) xs → map f xs ≡ ys → found ≡ (not itself || list_any p ys)
later_any p f xs ys itself found is any are =
    any ∙ (any_seen p f xs ∙ (ap (list_any p) are ∙ sym (ap (λ b. not b || list_any p ys) is)))

next : (n : ℕ) → n + 1 ≡ suc n
next n = omega arith

-- THE WALK over parts
module _ (parts : List Told) (place : ℕ) (part : Told) (within : place < length parts) (is : get_or parts place part ≡ part) where
  split : drop place parts ≡ part ∷ drop (suc place) parts
  split = drop-cons parts place part within ∙ ap (λ p. p ∷ drop (suc place) parts) is

  after_one : take (suc place) parts ≡ take place parts ++ part ∷ []
  after_one = take-suc parts place part within ∙ ap (λ p. take place parts ++ p ∷ []) is

  pub longer : take (place + 1) parts ≡ take place parts ++ part ∷ []
  longer = ap (λ n. take n parts) (next place) ∙ after_one

  module _ (config : Config) (state : State) where
    abbrev by : Bool → Option Told
    by test = cond test (Some part) (disagreement_after config state (take place parts ++ part ∷ []) (drop (suc place) parts))

    by_one : disagrees config state (take place parts) part ≡ false
        → disagreement_after config state (take place parts) (drop place parts) ≡ first_disagreement config state parts
        → disagreement_after config state (take (suc place) parts) (drop (suc place) parts) ≡ first_disagreement config state parts
    by_one agrees so_far =
        ap (λ l. disagreement_after config state l (drop (suc place) parts)) after_one
        ∙ (sym (ap by agrees) ∙ (sym (ap (disagreement_after config state (take place parts)) split) ∙ so_far))

    pub passed : disagrees config state (take place parts) part ≡ false
        → disagreement_after config state (take place parts) (drop place parts) ≡ first_disagreement config state parts
        → disagreement_after config state (take (place + 1) parts) (drop (place + 1) parts) ≡ first_disagreement config state parts
    passed agrees so_far = subst (λ n. disagreement_after config state (take n parts) (drop n parts) ≡ first_disagreement config state parts) (sym (next place))
        (by_one agrees so_far)

    pub found : disagrees config state (take place parts) part ≡ true
        → disagreement_after config state (take place parts) (drop place parts) ≡ first_disagreement config state parts
        → first_disagreement config state parts ≡ slice_get parts place
    found differs so_far =
        sym so_far ∙ (ap (disagreement_after config state (take place parts)) split ∙ (ap by differs ∙ sym (got parts place within is)))
      where
        got : (parts : List Told) (place : ℕ) → place < length parts → get_or parts place part ≡ part → slice_get parts place ≡ Some part
        got [] place within is = absurd (omega (arith, within))
        got (p ∷ parts) zero within is = ap Some is
        got (p ∷ parts) (suc place) within is = got parts place (omega (arith, within)) is

-- HOW MANY of a kind stand before a part, where no more than so many may
or_third : (a b c : Bool) → (a || (b || c)) ≡ false → c ≡ false
or_third true b c is = absurd (true≢false is)
or_third false true c is = absurd (true≢false is)
or_third false false c is = is

below : (most n : ℕ) → nat_le most n ≡ false → n < most
below most n is = grind (arith, nat_tests, is)

module _ {A : Type 0} (kind : Told → Option A) (most : ℕ) (config : Config) (state : State)
    (full : (before : List Told) (part : Told) → disagrees config state before part ≡ false → (x : A) → kind part ≡ Some x
    → nat_le most (length (filter_map kind before)) ≡ false) where
  few_after : (before : List Told) (part : Told) → disagrees config state before part ≡ false
      → length (filter_map kind before) ≤ most → length (filter_map kind (before ++ part ∷ [])) ≤ most
  few_after before part agrees few = on (kind part) refl
    where
      more : (o : Option A) → kind part ≡ o → filter_map kind (before ++ part ∷ []) ≡ filter_map kind before ++ cons_option o []
      more o is = filter_map-append kind before (part ∷ []) ∙ ap (λ p. filter_map kind before ++ cons_option p []) is

      on : (o : Option A) → kind part ≡ o → length (filter_map kind (before ++ part ∷ [])) ≤ most
      on None is = subst (λ xs. length xs ≤ most) (sym (more None is ∙ append-nil (filter_map kind before))) few
      on (Some x) is =
          let less = below most (length (filter_map kind before)) (full before part agrees x is) in
          let one : length (filter_map kind (before ++ part ∷ [])) ≡ length (filter_map kind before) + 1 =
          ap length (more (Some x) is) ∙ length-append (filter_map kind before) (x ∷ []) in
          omega (arith, one, less)

  few_next : (parts : List Told) (place : ℕ) (part : Told) → place < length parts → get_or parts place part ≡ part
      → disagrees config state (take place parts) part ≡ false → length (filter_map kind (take place parts)) ≤ most
      → length (filter_map kind (take (place + 1) parts)) ≤ most
  few_next parts place part within is agrees few =
      subst (λ xs. length (filter_map kind xs) ≤ most) (sym (longer parts place part within is)) (few_after (take place parts) part agrees few)

rows_full : (config : Config) (state : State) (before : List Told) (part : Told) → disagrees config state before part ≡ false
    → (row : TableRow) → row_of_part part ≡ Some row → nat_le most_rows (length (filter_map row_of_part before)) ≡ false
rows_full config state before (Row r) agrees row some =
    or_third (has_null (columns_at config.tables r.table) r.row) (not (finds_parents config.tables state.tables r.table r.row))
    (nat_le most_rows (length (filter_map row_of_part before))) agrees
rows_full config state before (Me me) agrees row some = absurd (cc)
rows_full config state before (Counts counts) agrees row some = absurd (cc)
rows_full config state before (Peer kept) agrees row some = absurd (cc)
rows_full config state before (Opening opening) agrees row some = absurd (cc)
rows_full config state before (Writer last) agrees row some = absurd (cc)
rows_full config state before (Change change) agrees row some = absurd (cc)
rows_full config state before (Batch batch) agrees row some = absurd (cc)
rows_full config state before (Lane lane) agrees row some = absurd (cc)

peers_full : (config : Config) (state : State) (before : List Told) (part : Told) → disagrees config state before part ≡ false
    → (peer : KeptPeer) → peer_of_part part ≡ Some peer → nat_le most_peers (length (filter_map peer_of_part before)) ≡ false
peers_full config state before (Peer kept) agrees peer some = agrees
peers_full config state before (Row r) agrees peer some = absurd (cc)
peers_full config state before (Me me) agrees peer some = absurd (cc)
peers_full config state before (Counts counts) agrees peer some = absurd (cc)
peers_full config state before (Opening opening) agrees peer some = absurd (cc)
peers_full config state before (Writer last) agrees peer some = absurd (cc)
peers_full config state before (Change change) agrees peer some = absurd (cc)
peers_full config state before (Batch batch) agrees peer some = absurd (cc)
peers_full config state before (Lane lane) agrees peer some = absurd (cc)

pub few_rows : (config : Config) (state : State) (parts : List Told) (place : ℕ) (part : Told) → place < length parts → get_or parts place part ≡ part
    → disagrees config state (take place parts) part ≡ false → length (filter_map row_of_part (take place parts)) ≤ most_rows
    → length (filter_map row_of_part (take (place + 1) parts)) ≤ most_rows
few_rows config state = few_next row_of_part most_rows config state (rows_full config state)

pub few_peers : (config : Config) (state : State) (parts : List Told) (place : ℕ) (part : Told) → place < length parts → get_or parts place part ≡ part
    → disagrees config state (take place parts) part ≡ false → length (filter_map peer_of_part (take place parts)) ≤ most_peers
    → length (filter_map peer_of_part (take (place + 1) parts)) ≤ most_peers
few_peers config state = few_next peer_of_part most_peers config state (peers_full config state)
