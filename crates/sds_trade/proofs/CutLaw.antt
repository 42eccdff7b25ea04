-- The pieces of a list of changes join to that list and are its cut, by each algorithm.
use Rattle.std.proofs.Common.{◌≡◌, ◌≢◌, ℕ, ◌+◌, ◌<◌, ◌≤◌, zero-le, suc-le-suc, Bool, true, false, ◌==◌, List, [], ◌∷◌, ◌++◌, length, drop, get_or, refl, sym, ap, subst, ◌∙◌, arith}
use Rattle.std.specs.Prelude.{nat_le, if◌then◌else◌}
use Rattle.std.proofs.lemmas.Bool.{leb-true, leb-false, eqb-true, eqb-false}
use Rattle.std.proofs.lemmas.List.{append_assoc, length-append}
use Rattle.sds_types.specs.declared.channel.Algorithm.TheVariants.{Default, Transactional, Nontransactional}
use Rattle.sds_types.specs.declared.row.Change.{Change}
use Rattle.sds_trade.specs.rules.Cuts.{changes_in, EndsBefore, IsCut, IsFirstFull, IsOfOne, onto_run, pieces_from, runs_of, singles_of}
use Rattle.sds_trade.specs.laws.Cuts.{CutIsACut}

-- JOINED. Runs and pieces join to the changes that they are made of.
same_tx : (change next : Change) (run : List Change) (runs : List (List Change)) (b : Bool)
    → changes_in (if b then (change ∷ (next ∷ run)) ∷ runs else (change ∷ []) ∷ ((next ∷ run) ∷ runs)) ≡ change ∷ changes_in ((next ∷ run) ∷ runs)
same_tx change next run runs true = refl
same_tx change next run runs false = refl

onto_joins : (change : Change) (runs : List (List Change)) → changes_in (onto_run change runs) ≡ change ∷ changes_in runs
onto_joins change [] = refl
onto_joins change ([] ∷ runs) = refl
onto_joins change ((next ∷ run) ∷ runs) = same_tx change next run runs (change.tx == next.tx)

runs_join : (changes : List Change) → changes_in (runs_of changes) ≡ changes
runs_join [] = refl
runs_join (change ∷ changes) = onto_joins change (runs_of changes) ∙ ap (λ rest. change ∷ rest) (runs_join changes)

by_size : (max : ℕ) (piece run : List Change) (runs : List (List Change)) (b : Bool) → changes_in (pieces_from max [] runs) ≡ changes_in runs
    → changes_in (pieces_from max (piece ++ run) runs) ≡ (piece ++ run) ++ changes_in runs
    → changes_in (if b then (piece ++ run) ∷ pieces_from max [] runs else pieces_from max (piece ++ run) runs) ≡ piece ++ (run ++ changes_in runs)
by_size max piece run runs true after on = ap (λ rest. (piece ++ run) ++ rest) after ∙ append_assoc piece run (changes_in runs)
by_size max piece run runs false after on = on ∙ append_assoc piece run (changes_in runs)

gathered_join : (max : ℕ) (piece : List Change) (runs : List (List Change)) → changes_in (pieces_from max piece runs) ≡ piece ++ changes_in runs
gathered_join max [] [] = refl
gathered_join max (change ∷ piece) [] = refl
gathered_join max piece (run ∷ runs) =
    by_size max piece run runs (nat_le max (length (piece ++ run))) (gathered_join max [] runs) (gathered_join max (piece ++ run) runs)

-- RUNS. The changes of a run are of one transaction, and the next run is of another.
abbrev OfTx : ℕ → List Change → Type 0
OfTx tx [] = Unit {0}
OfTx tx (change ∷ changes) = (change.tx ≡ tx) × OfTx tx changes

abbrev AreRuns : List (List Change) → Type 0
AreRuns [] = Unit {0}
AreRuns ([] ∷ runs) = ⊥
AreRuns ((change ∷ run) ∷ runs) = OfTx change.tx run × EndsBefore (change ∷ run) (changes_in runs) × AreRuns runs

no_snoc : (front : List Change) (last : Change) → [] ≡ front ++ last ∷ [] → ⊥
no_snoc front last is = let e : length {A = Change} [] ≡ length front + 1 = ap length is ∙ length-append front (last ∷ []) in omega (arith, e)

no_more : (piece : List Change) (first : Change) (run : List Change) → piece ++ first ∷ run ≡ [] → ⊥
no_more piece first run is = let e : length piece + length (first ∷ run) ≡ 0 = sym (length-append piece (first ∷ run)) ∙ ap length is in omega (arith, e)

one_more : (x : Change) (shorter : List Change) (next : Change) → (shorter ≡ [] → ⊥)
    → ((front : List Change) (last : Change) → shorter ≡ front ++ last ∷ [] → last.tx ≢ next.tx)
    → (front : List Change) (last : Change) → x ∷ shorter ≡ front ++ last ∷ [] → last.tx ≢ next.tx
one_more x shorter next some ends [] last is same = some (ap (drop 1) is)
one_more x shorter next some ends (y ∷ front) last is same = ends front last (ap (drop 1) is) same

-- what ends before a change ends there with further changes in front
ends_behind : (piece : List Change) (first : Change) (run rest : List Change) → EndsBefore (first ∷ run) rest → EndsBefore (piece ++ first ∷ run) rest
ends_behind piece first run [] ends = tt
ends_behind [] first run (next ∷ later) ends = ends
ends_behind (x ∷ piece) first run (next ∷ later) ends =
    one_more x (piece ++ first ∷ run) next (no_more piece first run) (ends_behind piece first run (next ∷ later) ends)

single_ends : (change next : Change) (later : List Change) → (change.tx ≡ next.tx → ⊥) → EndsBefore (change ∷ []) (next ∷ later)
single_ends change next later differs [] last is same = differs (ap (λ l. (get_or l 0 change).tx) is ∙ same)
single_ends change next later differs (x ∷ front) last is same = no_snoc front last (ap (drop 1) is)

by_tx : (change next : Change) (run : List Change) (runs : List (List Change)) (b : Bool) → (change.tx == next.tx) ≡ b → AreRuns ((next ∷ run) ∷ runs)
    → AreRuns (if b then (change ∷ (next ∷ run)) ∷ runs else (change ∷ []) ∷ ((next ∷ run) ∷ runs))
by_tx change next run runs true is are =
    let e : change.tx ≡ next.tx = eqb-true change.tx next.tx is in
    ((sym e, subst (λ tx. OfTx tx run) (sym e) are.0), ends_behind (change ∷ []) next run (changes_in runs) are.1, are.2)
by_tx change next run runs false is are = (tt, single_ends change next (run ++ changes_in runs) (eqb-false change.tx next.tx is), are)

onto_are : (change : Change) (runs : List (List Change)) → AreRuns runs → AreRuns (onto_run change runs)
onto_are change [] are = (tt, tt, tt)
onto_are change ([] ∷ runs) are = absurd are
onto_are change ((next ∷ run) ∷ runs) are = by_tx change next run runs (change.tx == next.tx) refl are

runs_are : (changes : List Change) → AreRuns (runs_of changes)
runs_are [] = tt
runs_are (change ∷ changes) = onto_are change (runs_of changes) (runs_are changes)

-- FULL. Within a run nothing ends, so a prefix that ends lies in the piece before the run.
of_next : (tx : ℕ) (front : List Change) (next : Change) (later : List Change) → OfTx tx (front ++ next ∷ later) → next.tx ≡ tx
of_next tx [] next later of = of.0
of_next tx (x ∷ front) next later of = of_next tx front next later of.1

never_within : (tx : ℕ) (first : Change) (front : List Change) (next : Change) (later : List Change) → OfTx tx (first ∷ (front ++ next ∷ later))
    → EndsBefore (first ∷ front) (next ∷ later) → ⊥
never_within tx first [] next later of ends = ends [] first refl (of.0 ∙ sym of.1.0)
never_within tx first (x ∷ front) next later of ends =
    never_within tx x front next later of.1 (λ before last is. ends (first ∷ before) last (ap (λ l. first ∷ l) is))

tail_ends : (first : Change) (front : List Change) (next : Change) (later : List Change) → EndsBefore (first ∷ front) (next ∷ later) → EndsBefore front (next ∷ later)
tail_ends first front next later ends before last is = ends (first ∷ before) last (ap (λ l. first ∷ l) is)

before_run : (tx : ℕ) (piece run front : List Change) (next : Change) (later : List Change) → OfTx tx run → piece ++ run ≡ front ++ next ∷ later
    → EndsBefore front (next ∷ later) → length front ≤ length piece
before_run tx piece run [] next later of is ends = zero-le
before_run tx [] run (x ∷ front) next later of is ends = absurd (never_within tx x front next later (subst (OfTx tx) is of) ends)
before_run tx (y ∷ piece) run (x ∷ front) next later of is ends =
    suc-le-suc (before_run tx piece run front next later of (ap (drop 1) is) (tail_ends x front next later ends))

short_before : (piece front : List Change) (next : Change) (later : List Change) → piece ≡ front ++ next ∷ later → length front < length piece
short_before piece front next later is = let e : length piece ≡ length front + length (next ∷ later) = ap length is ∙ length-append front (next ∷ later) in omega (arith, e)

-- CUT. The pieces pieces_from from runs behind a piece that isn't full
cons_cut : (max : ℕ) (piece : List Change) (pieces : List (List Change)) → piece ≢ [] → EndsBefore piece (changes_in pieces) → IsFirstFull max piece → max ≤ length piece
    → IsCut Default max pieces → IsCut Default max (piece ∷ pieces)
cons_cut max piece [] some ends first full is_cut = (some, first)
cons_cut max piece (next ∷ pieces) some ends first full is_cut = (some, (ends, first, full), is_cut)

by_full : (max : ℕ) (piece : List Change) (runs : List (List Change)) (b : Bool) → nat_le max (length piece) ≡ b → piece ≢ [] → EndsBefore piece (changes_in runs)
    → IsFirstFull max piece → IsCut Default max (pieces_from max [] runs) → (length piece < max → IsCut Default max (pieces_from max piece runs))
    → IsCut Default max (if b then piece ∷ pieces_from max [] runs else pieces_from max piece runs)
by_full max piece runs true is some ends first after on =
    cons_cut max piece (pieces_from max [] runs) some (subst (EndsBefore piece) (sym (gathered_join max [] runs)) ends) first (leb-true max (length piece) is) after
by_full max piece runs false is some ends first after on = on (leb-false max (length piece) is)

gathered_cut : (max : ℕ) (piece : List Change) (runs : List (List Change)) → 1 ≤ max → AreRuns runs → length piece < max → IsCut Default max (pieces_from max piece runs)
gathered_cut max [] [] some are small = tt
gathered_cut max (change ∷ piece) [] some are small =
    ((λ is. no_more [] change piece is), λ front next later is ends. let e : length front < length (change ∷ piece) = short_before (change ∷ piece) front next later is in omega (arith, e, small))
gathered_cut max piece ([] ∷ runs) some are small = absurd are
gathered_cut max piece ((first ∷ run) ∷ runs) some are small =
    by_full max (piece ++ first ∷ run) runs (nat_le max (length (piece ++ first ∷ run))) refl (no_more piece first run)
    (ends_behind piece first run (changes_in runs) are.1)
    (λ front next later is ends. let e : length front ≤ length piece = before_run first.tx piece (first ∷ run) front next later (refl, are.0) is ends in omega (arith, e, small))
    (gathered_cut max [] runs some are.2 (omega (arith, some)))
    (λ short. gathered_cut max (piece ++ first ∷ run) runs some are.2 short)

-- TRANSACTIONS. A run is a piece by itself
of_one : (tx : ℕ) (piece : List Change) → OfTx tx piece → IsOfOne piece
of_one tx piece of prefix first second later is =
    of_next tx prefix first (second ∷ later) (subst (OfTx tx) is of)
    ∙ sym (of_next tx (prefix ++ first ∷ []) second later (subst (OfTx tx) (is ∙ sym (append_assoc prefix (first ∷ []) (second ∷ later))) of))

runs_cut : (max : ℕ) (runs : List (List Change)) → AreRuns runs → IsCut Transactional max runs
runs_cut max [] are = tt
runs_cut max ([] ∷ runs) are = absurd are
runs_cut max ((first ∷ run) ∷ []) are = (no_more [] first run, of_one first.tx (first ∷ run) (refl, are.0))
runs_cut max ((first ∷ run) ∷ (next ∷ runs)) are =
    (no_more [] first run, (are.1, of_one first.tx (first ∷ run) (refl, are.0)), runs_cut max (next ∷ runs) are.2)

-- COUNTS. A piece is full with one change more
singles_join : (changes : List Change) → changes_in (singles_of changes) ≡ changes
singles_join [] = refl
singles_join (change ∷ changes) = ap (λ rest. change ∷ rest) (singles_join changes)

cons_full : (max : ℕ) (piece : List Change) (pieces : List (List Change)) → piece ≢ [] → length piece ≡ max
    → IsCut Nontransactional max pieces → IsCut Nontransactional max (piece ∷ pieces)
cons_full max piece [] some full is_cut = (some, omega (arith, full))
cons_full max piece (next ∷ pieces) some full is_cut = (some, full, is_cut)

one_longer : (piece : List Change) (change : Change) → length (piece ++ change ∷ []) ≡ length piece + 1
one_longer piece change = length-append piece (change ∷ [])

by_count : (max : ℕ) (piece : List Change) (runs : List (List Change)) (b : Bool) → nat_le max (length piece) ≡ b → piece ≢ [] → length piece ≤ max
    → IsCut Nontransactional max (pieces_from max [] runs) → (length piece < max → IsCut Nontransactional max (pieces_from max piece runs))
    → IsCut Nontransactional max (if b then piece ∷ pieces_from max [] runs else pieces_from max piece runs)
by_count max piece runs true is some small after on =
    let e : max ≤ length piece = leb-true max (length piece) is in cons_full max piece (pieces_from max [] runs) some (omega (arith, e, small)) after
by_count max piece runs false is some small after on = on (leb-false max (length piece) is)

singles_cut : (max : ℕ) (piece changes : List Change) → 1 ≤ max → length piece < max → IsCut Nontransactional max (pieces_from max piece (singles_of changes))
singles_cut max [] [] some small = tt
singles_cut max (change ∷ piece) [] some small = (no_more [] change piece, omega (arith, small))
singles_cut max piece (change ∷ changes) some small =
    let e : length (piece ++ change ∷ []) ≡ length piece + 1 = one_longer piece change in
    by_count max (piece ++ change ∷ []) (singles_of changes) (nat_le max (length (piece ++ change ∷ []))) refl (no_more piece change [])
    (omega (arith, e, small))
    (singles_cut max [] changes some (omega (arith, some)))
    (λ short. singles_cut max (piece ++ change ∷ []) changes some short)

pub cut_is_a_cut : CutIsACut
cut_is_a_cut Default max changes some =
    (gathered_cut max [] (runs_of changes) some (runs_are changes) (omega (arith, some)), gathered_join max [] (runs_of changes) ∙ runs_join changes)
cut_is_a_cut Transactional max changes some = (runs_cut max (runs_of changes) (runs_are changes), runs_join changes)
cut_is_a_cut Nontransactional max changes some =
    (singles_cut max [] changes some (omega (arith, some)), gathered_join max [] (singles_of changes) ∙ singles_join changes)
