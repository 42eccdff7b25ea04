-- The pieces that are found change by change are the cut.
use Rattle.std.proofs.Common.{◌≡◌, ℕ, suc, ◌+◌, Bool, true, false, not, ◌&&◌, ◌==◌, List, [], ◌∷◌, ◌++◌, length, drop, append-nil, length-append, append_assoc, ◌≢◌, ◌≤◌, refl, sym, ap, ◌∙◌, arith, leb, map}
use Rattle.std.proofs.lemmas.List.{drop_all}
use Rattle.std.proofs.lemmas.Bool.Decides.{nat_tests}
use Rattle.std.specs.Prelude.{if◌then◌else◌, slice_get}
use Rattle.sds_types.specs.declared.channel.Algorithm.{Algorithm}
use Rattle.sds_types.specs.declared.channel.Algorithm.TheVariants.{Default, Transactional, Nontransactional}
use Rattle.sds_types.specs.declared.cut.Cut.{Cut}
use Rattle.sds_types.specs.declared.row.Change.{Change}
use Rattle.sds_trade.specs.rules.Cuts.{cut, cuts_from, cuts_of, last_piece, onto_run, pieces_from, runs_of, singles_of}
use Rattle.sds_batcher.specs.Ends.{cuts_to_come, ends_piece, last_cut, next_tx, pieces_to_come}

-- RUNS. The runs of some changes begin with the first of them
record Begins (change : Change) (runs : List (List Change)) : Type 0 where
  run : List Change
  later : List (List Change)
  is : runs ≡ (change ∷ run) ∷ later

joined : (change next : Change) (run : List Change) (later : List (List Change)) (b : Bool)
    → Begins change (if b then (change ∷ (next ∷ run)) ∷ later else (change ∷ []) ∷ ((next ∷ run) ∷ later))
joined change next run later true = record { run = next ∷ run; later = later; is = refl }
joined change next run later false = record { run = []; later = (next ∷ run) ∷ later; is = refl }

onto_begins : (change : Change) (runs : List (List Change)) → Begins change (onto_run change runs)
onto_begins change [] = record { run = []; later = []; is = refl }
onto_begins change ([] ∷ runs) = record { run = []; later = runs; is = refl }
onto_begins change ((next ∷ run) ∷ runs) = joined change next run runs (change.tx == next.tx)

-- WHOLE TRANSACTIONS UNTIL FULL
and_true : (b : Bool) → (b && true) ≡ b
and_true true = refl
and_true false = refl

and_false : (b : Bool) → (b && false) ≡ false
and_false true = refl
and_false false = refl

-- the last change of all
last_default : (max : ℕ) (piece : List Change) (b : Bool)
    → (if b && true then piece ∷ [] else last_piece piece) ≡ (if b then piece ∷ [] else last_piece piece)
last_default max piece true = refl
last_default max piece false = refl

default_at : (max : ℕ) (piece : List Change) (change next : Change) (later : List Change) (run : List Change) (runs : List (List Change)) (b : Bool)
    → runs_of (next ∷ later) ≡ (next ∷ run) ∷ runs
    → ((p : List Change) → pieces_to_come Default max p (next ∷ later) ≡ pieces_from max p (runs_of (next ∷ later)))
    → (if leb max (length (piece ++ change ∷ [])) && not b
    then (piece ++ change ∷ []) ∷ pieces_to_come Default max [] (next ∷ later)
    else pieces_to_come Default max (piece ++ change ∷ []) (next ∷ later))
    ≡ pieces_from max piece (if b then (change ∷ (next ∷ run)) ∷ runs else (change ∷ []) ∷ ((next ∷ run) ∷ runs))
default_at max piece change next later run runs true are goes_on =
    rw (and_false (leb max (length (piece ++ change ∷ []))), goes_on (piece ++ change ∷ []), are, append_assoc piece (change ∷ []) (next ∷ run)) refl
default_at max piece change next later run runs false are goes_on =
    rw (and_true (leb max (length (piece ++ change ∷ []))), goes_on [], goes_on (piece ++ change ∷ []), are) refl

default_is : (max : ℕ) (piece changes : List Change) → pieces_to_come Default max piece changes ≡ pieces_from max piece (runs_of changes)
default_is max piece [] = refl
default_is max piece (change ∷ []) = last_default max (piece ++ change ∷ []) (leb max (length (piece ++ change ∷ [])))
default_is max piece (change ∷ (next ∷ later)) =
    let begun = onto_begins next (runs_of later) in
    default_at max piece change next later begun.run begun.later (change.tx == next.tx) begun.is (λ p. default_is max p (next ∷ later))
    ∙ ap (λ (runs : List (List Change)). pieces_from max piece (onto_run change runs)) (sym begun.is)

-- EACH TRANSACTION
-- an open piece before runs
abbrev before : List Change → List (List Change) → List (List Change)
before piece [] = last_piece piece
before piece (run ∷ runs) = (piece ++ run) ∷ runs

before_none : (runs : List (List Change)) → before [] runs ≡ runs
before_none [] = refl
before_none (run ∷ runs) = refl

each_at : (max : ℕ) (piece : List Change) (change next : Change) (later : List Change) (run : List Change) (runs : List (List Change)) (b : Bool)
    → runs_of (next ∷ later) ≡ (next ∷ run) ∷ runs
    → ((p : List Change) → pieces_to_come Transactional max p (next ∷ later) ≡ before p (runs_of (next ∷ later)))
    → (if not b
    then (piece ++ change ∷ []) ∷ pieces_to_come Transactional max [] (next ∷ later)
    else pieces_to_come Transactional max (piece ++ change ∷ []) (next ∷ later))
    ≡ before piece (if b then (change ∷ (next ∷ run)) ∷ runs else (change ∷ []) ∷ ((next ∷ run) ∷ runs))
each_at max piece change next later run runs true are goes_on =
    rw (goes_on (piece ++ change ∷ []), are, append_assoc piece (change ∷ []) (next ∷ run)) refl
each_at max piece change next later run runs false are goes_on = rw (goes_on [], are) refl

each_is : (max : ℕ) (piece changes : List Change) → pieces_to_come Transactional max piece changes ≡ before piece (runs_of changes)
each_is max piece [] = refl
each_is max piece (change ∷ []) = refl
each_is max piece (change ∷ (next ∷ later)) =
    let begun = onto_begins next (runs_of later) in
    each_at max piece change next later begun.run begun.later (change.tx == next.tx) begun.is (λ p. each_is max p (next ∷ later))
    ∙ ap (λ (runs : List (List Change)). before piece (onto_run change runs)) (sym begun.is)

-- FULL BATCHES
full_is : (max : ℕ) (piece changes : List Change) → pieces_to_come Nontransactional max piece changes ≡ pieces_from max piece (singles_of changes)
full_is max piece [] = refl
full_is max piece (change ∷ later) = rw (full_is max [] later, full_is max (piece ++ change ∷ []) later) refl

pub pieces_are : (algorithm : Algorithm) (max : ℕ) (changes : List Change) → pieces_to_come algorithm max [] changes ≡ cut algorithm max changes
pieces_are Default max changes = default_is max [] changes
pieces_are Transactional max changes = each_is max [] changes ∙ before_none (runs_of changes)
pieces_are Nontransactional max changes = full_is max [] changes

-- PLACES. The same pieces by their places
next_same : (changes : List Change) → next_tx changes ≡ slice_get (map (λ (change : Change). change.tx) changes) 0
next_same [] = refl
next_same (change ∷ changes) = refl

longer : (piece : List Change) (change : Change) → length (piece ++ change ∷ []) ≡ length piece + 1
longer piece change = length-append piece (change ∷ [])

some_test : (n : ℕ) → (suc n == 0) ≡ false
some_test n = grind (arith, nat_tests)

last_places : (first : ℕ) (piece : List Change) → cuts_from first (last_piece piece) ≡ last_cut first (length piece)
last_places first [] = refl
last_places first (change ∷ piece) = rw (some_test (length piece)) refl

places_at : (algorithm : Algorithm) (max first count : ℕ) (piece later : List Change) (txs : List ℕ) (b : Bool)
    → length piece ≡ count
    → ((at : ℕ) (p : List Change) → cuts_from at (pieces_to_come algorithm max p later) ≡ cuts_to_come algorithm max at (length p) txs)
    → cuts_from first (if b then piece ∷ pieces_to_come algorithm max [] later else pieces_to_come algorithm max piece later)
    ≡ (if b then record { first = first; count = count } ∷ cuts_to_come algorithm max (first + count) 0 txs else cuts_to_come algorithm max first count txs)
places_at algorithm max first count piece later txs true long goes_on = rw (long, goes_on (first + count) []) refl
places_at algorithm max first count piece later txs false long goes_on = goes_on first piece ∙ rw long refl

places_are : (algorithm : Algorithm) (max first : ℕ) (piece changes : List Change)
    → cuts_from first (pieces_to_come algorithm max piece changes)
    ≡ cuts_to_come algorithm max first (length piece) (map (λ (change : Change). change.tx) changes)
places_are algorithm max first piece [] = last_places first piece
places_are algorithm max first piece (change ∷ later) =
    rw (← longer piece change, ← next_same later)
    (places_at algorithm max first (length (piece ++ change ∷ [])) (piece ++ change ∷ []) later (map (λ (change : Change). change.tx) later)
    (ends_piece algorithm max (length (piece ++ change ∷ [])) change.tx (next_tx later)) refl
    (λ at p. places_are algorithm max at p later))

pub cuts_are : (algorithm : Algorithm) (max : ℕ) (changes : List Change) (txs : List ℕ) → map (λ (change : Change). change.tx) changes ≡ txs
    → cuts_to_come algorithm max 0 0 txs ≡ cuts_of algorithm max changes
cuts_are algorithm max changes txs are =
    rw (← are) (sym (places_are algorithm max 0 [] changes)) ∙ ap (cuts_from 0) (pieces_are algorithm max changes)

-- ENDS. Where no change is left, and no piece is open or one is
pub none_open : (algorithm : Algorithm) (max first count place : ℕ) (cuts whole : List Cut) (txs : List ℕ)
    → length txs ≤ place → count ≡ 0 → cuts ++ cuts_to_come algorithm max first count (drop place txs) ≡ whole → cuts ≡ whole
none_open algorithm max first count place cuts whole txs end none so_far =
    let e : cuts ++ last_cut first count ≡ whole = rw (drop_all place txs end) at so_far in
    sym (append-nil cuts) ∙ (rw none at e)

pub one_open : (algorithm : Algorithm) (max first count place : ℕ) (cuts whole : List Cut) (txs : List ℕ)
    → length txs ≤ place → count ≢ 0 → cuts ++ cuts_to_come algorithm max first count (drop place txs) ≡ whole
    → cuts ++ record { first = first; count = count } ∷ [] ≡ whole
one_open algorithm max first count place cuts whole txs end some so_far =
    let e : cuts ++ last_cut first count ≡ whole = rw (drop_all place txs end) at so_far in
    let test : (count == 0) ≡ false = neq_test count some in
    rw test at e
  where
    neq_test : (n : ℕ) → n ≢ 0 → (n == 0) ≡ false
    neq_test n some = grind (arith, nat_tests)
