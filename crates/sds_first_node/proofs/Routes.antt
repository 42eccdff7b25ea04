-- A routing run: the cut in one pass, and the batches of its pieces.
use Rattle.std.proofs.Common.{◌≡◌, ℕ, Bool, true, false, ◌&&◌, ◌==◌, List, [], ◌∷◌, ◌++◌, length, map, refl, sym, ap, ◌∙◌, append_assoc, arith, eqb-true}
use Rattle.std.specs.Prelude.{if◌then◌else◌, nat_le}
use Rattle.std.proofs.lemmas.Bool.{eq-eqb}
use Rattle.std.proofs.lemmas.Bool.Decides.{nat_tests}
use Rattle.std.proofs.lemmas.List.{map-append, length-map}
use Rattle.sds_types.specs.declared.row.Change.{Change}
use Rattle.sds_first_spec.specs.Cuts.{onto_run, runs_of, last_piece, gathered, cut}
use Rattle.sds_first_node.specs.Routed.{last_ids, ends_before, cut_on, ids_of}

-- a run of a transaction before these runs
abbrev onto : List Change → ℕ → List (List Change) → List (List Change)
onto r tx [] = r ∷ []
onto r tx ([] ∷ runs) = r ∷ runs
onto r tx ((next ∷ run) ∷ runs) = if tx == next.tx then (r ++ (next ∷ run)) ∷ runs else r ∷ ((next ∷ run) ∷ runs)

abbrev cut_at : ℕ → List Change → ℕ → List Change → List (List Change)
cut_at max piece last [] = last_piece piece
cut_at max piece last (c ∷ cs) =
    if ends_before max (length piece) c.tx last then piece ∷ cut_at max (c ∷ []) c.tx cs else cut_at max (piece ++ c ∷ []) c.tx cs

onto_one : (c : Change) (runs : List (List Change)) → onto_run c runs ≡ onto (c ∷ []) c.tx runs
onto_one c [] = refl
onto_one c ([] ∷ runs) = refl
onto_one c ((next ∷ run) ∷ runs) = refl

same_tx : (n : ℕ) → (n == n) ≡ true
same_tx n = eq-eqb n n refl

longer_run : (r : List Change) (c next : Change) (run : List Change) (runs : List (List Change)) (b : Bool) → (c.tx == next.tx) ≡ b
    → onto r c.tx (onto_run c ((next ∷ run) ∷ runs)) ≡ onto (r ++ c ∷ []) c.tx ((next ∷ run) ∷ runs)
longer_run r c next run runs true is = rw is (rw (same_tx c.tx) (ap (λ (x : List Change). x ∷ runs) (sym (append_assoc r (c ∷ []) (next ∷ run)))))
longer_run r c next run runs false is = rw is (rw (same_tx c.tx) refl)

-- a change of a run's transaction goes behind it
onto_same : (r : List Change) (c : Change) (runs : List (List Change)) → onto r c.tx (onto_run c runs) ≡ onto (r ++ c ∷ []) c.tx runs
onto_same r c [] = rw (same_tx c.tx) refl
onto_same r c ([] ∷ runs) = rw (same_tx c.tx) refl
onto_same r c ((next ∷ run) ∷ runs) = longer_run r c next run runs _ refl

other_run : (r : List Change) (tx : ℕ) (c next : Change) (run : List Change) (runs : List (List Change)) (b : Bool) → (tx == c.tx) ≡ false → (c.tx == next.tx) ≡ b
    → onto r tx (onto_run c ((next ∷ run) ∷ runs)) ≡ r ∷ onto_run c ((next ∷ run) ∷ runs)
other_run r tx c next run runs true not_same is = rw is (rw not_same refl)
other_run r tx c next run runs false not_same is = rw is (rw not_same refl)

-- a change of another transaction begins a run
onto_other : (r : List Change) (tx : ℕ) (c : Change) (runs : List (List Change)) → (tx == c.tx) ≡ false → onto r tx (onto_run c runs) ≡ r ∷ onto_run c runs
onto_other r tx c [] is = rw is refl
onto_other r tx c ([] ∷ runs) is = rw is refl
onto_other r tx c ((next ∷ run) ∷ runs) is = other_run r tx c next run runs _ is refl

whole : (p : List Change) (x : Change) (r : List Change) → last_piece (p ++ x ∷ r) ≡ (p ++ x ∷ r) ∷ []
whole [] x r = refl
whole (y ∷ p) x r = refl

at_end : (b : Bool) (p : List Change) (x : Change) (r : List Change) → (if b then (p ++ x ∷ r) ∷ [] else last_piece (p ++ x ∷ r)) ≡ last_piece (p ++ x ∷ r)
at_end true p x r = sym (whole p x r)
at_end false p x r = refl

swapped : (a b : ℕ) (t : Bool) → (a == b) ≡ t → (b == a) ≡ t
swapped a b t is = grind (arith, nat_tests)

no_end : (b : Bool) → (b && false) ≡ false
no_end true = refl
no_end false = refl

an_end : (b : Bool) → (b && true) ≡ b
an_end true = refl
an_end false = refl

abbrev IsCutSo : ℕ → List Change → Type 0
IsCutSo max cs = (p : List Change) (x : Change) (r : List Change) (tx : ℕ) → gathered max p (onto (x ∷ r) tx (runs_of cs)) ≡ cut_at max (p ++ x ∷ r) tx cs

two_ends : (b : Bool) (q : List Change) (xs ys us vs : List (List Change)) → xs ≡ us → ys ≡ vs → (if b then q ∷ xs else ys) ≡ (if b then q ∷ us else vs)
two_ends true q xs ys us vs e f = ap (λ (l : List (List Change)). q ∷ l) e
two_ends false q xs ys us vs e f = f

begun : (max : ℕ) (p : List Change) (c : Change) (cs : List Change) → IsCutSo max cs → gathered max p (onto_run c (runs_of cs)) ≡ cut_at max (p ++ c ∷ []) c.tx cs
begun max p c cs others = ap (λ (runs : List (List Change)). gathered max p runs) (onto_one c (runs_of cs)) ∙ others p c [] c.tx

one_more : (max : ℕ) (c : Change) (cs : List Change) (p : List Change) (x : Change) (r : List Change) (tx : ℕ) (b : Bool) → (c.tx == tx) ≡ b → IsCutSo max cs
    → gathered max p (onto (x ∷ r) tx (onto_run c (runs_of cs))) ≡ cut_at max (p ++ x ∷ r) tx (c ∷ cs)
one_more max c cs p x r tx true is others =
    let same : c.tx ≡ tx = eqb-true c.tx tx is in
    let joined : gathered max p (onto (x ∷ r) c.tx (onto_run c (runs_of cs))) ≡ cut_at max ((p ++ x ∷ r) ++ c ∷ []) c.tx cs =
    ap (λ (runs : List (List Change)). gathered max p runs) (onto_same (x ∷ r) c (runs_of cs))
    ∙ (others p x (r ++ c ∷ []) c.tx ∙ ap (λ (l : List Change). cut_at max l c.tx cs) (sym (append_assoc p (x ∷ r) (c ∷ [])))) in
    rw is (rw (no_end (nat_le max (length (p ++ x ∷ r)))) (rw (← same) joined))
one_more max c cs p x r tx false is others =
    ap (λ (runs : List (List Change)). gathered max p runs) (onto_other (x ∷ r) tx c (runs_of cs) (swapped c.tx tx false is))
    ∙ rw is (rw (an_end (nat_le max (length (p ++ x ∷ r))))
    (two_ends (nat_le max (length (p ++ x ∷ r))) (p ++ x ∷ r) _ _ _ _ (begun max [] c cs others) (begun max (p ++ x ∷ r) c cs others)))

gathered_at : (max : ℕ) (cs : List Change) → IsCutSo max cs
gathered_at max [] = λ p x r tx. at_end (nat_le max (length (p ++ x ∷ r))) p x r ∙ refl
gathered_at max (c ∷ cs) = λ p x r tx. one_more max c cs p x r tx _ refl (gathered_at max cs)

-- the cut, in one pass over the changes
cut_in_one : (cs : List Change) → cut 10000 cs ≡ cut_at 10000 [] 0 cs
cut_in_one [] = refl
cut_in_one (c ∷ cs) = begun 10000 [] c cs (gathered_at 10000 cs)

ids_last : (piece : List Change) → map ids_of (last_piece piece) ≡ last_ids (ids_of piece)
ids_last [] = refl
ids_last (c ∷ piece) = refl

ids_by : (b : Bool) (piece : List Change) (xs ys : List (List Change)) (us vs : List (List ℕ)) → map ids_of xs ≡ us → map ids_of ys ≡ vs
    → map ids_of (if b then piece ∷ xs else ys) ≡ (if b then ids_of piece ∷ us else vs)
ids_by true piece xs ys us vs e f = ap (λ (l : List (List ℕ)). ids_of piece ∷ l) e
ids_by false piece xs ys us vs e f = f

ids_at : (max : ℕ) (piece : List Change) (last : ℕ) (cs : List Change) → map ids_of (cut_at max piece last cs) ≡ cut_on max (ids_of piece) last cs
ids_at max piece last [] = ids_last piece
ids_at max piece last (c ∷ cs) =
    let longer : ids_of (piece ++ c ∷ []) ≡ ids_of piece ++ c.id ∷ [] = map-append (λ (x : Change). x.id) piece (c ∷ []) in
    let len : length (ids_of piece) ≡ length piece = length-map piece (λ (x : Change). x.id) in
    rw len (ids_by (ends_before max (length piece) c.tx last) piece _ _ _ _ (ids_at max (c ∷ []) c.tx cs)
    (ids_at max (piece ++ c ∷ []) c.tx cs ∙ ap (λ (l : List ℕ). cut_on max l c.tx cs) longer))

-- the numbers of the changes in the pieces of the cut
pub cut-ids : (cs : List Change) → map ids_of (cut 10000 cs) ≡ cut_on 10000 [] 0 cs
cut-ids cs = ap (λ (pieces : List (List Change)). map ids_of pieces) (cut_in_one cs) ∙ ids_at 10000 [] 0 cs
