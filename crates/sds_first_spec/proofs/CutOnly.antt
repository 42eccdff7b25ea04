-- Changes have one cut only.
use Rattle.std.proofs.Common.{◌≡◌, ◌≢◌, ℕ, ◌<◌, ◌≤◌, List, [], ◌∷◌, ◌++◌, length, take, drop, get_or, refl, sym, ap, subst, ◌∙◌, arith, inl, inr}
use Rattle.std.proofs.lemmas.Bool.{cases_order}
use Rattle.std.proofs.lemmas.List.{take_at, drop_at}
use Rattle.sds_types.specs.declared.row.Change.{Change}
use Rattle.sds_first_spec.specs.Cuts.{joined, EndsBefore, IsFirstFull, IsCut, CutIsTheOnly}

-- what a piece and the rest leave of a longer piece and its rest
record Longer (piece longer rest others : List Change) : Type 0 where
  next : Change
  later : List Change
  whole : longer ≡ piece ++ next ∷ later
  after : rest ≡ next ∷ (later ++ others)

one_before : (y x : Change) (piece longer rest others : List Change) → y ≡ x → Longer piece longer rest others → Longer (y ∷ piece) (x ∷ longer) rest others
one_before y x piece longer rest others same r = record {
  next = r.next;
  later = r.later;
  whole = ap (λ l. x ∷ l) r.whole ∙ ap (λ first. first ∷ (piece ++ r.next ∷ r.later)) (sym same);
  after = r.after;
}

longer_by : (piece longer rest others : List Change) → piece ++ rest ≡ longer ++ others → length piece < length longer → Longer piece longer rest others
longer_by piece [] rest others is shorter = absurd (omega (arith, shorter))
longer_by [] (x ∷ longer) rest others is shorter = record { next = x; later = longer; whole = refl; after = is }
longer_by (y ∷ piece) (x ∷ longer) rest others is shorter =
    one_before y x piece longer rest others (ap (λ l. get_or l 0 x) is) (longer_by piece longer rest others (ap (drop 1) is) (omega (arith, shorter)))

first_full : (max : ℕ) (piece : List Change) (pieces : List (List Change)) → IsCut max (piece ∷ pieces) → IsFirstFull max piece
first_full max piece [] is = is.1
first_full max piece (next ∷ pieces) is = is.0.2

not_empty : (max : ℕ) (piece : List Change) (pieces : List (List Change)) → IsCut max (piece ∷ pieces) → piece ≢ []
not_empty max piece [] is = is.0
not_empty max piece (next ∷ pieces) is = is.0.0

rest_cut : (max : ℕ) (piece : List Change) (pieces : List (List Change)) → IsCut max (piece ∷ pieces) → IsCut max pieces
rest_cut max piece [] is = tt
rest_cut max piece (next ∷ pieces) is = is.1

none_longer : (max : ℕ) (piece longer : List Change) (pieces others : List (List Change)) → IsCut max (piece ∷ pieces) → IsCut max (longer ∷ others)
    → Longer piece longer (joined pieces) (joined others) → ⊥
none_longer max piece longer [] others is cut r =
    let e : 0 ≡ length (r.next ∷ (r.later ++ joined others)) = ap length r.after in omega (arith, e)
none_longer max piece longer (next ∷ pieces) others is cut r =
    let e : length piece < max = first_full max longer others cut piece r.next r.later r.whole (subst (EndsBefore piece) r.after is.0.1) in
    let full : max ≤ length piece = is.0.3 in omega (arith, e, full)

no_front : (piece rest : List Change) → [] ≡ piece ++ rest → piece ≡ []
no_front [] rest is = refl
no_front (x ∷ piece) rest is = let e : 0 ≡ length (x ∷ (piece ++ rest)) = ap length is in absurd (omega (arith, e))

pub one_cut : CutIsTheOnly
one_cut max [] [] is cut same = refl
one_cut max [] (piece ∷ pieces) is cut same = absurd (not_empty max piece pieces cut (no_front piece (joined pieces) same))
one_cut max (piece ∷ pieces) [] is cut same = absurd (not_empty max piece pieces is (no_front piece (joined pieces) (sym same)))
one_cut max (piece ∷ pieces) (other ∷ others) is cut same = elim (cases_order (length piece) (length other)) [
  | inl equal ↦ (let first : piece ≡ other = sym (take_at piece (joined pieces) (length piece) refl) ∙ (ap (take (length piece)) same ∙ take_at other (joined others) (length piece) (sym equal)) in
      let after : joined pieces ≡ joined others = sym (drop_at piece (joined pieces) (length piece) refl) ∙ (ap (drop (length piece)) same ∙ drop_at other (joined others) (length piece) (sym equal)) in
      rw (first, one_cut max pieces others (rest_cut max piece pieces is) (rest_cut max other others cut) after) refl)
  | inr differ ↦ elim differ [
    | inl shorter ↦ absurd (none_longer max piece other pieces others is cut (longer_by piece other (joined pieces) (joined others) same shorter))
    | inr longer ↦ absurd (none_longer max other piece others pieces cut is (longer_by other piece (joined others) (joined pieces) (sym same) longer))
  ]
]
