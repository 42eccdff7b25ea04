-- Changes have one cut only.
use Rattle.std.proofs.Common.{◌≡◌, ◌≢◌, ℕ, ◌<◌, ◌≤◌, List, [], ◌∷◌, ◌++◌, length, take, drop, get_or, refl, sym, ap, subst, ◌∙◌, arith, inl, inr}
use Rattle.std.proofs.lemmas.Bool.{cases_order}
use Rattle.std.proofs.lemmas.List.{append_assoc, take_at, drop_at}
use Rattle.sds_types.specs.declared.channel.Algorithm.{Algorithm}
use Rattle.sds_types.specs.declared.channel.Algorithm.TheVariants.{Default, Transactional, Nontransactional}
use Rattle.sds_types.specs.declared.row.Change.{Change}
use Rattle.sds_trade.specs.rules.Cuts.{changes_in, EndsBefore, IsCut, IsLastPiece, IsPieceBefore}
use Rattle.sds_trade.specs.laws.Cuts.{ChangesHaveOneCut}

-- what a piece and the rest leave of a longer piece and its rest
record Longer (piece longer rest others : List Change) : Type 0 where
  next : Change
  later : List Change
  whole : longer ≡ piece ++ next ∷ later
  after : rest ≡ next ∷ (later ++ others)

one_before : (y x : Change) (piece longer rest others : List Change) → y ≡ x → Longer piece longer rest others → Longer (y ∷ piece) (x ∷ longer) rest others
one_before y x piece longer rest others same r = record {
  next = r.next;
  later = r.later;
  whole = ap (λ l. x ∷ l) r.whole ∙ ap (λ first. first ∷ (piece ++ r.next ∷ r.later)) (sym same);
  after = r.after;
}

longer_by : (piece longer rest others : List Change) → piece ++ rest ≡ longer ++ others → length piece < length longer → Longer piece longer rest others
longer_by piece [] rest others is shorter = absurd (omega (arith, shorter))
longer_by [] (x ∷ longer) rest others is shorter = record { next = x; later = longer; whole = refl; after = is }
longer_by (y ∷ piece) (x ∷ longer) rest others is shorter =
    one_before y x piece longer rest others (ap (λ l. get_or l 0 x) is) (longer_by piece longer rest others (ap (drop 1) is) (omega (arith, shorter)))

-- PIECES of a cut, by the algorithm
not_empty : (algorithm : Algorithm) (max : ℕ) (piece : List Change) (pieces : List (List Change)) → IsCut algorithm max (piece ∷ pieces) → piece ≢ []
not_empty algorithm max piece [] is = is.0
not_empty algorithm max piece (next ∷ pieces) is = is.0

rest_cut : (algorithm : Algorithm) (max : ℕ) (piece : List Change) (pieces : List (List Change)) → IsCut algorithm max (piece ∷ pieces) → IsCut algorithm max pieces
rest_cut algorithm max piece [] is = tt
rest_cut algorithm max piece (next ∷ pieces) is = is.2

as_last : (algorithm : Algorithm) (max : ℕ) (piece rest : List Change) → IsPieceBefore algorithm max piece rest → IsLastPiece algorithm max piece
as_last Default max piece rest is = is.1
as_last Transactional max piece rest is = is.1
as_last Nontransactional max piece rest is = omega (arith, is)

could_be_last : (algorithm : Algorithm) (max : ℕ) (piece : List Change) (pieces : List (List Change)) → IsCut algorithm max (piece ∷ pieces) → IsLastPiece algorithm max piece
could_be_last algorithm max piece [] is = is.1
could_be_last algorithm max piece (next ∷ pieces) is = as_last algorithm max piece (changes_in (next ∷ pieces)) is.1

-- the last of some changes, and those before it
record Ended (piece : List Change) : Type 0 where
  prefix : List Change
  last : Change
  whole : piece ≡ prefix ++ last ∷ []

end_on : (change : Change) (piece : List Change) → (piece ≢ [] → Ended piece) → Ended (change ∷ piece)
end_on change [] rest = record { prefix = []; last = change; whole = refl }
end_on change (next ∷ piece) rest =
    let later = rest (λ is. let e : length (next ∷ piece) ≡ 0 = ap length is in omega (arith, e)) in
    record { prefix = change ∷ later.prefix; last = later.last; whole = ap (λ l. change ∷ l) later.whole }

end_of : (piece : List Change) → piece ≢ [] → Ended piece
end_of [] some = absurd (some refl)
end_of (change ∷ piece) some = end_on change piece (end_of piece)

too_long : (algorithm : Algorithm) (max : ℕ) (piece longer rest others : List Change) → piece ≢ [] → IsPieceBefore algorithm max piece rest
    → IsLastPiece algorithm max longer → Longer piece longer rest others → length piece < length longer → ⊥
too_long Default max piece longer rest others some is last r shorter =
    let e : length piece < max = last piece r.next r.later r.whole (subst (EndsBefore piece) r.after is.0) in
    let full : max ≤ length piece = is.2 in omega (arith, e, full)
too_long Transactional max piece longer rest others some is last r shorter =
    let ended = end_of piece some in
    subst (EndsBefore piece) r.after is.0 ended.prefix ended.last ended.whole
    (last ended.prefix ended.last r.next r.later
    (r.whole ∙ (ap (λ l. l ++ r.next ∷ r.later) ended.whole ∙ append_assoc ended.prefix (ended.last ∷ []) (r.next ∷ r.later))))
too_long Nontransactional max piece longer rest others some is last r shorter = omega (arith, is, last, shorter)

none_longer : (algorithm : Algorithm) (max : ℕ) (piece longer : List Change) (pieces others : List (List Change)) → IsCut algorithm max (piece ∷ pieces)
    → IsCut algorithm max (longer ∷ others) → Longer piece longer (changes_in pieces) (changes_in others) → length piece < length longer → ⊥
none_longer algorithm max piece longer [] others is cut r shorter =
    let e : 0 ≡ length (r.next ∷ (r.later ++ changes_in others)) = ap length r.after in omega (arith, e)
none_longer algorithm max piece longer (next ∷ pieces) others is cut r shorter =
    too_long algorithm max piece longer (changes_in (next ∷ pieces)) (changes_in others) is.0 is.1 (could_be_last algorithm max longer others cut) r shorter

no_front : (piece rest : List Change) → [] ≡ piece ++ rest → piece ≡ []
no_front [] rest is = refl
no_front (x ∷ piece) rest is = let e : 0 ≡ length (x ∷ (piece ++ rest)) = ap length is in absurd (omega (arith, e))

pub changes_have_one_cut : ChangesHaveOneCut
changes_have_one_cut algorithm max [] [] is cut same = refl
changes_have_one_cut algorithm max [] (piece ∷ pieces) is cut same = absurd (not_empty algorithm max piece pieces cut (no_front piece (changes_in pieces) same))
changes_have_one_cut algorithm max (piece ∷ pieces) [] is cut same = absurd (not_empty algorithm max piece pieces is (no_front piece (changes_in pieces) (sym same)))
changes_have_one_cut algorithm max (piece ∷ pieces) (other ∷ others) is cut same = elim (cases_order (length piece) (length other)) [
  | inl equal ↦ (let first : piece ≡ other = sym (take_at piece (changes_in pieces) (length piece) refl) ∙ (ap (take (length piece)) same ∙ take_at other (changes_in others) (length piece) (sym equal)) in
      let after : changes_in pieces ≡ changes_in others = sym (drop_at piece (changes_in pieces) (length piece) refl) ∙ (ap (drop (length piece)) same ∙ drop_at other (changes_in others) (length piece) (sym equal)) in
      rw (first, changes_have_one_cut algorithm max pieces others (rest_cut algorithm max piece pieces is) (rest_cut algorithm max other others cut) after) refl)
  | inr differ ↦ elim differ [
    | inl shorter ↦ absurd (none_longer algorithm max piece other pieces others is cut (longer_by piece other (changes_in pieces) (changes_in others) same shorter) shorter)
    | inr longer ↦ absurd (none_longer algorithm max other piece others pieces cut is (longer_by other piece (changes_in others) (changes_in pieces) (sym same) longer) longer)
  ]
]
