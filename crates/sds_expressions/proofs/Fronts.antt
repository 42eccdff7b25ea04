-- A text that begins with another.
use Rattle.std.proofs.Common.{◌≡◌, ◌<◌, ℕ, Bool, true, false, ◌==◌, List, [], ◌∷◌, length, drop, take, Option, Some, None, MatchOption, option_map, Bor, refl, sym, ap, ◌∙◌, suc, arith, add-one, length-drop, ◌+◌}
use Rattle.std.specs.List.{position_or_len, before_first, after_first}
use Rattle.std.specs.Str.{IsCharBoundary}
use Rattle.std.specs.Str.Pattern.{FindsTextPrefix, StripsPrefix}
use Rattle.std.proofs.lemmas.Str.Pattern.{starts_text}
use native.Mathlib.Numerals.{one-add}
use Rattle.sds_expressions.specs.Pieces.{behind, split, onto_first}

pub behind_is : (front text : List ℕ) (r : Option (Bor (List ℕ))) → MatchOption r (FindsTextPrefix front text None) (λ x. StripsPrefix (FindsTextPrefix front) text x.now) → option_map (λ (x : Bor (List ℕ)). x.now) r ≡ behind front text
behind_is front text None h = rw (sym (starts_text false front text h))
behind_is front text (Some x) h =
    let found = h.1 in
    let ends : h.0 ≡ length front = found.0 in
    let cut : IsCharBoundary text h.0 = rw ends found.2 in
    rw (sym (starts_text true front text (h.0, found, cut))) (rw h.2 (rw ends refl))

-- a text without the mark is one piece
no_mark_step : (t : Bool) (mark b : ℕ) (bs : List ℕ) → (position_or_len (λ c. c == mark) bs ≡ length bs → split mark bs ≡ bs ∷ []) → (b == mark) ≡ t → position_or_len (λ c. c == mark) (b ∷ bs) ≡ length (b ∷ bs) → split mark (b ∷ bs) ≡ (b ∷ bs) ∷ []
no_mark_step true mark b bs more test h = let e = rw test at h in absurd (omega arith)
no_mark_step false mark b bs more test h = let e = rw test at h in rw test (rw (more (omega arith)) refl)

no_mark : (mark : ℕ) (text : List ℕ) → position_or_len (λ c. c == mark) text ≡ length text → split mark text ≡ text ∷ []
no_mark mark [] h = refl
no_mark mark (b ∷ bs) h = no_mark_step (b == mark) mark b bs (no_mark mark bs) refl h

-- a text with the mark is what stands before it, and the pieces of what stands after it
pub cut_front : (n m b : ℕ) (bs : List ℕ) → n ≡ suc m → take n (b ∷ bs) ≡ b ∷ take m bs
cut_front n m b bs h = rw h refl

pub cut_back : (n m b : ℕ) (bs : List ℕ) → n ≡ suc m → drop (n + 1) (b ∷ bs) ≡ drop (m + 1) bs
cut_back n m b bs h = rw (add-one, add-one, h) refl

at_mark_step : (t : Bool) (mark b : ℕ) (bs : List ℕ)
    → (position_or_len (λ c. c == mark) bs < length bs → split mark bs ≡ before_first (λ c. c == mark) bs ∷ split mark (after_first (λ c. c == mark) bs))
    → (b == mark) ≡ t → position_or_len (λ c. c == mark) (b ∷ bs) < length (b ∷ bs)
    → split mark (b ∷ bs) ≡ before_first (λ c. c == mark) (b ∷ bs) ∷ split mark (after_first (λ c. c == mark) (b ∷ bs))
at_mark_step true mark b bs more test h = rw test refl
at_mark_step false mark b bs more test h =
    let p : ℕ → Bool = λ c. c == mark in
    let whole : position_or_len p (b ∷ bs) ≡ suc (position_or_len p bs) = rw test (one-add (position_or_len p bs)) in
    let front : before_first p (b ∷ bs) ≡ b ∷ before_first p bs = cut_front (position_or_len p (b ∷ bs)) (position_or_len p bs) b bs whole in
    let back : after_first p (b ∷ bs) ≡ after_first p bs = cut_back (position_or_len p (b ∷ bs)) (position_or_len p bs) b bs whole in
    let here : split mark (b ∷ bs) ≡ onto_first b (split mark bs) = rw test refl in
    let rest : split mark bs ≡ before_first p bs ∷ split mark (after_first p bs) = more (omega (arith, whole)) in
    here ∙ (ap (onto_first b) rest ∙ cc)

at_mark : (mark : ℕ) (text : List ℕ) → position_or_len (λ c. c == mark) text < length text → split mark text ≡ before_first (λ c. c == mark) text ∷ split mark (after_first (λ c. c == mark) text)
at_mark mark [] h = absurd (omega arith)
at_mark mark (b ∷ bs) h = at_mark_step (b == mark) mark b bs (at_mark mark bs) refl h

-- both, of what the first mark gives
pub pieces_are : (mark : ℕ) (text : List ℕ) (r : Option (Bor (List ℕ) × Bor (List ℕ)))
    → MatchOption r (position_or_len (λ b. b == mark) text ≡ length text) (λ x. (x.0.now ≡ before_first (λ b. b == mark) text) × (x.1.now ≡ after_first (λ b. b == mark) text) × (position_or_len (λ b. b == mark) text < length text))
    → MatchOption r (split mark text ≡ text ∷ []) (λ x. (split mark text ≡ x.0.now ∷ split mark x.1.now) × (length x.1.now < length text))
pieces_are mark text None h = no_mark mark text h
pieces_are mark text (Some x) h = (rw (h.0, h.1) (at_mark mark text h.2), rw h.1 (omega (arith, length-drop (position_or_len (λ b. b == mark) text + 1) text)))
