-- Where a text is cut does not matter to its lines.
use Rattle.std.proofs.Common.{◌≡◌, ℕ, List, [], ◌∷◌, ◌++◌, refl, sym, ap, ◌∙◌, Option, Some, None, append_assoc}
use Rattle.std.proofs.lemmas.List.{append-nil}
use Rattle.sds_line.specs.declared.line.Line.{Line}
use Rattle.sds_line.specs.declared.refusal.LineRefusal.{LineRefusal}
use Rattle.sds_line.specs.Splitting.{LastLine, Split, and_then, stopped_or, one_byte, split}

seam_at : (front lines : List Line) (stop : Option LineRefusal) (last : LastLine) (g : LastLine → Split) →
    and_then (stopped_or None (record { lines = front; stop = None; last = last }) (record { lines = lines; stop = stop; last = last })) g
    ≡ stopped_or None (record { lines = front; stop = None; last = last }) (and_then (record { lines = lines; stop = stop; last = last }) g)
seam_at front lines (Some refusal) last g = refl
seam_at front lines None last g = ap (λ (ls : List Line). record { lines = ls; stop = (g last).stop; last = (g last).last }) (append_assoc front lines (g last).lines)

-- three parts of a text in a row
pub and_then_assoc : (s : Split) (f g : LastLine → Split) → and_then (and_then s f) g ≡ and_then s (λ u. and_then (f u) g)
and_then_assoc s f g = at s.lines s.stop s.last
  where
    at : (lines : List Line) (stop : Option LineRefusal) (last : LastLine) →
        and_then (and_then (record { lines = lines; stop = stop; last = last }) f) g ≡ and_then (record { lines = lines; stop = stop; last = last }) (λ u. and_then (f u) g)
    at lines (Some refusal) last = refl
    at lines None last = seam_at lines (f last).lines (f last).stop (f last).last g

pub one_more : (s : Split) (b : ℕ) (rest : List ℕ) → and_then (and_then s (λ u. one_byte u b)) (λ u. split u rest) ≡ and_then s (λ u. split u (b ∷ rest))
one_more s b rest = and_then_assoc s (λ u. one_byte u b) (λ u. split u rest)

pub none_more : (s : Split) → and_then s (λ u. split u []) ≡ s
none_more s = at s.lines s.stop s.last
  where
    at : (lines : List Line) (stop : Option LineRefusal) (last : LastLine) → and_then (record { lines = lines; stop = stop; last = last }) (λ u. split u []) ≡ record { lines = lines; stop = stop; last = last }
    at lines (Some refusal) last = refl
    at lines None last = ap (λ (ls : List Line). record { lines = ls; stop = None; last = last }) (append-nil lines)

-- the lines of two pieces in a row
pub split_append : (u : LastLine) (a b : List ℕ) → split u (a ++ b) ≡ and_then (split u a) (λ v. split v b)
split_append u [] b = refl
split_append u (x ∷ a) b = (λ i. and_then (one_byte u x) (λ v. split_append v a b i)) ∙ sym (and_then_assoc (one_byte u x) (λ v. split v a) (λ v. split v b))
