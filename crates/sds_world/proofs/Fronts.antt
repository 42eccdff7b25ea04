-- What is split of a front of a text.
use Rattle.std.proofs.Common.{◌≡◌, ℕ, Bool, true, false, List, [], ◌∷◌, ◌++◌, length, Option, None, Some, refl, sym, ap, subst, ◌∙◌, arith, append-nil, append_assoc}
use Rattle.std.specs.Prelude.{is_some}
use Rattle.sds_line.specs.declared.line.Line.{Line}
use Rattle.sds_line.specs.declared.refusal.LineRefusal.{LineRefusal}
use Rattle.sds_line.specs.Splitting.{LastLine, Split, stopped_or, and_then, text_end, lines_in}
use Rattle.sds_line.proofs.Onward.{rest_in, in_two}
use Rattle.sds_world.specs.Reading.{IsFront}

pub same_front : (whole : Split) → IsFront whole whole
same_front whole = record { rest = []; lines = sym (append-nil whole.lines); refused = λ is. refl }

-- behind what was split more is split, but for a refusal
then_front : (s t : Split) (stop : Option LineRefusal) → s.stop ≡ stop → IsFront s (stopped_or stop s t)
then_front s t None is = record { rest = t.lines; lines = refl; refused = λ some. absurd (none some) } where
  none : is_some s.stop ≡ true → ⊥
  none some = cc
then_front s t (Some refusal) is = record { rest = []; lines = sym (append-nil s.lines); refused = λ some. refl }

split_front : (s : Split) (f : LastLine → Split) → IsFront s (and_then s f)
split_front s f = then_front s (f s.last) s.stop refl

some_stop : (a b : Split) → b ≡ a → is_some a.stop ≡ true → is_some b.stop ≡ true
some_stop a b same some = ap (λ (s : Split). is_some s.stop) same ∙ some

of_front : (a b c : Split) → IsFront a b → IsFront b c → IsFront a c
of_front a b c first second = record {
  rest = first.rest ++ second.rest;
  lines = second.lines ∙ (ap (λ (l : List Line). l ++ second.rest) first.lines ∙ append_assoc a.lines first.rest second.rest);
  refused = λ some. second.refused (some_stop a b (first.refused some) some) ∙ first.refused some;
}

-- the front of a text that ends here or goes on, and a text and its end
pub more_front : (whole : Split) (front more : List ℕ) → IsFront (lines_in false (front ++ more)) whole → IsFront (lines_in false front) whole
more_front whole front more later =
    of_front (lines_in false front) (lines_in false (front ++ more)) whole
    (subst (λ (s : Split). IsFront (lines_in false front) s) (sym (in_two false front more)) (split_front (lines_in false front) (λ u. rest_in false more u))) later

pub end_front : (finished : Bool) (text : List ℕ) → IsFront (lines_in false text) (lines_in finished text)
end_front true text = split_front (lines_in false text) text_end
end_front false text = same_front (lines_in false text)

pub no_bytes : (bytes : List ℕ) → length bytes ≡ 0 → bytes ≡ []
no_bytes [] none = refl
no_bytes (b ∷ bytes) none = absurd (omega (arith, none))
