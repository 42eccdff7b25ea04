-- What is split of a front of a text, and how many lines a text has.
use Rattle.std.proofs.Common.{◌≡◌, ℕ, ◌+◌, ◌<◌, ◌≤◌, ◌^◌, Bool, true, false, ◌==◌, List, [], ◌∷◌, ◌++◌, length, Option, None, Some, Result, Ok, Err, refl, sym, ap, subst, ◌∙◌, arith, append-nil, append_assoc, length-append}
use Rattle.std.specs.Prelude.{if◌then◌else◌, is_some, nat_le}
use Rattle.sds_value.specs.declared.row.Field.{Field}
use Rattle.sds_line.specs.declared.line.Line.{Line as TextLine}
use Rattle.sds_line.specs.declared.refusal.LineRefusal.{LineRefusal}
use Rattle.sds_line.specs.declared.refusal.LineRefusal.TheVariants.{LineTooLong}
use Rattle.sds_line.specs.Reading.{HalfLine, ended_line, with_byte}
use Rattle.sds_line.specs.Splitting.{LastLine, Split, line_at, numbered, ended, refused, lengthened, is_end, one_byte, stopped_or, and_then, split, text_end, lines_in}
use Rattle.sds_line.proofs.Onward.{rest_in, in_two}
use Rattle.sds_first_world.specs.Games.{IsFront}

-- HOW MANY LINES a text has: at most one a byte, and a last one
one_of : (number : ℕ) (fields : List Field) → length (numbered number fields) ≤ 1
one_of number [] = omega arith
one_of number (field ∷ fields) = omega arith

ended_few : (u : LastLine) (read : Result (List Field) LineRefusal) → length (ended u read).lines ≤ 1
ended_few u (Ok fields) = one_of u.number fields
ended_few u (Err refusal) = omega arith

lengthened_few : (u : LastLine) (b : ℕ) (read : Result HalfLine LineRefusal) → length (lengthened u b read).lines ≤ 1
lengthened_few u b (Ok h) = omega arith
lengthened_few u b (Err refusal) = omega arith

either_few : (t : Bool) (x y : Split) → length x.lines ≤ 1 → length y.lines ≤ 1 → length (if t then x else y).lines ≤ 1
either_few true x y first second = first
either_few false x y first second = second

byte_few : (u : LastLine) (b : ℕ) → length (one_byte u b).lines ≤ 1
byte_few u b =
    either_few (is_end u.half b) (ended u (ended_line u.half)) _ (ended_few u (ended_line u.half))
    (either_few (nat_le 1048576 u.length) (refused u LineTooLong) (lengthened u b (with_byte u.half b)) (omega arith) (lengthened_few u b (with_byte u.half b)))

stopped_few : (stop : Option LineRefusal) (s t : Split) (n : ℕ) → length t.lines ≤ n → length (stopped_or stop s t).lines ≤ length s.lines + n
stopped_few None s t n few = let sum : length (s.lines ++ t.lines) ≡ length s.lines + length t.lines = length-append s.lines t.lines in omega (arith, sum, few)
stopped_few (Some refusal) s t n few = omega arith

split_few : (u : LastLine) (bytes : List ℕ) → length (split u bytes).lines ≤ length bytes
split_few u [] = omega arith
split_few u (b ∷ bytes) =
    let next : length (and_then (one_byte u b) (λ v. split v bytes)).lines ≤ length (one_byte u b).lines + length bytes =
    stopped_few (one_byte u b).stop (one_byte u b) (split (one_byte u b).last bytes) (length bytes) (split_few (one_byte u b).last bytes) in
    omega (arith, next, byte_few u b)

end_few : (u : LastLine) → length (text_end u).lines ≤ 1
end_few u = either_few (u.length == 0) (record { lines = []; stop = None; last = u }) (ended u (ended_line u.half)) (omega arith) (ended_few u (ended_line u.half))

pub few_lines : (finished : Bool) (text : List ℕ) → length (lines_in finished text).lines ≤ length text + 1
few_lines true text =
    let all : length (and_then (split (line_at 1) text) text_end).lines ≤ length (split (line_at 1) text).lines + 1 =
    stopped_few (split (line_at 1) text).stop (split (line_at 1) text) (text_end (split (line_at 1) text).last) 1 (end_few (split (line_at 1) text).last) in
    omega (arith, all, split_few (line_at 1) text)
few_lines false text = omega (arith, split_few (line_at 1) text)

pub few_enough : (finished : Bool) (text : List ℕ) → length text ≤ 2 ^ 30 → length (lines_in finished text).lines < 2 ^ 62
few_enough finished text short = omega (arith, few_lines finished text, short)

-- FRONTS
pub same_front : (whole : Split) → IsFront whole whole
same_front whole = record { rest = []; lines = sym (append-nil whole.lines); refused = λ is. refl }

-- behind what was split more is split, but for a refusal
then_front : (s t : Split) (stop : Option LineRefusal) → s.stop ≡ stop → IsFront s (stopped_or stop s t)
then_front s t None is = record { rest = t.lines; lines = refl; refused = λ some. absurd (none some) } where
  none : is_some s.stop ≡ true → ⊥
  none some = cc
then_front s t (Some refusal) is = record { rest = []; lines = sym (append-nil s.lines); refused = λ some. refl }

pub split_front : (s : Split) (f : LastLine → Split) → IsFront s (and_then s f)
split_front s f = then_front s (f s.last) s.stop refl

some_stop : (a b : Split) → b ≡ a → is_some a.stop ≡ true → is_some b.stop ≡ true
some_stop a b same some = ap (λ (s : Split). is_some s.stop) same ∙ some

pub of_front : (a b c : Split) → IsFront a b → IsFront b c → IsFront a c
of_front a b c first second = record {
  rest = first.rest ++ second.rest;
  lines = second.lines ∙ (ap (λ (l : List TextLine). l ++ second.rest) first.lines ∙ append_assoc a.lines first.rest second.rest);
  refused = λ some. second.refused (some_stop a b (first.refused some) some) ∙ first.refused some;
}

-- the front of a text that ends here or goes on, and a text and its end
pub more_front : (whole : Split) (front more : List ℕ) → IsFront (lines_in false (front ++ more)) whole → IsFront (lines_in false front) whole
more_front whole front more later =
    of_front (lines_in false front) (lines_in false (front ++ more)) whole
    (subst (λ (s : Split). IsFront (lines_in false front) s) (sym (in_two false front more)) (split_front (lines_in false front) (λ u. rest_in false more u))) later

pub end_front : (finished : Bool) (text : List ℕ) → IsFront (lines_in false text) (lines_in finished text)
end_front true text = split_front (lines_in false text) text_end
end_front false text = same_front (lines_in false text)

pub no_bytes : (bytes : List ℕ) → length bytes ≡ 0 → bytes ≡ []
no_bytes [] none = refl
no_bytes (b ∷ bytes) none = absurd (omega (arith, none))
