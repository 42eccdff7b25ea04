-- A text's lines are what its lines read as alone.
use Rattle.std.proofs.Common.{◌≡◌, ℕ, ◌+◌, ◌<◌, ◌≤◌, List, [], ◌∷◌, ◌++◌, length, refl, sym, ap, ◌∙◌, Bool, true, false, nat_eq, nat_lt, None, Result, Ok, Err, arith, add_assoc, add-zero, zero-add, subst, if◌then◌else◌}
use Rattle.sds_value.specs.declared.row.Field.{Field}
use Rattle.sds_line.specs.declared.partial.Partial.{Partial}
use Rattle.sds_line.specs.declared.place.Place.{Place}
use Rattle.sds_line.specs.declared.place.Place.TheVariants.{Start, Before, Plain, Quoted, Escaped, Behind, Comment}
use Rattle.sds_line.specs.declared.refusal.LineRefusal.{LineRefusal}
use Rattle.sds_line.specs.declared.refusal.LineRefusal.TheVariants.{LineTooLong}
use Rattle.sds_line.specs.Reading.{HalfLine, empty_line, with_byte, then_read, rest_of_line, ended_line, is_inside, line_of, with_bytes, then_go}
use Rattle.sds_line.specs.Splitting.{LastLine, Split, and_then, split, one_byte, ended, is_end, numbered, refused, behind, line_at, line_begun, line_feeds, line_behind, text_end, lines_from}
use Rattle.sds_line.proofs.Seams.{split_append}
use Rattle.sds_line.proofs.Taken.{behind_then}
use Rattle.sds_line.proofs.Comparisons.{le_no, le_yes, eq_zero_no, eq_from}

-- a line feed that is taken stands inside quotes
feed_inside : (place : Place) (partial : Partial) (text : List ℕ) (fields : List Field) (h : HalfLine) → nat_lt 0 partial.wanted ≡ false →
    with_byte (record { place = place; partial = partial; text = text; fields = fields }) 10 ≡ Ok h → is_inside place ≡ true
feed_inside Start partial text fields h e is = let f = rw e at is in absurd (cc)
feed_inside Before partial text fields h e is = let f = rw e at is in absurd (cc)
feed_inside Plain partial text fields h e is = let f = rw e at is in absurd (cc)
feed_inside Quoted partial text fields h e is = refl
feed_inside Escaped partial text fields h e is = refl
feed_inside Behind partial text fields h e is = let f = rw e at is in absurd (cc)
feed_inside Comment partial text fields h e is = let f = rw e at is in absurd (cc)

-- a byte that is taken doesn't end the line
not_end : (h next : HalfLine) (b : ℕ) (is_feed wants : Bool) → nat_eq b 10 ≡ is_feed → nat_lt 0 h.partial.wanted ≡ wants → with_byte h b ≡ Ok next → is_end h b ≡ false
not_end h next b false wants e f is = rw e refl
not_end h next b true true e f is = rw (e, f) refl
not_end h next b true false e f is =
    let inside : is_inside h.place ≡ true = feed_inside h.place h.partial h.text h.fields next f (subst (λ (x : ℕ). with_byte h x ≡ Ok next) (eq_from b 10 e) is) in
    rw (e, f, inside) refl

abbrev line_with : ℕ → ℕ → ℕ → HalfLine → LastLine
line_with number len feeds h = record { number = number; length = len; feeds = feeds; half = h }

abbrev going : LastLine → Split
going u = record { lines = []; stop = None; last = u }

one_taken : (number len feeds b : ℕ) (h next : HalfLine) → len < 1048576 → with_byte h b ≡ Ok next → one_byte (line_with number len feeds h) b ≡ going (line_with number (len + 1) (feeds + (if nat_eq b 10 then 1 else 0)) next)
one_taken number len feeds b h next short is = rw (not_end h next b (nat_eq b 10) (nat_lt 0 h.partial.wanted) refl refl is, le_no 1048576 len short, is) refl

-- a front of a line that is not refused
front_kept : (bytes : List ℕ) (h half : HalfLine) (number len feeds : ℕ) → with_bytes h bytes ≡ Ok half → len + length bytes ≤ 1048576 →
    split (line_with number len feeds h) bytes ≡ going (line_with number (len + length bytes) (feeds + line_feeds bytes) half)
front_kept [] h half number len feeds is short =
    let same : h ≡ half = cc in (λ i. going (line_with number (sym (add-zero len) i) (sym (add-zero feeds) i) (same i)))
front_kept (b ∷ bytes) h half number len feeds is short = at (with_byte h b) refl is (λ next e. front_kept bytes next half number (len + 1) (feeds + (if nat_eq b 10 then 1 else 0)) e (omega arith))
  where
    at : (r : Result HalfLine LineRefusal) → with_byte h b ≡ r → then_go r (λ next. with_bytes next bytes) ≡ Ok half →
        ((next : HalfLine) → with_bytes next bytes ≡ Ok half → split (line_with number (len + 1) (feeds + (if nat_eq b 10 then 1 else 0)) next) bytes
        ≡ going (line_with number (len + 1 + length bytes) (feeds + (if nat_eq b 10 then 1 else 0) + line_feeds bytes) half)) →
        split (line_with number len feeds h) (b ∷ bytes) ≡ going (line_with number (len + length (b ∷ bytes)) (feeds + line_feeds (b ∷ bytes)) half)
    at (Err refusal) e f more = absurd (cc)
    at (Ok next) e f more =
        ap (λ (s : Split). and_then s (λ v. split v bytes)) (one_taken number len feeds b h next (omega arith) e)
        ∙ (more next f ∙ (λ i. going (line_with number (longer i) (add_assoc feeds (if nat_eq b 10 then 1 else 0) (line_feeds bytes) i) half)))
      where
        longer : len + 1 + length bytes ≡ len + length (b ∷ bytes)
        longer = omega arith

-- what of a line that is read stands before its end
record Front (bytes : List ℕ) (h : HalfLine) (fields : List Field) : Type 0 where
  half : HalfLine
  goes : with_bytes h bytes ≡ Ok half
  ends : ended_line half ≡ Ok fields

front_of : (bytes : List ℕ) (h : HalfLine) (fields : List Field) → rest_of_line h bytes ≡ Ok fields → Front bytes h fields
front_of [] h fields is = record { half = h; goes = refl; ends = is }
front_of (b ∷ bytes) h fields is = at (with_byte h b) refl is (λ next e. front_of bytes next fields e)
  where
    at : (r : Result HalfLine LineRefusal) → with_byte h b ≡ r → then_read r (λ next. rest_of_line next bytes) ≡ Ok fields →
        ((next : HalfLine) → rest_of_line next bytes ≡ Ok fields → Front bytes next fields) → Front (b ∷ bytes) h fields
    at (Err refusal) e f more = absurd (cc)
    at (Ok next) e f more =
        let k = more next f in
        record { half = k.half; goes = ap (λ (t : Result HalfLine LineRefusal). then_go t (λ n. with_bytes n bytes)) e ∙ k.goes; ends = k.ends }

-- what may end
ended_ok : (h : HalfLine) (fields : List Field) (wants inside : Bool) → nat_lt 0 h.partial.wanted ≡ wants → is_inside h.place ≡ inside → ended_line h ≡ Ok fields → is_end h 10 ≡ true
ended_ok h fields true inside e f is = let g = rw e at is in absurd (cc)
ended_ok h fields false true e f is = let g = rw (e, f) at is in absurd (cc)
ended_ok h fields false false e f is = rw (e, f) refl

at_feed : (u : LastLine) (fields : List Field) → ended_line u.half ≡ Ok fields → one_byte u 10 ≡ record { lines = numbered u.number fields; stop = None; last = line_behind u }
at_feed u fields is = rw (ended_ok u.half fields (nat_lt 0 u.half.partial.wanted) (is_inside u.half.place) refl refl is, is) refl

pub whole_line : (number : ℕ) (line text : List ℕ) (fields : List Field) → line_of line ≡ Ok fields → length line ≤ 1048576 →
    lines_from number (line ++ 10 ∷ text) ≡ behind (numbered number fields) (lines_from (number + line_feeds line + 1) text)
whole_line number line text fields is short =
    let k = front_of line empty_line fields is in
    ap (λ (s : Split). and_then s text_end) (split_append (line_at number) line (10 ∷ text) ∙ ap (λ (s : Split). and_then s (λ v. split v (10 ∷ text))) (front_kept line empty_line k.half number 0 0 k.goes (omega arith)))
    ∙ (ap (λ (s : Split). and_then (and_then s (λ v. split v text)) text_end) (at_feed (line_with number (0 + length line) (0 + line_feeds line) k.half) fields k.ends)
    ∙ (sym (behind_then (numbered number fields) (split (line_at (number + (0 + line_feeds line) + 1)) text) text_end)
    ∙ ap (λ (n : ℕ). behind (numbered number fields) (lines_from (number + n + 1) text)) (zero-add (line_feeds line))))

pub last_line : (number : ℕ) (line : List ℕ) (fields : List Field) → line_of line ≡ Ok fields → length line ≤ 1048576 →
    ((lines_from number line).lines ≡ numbered number fields) × ((lines_from number line).stop ≡ None)
last_line number [] fields is short = let none : [] ≡ fields = cc in (ap (numbered number) none, refl)
last_line number (b ∷ bytes) fields is short =
    let k = front_of (b ∷ bytes) empty_line fields is in
    let same : lines_from number (b ∷ bytes) ≡ ended (line_with number (0 + length (b ∷ bytes)) (0 + line_feeds (b ∷ bytes)) k.half) (Ok fields)
    = ap (λ (s : Split). and_then s text_end) (front_kept (b ∷ bytes) empty_line k.half number 0 0 k.goes (omega arith)) ∙ at_end (line_with number (0 + length (b ∷ bytes)) (0 + line_feeds (b ∷ bytes)) k.half) fields k.ends (omega arith) in
    (ap (λ (s : Split). s.lines) same, ap (λ (s : Split). s.stop) same)
  where
    at_end : (u : LastLine) (fields' : List Field) → ended_line u.half ≡ Ok fields' → 0 < u.length → text_end u ≡ ended u (Ok fields')
    at_end u fields' ends h = rw (eq_zero_no u.length h, ends) refl

-- a front and a byte at which the line stops
stopped_line : (number : ℕ) (front more : List ℕ) (b : ℕ) (half : HalfLine) (refusal : LineRefusal) → with_bytes empty_line front ≡ Ok half → length front ≤ 1048576 →
    one_byte (line_with number (0 + length front) (0 + line_feeds front) half) b ≡ refused (line_with number (0 + length front) (0 + line_feeds front) half) refusal →
    lines_from number (front ++ b ∷ more) ≡ refused (line_begun number front half) refusal
stopped_line number front more b half refusal is short stops =
    ap (λ (s : Split). and_then s text_end) (split_append (line_at number) front (b ∷ more)
    ∙ ap (λ (s : Split). and_then s (λ v. split v (b ∷ more))) (front_kept front empty_line half number 0 0 is (omega arith)))
    ∙ (ap (λ (s : Split). and_then (and_then s (λ v. split v more)) text_end) stops
    ∙ (λ i. refused (line_with number (zero-add (length front) i) (zero-add (line_feeds front) i) half) refusal))

pub refused_line : (number : ℕ) (front more : List ℕ) (b : ℕ) (half : HalfLine) (refusal : LineRefusal) → with_bytes empty_line front ≡ Ok half → length front < 1048576 →
    is_end half b ≡ false → with_byte half b ≡ Err refusal → lines_from number (front ++ b ∷ more) ≡ refused (line_begun number front half) refusal
refused_line number front more b half refusal is short goes stops =
    stopped_line number front more b half refusal is (omega arith) (rw (goes, le_no 1048576 (0 + length front) (omega arith), stops) refl)

pub long_line : (number : ℕ) (front more : List ℕ) (b : ℕ) (half : HalfLine) → with_bytes empty_line front ≡ Ok half → length front ≡ 1048576 →
    is_end half b ≡ false → lines_from number (front ++ b ∷ more) ≡ refused (line_begun number front half) LineTooLong
long_line number front more b half is full goes =
    stopped_line number front more b half LineTooLong is (omega arith) (rw (goes, le_yes 1048576 (0 + length front) (omega arith)) refl)

pub unended_line : (number : ℕ) (front : List ℕ) (half : HalfLine) (refusal : LineRefusal) → with_bytes empty_line front ≡ Ok half → 0 < length front → length front ≤ 1048576 →
    ended_line half ≡ Err refusal → lines_from number front ≡ refused (line_begun number front half) refusal
unended_line number front half refusal is some short stops =
    ap (λ (s : Split). and_then s text_end) (front_kept front empty_line half number 0 0 is (omega arith))
    ∙ (at_stop (line_with number (0 + length front) (0 + line_feeds front) half) stops (omega arith)
    ∙ (λ i. refused (line_with number (zero-add (length front) i) (zero-add (line_feeds front) i) half) refusal))
  where
    at_stop : (u : LastLine) → ended_line u.half ≡ Err refusal → 0 < u.length → text_end u ≡ refused u refusal
    at_stop u stops' h = rw (eq_zero_no u.length h, stops') refl
