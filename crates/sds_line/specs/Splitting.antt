-- The lines of a text.
use Rattle.std.specs.Prelude.{ℕ, ◌+◌, ◌≡◌, Bool, true, false, not, ◌&&◌, ◌==◌, nat_lt, nat_le, if◌then◌else◌, List, [], ◌∷◌, ◌++◌, length, drop, Option, None, Some, Result, Ok, Err}
use Rattle.sds_value.specs.declared.row.Field.{Field}
use Rattle.sds_line.specs.declared.line.Line.{Line}
use Rattle.sds_line.specs.declared.lines.Phase.{Phase}
use Rattle.sds_line.specs.declared.lines.Phase.TheVariants.{Open, Due, Over, Spent}
use Rattle.sds_line.specs.declared.place.Place.{Place}
use Rattle.sds_line.specs.declared.place.Place.TheVariants.{Start, Comment}
use Rattle.sds_line.specs.declared.refusal.LineRefusal.{LineRefusal}
use Rattle.sds_line.specs.declared.refusal.LineRefusal.TheVariants.{LineTooLong, NoMemory}
use Rattle.sds_line.specs.Reading.{HalfLine, empty_line, with_byte, is_inside, ended_line}

-- the line that has not ended: its number, how many bytes it has so far, how many of them are line feeds, and what has come of its fields
pub record LastLine : Type 0 where
  pub number : ℕ
  pub length : ℕ
  pub feeds : ℕ
  pub half : HalfLine

-- a line of which nothing has come, and the line behind another one
abbrev pub line_at : ℕ → LastLine
line_at number = record { number = number; length = 0; feeds = 0; half = empty_line }

abbrev pub line_behind : LastLine → LastLine
line_behind u = line_at (u.number + u.feeds + 1)

-- a text that is split: its lines that have fields, why it is not read on, and the line that has not ended, or that is refused
pub record Split : Type 0 where
  pub lines : List Line
  pub stop : Option LineRefusal
  pub last : LastLine

abbrev pub refused : LastLine → LineRefusal → Split
refused u refusal = record { lines = []; stop = Some refusal; last = u }

-- a line that has ended: one without fields is left out
abbrev pub numbered : ℕ → List Field → List Line
numbered number [] = []
numbered number (field ∷ fields) = record { number = number; fields = field ∷ fields } ∷ []

abbrev pub ended : LastLine → Result (List Field) LineRefusal → Split
ended u (Ok fields) = record { lines = numbered u.number fields; stop = None; last = line_behind u }
ended u (Err refusal) = refused u refusal

-- a line feed ends the line where it stands outside quotes and between two characters
abbrev pub is_end : HalfLine → ℕ → Bool
is_end h b = b == 10 && (not (nat_lt 0 h.partial.wanted) && not (is_inside h.place))

-- a line that ends so is blank or a comment
abbrev pub has_no_fields : Place → Bool
has_no_fields Start = true
has_no_fields Comment = true
has_no_fields place = false

abbrev pub is_blank : HalfLine → Bool
is_blank h = not (nat_lt 0 h.partial.wanted) && has_no_fields h.place

abbrev pub lengthened : LastLine → ℕ → Result HalfLine LineRefusal → Split
lengthened u b (Ok h) = record { lines = []; stop = None; last = record { number = u.number; length = u.length + 1; feeds = u.feeds + (if b == 10 then 1 else 0); half = h } }
lengthened u b (Err refusal) = refused u refusal

-- What the next byte makes of the line. A line has at most 1,048,576 bytes, its closing line feed not counted.
abbrev pub one_byte : LastLine → ℕ → Split
one_byte u b =
    if is_end u.half b then ended u (ended_line u.half)
    else if nat_le 1048576 u.length then refused u LineTooLong
    else lengthened u b (with_byte u.half b)

-- more of the text is split, behind what is split already; nothing is read behind a refusal
abbrev pub stopped_or : Option LineRefusal → Split → Split → Split
stopped_or None s t = record { lines = s.lines ++ t.lines; stop = t.stop; last = t.last }
stopped_or (Some refusal) s t = s

abbrev pub and_then : Split → (LastLine → Split) → Split
and_then s next = stopped_or s.stop s (next s.last)

-- the bytes that follow a front of a line are split
abbrev pub split : LastLine → List ℕ → Split
split u [] = record { lines = []; stop = None; last = u }
split u (b ∷ bs) = and_then (one_byte u b) (λ v. split v bs)

-- the text ends here: a line ends without a line feed, and no line begins behind the last line feed
abbrev pub text_end : LastLine → Split
text_end u = if u.length == 0 then record { lines = []; stop = None; last = u } else ended u (ended_line u.half)

-- the lines of a text whose first line has this number
abbrev pub lines_from : ℕ → List ℕ → Split
lines_from number text = and_then (split (line_at number) text) text_end

-- how many of the bytes are line feeds
abbrev pub line_feeds : List ℕ → ℕ
line_feeds [] = 0
line_feeds (b ∷ bs) = (if b == 10 then 1 else 0) + line_feeds bs

-- a line of which this front has come
abbrev pub line_begun : ℕ → List ℕ → HalfLine → LastLine
line_begun number front half = record { number = number; length = length front; feeds = line_feeds front; half = half }

-- the lines of a text of which a front has come, and of a whole text
abbrev pub lines_so_far : List ℕ → Split
lines_so_far text = split (line_at 1) text

abbrev pub lines_of : List ℕ → Split
lines_of text = lines_from 1 text

abbrev pub lines_in : Bool → List ℕ → Split
lines_in finished text = if finished then lines_of text else lines_so_far text

-- What is next of the lines that are not taken yet: the first of them, or why none follows.
abbrev pub first_or : Option LineRefusal → List Line → Result (Option Line) LineRefusal
first_or stop (line ∷ lines) = Ok (Some line)
first_or (Some refusal) [] = Err refusal
first_or None [] = Ok None

abbrev pub next_of : Split → Result (Option Line) LineRefusal
next_of s = first_or s.stop s.lines

-- without the first line
abbrev pub without_first : Split → Split
without_first s = record s { lines = drop 1 s.lines }

-- the number of the next line, and of the line that has not ended or is refused where none is left
abbrev pub number_or : ℕ → List Line → ℕ
number_or number [] = number
number_or number (line ∷ lines) = line.number

abbrev pub next_number : Split → ℕ
next_number s = number_or s.last.number s.lines

-- no line of the text has a greater number, and each byte adds at most 1
abbrev pub reach : Split → ℕ
reach s = s.last.number + s.last.feeds

-- A reader of lines: whether its text goes on, and what is split and not taken yet. In the phase `Due` the end of the text is known and not yet split.
pub record Fed : Type 0 where
  pub phase : Phase
  pub split : Split

abbrev pub seen_at : Phase → Split → Split
seen_at Due s = and_then s text_end
seen_at phase s = s

-- what the reader has left of its text
abbrev pub left : Fed → Split
left v = seen_at v.phase v.split

abbrev pub is_finished : Phase → Bool
is_finished Due = true
is_finished Over = true
is_finished phase = false

-- the text goes on, or its last line is not split yet
abbrev pub goes_on : Phase → Bool
goes_on Open = true
goes_on Due = true
goes_on phase = false

-- the end of the text is not asked for, or it is split
abbrev pub is_settled : Phase → Bool
is_settled Open = true
is_settled Over = true
is_settled phase = false

-- want of memory has lost a part of the text
abbrev pub is_spent : Phase → Bool
is_spent Spent = true
is_spent phase = false

-- more of a text is split, behind these lines
abbrev pub behind : List Line → Split → Split
behind taken s = record s { lines = taken ++ s.lines }

-- The reader was fed this text, in whatever pieces, these lines of it were taken, and its end is known or not.
pub record Follows (text : List ℕ) (taken : List Line) (finished : Bool) (v : Fed) : Type 0 where
  pub reads : behind taken (left v) ≡ lines_in finished text
  pub phase : is_finished v.phase ≡ finished
  pub whole : is_spent v.phase ≡ false

-- All lines of the text were taken, and this stands behind them.
pub record IsEnd (text : List ℕ) (taken : List Line) (finished : Bool) (stop : Option LineRefusal) : Type 0 where
  pub all : (lines_in finished text).lines ≡ taken
  pub behind_all : (lines_in finished text).stop ≡ stop

-- What an answer says of the text, and of the reader behind it. After want of memory the reader is spent.
abbrev pub Answers : List ℕ → List Line → Bool → Result (Option Line) LineRefusal → Fed → Type 0
Answers text taken finished (Ok (Some line)) new = Follows text (taken ++ line ∷ []) finished new
Answers text taken finished (Ok None) new = IsEnd text taken finished None × Follows text taken finished new
Answers text taken finished (Err NoMemory) new = is_spent new.phase ≡ true
Answers text taken finished (Err refusal) new = IsEnd text taken finished (Some refusal) × Follows text taken finished new
