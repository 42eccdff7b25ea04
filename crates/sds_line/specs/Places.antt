-- What a byte means that begins a character, by the place where it stands in a line.
use Rattle.std.specs.Prelude.{ℕ, Bool, ◌||◌, ◌==◌, if◌then◌else◌}
use Rattle.sds_line.specs.declared.place.Place.{Place}
use Rattle.sds_line.specs.declared.place.Place.TheVariants.{Start, Before, Plain, Quoted, Escaped, Behind, Comment}
use Rattle.sds_line.specs.declared.place.Act.{Act}
use Rattle.sds_line.specs.declared.place.Act.TheVariants.{Pass, Add, Divide, Refuse}
use Rattle.sds_line.specs.declared.refusal.LineRefusal.TheVariants.{BareQuote, BadEscape}

-- a space, a tab or a carriage return
abbrev pub is_spacing : ℕ → Bool
is_spacing b = b == 32 || (b == 9 || b == 13)

-- Before a field: spacing keeps the place, a quote (34) opens a quoted field, a comma (44) ends the field, and anything
-- else begins a plain one. A line feed (10) outside quotes is no part of a line.
abbrev pub before_field : Place → ℕ → Act
before_field place b =
    if is_spacing b then Pass place else if b == 34 then Pass Quoted else if b == 44 then Divide
    else if b == 10 then Refuse BareQuote else Add Plain

-- Each place's bytes. A `#` (35) is that of a comment only where nothing but spacing stands before it in the line.
-- Inside quotes a backslash (92) stands before a quote or a backslash alone.
abbrev pub act_of : Place → ℕ → Act
act_of Start b = if b == 35 then Pass Comment else before_field Start b
act_of Before b = before_field Before b
act_of Plain b = if b == 44 then Divide else if b == 34 || b == 10 then Refuse BareQuote else Add Plain
act_of Quoted b = if b == 34 then Pass Behind else if b == 92 then Pass Escaped else Add Quoted
act_of Escaped b = if b == 34 || b == 92 then Add Quoted else Refuse BadEscape
act_of Behind b = if b == 44 then Divide else if is_spacing b then Pass Behind else Refuse BareQuote
act_of Comment b = if b == 10 then Refuse BareQuote else Add Comment
