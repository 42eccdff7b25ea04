-- What the fields of a line say by themselves.
use Rattle.std.specs.Prelude.{ℕ, Bool, true, false, ◌&&◌, nat_le, if◌then◌else◌, codes, List, [], ◌∷◌, length, Option, None, Some, unwrap_or, is_ok, Result, Ok, Err}
use Rattle.std.specs.List.{list_all}
use Rattle.std.specs.Char.{is_ascii_digit}
use Rattle.std.specs.Str.{bytes_eq, encode_utf8_all}
use Rattle.sds_value.specs.declared.kind.Binary.TheVariants.{Base64}
use Rattle.sds_value.specs.declared.kind.Kind.TheVariants.{Integer, Varchar}
use Rattle.sds_value.specs.declared.kind.Value.{Value}
use Rattle.sds_value.specs.declared.refusal.ValueRefusal.{ValueRefusal}
use Rattle.sds_value.specs.declared.row.Event.TheVariants.{Insert}
use Rattle.sds_value.specs.declared.row.Field.{Field}
use Rattle.sds_value.specs.declared.row.Field.TheVariants.{Null, Text}
use Rattle.sds_value.specs.Names.{is_name_text}
use Rattle.sds_value.specs.Values.{value_of, printed, digits_value}
use Rattle.sds_types.specs.declared.tx_row.TxRow.{TxRow}
use Rattle.sds_first_world.specs.declared.line.Line.{Line}
use Rattle.sds_first_world.specs.declared.line.Line.TheVariants.{Opening, Write, Row, End, Route, Push, Show, Other}
use Rattle.sds_first_world.specs.declared.line.Opening.TheVariants.{Corp, Store, Open, Register}
use Rattle.sds_first_world.specs.Words.{is_word, are}

-- 1 to 19 decimal digits
abbrev pub is_number : List ℕ → Bool
is_number text = nat_le 1 (length text) && (nat_le (length text) 19 && list_all is_ascii_digit text)

-- a text that reads as this value of INTEGER is the value's printed text
abbrev pub is_printed_as : Result Value ValueRefusal → List ℕ → Bool
is_printed_as (Ok value) text = bytes_eq (printed Integer Base64 value) (encode_utf8_all text)
is_printed_as (Err refusal) text = false

-- the printed text of an INTEGER: `-` where it is negative, and digits without leading zeros
abbrev pub is_key : List ℕ → Bool
is_key text = is_printed_as (value_of Integer Base64 text) text

-- null, or a text of VARCHAR(40)
abbrev pub is_short : Field → Bool
is_short Null = true
is_short (Text text) = is_ok (value_of (Varchar 40) Base64 text)

-- the row of the table pair with this key and this text
abbrev pub row_of : List ℕ → Field → TxRow
row_of key field = record { event = Insert; table = codes "pair"; fields = Text key ∷ field ∷ [] }

-- `write,corp,WRITER,NUMBER`, by its last two fields
abbrev pub write_of : Field → Field → Option Line
write_of Null number = None
write_of (Text writer) Null = None
write_of (Text writer) (Text number) = if is_name_text writer && is_number number then Some (Write writer (digits_value number)) else None

-- `insert,pair,ID,TEXT`, by its last two fields
abbrev pub insert_of : Field → Field → Option Line
insert_of Null field = None
insert_of (Text key) field = if is_key key && is_short field then Some (Row (row_of key field)) else None

-- one of the two lines with fields of their own
abbrev pub given_of : List Field → Option Line
given_of (directive ∷ place ∷ first ∷ second ∷ []) =
    if is_word directive (codes "write") && is_word place (codes "corp") then write_of first second
    else (if is_word directive (codes "insert") && is_word place (codes "pair") then insert_of first second
    else None)
given_of fields = None

-- one of the four lines with which a scenario begins
abbrev pub opening_of : List Field → Option Line
opening_of fields =
    if are fields (codes "node" ∷ codes "corp" ∷ codes "corp" ∷ codes "corp" ∷ []) then Some (Opening Corp)
    else (if are fields (codes "node" ∷ codes "s1" ∷ codes "store" ∷ codes "001" ∷ []) then Some (Opening Store)
    else (if are fields (codes "open" ∷ codes "corp" ∷ codes "store" ∷ codes "001" ∷ []) then Some (Opening Open)
    else (if are fields (codes "register" ∷ codes "s1" ∷ codes "corp" ∷ []) then Some (Opening Register)
    else None)))

-- one of the other lines that are always the same
abbrev pub step_of : List Field → Option Line
step_of fields =
    if are fields (codes "end" ∷ []) then Some End
    else (if are fields (codes "route" ∷ codes "corp" ∷ []) then Some Route
    else (if are fields (codes "push" ∷ codes "corp" ∷ codes "s1" ∷ []) then Some Push
    else (if are fields (codes "show" ∷ codes "corp" ∷ []) then Some (Show (codes "corp"))
    else (if are fields (codes "show" ∷ codes "s1" ∷ []) then Some (Show (codes "s1"))
    else None))))

-- the first of two readings that there is
abbrev pub or_else : Option Line → Option Line → Option Line
or_else None next = next
or_else (Some line) next = Some line

-- what the fields of a line say; anything outside these forms is Other
abbrev pub line_of : List Field → Line
line_of fields = unwrap_or (or_else (opening_of fields) (or_else (given_of fields) (step_of fields))) Other
