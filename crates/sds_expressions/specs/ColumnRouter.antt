-- Decides a `column` router's expressions character by character; the form is in ColumnForm.
use Rattle.std.specs.Prelude.{ℕ, Bool, true, false, ◌||◌, ◌==◌, nat_le, if◌then◌else◌, List, [], ◌∷◌, ◌++◌, length, drop, codes, Option, Some, None, Result}
use Rattle.std.specs.List.{starts_with}
use Rattle.std.specs.Str.{bytes_eq}
use Rattle.sds_types.specs.declared.column_test.ColumnTest.{ColumnTest}
use Rattle.sds_types.specs.declared.column_test.Operand.{Operand}
use Rattle.sds_types.specs.declared.column_test.Operand.TheVariants.{NodeId, ExternalId, NodeGroupId, Null, Text}
use Rattle.sds_value.specs.Names.{is_name_character}
use Rattle.sds_expressions.specs.Automaton.{run}
use Rattle.sds_expressions.specs.ColumnForm.{begins_old, is_bare_character}
use Rattle.sds_expressions.specs.declared.column_router.ColumnPart.{ColumnPart}
use Rattle.sds_expressions.specs.declared.column_router.ColumnPart.TheVariants as part
use Rattle.sds_expressions.specs.declared.column_router.ColumnReading.{ColumnReading}

-- the name of the column
abbrev pub column_name : List ℕ → List ℕ
column_name name = if begins_old name then drop 4 name else name

-- a name of a column has 1 to 50 characters
abbrev pub is_short : List ℕ → Bool
is_short name = nat_le (length (column_name name)) 50

abbrev pub is_whole : List ℕ → Bool
is_whole name = nat_le 1 (length (column_name name))

-- the words after a colon, and what each stands for
abbrev pub operand_named : List ℕ → Option Operand
operand_named word = if bytes_eq word (codes "NODE_ID") then Some NodeId
    else (if bytes_eq word (codes "EXTERNAL_ID") then Some ExternalId
    else (if bytes_eq word (codes "NODE_GROUP_ID") then Some NodeGroupId else None))

abbrev pub begins_word : List ℕ → Bool
begins_word prefix = starts_with (λ a b. a == b) (codes "NODE_ID") prefix
    || (starts_with (λ a b. a == b) (codes "EXTERNAL_ID") prefix
    || starts_with (λ a b. a == b) (codes "NODE_GROUP_ID") prefix)

-- a bare text, or the absence of a value
abbrev pub bare_operand : List ℕ → Operand
bare_operand text = if bytes_eq text (codes "NULL") then Null else Text text

-- the value that the reading stands at the end of, if it does
abbrev pub operand_at : ColumnPart → List ℕ → Option Operand
operand_at part.Colon text = operand_named text
operand_at part.Bare text = Some (bare_operand text)
operand_at part.Quote text = Some (Text text)
operand_at other text = None

-- the test of a value
abbrev pub test_of : ColumnReading → Operand → ColumnTest
test_of reading operand = record {
  name = column_name reading.name;
  old = begins_old reading.name;
  differs = reading.differs;
  operand = operand;
}

abbrev pub at_part : ColumnReading → ColumnPart → ColumnReading
at_part reading next = record reading { part = next }

-- the reading with one character more in its name, or in its text
abbrev pub longer_name : ColumnReading → ℕ → ColumnReading
longer_name reading c = record reading { name = reading.name ++ c ∷ [] }

abbrev pub longer_text : ColumnReading → ℕ → ColumnReading
longer_text reading c = record reading { text = reading.text ++ c ∷ [] }

-- after a value stands a space or a line feed
abbrev pub with_test : ColumnReading → Operand → ColumnPart → Option ColumnReading
with_test reading operand next =
    Some (record reading { tests = reading.tests ++ test_of reading operand ∷ []; part = next })

abbrev pub ended : ColumnReading → ℕ → Option Operand → Option ColumnReading
ended reading c None = None
ended reading c (Some operand) = if c == 32 then with_test reading operand part.After
    else (if c == 10 then with_test reading operand part.Fresh else None)

-- before a test
abbrev pub step_before : ColumnReading → ℕ → Option ColumnReading
step_before reading c =
    if c == 32 then Some (at_part reading part.Before)
    else (if is_name_character c then Some (record reading { name = c ∷ []; part = part.Name })
    else None)

-- after a whole name
abbrev pub step_named : ColumnReading → ℕ → Option ColumnReading
step_named reading c = if c == 32 then Some (at_part reading part.Named)
    else (if c == 61 then Some (record reading { differs = false; part = part.Sign })
    else (if c == 33 then Some (at_part reading part.Bang) else None))

-- in a name
abbrev pub step_name : ColumnReading → ℕ → Option ColumnReading
step_name reading c =
    if is_name_character c
    then (if is_short (reading.name ++ c ∷ []) then Some (longer_name reading c) else None)
    else (if is_whole reading.name then step_named reading c else None)

-- between `!` and `=`
abbrev pub step_bang : ColumnReading → ℕ → Option ColumnReading
step_bang reading c =
    if c == 61 then Some (record reading { differs = true; part = part.Sign }) else None

-- before a value
abbrev pub step_sign : ColumnReading → ℕ → Option ColumnReading
step_sign reading c = if c == 32 then Some reading
    else (if c == 39 then Some (record reading { text = []; part = part.Quoted })
    else (if c == 58 then Some (record reading { text = []; part = part.Colon })
    else (if is_bare_character c then Some (record reading { text = c ∷ []; part = part.Bare })
    else None)))

-- in a word after a colon
abbrev pub step_colon : ColumnReading → ℕ → Option ColumnReading
step_colon reading c =
    if begins_word (reading.text ++ c ∷ []) then Some (longer_text reading c)
    else ended reading c (operand_at part.Colon reading.text)

-- in a bare text
abbrev pub step_bare : ColumnReading → ℕ → Option ColumnReading
step_bare reading c =
    if is_bare_character c then Some (longer_text reading c)
    else ended reading c (operand_at part.Bare reading.text)

-- between quotes, and after a quote that ends the text or is the first of two
abbrev pub step_quoted : ColumnReading → ℕ → Option ColumnReading
step_quoted reading c =
    if c == 39 then Some (at_part reading part.Quote) else Some (longer_text reading c)

abbrev pub step_quote : ColumnReading → ℕ → Option ColumnReading
step_quote reading c =
    if c == 39 then Some (at_part (longer_text reading c) part.Quoted)
    else ended reading c (operand_at part.Quote reading.text)

-- after a test and a space
abbrev pub step_after : ColumnReading → ℕ → Option ColumnReading
step_after reading c =
    if c == 32 then Some reading
    else (if c == 10 then Some (at_part reading part.Fresh)
    else (if c == 111 then Some (at_part reading part.Letter) else None))

-- in ` or `
abbrev pub step_letter : ColumnReading → ℕ → Option ColumnReading
step_letter reading c = if c == 114 then Some (at_part reading part.Joined) else None

abbrev pub step_joined : ColumnReading → ℕ → Option ColumnReading
step_joined reading c = if c == 32 then Some (at_part reading part.Before) else None

-- the state that a character leads to
abbrev pub step_at : ColumnPart → ColumnReading → ℕ → Option ColumnReading
step_at part.Before reading c = step_before reading c
step_at part.Fresh reading c = step_before reading c
step_at part.Name reading c = step_name reading c
step_at part.Named reading c = step_named reading c
step_at part.Bang reading c = step_bang reading c
step_at part.Sign reading c = step_sign reading c
step_at part.Colon reading c = step_colon reading c
step_at part.Bare reading c = step_bare reading c
step_at part.Quoted reading c = step_quoted reading c
step_at part.Quote reading c = step_quote reading c
step_at part.After reading c = step_after reading c
step_at part.Letter reading c = step_letter reading c
step_at part.Joined reading c = step_joined reading c

abbrev pub step : ColumnReading → ℕ → Option ColumnReading
step reading c = step_at reading.part reading c

-- the tests of a text that ends here, where it may
abbrev pub tests_ended : ColumnReading → Option Operand → Option (List ColumnTest)
tests_ended reading None = None
tests_ended reading (Some operand) = Some (reading.tests ++ test_of reading operand ∷ [])

abbrev pub tests_at : ColumnPart → ColumnReading → Option (List ColumnTest)
tests_at part.After reading = Some reading.tests
tests_at part.Fresh reading = Some reading.tests
tests_at other reading = tests_ended reading (operand_at other reading.text)

abbrev pub finish : ColumnReading → Option (List ColumnTest)
finish reading = tests_at reading.part reading

abbrev pub beginning : ColumnReading
beginning = record { tests = []; name = []; differs = false; text = []; part = part.Before }

-- the tests that a text says, or the place at which it leaves the form
abbrev pub tests_of : List ℕ → Result (List ColumnTest) ℕ
tests_of text = run step finish 0 beginning text
