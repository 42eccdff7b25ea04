-- What the fields of a line say is given rightly: names, and rows of characters.
use Rattle.std.proofs.Common.{◌≡◌, ℕ, Bool, true, false, List, [], ◌∷◌, Option, None, Some, refl, sym, ap, subst, ◌∙◌}
use Rattle.std.specs.Prelude.{◌&&◌, if◌then◌else◌, IfOk, IfSome, Result, Ok, Err, option_and_then}
use Rattle.std.specs.List.{list_all}
use Rattle.std.specs.Option.{option_map, option_or}
use Rattle.std.specs.Str.{IsUtf8, all_scalars, chars}
use Rattle.std.proofs.lemmas.Str.{scalars-chars}
use Rattle.sds_line.specs.Written.{are_fields, is_field}
use Rattle.sds_value.specs.Names.{is_name_text}
use Rattle.sds_value.specs.declared.row.Event.{Event}
use Rattle.sds_value.specs.declared.row.Field.{Field}
use Rattle.sds_value.specs.declared.row.Field.TheVariants.{Null, Text}
use Rattle.sds_types.specs.declared.scenario.ScenarioLine.{ScenarioLine}
use Rattle.sds_types.specs.declared.scenario.ScenarioLine.TheVariants.{Node, Open, Register, Row, End, Route, Answer, Push, Pull, Wire, Show, Batches, Crash}
use Rattle.sds_nodelaws.proofs.Lists.{and_both, and_left, and_right}
use Rattle.sds_scenario.specs.Lines.{deliver_of, fault_of, line_of, line_of_channels, line_of_fields, line_of_name, line_of_names, line_of_number, line_of_pair, line_of_three, line_of_word, send_of, stands_of, write_of}
use Rattle.sds_scenario.specs.Rows.{event_named, row_in, row_line}
use Rattle.sds_scenario.specs.Words.{as_name, as_names, as_number, name_if, with_name}
use Rattle.sds_world.specs.Scening.{IsSaidLine}

-- TEXTS that a program has are of characters
pub text_spelt : (bytes text : List ℕ) → IsUtf8 bytes → chars bytes ≡ text → all_scalars text ≡ true
text_spelt bytes text utf8 is = ap all_scalars (sym is) ∙ scalars-chars bytes utf8

-- a reading, if there is one, is given rightly
record MaySay (reading : Option ScenarioLine) : Type 0 where
  says : IfSome reading IsSaidLine

nothing : MaySay None
nothing = record { says = tt }

by_test : (b : Bool) (x y : Option ScenarioLine) → MaySay x → MaySay y → MaySay (if b then x else y)
by_test true x y first second = first
by_test false x y first second = second

one_or : (x y : Option ScenarioLine) → MaySay x → MaySay y → MaySay (option_or x y)
one_or None y first second = second
one_or (Some said) y first second = first

-- ROWS
row_by : (table : List ℕ) (fields : List Field) (event : Option Event) → are_fields fields ≡ true
    → MaySay (option_map Row (option_map (row_in table fields) event))
row_by table fields None are = nothing
row_by table fields (Some event) are = record { says = are }

row_said : (fields : List Field) → are_fields fields ≡ true → MaySay (option_map Row (row_line fields))
row_said [] are = nothing
row_said (word ∷ []) are = nothing
row_said (word ∷ (Null ∷ fields)) are = nothing
row_said (word ∷ (Text table ∷ fields)) are =
    row_by table fields (event_named word) (and_right (all_scalars table) (are_fields fields) (and_right (is_field word) (are_fields (Text table ∷ fields)) are))

-- NAMES
record AreNames (names : Option (List (List ℕ))) : Type 0 where
  named : IfSome names (λ (texts : List (List ℕ)). list_all is_name_text texts ≡ true)

record IsName (name : Option (List ℕ)) : Type 0 where
  named : IfSome name (λ (text : List ℕ). is_name_text text ≡ true)

name_by : (text : List ℕ) (b : Bool) → is_name_text text ≡ b → IsName (name_if b text)
name_by text true is = record { named = is }
name_by text false is = record { named = tt }

a_name : (field : Field) → IsName (as_name field)
a_name Null = record { named = tt }
a_name (Text text) = name_by text (is_name_text text) refl

more_names : (name : Option (List ℕ)) (names : Option (List (List ℕ))) → IsName name → AreNames names → AreNames (with_name name names)
more_names None names first others = record { named = tt }
more_names (Some text) None first others = record { named = tt }
more_names (Some text) (Some texts) first others = record { named = and_both (is_name_text text) (list_all is_name_text texts) first.named others.named }

all_names : (fields : List Field) → AreNames (as_names fields)
all_names [] = record { named = refl }
all_names (field ∷ fields) = more_names (as_name field) (as_names fields) (a_name field) (all_names fields)

name_said : (word : Field) (node : List ℕ) → MaySay (line_of_name word node)
name_said word node =
    by_test _ (Some (Route node)) _ (record { says = tt }) (by_test _ (Some (Show node)) _ (record { says = tt })
    (by_test _ (Some (Batches node)) _ (record { says = tt }) (by_test _ (Some (Crash node)) None (record { says = tt }) nothing)))

pair_said : (word : Field) (first second : List ℕ) → MaySay (line_of_pair word first second)
pair_said word first second =
    by_test _ (Some (Register first second)) _ (record { says = tt })
    (by_test _ (Some (Push first second)) _ (record { says = tt }) (by_test _ (Some (Pull first second)) None (record { says = tt }) nothing))

three_said : (word : Field) (first second third : List ℕ) → is_name_text first ≡ true → is_name_text second ≡ true → is_name_text third ≡ true
    → MaySay (line_of_three word first second third)
three_said word first second third one two three =
    let last : (is_name_text second && is_name_text third) ≡ true = and_both (is_name_text second) (is_name_text third) two three in
    by_test _ (Some (Node (record { id = first; group = second; external = third }))) _
    (record { says = and_both (is_name_text first) (is_name_text second && is_name_text third) one last })
    (by_test _ (Some (Open first second third)) None (record { says = last }) nothing)

names_said : (word : Field) (names : List (List ℕ)) → list_all is_name_text names ≡ true → MaySay (line_of_names word names)
names_said word [] are = nothing
names_said word (first ∷ []) are = name_said word first
names_said word (first ∷ (second ∷ [])) are = pair_said word first second
names_said word (first ∷ (second ∷ (third ∷ []))) are =
    let two : list_all is_name_text (second ∷ (third ∷ [])) ≡ true = and_right (is_name_text first) (list_all is_name_text (second ∷ (third ∷ []))) are in
    let three : list_all is_name_text (third ∷ []) ≡ true = and_right (is_name_text second) (list_all is_name_text (third ∷ [])) two in
    three_said word first second third (and_left (is_name_text first) (list_all is_name_text (second ∷ (third ∷ []))) are)
    (and_left (is_name_text second) (list_all is_name_text (third ∷ [])) two) (and_left (is_name_text third) true three)
names_said word (first ∷ (second ∷ (third ∷ (fourth ∷ names)))) are = nothing

names_by : (word : Field) (names : Option (List (List ℕ))) → AreNames names → MaySay (option_and_then (line_of_names word) names)
names_by word None are = nothing
names_by word (Some names) are = names_said word names are.named

word_said : (fields : List Field) → MaySay (line_of_word fields)
word_said [] = nothing
word_said (word ∷ fields) = names_by word (as_names fields) (all_names fields)

-- OTHER FIELDS
by_number : (line : ℕ → ScenarioLine) → ((number : ℕ) → IsSaidLine (line number)) → (number : Option ℕ) → MaySay (option_map line number)
by_number line are None = nothing
by_number line are (Some number) = record { says = are number }

number_said : (word field : Field) → MaySay (line_of_number word field)
number_said word field =
    by_test _ (option_map Answer (as_number field)) _ (by_number Answer (λ number. tt) (as_number field))
    (by_test _ (option_map Wire (as_number field)) None (by_number Wire (λ number. tt) (as_number field)) nothing)

fault_said : (node : Option (List ℕ)) (stands : Option Bool) → MaySay (fault_of node stands)
fault_said None stands = nothing
fault_said (Some node) None = nothing
fault_said (Some node) (Some stands) = record { says = tt }

write_said : (node writer : Option (List ℕ)) (number : Option ℕ) → IsName writer → MaySay (write_of node writer number)
write_said None writer number is = nothing
write_said (Some node) None number is = nothing
write_said (Some node) (Some writer) None is = nothing
write_said (Some node) (Some writer) (Some number) is = record { says = is.named }

fields_said : (fields : List Field) → MaySay (line_of_fields fields)
fields_said [] = nothing
fields_said (word ∷ []) = by_test _ (Some End) None (record { says = tt }) nothing
fields_said (word ∷ (field ∷ [])) = number_said word field
fields_said (word ∷ (node ∷ (stands ∷ []))) =
    by_test _ (fault_of (as_name node) (stands_of stands)) None (fault_said (as_name node) (stands_of stands)) nothing
fields_said (word ∷ (node ∷ (writer ∷ (number ∷ [])))) =
    by_test _ (write_of (as_name node) (as_name writer) (as_number number)) None
    (write_said (as_name node) (as_name writer) (as_number number) (a_name writer)) nothing
fields_said (word ∷ (node ∷ (writer ∷ (number ∷ (more ∷ fields))))) = nothing

send_said : (names : List (List ℕ)) → MaySay (send_of names)
send_said [] = nothing
send_said (from ∷ []) = nothing
send_said (from ∷ (to ∷ channels)) = record { says = tt }

send_by : (names : Option (List (List ℕ))) → MaySay (option_and_then send_of names)
send_by None = nothing
send_by (Some names) = send_said names

deliver_said : (message : Option ℕ) (channels : Option (List (List ℕ))) → MaySay (deliver_of message channels)
deliver_said None channels = nothing
deliver_said (Some message) None = nothing
deliver_said (Some message) (Some channels) = record { says = tt }

channels_said : (fields : List Field) → MaySay (line_of_channels fields)
channels_said [] = nothing
channels_said (word ∷ []) = nothing
channels_said (word ∷ (field ∷ fields)) =
    by_test _ (deliver_of (as_number field) (as_names fields)) _ (deliver_said (as_number field) (as_names fields))
    (by_test _ (option_and_then send_of (as_names (field ∷ fields))) None (send_by (as_names (field ∷ fields))) nothing)

-- what fields of characters say
line_said : (fields : List Field) → are_fields fields ≡ true → IfSome (line_of fields) IsSaidLine
line_said fields are =
    let said : MaySay (line_of fields) =
    one_or (option_map Row (row_line fields)) _ (row_said fields are)
    (one_or (line_of_word fields) _ (word_said fields)
    (one_or (line_of_fields fields) (line_of_channels fields) (fields_said fields) (channels_said fields))) in
    said.says

pub read_by : {E : Type 0} (read : Result (Option ScenarioLine) E) (fields : List Field) → are_fields fields ≡ true
    → IfOk read (λ said. said ≡ line_of fields) → IfOk read (λ said. IfSome said IsSaidLine)
read_by (Ok said) fields are is = subst (λ (o : Option ScenarioLine). IfSome o IsSaidLine) (sym is) (line_said fields are)
read_by (Err none) fields are is = tt
