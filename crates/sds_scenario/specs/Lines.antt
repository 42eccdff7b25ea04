-- What the fields of a line of a scenario say by themselves, if they say anything.
use Rattle.std.specs.Prelude.{ℕ, Bool, true, false, if◌then◌else◌, codes, List, [], ◌∷◌, Option, None, Some, option_map, option_and_then}
use Rattle.std.specs.Option.{option_or}
use Rattle.sds_value.specs.declared.row.Field.{Field}
use Rattle.sds_types.specs.declared.scenario.ScenarioLine.{ScenarioLine}
use Rattle.sds_types.specs.declared.scenario.ScenarioLine.TheVariants.{Node, Open, Register, Write, Row, End, Route, Send, Deliver, Answer, Push, Pull, Wire, Show, Batches, Crash, Fault}
use Rattle.sds_scenario.specs.Rows.{row_line}
use Rattle.sds_scenario.specs.Words.{as_name, as_names, as_number, is_word}

-- lines of one name
abbrev pub line_of_name : Field → List ℕ → Option ScenarioLine
line_of_name word node =
    if is_word word (codes "route") then Some (Route node)
    else (if is_word word (codes "show") then Some (Show node)
    else (if is_word word (codes "batches") then Some (Batches node)
    else (if is_word word (codes "crash") then Some (Crash node) else None)))

-- lines of two names
abbrev pub line_of_pair : Field → List ℕ → List ℕ → Option ScenarioLine
line_of_pair word first second =
    if is_word word (codes "register") then Some (Register first second)
    else (if is_word word (codes "push") then Some (Push first second)
    else (if is_word word (codes "pull") then Some (Pull first second) else None))

-- lines of three names
abbrev pub line_of_three : Field → List ℕ → List ℕ → List ℕ → Option ScenarioLine
line_of_three word first second third =
    if is_word word (codes "node")
    then Some (Node (record { id = first; group = second; external = third }))
    else (if is_word word (codes "open") then Some (Open first second third) else None)

-- lines of names alone
abbrev pub line_of_names : Field → List (List ℕ) → Option ScenarioLine
line_of_names word (first ∷ []) = line_of_name word first
line_of_names word (first ∷ (second ∷ [])) = line_of_pair word first second
line_of_names word (first ∷ (second ∷ (third ∷ []))) = line_of_three word first second third
line_of_names word names = None

-- `send`, two nodes, and channels
abbrev pub send_of : List (List ℕ) → Option ScenarioLine
send_of (from ∷ (to ∷ channels)) = Some (Send from to channels)
send_of names = None

-- `deliver`, a message, and channels
abbrev pub deliver_of : Option ℕ → Option (List (List ℕ)) → Option ScenarioLine
deliver_of (Some message) (Some channels) = Some (Deliver message channels)
deliver_of message channels = None

-- `write`, a node, a writer and a number
abbrev pub write_of : Option (List ℕ) → Option (List ℕ) → Option ℕ → Option ScenarioLine
write_of (Some node) (Some writer) (Some number) = Some (Write node writer number)
write_of place writer number = None

-- `fault`, a node, and whether its commit stands
abbrev pub stands_of : Field → Option Bool
stands_of word =
    if is_word word (codes "after") then Some true
    else (if is_word word (codes "before") then Some false else None)

abbrev pub fault_of : Option (List ℕ) → Option Bool → Option ScenarioLine
fault_of (Some node) (Some stands) = Some (Fault node stands)
fault_of place stands = None

-- lines of a message or a reply
abbrev pub line_of_number : Field → Field → Option ScenarioLine
line_of_number word field =
    if is_word word (codes "answer") then option_map Answer (as_number field)
    else (if is_word word (codes "wire") then option_map Wire (as_number field) else None)

-- lines whose fields aren't names alone
abbrev pub line_of_fields : List Field → Option ScenarioLine
line_of_fields (word ∷ []) = if is_word word (codes "end") then Some End else None
line_of_fields (word ∷ (field ∷ [])) = line_of_number word field
line_of_fields (word ∷ (node ∷ (stands ∷ []))) =
    if is_word word (codes "fault") then fault_of (as_name node) (stands_of stands) else None
line_of_fields (word ∷ (node ∷ (writer ∷ (number ∷ [])))) =
    if is_word word (codes "write")
    then write_of (as_name node) (as_name writer) (as_number number) else None
line_of_fields fields = None

-- `deliver` takes any count of channels, and so does `send`
abbrev pub line_of_channels : List Field → Option ScenarioLine
line_of_channels [] = None
line_of_channels (word ∷ []) = None
line_of_channels (word ∷ (field ∷ fields)) =
    if is_word word (codes "deliver") then deliver_of (as_number field) (as_names fields)
    else (if is_word word (codes "send")
    then option_and_then send_of (as_names (field ∷ fields)) else None)

abbrev pub line_of_word : List Field → Option ScenarioLine
line_of_word [] = None
line_of_word (word ∷ fields) = option_and_then (line_of_names word) (as_names fields)

-- what the fields of a line say; none where the line is malformed
abbrev pub line_of : List Field → Option ScenarioLine
line_of fields = option_or (option_map Row (row_line fields))
    (option_or (line_of_word fields) (option_or (line_of_fields fields) (line_of_channels fields)))
