-- The words that the program is called with: one simple command of clap's, and what is asked of its values.
use Rattle.std.specs.Prelude.{◌≡◌, ◌≢◌, ◌⊎◌, ℕ, Bool, true, false, not, ◌||◌, ◌==◌, nat_le, nat_lt, List, [], ◌∷◌, length, map}
use Rattle.std.specs.Prelude.{codes, find, slice_get, Option, Some, None, Result, Ok, Err, unwrap_or}
use Rattle.std.specs.Prelude.{option_map, option_and_then, if◌then◌else◌}
use Rattle.std.specs.Option.{option_map_or}
use Rattle.std.specs.Str.{bytes_eq, chars, encode_utf8_all}
use Rattle.clap.specs.Faults.{fault_of}
use Rattle.clap.specs.Kinds.{IsAmong}
use Rattle.clap.specs.Lexer.{usize_max}
use Rattle.clap.specs.Simple.{App, matches_of, new_app, new_rule, with_rule}
use Rattle.clap.specs.Walk.{Row, Rule}
use Rattle.clap.specs.declared.builder.action.ArgAction.TheVariants.{Set, Append}
use Rattle.clap.specs.declared.error.kind.ErrorKind.{ErrorKind}
use Rattle.clap.specs.declared.error.kind.ErrorKind.TheVariants as kind
use Rattle.sds_expressions.specs.Numbers.{plain_number}
use Rattle.symds.specs.declared.words.Order.{Order}
use Rattle.symds.specs.declared.words.WordsRefusal.{WordsRefusal}
use Rattle.symds.specs.declared.words.WordsRefusal.TheVariants.{Bad, Help, Version, NoMemory}

-- THE COMMAND LINE, as clap reads it: three options with their defaults, a command, and any number of words after it
abbrev pub option_rule : List ℕ → List ℕ → Rule
option_rule name default =
    record (new_rule name) { long = Some name; action = Some Set; defaults = default ∷ [] }

abbrev pub folder_rule : Rule
folder_rule = option_rule (codes "folder") (codes ".")

abbrev pub keeper_rule : Rule
keeper_rule = option_rule (codes "keeper") (codes "journal")

abbrev pub port_rule : Rule
port_rule = option_rule (codes "port") (codes "31415")

abbrev pub command_rule : Rule
command_rule = record (new_rule (codes "command")) { action = Some Set; required = true }

abbrev pub rest_rule : Rule
rest_rule = record (new_rule (codes "rest")) {
  action = Some Append;
  range = Some (record { start_inclusive = 0; end_inclusive = usize_max });
}

abbrev pub bare_program : App
bare_program = record {
  top = record (new_app (codes "symds")).top { no_binary_name = true; has_version = true };
  subs = [];
}

abbrev pub program_with_options : App
program_with_options = with_rule (with_rule (with_rule bare_program folder_rule) keeper_rule) port_rule

abbrev pub program : App
program = with_rule (with_rule program_with_options command_rule) rest_rule

-- ITS VALUES, by the name of an argument
abbrev pub values_in : List Row → List ℕ → List (List ℕ)
values_in rows id = option_map_or (λ row. row.values) (find (λ row. bytes_eq row.id id) rows) []

-- a value that isn't empty and doesn't begin with `-`
abbrev pub is_plain : List ℕ → Bool
is_plain [] = false
is_plain (c ∷ cs) = not (c == 45)

abbrev pub plain : List ℕ → Option (List ℕ)
plain value = if is_plain value then Some value else None

abbrev pub value_in : List Row → List ℕ → Option (List ℕ)
value_in rows id = option_and_then plain (slice_get (values_in rows id) 0)

-- a keeper's name
abbrev pub is_keeper : List ℕ → Bool
is_keeper value = bytes_eq value (codes "journal") || bytes_eq value (codes "sqlite")

abbrev pub keeper_of : List ℕ → Option (List ℕ)
keeper_of value = if is_keeper value then Some value else None

-- a port, 1 to 65,535 in 1 to 19 decimal digits, leading zeros among them
abbrev pub without_zeros : List ℕ → List ℕ
without_zeros [] = []
without_zeros (b ∷ text) = if b == 48 then without_zeros text else b ∷ text

abbrev pub port_of : List ℕ → Option ℕ
port_of text = if nat_le (length text) 19 then plain_number 65535 (without_zeros text) else None

-- THE ORDER that the values make
abbrev pub keeper_in : List Row → Option (List ℕ)
keeper_in rows = option_and_then keeper_of (value_in rows (codes "keeper"))

abbrev pub port_in : List Row → Option ℕ
port_in rows = option_and_then port_of (value_in rows (codes "port"))

abbrev pub command_in : List Row → List ℕ
command_in rows = chars (unwrap_or (slice_get (values_in rows (codes "command")) 0) [])

abbrev pub characters_of : List (List ℕ) → List (List ℕ)
characters_of texts = map chars texts

abbrev pub rest_in : List Row → List (List ℕ)
rest_in rows = characters_of (values_in rows (codes "rest"))

abbrev pub order_by : List Row → List ℕ → List ℕ → ℕ → Order
order_by rows folder keeper port = record {
  folder = chars folder;
  keeper = chars keeper;
  port = port;
  command = command_in rows;
  rest = rest_in rows;
}

abbrev pub order_in : List Row → Option Order
order_in rows =
    option_and_then (λ folder. option_and_then (λ keeper. option_map (λ port.
    order_by rows folder keeper port)
    (port_in rows)) (keeper_in rows)) (value_in rows (codes "folder"))

-- the place of the first word after the command that doesn't fit, or 0 where the command isn't one
abbrev pub misfit_of : List ℕ → ℕ → Option ℕ
misfit_of command words =
    if bytes_eq command (codes "rehearse") then (if nat_lt 0 words then Some 1 else None) else Some 0

abbrev pub judged : Option ℕ → Order → Result Order WordsRefusal
judged None order = Ok order
judged (Some place) order = Err (Bad place)

abbrev pub order_from : List Row → Result Order WordsRefusal
order_from rows = elim (order_in rows) [
  | None ↦ Err (Bad 0)
  | Some order ↦ judged (misfit_of (encode_utf8_all order.command) (length order.rest)) order
]

-- the values are no order, for this reason
abbrev pub IsBadOrder : List Row → WordsRefusal → Type 0
IsBadOrder rows why = (place : ℕ) × ((why ≡ Bad place) × (order_from rows ≡ Err (Bad place)))

abbrev pub order_of : List (List ℕ) → Result Order WordsRefusal
order_of texts = order_from (matches_of program texts)

-- why words are refused that clap refuses
abbrev pub words_refusal_of : ErrorKind → WordsRefusal
words_refusal_of kind.DisplayHelp = Help
words_refusal_of kind.DisplayVersion = Version
words_refusal_of kind.OutOfMemory = NoMemory
words_refusal_of mistake = Bad 0

-- WORDS, each a list of characters: the order that they are, or why they are none
abbrev pub texts_of : List (List ℕ) → List (List ℕ)
texts_of words = map encode_utf8_all words

abbrev pub IsOrder : List (List ℕ) → Order → Type 0
IsOrder words order = (fault_of program (texts_of words) ≡ []) × (order_of (texts_of words) ≡ Ok order)

abbrev pub IsMistake : ErrorKind → Type 0
IsMistake mistake = (mistake ≢ kind.DisplayHelp) × (mistake ≢ kind.DisplayVersion)

abbrev pub IsRefused : List (List ℕ) → WordsRefusal → Type 0
IsRefused words (Bad place) =
    ((fault_of program (texts_of words) ≡ []) × (order_of (texts_of words) ≡ Err (Bad place)))
    ⊎ ((place ≡ 0) × ((mistake : ErrorKind)
    × (IsAmong mistake (fault_of program (texts_of words)) × IsMistake mistake)))
IsRefused words Help = IsAmong kind.DisplayHelp (fault_of program (texts_of words))
IsRefused words Version = IsAmong kind.DisplayVersion (fault_of program (texts_of words))
IsRefused words NoMemory = Unit {0}

-- the words ask for this and for nothing else
abbrev pub IsHelp : List (List ℕ) → Type 0
IsHelp words = fault_of program (texts_of words) ≡ kind.DisplayHelp ∷ []

abbrev pub IsVersion : List (List ℕ) → Type 0
IsVersion words = fault_of program (texts_of words) ≡ kind.DisplayVersion ∷ []

-- the words are no order: a value or a word after the command doesn't fit, or clap finds one mistake
abbrev pub IsMisfit : List (List ℕ) → ℕ → Type 0
IsMisfit words place =
    ((fault_of program (texts_of words) ≡ []) × (order_of (texts_of words) ≡ Err (Bad place)))
    ⊎ ((place ≡ 0) × ((mistake : ErrorKind)
    × ((fault_of program (texts_of words) ≡ mistake ∷ []) × IsMistake mistake)))
