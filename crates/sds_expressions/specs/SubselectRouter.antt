-- Decides a `subselect` router's expressions character by character; the form is in SubselectForm.
use Rattle.std.specs.Prelude.{ℕ, Bool, true, false, ◌&&◌, ◌||◌, ◌==◌, nat_lt, if◌then◌else◌, List, [], ◌∷◌, ◌++◌, length, codes, Option, Some, None, Result}
use Rattle.std.specs.Char.{to_ascii_lowercase}
use Rattle.std.specs.List.{starts_with}
use Rattle.std.specs.Str.{bytes_eq}
use Rattle.sds_types.specs.declared.subselect.Compared.{Compared}
use Rattle.sds_types.specs.declared.subselect.Compared.TheVariants.{Routed, Text}
use Rattle.sds_types.specs.declared.subselect.Condition.{Condition}
use Rattle.sds_types.specs.declared.subselect.NodeColumn.{NodeColumn}
use Rattle.sds_types.specs.declared.subselect.NodeColumn.TheVariants.{ExternalId, NodeId}
use Rattle.sds_types.specs.declared.subselect.Subselect.{Subselect}
use Rattle.sds_expressions.specs.declared.subselect_router.SubselectReading.{SubselectReading}
use Rattle.sds_expressions.specs.declared.subselect_router.SubselectSlot.{SubselectSlot}
use Rattle.sds_expressions.specs.declared.subselect_router.SubselectSlot.TheVariants as slot
use Rattle.sds_value.specs.Names.{is_name_character}
use Rattle.sds_expressions.specs.Automaton.{run}
use Rattle.sds_expressions.specs.SubselectForm.{is_spacing}

-- the keywords that may stand in a slot
abbrev pub is_keyword : SubselectSlot → List ℕ → Bool
is_keyword slot.Prefix word = bytes_eq word (codes "c")
is_keyword slot.Which word = bytes_eq word (codes "external_id") || bytes_eq word (codes "node_id")
is_keyword slot.In word = bytes_eq word (codes "in")
is_keyword slot.Select word = bytes_eq word (codes "select")
is_keyword slot.From word = bytes_eq word (codes "from")
is_keyword slot.Where word = bytes_eq word (codes "where")
is_keyword slot.Next word = bytes_eq word (codes "and")
is_keyword other word = false

-- the word is the prefix of such a keyword
abbrev pub is_prefix : List ℕ → List ℕ → Bool
is_prefix keyword word = starts_with (λ a b. a == b) keyword word

abbrev pub begins_keyword : SubselectSlot → List ℕ → Bool
begins_keyword slot.Prefix word = is_prefix (codes "c") word
begins_keyword slot.Which word = is_prefix (codes "external_id") word
    || is_prefix (codes "node_id") word
begins_keyword slot.In word = is_prefix (codes "in") word
begins_keyword slot.Select word = is_prefix (codes "select") word
begins_keyword slot.From word = is_prefix (codes "from") word
begins_keyword slot.Where word = is_prefix (codes "where") word
begins_keyword slot.Next word = is_prefix (codes "and") word
begins_keyword other word = false

-- the slots of names
abbrev pub takes_name : SubselectSlot → Bool
takes_name slot.Column = true
takes_name slot.Table = true
takes_name slot.Tested = true
takes_name slot.Routed = true
takes_name other = false

-- the reading stands before a slot; a word may begin there at once, or only after spacing
abbrev pub moved : SubselectReading → SubselectSlot → Bool → SubselectReading
moved reading next spaced = record reading { word = []; spaced = spaced; slot = next }

abbrev pub node_column : List ℕ → NodeColumn
node_column word = if bytes_eq word (codes "node_id") then NodeId else ExternalId

-- the reading with one condition more
abbrev pub with_condition : SubselectReading → Compared → Bool → SubselectReading
with_condition reading value spaced =
    let condition : Condition = record { column = reading.tested; value = value } in
    moved (record reading { conditions = reading.conditions ++ condition ∷ [] }) slot.Next spaced

-- after a whole word
abbrev pub finished_at : SubselectSlot → SubselectReading → SubselectReading
finished_at slot.Prefix reading = moved reading slot.Dot false
finished_at slot.Which reading =
    moved (record reading { by = node_column reading.word }) slot.In false
finished_at slot.In reading = moved reading slot.Open false
finished_at slot.Select reading = moved reading slot.Column false
finished_at slot.Column reading = moved (record reading { column = reading.word }) slot.From false
finished_at slot.From reading = moved reading slot.Table false
finished_at slot.Table reading = moved (record reading { table = reading.word }) slot.Where false
finished_at slot.Where reading = moved reading slot.Tested false
finished_at slot.Tested reading = moved (record reading { tested = reading.word }) slot.Equals false
finished_at slot.Routed reading = with_condition reading (Routed reading.word) false
finished_at slot.Next reading = moved reading slot.Tested false
finished_at other reading = reading

-- a sign, round which spacing may stand
abbrev pub sign : ℕ → SubselectSlot → SubselectReading → ℕ → Option SubselectReading
sign mark next reading c = if is_spacing c then Some reading else (if c == mark
    then Some (moved reading next true) else None)

-- before a keyword, and before a name
abbrev pub before_keyword : SubselectReading → ℕ → Option SubselectReading
before_keyword reading c = if is_spacing c then Some (record reading { spaced = true })
    else (if reading.spaced && begins_keyword reading.slot (to_ascii_lowercase c ∷ [])
    then Some (record reading { word = to_ascii_lowercase c ∷ [] }) else None)

abbrev pub before_name : SubselectReading → ℕ → Option SubselectReading
before_name reading c = if is_spacing c then Some (record reading { spaced = true })
    else (if reading.spaced && is_name_character c then Some (record reading { word = c ∷ [] })
    else None)

-- after a condition: `and`, or the closing parenthesis
abbrev pub before_next : SubselectReading → ℕ → Option SubselectReading
before_next reading c = if c == 41 then Some (moved reading slot.Close true)
    else before_keyword reading c

-- before the value of a condition
abbrev pub before_value : SubselectReading → ℕ → Option SubselectReading
before_value reading c = if is_spacing c then Some reading
    else (if c == 58 then Some (moved reading slot.Routed true)
    else (if c == 39 then Some (moved reading slot.Quoted true) else None))

-- after the closing parenthesis
abbrev pub after_all : SubselectReading → ℕ → Option SubselectReading
after_all reading c = if is_spacing c then Some reading else None

-- between quotes
abbrev pub in_quotes : SubselectReading → ℕ → Option SubselectReading
in_quotes reading c = if c == 39 then Some (record reading { slot = slot.Quote })
    else Some (record reading { word = reading.word ++ c ∷ [] })

-- where no word has begun
abbrev pub fresh_at : SubselectSlot → SubselectReading → ℕ → Option SubselectReading
fresh_at slot.Dot reading c = sign 46 slot.Which reading c
fresh_at slot.Open reading c = sign 40 slot.Select reading c
fresh_at slot.Equals reading c = sign 61 slot.Value reading c
fresh_at slot.Value reading c = before_value reading c
fresh_at slot.Column reading c = before_name reading c
fresh_at slot.Table reading c = before_name reading c
fresh_at slot.Tested reading c = before_name reading c
fresh_at slot.Routed reading c = before_name reading c
fresh_at slot.Next reading c = before_next reading c
fresh_at slot.Close reading c = after_all reading c
fresh_at other reading c = before_keyword reading c

abbrev pub fresh : SubselectReading → ℕ → Option SubselectReading
fresh reading c = fresh_at reading.slot reading c

-- the reading with one character more in its word
abbrev pub longer : SubselectReading → ℕ → SubselectReading
longer reading c = record reading { word = reading.word ++ c ∷ [] }

-- in a name, and in a keyword
abbrev pub in_name : SubselectReading → ℕ → Option SubselectReading
in_name reading c =
    if is_name_character c
    then (if nat_lt (length reading.word) 50 then Some (longer reading c) else None)
    else fresh (finished_at reading.slot reading) c

abbrev pub in_keyword : SubselectReading → ℕ → Option SubselectReading
in_keyword reading c = if begins_keyword reading.slot (reading.word ++ to_ascii_lowercase c ∷ [])
    then Some (record reading { word = reading.word ++ to_ascii_lowercase c ∷ [] })
    else (if is_keyword reading.slot reading.word then fresh (finished_at reading.slot reading) c
    else None)

-- after a quote that ends the text or is the first of two
abbrev pub after_quote : SubselectReading → ℕ → Option SubselectReading
after_quote reading c =
    if c == 39 then Some (record (longer reading c) { slot = slot.Quoted })
    else fresh (with_condition reading (Text reading.word) true) c

-- outside quotes
abbrev pub outside : List ℕ → SubselectReading → ℕ → Option SubselectReading
outside [] reading c = fresh reading c
outside (w ∷ ws) reading c = if takes_name reading.slot then in_name reading c
    else in_keyword reading c

abbrev pub step_at : SubselectSlot → SubselectReading → ℕ → Option SubselectReading
step_at slot.Quoted reading c = in_quotes reading c
step_at slot.Quote reading c = after_quote reading c
step_at other reading c = outside reading.word reading c

abbrev pub step : SubselectReading → ℕ → Option SubselectReading
step reading c = step_at reading.slot reading c

-- the choice of a text that ends here, where it may
abbrev pub choice_at : SubselectSlot → SubselectReading → Option Subselect
choice_at slot.Close reading = Some (record {
  by = reading.by;
  column = reading.column;
  table =
      reading.table;
  conditions = reading.conditions;
})
choice_at other reading = None

abbrev pub finish : SubselectReading → Option Subselect
finish reading = choice_at reading.slot reading

abbrev pub beginning : SubselectReading
beginning = record {
  by = ExternalId;
  column = [];
  table = [];
  tested = [];
  conditions = [];
  word =
      [];
  spaced = true;
  slot = slot.Prefix;
}

-- the choice that a text says, or the place at which it leaves the form
abbrev pub subselect_of : List ℕ → Result Subselect ℕ
subselect_of text = run step finish 0 beginning text
