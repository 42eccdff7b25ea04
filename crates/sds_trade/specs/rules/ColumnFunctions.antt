-- What a transform's column makes of the text of its source, and at which events it takes part.
use Rattle.std.specs.Prelude.{ℕ, ◌-◌, Bool, true, false, not, ◌&&◌, ◌||◌, ◌==◌, List, take, drop, codes, Option, None, Some, option_map}
use Rattle.std.specs.List.{find, list_any}
use Rattle.std.specs.Option.{option_map_or, option_or}
use Rattle.std.specs.Str.{bytes_eq}
use Rattle.sds_value.specs.declared.row.Event.{Event}
use Rattle.sds_value.specs.declared.row.Event.TheVariants.{Insert, Update, Delete}
use Rattle.sds_value.specs.declared.row.Field.{Field}
use Rattle.sds_value.specs.declared.row.Field.TheVariants.{Null, Text}
use Rattle.sds_types.specs.declared.transform_column.ColumnExpression.{ColumnExpression}
use Rattle.sds_types.specs.declared.transform_column.ColumnExpression.TheVariants as says
use Rattle.sds_types.specs.declared.transform_column.ColumnKind.{ColumnKind}
use Rattle.sds_types.specs.declared.transform_column.ColumnKind.TheVariants.{Remove, Additive}
use Rattle.sds_types.specs.declared.transform_column.MapPair.{MapPair}
use Rattle.sds_types.specs.declared.transform_column.NodeWord.{NodeWord}
use Rattle.sds_types.specs.declared.transform_column.NodeWord.TheVariants.{SourceNode, TargetNode}
use Rattle.sds_types.specs.declared.transform_column.Substring.{Substring}
use Rattle.sds_types.specs.declared.transform_column.TransformColumn.{TransformColumn}
use Rattle.sds_types.specs.declared.way.Way.{Way}

abbrev pub is_remove : ColumnKind → Bool
is_remove Remove = true
is_remove kind = false

abbrev pub is_additive : ColumnKind → Bool
is_additive Additive = true
is_additive kind = false

abbrev pub is_delete : Event → Bool
is_delete Delete = true
is_delete event = false

-- `*` stands for all events, and else each event that takes part has its letter
abbrev pub is_all_events : List ℕ → Bool
is_all_events letters = bytes_eq letters (codes "*")

abbrev pub has_letter : List ℕ → ℕ → Bool
has_letter letters letter = list_any (λ (other : ℕ). other == letter) letters

-- the letters I, U and D
abbrev pub letter_of : Event → ℕ
letter_of Insert = 73
letter_of Update = 85
letter_of Delete = 68

-- a column takes part at an event; an additive one never takes part at a delete
abbrev pub takes_part : Event → TransformColumn → Bool
takes_part event column =
    (is_all_events column.include_on || has_letter column.include_on (letter_of event))
    && not (is_additive column.kind && is_delete event)

-- the characters from one place on and before another, which end where the text ends
abbrev pub piece_of : Substring → List ℕ → List ℕ
piece_of piece text = elim piece.end [
  | None ↦ drop piece.first text
  | Some end ↦ take (end - piece.first) (drop piece.first text)
]

-- the target of the first pair of a source
abbrev pub target_of : List MapPair → List ℕ → Option (List ℕ)
target_of pairs source = option_map (λ (pair : MapPair). pair.target)
    (find (λ (pair : MapPair). bytes_eq pair.source source) pairs)

-- the target of the text, else that of `*`, else null
abbrev pub mapped_text : List MapPair → List ℕ → Field
mapped_text pairs text = option_map_or (λ (target : List ℕ). Text target)
    (option_or (target_of pairs text) (target_of pairs (codes "*"))) Null

abbrev pub node_of : Way → NodeWord → List ℕ
node_of way SourceNode = way.source
node_of way TargetNode = way.target

-- what an expression makes of its source's field: null of null, but for a constant and a variable
abbrev pub field_made : Way → ColumnExpression → Field → Field
field_made way (says.Const text) source = Text text
field_made way (says.Variable node) source = Text (node_of way node)
field_made way says.Unused source = source
field_made way (says.Additive factor) source = source
field_made way (says.Left count) Null = Null
field_made way (says.Left count) (Text text) = Text (take count text)
field_made way (says.Substr piece) Null = Null
field_made way (says.Substr piece) (Text text) = Text (piece_of piece text)
field_made way (says.ValueMap pairs) Null = Null
field_made way (says.ValueMap pairs) (Text text) = mapped_text pairs text
