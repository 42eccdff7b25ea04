-- Of a sound configuration: the columns of its transforms.
use Rattle.std.specs.Prelude.{◌≡◌, ◌≢◌, ℕ, ◌≤◌, ◌⊎◌, Bool, true, false, not, ◌&&◌, ◌||◌, IsTrue, List, [], length, codes, Option, None, Some, slice_get}
use Rattle.std.specs.List.{All, AllPairs, list_any}
use Rattle.std.specs.Str.{bytes_eq}
use Rattle.sds_value.specs.Names.{is_name_text}
use Rattle.sds_value.specs.declared.kind.Kind.{Kind}
use Rattle.sds_value.specs.declared.kind.Kind.TheVariants.{Integer, Decimal}
use Rattle.sds_value.specs.declared.table.TableDef.{TableDef}
use Rattle.sds_types.specs.Limits.{most_expression_characters}
use Rattle.sds_types.specs.declared.transform.ColumnPolicy.{ColumnPolicy}
use Rattle.sds_types.specs.declared.transform.ColumnPolicy.TheVariants.{Implied}
use Rattle.sds_types.specs.declared.transform.Point.{Point}
use Rattle.sds_types.specs.declared.transform.Point.TheVariants.{Extract, Load}
use Rattle.sds_types.specs.declared.transform_column.ColumnKind.TheVariants.{Remove}
use Rattle.sds_types.specs.declared.transform_column.TransformColumn.{TransformColumn}
use Rattle.sds_trade.specs.rules.ColumnFunctions.{is_remove, is_additive, is_all_events, has_letter}
use Rattle.sds_trade.specs.rules.Places.{column_place, has_column, is_key_place}
use Rattle.sds_trade.specs.rules.Expressions.{column_expression_of}

-- one letter or more of I, U and D, none twice
pub record AreLetters (letters : List ℕ) : Type 0 where
  pub some : 1 ≤ length letters
  pub known : All (λ (letter : ℕ). IsTrue (has_letter (codes "IUD") letter)) letters
  pub apart : AllPairs (λ (a b : ℕ). a ≢ b) letters

-- two columns take part at one event
abbrev pub share_event : List ℕ → List ℕ → Bool
share_event a b = is_all_events a || (is_all_events b || list_any (has_letter b) a)

-- two columns make one target at one event
abbrev pub clash : TransformColumn → TransformColumn → Bool
clash a b = bytes_eq a.target b.target && share_event a.include_on b.include_on

-- a number may be added to a column of the table that holds numbers and is no key
abbrev pub is_number : Kind → Bool
is_number Integer = true
is_number (Decimal digits) = true
is_number kind = false

abbrev pub is_number_at : TableDef → Option ℕ → Bool
is_number_at def None = false
is_number_at def (Some place) = elim (slice_get def.columns place) [
  | None ↦ false
  | Some column ↦ is_number column.kind && not (is_key_place def place)
]

abbrev pub takes_sums : TableDef → List ℕ → Bool
takes_sums def name = is_number_at def (column_place def.columns name)

-- where a batch is written the source is a column of the configuration's table, and where it is
-- loaded the target is
abbrev pub IsColumnKnown : Point → TableDef → TransformColumn → Type 0
IsColumnKnown Extract def column = (column.source ≡ []) ⊎ IsTrue (has_column def column.source)
IsColumnKnown Load def column = (column.kind ≡ Remove) ⊎ IsTrue (has_column def column.target)

-- a column of a transform of a point and a policy, whose own table is this one
pub record IsTransformColumn (point : Point) (policy : ColumnPolicy) (def : TableDef)
    (column : TransformColumn) : Type 0 where
  pub target : IsTrue (is_name_text column.target)
  pub source : (column.source ≡ []) ⊎ IsTrue (is_name_text column.source)
  pub known : IsColumnKnown point def column
  pub events : (column.include_on ≡ codes "*") ⊎ AreLetters column.include_on
  pub key_events : column.pk ≡ true → column.include_on ≡ codes "*"
  pub key_made : column.pk ≡ true → is_remove column.kind ≡ false
  pub short : length column.expression ≤ most_expression_characters
  pub parsed : column_expression_of column.kind column.expression ≡ Some column.parsed
  pub removes : is_remove column.kind ≡ true → policy ≡ Implied
  pub adds_at : is_additive column.kind ≡ true → point ≡ Load
  pub adds_to : is_additive column.kind ≡ true → takes_sums def column.target ≡ true
  pub adds_no_key : is_additive column.kind ≡ true → column.pk ≡ false
