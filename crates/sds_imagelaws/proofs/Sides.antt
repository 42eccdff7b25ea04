-- The rows of a change: which stand, and that no null stands in them where none is allowed.
use Rattle.std.proofs.Common.{◌≡◌, ℕ, ◌&&◌, Bool, true, false, not, List, Option, None, Some, refl, sym, get_or, true≢false}
use Rattle.std.specs.Prelude.{IfSome, is_some}
use Rattle.std.specs.List.{zip}
use Rattle.std.specs.Option.{is_none}
use Rattle.sds_value.specs.declared.row.Event.{Event}
use Rattle.sds_value.specs.declared.row.Event.TheVariants.{Insert, Update, Delete}
use Rattle.sds_types.specs.declared.config.Config.{Config}
use Rattle.sds_trade.specs.rules.Places.{columns_at}
use Rattle.sds_trade.specs.rules.StepRules.{has_null}
use Rattle.sds_trade.specs.rules.Tables.{IsRowOf, is_null}
use Rattle.sds_history.specs.history.SoundParts.{has_new, has_old}
use Rattle.sds_records.specs.Parts.{FitsSide}
use Rattle.sds_records.specs.Told.{sides_stand}
use Rattle.sds_nodelaws.proofs.Lists.{and_both}
use Rattle.sds_nodelaws.proofs.TableRuns.{new_held}
use Rattle.sds_image.specs.Reading.{side_has_null}
use Rattle.sds_value.specs.declared.kind.Value.{Value}
use Rattle.sds_value.specs.declared.table.ColumnDef.{ColumnDef}
use Rattle.sds_value.specs.Values.{fits}
use Rattle.sds_imagelaws.proofs.Walks.{none_passes}
use Rattle.sds_types.specs.declared.row.Row as row

-- SIDES of a change
left_side : (a b : Bool) → (a && b) ≡ true → a ≡ true
left_side true b is = refl
left_side false b is = is

right_side : (a b : Bool) → (a && b) ≡ true → b ≡ true
right_side true b is = is
right_side false b is = absurd (true≢false (sym is))

is_absent : {A : Type 0} (o : Option A) → is_none o ≡ true → is_some o ≡ false
is_absent None is = refl
is_absent (Some x) is = absurd (true≢false (sym is))

pub new_stands : (event : Event) (new old : Option row.Row) → sides_stand event new old ≡ true → is_some new ≡ has_new event
new_stands Insert new old is = left_side (is_some new) (is_none old) is
new_stands Update new old is = left_side (is_some new) (is_some old) is
new_stands Delete new old is = is_absent new (left_side (is_none new) (is_some old) is)

pub old_stands : (event : Event) (new old : Option row.Row) → sides_stand event new old ≡ true → is_some old ≡ has_old event
old_stands Insert new old is = is_absent old (right_side (is_some new) (is_none old) is)
old_stands Update new old is = right_side (is_some new) (is_some old) is
old_stands Delete new old is = right_side (is_none new) (is_some old) is

pub side_held : (config : Config) (table : ℕ) (side : Option row.Row) → FitsSide config.tables table side → side_has_null config table side ≡ false
    → IfSome side (IsRowOf (columns_at config.tables table))
side_held config table None fit none = tt
side_held config table (Some row) fit none = new_held config.tables table row fit none

-- NO NULL stands where none is allowed
no_null_at : (null not_null fit : Bool) → elim null [ true ↦ not not_null | false ↦ fit ] ≡ true → (not_null && null) ≡ false
no_null_at true true fit holds = absurd (true≢false (sym holds))
no_null_at true false fit holds = refl
no_null_at false true fit holds = refl
no_null_at false false fit holds = refl

pub no_null : (columns : List ColumnDef) (row : row.Row) → IsRowOf columns row → has_null columns row ≡ false
no_null columns row is =
    none_passes (λ (at : ColumnDef × Value). at.0.not_null && is_null at.1) (zip columns row.0)
    (λ k d within.
    let at : ColumnDef × Value = get_or (zip columns row.0) k d in
    no_null_at (is_null at.1) at.0.not_null (fits at.0.kind at.1) (is.held k d within))

pub side_no_null : (config : Config) (table : ℕ) (side : Option row.Row) → IfSome side (IsRowOf (columns_at config.tables table)) → side_has_null config table side ≡ false
side_no_null config table None is = refl
side_no_null config table (Some row) is = no_null (columns_at config.tables table) row is

stands_none : {A : Type 0} (o : Option A) → is_some o ≡ false → is_none o ≡ true
stands_none None is = refl
stands_none (Some x) is = absurd (true≢false is)

pub sides_so : (event : Event) (new old : Option row.Row) → is_some new ≡ has_new event → is_some old ≡ has_old event → sides_stand event new old ≡ true
sides_so Insert new old is also = and_both (is_some new) (is_none old) is (stands_none old also)
sides_so Update new old is also = and_both (is_some new) (is_some old) is also
sides_so Delete new old is also = and_both (is_none new) (is_some old) (stands_none new is) also
