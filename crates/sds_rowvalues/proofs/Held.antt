-- The values of a row suit their columns.
use Rattle.std.proofs.Common.{◌≡◌, ◌<◌, ◌||◌, ◌∙◌, ℕ, List, length, get_or, arith, ap, sym, subst}
use Rattle.std.proofs.lemmas.Slice.Zip.{length-zip, get_or-zip}
use Rattle.std.specs.Prelude.{IsTrue}
use Rattle.std.specs.List.{zip}
use Rattle.sds_value.specs.declared.kind.Value.{Value}
use Rattle.sds_value.specs.declared.table.ColumnDef.{ColumnDef}
use Rattle.sds_value.specs.Values.{fits}
use Rattle.sds_trade.specs.rules.Fitting.{FitColumns, Suits}
use Rattle.sds_trade.specs.rules.Tables.{is_null}

pub suits : (columns : List ColumnDef) (values : List Value) (place : ℕ) (column : ColumnDef) (value : Value) → FitColumns columns values
    → place < length columns → place < length values → column ≡ get_or columns place column → value ≡ get_or values place value
    → IsTrue (is_null value || fits column.kind value)
suits columns values place column value fit inside within at is =
    let both : place < length (zip columns values) = rw (length-zip columns values) (omega arith) in
    let pair : get_or (zip columns values) place (column, value) ≡ (column, value) =
    get_or-zip columns values place (column, value) inside within
    ∙ (ap (λ (x : ColumnDef). (x, get_or values place value)) (sym at) ∙ ap (λ (y : Value). (column, y)) (sym is)) in
    subst Suits pair (fit.each place (column, value) both)
