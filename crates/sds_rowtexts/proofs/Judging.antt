-- A row of a table that there is becomes what its texts become, or the first rule that they break.
use Rattle.std.proofs.Common.{◌≡◌, ◌∙◌, ℕ, Bool, true, false, List, [], length, get_or, refl, sym, ap, Some, Result, Ok, Err}
use Rattle.std.specs.Prelude.{slice_get}
use Rattle.std.specs.List.{list_any}
use Rattle.std.specs.Str.{bytes_eq}
use Rattle.std.proofs.lemmas.List.Quantifiers.{position-Some}
use Rattle.std.proofs.lemmas.Option.{slice_get_read}
use Rattle.sds_value.specs.declared.kind.Binary.{Binary}
use Rattle.sds_value.specs.declared.row.DocRow.{DocRow}
use Rattle.sds_value.specs.declared.table.TableDef.{TableDef}
use Rattle.sds_types.specs.declared.load_row.LoadRow.{LoadRow}
use Rattle.sds_types.specs.declared.rule.Rule.{Rule}
use Rattle.sds_types.specs.declared.transform.Add.{Add}
use Rattle.sds_trade.specs.rules.DocRows.{tells_key}
use Rattle.sds_trade.specs.rules.LoadRows.{row_of, with_adds}
use Rattle.sds_trade.specs.rules.Places.{table_place}
use Rattle.sds_trade.specs.rules.TextRules.{is_bad, is_too_long, refusals_in}
use Rattle.sds_rowtexts.specs.declared.texts.Texts.{Texts}
use Rattle.sds_rowtexts.specs.Named.{key_names_of}
use Rattle.sds_rowtexts.specs.Texts.{names_are, texts_or_rule}

-- the row of these texts, with what it adds
abbrev pub row_by : ℕ → ℕ → DocRow → List Add → Result Texts Rule → Result LoadRow Rule
row_by number place row adds (Err rule) = Err rule
row_by number place row adds (Ok texts) = Ok (with_adds (record {
  row = number;
  table = place;
  event = row.event;
  key = record { 0 = texts.key };
  columns = texts.columns;
  new = texts.new;
  old = texts.old;
  adds = [];
}) adds)

judged_by : (defs : List TableDef) (form : Binary) (number : ℕ) (row : DocRow) (adds : List Add) (place : ℕ) (def : TableDef)
    → table_place defs row.table ≡ Some place → slice_get defs place ≡ Some def
    → (named tells bad long : Bool) → names_are def.columns row ≡ named → tells_key (key_names_of def) row ≡ tells
    → list_any is_bad (refusals_in form def.columns row) ≡ bad → list_any is_too_long (refusals_in form def.columns row) ≡ long
    → row_of defs form number row adds ≡ row_by number place row adds (texts_or_rule def form row)
judged_by defs form number row adds place def found at false tells bad long n t b l = rw (found, at, n) refl
judged_by defs form number row adds place def found at true false bad long n t b l = rw (found, at, n, t) refl
judged_by defs form number row adds place def found at true true true long n t b l = rw (found, at, n, t, b) refl
judged_by defs form number row adds place def found at true true false true n t b l = rw (found, at, n, t, b, l) refl
judged_by defs form number row adds place def found at true true false false n t b l = rw (found, at, n, t, b, l) refl

stands_at : (defs : List TableDef) (name : List ℕ) (place : ℕ) (def : TableDef) → Some place ≡ table_place defs name → def ≡ get_or defs place def → slice_get defs place ≡ Some def
stands_at defs name place def found is =
    let first = position-Some (λ (other : TableDef). bytes_eq other.name name) defs place def (sym found) in
    slice_get_read defs (length defs) place def refl first.0 is

pub judged : (defs : List TableDef) (form : Binary) (number : ℕ) (row : DocRow) (adds : List Add) (place : ℕ) (def : TableDef) (texts : Result Texts Rule)
    → Some place ≡ table_place defs row.table → def ≡ get_or defs place def → texts ≡ texts_or_rule def form row
    → row_by number place row adds texts ≡ row_of defs form number row adds
judged defs form number row adds place def texts found is read =
    ap (row_by number place row adds) read
    ∙ sym (judged_by defs form number row adds place def (sym found) (stands_at defs row.table place def found is) (names_are def.columns row) (tells_key (key_names_of def) row)
    (list_any is_bad (refusals_in form def.columns row)) (list_any is_too_long (refusals_in form def.columns row)) refl refl refl refl)
