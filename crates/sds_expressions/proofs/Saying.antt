-- The deciders say what the forms say.
use Rattle.std.proofs.Common.{◌≡◌, ◌↔◌, ℕ, List, Result, Ok, Err, IfOk, refl, sym, ◌∙◌}
use Rattle.sds_types.specs.declared.column_test.ColumnTest.{ColumnTest}
use Rattle.sds_types.specs.declared.lookup.Lookup.{Lookup}
use Rattle.sds_types.specs.declared.subselect.Subselect.{Subselect}
use Rattle.sds_expressions.specs.declared.column_router.ColumnReading.{ColumnReading}
use Rattle.sds_expressions.specs.declared.lookup_router.LookupReading.{LookupReading}
use Rattle.sds_expressions.specs.declared.subselect_router.SubselectReading.{SubselectReading as ChoiceReading}
use Rattle.sds_expressions.specs.Automaton.{run}
use Rattle.sds_expressions.specs.BadPlaces.{ReadsAs}
use Rattle.sds_expressions.specs.ColumnForm.{IsColumnForm}
use Rattle.sds_expressions.specs.ColumnRouter as column
use Rattle.sds_expressions.specs.LookupForm.{IsLookupForm}
use Rattle.sds_expressions.specs.LookupRouter as lookup
use Rattle.sds_expressions.specs.SubselectForm.{IsSubselectForm}
use Rattle.sds_expressions.specs.SubselectRouter as choice
use Rattle.sds_expressions.proofs.Accepting.{value_read, read_value}
use Rattle.sds_expressions.proofs.ByForm.{by_form}
use Rattle.sds_expressions.proofs.ColumnHope.{column_bad}
use Rattle.sds_expressions.proofs.ColumnSound as column_sound
use Rattle.sds_expressions.proofs.ColumnWhole as column_whole
use Rattle.sds_expressions.proofs.LookupHope.{lookup_bad}
use Rattle.sds_expressions.proofs.LookupSound as lookup_sound
use Rattle.sds_expressions.proofs.LookupWhole as lookup_whole
use Rattle.sds_expressions.proofs.SubselectHope.{subselect_bad}
use Rattle.sds_expressions.proofs.SubselectSound as choice_sound
use Rattle.sds_expressions.proofs.SubselectWhole as choice_whole

pub column_says : (text : List ℕ) (tests : List ColumnTest) → (column.tests_of text ≡ Ok tests) ↔ IsColumnForm text tests
column_says text tests = (
  λ e. column_sound.sound text tests (value_read column.step column.finish 0 column.beginning text tests e),
  λ is. read_value column.step column.finish 0 column.beginning text tests (column_whole.complete text tests is),
)

pub lookup_says : (text : List ℕ) (value : Lookup) → (lookup.lookup_read text ≡ Ok value) ↔ IsLookupForm text value
lookup_says text value = (
  λ e. lookup_sound.sound text value (value_read lookup.step lookup.finish 0 lookup.beginning text value e),
  λ is. read_value lookup.step lookup.finish 0 lookup.beginning text value (lookup_whole.complete text value is),
)

pub choice_says : (text : List ℕ) (value : Subselect) → (choice.subselect_of text ≡ Ok value) ↔ IsSubselectForm text value
choice_says text value = (
  λ e. choice_sound.sound text value (value_read choice.step choice.finish 0 choice.beginning text value e),
  λ is. read_value choice.step choice.finish 0 choice.beginning text value (choice_whole.complete text value is),
)

-- and the places are those of the forms
pub column_reads : (text : List ℕ) (read : Result (List ColumnTest) ℕ) → (column.tests_of text ≡ read) ↔ ReadsAs IsColumnForm text read
column_reads = by_form column.tests_of IsColumnForm column_says column_bad

pub lookup_reads : (text : List ℕ) (read : Result Lookup ℕ) → (lookup.lookup_read text ≡ read) ↔ ReadsAs IsLookupForm text read
lookup_reads = by_form lookup.lookup_read IsLookupForm lookup_says lookup_bad

pub choice_reads : (text : List ℕ) (read : Result Subselect ℕ) → (choice.subselect_of text ≡ read) ↔ ReadsAs IsSubselectForm text read
choice_reads = by_form choice.subselect_of IsSubselectForm choice_says subselect_bad

-- what a call returns that runs the reading from its first state
pub returned : {A E : Type 0} (P Q : A → Type 0) (result : Result A E) → ((x : A) → P x → Q x) → IfOk result P → IfOk result Q
returned P Q (Ok x) f is = f x is
returned P Q (Err e) f is = is

pub column_form : (text slice : List ℕ) (first : ColumnReading) (read : Result (List ColumnTest) ℕ) → first ≡ column.beginning → slice ≡ text → read ≡ run column.step column.finish 0 first slice → ReadsAs IsColumnForm text read
column_form text slice first read begins same e = let whole : run column.step column.finish 0 first slice ≡ column.tests_of text = rw (begins, same) refl in (column_reads text read).0 (sym (e ∙ whole))

pub lookup_form : (text slice : List ℕ) (first : LookupReading) (read : Result Lookup ℕ) → first ≡ lookup.beginning → slice ≡ text → read ≡ run lookup.step lookup.finish 0 first slice → ReadsAs IsLookupForm text read
lookup_form text slice first read begins same e = let whole : run lookup.step lookup.finish 0 first slice ≡ lookup.lookup_read text = rw (begins, same) refl in (lookup_reads text read).0 (sym (e ∙ whole))

pub choice_form : (text slice : List ℕ) (first : ChoiceReading) (read : Result Subselect ℕ) → first ≡ choice.beginning → slice ≡ text → read ≡ run choice.step choice.finish 0 first slice → ReadsAs IsSubselectForm text read
choice_form text slice first read begins same e = let whole : run choice.step choice.finish 0 first slice ≡ choice.subselect_of text = rw (begins, same) refl in (choice_reads text read).0 (sym (e ∙ whole))
