-- In the one configuration no row that a batch brought is captured.
use Rattle.std.proofs.Common.{◌≡◌, ℕ, Bool, true, false, ◌==◌, List, [], ◌∷◌, Option, None, Some, refl}
use Rattle.std.specs.Prelude.{if◌then◌else◌}
use Rattle.sds_first_spec.specs.declared.row.Done.{Done}
use Rattle.sds_types.specs.declared.row.RowStep.{RowStep}
use Rattle.sds_types.specs.declared.row.RowStep.TheVariants.{Insert, Update, Delete}
use Rattle.sds_first_spec.specs.Changes.{changes_from, captured_channel}
use Rattle.sds_first_spec.specs.One.{one}

or_none : (b : Bool) → if◌then◌else◌ {A = Option ℕ} b None None ≡ None
or_none true = refl
or_none false = refl

not_captured : (group : List ℕ) (step : RowStep) → captured_channel one group false step ≡ None
not_captured group (Insert table row) = or_none (0 == table)
not_captured group (Update table key row) = or_none (0 == table)
not_captured group (Delete table key) = or_none (0 == table)

pub no_changes : (group sender : List ℕ) (id tx : ℕ) (dones : List Done) → changes_from one group (Some sender) id tx dones ≡ []
no_changes group sender id tx [] = refl
no_changes group sender id tx (done ∷ dones) = rw (not_captured group done.step) (no_changes group sender id tx dones)
