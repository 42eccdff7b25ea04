-- What a line says has the line's directive.
use Rattle.std.proofs.Common.{◌≡◌, ℕ, List, refl, Option, Some, None, IfSome}
use Rattle.sds_value.specs.declared.row.Field.{Field}
use Rattle.sds_batchtext.specs.declared.directive.Directive.{Directive}
use Rattle.sds_batchtext.specs.declared.directive.Directive.TheVariants as directive
use Rattle.sds_batchtext.specs.declared.doc_line.DocLine.{DocLine}
use Rattle.sds_batchtext.specs.declared.doc_line.DocLine.TheVariants.{NodeId, Binary as BinaryForm, Channel, Batch, Table, Keys, Columns, Commit}
use Rattle.sds_batchtext.specs.DocLines.{name_in, names_in, id_in, binary_in, said, line_said, directive_for}

of_said : {A : Type 0} (d : Directive) (say : A → DocLine) (o : Option A) → ((x : A) → directive_for (say x) ≡ d) → IfSome (said say o) (λ line. directive_for line ≡ d)
of_said d say None each = tt
of_said d say (Some x) each = each x

pub directive_said : (number : ℕ) (d : Directive) (fields : List Field) → IfSome (line_said number d fields) (λ line. directive_for line ≡ d)
directive_said number directive.NodeId fields = of_said directive.NodeId (λ id. NodeId (record { id = id; line = number })) (name_in fields) (λ x. refl)
directive_said number directive.Binary fields = of_said directive.Binary BinaryForm (binary_in fields) (λ x. refl)
directive_said number directive.Channel fields = of_said directive.Channel Channel (name_in fields) (λ x. refl)
directive_said number directive.Batch fields = of_said directive.Batch Batch (id_in fields) (λ x. refl)
directive_said number directive.Table fields = of_said directive.Table Table (name_in fields) (λ x. refl)
directive_said number directive.Keys fields = of_said directive.Keys Keys (names_in fields) (λ x. refl)
directive_said number directive.Columns fields = of_said directive.Columns Columns (names_in fields) (λ x. refl)
directive_said number directive.Insert fields = refl
directive_said number directive.Update fields = refl
directive_said number directive.Old fields = refl
directive_said number directive.Delete fields = refl
directive_said number directive.Commit fields = of_said directive.Commit Commit (id_in fields) (λ x. refl)
directive_said number directive.Skipped fields = refl
