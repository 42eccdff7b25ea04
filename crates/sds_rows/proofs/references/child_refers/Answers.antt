use Rattle.std.proofs.Common.{◌∙◌, sym, ap}
use Rattle.std.specs.List.{list_any}
use Rattle.sds_rows.specs.Searches.{is_reference_to}
use Rattle.sds_rows.proofs.Children.{no_children}
use Rattle.sds_rows.proofs.references.child_refers.Goals as goal

pub returns-else-has_parent : goal.returns-else-has_parent
returns-else-has_parent c =
    c.if-has_parent.false
    ∙ sym (no_children c.args.table (record { 0 = c.args.key.now }) c.args.defs.now c.args.child c.args.rows.now
    (ap (list_any (is_reference_to c.args.table)) (sym c.columns_at.ensures)
    ∙ (sym c.has_parent.ensures ∙ c.if-has_parent.false)))
