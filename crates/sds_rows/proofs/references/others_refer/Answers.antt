use Rattle.std.proofs.Common.{◌∙◌, sym, arith}
use Rattle.sds_rows.proofs.Children.{no_other, some_other, tables_rise}
use Rattle.sds_rows.proofs.references.others_refer.Goals as goal

pub child_refers-requires-clause-ordered : goal.child_refers-requires-clause-ordered
child_refers-requires-clause-ordered c = tables_rise _ _ c.requires

pub returns-then-child_refers : goal.returns-then-child_refers
returns-then-child_refers c =
    sym (some_other c.args.table (record { 0 = c.args.key.now }) c.args.defs.now c.loop-child.child c.args.rows.now
    (sym c.child_refers.ensures ∙ c.if-child_refers.true))

pub returns : goal.returns
returns c =
    sym (no_other c.args.table (record { 0 = c.args.key.now }) c.args.defs.now c.args.rows.now
    (λ child known. c.loop-child.invariant child (omega (arith, c.loop-child-test.false, known))))
