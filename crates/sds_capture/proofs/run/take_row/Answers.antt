use Rattle.sds_rows.specs.Undoing.{without_undos}
use Rattle.sds_capture.proofs.Running.{broken_row, made_step, skipped_batch, step_allowed}
use Rattle.sds_capture.proofs.run.take_row.Goals as goal

pub make-requires : goal.make-requires
make-requires g c = step_allowed _ _ _ _ _ _ c.by_step_rules.ensures c.in-Apply.is

pub returns-in_ok-make-in-Apply-clause-ends : goal.returns-in_ok-make-in-Apply-clause-ends
returns-in_ok-make-in-Apply-clause-ends g c =
    made_step c.args.at.now (g.J.Judge.asked c.args.judge.now) c.args.tables.now.defs c.args.tables.now.rows c.args.row.now
    c.in_ok-asks.asks c.by_step_rules.result c.requires.defs c.in_ok-asks.ensures c.by_step_rules.ensures
    c.in-Apply.step c.make.new.self.rows (without_undos c.args.dones.now.items) (without_undos c.make.new.dones.items)
    c.in-Apply.is c.in_ok-make-in-Apply.ensures.made c.in_ok-make-in-Apply.ensures.rows

pub returns-in-SkipBatch-clause-ends : goal.returns-in-SkipBatch-clause-ends
returns-in-SkipBatch-clause-ends g c =
    skipped_batch c.args.at.now (g.J.Judge.asked c.args.judge.now) c.args.tables.now.defs c.args.tables.now.rows c.args.row.now
    c.in_ok-asks.asks c.by_step_rules.result c.requires.defs c.in_ok-asks.ensures c.by_step_rules.ensures
    (without_undos c.args.dones.now.items) c.in-SkipBatch.is

pub returns-in-Broken-clause-ends : goal.returns-in-Broken-clause-ends
returns-in-Broken-clause-ends g c =
    broken_row c.args.at.now (g.J.Judge.asked c.args.judge.now) c.args.tables.now.defs c.args.tables.now.rows c.args.row.now
    c.in_ok-asks.asks c.by_step_rules.result c.requires.defs c.in_ok-asks.ensures c.by_step_rules.ensures
    (without_undos c.args.dones.now.items) c.in-Broken.rule c.in-Broken.is
