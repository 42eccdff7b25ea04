use Rattle.std.proofs.Common.{◌++◌}
use Rattle.std.proofs.lemmas.Result.{on_ok_weaker}
use Rattle.sds_batchtext.specs.Writing.{heading_lines, later_lines, row_lines}
use Rattle.sds_batchtext.proofs.Joins.{join_lines}
use Rattle.sds_batchtext.proofs.writing.put_from.Goals as goal

pub returns-clause-ok : goal.returns-clause-ok
returns-clause-ok c = on_ok_weaker c.put_later.result (λ last.
    join_lines c.args.out.now.items c.put_heading.new.out.items c.put_later.new.out.items (heading_lines c.args.first.now) (row_lines c.args.first.now ++ later_lines c.args.first.now c.args.others.now)
    c.in_ok-put_heading.ensures.ok
    (join_lines c.put_heading.new.out.items c.put_row.new.out.items c.put_later.new.out.items (row_lines c.args.first.now) (later_lines c.args.first.now c.args.others.now) c.in_ok-put_row.ensures.ok last)) c.put_later.ensures.ok
