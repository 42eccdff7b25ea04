use Rattle.std.proofs.Common.{◌++◌, refl}
use Rattle.std.proofs.lemmas.Result.{on_ok_weaker}
use Rattle.sds_batchtext.specs.Writing.{heading_after, later_lines, row_lines, text_of_lines}
use Rattle.sds_batchtext.proofs.Joins.{join_lines}
use Rattle.sds_batchtext.proofs.writing.put_next.Goals as goal

pub returns-clause-ok : goal.returns-clause-ok
returns-clause-ok c = on_ok_weaker c.put_row.result (λ last rows.
    join_lines c.args.out.now.items c.put_heading_after.new.out.items (c.put_row.new.out.items ++ text_of_lines (later_lines c.args.row.now rows)) (heading_after c.args.before.now c.args.row.now)
    (row_lines c.args.row.now ++ later_lines c.args.row.now rows) c.in_ok-put_heading_after.ensures.ok
    (join_lines c.put_heading_after.new.out.items c.put_row.new.out.items (c.put_row.new.out.items ++ text_of_lines (later_lines c.args.row.now rows)) (row_lines c.args.row.now) (later_lines c.args.row.now rows) last refl)) c.put_row.ensures.ok
