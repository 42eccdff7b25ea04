use Rattle.std.proofs.Common.{◌∷◌, []}
use Rattle.std.proofs.lemmas.Result.{on_ok_weaker}
use Rattle.sds_batchtext.specs.Writing.{event_line, old_lines}
use Rattle.sds_batchtext.proofs.Joins.{join_lines}
use Rattle.sds_batchtext.proofs.writing.put_row.Goals as goal

pub returns-clause-ok : goal.returns-clause-ok
returns-clause-ok c = on_ok_weaker c.put_event.result (λ last.
    join_lines c.args.out.now.items c.put_old.new.out.items c.put_event.new.out.items (old_lines c.args.row.now.old) (event_line c.args.row.now.event c.args.row.now ∷ []) c.in_ok-put_old.ensures.ok last) c.put_event.ensures.ok
