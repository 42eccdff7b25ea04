use Rattle.std.proofs.Common.{◌++◌, ◌∷◌, []}
use Rattle.std.specs.Prelude.{codes}
use Rattle.std.proofs.lemmas.Result.{on_ok_weaker}
use Rattle.sds_line.specs.Written.{written_line}
use Rattle.sds_batchtext.proofs.Joins.{join}
use Rattle.sds_batchtext.proofs.writing.put_update.Goals as goal

pub returns-clause-ok : goal.returns-clause-ok
returns-clause-ok c = on_ok_weaker c.put-3.result (λ last.
    join c.args.out.now.items c.put.new.out.items c.put-3.new.out.items (codes "update,") (written_line c.args.new.now ++ 44 ∷ (written_line c.args.key.now ++ 10 ∷ [])) c.in_ok-put.ensures.ok
    (join c.put.new.out.items c.put_fields.new.out.items c.put-3.new.out.items (written_line c.args.new.now) (44 ∷ (written_line c.args.key.now ++ 10 ∷ [])) c.in_ok-put_fields.ensures.ok
    (join c.put_fields.new.out.items c.put-2.new.out.items c.put-3.new.out.items (44 ∷ []) (written_line c.args.key.now ++ 10 ∷ []) c.in_ok-put-2.ensures.ok
    (join c.put-2.new.out.items c.put_fields-2.new.out.items c.put-3.new.out.items (written_line c.args.key.now) (10 ∷ []) c.in_ok-put_fields-2.ensures.ok last)))) c.put-3.ensures.ok
