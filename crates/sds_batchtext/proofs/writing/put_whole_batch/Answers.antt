use Rattle.std.proofs.Common.{◌≡◌, ◌∙◌, ◌++◌, ◌∷◌, [], ap, List}
use Rattle.std.specs.Prelude.{codes}
use Rattle.std.proofs.lemmas.Result.{on_ok_weaker}
use Rattle.sds_value.specs.declared.row.DocRow.{DocRow}
use Rattle.sds_batchtext.specs.Writing.{name_line, number_line, lines_of_rows, text_of_lines}
use Rattle.sds_batchtext.proofs.Joins.{join_lines}
use Rattle.sds_batchtext.proofs.writing.put_whole_batch.Goals as goal

pub returns-clause-ok : goal.returns-clause-ok
returns-clause-ok c = on_ok_weaker c.put_number-2.result (λ last.
    let rows : c.put_rows.new.out.items ≡ c.put_number.new.out.items ++ text_of_lines (lines_of_rows c.args.batch.now.rows) =
    c.in_ok-put_rows.ensures.ok ∙ ap (λ (l : List DocRow). c.put_number.new.out.items ++ text_of_lines (lines_of_rows l)) (c.as_slice.ensures.value ∙ c.inner.ensures) in
    join_lines c.args.out.now.items c.put_name.new.out.items c.put_number-2.new.out.items (name_line (codes "channel,") c.args.batch.now.channel ∷ [])
    (number_line (codes "batch,") c.args.batch.now.batch ∷ (lines_of_rows c.args.batch.now.rows ++ number_line (codes "commit,") c.args.batch.now.batch ∷ [])) c.in_ok-put_name.ensures.ok
    (join_lines c.put_name.new.out.items c.put_number.new.out.items c.put_number-2.new.out.items (number_line (codes "batch,") c.args.batch.now.batch ∷ [])
    (lines_of_rows c.args.batch.now.rows ++ number_line (codes "commit,") c.args.batch.now.batch ∷ []) c.in_ok-put_number.ensures.ok
    (join_lines c.put_number.new.out.items c.put_rows.new.out.items c.put_number-2.new.out.items (lines_of_rows c.args.batch.now.rows) (number_line (codes "commit,") c.args.batch.now.batch ∷ []) rows last))) c.put_number-2.ensures.ok
