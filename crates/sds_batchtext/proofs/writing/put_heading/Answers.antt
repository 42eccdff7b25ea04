use Rattle.std.proofs.Common.{◌≡◌, ◌∙◌, ◌++◌, ◌∷◌, [], ap, List, ℕ}
use Rattle.std.specs.Prelude.{codes}
use Rattle.std.proofs.lemmas.Result.{on_ok_weaker}
use Rattle.sds_batchtext.specs.Writing.{name_line, names_line, text_of_lines}
use Rattle.sds_batchtext.proofs.Joins.{join_lines}
use Rattle.sds_batchtext.proofs.writing.put_heading.Goals as goal

pub returns-clause-ok : goal.returns-clause-ok
returns-clause-ok c = on_ok_weaker c.put_names-2.result (λ last.
    let keys : c.put_names.new.out.items ≡ c.put_name.new.out.items ++ text_of_lines (names_line (codes "keys") c.args.row.now.keys ∷ []) =
    c.in_ok-put_names.ensures.ok ∙ ap (λ (l : List (List ℕ)). c.put_name.new.out.items ++ text_of_lines (names_line (codes "keys") l ∷ [])) (c.as_slice.ensures.value ∙ c.inner.ensures) in
    let columns : c.put_names-2.new.out.items ≡ c.put_names.new.out.items ++ text_of_lines (names_line (codes "columns") c.args.row.now.columns ∷ []) =
    last ∙ ap (λ (l : List (List ℕ)). c.put_names.new.out.items ++ text_of_lines (names_line (codes "columns") l ∷ [])) (c.as_slice-2.ensures.value ∙ c.inner-2.ensures) in
    join_lines c.args.out.now.items c.put_name.new.out.items c.put_names-2.new.out.items (name_line (codes "table,") c.args.row.now.table ∷ [])
    (names_line (codes "keys") c.args.row.now.keys ∷ (names_line (codes "columns") c.args.row.now.columns ∷ [])) c.in_ok-put_name.ensures.ok
    (join_lines c.put_name.new.out.items c.put_names.new.out.items c.put_names-2.new.out.items (names_line (codes "keys") c.args.row.now.keys ∷ []) (names_line (codes "columns") c.args.row.now.columns ∷ []) keys columns)) c.put_names-2.ensures.ok
