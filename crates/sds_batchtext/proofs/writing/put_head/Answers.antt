use Rattle.std.proofs.Common.{◌∙◌, ◌++◌, ap, sym, List, ℕ}
use Rattle.std.specs.Prelude.{codes}
use Rattle.std.proofs.lemmas.Result.{on_ok_weaker}
use Rattle.std.proofs.lemmas.Str.{encodes-chars}
use Rattle.sds_batchtext.proofs.writing.put_head.Goals as goal

pub returns-else-is_err-clause-ok : goal.returns-else-is_err-clause-ok
returns-else-is_err-clause-ok c = on_ok_weaker c.put_head_lines-answer.result (λ is. is
    ∙ ap (λ (l : List ℕ). c.args.out.now.items ++ (codes "nodeid," ++ (l ++ codes "\nbinary,BASE64\n"))) (c.as_bytes.ensures.value ∙ sym (encodes-chars c.args.node.now c.utf8.node))) c.put_head_lines-answer.ensures.ok
