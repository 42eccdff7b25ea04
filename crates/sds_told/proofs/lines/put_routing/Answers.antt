use Rattle.std.proofs.Common.{◌≡◌, ◌∙◌, ◌++◌, List, ℕ, ap, string_bytes}
use Rattle.std.specs.Str.{chars}
use Rattle.std.proofs.lemmas.Result.{on_ok_weaker}
use Rattle.std.proofs.lemmas.Str.{encodes-chars}
use Rattle.sds_screen.specs.Lines.{routing_line}
use Rattle.sds_told.proofs.lines.put_routing.Goals as goal

pub returns-clause-ok : goal.returns-clause-ok
returns-clause-ok c =
    let line : string_bytes c.in_ok-line.line ≡ routing_line (chars c.args.node.now) c.args.answer.now =
    rw (encodes-chars c.args.node.now c.utf8.node, ← c.in_ok-words.ensures, ← c.as_str-words.ensures.value) c.in_ok-line.ensures.ok in
    on_ok_weaker c.put.result (λ is. is ∙ ap (λ (l : List ℕ). c.args.out.now.items ++ l) line) c.put.ensures.ok
