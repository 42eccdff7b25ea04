use Rattle.std.proofs.Common.{◌≡◌, ◌∙◌, ◌++◌, ap, string_bytes}
use Rattle.std.specs.Prelude.{codes}
use Rattle.std.specs.Fmt.{decimal}
use Rattle.sds_types.specs.DocumentCauses.{number_of}
use Rattle.sds_told.proofs.Joined.{ended}
use Rattle.sds_told.proofs.replies.ended_text.Goals as goal

pub returns : goal.returns
returns c =
    let word : c.as_str.result.now ≡ codes "broken=" ++ (decimal c.in-Broken.line ++ (codes "." ++ decimal (number_of c.in-Broken.cause))) =
    c.as_str.ensures.value ∙ (c.in_ok-word.ensures.ok ∙ ap (λ n. codes "broken=" ++ (decimal c.in-Broken.line ++ (codes "." ++ decimal n))) c.number-number.ensures) in
    rw (c.in-Broken.is, ← word) (ended c.args.acks.now c.is_empty.result (string_bytes c.in_ok-text.text) (string_bytes c.put_last.new.text) c.as_str.result.now c.is_empty.ensures c.in_ok-text.ensures c.in_ok-put_last.ensures)
