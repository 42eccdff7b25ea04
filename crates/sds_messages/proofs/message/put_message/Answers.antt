use Rattle.std.proofs.Common.{◌≡◌, ◌∙◌, ◌++◌, List, ℕ, ap}
use Rattle.std.proofs.lemmas.Result.{on_ok_weaker}
use Rattle.std.specs.Str.{chars}
use Rattle.sds_batchtext.specs.Writing.{head_text}
use Rattle.sds_image.specs.Meaning.{meaning_of}
use Rattle.sds_messages.proofs.Parts.{message_is}
use Rattle.sds_messages.proofs.message.put_message.Goals as goal

pub returns-clause-text : goal.returns-clause-text
returns-clause-text c =
    on_ok_weaker c.put_parts.result
    (λ is. message_is c.args.config.now (meaning_of c.args.state.now) (chars c.args.to.now) c.args.channels.now c.args.out.now.items c.put_head.new.out.items c.put_parts.new.out.items
    (c.in_ok-put_head.ensures.ok ∙ ap (λ (node : List ℕ). c.args.out.now.items ++ head_text node) c.as_str.ensures.chars) is)
    c.put_parts.ensures.text
