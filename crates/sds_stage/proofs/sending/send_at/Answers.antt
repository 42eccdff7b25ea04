use Rattle.std.proofs.Common.{◌++◌, All, sym, subst, ◌∙◌, refl}
use Rattle.std.specs.Str.{chars}
use Rattle.sds_doclaws.specs.Writable.{HasFewKeys, IsOfCharacters}
use Rattle.sds_history.specs.history.Messages.{parts_of}
use Rattle.sds_history.specs.world.Sending.{batch_count, may_send}
use Rattle.sds_messages.specs.Texts.{written_message}
use Rattle.sds_types.specs.declared.config.Config.{Config}
use Rattle.sds_stage.proofs.Messaged.{seen_of}
use Rattle.sds_stage.proofs.sending.send_at.Goals as goal

pub put_message-requires-clause-few : goal.put_message-requires-clause-few
put_message-requires-clause-few c =
    subst (λ (config : Config). All (HasFewKeys config) config.transforms) (sym c.settle_at.ensures.config) c.requires.few

pub returns-then-not-may_send-clause-sends : goal.returns-then-not-may_send-clause-sends
returns-then-not-may_send-clause-sends c = λ config stood stands.
    let stays = c.in_ok-settle_at.ensures.stands config stood stands in (
      stays,
      (
        sym (seen_of (λ under state. may_send under state (chars c.args.to.now)) config c.settle_at.new.node stood stays c.in_ok-settle_at.ensures.sure)
            ∙ (sym c.may_send.ensures ∙ c.if-not-may_send.true),
        refl,
      ),
    )

pub returns-clause-sends : goal.returns-clause-sends
returns-clause-sends c = λ config stood stands.
    let stays = c.in_ok-settle_at.ensures.stands config stood stands in (
      stays,
      record {
        way = sym (seen_of (λ under state. may_send under state (chars c.args.to.now)) config c.settle_at.new.node stood stays c.in_ok-settle_at.ensures.sure)
            ∙ (sym c.may_send.ensures ∙ c.if-not-may_send.false);
        count_is = c.in_ok-put_message.ensures.count
            ∙ seen_of (λ under state. batch_count (parts_of under state (chars c.args.to.now) c.args.channels.now)) config c.settle_at.new.node stood stays c.in_ok-settle_at.ensures.sure;
        text_is = c.in_ok-put_message.ensures.text
            ∙ seen_of (λ under state. c.args.text.now.items ++ written_message under state (chars c.args.to.now) c.args.channels.now) config c.settle_at.new.node stood stays
            c.in_ok-settle_at.ensures.sure;
      },
    )
