use Rattle.std.proofs.Common.{◌∙◌}
use Rattle.std.specs.Str.{chars}
use Rattle.sds_history.specs.world.Exchanging.{may_exchange}
use Rattle.sds_stage.specs.Ways.{leads_by}
use Rattle.sds_stage.proofs.Messaged.{seen_of}
use Rattle.sds_stage.proofs.sending.asks_at.Goals as goal

pub returns-clause-asks : goal.returns-clause-asks
returns-clause-asks c = λ config stood stands.
    let stays = c.in_ok-settle_at.ensures.stands config stood stands in (
      stays,
      c.may_exchange.ensures ∙ seen_of (λ under state. may_exchange (leads_by under c.args.action) state (chars c.args.to.now)) config c.settle_at.new.node stood stays
          c.in_ok-settle_at.ensures.sure,
    )
