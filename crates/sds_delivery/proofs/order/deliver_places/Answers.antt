use Rattle.std.proofs.Common.{◌∙◌, ◌++◌, List, ℕ, ap}
use Rattle.sds_delivery.specs.Placing.{mentioned_places, unmentioned_from}
use Rattle.sds_delivery.proofs.Delivered.{delivered_at}
use Rattle.sds_delivery.proofs.order.deliver_places.Goals as goal

pub returns : goal.returns
returns c = record {
  order = λ batches same. delivered_at c.args.mentions.now c.args.channels.now c.put_unmentioned.new.places.items batches same
      (c.in_ok-put_unmentioned.ensures
      ∙ ap (λ (places : List ℕ). places ++ unmentioned_from 0 c.args.mentions.now c.args.channels.now c.args.channels.now)
      (c.in_ok-put_mentioned.ensures ∙ ap (λ (places : List ℕ). places ++ mentioned_places c.args.mentions.now c.args.channels.now) c.new-places.ensures.items));
}
