use Rattle.sds_first_world.proofs.Meeting.{parent_made, child_made, both_met}
use Rattle.sds_first_world.proofs.stage.Stage.meet.Goals as goal

pub returns-in_default : goal.returns-in_default
returns-in_default c = λ w waits m.
    absurd ((parent_made c.args.asks.now c.args.at.now w c.args.self.now.peers.items c.in_ok-parent.field-0 m waits.peers c.in_ok-parent.ensures).1 c.in_default.is)

pub returns-in_default-2 : goal.returns-in_default-2
returns-in_default-2 c = λ w waits m.
    absurd ((child_made c.args.asks.now c.args.at.now w c.args.self.now.peers.items c.in_ok-child.field-0 m waits.peers c.in_ok-child.ensures).1 c.in_default-2.is)

pub returns : goal.returns
returns c = λ w waits m. record {
  nodes = both_met c.args.asks.now c.args.at.now w c.args.self.now.nodes.items c.push.new.self.items c.push-2.new.self.items c.in_ok-parent.field-0 c.in_ok-child.field-0 c.in-Some.parent c.in-Some-2.child m
      waits.none c.in_ok-push.ensures.items c.in_ok-push-2.ensures.items c.in-Some.is c.in-Some-2.is
      (parent_made c.args.asks.now c.args.at.now w c.args.self.now.peers.items c.in_ok-parent.field-0 m waits.peers c.in_ok-parent.ensures).0
      (child_made c.args.asks.now c.args.at.now w c.args.self.now.peers.items c.in_ok-child.field-0 m waits.peers c.in_ok-child.ensures).0;
  messages = waits.messages;
  replies = waits.replies;
}
