use Rattle.sds_first_world.proofs.Staged.{answers, nowhere}
use Rattle.sds_first_world.proofs.stage.Stage.answer.Goals as goal

pub returns-in_default : goal.returns-in_default
returns-in_default c = λ w reply h stands sender receiver these found. absurd (nowhere c.args.from.now c.args.self.now.nodes.items c.deref.result.now w.nodes h c.deref.ensures.value c.in_default.ensures stands.nodes found)

pub returns : goal.returns
returns c = λ w reply h stands sender receiver these found.
    let both = answers c.args.from.now c.args.to.now c.args.acks.now reply c.args.self.now.nodes.items c.deref.result.now c.take_acks_at.new.nodes.items c.in-Some.place
    c.in_ok-answer.answer w h c.args.self.now.replies _ _ _ c.deref.ensures.value c.in-Some.ensures c.in_ok-answer.ensures c.in_ok-line.ensures c.in_ok-put.ensures stands.nodes stands.replies sender receiver these found in
    (record { nodes = both.0; messages = stands.messages; replies = stands.replies }, both.1)
