use Rattle.std.proofs.Common.{List, ap, ◌∙◌}
use Rattle.sds_types.specs.declared.ack.Ack.{Ack}
use Rattle.sds_first_spec.specs.Screen.{deliver_line}
use Rattle.sds_first_world.proofs.Staged.{receives, nowhere}
use Rattle.sds_first_world.proofs.stage.Stage.receive.Goals as goal

pub returns-in_default : goal.returns-in_default
returns-in_default c = λ w message h stands few sender receiver found takes. absurd (nowhere c.args.to.now c.args.self.now.nodes.items c.deref.result.now w.nodes h c.deref.ensures.value c.in_default.ensures stands.nodes found)

pub returns : goal.returns
returns c = λ w message h stands few sender receiver found takes.
    let three = receives c.args.from.now c.args.to.now c.args.sents.now c.args.self.now.nodes.items c.deref.result.now c.deliver_at.new.nodes.items c.in-Some.place c.in_ok-acks.acks.items w message h
    c.args.self.now.messages c.args.self.now.replies c.next-self.result _ _ _
    c.deref.ensures.value c.in-Some.ensures c.in_ok-acks.ensures c.next-self.ensures
    (c.in_ok-line.ensures ∙ ap (λ (l : List Ack). deliver_line c.args.self.now.messages c.next-self.result l) c.deref-2.ensures.value) c.in_ok-put.ensures stands.nodes stands.messages stands.replies few sender receiver found takes in
    (three.0, record { nodes = three.1.0; messages = stands.messages; replies = three.1.1 }, three.2)
