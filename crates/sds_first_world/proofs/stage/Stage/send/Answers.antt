use Rattle.std.proofs.Common.{arith}
use Rattle.sds_first_world.proofs.Staged.{sends, nowhere}
use Rattle.sds_first_world.proofs.stage.Stage.send.Goals as goal

pub returns-in_default : goal.returns-in_default
returns-in_default c = λ w h ids stands few found offered. absurd (nowhere c.args.from.now c.args.self.now.nodes.items c.as_slice-nodes.result.now w.nodes h c.as_slice-nodes.ensures.value c.in_default.ensures stands.nodes found)

pub returns : goal.returns
returns c = λ w h ids stands few found offered.
    let three = sends c.args.from.now c.args.to.now c.args.self.now.nodes.items c.as_slice-nodes.result.now c.in-Some.place c.in_ok-sents.sents.items w h ids c.args.self.now.messages c.next-self.result _ _ _ _
    c.as_slice-nodes.ensures.value c.in-Some.ensures c.in_ok-sents.ensures c.next-self.ensures (omega arith) c.in_ok-line.ensures c.in_ok-put.ensures stands.nodes stands.messages few found offered in
    (three.0, record { nodes = stands.nodes; messages = three.1; replies = stands.replies }, three.2)
