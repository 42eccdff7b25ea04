use Rattle.std.proofs.Common.{◌∙◌}
use Rattle.sds_first_world.proofs.Staged.{wrote, nowhere}
use Rattle.sds_first_world.proofs.stage.Stage.write.Goals as goal

pub returns-in_default : goal.returns-in_default
returns-in_default c = λ w h stands found. absurd (nowhere c.args.id.now c.args.self.now.nodes.items c.deref.result.now w.nodes h c.deref.ensures.value c.in_default.ensures stands.nodes found)

pub returns : goal.returns
returns c = λ w h stands found.
    let both = wrote c.args.id.now c.args.writer.now c.args.number c.args.rows.now c.deref-2.result.now c.args.self.now.nodes.items c.deref.result.now c.write_at.new.nodes.items c.in-Some.place
    c.in_ok-answer.answer w h _ _ _ c.deref.ensures.value (c.deref-2.ensures.value ∙ c.inner.ensures) c.in-Some.ensures c.in_ok-answer.ensures c.in_ok-line.ensures c.in_ok-put.ensures stands.nodes found in
    (record { nodes = both.0; messages = stands.messages; replies = stands.replies }, both.1)
