use Rattle.sds_first_world.proofs.Staged.{shows, nowhere}
use Rattle.sds_first_world.proofs.stage.Stage.show.Goals as goal

pub returns-in_default : goal.returns-in_default
returns-in_default c = λ w h stands found. absurd (nowhere c.args.id.now c.args.self.now.nodes.items c.as_slice-nodes.result.now w.nodes h c.as_slice-nodes.ensures.value c.in_default.ensures stands.nodes found)

pub returns : goal.returns
returns c = λ w h stands found.
    shows c.args.id.now c.args.self.now.nodes.items c.as_slice-nodes.result.now c.in-Some.place w h _ _ c.as_slice-nodes.ensures.value c.in-Some.ensures c.in_ok-put_tables_at.ensures stands.nodes found
