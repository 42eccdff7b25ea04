use Rattle.std.proofs.Common.{◌≡◌, [], sym, ap, ◌∙◌}
use Rattle.std.specs.Prelude.{ℕ, List}
use Rattle.std.specs.Str.{chars}
use Rattle.sds_types.specs.declared.world_event.WorldEvent.TheVariants as event
use Rattle.sds_history.specs.world.Worlds.{node_at}
use Rattle.sds_screen.specs.Causes.{is_node}
use Rattle.sds_world.proofs.Rehearsed.{none_there, on_ok, plays_new, rehearses, with_stage}
use Rattle.sds_world.proofs.rehearsal.Rehearsal.add.Goals as goal

pub returns-clause-plays : goal.returns-clause-plays
returns-clause-plays c =
    on_ok c.add.result c.add.ensures.plays (λ goes text. plays_new c.args.self.now c.add.new.self c.in_ok-peer.peer c.args.peer.now text
    c.requires.rehearsal.stage.config c.add.ensures.config c.add.ensures.noise c.in_ok-peer.ensures goes)

pub returns-clause-rehearsal : goal.returns-clause-rehearsal
returns-clause-rehearsal c =
    let world = c.requires.rehearsal.world in
    on_ok c.add.result c.add.ensures.plays (λ goes. rehearses c.args.self.now (with_stage c.args.self.now c.add.new.self) [] [] (event.Node c.args.peer.now)
    c.requires.rehearsal c.add.ensures.stage
    (plays_new c.args.self.now c.add.new.self c.in_ok-peer.peer c.args.peer.now []
    c.requires.rehearsal.stage.config c.add.ensures.config c.add.ensures.noise c.in_ok-peer.ensures goes)
    (none_there (node_at world c.args.peer.now.id) (sym (ap (λ (id : List ℕ). is_node world id) c.as_str.ensures.chars)
    ∙ (sym (c.has_node.ensures world c.requires.rehearsal.plays.stage) ∙ c.if-has_node.false)))
    c.requires.rehearsal.replies)
