use Rattle.std.proofs.Common.{ℕ, sym, subst}
use Rattle.sds_outside.specs.MemKeeping.{IsKeptOpen, kept_told}
use Rattle.sds_outside.specs.declared.mem_keeper.MemKeeper.{MemKeeper}
use Rattle.sds_node.specs.Meaning.{IsNode}
use Rattle.sds_node.specs.declared.node.Node.{Node}
use Rattle.sds_standing.specs.Standing.{KeepsFor}
use Rattle.sds_stage.specs.Standing.{undamaged}
use Rattle.sds_history.specs.world.Calling.{armed}
use Rattle.sds_stage.proofs.Reopened.{all_with, all_without, keeps_armed, reopens}
use Rattle.sds_stage.proofs.crashing.fault_at.Goals as goal

pub returns-in_err-arm-clause-nodes : goal.returns-in_err-arm-clause-nodes
returns-in_err-arm-clause-nodes c =
    all_without (λ (n : Node MemKeeper). IsNode IsKeptOpen kept_told n) c.args.nodes.now.items c.remove.new.self.items c.args.place c.requires.nodes c.remove.ensures.items

pub returns-in_err-node-clause-nodes : goal.returns-in_err-node-clause-nodes
returns-in_err-node-clause-nodes c =
    all_without (λ (n : Node MemKeeper). IsNode IsKeptOpen kept_told n) c.args.nodes.now.items c.remove.new.self.items c.args.place c.requires.nodes c.remove.ensures.items

pub returns-clause-nodes : goal.returns-clause-nodes
returns-clause-nodes c =
    all_with (λ (n : Node MemKeeper). IsNode IsKeptOpen kept_told n) c.remove.new.self.items c.put_in.new.nodes.items c.args.place c.in_ok-node.node c.put_in.result
    c.put_in.ensures.ok c.put_in.ensures.err
    (all_without (λ (n : Node MemKeeper). IsNode IsKeptOpen kept_told n) c.args.nodes.now.items c.remove.new.self.items c.args.place c.requires.nodes c.remove.ensures.items)
    c.in_ok-node.ensures.node

pub returns-clause-faulty : goal.returns-clause-faulty
returns-clause-faulty c =
    reopens c.args.config (λ stood. armed stood c.args.stands) c.args.nodes.now.items c.remove.new.self.items c.put_in.new.nodes.items c.args.place c.remove.result
    c.in_ok-node.node c.put_in.result c.requires.place c.remove.ensures.value c.remove.ensures.items c.put_in.ensures.ok
    (λ stood stands. c.in_ok-node.ensures.stands (armed stood c.args.stands)
    (keeps_armed c.args.config c.close-keeper.result c.arm.new.self stood c.args.stands c.in_ok-arm.ensures.armed c.in_ok-arm.ensures.rest
    (subst (λ (k : MemKeeper). KeepsFor kept_told undamaged c.args.config k stood) (sym c.close-keeper.ensures) stands.keeps)))
