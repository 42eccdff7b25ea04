use Rattle.std.proofs.Common.{◌∷◌, ◌++◌, [], List, refl, sym, subst}
use Rattle.std.specs.List.{All}
use Rattle.sds_outside.specs.MemKeeping.{IsKeptOpen, kept_told}
use Rattle.sds_outside.specs.declared.mem_keeper.MemKeeper.{MemKeeper}
use Rattle.sds_types.specs.declared.config.Config.{Config}
use Rattle.sds_history.specs.world.Worlds.{new_node}
use Rattle.sds_node.specs.Meaning.{IsNode}
use Rattle.sds_node.specs.declared.node.Node.{Node}
use Rattle.sds_stage.specs.Standing.{AllStand, Stands}
use Rattle.sds_stage.proofs.Added.{apart_more, nodes_more, none_has, stand_more}
use Rattle.sds_stage.proofs.stage.Stage.add.Goals as goal

pub returns-in_err-push-clause-stage : goal.returns-in_err-push-clause-stage
returns-in_err-push-clause-stage c = record {
  config = c.requires.stage.config;
  nodes = subst (All (λ (n : Node MemKeeper). IsNode IsKeptOpen kept_told n)) (sym c.in_err-push.ensures.items) c.requires.stage.nodes;
}

pub returns-clause-plays : goal.returns-clause-plays
returns-clause-plays c = λ played plays none. record {
  plays = record {
    nodes = subst (λ (l : List (Node MemKeeper)). AllStand c.args.self.now.config l (played.nodes ++ new_node c.args.me ∷ [])) (sym c.in_ok-push.ensures.items)
        (stand_more c.args.self.now.config c.args.self.now.nodes.items played.nodes c.in_ok-node.node (new_node c.args.me) plays.nodes
        (subst (λ (config : Config). Stands config c.in_ok-node.node (new_node c.args.me)) c.in_ok-config.ensures c.in_ok-node.ensures.stands));
    apart = apart_more played.nodes (new_node c.args.me) plays.apart (none_has c.args.me.id played.nodes none);
  };
  writes = refl;
}

pub returns-clause-stage : goal.returns-clause-stage
returns-clause-stage c = record {
  config = c.requires.stage.config;
  nodes = nodes_more c.args.self.now.nodes.items c.push.new.self.items c.in_ok-node.node c.requires.stage.nodes c.in_ok-node.ensures.node c.in_ok-push.ensures.items;
}
