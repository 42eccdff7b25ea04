-- Nodes over keepers that stand for nodes of a world, and how their calls go.
use Rattle.std.specs.Prelude.{◌≡◌, ℕ, true, List, [], Option, None, Some, IfOk, IfErr, Result, Ok, Err}
use Rattle.sds_outside.specs.Keepings.{Keeping}
use Rattle.sds_value.specs.declared.row.Peer.{Peer}
use Rattle.sds_types.specs.declared.config.Config.{Config}
use Rattle.sds_types.specs.declared.node_fault.NodeFault.{NodeFault}
use Rattle.sds_types.specs.declared.node_fault.NodeFault.TheVariants.{NoMemory}
use Rattle.sds_trade.specs.rules.Sound.{IsSound}
use Rattle.sds_history.specs.history.Acts.{Act, State}
use Rattle.sds_history.specs.history.Image.{image_of}
use Rattle.sds_history.specs.history.SoundStates.{IsSoundState}
use Rattle.sds_history.specs.world.Calling.{Called, call}
use Rattle.sds_history.specs.world.Worlds as world
use Rattle.sds_image.specs.Pairs.{pairs}
use Rattle.sds_nodelaws.specs.Asked.{IsAsked}
use Rattle.sds_nodelaws.specs.Calls.{Call, act_of, begun, called_all}
use Rattle.sds_imagelaws.specs.Reading.{AreHeld}
use Rattle.sds_imagelaws.specs.Widths.{IsHeldCall}
use Rattle.sds_commit.specs.Commits.{Commits}
use Rattle.sds_commit.specs.Ends.{LacksMemory}
use Rattle.sds_node.specs.Going.{AreUnread, Goes, IsCause, IsStill, Settles}
use Rattle.sds_node.specs.Meaning.{IsNode, has}
use Rattle.sds_node.specs.Starting.{IsCreated, keeper_after, own_edit}
use Rattle.sds_node.specs.declared.node.Node.{Node}

-- what the keeper of a node of a world tells: the records of what it has, and its faults
abbrev pub told_of : Config → world.Node → Keeping
told_of config stood = record {
  records = Some (pairs (image_of config (world.state_in config stood)));
  fates = Some stood.faults;
}

-- a keeper keeps what a node of a world has, whose history calls have made: it tells the records of
-- that and the node's faults, and isn't damaged
pub record KeepsFor {K : Type 0} (keeping : K → Keeping) (damage : K → Option (Option ℕ))
    (config : Config) (keeper : K) (stood : world.Node) : Type 0 where
  pub calls : List Call
  pub made : stood.history ≡ called_all config (begun (world.me_of stood)) calls
  pub sound : IsSoundState config (world.state_in config stood)
  pub held : AreHeld (world.state_in config stood)
  pub told : keeping keeper ≡ told_of config stood
  pub whole : damage keeper ≡ Some None

-- a node stands for a node of a world: its keeper keeps what that one has, and so has the node while
-- it is sure
pub record StandsFor {K : Type 0} (is_open : K → Type 0) (keeping : K → Keeping)
    (damage : K → Option (Option ℕ)) (config : Config) (node : Node K) (stood : world.Node)
    : Type 0 where
  pub is_node : IsNode is_open keeping node
  pub config_is : node.config ≡ config
  pub me_is : (has node).me ≡ (world.state_in config stood).me
  pub has_is : node.sure ≡ true → has node ≡ world.state_in config stood
  pub keeps : KeepsFor keeping damage config node.keeper stood

-- what a node and a call of it come to: the answer and the node of the world's call
pub record GoesAs {K A E : Type 0} (is_open : K → Type 0) (keeping : K → Keeping)
    (damage : K → Option (Option ℕ)) (config : Config) (after : Node K) (result : Result A E)
    (called : Called A E) : Type 0 where
  pub result_is : result ≡ called.answer
  pub stands : StandsFor is_open keeping damage config after called.node

-- a call of a node that stands for one of a world goes as that one's, unless memory is wanting
abbrev pub CallGoes : {K A E : Type 0} → (K → Type 0) → (K → Keeping) → (K → Option (Option ℕ))
    → (NodeFault → E) → Call → (Config → State → Result A E) → Type 0
CallGoes {K} {A} {E} is_open keeping damage as_fault asks answer =
    (config : Config) (before after : Node K) (stood : world.Node) (result : Result A E)
    → StandsFor is_open keeping damage config before stood
    → IsAsked config (world.state_in config stood) asks → IsHeldCall asks
    → IsNode is_open keeping after → IsStill before after
    → damage after.keeper ≡ damage before.keeper
    → Goes keeping damage before after (λ state. act_of before.config state asks) as_fault
    (λ state. answer before.config state) result
    → (LacksMemory as_fault result → ⊥)
    → GoesAs is_open keeping damage config after result (call as_fault stood
    (act_of config (world.state_in config stood) asks)
    (answer config (world.state_in config stood)))

-- a node that is settled goes on standing for the same, and is sure, unless memory is wanting
abbrev pub SettleGoes : {K : Type 0} → (K → Type 0) → (K → Keeping) → (K → Option (Option ℕ))
    → Type 0
SettleGoes {K} is_open keeping damage =
    (config : Config) (before after : Node K) (stood : world.Node)
    (result : Result (Unit {0}) NodeFault)
    → StandsFor is_open keeping damage config before stood → IsNode is_open keeping after
    → Settles keeping damage before after result → damage after.keeper ≡ damage before.keeper
    → (result ≡ Err NoMemory → ⊥)
    → (result ≡ Ok tt) × ((after.sure ≡ true) × StandsFor is_open keeping damage config after stood)

-- a node that is opened of a keeper stands for the one for which it keeps, and is sure
pub record OpensAs {K : Type 0} (is_open : K → Type 0) (keeping : K → Keeping)
    (damage : K → Option (Option ℕ)) (config : Config) (result : Result (Node K) (NodeFault × K))
    (stood : world.Node) : Type 0 where
  pub node : Node K
  pub result_is : result ≡ Ok node
  pub sure : node.sure ≡ true
  pub stands : StandsFor is_open keeping damage config node stood

abbrev pub OpenGoes : {K : Type 0} → (K → Type 0) → (K → Keeping) → (K → Option (Option ℕ))
    → Type 0
OpenGoes {K} is_open keeping damage =
    (config : Config) (keeper : K) (stood : world.Node) (result : Result (Node K) (NodeFault × K))
    → IsSound config → KeepsFor keeping damage config keeper stood
    → IfOk result (λ node. IsNode is_open keeping node
    × ((node.sure ≡ true) × (node.config ≡ config)))
    → keeping (keeper_after result) ≡ keeping keeper
    → damage (keeper_after result) ≡ damage keeper
    → IfErr result (λ refused. IsCause (AreUnread config) (keeping keeper) (damage keeper) refused.0)
    → ((given : K) → result ≡ Err (NoMemory, given) → ⊥)
    → OpensAs is_open keeping damage config result stood

-- a node that is created of an empty keeper that won't fail stands for a new node, and is sure
abbrev pub empty_keeping : Keeping
empty_keeping = record { records = Some []; fates = Some [] }

abbrev pub BeginGoes : {K : Type 0} → (K → Type 0) → (K → Keeping) → (K → Option (Option ℕ))
    → Type 0
BeginGoes {K} is_open keeping damage =
    (config : Config) (me : Peer) (keeper : K) (node : Node K)
    → IsNode is_open keeping node → IsCreated config me node
    → Commits (own_edit me) (keeping keeper) (keeping node.keeper) (Ok tt)
    → damage node.keeper ≡ damage keeper
    → keeping keeper ≡ empty_keeping → damage keeper ≡ Some None
    → StandsFor is_open keeping damage config node (world.new_node me)
