-- The facts of a world stay by each call of a node, whatever fault its commit meets.
use Rattle.std.proofs.Common.{◌≡◌, ℕ, ◌≤◌, Bool, true, false, List, [], ◌∷◌, map, Option, None, Some, refl, sym, ap, subst, All, append-nil}
use Rattle.std.specs.Prelude.{is_some}
use Rattle.sds_value.specs.declared.row.Peer.{Peer}
use Rattle.sds_types.specs.declared.ack.Ack.{Ack}
use Rattle.sds_types.specs.declared.batch.OutBatch.{OutBatch}
use Rattle.sds_types.specs.declared.config.Config.{Config}
use Rattle.sds_types.specs.declared.tx_row.TxRow.{TxRow}
use Rattle.sds_trade.specs.rules.Sound.{IsSound}
use Rattle.sds_history.specs.history.Acts.{Act, State}
use Rattle.sds_history.specs.history.Acts.Act.{Opened, Joined, Confirmed, Wrote, Routed, Acked}
use Rattle.sds_history.specs.history.Registrations.{token_of}
use Rattle.sds_history.specs.world.Calling.{after_act, after_call}
use Rattle.sds_history.specs.world.Worlds.{Node, World, has_id, me_of, node_at, state_in, with_node}
use Rattle.sds_nodelaws.specs.Calls.{Call, act_of}
use Rattle.sds_nodelaws.specs.Calls.Call.{Write, Route, TakeAcks, Open, Register, Join, Confirm}
use Rattle.sds_nodelaws.proofs.CallActs.{Joins, acks_is, confirm_is, join_is, open_is, register_is, route_is, write_is}
use Rattle.sds_worldlaws.proofs.LaneFacts.{AckOk, kept_of, made}
use Rattle.sds_nodelaws.proofs.Lists.{find_all}
use Rattle.sds_nodelaws.proofs.NodeFacts.{Suits}
use Rattle.sds_worldlaws.proofs.Reached.{Reached, made_more}
use Rattle.sds_worldlaws.proofs.WorldFacts.{AllGrows, Fits, WorldFacts, id_of_found}
use Rattle.sds_worldlaws.proofs.WorldNodes.{faults_change}
use Rattle.sds_worldlaws.proofs.WorldSteps.{acted, highest_rises, same_grows, state_follows, world_steps}

pub reached_at : (config : Config) (world : World) (id : List ℕ) (node : Node) → WorldFacts config world → node_at world id ≡ Some node → Reached config node
reached_at config world id node facts is = find_all (Reached config) (has_id id) world.nodes node facts.reached is

-- what is asked of the act that a call makes
abbrev pub Asked : Config → World → List ℕ → Node → Call → Type 0
Asked config world id node call = (act : Act) → act_of config (state_in config node) call ≡ Some act
    → Suits config (state_in config node) act × Fits config world id (state_in config node) act

steps_on : (config : Config) (world : World) (id : List ℕ) (node : Node) (call : Call) (act : Act) (faults : List Bool) → IsSound config → WorldFacts config world
    → node_at world id ≡ Some node → Asked config world id node call → act_of config (state_in config node) call ≡ Some act
    → WorldFacts config (with_node world (acted node act faults))
steps_on config world id node call act faults sound facts is asked made =
    let reached : Reached config node = reached_at config world id node facts is in
    world_steps config world id node act faults sound facts (record { is = is; suits = (asked act made).0; fits = (asked act made).1 }) reached
    (made_more config node call act faults made reached)

pub call_steps : (config : Config) (world : World) (id : List ℕ) (node : Node) (call : Call) → IsSound config → WorldFacts config world
    → node_at world id ≡ Some node → Asked config world id node call
    → WorldFacts config (with_node world (after_call node (act_of config (state_in config node) call)))
call_steps config world id node call sound facts is asked = on (act_of config (state_in config node) call) refl
  where
    act_on : (act : Act) (faults : List Bool) → act_of config (state_in config node) call ≡ Some act → WorldFacts config (with_node world (after_act node act faults))
    act_on act [] made = steps_on config world id node call act node.faults sound facts is asked made
    act_on act (true ∷ faults) made = steps_on config world id node call act faults sound facts is asked made
    act_on act (false ∷ faults) made = faults_change config world id node faults facts is (reached_at config world id node facts is)

    on : (made : Option Act) → act_of config (state_in config node) call ≡ made → WorldFacts config (with_node world (after_call node made))
    on None made = faults_change config world id node node.faults facts is (reached_at config world id node facts is)
    on (Some act) made = act_on act node.faults made

-- a call leaves who the node is
pub me_stays : (node : Node) (made : Option Act) → me_of (after_call node made) ≡ me_of node
me_stays node None = refl
me_stays node (Some act) = on node.faults
  where
    on : (faults : List Bool) → me_of (after_act node act faults) ≡ me_of node
    on [] = refl
    on (true ∷ faults) = refl
    on (false ∷ faults) = refl

-- and the lanes to it only grow
pub call_grows : (config : Config) (world : World) (id other : List ℕ) (node from : Node) (call : Call) → IsSound config → WorldFacts config world
    → node_at world id ≡ Some node → node_at world other ≡ Some from → Asked config world id node call
    → AllGrows config (state_in config from) (state_in config node) (state_in config from) (state_in config (after_call node (act_of config (state_in config node) call)))
call_grows config world id other node from call sound facts is is_from asked = on (act_of config (state_in config node) call) refl
  where
    grows_by : (act : Act) (faults : List Bool) → act_of config (state_in config node) call ≡ Some act
        → AllGrows config (state_in config from) (state_in config node) (state_in config from) (state_in config (acted node act faults))
    grows_by act faults is_made channel within = record {
      extra = [];
      ids = sym (append-nil (map (λ (b : OutBatch). b.id) (made (state_in config from) (state_in config node) channel)));
      highest = subst (λ (s : State). (kept_of (state_in config from) (state_in config node) channel).highest ≤ (kept_of (state_in config from) s channel).highest)
          (sym (state_follows config node act faults (reached_at config world id node facts is)))
          (highest_rises config world id other from (state_in config node) act channel sound within is_from (id_of_found world other from is_from) (asked act is_made).1);
    }

    act_on : (act : Act) (faults : List Bool) → act_of config (state_in config node) call ≡ Some act
        → AllGrows config (state_in config from) (state_in config node) (state_in config from) (state_in config (after_act node act faults))
    act_on act [] made = grows_by act node.faults made
    act_on act (true ∷ faults) made = grows_by act faults made
    act_on act (false ∷ faults) made = same_grows config (state_in config from) (state_in config node)

    on : (made : Option Act) → act_of config (state_in config node) call ≡ made
        → AllGrows config (state_in config from) (state_in config node) (state_in config from) (state_in config (after_call node made))
    on None made = same_grows config (state_in config from) (state_in config node)
    on (Some act) made = act_on act node.faults made

-- PLAIN CALLS ask nothing
pub plain : (config : Config) (world : World) (id : List ℕ) (state : State) (act other : Act) → act ≡ other
    → Suits config state other × Fits config world id state other → Suits config state act × Fits config world id state act
plain config world id state act other same is = subst (λ a. Suits config state a × Fits config world id state a) (sym same) is

pub write_asks : (config : Config) (world : World) (id : List ℕ) (node : Node) (writer : List ℕ) (number : ℕ) (rows : List TxRow)
    → Asked config world id node (Write writer number rows)
write_asks config world id node writer number rows act made =
    plain config world id (state_in config node) act (Wrote writer number rows) (write_is config (state_in config node) writer number rows act made) (tt, tt)

pub route_asks : (config : Config) (world : World) (id : List ℕ) (node : Node) → Asked config world id node Route
route_asks config world id node act made = plain config world id (state_in config node) act Routed (route_is config (state_in config node) act made) (tt, tt)

pub open_asks : (config : Config) (world : World) (id : List ℕ) (node : Node) (group external noise : List ℕ) → Asked config world id node (Open group external noise)
open_asks config world id node group external noise act made =
    plain config world id (state_in config node) act (Opened group external (token_of noise)) (open_is config (state_in config node) group external noise act made) (tt, tt)

pub confirm_asks : (config : Config) (world : World) (id : List ℕ) (node : Node) (peer : List ℕ) → Asked config world id node (Confirm peer)
confirm_asks config world id node peer act made =
    plain config world id (state_in config node) act (Confirmed peer) (confirm_is config (state_in config node) peer act made) (tt, tt)

-- a node that joins is there
joins_ask : (config : Config) (world : World) (id : List ℕ) (node : Node) (peer : Peer) (other : Node) (act : Act) → node_at world peer.id ≡ Some other
    → Joins (state_in config node) peer act → Suits config (state_in config node) act × Fits config world id (state_in config node) act
joins_ask config world id node peer other act is joins =
    plain config world id (state_in config node) act (Joined (record { peer = peer; token = joins.token; child = joins.child })) joins.is
    ((joins.new, joins.other), ap is_some is)

pub register_asks : (config : Config) (world : World) (id : List ℕ) (node other : Node) (peer : Peer) → node_at world peer.id ≡ Some other
    → Asked config world id node (Register peer)
register_asks config world id node other peer is act made = joins_ask config world id node peer other act is (register_is config (state_in config node) peer act made)

pub join_asks : (config : Config) (world : World) (id : List ℕ) (node other : Node) (peer : Peer) (token : List ℕ) → node_at world peer.id ≡ Some other
    → Asked config world id node (Join peer token)
join_asks config world id node other peer token is act made =
    joins_ask config world id node peer other act is (join_is config (state_in config node) peer token act made)

-- acks are of what is loaded
pub acks_ask : (config : Config) (world : World) (id : List ℕ) (node : Node) (from : List ℕ) (acks : List Ack)
    → ((receiver : Node) → node_at world from ≡ Some receiver → All (AckOk config (state_in config node) (state_in config receiver)) acks)
    → Asked config world id node (TakeAcks from acks)
acks_ask config world id node from acks sound act made =
    plain config world id (state_in config node) act (Acked from acks) (acks_is config (state_in config node) from acks act made) (tt, sound)
