-- What holds of each node after its calls holds of each node of a world.
use Rattle.std.proofs.Common.{◌≡◌, ℕ, Bool, List, [], ◌∷◌, Option, None, Some, refl, sym, ap, subst, ◌∙◌, All}
use Rattle.sds_value.specs.declared.row.Peer.{Peer}
use Rattle.std.proofs.lemmas.List.Elements.{All-nil, All-cons, All-append}
use Rattle.sds_types.specs.declared.config.Config.{Config}
use Rattle.sds_types.specs.declared.world_event.WorldEvent.{WorldEvent}
use Rattle.sds_trade.specs.rules.Sound.{IsSound}
use Rattle.sds_history.specs.history.Acts.{Act, History, State}
use Rattle.sds_history.specs.history.States.{new_state, state_of}
use Rattle.sds_history.specs.world.InStep.{NumbersCount, RoutedOnce, WritesCount}
use Rattle.sds_history.specs.world.Calling.{after_call}
use Rattle.sds_history.specs.world.Worlds.{Node, World, has_id, new_node, node_at, state_in, with_node}
use Rattle.sds_nodelaws.proofs.Lists.{find_all}
use Rattle.sds_nodelaws.proofs.Routes.{routed_in_one_batch}
use Rattle.sds_nodelaws.proofs.Writing.{writers_count}
use Rattle.sds_nodelaws.specs.Calls.{Call, act_of, begun, called_all, with_made}
use Rattle.sds_worldlaws.specs.Nodes.{RoutedOnceEverywhere, WritesCountEverywhere, world_after}
use Rattle.sds_worldlaws.proofs.Keeping.{Stays, one_event}
use Rattle.sds_worldlaws.proofs.Reached.{AllReached, Reached, after, new_on, put, same_history}

mapped : (P Q : Node → Type 0) (nodes : List Node) → ((node : Node) → P node → Q node) → All P nodes → All Q nodes
mapped P Q nodes each are k d within = each _ (are k d within)

-- REACHED. After any list of events each node's history is made by its calls
call_reached : (config : Config) (world : World) (id : List ℕ) (node : Node) (call : Call) → node_at world id ≡ Some node → AllReached config world
    → AllReached config (with_node world (after_call node (act_of config (state_in config node) call)))
call_reached config world id node call is are =
    put config world (after_call node (act_of config (state_in config node) call)) are
    (after config node call (find_all (Reached config) (has_id id) world.nodes node are is))

reached_stays : (config : Config) → Stays config (AllReached config)
reached_stays config = record {
  calls = λ world id node call is are. call_reached config world id node call is are;
  faults = λ world id node faults is are. put config world (record { history = node.history; faults = faults }) are
      (same_history config node faults (find_all (Reached config) (has_id id) world.nodes node are is));
  news = λ world me are. All-append (Reached config) world.nodes (new_node me ∷ []) are
      (All-cons (Reached config) (new_node me) [] (new_on config me) (All-nil (Reached config)));
  said = λ world messages replies are. are;
}

pub all_reached : (config : Config) (noise : List ℕ) (events : List WorldEvent) → AllReached config (world_after config noise events)
all_reached config noise [] = All-nil (Reached config)
all_reached config noise (e ∷ older) =
    one_event config (AllReached config) (reached_stays config) noise (world_after config noise older) e (all_reached config noise older)

-- WRITES
counts_at : (config : Config) (node : Node) (writer : List ℕ) → Reached config node → NumbersCount node writer
counts_at config node writer is =
    subst (λ h. NumbersCount (record node { history = h }) writer) (sym is.same) (writers_count config is.me is.calls writer)

pub writes_at : (config : Config) (node : Node) → Reached config node → WritesCount config node
writes_at config node is k d within = counts_at config node _ is

pub writes_count_everywhere : WritesCountEverywhere
writes_count_everywhere config noise events =
    mapped (Reached config) (WritesCount config) (world_after config noise events).nodes (λ node is. writes_at config node is) (all_reached config noise events)

-- ROUTES. A node's opening is that of a new node
made_opening : (history : History) (made : Option Act) → (with_made history made).opening ≡ history.opening
made_opening history None = refl
made_opening history (Some act) = refl

opening_of : (config : Config) (me : Peer) (calls : List Call) → (called_all config (begun me) calls).opening ≡ new_state me
opening_of config me [] = refl
opening_of config me (call ∷ older) =
    made_opening (called_all config (begun me) older) (act_of config (state_of config (called_all config (begun me) older)) call) ∙ opening_of config me older

begun_so : (config : Config) (me : Peer) (opening : State) (acts : List Act) (faults : List Bool) → IsSound config → opening ≡ new_state me
    → RoutedOnce config (record { history = record { opening = opening; acts = acts }; faults = faults })
begun_so config me opening acts faults sound same =
    subst (λ o. RoutedOnce config (record { history = record { opening = o; acts = acts }; faults = faults })) (sym same)
    (routed_in_one_batch config sound me acts faults)

pub routed_at : (config : Config) (node : Node) → IsSound config → Reached config node → RoutedOnce config node
routed_at config node sound is =
    begun_so config is.me node.history.opening node.history.acts node.faults sound (ap (λ (h : History). h.opening) is.same ∙ opening_of config is.me is.calls)

pub routed_once_everywhere : RoutedOnceEverywhere
routed_once_everywhere config sound noise events =
    mapped (Reached config) (RoutedOnce config) (world_after config noise events).nodes (λ node is. routed_at config node sound is) (all_reached config noise events)
