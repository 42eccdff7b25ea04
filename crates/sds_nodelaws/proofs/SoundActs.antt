-- The acts of calls that are asked rightly leave sound states.
use Rattle.std.proofs.Common.{◌≡◌, ℕ, ◌<◌, Bool, true, false, cond, [], ◌∷◌, Option, None, Some, refl, sym, ap, subst, ◌∙◌, arith}
use Rattle.sds_value.specs.declared.row.Peer.{Peer}
use Rattle.sds_types.specs.declared.config.Config.{Config}
use Rattle.sds_trade.specs.rules.Sound.{IsSound}
use Rattle.sds_history.specs.history.Acks.{next_acks}
use Rattle.sds_history.specs.history.Acts.{Act, State}
use Rattle.sds_history.specs.history.Counters.{is_past, within, would_pass}
use Rattle.sds_history.specs.history.Joins.{next_join}
use Rattle.sds_history.specs.history.Loads.{next_load}
use Rattle.sds_history.specs.history.Registrations.{next_confirm, next_open, next_register}
use Rattle.sds_history.specs.history.Routes.{next_route}
use Rattle.sds_history.specs.history.SoundParts.{is_peer}
use Rattle.sds_history.specs.history.SoundStates.{IsSoundState}
use Rattle.sds_history.specs.history.States.{new_state, state_after, state_of}
use Rattle.sds_history.specs.history.Writes.{next_write}
use Rattle.sds_nodelaws.specs.Calls.{Call, act_of, begun, called_all}
use Rattle.sds_nodelaws.specs.Calls.Call.{Write, Route, Load, TakeAcks, Open, Register, Join, Confirm}
use Rattle.sds_nodelaws.specs.Asked.{IsAsked}
use Rattle.sds_nodelaws.specs.Sound.{CallsKeepStatesSound, NodesStaySound}
use Rattle.sds_nodelaws.specs.Splicing.{after_made}
use Rattle.sds_nodelaws.proofs.AskedActs.{asked_due}
use Rattle.sds_nodelaws.proofs.Due.{Due}
use Rattle.sds_nodelaws.proofs.Made.{nothing}
use Rattle.sds_nodelaws.proofs.SoundBatches.{acks_in_order, batches_ascend, batches_fit, batches_go}
use Rattle.sds_nodelaws.proofs.SoundCounts.{changes_ascend, changes_counted, counts_fit, unrouted_kept}
use Rattle.sds_nodelaws.proofs.SoundPeers.{lanes_ascend, lanes_sound, openings_apart, openings_ascend, openings_fit, peers_ascend, peers_few, peers_fit, stages_stand, writers_ascend, writers_count}
use Rattle.sds_nodelaws.proofs.SoundTables.{changes_are, tables_stay}
use Rattle.sds_nodelaws.proofs.Splicing.{calls_step_on}

-- an act that has what it is due, and passes no counter's end
sound_after : (config : Config) (state : State) (act : Act) → IsSound config → IsSoundState config state → Due config state act
    → is_past (state_after config state act).counts ≡ false → IsSoundState config (state_after config state act)
sound_after config state act sound before due within = record {
  me = before.me;
  counts = counts_fit config state act before.counts within;
  lists = record {
    peers = peers_ascend config state act before.lists.peers;
    openings = openings_ascend config state act before.lists.openings;
    writers = writers_ascend config state act before.lists.writers;
    changes = changes_ascend config state act before.counted before.lists.changes;
    batches = batches_ascend config state act before.sent before.lists.batches;
    lanes = lanes_ascend config state act before.lists.lanes;
  };
  peers = peers_fit config state act due before.peers;
  few = peers_few config state act due before.few;
  openings = openings_fit config state act due before.openings;
  stages = stages_stand config state act due before.stages;
  apart = openings_apart config state act due before.lists.openings before.stages before.apart;
  writers = writers_count config state act due before.writers;
  tables = tables_stay config state act sound before.tables due;
  changes = changes_are config state act sound before.peers before.tables due before.changes;
  counted = changes_counted config state act before.counted;
  unrouted = unrouted_kept config state act before.counts.routed before.unrouted;
  batches = batches_fit config state act sound due before.batches;
  sent = batches_go config state act sound due before.sent;
  acks = acks_in_order config state act before.sent before.lists.batches before.acks;
  lanes = lanes_sound config state act due before.lanes;
}

-- a call whose act would pass a counter's end makes none
not_past : (config : Config) (state : State) (made : Option Act) (act : Act) → within config state made ≡ Some act
    → is_past (state_after config state act).counts ≡ false
not_past config state made act is = on (would_pass config state made) refl is
  where
    on : (b : Bool) → would_pass config state made ≡ b → cond b None made ≡ Some act → is_past (state_after config state act).counts ≡ false
    on true passes some = nothing act some
    on false stays some = sym (ap (would_pass config state) some) ∙ stays

call_not_past : (config : Config) (state : State) (call : Call) (act : Act) → act_of config state call ≡ Some act
    → is_past (state_after config state act).counts ≡ false
call_not_past config state (Write writer number rows) act is = not_past config state (next_write config state writer number rows) act is
call_not_past config state Route act is = not_past config state (next_route state) act is
call_not_past config state (Load from batch) act is = not_past config state (next_load config state from batch) act is
call_not_past config state (TakeAcks from acks) act is = not_past config state (next_acks config state from acks) act is
call_not_past config state (Open group external noise) act is = not_past config state (next_open config state group external noise) act is
call_not_past config state (Register asks) act is = not_past config state (next_register state asks) act is
call_not_past config state (Join other token) act is = not_past config state (next_join config state other token) act is
call_not_past config state (Confirm peer) act is = not_past config state (next_confirm state peer) act is

pub calls_keep_states_sound : CallsKeepStatesSound
calls_keep_states_sound config sound state before call asked act is =
    sound_after config state act sound before (asked_due config state call act sound before asked is) (call_not_past config state call act is)

-- A NODE THAT BEGINS
never : {G : Type 0} (place : ℕ) → place < 0 → G
never place within = absurd (omega (arith, within))

new_sound : (config : Config) (me : Peer) → is_peer config me ≡ true → IsSoundState config (new_state me)
new_sound config me fits = record {
  me = fits;
  counts = record {
    acts = omega arith;
    last_change = omega arith;
    last_batch = omega arith;
    last_tx = omega arith;
    routed = omega arith;
    none = λ zero. refl;
  };
  lists = record {
    peers = λ i j d below within. never j within;
    openings = λ i j d below within. never j within;
    writers = λ i j d below within. never j within;
    changes = λ i j d below within. never j within;
    batches = λ i j d below within. never j within;
    lanes = λ i j d below within. never j within;
  };
  peers = refl;
  few = omega arith;
  openings = refl;
  stages = λ k d within. never k within;
  apart = λ i j d below within. never j within;
  writers = refl;
  tables = record {
    few = omega arith;
    known = λ k d within. never k within;
    held = λ k d within. never k within;
    ascend = λ i j d below within. never j within;
    references = λ k d within. never k within;
  };
  changes = λ k d within. never k within;
  counted = refl;
  unrouted = refl;
  batches = refl;
  sent = refl;
  acks = λ i j d below within. never j within;
  lanes = refl;
}

after_sound : (config : Config) (state : State) (call : Call) (made : Option Act) → IsSound config → IsSoundState config state → IsAsked config state call
    → act_of config state call ≡ made → IsSoundState config (after_made config state made)
after_sound config state call None sound before asked is = before
after_sound config state call (Some act) sound before asked is = calls_keep_states_sound config sound state before call asked act is

pub nodes_stay_sound : NodesStaySound
nodes_stay_sound config sound me fits [] asked = new_sound config me fits
nodes_stay_sound config sound me fits (call ∷ older) asked =
    let before : State = state_of config (called_all config (begun me) older) in
    subst (IsSoundState config) (sym (calls_step_on config me older call))
    (after_sound config before call (act_of config before call) sound (nodes_stay_sound config sound me fits older asked.1) asked.0 refl)
