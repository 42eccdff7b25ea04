-- The tables of a sound state after an act, and the changes that it captured.
use Rattle.std.proofs.Common.{◌≡◌, ℕ, ◌+◌, ◌<◌, Bool, true, false, List, [], length, Option, None, Some, refl, sym, subst, true≢false, ◌&&◌, ◌==◌, All}
use Rattle.std.specs.List.{enumerate_from, list_all}
use Rattle.std.specs.Option.{option_map_or}
use Rattle.std.specs.Prelude.{IfSome, is_some, option_and_then}
use Rattle.std.specs.Str.{bytes_eq, encode_utf8_all}
use Rattle.std.proofs.lemmas.List.Elements.{All-nil, All-append}
use Rattle.std.proofs.lemmas.List.Sums.{AllPass-from_list_all}
use Rattle.std.proofs.lemmas.Str.{encodes_same}
use Rattle.sds_value.specs.Names.{is_name_text}
use Rattle.sds_types.specs.declared.config.Config.{Config}
use Rattle.sds_types.specs.declared.peer.KeptPeer.{KeptPeer}
use Rattle.sds_types.specs.declared.row.Change.{Change}
use Rattle.sds_types.specs.declared.row.RowStep.{RowStep}
use Rattle.sds_types.specs.declared.row.RowStep.TheVariants as step
use Rattle.sds_types.specs.declared.trigger.TriggerDef.{TriggerDef}
use Rattle.sds_trade.specs.rules.Captured.{Done, captured_channel, captures, trigger_on}
use Rattle.sds_trade.specs.rules.Places.{is_among}
use Rattle.sds_trade.specs.rules.Runs.{RunEnd}
use Rattle.sds_trade.specs.rules.Runs.RunEnd.{Made, Ignored, Refused}
use Rattle.sds_trade.specs.rules.Sound.{IsSound}
use Rattle.sds_trade.specs.rules.Steps.{event_of, new_row, table_of}
use Rattle.sds_trade.specs.rules.Tables.{AreTables}
use Rattle.sds_trade.specs.sound.Triggers.{IsTrigger}
use Rattle.sds_history.specs.history.Acts.{Act, State}
use Rattle.sds_history.specs.history.Acts.Act.{Opened, Joined, Confirmed, Wrote, Routed, Loaded, Erred, Acked}
use Rattle.sds_history.specs.history.Changes.{waiting_after}
use Rattle.sds_history.specs.history.Peers.{kept_peer, peer_key}
use Rattle.sds_history.specs.history.Runs.{dones_of, last_change_after, rows_after_run, source_of}
use Rattle.sds_history.specs.history.SoundParts.{IsChange, has_new, is_kept_peer, is_peer, is_token}
use Rattle.sds_history.specs.history.States.{state_after}
use Rattle.sds_nodelaws.proofs.Due.{Due}
use Rattle.sds_nodelaws.proofs.Held.{mapped}
use Rattle.sds_nodelaws.proofs.Items.{equal}
use Rattle.sds_nodelaws.proofs.Judges.{load_ends, write_ends}
use Rattle.sds_nodelaws.proofs.KeyedLists.{placed_all}
use Rattle.sds_nodelaws.proofs.Lists.{and_left, find_all, find_passes, no_some, same_some}
use Rattle.sds_nodelaws.proofs.NodeFacts.{IsKept}
use Rattle.sds_nodelaws.proofs.SoundCounts.{Becomes, captured, changes_each, run_of}
use Rattle.sds_nodelaws.proofs.TableRuns.{EndsIn, IsDone}

-- HOW AN ACT ENDS
run_ends : (config : Config) (state : State) (act : Act) → IsSound config → AreTables config.tables state.tables → Due config state act
    → IfSome (run_of config state act).end (EndsIn config.tables)
run_ends config state (Wrote writer number rows) sound are due =
    write_ends config state.me.group (waiting_after config state []) state.tables rows sound are due.2
run_ends config state (Loaded channel batch) sound are due =
    load_ends config state.me.group (waiting_after config state []) state.tables due.from batch sound are due.read
run_ends config state (Opened group external token) sound are due = tt
run_ends config state (Joined kept) sound are due = tt
run_ends config state (Confirmed peer) sound are due = tt
run_ends config state Routed sound are due = tt
run_ends config state (Erred from channel error) sound are due = tt
run_ends config state (Acked from acks) sound are due = tt

pub tables_stay : (config : Config) (state : State) (act : Act) → IsSound config → AreTables config.tables state.tables → Due config state act
    → AreTables config.tables (state_after config state act).tables
tables_stay config state act sound are due = on (run_of config state act).end (run_ends config state act sound are due)
  where
    on : (end : Option RunEnd) → IfSome end (EndsIn config.tables) → AreTables config.tables (rows_after_run state.tables end)
    on None ends = are
    on (Some (Made dones rows)) ends = ends.0
    on (Some Ignored) ends = are
    on (Some (Refused number rule)) ends = are

pub steps_done : (config : Config) (state : State) (act : Act) → IsSound config → AreTables config.tables state.tables → Due config state act
    → All (IsDone config.tables) (dones_of (run_of config state act).end)
steps_done config state act sound are due = on (run_of config state act).end (run_ends config state act sound are due)
  where
    on : (end : Option RunEnd) → IfSome end (EndsIn config.tables) → All (IsDone config.tables) (dones_of end)
    on None ends = All-nil (IsDone config.tables)
    on (Some (Made dones rows)) ends = ends.1
    on (Some Ignored) ends = All-nil (IsDone config.tables)
    on (Some (Refused number rule)) ends = All-nil (IsDone config.tables)

-- THE CHANGES that steps become
channel_there : (config : Config) (group : List ℕ) (incoming : Bool) (made : RowStep) (channel : ℕ) → IsSound config
    → captured_channel config group incoming made ≡ Some channel → channel < length config.channels
channel_there config group incoming made channel sound = on (trigger_on config (table_of made)) refl
  where
    each : All (λ (at : ℕ × TriggerDef). at.1.channel < length config.channels) (enumerate_from 0 config.triggers)
    each =
        placed_all (λ (t : TriggerDef). t.channel < length config.channels) 0 config.triggers
        (mapped (IsTrigger config) (λ (t : TriggerDef). t.channel < length config.channels) config.triggers (λ t is. is.channel) sound.triggers.each)

    by_capture : (at : ℕ × TriggerDef) → at.1.channel < length config.channels → (b : Bool)
        → elim b [ true ↦ Some at.1.channel | false ↦ None ] ≡ Some channel → channel < length config.channels
    by_capture at less true is = subst (λ c. c < length config.channels) (same_some at.1.channel channel is) less
    by_capture at less false is = no_some channel is

    on : (found : Option (ℕ × TriggerDef)) → trigger_on config (table_of made) ≡ found
        → option_and_then (λ (at : ℕ × TriggerDef). elim (captures config group incoming made at) [ true ↦ Some at.1.channel | false ↦ None ]) found ≡ Some channel
        → channel < length config.channels
    on None there is = no_some channel is
    on (Some at) there is =
        by_capture at (find_all (λ (one : ℕ × TriggerDef). one.1.channel < length config.channels)
        (λ (one : ℕ × TriggerDef). one.1.source_table == table_of made) (enumerate_from 0 config.triggers) at each there)
        (captures config group incoming made at) is

has_its_new : (made : RowStep) → is_some (new_row made) ≡ has_new (event_of made)
has_its_new (step.Insert table row) = refl
has_its_new (step.Update table key row) = refl
has_its_new (step.Delete table key) = refl

change_is : (config : Config) (group : List ℕ) (tx : ℕ) (source : Option (List ℕ)) (done : Done) → IsSound config
    → option_map_or is_name_text source true ≡ true → IsDone config.tables done → Becomes (IsChange config) config group tx source done
change_is config group tx source done sound named is channel captured = record {
  table = is.there;
  channel = channel_there config group (is_some source) done.step channel sound captured;
  new = has_its_new done.step;
  old = is.had;
  new_row = is.made;
  old_row = is.stood;
  source = named;
}

renumbered : (config : Config) (change : Change) (id : ℕ) → IsChange config change → IsChange config (record change { id = id })
renumbered config change id is = record {
  table = is.table;
  channel = is.channel;
  new = is.new;
  old = is.old;
  new_row = is.new_row;
  old_row = is.old_row;
  source = is.source;
}

-- a kept peer has a name
pub kept_name : (config : Config) (state : State) (id : List ℕ) → list_all (is_kept_peer config) state.peers ≡ true → IsKept state.peers id → is_name_text id ≡ true
kept_name config state id are kept = on (kept_peer state.peers id) refl kept
  where
    on : (found : Option KeptPeer) → kept_peer state.peers id ≡ found → is_some found ≡ true → is_name_text id ≡ true
    on None is some = absurd (true≢false (sym some))
    on (Some p) is some =
        subst (λ t. is_name_text t ≡ true)
        (encodes_same p.peer.id id (equal (peer_key p) (encode_utf8_all id) (find_passes (λ (k : KeptPeer). bytes_eq (peer_key k) (encode_utf8_all id)) state.peers p is)))
        (and_left (is_name_text p.peer.id) (is_among config.groups p.peer.group && is_name_text p.peer.external)
        (and_left (is_peer config p.peer) (is_token p.token)
        (find_all (λ (k : KeptPeer). is_kept_peer config k ≡ true) (λ (k : KeptPeer). bytes_eq (peer_key k) (encode_utf8_all id)) state.peers p
        (AllPass-from_list_all (is_kept_peer config) state.peers are) is)))

source_named : (config : Config) (state : State) (act : Act) → list_all (is_kept_peer config) state.peers ≡ true → Due config state act
    → option_map_or is_name_text (source_of act) true ≡ true
source_named config state (Loaded channel batch) are due = kept_name config state batch.from are due.kept
source_named config state (Opened group external token) are due = refl
source_named config state (Joined kept) are due = refl
source_named config state (Confirmed peer) are due = refl
source_named config state (Wrote writer number rows) are due = refl
source_named config state Routed are due = refl
source_named config state (Erred from channel error) are due = refl
source_named config state (Acked from acks) are due = refl

pub changes_are : (config : Config) (state : State) (act : Act) → IsSound config → list_all (is_kept_peer config) state.peers ≡ true
    → AreTables config.tables state.tables → Due config state act → All (IsChange config) state.changes
    → All (IsChange config) (state_after config state act).changes
changes_are config state act sound peers tables due are =
    All-append (IsChange config) state.changes (captured config state act) are
    (changes_each (IsChange config) (renumbered config) config state.me.group (last_change_after config state [] + 1) (state.counts.last_tx + 1) (source_of act)
    (dones_of (run_of config state act).end)
    (mapped (IsDone config.tables) (Becomes (IsChange config) config state.me.group (state.counts.last_tx + 1) (source_of act)) (dones_of (run_of config state act).end)
    (λ done is. change_is config state.me.group (state.counts.last_tx + 1) (source_of act) done sound (source_named config state act peers due) is)
    (steps_done config state act sound tables due)))
