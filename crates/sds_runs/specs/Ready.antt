-- Acts that are ready to be committed.
use Rattle.std.specs.Prelude.{ℕ, if◌then◌else◌, List, [], None, Some, Result, Ok, Err}
use Rattle.sds_types.specs.declared.config.Config.{Config}
use Rattle.sds_types.specs.declared.lane.LaneIn.{LaneIn}
use Rattle.sds_types.specs.declared.load_answer.PeerRefusal.{PeerRefusal}
use Rattle.sds_types.specs.declared.load_answer.PeerRefusal.TheVariants as peer
use Rattle.sds_types.specs.declared.node_fault.NodeFault.TheVariants.{Counters, NoMemory}
use Rattle.sds_types.specs.declared.tx_row.Broken.{Broken}
use Rattle.sds_types.specs.declared.tx_row.Broken.TheVariants as broken
use Rattle.sds_types.specs.declared.write_answer.WriteRefusal.{WriteRefusal}
use Rattle.sds_types.specs.declared.write_answer.WriteRefusal.TheVariants as write
use Rattle.sds_trade.specs.rules.Captured.{Done}
use Rattle.sds_history.specs.history.Acts.{State}
use Rattle.sds_history.specs.history.Counters.{is_past}
use Rattle.sds_runs.specs.Made.{erred_counts, erred_edits, loaded_counts, loaded_edits, next_changes, written_counts, written_edits, written_last}
use Rattle.sds_runs.specs.declared.loading.ReadyLoad.{ReadyLoad}
use Rattle.sds_runs.specs.declared.writing.ReadyWrite.{ReadyWrite}

abbrev pub ready_write : Config → State → List ℕ → ℕ → List Done → ReadyWrite
ready_write config state writer number dones = record {
  edits = written_edits config state writer number dones;
  changes = next_changes config state None dones;
  last = written_last config state writer number dones;
  counts = written_counts config state dones;
}

-- a write that is ready, where no counter would pass its end
abbrev pub readied_write : Config → State → List ℕ → ℕ → List Done → Result ReadyWrite WriteRefusal
readied_write config state writer number dones =
    if is_past (written_counts config state dones) then Err (write.Fault Counters)
    else Ok (ready_write config state writer number dones)

abbrev pub ready_load : Config → State → LaneIn → List Done → ReadyLoad
ready_load config state lane dones = record {
  edits = loaded_edits config state lane dones;
  changes = next_changes config state (Some lane.peer) dones;
  lane = lane;
  counts = loaded_counts config state lane dones;
}

abbrev pub readied_load : Config → State → LaneIn → List Done → Result ReadyLoad PeerRefusal
readied_load config state lane dones =
    if is_past (loaded_counts config state lane dones) then Err (peer.Fault Counters)
    else Ok (ready_load config state lane dones)

-- the error of a lane
abbrev pub ready_error : Config → State → LaneIn → ReadyLoad
ready_error config state lane = record {
  edits = erred_edits config state.counts lane;
  changes = [];
  lane = lane;
  counts = erred_counts state.counts;
}

abbrev pub readied_error : Config → State → LaneIn → Result ReadyLoad PeerRefusal
readied_error config state lane =
    if is_past (erred_counts state.counts) then Err (peer.Fault Counters)
    else Ok (ready_error config state lane)

-- the refusal of a write that isn't done
abbrev pub refusal_of : Broken → WriteRefusal
refusal_of (broken.Rule row rule) = write.Broken row rule
refusal_of broken.NoMemory = write.Fault NoMemory
