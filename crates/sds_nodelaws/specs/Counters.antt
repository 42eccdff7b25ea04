-- Counters never fall, and what is numbered stays within them.
use Rattle.std.specs.Prelude.{◌≡◌, ℕ, ◌+◌, ◌≤◌, List, ◌++◌, map}
use Rattle.std.specs.List.{range_with_len}
use Rattle.sds_types.specs.declared.batch.OutBatch.{OutBatch}
use Rattle.sds_types.specs.declared.config.Config.{Config}
use Rattle.sds_types.specs.declared.counts.Counts.{Counts}
use Rattle.sds_types.specs.declared.row.Change.{Change}
use Rattle.sds_history.specs.history.Acts.{Act, History, State}
use Rattle.sds_history.specs.history.States.{state_of}
use Rattle.sds_history.specs.world.Calling.{with_act}

-- each counter is at most the other's
pub record AreAtMost (a b : Counts) : Type 0 where
  pub acts : a.acts ≤ b.acts
  pub last_change : a.last_change ≤ b.last_change
  pub last_batch : a.last_batch ≤ b.last_batch
  pub last_tx : a.last_tx ≤ b.last_tx
  pub routed : a.routed ≤ b.routed

-- no more changes are routed than were captured
abbrev pub IsMarked : State → Type 0
IsMarked opening = opening.counts.routed ≤ opening.counts.last_change

abbrev pub CountersNeverFall : Type 0
CountersNeverFall = (config : Config) (history : History) (act : Act) → IsMarked history.opening
    → AreAtMost (state_of config history).counts (state_of config (with_act history act)).counts

abbrev pub MarkStaysWithin : Type 0
MarkStaysWithin = (config : Config) (history : History) → IsMarked history.opening
    → IsMarked (state_of config history)

-- the numbers of changes and of batches
abbrev pub change_ids : List Change → List ℕ
change_ids changes = map (λ (change : Change). change.id) changes

abbrev pub batch_ids : List OutBatch → List ℕ
batch_ids batches = map (λ (batch : OutBatch). batch.id) batches

-- what was numbered since the opening is numbered on from its counter, without a gap
abbrev pub CountOn : List ℕ → ℕ → List ℕ → ℕ → Type 0
CountOn before last after now = (made : ℕ)
    × ((after ≡ before ++ range_with_len (last + 1) made) × (now ≡ last + made))

abbrev pub ChangesCountOn : Type 0
ChangesCountOn = (config : Config) (history : History) → CountOn
    (change_ids history.opening.changes) history.opening.counts.last_change
    (change_ids (state_of config history).changes) (state_of config history).counts.last_change

abbrev pub BatchesCountOn : Type 0
BatchesCountOn = (config : Config) (history : History) → CountOn
    (batch_ids history.opening.batches) history.opening.counts.last_batch
    (batch_ids (state_of config history).batches) (state_of config history).counts.last_batch
