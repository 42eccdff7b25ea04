-- A node's counters never fall, and what it numbers stays within them.
use Rattle.std.specs.Prelude.{ℕ, ◌<◌, ◌≤◌, List, [], ◌∷◌, ◌++◌, All}
use Rattle.sds_value.specs.declared.row.Peer.{Peer}
use Rattle.sds_types.specs.declared.config.Config.{Config}
use Rattle.sds_types.specs.declared.batch.OutBatch.{OutBatch}
use Rattle.sds_types.specs.declared.counts.Counts.{Counts}
use Rattle.sds_types.specs.declared.peer.KeptPeer.{KeptPeer}
use Rattle.sds_types.specs.declared.row.Change.{Change}
use Rattle.sds_first_spec.specs.Acts.{Act, State}
use Rattle.sds_first_spec.specs.History.{counts_of, state_of}
use Rattle.sds_first_spec.specs.One.{begun}

-- no counter is lower than before
pub record NoneLower (before after : Counts) : Type 0 where
  pub acts : before.acts ≤ after.acts
  pub last_change : before.last_change ≤ after.last_change
  pub last_batch : before.last_batch ≤ after.last_batch
  pub last_tx : before.last_tx ≤ after.last_tx

-- numbers that rise strictly, above low and up to high
abbrev pub Rising : ℕ → ℕ → List OutBatch → Type 0
Rising low high [] = low ≤ high
Rising low high (batch ∷ batches) = (low < batch.id) × Rising batch.id high batches

-- changes, batches and the changes of batches have numbers that the counters have reached, and those of batches rise
pub record IsNumbered (s : State) : Type 0 where
  pub changes : All (λ (c : Change). c.id ≤ s.counts.last_change) s.changes
  pub batches : Rising 0 s.counts.last_batch s.batches
  pub within : All (λ (b : OutBatch). All (λ (id : ℕ). id ≤ s.counts.last_change) b.changes) s.batches

-- further acts of a node leave no counter lower
abbrev pub CountersNeverFall : Type 0
CountersNeverFall = (config : Config) (opening : State) (earlier later : List Act) → NoneLower (counts_of config opening earlier) (counts_of config opening (later ++ earlier))

-- whatever acts a node has made since it began
abbrev pub NumbersStayWithin : Type 0
NumbersStayWithin = (config : Config) (me : Peer) (peers : List KeptPeer) (acts : List Act) → IsNumbered (state_of config (record { opening = begun me peers; acts = acts }))
