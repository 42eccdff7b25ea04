-- The counters never fall, and what a node numbers stays within them.
use Rattle.std.proofs.Common.{◌≡◌, ℕ, ◌+◌, ◌<◌, ◌≤◌, Bool, true, false, ◌==◌, List, [], ◌∷◌, ◌++◌, length, Option, None, Some, subst, arith, length-append}
use Rattle.std.specs.Prelude.{nat_le, if◌then◌else◌, All, map}
use Rattle.std.specs.List.{flat_map}
use Rattle.std.proofs.lemmas.List.Elements.{All-nil, All-cons}
use Rattle.sds_value.specs.declared.row.Peer.{Peer}
use Rattle.sds_types.specs.declared.config.Config.{Config}
use Rattle.sds_types.specs.declared.ack.Ack.{Ack}
use Rattle.sds_types.specs.declared.batch.OutBatch.{OutBatch}
use Rattle.sds_types.specs.declared.peer.KeptPeer.{KeptPeer}
use Rattle.sds_types.specs.declared.row.Change.{Change}
use Rattle.sds_first_spec.specs.declared.row.Done.{Done}
use Rattle.sds_types.specs.declared.row.TableRow.{TableRow}
use Rattle.sds_first_spec.specs.Acks.{standing_after}
use Rattle.sds_first_spec.specs.Acts.{Act, State}
use Rattle.sds_first_spec.specs.Acts.Act.{Wrote, Routed, Loaded, Acked}
use Rattle.sds_first_spec.specs.Batches.{Piece, pieces_of, lane_pieces, lane_changes, batches_from, full_size, channel_order}
use Rattle.sds_first_spec.specs.Capture.{steps_of}
use Rattle.sds_first_spec.specs.Changes.{changes_from, captured_channel, is_own_source, onto_changes}
use Rattle.sds_first_spec.specs.Cuts.{onto_run, runs_of, gathered, cut}
use Rattle.sds_first_spec.specs.History.{captured_of, changes_of, last_change_of, last_batch_of, batches_of, tables_of, unrouted_of, next_pieces, counts_of}
use Rattle.sds_first_spec.specs.One.{begun}
use Rattle.sds_first_spec.specs.Outcome.{load_steps}
use Rattle.sds_first_laws.specs.Counters.{NoneLower, Rising, CountersNeverFall, NumbersStayWithin}
use Rattle.sds_first_laws.proofs.Each.{Each, all_from_each, each_append, each_weaker, each_map, each_filter, each_flat_map}

-- COUNTERS
pub act_lowers_none : (config : Config) (opening : State) (act : Act) (acts : List Act) → NoneLower (counts_of config opening acts) (counts_of config opening (act ∷ acts))
act_lowers_none config opening (Wrote writer number rows) acts = record {
  acts = omega arith;
  last_change = rw (length-append (captured_of config opening acts) _) (omega arith);
  last_batch = omega arith;
  last_tx = omega arith;
}
act_lowers_none config opening Routed acts = record { acts = omega arith; last_change = omega arith; last_batch = omega arith; last_tx = omega arith }
act_lowers_none config opening (Loaded from channel batch rows) acts = record {
  acts = omega arith;
  last_change = rw (length-append (captured_of config opening acts) _) (omega arith);
  last_batch = omega arith;
  last_tx = omega arith;
}
act_lowers_none config opening (Acked from acks) acts = record { acts = omega arith; last_change = omega arith; last_batch = omega arith; last_tx = omega arith }

pub never_fall : CountersNeverFall
never_fall config opening earlier [] = record { acts = omega arith; last_change = omega arith; last_batch = omega arith; last_tx = omega arith }
never_fall config opening earlier (act ∷ later) =
    let before : NoneLower (counts_of config opening earlier) (counts_of config opening (later ++ earlier)) = never_fall config opening earlier later in
    let last : NoneLower (counts_of config opening (later ++ earlier)) (counts_of config opening (act ∷ (later ++ earlier))) = act_lowers_none config opening act (later ++ earlier) in
    record {
      acts = omega (arith, before.acts, last.acts);
      last_change = omega (arith, before.last_change, last.last_change);
      last_batch = omega (arith, before.last_batch, last.last_batch);
      last_tx = omega (arith, before.last_tx, last.last_tx);
    }

-- CHANGES. The numbers of the changes of one transaction lie between low and high.
abbrev pub Between : ℕ → ℕ → Change → Type 0
Between low high change = (low < change.id) × (change.id ≤ high)

by_channel : (o : Option ℕ) (low high id tx : ℕ) (source : Option (List ℕ)) (done : Done) (without more : List Change) → low < id
    → id + length (onto_changes o id tx source done without more) ≤ high + 1
    → (id + length without ≤ high + 1 → Each (Between low high) without) → (id + 1 + length more ≤ high + 1 → Each (Between low high) more)
    → Each (Between low high) (onto_changes o id tx source done without more)
by_channel None low high id tx source done without more above below on one = on below
by_channel (Some channel) low high id tx source done without more above below on one = ((above, omega (arith, below)), one (omega (arith, below)))

pub changes_between : (config : Config) (group : List ℕ) (source : Option (List ℕ)) (low high id tx : ℕ) (dones : List Done) → low < id
    → id + length (changes_from config group source id tx dones) ≤ high + 1 → Each (Between low high) (changes_from config group source id tx dones)
changes_between config group source low high id tx [] above below = tt
changes_between config group source low high id tx (done ∷ dones) above below =
    by_channel (captured_channel config group (is_own_source source) done.step) low high id tx source done _ _ above below
    (λ fits. changes_between config group source low high id tx dones above fits)
    (λ fits. changes_between config group source low high (id + 1) tx dones (omega (arith, above)) fits)

abbrev pub UpTo : ℕ → Change → Type 0
UpTo high change = change.id ≤ high

-- changes and further ones behind them
more_up_to : (first more : List Change) (low high : ℕ) → low ≤ high → Each (UpTo low) first → Each (Between low high) more → Each (UpTo high) (first ++ more)
more_up_to first more low high le each between =
    each_append (UpTo high) first more (each_weaker (UpTo low) (UpTo high) (λ c up. omega (arith, le, up)) first each)
    (each_weaker (Between low high) (UpTo high) (λ c b. b.1) more between)

pub captured_more : (config : Config) (group : List ℕ) (source : Option (List ℕ)) (n tx : ℕ) (dones : List Done) (first : List Change)
    → Each (Between n (n + length (changes_from config group source (n + 1) tx dones))) (changes_from config group source (n + 1) tx dones)
captured_more config group source n tx dones first = changes_between config group source n _ (n + 1) tx dones (omega arith) (omega arith)

pub captured_up_to : (config : Config) (me : Peer) (peers : List KeptPeer) (acts : List Act)
    → Each (UpTo (last_change_of config (begun me peers) acts)) (captured_of config (begun me peers) acts)
captured_up_to config me peers [] = tt
captured_up_to config me peers (Wrote writer number rows ∷ acts) =
    let n : ℕ = last_change_of config (begun me peers) acts in
    more_up_to (captured_of config (begun me peers) acts) _ n _ (rw (length-append (captured_of config (begun me peers) acts) _) (omega arith)) (captured_up_to config me peers acts)
    (rw (length-append (captured_of config (begun me peers) acts) _) (changes_between config me.group None n _ (n + 1) _ (steps_of config rows) (omega arith) (omega arith)))
captured_up_to config me peers (Routed ∷ acts) = captured_up_to config me peers acts
captured_up_to config me peers (Loaded from channel batch rows ∷ acts) =
    let n : ℕ = last_change_of config (begun me peers) acts in
    more_up_to (captured_of config (begun me peers) acts) _ n _ (rw (length-append (captured_of config (begun me peers) acts) _) (omega arith)) (captured_up_to config me peers acts)
    (rw (length-append (captured_of config (begun me peers) acts) _)
    (changes_between config me.group (Some from) n _ (n + 1) _ (load_steps config (tables_of config (begun me peers) acts) rows) (omega arith) (omega arith)))
captured_up_to config me peers (Acked from acks ∷ acts) = captured_up_to config me peers acts

-- PIECES. What holds of the changes that are cut holds of those of each piece.
abbrev pub EachOf : (Change → Type 0) → Piece → Type 0
EachOf P piece = Each P piece.changes

by_tx : (P : Change → Type 0) (change next : Change) (run : List Change) (runs : List (List Change)) (b : Bool) → P change → Each (Each P) ((next ∷ run) ∷ runs)
    → Each (Each P) (if b then (change ∷ (next ∷ run)) ∷ runs else (change ∷ []) ∷ ((next ∷ run) ∷ runs))
by_tx P change next run runs true here each = ((here, each.0), each.1)
by_tx P change next run runs false here each = ((here, tt), each)

onto_each : (P : Change → Type 0) (change : Change) (runs : List (List Change)) → P change → Each (Each P) runs → Each (Each P) (onto_run change runs)
onto_each P change [] here each = ((here, tt), tt)
onto_each P change ([] ∷ runs) here each = ((here, tt), each.1)
onto_each P change ((next ∷ run) ∷ runs) here each = by_tx P change next run runs (change.tx == next.tx) here each

runs_each : (P : Change → Type 0) (changes : List Change) → Each P changes → Each (Each P) (runs_of changes)
runs_each P [] each = tt
runs_each P (change ∷ changes) each = onto_each P change (runs_of changes) each.0 (runs_each P changes each.1)

by_full : (P : Change → Type 0) (max : ℕ) (piece : List Change) (runs : List (List Change)) (b : Bool) → Each P piece → Each (Each P) (gathered max [] runs)
    → Each (Each P) (gathered max piece runs) → Each (Each P) (if b then piece ∷ gathered max [] runs else gathered max piece runs)
by_full P max piece runs true here after on = (here, after)
by_full P max piece runs false here after on = on

gathered_each : (P : Change → Type 0) (max : ℕ) (piece : List Change) (runs : List (List Change)) → Each P piece → Each (Each P) runs → Each (Each P) (gathered max piece runs)
gathered_each P max [] [] here each = tt
gathered_each P max (change ∷ piece) [] here each = (here, tt)
gathered_each P max piece (run ∷ runs) here each =
    let longer : Each P (piece ++ run) = each_append P piece run here each.0 in
    by_full P max (piece ++ run) runs (nat_le max (length (piece ++ run))) longer (gathered_each P max [] runs tt each.1) (gathered_each P max (piece ++ run) runs longer each.1)

pub pieces_each : (P : Change → Type 0) (config : Config) (me : Peer) (peers : List KeptPeer) (rows : List TableRow) (changes : List Change) → Each P changes
    → Each (EachOf P) (pieces_of config me peers rows changes)
pieces_each P config me peers rows changes each =
    each_flat_map (EachOf P) (λ (channel : ℕ). flat_map (lane_pieces config me rows changes channel) peers)
    (λ channel. each_flat_map (EachOf P) (lane_pieces config me rows changes channel)
    (λ kept. each_map (EachOf P) _ (cut (full_size config channel) (lane_changes config me rows changes channel kept.peer))
    (gathered_each P (full_size config channel) [] (runs_of (lane_changes config me rows changes channel kept.peer)) tt
    (runs_each P (lane_changes config me rows changes channel kept.peer) (each_filter P _ changes each)))) peers) (channel_order config)

-- BATCHES
abbrev pub BatchUpTo : ℕ → OutBatch → Type 0
BatchUpTo high batch = Each (λ (id : ℕ). id ≤ high) batch.changes

batches_up_to : (high id : ℕ) (pieces : List Piece) → Each (EachOf (UpTo high)) pieces → Each (BatchUpTo high) (batches_from id pieces)
batches_up_to high id [] each = tt
batches_up_to high id (piece ∷ pieces) each =
    (each_map (λ (n : ℕ). n ≤ high) (λ (c : Change). c.id) piece.changes each.0, batches_up_to high (id + 1) pieces each.1)

pub rising_from : (n : ℕ) (pieces : List Piece) → Rising n (n + length pieces) (batches_from (n + 1) pieces)
rising_from n [] = omega arith
rising_from n (piece ∷ pieces) =
    (omega arith, subst (λ high. Rising (n + 1) high (batches_from (n + 1 + 1) pieces)) (let e : n + 1 + length pieces ≡ n + length (piece ∷ pieces) = omega arith in e) (rising_from (n + 1) pieces))

pub rising_further : (low n high : ℕ) (batches : List OutBatch) → low ≤ n → Rising n high batches → Rising low high batches
rising_further low n high [] le rising = omega (arith, le, rising)
rising_further low n high (batch ∷ batches) le rising = (omega (arith, le, rising.0), rising.1)

pub rising_append : (low middle high : ℕ) (first more : List OutBatch) → Rising low middle first → Rising middle high more → Rising low high (first ++ more)
rising_append low middle high [] more rising on = rising_further low middle high more rising on
rising_append low middle high (batch ∷ first) more rising on = (rising.0, rising_append batch.id middle high first more rising.1 on)

rising_acked : (acks : List Ack) (all : List OutBatch) (low high : ℕ) (batches : List OutBatch) → Rising low high batches
    → Rising low high (map (λ (b : OutBatch). record b { standing = standing_after all acks b b.standing }) batches)
rising_acked acks all low high [] rising = rising
rising_acked acks all low high (batch ∷ batches) rising = (rising.0, rising_acked acks all batch.id high batches rising.1)

pub batches_rise : (config : Config) (me : Peer) (peers : List KeptPeer) (acts : List Act)
    → Rising 0 (last_batch_of config (begun me peers) acts) (batches_of config (begun me peers) acts)
batches_rise config me peers [] = omega arith
batches_rise config me peers (Wrote writer number rows ∷ acts) = batches_rise config me peers acts
batches_rise config me peers (Routed ∷ acts) =
    rising_append 0 (last_batch_of config (begun me peers) acts) _ (batches_of config (begun me peers) acts) _ (batches_rise config me peers acts)
    (rising_from (last_batch_of config (begun me peers) acts) (next_pieces config (begun me peers) acts))
batches_rise config me peers (Loaded from channel batch rows ∷ acts) = batches_rise config me peers acts
batches_rise config me peers (Acked from acks ∷ acts) =
    rising_acked acks (batches_of config (begun me peers) acts) 0 _ (batches_of config (begun me peers) acts) (batches_rise config me peers acts)

further : (config : Config) (opening : State) (act : Act) (acts : List Act) → Each (BatchUpTo (last_change_of config opening acts)) (batches_of config opening acts)
    → Each (BatchUpTo (last_change_of config opening (act ∷ acts))) (batches_of config opening acts)
further config opening act acts each =
    let le : last_change_of config opening acts ≤ last_change_of config opening (act ∷ acts) = (act_lowers_none config opening act acts).last_change in
    each_weaker (BatchUpTo (last_change_of config opening acts)) (BatchUpTo (last_change_of config opening (act ∷ acts)))
    (λ b up. each_weaker (λ (id : ℕ). id ≤ last_change_of config opening acts) (λ (id : ℕ). id ≤ last_change_of config opening (act ∷ acts)) (λ id h. omega (arith, le, h)) b.changes up)
    (batches_of config opening acts) each

pub batches_within : (config : Config) (me : Peer) (peers : List KeptPeer) (acts : List Act)
    → Each (BatchUpTo (last_change_of config (begun me peers) acts)) (batches_of config (begun me peers) acts)
batches_within config me peers [] = tt
batches_within config me peers (Wrote writer number rows ∷ acts) = further config (begun me peers) (Wrote writer number rows) acts (batches_within config me peers acts)
batches_within config me peers (Routed ∷ acts) =
    each_append (BatchUpTo (last_change_of config (begun me peers) acts)) (batches_of config (begun me peers) acts) _ (batches_within config me peers acts)
    (batches_up_to (last_change_of config (begun me peers) acts) _ (next_pieces config (begun me peers) acts)
    (pieces_each (UpTo (last_change_of config (begun me peers) acts)) config me peers (tables_of config (begun me peers) acts) (unrouted_of config (begun me peers) acts)
    (each_filter (UpTo (last_change_of config (begun me peers) acts)) _ (changes_of config (begun me peers) acts) (captured_up_to config me peers acts))))
batches_within config me peers (Loaded from channel batch rows ∷ acts) = further config (begun me peers) (Loaded from channel batch rows) acts (batches_within config me peers acts)
batches_within config me peers (Acked from acks ∷ acts) =
    each_map (BatchUpTo (last_change_of config (begun me peers) acts)) _ (batches_of config (begun me peers) acts) (batches_within config me peers acts)

all_within : (high : ℕ) (batches : List OutBatch) → Each (BatchUpTo high) batches → All (λ (b : OutBatch). All (λ (id : ℕ). id ≤ high) b.changes) batches
all_within high [] each = All-nil _
all_within high (batch ∷ batches) each =
    All-cons (λ (b : OutBatch). All (λ (id : ℕ). id ≤ high) b.changes) batch batches (all_from_each (λ (id : ℕ). id ≤ high) batch.changes each.0) (all_within high batches each.1)

pub stay_within : NumbersStayWithin
stay_within config me peers acts = record {
  changes = all_from_each (UpTo (last_change_of config (begun me peers) acts)) (changes_of config (begun me peers) acts) (captured_up_to config me peers acts);
  batches = batches_rise config me peers acts;
  within = all_within (last_change_of config (begun me peers) acts) (batches_of config (begun me peers) acts) (batches_within config me peers acts);
}
