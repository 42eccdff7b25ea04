-- How a load ends, by what its lane says and by how its rows end.
use Rattle.std.proofs.Common.{◌≡◌, ℕ, ◌+◌, Bool, true, false, cond, List, [], Option, None, Some, Result, Ok, Err, refl, sym, ap, subst, ◌∙◌, true≢false}
use Rattle.std.specs.Prelude.{nat_le, nat_lt}
use Rattle.sds_outside.specs.Keepings.{Keeping}
use Rattle.sds_types.specs.declared.config.Config.{Config}
use Rattle.sds_types.specs.declared.lane.LaneError.{LaneError}
use Rattle.sds_types.specs.declared.lane.LaneIn.{LaneIn}
use Rattle.sds_types.specs.declared.load_answer.LoadAnswer.{LoadAnswer}
use Rattle.sds_types.specs.declared.load_answer.LoadAnswer.TheVariants as answer
use Rattle.sds_types.specs.declared.load_answer.PeerRefusal.{PeerRefusal}
use Rattle.sds_types.specs.declared.load_answer.PeerRefusal.TheVariants.{Fault, UnknownNode}
use Rattle.sds_types.specs.declared.node_fault.NodeFault.TheVariants.{NoMemory}
use Rattle.sds_types.specs.declared.prepared.Prepared.{Prepared}
use Rattle.sds_types.specs.declared.row.TableRow.{TableRow}
use Rattle.sds_types.specs.declared.rule.Rule.{Rule}
use Rattle.sds_types.specs.declared.rule.Rule.TheVariants.{UnknownChannel}
use Rattle.sds_trade.specs.rules.Captured.{Done}
use Rattle.sds_trade.specs.rules.Outcomes.{outcome_of_batch}
use Rattle.sds_trade.specs.rules.Runs.RunEnd.{Made, Ignored, Refused}
use Rattle.sds_history.specs.history.Acts.{Act, State}
use Rattle.sds_history.specs.history.Acts.Act.{Erred, Loaded}
use Rattle.sds_history.specs.history.Lanes.{lane_of}
use Rattle.sds_history.specs.history.Loads.{channel_answer, ended_answer, error_act, error_answer, keeps_error, knows_sender, lane_answer, load_by, load_of, outcome_answer, own_load_answer}
use Rattle.sds_history.specs.history.Writes.{waiting_in}
use Rattle.sds_commit.specs.Ends.{Kept}
use Rattle.sds_runs.specs.Fitting.{is_full}
use Rattle.sds_runs.specs.Keeping.{Keeps}
use Rattle.sds_runs.specs.Lanes.{is_of_lane, loaded_lane}
use Rattle.sds_runs.specs.Made.{error_kept, load_kept, with_rows}
use Rattle.sds_runs.proofs.Endings.{EndsOwn, kept_ends, lacking_ends, quiet_ends}
use Rattle.sds_runs.proofs.Fullness.{load_by_full}
use Rattle.sds_runs.proofs.Loaded.{edits_are_erred, edits_are_loaded, state_is_erred, state_is_loaded}

-- WHAT A LANE says, or else the outcome
pub not_of_lane : (config : Config) (state : State) (batch : Prepared) (lane : LaneIn) → is_of_lane (lane_answer config state batch lane) ≡ false
    → lane_answer config state batch lane ≡ outcome_answer config state batch
not_of_lane config state batch lane = on (nat_le batch.batch lane.highest)
  where
    by_error : (held : Bool) (error : LaneError) → is_of_lane (cond held (answer.Held error.batch error.row error.rule) (outcome_answer config state batch)) ≡ false
        → cond held (answer.Held error.batch error.row error.rule) (outcome_answer config state batch) ≡ outcome_answer config state batch
    by_error true error isnt = absurd (true≢false isnt)
    by_error false error isnt = refl

    rest : (error : Option LaneError) → is_of_lane (error_answer config state batch error) ≡ false
        → error_answer config state batch error ≡ outcome_answer config state batch
    rest None isnt = refl
    rest (Some error) isnt = by_error (nat_lt error.batch batch.batch) error isnt

    on : (b : Bool) → is_of_lane (cond b answer.Again (error_answer config state batch lane.error)) ≡ false
        → cond b answer.Again (error_answer config state batch lane.error) ≡ outcome_answer config state batch
    on true isnt = absurd (true≢false isnt)
    on false isnt = rest lane.error isnt

-- how a load ends that has this answer of its own
abbrev pub EndsLoad : Config → Kept → Kept → List ℕ → Prepared → ℕ → LoadAnswer → Result LoadAnswer PeerRefusal → Type 0
EndsLoad config before after from batch channel own result =
    EndsOwn config before after Fault (load_by before.state from batch channel own) (Ok own) result

module _ (config : Config) (state : State) (kept : Keeping) (from : List ℕ) where
  abbrev before : Kept
  before = record { state = state; told = kept }

  -- AN ERROR
  module _ (channel : ℕ) (error : LaneError) where
    abbrev own_error : LoadAnswer
    own_error = answer.Erred error.row error.rule

    abbrev erred : LaneIn
    erred = record (lane_of state.lanes from channel) { error = Some error }

    pub error_known : (after : Kept) → after ≡ before → keeps_error (lane_of state.lanes from channel) error ≡ true
        → EndsOwn config before after Fault (error_act state from channel error) (Ok own_error) (Ok own_error)
    error_known after same known =
        subst (λ act. EndsOwn config before after Fault act (Ok own_error) (Ok own_error))
        (sym (ap (λ b. cond b None (Some (Erred from channel error))) known))
        (quiet_ends config before after Fault (Ok own_error) same (λ has. absurd (cc), λ lacks. absurd (cc)))

    pub error_made : (after : Kept) (result : Result LoadAnswer PeerRefusal) → keeps_error (lane_of state.lanes from channel) error ≡ false
        → Keeps Fault (error_kept config state erred) own_error before after result
        → EndsOwn config before after Fault (error_act state from channel error) (Ok own_error) result
    error_made after result unknown keeps =
        subst (λ act. EndsOwn config before after Fault act (Ok own_error) result)
        (sym (ap (λ b. cond b None (Some (Erred from channel error))) unknown))
        (kept_ends config before after Fault (Erred from channel error) (error_kept config state erred) own_error result refl
        (sym (edits_are_erred config state from channel error)) (sym (state_is_erred config state from channel error)) keeps)

    pub error_lacks : (after : Kept) → after ≡ before
        → EndsOwn config before after Fault (error_act state from channel error) (Ok own_error) (Err (Fault NoMemory))
    error_lacks after same =
        lacking_ends config before after Fault (error_act state from channel error) (Ok own_error) (Err (Fault NoMemory)) same refl (λ has. absurd (cc))

  -- ROWS
  module _ (batch : Prepared) where
    abbrev own : LoadAnswer
    own = outcome_answer config state batch

    abbrev place : ℕ
    place = state.counts.acts + 1

    pub load_made : (channel : ℕ) (dones : List Done) (rows : List TableRow) (after : Kept) (result : Result LoadAnswer PeerRefusal)
        → outcome_of_batch config state.me.group (waiting_in state) state.tables batch ≡ Made dones rows
        → Keeps Fault (load_kept config (with_rows state rows) (loaded_lane channel batch false) dones) (answer.Loaded place) before after result
        → EndsLoad config before after from batch channel own result
    load_made channel dones rows after result is keeps =
        subst (λ told. EndsLoad config before after from batch channel told result) (sym (ap (ended_answer state) is))
        (kept_ends config before after Fault (Loaded channel batch) (load_kept config (with_rows state rows) (loaded_lane channel batch false) dones) (answer.Loaded place)
        result refl (sym (edits_are_loaded config state channel batch (Made dones rows) is)) (sym (state_is_loaded config state channel batch (Made dones rows) is)) keeps)

    pub load_ignored : (channel : ℕ) (after : Kept) (result : Result LoadAnswer PeerRefusal)
        → outcome_of_batch config state.me.group (waiting_in state) state.tables batch ≡ Ignored
        → Keeps Fault (load_kept config state (loaded_lane channel batch true) []) (answer.Ignored place) before after result
        → EndsLoad config before after from batch channel own result
    load_ignored channel after result is keeps =
        subst (λ told. EndsLoad config before after from batch channel told result) (sym (ap (ended_answer state) is))
        (kept_ends config before after Fault (Loaded channel batch) (load_kept config state (loaded_lane channel batch true) []) (answer.Ignored place)
        result refl (sym (edits_are_loaded config state channel batch Ignored is)) (sym (state_is_loaded config state channel batch Ignored is)) keeps)

    pub load_broken : (channel row : ℕ) (rule : Rule) (after : Kept) (result : Result LoadAnswer PeerRefusal)
        → outcome_of_batch config state.me.group (waiting_in state) state.tables batch ≡ Refused row rule
        → EndsOwn config before after Fault (error_act state from channel (record { batch = batch.batch; row = row; rule = rule })) (Ok (answer.Erred row rule)) result
        → EndsLoad config before after from batch channel own result
    load_broken channel row rule after result is ends =
        subst (λ told. EndsLoad config before after from batch channel told result) (sym (ap (ended_answer state) is)) ends

    pub load_lacks : (channel : ℕ) (after : Kept) → after ≡ before → EndsLoad config before after from batch channel own (Err (Fault NoMemory))
    load_lacks channel after same =
        lacking_ends config before after Fault (load_by state from batch channel own) (Ok own) (Err (Fault NoMemory)) same refl (λ has. absurd (cc))

    -- THE CALL
    abbrev told : Result LoadAnswer PeerRefusal
    told = own_load_answer config state from batch

    abbrev EndsCall : Kept → Result LoadAnswer PeerRefusal → Type 0
    EndsCall after result = EndsOwn config before after Fault (load_of state from batch batch.channel told) told result

    no_load : (channel : Option ℕ) (refusal : PeerRefusal) → load_of state from batch channel (Err refusal) ≡ None
    no_load None refusal = refl
    no_load (Some channel) refusal = refl

    no_lane : (channel : ℕ) (its : LoadAnswer) → is_of_lane its ≡ true → load_by state from batch channel its ≡ None
    no_lane channel answer.Again is = refl
    no_lane channel (answer.Held held row rule) is = refl
    no_lane channel (answer.Loaded at) is = absurd (true≢false (sym is))
    no_lane channel (answer.Ignored at) is = absurd (true≢false (sym is))
    no_lane channel (answer.Erred row rule) is = absurd (true≢false (sym is))

    pub unknown_node : knows_sender state from batch ≡ false → EndsCall before (Err UnknownNode)
    unknown_node unknown =
        subst (λ own. EndsOwn {A = LoadAnswer} config before before Fault (load_of state from batch batch.channel own) own (Err UnknownNode))
        (sym (ap (λ b. cond b (Ok (channel_answer config state from batch batch.channel)) (Err UnknownNode)) unknown))
        (subst (λ act. EndsOwn {A = LoadAnswer} config before before Fault act (Err UnknownNode) (Err UnknownNode)) (sym (no_load batch.channel UnknownNode))
        (quiet_ends {A = LoadAnswer} config before before Fault (Err UnknownNode) refl (λ has. absurd (cc), λ lacks. absurd (cc))))

    -- the sender is known
    known_is : (channel : Option ℕ) → batch.channel ≡ channel → knows_sender state from batch ≡ true
        → (after : Kept) (result : Result LoadAnswer PeerRefusal)
        → EndsOwn config before after Fault (load_of state from batch channel (Ok (channel_answer config state from batch channel)))
        (Ok (channel_answer config state from batch channel)) result → EndsCall after result
    known_is channel is known after result ends =
        subst (λ own. EndsOwn config before after Fault (load_of state from batch batch.channel own) own result)
        (sym (ap (λ b. cond b (Ok (channel_answer config state from batch batch.channel)) (Err UnknownNode)) known))
        (subst (λ c. EndsOwn config before after Fault (load_of state from batch c (Ok (channel_answer config state from batch c)))
        (Ok (channel_answer config state from batch c)) result) (sym is) ends)

    pub unknown_channel : knows_sender state from batch ≡ true → batch.channel ≡ None → EndsCall before (Ok (answer.Erred 0 UnknownChannel))
    unknown_channel known is =
        known_is None is known before (Ok (answer.Erred 0 UnknownChannel))
        (quiet_ends config before before Fault (Ok (answer.Erred 0 UnknownChannel)) refl (λ has. absurd (cc), λ lacks. absurd (cc)))

    pub lane_decides : (channel : ℕ) (its : LoadAnswer) → knows_sender state from batch ≡ true → batch.channel ≡ Some channel
        → is_of_lane its ≡ true → lane_answer config state batch (lane_of state.lanes from channel) ≡ its → EndsCall before (Ok its)
    lane_decides channel its known is of_lane says =
        known_is (Some channel) is known before (Ok its)
        (subst (λ own. EndsLoad config before before from batch channel own (Ok its)) (sym says)
        (subst (λ act. EndsOwn config before before Fault act (Ok its) (Ok its)) (sym (no_lane channel its of_lane))
        (quiet_ends config before before Fault (Ok its) refl (λ has. absurd (cc), λ lacks. absurd (cc)))))

    pub rows_decide : (channel : ℕ) (after : Kept) (result : Result LoadAnswer PeerRefusal) → knows_sender state from batch ≡ true → batch.channel ≡ Some channel
        → lane_answer config state batch (lane_of state.lanes from channel) ≡ own → EndsLoad config before after from batch channel own result
        → EndsCall after result
    rows_decide channel after result known is says ends =
        known_is (Some channel) is known after result
        (subst (λ told. EndsLoad config before after from batch channel told result) (sym says) ends)

-- how the rows end at a node, where it is told whether too many changes wait
pub load_outcome_is : (config : Config) (state : State) (group : List ℕ) (waiting : ℕ) (batch : Prepared) → group ≡ state.me.group
    → is_full waiting ≡ is_full (waiting_in state)
    → outcome_of_batch config state.me.group (waiting_in state) state.tables batch ≡ outcome_of_batch config group waiting state.tables batch
load_outcome_is config state group waiting batch named full =
    sym (load_by_full config group waiting (waiting_in state) state.tables batch full ∙ ap (λ g. outcome_of_batch config g (waiting_in state) state.tables batch) named)
