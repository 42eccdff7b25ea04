-- A node's tables are what its steps made, and what it accepted was made whole.
use Rattle.std.proofs.Common.{◌≡◌, ℕ, ◌+◌, Bool, true, false, cond, List, [], ◌∷◌, ◌++◌, length, map, Option, None, Some, Ok, Err, refl, sym, ap, subst, ◌∙◌, ◌==◌, All}
use Rattle.std.specs.List.{fold}
use Rattle.std.specs.Prelude.{nat_le, nat_lt}
use Rattle.std.proofs.lemmas.List.Elements.{All-nil, All-cons}
use Rattle.sds_value.specs.declared.table.TableDef.{TableDef}
use Rattle.sds_types.specs.Limits.{most_write_rows}
use Rattle.sds_types.specs.declared.config.Config.{Config}
use Rattle.sds_types.specs.declared.counts.WriterLast.{WriterLast}
use Rattle.sds_types.specs.declared.lane.LaneError.{LaneError}
use Rattle.sds_types.specs.declared.load_answer.LoadAnswer.TheVariants as answer
use Rattle.sds_types.specs.declared.load_answer.PeerRefusal.TheVariants as refused
use Rattle.sds_types.specs.declared.prepared.Prepared.{Prepared}
use Rattle.sds_types.specs.declared.row.RowStep.{RowStep}
use Rattle.sds_types.specs.declared.row.TableRow.{TableRow}
use Rattle.sds_types.specs.declared.tx_row.TxRow.{TxRow}
use Rattle.sds_types.specs.declared.write_answer.WriteRefusal.TheVariants.{OldNumber, GapNumber, TooManyRows}
use Rattle.sds_trade.proofs.RunKeeps.{batches_go_by_step, writes_go_by_step}
use Rattle.sds_trade.specs.laws.Runs.{rows_after_all}
use Rattle.sds_trade.specs.rules.Captured.{Done}
use Rattle.sds_trade.specs.rules.Outcomes.{outcome_of_batch}
use Rattle.sds_trade.specs.rules.OwnWrites.{outcome_of_write}
use Rattle.sds_trade.specs.rules.Runs.{RunEnd}
use Rattle.sds_trade.specs.rules.Runs.RunEnd.{Made, Ignored, Refused}
use Rattle.sds_trade.specs.rules.Steps.{rows_after}
use Rattle.sds_history.specs.history.Acts.{Act, History, State}
use Rattle.sds_history.specs.history.Acts.Act.{Opened, Joined, Confirmed, Wrote, Routed, Loaded, Erred, Acked}
use Rattle.sds_history.specs.history.Changes.{run_after, run_end_of, runs_after, waiting_after}
use Rattle.sds_history.specs.history.Lanes.{lane_of}
use Rattle.sds_history.specs.history.Loads.{channel_answer, ended_answer, error_answer, keeps_error, knows_sender, load_by, load_of, next_load, outcome_answer}
use Rattle.sds_history.specs.history.Registrations.{token_of}
use Rattle.sds_history.specs.history.Runs.{Run, dones_of, rows_after_run, tables_after}
use Rattle.sds_history.specs.history.States.{state_of}
use Rattle.sds_history.specs.history.Writers.{last_number, writer_of}
use Rattle.sds_history.specs.history.Writes.{last_answer, next_answer, next_write, numbered_answer, run_answer, waiting_in, write_by}
use Rattle.sds_nodelaws.specs.Calls.{Call, act_of, begun, called_all, with_made}
use Rattle.sds_nodelaws.specs.Calls.Call.{Write, Route, Load, TakeAcks, Open, Register, Join, Confirm}
use Rattle.sds_nodelaws.specs.Ending.{AcceptedEndWell, EndsWell, TablesAreSteps, is_refused, runs_of, steps_of}
use Rattle.sds_nodelaws.proofs.CallActs.{Joins, acks_is, confirm_is, join_is, open_is, register_is, route_is}
use Rattle.sds_nodelaws.proofs.Made.{nothing, same_act, was_within}

-- STEPS. A run's tables are those that its steps made
abbrev steps_in : RunEnd → List RowStep
steps_in end = map (λ (done : Done). done.step) (dones_of (Some end))

abbrev StepsMake : List TableDef → List TableRow → RunEnd → Type 0
StepsMake defs rows end = rows_after_run rows (Some end) ≡ fold (rows_after defs) rows (steps_in end)

made_steps : (defs : List TableDef) (rows : List TableRow) (dones : List Done)
    → rows_after_all defs rows dones ≡ fold (rows_after defs) rows (map (λ (done : Done). done.step) dones)
made_steps defs rows [] = refl
made_steps defs rows (done ∷ dones) = made_steps defs (rows_after defs rows done.step) dones

write_steps : (config : Config) (group : List ℕ) (waiting : ℕ) (rows : List TableRow) (tx : List TxRow)
    → StepsMake config.tables rows (outcome_of_write config group waiting rows tx)
write_steps config group waiting rows tx = on (outcome_of_write config group waiting rows tx) refl
  where
    on : (end : RunEnd) → outcome_of_write config group waiting rows tx ≡ end → StepsMake config.tables rows (outcome_of_write config group waiting rows tx)
    on (Made dones after) is = subst (StepsMake config.tables rows) (sym is)
        (writes_go_by_step config group waiting rows after tx dones is ∙ made_steps config.tables rows dones)
    on Ignored is = subst (StepsMake config.tables rows) (sym is) refl
    on (Refused number rule) is = subst (StepsMake config.tables rows) (sym is) refl

batch_steps : (config : Config) (group : List ℕ) (waiting : ℕ) (rows : List TableRow) (batch : Prepared)
    → StepsMake config.tables rows (outcome_of_batch config group waiting rows batch)
batch_steps config group waiting rows batch = on (outcome_of_batch config group waiting rows batch) refl
  where
    on : (end : RunEnd) → outcome_of_batch config group waiting rows batch ≡ end → StepsMake config.tables rows (outcome_of_batch config group waiting rows batch)
    on (Made dones after) is = subst (StepsMake config.tables rows) (sym is)
        (batches_go_by_step config group waiting rows after batch dones is ∙ made_steps config.tables rows dones)
    on Ignored is = subst (StepsMake config.tables rows) (sym is) refl
    on (Refused number rule) is = subst (StepsMake config.tables rows) (sym is) refl

act_steps : (config : Config) (opening : State) (waiting : ℕ) (rows : List TableRow) (act : Act)
    → rows_after_run rows (run_end_of config opening waiting rows act)
    ≡ fold (rows_after config.tables) rows (map (λ (done : Done). done.step) (dones_of (run_end_of config opening waiting rows act)))
act_steps config opening waiting rows (Wrote writer number tx) = write_steps config opening.me.group waiting rows tx
act_steps config opening waiting rows (Loaded channel batch) = batch_steps config opening.me.group waiting rows batch
act_steps config opening waiting rows (Opened group external token) = refl
act_steps config opening waiting rows (Joined kept) = refl
act_steps config opening waiting rows (Confirmed peer) = refl
act_steps config opening waiting rows Routed = refl
act_steps config opening waiting rows (Erred from channel error) = refl
act_steps config opening waiting rows (Acked from acks) = refl

fold_append : {X Y : Type 0} (f : Y → X → Y) (y : Y) (xs zs : List X) → fold f y (xs ++ zs) ≡ fold f (fold f y xs) zs
fold_append f y [] zs = refl
fold_append f y (x ∷ xs) zs = fold_append f (f y x) xs zs

tables_by : (config : Config) (opening : State) (acts : List Act)
    → tables_after opening (runs_after config opening acts) ≡ fold (rows_after config.tables) opening.tables (steps_of (runs_after config opening acts))
tables_by config opening [] = refl
tables_by config opening (act ∷ older) =
    let runs : List Run = runs_after config opening older in
    act_steps config opening (waiting_after config opening runs) (tables_after opening runs) act
    ∙ (ap (λ rows. fold (rows_after config.tables) rows (map (λ (done : Done). done.step)
    (dones_of (run_end_of config opening (waiting_after config opening runs) (tables_after opening runs) act)))) (tables_by config opening older)
    ∙ sym (fold_append (rows_after config.tables) opening.tables (steps_of runs)
    (map (λ (done : Done). done.step) (dones_of (run_end_of config opening (waiting_after config opening runs) (tables_after opening runs) act)))))

pub tables_are_steps : TablesAreSteps
tables_are_steps config history = tables_by config history.opening history.acts

-- ENDS. A write that is made, and a batch that is loaded, breaks no rule
abbrev Well : Config → State → Act → Type 0
Well config state act = is_refused (run_end_of config state (waiting_in state) state.tables act) ≡ false

well_by : (config : Config) (state : State) (plain act : Act) → Some plain ≡ Some act → Well config state plain → Well config state act
well_by config state plain act made is = subst (Well config state) (same_act plain act made) is

ran_well : (config : Config) (state : State) (writer : List ℕ) (number : ℕ) (rows : List TxRow) (act : Act) (end : RunEnd)
    → outcome_of_write config state.me.group (waiting_in state) state.tables rows ≡ end
    → write_by (Wrote writer number rows) (run_answer config state (Wrote writer number rows) end) ≡ Some act → Well config state act
ran_well config state writer number rows act (Made dones after) is made = well_by config state (Wrote writer number rows) act made (ap (λ e. is_refused (Some e)) is)
ran_well config state writer number rows act Ignored is made = well_by config state (Wrote writer number rows) act made (ap (λ e. is_refused (Some e)) is)
ran_well config state writer number rows act (Refused row rule) is made = nothing act made

again_on : {G : Type 0} (plain act : Act) (kept : Option WriterLast) → write_by plain (Ok (last_answer kept)) ≡ Some act → G
again_on plain act None made = nothing act made
again_on plain act (Some last) made = nothing act made

numbered_on : (config : Config) (state : State) (writer : List ℕ) (number : ℕ) (rows : List TxRow) (act : Act) (kept : Option WriterLast) (a b c d : Bool)
    → write_by (Wrote writer number rows)
    (cond a (Err (OldNumber (last_number kept))) (cond b (Err (OldNumber (last_number kept)))
    (cond c (Ok (last_answer kept)) (cond d (Err (GapNumber (last_number kept))) (next_answer config state writer number rows))))) ≡ Some act
    → Well config state act
numbered_on config state writer number rows act kept true b c d made = nothing act made
numbered_on config state writer number rows act kept false true c d made = nothing act made
numbered_on config state writer number rows act kept false false true d made = again_on (Wrote writer number rows) act kept made
numbered_on config state writer number rows act kept false false false true made = nothing act made
numbered_on config state writer number rows act kept false false false false made =
    ran_well config state writer number rows act (outcome_of_write config state.me.group (waiting_in state) state.tables rows) refl made

own_on : (config : Config) (state : State) (writer : List ℕ) (number : ℕ) (rows : List TxRow) (act : Act) (b : Bool)
    → write_by (Wrote writer number rows) (cond b (Err TooManyRows) (numbered_answer config state writer number rows (writer_of state.writers writer))) ≡ Some act
    → Well config state act
own_on config state writer number rows act true made = nothing act made
own_on config state writer number rows act false made =
    let kept : Option WriterLast = writer_of state.writers writer in
    numbered_on config state writer number rows act kept (number == 0) (nat_lt number (last_number kept)) (number == last_number kept)
    (nat_lt (last_number kept + 1) number) made

error_on : (config : Config) (state : State) (from : List ℕ) (channel : ℕ) (error : LaneError) (act : Act) (b : Bool)
    → cond b None (Some (Erred from channel error)) ≡ Some act → Well config state act
error_on config state from channel error act true made = nothing act made
error_on config state from channel error act false made = well_by config state (Erred from channel error) act made refl

ended_on : (config : Config) (state : State) (from : List ℕ) (batch : Prepared) (channel : ℕ) (act : Act) (end : RunEnd)
    → outcome_of_batch config state.me.group (waiting_in state) state.tables batch ≡ end
    → load_by state from batch channel (ended_answer state end) ≡ Some act → Well config state act
ended_on config state from batch channel act (Made dones after) is made = well_by config state (Loaded channel batch) act made (ap (λ e. is_refused (Some e)) is)
ended_on config state from batch channel act Ignored is made = well_by config state (Loaded channel batch) act made (ap (λ e. is_refused (Some e)) is)
ended_on config state from batch channel act (Refused row rule) is made =
    error_on config state from channel (record { batch = batch.batch; row = row; rule = rule }) act
    (keeps_error (lane_of state.lanes from channel) (record { batch = batch.batch; row = row; rule = rule })) made

held_on : (config : Config) (state : State) (from : List ℕ) (batch : Prepared) (channel : ℕ) (act : Act) (error : Option LaneError)
    → load_by state from batch channel (error_answer config state batch error) ≡ Some act → Well config state act
held_on config state from batch channel act None made =
    ended_on config state from batch channel act (outcome_of_batch config state.me.group (waiting_in state) state.tables batch) refl made
held_on config state from batch channel act (Some error) made = on (nat_lt error.batch batch.batch) made
  where
    on : (b : Bool) → load_by state from batch channel (cond b (answer.Held error.batch error.row error.rule) (outcome_answer config state batch)) ≡ Some act
        → Well config state act
    on true held = nothing act held
    on false ran = ended_on config state from batch channel act (outcome_of_batch config state.me.group (waiting_in state) state.tables batch) refl ran

load_on : (config : Config) (state : State) (from : List ℕ) (batch : Prepared) (act : Act) (found : Option ℕ) (b : Bool)
    → load_of state from batch found (cond b (Ok (channel_answer config state from batch found)) (Err refused.UnknownNode)) ≡ Some act
    → Well config state act
load_on config state from batch act None true made = nothing act made
load_on config state from batch act None false made = nothing act made
load_on config state from batch act (Some channel) false made = nothing act made
load_on config state from batch act (Some channel) true made = on (nat_le batch.batch (lane_of state.lanes from channel).highest) made
  where
    on : (t : Bool) → load_by state from batch channel (cond t answer.Again (error_answer config state batch (lane_of state.lanes from channel).error)) ≡ Some act
        → Well config state act
    on true again = nothing act again
    on false next = held_on config state from batch channel act (lane_of state.lanes from channel).error next

-- other acts run no rows
as_is : (config : Config) (state : State) (act plain : Act) → act ≡ plain → Well config state plain → Well config state act
as_is config state act plain same is = subst (Well config state) (sym same) is

made_well : (config : Config) (state : State) (call : Call) (act : Act) → act_of config state call ≡ Some act → Well config state act
made_well config state (Write writer number rows) act made =
    own_on config state writer number rows act (nat_lt most_write_rows (length rows)) (was_within config state (next_write config state writer number rows) act made)
made_well config state (Load from batch) act made =
    load_on config state from batch act batch.channel (knows_sender state from batch) (was_within config state (next_load config state from batch) act made)
made_well config state Route act made = as_is config state act Routed (route_is config state act made) refl
made_well config state (TakeAcks from acks) act made = as_is config state act (Acked from acks) (acks_is config state from acks act made) refl
made_well config state (Open group external noise) act made =
    as_is config state act (Opened group external (token_of noise)) (open_is config state group external noise act made) refl
made_well config state (Register asks) act made =
    let joins : Joins state asks act = register_is config state asks act made in
    as_is config state act (Joined (record { peer = asks; token = joins.token; child = joins.child })) joins.is refl
made_well config state (Join other token) act made =
    let joins : Joins state other act = join_is config state other token act made in
    as_is config state act (Joined (record { peer = other; token = joins.token; child = joins.child })) joins.is refl
made_well config state (Confirm peer) act made = as_is config state act (Confirmed peer) (confirm_is config state peer act made) refl

made_on : (config : Config) (history : History) (call : Call) (made : Option Act) → act_of config (state_of config history) call ≡ made
    → All EndsWell (runs_of config history) → All EndsWell (runs_of config (with_made history made))
made_on config history call None is before = before
made_on config history call (Some act) is before =
    All-cons EndsWell (run_after config history.opening (runs_after config history.opening history.acts) act) (runs_after config history.opening history.acts)
    (on act (made_well config (state_of config history) call act is)) before
  where
    on : (a : Act) → is_refused (run_end_of config (state_of config history) (waiting_in (state_of config history)) (state_of config history).tables a) ≡ false
        → is_refused (run_end_of config history.opening (waiting_after config history.opening (runs_after config history.opening history.acts))
        (tables_after history.opening (runs_after config history.opening history.acts)) a) ≡ false
    on (Wrote writer number rows) well = well
    on (Loaded channel batch) well = well
    on (Opened group external token) well = well
    on (Joined kept) well = well
    on (Confirmed peer) well = well
    on Routed well = well
    on (Erred from channel error) well = well
    on (Acked from acks) well = well

pub accepted_end_well : AcceptedEndWell
accepted_end_well config me [] = All-nil EndsWell
accepted_end_well config me (call ∷ older) =
    made_on config (called_all config (begun me) older) call (act_of config (state_of config (called_all config (begun me) older)) call) refl
    (accepted_end_well config me older)
