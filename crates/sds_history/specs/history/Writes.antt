-- What a node answers to a writer's numbered write, and the act that it makes.
use Rattle.std.specs.Prelude.{ℕ, ◌+◌, ◌-◌, ◌==◌, nat_lt, if◌then◌else◌, List, length, Option, None, Some, Result, Ok, Err}
use Rattle.sds_types.specs.Limits.{most_write_rows}
use Rattle.sds_types.specs.declared.config.Config.{Config}
use Rattle.sds_types.specs.declared.counts.WriterLast.{WriterLast}
use Rattle.sds_types.specs.declared.tx_row.TxRow.{TxRow}
use Rattle.sds_types.specs.declared.write_answer.WriteRefusal.{WriteRefusal}
use Rattle.sds_types.specs.declared.write_answer.WriteRefusal.TheVariants.{Broken, OldNumber, GapNumber, TooManyRows, Fault}
use Rattle.sds_types.specs.declared.write_answer.Written.{Written}
use Rattle.sds_types.specs.declared.write_answer.Written.TheVariants.{Done, Again}
use Rattle.sds_trade.specs.rules.OwnWrites.{outcome_of_write}
use Rattle.sds_trade.specs.rules.Runs.{RunEnd}
use Rattle.sds_trade.specs.rules.Runs.RunEnd.{Made, Ignored, Refused}
use Rattle.sds_history.specs.history.Acts.{Act, State}
use Rattle.sds_history.specs.history.Acts.Act.{Wrote}
use Rattle.sds_history.specs.history.Counters.{answer_within, within}
use Rattle.sds_history.specs.history.States.{state_after}
use Rattle.sds_history.specs.history.Writers.{writer_of, last_number}

-- how many changes of a state wait to be routed
abbrev pub waiting_in : State → ℕ
waiting_in state = state.counts.last_change - state.counts.routed

-- the answer of a writer's last write: its first change and how many it has
abbrev pub last_answer : Option WriterLast → Written
last_answer None = Again 0 0
last_answer (Some last) = Again last.first last.count

-- a write that is made is answered with its first change and how many it captured
abbrev pub done_answer : Config → State → Act → Written
done_answer config state act = Done (state.counts.last_change + 1)
    ((state_after config state act).counts.last_change - state.counts.last_change)

abbrev pub run_answer : Config → State → Act → RunEnd → Result Written WriteRefusal
run_answer config state act (Made dones rows) = Ok (done_answer config state act)
run_answer config state act Ignored = Ok (done_answer config state act)
run_answer config state act (Refused row rule) = Err (Broken row rule)

-- the answer to a write whose number is the next of its writer
abbrev pub next_answer : Config → State → List ℕ → ℕ → List TxRow → Result Written WriteRefusal
next_answer config state writer number rows =
    run_answer config state (Wrote writer number rows)
    (outcome_of_write config state.me.group (waiting_in state) state.tables rows)

-- the answer by the number of the writer's last write
abbrev pub numbered_answer : Config → State → List ℕ → ℕ → List TxRow → Option WriterLast
    → Result Written WriteRefusal
numbered_answer config state writer number rows kept =
    let last = last_number kept in
    if number == 0 then Err (OldNumber last)
    else (if nat_lt number last then Err (OldNumber last)
    else (if number == last then Ok (last_answer kept)
    else (if nat_lt (last + 1) number then Err (GapNumber last)
    else next_answer config state writer number rows)))

-- the answer but for the counters
abbrev pub own_answer : Config → State → List ℕ → ℕ → List TxRow → Result Written WriteRefusal
own_answer config state writer number rows =
    if nat_lt most_write_rows (length rows) then Err TooManyRows
    else numbered_answer config state writer number rows (writer_of state.writers writer)

abbrev pub write_by : Act → Result Written WriteRefusal → Option Act
write_by act (Ok (Done first count)) = Some act
write_by act (Ok (Again first count)) = None
write_by act (Err refusal) = None

-- the act that a write is about to make
abbrev pub next_write : Config → State → List ℕ → ℕ → List TxRow → Option Act
next_write config state writer number rows =
    write_by (Wrote writer number rows) (own_answer config state writer number rows)

-- WRITE: too many rows; an old number; the last write again; a gap; a broken rule; a counter; and
-- else it is made
abbrev pub write_answer : Config → State → List ℕ → ℕ → List TxRow → Result Written WriteRefusal
write_answer config state writer number rows = answer_within Fault config state
    (next_write config state writer number rows) (own_answer config state writer number rows)

abbrev pub write_act : Config → State → List ℕ → ℕ → List TxRow → Option Act
write_act config state writer number rows =
    within config state (next_write config state writer number rows)
