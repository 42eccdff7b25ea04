-- How it ends to keep an act whose edits and whose state are told.
use Rattle.std.specs.Prelude.{◌≡◌, Bool, true, false, if◌then◌else◌, List, Result, Ok, Err}
use Rattle.sds_outside.specs.Keepings.{FailsAs, NoneFails, with_edits}
use Rattle.sds_outside.specs.declared.keeping.Edit.{Edit}
use Rattle.sds_types.specs.declared.node_fault.NodeFault.{NodeFault}
use Rattle.sds_types.specs.declared.node_fault.NodeFault.TheVariants.{Counters}
use Rattle.sds_history.specs.history.Acts.{State}
use Rattle.sds_commit.specs.Ends.{HasFailed, IsAnswer, Kept, LacksMemory}

-- an act to keep: whether a counter would pass its end, its edits, and the state after it
pub record Keepable : Type 0 where
  pub past : Bool
  pub edits : List Edit
  pub state : State

-- the state and what is told after an act, which isn't made where a counter would pass its end
abbrev pub kept_by : Keepable → Kept → Kept
kept_by act before = if act.past then before
    else record { state = act.state; told = with_edits act.edits before.told }

-- an act is kept, with this value, or a counter would pass its end; or else the keeper failed, or
-- memory was wanting
pub record Keeps {A E : Type 0} (fault : NodeFault → E) (act : Keepable) (value : A)
    (before after : Kept) (result : Result A E) : Type 0 where
  pub answered : IsAnswer fault result
      → (result ≡ (if act.past then Err (fault Counters) else Ok value))
      × (after ≡ kept_by act before) × (act.past ≡ false → NoneFails before.told.fates)
  pub failed : HasFailed fault result → (act.past ≡ false) × (after.state ≡ before.state)
      × FailsAs before.told.fates act.edits before.told after.told
  pub no_memory : LacksMemory fault result → after ≡ before
