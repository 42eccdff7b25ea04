-- How a call of a node ends that makes at most one act, and that by one commit.
use Rattle.std.specs.Prelude.{◌≡◌, ◌≤◌, ℕ, Option, None, Some, Result, Err}
use Rattle.sds_outside.specs.Causes.{Rose}
use Rattle.sds_outside.specs.Keepings.{FailsAs, Keeping, NoneFails, with_edits}
use Rattle.sds_types.specs.declared.config.Config.{Config}
use Rattle.sds_types.specs.declared.node_fault.NodeFault.{NodeFault}
use Rattle.sds_types.specs.declared.node_fault.NodeFault.TheVariants.{Keeper, NoMemory}
use Rattle.sds_history.specs.history.Acts.{Act, State}
use Rattle.sds_history.specs.history.SoundStates.{IsSoundState}
use Rattle.sds_history.specs.history.States.{state_after}
use Rattle.sds_image.specs.Meaning.{meaning_of}
use Rattle.sds_image.specs.declared.state.State as kept
use Rattle.sds_imagelaws.specs.Edits.{edits_of}
use Rattle.sds_imagelaws.specs.Reading.{AreHeld}

-- what a node has, and what its keeper tells
pub record Kept : Type 0 where
  pub state : State
  pub told : Keeping

abbrev pub kept_with : kept.State → Keeping → Kept
kept_with state told = record { state = meaning_of state; told = told }

-- a node's lists are a sound state whose numbers have their widths, and its tables are those of the
-- configuration
pub record Fits (config : Config) (state : kept.State) : Type 0 where
  pub sound : IsSoundState config (meaning_of state)
  pub held : AreHeld (meaning_of state)
  pub tables : state.tables.defs ≡ config.tables

-- what is told with the edits of an act
abbrev pub told_with : Config → Kept → Act → Keeping
told_with config before act = with_edits (edits_of config before.state act) before.told

-- an act is made: the node has what it has after it, and the records have its edits, by one commit,
-- which wasn't told to fail. Without an act nothing changes
abbrev pub Makes : Config → Kept → Kept → Option Act → Type 0
Makes config before after None = after ≡ before
Makes config before after (Some act) =
    (after.state ≡ state_after config before.state act)
    × (after.told ≡ told_with config before act) × NoneFails before.told.fates

-- the keeper failed as an act was committed: the node has what it had, and the records are as was
-- told, or else those before or those with the act's edits. Without an act no keeper is asked
abbrev pub Fails : Config → Kept → Kept → Option Act → Type 0
Fails config before after None = ⊥
Fails config before after (Some act) = (after.state ≡ before.state)
    × FailsAs before.told.fates (edits_of config before.state act) before.told after.told

-- a result says that the keeper failed, or that memory was wanting. How a call says a fault is its
-- own. Any other result is the call's answer
abbrev pub HasFailed : {A E : Type 0} → (NodeFault → E) → Result A E → Type 0
HasFailed fault result = result ≡ Err (fault Keeper)

abbrev pub LacksMemory : {A E : Type 0} → (NodeFault → E) → Result A E → Type 0
LacksMemory fault result = result ≡ Err (fault NoMemory)

abbrev pub IsAnswer : {A E : Type 0} → (NodeFault → E) → Result A E → Type 0
IsAnswer fault result = (HasFailed fault result → ⊥) × (LacksMemory fault result → ⊥)

-- a call with this answer, which makes this act if any, ends with a result
pub record Ends {A E : Type 0} (config : Config) (before after : Kept) (act : Option Act)
    (fault : NodeFault → E) (answer result : Result A E) : Type 0 where
  pub answered : IsAnswer fault result → (result ≡ answer) × Makes config before after act
  pub failed : HasFailed fault result → Fails config before after act
  pub no_memory : LacksMemory fault result → after ≡ before

-- what else a call leaves of its keeper: its damage is as before, and its count of faults, which
-- rose where the keeper failed
pub record Lasts (told later : Option (Option ℕ)) (count now : ℕ) (failed : Type 0)
    : Type 0 where
  pub damage : later ≡ told
  pub faults : count ≤ now
  pub rose : failed → Rose count now
