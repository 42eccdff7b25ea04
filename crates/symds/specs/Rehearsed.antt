-- The status of a rehearsal, and what it writes.
use Rattle.std.specs.Prelude.{◌≡◌, ◌≢◌, ◌⊎◌, ◌==◌, if◌then◌else◌, ℕ, Bool, ◌≤◌, List, length, take, Option, None, Some, Result, Ok, Err}
use Rattle.sds_outside.specs.Told.{after_told}
use Rattle.sds_types.specs.declared.scenario.ScenarioCause.{ScenarioCause}
use Rattle.sds_types.specs.declared.scenario.ScenarioCause.TheVariants.{BadForm, Unfinished, TooLong, NotSupported}
use Rattle.sds_types.specs.declared.status.InputCause.{InputCause}
use Rattle.sds_types.specs.declared.status.InputCause.TheVariants.{Scenario}
use Rattle.sds_types.specs.declared.status.Status.{Status}
use Rattle.sds_types.specs.declared.status.Status.TheVariants.{Done, ReadFault, WriteFault, NoMemory, BadInput}
use Rattle.sds_types.specs.declared.status.Unreadable.{Unreadable}
use Rattle.sds_types.specs.declared.status.Unreadable.TheVariants.{Configuration, Input, Noise}
use Rattle.sds_first_world.specs.declared.rehearsal.BadLine.{BadLine}
use Rattle.sds_first_world.specs.declared.rehearsal.WorldRefusal.{WorldRefusal}
use Rattle.sds_first_world.specs.declared.rehearsal.WorldRefusal.TheVariants as refusal
use Rattle.sds_first_world.specs.Played.{refusal_of, screen}

-- the cause of a number that the first rehearsal gives
abbrev pub cause_of : ℕ → ScenarioCause
cause_of number = if number == 1 then BadForm else (if number == 4 then Unfinished else
    (if number == 5 then TooLong else NotSupported))

-- the causes that the first rehearsal has
abbrev pub IsFirstCause : InputCause → Type 0
IsFirstCause cause = (cause ≡ Scenario BadForm) ⊎ ((cause ≡ Scenario Unfinished)
    ⊎ ((cause ≡ Scenario TooLong) ⊎ (cause ≡ Scenario NotSupported)))

-- the status of a rehearsal's ending
abbrev pub status_by : Result (Unit {0}) WorldRefusal → Status
status_by (Ok done) = Done
status_by (Err refusal.ReadFault) = ReadFault Input
status_by (Err refusal.WriteFault) = WriteFault
status_by (Err (refusal.BadLine line cause)) = BadInput line (Scenario (cause_of cause))
status_by (Err refusal.NoMemory) = NoMemory

-- the status of a scenario that was read, played and written: by the first line that it may not have
abbrev pub status_of : Option BadLine → Status
status_of None = Done
status_of (Some bad) = BadInput bad.line (Scenario (cause_of bad.cause))

-- no reading failed
abbrev pub IsNoFault : Status → Type 0
IsNoFault status = (what : Unreadable) → status ≢ ReadFault what

-- what makes a failed reading: the configuration's count of faults rose, or the input's
abbrev pub IsCausedBy : Unreadable → Type 0 → Type 0 → Type 0
IsCausedBy Configuration config input = config
IsCausedBy Input config input = input
IsCausedBy Noise config input = ⊥

-- what a rehearsal of a text is answered and writes, by whether its lines are supported: the status and the whole screen
-- that the text has, unless a fault or out of memory came; and always a prefix of the screen
pub record Tells (is_built : Bool) (text : List ℕ) (status : Status) (old new : Option (List ℕ)) : Type 0 where
  pub ends : IsNoFault status → status ≢ WriteFault → status ≢ NoMemory
      → (status ≡ status_of (refusal_of is_built text)) × (new ≡ after_told old (screen is_built text))
  pub part : (n : ℕ) × ((n ≤ length (screen is_built text))
      × (new ≡ after_told old (take n (screen is_built text))))
