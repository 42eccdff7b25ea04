-- What a command is answered by its configuration file.
use Rattle.std.specs.Prelude.{◌≡◌, ◌≢◌, ◌⊎◌, ℕ, true, false, List, Option}
use Rattle.sds_types.specs.declared.config.Config.{Config}
use Rattle.sds_types.specs.declared.config_refusal.ConfigRefusal.{ConfigRefusal}
use Rattle.sds_types.specs.declared.status.Status.{Status}
use Rattle.sds_types.specs.declared.status.Status.TheVariants as status
use Rattle.sds_types.specs.declared.status.Unreadable.{Unreadable}
use Rattle.sds_config.specs.Configuration.{IsConfiguration, IsFirstRefusal}
use Rattle.sds_first_spec.specs.One.{one}
use Rattle.symds.specs.Rehearsed.{IsNoFault, Tells}

-- the statuses with which a reading of the configuration may end a command
abbrev pub IsUnread : Status → Type 0
IsUnread answer = ((what : Unreadable) × (answer ≡ status.ReadFault what))
    ⊎ ((answer ≡ status.NoMemory) ⊎ ((refusal : ConfigRefusal) × (answer ≡ status.Config refusal)))

-- the status says the file's first refusal; where it isn't TOML, with some place of the file at which that was seen
abbrev pub SaysRefusal : List ℕ → Status → Type 0
SaysRefusal file answer =
    (refusal : ConfigRefusal) × (IsFirstRefusal file refusal × (answer ≡ status.Config refusal))

-- a file that is refused ends the command with its first refusal and with nothing written, unless a reading failed or
-- memory ran out first
abbrev pub IsRefusedBy : List ℕ → Status → Option (List ℕ) → Option (List ℕ) → Type 0
IsRefusedBy file answer old new = (refusal : ConfigRefusal) → IsFirstRefusal file refusal
    → (IsNoFault answer → answer ≢ status.NoMemory → SaysRefusal file answer) × (new ≡ old)

-- What a rehearsal is answered and writes by the texts of its configuration file and of its scenario. Lines are supported
-- under the one configuration alone.
pub record TellsOf (file text : List ℕ) (answer : Status) (old new : Option (List ℕ)) : Type 0 where
  pub built : IsConfiguration file one → Tells true text answer old new
  pub unbuilt : (config : Config) → IsConfiguration file config → config ≢ one → Tells false text answer old new
