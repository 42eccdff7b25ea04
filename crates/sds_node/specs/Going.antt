-- How a call goes on a node that may have to read its records first.
use Rattle.std.specs.Prelude.{◌≡◌, ◌⊎◌, ⊤, ℕ, true, false, codes, List, map, Option, None, Some, IfSome, Result, Ok, Err}
use Rattle.sds_outside.specs.Keepings.{Keeping, MayFail}
use Rattle.sds_outside.specs.Records.{Record}
use Rattle.sds_value.specs.declared.row.Peer.{Peer}
use Rattle.sds_types.specs.declared.config.Config.{Config}
use Rattle.sds_types.specs.declared.node_fault.NodeFault.{NodeFault}
use Rattle.sds_types.specs.declared.node_fault.NodeFault.TheVariants as fault
use Rattle.sds_history.specs.history.Acts.{Act, State}
use Rattle.sds_history.specs.history.Image.{image_of}
use Rattle.sds_history.specs.history.Records as history
use Rattle.sds_history.specs.history.SoundStates.{IsSoundState}
use Rattle.sds_image.specs.Meaning.{meaning_of}
use Rattle.sds_image.specs.Pairs.{pairs}
use Rattle.sds_image.specs.ReadStates.{IsReading}
use Rattle.sds_image.specs.declared.state.State as kept
use Rattle.sds_image.specs.declared.refusal.StateRefusal.TheVariants.{BadRecord, Contradicts}
use Rattle.sds_imagelaws.specs.Reading.{AreHeld}
use Rattle.sds_commit.specs.Ends.{Ends, Fits, HasFailed}
use Rattle.sds_node.specs.Meaning.{has, kept_by}
use Rattle.sds_node.specs.declared.node.Node.{Node}

-- records as the definitions of histories have them
abbrev pub record_of : Record → history.Record
record_of kept = record { key = kept.0; body = kept.1 }

abbrev pub records_of : List Record → List history.Record
records_of records = map record_of records

-- records tell no state, by the record of this key
abbrev pub AreUnread : Config → List ℕ → List Record → Type 0
AreUnread config key records = IsReading config (records_of records) (Err (BadRecord key))
    ⊎ IsReading config (records_of records) (Err (Contradicts key))

-- records tell a state of another node
pub record TellAnother (config : Config) (me : Peer) (records : List Record) : Type 0 where
  pub state : State
  pub sound : IsSoundState config state
  pub held : AreHeld state
  pub records_are : records ≡ pairs (image_of config state)
  pub another : state.me ≡ me → ⊥

-- records tell no state of this node: the key of the record that is named
abbrev pub AreBad : Config → Peer → List ℕ → List Record → Type 0
AreBad config me key records =
    AreUnread config key records ⊎ (TellAnother config me records × (key ≡ codes "me"))

-- why the records of a keeper couldn't be read, by what it tells and its damage. Of records that
-- were read and are bad this says the key
abbrev pub IsCause : (List ℕ → List Record → Type 0) → Keeping → Option (Option ℕ) → NodeFault
    → Type 0
IsCause bad told damage fault.Keeper = MayFail told.fates
IsCause bad told damage (fault.BadKept key) = IfSome told.records (bad key)
IsCause bad told damage (fault.Damaged at) = IfSome damage (λ found. found ≡ Some at)
IsCause bad told damage fault.Counters = ⊥
IsCause bad told damage fault.NoMemory = ⊤

-- why records that are at hand couldn't be read
abbrev pub IsUnread : Config → List Record → NodeFault → Type 0
IsUnread config records fault.Keeper = ⊥
IsUnread config records (fault.BadKept key) = AreUnread config key records
IsUnread config records (fault.Damaged at) = ⊥
IsUnread config records fault.Counters = ⊥
IsUnread config records fault.NoMemory = ⊤

-- a state that was read from what a keeper tells
pub record IsReadFrom (config : Config) (records : Option (List Record)) (state : kept.State)
    : Type 0 where
  pub fits : Fits config state
  pub told : IfSome records (λ told. told ≡ pairs (image_of config (meaning_of state)))

-- what a node has that is sure, or that has read its records: it is a sound state of this node, and
-- the records that are told are its image
pub record Settled {K : Type 0} (keeping : K → Keeping) (node : Node K)
    (state : State) : Type 0 where
  pub same : node.sure ≡ true → state ≡ has node
  pub sound : IsSoundState node.config state
  pub held : AreHeld state
  pub me : state.me ≡ (has node).me
  pub told : IfSome (keeping node.keeper).records
      (λ told. told ≡ pairs (image_of node.config state))

-- a node wasn't sure, and couldn't read its records: nothing changed
pub record Unsettled {K : Type 0} (keeping : K → Keeping)
    (damage : K → Option (Option ℕ)) (before after : Node K) (found : NodeFault) : Type 0 where
  pub unsure : before.sure ≡ false
  pub stays : after.sure ≡ false
  pub same : kept_by keeping after ≡ kept_by keeping before
  pub cause : IsCause (AreBad before.config (has before).me) (keeping before.keeper)
      (damage before.keeper) found

-- a node keeps its configuration and who it is
pub record IsStill {K : Type 0} (before after : Node K) : Type 0 where
  pub config : after.config ≡ before.config
  pub me : (has after).me ≡ (has before).me

-- a sure node is settled already, and nothing is done; another has read its records, which stay
pub record Settles {K : Type 0} (keeping : K → Keeping)
    (damage : K → Option (Option ℕ)) (before after : Node K)
    (result : Result (Unit {0}) NodeFault) : Type 0 where
  pub still : IsStill before after
  pub quiet : before.sure ≡ true
      → (result ≡ Ok tt) × (kept_by keeping after ≡ kept_by keeping before)
  pub kept : keeping after.keeper ≡ keeping before.keeper
  pub settled : result ≡ Ok tt → after.sure ≡ true
  pub failed : (found : NodeFault) → result ≡ Err found
      → Unsettled keeping damage before after found

-- a call ends by what the settled node has: it goes on being sure but where the keeper failed
pub record EndsFrom {K A E : Type 0} (keeping : K → Keeping) (before after : Node K)
    (act : State → Option Act) (as_fault : NodeFault → E) (answer : State → Result A E)
    (result : Result A E) : Type 0 where
  pub state : State
  pub settled : Settled keeping before state
  pub ends : Ends before.config (record { state = state; told = keeping before.keeper })
      (kept_by keeping after) (act state) as_fault (answer state) result
  pub sure : (HasFailed as_fault result → ⊥) → after.sure ≡ true

-- or with the fault that kept the node from being settled
pub record EndsUnsettled {K A E : Type 0} (keeping : K → Keeping)
    (damage : K → Option (Option ℕ)) (before after : Node K) (as_fault : NodeFault → E)
    (result : Result A E) : Type 0 where
  pub found : NodeFault
  pub result_is : result ≡ Err (as_fault found)
  pub unsettled : Unsettled keeping damage before after found

abbrev pub Goes : {K A E : Type 0} → (K → Keeping) → (K → Option (Option ℕ))
    → Node K → Node K → (State → Option Act) → (NodeFault → E) → (State → Result A E)
    → Result A E → Type 0
Goes keeping damage before after act as_fault answer result =
    EndsFrom keeping before after act as_fault answer result
    ⊎ EndsUnsettled keeping damage before after as_fault result
