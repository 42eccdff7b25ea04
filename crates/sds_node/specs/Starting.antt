-- How a node begins, and how it is opened.
use Rattle.std.specs.Prelude.{◌≡◌, ◌⊎◌, ◌∷◌, [], Bool, true, false, List, Option, IfSome, Result, Ok, Err, ℕ}
use Rattle.sds_outside.specs.Keepings.{FailsAs, Keeping, MayFail, NoneFails, with_edits}
use Rattle.sds_outside.specs.Records.{Record}
use Rattle.sds_value.specs.declared.row.Peer.{Peer}
use Rattle.sds_outside.specs.declared.keeping.Edit.{Edit}
use Rattle.sds_types.specs.declared.config.Config.{Config}
use Rattle.sds_types.specs.declared.node_fault.NodeFault.{NodeFault}
use Rattle.sds_types.specs.declared.node_fault.NodeFault.TheVariants.{Keeper}
use Rattle.sds_types.specs.declared.registration.CreateRefusal.{CreateRefusal}
use Rattle.sds_types.specs.declared.registration.CreateRefusal.TheVariants.{NotEmpty, UnknownGroup, Fault}
use Rattle.sds_trade.specs.rules.Places.{is_among}
use Rattle.sds_history.specs.history.Records.{me_record}
use Rattle.sds_history.specs.history.States.{new_state}
use Rattle.sds_records.specs.Parts.{put_edit}
use Rattle.sds_image.specs.Meaning.{meaning_of}
use Rattle.sds_image.specs.declared.state.State as kept
use Rattle.sds_commit.specs.Ends.{Fits}
use Rattle.sds_node.specs.Going.{IsCause, IsReadFrom}
use Rattle.sds_node.specs.Meaning.{has}
use Rattle.sds_node.specs.declared.node.Node.{Node}

-- the state of a new node, and what is told of its records
pub record HasBegun (config : Config) (me : Peer) (records : Option (List Record))
    (state : kept.State) : Type 0 where
  pub new : meaning_of state ≡ new_state me
  pub read : IsReadFrom config records state

-- a commit is done, whatever it was for
abbrev pub done_of : {A E : Type 0} → Result A E → Result (Unit {0}) E
done_of (Ok value) = Ok tt
done_of (Err end) = Err end

-- whether a record is among some
abbrev pub Stands : List Record → Bool → Type 0
Stands records true = records ≡ [] → ⊥
Stands records false = records ≡ []

-- the edit that puts the record of a node
abbrev pub own_edit : Peer → List Edit
own_edit me = put_edit (me_record me) ∷ []

-- a node is sure, and is a new one
pub record IsCreated {K : Type 0} (config : Config) (me : Peer) (node : Node K) : Type 0 where
  pub config_is : node.config ≡ config
  pub new : has node ≡ new_state me
  pub sure : node.sure ≡ true

-- no record is bad: none is read
abbrev pub NoneIsBad : List ℕ → List Record → Type 0
NoneIsBad key records = ⊥

-- what is told after a fault is what was told before. Where the keeper failed it was asked for its
-- records, or the commit of the node's own failed
abbrev pub IsFault : Peer → Keeping → Option (Option ℕ) → Keeping → NodeFault → Type 0
IsFault me before damage after Keeper = (MayFail before.fates × (after ≡ before))
    ⊎ FailsAs before.fates (own_edit me) before after
IsFault me before damage after other = IsCause NoneIsBad before damage other × (after ≡ before)

-- why a node isn't created
abbrev pub IsRefusal : Config → Peer → Keeping → Option (Option ℕ) → Keeping → CreateRefusal
    → Type 0
IsRefusal config me told damage after NotEmpty =
    IfSome told.records (λ records. records ≡ [] → ⊥) × (after ≡ told)
IsRefusal config me told damage after UnknownGroup =
    IfSome told.records (λ records. records ≡ [])
    × ((is_among config.groups me.group ≡ false) × (after ≡ told))
IsRefusal config me told damage after (Fault found) = IsFault me told damage after found

-- the keeper of a node, or the one that is given back
abbrev pub keeper_after : {K E : Type 0} → Result (Node K) (E × K) → K
keeper_after (Ok node) = node.keeper
keeper_after (Err refused) = refused.1

-- the keeper failed
abbrev pub HasFailedAtCreate : {K : Type 0} → Result (Node K) (CreateRefusal × K) → Type 0
HasFailedAtCreate (Ok node) = ⊥
HasFailedAtCreate (Err refused) = refused.0 ≡ Fault Keeper

abbrev pub HasFailedAtOpen : {K : Type 0} → Result (Node K) (NodeFault × K) → Type 0
HasFailedAtOpen (Ok node) = ⊥
HasFailedAtOpen (Err refused) = refused.0 ≡ Keeper
