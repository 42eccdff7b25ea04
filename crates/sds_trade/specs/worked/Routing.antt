-- Worked cases: which batches a routing run makes of a change.
use Rattle.std.specs.Prelude.{◌≡◌, ℕ, true, false, List, [], ◌∷◌, map, codes, Option, None, Some}
use Rattle.sds_value.specs.declared.row.Event.TheVariants.{Insert}
use Rattle.sds_types.specs.declared.batch.NewBatch.{NewBatch}
use Rattle.sds_types.specs.declared.channel.ChannelDef.{ChannelDef}
use Rattle.sds_types.specs.declared.config.Config.{Config}
use Rattle.sds_types.specs.declared.row.Change.{Change}
use Rattle.sds_trade.specs.rules.Batches.{batches_of, channels_in_order, routed_changes}
use Rattle.sds_trade.specs.worked.Entries.{channel_def, default_router, join_of, number}
use Rattle.sds_trade.specs.worked.Tiers.{tiers_with, region, region_peers}

-- a change of the stock that a batch brought, or an own one
abbrev pub stock_change : Option (List ℕ) → Change
stock_change source = record {
  id = 1;
  tx = 1;
  table = 0;
  event = Insert;
  new = Some (record { 0 = number 1 ∷ (number 5 ∷ []) });
  old = None;
  channel = 0;
  source = source;
}

-- what a routing run at the region makes of it: the number, and the place of the peer
abbrev pub batches_with : Config → Option (List ℕ) → List (ℕ × ℕ)
batches_with config source = map (λ (batch : NewBatch). (batch.id, batch.peer))
    (batches_of config 1
    (routed_changes config region [] region_peers (stock_change source ∷ [])))

-- an own change of the region is for corp and both stores
abbrev pub OwnGoesToAll : Type 0
OwnGoesToAll = batches_with (tiers_with false) None ≡ (1, 0) ∷ ((2, 1) ∷ ((3, 2) ∷ []))

-- a change from a store is for corp and the other store; and for that store too, where it may go
-- back
abbrev pub NoPingBack : Type 0
NoPingBack = batches_with (tiers_with false) (Some (codes "s1")) ≡ (1, 0) ∷ ((2, 2) ∷ [])

abbrev pub PingBack : Type 0
PingBack = batches_with (tiers_with true) (Some (codes "s1")) ≡ (1, 0) ∷ ((2, 1) ∷ ((3, 2) ∷ []))

-- two trigger-routers name the same peers, which have the change once; a disabled one names none
abbrev pub tiers_twice : Config
tiers_twice = record (tiers_with false) {
  routers = default_router (codes "rs") 1 2 ∷ (default_router (codes "again") 1 2 ∷ []);
  trigger_routers = join_of 0 0 ∷ (join_of 0 1 ∷ []);
}

abbrev pub NamedOnce : Type 0
NamedOnce = batches_with tiers_twice None ≡ (1, 1) ∷ ((2, 2) ∷ [])

abbrev pub DisabledNamesNone : Type 0
DisabledNamesNone = batches_with (record (tiers_with false) {
  trigger_routers = record (join_of 0 1) { enabled = false } ∷ [];
}) None ≡ []

-- a change that is for nobody stands in no batch
abbrev pub NobodyIsNamed : Type 0
NobodyIsNamed = batches_of (tiers_with false) 1 ((stock_change None, []) ∷ []) ≡ []

-- channels go by their order and then by id, wherever they stand; each of two peers has the changes
-- of each channel, cut where two make a batch full
abbrev pub two_a_batch : ChannelDef → ChannelDef
two_a_batch channel = record channel { max_batch_size = 2 }

abbrev pub three_channels : Config
three_channels = record (tiers_with false) {
  channels = two_a_batch (channel_def (codes "a") 20)
      ∷ (two_a_batch (channel_def (codes "c") 10)
      ∷ (two_a_batch (channel_def (codes "b") 10) ∷ []));
}

abbrev pub ChannelsGoInOrder : Type 0
ChannelsGoInOrder = map (λ (at : ℕ × ChannelDef). at.0) (channels_in_order three_channels)
    ≡ 2 ∷ (1 ∷ (0 ∷ []))

abbrev pub change_for : ℕ → ℕ → ℕ → List ℕ → Change × List ℕ
change_for id tx channel peers =
    (record (stock_change None) { id = id; tx = tx; channel = channel }, peers)

abbrev pub LanesAreApart : Type 0
LanesAreApart = batches_of three_channels 7 (change_for 1 1 0 (0 ∷ (1 ∷ []))
    ∷ (change_for 2 1 1 (1 ∷ [])
    ∷ (change_for 3 2 0 (0 ∷ []) ∷ (change_for 4 3 0 (0 ∷ []) ∷ []))))
    ≡ record { id = 7; peer = 1; channel = 1; changes = 2 ∷ [] }
    ∷ (record { id = 8; peer = 0; channel = 0; changes = 1 ∷ (3 ∷ []) }
    ∷ (record { id = 9; peer = 0; channel = 0; changes = 4 ∷ [] }
    ∷ (record { id = 10; peer = 1; channel = 0; changes = 1 ∷ [] } ∷ [])))
