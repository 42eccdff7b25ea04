-- The channels of a sound configuration have different names, so each is found by its name.
use Rattle.std.proofs.Common.{◌≡◌, ◌≢◌, ℕ, zero, suc, ◌+◌, ◌<◌, cond, not, List, [], ◌∷◌, length, map, None, Some, ap, ◌∙◌, arith, Result, Ok, Err, IfOk, Vec, Global, All, AllPairs}
use Rattle.sds_base.specs.declared.memory.NoMemory.{NoMemory}
use Rattle.std.specs.List.{prefix_len}
use Rattle.std.specs.Option.{option_map_or}
use Rattle.std.specs.Prelude.{nat_lt, slice_get, unwrap_or}
use Rattle.std.specs.Str.{bytes_eq}
use Rattle.sds_types.specs.declared.batch.OutBatch.{OutBatch}
use Rattle.sds_types.specs.declared.channel.ChannelDef.{ChannelDef}
use Rattle.sds_types.specs.declared.config.Config.{Config}
use Rattle.sds_types.specs.declared.document.BatchDoc.{BatchDoc}
use Rattle.sds_trade.proofs.Lists.{all_head, all_tail, pairs_head, pairs_tail}
use Rattle.sds_trade.specs.rules.Sound.{IsSound}
use Rattle.sds_history.specs.history.Acts.{State}
use Rattle.sds_history.specs.history.Documents.{doc_of_batch}
use Rattle.sds_history.specs.history.Lanes.{channel_name}
use Rattle.sds_imagelaws.proofs.Tests.{differs, itself}
use Rattle.sds_nodelaws.proofs.Held.{mapped}
use Rattle.sds_nodelaws.proofs.Lists.{is_lt_test, map_same, map_twice}
use Rattle.sds_received.specs.Places.{place_in}

-- NAMES, by the places of their channels
abbrev Apart : ChannelDef → ChannelDef → Type 0
Apart a b = a.id ≢ b.id

abbrev name_at : List ChannelDef → ℕ → List ℕ
name_at channels place = option_map_or (λ (def : ChannelDef). def.id) (slice_get channels place) []

at_place : (P : List ℕ → Type 0) (channels : List ChannelDef) (place : ℕ) → All (λ (c : ChannelDef). P c.id) channels → place < length channels
    → P (name_at channels place)
at_place P [] place are less = absurd (omega (arith, less))
at_place P (channel ∷ channels) zero are less = all_head (λ (c : ChannelDef). P c.id) channel channels are
at_place P (channel ∷ channels) (suc place) are less =
    at_place P channels place (all_tail (λ (c : ChannelDef). P c.id) channel channels are) (omega (arith, less))

-- how many channels stand before the one of a name
abbrev others : List ℕ → List ChannelDef → ℕ
others name channels = prefix_len (λ (c : ChannelDef). not (bytes_eq c.id name)) channels

first_place : (channels : List ChannelDef) (place : ℕ) → AllPairs Apart channels → place < length channels → others (name_at channels place) channels ≡ place
first_place [] place apart less = absurd (omega (arith, less))
first_place (channel ∷ channels) zero apart less =
    ap (λ b. cond (not b) (1 + others channel.id channels) 0) (itself channel.id)
first_place (channel ∷ channels) (suc place) apart less =
    let here = at_place (λ name. channel.id ≢ name) channels place (pairs_head Apart channel channels apart) (omega (arith, less)) in
    ap (λ b. cond (not b) (1 + others (name_at channels place) channels) 0) (differs channel.id (name_at channels place) here)
    ∙ (ap (λ n. 1 + n) (first_place channels place (pairs_tail Apart channel channels apart) (omega (arith, less))) ∙ count place)
  where
    count : (n : ℕ) → 1 + n ≡ suc n
    count n = omega arith

found : (config : Config) (channel : ℕ) → IsSound config → channel < length config.channels → place_in config (channel_name config channel) ≡ channel
found config channel sound within =
    ap (λ n. unwrap_or (cond (nat_lt n (length config.channels)) (Some n) None) (length config.channels))
    (first_place config.channels channel sound.channels.apart within)
    ∙ ap (λ b. unwrap_or (cond b (Some channel) None) (length config.channels)) (is_lt_test channel (length config.channels) within)

-- so the places of documents' channels are the channels of their batches
places_are : (config : Config) (places : List ℕ) (docs : List BatchDoc) (sender : State) (batches : List OutBatch) → IsSound config
    → places ≡ map (λ (doc : BatchDoc). place_in config doc.channel) docs
    → All (λ (batch : OutBatch). batch.channel < length config.channels) batches → docs ≡ map (doc_of_batch config sender) batches
    → places ≡ map (λ (batch : OutBatch). batch.channel) batches
places_are config places docs sender batches sound are within written =
    are ∙ (ap (map (λ (doc : BatchDoc). place_in config doc.channel)) written
    ∙ (map_twice (λ (doc : BatchDoc). place_in config doc.channel) (doc_of_batch config sender) batches
    ∙ map_same (λ (batch : OutBatch). place_in config (channel_name config batch.channel)) (λ (batch : OutBatch). batch.channel) batches
    (mapped (λ (batch : OutBatch). batch.channel < length config.channels) (λ (batch : OutBatch). place_in config (channel_name config batch.channel) ≡ batch.channel)
    batches (λ batch less. found config batch.channel sound less) within)))

pub channels_are : (config : Config) (docs : List BatchDoc) (r : Result (Vec ℕ Global) NoMemory) → IsSound config
    → IfOk r (λ places. places.items ≡ map (λ (doc : BatchDoc). place_in config doc.channel) docs)
    → IfOk r (λ places. (sender : State) (batches : List OutBatch) → All (λ (batch : OutBatch). batch.channel < length config.channels) batches
    → docs ≡ map (doc_of_batch config sender) batches → places.items ≡ map (λ (batch : OutBatch). batch.channel) batches)
channels_are config docs (Err memory) sound are = tt
channels_are config docs (Ok places) sound are = λ sender batches within written. places_are config places.items docs sender batches sound are within written
