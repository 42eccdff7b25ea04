-- The section `channel`: the streams of batches.
use Rattle.std.specs.Prelude.{ℕ, List, [], ◌∷◌, codes, Result, Ok}
use Rattle.toml.specs.Data.{Members}
use Rattle.sds_types.specs.declared.config.Config.{Config}
use Rattle.sds_types.specs.declared.channel.ChannelDef.{ChannelDef}
use Rattle.sds_types.specs.declared.config_refusal.ConfigRefusal.{ConfigRefusal}
use Rattle.sds_config.specs.Refusals.{and_then}
use Rattle.sds_config.specs.Fields.{only_keys, id_at, number_at, word_at}
use Rattle.sds_config.specs.Words.{algorithm_of}

abbrev pub channel_keys : List (List ℕ)
channel_keys = codes "id" ∷ codes "processing_order" ∷ codes "max_batch_size" ∷ codes "max_batch_to_send" ∷ codes "batch_algorithm" ∷ []

abbrev pub channel_of : Config → List ChannelDef → Members → List ℕ → Result ChannelDef ConfigRefusal
channel_of config earlier entry at =
    and_then (only_keys channel_keys entry at) (λ _.
    and_then (id_at (λ channel. channel.id) earlier entry at (codes "id")) (λ id.
    and_then (number_at 0 1000000 entry at (codes "processing_order")) (λ processing_order.
    and_then (number_at 1 10000 entry at (codes "max_batch_size")) (λ max_batch_size.
    and_then (number_at 1 10000 entry at (codes "max_batch_to_send")) (λ max_batch_to_send.
    and_then (word_at algorithm_of entry at (codes "batch_algorithm")) (λ batch_algorithm.
    Ok (record {
      id = id;
      processing_order = processing_order;
      max_batch_size = max_batch_size;
      max_batch_to_send = max_batch_to_send;
      batch_algorithm = batch_algorithm;
    })))))))
