-- What those who call a node keep to, call by call.
use Rattle.std.specs.Prelude.{◌≡◌, ℕ, ◌≤◌, Bool, true, ◌&&◌, ◌==◌, nat_le, IsTrue, List, length}
use Rattle.std.specs.List.{list_all}
use Rattle.std.specs.Option.{option_map_or}
use Rattle.std.specs.Str.{all_scalars}
use Rattle.sds_value.specs.Binaries.{are_bytes}
use Rattle.sds_value.specs.Names.{is_name_text}
use Rattle.sds_value.specs.declared.kind.Value.{Value}
use Rattle.sds_value.specs.declared.kind.Value.TheVariants.{Text}
use Rattle.sds_value.specs.declared.row.Peer.{Peer}
use Rattle.sds_types.specs.Limits.{most_count}
use Rattle.sds_types.specs.declared.ack.Ack.{Ack}
use Rattle.sds_types.specs.declared.config.Config.{Config}
use Rattle.sds_types.specs.declared.document.BatchDoc.{BatchDoc}
use Rattle.sds_types.specs.declared.load_row.LoadRow.{LoadRow}
use Rattle.sds_types.specs.declared.prepared.Body.{Body}
use Rattle.sds_types.specs.declared.prepared.Body.TheVariants as body
use Rattle.sds_types.specs.declared.prepared.Prepared.{Prepared}
use Rattle.sds_types.specs.declared.tx_row.TxRow.{TxRow}
use Rattle.sds_types.specs.declared.way.Way.{Way}
use Rattle.sds_line.specs.Written.{are_fields}
use Rattle.sds_trade.specs.rules.Outcomes.{prepared_batch}
use Rattle.sds_history.specs.history.Acts.{State}
use Rattle.sds_history.specs.history.SoundParts.{is_token, most_rule}
use Rattle.sds_nodelaws.specs.Calls.{Call}
use Rattle.sds_nodelaws.specs.Calls.Call.{Write, Route, Load, TakeAcks, Open, Register, Join, Confirm}

-- TEXTS are made of characters: the fields of own rows, and the values of a batch that was read
abbrev pub are_spelt : List TxRow → Bool
are_spelt rows = list_all (λ (row : TxRow). are_fields row.fields) rows

abbrev pub is_spelt : Value → Bool
is_spelt (Text text) = all_scalars text
is_spelt other = true

abbrev pub is_spelt_row : LoadRow → Bool
is_spelt_row row = list_all is_spelt row.key.0 && list_all is_spelt row.new

abbrev pub is_spelt_body : Body → Bool
is_spelt_body (body.Rows rows) = list_all is_spelt_row rows
is_spelt_body (body.Broken number rule) = true

-- a batch that was read from a document that a node sent on some way
pub record IsReadFrom (config : Config) (from : List ℕ) (batch : Prepared) : Type 0 where
  pub way : Way
  pub document : BatchDoc
  pub source : way.source ≡ from
  pub read : batch ≡ prepared_batch config way document
  pub first : 1 ≤ document.batch
  pub last : document.batch ≤ most_count
  pub spelt : IsTrue (is_spelt_body batch.body)

-- the rule of an ack's error is one of the rules
abbrev pub is_ack : Ack → Bool
is_ack ack =
    option_map_or (λ (error : ℕ × ℕ). nat_le 1 error.1 && nat_le error.1 most_rule) ack.error true

-- a token's noise: 16 bytes
abbrev pub is_noise : List ℕ → Bool
is_noise noise = length noise == 16 && are_bytes noise

abbrev pub is_named_peer : Peer → Bool
is_named_peer peer =
    is_name_text peer.id && (is_name_text peer.group && is_name_text peer.external)

-- what a call is asked with
abbrev pub IsAsked : Config → State → Call → Type 0
IsAsked config state (Write writer number rows) =
    IsTrue (is_name_text writer && are_spelt rows)
IsAsked config state Route = Unit {0}
IsAsked config state (Load from batch) = IsReadFrom config from batch
IsAsked config state (TakeAcks from acks) = IsTrue (list_all is_ack acks)
IsAsked config state (Open group external noise) =
    IsTrue (is_name_text group && (is_name_text external && is_noise noise))
IsAsked config state (Register asks) = IsTrue (is_named_peer asks)
IsAsked config state (Join other token) = IsTrue (is_named_peer other && is_token token)
IsAsked config state (Confirm peer) = Unit {0}
