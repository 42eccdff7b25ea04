-- The parts of a state that an act puts.
use Rattle.std.specs.Prelude.{ℕ, Bool, List, [], ◌∷◌, map, if◌then◌else◌, Option, None, Some, slice_get}
use Rattle.std.specs.List.{filter, filter_map}
use Rattle.std.specs.Option.{option_map}
use Rattle.sds_outside.specs.declared.keeping.Edit.{Edit}
use Rattle.sds_value.specs.declared.row.Peer.{Peer}
use Rattle.sds_types.specs.declared.batch.OutBatch.{OutBatch}
use Rattle.sds_types.specs.declared.config.Config.{Config}
use Rattle.sds_types.specs.declared.counts.Counts.{Counts}
use Rattle.sds_types.specs.declared.peer.KeptPeer.{KeptPeer}
use Rattle.sds_types.specs.declared.registration.Opening.{Opening}
use Rattle.sds_types.specs.declared.registration.Stage.TheVariants.{Waiting}
use Rattle.sds_history.specs.history.Openings.{closed_for, given_to, is_given_to, is_opening_of}
use Rattle.sds_history.specs.history.Records.{batch_record, count_record, opening_record, peer_record}
use Rattle.sds_history.specs.history.Registrations.{token_of}
use Rattle.sds_outgoing.specs.declared.restating.Restated.{Restated}
use Rattle.sds_records.specs.Parts.{put_edit}
use Rattle.sds_imagelaws.specs.Edits.{puts_of}

-- the edit of the counters, which is an act's last
abbrev pub counts_put : Counts → List Edit
counts_put counts = put_edit (count_record counts) ∷ []

-- a new opening, with the token that its noise makes
abbrev pub new_opening : List ℕ → List ℕ → List ℕ → Opening
new_opening group external noise = record {
  group = group;
  external = external;
  token = token_of noise;
  stage = Waiting;
}

-- the openings that are given to a peer, and those that are closed when it is confirmed, as they
-- then are
abbrev pub given_openings : Peer → List Opening → List Opening
given_openings peer openings = map (given_to peer) (filter (is_opening_of peer) openings)

abbrev pub closed_if : List ℕ → Opening → Option Opening
closed_if peer opening =
    if is_given_to peer opening.stage then Some (closed_for peer opening) else None

abbrev pub closed_openings : List ℕ → List Opening → List Opening
closed_openings peer openings = filter_map (closed_if peer) openings

-- a peer that is kept with a token
abbrev pub kept_with_token : Peer → List ℕ → Bool → KeptPeer
kept_with_token peer token child = record { peer = peer; token = token; child = child }

-- the batches at certain places, with the standings that they then have
abbrev pub restated_batch : List OutBatch → Restated → Option OutBatch
restated_batch batches restated =
    option_map (λ (batch : OutBatch). record batch { standing = restated.standing })
    (slice_get batches restated.place)

abbrev pub restated_batches : List OutBatch → List Restated → List OutBatch
restated_batches batches changed = filter_map (restated_batch batches) changed
