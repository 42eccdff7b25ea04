-- The records that a node keeps of each part of its state but rows and changes.
use Rattle.std.specs.Prelude.{ℕ, ◌-◌, Bool, true, false, List, [], ◌∷◌, ◌++◌, length, map, replicate, codes, Option, None, Some}
use Rattle.std.specs.Fmt.{decimal}
use Rattle.sds_line.specs.Written.{written_line}
use Rattle.sds_value.specs.declared.row.Field.{Field}
use Rattle.sds_value.specs.declared.row.Field.TheVariants.{Null, Text}
use Rattle.sds_value.specs.declared.row.Peer.{Peer}
use Rattle.sds_types.specs.Rules.{number_of}
use Rattle.sds_types.specs.Standings.{name_of}
use Rattle.sds_types.specs.declared.batch.OutBatch.{OutBatch}
use Rattle.sds_types.specs.declared.batch.Standing.{Standing}
use Rattle.sds_types.specs.declared.batch.Standing.TheVariants as standing
use Rattle.sds_types.specs.declared.config.Config.{Config}
use Rattle.sds_types.specs.declared.counts.Counts.{Counts}
use Rattle.sds_types.specs.declared.counts.WriterLast.{WriterLast}
use Rattle.sds_types.specs.declared.lane.LaneError.{LaneError}
use Rattle.sds_types.specs.declared.lane.LaneIn.{LaneIn}
use Rattle.sds_types.specs.declared.peer.KeptPeer.{KeptPeer}
use Rattle.sds_types.specs.declared.registration.Opening.{Opening}
use Rattle.sds_types.specs.declared.registration.Stage.{Stage}
use Rattle.sds_types.specs.declared.registration.Stage.TheVariants.{Waiting, Given, Closed}
use Rattle.sds_history.specs.history.Lanes.{channel_name, lane_key}
use Rattle.sds_history.specs.history.Openings.{opening_key}
use Rattle.sds_history.specs.history.Peers.{peer_key}
use Rattle.sds_history.specs.history.Writers.{writer_key}

-- a record: a key, and a body, which are its fields as a line
pub record Record : Type 0 where
  pub key : List ℕ
  pub body : List ℕ

abbrev pub record_of : List ℕ → List Field → Record
record_of key fields = record { key = key; body = written_line fields }

abbrev pub number_field : ℕ → Field
number_field number = Text (decimal number)

-- the node itself, and its counters
abbrev pub me_record : Peer → Record
me_record me =
    record_of (codes "me") (Text me.id ∷ (Text me.group ∷ (Text me.external ∷ [])))

abbrev pub count_record : Counts → Record
count_record counts = record_of (codes "count") (map number_field (counts.acts
    ∷ (counts.last_change ∷ (counts.last_batch ∷ (counts.last_tx ∷ (counts.routed ∷ []))))))

-- a peer: whether it registered here
abbrev pub side_word : Bool → List ℕ
side_word true = codes "child"
side_word false = codes "parent"

abbrev pub peer_record : KeptPeer → Record
peer_record kept = record_of (codes "n/" ++ peer_key kept) (Text kept.peer.group
    ∷ (Text kept.peer.external ∷ (Text kept.token ∷ (Text (side_word kept.child) ∷ []))))

-- an opening: its token, its stage, and the node that has it
abbrev pub stage_fields : Stage → List Field
stage_fields Waiting = Text (codes "waiting") ∷ (Null ∷ [])
stage_fields (Given node) = Text (codes "given") ∷ (Text node ∷ [])
stage_fields (Closed node) = Text (codes "closed") ∷ (Text node ∷ [])

abbrev pub opening_record : Opening → Record
opening_record opening = record_of (codes "o/" ++ opening_key opening)
    (Text opening.token ∷ stage_fields opening.stage)

-- a writer's last write
abbrev pub writer_record : WriterLast → Record
writer_record last = record_of (codes "w/" ++ writer_key last) (number_field last.number
    ∷ (number_field last.first ∷ (number_field last.count ∷ [])))

-- numbers in keys have 20 digits, so that they ascend as the numbers do
abbrev pub id_text : ℕ → List ℕ
id_text number = replicate (20 - length (decimal number)) 48 ++ decimal number

-- a batch: its status with the row and rule of an error, then its changes
abbrev pub error_fields : Standing → List Field
error_fields (standing.Erred row rule) = number_field row ∷ (number_field rule ∷ [])
error_fields other = Null ∷ (Null ∷ [])

abbrev pub batch_record : Config → OutBatch → Record
batch_record config batch = record_of (codes "b/" ++ id_text batch.id) (Text batch.peer
    ∷ (Text (channel_name config batch.channel) ∷ (Text (name_of batch.standing)
    ∷ (error_fields batch.standing ++ map number_field batch.changes))))

-- a lane: its highest batch and status, then the batch in error with its row and rule
abbrev pub status_field : Option Bool → Field
status_field None = Null
status_field (Some true) = Text (codes "IG")
status_field (Some false) = Text (codes "OK")

abbrev pub held_fields : Option LaneError → List Field
held_fields None = Null ∷ (Null ∷ (Null ∷ []))
held_fields (Some error) = map number_field (error.batch
    ∷ (error.row ∷ (number_of error.rule ∷ [])))

abbrev pub lane_record : Config → LaneIn → Record
lane_record config lane = record_of (codes "i/" ++ lane_key config lane)
    (number_field lane.highest ∷ (status_field lane.ignored ∷ held_fields lane.error))
