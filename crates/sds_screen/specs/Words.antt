-- The words of answers.
use Rattle.std.specs.Prelude.{ℕ, List, [], ◌∷◌, ◌++◌, map, Result, Ok, Err, codes}
use Rattle.std.specs.Fmt.{decimal}
use Rattle.std.specs.List.{join_with_byte}
use Rattle.std.specs.Option.{option_map_or}
use Rattle.sds_types.specs.Registrations.{reg_number_of}
use Rattle.sds_types.specs.Rules.{number_of}
use Rattle.sds_types.specs.declared.ack.Ack.{Ack}
use Rattle.sds_types.specs.declared.ack.AckRefusal.{AckRefusal}
use Rattle.sds_types.specs.declared.ack.AckRefusal.TheVariants as acks
use Rattle.sds_types.specs.declared.node_fault.NodeFault.{NodeFault}
use Rattle.sds_types.specs.declared.registration.RegRefusal.{RegRefusal}
use Rattle.sds_types.specs.declared.registration.RegRefusal.TheVariants as registration
use Rattle.sds_types.specs.declared.sync.SyncRefusal.{SyncRefusal}
use Rattle.sds_types.specs.declared.sync.SyncRefusal.TheVariants as sync
use Rattle.sds_types.specs.declared.write_answer.WriteRefusal.{WriteRefusal}
use Rattle.sds_types.specs.declared.write_answer.WriteRefusal.TheVariants.{Broken, OldNumber, GapNumber, TooManyRows, Fault}
use Rattle.sds_types.specs.declared.write_answer.Written.{Written}
use Rattle.sds_types.specs.declared.write_answer.Written.TheVariants.{Done, Again}

-- words with a space between
abbrev pub spaced : List (List ℕ) → List ℕ
spaced words = join_with_byte 32 words

-- a line of words
abbrev pub line_of_words : List (List ℕ) → List ℕ
line_of_words words = spaced words ++ codes "\n"

abbrev pub numbers_after : List ℕ → ℕ → ℕ → List ℕ
numbers_after word first second = spaced (word ∷ (decimal first ∷ (decimal second ∷ [])))

-- a registration
abbrev pub refusal_words : RegRefusal → List ℕ
refusal_words (registration.Fault fault) = codes "fault"
refusal_words refusal = codes "refused " ++ decimal (reg_number_of refusal)

abbrev pub registration_words : Result (Unit {0}) RegRefusal → List ℕ
registration_words (Ok done) = codes "ok"
registration_words (Err refusal) = refusal_words refusal

-- a write
abbrev pub write_words : Result Written WriteRefusal → List ℕ
write_words (Ok (Done first count)) = numbers_after (codes "done") first count
write_words (Ok (Again first count)) = numbers_after (codes "again") first count
write_words (Err (Broken row rule)) = numbers_after (codes "refused") row (number_of rule)
write_words (Err (OldNumber last)) = codes "old " ++ decimal last
write_words (Err (GapNumber last)) = codes "gap " ++ decimal last
write_words (Err TooManyRows) = codes "rows"
write_words (Err (Fault fault)) = codes "fault"

abbrev pub batches_words : ℕ → List ℕ
batches_words count = decimal count ++ codes " batches"

abbrev pub route_words : Result ℕ NodeFault → List ℕ
route_words (Ok count) = batches_words count
route_words (Err fault) = codes "fault"

-- a reply: a word for each batch that is answered
abbrev pub error_words : ℕ × ℕ → List ℕ
error_words error = codes "er." ++ (decimal error.0 ++ (codes "." ++ decimal error.1))

abbrev pub ack_word : Ack → List ℕ
ack_word ack = codes "batch-" ++ (decimal ack.batch
    ++ (codes "=" ++ option_map_or error_words ack.error (codes "ok")))

abbrev pub reply_text : List Ack → List ℕ
reply_text acks = join_with_byte 38 (map ack_word acks)

-- a dash stands for an empty reply
abbrev pub acks_words : List Ack → List ℕ
acks_words [] = codes "-"
acks_words (ack ∷ acks) = reply_text (ack ∷ acks)

abbrev pub sync_words : SyncRefusal → List ℕ
sync_words sync.NoWay = codes "no way"
sync_words (sync.Fault fault) = codes "fault"

abbrev pub delivery_words : Result (ℕ × List Ack) SyncRefusal → List ℕ
delivery_words (Ok reply) =
    spaced (codes "reply" ∷ (decimal reply.0 ∷ (acks_words reply.1 ∷ [])))
delivery_words (Err refusal) = sync_words refusal

-- acks; a reply of a world names no unknown batch
abbrev pub answer_words : Result ℕ AckRefusal → List ℕ
answer_words (Ok count) = decimal count ++ codes " changed"
answer_words (Err acks.UnknownNode) = codes "no way"
answer_words (Err (acks.UnknownBatch batch)) = codes "no way"
answer_words (Err (acks.Fault fault)) = codes "fault"
