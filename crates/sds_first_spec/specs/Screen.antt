-- What a rehearsal prints for each event.
use Rattle.std.specs.Prelude.{ℕ, ◌+◌, ◌==◌, if◌then◌else◌, List, [], ◌∷◌, ◌++◌, length, map, Result, Ok, Err, codes}
use Rattle.std.specs.Fmt.{decimal}
use Rattle.std.specs.List.{join_with_byte}
use Rattle.std.specs.Option.{option_map_or}
use Rattle.std.specs.Str.{encode_utf8_all}
use Rattle.sds_types.specs.declared.config.Config.{Config}
use Rattle.sds_types.specs.declared.ack.Ack.{Ack}
use Rattle.sds_types.specs.declared.ack.AckRefusal.{AckRefusal}
use Rattle.sds_types.specs.declared.node_fault.NodeFault.{NodeFault}
use Rattle.sds_types.specs.declared.write_answer.WriteRefusal.{WriteRefusal}
use Rattle.sds_types.specs.declared.write_answer.WriteRefusal.TheVariants.{Broken, OldNumber, GapNumber, TooManyRows, Fault}
use Rattle.sds_types.specs.declared.write_answer.Written.{Written}
use Rattle.sds_types.specs.declared.write_answer.Written.TheVariants.{Done, Again}
use Rattle.sds_first_spec.specs.declared.event.WorldEvent.{WorldEvent}
use Rattle.sds_first_spec.specs.declared.event.WorldEvent.TheVariants.{Node, Open, Register, Write, Route, Push, Show}
use Rattle.sds_first_spec.specs.Acts.{History}
use Rattle.sds_first_spec.specs.Calls.{write_answer, route_answer, acks_answer}
use Rattle.sds_first_spec.specs.Happens.{batches_in, message_from, reply_to, delivered, happens}
use Rattle.sds_first_spec.specs.History.{state_of}
use Rattle.sds_types.specs.Rules.{number_of}
use Rattle.sds_first_spec.specs.Shown.{tables_text}
use Rattle.sds_first_spec.specs.World.{Message, World, history_of}

-- a text in UTF-8
abbrev pub utf8 : List ℕ → List ℕ
utf8 text = encode_utf8_all text

-- the words of a write's answer
abbrev pub write_words : Result Written WriteRefusal → List ℕ
write_words (Ok (Done first count)) = codes "done " ++ (decimal first ++ (codes " " ++ decimal count))
write_words (Ok (Again first count)) = codes "again " ++ (decimal first ++ (codes " " ++ decimal count))
write_words (Err (Broken row rule)) = codes "refused " ++ (decimal row ++ (codes " " ++ decimal (number_of rule)))
write_words (Err (OldNumber last)) = codes "old " ++ decimal last
write_words (Err (GapNumber last)) = codes "gap " ++ decimal last
write_words (Err TooManyRows) = codes "rows"
write_words (Err (Fault fault)) = codes "fault"

abbrev pub write_line : List ℕ → List ℕ → ℕ → Result Written WriteRefusal → List ℕ
write_line node writer number answer =
    codes "write " ++ (utf8 node ++ (codes " " ++ (utf8 writer ++ (codes " " ++ (decimal number ++ (codes ": " ++ (write_words answer ++ codes "\n")))))))

abbrev pub count_words : Result ℕ NodeFault → List ℕ
count_words (Ok count) = decimal count ++ codes " batches"
count_words (Err fault) = codes "fault"

abbrev pub route_line : List ℕ → Result ℕ NodeFault → List ℕ
route_line node answer = codes "route " ++ (utf8 node ++ (codes ": " ++ (count_words answer ++ codes "\n")))

abbrev pub ack_word : Ack → List ℕ
ack_word ack = codes "batch-" ++ (decimal ack.batch ++ option_map_or (λ (e : ℕ × ℕ). codes "=er." ++ (decimal e.0 ++ (codes "." ++ decimal e.1))) ack.error (codes "=ok"))

-- a reply's pairs, or a dash where there is none
abbrev pub acks_words : List Ack → List ℕ
acks_words [] = codes "-"
acks_words (ack ∷ acks) = join_with_byte 38 (map ack_word (ack ∷ acks))

abbrev pub send_line : ℕ → List ℕ → List ℕ → ℕ → List ℕ
send_line number sender receiver batches =
    codes "send " ++ (decimal number ++ (codes " " ++ (utf8 sender ++ (codes " " ++ (utf8 receiver ++ (codes ": " ++ (decimal batches ++ codes " batches\n")))))))

abbrev pub deliver_line : ℕ → ℕ → List Ack → List ℕ
deliver_line message reply acks = codes "deliver " ++ (decimal message ++ (codes ": reply " ++ (decimal reply ++ (codes " " ++ (acks_words acks ++ codes "\n")))))

abbrev pub changed_words : Result ℕ AckRefusal → List ℕ
changed_words (Ok count) = decimal count ++ codes " changed"
changed_words (Err refusal) = codes "fault"

abbrev pub answer_line : ℕ → Result ℕ AckRefusal → List ℕ
answer_line reply answer = codes "answer " ++ (decimal reply ++ (codes ": " ++ (changed_words answer ++ codes "\n")))

-- what a call at the node of a name prints, where there is one
abbrev pub printed_at : List ℕ → World → (History → List ℕ) → List ℕ
printed_at id w call = option_map_or call (history_of id w.nodes) []

-- a message is numbered by the messages before it, a reply by the replies before it
abbrev pub push_text : Config → Message → World → List ℕ
push_text config message w =
    send_line (length w.messages + 1) message.sender message.receiver (batches_in message)
    ++ (if batches_in message == 0 then [] else
    deliver_line (length w.messages + 1) (length w.replies + 1) (reply_to config message w).acks
    ++ printed_at message.sender (delivered config message w) (λ (h : History). answer_line (length w.replies + 1) (acks_answer (state_of config h) message.receiver (reply_to config message w).acks)))

-- what an event prints; opening and registering are answered ok, and their refusals come later
abbrev pub printed_by : Config → World → WorldEvent → List ℕ
printed_by config w (Node peer) = []
printed_by config w (Open at group external) = codes "open " ++ (utf8 at ++ (codes " " ++ (utf8 group ++ (codes " " ++ (utf8 external ++ codes ": ok\n")))))
printed_by config w (Register asks at) = codes "register " ++ (utf8 asks ++ (codes " " ++ (utf8 at ++ codes ": ok\n")))
printed_by config w (Write node writer number rows) = printed_at node w (λ (h : History). write_line node writer number (write_answer config (state_of config h) writer number rows))
printed_by config w (Route node) = printed_at node w (λ (h : History). route_line node (route_answer config (state_of config h)))
printed_by config w (Push sender receiver) = push_text config (message_from config sender receiver w) w
printed_by config w (Show node) = printed_at node w (λ (h : History). tables_text config (state_of config h).tables)

-- what the events print, the first of them first
abbrev pub screen_of : Config → World → List WorldEvent → List ℕ
screen_of config w [] = []
screen_of config w (event ∷ events) = printed_by config w event ++ screen_of config (happens config w event) events
