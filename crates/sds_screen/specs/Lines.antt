-- What a rehearsal prints of what is
use Rattle.std.specs.Prelude.{ℕ, List, [], ◌∷◌, ◌++◌, codes, Option, Result, Ok, Err}
use Rattle.std.specs.Fmt.{decimal}
use Rattle.std.specs.Option.{option_map_or}
use Rattle.std.specs.Str.{encode_utf8_all}
use Rattle.sds_types.specs.declared.ack.Ack.{Ack}
use Rattle.sds_types.specs.declared.ack.AckRefusal.{AckRefusal}
use Rattle.sds_types.specs.declared.config.Config.{Config}
use Rattle.sds_types.specs.declared.message.Message.{Message}
use Rattle.sds_types.specs.declared.node_fault.NodeFault.{NodeFault}
use Rattle.sds_types.specs.declared.registration.RegRefusal.{RegRefusal}
use Rattle.sds_types.specs.declared.sync.SyncRefusal.{SyncRefusal}
use Rattle.sds_types.specs.declared.write_answer.WriteRefusal.{WriteRefusal}
use Rattle.sds_types.specs.declared.write_answer.Written.{Written}
use Rattle.sds_history.specs.history.Acts.{State}
use Rattle.sds_history.specs.world.Happened.{Told}
use Rattle.sds_history.specs.world.Happened.Told.{Opening, Registering, Writing, Routing, Sending, Delivering, Answering, NoPush, NoPull, Bytes, Tables, Batches, Crashed}
use Rattle.sds_screen.specs.Listed.{batches_text}
use Rattle.sds_screen.specs.Shown.{message_text, tables_text}
use Rattle.sds_screen.specs.Words.{answer_words, batches_words, delivery_words, registration_words, route_words, spaced, sync_words, write_words}
use Rattle.sds_history.specs.world.Worlds.{Node, World, message_of, node_at, state_in}

-- a line: what was asked, a colon, and the answer
abbrev pub answered_line : List (List ℕ) → List ℕ → List ℕ
answered_line asked answer =
    spaced asked ++ (codes ": " ++ (answer ++ codes "\n"))

-- a word and names
abbrev pub named : List ℕ → List (List ℕ) → List (List ℕ)
named word [] = word ∷ []
named word (name ∷ names) = word ∷ named (encode_utf8_all name) names

abbrev pub pair : List ℕ → List ℕ → List (List ℕ)
pair first second = first ∷ (second ∷ [])

-- what was asked of a node, and its answer
abbrev pub opening_line : List ℕ → List ℕ → List ℕ → Result (Unit {0}) RegRefusal → List ℕ
opening_line at group external answer =
    answered_line (named (codes "open") (at ∷ pair group external)) (registration_words answer)

abbrev pub registering_line : List ℕ → List ℕ → Result (Unit {0}) RegRefusal → List ℕ
registering_line asks at answer =
    answered_line (named (codes "register") (pair asks at)) (registration_words answer)

abbrev pub writing_line : List ℕ → List ℕ → ℕ → Result Written WriteRefusal → List ℕ
writing_line node writer number answer = answered_line
    (named (codes "write") (pair node writer) ++ decimal number ∷ []) (write_words answer)

abbrev pub routing_line : List ℕ → Result ℕ NodeFault → List ℕ
routing_line node answer =
    answered_line (named (codes "route") (node ∷ [])) (route_words answer)

-- a message that was made is told by its number and how many batches it has
abbrev pub send_line : List ℕ → List ℕ → Result (ℕ × ℕ) SyncRefusal → List ℕ
send_line from to (Ok message) = answered_line
    (codes "send" ∷ named (decimal message.0) (pair from to)) (batches_words message.1)
send_line from to (Err refusal) =
    answered_line (named (codes "send") (pair from to)) (sync_words refusal)

-- what was asked of a message, and of a reply
abbrev pub delivering_line : ℕ → Result (ℕ × List Ack) SyncRefusal → List ℕ
delivering_line message answer =
    answered_line (pair (codes "deliver") (decimal message)) (delivery_words answer)

abbrev pub answering_line : ℕ → Result ℕ AckRefusal → List ℕ
answering_line reply answer =
    answered_line (pair (codes "answer") (decimal reply)) (answer_words answer)

-- no way leads from a node to another
abbrev pub no_push_line : List ℕ → List ℕ → List ℕ
no_push_line from to =
    answered_line (named (codes "push") (pair from to)) (codes "no way")

abbrev pub no_pull_line : List ℕ → List ℕ → List ℕ
no_pull_line to from =
    answered_line (named (codes "pull") (pair to from)) (codes "no way")

-- a node crashed, and has opened what it keeps
abbrev pub crashed_line : List ℕ → List ℕ
crashed_line node = answered_line (named (codes "crash") (node ∷ [])) (codes "ok")

-- what a node shows
abbrev pub shown_of : Config → World → (State → List ℕ) → List ℕ → List ℕ
shown_of config world show id =
    option_map_or (λ (node : Node). show (state_in config node)) (node_at world id) []

abbrev pub wire_of : Config → World → Option Message → List ℕ
wire_of config world message = option_map_or
    (λ (made : Message). shown_of config world
    (λ (sender : State). message_text config sender made) made.from) message []

-- what is printed of something told in a world
abbrev pub told_text : Config → World → Told → List ℕ
told_text config world (Opening at group external answer) =
    opening_line at group external answer
told_text config world (Registering asks at answer) = registering_line asks at answer
told_text config world (Writing node writer number answer) =
    writing_line node writer number answer
told_text config world (Routing node answer) = routing_line node answer
told_text config world (Sending from to answer) = send_line from to answer
told_text config world (Delivering message answer) = delivering_line message answer
told_text config world (Answering reply answer) = answering_line reply answer
told_text config world (NoPush from to) = no_push_line from to
told_text config world (NoPull to from) = no_pull_line to from
told_text config world (Bytes number) =
    wire_of config world (message_of world number)
told_text config world (Tables node) =
    shown_of config world (tables_text config) node
told_text config world (Batches node) =
    shown_of config world (batches_text config) node
told_text config world (Crashed node) = crashed_line node
