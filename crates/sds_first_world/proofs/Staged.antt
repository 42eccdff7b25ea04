-- What the calls of a stage's nodes make of the world for which the stage stands.
use Rattle.std.proofs.Common.{◌≡◌, ℕ, ◌+◌, ◌^◌, ◌<◌, true, List, [], ◌∷◌, ◌++◌, length, map, All, Option, Some, Result, Ok, sym, ap, subst, ◌∙◌, arith}
use Rattle.std.specs.Option.{option_map_or}
use Rattle.sds_value.specs.declared.row.DocRow.{DocRow}
use Rattle.sds_types.specs.declared.ack.Ack.{Ack}
use Rattle.sds_types.specs.declared.ack.AckRefusal.{AckRefusal}
use Rattle.sds_types.specs.declared.node_fault.NodeFault.{NodeFault}
use Rattle.sds_types.specs.declared.write_answer.WriteRefusal.{WriteRefusal}
use Rattle.sds_types.specs.declared.write_answer.Written.{Written}
use Rattle.sds_first_spec.specs.declared.batch.Sent.{Sent}
use Rattle.sds_first_spec.specs.declared.event.WorldEvent.TheVariants as event
use Rattle.sds_types.specs.declared.tx_row.TxRow.{TxRow}
use Rattle.sds_first_spec.specs.Acts.{Act, History}
use Rattle.sds_first_spec.specs.Calls.{write_answer, write_acts, route_answer, route_acts, acks_answer, acks_acts, offer_answer}
use Rattle.sds_first_spec.specs.Happens.{acts_at, write_at, route_at, acks_at, happens, with_history_acts, answered, delivered, reply_to, sent, message_from, acts_of}
use Rattle.sds_first_spec.specs.History.{state_of}
use Rattle.sds_first_spec.specs.One.{one}
use Rattle.sds_first_spec.specs.Outcome.{is_whole_insert}
use Rattle.sds_first_spec.specs.Screen.{printed_by, write_line, route_line, send_line, deliver_line, answer_line}
use Rattle.sds_first_spec.specs.Shown.{tables_text}
use Rattle.sds_first_spec.specs.World.{Message, Reply, World, history_of, with_acts, received_parts, acks_for_parts}
use Rattle.sds_first_laws.specs.Loads.{after_loads, loads_acks, sent_at}
use Rattle.sds_first_world.specs.declared.nodes.Named.{Named}
use Rattle.sds_first_world.specs.Playing.{NodesPlay, HistoryAt, IsPlaced, IsNowhere, TakesAs}
use Rattle.sds_first_world.proofs.Lookups.{acts_put, one_history}

-- the history at a place, seen through a slice of the nodes
pub history_at : (id : List ℕ) (nodes seen : List Named) (place : ℕ) (hs : List History) → seen ≡ nodes → IsPlaced id seen place → NodesPlay nodes hs → HistoryAt id nodes place hs
history_at id nodes seen place hs is placed plays =
    subst (λ (l : List Named). HistoryAt id l place hs) is (placed.at hs (subst (λ (l : List Named). NodesPlay l hs) (sym is) plays))

-- further acts of the history at a place
acts_stand : (id : List ℕ) (acts : List Act) (nodes new : List Named) (place : ℕ) (hs : List History) (h : History) → history_of id hs ≡ Some h → (at : HistoryAt id nodes place hs)
    → NodesPlay new (with_history_acts id (acts ++ at.h.acts) hs) → NodesPlay new (with_acts id acts hs)
acts_stand id acts nodes new place hs h found at plays =
    subst (λ (l : List History). NodesPlay new l) (ap (λ (x : History). with_history_acts id (acts ++ x.acts) hs) (one_history id hs h nodes place found at) ∙ sym (acts_put id acts hs h found)) plays

acts_are : (id : List ℕ) (w : World) (h : History) (call : History → List Act) → history_of id w.nodes ≡ Some h → acts_at id w call ≡ call h
acts_are id w h call found = ap (λ (o : Option History). option_map_or call o []) found

prints : (id : List ℕ) (w : World) (h : History) (call : History → List ℕ) (old new line : List ℕ) → history_of id w.nodes ≡ Some h → new ≡ old ++ line → line ≡ call h
    → new ≡ old ++ option_map_or call (history_of id w.nodes) []
prints id w h call old new line found put is = put ∙ ap (λ (l : List ℕ). old ++ l) (is ∙ sym (ap (λ (o : Option History). option_map_or call o []) found))

-- WRITE
pub wrote : (id writer : List ℕ) (number : ℕ) (rows tx : List TxRow) (nodes seen new : List Named) (place : ℕ) (answer : Result Written WriteRefusal) (w : World) (h : History) (old out line : List ℕ)
    → seen ≡ nodes → tx ≡ rows → IsPlaced id seen place
    → ((id : List ℕ) (hs : List History) (at : HistoryAt id nodes place hs)
    → (answer ≡ write_answer one (state_of one at.h) writer number tx) × NodesPlay new (with_history_acts id (write_acts answer writer number tx ++ at.h.acts) hs))
    → line ≡ write_line id writer number answer → out ≡ old ++ line
    → NodesPlay nodes w.nodes → history_of id w.nodes ≡ Some h
    → NodesPlay new (happens one w (event.Write id writer number rows)).nodes × (out ≡ old ++ printed_by one w (event.Write id writer number rows))
wrote id writer number rows tx nodes seen new place answer w h old out line is same placed clause text put plays found =
    let at : HistoryAt id nodes place w.nodes = history_at id nodes seen place w.nodes is placed plays in
    let both : (answer ≡ write_answer one (state_of one at.h) writer number tx) × NodesPlay new (with_history_acts id (write_acts answer writer number tx ++ at.h.acts) w.nodes) = clause id w.nodes at in
    let answered : answer ≡ write_answer one (state_of one h) writer number rows =
    both.0 ∙ (ap (λ (x : History). write_answer one (state_of one x) writer number tx) (one_history id w.nodes h nodes place found at) ∙ ap (λ (l : List TxRow). write_answer one (state_of one h) writer number l) same) in
    let acts : acts_at id w (write_at one writer number rows) ≡ write_acts answer writer number tx =
    acts_are id w h (write_at one writer number rows) found ∙ (ap (λ (r : Result Written WriteRefusal). write_acts r writer number rows) (sym answered) ∙ ap (λ (l : List TxRow). write_acts answer writer number l) (sym same)) in (
      subst (λ (l : List Act). NodesPlay new (with_acts id l w.nodes)) (sym acts) (acts_stand id (write_acts answer writer number tx) nodes new place w.nodes h found at both.1),
      prints id w h (λ (h : History). write_line id writer number (write_answer one (state_of one h) writer number rows)) old out line found put (text ∙ ap (λ (r : Result Written WriteRefusal). write_line id writer number r) answered),
    )

-- ROUTE
pub ran : (id : List ℕ) (nodes seen new : List Named) (place : ℕ) (answer : Result ℕ NodeFault) (w : World) (h : History) (old out line : List ℕ)
    → seen ≡ nodes → IsPlaced id seen place
    → ((id : List ℕ) (hs : List History) (at : HistoryAt id nodes place hs)
    → (answer ≡ route_answer one (state_of one at.h)) × NodesPlay new (with_history_acts id (route_acts answer (state_of one at.h) ++ at.h.acts) hs))
    → line ≡ route_line id answer → out ≡ old ++ line
    → NodesPlay nodes w.nodes → history_of id w.nodes ≡ Some h
    → NodesPlay new (happens one w (event.Route id)).nodes × (out ≡ old ++ printed_by one w (event.Route id))
ran id nodes seen new place answer w h old out line is placed clause text put plays found =
    let at : HistoryAt id nodes place w.nodes = history_at id nodes seen place w.nodes is placed plays in
    let both : (answer ≡ route_answer one (state_of one at.h)) × NodesPlay new (with_history_acts id (route_acts answer (state_of one at.h) ++ at.h.acts) w.nodes) = clause id w.nodes at in
    let one_h : at.h ≡ h = one_history id w.nodes h nodes place found at in
    let answered : answer ≡ route_answer one (state_of one h) = both.0 ∙ ap (λ (x : History). route_answer one (state_of one x)) one_h in
    let acts : acts_at id w (route_at one) ≡ route_acts answer (state_of one at.h) =
    acts_are id w h (route_at one) found ∙ (ap (λ (r : Result ℕ NodeFault). route_acts r (state_of one h)) (sym answered) ∙ ap (λ (x : History). route_acts answer (state_of one x)) (sym one_h)) in (
      subst (λ (l : List Act). NodesPlay new (with_acts id l w.nodes)) (sym acts) (acts_stand id (route_acts answer (state_of one at.h)) nodes new place w.nodes h found at both.1),
      prints id w h (λ (h : History). route_line id (route_answer one (state_of one h))) old out line found put (text ∙ ap (λ (r : Result ℕ NodeFault). route_line id r) answered),
    )

-- ANSWER
pub answers : (from to : List ℕ) (acks : List Ack) (reply : Reply) (nodes seen new : List Named) (place : ℕ) (answer : Result ℕ AckRefusal) (w : World) (h : History) (replies : ℕ) (old out line : List ℕ)
    → seen ≡ nodes → IsPlaced from seen place
    → ((id : List ℕ) (hs : List History) (at : HistoryAt id nodes place hs)
    → (answer ≡ acks_answer (state_of one at.h) to acks) × NodesPlay new (with_history_acts id (acks_acts answer to acks ++ at.h.acts) hs))
    → line ≡ answer_line replies answer → out ≡ old ++ line
    → NodesPlay nodes w.nodes → replies ≡ length w.replies → reply.sender ≡ from → reply.receiver ≡ to → reply.acks ≡ acks → history_of from w.nodes ≡ Some h
    → NodesPlay new (answered one reply w).nodes × (out ≡ old ++ answer_line (length w.replies) (acks_answer (state_of one h) to acks))
answers from to acks reply nodes seen new place answer w h replies old out line is placed clause text put plays count sender receiver these found =
    let at : HistoryAt from nodes place w.nodes = history_at from nodes seen place w.nodes is placed plays in
    let both : (answer ≡ acks_answer (state_of one at.h) to acks) × NodesPlay new (with_history_acts from (acks_acts answer to acks ++ at.h.acts) w.nodes) = clause from w.nodes at in
    let answered_is : answer ≡ acks_answer (state_of one h) to acks = both.0 ∙ ap (λ (x : History). acks_answer (state_of one x) to acks) (one_history from w.nodes h nodes place found at) in
    let plays_on : NodesPlay new (with_acts from (acks_acts answer to acks) w.nodes) = acts_stand from (acks_acts answer to acks) nodes new place w.nodes h found at both.1 in
    let acts : acts_at from w (acks_at one (record { receiver = to; sender = from; acks = acks })) ≡ acks_acts answer to acks =
    acts_are from w h (acks_at one (record { receiver = to; sender = from; acks = acks })) found ∙ ap (λ (r : Result ℕ AckRefusal). acks_acts r to acks) (sym answered_is) in
    let whole : reply ≡ record { receiver = to; sender = from; acks = acks } =
    ap (λ (name : List ℕ). record { receiver = name; sender = reply.sender; acks = reply.acks }) receiver
    ∙ (ap (λ (name : List ℕ). record { receiver = to; sender = name; acks = reply.acks }) sender ∙ ap (λ (l : List Ack). record { receiver = to; sender = from; acks = l }) these) in (
      subst (λ (r : Reply). NodesPlay new (answered one r w).nodes) (sym whole) (subst (λ (l : List Act). NodesPlay new (with_acts from l w.nodes)) (sym acts) plays_on),
      put ∙ ap (λ (l : List ℕ). old ++ l) (text ∙ (ap (λ (n : ℕ). answer_line n answer) count ∙ ap (λ (r : Result ℕ AckRefusal). answer_line (length w.replies) r) answered_is)),
    )

-- NO PLACE was found of a node that is there.
pub nowhere : (id : List ℕ) (nodes seen : List Named) (hs : List History) (h : History) → seen ≡ nodes → IsNowhere id seen → NodesPlay nodes hs → history_of id hs ≡ Some h → ⊥
nowhere id nodes seen hs h is none plays found = none.absent hs h (subst (λ (l : List Named). NodesPlay l hs) (sym is) plays) found

-- SEND
pub sends : (from to : List ℕ) (nodes seen : List Named) (place : ℕ) (sents : List Sent) (w : World) (h : History) (ids : List ℕ) (messages next count : ℕ) (old out line : List ℕ)
    → seen ≡ nodes → IsPlaced from seen place
    → ((id : List ℕ) (hs : List History) (at : HistoryAt id seen place hs) (ids : List ℕ) → offer_answer one (state_of one at.h) to [] ≡ Ok ids → sents ≡ map (sent_at one (state_of one at.h)) ids)
    → (messages < 2 ^ 62 → next ≡ messages + 1) → count ≡ length sents → line ≡ send_line next from to count → out ≡ old ++ line
    → NodesPlay nodes w.nodes → messages ≡ length w.messages → length w.messages < 2 ^ 62 → history_of from w.nodes ≡ Some h → offer_answer one (state_of one h) to [] ≡ Ok ids
    → (sents ≡ map (sent_at one (state_of one h)) ids) × (next ≡ length (sent one from to w).messages) × (out ≡ old ++ send_line (length w.messages + 1) from to (length sents))
sends from to nodes seen place sents w h ids messages next count old out line is placed clause counts many text put plays so_far few found offered =
    let at : HistoryAt from seen place w.nodes = placed.at w.nodes (subst (λ (l : List Named). NodesPlay l w.nodes) (sym is) plays) in
    let one_h : at.h ≡ h = one_history from w.nodes h seen place found at in
    let these : sents ≡ map (sent_at one (state_of one at.h)) ids = clause from w.nodes at ids (ap (λ (x : History). offer_answer one (state_of one x) to []) one_h ∙ offered) in
    let number : next ≡ messages + 1 = counts (omega (arith, so_far, few)) in (
      these ∙ ap (λ (x : History). map (sent_at one (state_of one x)) ids) one_h,
      number_is next messages w.messages (message_from one from to w) number so_far,
      put ∙ ap (λ (l : List ℕ). old ++ l) (text ∙ (ap (λ (n : ℕ). send_line n from to count) (number ∙ ap (λ (n : ℕ). n + 1) so_far) ∙ ap (λ (n : ℕ). send_line (length w.messages + 1) from to n) many)),
    ) where
      number_is : (next so_far : ℕ) (messages : List Message) (m : Message) → next ≡ so_far + 1 → so_far ≡ length messages → next ≡ length (m ∷ messages)
      number_is next so_far messages m is was = omega (arith, is, was)

-- RECEIVE
acts_found : (id : List ℕ) (w : World) (h : History) → history_of id w.nodes ≡ Some h → acts_of id w ≡ h.acts
acts_found id w h found = ap (λ (o : Option History). option_map_or (λ (h : History). h.acts) o []) found

pub receives : (from to : List ℕ) (sents : List Sent) (nodes seen new : List Named) (place : ℕ) (acks : List Ack) (w : World) (message : Message) (h : History) (messages replies next : ℕ) (old out line : List ℕ)
    → seen ≡ nodes → IsPlaced to seen place
    → ((id : List ℕ) (hs : List History) (at : HistoryAt id nodes place hs) → All (λ (sent : Sent). All (λ (doc : DocRow). is_whole_insert one doc ≡ true) sent.rows) sents
    → (acks ≡ loads_acks one from 0 sents at.h) × ((acts : List Act) → after_loads one from 0 sents at.h ≡ record { opening = at.h.opening; acts = acts } → NodesPlay new (with_history_acts id acts hs)))
    → (replies < 2 ^ 62 → next ≡ replies + 1) → line ≡ deliver_line messages next acks → out ≡ old ++ line
    → NodesPlay nodes w.nodes → messages ≡ length w.messages → replies ≡ length w.replies → length w.replies < 2 ^ 62 → message.sender ≡ from → message.receiver ≡ to → history_of to w.nodes ≡ Some h → TakesAs message sents h
    → (acks ≡ (reply_to one message w).acks) × (NodesPlay new (delivered one message w).nodes × (next ≡ length (delivered one message w).replies)) × (out ≡ old ++ deliver_line (length w.messages) (length w.replies + 1) acks)
receives from to sents nodes seen new place acks w message h messages replies next old out line is placed clause counts text put plays sent_so_far so_far few sender receiver found takes =
    let at : HistoryAt to nodes place w.nodes = history_at to nodes seen place w.nodes is placed plays in
    let one_h : at.h ≡ h = one_history to w.nodes h nodes place found at in
    let both : (acks ≡ loads_acks one from 0 sents at.h) × ((acts : List Act) → after_loads one from 0 sents at.h ≡ record { opening = at.h.opening; acts = acts } → NodesPlay new (with_history_acts to acts w.nodes)) =
    clause to w.nodes at takes.whole in
    let acts : acts_of message.receiver w ≡ h.acts = ap (λ (id : List ℕ). acts_of id w) receiver ∙ acts_found to w h found in
    let here : after_loads one from 0 sents at.h ≡ record { opening = at.h.opening; acts = received_parts one message.sender message.parts h.acts } =
    ap (λ (name : List ℕ). after_loads one name 0 sents at.h) (sym sender) ∙ (ap (λ (x : History). after_loads one message.sender 0 sents x) one_h ∙ (takes.takes
    ∙ ap (λ (x : History). record { opening = x.opening; acts = received_parts one message.sender message.parts h.acts }) (sym one_h))) in
    let plays_on : NodesPlay new (with_history_acts to (received_parts one message.sender message.parts h.acts) w.nodes) = both.1 (received_parts one message.sender message.parts h.acts) here in
    let number : next ≡ replies + 1 = counts (omega (arith, so_far, few)) in (
      both.0 ∙ (ap (λ (name : List ℕ). loads_acks one name 0 sents at.h) (sym sender) ∙ (ap (λ (x : History). loads_acks one message.sender 0 sents x) one_h ∙ (takes.says
          ∙ ap (λ (l : List Act). acks_for_parts one message.sender message.parts l) (sym acts)))),
      (
        subst (λ (l : List Act). NodesPlay new (with_history_acts message.receiver (received_parts one message.sender message.parts l) w.nodes)) (sym acts)
            (subst (λ (id : List ℕ). NodesPlay new (with_history_acts id (received_parts one message.sender message.parts h.acts) w.nodes)) (sym receiver) plays_on),
        number_is next replies w.replies (reply_to one message w) number so_far,
      ),
      put ∙ ap (λ (l : List ℕ). old ++ l) (text ∙ (ap (λ (n : ℕ). deliver_line n next acks) sent_so_far ∙ ap (λ (n : ℕ). deliver_line (length w.messages) n acks) (number ∙ ap (λ (n : ℕ). n + 1) so_far))),
    ) where
      number_is : (next so_far : ℕ) (replies : List Reply) (r : Reply) → next ≡ so_far + 1 → so_far ≡ length replies → next ≡ length (r ∷ replies)
      number_is next so_far replies r is was = omega (arith, is, was)

-- SHOW
pub shows : (id : List ℕ) (nodes seen : List Named) (place : ℕ) (w : World) (h : History) (old out : List ℕ) → seen ≡ nodes → IsPlaced id seen place
    → ((id : List ℕ) (hs : List History) (at : HistoryAt id seen place hs) → out ≡ old ++ tables_text one (state_of one at.h).tables)
    → NodesPlay nodes w.nodes → history_of id w.nodes ≡ Some h → out ≡ old ++ printed_by one w (event.Show id)
shows id nodes seen place w h old out is placed clause plays found =
    let at : HistoryAt id seen place w.nodes = placed.at w.nodes (subst (λ (l : List Named). NodesPlay l w.nodes) (sym is) plays) in
    let one_h : at.h ≡ h = one_history id w.nodes h seen place found at in
    prints id w h (λ (h : History). tables_text one (state_of one h).tables) old out (tables_text one (state_of one at.h).tables) found (clause id w.nodes at) (ap (λ (x : History). tables_text one (state_of one x).tables) one_h)
