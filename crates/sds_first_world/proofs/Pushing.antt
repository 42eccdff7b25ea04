-- A push: a message is sent, and where it holds a batch delivered and answered.
use Rattle.std.proofs.Common.{◌≡◌, ℕ, ◌+◌, ◌<◌, ◌^◌, suc, Bool, true, false, ◌==◌, List, [], ◌∷◌, ◌++◌, length, map, Option, Some, Ok, refl, sym, ap, subst, ◌∙◌, arith, append_assoc, append-nil, add-one}
use Rattle.std.specs.Option.{option_map_or}
use Rattle.std.specs.List.{flat_map}
use Rattle.std.specs.Str.{bytes_eq}
use Rattle.std.proofs.lemmas.Bool.Decides.{nat_tests}
use Rattle.sds_value.specs.declared.row.Peer.{Peer}
use Rattle.sds_types.specs.declared.ack.Ack.{Ack}
use Rattle.sds_types.specs.declared.batch.OutBatch.{OutBatch}
use Rattle.sds_first_spec.specs.declared.batch.Sent.{Sent}
use Rattle.sds_first_spec.specs.declared.event.WorldEvent.TheVariants as event
use Rattle.sds_first_spec.specs.Acts.{Act, State, History}
use Rattle.sds_first_spec.specs.Calls.{is_peer, offer_answer, acks_answer}
use Rattle.sds_first_spec.specs.Happens.{batches_in, happens, sent, message_from, delivered, answered, reply_to}
use Rattle.sds_first_spec.specs.History.{state_of}
use Rattle.sds_first_spec.specs.Lanes.{offered_in, channels_of}
use Rattle.sds_first_spec.specs.One.{one, paired}
use Rattle.sds_first_spec.specs.Screen.{printed_by, send_line, deliver_line, answer_line}
use Rattle.sds_first_spec.specs.World.{Message, Reply, World, history_of}
use Rattle.sds_first_laws.specs.Loads.{sent_at}
use Rattle.sds_first_laws.specs.Pairs.{pair_world, GoesByCalls}
use Rattle.sds_first_laws.proofs.PairEvents.{next_message, reply_of, message_is, world_delivered, sender_found, receiver_found}
use Rattle.sds_first_world.specs.declared.stage.Stage.{Stage}
use Rattle.sds_first_world.specs.Playing.{Stands, MayPush, TakesAs}

-- what a push has to go by in a world
record PushFacts (from to : List ℕ) (w : World) : Type 0 where
  h : History
  receiver : History
  ids : List ℕ
  found : history_of from w.nodes ≡ Some h
  offered : offer_answer one (state_of one h) to [] ≡ Ok ids
  count : batches_in (message_from one from to w) ≡ length (map (sent_at one (state_of one h)) ids)
  is_from : (message_from one from to w).sender ≡ from
  is_to : (message_from one from to w).receiver ≡ to
  found_to : history_of to w.nodes ≡ Some receiver
  takes : TakesAs (message_from one from to w) (map (sent_at one (state_of one h)) ids) receiver
  still : history_of from (delivered one (message_from one from to w) (sent one from to w)).nodes ≡ Some h

offers : (s : State) (to : List ℕ) → is_peer to s ≡ true → (ids : List ℕ) × (offer_answer one s to [] ≡ Ok ids)
offers s to known = (flat_map (λ (channel : ℕ). map (λ (b : OutBatch). b.id) (offered_in one s to channel)) (channels_of one []), rw known refl)

pair_facts : (sender receiver : Peer) (mine acts : List Act) (messages : List Message) (replies : List Reply) → bytes_eq sender.id receiver.id ≡ false → GoesByCalls sender receiver mine acts
    → PushFacts sender.id receiver.id (pair_world sender receiver mine acts messages replies)
pair_facts sender receiver mine acts messages replies apart goes =
    let offer : (ids : List ℕ) × (offer_answer one (state_of one (record { opening = paired sender receiver; acts = mine })) receiver.id [] ≡ Ok ids) =
    offers (state_of one (record { opening = paired sender receiver; acts = mine })) receiver.id goes.known in
    let these : map (sent_at one (state_of one (record { opening = paired sender receiver; acts = mine }))) offer.0 ≡ goes.sents = goes.are offer.0 offer.1 in
    let m : message_from one sender.id receiver.id (pair_world sender receiver mine acts messages replies) ≡ next_message sender receiver mine = message_is sender receiver mine acts messages replies in
    let takes : TakesAs (next_message sender receiver mine) goes.sents (record { opening = paired receiver sender; acts = acts }) = record { whole = goes.whole; takes = goes.takes; says = goes.says } in
    record {
      h = record { opening = paired sender receiver; acts = mine };
      receiver = record { opening = paired receiver sender; acts = acts };
      ids = offer.0;
      found = sender_found sender receiver mine acts messages replies;
      offered = offer.1;
      count = ap batches_in m ∙ (goes.count ∙ ap (λ (l : List Sent). length l) (sym these));
      is_from = ap (λ (x : Message). x.sender) m;
      is_to = ap (λ (x : Message). x.receiver) m;
      found_to = receiver_found sender receiver mine acts messages replies apart;
      takes = subst (λ (x : Message). TakesAs x (map (sent_at one (state_of one (record { opening = paired sender receiver; acts = mine }))) offer.0) (record { opening = paired receiver sender; acts = acts })) (sym m)
          (subst (λ (l : List Sent). TakesAs (next_message sender receiver mine) l (record { opening = paired receiver sender; acts = acts })) (sym these) takes);
      still = ap (λ (x : Message). history_of sender.id (delivered one x (pair_world sender receiver mine acts (x ∷ messages) replies)).nodes) m
          ∙ (ap (λ (w : World). history_of sender.id w.nodes) (world_delivered sender receiver mine acts (next_message sender receiver mine ∷ messages) replies apart)
          ∙ sender_found sender receiver mine _ (next_message sender receiver mine ∷ messages) (reply_of sender receiver (next_message sender receiver mine) acts ∷ replies));
    }

facts_of : (from to : List ℕ) (w : World) → MayPush from to w → PushFacts from to w
facts_of from to w may =
    subst (λ (x : World). PushFacts from to x) (sym may.facts.is)
    (subst (λ (name : List ℕ). PushFacts name to (pair_world may.sender may.receiver may.facts.mine may.facts.acts may.facts.messages may.facts.replies)) may.is_sender
    (subst (λ (name : List ℕ). PushFacts may.sender.id name (pair_world may.sender may.receiver may.facts.mine may.facts.acts may.facts.messages may.facts.replies)) may.is_receiver
    (pair_facts may.sender may.receiver may.facts.mine may.facts.acts may.facts.messages may.facts.replies may.apart may.facts.goes)))

-- THE STEPS of a push, by what each call says of it
abbrev pub SendSays : List ℕ → List ℕ → Stage → Stage → List ℕ → List ℕ → List Sent → Type 0
SendSays from to before after old new sents = (w : World) (h : History) (ids : List ℕ) → Stands before w → length w.messages < 2 ^ 62 → history_of from w.nodes ≡ Some h
    → offer_answer one (state_of one h) to [] ≡ Ok ids
    → (sents ≡ map (sent_at one (state_of one h)) ids) × Stands after (sent one from to w) × (new ≡ old ++ send_line (length w.messages + 1) from to (length sents))

abbrev pub ReceiveSays : List ℕ → List ℕ → Stage → Stage → List ℕ → List ℕ → List Sent → List Ack → Type 0
ReceiveSays from to before after old new sents acks = (w : World) (message : Message) (h : History) → Stands before w → length w.replies < 2 ^ 62 → message.sender ≡ from → message.receiver ≡ to
    → history_of to w.nodes ≡ Some h → TakesAs message sents h
    → (acks ≡ (reply_to one message w).acks) × Stands after (delivered one message w) × (new ≡ old ++ deliver_line (length w.messages) (length w.replies + 1) acks)

abbrev pub AnswerSays : List ℕ → List ℕ → Stage → Stage → List ℕ → List ℕ → List Ack → Type 0
AnswerSays from to before after old new acks = (w : World) (reply : Reply) (h : History) → Stands before w → reply.sender ≡ from → reply.receiver ≡ to → reply.acks ≡ acks
    → history_of from w.nodes ≡ Some h
    → Stands after (answered one reply w) × (new ≡ old ++ answer_line (length w.replies) (acks_answer (state_of one h) to acks))

none_left : (n : ℕ) → n ≡ 0 → (n == 0) ≡ true
none_left n is = grind (arith, nat_tests)

some_left : (n : ℕ) → (n ≡ 0 → ⊥) → (n == 0) ≡ false
some_left n is = grind (arith, nat_tests)

sent_text : (from to : List ℕ) (w : World) (n : ℕ) → (message_from one from to w).sender ≡ from → (message_from one from to w).receiver ≡ to → batches_in (message_from one from to w) ≡ n
    → send_line (length w.messages + 1) from to n ≡ send_line (length w.messages + 1) (message_from one from to w).sender (message_from one from to w).receiver (batches_in (message_from one from to w))
sent_text from to w n is_from is_to count =
    ap (λ (a : List ℕ). send_line (length w.messages + 1) a to n) (sym is_from)
    ∙ (ap (λ (b : List ℕ). send_line (length w.messages + 1) (message_from one from to w).sender b n) (sym is_to)
    ∙ ap (λ (k : ℕ). send_line (length w.messages + 1) (message_from one from to w).sender (message_from one from to w).receiver k) (sym count))

pub is_none : (b : Bool) (n : ℕ) → b ≡ (n == 0) → b ≡ true → n ≡ 0
is_none b n test is = grind (arith, nat_tests)

pub is_some : (b : Bool) (n : ℕ) → b ≡ (n == 0) → b ≡ false → n ≡ 0 → ⊥
is_some b n test is none = grind (arith, nat_tests)

-- an empty message is sent and nothing else happens
pub pushed_none : (from to : List ℕ) (before after : Stage) (old new : List ℕ) (sents : List Sent) → SendSays from to before after old new sents → length sents ≡ 0
    → (w : World) → Stands before w → MayPush from to w → Stands after (happens one w (event.Push from to)) × (new ≡ old ++ printed_by one w (event.Push from to))
pushed_none from to before after old new sents send empty w stands may =
    let f : PushFacts from to w = facts_of from to w may in
    let one_sent : (sents ≡ map (sent_at one (state_of one f.h)) f.ids) × Stands after (sent one from to w) × (new ≡ old ++ send_line (length w.messages + 1) from to (length sents)) =
    send w f.h f.ids stands may.few_messages f.found f.offered in
    let count : batches_in (message_from one from to w) ≡ length sents = f.count ∙ ap (λ (l : List Sent). length l) (sym one_sent.0) in
    let none : (batches_in (message_from one from to w) == 0) ≡ true = none_left (batches_in (message_from one from to w)) (count ∙ empty) in (
      rw none one_sent.1,
      one_sent.2 ∙ ap (λ (l : List ℕ). old ++ l) (sent_text from to w (length sents) f.is_from f.is_to count ∙ rw none (sym (append-nil _))),
    )

-- one that holds batches is delivered, and its reply answered
pub pushed_all : (from to : List ℕ) (s0 s1 s2 s3 : Stage) (o0 o1 o2 o3 : List ℕ) (sents : List Sent) (acks : List Ack) → SendSays from to s0 s1 o0 o1 sents → (length sents ≡ 0 → ⊥)
    → ReceiveSays from to s1 s2 o1 o2 sents acks → AnswerSays from to s2 s3 o2 o3 acks
    → (w : World) → Stands s0 w → MayPush from to w → Stands s3 (happens one w (event.Push from to)) × (o3 ≡ o0 ++ printed_by one w (event.Push from to))
pushed_all from to s0 s1 s2 s3 o0 o1 o2 o3 sents acks send some receive answer w stands may =
    let f : PushFacts from to w = facts_of from to w may in
    let one_sent : (sents ≡ map (sent_at one (state_of one f.h)) f.ids) × Stands s1 (sent one from to w) × (o1 ≡ o0 ++ send_line (length w.messages + 1) from to (length sents)) =
    send w f.h f.ids stands may.few_messages f.found f.offered in
    let count : batches_in (message_from one from to w) ≡ length sents = f.count ∙ ap (λ (l : List Sent). length l) (sym one_sent.0) in
    let not_none : (batches_in (message_from one from to w) == 0) ≡ false = some_left (batches_in (message_from one from to w)) (λ is. some (sym count ∙ is)) in
    let got : (acks ≡ (reply_to one (message_from one from to w) (sent one from to w)).acks) × Stands s2 (delivered one (message_from one from to w) (sent one from to w))
    × (o2 ≡ o1 ++ deliver_line (length (sent one from to w).messages) (length w.replies + 1) acks) =
    receive (sent one from to w) (message_from one from to w) f.receiver one_sent.1 may.few_replies f.is_from f.is_to f.found_to
    (subst (λ (l : List Sent). TakesAs (message_from one from to w) l f.receiver) (sym one_sent.0) f.takes) in
    let last : Stands s3 (answered one (reply_to one (message_from one from to w) (sent one from to w)) (delivered one (message_from one from to w) (sent one from to w)))
    × (o3 ≡ o2 ++ answer_line (length (delivered one (message_from one from to w) (sent one from to w)).replies) (acks_answer (state_of one f.h) to acks)) =
    answer (delivered one (message_from one from to w) (sent one from to w)) (reply_to one (message_from one from to w) (sent one from to w)) f.h got.1 f.is_from f.is_to (sym got.0) f.still in
    let one_more : suc (length w.messages) ≡ length w.messages + 1 = sym (add-one (length w.messages)) in
    let one_reply : suc (length w.replies) ≡ length w.replies + 1 = sym (add-one (length w.replies)) in
    let told : deliver_line (length (sent one from to w).messages) (length w.replies + 1) acks ≡ deliver_line (length w.messages + 1) (length w.replies + 1) (reply_to one (message_from one from to w) w).acks =
    ap (λ (n : ℕ). deliver_line n (length w.replies + 1) acks) one_more ∙ ap (λ (l : List Ack). deliver_line (length w.messages + 1) (length w.replies + 1) l) got.0 in
    let heard : answer_line (length (delivered one (message_from one from to w) (sent one from to w)).replies) (acks_answer (state_of one f.h) to acks)
    ≡ option_map_or (λ (h : History). answer_line (length w.replies + 1) (acks_answer (state_of one h) (message_from one from to w).receiver (reply_to one (message_from one from to w) w).acks))
    (history_of (message_from one from to w).sender (delivered one (message_from one from to w) w).nodes) [] =
    ap (λ (n : ℕ). answer_line n (acks_answer (state_of one f.h) to acks)) one_reply
    ∙ (ap (λ (l : List Ack). answer_line (length w.replies + 1) (acks_answer (state_of one f.h) to l)) got.0
    ∙ (ap (λ (name : List ℕ). answer_line (length w.replies + 1) (acks_answer (state_of one f.h) name (reply_to one (message_from one from to w) w).acks)) (sym f.is_to)
    ∙ (sym (ap (λ (o : Option History). option_map_or (λ (h : History). answer_line (length w.replies + 1) (acks_answer (state_of one h) (message_from one from to w).receiver (reply_to one (message_from one from to w) w).acks)) o []) f.still)
    ∙ ap (λ (name : List ℕ). option_map_or (λ (h : History). answer_line (length w.replies + 1) (acks_answer (state_of one h) (message_from one from to w).receiver (reply_to one (message_from one from to w) w).acks))
    (history_of name (delivered one (message_from one from to w) w).nodes) []) (sym f.is_from)))) in (
      rw not_none last.0,
      last.1 ∙ (ap (λ (l : List ℕ). l ++ answer_line (length (delivered one (message_from one from to w) (sent one from to w)).replies) (acks_answer (state_of one f.h) to acks)) (got.2
          ∙ ap (λ (l : List ℕ). l ++ deliver_line (length (sent one from to w).messages) (length w.replies + 1) acks) one_sent.2)
          ∙ (three o0 _ _ _
          ∙ ap (λ (l : List ℕ). o0 ++ l) (both (sent_text from to w (length sents) f.is_from f.is_to count) (both told heard)
          ∙ rw not_none refl))),
    ) where
      three : (a b c d : List ℕ) → ((a ++ b) ++ c) ++ d ≡ a ++ (b ++ (c ++ d))
      three a b c d = append_assoc (a ++ b) c d ∙ append_assoc a b (c ++ d)

      both : {a b c d : List ℕ} → a ≡ b → c ≡ d → a ++ c ≡ b ++ d
      both {a = a} {d = d} first second = ap (λ (l : List ℕ). a ++ l) second ∙ ap (λ (l : List ℕ). l ++ d) first
