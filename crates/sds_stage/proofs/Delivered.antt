-- A message that travels as text is delivered as the batches of its sender.
use Rattle.std.proofs.Common.{◌≡◌, ℕ, zero, suc, ◌<◌, Bool, true, false, ◌&&◌, cond, List, [], ◌∷◌, ◌++◌, length, map, Option, None, Some, Result, refl, sym, ap, subst, ◌∙◌, arith, All}
use Rattle.std.specs.Prelude.{◌==◌, ◌||◌, is_some, Ok, Err}
use Rattle.std.specs.List.{enumerate_from, list_all, list_any}
use Rattle.sds_types.specs.declared.ack.Ack.{Ack}
use Rattle.sds_types.specs.declared.batch.OutBatch.{OutBatch}
use Rattle.sds_types.specs.declared.batch.Standing.TheVariants.{New}
use Rattle.sds_types.specs.declared.config.Config.{Config}
use Rattle.sds_types.specs.declared.document.BatchDoc.{BatchDoc}
use Rattle.sds_types.specs.declared.message.MessagePart.{MessagePart}
use Rattle.sds_types.specs.declared.node_fault.NodeFault.{NodeFault}
use Rattle.sds_types.specs.declared.sync.SyncRefusal.{SyncRefusal}
use Rattle.sds_types.specs.declared.sync.SyncRefusal.TheVariants.{Fault, NoWay}
use Rattle.sds_batchtext.specs.Documents.{document_of}
use Rattle.sds_doclaws.specs.Writable.{IsOfCharacters}
use Rattle.sds_history.specs.history.Acts.{State}
use Rattle.sds_history.specs.history.Documents.{doc_of_batch}
use Rattle.sds_history.specs.history.Messages.{batches_in_parts}
use Rattle.sds_history.specs.world.Calling.{Called}
use Rattle.sds_history.specs.world.DeliverOrder.{deliver_order}
use Rattle.sds_history.specs.world.Delivering.{confirm_at, delivery_of}
use Rattle.sds_history.specs.world.Delivery.{Delivery, ack_at, acks_in_order, delivered_batches, is_over}
use Rattle.sds_history.specs.world.Sending.{may_take}
use Rattle.sds_history.specs.world.Worlds as world
use Rattle.sds_delivery.specs.Placing.{at_places}
use Rattle.sds_nodelaws.specs.Asked.{is_ack}
use Rattle.sds_received.specs.Messages.{MessagesAreReadBack, MessagesHaveChannels}
use Rattle.sds_stage.specs.Delivering.{IsTextOf, LoadsAll, Takes, answer_of, loads_from, whole_delivery}
use Rattle.sds_stage.specs.Loading.{delivery_with}

-- A DELIVERY that goes on no more stays as it is
pub refused_stays : (config : Config) (sender : State) (delivery : Delivery) (refusal : SyncRefusal) (batches : List (ℕ × OutBatch)) → delivery.refusal ≡ Some refusal
    → delivered_batches config sender delivery batches ≡ delivery
refused_stays config sender delivery refusal [] is = refl
refused_stays config sender delivery refusal (at ∷ batches) is =
    let over : is_over delivery at.1 ≡ true = ap (λ (o : Option SyncRefusal). is_some o || list_any (λ (channel : ℕ). channel == at.1.channel) delivery.held) is in
    rw over (refused_stays config sender delivery refusal batches is)

-- THE CONFIRMATION of the sender failed, or the batches are loaded after it
pub refused_by : (config : Config) (sender : State) (to : List ℕ) (parts : List MessagePart) (from channels : List ℕ) (stood : world.Node) (fault : NodeFault)
    (stands : world.Node → Type 0) → may_take config (world.state_in config stood) from ≡ true → (confirm_at config stood from).answer ≡ Err fault
    → stands (confirm_at config stood from).node
    → Takes config sender to parts from channels stood stands (Err (Fault fault))
refused_by config sender to parts from channels stood fault stands may is kept =
    let order = deliver_order channels (enumerate_from 0 (batches_in_parts sender to parts)) in
    let called = confirm_at config stood from in
    let start : delivery_of called ≡ delivery_with called.node [] [] (Some (Fault fault)) =
    ap (λ (answer : Result (Unit {0}) NodeFault). delivery_of (record called { answer = answer })) is in
    let whole : whole_delivery config sender to parts from channels stood ≡ delivery_with called.node [] [] (Some (Fault fault)) =
    ap (λ (d : Delivery). delivered_batches config sender d order) start
    ∙ refused_stays config sender (delivery_with called.node [] [] (Some (Fault fault))) (Fault fault) order refl in
    rw may (
      subst (λ (d : Delivery). stands d.node) (sym whole) kept,
      ap (λ (d : Delivery). answer_of sender to parts d d.refusal) (sym whole),
    )

pub loaded_by : (config : Config) (sender : State) (to : List ℕ) (parts : List MessagePart) (from channels : List ℕ) (stood : world.Node)
    (stands : world.Node → Type 0) (answer : Result (List Ack) SyncRefusal) → may_take config (world.state_in config stood) from ≡ true
    → (confirm_at config stood from).answer ≡ Ok tt
    → LoadsAll config sender to parts channels (confirm_at config stood from).node stands answer
    → Takes config sender to parts from channels stood stands answer
loaded_by config sender to parts from channels stood stands answer may is loads =
    let order = deliver_order channels (enumerate_from 0 (batches_in_parts sender to parts)) in
    let called = confirm_at config stood from in
    let start : delivery_of called ≡ delivery_with called.node [] [] None =
    ap (λ (end : Result (Unit {0}) NodeFault). delivery_of (record called { answer = end })) is in
    let whole : whole_delivery config sender to parts from channels stood ≡ loads_from config sender to parts channels called.node =
    ap (λ (d : Delivery). delivered_batches config sender d order) start in
    rw may (
      subst (λ (d : Delivery). stands d.node) (sym whole) loads.0,
      loads.1 ∙ ap (λ (d : Delivery). answer_of sender to parts d d.refusal) (sym whole),
    )

pub lost_by : (config : Config) (sender : State) (to : List ℕ) (parts : List MessagePart) (from channels : List ℕ) (stood : world.Node)
    (stands : world.Node → Type 0) → may_take config (world.state_in config stood) from ≡ false → stands stood
    → Takes config sender to parts from channels stood stands (Err NoWay)
lost_by config sender to parts from channels stood stands may kept = rw may (kept, refl)

-- THE TEXT gives the sender's documents
pub docs_are : (config : Config) (sender : State) (to : List ℕ) (parts : List MessagePart) (from text : List ℕ) (docs : List BatchDoc) → MessagesAreReadBack
    → All IsOfCharacters config.transforms → IsTextOf config sender to parts from text → docs ≡ (document_of text).batches
    → docs ≡ map (doc_of_batch config sender) (batches_in_parts sender to parts)
docs_are config sender to parts from text docs law characters is read =
    read ∙ (ap (λ (t : List ℕ). (document_of t).batches) is.text_is ∙ law config sender to parts is.config_sound characters is.few is.sound)

-- THE ANSWER, where all went on: the acks in the order of the message; or why it went on no more
pub loads_all : (config : Config) (sender : State) (to : List ℕ) (parts : List MessagePart) (channels places : List ℕ) (stood : world.Node)
    (stands : world.Node → Type 0) (acks : List (ℕ × Ack)) (held : List ℕ) (refusal : Option SyncRefusal) (answer : Result (List Ack) SyncRefusal)
    → deliver_order channels (enumerate_from 0 (batches_in_parts sender to parts)) ≡ at_places (batches_in_parts sender to parts) places
    → stands (delivered_batches config sender (delivery_with stood [] [] None) (at_places (batches_in_parts sender to parts) places)).node
    × (delivery_with (delivered_batches config sender (delivery_with stood [] [] None) (at_places (batches_in_parts sender to parts) places)).node acks held refusal
    ≡ delivered_batches config sender (delivery_with stood [] [] None) (at_places (batches_in_parts sender to parts) places))
    → answer ≡ answer_of sender to parts (delivery_with stood acks held refusal) refusal
    → LoadsAll config sender to parts channels stood stands answer
loads_all config sender to parts channels places stood stands acks held refusal answer order goes is =
    let placed : loads_from config sender to parts channels stood
    ≡ delivered_batches config sender (delivery_with stood [] [] None) (at_places (batches_in_parts sender to parts) places) =
    ap (λ (batches : List (ℕ × OutBatch)). delivered_batches config sender (delivery_with stood [] [] None) batches) order in (
      subst (λ (d : Delivery). stands d.node) (sym placed) goes.0,
      is ∙ (same_answer refusal ∙ ap (λ (d : Delivery). answer_of sender to parts d d.refusal) (goes.1 ∙ sym placed)),
    )
  where
    same_answer : (end : Option SyncRefusal) → answer_of sender to parts (delivery_with stood acks held end) end
        ≡ answer_of sender to parts (delivery_with (delivered_batches config sender (delivery_with stood [] [] None)
        (at_places (batches_in_parts sender to parts) places)).node acks held end) end
    same_answer None = refl
    same_answer (Some other) = refl

-- ACKS of a message are among those that were made
and_first : (a b : Bool) → (a && b) ≡ true → a ≡ true
and_first true b is = refl
and_first false b is = is

and_second : (a b : Bool) → (a && b) ≡ true → b ≡ true
and_second true b is = is
and_second false b is = absurd (cc)

found_asked : (place : ℕ) (acks : List (ℕ × Ack)) (at : ℕ × Ack) → list_all is_ack (map (λ (at : ℕ × Ack). at.1) acks) ≡ true → ack_at acks place ≡ Some at
    → is_ack at.1 ≡ true
found_asked place [] at all is = absurd (cc)
found_asked place (ack ∷ acks) at all is =
    on (found_asked place acks at (and_second (is_ack ack.1) (list_all is_ack (map (λ (at : ℕ × Ack). at.1) acks)) all)) (ack.0 == place) refl
  where
    on : (ack_at acks place ≡ Some at → is_ack at.1 ≡ true) → (t : Bool) → (ack.0 == place) ≡ t → is_ack at.1 ≡ true
    on rest true same =
        let found : Some ack ≡ Some at = sym (rw same refl) ∙ is in
        subst (λ (a : ℕ × Ack). is_ack a.1 ≡ true) (let one : ack ≡ at = cc in one) (and_first (is_ack ack.1) (list_all is_ack (map (λ (at : ℕ × Ack). at.1) acks)) all)
    on rest false other =
        rest (sym (let later : ack_at (ack ∷ acks) place ≡ ack_at acks place = rw other refl in later) ∙ is)

in_order_asked : (batches : List (ℕ × OutBatch)) (acks : List (ℕ × Ack)) → list_all is_ack (map (λ (at : ℕ × Ack). at.1) acks) ≡ true
    → list_all is_ack (acks_in_order batches acks) ≡ true
in_order_asked [] acks all = refl
in_order_asked (batch ∷ batches) acks all = on (in_order_asked batches acks all) (ack_at acks batch.0) refl
  where
    on : list_all is_ack (acks_in_order batches acks) ≡ true → (found : Option (ℕ × Ack)) → ack_at acks batch.0 ≡ found → list_all is_ack (acks_in_order (batch ∷ batches) acks) ≡ true
    on rest None is = rw is rest
    on rest (Some at) is = rw is (rw (found_asked batch.0 acks at all is) rest)

-- batches of any kind, so many of them
abbrev any_batch : OutBatch
any_batch = record { id = 0; peer = []; channel = 0; standing = New; changes = [] }

abbrev any_batches : ℕ → List OutBatch
any_batches zero = []
any_batches (suc count) = any_batch ∷ any_batches count

any_count : (count : ℕ) → length (any_batches count) ≡ count
any_count zero = refl
any_count (suc count) = ap suc (any_count count)

-- whatever the batches of the message
pub all_asked : (count : ℕ) (acks : List (ℕ × Ack)) (made : List Ack)
    → ((batches : List OutBatch) → length batches ≡ count → acks_in_order (enumerate_from 0 batches) acks ≡ made)
    → list_all is_ack (map (λ (at : ℕ × Ack). at.1) acks) ≡ true → list_all is_ack made ≡ true
all_asked count acks made is all =
    subst (λ (l : List Ack). list_all is_ack l ≡ true) (is (any_batches count) (any_count count)) (in_order_asked (enumerate_from 0 (any_batches count)) acks all)
