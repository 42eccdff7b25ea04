-- The text of a message is loaded as the batches of its sender.
use Rattle.std.proofs.Common.{◌≡◌, ℕ, ◌<◌, Bool, true, List, [], ◌∷◌, length, map, Option, None, Some, Result, refl, sym, ap, subst, ◌∙◌, All}
use Rattle.std.specs.Prelude.{Ok, Err}
use Rattle.std.specs.List.{enumerate_from, list_all}
use Rattle.std.proofs.lemmas.List.{length-map}
use Rattle.sds_types.specs.declared.ack.Ack.{Ack}
use Rattle.sds_types.specs.declared.batch.OutBatch.{OutBatch}
use Rattle.sds_types.specs.declared.config.Config.{Config}
use Rattle.sds_types.specs.declared.document.BatchDoc.{BatchDoc}
use Rattle.sds_types.specs.declared.message.MessagePart.{MessagePart}
use Rattle.sds_types.specs.declared.sync.SyncRefusal.{SyncRefusal}
use Rattle.sds_batchtext.specs.Documents.{document_of}
use Rattle.sds_delivery.specs.Placing.{at_places}
use Rattle.sds_doclaws.specs.Writable.{IsOfCharacters}
use Rattle.sds_history.specs.history.Acts.{State}
use Rattle.sds_history.specs.history.Documents.{doc_of_batch}
use Rattle.sds_history.specs.history.Messages.{batches_in_parts}
use Rattle.sds_history.specs.world.DeliverOrder.{deliver_order}
use Rattle.sds_history.specs.world.Delivery.{acks_in_order, delivered_batches}
use Rattle.sds_history.specs.world.Worlds as world
use Rattle.sds_received.proofs.Back.{messages_are_read_back, messages_have_channels}
use Rattle.sds_stage.specs.Delivering.{IsTextOf, LoadsAll, answer_of}
use Rattle.sds_stage.specs.Loading.{delivery_with}
use Rattle.sds_stage.proofs.Delivered.{docs_are, loads_all}

abbrev Channels : List OutBatch → List ℕ
Channels batches = map (λ (batch : OutBatch). batch.channel) batches

-- what is read of a text, and what comes of it
abbrev pub AreChannels : Config → List BatchDoc → List ℕ → Type 0
AreChannels under docs channels = (sender : State) (batches : List OutBatch) → All (λ (batch : OutBatch). batch.channel < length under.channels) batches
    → docs ≡ map (doc_of_batch under sender) batches → channels ≡ map (λ (batch : OutBatch). batch.channel) batches

abbrev pub ArePlaces : List ℕ → List ℕ → List ℕ → Type 0
ArePlaces mentions channels places = (batches : List OutBatch) → map (λ (batch : OutBatch). batch.channel) batches ≡ channels
    → deliver_order mentions (enumerate_from 0 batches) ≡ at_places batches places

abbrev pub AreAllLoaded : Config → world.Node → (world.Node → Type 0) → List ℕ → List BatchDoc → List ℕ → List ℕ → List (ℕ × Ack) → List ℕ → Option SyncRefusal → Type 0
AreAllLoaded config stood stands from docs channels places acks held refusal = (sender : State) (batches : List OutBatch) → from ≡ sender.me.id
    → docs ≡ map (doc_of_batch config sender) batches → channels ≡ map (λ (batch : OutBatch). batch.channel) batches
    → stands (delivered_batches config sender (delivery_with stood [] [] None) (at_places batches places)).node
    × (delivery_with (delivered_batches config sender (delivery_with stood [] [] None) (at_places batches places)).node acks held refusal
    ≡ delivered_batches config sender (delivery_with stood [] [] None) (at_places batches places))

-- from what was loaded before, and as it was handed in
abbrev pub GoesAll : Config → world.Node → (world.Node → Type 0) → List ℕ → List BatchDoc → List ℕ → List ℕ → List (ℕ × Ack) → List ℕ → List (ℕ × Ack) → List ℕ
    → Option SyncRefusal → Type 0
GoesAll config stood stands from docs channels places first before acks held refusal = (sender : State) (batches : List OutBatch) → from ≡ sender.me.id
    → docs ≡ map (doc_of_batch config sender) batches → channels ≡ map (λ (batch : OutBatch). batch.channel) batches
    → stands (delivered_batches config sender (delivery_with stood first before None) (at_places batches places)).node
    × (delivery_with (delivered_batches config sender (delivery_with stood first before None) (at_places batches places)).node acks held refusal
    ≡ delivered_batches config sender (delivery_with stood first before None) (at_places batches places))

pub all_from : (config : Config) (stood : world.Node) (stands : world.Node → Type 0) (from : List ℕ) (docs : List BatchDoc) (channels places : List ℕ)
    (first : List (ℕ × Ack)) (before : List ℕ) (acks : List (ℕ × Ack)) (held : List ℕ) (found refusal : Option SyncRefusal) → first ≡ [] → before ≡ [] → found ≡ refusal
    → GoesAll config stood stands from docs channels places first before acks held found
    → AreAllLoaded config stood stands from docs channels places acks held refusal
all_from config stood stands from docs channels places first before acks held found refusal none nobody is goes =
    subst (λ (r : Option SyncRefusal). GoesAll config stood stands from docs channels places [] [] acks held r) is
    (subst (λ (l : List ℕ). GoesAll config stood stands from docs channels places [] l acks held found) nobody
    (subst (λ (l : List (ℕ × Ack)). GoesAll config stood stands from docs channels places l before acks held found) none goes))

abbrev pub AreInOrder : ℕ → List (ℕ × Ack) → List Ack → Type 0
AreInOrder count acks made = (batches : List OutBatch) → length batches ≡ count → acks_in_order (enumerate_from 0 batches) acks ≡ made

-- the sender's documents and their channels
record Read (config : Config) (sender : State) (to : List ℕ) (parts : List MessagePart) (docs : List BatchDoc) (channels : List ℕ) : Type 0 where
  docs_is : docs ≡ map (doc_of_batch config sender) (batches_in_parts sender to parts)
  channels_is : channels ≡ Channels (batches_in_parts sender to parts)

reads : (config under : Config) (sender : State) (to : List ℕ) (parts : List MessagePart) (from text : List ℕ) (docs : List BatchDoc) (channels : List ℕ) → under ≡ config
    → All IsOfCharacters under.transforms → IsTextOf config sender to parts from text → docs ≡ (document_of text).batches → AreChannels under docs channels
    → Read config sender to parts docs channels
reads config under sender to parts from text docs channels same characters is read are =
    let documents : docs ≡ map (doc_of_batch config sender) (batches_in_parts sender to parts) =
    docs_are config sender to parts from text docs messages_are_read_back (subst (λ (c : Config). All IsOfCharacters c.transforms) same characters) is read in
    record {
      docs_is = documents;
      channels_is = (subst (λ (c : Config). AreChannels c docs channels) same are) sender (batches_in_parts sender to parts)
          (messages_have_channels config sender to parts is.sound) documents;
    }

pub loads_refused : (config under : Config) (sender : State) (to : List ℕ) (parts : List MessagePart) (from text mentions : List ℕ) (docs : List BatchDoc) (channels places : List ℕ)
    (acks : List (ℕ × Ack)) (held : List ℕ) (refusal : SyncRefusal) (stood : world.Node) (stands : world.Node → Type 0) → under ≡ config
    → All IsOfCharacters under.transforms → IsTextOf config sender to parts from text → docs ≡ (document_of text).batches → AreChannels under docs channels
    → ArePlaces mentions channels places → AreAllLoaded config stood stands from docs channels places acks held (Some refusal)
    → LoadsAll config sender to parts mentions stood stands (Err refusal)
loads_refused config under sender to parts from text mentions docs channels places acks held refusal stood stands same characters is read are order loaded =
    let it = reads config under sender to parts from text docs channels same characters is read are in
    loads_all config sender to parts mentions places stood stands acks held (Some refusal) (Err refusal)
    (order (batches_in_parts sender to parts) (sym it.channels_is)) (loaded sender (batches_in_parts sender to parts) is.from_is it.docs_is it.channels_is) refl

pub loads_whole : (config under : Config) (sender : State) (to : List ℕ) (parts : List MessagePart) (from text mentions : List ℕ) (docs : List BatchDoc) (channels places : List ℕ)
    (acks : List (ℕ × Ack)) (held : List ℕ) (count : ℕ) (made : List Ack) (stood : world.Node) (stands : world.Node → Type 0) → under ≡ config
    → All IsOfCharacters under.transforms → IsTextOf config sender to parts from text → docs ≡ (document_of text).batches → AreChannels under docs channels
    → ArePlaces mentions channels places → AreAllLoaded config stood stands from docs channels places acks held None
    → count ≡ length channels → AreInOrder count acks made → LoadsAll config sender to parts mentions stood stands (Ok made)
loads_whole config under sender to parts from text mentions docs channels places acks held count made stood stands same characters is read are order loaded counted in_order =
    let it = reads config under sender to parts from text docs channels same characters is read are in
    loads_all config sender to parts mentions places stood stands acks held None (Ok made)
    (order (batches_in_parts sender to parts) (sym it.channels_is)) (loaded sender (batches_in_parts sender to parts) is.from_is it.docs_is it.channels_is)
    (ap (λ (l : List Ack). Ok l) (sym (in_order (batches_in_parts sender to parts)
    (sym (length-map (batches_in_parts sender to parts) (λ (batch : OutBatch). batch.channel)) ∙ (ap length (sym it.channels_is) ∙ sym counted)))))
