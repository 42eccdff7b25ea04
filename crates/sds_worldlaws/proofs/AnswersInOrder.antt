-- A reply that has an ack for each batch of its message names them in the message's order.
use Rattle.std.proofs.Common.{◌≡◌, ℕ, zero, suc, ◌+◌, ◌≤◌, Bool, true, false, cond, List, [], ◌∷◌, ◌++◌, length, map, Option, None, Some, Result, Ok, Err, refl, sym, ap, subst, ◌∙◌, arith, true≢false, filter, filter_map, find, ◌||◌, ◌==◌, All, take, append_assoc}
use Rattle.std.specs.List.{cons_option, enumerate_from}
use Rattle.std.specs.Option.{option_map_or}
use Rattle.std.specs.Prelude.{slice_get}
use Rattle.std.proofs.lemmas.List.{length-append, length-map}
use Rattle.std.proofs.lemmas.List.Elements.{All-nil, All-cons, All-append}
use Rattle.std.proofs.lemmas.List.FromFn.{length-enumerate_from}
use Rattle.sds_types.specs.declared.ack.Ack.{Ack}
use Rattle.sds_types.specs.declared.batch.OutBatch.{OutBatch}
use Rattle.sds_types.specs.declared.config.Config.{Config}
use Rattle.sds_types.specs.declared.load_answer.LoadAnswer.{LoadAnswer}
use Rattle.sds_types.specs.declared.load_answer.LoadAnswer.TheVariants as answer
use Rattle.sds_types.specs.declared.load_answer.PeerRefusal.{PeerRefusal}
use Rattle.sds_types.specs.declared.message.Message.{Message}
use Rattle.sds_types.specs.declared.sync.SyncRefusal.{SyncRefusal}
use Rattle.sds_types.specs.declared.sync.SyncRefusal.TheVariants.{NoWay}
use Rattle.sds_types.specs.declared.world_event.WorldEvent.{WorldEvent}
use Rattle.sds_types.specs.Rules.{number_of}
use Rattle.sds_trade.proofs.Lists.{all_head, all_tail}
use Rattle.sds_history.specs.history.Acts.{State}
use Rattle.sds_history.specs.history.Messages.{batches_in_parts}
use Rattle.sds_history.specs.world.DeliverOrder.{deliver_order, in_channel, is_in_part, is_left, mentioned_batch, mentions}
use Rattle.sds_history.specs.world.Delivering.{confirm_at, delivered, delivered_at, delivered_between, delivery_of, replied}
use Rattle.sds_history.specs.world.Delivery.{Delivery, ack_at, ack_of, acks_in_order, answered, delivered_batches, is_over, load_at, with_load}
use Rattle.sds_history.specs.world.Happened.{Told, tells}
use Rattle.sds_history.specs.world.Happened.Told.{Delivering}
use Rattle.sds_history.specs.world.Sending.{may_take}
use Rattle.sds_history.specs.world.Worlds.{Node, World, message_of, node_at, state_in, with_node}
use Rattle.sds_nodelaws.proofs.Lists.{filter_all, find_all, find_passes, map_twice, no_some, same_some, slice_all}
use Rattle.sds_nodelaws.proofs.Held.{mapped}
use Rattle.sds_nodelaws.proofs.Tests.{same_number}
use Rattle.sds_worldlaws.specs.Nodes.{world_after}
use Rattle.sds_worldlaws.specs.Progress.{RepliesAnswerInOrder, carried}

abbrev Placed : Type 0
Placed = ℕ × OutBatch

-- PLACES. What stands in a message with its place stands there in its order too
mentioned_all : (P : Placed → Type 0) (channels : List ℕ) (batches : List Placed) (ats : List (ℕ × ℕ)) → All P batches
    → All P (filter_map (mentioned_batch channels batches) ats)
mentioned_all P channels batches [] are = All-nil P
mentioned_all P channels batches (at ∷ ats) are =
    on (slice_get (in_channel batches at.1) (mentions (take at.0 channels) at.1)) refl (mentioned_all P channels batches ats are)
  where
    on : (found : Option Placed) → slice_get (in_channel batches at.1) (mentions (take at.0 channels) at.1) ≡ found
        → All P (filter_map (mentioned_batch channels batches) ats) → All P (cons_option found (filter_map (mentioned_batch channels batches) ats))
    on None is rest = rest
    on (Some x) is rest = All-cons P x (filter_map (mentioned_batch channels batches) ats)
        (slice_all P (in_channel batches at.1) (mentions (take at.0 channels) at.1) x (filter_all P (is_in_part at.1) batches are) is) rest

pub order_all : (P : Placed → Type 0) (channels : List ℕ) (batches : List Placed) → All P batches → All P (deliver_order channels batches)
order_all P channels batches are =
    All-append P (filter_map (mentioned_batch channels batches) (enumerate_from 0 channels)) (filter (is_left channels batches) batches)
    (mentioned_all P channels batches (enumerate_from 0 channels) are) (filter_all P (is_left channels batches) batches are)

abbrev At : List OutBatch → Placed → Type 0
At batches at = slice_get batches at.0 ≡ Some at.1

stands_after : (before : List OutBatch) (batch : OutBatch) (batches : List OutBatch) → slice_get (before ++ batch ∷ batches) (length before) ≡ Some batch
stands_after [] batch batches = refl
stands_after (b ∷ before) batch batches = stands_after before batch batches

placed_from : (before batches all : List OutBatch) → all ≡ before ++ batches → All (At all) (enumerate_from (length before) batches)
placed_from before [] all same = All-nil (At all)
placed_from before (batch ∷ batches) all same =
    All-cons (At all) (length before, batch) (enumerate_from (length before + 1) batches)
    (ap (λ bs. slice_get bs (length before)) same ∙ there before)
    (subst (λ n. All (At all) (enumerate_from n batches)) (longer before)
    (placed_from (before ++ batch ∷ []) batches all (same ∙ sym (append_assoc before (batch ∷ []) batches))))
  where
    there : (bs : List OutBatch) → slice_get (bs ++ batch ∷ batches) (length bs) ≡ Some batch
    there bs = stands_after bs batch batches

    longer : (bs : List OutBatch) → length (bs ++ batch ∷ []) ≡ length bs + 1
    longer bs = length-append bs (batch ∷ [])

-- ACKS. Each is of the batch at its place
abbrev Names : List OutBatch → ℕ × Ack → Type 0
Names batches at = option_map_or (λ (b : OutBatch). b.id) (slice_get batches at.0) 0 ≡ at.1.batch

named_by : (batches : List OutBatch) (at : Placed) (error : Option (ℕ × ℕ)) → At batches at → Names batches (at.0, ack_of at.1 error)
named_by batches at error is = ap (λ o. option_map_or (λ (b : OutBatch). b.id) o 0) is

more_names : (batches : List OutBatch) (acks : List (ℕ × Ack)) (new : ℕ × Ack) → All (Names batches) acks → Names batches new → All (Names batches) (acks ++ new ∷ [])
more_names batches acks new are is = All-append (Names batches) acks (new ∷ []) are (All-cons (Names batches) new [] is (All-nil (Names batches)))

answered_names : (batches : List OutBatch) (delivery : Delivery) (at : Placed) (told : Result LoadAnswer PeerRefusal) → At batches at
    → All (Names batches) delivery.acks → All (Names batches) (answered delivery at told).acks
answered_names batches delivery at (Ok (answer.Loaded place)) is are = more_names batches delivery.acks (at.0, ack_of at.1 None) are (named_by batches at None is)
answered_names batches delivery at (Ok (answer.Ignored place)) is are = more_names batches delivery.acks (at.0, ack_of at.1 None) are (named_by batches at None is)
answered_names batches delivery at (Ok answer.Again) is are = more_names batches delivery.acks (at.0, ack_of at.1 None) are (named_by batches at None is)
answered_names batches delivery at (Ok (answer.Erred row rule)) is are =
    more_names batches delivery.acks (at.0, ack_of at.1 (Some (row, number_of rule))) are (named_by batches at (Some (row, number_of rule)) is)
answered_names batches delivery at (Ok (answer.Held held row rule)) is are = are
answered_names batches delivery at (Err refusal) is are = are

loop_names : (config : Config) (sender : State) (batches : List OutBatch) (delivery : Delivery) (order : List Placed) → All (At batches) order
    → All (Names batches) delivery.acks → All (Names batches) (delivered_batches config sender delivery order).acks
loop_names config sender batches delivery [] placed are = are
loop_names config sender batches delivery (at ∷ order) placed are =
    loop_names config sender batches (cond (is_over delivery at.1) delivery (with_load delivery at (load_at config delivery.node sender at.1))) order
    (all_tail (At batches) at order placed) (on (is_over delivery at.1))
  where
    on : (b : Bool) → All (Names batches) (cond b delivery (with_load delivery at (load_at config delivery.node sender at.1))).acks
    on true = are
    on false = answered_names batches (record delivery { node = (load_at config delivery.node sender at.1).node }) at (load_at config delivery.node sender at.1).answer
        (all_head (At batches) at order placed) are

-- IN ORDER. Where each has one
kept_few : {X Y : Type 0} (f : X → Option Y) (xs : List X) → length (filter_map f xs) ≤ length xs
kept_few f [] = omega arith
kept_few {X} {Y} f (x ∷ xs) = on (f x) (kept_few f xs)
  where
    on : (found : Option Y) → length (filter_map f xs) ≤ length xs → length (cons_option found (filter_map f xs)) ≤ suc (length xs)
    on None rest = omega (arith, rest)
    on (Some y) rest = omega (arith, rest)

all_found : {X Y Z : Type 0} (f : X → Option Y) (g : Y → Z) (h : X → Z) (xs : List X) → All (λ x. (y : Y) → f x ≡ Some y → g y ≡ h x) xs
    → length (filter_map f xs) ≡ length xs → map g (filter_map f xs) ≡ map h xs
all_found f g h [] are same = refl
all_found {X} {Y} {Z} f g h (x ∷ xs) are same =
    on (f x) refl same (λ fewer. all_found f g h xs (all_tail (λ z. (y : Y) → f z ≡ Some y → g y ≡ h z) x xs are) fewer)
  where
    on : (found : Option Y) → f x ≡ found → length (cons_option found (filter_map f xs)) ≡ suc (length xs)
        → (length (filter_map f xs) ≡ length xs → map g (filter_map f xs) ≡ map h xs) → map g (cons_option found (filter_map f xs)) ≡ h x ∷ map h xs
    on None is count later = absurd (too_few (kept_few f xs) count)
      where
        too_few : length (filter_map f xs) ≤ length xs → length (filter_map f xs) ≡ suc (length xs) → ⊥
        too_few few is_more = omega (arith, few, is_more)
    on (Some y) is count later =
        ap (λ z. z ∷ map g (filter_map f xs)) (all_head (λ z. (w : Y) → f z ≡ Some w → g w ≡ h z) x xs are y is) ∙ ap (λ zs. h x ∷ zs) (later (one_less count))
      where
        one_less : suc (length (filter_map f xs)) ≡ suc (length xs) → length (filter_map f xs) ≡ length xs
        one_less is_same = omega (arith, is_same)

placed_ids : (first : ℕ) (batches : List OutBatch) → map (λ (at : Placed). at.1.id) (enumerate_from first batches) ≡ map (λ (b : OutBatch). b.id) batches
placed_ids first [] = refl
placed_ids first (batch ∷ batches) = ap (λ ids. batch.id ∷ ids) (placed_ids (first + 1) batches)

names_of_acks : (batches : List OutBatch) (acks : List (ℕ × Ack)) → All (Names batches) acks
    → length (acks_in_order (enumerate_from 0 batches) acks) ≡ length batches
    → map (λ (ack : Ack). ack.batch) (acks_in_order (enumerate_from 0 batches) acks) ≡ map (λ (b : OutBatch). b.id) batches
names_of_acks batches acks names count =
    map_twice (λ (ack : Ack). ack.batch) (λ (at : ℕ × Ack). at.1) (filter_map (λ (at : Placed). ack_at acks at.0) (enumerate_from 0 batches))
    ∙ (all_found (λ (at : Placed). ack_at acks at.0) (λ (at : ℕ × Ack). at.1.batch) (λ (at : Placed). at.1.id) (enumerate_from 0 batches)
    (mapped (At batches) (λ (at : Placed). (y : ℕ × Ack) → ack_at acks at.0 ≡ Some y → y.1.batch ≡ at.1.id) (enumerate_from 0 batches)
    (λ at is y found. named at is y found) (placed_from [] batches batches refl))
    (sym (length-map (filter_map (λ (at : Placed). ack_at acks at.0) (enumerate_from 0 batches)) (λ (at : ℕ × Ack). at.1))
    ∙ (count ∙ sym (length-enumerate_from 0 batches)))
    ∙ placed_ids 0 batches)
  where
    named : (at : Placed) → At batches at → (y : ℕ × Ack) → ack_at acks at.0 ≡ Some y → y.1.batch ≡ at.1.id
    named at is y found =
        sym (find_all (Names batches) (λ (a : ℕ × Ack). a.0 == at.0) acks y names found)
        ∙ (ap (λ n. option_map_or (λ (b : OutBatch). b.id) (slice_get batches n) 0) (same_number y.0 at.0 (find_passes (λ (a : ℕ × Ack). a.0 == at.0) acks y found))
        ∙ ap (λ o. option_map_or (λ (b : OutBatch). b.id) o 0) is)

-- IN A WORLD
abbrev acks_told : List Told → Option (List Ack)
acks_told (Delivering number (Ok reply) ∷ more) = Some reply.1
acks_told told = None

replied_acks : (world : World) (message : Message) (number : ℕ) (acks : List Ack) (refusal : Option SyncRefusal) (told : List Ack)
    → acks_told (replied world message number acks refusal).told ≡ Some told → acks ≡ told
replied_acks world message number acks None told said = same_some acks told said
replied_acks world message number acks (Some refusal) told said = no_some told said

delivered_names : (config : Config) (world : World) (number : ℕ) (message : Message) (channels : List ℕ) (sender node : Node) (acks : List Ack)
    → acks_told (delivered_at config world number message channels (state_in config sender) node).told ≡ Some acks
    → length acks ≡ length (batches_in_parts (state_in config sender) message.to message.parts)
    → map (λ (ack : Ack). ack.batch) acks ≡ map (λ (b : OutBatch). b.id) (batches_in_parts (state_in config sender) message.to message.parts)
delivered_names config world number message channels sender node acks said count =
    let batches : List OutBatch = batches_in_parts (state_in config sender) message.to message.parts in
    let order : List Placed = deliver_order channels (enumerate_from 0 batches) in
    let delivery : Delivery = delivered_batches config (state_in config sender) (delivery_of (confirm_at config node message.from)) order in
    let same : acks_in_order (enumerate_from 0 batches) delivery.acks ≡ acks =
    replied_acks (with_node world delivery.node) message number (acks_in_order (enumerate_from 0 batches) delivery.acks) delivery.refusal acks said in
    subst (λ those. map (λ (ack : Ack). ack.batch) those ≡ map (λ (b : OutBatch). b.id) batches) same
    (names_of_acks batches delivery.acks
    (loop_names config (state_in config sender) batches (delivery_of (confirm_at config node message.from)) order
    (order_all (At batches) channels (enumerate_from 0 batches) (placed_from [] batches batches refl)) (All-nil (Names batches)))
    (ap length same ∙ count))

taken_names : (config : Config) (world : World) (number : ℕ) (message : Message) (channels : List ℕ) (sender node : Node) (acks : List Ack) (b : Bool)
    → acks_told (cond b (delivered_at config world number message channels (state_in config sender) node) (tells world (Delivering number (Err NoWay)))).told ≡ Some acks
    → length acks ≡ length (batches_in_parts (state_in config sender) message.to message.parts)
    → map (λ (ack : Ack). ack.batch) acks ≡ map (λ (x : OutBatch). x.id) (batches_in_parts (state_in config sender) message.to message.parts)
taken_names config world number message channels sender node acks true said count = delivered_names config world number message channels sender node acks said count
taken_names config world number message channels sender node acks false said count = no_some acks said

between_names : (config : Config) (world : World) (number : ℕ) (message : Message) (channels : List ℕ) (acks : List Ack) (sender found : Option Node)
    → acks_told (delivered_between config world number message channels sender found).told ≡ Some acks
    → length acks ≡ length (option_map_or (λ (s : Node). batches_in_parts (state_in config s) message.to message.parts) sender [])
    → map (λ (ack : Ack). ack.batch) acks
    ≡ map (λ (b : OutBatch). b.id) (option_map_or (λ (s : Node). batches_in_parts (state_in config s) message.to message.parts) sender [])
between_names config world number message channels acks None None said count = no_some acks said
between_names config world number message channels acks None (Some node) said count = no_some acks said
between_names config world number message channels acks (Some sender) None said count = no_some acks said
between_names config world number message channels acks (Some sender) (Some node) said count =
    taken_names config world number message channels sender node acks (may_take config (state_in config node) message.from) said count

pub replies_answer_in_order : RepliesAnswerInOrder
replies_answer_in_order config noise events number place channels acks message is said count =
    let world : World = world_after config noise events in
    between_names config world number message channels acks (node_at world message.from) (node_at world message.to)
    (ap (λ (found : Option Message). acks_told (delivered config world number channels found).told) (sym is) ∙ ap acks_told said) count
