-- What is acknowledged where nothing fails.
use Rattle.std.proofs.Common.{◌≡◌, ℕ, zero, suc, ◌+◌, ◌-◌, ◌≤◌, Bool, true, false, cond, List, [], ◌∷◌, ◌++◌, length, map, Option, None, Some, Result, Ok, Err, refl, sym, ap, subst, ◌∙◌, arith, true≢false, filter, filter_map, ◌||◌, ◌==◌, ◌&&◌, All, append-nil, not, zip}
use Rattle.std.specs.List.{cons_option, enumerate_from, list_any}
use Rattle.std.specs.Option.{option_map_or}
use Rattle.std.specs.Prelude.{is_some, nat_le, nat_lt, slice_get}
use Rattle.std.specs.Str.{bytes_eq}
use Rattle.std.proofs.lemmas.Bool.Decides.{nat_tests}
use Rattle.std.proofs.lemmas.List.Elements.{All-nil, All-cons, All-append}
use Rattle.sds_value.specs.declared.row.Peer.{Peer}
use Rattle.sds_types.specs.declared.ack.Ack.{Ack}
use Rattle.sds_types.specs.declared.ack.AckRefusal.{AckRefusal}
use Rattle.sds_types.specs.declared.ack.AckRefusal.TheVariants.{Fault, UnknownBatch, UnknownNode}
use Rattle.sds_types.specs.declared.batch.OutBatch.{OutBatch}
use Rattle.sds_types.specs.declared.batch.Standing.{Standing}
use Rattle.sds_types.specs.declared.batch.Standing.TheVariants as standing
use Rattle.sds_types.specs.declared.config.Config.{Config}
use Rattle.sds_types.specs.declared.message.Message.{Message}
use Rattle.sds_types.specs.declared.message.Reply.{Reply}
use Rattle.sds_types.specs.declared.node_fault.NodeFault.{NodeFault}
use Rattle.sds_types.specs.declared.node_fault.NodeFault.TheVariants.{Counters, Keeper}
use Rattle.sds_types.specs.declared.world_event.WorldEvent.{WorldEvent}
use Rattle.sds_types.specs.declared.world_event.WorldEvent.TheVariants as event
use Rattle.sds_history.specs.history.Acks.{acks_by, changed_by, known_answer, own_acks_answer, same_standing, unknown_ack}
use Rattle.sds_history.specs.history.Acts.{Act, State}
use Rattle.sds_history.specs.history.Acts.Act.{Acked}
use Rattle.sds_history.specs.history.Counters.{act_if, would_pass}
use Rattle.sds_history.specs.history.Peers.{kept_peer}
use Rattle.sds_history.specs.history.Standings.{acks_in, is_acked, is_error_of, is_ok_for, last_error, same_lane, with_standing}
use Rattle.sds_history.specs.history.States.{state_after}
use Rattle.sds_history.specs.world.Answering.{answered_at, answered_reply, confirmed, take_at}
use Rattle.sds_history.specs.world.Calling.{Called, after_act, after_call, fails}
use Rattle.sds_history.specs.world.Delivering.{confirm_at}
use Rattle.sds_history.specs.world.Events.{happened}
use Rattle.sds_history.specs.world.Happened.{Happened, Told, tells}
use Rattle.sds_history.specs.world.Happened.Told.{Answering}
use Rattle.sds_history.specs.world.InStep.{is_batch_to}
use Rattle.sds_history.specs.world.Sending.{may_send}
use Rattle.sds_history.specs.world.Worlds.{Node, World, has_id, me_of, node_at, reply_of, state_in, with_node}
use Rattle.sds_nodelaws.specs.Calls.{act_of}
use Rattle.sds_nodelaws.specs.Calls.Call.{Confirm, TakeAcks}
use Rattle.sds_nodelaws.proofs.Held.{equal_itself, mapped}
use Rattle.sds_nodelaws.proofs.Items.{equal, itself}
use Rattle.sds_nodelaws.proofs.Lists.{In, all_in, and_both, and_left, and_right, any_true, find_all, in_all, in_first, is_le, map_all, same_some}
use Rattle.sds_nodelaws.proofs.Lists.Either.{left, right}
use Rattle.sds_nodelaws.proofs.Tests.{or_right, same_number}
use Rattle.sds_worldlaws.specs.Nodes.{world_after}
use Rattle.sds_worldlaws.specs.Progress.{IsCounted, TakenRepliesCount}
use Rattle.sds_worldlaws.proofs.CallSteps.{me_stays}
use Rattle.sds_worldlaws.proofs.Everywhere.{all_reached}
use Rattle.sds_worldlaws.proofs.Reached.{AllReached, Reached, after}
use Rattle.sds_worldlaws.proofs.WorldFacts.{at_same, id_of_found}
use Rattle.sds_worldlaws.proofs.WorldSteps.{acted, state_follows}

-- AFTER THE ACT each batch that an ack names is acknowledged
abbrev told : State → List ℕ → List Ack → OutBatch → OutBatch
told state from acks = with_standing (state.batches ++ []) (Acked from acks ∷ [])

same_itself : (batch : OutBatch) → same_lane batch batch ≡ true
same_itself batch = and_both (batch.channel == batch.channel) (bytes_eq batch.peer batch.peer) (equal_itself batch.channel) (itself batch.peer)

ok_itself : (all : List OutBatch) (batch : OutBatch) (ack : Ack) → In batch all → ack.error ≡ None → batch.id ≡ ack.batch → is_ok_for all batch ack ≡ true
ok_itself all batch ack among none same =
    and_both (not (is_some ack.error)) (nat_le batch.id ack.batch && list_any (λ (o : OutBatch). o.id == ack.batch && same_lane batch o) all)
    (ap (λ e. not (is_some e)) none)
    (and_both (nat_le batch.id ack.batch) (list_any (λ (o : OutBatch). o.id == ack.batch && same_lane batch o) all) (is_le batch.id ack.batch (most same))
    (any_true (λ (o : OutBatch). o.id == ack.batch && same_lane batch o) batch all among
    (and_both (batch.id == ack.batch) (same_lane batch batch) (ap (λ n. n == ack.batch) same ∙ equal_itself ack.batch) (same_itself batch))))
  where
    most : {a b : ℕ} → a ≡ b → a ≤ b
    most {a} is = omega (arith, is)

told_acked : (state : State) (from : List ℕ) (acks : List Ack) (ack : Ack) (batch : OutBatch) → In ack acks → ack.error ≡ None → In batch (state.batches ++ [])
    → is_batch_to from ack.batch batch ≡ true → is_acked (told state from acks batch).standing ≡ true
told_acked state from acks ack batch among none is to =
    let all : List OutBatch = state.batches ++ [] in
    let number : batch.id ≡ ack.batch = same_number batch.id ack.batch (and_left (batch.id == ack.batch) (bytes_eq batch.peer from) to) in
    let peer : batch.peer ≡ from = equal batch.peer from (and_right (batch.id == ack.batch) (bytes_eq batch.peer from) to) in
    acked_if (is_acked batch.standing || list_any (is_ok_for all batch) (acks_in batch.peer (Acked from acks) ++ []))
    (last_error (filter (is_error_of batch) (acks_in batch.peer (Acked from acks) ++ [])) batch.standing)
    (or_right (is_acked batch.standing) (list_any (is_ok_for all batch) (acks_in batch.peer (Acked from acks) ++ []))
    (ap (λ b. list_any (is_ok_for all batch) (cond b acks [] ++ [])) (ap (λ p. bytes_eq from p) peer ∙ itself from)
    ∙ (ap (list_any (is_ok_for all batch)) (append-nil acks) ∙ any_true (is_ok_for all batch) ack acks among (ok_itself all batch ack is none number))))
  where
    acked_if : (b : Bool) (other : Standing) → b ≡ true → is_acked (cond b standing.Acked other) ≡ true
    acked_if true other so = refl
    acked_if false other so = absurd (true≢false (sym so))

counted_after : (config : Config) (state : State) (from : List ℕ) (acks : List Ack) → All (IsCounted (state_after config state (Acked from acks)) from) acks
counted_after config state from acks =
    in_all (IsCounted (state_after config state (Acked from acks)) from) acks
    (λ ack among none. map_all (λ (b : OutBatch). is_batch_to from ack.batch b ≡ true → is_acked b.standing ≡ true) (told state from acks) (state.batches ++ [])
    (in_all (λ (b : OutBatch). is_batch_to from ack.batch b ≡ true → is_acked (told state from acks b).standing ≡ true) (state.batches ++ [])
    (λ batch is to. told_acked state from acks ack batch among none is to)))

-- WHERE NOTHING CHANGES each was so before
abbrev differs_at : OutBatch × OutBatch → Bool
differs_at at = not (same_standing at.0.standing at.1.standing)

none_differs : (f : OutBatch → OutBatch) (batches : List OutBatch) → filter differs_at (zip batches (map f batches)) ≡ []
    → All (λ (b : OutBatch). differs_at (b, f b) ≡ false) batches
none_differs f [] none = All-nil (λ (b : OutBatch). differs_at (b, f b) ≡ false)
none_differs f (batch ∷ batches) none = on (differs_at (batch, f batch)) refl none (λ rest. none_differs f batches rest)
  where
    on : (b : Bool) → differs_at (batch, f batch) ≡ b
        → cond b ((batch, f batch) ∷ filter differs_at (zip batches (map f batches))) (filter differs_at (zip batches (map f batches))) ≡ []
        → (filter differs_at (zip batches (map f batches)) ≡ [] → All (λ (o : OutBatch). differs_at (o, f o) ≡ false) batches)
        → All (λ (o : OutBatch). differs_at (o, f o) ≡ false) (batch ∷ batches)
    on true is some later = absurd (true≢false (ap (λ l. elim l [ [] ↦ false | x ∷ xs ↦ true ]) some))
    on false is rest later = All-cons (λ (o : OutBatch). differs_at (o, f o) ≡ false) batch batches is (later rest)

same_acked : (a b : Standing) → not (same_standing a b) ≡ false → is_acked b ≡ true → is_acked a ≡ true
same_acked standing.Acked b same acked = refl
same_acked standing.New standing.New same acked = acked
same_acked standing.New standing.Acked same acked = absurd (true≢false same)
same_acked standing.New (standing.Erred row rule) same acked = absurd (true≢false same)
same_acked (standing.Erred row rule) standing.New same acked = absurd (true≢false same)
same_acked (standing.Erred row rule) standing.Acked same acked = absurd (true≢false same)
same_acked (standing.Erred row rule) (standing.Erred r because) same acked = acked

no_length : {X : Type 0} (xs : List X) → nat_lt 0 (length xs) ≡ false → xs ≡ []
no_length [] none = refl
no_length (x ∷ xs) none = absurd (true≢false (sym (more (length xs)) ∙ none))
  where
    more : (n : ℕ) → nat_lt 0 (suc n) ≡ true
    more n = grind (arith, nat_tests)

counted_before : (config : Config) (state : State) (from : List ℕ) (acks : List Ack) → nat_lt 0 (changed_by config state (Acked from acks)) ≡ false
    → All (IsCounted state from) acks
counted_before config state from acks none =
    let same : All (λ (b : OutBatch). differs_at (b, told state from acks b) ≡ false) state.batches =
    none_differs (told state from acks) state.batches
    (ap (λ bs. filter differs_at (zip state.batches (map (told state from acks) bs))) (sym (append-nil state.batches))
    ∙ no_length (filter differs_at (zip state.batches (map (told state from acks) (state.batches ++ [])))) none) in
    in_all (IsCounted state from) acks
    (λ ack among error. in_all (λ (b : OutBatch). is_batch_to from ack.batch b ≡ true → is_acked b.standing ≡ true) state.batches
    (λ batch is to. same_acked batch.standing (told state from acks batch).standing (all_in (λ (b : OutBatch). differs_at (b, told state from acks b) ≡ false) batch state.batches same is)
    (told_acked state from acks ack batch among error (in_first batch state.batches [] is) to)))

-- THE CALL that takes acks and answers how many batches changed
no_err : {G : Type 0} {A E : Type 0} (e : E) (a : A) → Err e ≡ Ok a → G
no_err e a is = absurd (true≢false (ap (λ r. elim r [ Ok x ↦ false | Err y ↦ true ]) is))

abbrev value_or : ℕ → Result ℕ AckRefusal → ℕ
value_or other (Ok n) = n
value_or other (Err e) = other

known_is : (config : Config) (state : State) (from : List ℕ) (acks : List Ack) (n : ℕ) → own_acks_answer config state from acks ≡ Ok n
    → n ≡ changed_by config state (Acked from acks)
known_is config state from acks n is = on (is_some (kept_peer state.peers from)) (unknown_ack state from acks) is
  where
    on : (b : Bool) (found : Option Ack) → cond b (known_answer config state from acks found) (Err UnknownNode) ≡ Ok n → n ≡ changed_by config state (Acked from acks)
    on true None told = sym (ap (value_or n) told)
    on true (Some ack) told = no_err (UnknownBatch ack.batch) n told
    on false found told = no_err UnknownNode n told

taken_counts : (config : Config) (node : Node) (reply : Reply) (count : ℕ) → Reached config node → (take_at config node reply).answer ≡ Ok count
    → All (IsCounted (state_in config (take_at config node reply).node) reply.from) reply.acks
taken_counts config node reply count reached is =
    on (own_acks_answer config (state_in config node) reply.from reply.acks) refl
    (would_pass config (state_in config node) (acks_by (Acked reply.from reply.acks) (own_acks_answer config (state_in config node) reply.from reply.acks))) is
  where
    act_on : (n : ℕ) (faults : List Bool)
        → cond (fails (Some (Acked reply.from reply.acks)) faults) (Err (Fault Keeper)) (Ok n) ≡ Ok count
        → All (IsCounted (state_in config (after_act node (Acked reply.from reply.acks) faults)) reply.from) reply.acks
    act_on n [] told = subst (λ (s : State). All (IsCounted s reply.from) reply.acks) (sym (state_follows config node (Acked reply.from reply.acks) node.faults reached))
        (counted_after config (state_in config node) reply.from reply.acks)
    act_on n (stands ∷ faults) told = no_err (Fault Keeper) count told

    made_on : (n : ℕ) (b : Bool) → own_acks_answer config (state_in config node) reply.from reply.acks ≡ Ok n → nat_lt 0 n ≡ b
        → cond (fails (act_if b (Acked reply.from reply.acks)) node.faults) (Err (Fault Keeper)) (Ok n) ≡ Ok count
        → All (IsCounted (state_in config (after_call node (act_if b (Acked reply.from reply.acks)))) reply.from) reply.acks
    made_on n true own some told = act_on n node.faults told
    made_on n false own none told =
        counted_before config (state_in config node) reply.from reply.acks
        (ap (nat_lt 0) (sym (known_is config (state_in config node) reply.from reply.acks n own)) ∙ none)

    on : (own : Result ℕ AckRefusal) → own_acks_answer config (state_in config node) reply.from reply.acks ≡ own → (w : Bool)
        → cond (fails (cond w None (acks_by (Acked reply.from reply.acks) own)) node.faults) (Err (Fault Keeper)) (cond w (Err (Fault Counters)) own) ≡ Ok count
        → All (IsCounted (state_in config (after_call node (cond w None (acks_by (Acked reply.from reply.acks) own)))) reply.from) reply.acks
    on (Err refusal) same true told = no_err (Fault Counters) count told
    on (Err refusal) same false told = no_err refusal count told
    on (Ok n) same true told = no_err (Fault Counters) count told
    on (Ok n) same false told = made_on n (nat_lt 0 n) same refl told

-- IN A WORLD
abbrev answer_in : Told → Result ℕ AckRefusal
answer_in (Answering number told) = told
answer_in other = Err UnknownNode

abbrev answer_told : List Told → Result ℕ AckRefusal
answer_told [] = Err UnknownNode
answer_told (told ∷ more) = answer_in told

confirmed_counts : (config : Config) (world : World) (number count : ℕ) (reply : Reply) (node sender : Node) (told : Result (Unit {0}) NodeFault)
    → node_at world reply.to ≡ Some node → Reached config node
    → answer_told (confirmed config world number reply (confirm_at config node reply.from) told).told ≡ Ok count
    → node_at (confirmed config world number reply (confirm_at config node reply.from) told).world reply.to ≡ Some sender
    → All (IsCounted (state_in config sender) reply.from) reply.acks
confirmed_counts config world number count reply node sender (Err fault) is reached said there = no_err (Fault fault) count said
confirmed_counts config world number count reply node sender (Ok done) is reached said there =
    let called : Node = (confirm_at config node reply.from).node in
    let taken : Node = (take_at config called reply).node in
    let me : (me_of taken).id ≡ reply.to =
    ap (λ (p : Peer). p.id) (me_stays called (act_of config (state_in config called) (TakeAcks reply.from reply.acks)))
    ∙ (ap (λ (p : Peer). p.id) (me_stays node (act_of config (state_in config node) (Confirm reply.from))) ∙ id_of_found world reply.to node is) in
    subst (λ (n : Node). All (IsCounted (state_in config n) reply.from) reply.acks) (same_some taken sender (sym (at_same world reply.to node taken is me) ∙ there))
    (taken_counts config called reply count (after config node (Confirm reply.from) reached) said)

may_counts : (config : Config) (world : World) (number count : ℕ) (reply : Reply) (node sender : Node) (b : Bool) → node_at world reply.to ≡ Some node → Reached config node
    → answer_told (cond b (confirmed config world number reply (confirm_at config node reply.from) (confirm_at config node reply.from).answer)
    (tells world (Answering number (Err UnknownNode)))).told ≡ Ok count
    → node_at (cond b (confirmed config world number reply (confirm_at config node reply.from) (confirm_at config node reply.from).answer)
    (tells world (Answering number (Err UnknownNode)))).world reply.to ≡ Some sender
    → All (IsCounted (state_in config sender) reply.from) reply.acks
may_counts config world number count reply node sender true is reached said there =
    confirmed_counts config world number count reply node sender (confirm_at config node reply.from).answer is reached said there
may_counts config world number count reply node sender false is reached said there = no_err UnknownNode count said

reply_counts : (config : Config) (world : World) (number count : ℕ) (reply : Reply) (sender : Node) (found : Option Node) → node_at world reply.to ≡ found
    → AllReached config world
    → answer_told (answered_at config world number reply found).told ≡ Ok count → node_at (answered_at config world number reply found).world reply.to ≡ Some sender
    → All (IsCounted (state_in config sender) reply.from) reply.acks
reply_counts config world number count reply sender None is reached said there = no_err UnknownNode count said
reply_counts config world number count reply sender (Some node) is reached said there =
    may_counts config world number count reply node sender (may_send config (state_in config node) reply.from) is
    (find_all (Reached config) (has_id reply.to) world.nodes node reached is) said there

pub taken_replies_count : TakenRepliesCount
taken_replies_count config noise events number count reply sender is said there =
    let world : World = world_after config noise events in
    reply_counts config world number count reply sender (node_at world reply.to) refl (all_reached config noise events)
    (ap (λ (found : Option Reply). answer_told (answered_reply config world number found).told) (sym is) ∙ ap answer_told said)
    (ap (λ (found : Option Reply). node_at (answered_reply config world number found).world reply.to) (sym is) ∙ there)
