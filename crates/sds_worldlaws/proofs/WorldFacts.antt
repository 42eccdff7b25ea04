-- What holds of a world, and stays so by each act of a node.
use Rattle.std.proofs.Common.{◌≡◌, ◌≢◌, ℕ, suc, ◌+◌, ◌<◌, ◌≤◌, Bool, true, false, cond, List, [], ◌∷◌, ◌++◌, length, map, Option, None, Some, refl, sym, ap, subst, ◌∙◌, arith, true≢false, filter, find, ◌&&◌, ◌==◌, All, append-nil}
use Rattle.std.specs.List.{list_any}
use Rattle.std.specs.Prelude.{is_some, nat_le}
use Rattle.std.specs.Str.{bytes_eq}
use Rattle.std.proofs.lemmas.List.{length-append, length-map, map-append}
use Rattle.std.proofs.lemmas.List.Elements.{filter-append}
use Rattle.std.proofs.lemmas.List.Folds.{list_any-append}
use Rattle.sds_types.specs.declared.batch.OutBatch.{OutBatch}
use Rattle.sds_types.specs.declared.config.Config.{Config}
use Rattle.sds_types.specs.declared.message.Message.{Message}
use Rattle.sds_types.specs.declared.message.MessagePart.{MessagePart}
use Rattle.sds_types.specs.declared.message.Reply.{Reply}
use Rattle.sds_types.specs.declared.prepared.Prepared.{Prepared}
use Rattle.sds_history.specs.history.Acts.{Act, State}
use Rattle.sds_history.specs.history.Acts.Act.{Joined, Loaded, Erred, Acked}
use Rattle.sds_history.specs.history.Messages.{is_in_lane}
use Rattle.sds_history.specs.history.Standings.{with_standing}
use Rattle.sds_history.specs.history.States.{state_after}
use Rattle.sds_history.specs.world.Worlds.{Node, World, has_id, me_of, node_at, one_for, state_in, with_node}
use Rattle.sds_nodelaws.specs.Counters.{batch_ids}
use Rattle.sds_nodelaws.proofs.Held.{any_map}
use Rattle.sds_nodelaws.proofs.Items.{differs, equal, itself}
use Rattle.sds_nodelaws.proofs.Tests.{at_most, or_left}
use Rattle.sds_worldlaws.proofs.LaneFacts.{AckOk, AckTells, IsNext, LaneFacts, LoadedIn, kept_of, made, read, upto}
use Rattle.sds_nodelaws.proofs.Lists.{Either, In, filter_through, find_passes, from_le, from_not_le, map_twice, same_some}
use Rattle.sds_nodelaws.proofs.Lists.Either.{left, right}
use Rattle.sds_nodelaws.proofs.NodeFacts.{IsKept, NodeFacts, added}
use Rattle.sds_worldlaws.proofs.Reached.{AllReached}

-- NODES. The node of an id after one was put in the place of that of its id
same_id : (id : List ℕ) (node : Node) → has_id id node ≡ true → (me_of node).id ≡ id
same_id id node is = equal (me_of node).id id is

pub id_of_found : (world : World) (id : List ℕ) (node : Node) → node_at world id ≡ Some node → (me_of node).id ≡ id
id_of_found world id node is = same_id id node (find_passes (has_id id) world.nodes node is)

abbrev in_its_place : Node → Option Node → Option Node
in_its_place new None = None
in_its_place new (Some old) = Some new

put_on : (new node : Node) (id : List ℕ) (b c : Bool) (found : Option Node) (rest : List Node) → has_id (me_of new).id node ≡ b → has_id id node ≡ c
    → find (has_id id) (map (one_for new) rest) ≡ cond (bytes_eq (me_of new).id id) (in_its_place new found) found
    → find (has_id id) rest ≡ found
    → find (has_id id) (map (one_for new) (node ∷ rest))
    ≡ cond (bytes_eq (me_of new).id id) (in_its_place new (cond c (Some node) found)) (cond c (Some node) found)
put_on new node id true true found rest is has before was =
    let one : (me_of new).id ≡ id = sym (equal (me_of node).id (me_of new).id is) ∙ equal (me_of node).id id has in
    ap (λ t. cond (has_id id (cond t new node)) (Some (cond t new node)) (find (has_id id) (map (one_for new) rest))) is
    ∙ (ap (λ t. cond t (Some new) (find (has_id id) (map (one_for new) rest))) (ap (λ i. bytes_eq (me_of new).id i) (sym one) ∙ itself (me_of new).id)
    ∙ sym (ap (λ t. cond t (Some new) (Some node)) (ap (λ i. bytes_eq (me_of new).id i) (sym one) ∙ itself (me_of new).id)))
put_on new node id true false found rest is has before was =
    let apart : bytes_eq (me_of new).id id ≡ false = ap (λ i. bytes_eq i id) (sym (equal (me_of node).id (me_of new).id is)) ∙ has in
    ap (λ t. cond (has_id id (cond t new node)) (Some (cond t new node)) (find (has_id id) (map (one_for new) rest))) is
    ∙ (ap (λ t. cond t (Some new) (find (has_id id) (map (one_for new) rest))) apart ∙ before)
put_on new node id false true found rest is has before was =
    let apart : bytes_eq (me_of new).id id ≡ false = ap (λ i. bytes_eq (me_of new).id i) (sym (equal (me_of node).id id has)) ∙ turned (me_of new).id (me_of node).id is in
    ap (λ t. cond (has_id id (cond t new node)) (Some (cond t new node)) (find (has_id id) (map (one_for new) rest))) is
    ∙ (ap (λ t. cond t (Some node) (find (has_id id) (map (one_for new) rest))) has
    ∙ sym (ap (λ t. cond t (Some new) (Some node)) apart))
  where
    turned : (a b : List ℕ) → bytes_eq b a ≡ false → bytes_eq a b ≡ false
    turned a b isnt = differs a b (λ same. absurd (true≢false (sym (itself b) ∙ (ap (λ i. bytes_eq b i) (sym same) ∙ isnt))))
put_on new node id false false found rest is has before was =
    ap (λ t. cond (has_id id (cond t new node)) (Some (cond t new node)) (find (has_id id) (map (one_for new) rest))) is
    ∙ (ap (λ t. cond t (Some node) (find (has_id id) (map (one_for new) rest))) has ∙ before)

put_in : (new : Node) (id : List ℕ) (nodes : List Node)
    → find (has_id id) (map (one_for new) nodes)
    ≡ cond (bytes_eq (me_of new).id id) (in_its_place new (find (has_id id) nodes)) (find (has_id id) nodes)
put_in new id [] = none_on (bytes_eq (me_of new).id id)
  where
    none_on : (b : Bool) → None ≡ cond b (in_its_place new None) None
    none_on true = refl
    none_on false = refl
put_in new id (node ∷ nodes) =
    put_on new node id (has_id (me_of new).id node) (has_id id node) (find (has_id id) nodes) nodes refl refl (put_in new id nodes) refl

pub at_same : (world : World) (id : List ℕ) (old new : Node) → node_at world id ≡ Some old → (me_of new).id ≡ id → node_at (with_node world new) id ≡ Some new
at_same world id old new is same =
    put_in new id world.nodes ∙ (ap (λ b. cond b (in_its_place new (find (has_id id) world.nodes)) (find (has_id id) world.nodes))
    (ap (λ i. bytes_eq i id) same ∙ itself id)
    ∙ ap (in_its_place new) is)

pub at_other : (world : World) (id other : List ℕ) (new : Node) → (me_of new).id ≡ id → id ≢ other → node_at (with_node world new) other ≡ node_at world other
at_other world id other new same apart =
    put_in new other world.nodes ∙ ap (λ b. cond b (in_its_place new (find (has_id other) world.nodes)) (find (has_id other) world.nodes))
    (ap (λ i. bytes_eq i other) same ∙ differs id other apart)

-- two texts are one or differ
pub one_or_apart : (a b : List ℕ) → Either (a ≡ b) (a ≢ b)
one_or_apart a b = on (bytes_eq a b) refl
  where
    on : (t : Bool) → bytes_eq a b ≡ t → Either (a ≡ b) (a ≢ b)
    on true is = left (equal a b is)
    on false is = right (λ same. true≢false (sym (ap (λ i. bytes_eq a i) (sym same) ∙ itself a) ∙ is))

pub data Which (world : World) (id other : List ℕ) (new node : Node) : Type 0 where
  this : id ≡ other → node ≡ new → Which world id other new node
  that : id ≢ other → node_at world other ≡ Some node → Which world id other new node

pub which : (world : World) (id other : List ℕ) (old new node : Node) → node_at world id ≡ Some old → (me_of new).id ≡ id
    → node_at (with_node world new) other ≡ Some node → Which world id other new node
which world id other old new node is same found = on (one_or_apart id other)
  where
    on : Either (id ≡ other) (id ≢ other) → Which world id other new node
    on (left one) = this one (sym (same_some new node (sym (at_same world id old new is same) ∙ (ap (node_at (with_node world new)) one ∙ found))))
    on (right apart) = that apart (sym (at_other world id other new same apart) ∙ found)

pub still_there : (world : World) (id other : List ℕ) (old new : Node) → node_at world id ≡ Some old → (me_of new).id ≡ id
    → is_some (node_at world other) ≡ true → is_some (node_at (with_node world new) other) ≡ true
still_there world id other old new is same some = on (one_or_apart id other)
  where
    on : Either (id ≡ other) (id ≢ other) → is_some (node_at (with_node world new) other) ≡ true
    on (left one) = ap (λ i. is_some (node_at (with_node world new) i)) (sym one) ∙ ap is_some (at_same world id old new is same)
    on (right apart) = ap is_some (at_other world id other new same apart) ∙ some

-- THE FACTS. Parts of messages lie in what was made, and begin at most after what is loaded
pub record PartOk (config : Config) (from to : State) (part : MessagePart) : Type 0 where
  pub within : part.channel < length config.channels
  pub whole : part.start + part.count ≤ length (made from to part.channel)
  pub start : part.start ≤ length (filter (upto (kept_of from to part.channel).highest) (made from to part.channel))

pub record MessageOk (config : Config) (world : World) (message : Message) : Type 0 where
  pub from : Node
  pub to : Node
  pub is_from : node_at world message.from ≡ Some from
  pub is_to : node_at world message.to ≡ Some to
  pub apart : message.from ≢ message.to
  pub parts : All (PartOk config (state_in config from) (state_in config to)) message.parts

-- a reply is from a receiver to a sender
pub record ReplyOk (config : Config) (world : World) (reply : Reply) : Type 0 where
  pub sender : Node
  pub receiver : Node
  pub is_sender : node_at world reply.to ≡ Some sender
  pub is_receiver : node_at world reply.from ≡ Some receiver
  pub apart : reply.to ≢ reply.from
  pub acks : All (AckOk config (state_in config sender) (state_in config receiver)) reply.acks

pub record WorldFacts (config : Config) (world : World) : Type 0 where
  pub reached : AllReached config world
  pub found : All (λ (node : Node). node_at world (me_of node).id ≡ Some node) world.nodes
  pub nodes : (id : List ℕ) (node : Node) → node_at world id ≡ Some node → NodeFacts config (state_in config node) node.history.acts
  pub known : (id other : List ℕ) (node : Node) → node_at world id ≡ Some node → IsKept (state_in config node).peers other
      → is_some (node_at world other) ≡ true
  pub lanes : (a b : List ℕ) (from to : Node) (channel : ℕ) → node_at world a ≡ Some from → node_at world b ≡ Some to → a ≢ b
      → channel < length config.channels → LaneFacts config (state_in config from) (state_in config to) to.history.acts channel
  pub messages : All (MessageOk config world) world.messages
  pub replies : All (ReplyOk config world) world.replies

-- WHAT IS ASKED OF AN ACT in a world
pub record LoadsNext (config : Config) (world : World) (id : List ℕ) (state : State) (peer : List ℕ) (channel : ℕ) (number : ℕ) : Type 0 where
  pub sender : Node
  pub is_sender : node_at world peer ≡ Some sender
  pub apart : peer ≢ id
  pub within : channel < length config.channels
  pub next : IsNext (kept_of (state_in config sender) state channel).highest (made (state_in config sender) state channel) number

pub record LoadsBatch (config : Config) (world : World) (id : List ℕ) (state : State) (channel : ℕ) (new : Prepared) : Type 0 where
  pub batch : OutBatch
  pub loads : LoadsNext config world id state new.from channel batch.id
  pub among : In batch (made (state_in config loads.sender) state channel)
  pub same : new ≡ read config (state_in config loads.sender) state batch

abbrev pub Fits : Config → World → List ℕ → State → Act → Type 0
Fits config world id state (Joined kept) = is_some (node_at world kept.peer.id) ≡ true
Fits config world id state (Loaded channel batch) = LoadsBatch config world id state channel batch
Fits config world id state (Erred from channel error) = LoadsNext config world id state from channel error.batch
Fits config world id state (Acked peer acks) =
    (receiver : Node) → node_at world peer ≡ Some receiver → All (AckOk config state (state_in config receiver)) acks
Fits config world id state act = Unit {0}

-- WHAT GROWS. The numbers of a lane's batches and its highest
pub record Grows (config : Config) (from to now then : State) (channel : ℕ) : Type 0 where
  pub extra : List ℕ
  pub ids : batch_ids (made now then channel) ≡ batch_ids (made from to channel) ++ extra
  pub highest : (kept_of from to channel).highest ≤ (kept_of now then channel).highest

abbrev pub AllGrows : Config → State → State → State → State → Type 0
AllGrows config from to now then = (channel : ℕ) → channel < length config.channels → Grows config from to now then channel

count_ids : (highest : ℕ) (batches : List OutBatch) → length (filter (upto highest) batches) ≡ length (filter (λ (n : ℕ). nat_le n highest) (batch_ids batches))
count_ids highest [] = refl
count_ids highest (batch ∷ batches) = on (nat_le batch.id highest) (count_ids highest batches)
  where
    on : (b : Bool) → length (filter (upto highest) batches) ≡ length (filter (λ (n : ℕ). nat_le n highest) (batch_ids batches))
        → length (cond b (batch ∷ filter (upto highest) batches) (filter (upto highest) batches))
        ≡ length (cond b (batch.id ∷ filter (λ (n : ℕ). nat_le n highest) (batch_ids batches)) (filter (λ (n : ℕ). nat_le n highest) (batch_ids batches)))
    on true same = ap suc same
    on false same = same

more_pass : (a b : ℕ) (numbers : List ℕ) → a ≤ b → length (filter (λ (n : ℕ). nat_le n a) numbers) ≤ length (filter (λ (n : ℕ). nat_le n b) numbers)
more_pass a b [] less = same 0
  where
    same : (n : ℕ) → n ≤ n
    same n = omega arith
more_pass a b (n ∷ numbers) less = on (nat_le n a) (nat_le n b) refl refl (more_pass a b numbers less)
  where
    impossible : {k l m : ℕ} → k ≤ l → m < k → l ≤ m → ⊥
    impossible {k} one two three = omega (arith, one, two, three)

    on : (s t : Bool) → nat_le n a ≡ s → nat_le n b ≡ t → length (filter (λ (k : ℕ). nat_le k a) numbers) ≤ length (filter (λ (k : ℕ). nat_le k b) numbers)
        → length (cond s (n ∷ filter (λ (k : ℕ). nat_le k a) numbers) (filter (λ (k : ℕ). nat_le k a) numbers))
        ≤ length (cond t (n ∷ filter (λ (k : ℕ). nat_le k b) numbers) (filter (λ (k : ℕ). nat_le k b) numbers))
    on true true first second rest = omega (arith, rest)
    on true false first second rest = absurd (impossible (from_le n a first) (from_not_le n b second) less)
    on false true first second rest = omega (arith, rest)
    on false false first second rest = rest

grown_count : (a b : ℕ) (numbers extra : List ℕ) → a ≤ b
    → length (filter (λ (n : ℕ). nat_le n a) numbers) ≤ length (filter (λ (n : ℕ). nat_le n b) (numbers ++ extra))
grown_count a b numbers extra less =
    subst (λ l. length (filter (λ (n : ℕ). nat_le n a) numbers) ≤ length l) (sym (filter-append (λ (n : ℕ). nat_le n b) numbers extra))
    (subst (λ l. length (filter (λ (n : ℕ). nat_le n a) numbers) ≤ l)
    (sym (length-append (filter (λ (n : ℕ). nat_le n b) numbers) (filter (λ (n : ℕ). nat_le n b) extra)))
    (more (length (filter (λ (n : ℕ). nat_le n a) numbers)) (length (filter (λ (n : ℕ). nat_le n b) numbers)) (length (filter (λ (n : ℕ). nat_le n b) extra))
    (more_pass a b numbers less)))
  where
    more : (x y z : ℕ) → x ≤ y → x ≤ y + z
    more x y z is = omega (arith, is)

pub part_grows : (config : Config) (from to now then : State) (part : MessagePart) → AllGrows config from to now then → PartOk config from to part
    → PartOk config now then part
part_grows config from to now then part grows ok =
    let is : Grows config from to now then part.channel = grows part.channel ok.within in
    record {
      within = ok.within;
      whole = longer (part.start + part.count) (length (made from to part.channel)) (length is.extra) (length (made now then part.channel)) ok.whole
          (sym (length-map (made now then part.channel) (λ (b : OutBatch). b.id)) ∙ (ap length is.ids
          ∙ (length-append (batch_ids (made from to part.channel)) is.extra
          ∙ ap (λ n. n + length is.extra) (length-map (made from to part.channel) (λ (b : OutBatch). b.id)))));
      start = at_most part.start (length (filter (upto (kept_of from to part.channel).highest) (made from to part.channel)))
          (length (filter (upto (kept_of now then part.channel).highest) (made now then part.channel))) ok.start
          (subst (λ n. n ≤ length (filter (upto (kept_of now then part.channel).highest) (made now then part.channel)))
          (sym (count_ids (kept_of from to part.channel).highest (made from to part.channel)))
          (subst (λ n. length (filter (λ (k : ℕ). nat_le k (kept_of from to part.channel).highest) (batch_ids (made from to part.channel))) ≤ n)
          (sym (count_ids (kept_of now then part.channel).highest (made now then part.channel)
          ∙ ap (λ ns. length (filter (λ (k : ℕ). nat_le k (kept_of now then part.channel).highest) ns)) is.ids))
          (grown_count (kept_of from to part.channel).highest (kept_of now then part.channel).highest (batch_ids (made from to part.channel)) is.extra is.highest)));
    }
  where
    longer : (s n m l : ℕ) → s ≤ n → l ≡ n + m → s ≤ l
    longer s n m l less same = omega (arith, less, same)

any_id : (number : ℕ) (batches : List OutBatch) → list_any (λ (b : OutBatch). b.id == number) batches ≡ list_any (λ (n : ℕ). n == number) (batch_ids batches)
any_id number batches = sym (any_map (λ (n : ℕ). n == number) (λ (b : OutBatch). b.id) batches)

loaded_grows : (config : Config) (from to now then : State) (number : ℕ) → AllGrows config from to now then → LoadedIn config from to number
    → LoadedIn config now then number
loaded_grows config from to now then number grows ok =
    let is : Grows config from to now then ok.channel = grows ok.channel ok.within in
    record {
      channel = ok.channel;
      within = ok.within;
      has = any_id number (made now then ok.channel) ∙ (ap (list_any (λ (n : ℕ). n == number)) is.ids
          ∙ (list_any-append (λ (n : ℕ). n == number) (batch_ids (made from to ok.channel)) is.extra
          ∙ or_left (list_any (λ (n : ℕ). n == number) (batch_ids (made from to ok.channel))) (list_any (λ (n : ℕ). n == number) is.extra)
          (sym (any_id number (made from to ok.channel)) ∙ ok.has)));
      most = at_most number (kept_of from to ok.channel).highest (kept_of now then ok.channel).highest ok.most is.highest;
    }

-- the batches of a sender after an act are those before it and what it made, but for what acks say
abbrev told : Config → State → Act → OutBatch → OutBatch
told config state act = with_standing (state.batches ++ added config state act) (act ∷ [])

made_then : (config : Config) (from to : State) (act : Act) (channel : ℕ)
    → made (state_after config from act) to channel
    ≡ map (told config from act) (made from to channel ++ filter (is_in_lane to.me.id channel) (added config from act))
made_then config from to act channel =
    filter_through (is_in_lane to.me.id channel) (told config from act) (from.batches ++ added config from act) (λ batch. refl)
    ∙ ap (map (told config from act)) (filter-append (is_in_lane to.me.id channel) from.batches (added config from act))

pub sender_grows : (config : Config) (from to : State) (act : Act) → AllGrows config from to (state_after config from act) to
sender_grows config from to act channel within = record {
  extra = batch_ids (filter (is_in_lane to.me.id channel) (added config from act));
  ids = ap batch_ids (made_then config from to act channel)
      ∙ (map_twice (λ (b : OutBatch). b.id) (told config from act) (made from to channel ++ filter (is_in_lane to.me.id channel) (added config from act))
      ∙ map-append (λ (b : OutBatch). b.id) (made from to channel) (filter (is_in_lane to.me.id channel) (added config from act)));
  highest = same (kept_of from to channel).highest;
}
  where
    same : (n : ℕ) → n ≤ n
    same n = omega arith

pub receiver_grows : (config : Config) (from to : State) (act : Act)
    → ((channel : ℕ) → channel < length config.channels → (kept_of from to channel).highest ≤ (kept_of from (state_after config to act) channel).highest)
    → AllGrows config from to from (state_after config to act)
receiver_grows config from to act rises channel within = record {
  extra = [];
  ids = sym (append-nil (batch_ids (made from to channel)));
  highest = rises channel within;
}

pub ack_on : (config : Config) (from to now then : State) (number : ℕ) (error : Option (ℕ × ℕ)) → AllGrows config from to now then
    → (list_any (λ (batch : OutBatch). batch.id == number && bytes_eq batch.peer to.me.id) from.batches ≡ true
    → list_any (λ (batch : OutBatch). batch.id == number && bytes_eq batch.peer then.me.id) now.batches ≡ true)
    → AckTells config from to number error → AckTells config now then number error
ack_on config from to now then number None grows stays ok = loaded_grows config from to now then number grows ok
ack_on config from to now then number (Some error) grows stays ok = stays ok

pub made_stays : (config : Config) (from to : State) (act : Act) (number : ℕ)
    → list_any (λ (batch : OutBatch). batch.id == number && bytes_eq batch.peer to.me.id) from.batches ≡ true
    → list_any (λ (batch : OutBatch). batch.id == number && bytes_eq batch.peer to.me.id) (state_after config from act).batches ≡ true
made_stays config from to act number is =
    any_map (λ (batch : OutBatch). batch.id == number && bytes_eq batch.peer to.me.id) (told config from act) (from.batches ++ added config from act)
    ∙ (list_any-append (λ (batch : OutBatch). batch.id == number && bytes_eq batch.peer to.me.id) from.batches (added config from act)
    ∙ or_left (list_any (λ (batch : OutBatch). batch.id == number && bytes_eq batch.peer to.me.id) from.batches)
    (list_any (λ (batch : OutBatch). batch.id == number && bytes_eq batch.peer to.me.id) (added config from act)) is)
