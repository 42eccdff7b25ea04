-- The lanes that are filled change by change are those of the definition, and so are their batches.
use Rattle.std.proofs.Common.{◌≡◌, ℕ, zero, suc, ◌+◌, ◌<◌, ◌≤◌, ◌≢◌, Bool, true, false, ◌&&◌, ◌||◌, ◌==◌, List, [], ◌∷◌, ◌++◌, length, drop, drop-cons, add-one, append-nil, append_assoc, refl, sym, ap, subst, ◌∙◌, arith, map, cond, get_or}
use Rattle.std.proofs.lemmas.Bool.{eqb-true}
use Rattle.std.proofs.lemmas.List.{drop_all}
use Rattle.std.proofs.lemmas.Bool.Decides.{nat_tests}
use Rattle.std.specs.Borrow.{Bor}
use Rattle.std.specs.Prelude.{if◌then◌else◌, max, Option, option_map, slice_get}
use Rattle.std.specs.List.{All, AllPairs, enumerate_from, filter, flat_map, fold, list_any, range_with_len, zip}
use Rattle.sds_types.specs.declared.batch.NewBatch.{NewBatch}
use Rattle.sds_types.specs.declared.channel.ChannelDef.{ChannelDef}
use Rattle.sds_types.specs.declared.config.Config.{Config}
use Rattle.sds_types.specs.declared.row.Change.{Change}
use Rattle.sds_trade.specs.rules.Batches.{batch_in, batches_of, is_for, lane_batches, lane_changes, peers_named, sorted_channels}
use Rattle.sds_trade.specs.rules.Cuts.{cut, last_piece}
use Rattle.sds_batcher.specs.Ends.{ends_piece, next_tx, pieces_to_come}
use Rattle.sds_batcher.specs.Lanes.{batches_to_come, channel_batches, lanes_to_come, last_batch, made_batch, next_waiting, numbered, waiting_of, with_all, with_each, with_waiting}
use Rattle.sds_batcher.specs.Order.{entry_of}
use Rattle.sds_batcher.specs.declared.lanes.Waiting.{Waiting}
use Rattle.sds_batcher.proofs.Pieces.{pieces_are}

-- LISTS OF PLACES. What a list makes of the places from one on
range_same : {X : Type 0} (f g : ℕ → X) (a n : ℕ) → ((p : ℕ) → a ≤ p → f p ≡ g p) → map f (range_with_len a n) ≡ map g (range_with_len a n)
range_same f g a zero same = refl
range_same f g a (suc n) same =
    rw (same a (omega arith), range_same f g (a + 1) n (λ p above. same p (omega (arith, above)))) refl

same_test : (n : ℕ) → (n == n) ≡ true
same_test n = grind (arith, nat_tests)

other_test : (j p : ℕ) → j ≢ p → (j == p) ≡ false
other_test j p other = grind (arith, nat_tests)

-- one lane that gets a change
abbrev grown : (ℕ → List Waiting) → ℕ → Waiting → ℕ → List Waiting
grown f j waiting p = if j == p then f p ++ waiting ∷ [] else f p

put_range : (f : ℕ → List Waiting) (a n t j : ℕ) (waiting : Waiting) → a + t ≡ j
    → with_waiting (map f (range_with_len a n)) t waiting ≡ map (grown f j waiting) (range_with_len a n)
put_range f a zero t j waiting is = refl
put_range f a (suc n) zero j waiting is =
    let here : j ≡ a = omega (arith, is) in
    let first : (j == a) ≡ true = rw here (same_test a) in
    let rest : map f (range_with_len (a + 1) n) ≡ map (grown f j waiting) (range_with_len (a + 1) n) =
    range_same f (grown f j waiting) (a + 1) n (λ p above. let test : (j == p) ≡ false = other_test j p (omega (arith, above, here)) in rw test refl) in
    rw (first, ← rest) refl
put_range f a (suc n) (suc t) j waiting is =
    let first : (j == a) ≡ false = other_test j a (omega (arith, is)) in
    rw first (ap (λ lanes. f a ∷ lanes) (put_range f (a + 1) n t j waiting (omega (arith, is))))

-- ASCENDING PLACES, by recursion: each is below those after it
abbrev Above : ℕ → List ℕ → Type 0
Above t [] = Unit {0}
Above t (place ∷ places) = (t < place) × Above t places

above_of : (t : ℕ) (places : List ℕ) → ((k d : ℕ) → k < length places → t < get_or places k d) → Above t places
above_of t [] are = tt
above_of t (place ∷ places) are = (are zero place (omega arith), above_of t places (λ k d within. are (suc k) d (omega (arith, within))))

tail_pairs : (t : ℕ) (places : List ℕ) → AllPairs (λ (a b : ℕ). a < b) (t ∷ places) → AllPairs (λ (a b : ℕ). a < b) places
tail_pairs t places are i j d below within = are (suc i) (suc j) d (omega (arith, below)) (omega (arith, within))

head_above : (t : ℕ) (places : List ℕ) → AllPairs (λ (a b : ℕ). a < b) (t ∷ places) → Above t places
head_above t places are = above_of t places (λ k d within. are zero (suc k) d (omega arith) (omega (arith, within)))

not_above : (t : ℕ) (places : List ℕ) → Above t places → list_any (λ (place : ℕ). place == t) places ≡ false
not_above t [] above = refl
not_above t (place ∷ places) above =
    let test : (place == t) ≡ false = other_test place t (omega (arith, above.0)) in
    rw test (not_above t places above.1)

-- EACH. A change is put once into each lane of ascending places
abbrev marked : List ℕ → Waiting → ℕ → List Waiting
marked places waiting p = if list_any (λ (place : ℕ). place == p) places then waiting ∷ [] else []

each_at : (f : ℕ → List Waiting) (t : ℕ) (places : List ℕ) (waiting : Waiting) (p : ℕ) (b : Bool) → (t == p) ≡ b → Above t places
    → (if b then f p ++ waiting ∷ [] else f p) ++ marked places waiting p
    ≡ f p ++ (if b || list_any (λ (place : ℕ). place == p) places then waiting ∷ [] else [])
each_at f t places waiting p true is above =
    let none : list_any (λ (place : ℕ). place == p) places ≡ false =
    subst (λ (at : ℕ). list_any (λ (place : ℕ). place == at) places ≡ false) (eqb-true t p is) (not_above t places above) in
    rw (none, append-nil (f p ++ waiting ∷ [])) refl
each_at f t places waiting p false is above = refl

each_range : (f : ℕ → List Waiting) (n : ℕ) (places : List ℕ) (waiting : Waiting) → AllPairs (λ (a b : ℕ). a < b) places
    → with_each places waiting (map f (range_with_len 0 n)) ≡ map (λ (p : ℕ). f p ++ marked places waiting p) (range_with_len 0 n)
each_range f n [] waiting ascend = range_same f (λ (p : ℕ). f p ++ []) 0 n (λ p above. sym (append-nil (f p)))
each_range f n (t ∷ places) waiting ascend =
    rw (put_range f 0 n t t waiting (omega arith))
    (each_range (grown f t waiting) n places waiting (tail_pairs t places ascend)
    ∙ range_same (λ (p : ℕ). grown f t waiting p ++ marked places waiting p) (λ (p : ℕ). f p ++ marked (t ∷ places) waiting p) 0 n
    (λ p above. each_at f t places waiting p (t == p) refl (head_above t places ascend)))

-- ALL. The lanes of a channel
abbrev waits : List Change → List (List ℕ) → ℕ → ℕ → List Waiting
waits changes targets channel p = map waiting_of (lane_changes (zip changes targets) channel p)

wait_at : (f : ℕ → List Waiting) (change : Change) (places : List ℕ) (changes : List Change) (targets : List (List ℕ)) (channel p : ℕ) (b : Bool)
    → (f p ++ (if b then waiting_of change ∷ [] else [])) ++ waits changes targets channel p
    ≡ f p ++ map waiting_of (map (λ (at : Change × List ℕ). at.0)
    (cond b ((change, places) ∷ filter (is_for channel p) (zip changes targets)) (filter (is_for channel p) (zip changes targets))))
wait_at f change places changes targets channel p true = append_assoc (f p) (waiting_of change ∷ []) (waits changes targets channel p)
wait_at f change places changes targets channel p false = ap (λ lane. lane ++ waits changes targets channel p) (append-nil (f p))

all_at : (f : ℕ → List Waiting) (n : ℕ) (change : Change) (places : List ℕ) (changes : List Change) (targets : List (List ℕ)) (channel : ℕ) (b : Bool)
    → AllPairs (λ (a b : ℕ). a < b) places
    → ((g : ℕ → List Waiting) → with_all channel changes targets (map g (range_with_len 0 n)) ≡ map (λ (p : ℕ). g p ++ waits changes targets channel p) (range_with_len 0 n))
    → (if b then with_all channel changes targets (with_each places (waiting_of change) (map f (range_with_len 0 n)))
    else with_all channel changes targets (map f (range_with_len 0 n)))
    ≡ map (λ (p : ℕ). f p ++ map waiting_of (map (λ (at : Change × List ℕ). at.0)
    (cond (b && list_any (λ (place : ℕ). place == p) places) ((change, places) ∷ filter (is_for channel p) (zip changes targets))
    (filter (is_for channel p) (zip changes targets))))) (range_with_len 0 n)
all_at f n change places changes targets channel true ascend goes_on =
    rw (each_range f n places (waiting_of change) ascend)
    (goes_on (λ (p : ℕ). f p ++ marked places (waiting_of change) p)
    ∙ range_same _ _ 0 n (λ p above. wait_at f change places changes targets channel p (list_any (λ (place : ℕ). place == p) places)))
all_at f n change places changes targets channel false ascend goes_on = goes_on f

all_head : {X : Type 0} (P : X → Type 0) (x : X) (xs : List X) → All P (x ∷ xs) → P x
all_head P x xs are = are zero x (omega arith)

all_tail : {X : Type 0} (P : X → Type 0) (x : X) (xs : List X) → All P (x ∷ xs) → All P xs
all_tail P x xs are k d within = are (suc k) d (omega (arith, within))

abbrev Ascends : List ℕ → Type 0
Ascends places = AllPairs (λ (a b : ℕ). a < b) places

none_wait : (f : ℕ → List Waiting) (n : ℕ) → map f (range_with_len 0 n) ≡ map (λ (p : ℕ). f p ++ []) (range_with_len 0 n)
none_wait f n = range_same f (λ (p : ℕ). f p ++ []) 0 n (λ p above. sym (append-nil (f p)))

all_range : (f : ℕ → List Waiting) (n channel : ℕ) (changes : List Change) (targets : List (List ℕ)) → All Ascends targets
    → with_all channel changes targets (map f (range_with_len 0 n)) ≡ map (λ (p : ℕ). f p ++ waits changes targets channel p) (range_with_len 0 n)
all_range f n channel [] targets ascend = none_wait f n
all_range f n channel (change ∷ changes) [] ascend = none_wait f n
all_range f n channel (change ∷ changes) (places ∷ targets) ascend =
    all_at f n change places changes targets channel (change.channel == channel) (all_head Ascends places targets ascend)
    (λ g. all_range g n channel changes targets (all_tail Ascends places targets ascend))

-- BATCHES. Those of a lane are the pieces of its cut
next_same : (changes : List Change) → next_waiting (map waiting_of changes) ≡ next_tx changes
next_same [] = refl
next_same (change ∷ changes) = refl

ids_longer : (piece : List Change) (change : Change) → map (λ (change : Change). change.id) piece ++ change.id ∷ [] ≡ map (λ (change : Change). change.id) (piece ++ change ∷ [])
ids_longer [] change = refl
ids_longer (first ∷ piece) change = ap (λ ids. first.id ∷ ids) (ids_longer piece change)

as_many : (piece : List Change) → length (map (λ (change : Change). change.id) piece) ≡ length piece
as_many [] = refl
as_many (change ∷ piece) = ap suc (as_many piece)

last_same : (channel peer : ℕ) (piece : List Change) → last_batch channel peer (map (λ (change : Change). change.id) piece) ≡ map (batch_in channel peer) (last_piece piece)
last_same channel peer [] = refl
last_same channel peer (change ∷ piece) = refl

made_at : (def : ChannelDef) (channel peer : ℕ) (piece later : List Change) (b : Bool)
    → ((p : List Change) → batches_to_come def channel peer (map (λ (change : Change). change.id) p) (map waiting_of later)
    ≡ map (batch_in channel peer) (pieces_to_come def.batch_algorithm def.max_batch_size p later))
    → (if b then made_batch channel peer (map (λ (change : Change). change.id) piece) ∷ batches_to_come def channel peer [] (map waiting_of later)
    else batches_to_come def channel peer (map (λ (change : Change). change.id) piece) (map waiting_of later))
    ≡ map (batch_in channel peer) (if b then piece ∷ pieces_to_come def.batch_algorithm def.max_batch_size [] later
    else pieces_to_come def.batch_algorithm def.max_batch_size piece later)
made_at def channel peer piece later true goes_on = ap (λ batches. made_batch channel peer (map (λ (change : Change). change.id) piece) ∷ batches) (goes_on [])
made_at def channel peer piece later false goes_on = goes_on piece

made_are : (def : ChannelDef) (channel peer : ℕ) (piece changes : List Change)
    → batches_to_come def channel peer (map (λ (change : Change). change.id) piece) (map waiting_of changes)
    ≡ map (batch_in channel peer) (pieces_to_come def.batch_algorithm def.max_batch_size piece changes)
made_are def channel peer piece [] = last_same channel peer piece
made_are def channel peer piece (change ∷ later) =
    rw (ids_longer piece change, as_many (piece ++ change ∷ []), next_same later)
    (made_at def channel peer (piece ++ change ∷ []) later
    (ends_piece def.batch_algorithm def.max_batch_size (length (piece ++ change ∷ [])) change.tx (next_tx later))
    (λ p. made_are def channel peer p later))

lane_made : (def : ChannelDef) (channel peer : ℕ) (changes : List Change)
    → batches_to_come def channel peer [] (map waiting_of changes)
    ≡ map (batch_in channel peer) (cut def.batch_algorithm def.max_batch_size changes)
lane_made def channel peer changes = made_are def channel peer [] changes
    ∙ ap (map (batch_in channel peer)) (pieces_are def.batch_algorithm def.max_batch_size changes)

lanes_made : (def : ChannelDef) (channel a n : ℕ) (routed : List (Change × List ℕ))
    → lanes_to_come def channel a (map (λ (p : ℕ). map waiting_of (lane_changes routed channel p)) (range_with_len a n))
    ≡ flat_map (lane_batches routed (channel, def)) (range_with_len a n)
lanes_made def channel a zero routed = refl
lanes_made def channel a (suc n) routed =
    rw (lane_made def channel a (lane_changes routed channel a), lanes_made def channel (a + 1) n routed) refl

pub channel_made : (changes : List Change) (targets : List (List ℕ)) (peers : ℕ) (at : ℕ × ChannelDef) → All Ascends targets
    → channel_batches changes targets peers at ≡ flat_map (lane_batches (zip changes targets) at) (range_with_len 0 peers)
channel_made changes targets peers at ascend =
    rw (all_range (λ (p : ℕ). []) peers at.0 changes targets ascend) (lanes_made at.1 at.0 0 peers (zip changes targets))

-- TURNS. What is left of both lists begins with this turn's change and its places
turn : {X : Type 0} (xs : List X) (i : ℕ) (x : X) → i < length xs → x ≡ get_or xs i x → drop i xs ≡ x ∷ drop (i + 1) xs
turn xs i x within is = drop-cons xs i x within ∙ (rw add-one (ap (λ y. y ∷ drop (suc i) xs) (sym is)))

counted : (count : ℕ) (places rest : List ℕ)
    → fold max count (map (λ (place : ℕ). place + 1) (places ++ rest))
    ≡ fold max (fold max count (map (λ (place : ℕ). place + 1) places)) (map (λ (place : ℕ). place + 1) rest)
counted count [] rest = refl
counted count (place ∷ places) rest = counted (max count (place + 1)) places rest

pub count_turn : (changes : List Change) (targets : List (List ℕ)) (i : ℕ) (change : Change) (places : List ℕ) (count next whole : ℕ)
    → i < length changes → change ≡ get_or changes i change → i < length targets → places ≡ get_or targets i places
    → next ≡ fold max count (map (λ (place : ℕ). place + 1) places)
    → fold max count (map (λ (target : ℕ). target + 1) (flat_map (λ (at : Change × List ℕ). at.1) (zip (drop i changes) (drop i targets)))) ≡ whole
    → fold max next (map (λ (target : ℕ). target + 1) (flat_map (λ (at : Change × List ℕ). at.1) (zip (drop (i + 1) changes) (drop (i + 1) targets)))) ≡ whole
count_turn changes targets i change places count next whole first at second here is so_far =
    let e : fold max count (map (λ (target : ℕ). target + 1) (places ++ flat_map (λ (at : Change × List ℕ). at.1) (zip (drop (i + 1) changes) (drop (i + 1) targets)))) ≡ whole =
    rw (turn changes i change first at, turn targets i places second here) at so_far in
    rw is (sym (counted count places (flat_map (λ (at : Change × List ℕ). at.1) (zip (drop (i + 1) changes) (drop (i + 1) targets)))) ∙ e)

added_by : (channel : ℕ) (change : Change) (changes : List Change) (places : List ℕ) (targets : List (List ℕ)) (lanes next whole : List (List Waiting))
    → (change.channel == channel) ≡ true → next ≡ with_each places (waiting_of change) lanes
    → with_all channel (change ∷ changes) (places ∷ targets) lanes ≡ whole → with_all channel changes targets next ≡ whole
added_by channel change changes places targets lanes next whole is grows so_far = rw grows (rw is at so_far)

passed_by : (channel : ℕ) (change : Change) (changes : List Change) (places : List ℕ) (targets : List (List ℕ)) (lanes whole : List (List Waiting))
    → (change.channel == channel) ≡ false
    → with_all channel (change ∷ changes) (places ∷ targets) lanes ≡ whole → with_all channel changes targets lanes ≡ whole
passed_by channel change changes places targets lanes whole is so_far = rw is at so_far

pub added_turn : (channel : ℕ) (changes : List Change) (targets : List (List ℕ)) (i : ℕ) (change : Change) (places : List ℕ) (lanes next whole : List (List Waiting))
    → i < length changes → change ≡ get_or changes i change → i < length targets → places ≡ get_or targets i places
    → change.channel ≡ channel → next ≡ with_each places (waiting_of change) lanes
    → with_all channel (drop i changes) (drop i targets) lanes ≡ whole
    → with_all channel (drop (i + 1) changes) (drop (i + 1) targets) next ≡ whole
added_turn channel changes targets i change places lanes next whole first at second here is grows so_far =
    let e : with_all channel (change ∷ drop (i + 1) changes) (places ∷ drop (i + 1) targets) lanes ≡ whole =
    rw (turn changes i change first at, turn targets i places second here) at so_far in
    added_by channel change (drop (i + 1) changes) places (drop (i + 1) targets) lanes next whole (rw is (same_test channel)) grows e

pub passed_turn : (channel : ℕ) (changes : List Change) (targets : List (List ℕ)) (i : ℕ) (change : Change) (places : List ℕ) (lanes whole : List (List Waiting))
    → i < length changes → change ≡ get_or changes i change → i < length targets → places ≡ get_or targets i places
    → change.channel ≢ channel
    → with_all channel (drop i changes) (drop i targets) lanes ≡ whole
    → with_all channel (drop (i + 1) changes) (drop (i + 1) targets) lanes ≡ whole
passed_turn channel changes targets i change places lanes whole first at second here other so_far =
    let e : with_all channel (change ∷ drop (i + 1) changes) (places ∷ drop (i + 1) targets) lanes ≡ whole =
    rw (turn changes i change first at, turn targets i places second here) at so_far in
    passed_by channel change (drop (i + 1) changes) places (drop (i + 1) targets) lanes whole (other_test change.channel channel other) e

-- LANES. One change more of a lane
first_after : (n : ℕ) (lane : List Waiting) → slice_get (drop n lane) 0 ≡ slice_get lane n
first_after zero lane = refl
first_after (suc n) [] = refl
first_after (suc n) (waiting ∷ lane) = first_after n lane

lane_rest : (def : ChannelDef) (channel peer : ℕ) (lane : List Waiting) (i : ℕ) (d : Waiting) (ids grown_ids : List ℕ) (made whole : List NewBatch) (next : Option ℕ) (b : Bool)
    → i < length lane → grown_ids ≡ ids ++ (get_or lane i d).id ∷ []
    → next ≡ option_map (λ (waiting : Waiting). waiting.tx) (slice_get lane (i + 1))
    → b ≡ ends_piece def.batch_algorithm def.max_batch_size (length grown_ids) (get_or lane i d).tx next
    → made ++ batches_to_come def channel peer ids (drop i lane) ≡ whole
    → made ++ (if b then made_batch channel peer grown_ids ∷ batches_to_come def channel peer [] (drop (i + 1) lane)
    else batches_to_come def channel peer grown_ids (drop (i + 1) lane)) ≡ whole
lane_rest def channel peer lane i d ids grown_ids made whole next b within grows follows ends so_far =
    let begins : drop i lane ≡ get_or lane i d ∷ drop (i + 1) lane = rw add-one (drop-cons lane i d within) in
    let test : next ≡ next_waiting (drop (i + 1) lane) = follows ∙ ap (option_map (λ (waiting : Waiting). waiting.tx)) (sym (first_after (i + 1) lane)) in
    let e : made ++ batches_to_come def channel peer ids (get_or lane i d ∷ drop (i + 1) lane) ≡ whole = rw begins at so_far in
    rw (ends, test, grows) e

pub lane_goes_on : (def : ChannelDef) (channel peer : ℕ) (lane : List Waiting) (i : ℕ) (d : Waiting) (ids grown_ids : List ℕ) (made whole : List NewBatch) (next : Option ℕ)
    → i < length lane → grown_ids ≡ ids ++ (get_or lane i d).id ∷ []
    → next ≡ option_map (λ (waiting : Waiting). waiting.tx) (slice_get lane (i + 1))
    → false ≡ ends_piece def.batch_algorithm def.max_batch_size (length grown_ids) (get_or lane i d).tx next
    → made ++ batches_to_come def channel peer ids (drop i lane) ≡ whole
    → made ++ batches_to_come def channel peer grown_ids (drop (i + 1) lane) ≡ whole
lane_goes_on def channel peer lane i d ids grown_ids made whole next within grows follows ends so_far =
    lane_rest def channel peer lane i d ids grown_ids made whole next false within grows follows ends so_far

pub lane_ends : (def : ChannelDef) (channel peer : ℕ) (lane : List Waiting) (i : ℕ) (d : Waiting) (ids grown_ids : List ℕ) (made whole : List NewBatch) (next : Option ℕ)
    → i < length lane → grown_ids ≡ ids ++ (get_or lane i d).id ∷ []
    → next ≡ option_map (λ (waiting : Waiting). waiting.tx) (slice_get lane (i + 1))
    → true ≡ ends_piece def.batch_algorithm def.max_batch_size (length grown_ids) (get_or lane i d).tx next
    → made ++ batches_to_come def channel peer ids (drop i lane) ≡ whole
    → (made ++ made_batch channel peer grown_ids ∷ []) ++ batches_to_come def channel peer [] (drop (i + 1) lane) ≡ whole
lane_ends def channel peer lane i d ids grown_ids made whole next within grows follows ends so_far =
    append_assoc made (made_batch channel peer grown_ids ∷ []) (batches_to_come def channel peer [] (drop (i + 1) lane))
    ∙ lane_rest def channel peer lane i d ids grown_ids made whole next true within grows follows ends so_far

-- RUNS. All channels
flat_same : {X Y : Type 0} (f g : X → List Y) (xs : List X) → ((x : X) → f x ≡ g x) → flat_map f xs ≡ flat_map g xs
flat_same f g [] same = refl
flat_same f g (x ∷ xs) same = rw (same x, flat_same f g xs same) refl

flat_seen : {X Y Z : Type 0} (f : Y → List Z) (seen : X → Y) (xs : List X) → flat_map (λ (x : X). f (seen x)) xs ≡ flat_map f (map seen xs)
flat_seen f seen [] = refl
flat_seen f seen (x ∷ xs) = ap (λ rest. f (seen x) ++ rest) (flat_seen f seen xs)

pub run_is : (config : Config) (first peers : ℕ) (changes : List Change) (targets : List (List ℕ)) (channels : List (ℕ × Bor ChannelDef))
    → All Ascends targets → peers ≡ peers_named (zip changes targets)
    → map entry_of channels ≡ sorted_channels (enumerate_from 0 config.channels)
    → numbered first (flat_map (λ (at : ℕ × Bor ChannelDef). channel_batches changes targets peers (entry_of at)) channels)
    ≡ batches_of config first (zip changes targets)
run_is config first peers changes targets channels ascend counted sorted =
    let lanes = λ (at : ℕ × ChannelDef). flat_map (lane_batches (zip changes targets) at) (range_with_len 0 peers) in
    let made : flat_map (λ (at : ℕ × Bor ChannelDef). channel_batches changes targets peers (entry_of at)) channels
    ≡ flat_map lanes (sorted_channels (enumerate_from 0 config.channels)) =
    flat_same (λ (at : ℕ × Bor ChannelDef). channel_batches changes targets peers (entry_of at)) (λ (at : ℕ × Bor ChannelDef). lanes (entry_of at)) channels
    (λ at. channel_made changes targets peers (entry_of at) ascend)
    ∙ (flat_seen lanes entry_of channels ∙ ap (flat_map lanes) sorted) in
    rw (made, counted) refl

pub all_made : {X Y : Type 0} (f : X → List Y) (xs : List X) (i : ℕ) (made : List Y) → length xs ≤ i
    → made ++ flat_map f (drop i xs) ≡ flat_map f xs → made ≡ flat_map f xs
all_made f xs i made end so_far =
    let none : drop i xs ≡ [] = drop_all i xs end in
    let e : made ++ [] ≡ flat_map f xs = rw none at so_far in
    sym (append-nil made) ∙ e
