-- Each part of a state by itself: the edits of an act go from its records before the act to those after it.
use Rattle.std.proofs.Common.{◌≡◌, ◌≢◌, ℕ, ◌+◌, ◌≤◌, ◌<◌, ◌^◌, ◌==◌, Bool, true, false, cond, List, [], ◌∷◌, ◌++◌, length, drop, map, None, Some, refl, sym, ap, subst, ◌∙◌, arith, true≢false, filter, find, append-nil, is_lt, nat_le}
use Rattle.std.specs.Prelude.{codes, option_map}
use Rattle.std.specs.List.{AllByRecursion}
use Rattle.std.specs.Str.{bytes_eq}
use Rattle.std.proofs.lemmas.Bool.Decides.{nat_tests}
use Rattle.std.proofs.lemmas.Cmp.{nat_list_cmp_total, tied_itself}
use Rattle.std.proofs.lemmas.List.{append_cancel_left}
use Rattle.std.proofs.Math.Seq.{drop-append_seam}
use Rattle.sds_value.proofs.Characters.{left_true, right_true}
use Rattle.sds_types.specs.Limits.{most_count}
use Rattle.sds_types.specs.declared.batch.OutBatch.{OutBatch}
use Rattle.sds_types.specs.declared.config.Config.{Config}
use Rattle.sds_types.specs.declared.counts.Counts.{Counts}
use Rattle.sds_types.specs.declared.counts.WriterLast.{WriterLast}
use Rattle.sds_types.specs.declared.registration.Opening.{Opening}
use Rattle.sds_types.specs.declared.registration.Stage.{Stage}
use Rattle.sds_types.specs.declared.registration.Stage.TheVariants.{Waiting, Given, Closed}
use Rattle.sds_types.specs.declared.row.Change.{Change}
use Rattle.sds_value.specs.declared.row.Peer.{Peer}
use Rattle.sds_history.specs.history.Acts.{Act, State}
use Rattle.sds_history.specs.history.Acts.Act.{Opened, Joined, Confirmed, Wrote, Routed, Loaded, Erred, Acked}
use Rattle.sds_history.specs.history.Image.{count_records}
use Rattle.sds_history.specs.history.Openings.{closed_for, closed_stage, given_if, given_to, is_given_to, is_opening_of, opening_key, openings_by}
use Rattle.sds_history.specs.history.Orders.{is_before, with_item}
use Rattle.sds_history.specs.history.Peers.{peer_key, peers_by}
use Rattle.sds_history.specs.history.Records.{Record, batch_record, count_record, id_text, opening_record, peer_record, writer_record}
use Rattle.sds_history.specs.history.RowRecords.{change_record}
use Rattle.sds_history.specs.history.SoundParts.{AscendBy}
use Rattle.sds_history.specs.history.SoundStates.{IsSoundState, is_counted, is_counted_batch, is_counted_change}
use Rattle.sds_history.specs.history.States.{state_after}
use Rattle.sds_history.specs.history.Writers.{writer_key, writer_of}
use Rattle.sds_records.specs.Parts.{put_edit}
use Rattle.sds_imagelaws.specs.Edits.{change_edits, new_openings, peer_edits, put_if, puts_of, writer_edits}
use Rattle.sds_imagelaws.proofs.Distinct.{Distinct, added_part, ascending_distinct, changed_part}
use Rattle.sds_imagelaws.proofs.Items.{part_at, part_is}
use Rattle.sds_imagelaws.proofs.Keys.{same_id}
use Rattle.sds_imagelaws.proofs.Lists.{each_listed, each_of}
use Rattle.sds_imagelaws.proofs.Lookups.{told_by}
use Rattle.sds_imagelaws.proofs.Parts.{EditsAt, Goes, Part, mapped_at, place_of, puts_at}
use Rattle.sds_imagelaws.proofs.Sorted.{part_with_item}
use Rattle.sds_imagelaws.proofs.Tests.{equal, itself}

-- KINDS OF PARTS: unchanged items, one more item in its place, changed items, added items
module _ {A : Type 0} (place : ℕ) (kept : A → Record) (at : (x : A) → place_of (kept x).key ≡ place) where
  part_of : (edits : List _) (xs ys : List A) → EditsAt place edits
      → ((key : List ℕ) → told_by key edits (part_at kept key xs) ≡ part_at kept key ys) → Part place edits (map kept xs) (map kept ys)
  part_of edits xs ys own goes = record {
    goes = λ key. ap (told_by key edits) (part_is kept key xs) ∙ (goes key ∙ sym (part_is kept key ys));
    own = own;
    old = mapped_at kept place xs at;
    new = mapped_at kept place ys at;
  }

  pub same_part : (xs : List A) → Part place [] (map kept xs) (map kept xs)
  same_part xs = part_of [] xs xs tt (λ key. refl)

  pub item_part : (key : A → List ℕ) (front : List ℕ) → ((x : A) → (kept x).key ≡ front ++ key x) → (new : A) (xs : List A)
      → Part place (put_edit (kept new) ∷ []) (map kept xs) (map kept (with_item key new xs))
  item_part key front keyed new xs =
      part_of (put_edit (kept new) ∷ []) xs (with_item key new xs) (at new, tt) (λ wanted. sym (part_with_item kept key front keyed new xs wanted))

  pub changed_items : (f : A → A) (changed : A → Bool) → ((x : A) → (kept (f x)).key ≡ (kept x).key)
      → ((x : A) → changed x ≡ false → kept (f x) ≡ kept x) → (xs : List A) → Distinct kept xs
      → Part place (puts_of (map kept (map f (filter changed xs)))) (map kept xs) (map kept (map f xs))
  changed_items f changed keyed left xs apart =
      part_of (puts_of (map kept (map f (filter changed xs)))) xs (map f xs)
      (puts_at place (map kept (map f (filter changed xs))) (mapped_at kept place (map f (filter changed xs)) at))
      (λ key. changed_part kept key f changed keyed left xs apart)

  pub added_items : (xs ys : List A) → Distinct kept (xs ++ ys) → Part place (puts_of (map kept ys)) (map kept xs) (map kept (xs ++ ys))
  added_items xs ys apart =
      part_of (puts_of (map kept ys)) xs (xs ++ ys) (puts_at place (map kept ys) (mapped_at kept place ys at)) (λ key. added_part kept key xs ys apart)

-- what was added is what stands after the items before
pub added_after : {A : Type 0} (place : ℕ) (kept : A → Record) → ((x : A) → place_of (kept x).key ≡ place) → (xs ys : List A) → Distinct kept (xs ++ ys)
    → Part place (puts_of (map kept (drop (length xs) (xs ++ ys)))) (map kept xs) (map kept (xs ++ ys))
added_after place kept at xs ys apart =
    subst (λ zs. Part place (puts_of (map kept zs)) (map kept xs) (map kept (xs ++ ys))) (sym (drop-append_seam xs ys)) (added_items place kept at xs ys apart)

-- THE NODE and its counters
pub me_part : (kept : Record) → place_of kept.key ≡ 0 → Part 0 [] (kept ∷ []) (kept ∷ [])
me_part kept at = record { goes = λ key. refl; own = tt; old = (at, tt); new = (at, tt) }

next_acts : (n : ℕ) → (n + 1 == 0) ≡ false
next_acts n = grind (arith, nat_tests)

count_goes : (before after : Counts) (b : Bool) → Goes (put_edit (count_record after) ∷ []) (cond b [] (count_record before ∷ [])) (count_record after ∷ [])
count_goes before after true key = refl
count_goes before after false key = on (bytes_eq (codes "count") key)
  where
    on : (b : Bool) → cond b (Some (count_record after).body) (cond b (Some (count_record before).body) None) ≡ cond b (Some (count_record after).body) None
    on true = refl
    on false = refl

count_old : (counts : Counts) (b : Bool) → AllByRecursion (λ (kept : Record). place_of kept.key ≡ 1) (cond b [] (count_record counts ∷ []))
count_old counts true = tt
count_old counts false = (refl, tt)

pub count_part : (before after : Counts) (acts : ℕ) → after.acts ≡ acts + 1
    → Part 1 (put_edit (count_record after) ∷ []) (count_records before) (count_records after)
count_part before after acts more =
    subst (λ b. Part 1 (put_edit (count_record after) ∷ []) (count_records before) (cond b [] (count_record after ∷ [])))
    (sym (ap (λ n. n == 0) more ∙ next_acts acts))
    (record { goes = count_goes before after (before.acts == 0); own = (refl, tt); old = count_old before (before.acts == 0); new = (refl, tt) })

-- PEERS
pub peer_part : (act : Act) (peers : List _) → Part 2 (peer_edits act) (map peer_record peers) (map peer_record (peers_by act peers))
peer_part (Joined kept) peers = item_part 2 peer_record (λ x. refl) peer_key (codes "n/") (λ x. refl) kept peers
peer_part (Opened group external token) peers = same_part 2 peer_record (λ x. refl) peers
peer_part (Confirmed peer) peers = same_part 2 peer_record (λ x. refl) peers
peer_part (Wrote writer number rows) peers = same_part 2 peer_record (λ x. refl) peers
peer_part Routed peers = same_part 2 peer_record (λ x. refl) peers
peer_part (Loaded channel batch) peers = same_part 2 peer_record (λ x. refl) peers
peer_part (Erred from channel error) peers = same_part 2 peer_record (λ x. refl) peers
peer_part (Acked from acks) peers = same_part 2 peer_record (λ x. refl) peers

-- OPENINGS
pub before_differs : (a b : List ℕ) → is_before a b ≡ true → a ≢ b
before_differs a b less same =
    absurd (true≢false (sym less ∙ (ap (λ k. is_before k b) same ∙ ap is_lt (tied_itself nat_list_cmp_total b))))

pub by_key_distinct : {A : Type 0} (kept : A → Record) (key : A → List ℕ) (front : List ℕ) → ((x : A) → (kept x).key ≡ front ++ key x)
    → (xs : List A) → AscendBy key xs → Distinct kept xs
by_key_distinct kept key front keyed xs up =
    ascending_distinct kept (λ x. Unit {0}) (λ a b. is_before (key a) (key b) ≡ true) xs
    (λ x y one other less same. before_differs (key x) (key y) less (append_cancel_left front (key x) (key y) (sym (keyed x) ∙ (same ∙ keyed y))))
    (each_of (λ x. Unit {0}) xs (λ x. tt)) up

given_key : (peer : Peer) (opening : Opening) (b : Bool)
    → (opening_record (cond b (record opening { stage = Given peer.id }) opening)).key ≡ (opening_record opening).key
given_key peer opening true = refl
given_key peer opening false = refl

given_left : (peer : Peer) (opening : Opening) (b : Bool) → b ≡ false
    → opening_record (cond b (record opening { stage = Given peer.id }) opening) ≡ opening_record opening
given_left peer opening true is = absurd (true≢false is)
given_left peer opening false is = refl

closed_left : (peer : List ℕ) (opening : Opening) (stage : Stage) → opening.stage ≡ stage → is_given_to peer stage ≡ false → closed_stage peer stage ≡ stage
closed_left peer opening Waiting at is = refl
closed_left peer opening (Given node) at is = ap (λ b. cond b (Closed node) (Given node)) is
closed_left peer opening (Closed node) at is = refl

abbrev with_stage : Opening → Stage → Record
with_stage opening stage = opening_record (record opening { stage = stage })

joined_part : (peer : Peer) (openings : List Opening) (child : Bool) → AscendBy opening_key openings
    → Part 3 (puts_of (map opening_record (cond child (map (given_to peer) (filter (is_opening_of peer) openings)) [])))
    (map opening_record openings) (map opening_record (given_if child peer openings))
joined_part peer openings true up = changed_items 3 opening_record (λ x. refl) (given_to peer) (is_opening_of peer)
    (λ x. given_key peer x (is_opening_of peer x)) (λ x is. given_left peer x (is_opening_of peer x) is) openings
    (by_key_distinct opening_record opening_key (codes "o/") (λ x. refl) openings up)
joined_part peer openings false up = same_part 3 opening_record (λ x. refl) openings

pub opening_part : (act : Act) (openings : List Opening) → AscendBy opening_key openings
    → Part 3 (puts_of (map opening_record (new_openings act openings))) (map opening_record openings) (map opening_record (openings_by act openings))
opening_part (Opened group external token) openings up = item_part 3 opening_record (λ x. refl) opening_key (codes "o/") (λ x. refl)
    (record { group = group; external = external; token = token; stage = Waiting }) openings
opening_part (Joined kept) openings up = joined_part kept.peer openings kept.child up
opening_part (Confirmed peer) openings up = changed_items 3 opening_record (λ x. refl) (closed_for peer)
    (λ (opening : Opening). is_given_to peer opening.stage) (λ x. refl)
    (λ x is. ap (with_stage x) (closed_left peer x x.stage refl is)) openings
    (by_key_distinct opening_record opening_key (codes "o/") (λ x. refl) openings up)
opening_part (Wrote writer number rows) openings up = same_part 3 opening_record (λ x. refl) openings
opening_part Routed openings up = same_part 3 opening_record (λ x. refl) openings
opening_part (Loaded channel batch) openings up = same_part 3 opening_record (λ x. refl) openings
opening_part (Erred from channel error) openings up = same_part 3 opening_record (λ x. refl) openings
opening_part (Acked from acks) openings up = same_part 3 opening_record (λ x. refl) openings

-- AN ITEM THAT WAS PUT is found by a test that passes no other key
dropped_none : {A : Type 0} (p q : A → Bool) (xs : List A) → ((x : A) → p x ≡ true → q x ≡ false) → find p (filter q xs) ≡ None
dropped_none p q [] drops = refl
dropped_none p q (x ∷ xs) drops = on (q x) (p x) refl refl (dropped_none p q xs drops)
  where
    on : (b h : Bool) → q x ≡ b → p x ≡ h → find p (filter q xs) ≡ None → find p (cond b (x ∷ filter q xs) (filter q xs)) ≡ None
    on true true kept pass rest = absurd (true≢false (sym kept ∙ drops x pass))
    on true false kept pass rest = ap (λ b. cond b (Some x) (find p (filter q xs))) pass ∙ rest
    on false h kept pass rest = rest

find_later : {A : Type 0} (p : A → Bool) (xs ys : List A) → find p xs ≡ None → find p (xs ++ ys) ≡ find p ys
find_later p [] ys none = refl
find_later p (x ∷ xs) ys none = on (p x) none (find_later p xs ys)
  where
    on : (b : Bool) → cond b (Some x) (find p xs) ≡ None → (find p xs ≡ None → find p (xs ++ ys) ≡ find p ys)
        → cond b (Some x) (find p (xs ++ ys)) ≡ find p ys
    on true none rest = absurd (true≢false (ap (λ o. elim o [ None ↦ false | Some y ↦ true ]) none))
    on false none rest = rest none

pub put_found : {A : Type 0} (key : A → List ℕ) (p : A → Bool) (new : A) (xs : List A) → p new ≡ true → ((x : A) → p x ≡ true → key x ≡ key new)
    → find p (with_item key new xs) ≡ Some new
put_found key p new xs pass keyed =
    find_later p (filter (λ x. is_before (key x) (key new)) xs) (new ∷ filter (λ x. is_before (key new) (key x)) xs)
    (dropped_none p (λ x. is_before (key x) (key new)) xs
    (λ x is. ap (λ k. is_before k (key new)) (keyed x is) ∙ ap is_lt (tied_itself nat_list_cmp_total (key new))))
    ∙ ap (λ b. cond b (Some new) (find p (filter (λ x. is_before (key new) (key x)) xs))) pass

-- WRITERS
pub writer_found : (writers : List WriterLast) (new : WriterLast) → writer_of (with_item writer_key new writers) new.writer ≡ Some new
writer_found writers new =
    put_found writer_key (λ (x : WriterLast). bytes_eq (writer_key x) (writer_key new)) new writers (itself (writer_key new))
    (λ x is. equal (writer_key x) (writer_key new) is)

writer_put : (writers : List WriterLast) (new : WriterLast)
    → Part 4 (put_if (option_map writer_record (writer_of (with_item writer_key new writers) new.writer)))
    (map writer_record writers) (map writer_record (with_item writer_key new writers))
writer_put writers new =
    subst (λ found. Part 4 (put_if (option_map writer_record found))
    (map writer_record writers) (map writer_record (with_item writer_key new writers)))
    (sym (writer_found writers new)) (item_part 4 writer_record (λ x. refl) writer_key (codes "w/") (λ x. refl) new writers)

pub writer_part : (config : Config) (state : State) (act : Act)
    → Part 4 (writer_edits (state_after config state act) act) (map writer_record state.writers) (map writer_record (state_after config state act).writers)
writer_part config state (Wrote writer number rows) = writer_put state.writers (record { writer = writer; number = number; first = _; count = _ })
writer_part config state (Opened group external token) = same_part 4 writer_record (λ x. refl) state.writers
writer_part config state (Joined kept) = same_part 4 writer_record (λ x. refl) state.writers
writer_part config state (Confirmed peer) = same_part 4 writer_record (λ x. refl) state.writers
writer_part config state Routed = same_part 4 writer_record (λ x. refl) state.writers
writer_part config state (Loaded channel batch) = same_part 4 writer_record (λ x. refl) state.writers
writer_part config state (Erred from channel error) = same_part 4 writer_record (λ x. refl) state.writers
writer_part config state (Acked from acks) = same_part 4 writer_record (λ x. refl) state.writers

-- CHANGES AND BATCHES: their numbers are counted, and so their keys are distinct
pub counted_small : (last n : ℕ) → last ≤ most_count → is_counted last n ≡ true → n < 2 ^ 64
counted_small last n few is = small last n few (right_true (nat_le 1 n) (nat_le n last) is)
  where
    small : (last n : ℕ) → last ≤ 2 ^ 62 → nat_le n last ≡ true → n < 2 ^ 64
    small last n few is = let low : n ≤ last = grind (arith, nat_tests) in omega (arith, low, few)

numbers_apart : (front : List ℕ) (m n : ℕ) → m < 2 ^ 64 → n < 2 ^ 64 → m < n → front ++ id_text m ≢ front ++ id_text n
numbers_apart front m n small also less same =
    let one : m ≡ n = same_id m n small also (append_cancel_left front (id_text m) (id_text n) same) in absurd (omega (arith, one, less))

pub changes_distinct : (config : Config) (state : State) → IsSoundState config state → Distinct (change_record config) state.changes
changes_distinct config state sound =
    ascending_distinct (change_record config) (λ (c : Change). c.id < 2 ^ 64) (λ (a b : Change). a.id < b.id) state.changes
    (λ x y small also less. numbers_apart (codes "d/") x.id y.id small also less)
    (each_listed (is_counted_change state.counts) (λ (c : Change). c.id < 2 ^ 64) state.changes
    (λ c is. counted_small state.counts.last_change c.id sound.counts.last_change
    (left_true (is_counted state.counts.last_change c.id) (is_counted state.counts.last_tx c.tx) is)) sound.counted)
    sound.lists.changes

pub batches_distinct : (config : Config) (state : State) → IsSoundState config state → Distinct (batch_record config) state.batches
batches_distinct config state sound =
    ascending_distinct (batch_record config) (λ (b : OutBatch). b.id < 2 ^ 64) (λ (a b : OutBatch). a.id < b.id) state.batches
    (λ x y small also less. numbers_apart (codes "b/") x.id y.id small also less)
    (each_listed (is_counted_batch state) (λ (b : OutBatch). b.id < 2 ^ 64) state.batches
    (λ b is. counted_small state.counts.last_batch b.id sound.counts.last_batch
    (left_true (is_counted state.counts.last_batch b.id) _ is)) sound.sent)
    sound.lists.batches

no_change : (config : Config) (changes : List Change) → Part 6 [] (map (change_record config) changes) (map (change_record config) (changes ++ []))
no_change config changes =
    subst (λ list. Part 6 [] (map (change_record config) changes) (map (change_record config) list)) (sym (append-nil changes))
    (same_part 6 (change_record config) (λ x. refl) changes)

pub change_part : (config : Config) (state : State) (act : Act) → IsSoundState config (state_after config state act)
    → Part 6 (change_edits config state (state_after config state act) act)
    (map (change_record config) state.changes) (map (change_record config) (state_after config state act).changes)
change_part config state (Wrote writer number rows) sound =
    added_after 6 (change_record config) (λ x. refl) state.changes _ (changes_distinct config (state_after config state (Wrote writer number rows)) sound)
change_part config state (Loaded channel batch) sound =
    added_after 6 (change_record config) (λ x. refl) state.changes _ (changes_distinct config (state_after config state (Loaded channel batch)) sound)
change_part config state (Opened group external token) sound = no_change config state.changes
change_part config state (Joined kept) sound = no_change config state.changes
change_part config state (Confirmed peer) sound = no_change config state.changes
change_part config state Routed sound = no_change config state.changes
change_part config state (Erred from channel error) sound = no_change config state.changes
change_part config state (Acked from acks) sound = no_change config state.changes
