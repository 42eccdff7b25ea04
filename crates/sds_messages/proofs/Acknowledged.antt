-- In a sound state the batches of a lane that are acknowledged come before those that wait.
use Rattle.std.proofs.Common.{◌≡◌, ℕ, Bool, true, false, cond, not, ◌&&◌, ◌||◌, ◌==◌, List, [], ◌∷◌, ◌++◌, length, drop, refl, sym, ap, subst, ◌∙◌, arith, true≢false, filter, All, AllPairs}
use Rattle.std.specs.Prelude.{IsTrue}
use Rattle.std.specs.Str.{bytes_eq}
use Rattle.std.proofs.Math.Seq.{drop-append_seam}
use Rattle.std.proofs.lemmas.Bool.Decides.{nat_tests}
use Rattle.std.proofs.lemmas.List.Elements.{All-head, All-tail}
use Rattle.std.proofs.lemmas.Slice.Eq.{bytes_eq-Decides}
use Rattle.sds_trade.proofs.Lists.{pairs_head, pairs_tail}
use Rattle.sds_types.specs.declared.batch.OutBatch.{OutBatch}
use Rattle.sds_history.specs.history.Acts.{State}
use Rattle.sds_history.specs.history.Messages.{acked_count, is_in_lane, lane_made, lane_waiting}
use Rattle.sds_history.specs.history.SoundStates.{acks_ascend}
use Rattle.sds_history.specs.history.Standings.{is_acked, same_lane}

abbrev acked : OutBatch → Bool
acked batch = is_acked batch.standing

abbrev waits : OutBatch → Bool
waits batch = not (is_acked batch.standing)

abbrev InOrder : OutBatch → OutBatch → Type 0
InOrder a b = IsTrue (acks_ascend a b)

-- LANES. Two batches of a lane are of one lane
one_number : (a b c : ℕ) → (a == c) ≡ true → (b == c) ≡ true → (a == b) ≡ true
one_number a b c first second = grind (arith, nat_tests, first, second)

one_text : (a b c : List ℕ) → bytes_eq a c ≡ true → bytes_eq b c ≡ true → bytes_eq a b ≡ true
one_text a b c first second = (bytes_eq-Decides a b).1 ((bytes_eq-Decides a c).0 first ∙ sym ((bytes_eq-Decides b c).0 second))

left : (a b : Bool) → (a && b) ≡ true → a ≡ true
left true b is = refl
left false b is = is

right : (a b : Bool) → (a && b) ≡ true → b ≡ true
right true b is = is
right false b is = absurd (true≢false (sym is))

both : (a b : Bool) → a ≡ true → b ≡ true → (a && b) ≡ true
both true b is also = also
both false b is also = is

one_lane : (to : List ℕ) (channel : ℕ) (a b : OutBatch) → is_in_lane to channel a ≡ true → is_in_lane to channel b ≡ true → same_lane a b ≡ true
one_lane to channel a b first second =
    both (a.channel == b.channel) (bytes_eq a.peer b.peer)
    (one_number a.channel b.channel channel (left (a.channel == channel) (bytes_eq a.peer to) first) (left (b.channel == channel) (bytes_eq b.peer to) second))
    (one_text a.peer b.peer to (right (a.channel == channel) (bytes_eq a.peer to) first) (right (b.channel == channel) (bytes_eq b.peer to) second))

-- no batch after one that waits is acknowledged
later_waits : (lane a b : Bool) → lane ≡ true → a ≡ false → (not lane || (a || not b)) ≡ true → b ≡ false
later_waits true false true is isnt order = sym order
later_waits true false false is isnt order = refl
later_waits true true b is isnt order = absurd (true≢false isnt)
later_waits false a b is isnt order = absurd (true≢false (sym is))

module _ (to : List ℕ) (channel : ℕ) where
  abbrev lane : List OutBatch → List OutBatch
  lane batches = filter (is_in_lane to channel) batches

  none_acked : (first : OutBatch) (batches : List OutBatch) → is_in_lane to channel first ≡ true → acked first ≡ false → All (InOrder first) batches
      → (filter acked (lane batches) ≡ []) × (filter waits (lane batches) ≡ lane batches)
  none_acked first [] within wait order = (refl, refl)
  none_acked first (batch ∷ batches) within wait order =
      on (is_in_lane to channel batch) refl (none_acked first batches within wait (All-tail (InOrder first) batch batches order))
    where
      waiting : is_in_lane to channel batch ≡ true → acked batch ≡ false
      waiting is = later_waits (same_lane first batch) (acked first) (acked batch) (one_lane to channel first batch within is) wait (All-head (InOrder first) batch batches order)

      one : (a : Bool) → a ≡ false → (filter acked (lane batches) ≡ []) × (filter waits (lane batches) ≡ lane batches)
          → (cond a (batch ∷ filter acked (lane batches)) (filter acked (lane batches)) ≡ [])
          × (cond (not a) (batch ∷ filter waits (lane batches)) (filter waits (lane batches)) ≡ batch ∷ lane batches)
      one true isnt rest = absurd (true≢false isnt)
      one false isnt rest = (rest.0, ap (λ bs. batch ∷ bs) rest.1)

      on : (b : Bool) → is_in_lane to channel batch ≡ b → (filter acked (lane batches) ≡ []) × (filter waits (lane batches) ≡ lane batches)
          → (filter acked (cond b (batch ∷ lane batches) (lane batches)) ≡ []) × (filter waits (cond b (batch ∷ lane batches) (lane batches)) ≡ cond b (batch ∷ lane batches) (lane batches))
      on true is rest = one (acked batch) (waiting is) rest
      on false is rest = rest

  firsts : (batches : List OutBatch) → AllPairs InOrder batches → lane batches ≡ filter acked (lane batches) ++ filter waits (lane batches)
  firsts [] order = refl
  firsts (batch ∷ batches) order = on (is_in_lane to channel batch) refl (firsts batches (pairs_tail InOrder batch batches order))
    where
      one : (a : Bool) → acked batch ≡ a → is_in_lane to channel batch ≡ true → lane batches ≡ filter acked (lane batches) ++ filter waits (lane batches)
          → batch ∷ lane batches
          ≡ cond a (batch ∷ filter acked (lane batches)) (filter acked (lane batches)) ++ cond (not a) (batch ∷ filter waits (lane batches)) (filter waits (lane batches))
      one true is within rest = ap (λ bs. batch ∷ bs) rest
      one false is within rest =
          let none = none_acked batch batches within is (pairs_head InOrder batch batches order) in
          sym (ap (λ bs. bs ++ batch ∷ filter waits (lane batches)) none.0 ∙ ap (λ bs. batch ∷ bs) none.1)

      on : (b : Bool) → is_in_lane to channel batch ≡ b → lane batches ≡ filter acked (lane batches) ++ filter waits (lane batches)
          → cond b (batch ∷ lane batches) (lane batches) ≡ filter acked (cond b (batch ∷ lane batches) (lane batches)) ++ filter waits (cond b (batch ∷ lane batches) (lane batches))
      on true is rest = one (acked batch) refl is rest
      on false is rest = rest

-- so what comes after the acknowledged ones is what waits
pub after_acked : (state : State) (to : List ℕ) (channel : ℕ) → AllPairs InOrder state.batches
    → drop (acked_count state to channel) (lane_made state to channel) ≡ lane_waiting state to channel
after_acked state to channel order =
    ap (drop (acked_count state to channel)) (firsts to channel state.batches order)
    ∙ drop-append_seam (filter acked (lane_made state to channel)) (lane_waiting state to channel)
