-- Each change that a routing run took stands once in the batches to the peers that its routers named.
use Rattle.std.proofs.Common.{◌≡◌, ℕ, ◌+◌, ◌<◌, ◌≤◌, Bool, true, false, ◌&&◌, ◌==◌, cond, List, [], ◌∷◌, ◌++◌, length, Option, None, Some, refl, sym, ap, ◌∙◌, arith, append-nil, length-append}
use Rattle.std.specs.Prelude.{nat_lt, nat_le, if◌then◌else◌, All, map, filter, count_by}
use Rattle.std.specs.List.{flat_map}
use Rattle.std.specs.Str.{bytes_eq}
use Rattle.std.proofs.lemmas.List.{map-append}
use Rattle.std.proofs.lemmas.List.Sums.{sum_by-cons, sum_by-append}
use Rattle.std.proofs.lemmas.List.Concat.{flat_map-cons}
use Rattle.std.proofs.lemmas.Slice.Eq.{bytes_eq-Decides}
use Rattle.std.proofs.lemmas.Bool.Decides.{nat_tests}
use Rattle.sds_value.specs.declared.row.Peer.{Peer}
use Rattle.sds_types.specs.declared.config.Config.{Config}
use Rattle.sds_types.specs.declared.batch.OutBatch.{OutBatch}
use Rattle.sds_types.specs.declared.row.Change.{Change}
use Rattle.sds_first_spec.specs.declared.row.Done.{Done}
use Rattle.sds_first_spec.specs.Batches.{Piece, batch_of, batches_from, lane_pieces}
use Rattle.sds_first_spec.specs.Changes.{changes_from, captured_channel, is_own_source, onto_changes}
use Rattle.sds_first_spec.specs.Cuts.{cut, joined}
use Rattle.sds_first_spec.specs.Acks.{standing_after}
use Rattle.sds_first_spec.specs.Acts.{Act}
use Rattle.sds_first_spec.specs.Acts.Act.{Wrote, Routed, Loaded, Acked}
use Rattle.sds_first_spec.specs.History.{captured_of, last_change_of, routed_of, batches_of, last_batch_of, tables_of, unrouted_of, next_pieces}
use Rattle.sds_first_spec.specs.InStep.{times_in, times_named, tables_at_routing}
use Rattle.sds_first_spec.specs.One.{one, paired}
use Rattle.sds_first_spec.specs.Capture.{steps_of}
use Rattle.sds_first_spec.specs.Outcome.{load_steps}
use Rattle.sds_first_spec.specs.Routing.{is_named}
use Rattle.sds_types.specs.declared.row.RowStep.{RowStep}
use Rattle.sds_types.specs.declared.ack.Ack.{Ack}
use Rattle.sds_types.specs.declared.peer.KeptPeer.{KeptPeer}
use Rattle.sds_first_spec.proofs.CutLaw.{cut_is_cut}
use Rattle.sds_first_laws.proofs.Counted.{BatchUpTo, act_lowers_none, batches_within}
use Rattle.sds_first_laws.specs.Once.{StaysRoutedOnce}
use Rattle.sds_first_laws.proofs.Each.{Each, all_from_each, each_append, each_map, each_weaker, each_filter, each_both, each_passes}

abbrev one_if : Bool → ℕ
one_if t = cond t 1 0

-- CHANGES rise in number
abbrev RisingTo : ℕ → ℕ → List Change → Type 0
RisingTo low high [] = low ≤ high
RisingTo low high (change ∷ changes) = (low < change.id) × RisingTo change.id high changes

rise_by : (o : Option ℕ) (low high n tx : ℕ) (source : Option (List ℕ)) (done : Done) (without more : List Change) → low ≤ n
    → n + length (onto_changes o (n + 1) tx source done without more) ≡ high
    → (n + length without ≡ high → RisingTo low high without) → (n + 1 + length more ≡ high → RisingTo (n + 1) high more)
    → RisingTo low high (onto_changes o (n + 1) tx source done without more)
rise_by None low high n tx source done without more le fits on next = on fits
rise_by (Some channel) low high n tx source done without more le fits on next = (omega (arith, le), next (omega (arith, fits)))

changes_rise : (config : Config) (group : List ℕ) (source : Option (List ℕ)) (low high n tx : ℕ) (dones : List Done) → low ≤ n
    → n + length (changes_from config group source (n + 1) tx dones) ≡ high → RisingTo low high (changes_from config group source (n + 1) tx dones)
changes_rise config group source low high n tx [] le fits = omega (arith, le, fits)
changes_rise config group source low high n tx (done ∷ dones) le fits =
    rise_by (captured_channel config group (is_own_source source) done.step) low high n tx source done _ _ le fits
    (λ f. changes_rise config group source low high n tx dones le f)
    (λ f. changes_rise config group source (n + 1) high (n + 1) tx dones (omega arith) f)

above_all : (n low high : ℕ) (changes : List Change) → n ≤ low → RisingTo low high changes → Each (λ (c : Change). n < c.id) changes
above_all n low high [] le rising = tt
above_all n low high (c ∷ changes) le rising = (omega (arith, le, rising.0), above_all n c.id high changes (omega (arith, le, rising.0)) rising.1)

-- COUNTS of a number among changes
abbrev cnt : ℕ → List Change → ℕ
cnt id changes = count_by (λ (n : ℕ). n == id) (map (λ (c : Change). c.id) changes)

cnt_cons : (id : ℕ) (c : Change) (changes : List Change) → cnt id (c ∷ changes) ≡ one_if (c.id == id) + cnt id changes
cnt_cons id c changes = sum_by-cons (λ (n : ℕ). cond (n == id) 1 0) c.id (map (λ (c : Change). c.id) changes)

cnt_append : (id : ℕ) (first more : List Change) → cnt id (first ++ more) ≡ cnt id first + cnt id more
cnt_append id first more =
    ap (λ (l : List ℕ). count_by (λ (n : ℕ). n == id) l) (map-append (λ (c : Change). c.id) first more)
    ∙ sum_by-append (λ (n : ℕ). cond (n == id) 1 0) (map (λ (c : Change). c.id) first) (map (λ (c : Change). c.id) more)

apart : (a b : ℕ) → a < b → (b == a) ≡ false
apart a b lt = grind (arith, nat_tests)

apart_below : (a b : ℕ) → a < b → (a == b) ≡ false
apart_below a b lt = grind (arith, nat_tests)

cnt_none : (id : ℕ) (changes : List Change) → Each (λ (c : Change). id < c.id) changes → cnt id changes ≡ 0
cnt_none id [] above = refl
cnt_none id (c ∷ changes) above =
    let off : one_if (c.id == id) ≡ 0 = rw (apart id c.id above.0) refl in
    let e : cnt id (c ∷ changes) ≡ one_if (c.id == id) + cnt id changes = cnt_cons id c changes in
    let n : cnt id changes ≡ 0 = cnt_none id changes above.1 in
    omega (arith, off, e, n)

cnt_two : (p r : Change → Bool) (id : ℕ) (c : Change) (changes : List Change) (a b : Bool) → r c ≡ a → p c ≡ b
    → cnt id (filter p (filter r (c ∷ changes))) ≡ one_if (a && (b && c.id == id)) + cnt id (filter p (filter r changes))
cnt_two p r id c changes true true is also = rw is (rw also (cnt_cons id c (filter p (filter r changes))))
cnt_two p r id c changes true false is also = rw is (rw also (omega arith))
cnt_two p r id c changes false b is also = rw is (omega arith)

one_at : (b : Bool) (n id : ℕ) → n ≡ id → one_if (true && (b && n == id)) ≡ one_if b
one_at true n id e = let h : (n == id) ≡ true = grind (arith, nat_tests) in rw h refl
one_at false n id e = refl

none_at : (a b t : Bool) → t ≡ false → one_if (a && (b && t)) ≡ 0
none_at true true t off = rw off refl
none_at true false t off = refl
none_at false b t off = refl

abbrev Once : (Change → Bool) → (Change → Bool) → List Change → Change → Type 0
Once p r changes c = r c ≡ true → cnt c.id (filter p (filter r changes)) ≡ one_if (p c)

once : (p r : Change → Bool) (low high : ℕ) (changes : List Change) → RisingTo low high changes → Each (Once p r changes) changes
once p r low high [] rising = tt
once p r low high (c ∷ changes) rising =
    let above : Each (λ (x : Change). c.id < x.id) changes = above_all c.id c.id high changes (omega arith) rising.1 in
    let none : cnt c.id (filter p (filter r changes)) ≡ 0 = cnt_none c.id (filter p (filter r changes)) (each_filter (λ (x : Change). c.id < x.id) p (filter r changes) (each_filter (λ (x : Change). c.id < x.id) r changes above)) in (
      (λ is. (let e : cnt c.id (filter p (filter r (c ∷ changes))) ≡ one_if (true && (p c && c.id == c.id)) + cnt c.id (filter p (filter r changes)) = cnt_two p r c.id c changes true (p c) is refl in
          let f : one_if (true && (p c && c.id == c.id)) ≡ one_if (p c) = one_at (p c) c.id c.id refl in omega (arith, e, f, none))),
      each_both (λ (x : Change). c.id < x.id) (Once p r changes) (Once p r (c ∷ changes))
          (λ x lt was is. (let e : cnt x.id (filter p (filter r (c ∷ changes))) ≡ one_if (r c && (p c && c.id == x.id)) + cnt x.id (filter p (filter r changes)) = cnt_two p r x.id c changes (r c) (p c) refl refl in
          let f : one_if (r c && (p c && c.id == x.id)) ≡ 0 = none_at (r c) (p c) (c.id == x.id) (apart_below c.id x.id lt) in
          let g : cnt x.id (filter p (filter r changes)) ≡ one_if (p x) = was is in omega (arith, e, f, g))) changes above (once p r c.id high changes rising.1),
    )

-- BATCHES of one lane
abbrev pub lane_piece : List ℕ → List Change → Piece
lane_piece k piece = record { peer = k; channel = 0; changes = piece }

abbrev in_batch : List ℕ → ℕ → ℕ → OutBatch → ℕ
in_batch k channel id b = if bytes_eq b.peer k && b.channel == channel then count_by (λ (c : ℕ). c == id) b.changes else 0

abbrev given : Bool → ℕ → ℕ
given t n = if t then n else 0

given_add : (t : Bool) (a b : ℕ) → given t a + given t b ≡ given t (a + b)
given_add true a b = refl
given_add false a b = refl

times_new : (k : List ℕ) (channel id n : ℕ) (cuts : List (List Change)) → times_in k channel id (batches_from n (map (lane_piece k) cuts)) ≡ given (0 == channel) (cnt id (joined cuts))
times_new k channel id n [] = nothing (0 == channel) where
  nothing : (t : Bool) → 0 ≡ given t 0
  nothing true = refl
  nothing false = refl
times_new k channel id n (piece ∷ cuts) =
    let e : times_in k channel id (batches_from n (map (lane_piece k) (piece ∷ cuts)))
    ≡ in_batch k channel id (batch_of n (lane_piece k piece)) + times_in k channel id (batches_from (n + 1) (map (lane_piece k) cuts))
    = sum_by-cons (in_batch k channel id) (batch_of n (lane_piece k piece)) (batches_from (n + 1) (map (lane_piece k) cuts)) in
    let here : in_batch k channel id (batch_of n (lane_piece k piece)) ≡ given (0 == channel) (cnt id piece) = rw ((bytes_eq-Decides k k).1 refl) refl in
    let later : times_in k channel id (batches_from (n + 1) (map (lane_piece k) cuts)) ≡ given (0 == channel) (cnt id (joined cuts)) = times_new k channel id (n + 1) cuts in
    let sum : given (0 == channel) (cnt id piece) + given (0 == channel) (cnt id (joined cuts)) ≡ given (0 == channel) (cnt id piece + cnt id (joined cuts)) =
    given_add (0 == channel) (cnt id piece) (cnt id (joined cuts)) in
    e ∙ (ap (λ (m : ℕ). m + times_in k channel id (batches_from (n + 1) (map (lane_piece k) cuts))) here
    ∙ (ap (λ (m : ℕ). given (0 == channel) (cnt id piece) + m) later ∙ (sum ∙ ap (λ (m : ℕ). given (0 == channel) m) (sym (cnt_append id piece (joined cuts))))))

-- a number above those of the batches stands in none of them
no_numbers : (high id : ℕ) (ids : List ℕ) → high < id → Each (λ (n : ℕ). n ≤ high) ids → count_by (λ (n : ℕ). n == id) ids ≡ 0
no_numbers high id [] lt each = refl
no_numbers high id (n ∷ ids) lt each =
    let off : one_if (n == id) ≡ 0 = rw (apart_below n id (omega (arith, lt, each.0))) refl in
    let e : count_by (λ (n : ℕ). n == id) (n ∷ ids) ≡ one_if (n == id) + count_by (λ (n : ℕ). n == id) ids = sum_by-cons (λ (n : ℕ). cond (n == id) 1 0) n ids in
    let rest : count_by (λ (n : ℕ). n == id) ids ≡ 0 = no_numbers high id ids lt each.1 in
    omega (arith, off, e, rest)

given_none : (t : Bool) (n : ℕ) → n ≡ 0 → given t n ≡ 0
given_none true n is = is
given_none false n is = refl

times_none : (k : List ℕ) (channel high id : ℕ) (batches : List OutBatch) → high < id → Each (BatchUpTo high) batches → times_in k channel id batches ≡ 0
times_none k channel high id [] lt each = refl
times_none k channel high id (b ∷ batches) lt each =
    let e : times_in k channel id (b ∷ batches) ≡ in_batch k channel id b + times_in k channel id batches = sum_by-cons (in_batch k channel id) b batches in
    let here : in_batch k channel id b ≡ 0 = given_none (bytes_eq b.peer k && b.channel == channel) _ (no_numbers high id b.changes lt each.0) in
    let rest : times_in k channel id batches ≡ 0 = times_none k channel high id batches lt each.1 in
    omega (arith, e, here, rest)

times_acked : (k : List ℕ) (channel id : ℕ) (all : List OutBatch) (acks : List Ack) (batches : List OutBatch)
    → times_in k channel id (map (λ (b : OutBatch). record b { standing = standing_after all acks b b.standing }) batches) ≡ times_in k channel id batches
times_acked k channel id all acks [] = refl
times_acked k channel id all acks (b ∷ batches) =
    let e : times_in k channel id (b ∷ batches) ≡ in_batch k channel id b + times_in k channel id batches = sum_by-cons (in_batch k channel id) b batches in
    sum_by-cons (in_batch k channel id) (record b { standing = standing_after all acks b b.standing }) (map (λ (b : OutBatch). record b { standing = standing_after all acks b b.standing }) batches)
    ∙ (ap (λ (m : ℕ). in_batch k channel id b + m) (times_acked k channel id all acks batches) ∙ sym e)

-- ROUTING under the one configuration
abbrev pub goes : Peer → Peer → List Act → Change → Bool
goes me other acts c = c.channel == 0 && is_named one me (tables_of one (paired me other) acts) c other

pub flat_one : {X Y : Type 0} (f : X → List Y) (x : X) → flat_map f (x ∷ []) ≡ f x
flat_one f x = flat_map-cons f x [] ∙ append-nil (f x)

pub pieces_are : (me other : Peer) (acts : List Act)
    → next_pieces one (paired me other) acts ≡ map (lane_piece other.id) (cut 10000 (filter (goes me other acts) (unrouted_of one (paired me other) acts)))
pieces_are me other acts =
    flat_one (λ (channel : ℕ). flat_map (lane_pieces one me (tables_of one (paired me other) acts) (unrouted_of one (paired me other) acts) channel) (paired me other).peers) 0
    ∙ flat_one (lane_pieces one me (tables_of one (paired me other) acts) (unrouted_of one (paired me other) acts) 0) (record { peer = other; token = []; child = false })

new_times : (me other : Peer) (acts : List Act) (channel id n : ℕ)
    → times_in other.id channel id (batches_from n (next_pieces one (paired me other) acts)) ≡ given (0 == channel) (cnt id (filter (goes me other acts) (unrouted_of one (paired me other) acts)))
new_times me other acts channel id n =
    ap (λ (pieces : List Piece). times_in other.id channel id (batches_from n pieces)) (pieces_are me other acts)
    ∙ (times_new other.id channel id n (cut 10000 (filter (goes me other acts) (unrouted_of one (paired me other) acts)))
    ∙ ap (λ (l : List Change). given (0 == channel) (cnt id l)) (cut_is_cut 10000 (filter (goes me other acts) (unrouted_of one (paired me other) acts)) (omega arith)).1)

-- HISTORIES
abbrev AtFirst : Option ℕ → Type 0
AtFirst None = Unit {0}
AtFirst (Some channel) = channel ≡ 0

first_if : (a b : Bool) → AtFirst (if a then (if b then Some 0 else None) else None)
first_if true true = refl
first_if true false = tt
first_if false b = tt

captured_first : (group : List ℕ) (own : Bool) (step : RowStep) → AtFirst (captured_channel one group own step)
captured_first group own step = first_if _ _

first_by : (o : Option ℕ) (id tx : ℕ) (source : Option (List ℕ)) (done : Done) (without more : List Change) → AtFirst o → Each (λ (c : Change). c.channel ≡ 0) without → Each (λ (c : Change). c.channel ≡ 0) more
    → Each (λ (c : Change). c.channel ≡ 0) (onto_changes o id tx source done without more)
first_by None id tx source done without more is on next = on
first_by (Some channel) id tx source done without more is on next = (is, next)

all_first : (group : List ℕ) (source : Option (List ℕ)) (id tx : ℕ) (dones : List Done) → Each (λ (c : Change). c.channel ≡ 0) (changes_from one group source id tx dones)
all_first group source id tx [] = tt
all_first group source id tx (done ∷ dones) =
    first_by (captured_channel one group (is_own_source source) done.step) id tx source done _ _ (captured_first group (is_own_source source) done.step)
    (all_first group source id tx dones) (all_first group source (id + 1) tx dones)

captured_all_first : (me other : Peer) (acts : List Act) → Each (λ (c : Change). c.channel ≡ 0) (captured_of one (paired me other) acts)
captured_all_first me other [] = tt
captured_all_first me other (Wrote writer number rows ∷ acts) = each_append (λ (c : Change). c.channel ≡ 0) (captured_of one (paired me other) acts) _ (captured_all_first me other acts) (all_first me.group None _ _ (steps_of one rows))
captured_all_first me other (Routed ∷ acts) = captured_all_first me other acts
captured_all_first me other (Loaded from channel batch rows ∷ acts) =
    each_append (λ (c : Change). c.channel ≡ 0) (captured_of one (paired me other) acts) _ (captured_all_first me other acts) (all_first me.group (Some from) _ _ (load_steps one (tables_of one (paired me other) acts) rows))
captured_all_first me other (Acked from acks ∷ acts) = captured_all_first me other acts

rise_further : (low n high : ℕ) (changes : List Change) → low ≤ n → RisingTo n high changes → RisingTo low high changes
rise_further low n high [] le rising = omega (arith, le, rising)
rise_further low n high (c ∷ changes) le rising = (omega (arith, le, rising.0), rising.1)

rise_append : (low middle high : ℕ) (first more : List Change) → RisingTo low middle first → RisingTo middle high more → RisingTo low high (first ++ more)
rise_append low middle high [] more rising on = rise_further low middle high more rising on
rise_append low middle high (c ∷ first) more rising on = (rising.0, rise_append c.id middle high first more rising.1 on)

captured_rise : (me other : Peer) (acts : List Act) → RisingTo 0 (last_change_of one (paired me other) acts) (captured_of one (paired me other) acts)
captured_rise me other [] = omega arith
captured_rise me other (Wrote writer number rows ∷ acts) =
    rise_append 0 (last_change_of one (paired me other) acts) _ (captured_of one (paired me other) acts) _ (captured_rise me other acts)
    (rw (length-append (captured_of one (paired me other) acts) _) (changes_rise one me.group None _ _ (last_change_of one (paired me other) acts) _ (steps_of one rows) (omega arith) (omega arith)))
captured_rise me other (Routed ∷ acts) = captured_rise me other acts
captured_rise me other (Loaded from channel batch rows ∷ acts) =
    rise_append 0 (last_change_of one (paired me other) acts) _ (captured_of one (paired me other) acts) _ (captured_rise me other acts)
    (rw (length-append (captured_of one (paired me other) acts) _)
    (changes_rise one me.group (Some from) _ _ (last_change_of one (paired me other) acts) _ (load_steps one (tables_of one (paired me other) acts) rows) (omega arith) (omega arith)))
captured_rise me other (Acked from acks ∷ acts) = captured_rise me other acts

routed_le : (me other : Peer) (acts : List Act) → routed_of one (paired me other) acts ≤ last_change_of one (paired me other) acts
routed_le me other [] = omega arith
routed_le me other (Wrote writer number rows ∷ acts) =
    let a : routed_of one (paired me other) acts ≤ last_change_of one (paired me other) acts = routed_le me other acts in
    let b : last_change_of one (paired me other) acts ≤ last_change_of one (paired me other) (Wrote writer number rows ∷ acts) = (act_lowers_none one (paired me other) (Wrote writer number rows) acts).last_change in omega (arith, a, b)
routed_le me other (Routed ∷ acts) = omega arith
routed_le me other (Loaded from channel batch rows ∷ acts) =
    let a : routed_of one (paired me other) acts ≤ last_change_of one (paired me other) acts = routed_le me other acts in
    let b : last_change_of one (paired me other) acts ≤ last_change_of one (paired me other) (Loaded from channel batch rows ∷ acts) = (act_lowers_none one (paired me other) (Loaded from channel batch rows) acts).last_change in omega (arith, a, b)
routed_le me other (Acked from acks ∷ acts) = routed_le me other acts

within_routed : (me other : Peer) (acts : List Act) → Each (BatchUpTo (routed_of one (paired me other) acts)) (batches_of one (paired me other) acts)
within_routed me other [] = tt
within_routed me other (Wrote writer number rows ∷ acts) = within_routed me other acts
within_routed me other (Routed ∷ acts) = batches_within one me (record { peer = other; token = []; child = false } ∷ []) (Routed ∷ acts)
within_routed me other (Loaded from channel batch rows ∷ acts) = within_routed me other acts
within_routed me other (Acked from acks ∷ acts) = each_map (BatchUpTo (routed_of one (paired me other) acts)) _ (batches_of one (paired me other) acts) (within_routed me other acts)

-- RIGHT: what is said of a change
abbrev named_times : Peer → Peer → List Act → Change → ℕ → ℕ
named_times me other acts c channel = if c.channel == channel && is_named one me (tables_at_routing one (paired me other) c.id acts) c other then 1 else 0

abbrev Right : Peer → Peer → List Act → Change → Type 0
Right me other acts c = nat_le c.id (routed_of one (paired me other) acts) ≡ true → (channel : ℕ) → times_in other.id channel c.id (batches_of one (paired me other) acts) ≡ named_times me other acts c channel

not_yet : (routed last id : ℕ) → routed ≤ last → last < id → nat_le id routed ≡ true → ⊥
not_yet routed last id le lt is = grind (arith, nat_tests)

new_right : (me other : Peer) (act : Act) (acts : List Act) (last high : ℕ) (more : List Change) → routed_of one (paired me other) (act ∷ acts) ≤ last → RisingTo last high more → Each (Right me other (act ∷ acts)) more
new_right me other act acts last high more le rising =
    each_weaker (λ (c : Change). last < c.id) (Right me other (act ∷ acts)) (λ c lt is. absurd (not_yet (routed_of one (paired me other) (act ∷ acts)) last c.id le lt is)) more
    (above_all last last high more (omega arith) rising)

behind : (id routed n : ℕ) → nat_le id routed ≡ true → nat_lt routed n ≡ true → id < n
behind id routed n le lt = grind (arith, nat_tests)

ahead : (id routed : ℕ) → nat_le id routed ≡ false → routed < id
ahead id routed off = grind (arith, nat_tests)

is_ahead : (id routed : ℕ) → nat_le id routed ≡ false → nat_lt routed id ≡ true
is_ahead id routed off = grind (arith, nat_tests)

by_first : (t b : Bool) → given t (one_if (true && b)) ≡ (if t && b then 1 else 0)
by_first true true = refl
by_first true false = refl
by_first false b = refl

in_first : (k channel : ℕ) (b : Bool) → k ≡ 0 → given (0 == channel) (one_if (k == 0 && b)) ≡ (if k == channel && b then 1 else 0)
in_first k channel b is = rw is (by_first (0 == channel) b)

abbrev Before : Peer → Peer → List Act → Change → Type 0
Before me other acts c = Right me other acts c × ((c.channel ≡ 0) × Once (goes me other acts) (λ (x : Change). nat_lt (routed_of one (paired me other) acts) x.id) (captured_of one (paired me other) acts) c)

run_right : (me other : Peer) (acts : List Act) (c : Change) (t : Bool) → nat_le c.id (routed_of one (paired me other) acts) ≡ t → Before me other acts c → (channel : ℕ)
    → times_in other.id channel c.id (batches_of one (paired me other) acts) + given (0 == channel) (cnt c.id (filter (goes me other acts) (unrouted_of one (paired me other) acts)))
    ≡ (if c.channel == channel && is_named one me (if t then tables_at_routing one (paired me other) c.id acts else tables_of one (paired me other) acts) c other then 1 else 0)
run_right me other acts c true is before channel =
    let old : times_in other.id channel c.id (batches_of one (paired me other) acts) ≡ named_times me other acts c channel = before.0 is channel in
    let none : given (0 == channel) (cnt c.id (filter (goes me other acts) (unrouted_of one (paired me other) acts))) ≡ 0 =
    given_none (0 == channel) _ (cnt_none c.id (filter (goes me other acts) (unrouted_of one (paired me other) acts))
    (each_filter (λ (x : Change). c.id < x.id) (goes me other acts) (unrouted_of one (paired me other) acts)
    (each_weaker (λ (x : Change). nat_lt (routed_of one (paired me other) acts) x.id ≡ true) (λ (x : Change). c.id < x.id) (λ x lt. behind c.id _ x.id is lt) (unrouted_of one (paired me other) acts)
    (each_passes (λ (x : Change). nat_lt (routed_of one (paired me other) acts) x.id) (captured_of one (paired me other) acts))))) in
    rw none (omega (arith, old))
run_right me other acts c false is before channel =
    let none : times_in other.id channel c.id (batches_of one (paired me other) acts) ≡ 0 =
    times_none other.id channel (routed_of one (paired me other) acts) c.id (batches_of one (paired me other) acts) (ahead c.id _ is) (within_routed me other acts) in
    let count : cnt c.id (filter (goes me other acts) (unrouted_of one (paired me other) acts)) ≡ one_if (goes me other acts c) = before.1.1 (is_ahead c.id _ is) in
    let end : given (0 == channel) (one_if (goes me other acts c)) ≡ (if c.channel == channel && is_named one me (tables_of one (paired me other) acts) c other then 1 else 0) =
    in_first c.channel channel (is_named one me (tables_of one (paired me other) acts) c other) before.1.0 in
    let same : given (0 == channel) (cnt c.id (filter (goes me other acts) (unrouted_of one (paired me other) acts))) ≡ given (0 == channel) (one_if (goes me other acts c)) = ap (λ (m : ℕ). given (0 == channel) m) count in
    ap (λ (m : ℕ). m + given (0 == channel) (cnt c.id (filter (goes me other acts) (unrouted_of one (paired me other) acts)))) none
    ∙ (zero_plus (given (0 == channel) (cnt c.id (filter (goes me other acts) (unrouted_of one (paired me other) acts)))) ∙ (same ∙ end)) where
      zero_plus : (n : ℕ) → 0 + n ≡ n
      zero_plus n = omega arith

all_right : (me other : Peer) (acts : List Act) → Each (Right me other acts) (captured_of one (paired me other) acts)
all_right me other [] = tt
all_right me other (Wrote writer number rows ∷ acts) =
    each_append (Right me other (Wrote writer number rows ∷ acts)) (captured_of one (paired me other) acts) _ (all_right me other acts)
    (new_right me other (Wrote writer number rows) acts (last_change_of one (paired me other) acts) _ _ (routed_le me other acts)
    (changes_rise one me.group None _ _ (last_change_of one (paired me other) acts) _ (steps_of one rows) (omega arith) refl))
all_right me other (Routed ∷ acts) =
    each_both (Right me other acts) (λ (c : Change). (c.channel ≡ 0) × Once (goes me other acts) (λ (x : Change). nat_lt (routed_of one (paired me other) acts) x.id) (captured_of one (paired me other) acts) c)
    (Right me other (Routed ∷ acts))
    (λ c old facts is channel. sum_by-append (in_batch other.id channel c.id) (batches_of one (paired me other) acts) (batches_from (last_batch_of one (paired me other) acts + 1) (next_pieces one (paired me other) acts))
    ∙ (ap (λ (m : ℕ). times_in other.id channel c.id (batches_of one (paired me other) acts) + m) (new_times me other acts channel c.id (last_batch_of one (paired me other) acts + 1))
    ∙ run_right me other acts c (nat_le c.id (routed_of one (paired me other) acts)) refl (old, facts) channel))
    (captured_of one (paired me other) acts) (all_right me other acts)
    (each_both (λ (c : Change). c.channel ≡ 0) (Once (goes me other acts) (λ (x : Change). nat_lt (routed_of one (paired me other) acts) x.id) (captured_of one (paired me other) acts))
    (λ (c : Change). (c.channel ≡ 0) × Once (goes me other acts) (λ (x : Change). nat_lt (routed_of one (paired me other) acts) x.id) (captured_of one (paired me other) acts) c)
    (λ c a b. (a, b)) (captured_of one (paired me other) acts) (captured_all_first me other acts)
    (once (goes me other acts) (λ (x : Change). nat_lt (routed_of one (paired me other) acts) x.id) 0 _ (captured_of one (paired me other) acts) (captured_rise me other acts)))
all_right me other (Loaded from channel batch rows ∷ acts) =
    each_append (Right me other (Loaded from channel batch rows ∷ acts)) (captured_of one (paired me other) acts) _ (all_right me other acts)
    (new_right me other (Loaded from channel batch rows) acts (last_change_of one (paired me other) acts) _ _ (routed_le me other acts)
    (changes_rise one me.group (Some from) _ _ (last_change_of one (paired me other) acts) _ (load_steps one (tables_of one (paired me other) acts) rows) (omega arith) refl))
all_right me other (Acked from acks ∷ acts) =
    each_weaker (Right me other acts) (Right me other (Acked from acks ∷ acts))
    (λ c old is channel. times_acked other.id channel c.id (batches_of one (paired me other) acts) acks (batches_of one (paired me other) acts) ∙ old is channel)
    (captured_of one (paired me other) acts) (all_right me other acts)

abbrev the_peer : Peer → KeptPeer
the_peer other = record { peer = other; token = []; child = false }

pub stays_once : StaysRoutedOnce
stays_once me other acts =
    all_from_each (λ (c : Change). nat_le c.id (routed_of one (paired me other) acts) ≡ true →
    All (λ (kept : KeptPeer). (channel : ℕ) → times_in kept.peer.id channel c.id (batches_of one (paired me other) acts) ≡ times_named one (record { opening = paired me other; acts = acts }) c kept channel) (paired me other).peers)
    (captured_of one (paired me other) acts)
    (each_weaker (Right me other acts) (λ (c : Change). nat_le c.id (routed_of one (paired me other) acts) ≡ true →
    All (λ (kept : KeptPeer). (channel : ℕ) → times_in kept.peer.id channel c.id (batches_of one (paired me other) acts) ≡ times_named one (record { opening = paired me other; acts = acts }) c kept channel) (paired me other).peers)
    (λ c right is. all_from_each (λ (kept : KeptPeer). (channel : ℕ) → times_in kept.peer.id channel c.id (batches_of one (paired me other) acts) ≡ times_named one (record { opening = paired me other; acts = acts }) c kept channel)
    (the_peer other ∷ []) (right is, tt)) (captured_of one (paired me other) acts) (all_right me other acts))
