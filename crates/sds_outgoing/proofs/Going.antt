-- The batches of a lane that go next are those up to the first that ends what a message takes.
use Rattle.std.proofs.Common.{◌≡◌, ℕ, zero, suc, ◌+◌, Bool, true, false, cond, not, ◌||◌, ◌==◌, List, [], ◌∷◌, ◌++◌, length, map, take, Option, None, Some, refl, sym, ap, ◌∙◌, append_assoc, arith, filter}
use Rattle.std.specs.List.{position, position_from, range_with_len}
use Rattle.std.specs.Option.{option_map_or}
use Rattle.std.specs.Prelude.{slice_get}
use Rattle.std.proofs.lemmas.Iterator.Adapters.{position_from-zero}
use Rattle.std.proofs.lemmas.List.FromFn.{length-range_with_len}
use Rattle.sds_types.specs.declared.batch.OutBatch.{OutBatch}
use Rattle.sds_types.specs.declared.channel.ChannelDef.{ChannelDef}
use Rattle.sds_history.specs.history.Acts.{State}
use Rattle.sds_history.specs.history.Messages.{count_through, is_in_lane, is_last, lane_waiting, offered_in}
use Rattle.sds_history.specs.history.Standings.{is_acked, is_erred}
use Rattle.sds_outgoing.specs.Offering.{ends_offer, is_waiting, offered_after}
use Rattle.sds_outgoing.proofs.Lists.{at_seam, filter_both, seam_length}

-- COUNTS. How many numbers there are up to the first that ends
abbrev through : (ℕ → Bool) → List ℕ → ℕ
through ends [] = 0
through ends (n ∷ ns) = cond (ends n) 1 (suc (through ends ns))

through_from : (ends : ℕ → Bool) (ns : List ℕ) (i : ℕ) → option_map_or (λ (place : ℕ). place + 1) (position_from ends i ns) (i + length ns) ≡ i + through ends ns
through_from ends [] i = refl
through_from ends (n ∷ ns) i = on (ends n) (through_from ends ns (i + 1))
  where
    further : (rest : ℕ) → (i + 1) + rest ≡ i + suc rest
    further rest = omega arith

    on : (b : Bool) → option_map_or (λ (place : ℕ). place + 1) (position_from ends (i + 1) ns) ((i + 1) + length ns) ≡ (i + 1) + through ends ns
        → option_map_or (λ (place : ℕ). place + 1) (cond b (Some i) (position_from ends (i + 1) ns)) (i + suc (length ns)) ≡ i + cond b 1 (suc (through ends ns))
    on true rest = refl
    on false rest =
        ap (λ (end : ℕ). option_map_or (λ (place : ℕ). place + 1) (position_from ends (i + 1) ns) end) (sym (further (length ns)))
        ∙ (rest ∙ further (through ends ns))

from_zero : (n : ℕ) → 0 + n ≡ n
from_zero n = omega arith

counted_through : (ends : ℕ → Bool) (batches : List OutBatch) → count_through ends batches ≡ through ends (range_with_len 0 (length batches))
counted_through ends batches =
    let ns : List ℕ = range_with_len 0 (length batches) in
    ap (λ (o : Option ℕ). option_map_or (λ (place : ℕ). place + 1) o (length batches)) (position_from-zero ends ns)
    ∙ (ap (λ (n : ℕ). option_map_or (λ (place : ℕ). place + 1) (position_from ends 0 ns) n) (sym (from_zero (length ns) ∙ length-range_with_len 0 (length batches)))
    ∙ (through_from ends ns 0 ∙ from_zero (through ends ns)))

-- LANES. From one batch on
last_at : (most : ℕ) (before : List OutBatch) (batch : OutBatch) (later : List OutBatch)
    → is_last most (before ++ batch ∷ later) (length before) ≡ ends_offer most (length before + 1) batch
last_at most before batch later =
    ap (λ (o : Option OutBatch). length before + 1 == most || option_map_or (λ (b : OutBatch). is_erred b.standing) o true) (at_seam before batch later)

further_on : (most : ℕ) (before : List OutBatch) (batch : OutBatch) (later : List OutBatch)
    → take (through (is_last most ((before ++ batch ∷ []) ++ later)) (range_with_len (length (before ++ batch ∷ [])) (length later))) later
    ≡ offered_after most (length (before ++ batch ∷ [])) later
    → take (through (is_last most (before ++ batch ∷ later)) (range_with_len (length before + 1) (length later))) later ≡ offered_after most (length before + 1) later
further_on most before batch later rest =
    ap (λ (bs : List OutBatch). take (through (is_last most bs) (range_with_len (length before + 1) (length later))) later) (sym (append_assoc before (batch ∷ []) later))
    ∙ (ap (λ (n : ℕ). take (through (is_last most ((before ++ batch ∷ []) ++ later)) (range_with_len n (length later))) later) (sym (seam_length before batch))
    ∙ (rest ∙ ap (λ (n : ℕ). offered_after most n later) (seam_length before batch)))

one_more : (t b : Bool) → t ≡ b → (batch : OutBatch) (later rest : List OutBatch) (count : ℕ) → take count later ≡ rest
    → take (cond t 1 (suc count)) (batch ∷ later) ≡ batch ∷ cond b [] rest
one_more t true is batch later rest count taken = ap (λ (c : Bool). take (cond c 1 (suc count)) (batch ∷ later)) is
one_more t false is batch later rest count taken =
    ap (λ (c : Bool). take (cond c 1 (suc count)) (batch ∷ later)) is ∙ ap (λ (bs : List OutBatch). batch ∷ bs) taken

going : (most : ℕ) (before later : List OutBatch)
    → take (through (is_last most (before ++ later)) (range_with_len (length before) (length later))) later ≡ offered_after most (length before) later
going most before [] = refl
going most before (batch ∷ later) =
    one_more (is_last most (before ++ batch ∷ later) (length before)) (ends_offer most (length before + 1) batch) (last_at most before batch later) batch later
    (offered_after most (length before + 1) later)
    (through (is_last most (before ++ batch ∷ later)) (range_with_len (length before + 1) (length later)))
    (further_on most before batch later (going most (before ++ batch ∷ []) later))

all_going : (most : ℕ) (batches : List OutBatch) → take (count_through (is_last most batches) batches) batches ≡ offered_after most 0 batches
all_going most batches = ap (λ (n : ℕ). take n batches) (counted_through (is_last most batches) batches) ∙ going most [] batches

pub offered_is : (state : State) (to : List ℕ) (channel : ℕ) (def : ChannelDef)
    → offered_after def.max_batch_to_send 0 (filter (is_waiting to channel) state.batches) ≡ offered_in state to (channel, def)
offered_is state to channel def =
    sym (all_going def.max_batch_to_send (lane_waiting state to channel)
    ∙ ap (offered_after def.max_batch_to_send 0) (filter_both (is_in_lane to channel) (λ (batch : OutBatch). not (is_acked batch.standing)) state.batches))
