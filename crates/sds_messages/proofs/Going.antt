-- The batches of a lane that go next are those up to the first that ends the part of its channel.
use Rattle.std.proofs.Common.{◌≡◌, ℕ, zero, suc, ◌+◌, Bool, true, false, cond, ◌||◌, ◌==◌, List, [], ◌∷◌, ◌++◌, length, take, Option, None, Some, refl, sym, ap, ◌∙◌, append_assoc, append-nil, arith}
use Rattle.std.specs.List.{position, position_from, range_with_len, sum_by}
use Rattle.std.specs.Option.{option_map_or}
use Rattle.std.specs.Prelude.{nat_le, slice_get}
use Rattle.std.proofs.lemmas.Iterator.Adapters.{position_from-zero}
use Rattle.std.proofs.lemmas.List.FromFn.{length-range_with_len}
use Rattle.std.proofs.lemmas.List.Sums.{sum_by-append}
use Rattle.sds_types.specs.Limits.{most_part_bytes}
use Rattle.sds_types.specs.declared.batch.OutBatch.{OutBatch}
use Rattle.sds_history.specs.history.Messages.{count_through, is_last}
use Rattle.sds_history.specs.history.Standings.{is_erred}
use Rattle.sds_outgoing.proofs.Lists.{at_seam, seam_length}
use Rattle.sds_messages.specs.Closing.{closes_part, going_after}

-- COUNTS. How many numbers there are up to the first that ends
abbrev through : (ℕ → Bool) → List ℕ → ℕ
through ends [] = 0
through ends (n ∷ ns) = cond (ends n) 1 (suc (through ends ns))

through_from : (ends : ℕ → Bool) (ns : List ℕ) (i : ℕ) → option_map_or (λ (place : ℕ). place + 1) (position_from ends i ns) (i + length ns) ≡ i + through ends ns
through_from ends [] i = refl
through_from ends (n ∷ ns) i = on (ends n) (through_from ends ns (i + 1))
  where
    further : (rest : ℕ) → (i + 1) + rest ≡ i + suc rest
    further rest = omega arith

    on : (b : Bool) → option_map_or (λ (place : ℕ). place + 1) (position_from ends (i + 1) ns) ((i + 1) + length ns) ≡ (i + 1) + through ends ns
        → option_map_or (λ (place : ℕ). place + 1) (cond b (Some i) (position_from ends (i + 1) ns)) (i + suc (length ns)) ≡ i + cond b 1 (suc (through ends ns))
    on true rest = refl
    on false rest =
        ap (λ (end : ℕ). option_map_or (λ (place : ℕ). place + 1) (position_from ends (i + 1) ns) end) (sym (further (length ns)))
        ∙ (rest ∙ further (through ends ns))

from_zero : (n : ℕ) → 0 + n ≡ n
from_zero n = omega arith

counted_through : (ends : ℕ → Bool) (batches : List OutBatch) → count_through ends batches ≡ through ends (range_with_len 0 (length batches))
counted_through ends batches =
    let ns : List ℕ = range_with_len 0 (length batches) in
    ap (λ (o : Option ℕ). option_map_or (λ (place : ℕ). place + 1) o (length batches)) (position_from-zero ends ns)
    ∙ (ap (λ (n : ℕ). option_map_or (λ (place : ℕ). place + 1) (position_from ends 0 ns) n) (sym (from_zero (length ns) ∙ length-range_with_len 0 (length batches)))
    ∙ (through_from ends ns 0 ∙ from_zero (through ends ns)))

next : (n : ℕ) → suc n + 1 ≡ suc (n + 1)
next n = omega arith

-- LANES. From one batch on, where each batch has a size
module _ (size : OutBatch → ℕ) (most : ℕ) where
  abbrev ends : List OutBatch → ℕ → Bool
  ends batches place = is_last most batches place || nat_le most_part_bytes (sum_by size (take (place + 1) batches))

  taken : (before : List OutBatch) (batch : OutBatch) (later : List OutBatch) → take (length before + 1) (before ++ batch ∷ later) ≡ before ++ batch ∷ []
  taken [] batch later = refl
  taken (first ∷ before) batch later =
      ap (λ (n : ℕ). take n (first ∷ (before ++ batch ∷ later))) (next (length before)) ∙ ap (λ (bs : List OutBatch). first ∷ bs) (taken before batch later)

  one_size : (batch : OutBatch) → sum_by size (batch ∷ []) ≡ size batch
  one_size batch = from_zero (size batch)

  one_summed : (before : List OutBatch) (batch : OutBatch) → sum_by size (before ++ batch ∷ []) ≡ sum_by size before + size batch
  one_summed before batch = sum_by-append size before (batch ∷ []) ∙ ap (λ (n : ℕ). sum_by size before + n) (one_size batch)

  last_at : (before : List OutBatch) (batch : OutBatch) (later : List OutBatch)
      → ends (before ++ batch ∷ later) (length before) ≡ closes_part most (length before + 1) (sum_by size before + size batch) batch
  last_at before batch later =
      ap (λ (o : Option OutBatch). (length before + 1 == most || option_map_or (λ (b : OutBatch). is_erred b.standing) o true)
      || nat_le most_part_bytes (sum_by size (take (length before + 1) (before ++ batch ∷ later)))) (at_seam before batch later)
      ∙ ap (λ (n : ℕ). (length before + 1 == most || is_erred batch.standing) || nat_le most_part_bytes n)
      (ap (sum_by size) (taken before batch later) ∙ one_summed before batch)

  further_on : (before : List OutBatch) (batch : OutBatch) (later : List OutBatch)
      → through (ends ((before ++ batch ∷ []) ++ later)) (range_with_len (length (before ++ batch ∷ [])) (length later))
      ≡ length (going_after size most (length (before ++ batch ∷ [])) (sum_by size (before ++ batch ∷ [])) later)
      → through (ends (before ++ batch ∷ later)) (range_with_len (length before + 1) (length later))
      ≡ length (going_after size most (length before + 1) (sum_by size before + size batch) later)
  further_on before batch later rest =
      ap (λ (bs : List OutBatch). through (ends bs) (range_with_len (length before + 1) (length later))) (sym (append_assoc before (batch ∷ []) later))
      ∙ (ap (λ (n : ℕ). through (ends ((before ++ batch ∷ []) ++ later)) (range_with_len n (length later))) (sym (seam_length before batch))
      ∙ (rest
      ∙ (ap (λ (n : ℕ). length (going_after size most n (sum_by size (before ++ batch ∷ [])) later)) (seam_length before batch)
      ∙ ap (λ (n : ℕ). length (going_after size most (length before + 1) n later)) (one_summed before batch))))

  one_more : (t b : Bool) → t ≡ b → (batch : OutBatch) (rest : List OutBatch) (count : ℕ) → count ≡ length rest
      → cond t 1 (suc count) ≡ length (batch ∷ cond b [] rest)
  one_more t true is batch rest count same = ap (λ (c : Bool). cond c 1 (suc count)) is
  one_more t false is batch rest count same = ap (λ (c : Bool). cond c 1 (suc count)) is ∙ ap suc same

  going : (before later : List OutBatch)
      → through (ends (before ++ later)) (range_with_len (length before) (length later)) ≡ length (going_after size most (length before) (sum_by size before) later)
  going before [] = refl
  going before (batch ∷ later) =
      one_more (ends (before ++ batch ∷ later) (length before)) (closes_part most (length before + 1) (sum_by size before + size batch) batch) (last_at before batch later) batch
      (going_after size most (length before + 1) (sum_by size before + size batch) later)
      (through (ends (before ++ batch ∷ later)) (range_with_len (length before + 1) (length later)))
      (further_on before batch later (going (before ++ batch ∷ []) later))

  pub count_is : (batches : List OutBatch) → count_through (ends batches) batches ≡ length (going_after size most 0 0 batches)
  count_is batches = counted_through (ends batches) batches ∙ going [] batches

  -- those that go are the first of all
  first_go : (count bytes : ℕ) (batches : List OutBatch) → take (length (going_after size most count bytes batches)) batches ≡ going_after size most count bytes batches
  first_go count bytes [] = refl
  first_go count bytes (batch ∷ batches) =
      on (closes_part most (count + 1) (bytes + size batch) batch) (first_go (count + 1) (bytes + size batch) batches)
    where
      on : (b : Bool)
          → take (length (going_after size most (count + 1) (bytes + size batch) batches)) batches ≡ going_after size most (count + 1) (bytes + size batch) batches
          → take (length (batch ∷ cond b [] (going_after size most (count + 1) (bytes + size batch) batches))) (batch ∷ batches)
          ≡ batch ∷ cond b [] (going_after size most (count + 1) (bytes + size batch) batches)
      on true rest = refl
      on false rest = ap (λ (bs : List OutBatch). batch ∷ bs) rest

  pub all_going : (batches : List OutBatch) → take (count_through (ends batches) batches) batches ≡ going_after size most 0 0 batches
  all_going batches = ap (λ (n : ℕ). take n batches) (count_is batches) ∙ first_go 0 0 batches
