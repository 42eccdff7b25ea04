-- The batches whose standing changes, by their places, and the batches that they make.
use Rattle.std.proofs.Common.{◌≡◌, ℕ, zero, suc, ◌+◌, Bool, true, false, cond, not, ◌&&◌, ◌==◌, List, [], ◌∷◌, ◌++◌, length, map, refl, sym, ap, subst, ◌∙◌, append-nil, append_assoc, arith, true≢false, filter}
use Rattle.std.proofs.lemmas.Bool.Decides.{nat_tests}
use Rattle.std.specs.List.{enumerate_from, zip}
use Rattle.sds_types.specs.declared.ack.Ack.{Ack}
use Rattle.sds_types.specs.declared.batch.OutBatch.{OutBatch}
use Rattle.sds_types.specs.declared.batch.Standing.{Standing}
use Rattle.sds_types.specs.declared.batch.Standing.TheVariants as standing
use Rattle.sds_types.specs.declared.config.Config.{Config}
use Rattle.sds_history.specs.history.Acks.{changed_by, same_standing}
use Rattle.sds_history.specs.history.Acts.{State}
use Rattle.sds_history.specs.history.Acts.Act.{Acked}
use Rattle.sds_history.specs.history.Standings.{acknowledged, standing_of, with_standing}
use Rattle.sds_outgoing.specs.Restating.{is_restated, restated_at, restated_by, restated_from, with_restated, with_standing_at}
use Rattle.sds_outgoing.specs.declared.restating.Restated.{Restated}
use Rattle.sds_outgoing.proofs.Lists.{seam_length}

-- ONE STANDING
same_numbers : (a b : ℕ) → (a == b) ≡ true → a ≡ b
same_numbers a b is = grind (arith, nat_tests, is)

both_true : (a b : Bool) → (a && b) ≡ true → (a ≡ true) × (b ≡ true)
both_true true b is = (refl, is)
both_true false b is = absurd (true≢false (sym is))

same_error : (row rule other because : ℕ) → (row == other && rule == because) ≡ true → standing.Erred row rule ≡ standing.Erred other because
same_error row rule other because is =
    let both = both_true (row == other) (rule == because) is in
    ap (λ (r : ℕ). standing.Erred r rule) (same_numbers row other both.0) ∙ ap (λ (u : ℕ). standing.Erred other u) (same_numbers rule because both.1)

same_is : (a b : Standing) → same_standing a b ≡ true → a ≡ b
same_is standing.New standing.New is = refl
same_is standing.New standing.Acked is = absurd (true≢false (sym is))
same_is standing.New (standing.Erred row rule) is = absurd (true≢false (sym is))
same_is standing.Acked standing.New is = absurd (true≢false (sym is))
same_is standing.Acked standing.Acked is = refl
same_is standing.Acked (standing.Erred row rule) is = absurd (true≢false (sym is))
same_is (standing.Erred row rule) standing.New is = absurd (true≢false (sym is))
same_is (standing.Erred row rule) standing.Acked is = absurd (true≢false (sym is))
same_is (standing.Erred row rule) (standing.Erred other because) is = same_error row rule other because is

-- A PLACE at a seam
set_seam : (standing : Standing) (before : List OutBatch) (batch : OutBatch) (later : List OutBatch)
    → with_standing_at (length before) standing (before ++ batch ∷ later) ≡ before ++ record batch { standing = standing } ∷ later
set_seam standing [] batch later = refl
set_seam standing (first ∷ before) batch later = ap (λ (bs : List OutBatch). first ∷ bs) (set_seam standing before batch later)

-- ALL PLACES, from one on
module _ (known : OutBatch → Standing) where
  abbrev after : OutBatch → OutBatch
  after batch = record batch { standing = known batch }

  kept : (batch : OutBatch) → same_standing batch.standing (known batch) ≡ true → batch ≡ after batch
  kept batch same = ap (λ (s : Standing). record batch { standing = s }) (same_is batch.standing (known batch) same)

  further : (before : List OutBatch) (batch : OutBatch) (later : List OutBatch) (whole : List OutBatch) → whole ≡ before ++ after batch ∷ later
      → with_restated (restated_from (length (before ++ after batch ∷ [])) later (map after later)) ((before ++ after batch ∷ []) ++ later) ≡ (before ++ after batch ∷ []) ++ map after later
      → with_restated (restated_from (length before + 1) later (map after later)) whole ≡ before ++ after batch ∷ map after later
  further before batch later whole is rest =
      ap (with_restated (restated_from (length before + 1) later (map after later))) (is ∙ sym (append_assoc before (after batch ∷ []) later))
      ∙ (ap (λ (n : ℕ). with_restated (restated_from n later (map after later)) ((before ++ after batch ∷ []) ++ later)) (sym (seam_length before (after batch)))
      ∙ (rest ∙ append_assoc before (after batch ∷ []) (map after later)))

  one_on : (before : List OutBatch) (batch : OutBatch) (later : List OutBatch) (b : Bool) → same_standing batch.standing (known batch) ≡ b
      → with_restated (restated_from (length (before ++ after batch ∷ [])) later (map after later)) ((before ++ after batch ∷ []) ++ later) ≡ (before ++ after batch ∷ []) ++ map after later
      → with_restated (map restated_at (cond (not b) ((length before, (batch, after batch)) ∷ filter is_restated (enumerate_from (length before + 1) (zip later (map after later))))
      (filter is_restated (enumerate_from (length before + 1) (zip later (map after later)))))) (before ++ batch ∷ later)
      ≡ before ++ after batch ∷ map after later
  one_on before batch later true same rest =
      further before batch later (before ++ batch ∷ later) (ap (λ (one : OutBatch). before ++ one ∷ later) (kept batch same)) rest
  one_on before batch later false same rest =
      further before batch later (with_standing_at (length before) (known batch) (before ++ batch ∷ later)) (set_seam (known batch) before batch later) rest

  one_more : (before : List OutBatch) (batch : OutBatch) (later : List OutBatch)
      → with_restated (restated_from (length (before ++ after batch ∷ [])) later (map after later)) ((before ++ after batch ∷ []) ++ later) ≡ (before ++ after batch ∷ []) ++ map after later
      → with_restated (restated_from (length before) (batch ∷ later) (map after (batch ∷ later))) (before ++ batch ∷ later) ≡ before ++ map after (batch ∷ later)
  one_more before batch later rest = one_on before batch later (same_standing batch.standing (known batch)) refl rest

  all_from : (before later : List OutBatch) → with_restated (restated_from (length before) later (map after later)) (before ++ later) ≡ before ++ map after later
  all_from before [] = refl
  all_from before (batch ∷ later) = one_more before batch later (all_from (before ++ after batch ∷ []) later)

pub all_restated : (batches : List OutBatch) (from : List ℕ) (acks : List Ack) (changed : List Restated) → changed ≡ restated_by batches from acks
    → with_restated changed batches ≡ acknowledged batches (Acked from acks ∷ [])
all_restated batches from acks changed is =
    ap (λ (rs : List Restated). with_restated rs batches) is ∙ all_from (standing_of batches (Acked from acks ∷ [])) [] batches

-- HOW MANY there are
abbrev changes : OutBatch × OutBatch → Bool
changes at = not (same_standing at.0.standing at.1.standing)

one_counted : (place : ℕ) (a b : OutBatch) (before now : List OutBatch) (c : Bool) → length (restated_from (place + 1) before now) ≡ length (filter changes (zip before now))
    → length (map restated_at (cond c ((place, (a, b)) ∷ filter is_restated (enumerate_from (place + 1) (zip before now))) (filter is_restated (enumerate_from (place + 1) (zip before now)))))
    ≡ length (cond c ((a, b) ∷ filter changes (zip before now)) (filter changes (zip before now)))
one_counted place a b before now true rest = ap suc rest
one_counted place a b before now false rest = rest

count_from : (place : ℕ) (before now : List OutBatch) → length (restated_from place before now) ≡ length (filter changes (zip before now))
count_from place [] now = refl
count_from place (a ∷ before) [] = refl
count_from place (a ∷ before) (b ∷ now) =
    one_counted place a b before now (not (same_standing a.standing b.standing)) (count_from (place + 1) before now)

changed_count : (config : Config) (state : State) (from : List ℕ) (acks : List Ack)
    → length (restated_by state.batches from acks) ≡ changed_by config state (Acked from acks)
changed_count config state from acks =
    count_from 0 state.batches (acknowledged state.batches (Acked from acks ∷ []))
    ∙ ap (λ (batches : List OutBatch). length (filter (λ (at : OutBatch × OutBatch). not (same_standing at.0.standing at.1.standing))
    (zip state.batches (acknowledged batches (Acked from acks ∷ []))))) (sym (append-nil state.batches))

pub counted : (config : Config) (state : State) (batches : List OutBatch) (from : List ℕ) (acks : List Ack) (changed : List Restated)
    → changed ≡ restated_by batches from acks → state.batches ≡ batches → length changed ≡ changed_by config state (Acked from acks)
counted config state batches from acks changed is same =
    ap (λ (rs : List Restated). length rs) (is ∙ ap (λ (bs : List OutBatch). restated_by bs from acks) (sym same)) ∙ changed_count config state from acks
