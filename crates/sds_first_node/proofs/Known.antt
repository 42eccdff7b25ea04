-- Acks, and what is known of the batches after them.
use Rattle.std.proofs.Common.{◌≡◌, ℕ, ◌+◌, Bool, true, false, cond, not, List, [], ◌∷◌, refl, ap, ◌∙◌, arith}
use Rattle.std.specs.Prelude.{if◌then◌else◌, map}
use Rattle.std.proofs.lemmas.List.Recursion.{is_count_by}
use Rattle.sds_types.specs.declared.ack.Ack.{Ack}
use Rattle.sds_types.specs.declared.batch.OutBatch.{OutBatch}
use Rattle.sds_types.specs.declared.batch.Standing.{Standing}
use Rattle.sds_first_spec.specs.Acks.{standing_after, same_standing, acknowledged, changed_by}
use Rattle.sds_first_node.specs.Standings.{standings_of, differing, with_standings}

one_more : (b : Bool) (n : ℕ) → (if b then n else n + 1) ≡ cond (not b) (1 + n) n
one_more true n = refl
one_more false n = omega arith

differing-changed : (acks : List Ack) (batches : List OutBatch) → differing batches (standings_of acks batches batches) ≡ changed_by acks batches
differing-changed acks all =
    is_count_by (λ (batches : List OutBatch). differing batches (standings_of acks all batches))
    (λ (b : OutBatch). not (same_standing b.standing (standing_after all acks b b.standing))) refl
    (λ b batches. one_more (same_standing b.standing (standing_after all acks b b.standing)) (differing batches (standings_of acks all batches))) all

with_by : (acks : List Ack) (all batches : List OutBatch)
    → with_standings batches (standings_of acks all batches) ≡ map (λ (b : OutBatch). record b { standing = standing_after all acks b b.standing }) batches
with_by acks all [] = refl
with_by acks all (batch ∷ batches) = ap (λ (bs : List OutBatch). record batch { standing = standing_after all acks batch batch.standing } ∷ bs) (with_by acks all batches)

-- how many batches acks change, as the standings tell it
pub counted : (acks : List Ack) (batches bs : List OutBatch) (ss : List Standing) (n : ℕ) → bs ≡ batches → ss ≡ standings_of acks batches batches
    → n ≡ differing bs ss → n ≡ changed_by acks batches
counted acks batches bs ss n same are is = is ∙ rw (same, are) (differing-changed acks batches)

-- the batches after acks, as the standings tell it
pub known : (acks : List Ack) (batches bs : List OutBatch) (ss : List Standing) (new : List OutBatch) → bs ≡ batches → ss ≡ standings_of acks batches batches
    → new ≡ with_standings bs ss → new ≡ acknowledged acks batches
known acks batches bs ss new same are is = is ∙ rw (same, are) (with_by acks batches batches)
