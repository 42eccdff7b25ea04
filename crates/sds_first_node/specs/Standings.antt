-- The standings of batches as a list of their own, in the order of the batches.
use Rattle.std.specs.Prelude.{ℕ, ◌+◌, if◌then◌else◌, List, [], ◌∷◌}
use Rattle.sds_types.specs.declared.ack.Ack.{Ack}
use Rattle.sds_types.specs.declared.batch.OutBatch.{OutBatch}
use Rattle.sds_types.specs.declared.batch.Standing.{Standing}
use Rattle.sds_first_spec.specs.Acks.{standing_after, same_standing}

-- the standing of each of these batches, which are among all, after acks
abbrev pub standings_of : List Ack → List OutBatch → List OutBatch → List Standing
standings_of acks all [] = []
standings_of acks all (batch ∷ batches) = standing_after all acks batch batch.standing ∷ standings_of acks all batches

-- how many of the batches have another standing
abbrev pub differing : List OutBatch → List Standing → ℕ
differing [] standings = 0
differing batches [] = 0
differing (batch ∷ batches) (standing ∷ standings) =
    if same_standing batch.standing standing then differing batches standings else differing batches standings + 1

-- the batches with these standings
abbrev pub with_standings : List OutBatch → List Standing → List OutBatch
with_standings [] standings = []
with_standings batches [] = batches
with_standings (batch ∷ batches) (standing ∷ standings) = record batch { standing = standing } ∷ with_standings batches standings
