-- What acks of one reply say of a batch.
use Rattle.std.proofs.Common.{◌≡◌, ℕ, Bool, true, false, cond, not, ◌||◌, List, [], ◌∷◌, ◌++◌, Option, None, Some, refl, sym, ap, ◌∙◌, append-nil, filter, find}
use Rattle.std.specs.List.{list_any}
use Rattle.std.specs.Option.{option_map_or}
use Rattle.std.specs.Str.{bytes_eq}
use Rattle.std.proofs.lemmas.Cmp.{nat_list_eq_equiv}
use Rattle.sds_types.specs.declared.ack.Ack.{Ack}
use Rattle.sds_types.specs.declared.batch.OutBatch.{OutBatch}
use Rattle.sds_types.specs.declared.batch.Standing.{Standing}
use Rattle.sds_types.specs.declared.batch.Standing.TheVariants as standing
use Rattle.sds_history.specs.history.Acts.Act.{Acked}
use Rattle.sds_history.specs.history.Standings.{acks_from, erred_by, is_acked, is_error_of, is_ok_for, last_error, standing_of}
use Rattle.sds_outgoing.specs.Told.{standing_told}

-- the acks of one reply are for the batches of its sender
turned : (a b : List ℕ) → bytes_eq a b ≡ bytes_eq b a
turned a b = nat_list_eq_equiv.symm a b

acks_told : (from peer : List ℕ) (acks : List Ack) (b : Bool) → b ≡ bytes_eq peer from → acks_from (Acked from acks ∷ []) peer ≡ cond b acks []
acks_told from peer acks b is = append-nil (cond (bytes_eq from peer) acks []) ∙ ap (λ t. cond t acks []) (turned from peer ∙ sym is)

told_by : (batches : List OutBatch) (from : List ℕ) (acks : List Ack) (batch : OutBatch) (b : Bool) → b ≡ bytes_eq batch.peer from
    → standing_of batches (Acked from acks ∷ []) batch ≡ standing_told batches (cond b acks []) batch
told_by batches from acks batch b is = ap (λ (heard : List Ack). standing_told batches heard batch) (acks_told from batch.peer acks b is)

-- nothing is told of a batch to another peer
untold : (before : Standing) → cond (is_acked before || false) standing.Acked before ≡ before
untold standing.New = refl
untold standing.Acked = refl
untold (standing.Erred row rule) = refl

pub other_peer : (batches : List OutBatch) (from : List ℕ) (acks : List Ack) (batch : OutBatch) → false ≡ bytes_eq batch.peer from
    → batch.standing ≡ standing_of batches (Acked from acks ∷ []) batch
other_peer batches from acks batch is = sym (told_by batches from acks batch false is ∙ untold batch.standing)

pub own_peer : (batches : List OutBatch) (from : List ℕ) (acks : List Ack) (batch : OutBatch) → true ≡ bytes_eq batch.peer from
    → standing_told batches acks batch ≡ standing_of batches (Acked from acks ∷ []) batch
own_peer batches from acks batch is = sym (told_by batches from acks batch true is)

-- the first error of the acks is the one that counts
first_error : (batch : OutBatch) (acks : List Ack) (before : Standing)
    → option_map_or (λ (ack : Ack). erred_by ack.error before) (find (is_error_of batch) acks) before ≡ last_error (filter (is_error_of batch) acks) before
first_error batch [] before = refl
first_error batch (ack ∷ acks) before = on (is_error_of batch ack) (first_error batch acks before)
  where
    on : (b : Bool) → option_map_or (λ (a : Ack). erred_by a.error before) (find (is_error_of batch) acks) before ≡ last_error (filter (is_error_of batch) acks) before
        → option_map_or (λ (a : Ack). erred_by a.error before) (cond b (Some ack) (find (is_error_of batch) acks)) before
        ≡ last_error (cond b (ack ∷ filter (is_error_of batch) acks) (filter (is_error_of batch) acks)) before
    on true rest = refl
    on false rest = rest

pub error_found : (batch : OutBatch) (acks : List Ack) (ack : Ack) (before said : Standing) → Some ack ≡ find (is_error_of batch) acks → said ≡ erred_by ack.error before
    → said ≡ last_error (filter (is_error_of batch) acks) before
error_found batch acks ack before said found is =
    is ∙ (ap (λ (o : Option Ack). option_map_or (λ (a : Ack). erred_by a.error before) o before) found ∙ first_error batch acks before)

pub no_error : (batch : OutBatch) (acks : List Ack) (before : Standing) → None ≡ find (is_error_of batch) acks
    → before ≡ last_error (filter (is_error_of batch) acks) before
no_error batch acks before none =
    ap (λ (o : Option Ack). option_map_or (λ (a : Ack). erred_by a.error before) o before) none ∙ first_error batch acks before
