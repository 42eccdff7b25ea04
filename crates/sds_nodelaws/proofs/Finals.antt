-- An OK is final.
use Rattle.std.proofs.Common.{◌≡◌, ℕ, zero, suc, Bool, true, false, cond, List, [], ◌∷◌, ◌++◌, Option, None, Some, refl, sym, ap, subst, ◌∙◌, true≢false, filter, option_map, append_assoc, append-nil, ◌||◌, ◌&&◌, ◌==◌}
use Rattle.std.specs.List.{list_any}
use Rattle.std.specs.Prelude.{is_some, nat_le, not, slice_get}
use Rattle.std.proofs.lemmas.List.Folds.{list_any-append}
use Rattle.std.proofs.lemmas.Option.{slice_get-map}
use Rattle.sds_types.specs.declared.ack.Ack.{Ack}
use Rattle.sds_types.specs.declared.batch.OutBatch.{OutBatch}
use Rattle.sds_types.specs.declared.batch.Standing.{Standing}
use Rattle.sds_types.specs.declared.batch.Standing.TheVariants as standing
use Rattle.sds_types.specs.declared.config.Config.{Config}
use Rattle.sds_history.specs.history.Acts.{Act, State}
use Rattle.sds_history.specs.history.Acts.Act.{Opened, Joined, Confirmed, Wrote, Routed, Loaded, Erred, Acked}
use Rattle.sds_history.specs.history.Changes.{runs_after}
use Rattle.sds_history.specs.history.Made.{batches_by, made_after, next_batches}
use Rattle.sds_history.specs.history.Runs.{Run}
use Rattle.sds_history.specs.history.Standings.{acknowledged, acks_from, acks_in, erred_by, is_acked, is_error_of, is_ok_for, last_error, same_lane, standing_of, with_standing}
use Rattle.sds_nodelaws.specs.Standings.{OkIsFinal}
use Rattle.sds_nodelaws.proofs.Tests.{or_cases, or_left, or_right}

-- TESTS
any_more : {X : Type 0} (p q : X → Bool) (xs : List X) → ((x : X) → p x ≡ true → q x ≡ true) → list_any p xs ≡ true → list_any q xs ≡ true
any_more p q [] more is = is
any_more p q (x ∷ xs) more is = or_cases (p x) (list_any p xs) is
    (λ here. or_left (q x) (list_any q xs) (more x here)) (λ rest. or_right (q x) (list_any q xs) (any_more p q xs more rest))

both : (a b c d : Bool) → (b ≡ true → d ≡ true) → (a && (c && b)) ≡ true → (a && (c && d)) ≡ true
both true true true d more is = more refl
both true false true d more is = absurd (true≢false (sym is))
both true b false d more is = is
both false b c d more is = is

-- MORE. With more batches and more acks an OK is still told
ok_more : (batches added : List OutBatch) (batch : OutBatch) (ack : Ack) → is_ok_for batches batch ack ≡ true
    → is_ok_for (batches ++ added) batch ack ≡ true
ok_more batches added batch ack is =
    both (not (is_some ack.error)) (list_any (λ (other : OutBatch). other.id == ack.batch && same_lane batch other) batches) (nat_le batch.id ack.batch)
    (list_any (λ (other : OutBatch). other.id == ack.batch && same_lane batch other) (batches ++ added))
    (λ found. list_any-append (λ (other : OutBatch). other.id == ack.batch && same_lane batch other) batches added
    ∙ or_left (list_any (λ (other : OutBatch). other.id == ack.batch && same_lane batch other) batches)
    (list_any (λ (other : OutBatch). other.id == ack.batch && same_lane batch other) added) found) is

oks_more : (batches added : List OutBatch) (acts : List Act) (act : Act) (batch : OutBatch)
    → list_any (is_ok_for batches batch) (acks_from acts batch.peer) ≡ true
    → list_any (is_ok_for (batches ++ added) batch) (acks_from (act ∷ acts) batch.peer) ≡ true
oks_more batches added acts act batch is =
    list_any-append (is_ok_for (batches ++ added) batch) (acks_in batch.peer act) (acks_from acts batch.peer)
    ∙ or_right (list_any (is_ok_for (batches ++ added) batch) (acks_in batch.peer act))
    (list_any (is_ok_for (batches ++ added) batch) (acks_from acts batch.peer))
    (any_more (is_ok_for batches batch) (is_ok_for (batches ++ added) batch) (acks_from acts batch.peer) (λ ack ok. ok_more batches added batch ack ok) is)

-- STANDINGS. No error makes an OK
not_erred : (error : Option (ℕ × ℕ)) (before : Standing) → is_acked (erred_by error before) ≡ true → is_acked before ≡ true
not_erred None before is = is
not_erred (Some error) before is = absurd (true≢false (sym is))

last_not : (acks : List Ack) (before : Standing) → is_acked (last_error acks before) ≡ true → is_acked before ≡ true
last_not [] before is = is
last_not (ack ∷ acks) before is = not_erred ack.error before is

told_on : (batch : OutBatch) (oks : Bool) (errors : List Ack) (b : Bool) → (is_acked batch.standing || oks) ≡ b
    → is_acked (cond b standing.Acked (last_error errors batch.standing)) ≡ true → (is_acked batch.standing || oks) ≡ true
told_on batch oks errors true told is = told
told_on batch oks errors false told is = or_left (is_acked batch.standing) oks (last_not errors batch.standing is)

told : (batches : List OutBatch) (acts : List Act) (batch : OutBatch) → standing_of batches acts batch ≡ standing.Acked
    → (is_acked batch.standing || list_any (is_ok_for batches batch) (acks_from acts batch.peer)) ≡ true
told batches acts batch is =
    told_on batch (list_any (is_ok_for batches batch) (acks_from acts batch.peer)) (filter (is_error_of batch) (acks_from acts batch.peer))
    (is_acked batch.standing || list_any (is_ok_for batches batch) (acks_from acts batch.peer)) refl (ap is_acked is)

stays : (batches added : List OutBatch) (acts : List Act) (act : Act) (batch : OutBatch) → standing_of batches acts batch ≡ standing.Acked
    → standing_of (batches ++ added) (act ∷ acts) batch ≡ standing.Acked
stays batches added acts act batch is =
    ap (λ b. cond b standing.Acked (last_error (filter (is_error_of batch) (acks_from (act ∷ acts) batch.peer)) batch.standing))
    (or_cases (is_acked batch.standing) (list_any (is_ok_for batches batch) (acks_from acts batch.peer)) (told batches acts batch is)
    (λ before. or_left (is_acked batch.standing) (list_any (is_ok_for (batches ++ added) batch) (acks_from (act ∷ acts) batch.peer)) before)
    (λ oks. or_right (is_acked batch.standing) (list_any (is_ok_for (batches ++ added) batch) (acks_from (act ∷ acts) batch.peer))
    (oks_more batches added acts act batch oks)))

-- PLACES
placed_on : (batches added : List OutBatch) (acts : List Act) (act : Act) (batch : OutBatch) (found : Option OutBatch)
    → option_map (with_standing batches acts) found ≡ Some batch → batch.standing ≡ standing.Acked
    → option_map (with_standing (batches ++ added) (act ∷ acts)) found ≡ Some batch
placed_on batches added acts act batch None is acked = is
placed_on batches added acts act batch (Some before) is acked =
    let same : with_standing batches acts before ≡ batch = ap (λ o. elim o [ None ↦ batch | Some b ↦ b ]) is in
    let ok : standing_of batches acts before ≡ standing.Acked = ap (λ (b : OutBatch). b.standing) same ∙ acked in
    ap (λ s. Some (record before { standing = s })) (stays batches added acts act before ok ∙ sym ok) ∙ is

pub got_more : {X : Type 0} (xs ys : List X) (place : ℕ) (x : X) → slice_get xs place ≡ Some x → slice_get (xs ++ ys) place ≡ Some x
got_more [] ys place x is = absurd (true≢false (sym (ap (λ o. elim o [ None ↦ false | Some y ↦ true ]) is)))
got_more (y ∷ xs) ys zero x is = is
got_more (y ∷ xs) ys (suc place) x is = got_more xs ys place x is

got_on : (batches added : List OutBatch) (acts : List Act) (act : Act) (place : ℕ) (batch : OutBatch) (found : Option OutBatch)
    → slice_get batches place ≡ found → option_map (with_standing batches acts) found ≡ Some batch → batch.standing ≡ standing.Acked
    → option_map (with_standing (batches ++ added) (act ∷ acts)) (slice_get (batches ++ added) place) ≡ Some batch
got_on batches added acts act place batch None found is acked =
    absurd (true≢false (sym (ap (λ o. elim o [ None ↦ false | Some y ↦ true ]) is)))
got_on batches added acts act place batch (Some before) found is acked =
    ap (option_map (with_standing (batches ++ added) (act ∷ acts))) (got_more batches added place before found)
    ∙ placed_on batches added acts act batch (Some before) is acked

final : (batches added : List OutBatch) (acts : List Act) (act : Act) (place : ℕ) (batch : OutBatch)
    → slice_get (acknowledged batches acts) place ≡ Some batch → batch.standing ≡ standing.Acked
    → slice_get (acknowledged (batches ++ added) (act ∷ acts)) place ≡ Some batch
final batches added acts act place batch is acked =
    slice_get-map (with_standing (batches ++ added) (act ∷ acts)) (batches ++ added) place
    ∙ got_on batches added acts act place batch (slice_get batches place) refl
    (sym (slice_get-map (with_standing batches acts) batches place) ∙ is) acked

-- an act adds batches, or none
added_by : (config : Config) (opening : State) (act : Act) (older : List Run) (made : List OutBatch)
    → (added : List OutBatch) × (batches_by config opening act older made ≡ made ++ added)
added_by config opening Routed older made = (next_batches config opening _ older, refl)
added_by config opening (Opened group external token) older made = ([], sym (append-nil made))
added_by config opening (Joined kept) older made = ([], sym (append-nil made))
added_by config opening (Confirmed peer) older made = ([], sym (append-nil made))
added_by config opening (Wrote writer number rows) older made = ([], sym (append-nil made))
added_by config opening (Loaded channel batch) older made = ([], sym (append-nil made))
added_by config opening (Erred from channel error) older made = ([], sym (append-nil made))
added_by config opening (Acked from acks) older made = ([], sym (append-nil made))

pub ok_is_final : OkIsFinal
ok_is_final config history act place batch is acked =
    let opening : State = history.opening in
    let runs : List Run = runs_after config opening history.acts in
    let made : List OutBatch = made_after config opening runs in
    let (added, same) = added_by config opening act runs made in
    subst (λ bs. slice_get (acknowledged bs (act ∷ history.acts)) place ≡ Some batch)
    (append_assoc opening.batches made added ∙ ap (λ bs. opening.batches ++ bs) (sym same))
    (final (opening.batches ++ made) added history.acts act place batch is acked)
