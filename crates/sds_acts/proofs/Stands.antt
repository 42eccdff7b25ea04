-- The batches at the places that acks change are those that stand anew.
use Rattle.std.proofs.Common.{◌≡◌, ℕ, suc, ◌+◌, Bool, true, false, cond, not, List, [], ◌∷◌, ◌++◌, length, map, Option, None, Some, refl, sym, ap, ◌∙◌, append_assoc, filter, filter_map}
use Rattle.std.specs.Prelude.{slice_get}
use Rattle.std.specs.List.{cons_option, enumerate_from, zip}
use Rattle.std.specs.Option.{option_map}
use Rattle.sds_outside.specs.declared.keeping.Edit.{Edit}
use Rattle.sds_types.specs.declared.ack.Ack.{Ack}
use Rattle.sds_types.specs.declared.batch.OutBatch.{OutBatch}
use Rattle.sds_types.specs.declared.batch.Standing.{Standing}
use Rattle.sds_types.specs.declared.config.Config.{Config}
use Rattle.sds_types.specs.declared.counts.Counts.{Counts}
use Rattle.sds_history.specs.history.Acks.{same_standing}
use Rattle.sds_history.specs.history.Acts.{State}
use Rattle.sds_history.specs.history.Acts.Act.{Acked}
use Rattle.sds_history.specs.history.Standings.{acknowledged, standing_of}
use Rattle.sds_history.specs.history.Records.{batch_record}
use Rattle.sds_imagelaws.specs.Edits.{edits_of, puts_of, stands_anew}
use Rattle.sds_outgoing.proofs.Lists.{at_seam, seam_length}
use Rattle.sds_outgoing.specs.Restating.{is_restated, restated_at, restated_by, restated_from}
use Rattle.sds_outgoing.specs.declared.restating.Restated.{Restated}
use Rattle.sds_acts.specs.Counting.{after_act}
use Rattle.sds_acts.specs.Parts.{counts_put, restated_batch, restated_batches}
use Rattle.sds_acts.proofs.QuietActs.{acked_edits, anew}

module _ (known : OutBatch → Standing) where
  abbrev stood : OutBatch → OutBatch
  stood batch = record batch { standing = known batch }

  -- the batches that the places from one on make
  abbrev Made : List OutBatch → ℕ → List OutBatch → Type 0
  Made all place later = restated_batches all (restated_from place later (map stood later)) ≡ anew later (map stood later)

  one_on : (all : List OutBatch) (place : ℕ) (batch : OutBatch) (later : List OutBatch) (b : Bool) → slice_get all place ≡ Some batch
      → restated_batches all (map restated_at (filter is_restated (enumerate_from (place + 1) (zip later (map stood later))))) ≡ anew later (map stood later)
      → filter_map (restated_batch all) (map restated_at (cond b ((place, (batch, stood batch)) ∷ filter is_restated (enumerate_from (place + 1) (zip later (map stood later))))
      (filter is_restated (enumerate_from (place + 1) (zip later (map stood later))))))
      ≡ map (λ (at : OutBatch × OutBatch). at.1) (cond b ((batch, stood batch) ∷ filter stands_anew (zip later (map stood later))) (filter stands_anew (zip later (map stood later))))
  one_on all place batch later false here rest = rest
  one_on all place batch later true here rest =
      ap (λ (o : Option OutBatch). cons_option (option_map (λ (b : OutBatch). record b { standing = known batch }) o)
      (filter_map (restated_batch all) (map restated_at (filter is_restated (enumerate_from (place + 1) (zip later (map stood later))))))) here
      ∙ ap (λ (bs : List OutBatch). stood batch ∷ bs) rest

  all_from : (before later : List OutBatch) → Made (before ++ later) (length before) later
  all_from before [] = refl
  all_from before (batch ∷ later) =
      one_on (before ++ batch ∷ later) (length before) batch later (not (same_standing batch.standing (known batch))) (at_seam before batch later)
      (ap (λ (bs : List OutBatch). restated_batches bs (restated_from (length before + 1) later (map stood later))) (sym (append_assoc before (batch ∷ []) later))
      ∙ (ap (λ (n : ℕ). restated_batches ((before ++ batch ∷ []) ++ later) (restated_from n later (map stood later))) (sym (seam_length before batch))
      ∙ all_from (before ++ batch ∷ []) later))

pub acked_anew : (batches : List OutBatch) (from : List ℕ) (acks : List Ack) (changed : List Restated) → changed ≡ restated_by batches from acks
    → restated_batches batches changed ≡ anew batches (acknowledged batches (Acked from acks ∷ []))
acked_anew batches from acks changed is =
    ap (restated_batches batches) is ∙ all_from (standing_of batches (Acked from acks ∷ [])) [] batches

-- the edits of acks, as a node makes them
pub restating_is : (config : Config) (state : State) (from : List ℕ) (acks : List Ack) (changed : List Restated) (counts : Counts) (batches : List OutBatch)
    (edits committed : List Edit) → changed ≡ restated_by state.batches from acks → counts ≡ after_act state.counts → batches ≡ state.batches
    → edits ≡ puts_of (map (batch_record config) (restated_batches batches changed)) ++ counts_put counts → committed ≡ edits
    → committed ≡ edits_of config state (Acked from acks)
restating_is config state from acks changed counts batches edits committed is counted stand are same =
    same ∙ (are ∙ (ap (λ (bs : List OutBatch). puts_of (map (batch_record config) (restated_batches bs changed)) ++ counts_put counts) stand
    ∙ (ap (λ (bs : List OutBatch). puts_of (map (batch_record config) bs) ++ counts_put counts) (acked_anew state.batches from acks changed is)
    ∙ (ap (λ (c : Counts). puts_of (map (batch_record config) (anew state.batches (acknowledged state.batches (Acked from acks ∷ [])))) ++ counts_put c) counted
    ∙ sym (acked_edits config state from acks)))))
