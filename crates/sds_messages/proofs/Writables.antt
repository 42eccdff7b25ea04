-- The documents of a sound state's batches have a written form.
use Rattle.std.proofs.Common.{◌≡◌, ℕ, ◌==◌, List, Option, None, Some, refl, sym, ap, subst, ◌∙◌, All}
use Rattle.std.specs.Prelude.{IsTrue, IfSome, option_map, unwrap_or}
use Rattle.sds_types.specs.declared.batch.OutBatch.{OutBatch}
use Rattle.sds_types.specs.declared.config.Config.{Config}
use Rattle.sds_types.specs.declared.document.BatchDoc.{BatchDoc}
use Rattle.sds_batchtext.specs.Writable.{is_writable}
use Rattle.sds_history.specs.history.Acts.{State}
use Rattle.sds_history.specs.history.Documents.{doc_of_batch}
use Rattle.sds_outgoing.specs.Batches.{batch_of_number}
use Rattle.sds_outgoing.proofs.Lists.{found_holds}
use Rattle.sds_messages.specs.Texts.{AreWritable}

pub document_is : (config : Config) (state : State) (batch : OutBatch) (doc : BatchDoc) (found : Option OutBatch) → found ≡ Some batch
    → Some doc ≡ option_map (doc_of_batch config state) found → doc ≡ doc_of_batch config state batch
document_is config state batch doc found known is =
    ap (λ (o : Option BatchDoc). unwrap_or o doc) (is ∙ ap (λ (o : Option OutBatch). option_map (doc_of_batch config state) o) known)

pub document_writable : (config : Config) (state : State) (batch : OutBatch) (doc : BatchDoc) → AreWritable config state
    → batch_of_number state.batches batch.id ≡ Some batch → Some doc ≡ option_map (doc_of_batch config state) (batch_of_number state.batches batch.id)
    → IsTrue (is_writable doc)
document_writable config state batch doc writable known is =
    let whole : IfSome (batch_of_number state.batches batch.id) (λ (b : OutBatch). IsTrue (is_writable (doc_of_batch config state b))) =
    found_holds (λ (b : OutBatch). IsTrue (is_writable (doc_of_batch config state b))) (λ (b : OutBatch). b.id == batch.id) state.batches writable in
    subst (λ (d : BatchDoc). IsTrue (is_writable d)) (sym (document_is config state batch doc (batch_of_number state.batches batch.id) known is))
    (subst (λ (o : Option OutBatch). IfSome o (λ (b : OutBatch). IsTrue (is_writable (doc_of_batch config state b)))) known whole)
