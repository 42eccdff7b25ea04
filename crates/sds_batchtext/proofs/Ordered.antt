-- A document is written in order.
use Rattle.std.proofs.Common.{◌≡◌, ℕ, List, [], ◌∷◌, ◌++◌, refl, sym, ap, ◌∙◌, append_assoc, append-nil}
use Rattle.sds_types.specs.declared.document.BatchDoc.{BatchDoc}
use Rattle.sds_batchtext.specs.Writing.{text_of_lines, lines_of_batch, lines_of_batches, head_lines, head_text, batch_text, text_of}
use Rattle.sds_batchtext.proofs.Fronts.{text_append}

pub head_first : (node : List ℕ) → text_of node [] ≡ head_text node
head_first node = refl

one_more : (batches : List BatchDoc) (batch : BatchDoc) → lines_of_batches (batches ++ batch ∷ []) ≡ lines_of_batches batches ++ lines_of_batch batch
one_more [] batch = append-nil (lines_of_batch batch)
one_more (first ∷ batches) batch =
    ap (λ (l : List (List ℕ)). lines_of_batch first ++ l) (one_more batches batch) ∙ sym (append_assoc (lines_of_batch first) (lines_of_batches batches) (lines_of_batch batch))

pub batch_next : (node : List ℕ) (batches : List BatchDoc) (batch : BatchDoc) → text_of node (batches ++ batch ∷ []) ≡ text_of node batches ++ batch_text batch
batch_next node batches batch =
    ap (λ (l : List (List ℕ)). text_of_lines (head_lines node ++ l)) (one_more batches batch)
    ∙ (ap text_of_lines (sym (append_assoc (head_lines node) (lines_of_batches batches) (lines_of_batch batch)))
    ∙ text_append (head_lines node ++ lines_of_batches batches) (lines_of_batch batch))
