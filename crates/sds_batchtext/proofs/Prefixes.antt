-- A prefix of a document gives a prefix of its batches.
use Rattle.std.proofs.Common.{◌≡◌, ℕ, Bool, true, false, List, [], ◌∷◌, ◌++◌, Option, None, Some, Result, Ok, Err, refl, sym, ap, ◌∙◌, append-nil, append_assoc}
use Rattle.sds_line.proofs.Onward.{lines_go_on, lines_go_on_at_end}
use Rattle.sds_line.specs.declared.line.Line.{Line}
use Rattle.sds_line.specs.Splitting.{lines_in}
use Rattle.sds_types.specs.declared.document.BatchDoc.{BatchDoc}
use Rattle.sds_types.specs.declared.document.DocumentCause.{DocumentCause}
use Rattle.sds_types.specs.declared.document.End.{End}
use Rattle.sds_batchtext.specs.declared.doc_line.DocLine.{DocLine}
use Rattle.sds_batchtext.specs.Documents.{and_one, batch_said, batches_of, batches_in}
use Rattle.sds_batchtext.specs.Judging.{judged, if_judged, lines_said, broken_line}
use Rattle.sds_batchtext.proofs.Readers.{lines_further, lines_stay}

abbrev said_by : List DocLine → List Line → Result DocLine DocumentCause → List DocLine
said_by older lines j = if_judged j (λ cause. older) (λ said. lines_said (said ∷ older) lines)

-- what later lines say stands before what earlier ones say, the newest first
newer : (older : List DocLine) (lines : List Line) → (new : List DocLine) × (lines_said older lines ≡ new ++ older)
newer older [] = ([], refl)
newer older (line ∷ lines) = by (judged older line.number line.fields) refl (λ said. newer (said ∷ older) lines)
  where
    by : (j : Result DocLine DocumentCause) → judged older line.number line.fields ≡ j → ((said : DocLine) → (new : List DocLine) × (lines_said (said ∷ older) lines ≡ new ++ said ∷ older))
        → (new : List DocLine) × (lines_said older (line ∷ lines) ≡ new ++ older)
    by (Err cause) is later = ([], ap (said_by older lines) is)
    by (Ok said) is later =
        let more = later said in (more.0 ++ said ∷ [], ap (said_by older lines) is ∙ (more.1 ∙ sym (append_assoc more.0 (said ∷ []) older)))

and_more : (front rest : List BatchDoc) (o : Option BatchDoc) → and_one (front ++ rest) o ≡ front ++ and_one rest o
and_more front rest None = refl
and_more front rest (Some batch) = append_assoc front rest (batch ∷ [])

-- and gives further batches
further : (new older : List DocLine) → (rest : List BatchDoc) × (batches_of (new ++ older) ≡ batches_of older ++ rest)
further [] older = ([], sym (append-nil (batches_of older)))
further (line ∷ new) older =
    let more = further new older in (
      and_one more.0 (batch_said (new ++ older) line),
      ap (λ (l : List BatchDoc). and_one l (batch_said (new ++ older) line)) more.1 ∙ and_more (batches_of older) more.0 (batch_said (new ++ older) line),
    )

after : (front rest : List Line) → (more : List BatchDoc) × (batches_of (lines_said [] (front ++ rest)) ≡ batches_of (lines_said [] front) ++ more)
after front rest = by (broken_line [] front) refl
  where
    by : (o : Option End) → broken_line [] front ≡ o → (more : List BatchDoc) × (batches_of (lines_said [] (front ++ rest)) ≡ batches_of (lines_said [] front) ++ more)
    by (Some ending) is = ([], ap batches_of (lines_stay [] front rest ending is).0 ∙ sym (append-nil (batches_of (lines_said [] front))))
    by None is =
        let new = newer (lines_said [] front) rest in
        let more = further new.0 (lines_said [] front) in
        (more.0, ap batches_of ((lines_further [] front rest is).0 ∙ new.1) ∙ more.1)

pub batches_go_on : (finished : Bool) (front more : List ℕ) → (rest : List BatchDoc) × (batches_in finished (front ++ more) ≡ batches_in false front ++ rest)
batches_go_on finished front more =
    let on = lines_go_on finished front more in
    let next = after (lines_in false front).lines on.0 in
    (next.0, ap (λ (l : List Line). batches_of (lines_said [] l)) on.1 ∙ next.1)

pub batches_go_on_at_end : (text : List ℕ) → (rest : List BatchDoc) × (batches_in true text ≡ batches_in false text ++ rest)
batches_go_on_at_end text =
    let on = lines_go_on_at_end text in
    let next = after (lines_in false text).lines on.0 in
    (next.0, ap (λ (l : List Line). batches_of (lines_said [] l)) on.1 ∙ next.1)
