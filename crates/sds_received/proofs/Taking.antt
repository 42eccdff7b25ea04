-- The batches that are taken from a reader, one after another.
use Rattle.std.proofs.Common.{◌≡◌, ℕ, true, List, [], ◌∷◌, ◌++◌, Option, None, Some, Result, Ok, Err, IfOk, sym, ap, subst, append_assoc, ◌∙◌}
use Rattle.sds_base.specs.declared.memory.NoMemory.{NoMemory}
use Rattle.sds_types.specs.declared.document.BatchDoc.{BatchDoc}
use Rattle.sds_batchtext.specs.Documents.{batches_in}
use Rattle.sds_batchtext.specs.Reading.{HasRead, ReaderState, Takes}

pub ended : (text : List ℕ) (taken : List BatchDoc) (found : Option BatchDoc) (new : ReaderState) → found ≡ None → Takes text taken true (Ok found) new
    → taken ≡ batches_in true text
ended text taken None new is takes = takes.0
ended text taken (Some doc) new is takes = absurd (cc)

one_taken : (text : List ℕ) (taken : List BatchDoc) (found : Option BatchDoc) (doc : BatchDoc) (new : ReaderState) → found ≡ Some doc
    → Takes text taken true (Ok found) new → HasRead text (taken ++ doc ∷ []) true new
one_taken text taken None doc new is takes = absurd (cc)
one_taken text taken (Some other) doc new is takes =
    subst (λ (d : BatchDoc). HasRead text (taken ++ d ∷ []) true new) (ap (λ o. elim o [ None ↦ other | Some d ↦ d ]) is) takes

pub goes_on : (text : List ℕ) (taken docs later : List BatchDoc) (found : Option BatchDoc) (doc : BatchDoc) (new : ReaderState) → found ≡ Some doc
    → later ≡ docs ++ doc ∷ [] → Takes text (taken ++ docs) true (Ok found) new → HasRead text (taken ++ later) true new
goes_on text taken docs later found doc new is pushed takes =
    subst (λ (l : List BatchDoc). HasRead text l true new) (append_assoc taken docs (doc ∷ []) ∙ ap (λ l. taken ++ l) (sym pushed))
    (one_taken text (taken ++ docs) found doc new is takes)

pub whole : (text : List ℕ) (reader : ReaderState) (r : Result (List BatchDoc) NoMemory) → HasRead text [] true reader
    → IfOk r (λ docs. (text : List ℕ) (taken : List BatchDoc) → HasRead text taken true reader → taken ++ docs ≡ batches_in true text)
    → IfOk r (λ docs. docs ≡ batches_in true text)
whole text reader (Err memory) has are = tt
whole text reader (Ok docs) has are = are text [] has
