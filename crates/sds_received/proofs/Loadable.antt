-- The batches that are read of a text may be loaded.
use Rattle.std.proofs.Common.{◌≡◌, ◌^◌, ℕ, true, List, subst, sym, All}
use Rattle.std.proofs.lemmas.List.Sums.{AllPass-from_list_all}
use Rattle.std.specs.List.{list_all}
use Rattle.sds_types.specs.declared.document.BatchDoc.{BatchDoc}
use Rattle.sds_types.specs.declared.transform.TransformDef.{TransformDef}
use Rattle.sds_batchtext.specs.Documents.{batches_in}
use Rattle.sds_batchtext.specs.Writable.{is_batch_text}
use Rattle.sds_doclaws.specs.Writable.{IsOfCharacters}
use Rattle.sds_loadlaws.specs.ReadBatches.{IsLoadable}
use Rattle.sds_nodelaws.proofs.Held.{mapped}
use Rattle.sds_nodelaws.proofs.Lists.{from_lt}
use Rattle.sds_received.specs.Characters.{is_column_text, is_transform_text}
use Rattle.sds_received.specs.Rows.{has_few_rows}
use Rattle.sds_received.proofs.Ids.{HasId, batches_good}

all_loadable : (docs : List BatchDoc) → All HasId docs → list_all has_few_rows docs ≡ true → list_all is_batch_text docs ≡ true → All IsLoadable docs
all_loadable docs ids few texts = λ k d within.
    let id = ids k d within in
    record {
      first = id.0;
      last = id.1;
      few = from_lt _ (2 ^ 32) (AllPass-from_list_all has_few_rows docs few k d within);
      spelt = AllPass-from_list_all is_batch_text docs texts k d within;
    }

pub loadable : (text : List ℕ) (docs : List BatchDoc) → docs ≡ batches_in true text → list_all has_few_rows docs ≡ true → list_all is_batch_text docs ≡ true
    → All IsLoadable docs
loadable text docs are few texts = all_loadable docs (subst (All HasId) (sym are) (batches_good true text)) few texts

-- the expressions of transforms
pub of_characters : (transforms : List TransformDef) → list_all is_transform_text transforms ≡ true → All IsOfCharacters transforms
of_characters transforms are =
    mapped (λ (t : TransformDef). is_transform_text t ≡ true) IsOfCharacters transforms (λ t is. AllPass-from_list_all is_column_text t.columns is)
    (AllPass-from_list_all is_transform_text transforms are)
