use Rattle.std.proofs.Common.{IsTrue, List, ℕ, refl, subst, sym}
use Rattle.std.specs.Prelude.{codes}
use Rattle.sds_value.specs.Names.{is_name_text}
use Rattle.sds_batchtext.proofs.Plain.{plain_chars}
use Rattle.sds_measure.proofs.measures.read_batches.Goals as goal

pub put_head-requires : goal.put_head-requires
put_head-requires c = subst (λ (l : List ℕ). IsTrue (is_name_text l)) (sym (plain_chars (codes "s1") refl)) refl
