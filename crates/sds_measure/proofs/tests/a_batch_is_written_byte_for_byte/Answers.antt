use Rattle.std.proofs.Common.{IsTrue, List, ℕ, refl, subst, sym}
use Rattle.std.specs.Prelude.{codes}
use Rattle.sds_value.specs.Names.{is_name_text}
use Rattle.sds_batchtext.proofs.Plain.{plain_chars}
use Rattle.sds_measure.proofs.Samples.{writable_by}
use Rattle.sds_measure.proofs.tests.a_batch_is_written_byte_for_byte.Goals as goal

pub put_head-requires : goal.put_head-requires
put_head-requires g c = subst (λ (l : List ℕ). IsTrue (is_name_text l)) (sym (plain_chars (codes "s1") refl)) refl

pub put_batch-requires : goal.put_batch-requires
put_batch-requires g c = writable_by _ 2 c.in_ok-batch.ensures
