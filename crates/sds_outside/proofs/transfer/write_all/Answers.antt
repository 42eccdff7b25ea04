use Rattle.std.proofs.Common.{arith, rules}
use Rattle.sds_outside.proofs.Telling.{written_more}
use Rattle.sds_outside.proofs.transfer.write_all.Goals as goal

pub loop-at-preserved : goal.loop-at-preserved
loop-at-preserved g c = record {
  so_far = written_more _ _ _ _ _ _ _ c.loop-at.invariant.so_far c.split_at.ensures.back c.in_ok-count.ensures.bytes.took;
  later = omega arith;
  within = search rules;
}
