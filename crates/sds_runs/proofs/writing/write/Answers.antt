use Rattle.std.proofs.Common.{arith, refl}
use Rattle.std.specs.Str.{chars}
use Rattle.sds_image.specs.Meaning.{meaning_of}
use Rattle.sds_runs.proofs.Numbered.{by_number, told_by_number}
use Rattle.sds_runs.proofs.writing.write.Goals as goal

pub returns-in-Some-clause-ends : goal.returns-in-Some-clause-ends
returns-in-Some-clause-ends g c =
    by_number c.args.config.now (meaning_of c.args.state.now) (g.K.Keeper.keeping c.args.keeper.now) (chars c.args.writer.now) c.args.number c.args.tx.now
    c.in-Some.answer c.if-tx-gt-MOST_WRITE_ROWS.false c.in-Some.ensures

pub returns-in-Some-clause-lasts : goal.returns-in-Some-clause-lasts
returns-in-Some-clause-lasts g c = record {
  damage = refl;
  faults = omega arith;
  rose = λ has.
      absurd ((told_by_number c.args.config.now (meaning_of c.args.state.now) (g.K.Keeper.keeping c.args.keeper.now) (chars c.args.writer.now) c.args.number c.args.tx.now
      c.in-Some.answer c.in-Some.ensures).0 has);
}
