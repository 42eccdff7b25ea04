use Rattle.std.proofs.Common.{inl, inr, refl}
use Rattle.sds_first_world.proofs.Always.{always_told}
use Rattle.sds_types.specs.declared.status.Status.TheVariants as status
use Rattle.symds.proofs.Telling.{refused_so}
use Rattle.symds.proofs.command.run.Goals as goal

pub returns-in-Err-Bad-clause-in_step : goal.returns-in-Err-Bad-clause-in_step
returns-in-Err-Bad-clause-in_step g c = always_told (g.I.Source.left c.args.input.now)

pub returns-in-Err-Help-clause-in_step : goal.returns-in-Err-Help-clause-in_step
returns-in-Err-Help-clause-in_step g c = always_told (g.I.Source.left c.args.input.now)

pub returns-in-Err-Version-clause-in_step : goal.returns-in-Err-Version-clause-in_step
returns-in-Err-Version-clause-in_step g c = always_told (g.I.Source.left c.args.input.now)

pub returns-in-Err-NoMemory-clause-in_step : goal.returns-in-Err-NoMemory-clause-in_step
returns-in-Err-NoMemory-clause-in_step g c = always_told (g.I.Source.left c.args.input.now)

pub returns-in-Err-NoMemory-clause-tells : goal.returns-in-Err-NoMemory-clause-tells
returns-in-Err-NoMemory-clause-tells g c = λ order is. refused_so _ _ status.NoMemory _ (inr (inl refl)) (λ fault memory. absurd (memory refl))

pub returns-clause-in_step : goal.returns-clause-in_step
returns-clause-in_step g c = always_told (g.I.Source.left c.args.input.now)

pub returns-clause-unread : goal.returns-clause-unread
returns-clause-unread g c = λ never. absurd (never c.in-Ok.order c.in-Ok.ensures.order)
