use Rattle.std.proofs.Common.{◌≡◌, ◌∙◌}
use Rattle.sds_types.specs.declared.node_fault.NodeFault.TheVariants.{Keeper}
use Rattle.sds_node.proofs.Reading.{cause_told}
use Rattle.sds_node.proofs.settling.read_kept.Goals as goal

pub returns-clause-cause : goal.returns-clause-cause
returns-clause-cause g c =
    λ found is. cause_told c.args.config.now (g.K.Keeper.keeping c.args.keeper.now) (g.K.Keeper.damage c.args.keeper.now) c.deref.result.now found
    (λ told same. c.in-Ok.ensures.all told same ∙ cc) (c.read_records.ensures.cause found is)

pub returns-clause-lasts : goal.returns-clause-lasts
returns-clause-lasts g c = record {
  damage = c.in-Ok.ensures.lasts.damage;
  faults = c.in-Ok.ensures.lasts.faults;
  rose = λ is. absurd (c.read_records.ensures.cause Keeper is);
}
