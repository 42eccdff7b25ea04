use Rattle.sds_nodelaws.proofs.Finals.{ok_is_final}
use Rattle.sds_nodelaws.proofs.laws.ok_is_final.Goals as goal

pub returns : goal.returns
returns c = record { stays = ok_is_final }
