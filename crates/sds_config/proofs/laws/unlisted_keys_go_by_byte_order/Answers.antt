use Rattle.sds_config.proofs.Least.{unlisted_is_least}
use Rattle.sds_config.proofs.laws.unlisted_keys_go_by_byte_order.Goals as goal

pub returns : goal.returns
returns c = unlisted_is_least
