use Rattle.sds_imagelaws.proofs.Images.{new_nodes_have_one_record}
use Rattle.sds_imagelaws.proofs.laws.new_nodes_have_one_record.Goals as goal

pub returns : goal.returns
returns c = record { one = new_nodes_have_one_record }
