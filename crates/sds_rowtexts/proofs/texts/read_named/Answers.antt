use Rattle.std.proofs.Common.{rules}
use Rattle.sds_rowtexts.proofs.Telling.{key_is_told}
use Rattle.sds_rowtexts.proofs.texts.read_named.Goals as goal

pub returns : goal.returns
returns c =
    let key = key_is_told c.args.def.now c.args.form c.args.row.now c.in_ok-read.read.key c.in_ok-read.read.new (search rules) (search rules) in
    search rules
