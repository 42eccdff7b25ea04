use Rattle.std.proofs.Common.{rules}
use Rattle.sds_batchtext.proofs.Entries.{set_names, push_names}
use Rattle.sds_batchtext.proofs.table_names.put_names.Goals as goal

pub returns-then-place-len : goal.returns-then-place-len
returns-then-place-len c = λ other. search (rules, set_names c.args.table.now c.args.names.now c.args.entries.now.items other)

pub returns : goal.returns
returns c = λ other. search (rules, push_names c.args.table.now c.args.names.now c.args.entries.now.items other)
