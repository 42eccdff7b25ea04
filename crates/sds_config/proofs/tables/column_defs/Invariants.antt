use Rattle.std.proofs.Common.{◌≡◌, take, map}
use Rattle.sds_config.specs.TableEntries as wanted
use Rattle.sds_config.proofs.tables.column_defs.Given as goal

-- the columns of the texts so far
abbrev pub invariant-loop-text : goal.invariant-loop-text
invariant-loop-text l = l.columns.items ≡ map (wanted.column_of l.earlier) (take l.text-index l.texts)
