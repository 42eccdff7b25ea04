use Rattle.std.proofs.Common.{rules}
use Rattle.std.proofs.lemmas.Str.{chars-nil}
use Rattle.sds_rowvalues.proofs.names.no_name.Goals as goal

pub returns : goal.returns
returns c = search (rules, chars-nil)
