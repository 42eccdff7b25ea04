use Rattle.sds_examples.proofs.ConflictsComputed.{fallback_takes, ignore_skips_the_row, ignore_skips_the_batch, manual_waits, greater_version_stands}
use Rattle.sds_examples.proofs.scenarios.conflicts_are_resolved.Goals as goal

pub returns-clause-fallback : goal.returns-clause-fallback
returns-clause-fallback c = fallback_takes

pub returns-clause-ignore_row : goal.returns-clause-ignore_row
returns-clause-ignore_row c = ignore_skips_the_row

pub returns-clause-ignore_batch : goal.returns-clause-ignore_batch
returns-clause-ignore_batch c = ignore_skips_the_batch

pub returns-clause-manual : goal.returns-clause-manual
returns-clause-manual c = manual_waits

pub returns-clause-newer : goal.returns-clause-newer
returns-clause-newer c = greater_version_stands
