-- The words of the statuses of outgoing batches.
use Rattle.std.specs.Prelude.{ℕ, List, codes}
use Rattle.sds_types.specs.declared.batch.Standing.{Standing}
use Rattle.sds_types.specs.declared.batch.Standing.TheVariants.{New, Erred, Acked}

abbrev pub name_of : Standing → List ℕ
name_of New = codes "NE"
name_of (Erred row rule) = codes "ER"
name_of Acked = codes "OK"
