-- What a scenario's lines ask of a node: the number of a writer's last write, and whether every batch is loaded.
use Rattle.std.specs.Prelude.{ℕ, Bool, List, Option, None, Some}
use Rattle.std.specs.List.{list_all}
use Rattle.sds_types.specs.declared.batch.OutBatch.{OutBatch}
use Rattle.sds_types.specs.declared.counts.WriterLast.{WriterLast}
use Rattle.sds_first_spec.specs.Lanes.{is_ok}

-- the number of the last accepted write, or 0 without one
abbrev pub kept_number : Option WriterLast → ℕ
kept_number None = 0
kept_number (Some last) = last.number

-- whether every batch is known to be loaded
abbrev pub all_ok : List OutBatch → Bool
all_ok batches = list_all (λ (b : OutBatch). is_ok b.standing) batches
