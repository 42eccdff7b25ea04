-- The counters after an act.
use Rattle.std.specs.Prelude.{ℕ, ◌+◌}
use Rattle.sds_types.specs.declared.counts.Counts.{Counts}

-- an act that captures nothing and makes no batch is one act more
abbrev pub after_act : Counts → Counts
after_act counts = record counts { acts = counts.acts + 1 }

-- a routing run makes so many batches and routes all changes
abbrev pub after_route : Counts → ℕ → Counts
after_route counts made = record counts {
  acts = counts.acts + 1;
  last_batch = counts.last_batch + made;
  routed = counts.last_change;
}
