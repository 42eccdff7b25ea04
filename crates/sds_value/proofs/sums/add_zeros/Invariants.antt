use Rattle.std.proofs.Common.{◌≡◌, ◌*◌, ◌^◌, ◌<◌}
use Rattle.sds_value.proofs.sums.add_zeros.Given as goal

abbrev pub invariant-loop : goal.invariant-loop
invariant-loop l = record { small : l.sum < 2 ^ 64; so_far : l.sum ≡ l.number * 10 ^ l.counter }
