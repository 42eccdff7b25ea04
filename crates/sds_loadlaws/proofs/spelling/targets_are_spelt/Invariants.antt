use Rattle.std.proofs.Common.{◌≡◌, drop}
use Rattle.std.specs.List.{list_all}
use Rattle.std.specs.Str.{all_scalars}
use Rattle.sds_types.specs.declared.transform_column.MapPair.{MapPair}
use Rattle.sds_loadlaws.proofs.spelling.targets_are_spelt.Given as goal

abbrev pub invariant-loop-pair : goal.invariant-loop-pair
invariant-loop-pair l =
    list_all (λ (pair : MapPair). all_scalars pair.target) (drop l.pair-index l.pairs) ≡ list_all (λ (pair : MapPair). all_scalars pair.target) l.pairs
