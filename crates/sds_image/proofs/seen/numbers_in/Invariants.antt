use Rattle.std.proofs.Common.{◌≡◌, ◌==◌, ◌||◌, ℕ, drop, nat_cmp}
use Rattle.std.specs.BTreeSet.{contains}
use Rattle.std.specs.List.{filter_map, list_any}
use Rattle.sds_types.specs.declared.row.Change.{Change}
use Rattle.sds_image.specs.Reading.{change_of_part}
use Rattle.sds_image.proofs.seen.numbers_in.Given as goal

abbrev pub invariant-loop-part : goal.invariant-loop-part
invariant-loop-part l = (number : ℕ)
    → (contains nat_cmp l.found number || list_any (λ (change : Change). change.id == number) (filter_map change_of_part (drop l.part-index l.parts)))
    ≡ list_any (λ (change : Change). change.id == number) (filter_map change_of_part l.parts)
