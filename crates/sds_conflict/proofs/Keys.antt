-- Two keys that are one.
use Rattle.std.proofs.Common.{◌≡◌, ◌&&◌, refl, Ordering}
use Rattle.std.specs.Ordering.{is_eq, ordering_then}
use Rattle.std.specs.declared.cmp.Ordering.TheVariants.{Less, Equal, Greater}

pub same_then : (first rest : Ordering) → is_eq (ordering_then first rest) ≡ (is_eq first && is_eq rest)
same_then Less rest = refl
same_then Equal rest = refl
same_then Greater rest = refl
