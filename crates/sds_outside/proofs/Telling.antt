-- What is told after several reads or writes.
use Rattle.std.proofs.Common.{◌≡◌, ℕ, ◌+◌, List, ◌++◌, take, drop, Option, Some, None, sym, ap, refl, ◌∙◌, append_assoc}
use Rattle.std.proofs.Math.Seq.{take-add}
use Rattle.sds_outside.specs.Told.{after_told}

-- two pieces behind what is told are one
after_twice : (told : Option (List ℕ)) (xs ys : List ℕ) → after_told (after_told told xs) ys ≡ after_told told (xs ++ ys)
after_twice None xs ys = refl
after_twice (Some zs) xs ys = ap Some (append_assoc zs xs ys)

-- one more piece of these bytes was written
pub written_more : (first now next : Option (List ℕ)) (bytes rest : List ℕ) (at n : ℕ) → now ≡ after_told first (take at bytes)
    → rest ≡ drop at bytes → next ≡ after_told now (take n rest) → next ≡ after_told first (take (at + n) bytes)
written_more first now next bytes rest at n so_far back took =
    rw (took, so_far, back) (after_twice first (take at bytes) (take n (drop at bytes)) ∙ ap (λ (xs : List ℕ). after_told first xs) (sym (take-add at n bytes)))
