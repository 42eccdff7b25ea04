-- What a rehearsal is answered and writes, by what was read and played.
use Rattle.std.proofs.Common.{◌≡◌, ◌≢◌, ◌⊎◌, inl, inr, ℕ, ◌+◌, ◌<◌, ◌≤◌, ◌^◌, Bool, true, not, List, [], ◌++◌, length, map, take, Option, None, Some, Result, Err, refl, sym, ap, subst, ◌∙◌, arith, append-nil, length-append}
use Rattle.std.specs.Prelude.{IfSome, nat_lt}
use Rattle.std.proofs.lemmas.Bool.Decides.{nat_tests}
use Rattle.std.proofs.lemmas.List.{take-append-le}
use Rattle.sds_line.specs.Splitting.{lines_in}
use Rattle.sds_outside.specs.Told.{before_told, after_told}
use Rattle.sds_first_spec.specs.One.{one}
use Rattle.sds_first_spec.specs.Screen.{screen_of}
use Rattle.sds_first_spec.specs.World.{empty_world}
use Rattle.sds_first_world.specs.declared.rehearsal.BadLine.{BadLine}
use Rattle.sds_first_world.specs.declared.rehearsal.WorldRefusal.{WorldRefusal}
use Rattle.sds_first_world.specs.declared.rehearsal.WorldRefusal.TheVariants as world_refusal
use Rattle.sds_first_world.specs.Played.{most_bytes, is_long, through_last_feed, looked_at, said, events_from, refusal_from, refusal_of, screen, ending, Shows}

-- READING
long_by : (n : ℕ) → 2 ^ 30 < n → nat_lt most_bytes n ≡ true
long_by n lt = grind (arith, nat_tests)

cut_by : (front bytes text rest : List ℕ) → front ≡ through_last_feed (take most_bytes bytes) → text ≡ bytes ++ rest → 2 ^ 30 < length bytes → (front ≡ looked_at text) × (true ≡ is_long text)
cut_by front bytes text rest is whole over =
    let sum : length (bytes ++ rest) ≡ length bytes + length rest = length-append bytes rest in
    let long : is_long text ≡ true = ap is_long whole ∙ long_by (length (bytes ++ rest)) (omega (arith, over, sum)) in
    let same : take most_bytes bytes ≡ take most_bytes text = sym (take-append-le most_bytes bytes rest (omega (arith, over))) ∙ ap (λ (l : List ℕ). take most_bytes l) (sym whole) in (
      is ∙ (ap through_last_feed same ∙ sym (looked_long text long)),
      sym long,
    ) where
      looked_long : (text : List ℕ) → is_long text ≡ true → looked_at text ≡ through_last_feed (take most_bytes text)
      looked_long text long = rw long refl

-- of a source that has more than 1 GiB
pub long_read : (front bytes : List ℕ) (old new : Option (List ℕ)) → front ≡ through_last_feed (take most_bytes bytes) → old ≡ before_told bytes new → 2 ^ 30 < length bytes
    → IfSome old (λ (text : List ℕ). (front ≡ looked_at text) × (true ≡ is_long text))
long_read front bytes None None is told over = tt
long_read front bytes None (Some rest) is told over = tt
long_read front bytes (Some text) None is told over = absurd (cc)
long_read front bytes (Some text) (Some rest) is told over = let whole : text ≡ bytes ++ rest = cc in cut_by front bytes text rest is whole over

-- NOTHING WRITTEN
unchanged : (told : Option (List ℕ)) → told ≡ after_told told []
unchanged None = refl
unchanged (Some front) = ap (λ (l : List ℕ). Some l) (sym (append-nil front))

none_taken : (told : Option (List ℕ)) (text : List ℕ) → told ≡ after_told told (take 0 text)
none_taken told text = unchanged told

pub unshown : (is_built : Bool) (o told : Option (List ℕ)) (result : Result (Unit {0}) WorldRefusal) → (result ≡ Err world_refusal.ReadFault) ⊎ (result ≡ Err world_refusal.NoMemory)
    → IfSome o (λ (text : List ℕ). Shows is_built text result told told)
unshown is_built None told result is = tt
unshown is_built (Some text) told result (inl is) = record { ends = λ read write memory. absurd (read is); part = (0, (omega arith, none_taken told (screen is_built text))) }
unshown is_built (Some text) told result (inr is) = record { ends = λ read write memory. absurd (memory is); part = (0, (omega arith, none_taken told (screen is_built text))) }

-- THE WHOLE SCREEN, or a front of it
abbrev Looked : List ℕ → List ℕ → Bool → Type 0
Looked text front is_over = (front ≡ looked_at text) × (is_over ≡ is_long text)

abbrev pub RefusedAs : Bool → List ℕ → Bool → Option BadLine → Type 0
RefusedAs is_built front is_over bad = bad ≡ refusal_from is_built is_over (lines_in (not is_over) front) [] (lines_in (not is_over) front).lines

abbrev pub ShownAs : Bool → List ℕ → Bool → List ℕ → Type 0
ShownAs is_built front is_over written = written ≡ screen_of one empty_world (events_from is_built [] (map said (lines_in (not is_over) front).lines))

played_as : (is_built : Bool) (text front written : List ℕ) (is_over : Bool) (bad : Option BadLine) → Looked text front is_over → RefusedAs is_built front is_over bad → ShownAs is_built front is_over written
    → (bad ≡ refusal_of is_built text) × (written ≡ screen is_built text)
played_as is_built text front written is_over bad is refused shown = (
  subst (λ (l : List ℕ). RefusedAs is_built l (is_long text) bad) is.0 (subst (λ (b : Bool). RefusedAs is_built front b bad) is.1 refused),
  subst (λ (l : List ℕ). ShownAs is_built l (is_long text) written) is.0 (subst (λ (b : Bool). ShownAs is_built front b written) is.1 shown),
)

abbrev PartOf : List ℕ → Option (List ℕ) → Option (List ℕ) → Type 0
PartOf written old new = (n : ℕ) × ((n ≤ length written) × (new ≡ after_told old (take n written)))

shows_by : (is_built : Bool) (text front written : List ℕ) (is_over : Bool) (bad : Option BadLine) (result : Result (Unit {0}) WorldRefusal) (old new : Option (List ℕ)) → Looked text front is_over
    → RefusedAs is_built front is_over bad → ShownAs is_built front is_over written
    → (result ≢ Err world_refusal.WriteFault → (result ≡ ending bad) × (new ≡ after_told old written)) → PartOf written old new → Shows is_built text result old new
shows_by is_built text front written is_over bad result old new is refused shown ends part =
    let both : (bad ≡ refusal_of is_built text) × (written ≡ screen is_built text) = played_as is_built text front written is_over bad is refused shown in
    record {
      ends = λ read write memory. (
        (ends write).0 ∙ ap ending both.0,
        (ends write).1 ∙ ap (λ (l : List ℕ). after_told old l) both.1,
      );
      part = subst (λ (l : List ℕ). PartOf l old new) both.1 part;
    }

pub shows_all : (is_built : Bool) (o : Option (List ℕ)) (front written : List ℕ) (is_over : Bool) (bad : Option BadLine) (result : Result (Unit {0}) WorldRefusal) (old new : Option (List ℕ))
    → IfSome o (λ (text : List ℕ). (front ≡ looked_at text) × (is_over ≡ is_long text)) → RefusedAs is_built front is_over bad → ShownAs is_built front is_over written
    → (result ≢ Err world_refusal.WriteFault → (result ≡ ending bad) × (new ≡ after_told old written)) → ((n : ℕ) × ((n ≤ length written) × (new ≡ after_told old (take n written))))
    → IfSome o (λ (text : List ℕ). Shows is_built text result old new)
shows_all is_built None front written is_over bad result old new is refused shown ends part = tt
shows_all is_built (Some text) front written is_over bad result old new is refused shown ends part = shows_by is_built text front written is_over bad result old new is refused shown ends part
