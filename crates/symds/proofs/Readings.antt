-- What a source gives of a configuration file.
use Rattle.std.proofs.Common.{◌≡◌, inl, inr, ℕ, ◌+◌, ◌<◌, ◌^◌, Bool, true, false, List, [], ◌++◌, length, Option, None, Some, sym, ap, subst, ◌∙◌, refl, arith, append-nil, length-append}
use Rattle.std.specs.Prelude.{IfSome}
use Rattle.sds_types.specs.declared.config.Config.{Config}
use Rattle.sds_types.specs.declared.config_refusal.ConfigRefusal.{ConfigRefusal}
use Rattle.sds_config.specs.Configuration.{IsConfiguration, IsFirstRefusal}
use Rattle.sds_config.proofs.OneReading.{far}
use Rattle.sds_outside.specs.Told.{before_told, IsAtEnd}
use Rattle.sds_types.specs.declared.status.Status.{Status}
use Rattle.sds_types.specs.declared.status.Status.TheVariants as status
use Rattle.symds.specs.Configured.{SaysRefusal}

whole_by : (bytes file rest : List ℕ) → file ≡ bytes ++ rest → rest ≡ [] → bytes ≡ file
whole_by bytes file rest is none = sym (is ∙ (ap (λ (l : List ℕ). bytes ++ l) none ∙ append-nil bytes))

too_long : (bytes : List ℕ) (config : Config) → IsConfiguration bytes config → 2 ^ 20 < length bytes → ⊥
too_long bytes config (few, writes) many = far (length bytes) few many

pub configuration_read : (bytes : List ℕ) (old new : Option (List ℕ)) (is_over : Bool) (config : Config) → old ≡ before_told bytes new → (is_over ≡ false → IsAtEnd new) → (is_over ≡ true → 2 ^ 20 < length bytes)
    → IsConfiguration bytes config → IfSome old (λ (file : List ℕ). IsConfiguration file config)
configuration_read bytes None new is_over config told end over is = tt
configuration_read bytes (Some file) None is_over config told end over is = absurd (cc)
configuration_read bytes (Some file) (Some rest) true config told end over is = absurd (too_long bytes config is (over refl))
configuration_read bytes (Some file) (Some rest) false config told end over is =
    let whole : file ≡ bytes ++ rest = cc in subst (λ (l : List ℕ). IsConfiguration l config) (whole_by bytes file rest whole (end refl)) is

longer : (bytes file rest : List ℕ) → file ≡ bytes ++ rest → 2 ^ 20 < length bytes → 2 ^ 20 < length file
longer bytes file rest whole many =
    let sum : length (bytes ++ rest) ≡ length bytes + length rest = length-append bytes rest in
    let same : length file ≡ length (bytes ++ rest) = ap length whole in omega (arith, many, sum, same)

long_by : (bytes file rest : List ℕ) (refusal : ConfigRefusal) → file ≡ bytes ++ rest → 2 ^ 20 < length bytes → IsFirstRefusal bytes refusal → IsFirstRefusal file refusal
long_by bytes file rest refusal whole many (inl (long, is)) = inl (longer bytes file rest whole many, is)
long_by bytes file rest refusal whole many (inr (inl (few, none, other))) = absurd (far (length bytes) few many)
long_by bytes file rest refusal whole many (inr (inr (few, other))) = absurd (far (length bytes) few many)

pub refusal_read : (bytes : List ℕ) (old new : Option (List ℕ)) (is_over : Bool) (refusal : ConfigRefusal) → old ≡ before_told bytes new → (is_over ≡ false → IsAtEnd new) → (is_over ≡ true → 2 ^ 20 < length bytes)
    → IsFirstRefusal bytes refusal → IfSome old (λ (file : List ℕ). IsFirstRefusal file refusal)
refusal_read bytes None new is_over refusal told end over is = tt
refusal_read bytes (Some file) None is_over refusal told end over is = absurd (cc)
refusal_read bytes (Some file) (Some rest) true refusal told end over is = let whole : file ≡ bytes ++ rest = cc in long_by bytes file rest refusal whole (over refl) is
refusal_read bytes (Some file) (Some rest) false refusal told end over is =
    let whole : file ≡ bytes ++ rest = cc in subst (λ (l : List ℕ). IsFirstRefusal l refusal) (whole_by bytes file rest whole (end refl)) is

pub refused_read : (f : Option (List ℕ)) (why : ConfigRefusal) (answer : Status) → IfSome f (λ (file : List ℕ). IsFirstRefusal file why) → answer ≡ status.Config why
    → IfSome f (λ (file : List ℕ). SaysRefusal file answer)
refused_read None why answer is same = tt
refused_read (Some file) why answer is same = (why, (is, same))
