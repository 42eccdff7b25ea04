-- What a reading answers, and how one reading follows another.
use Rattle.std.specs.Prelude.{◌≡◌, ◌≢◌, Result, Ok, Err, MatchResult}
use Rattle.sds_types.specs.declared.config_refusal.ConfigRefusal.{ConfigRefusal}
use Rattle.sds_types.specs.declared.config_refusal.ConfigRefusal.TheVariants.{NoMemory}

-- the next reading follows where the first gave a value; else the first refusal stands
abbrev pub and_then : {T U : Type 0} → Result T ConfigRefusal → (T → Result U ConfigRefusal) → Result U ConfigRefusal
and_then (Ok value) next = next value
and_then (Err refusal) next = Err refusal

-- the refusal is the one that is wanted, or memory ran out
abbrev pub Refuses : {T : Type 0} → Result T ConfigRefusal → ConfigRefusal → Type 0
Refuses wanted refusal = refusal ≢ NoMemory → wanted ≡ Err refusal

-- the answer is the one that is wanted, or memory ran out
abbrev pub Answers : {T : Type 0} → Result T ConfigRefusal → Result T ConfigRefusal → Type 0
Answers answer wanted = MatchResult answer (λ value. wanted ≡ Ok value) (Refuses wanted)
