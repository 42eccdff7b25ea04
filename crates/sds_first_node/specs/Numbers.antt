-- What a write is answered by its number alone.
use Rattle.std.specs.Prelude.{◌≡◌, ℕ, List, [], Result}
use Rattle.sds_types.specs.declared.write_answer.WriteRefusal.{WriteRefusal}
use Rattle.sds_types.specs.declared.write_answer.Written.{Written}
use Rattle.sds_types.specs.declared.tx_row.TxRow.{TxRow}
use Rattle.sds_first_spec.specs.Acts.{State}
use Rattle.sds_first_spec.specs.Calls.{by_writer, write_acts}
use Rattle.sds_first_spec.specs.Kept.{writer_in}

-- the number is the writer's next one, and the rows decide
abbrev pub IsNextNumber : State → List ℕ → ℕ → Type 0
IsNextNumber s writer number = (next : Result Written WriteRefusal) → by_writer (writer_in writer s.writers) number next ≡ next

-- the number is another one and has this answer, which makes no act
abbrev pub IsNumberAnswer : State → List ℕ → ℕ → Result Written WriteRefusal → Type 0
IsNumberAnswer s writer number answer =
    ((next : Result Written WriteRefusal) → by_writer (writer_in writer s.writers) number next ≡ answer)
    × ((tx : List TxRow) → write_acts answer writer number tx ≡ [])
