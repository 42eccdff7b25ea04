-- What a node keeps of each writer's last write, ascending by the writers' names.
use Rattle.std.specs.Prelude.{ℕ, ◌+◌, List, [], ◌∷◌, length, Option}
use Rattle.std.specs.Option.{option_map_or}
use Rattle.std.specs.Str.{encode_utf8_all}
use Rattle.sds_types.specs.declared.config.Config.{Config}
use Rattle.sds_types.specs.declared.counts.WriterLast.{WriterLast}
use Rattle.sds_history.specs.history.Acts.{Act, State}
use Rattle.sds_history.specs.history.Acts.Act.{Wrote}
use Rattle.sds_history.specs.history.Orders.{with_item, item_at}
use Rattle.sds_history.specs.history.Runs.{Run, captured_in, last_change_after}

abbrev pub writer_key : WriterLast → List ℕ
writer_key last = encode_utf8_all last.writer

-- the number of a write, the number of its first change, and how many it has
abbrev pub writers_by : Act → ℕ → ℕ → List WriterLast → List WriterLast
writers_by (Wrote writer number rows) first count writers = with_item writer_key
    (record { writer = writer; number = number; first = first; count = count }) writers
writers_by act first count writers = writers

abbrev pub writers_after : Config → State → List Run → List WriterLast
writers_after config opening [] = opening.writers
writers_after config opening (run ∷ older) =
    writers_by run.act (last_change_after config opening older + 1)
    (length (captured_in config opening 0 0 run)) (writers_after config opening older)

-- what is kept of a writer
abbrev pub writer_of : List WriterLast → List ℕ → Option WriterLast
writer_of writers name = item_at writer_key (encode_utf8_all name) writers

-- the number of a writer's last write, 0 before the first
abbrev pub last_number : Option WriterLast → ℕ
last_number kept = option_map_or (λ (last : WriterLast). last.number) kept 0
