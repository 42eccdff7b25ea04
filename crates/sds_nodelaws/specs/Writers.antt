-- Each writer's writes count 1, 2, 3 and so on.
use Rattle.std.specs.Prelude.{◌≡◌, ℕ, List, length}
use Rattle.std.specs.List.{range_with_len}
use Rattle.sds_value.specs.declared.row.Peer.{Peer}
use Rattle.sds_types.specs.declared.config.Config.{Config}
use Rattle.sds_history.specs.history.States.{state_of}
use Rattle.sds_history.specs.history.Writers.{last_number, writer_of}
use Rattle.sds_history.specs.world.LaneParts.{numbers_of}
use Rattle.sds_nodelaws.specs.Calls.{Call, begun, called_all}

abbrev pub WritersCount : Type 0
WritersCount = (config : Config) (me : Peer) (calls : List Call) (writer : List ℕ)
    → numbers_of writer (called_all config (begun me) calls).acts
    ≡ range_with_len 1 (length (numbers_of writer (called_all config (begun me) calls).acts))

-- and what is kept of a writer is the number of its last write
abbrev pub LastIsKept : Type 0
LastIsKept = (config : Config) (me : Peer) (calls : List Call) (writer : List ℕ)
    → last_number (writer_of (state_of config (called_all config (begun me) calls)).writers writer)
    ≡ length (numbers_of writer (called_all config (begun me) calls).acts)
