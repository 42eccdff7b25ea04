-- What a scenario's lines ask of the first node of a rehearsal, the head office.
use Rattle.std.specs.Prelude.{ℕ, Bool, true, List, [], ◌∷◌}
use Rattle.sds_first_spec.specs.Kept.{writer_in}
use Rattle.sds_first_spec.specs.Settled.{kept_number, all_ok}
use Rattle.sds_first_node.specs.Meaning.{kept_of}
use Rattle.sds_first_world.specs.declared.line.Line.{Line}
use Rattle.sds_first_world.specs.declared.line.Line.TheVariants.{Write}
use Rattle.sds_first_world.specs.declared.nodes.Named.{Named}

-- the number of a writer's last accepted write, or 0
abbrev pub last_by : List ℕ → List Named → ℕ
last_by writer [] = 0
last_by writer (named ∷ nodes) = kept_number (writer_in writer (kept_of named.node).writers)

-- every batch that it made is known to be loaded
abbrev pub settled_by : List Named → Bool
settled_by [] = true
settled_by (named ∷ nodes) = all_ok (kept_of named.node).batches

-- the number of the last accepted write of the writer whose write begins with a line, 0 for any other line
abbrev pub last_said : List Named → Line → ℕ
last_said nodes (Write writer number) = last_by writer nodes
last_said nodes line = 0
