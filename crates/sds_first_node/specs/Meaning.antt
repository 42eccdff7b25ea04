-- What a node stands for: the state of a history, by what it keeps.
use Rattle.std.specs.Prelude.{◌≡◌, ◌++◌, List}
use Rattle.sds_first_spec.specs.Acts.{Act, State, History}
use Rattle.sds_first_spec.specs.History.{state_of}
use Rattle.sds_first_spec.specs.One.{one}
use Rattle.sds_first_node.specs.declared.node.Node.{Node}

-- what a node keeps
abbrev pub kept_of : Node → State
kept_of node = node.kept

-- a node stands for a history where it keeps what the history leaves
abbrev pub StandsFor : Node → History → Type 0
StandsFor node h = node.kept ≡ state_of one h

-- a history with further acts, the newest first
abbrev pub followed_by : History → List Act → History
followed_by h acts = record h { acts = acts ++ h.acts }
