-- Why a line may not stand where it does.
use Rattle.std.specs.Prelude.{ℕ, Bool, true, false, ◌&&◌, ◌||◌, not, nat_le, if◌then◌else◌, List, length, Option, None, Some, is_some}
use Rattle.std.specs.List.{list_all}
use Rattle.sds_types.specs.declared.config.Config.{Config}
use Rattle.sds_types.specs.declared.scenario.ScenarioCause.{ScenarioCause}
use Rattle.sds_types.specs.declared.scenario.ScenarioCause.TheVariants.{BadForm, UnknownName, Twice}
use Rattle.sds_types.specs.declared.scenario.ScenarioLine.{ScenarioLine}
use Rattle.sds_types.specs.declared.scenario.ScenarioLine.TheVariants as line
use Rattle.sds_trade.specs.rules.Outcomes.{channel_place}
use Rattle.sds_trade.specs.rules.Places.{is_among}
use Rattle.sds_screen.specs.Scenes.{Draft, Scene}
use Rattle.sds_history.specs.world.Worlds.{World, node_at}

abbrev pub is_node : World → List ℕ → Bool
is_node world id = is_some (node_at world id)

abbrev pub are_nodes : World → List ℕ → List ℕ → Bool
are_nodes world first second = is_node world first && is_node world second

abbrev pub are_channels : Config → List (List ℕ) → Bool
are_channels config names =
    list_all (λ (name : List ℕ). is_some (channel_place config name)) names

-- messages and replies are numbered from 1
abbrev pub is_number_of : {A : Type 0} → List A → ℕ → Bool
is_number_of items number = nat_le 1 number && nat_le number (length items)

-- the nodes, groups, messages, replies and channels that a line names are there
abbrev pub names_stand : Config → World → ScenarioLine → Bool
names_stand config world (line.Node me) = is_among config.groups me.group
names_stand config world (line.Open at group external) =
    is_node world at && is_among config.groups group
names_stand config world (line.Register asks at) = are_nodes world asks at
names_stand config world (line.Write node writer number) = is_node world node
names_stand config world (line.Row row) = true
names_stand config world line.End = true
names_stand config world (line.Route node) = is_node world node
names_stand config world (line.Send from to channels) =
    are_nodes world from to && are_channels config channels
names_stand config world (line.Deliver message channels) =
    is_number_of world.messages message && are_channels config channels
names_stand config world (line.Answer reply) = is_number_of world.replies reply
names_stand config world (line.Push from to) = are_nodes world from to
names_stand config world (line.Pull to from) = are_nodes world to from
names_stand config world (line.Wire message) = is_number_of world.messages message
names_stand config world (line.Show node) = is_node world node
names_stand config world (line.Batches node) = is_node world node
names_stand config world (line.Crash node) = is_node world node
names_stand config world (line.Fault node stands) = is_node world node

-- the most nodes of a world
abbrev pub most_nodes : ℕ
most_nodes = 1000

-- a line makes a node whose id another has, or one node too many
abbrev pub is_twice : World → ScenarioLine → Bool
is_twice world (line.Node me) = is_node world me.id || nat_le most_nodes (length world.nodes)
is_twice world other = false

-- rows and the end stand inside a write, all other lines outside
abbrev pub is_of_write : ScenarioLine → Bool
is_of_write (line.Row row) = true
is_of_write line.End = true
is_of_write other = false

abbrev pub is_in_place : Option Draft → ScenarioLine → Bool
is_in_place None said = not (is_of_write said)
is_in_place (Some draft) said = is_of_write said

-- the cause for which a line may not stand, if there is one; a malformed line says nothing
abbrev pub cause_of : Config → Scene → Option ScenarioLine → Option ScenarioCause
cause_of config scene None = Some BadForm
cause_of config scene (Some said) =
    if not (is_in_place scene.draft said) then Some BadForm
    else (if not (names_stand config scene.world said) then Some UnknownName
    else (if is_twice scene.world said then Some Twice else None))
