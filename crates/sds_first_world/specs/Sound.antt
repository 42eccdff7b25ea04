-- A scenario's writes have names as writers and rows that the one table may have, and it shows the tables of its two nodes.
use Rattle.std.specs.Prelude.{◌≡◌, ◌⊎◌, true, IfSome}
use Rattle.sds_value.specs.Names.{is_name_text}
use Rattle.sds_first_spec.specs.declared.event.WorldEvent.{WorldEvent}
use Rattle.sds_first_spec.specs.declared.event.WorldEvent.TheVariants as event
use Rattle.sds_first_laws.specs.Pairs.{is_written_row}
use Rattle.sds_first_node.specs.NewRows.{ArePairRows}
use Rattle.sds_first_world.specs.declared.line.Line.{Line}
use Rattle.sds_first_world.specs.declared.line.Line.TheVariants.{Opening, Write, Row, End, Route, Push, Show, Other}
use Rattle.sds_first_world.specs.declared.place.Draft.{Draft}
use Rattle.sds_first_world.specs.declared.place.Place.{Place}
use Rattle.sds_first_world.specs.Looking.{corp, s1}

abbrev pub IsSoundLine : Line → Type 0
IsSoundLine (Opening which) = Unit {0}
IsSoundLine (Write writer number) = is_name_text writer ≡ true
IsSoundLine (Row row) = is_written_row row ≡ true
IsSoundLine End = Unit {0}
IsSoundLine Route = Unit {0}
IsSoundLine Push = Unit {0}
IsSoundLine (Show node) = (node ≡ corp.id) ⊎ (node ≡ s1.id)
IsSoundLine Other = Unit {0}

pub record IsSoundDraft (draft : Draft) : Type 0 where
  pub named : is_name_text draft.writer ≡ true
  pub rows : ArePairRows draft.rows

abbrev pub IsSoundPlace : Place → Type 0
IsSoundPlace place = IfSome place.draft IsSoundDraft

abbrev pub IsSoundEvent : WorldEvent → Type 0
IsSoundEvent (event.Node peer) = Unit {0}
IsSoundEvent (event.Open at group external) = Unit {0}
IsSoundEvent (event.Register asks at) = Unit {0}
IsSoundEvent (event.Write node writer number rows) = (is_name_text writer ≡ true) × ArePairRows rows
IsSoundEvent (event.Route node) = Unit {0}
IsSoundEvent (event.Push sender receiver) = Unit {0}
IsSoundEvent (event.Show node) = Unit {0}
