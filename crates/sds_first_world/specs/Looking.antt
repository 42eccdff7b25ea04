-- Where a line stands: looking back over the lines before it, the newest first.
use Rattle.std.specs.Prelude.{ℕ, ◌+◌, Bool, true, false, ◌&&◌, ◌==◌, nat_lt, codes, List, [], ◌∷◌, ◌++◌, Option, None, Some, is_some, is_none}
use Rattle.std.specs.Option.{option_map}
use Rattle.sds_value.specs.declared.row.Peer.{Peer}
use Rattle.sds_first_spec.specs.declared.event.WorldEvent.{WorldEvent}
use Rattle.sds_types.specs.declared.tx_row.TxRow.{TxRow}
use Rattle.sds_first_spec.specs.declared.event.WorldEvent.TheVariants as event
use Rattle.sds_first_world.specs.declared.line.Line.{Line}
use Rattle.sds_first_world.specs.declared.line.Line.TheVariants.{Opening, Write, Row, End, Route, Push, Show, Other}
use Rattle.sds_first_world.specs.declared.line.Opening as opening
use Rattle.sds_first_world.specs.declared.line.Opening.TheVariants.{Corp, Store, Open, Register}
use Rattle.sds_first_world.specs.declared.place.Draft.{Draft}
use Rattle.sds_first_world.specs.declared.place.Place.{Place}

-- the place of one of the four lines with which a scenario begins, from 0
abbrev pub order_of : opening.Opening → ℕ
order_of Corp = 0
order_of Store = 1
order_of Open = 2
order_of Register = 3

-- all four have stood and no write is open
abbrev pub is_ready : Place → Bool
is_ready place = place.openings == 4 && is_none place.draft

-- whether the line may stand at this place: `last` is the number of its writer's last accepted write, 0 without one,
-- and `settled` whether every batch made so far is loaded
abbrev pub fits : Place → ℕ → Bool → Line → Bool
fits place last settled (Opening which) = place.openings == order_of which && is_none place.draft
fits place last settled (Write writer number) = is_ready place && number == last + 1
fits place last settled (Row row) = is_some place.draft && nat_lt place.rows 10000
fits place last settled End = is_some place.draft
fits place last settled Route = is_ready place && settled
fits place last settled Push = is_ready place
fits place last settled (Show node) = is_ready place
fits place last settled Other = false

-- the counts of the place have room for the line, as they have where it fits
abbrev pub has_room : Place → Line → Bool
has_room place (Opening which) = nat_lt place.openings 4
has_room place (Row row) = nat_lt place.rows 10000
has_room place line = true

-- the write with one more row
abbrev pub with_row : TxRow → Draft → Draft
with_row row draft = record draft { rows = draft.rows ++ row ∷ [] }

-- the place behind a line that fits
abbrev pub behind : Place → Line → Place
behind place (Opening which) = record place { openings = place.openings + 1 }
behind place (Write writer number) = record place { draft = Some (record { writer = writer; number = number; rows = [] }) }
behind place (Row row) = record place { draft = option_map (with_row row) place.draft; rows = place.rows + 1 }
behind place End = record place { draft = None }
behind place line = place

-- the place of a scenario's first line
abbrev pub start : Place
start = record { openings = 0; draft = None; rows = 0 }

-- the place behind these lines
abbrev pub place_of : List Line → Place
place_of [] = start
place_of (line ∷ older) = behind (place_of older) line

-- the head office, and the store
abbrev pub corp : Peer
corp = record { id = codes "corp"; group = codes "corp"; external = codes "corp" }

abbrev pub s1 : Peer
s1 = record { id = codes "s1"; group = codes "store"; external = codes "001" }

-- what one of the first four lines makes happen
abbrev pub opened : opening.Opening → WorldEvent
opened Corp = event.Node corp
opened Store = event.Node s1
opened Open = event.Open corp.id s1.group s1.external
opened Register = event.Register s1.id corp.id

-- the write that is complete
abbrev pub written : Draft → WorldEvent
written draft = event.Write corp.id draft.writer draft.number draft.rows

-- what a line that fits makes happen
abbrev pub completed : Place → Line → Option WorldEvent
completed place (Opening which) = Some (opened which)
completed place End = option_map written place.draft
completed place Route = Some (event.Route corp.id)
completed place Push = Some (event.Push corp.id s1.id)
completed place (Show node) = Some (event.Show node)
completed place line = None
