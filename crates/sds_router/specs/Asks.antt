-- What is asked of a peer for a change, and what a row that is looked through has to have.
use Rattle.std.specs.Prelude.{ℕ, Bool, true, false, not, ◌&&◌, ◌||◌, List, Some}
use Rattle.std.specs.List.{list_any, list_all}
use Rattle.std.specs.Str.{bytes_eq}
use Rattle.sds_value.specs.declared.row.Peer.{Peer}
use Rattle.sds_value.specs.declared.table.ColumnDef.{ColumnDef}
use Rattle.sds_types.specs.declared.row.Row.{Row}
use Rattle.sds_trade.specs.rules.RoutedValues.{are_one_text, is_text, text_at, text_in}
use Rattle.sds_router.specs.declared.ask.Ask.{Ask}
use Rattle.sds_router.specs.declared.ask.PeerText.{PeerText}
use Rattle.sds_router.specs.declared.ask.PeerText.TheVariants.{Id, External, Group}
use Rattle.sds_router.specs.declared.naming.Naming.{Naming}
use Rattle.sds_router.specs.declared.wanted.Wanted.{Wanted}

-- a text of a peer
abbrev pub text_of_peer : Peer → PeerText → List ℕ
text_of_peer peer Id = peer.id
text_of_peer peer External = peer.external
text_of_peer peer Group = peer.group

-- a peer meets a question
abbrev pub is_met : Peer → Ask → Bool
is_met peer ask =
    let is_one = bytes_eq (text_of_peer peer ask.about) ask.text in
    elim ask.differs [ true ↦ not is_one | false ↦ is_one ]

-- a peer is named by what an expression says of a change
abbrev pub is_named_by : Peer → Naming → Bool
is_named_by peer naming = naming.everyone || list_any (is_met peer) naming.asks

-- a row has a wanted text
abbrev pub has_wanted : List ColumnDef → Row → Wanted → Bool
has_wanted columns row wanted = are_one_text (text_at columns row wanted.column) (Some wanted.text)

-- a row has every wanted text, and names a peer in the column of a name
abbrev pub row_names : List ColumnDef → List Wanted → List ℕ → List ℕ → Row → Bool
row_names columns wanted name text row =
    list_all (has_wanted columns row) wanted && is_text (text_in columns name row) text
