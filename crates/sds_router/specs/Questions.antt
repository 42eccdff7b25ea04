-- What the tests of a `column` router say once the column's text is known.
use Rattle.std.specs.Prelude.{ℕ, Bool, true, false, not, List, Option}
use Rattle.sds_value.specs.declared.row.Peer.{Peer}
use Rattle.sds_types.specs.declared.column_test.ColumnTest.{ColumnTest}
use Rattle.sds_trade.specs.rules.Routers.{is_operand}
use Rattle.sds_router.specs.declared.asks.Question.{Question}
use Rattle.sds_router.specs.declared.asks.Question.TheVariants.{Everyone, Nobody, Asks}
use Rattle.sds_router.specs.Asks.{is_met}

abbrev pub is_answered : Peer → Question → Bool
is_answered peer Everyone = true
is_answered peer Nobody = false
is_answered peer (Asks ask) = is_met peer ask

-- whether two are one, or where they are to differ, whether they aren't
abbrev pub is_settled : Bool → Bool → Bool
is_settled is_one differs = elim differs [ true ↦ not is_one | false ↦ is_one ]

-- a test holds of a peer, where the column has this text or null
abbrev pub holds_of : Peer → Option (List ℕ) → ColumnTest → Bool
holds_of peer text test = is_settled (is_operand peer text test.operand) test.differs
