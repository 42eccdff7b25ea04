-- The nodes of the generator, and what they write.
use Rattle.std.specs.Prelude.{ℕ, pos, ◌+◌, ◌*◌, List, [], ◌∷◌, ◌++◌, codes}
use Rattle.std.specs.Fmt.{decimal}
use Rattle.std.specs.List.{range_with_len}
use Rattle.std.specs.Option.{option_map_or}
use Rattle.sds_value.specs.Values.{printed}
use Rattle.sds_value.specs.declared.kind.Binary.TheVariants.{Base64}
use Rattle.sds_value.specs.declared.kind.Kind.TheVariants as kind
use Rattle.sds_value.specs.declared.kind.Value.TheVariants as value
use Rattle.sds_value.specs.declared.row.Event.TheVariants.{Insert, Update}
use Rattle.sds_value.specs.declared.row.Field.TheVariants.{Text}
use Rattle.sds_value.specs.declared.row.Peer.{Peer}
use Rattle.sds_types.specs.declared.tx_row.TxRow.{TxRow}
use Rattle.sds_types.specs.declared.world_event.WorldEvent.{WorldEvent}
use Rattle.sds_types.specs.declared.world_event.WorldEvent.TheVariants as event
use Rattle.sds_screen.specs.generator.Drawn.{item_of_step, pieces_of_step, price_of_step, store_of_step}
use Rattle.sds_screen.specs.generator.Shop.{shop}
use Rattle.sds_history.specs.history.Writers.{last_number, writer_of}
use Rattle.sds_history.specs.world.Worlds.{Node, World, node_at, state_in}

-- the head office and the stores
abbrev pub corp : List ℕ
corp = codes "corp"

abbrev pub store : ℕ → List ℕ
store number = codes "s" ++ decimal number

abbrev pub external_of : ℕ → List ℕ
external_of number = codes "00" ++ decimal number

abbrev pub store_peer : ℕ → Peer
store_peer number =
    record { id = store number; group = codes "store"; external = external_of number }

abbrev pub store_numbers : List ℕ
store_numbers = range_with_len 1 3

-- an own write with the next number of its writer
abbrev pub next_number : World → List ℕ → List ℕ → ℕ
next_number world node writer = option_map_or (λ (at : Node).
    last_number (writer_of (state_in shop at).writers writer)) (node_at world node) 0 + 1

abbrev pub write_next : World → List ℕ → List ℕ → List TxRow → WorldEvent
write_next world node writer rows =
    event.Write node writer (next_number world node writer) rows

-- a price of so many hundredths
abbrev pub price_text : ℕ → List ℕ
price_text hundredths = printed (kind.Decimal 2) Base64 (value.Decimal (pos hundredths))

abbrev pub item_row : ℕ → TxRow
item_row number = record {
  event = Insert;
  table = codes "item";
  fields = Text (decimal number) ∷ (Text (codes "Item " ++ decimal number)
      ∷ (Text (price_text (number * 100)) ∷ []));
}

abbrev pub sale_row : ℕ → ℕ → TxRow
sale_row number x = record {
  event = Insert;
  table = codes "sale";
  fields = Text (store (store_of_step x) ++ (codes "-" ++ decimal number))
      ∷ (Text (external_of (store_of_step x)) ∷ (Text (decimal (item_of_step x))
      ∷ (Text (decimal (pieces_of_step x)) ∷ [])));
}

abbrev pub price_row : ℕ → TxRow
price_row x = record {
  event = Update;
  table = codes "item";
  fields = Text (decimal (item_of_step x))
      ∷ (Text (codes "price") ∷ (Text (price_text (price_of_step x)) ∷ []));
}
