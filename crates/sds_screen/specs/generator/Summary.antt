-- What the generator prints of its run.
use Rattle.std.specs.Prelude.{ℕ, ◌==◌, Bool, true, false, nat_le, List, [], ◌∷◌, ◌++◌, length, map, codes}
use Rattle.std.specs.Fmt.{decimal}
use Rattle.std.specs.List.{filter, sum_by}
use Rattle.std.specs.Option.{option_map_or}
use Rattle.sds_types.specs.declared.row.TableRow.{TableRow}
use Rattle.sds_screen.specs.generator.Drawn.{drawn_after, kind_of_step}
use Rattle.sds_screen.specs.generator.Shop.{shop}
use Rattle.sds_screen.specs.generator.Settled.{generated, waiting_at}
use Rattle.sds_screen.specs.generator.Written.{corp, store, store_numbers}
use Rattle.sds_history.specs.history.Acts.{Act}
use Rattle.sds_history.specs.history.Acts.Act.{Wrote}
use Rattle.sds_screen.specs.Words.{line_of_words}
use Rattle.sds_history.specs.world.Worlds.{Node, World, me_of, node_at, state_in}

-- the accepted writes of a node
abbrev pub is_write : Act → Bool
is_write (Wrote writer number rows) = true
is_write act = false

abbrev pub writes_of : Node → ℕ
writes_of node = length (filter is_write node.history.acts)

-- the rows of a node in the table at a place
abbrev pub rows_at : World → ℕ → List ℕ → ℕ
rows_at world table id = option_map_or (λ (node : Node). length
    (filter (λ (row : TableRow). row.table == table) (state_in shop node).tables))
    (node_at world id) 0

abbrev pub item_counts : World → List (List ℕ)
item_counts world = map (λ (id : List ℕ). decimal (rows_at world 0 id))
    (corp ∷ map store store_numbers)

abbrev pub waiting_in_all : World → ℕ
waiting_in_all world =
    sum_by (λ (node : Node). waiting_at world (me_of node).id) world.nodes

-- the steps that are sales
abbrev pub sales_of : List ℕ → ℕ
sales_of drawn = length (filter (λ (x : ℕ). nat_le (kind_of_step x) 3) drawn)

abbrev pub summary_of : World → List ℕ → List ℕ
summary_of world drawn =
    line_of_words (codes "writes" ∷ (decimal (sum_by writes_of world.nodes) ∷ []))
    ++ (line_of_words (codes "sales" ∷ (decimal (sales_of drawn) ∷ []))
    ++ (line_of_words (codes "items" ∷ item_counts world)
    ++ (line_of_words (codes "corp sales" ∷ (decimal (rows_at world 2 corp) ∷ []))
    ++ line_of_words (codes "waiting" ∷ (decimal (waiting_in_all world) ∷ [])))))

-- the summary of a run
abbrev pub summary : List ℕ → ℕ → ℕ → List ℕ
summary noise seed count =
    summary_of (generated noise seed count) (drawn_after seed count)
