-- The end of the generator, when all nodes exchange until nothing waits, and its whole run.
use Rattle.std.specs.Prelude.{ℕ, suc, zero, ◌+◌, nat_lt, not, List, [], ◌∷◌, ◌++◌, length, map, Bool, true, false}
use Rattle.std.specs.List.{enumerate_from, filter}
use Rattle.std.specs.Option.{option_map_or}
use Rattle.sds_types.specs.declared.batch.OutBatch.{OutBatch}
use Rattle.sds_types.specs.declared.world_event.WorldEvent.{WorldEvent}
use Rattle.sds_types.specs.declared.world_event.WorldEvent.TheVariants as event
use Rattle.sds_screen.specs.generator.Drawn.{drawn_after}
use Rattle.sds_screen.specs.generator.Shop.{shop}
use Rattle.sds_history.specs.history.Standings.{is_acked}
use Rattle.sds_history.specs.world.Worlds.{Node, World, empty_world, node_at, state_in}
use Rattle.sds_screen.specs.generator.Written.{corp, store, store_numbers}
use Rattle.sds_screen.specs.generator.Steps.{after_event, after_events, after_steps, filled, first_events}

-- how many batches of a node aren't OK
abbrev pub waiting_at : World → List ℕ → ℕ
waiting_at world id = option_map_or (λ (node : Node). length
    (filter (λ (batch : OutBatch). not (is_acked batch.standing)) (state_in shop node).batches))
    (node_at world id) 0

-- what comes later counts where something moved, and else the world as it is
abbrev pub later_if : Bool → World → World → World
later_if true world later = later
later_if false world later = world

-- an exchange again and again, until one makes no batch of the sender OK
abbrev pub until_still : List ℕ → List ℕ → WorldEvent → World → ℕ → World
until_still noise from what world zero = world
until_still noise from what world (suc count) = let moved = after_event noise world what in
    later_if (nat_lt (waiting_at moved from) (waiting_at world from)) moved
    (until_still noise from what moved count)

abbrev pub settled_store : List ℕ → World → ℕ → World
settled_store noise world number =
    let pushed = until_still noise (store number) (event.Push (store number) corp) world
    (waiting_at world (store number) + 1) in
    until_still noise corp (event.Pull (store number) corp) pushed (waiting_at pushed corp + 1)

abbrev pub settled_stores : List ℕ → World → List ℕ → World
settled_stores noise world [] = world
settled_stores noise world (number ∷ numbers) =
    settled_stores noise (settled_store noise world number) numbers

-- at the end all nodes route, and each store pushes and pulls
abbrev pub settled : List ℕ → World → World
settled noise world = settled_stores noise (after_events noise world
    (map (λ (n : ℕ). event.Route (store n)) store_numbers ++ event.Route corp ∷ []))
    store_numbers

-- the world after so many steps that are drawn from a seed
abbrev pub generated : List ℕ → ℕ → ℕ → World
generated noise seed count = settled noise (after_steps noise
    (filled noise (after_events noise empty_world first_events))
    (enumerate_from 1 (drawn_after seed count)))
