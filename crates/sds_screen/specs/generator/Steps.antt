-- What the generator makes happen, step by step.
use Rattle.std.specs.Prelude.{ℕ, ◌+◌, ◌==◌, nat_le, if◌then◌else◌, List, [], ◌∷◌, ◌++◌, length, map, codes}
use Rattle.std.specs.List.{range_with_len}
use Rattle.sds_types.specs.declared.world_event.WorldEvent.{WorldEvent}
use Rattle.sds_types.specs.declared.world_event.WorldEvent.TheVariants as event
use Rattle.sds_screen.specs.generator.Drawn.{kind_of_step, store_of_step}
use Rattle.sds_screen.specs.generator.Shop.{shop}
use Rattle.sds_history.specs.world.Events.{happened}
use Rattle.sds_history.specs.world.Worlds.{World}
use Rattle.sds_screen.specs.generator.Written.{corp, store, external_of, store_peer, store_numbers, write_next, item_row, price_row, sale_row}

-- the world after events
abbrev pub after_event : List ℕ → World → WorldEvent → World
after_event noise world what = (happened shop noise world what).world

abbrev pub after_events : List ℕ → World → List WorldEvent → World
after_events noise world [] = world
after_events noise world (what ∷ later) =
    after_events noise (after_event noise world what) later

-- the nodes are made, registration is opened for each store, and each registers
abbrev pub first_events : List WorldEvent
first_events = event.Node (record { id = corp; group = corp; external = corp })
    ∷ (map (λ (n : ℕ). event.Node (store_peer n)) store_numbers
    ++ (map (λ (n : ℕ). event.Open corp (codes "store") (external_of n)) store_numbers
    ++ map (λ (n : ℕ). event.Register (store n) corp) store_numbers))

-- all items are written, and brought to each store
abbrev pub filled : List ℕ → World → World
filled noise world = after_events noise world
    (write_next world corp (codes "office") (map item_row (range_with_len 1 100))
    ∷ (event.Route corp ∷ map (λ (n : ℕ). event.Pull (store n) corp) store_numbers))

-- a message that is delivered twice, of which the second reply is answered
abbrev pub sent_twice : World → List ℕ → List WorldEvent
sent_twice world from = let message = length world.messages + 1 in event.Send from corp []
    ∷ (event.Deliver message [] ∷ (event.Deliver message []
    ∷ (event.Answer (length world.replies + 2) ∷ [])))

-- a step: a sale; a price; a store routes and pushes; it sends twice; it pulls
abbrev pub events_of_step : World → ℕ → ℕ → List WorldEvent
events_of_step world number x = let from = store (store_of_step x) in
    if nat_le (kind_of_step x) 3
    then write_next world from (codes "till") (sale_row number x ∷ []) ∷ []
    else (if kind_of_step x == 4
    then write_next world corp (codes "office") (price_row x ∷ []) ∷ []
    else (if kind_of_step x == 5 then event.Route from ∷ (event.Push from corp ∷ [])
    else (if kind_of_step x == 6 then event.Route from ∷ sent_twice world from
    else event.Route corp ∷ (event.Pull from corp ∷ []))))

abbrev pub after_steps : List ℕ → World → List (ℕ × ℕ) → World
after_steps noise world [] = world
after_steps noise world (step ∷ steps) = after_steps noise
    (after_events noise world (events_of_step world step.0 step.1)) steps
