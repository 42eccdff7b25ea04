-- The definitions, computed event by event on the scenario of two nodes.
use Rattle.std.proofs.Common.{◌≡◌, ℕ, List, [], ◌∷◌, ◌++◌, map, drop, refl, codes}
use Rattle.std.specs.Fmt.{digits}
use Rattle.std.specs.Str.{chars}
use lib.Utf8.{encode}
use Rattle.sds_value.specs.declared.row.Peer.{Peer}
use Rattle.sds_first_spec.specs.declared.event.WorldEvent.{WorldEvent}
use Rattle.sds_first_spec.specs.declared.event.WorldEvent.TheVariants.{Node, Open, Register, Write, Route, Push, Show}
use Rattle.sds_first_spec.specs.Acts.{Act}
use Rattle.sds_first_spec.specs.Acts.Act.{Routed}
use Rattle.sds_first_spec.specs.Happens.{happens}
use Rattle.sds_first_spec.specs.One.{one, begun, paired}
use Rattle.sds_first_spec.specs.Screen.{screen_of, printed_by}
use Rattle.sds_first_spec.specs.TwoNodes.{corp, store, first_rows, second_rows, two_nodes, two_nodes_screen, wrote, taken, heard, message, reply}
use Rattle.sds_first_spec.specs.World.{Message, Reply, World, empty_world}

-- one event, and then the others
then : (w w' : World) (event : WorldEvent) (events : List WorldEvent) (text rest : List ℕ) → printed_by one w event ≡ text → happens one w event ≡ w'
    → screen_of one w' events ≡ rest → screen_of one w (event ∷ events) ≡ text ++ rest
then w w' event events text rest prints leads others = rw (prints, leads, others) refl

-- the two nodes after their acts
abbrev world : List Act → List Act → List Message → List Reply → World
world at_corp at_store messages replies = record {
  nodes = record { opening = paired corp store; acts = at_corp } ∷ (record { opening = paired store corp; acts = at_store } ∷ []);
  messages = messages;
  replies = replies;
}

-- the nodes before they are each other's peers
abbrev apart : List Peer → World
apart peers = record { nodes = map (λ (peer : Peer). record { opening = begun peer []; acts = [] }) peers; messages = []; replies = [] }

open_prints : printed_by one (apart (corp ∷ (store ∷ []))) (Open (codes "corp") (codes "store") (codes "001")) ≡ codes "open corp store 001: ok\n"
unfolding encode
open_prints = refl

register_prints : printed_by one (apart (corp ∷ (store ∷ []))) (Register (codes "s1") (codes "corp")) ≡ codes "register s1 corp: ok\n"
unfolding encode
register_prints = refl

register_leads : happens one (apart (corp ∷ (store ∷ []))) (Register (codes "s1") (codes "corp")) ≡ world [] [] [] []
register_leads = refl

write_prints : printed_by one (world [] [] [] []) (Write (codes "corp") (codes "office") 1 first_rows) ≡ codes "write corp office 1: done 1 2\n"
unfolding encode digits chars
write_prints = refl

write_leads : happens one (world [] [] [] []) (Write (codes "corp") (codes "office") 1 first_rows) ≡ world (wrote ∷ []) [] [] []
unfolding encode digits chars
write_leads = refl

route_prints : printed_by one (world (wrote ∷ []) [] [] []) (Route (codes "corp")) ≡ codes "route corp: 1 batches\n"
unfolding encode digits chars
route_prints = refl

route_leads : happens one (world (wrote ∷ []) [] [] []) (Route (codes "corp")) ≡ world (Routed ∷ (wrote ∷ [])) [] [] []
unfolding encode digits chars
route_leads = refl

push_prints : printed_by one (world (Routed ∷ (wrote ∷ [])) [] [] []) (Push (codes "corp") (codes "s1"))
    ≡ codes "send 1 corp s1: 1 batches\ndeliver 1: reply 1 batch-1=ok\nanswer 1: 1 changed\n"
unfolding encode digits chars
push_prints = refl

push_leads : happens one (world (Routed ∷ (wrote ∷ [])) [] [] []) (Push (codes "corp") (codes "s1"))
    ≡ world (heard ∷ (Routed ∷ (wrote ∷ []))) (taken ∷ []) (message ∷ []) (reply ∷ [])
unfolding encode digits chars
push_leads = refl

show_prints : printed_by one (world (heard ∷ (Routed ∷ (wrote ∷ []))) (taken ∷ []) (message ∷ []) (reply ∷ [])) (Show (codes "s1"))
    ≡ codes "table pair\n\"1\",\"Pen\"\n\"2\",\"Ink\"\n"
unfolding encode digits chars
show_prints = refl

again_prints : printed_by one (world (heard ∷ (Routed ∷ (wrote ∷ []))) (taken ∷ []) (message ∷ []) (reply ∷ [])) (Write (codes "corp") (codes "office") 2 second_rows)
    ≡ codes "write corp office 2: refused 1 7\n"
unfolding encode digits chars
again_prints = refl

again_leads : happens one (world (heard ∷ (Routed ∷ (wrote ∷ []))) (taken ∷ []) (message ∷ []) (reply ∷ [])) (Write (codes "corp") (codes "office") 2 second_rows)
    ≡ world (heard ∷ (Routed ∷ (wrote ∷ []))) (taken ∷ []) (message ∷ []) (reply ∷ [])
unfolding encode digits chars
again_leads = refl

last_prints : printed_by one (world (heard ∷ (Routed ∷ (wrote ∷ []))) (taken ∷ []) (message ∷ []) (reply ∷ [])) (Push (codes "corp") (codes "s1"))
    ≡ codes "send 2 corp s1: 0 batches\n"
unfolding encode digits chars
last_prints = refl

-- the worlds on the way
abbrev met : World
met = world [] [] [] []

abbrev after_write : World
after_write = world (wrote ∷ []) [] [] []

abbrev after_route : World
after_route = world (Routed ∷ (wrote ∷ [])) [] [] []

abbrev after_push : World
after_push = world (heard ∷ (Routed ∷ (wrote ∷ []))) (taken ∷ []) (message ∷ []) (reply ∷ [])

from_push : screen_of one after_push (drop 7 two_nodes)
    ≡ codes "table pair\n\"1\",\"Pen\"\n\"2\",\"Ink\"\n" ++ (codes "write corp office 2: refused 1 7\n" ++ codes "send 2 corp s1: 0 batches\n")
from_push =
    then after_push after_push (Show (codes "s1")) (drop 8 two_nodes) _ _ show_prints refl
    (then after_push after_push (Write (codes "corp") (codes "office") 2 second_rows) (drop 9 two_nodes) _ _ again_prints again_leads
    (then after_push (happens one after_push (Push (codes "corp") (codes "s1"))) (Push (codes "corp") (codes "s1")) [] _ [] last_prints refl refl))

pub screen-two_nodes : screen_of one empty_world two_nodes ≡ two_nodes_screen
screen-two_nodes =
    then empty_world (apart (corp ∷ [])) (Node corp) (drop 1 two_nodes) [] _ refl refl
    (then (apart (corp ∷ [])) (apart (corp ∷ (store ∷ []))) (Node store) (drop 2 two_nodes) [] _ refl refl
    (then (apart (corp ∷ (store ∷ []))) (apart (corp ∷ (store ∷ []))) (Open (codes "corp") (codes "store") (codes "001")) (drop 3 two_nodes) _ _ open_prints refl
    (then (apart (corp ∷ (store ∷ []))) met (Register (codes "s1") (codes "corp")) (drop 4 two_nodes) _ _ register_prints register_leads
    (then met after_write (Write (codes "corp") (codes "office") 1 first_rows) (drop 5 two_nodes) _ _ write_prints write_leads
    (then after_write after_route (Route (codes "corp")) (drop 6 two_nodes) _ _ route_prints route_leads
    (then after_route after_push (Push (codes "corp") (codes "s1")) (drop 7 two_nodes) _ _ push_prints push_leads from_push))))))
