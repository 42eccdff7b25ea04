-- Two nodes meet: each becomes the other's one peer.
use Rattle.std.proofs.Common.{◌≡◌, ◌≢◌, ℕ, true, false, List, [], ◌∷◌, ◌++◌, map, Option, None, Some, refl, sym, ap, subst, ◌∙◌}
use Rattle.std.specs.Prelude.{IfSome}
use Rattle.std.specs.Str.{bytes_eq}
use Rattle.std.proofs.lemmas.Slice.Eq.{bytes_eq-Decides}
use Rattle.sds_value.specs.declared.row.Peer.{Peer}
use Rattle.sds_first_spec.specs.declared.event.WorldEvent.TheVariants as event
use Rattle.sds_first_spec.specs.Acts.{History}
use Rattle.sds_first_spec.specs.Happens.{registered, happens}
use Rattle.sds_first_spec.specs.One.{one, paired}
use Rattle.sds_first_spec.specs.World.{World, history_of}
use Rattle.sds_first_world.specs.declared.nodes.Named.{Named}
use Rattle.sds_first_world.specs.Playing.{NodePlays, NodesPlay, AreToMeet, peer_called, me_of, beginning}

same_name : (name : List ℕ) → bytes_eq name name ≡ true
same_name name = (bytes_eq-Decides name name).1 refl

abbrev met_as : Peer → Peer → History
met_as me other = record { opening = paired me other; acts = [] }

two_registered : (parent child : Peer) → bytes_eq parent.id child.id ≡ false
    → registered (history_of child.id (beginning parent ∷ (beginning child ∷ []))) (history_of parent.id (beginning parent ∷ (beginning child ∷ []))) (beginning parent ∷ (beginning child ∷ []))
    ≡ met_as parent child ∷ (met_as child parent ∷ [])
two_registered parent child apart = rw (apart, same_name child.id, same_name parent.id) (rw (apart, same_name child.id, same_name parent.id) refl)

-- what registering makes of the two
registered_is : (asks at : List ℕ) (w : World) (m : AreToMeet asks at w) → (happens one w (event.Register asks at)).nodes ≡ met_as m.parent m.child ∷ (met_as m.child m.parent ∷ [])
registered_is asks at w m =
    ap (λ (l : List History). registered (history_of asks l) (history_of at l) l) m.nodes
    ∙ (ap (λ (name : List ℕ). registered (history_of name (beginning m.parent ∷ (beginning m.child ∷ []))) (history_of at (beginning m.parent ∷ (beginning m.child ∷ []))) (beginning m.parent ∷ (beginning m.child ∷ []))) (sym m.is_child)
    ∙ (ap (λ (name : List ℕ). registered (history_of m.child.id (beginning m.parent ∷ (beginning m.child ∷ []))) (history_of name (beginning m.parent ∷ (beginning m.child ∷ []))) (beginning m.parent ∷ (beginning m.child ∷ []))) (sym m.is_parent)
    ∙ two_registered m.parent m.child m.apart))

peers_are : (asks at : List ℕ) (w : World) (peers : List Peer) (m : AreToMeet asks at w) → peers ≡ map me_of w.nodes → peers ≡ m.parent ∷ (m.child ∷ [])
peers_are asks at w peers m are = are ∙ ap (λ (l : List History). map me_of l) m.nodes

parent_called : (asks at : List ℕ) (w : World) (peers : List Peer) (m : AreToMeet asks at w) → peers ≡ map me_of w.nodes → peer_called at peers ≡ Some m.parent
parent_called asks at w peers m are =
    ap (λ (l : List Peer). peer_called at l) (peers_are asks at w peers m are) ∙ (ap (λ (name : List ℕ). peer_called name (m.parent ∷ (m.child ∷ []))) (sym m.is_parent) ∙ rw (same_name m.parent.id) refl)

child_called : (asks at : List ℕ) (w : World) (peers : List Peer) (m : AreToMeet asks at w) → peers ≡ map me_of w.nodes → peer_called asks peers ≡ Some m.child
child_called asks at w peers m are =
    ap (λ (l : List Peer). peer_called asks l) (peers_are asks at w peers m are)
    ∙ (ap (λ (name : List ℕ). peer_called name (m.parent ∷ (m.child ∷ []))) (sym m.is_child) ∙ rw (m.apart, same_name m.child.id) refl)

pub parent_made : (asks at : List ℕ) (w : World) (peers : List Peer) (made : Option Named) (m : AreToMeet asks at w) → peers ≡ map me_of w.nodes
    → ((a b : Peer) → peer_called at peers ≡ Some a → peer_called asks peers ≡ Some b → a.id ≡ at → IfSome made (λ (named : Named). NodePlays named (record { opening = paired a b; acts = [] })) × (made ≢ None))
    → IfSome made (λ (named : Named). NodePlays named (met_as m.parent m.child)) × (made ≢ None)
parent_made asks at w peers made m are clause = clause m.parent m.child (parent_called asks at w peers m are) (child_called asks at w peers m are) m.is_parent

pub child_made : (asks at : List ℕ) (w : World) (peers : List Peer) (made : Option Named) (m : AreToMeet asks at w) → peers ≡ map me_of w.nodes
    → ((a b : Peer) → peer_called asks peers ≡ Some a → peer_called at peers ≡ Some b → a.id ≡ asks → IfSome made (λ (named : Named). NodePlays named (record { opening = paired a b; acts = [] })) × (made ≢ None))
    → IfSome made (λ (named : Named). NodePlays named (met_as m.child m.parent)) × (made ≢ None)
child_made asks at w peers made m are clause = clause m.child m.parent (child_called asks at w peers m are) (parent_called asks at w peers m are) m.is_child

made_plays : (made : Option Named) (named : Named) (h : History) → made ≡ Some named → IfSome made (λ (n : Named). NodePlays n h) → NodePlays named h
made_plays made named h is plays = let P : Option Named → Type 0 = λ o. IfSome o (λ (n : Named). NodePlays n h) in subst P is plays

-- both stand where none did
pub both_met : (asks at : List ℕ) (w : World) (old mid new : List Named) (first second : Option Named) (parent child : Named) (m : AreToMeet asks at w) → old ≡ [] → mid ≡ old ++ parent ∷ [] → new ≡ mid ++ child ∷ []
    → first ≡ Some parent → second ≡ Some child → IfSome first (λ (named : Named). NodePlays named (met_as m.parent m.child)) → IfSome second (λ (named : Named). NodePlays named (met_as m.child m.parent))
    → NodesPlay new (happens one w (event.Register asks at)).nodes
both_met asks at w old mid new first second parent child m none one_more two_more is_first is_second first_plays second_plays =
    let all : new ≡ parent ∷ (child ∷ []) = two_more ∙ (ap (λ (l : List Named). l ++ child ∷ []) one_more ∙ ap (λ (l : List Named). (l ++ parent ∷ []) ++ child ∷ []) none) in
    subst (λ (l : List Named). NodesPlay l (happens one w (event.Register asks at)).nodes) (sym all)
    (subst (λ (hs : List History). NodesPlay (parent ∷ (child ∷ [])) hs) (sym (registered_is asks at w m))
    (made_plays first parent (met_as m.parent m.child) is_first first_plays, (made_plays second child (met_as m.child m.parent) is_second second_plays, tt)))
