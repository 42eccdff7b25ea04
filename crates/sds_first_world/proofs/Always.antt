-- After each event of a scenario its nodes are in step.
use Rattle.std.proofs.Common.{◌≡◌, ℕ, zero, suc, Bool, true, false, not, ◌&&◌, ◌==◌, List, [], ◌∷◌, length, map, take, All, Option, None, Some, refl, sym, subst, arith}
use Rattle.std.specs.Prelude.{IfSome}
use Rattle.std.proofs.lemmas.List.Elements.{All-nil, All-cons}
use Rattle.sds_line.specs.declared.line.Line.{Line as TextLine}
use Rattle.sds_line.specs.Written.{are_fields}
use Rattle.sds_line.proofs.Scalars.{lines_are_of_characters}
use Rattle.sds_value.specs.declared.row.Peer.{Peer}
use Rattle.sds_first_spec.specs.declared.event.WorldEvent.{WorldEvent}
use Rattle.sds_first_spec.specs.Acts.{History}
use Rattle.sds_first_spec.specs.Happens.{world_after}
use Rattle.sds_first_spec.specs.InStep.{InStep, LaneInStep, WritersInOrder, EachFromNode, EachToPeer, RoutedOnce, MessageInStep, ReplyInStep}
use Rattle.sds_first_spec.specs.History.{batches_of}
use Rattle.sds_first_spec.specs.One.{one}
use Rattle.sds_first_spec.specs.World.{World, empty_world}
use Rattle.sds_first_world.specs.declared.line.Line.{Line}
use Rattle.sds_first_world.specs.declared.place.Place.{Place}
use Rattle.sds_first_world.specs.Looking.{completed, place_of}
use Rattle.sds_first_world.specs.Played.{is_long, looked_at, split_of, said, world_by, world_of, last_in, settled_in, may_stand, onto_events, events_from, events_of}
use Rattle.sds_first_world.specs.Playing.{beginning}
use Rattle.sds_first_world.specs.Shapes.{Shaped}
use Rattle.sds_first_world.specs.Sound.{IsSoundLine}
use Rattle.sds_first_world.proofs.Shaping.{shaped_next, shaped_first}
use Rattle.sds_first_world.proofs.Soundness.{line-sound}
use Rattle.sds_first_world.proofs.Stepping.{pair_facts, by_four, early}

-- NODES THAT HAVEN'T MET are in step.
lane_begun : (p q : Peer) (channel : ℕ) → LaneInStep one (beginning p) (beginning q) channel
lane_begun p q channel = record { front = refl; known = omega arith; within = omega arith }

all_one : (P : History → Type 0) (h : History) → P h → All P (h ∷ [])
all_one P h is = All-cons P h [] is (All-nil P)

all_two : (P : History → Type 0) (h k : History) → P h → P k → All P (h ∷ (k ∷ []))
all_two P h k first second = All-cons P h (k ∷ []) first (all_one P k second)

abbrev LanesTo : List History → History → Type 0
LanesTo nodes sender = All (λ (receiver : History). (channel : ℕ) → LaneInStep one sender receiver channel) nodes

none_in_step : InStep one empty_world
none_in_step = record {
  writers = All-nil WritersInOrder;
  lanes = All-nil (LanesTo []);
  from_nodes = All-nil (λ (h : History). EachFromNode one [] h.acts);
  messages = All-nil (MessageInStep one []);
  replies = All-nil (ReplyInStep []);
  routed = All-nil (RoutedOnce one);
  to_peers = All-nil (λ (h : History). EachToPeer h.opening.peers (batches_of one h.opening h.acts));
}

first_in_step : (p : Peer) → InStep one (record { nodes = beginning p ∷ []; messages = []; replies = [] })
first_in_step p = record {
  writers = all_one WritersInOrder (beginning p) (λ writer. tt);
  lanes = all_one (LanesTo (beginning p ∷ [])) (beginning p) (all_one (λ (receiver : History). (channel : ℕ) → LaneInStep one (beginning p) receiver channel) (beginning p) (lane_begun p p));
  from_nodes = all_one (λ (h : History). EachFromNode one (beginning p ∷ []) h.acts) (beginning p) tt;
  messages = All-nil (MessageInStep one (beginning p ∷ []));
  replies = All-nil (ReplyInStep (beginning p ∷ []));
  routed = all_one (RoutedOnce one) (beginning p) (All-nil _);
  to_peers = all_one (λ (h : History). EachToPeer h.opening.peers (batches_of one h.opening h.acts)) (beginning p) (All-nil _);
}

both_in_step : (p q : Peer) → InStep one (record { nodes = beginning p ∷ (beginning q ∷ []); messages = []; replies = [] })
both_in_step p q = record {
  writers = all_two WritersInOrder (beginning p) (beginning q) (λ writer. tt) (λ writer. tt);
  lanes = all_two (LanesTo (beginning p ∷ (beginning q ∷ []))) (beginning p) (beginning q)
      (all_two (λ (receiver : History). (channel : ℕ) → LaneInStep one (beginning p) receiver channel) (beginning p) (beginning q) (lane_begun p p) (lane_begun p q))
      (all_two (λ (receiver : History). (channel : ℕ) → LaneInStep one (beginning q) receiver channel) (beginning p) (beginning q) (lane_begun q p) (lane_begun q q));
  from_nodes = all_two (λ (h : History). EachFromNode one (beginning p ∷ (beginning q ∷ [])) h.acts) (beginning p) (beginning q) tt tt;
  messages = All-nil (MessageInStep one (beginning p ∷ (beginning q ∷ [])));
  replies = All-nil (ReplyInStep (beginning p ∷ (beginning q ∷ [])));
  routed = all_two (RoutedOnce one) (beginning p) (beginning q) (All-nil _) (All-nil _);
  to_peers = all_two (λ (h : History). EachToPeer h.opening.peers (batches_of one h.opening h.acts)) (beginning p) (beginning q) (All-nil _) (All-nil _);
}

pub shaped_in_step : (place : Place) (w : World) (count : ℕ) → Shaped place w count → InStep one w
shaped_in_step place w count shaped =
    by_four (InStep one w) place.openings (place.openings == 4) refl shaped.most
    (λ lt. early (InStep one) place w count shaped lt none_in_step (first_in_step _) (both_in_step _ _))
    (λ is. (pair_facts w (shaped.met is)).in_step)

-- EVENTS, one after another
abbrev AreSound : List Line → Type 0
AreSound [] = Unit {0}
AreSound (line ∷ lines) = IsSoundLine line × AreSound lines

lines_sound : (lines : List TextLine) → All (λ (line : TextLine). are_fields line.fields ≡ true) lines → AreSound (map said lines)
lines_sound [] are = tt
lines_sound (line ∷ lines) are = (line-sound line.fields (are 0 line (omega arith)), lines_sound lines (λ k d inside. are (suc k) d (omega (arith, inside))))

split_sound : (text : List ℕ) → AreSound (map said (split_of text).lines)
split_sound text = lines_sound (split_of text).lines (lines_are_of_characters (not (is_long text)) (looked_at text))

abbrev Always : (World → Type 0) → World → List WorldEvent → Type 0
Always P w events = (n : ℕ) → P (world_after one w (take n events))

no_events : (P : World → Type 0) (w : World) → P w → Always P w []
no_events P w is zero = is
no_events P w is (suc n) = is

one_event : (P : World → Type 0) (w : World) (o : Option WorldEvent) (events : List WorldEvent) → P w → Always P (world_by o w) events → Always P w (onto_events o events)
one_event P w None events is on zero = on zero
one_event P w None events is on (suc n) = on (suc n)
one_event P w (Some event) events is on zero = is
one_event P w (Some event) events is on (suc n) = on n

by_standing : (P : World → Type 0) (is_built : Bool) (older lines : List Line) (line : Line) (t : Bool) → (is_built && may_stand older line) ≡ t → P (world_of older)
    → ((is_built && may_stand older line) ≡ true → Always P (world_of (line ∷ older)) (events_from is_built (line ∷ older) lines)) → Always P (world_of older) (events_from is_built older (line ∷ lines))
by_standing P is_built older lines line true is here on =
    subst (λ (events : List WorldEvent). Always P (world_of older) events) (sym (stood is)) (one_event P (world_of older) (completed (place_of older) line) (events_from is_built (line ∷ older) lines) here (on is)) where
      stood : (is_built && may_stand older line) ≡ true → events_from is_built older (line ∷ lines) ≡ onto_events (completed (place_of older) line) (events_from is_built (line ∷ older) lines)
      stood is = rw is refl
by_standing P is_built older lines line false is here on =
    subst (λ (events : List WorldEvent). Always P (world_of older) events) (sym (stopped is)) (no_events P (world_of older) here) where
      stopped : (is_built && may_stand older line) ≡ false → events_from is_built older (line ∷ lines) ≡ []
      stopped is = rw is refl

right_of : (a b : Bool) → (a && b) ≡ true → b ≡ true
right_of true b is = is
right_of false b is = absurd (cc)

-- what holds of every shape holds after each event of lines
abbrev pub OfShapes : (World → Type 0) → Type 0
OfShapes P = (place : Place) (w : World) (count : ℕ) → Shaped place w count → P w

always_from : (P : World → Type 0) → OfShapes P → (is_built : Bool) (older lines : List Line) → AreSound lines → Shaped (place_of older) (world_of older) (length older) → Always P (world_of older) (events_from is_built older lines)
always_from P holds is_built older [] sound shaped = no_events P (world_of older) (holds (place_of older) (world_of older) (length older) shaped)
always_from P holds is_built older (line ∷ lines) sound shaped =
    by_standing P is_built older lines line (is_built && may_stand older line) refl (holds (place_of older) (world_of older) (length older) shaped)
    (λ is. always_from P holds is_built (line ∷ older) lines sound.1
    (shaped_next (place_of older) (world_of older) (length older) (last_in (world_of older) line) (settled_in (world_of older)) line shaped sound.0 (right_of is_built (may_stand older line) is)))

pub shaped_always : (P : World → Type 0) → OfShapes P → (is_built : Bool) (text : List ℕ) (n : ℕ) → P (world_after one empty_world (take n (events_of is_built text)))
shaped_always P holds is_built text n = always_from P holds is_built [] (map said (split_of text).lines) (split_sound text) shaped_first n

pub always : (is_built : Bool) (text : List ℕ) (n : ℕ) → InStep one (world_after one empty_world (take n (events_of is_built text)))
always is_built text n = shaped_always (InStep one) shaped_in_step is_built text n

-- whatever text is told
pub always_told : (o : Option (List ℕ)) → IfSome o (λ (text : List ℕ). (is_built : Bool) (n : ℕ) → InStep one (world_after one empty_world (take n (events_of is_built text))))
always_told None = tt
always_told (Some text) = λ is_built n. always is_built text n
