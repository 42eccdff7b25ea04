-- A line that may stand keeps the shape of place and world.
use Rattle.std.proofs.Common.{◌≡◌, ℕ, ◌+◌, ◌≤◌, suc, Bool, true, false, ◌&&◌, ◌==◌, List, [], ◌∷◌, ◌++◌, length, All, Option, None, Some, refl, sym, ap, subst, ◌∙◌, arith}
use Rattle.std.specs.Prelude.{IfSome, is_some, is_none}
use Rattle.std.specs.Option.{option_map}
use Rattle.std.proofs.lemmas.Bool.{eqb-true}
use Rattle.std.proofs.lemmas.List.Elements.{All-nil, All-cons, All-append}
use Rattle.sds_types.specs.declared.config.Config.{Config}
use Rattle.sds_first_spec.specs.declared.event.WorldEvent.{WorldEvent}
use Rattle.sds_first_spec.specs.declared.event.WorldEvent.TheVariants as event
use Rattle.sds_types.specs.declared.tx_row.TxRow.{TxRow}
use Rattle.sds_first_spec.specs.Happens.{happens, world_after, pushed_by, batches_in, message_from, sent}
use Rattle.sds_first_spec.specs.One.{one}
use Rattle.sds_first_spec.specs.World.{Message, World, empty_world}
use Rattle.sds_first_laws.specs.Pairs.{pair_world, IsPairWorld, MayHappen, is_written_row}
use Rattle.sds_first_world.specs.declared.line.Line.{Line}
use Rattle.sds_first_world.specs.declared.line.Line.TheVariants.{Opening, Write, Row, End, Route, Push, Show, Other}
use Rattle.sds_first_world.specs.declared.line.Opening.TheVariants.{Corp, Store, Open, Register}
use Rattle.sds_first_world.specs.declared.place.Draft.{Draft}
use Rattle.sds_first_world.specs.declared.place.Place.{Place}
use Rattle.sds_first_world.specs.Looking.{fits, behind, completed, with_row, written, corp, s1}
use Rattle.sds_first_world.specs.Played.{world_by}
use Rattle.sds_first_world.specs.Shapes.{one_node, two_nodes, Shaped}
use Rattle.sds_first_world.specs.Sound.{IsSoundLine}

-- EVENTS of a pair world
after_last : (config : Config) (w : World) (events : List WorldEvent) (event : WorldEvent) → world_after config w (events ++ event ∷ []) ≡ happens config (world_after config w events) event
after_last config w [] event = refl
after_last config w (first ∷ events) event = after_last config (happens config w first) events event

abbrev May : WorldEvent → Type 0
May event = MayHappen corp s1 event

one_more : (w : World) (event : WorldEvent) → IsPairWorld corp s1 w → May event → IsPairWorld corp s1 (happens one w event)
one_more w event pair may = record {
  events = pair.events ++ event ∷ [];
  may = All-append May pair.events (event ∷ []) pair.may (All-cons May event [] may (All-nil May));
  is = ap (λ (x : World). happens one x event) pair.is ∙ sym (after_last one (pair_world corp s1 [] [] [] []) pair.events event);
}

pushed_few : (n : ℕ) (m : Message) (w : World) (t : Bool) → (n == 0) ≡ t → (length (pushed_by n one m w).messages ≡ length w.messages) × (length (pushed_by n one m w).replies ≤ length w.replies + 1)
pushed_few n m w true is = rw is (refl, omega arith)
pushed_few n m w false is = rw is (refl, omega arith)

-- an event sends at most one message and makes at most one reply
few_more : (w : World) (event : WorldEvent) → (length (happens one w event).messages ≤ length w.messages + 1) × (length (happens one w event).replies ≤ length w.replies + 1)
few_more w (event.Node peer) = (omega arith, omega arith)
few_more w (event.Open place group external) = (omega arith, omega arith)
few_more w (event.Register asks place) = (omega arith, omega arith)
few_more w (event.Write node writer number rows) = (omega arith, omega arith)
few_more w (event.Route node) = (omega arith, omega arith)
few_more w (event.Push from to) =
    let few : (length (pushed_by (batches_in (message_from one from to w)) one (message_from one from to w) (sent one from to w)).messages ≡ length (sent one from to w).messages)
    × (length (pushed_by (batches_in (message_from one from to w)) one (message_from one from to w) (sent one from to w)).replies ≤ length w.replies + 1) =
    pushed_few (batches_in (message_from one from to w)) (message_from one from to w) (sent one from to w) (batches_in (message_from one from to w) == 0) refl in
    (counted _ w.messages (message_from one from to w) few.0, few.1) where
      counted : (n : ℕ) (messages : List Message) (m : Message) → n ≡ length (m ∷ messages) → n ≤ length messages + 1
      counted n messages m is = omega (arith, is)
few_more w (event.Show node) = (omega arith, omega arith)

-- TESTS
pub and_left : (a b : Bool) → (a && b) ≡ true → a ≡ true
and_left true b is = refl
and_left false b is = is

and_right : (a b : Bool) → (a && b) ≡ true → b ≡ true
and_right true b is = is
and_right false b is = absurd (cc)

none_draft : (draft : Option Draft) → is_none draft ≡ true → draft ≡ None
none_draft None is = refl
none_draft (Some draft) is = absurd (cc)

abbrev OpenWrite : ℕ → Option Draft → Type 0
OpenWrite openings draft = IfSome draft (λ (d : Draft). (openings ≡ 4) × All (λ (row : TxRow). is_written_row row ≡ true) d.rows)

abbrev IsWritten : TxRow → Type 0
IsWritten row = is_written_row row ≡ true

no_open : (openings : ℕ) (draft : Option Draft) → draft ≡ None → OpenWrite openings draft
no_open openings draft is = subst (λ (d : Option Draft). OpenWrite openings d) (sym is) tt

-- A PLACE where the same world stands behind one more line
same_world : (place new : Place) (w : World) (count : ℕ) → Shaped place w count → new.openings ≡ place.openings → OpenWrite new.openings new.draft → Shaped new w (suc count)
same_world place new w count shaped same draft =
    let messages : length w.messages ≤ count = shaped.few_messages in
    let replies : length w.replies ≤ count = shaped.few_replies in
    let most : place.openings ≤ 4 = shaped.most in
    record {
      most = omega (arith, most, same);
      at_first = λ is. shaped.at_first (sym same ∙ is);
      at_second = λ is. shaped.at_second (sym same ∙ is);
      at_third = λ is. shaped.at_third (sym same ∙ is);
      at_fourth = λ is. shaped.at_fourth (sym same ∙ is);
      met = λ is. shaped.met (sym same ∙ is);
      open_write = draft;
      few_messages = omega (arith, messages);
      few_replies = omega (arith, replies);
    }

-- an event of nodes that have met
met_world : (place new : Place) (w : World) (count : ℕ) (event : WorldEvent) → Shaped place w count → place.openings ≡ 4 → new.openings ≡ 4 → May event → OpenWrite new.openings new.draft → Shaped new (happens one w event) (suc count)
met_world place new w count event shaped at still may draft =
    let messages : length w.messages ≤ count = shaped.few_messages in
    let replies : length w.replies ≤ count = shaped.few_replies in
    let few : (length (happens one w event).messages ≤ length w.messages + 1) × (length (happens one w event).replies ≤ length w.replies + 1) = few_more w event in
    record {
      most = omega (arith, still);
      at_first = λ is. absurd (omega (arith, is, still));
      at_second = λ is. absurd (omega (arith, is, still));
      at_third = λ is. absurd (omega (arith, is, still));
      at_fourth = λ is. absurd (omega (arith, is, still));
      met = λ is. one_more w event (shaped.met at) may;
      open_write = draft;
      few_messages = omega (arith, messages, few.0);
      few_replies = omega (arith, replies, few.1);
    }

-- the four lines with which a scenario begins
first_world : (place : Place) (w : World) (count : ℕ) → Shaped place w count → place.openings ≡ 0 → place.draft ≡ None → Shaped (record place { openings = place.openings + 1 }) (happens one w (event.Node corp)) (suc count)
first_world place w count shaped at none =
    let is : happens one w (event.Node corp) ≡ one_node = ap (λ (x : World). happens one x (event.Node corp)) (shaped.at_first at) in
    subst (λ (x : World). Shaped (record place { openings = place.openings + 1 }) x (suc count)) (sym is) (record {
      most = omega (arith, at);
      at_first = λ e. absurd (omega (arith, e, at));
      at_second = λ e. refl;
      at_third = λ e. absurd (omega (arith, e, at));
      at_fourth = λ e. absurd (omega (arith, e, at));
      met = λ e. absurd (omega (arith, e, at));
      open_write = no_open (place.openings + 1) place.draft none;
      few_messages = omega arith;
      few_replies = omega arith;
    })

second_world : (place : Place) (w : World) (count : ℕ) → Shaped place w count → place.openings ≡ 1 → place.draft ≡ None → Shaped (record place { openings = place.openings + 1 }) (happens one w (event.Node s1)) (suc count)
second_world place w count shaped at none =
    let is : happens one w (event.Node s1) ≡ two_nodes = ap (λ (x : World). happens one x (event.Node s1)) (shaped.at_second at) in
    subst (λ (x : World). Shaped (record place { openings = place.openings + 1 }) x (suc count)) (sym is) (record {
      most = omega (arith, at);
      at_first = λ e. absurd (omega (arith, e, at));
      at_second = λ e. absurd (omega (arith, e, at));
      at_third = λ e. refl;
      at_fourth = λ e. absurd (omega (arith, e, at));
      met = λ e. absurd (omega (arith, e, at));
      open_write = no_open (place.openings + 1) place.draft none;
      few_messages = omega arith;
      few_replies = omega arith;
    })

third_world : (place : Place) (w : World) (count : ℕ) → Shaped place w count → place.openings ≡ 2 → place.draft ≡ None → Shaped (record place { openings = place.openings + 1 }) (happens one w (event.Open corp.id s1.group s1.external)) (suc count)
third_world place w count shaped at none =
    subst (λ (x : World). Shaped (record place { openings = place.openings + 1 }) x (suc count)) (sym (shaped.at_third at)) (record {
      most = omega (arith, at);
      at_first = λ e. absurd (omega (arith, e, at));
      at_second = λ e. absurd (omega (arith, e, at));
      at_third = λ e. absurd (omega (arith, e, at));
      at_fourth = λ e. refl;
      met = λ e. absurd (omega (arith, e, at));
      open_write = no_open (place.openings + 1) place.draft none;
      few_messages = omega arith;
      few_replies = omega arith;
    })

fourth_world : (place : Place) (w : World) (count : ℕ) → Shaped place w count → place.openings ≡ 3 → place.draft ≡ None → Shaped (record place { openings = place.openings + 1 }) (happens one w (event.Register s1.id corp.id)) (suc count)
fourth_world place w count shaped at none =
    let is : happens one w (event.Register s1.id corp.id) ≡ pair_world corp s1 [] [] [] [] = ap (λ (x : World). happens one x (event.Register s1.id corp.id)) (shaped.at_fourth at) in
    subst (λ (x : World). Shaped (record place { openings = place.openings + 1 }) x (suc count)) (sym is) (record {
      most = omega (arith, at);
      at_first = λ e. absurd (omega (arith, e, at));
      at_second = λ e. absurd (omega (arith, e, at));
      at_third = λ e. absurd (omega (arith, e, at));
      at_fourth = λ e. absurd (omega (arith, e, at));
      met = λ e. record { events = []; may = All-nil May; is = refl };
      open_write = no_open (place.openings + 1) place.draft none;
      few_messages = omega arith;
      few_replies = omega arith;
    })

pub ready : (place : Place) → (place.openings == 4 && is_none place.draft) ≡ true → (place.openings ≡ 4) × (place.draft ≡ None)
ready place is = (eqb-true place.openings 4 (and_left (place.openings == 4) (is_none place.draft) is), none_draft place.draft (and_right (place.openings == 4) (is_none place.draft) is))

pub at_order : (place : Place) (n : ℕ) → (place.openings == n && is_none place.draft) ≡ true → (place.openings ≡ n) × (place.draft ≡ None)
at_order place n is = (eqb-true place.openings n (and_left (place.openings == n) (is_none place.draft) is), none_draft place.draft (and_right (place.openings == n) (is_none place.draft) is))

-- a row behind a write that is open
row_written : (openings : ℕ) (draft : Option Draft) (row : TxRow) → OpenWrite openings draft → IsWritten row → OpenWrite openings (option_map (with_row row) draft)
row_written openings None row sound is = tt
row_written openings (Some draft) row sound is = (sound.0, All-append IsWritten draft.rows (row ∷ []) sound.1 (All-cons IsWritten row [] is (All-nil IsWritten)))

-- the end of a write that is open
write_ended : (place : Place) (w : World) (count : ℕ) (draft : Option Draft) → place.draft ≡ draft → Shaped place w count → OpenWrite place.openings draft → is_some draft ≡ true
    → Shaped (record place { draft = None }) (world_by (option_map written draft) w) (suc count)
write_ended place w count None is shaped sound open_now = absurd (cc)
write_ended place w count (Some draft) is shaped sound open_now =
    met_world place (record place { draft = None }) w count (event.Write corp.id draft.writer draft.number draft.rows) shaped sound.0 sound.0 (refl, sound.1) tt

pub shaped_next : (place : Place) (w : World) (count last : ℕ) (settled : Bool) (line : Line) → Shaped place w count → IsSoundLine line → fits place last settled line ≡ true
    → Shaped (behind place line) (world_by (completed place line) w) (suc count)
shaped_next place w count last settled (Opening Corp) shaped sound is = let here : (place.openings ≡ 0) × (place.draft ≡ None) = at_order place 0 is in first_world place w count shaped here.0 here.1
shaped_next place w count last settled (Opening Store) shaped sound is = let here : (place.openings ≡ 1) × (place.draft ≡ None) = at_order place 1 is in second_world place w count shaped here.0 here.1
shaped_next place w count last settled (Opening Open) shaped sound is = let here : (place.openings ≡ 2) × (place.draft ≡ None) = at_order place 2 is in third_world place w count shaped here.0 here.1
shaped_next place w count last settled (Opening Register) shaped sound is = let here : (place.openings ≡ 3) × (place.draft ≡ None) = at_order place 3 is in fourth_world place w count shaped here.0 here.1
shaped_next place w count last settled (Write writer number) shaped sound is =
    let here : (place.openings ≡ 4) × (place.draft ≡ None) = ready place (and_left (place.openings == 4 && is_none place.draft) (number == last + 1) is) in
    same_world place (record place { draft = Some (record { writer = writer; number = number; rows = [] }) }) w count shaped refl (here.0, All-nil IsWritten)
shaped_next place w count last settled (Row row) shaped sound is =
    same_world place (record place { draft = option_map (with_row row) place.draft; rows = place.rows + 1 }) w count shaped refl (row_written place.openings place.draft row shaped.open_write sound)
shaped_next place w count last settled End shaped sound is = write_ended place w count place.draft refl shaped shaped.open_write is
shaped_next place w count last settled Route shaped sound is =
    let here : (place.openings ≡ 4) × (place.draft ≡ None) = ready place (and_left (place.openings == 4 && is_none place.draft) settled is) in
    met_world place place w count (event.Route corp.id) shaped here.0 here.0 refl shaped.open_write
shaped_next place w count last settled Push shaped sound is =
    let here : (place.openings ≡ 4) × (place.draft ≡ None) = ready place is in
    met_world place place w count (event.Push corp.id s1.id) shaped here.0 here.0 (refl, refl) shaped.open_write
shaped_next place w count last settled (Show node) shaped sound is =
    let here : (place.openings ≡ 4) × (place.draft ≡ None) = ready place is in
    met_world place place w count (event.Show node) shaped here.0 here.0 tt shaped.open_write
shaped_next place w count last settled Other shaped sound is = absurd (cc)

pub shaped_first : Shaped (record { openings = 0; draft = None; rows = 0 }) empty_world 0
shaped_first = record {
  most = omega arith;
  at_first = λ e. refl;
  at_second = λ e. absurd (omega (arith, e));
  at_third = λ e. absurd (omega (arith, e));
  at_fourth = λ e. absurd (omega (arith, e));
  met = λ e. absurd (omega (arith, e));
  open_write = tt;
  few_messages = omega arith;
  few_replies = omega arith;
}
