-- One line of a scenario, played by a stage.
use Rattle.std.proofs.Common.{◌≡◌, ◌⊎◌, inl, inr, ℕ, ◌<◌, ◌≤◌, ◌^◌, zero, suc, Bool, true, false, ◌&&◌, ◌==◌, List, [], ◌∷◌, ◌++◌, length, Option, None, Some, refl, sym, ap, subst, ◌∙◌, arith, append-nil}
use Rattle.sds_types.specs.declared.tx_row.TxRow.{TxRow}
use Rattle.std.specs.Prelude.{All, IfSome, is_none}
use Rattle.std.specs.Option.{option_map, option_map_or}
use Rattle.std.proofs.lemmas.Bool.{eqb-true}
use Rattle.std.proofs.lemmas.Bool.Decides.{nat_tests}
use Rattle.sds_first_spec.specs.declared.event.WorldEvent.{WorldEvent}
use Rattle.sds_first_spec.specs.declared.event.WorldEvent.TheVariants as event
use Rattle.sds_first_spec.specs.Acts.{State, History}
use Rattle.sds_first_spec.specs.Happens.{happens}
use Rattle.sds_first_spec.specs.History.{state_of}
use Rattle.sds_first_spec.specs.Kept.{writer_in}
use Rattle.sds_first_spec.specs.One.{one, paired}
use Rattle.sds_first_spec.specs.Screen.{printed_by}
use Rattle.sds_first_spec.specs.Settled.{kept_number, all_ok}
use Rattle.sds_first_spec.specs.World.{World, empty_world}
use Rattle.sds_first_laws.specs.Pairs.{IsPairWorld, PairFacts, is_written_row}
use Rattle.sds_first_laws.proofs.PairEvents.{stay_in_step, sender_found, receiver_found}
use Rattle.sds_first_world.specs.declared.line.Line.{Line}
use Rattle.sds_first_world.specs.declared.line.Line.TheVariants.{Opening, Write, Row, End, Route, Push, Show, Other}
use Rattle.sds_first_world.specs.declared.line.Opening.TheVariants.{Corp, Store, Open, Register}
use Rattle.sds_first_world.specs.declared.nodes.Named.{Named}
use Rattle.sds_first_world.specs.declared.place.Draft.{Draft}
use Rattle.sds_first_world.specs.declared.place.Place.{Place}
use Rattle.sds_first_world.specs.declared.stage.Stage.{Stage}
use Rattle.sds_first_world.specs.Looking.{fits, behind, completed, written, corp, s1, place_of}
use Rattle.sds_first_world.specs.Played.{world_by, world_of, last_of, last_in, settled_in, may_stand}
use Rattle.sds_first_world.specs.Playing.{NodesPlay, Waits, Stands, IsThere, MayPlay, HasPlayed}
use Rattle.sds_first_world.specs.Settling.{last_by, settled_by, last_said}
use Rattle.sds_first_world.specs.Shapes.{one_node, two_nodes, Shaped, PlaysAt, Behind, printed_line}
use Rattle.sds_first_world.specs.Sound.{IsSoundLine}
use Rattle.sds_first_world.proofs.Shaping.{shaped_next, at_order, ready, and_left}

-- NODES THAT HAVE MET
pub pair_facts : (w : World) → IsPairWorld corp s1 w → PairFacts corp s1 w
pair_facts w pair = subst (λ (x : World). PairFacts corp s1 x) (sym pair.is) (stay_in_step corp s1 pair.events refl pair.may)

four_cases : (Goal : Type 0) (n : ℕ) → n < 4 → (n ≡ 0 → Goal) → (n ≡ 1 → Goal) → (n ≡ 2 → Goal) → (n ≡ 3 → Goal) → Goal
four_cases Goal zero lt a b c d = a refl
four_cases Goal (suc zero) lt a b c d = b refl
four_cases Goal (suc (suc zero)) lt a b c d = c refl
four_cases Goal (suc (suc (suc zero))) lt a b c d = d refl
four_cases Goal (suc (suc (suc (suc n)))) lt a b c d = absurd (omega (arith, lt))

pub by_four : (Goal : Type 0) (n : ℕ) (t : Bool) → (n == 4) ≡ t → n ≤ 4 → (n < 4 → Goal) → (n ≡ 4 → Goal) → Goal
by_four Goal n true is most early met = met (eqb-true n 4 is)
by_four Goal n false is most early met = early (below n most is) where
  below : (k : ℕ) → k ≤ 4 → (k == 4) ≡ false → k < 4
  below k le off = grind (arith, nat_tests)

-- what holds of the worlds before nodes have met
pub early : (P : World → Type 0) (place : Place) (w : World) (count : ℕ) → Shaped place w count → place.openings < 4 → P empty_world → P one_node → P two_nodes → P w
early P place w count shaped lt none first both =
    four_cases (P w) place.openings lt
    (λ is. subst P (sym (shaped.at_first is)) none) (λ is. subst P (sym (shaped.at_second is)) first)
    (λ is. subst P (sym (shaped.at_third is)) both) (λ is. subst P (sym (shaped.at_fourth is)) both)

first_last : (writer : List ℕ) (nodes : List Named) (h : History) (hs : List History) → NodesPlay nodes (h ∷ hs) → last_by writer nodes ≡ kept_number (writer_in writer (state_of one h).writers)
first_last writer [] h hs plays = absurd plays
first_last writer (named ∷ nodes) h hs plays = ap (λ (s : State). kept_number (writer_in writer s.writers)) plays.0.stands

first_settled : (nodes : List Named) (h : History) (hs : List History) → NodesPlay nodes (h ∷ hs) → settled_by nodes ≡ all_ok (state_of one h).batches
first_settled [] h hs plays = absurd plays
first_settled (named ∷ nodes) h hs plays = ap (λ (s : State). all_ok s.batches) plays.0.stands

met_last : (writer : List ℕ) (nodes : List Named) (w : World) → PairFacts corp s1 w → NodesPlay nodes w.nodes → last_by writer nodes ≡ last_of w writer
met_last writer nodes w facts plays =
    let P : World → Type 0 = λ x. NodesPlay nodes x.nodes → last_by writer nodes ≡ last_of x writer in
    subst P (sym facts.is) (λ p. first_last writer nodes (record { opening = paired corp s1; acts = facts.mine }) _ p
    ∙ sym (ap (λ (o : Option History). option_map_or (λ (h : History). kept_number (writer_in writer (state_of one h).writers)) o 0) (sender_found corp s1 facts.mine facts.acts facts.messages facts.replies))) plays

met_settled : (nodes : List Named) (w : World) → PairFacts corp s1 w → NodesPlay nodes w.nodes → settled_by nodes ≡ settled_in w
met_settled nodes w facts plays =
    let P : World → Type 0 = λ x. NodesPlay nodes x.nodes → settled_by nodes ≡ settled_in x in
    subst P (sym facts.is) (λ p. first_settled nodes (record { opening = paired corp s1; acts = facts.mine }) _ p
    ∙ sym (ap (λ (o : Option History). option_map_or (λ (h : History). all_ok (state_of one h).batches) o true) (sender_found corp s1 facts.mine facts.acts facts.messages facts.replies))) plays

-- WHAT THE FIRST NODE SAYS is what the head office of the world says.
last_is : (older : List Line) (place : Place) (stage : Stage) (writer : List ℕ) → Behind older place stage → last_by writer stage.nodes.items ≡ last_of (world_of older) writer
last_is older place stage writer b =
    by_four (last_by writer stage.nodes.items ≡ last_of (world_of older) writer) place.openings (place.openings == 4) refl b.shaped.most
    (λ lt. ap (last_by writer) (b.plays.waits lt).none ∙ sym (early (λ w. last_of w writer ≡ 0) place (world_of older) (length older) b.shaped lt refl refl refl))
    (λ is. met_last writer stage.nodes.items (world_of older) (pair_facts (world_of older) (b.shaped.met is)) (b.plays.stands is).nodes)

settled_is : (older : List Line) (place : Place) (stage : Stage) → Behind older place stage → settled_by stage.nodes.items ≡ settled_in (world_of older)
settled_is older place stage b =
    by_four (settled_by stage.nodes.items ≡ settled_in (world_of older)) place.openings (place.openings == 4) refl b.shaped.most
    (λ lt. ap settled_by (b.plays.waits lt).none ∙ sym (early (λ w. settled_in w ≡ true) place (world_of older) (length older) b.shaped lt refl refl refl))
    (λ is. met_settled stage.nodes.items (world_of older) (pair_facts (world_of older) (b.shaped.met is)) (b.plays.stands is).nodes)

said_is : (older : List Line) (place : Place) (stage : Stage) (line : Line) → Behind older place stage → last_said stage.nodes.items line ≡ last_in (world_of older) line
said_is older place stage (Opening which) b = refl
said_is older place stage (Write writer number) b = last_is older place stage writer b
said_is older place stage (Row row) b = refl
said_is older place stage End b = refl
said_is older place stage Route b = refl
said_is older place stage Push b = refl
said_is older place stage (Show node) b = refl
said_is older place stage Other b = refl

pub stands_is : (older : List Line) (place : Place) (stage : Stage) (line : Line) (last : ℕ) (settled result : Bool) → last ≡ last_said stage.nodes.items line → settled ≡ settled_by stage.nodes.items
    → result ≡ fits place last settled line → Behind older place stage → result ≡ may_stand older line
stands_is older place stage line last settled result is_last is_settled is b =
    is ∙ (ap (λ (p : Place). fits p last settled line) b.is
    ∙ (ap (λ (n : ℕ). fits (place_of older) n settled line) (is_last ∙ said_is older place stage line b)
    ∙ ap (λ (s : Bool). fits (place_of older) (last_in (world_of older) line) s line) (is_settled ∙ settled_is older place stage b)))

-- AN EVENT MAY HAPPEN
no_event : (Goal : Type 0) (event : WorldEvent) → Some event ≡ None → Goal
no_event Goal event is = absurd (cc)

office_there : (w : World) → PairFacts corp s1 w → IsThere corp.id w
office_there w facts = subst (λ (x : World). IsThere corp.id x) (sym facts.is)
    (record { h = record { opening = paired corp s1; acts = facts.mine }; found = sender_found corp s1 facts.mine facts.acts facts.messages facts.replies })

store_there : (w : World) → PairFacts corp s1 w → IsThere s1.id w
store_there w facts = subst (λ (x : World). IsThere s1.id x) (sym facts.is)
    (record { h = record { opening = paired s1 corp; acts = facts.acts }; found = receiver_found corp s1 facts.mine facts.acts facts.messages facts.replies refl })

shown_there : (w : World) (node : List ℕ) → PairFacts corp s1 w → (node ≡ corp.id) ⊎ (node ≡ s1.id) → IsThere node w
shown_there w node facts (inl is) = subst (λ (id : List ℕ). IsThere id w) (sym is) (office_there w facts)
shown_there w node facts (inr is) = subst (λ (id : List ℕ). IsThere id w) (sym is) (store_there w facts)

-- at this place, where nodes have met, an event finds this
record Met (older : List Line) (place : Place) (stage : Stage) : Type 0 where
  stands : Stands stage (world_of older)
  facts : PairFacts corp s1 (world_of older)

met_at : (older : List Line) (place : Place) (stage : Stage) → Behind older place stage → place.openings ≡ 4 → Met older place stage
met_at older place stage b is = record { stands = b.plays.stands is; facts = pair_facts (world_of older) (b.shaped.met is) }

may_write : (older : List Line) (place : Place) (stage : Stage) (draft : Option Draft) (event : WorldEvent) → Behind older place stage
    → IfSome draft (λ (d : Draft). (place.openings ≡ 4) × All (λ (row : TxRow). is_written_row row ≡ true) d.rows) → Some event ≡ option_map written draft → MayPlay event stage (world_of older)
may_write older place stage None e b sound is = no_event (MayPlay e stage (world_of older)) e is
may_write older place stage (Some draft) e b sound is =
    let m : Met older place stage = met_at older place stage b sound.0 in
    let same : written draft ≡ e = cc in subst (λ (x : WorldEvent). MayPlay x stage (world_of older)) same (m.stands, office_there (world_of older) m.facts)

pub may_play : (older : List Line) (place : Place) (stage : Stage) (line : Line) (last : ℕ) (settled : Bool) (event : WorldEvent) → Behind older place stage → IsSoundLine line → length older < 2 ^ 62
    → fits place last settled line ≡ true → Some event ≡ completed place line → MayPlay event stage (world_of older)
may_play older place stage (Opening Corp) last settled e b sound few fit is =
    let here : place.openings ≡ 0 = (at_order place 0 fit).0 in
    let same : event.Node corp ≡ e = cc in subst (λ (x : WorldEvent). MayPlay x stage (world_of older)) same (b.plays.waits (omega (arith, here)))
may_play older place stage (Opening Store) last settled e b sound few fit is =
    let here : place.openings ≡ 1 = (at_order place 1 fit).0 in
    let same : event.Node s1 ≡ e = cc in subst (λ (x : WorldEvent). MayPlay x stage (world_of older)) same (b.plays.waits (omega (arith, here)))
may_play older place stage (Opening Open) last settled e b sound few fit is =
    let here : place.openings ≡ 2 = (at_order place 2 fit).0 in
    let same : event.Open corp.id s1.group s1.external ≡ e = cc in subst (λ (x : WorldEvent). MayPlay x stage (world_of older)) same (b.plays.waits (omega (arith, here)))
may_play older place stage (Opening Register) last settled e b sound few fit is =
    let here : place.openings ≡ 3 = (at_order place 3 fit).0 in
    let same : event.Register s1.id corp.id ≡ e = cc in
    subst (λ (x : WorldEvent). MayPlay x stage (world_of older)) same (
      b.plays.waits (omega (arith, here)),
      record { parent = corp; child = s1; nodes = ap (λ (w : World). w.nodes) (b.shaped.at_fourth here); is_parent = refl; is_child = refl; apart = refl },
    )
may_play older place stage (Write writer number) last settled e b sound few fit is = no_event (MayPlay e stage (world_of older)) e is
may_play older place stage (Row row) last settled e b sound few fit is = no_event (MayPlay e stage (world_of older)) e is
may_play older place stage End last settled e b sound few fit is = may_write older place stage place.draft e b b.shaped.open_write is
may_play older place stage Route last settled e b sound few fit is =
    let m : Met older place stage = met_at older place stage b (ready place (and_left (place.openings == 4 && is_none place.draft) settled fit)).0 in
    let same : event.Route corp.id ≡ e = cc in subst (λ (x : WorldEvent). MayPlay x stage (world_of older)) same (m.stands, office_there (world_of older) m.facts)
may_play older place stage Push last settled e b sound few fit is =
    let m : Met older place stage = met_at older place stage b (ready place fit).0 in
    let messages : length (world_of older).messages ≤ length older = b.shaped.few_messages in
    let replies : length (world_of older).replies ≤ length older = b.shaped.few_replies in
    let same : event.Push corp.id s1.id ≡ e = cc in
    subst (λ (x : WorldEvent). MayPlay x stage (world_of older)) same (
      m.stands,
      record {
        sender = corp;
        receiver = s1;
        is_sender = refl;
        is_receiver = refl;
        apart = refl;
        facts = m.facts;
        few_messages = omega (arith, messages, few);
        few_replies = omega (arith, replies, few);
      },
    )
may_play older place stage (Show node) last settled e b sound few fit is =
    let m : Met older place stage = met_at older place stage b (ready place fit).0 in
    let same : event.Show node ≡ e = cc in subst (λ (x : WorldEvent). MayPlay x stage (world_of older)) same (m.stands, shown_there (world_of older) node m.facts sound)
may_play older place stage Other last settled e b sound few fit is = no_event (MayPlay e stage (world_of older)) e is

-- AND HAS HAPPENED
waits_at : (place : Place) (stage : Stage) (w : World) → place.openings < 4 → Waits stage w → PlaysAt place stage w
waits_at place stage w lt waits = record { waits = λ is. waits; stands = λ is. absurd (omega (arith, is, lt)) }

stands_at : (place : Place) (stage : Stage) (w : World) → place.openings ≡ 4 → Stands stage w → PlaysAt place stage w
stands_at place stage w at stands = record { waits = λ lt. absurd (omega (arith, at, lt)); stands = λ is. stands }

has_written : (place : Place) (stage : Stage) (w : World) (draft : Option Draft) (event : WorldEvent)
    → IfSome draft (λ (d : Draft). (place.openings ≡ 4) × All (λ (row : TxRow). is_written_row row ≡ true) d.rows) → Some event ≡ option_map written draft
    → HasPlayed event stage (happens one w event) → PlaysAt (record place { draft = None }) stage (happens one w event)
has_written place stage w None e sound is played = no_event (PlaysAt (record place { draft = None }) stage (happens one w e)) e is
has_written place stage w (Some draft) e sound is played =
    let same : written draft ≡ e = cc in
    let P : WorldEvent → Type 0 = λ x. HasPlayed x stage (happens one w x) → PlaysAt (record place { draft = None }) stage (happens one w x) in
    subst P same (λ p. stands_at (record place { draft = None }) stage (happens one w (written draft)) sound.0 p) played

has_played : (place : Place) (stage : Stage) (w : World) (count : ℕ) (line : Line) (last : ℕ) (settled : Bool) (event : WorldEvent) → Shaped place w count → fits place last settled line ≡ true
    → Some event ≡ completed place line → HasPlayed event stage (happens one w event) → PlaysAt (behind place line) stage (happens one w event)
has_played place stage w count (Opening Corp) last settled e shaped fit is played =
    let here : place.openings ≡ 0 = (at_order place 0 fit).0 in
    let same : event.Node corp ≡ e = cc in
    let P : WorldEvent → Type 0 = λ x. HasPlayed x stage (happens one w x) → PlaysAt (behind place (Opening Corp)) stage (happens one w x) in
    subst P same (λ p. waits_at (behind place (Opening Corp)) stage (happens one w (event.Node corp)) (omega (arith, here)) p) played
has_played place stage w count (Opening Store) last settled e shaped fit is played =
    let here : place.openings ≡ 1 = (at_order place 1 fit).0 in
    let same : event.Node s1 ≡ e = cc in
    let P : WorldEvent → Type 0 = λ x. HasPlayed x stage (happens one w x) → PlaysAt (behind place (Opening Store)) stage (happens one w x) in
    subst P same (λ p. waits_at (behind place (Opening Store)) stage (happens one w (event.Node s1)) (omega (arith, here)) p) played
has_played place stage w count (Opening Open) last settled e shaped fit is played =
    let here : place.openings ≡ 2 = (at_order place 2 fit).0 in
    let same : event.Open corp.id s1.group s1.external ≡ e = cc in
    let P : WorldEvent → Type 0 = λ x. HasPlayed x stage (happens one w x) → PlaysAt (behind place (Opening Open)) stage (happens one w x) in
    subst P same (λ p. waits_at (behind place (Opening Open)) stage (happens one w (event.Open corp.id s1.group s1.external)) (omega (arith, here)) p) played
has_played place stage w count (Opening Register) last settled e shaped fit is played =
    let here : place.openings ≡ 3 = (at_order place 3 fit).0 in
    let same : event.Register s1.id corp.id ≡ e = cc in
    let P : WorldEvent → Type 0 = λ x. HasPlayed x stage (happens one w x) → PlaysAt (behind place (Opening Register)) stage (happens one w x) in
    subst P same (λ p. stands_at (behind place (Opening Register)) stage (happens one w (event.Register s1.id corp.id)) (omega (arith, here)) p) played
has_played place stage w count (Write writer number) last settled e shaped fit is played = no_event (PlaysAt (behind place (Write writer number)) stage (happens one w e)) e is
has_played place stage w count (Row row) last settled e shaped fit is played = no_event (PlaysAt (behind place (Row row)) stage (happens one w e)) e is
has_played place stage w count End last settled e shaped fit is played = has_written place stage w place.draft e shaped.open_write is played
has_played place stage w count Route last settled e shaped fit is played =
    let here : place.openings ≡ 4 = (ready place (and_left (place.openings == 4 && is_none place.draft) settled fit)).0 in
    let same : event.Route corp.id ≡ e = cc in
    let P : WorldEvent → Type 0 = λ x. HasPlayed x stage (happens one w x) → PlaysAt place stage (happens one w x) in
    subst P same (λ p. stands_at place stage (happens one w (event.Route corp.id)) here p) played
has_played place stage w count Push last settled e shaped fit is played =
    let here : place.openings ≡ 4 = (ready place fit).0 in
    let same : event.Push corp.id s1.id ≡ e = cc in
    let P : WorldEvent → Type 0 = λ x. HasPlayed x stage (happens one w x) → PlaysAt place stage (happens one w x) in
    subst P same (λ p. stands_at place stage (happens one w (event.Push corp.id s1.id)) here p) played
has_played place stage w count (Show node) last settled e shaped fit is played =
    let here : place.openings ≡ 4 = (ready place fit).0 in
    let same : event.Show node ≡ e = cc in
    let P : WorldEvent → Type 0 = λ x. HasPlayed x stage (happens one w x) → PlaysAt place stage (happens one w x) in
    subst P same (λ p. stands_at place stage (happens one w (event.Show node)) here p) played
has_played place stage w count Other last settled e shaped fit is played = no_event (PlaysAt place stage (happens one w e)) e is

-- WHERE NOTHING HAPPENS the openings stay.
same_openings : (place : Place) (line : Line) (last : ℕ) (settled : Bool) → fits place last settled line ≡ true → None ≡ completed place line → (behind place line).openings ≡ place.openings
same_openings place (Opening which) last settled fit is = absurd (cc)
same_openings place (Write writer number) last settled fit is = refl
same_openings place (Row row) last settled fit is = refl
same_openings place End last settled fit is = refl
same_openings place Route last settled fit is = refl
same_openings place Push last settled fit is = refl
same_openings place (Show node) last settled fit is = refl
same_openings place Other last settled fit is = refl

moved : (place new : Place) (stage : Stage) (w : World) → new.openings ≡ place.openings → PlaysAt place stage w → PlaysAt new stage w
moved place new stage w same plays = record { waits = λ lt. plays.waits (omega (arith, lt, same)); stands = λ is. plays.stands (sym same ∙ is) }

-- ONE LINE
fits_here : (older : List Line) (place : Place) (stage : Stage) (line : Line) → Behind older place stage → may_stand older line ≡ true
    → fits place (last_in (world_of older) line) (settled_in (world_of older)) line ≡ true
fits_here older place stage line b is = ap (λ (p : Place). fits p (last_in (world_of older) line) (settled_in (world_of older)) line) b.is ∙ is

pub with_event : (older : List Line) (place new : Place) (stage after : Stage) (line : Line) (e : WorldEvent) (old out : List ℕ) → IsSoundLine line → may_stand older line ≡ true → length older < 2 ^ 62
    → Some e ≡ completed place line → new ≡ behind place line
    → ((w : World) → MayPlay e stage w → HasPlayed e after (happens one w e) × (out ≡ old ++ printed_by one w e))
    → Behind older place stage → Behind (line ∷ older) new after × (out ≡ old ++ printed_line older line)
with_event older place new stage after line e old out sound stands few is moved_to happen b =
    let fit : fits place (last_in (world_of older) line) (settled_in (world_of older)) line ≡ true = fits_here older place stage line b stands in
    let both : HasPlayed e after (happens one (world_of older) e) × (out ≡ old ++ printed_by one (world_of older) e) =
    happen (world_of older) (may_play older place stage line (last_in (world_of older) line) (settled_in (world_of older)) e b sound few fit is) in
    let world : world_of (line ∷ older) ≡ happens one (world_of older) e = ap (λ (p : Place). world_by (completed p line) (world_of older)) (sym b.is) ∙ ap (λ (o : Option WorldEvent). world_by o (world_of older)) (sym is) in
    let shaped : Shaped (behind place line) (world_by (completed place line) (world_of older)) (suc (length older)) =
    shaped_next place (world_of older) (length older) (last_in (world_of older) line) (settled_in (world_of older)) line b.shaped sound fit in (
      record {
        is = moved_to ∙ ap (λ (p : Place). behind p line) b.is;
        shaped = subst (λ (p : Place). Shaped p (world_of (line ∷ older)) (suc (length older))) (sym moved_to)
            (subst (λ (p : Place). Shaped (behind place line) (world_by (completed p line) (world_of older)) (suc (length older))) b.is shaped);
        plays = subst (λ (p : Place). PlaysAt p after (world_of (line ∷ older))) (sym moved_to) (subst (λ (w : World). PlaysAt (behind place line) after w) (sym world)
            (has_played place after (world_of older) (length older) line (last_in (world_of older) line) (settled_in (world_of older)) e b.shaped fit is both.0));
      },
      both.1 ∙ ap (λ (l : List ℕ). old ++ l) (ap (λ (o : Option WorldEvent). option_map_or (printed_by one (world_of older)) o []) is
          ∙ ap (λ (p : Place). option_map_or (printed_by one (world_of older)) (completed p line) []) b.is),
    )

pub with_none : (older : List Line) (place new : Place) (stage : Stage) (line : Line) (old : List ℕ) → IsSoundLine line → may_stand older line ≡ true
    → None ≡ completed place line → new ≡ behind place line → Behind older place stage → Behind (line ∷ older) new stage × (old ≡ old ++ printed_line older line)
with_none older place new stage line old sound stands is moved_to b =
    let fit : fits place (last_in (world_of older) line) (settled_in (world_of older)) line ≡ true = fits_here older place stage line b stands in
    let world : world_of (line ∷ older) ≡ world_of older = ap (λ (p : Place). world_by (completed p line) (world_of older)) (sym b.is) ∙ ap (λ (o : Option WorldEvent). world_by o (world_of older)) (sym is) in
    let shaped : Shaped (behind place line) (world_by (completed place line) (world_of older)) (suc (length older)) =
    shaped_next place (world_of older) (length older) (last_in (world_of older) line) (settled_in (world_of older)) line b.shaped sound fit in (
      record {
        is = moved_to ∙ ap (λ (p : Place). behind p line) b.is;
        shaped = subst (λ (p : Place). Shaped p (world_of (line ∷ older)) (suc (length older))) (sym moved_to)
            (subst (λ (p : Place). Shaped (behind place line) (world_by (completed p line) (world_of older)) (suc (length older))) b.is shaped);
        plays = subst (λ (p : Place). PlaysAt p stage (world_of (line ∷ older))) (sym moved_to) (subst (λ (w : World). PlaysAt (behind place line) stage w) (sym world)
            (moved place (behind place line) stage (world_of older) (same_openings place line (last_in (world_of older) line) (settled_in (world_of older)) fit is) b.plays));
      },
      sym (append-nil old) ∙ ap (λ (l : List ℕ). old ++ l) (ap (λ (o : Option WorldEvent). option_map_or (printed_by one (world_of older)) o []) is
          ∙ ap (λ (p : Place). option_map_or (printed_by one (world_of older)) (completed p line) []) b.is),
    )
