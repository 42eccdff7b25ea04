-- A call of a node that stands for one of a world goes as that one's.
use Rattle.std.proofs.Common.{◌≡◌, ◌≢◌, ◌∷◌, ◌⊎◌, [], inl, inr, ℕ, Bool, true, false, cond, List, Option, None, Some, arith, refl, sym, ap, subst, ◌∙◌}
use Rattle.std.specs.Prelude.{◌^◌, ◌<◌, IfSome, Result, Ok, Err}
use Rattle.std.specs.List.{All}
use Rattle.sds_outside.specs.Keepings.{FailsAs, Keeping, NoneFails, with_edits}
use Rattle.sds_outside.specs.Records as outside
use Rattle.sds_types.specs.declared.batch.OutBatch.{OutBatch}
use Rattle.sds_types.specs.declared.batch.Standing.{Standing}
use Rattle.sds_types.specs.declared.batch.Standing.TheVariants.{New, Erred, Acked}
use Rattle.sds_types.specs.declared.config.Config.{Config}
use Rattle.sds_types.specs.declared.lane.LaneError.{LaneError}
use Rattle.sds_types.specs.declared.lane.LaneIn.{LaneIn}
use Rattle.sds_types.specs.declared.node_fault.NodeFault.{NodeFault}
use Rattle.sds_types.specs.declared.node_fault.NodeFault.TheVariants.{Keeper, BadKept, Damaged, Counters, NoMemory}
use Rattle.sds_value.specs.declared.row.Peer.{Peer}
use Rattle.sds_trade.specs.rules.Sound.{IsSound}
use Rattle.sds_history.specs.history.Acts.{Act, History, State}
use Rattle.sds_history.specs.history.Image.{image_of}
use Rattle.sds_history.specs.history.Records.{Record}
use Rattle.sds_history.specs.history.SoundStates.{IsSoundState}
use Rattle.sds_history.specs.history.States.{new_state, state_after, state_of}
use Rattle.sds_history.specs.world.Calling.{Called, act_stands, after_act, call, fails, with_act}
use Rattle.sds_history.specs.world.Worlds as world
use Rattle.sds_records.specs.Told.{IsHeldBatch, IsHeldError, IsHeldLane, IsHeldStanding, IsNarrow, IsWide}
use Rattle.sds_image.specs.Pairs.{pairs}
use Rattle.sds_image.specs.declared.refusal.StateRefusal.{StateRefusal}
use Rattle.sds_image.specs.declared.refusal.StateRefusal.TheVariants as refusal
use Rattle.sds_image.specs.ReadStates.{IsReading}
use Rattle.sds_nodelaws.specs.Asked.{IsAsked}
use Rattle.sds_nodelaws.specs.Calls.{Call, act_of, begun, called_all, with_made}
use Rattle.sds_nodelaws.specs.Splicing.{after_made}
use Rattle.sds_nodelaws.proofs.Held.{mapped}
use Rattle.sds_nodelaws.proofs.SoundActs.{calls_keep_states_sound}
use Rattle.sds_nodelaws.proofs.Splicing.{calls_step_on}
use Rattle.sds_imagelaws.specs.Apart.{ErrorHasBits, ErrorsHaveBits, StandingHasBits}
use Rattle.sds_imagelaws.specs.Edits.{edits_of}
use Rattle.sds_imagelaws.specs.Reading.{AreHeld}
use Rattle.sds_imagelaws.specs.Widths.{IsHeldCall}
use Rattle.sds_imagelaws.proofs.AskedImages.{asked_calls_make_images}
use Rattle.sds_imagelaws.proofs.ReadImages.{images_are_read}
use Rattle.sds_imagelaws.proofs.Widths.{acts_keep_widths}
use Rattle.sds_imagelaws.proofs.StatesApart.{images_tell_states_apart}
use Rattle.sds_commit.specs.Commits.{Commits}
use Rattle.sds_commit.specs.Ends.{Ends, Fails, HasFailed, Kept, LacksMemory, Makes}
use Rattle.sds_node.specs.Going.{AreBad, AreUnread, EndsFrom, EndsUnsettled, Goes, IsCause, IsStill, Settled, TellAnother, records_of}
use Rattle.sds_node.specs.Meaning.{IsNode, has, kept_by}
use Rattle.sds_node.specs.Starting.{IsCreated, own_edit}
use Rattle.sds_node.specs.declared.node.Node.{Node}
use Rattle.sds_node.proofs.Endings.{Ended}
use Rattle.sds_standing.specs.Standing.{BeginGoes, CallGoes, GoesAs, KeepsFor, OpenGoes, SettleGoes, StandsFor, empty_keeping, told_of}

-- IMAGES of sound states with their widths tell the states apart
back : (records : List Record) → records_of (pairs records) ≡ records
back [] = refl
back (kept ∷ records) = ap (λ rest. kept ∷ rest) (back records)

one_image : (a b : List Record) → pairs a ≡ pairs b → a ≡ b
one_image a b same = sym (back a) ∙ (ap records_of same ∙ back b)

wider : (n : ℕ) → IsNarrow n → n < 2 ^ 64
wider n narrow = omega (arith, narrow)

standing_bits : (standing : Standing) → IsHeldStanding standing → StandingHasBits standing
standing_bits New is = tt
standing_bits Acked is = tt
standing_bits (Erred row rule) is = wider row is.0

error_bits : (error : Option LaneError) → IfSome error IsHeldError → IfSome error ErrorHasBits
error_bits None is = tt
error_bits (Some error) is = (is.0, wider error.row is.1)

bits : (state : State) → AreHeld state → ErrorsHaveBits state
bits state held = record {
  batches = mapped IsHeldBatch (λ (batch : OutBatch). StandingHasBits batch.standing) state.batches (λ batch is. standing_bits batch.standing is.1.1.0) held.batches;
  lanes = mapped IsHeldLane (λ (lane : LaneIn). IfSome lane.error ErrorHasBits) state.lanes (λ lane is. error_bits lane.error is.1.1) held.lanes;
}

one_state : (config : Config) (a b : State) → IsSound config → IsSoundState config a → IsSoundState config b → AreHeld a → AreHeld b
    → pairs (image_of config a) ≡ pairs (image_of config b) → a ≡ b
one_state config a b all sound_a sound_b held_a held_b same =
    images_tell_states_apart config a b all sound_a sound_b (bits a held_a) (bits b held_b) (one_image (image_of config a) (image_of config b) same)

-- A HISTORY that calls have made goes on by the act of a call
record StepsOn (config : Config) (history : History) (me : Peer) (calls : List Call) (act : Act) : Type 0 where
  made : with_act history act ≡ called_all config (begun me) calls
  state : state_of config (with_act history act) ≡ state_after config (state_of config history) act

steps_on : (config : Config) (me : Peer) (calls : List Call) (asks : Call) (act : Act) (history : History) → called_all config (begun me) calls ≡ history
    → act_of config (state_of config history) asks ≡ Some act → StepsOn config history me (asks ∷ calls) act
steps_on config me calls asks act history is made =
    subst (λ h. act_of config (state_of config h) asks ≡ Some act → StepsOn config h me (asks ∷ calls) act) is on made
  where
    before : History
    before = called_all config (begun me) calls

    on : act_of config (state_of config before) asks ≡ Some act → StepsOn config before me (asks ∷ calls) act
    on made =
        let same = ap (λ o. with_made before o) made in
        record {
          made = sym same;
          state = ap (state_of config) (sym same)
              ∙ (calls_step_on config me calls asks ∙ ap (λ o. after_made config (state_of config before) o) made);
        }

-- A NODE whose keeper keeps for a node of a world has what that one has, while it is sure
told_has : {K : Type 0} (is_open : K → Type 0) (keeping : K → Keeping) (damage : K → Option (Option ℕ)) (config : Config) (node : Node K) (stood : world.Node)
    → IsNode is_open keeping node → node.config ≡ config → KeepsFor keeping damage config node.keeper stood → node.sure ≡ true
    → has node ≡ world.state_in config stood
told_has is_open keeping damage config node stood is_node config_is keeps sure =
    one_state config (has node) (world.state_in config stood) (subst IsSound config_is is_node.config)
    (subst (λ c. IsSoundState c (has node)) config_is is_node.fits.sound) keeps.sound is_node.fits.held keeps.held
    (sym (subst (λ c. pairs (image_of config (world.state_in config stood)) ≡ pairs (image_of c (has node))) config_is
    (subst (λ (kept : Keeping). IfSome kept.records (λ t. t ≡ pairs (image_of node.config (has node)))) keeps.told (is_node.told sure))))

-- RECORDS of a node of a world are read, and as its own
module _ (config : Config) (s : State) (sound : IsSound config) (is_sound : IsSoundState config s) (held : AreHeld s) where
  reads : (told : StateRefusal) → IsReading config (records_of (pairs (image_of config s))) (Err told) → told ≡ refusal.NoMemory
  reads told reading = images_are_read config s sound is_sound held told
      (subst (λ records. IsReading config records (Err told)) (back (image_of config s)) reading)

  not_unread : (key : List ℕ) → AreUnread config key (pairs (image_of config s)) → ⊥
  not_unread key (inl bad) = let same = reads (refusal.BadRecord key) bad in absurd (cc)
  not_unread key (inr bad) = let same = reads (refusal.Contradicts key) bad in absurd (cc)

  not_bad : (me : Peer) (key : List ℕ) → me ≡ s.me → AreBad config me key (pairs (image_of config s)) → ⊥
  not_bad me key mine (inl unread) = not_unread key unread
  not_bad me key mine (inr (another, is_me)) =
      another.another (ap (λ (state : State). state.me) (one_state config another.state s sound another.sound is_sound another.held held
      (sym another.records_are)) ∙ sym mine)

  -- so only memory may be wanting
  no_cause : (bad : List ℕ → List outside.Record → Type 0) (faults : List Bool) (found : NodeFault) → ((key : List ℕ) → bad key (pairs (image_of config s)) → ⊥)
      → IsCause bad (record { records = Some (pairs (image_of config s)); fates = Some faults }) (Some None) found → found ≡ NoMemory
  no_cause bad faults Keeper good cause = absurd cause
  no_cause bad faults (BadKept key) good cause = absurd (good key cause)
  no_cause bad faults (Damaged at) good cause = absurd (cc)
  no_cause bad faults Counters good cause = absurd cause
  no_cause bad faults NoMemory good cause = refl

module _ {K A E : Type 0} (is_open : K → Type 0) (keeping : K → Keeping) (damage : K → Option (Option ℕ))
    (as_fault : NodeFault → E) (asks : Call) (answer : Config → State → Result A E) (before after : Node K) (stood : world.Node) (result : Result A E)
    (stands : StandsFor is_open keeping damage before.config before stood)
    (asked : IsAsked before.config (world.state_in before.config stood) asks) (few : IsHeldCall asks) (node : IsNode is_open keeping after)
    (still : IsStill before after) (undamaged : damage after.keeper ≡ damage before.keeper)
    (ample : LacksMemory as_fault result → ⊥) where
  abbrev config : Config
  config = before.config

  abbrev s : State
  s = world.state_in config stood

  abbrev keeps : KeepsFor keeping damage config before.keeper stood
  keeps = stands.keeps

  abbrev b : Kept
  b = record { state = s; told = told_of config stood }

  sound_config : IsSound config
  sound_config = stands.is_node.config

  -- the node after it stands for one whose keeper it has
  stands_on : (next : world.Node) → KeepsFor keeping damage config after.keeper next → (world.state_in config next).me ≡ s.me
      → StandsFor is_open keeping damage config after next
  stands_on next kept me = record {
    is_node = node;
    config_is = still.config;
    me_is = still.me ∙ (stands.me_is ∙ sym me);
    has_is = told_has is_open keeping damage config after next node still.config kept;
    keeps = kept;
  }

  -- nothing was done but that a fault may have gone
  keeps_on : (faults : List Bool) → keeping after.keeper ≡ record (told_of config stood) { fates = Some faults }
      → StandsFor is_open keeping damage config after (record stood { faults = faults })
  keeps_on faults told = stands_on (record stood { faults = faults }) (record {
    calls = keeps.calls;
    made = keeps.made;
    sound = keeps.sound;
    held = keeps.held;
    told = told;
    whole = undamaged ∙ keeps.whole;
  }) refl

  -- the call's act was made, and its records stand
  made_on : (act : Act) (faults : List Bool) → act_of config s asks ≡ Some act
      → keeping after.keeper ≡ with_edits (edits_of config s act) (record (told_of config stood) { fates = Some faults })
      → StandsFor is_open keeping damage config after (record { history = with_act stood.history act; faults = faults })
  made_on act faults is told =
      let steps = steps_on config (world.me_of stood) keeps.calls asks act stood.history (sym keeps.made) is in
      let sound = calls_keep_states_sound config sound_config s keeps.sound asks asked act is in
      let held = acts_keep_widths config s asks act sound_config keeps.sound keeps.held asked few is in
      let image = asked_calls_make_images config s asks act sound_config keeps.sound asked is in
      stands_on (record { history = with_act stood.history act; faults = faults }) (record {
        calls = asks ∷ keeps.calls;
        made = steps.made;
        sound = subst (IsSoundState config) (sym steps.state) sound;
        held = subst AreHeld (sym steps.state) held;
        told = told ∙ ap (λ (records : List outside.Record). record { records = Some records; fates = Some faults })
            (image ∙ ap (λ (state : State). pairs (image_of config state)) (sym steps.state));
        whole = undamaged ∙ keeps.whole;
      }) refl

  -- what was settled is what the node of the world has
  settled_same : (state : State) → Settled keeping before state → state ≡ s
  settled_same state settled = one_state config state s sound_config settled.sound keeps.sound settled.held keeps.held
      (sym (subst (λ (kept : Keeping). IfSome kept.records (λ told. told ≡ pairs (image_of config state))) keeps.told settled.told))

  -- HOW IT ENDS
  abbrev Goal : Option Act → Type 0
  Goal act = GoesAs is_open keeping damage config after result (call as_fault stood act (answer config s))

  abbrev Ending : Act → List Bool → Type 0
  Ending act faults = GoesAs is_open keeping damage config after result
      (record { node = after_act stood act faults; answer = cond (fails (Some act) faults) (Err (as_fault Keeper)) (answer config s) })

  failed_on : (act : Act) (faults : List Bool) → act_of config s asks ≡ Some act → HasFailed as_fault result
      → FailsAs (Some faults) (edits_of config s act) (told_of config stood) (keeping after.keeper) → Ending act faults
  failed_on act [] is failed told = absurd told
  failed_on act (false ∷ faults) is failed told = record { result_is = failed; stands = keeps_on faults told }
  failed_on act (true ∷ faults) is failed told = record { result_is = failed; stands = made_on act faults is told }

  answered_on : (act : Act) (faults : List Bool) → act_of config s asks ≡ Some act → result ≡ answer config s → NoneFails (Some faults)
      → keeping after.keeper ≡ with_edits (edits_of config s act) (record (told_of config stood) { fates = Some faults })
      → faults ≡ stood.faults → Ending act faults
  answered_on act [] is answers fine told same = record {
    result_is = answers;
    stands = subst (λ faults. StandsFor is_open keeping damage config after (record { history = with_act stood.history act; faults = faults })) same
        (made_on act [] is told);
  }
  answered_on act (stands_so ∷ faults) is answers fine told same = absurd fine

  ended_on : (act : Option Act) → act_of config s asks ≡ act → Ended as_fault result
      → Ends config b (kept_by keeping after) act as_fault (answer config s) result → Goal act
  ended_on None is (inl failed) ends = absurd (ends.failed failed)
  ended_on (Some act) is (inl failed) ends = failed_on act stood.faults is failed (ends.failed failed).1
  ended_on None is (inr (inl lacks)) ends = absurd (ample lacks)
  ended_on (Some act) is (inr (inl lacks)) ends = absurd (ample lacks)
  ended_on None is (inr (inr answered)) ends =
      let both = ends.answered answered in
      record { result_is = both.0; stands = keeps_on stood.faults (ap (λ (kept : Kept). kept.told) both.1) }
  ended_on (Some act) is (inr (inr answered)) ends =
      let all = ends.answered answered in answered_on act stood.faults is all.0 all.1.2 all.1.1 refl

  goes_on : Ended as_fault result → Goes keeping damage before after (λ state. act_of config state asks) as_fault (λ state. answer config state) result
      → Goal (act_of config s asks)
  goes_on ended (inl from) =
      ended_on (act_of config s asks) refl ended
      (subst (λ told. Ends config (record { state = s; told = told }) (kept_by keeping after) (act_of config s asks) as_fault (answer config s) result) keeps.told
      (subst (λ (state : State). Ends config (record { state = state; told = keeping before.keeper }) (kept_by keeping after) (act_of config state asks) as_fault
      (answer config state) result) (settled_same from.state from.settled) from.ends))
  goes_on ended (inr not) =
      absurd (ample (not.result_is ∙ ap (λ found. Err (as_fault found)) (no_cause config s sound_config keeps.sound keeps.held
      (AreBad config (has before).me) stood.faults not.found
      (λ key. not_bad config s sound_config keeps.sound keeps.held (has before).me key stands.me_is)
      (subst (λ (d : Option (Option ℕ)). IsCause (AreBad config (has before).me) (told_of config stood) d not.found) keeps.whole
      (subst (λ kept. IsCause (AreBad config (has before).me) kept (damage before.keeper) not.found) keeps.told not.unsettled.cause)))))

-- whatever configuration is meant, it is the node's
pub calls_go : {K A E : Type 0} (is_open : K → Type 0) (keeping : K → Keeping) (damage : K → Option (Option ℕ)) (as_fault : NodeFault → E) (asks : Call)
    (answer : Config → State → Result A E) → ((result : Result A E) → Ended as_fault result)
    → CallGoes is_open keeping damage as_fault asks answer
calls_go {K} {A} {E} is_open keeping damage as_fault asks answer ended config before after stood result stands asked few node still undamaged goes ample =
    on config stands.config_is stands asked
  where
    on : (c : Config) → before.config ≡ c → StandsFor is_open keeping damage c before stood → IsAsked c (world.state_in c stood) asks
        → GoesAs is_open keeping damage c after result (call as_fault stood (act_of c (world.state_in c stood) asks) (answer c (world.state_in c stood)))
    on c same = subst (λ c. StandsFor is_open keeping damage c before stood → IsAsked c (world.state_in c stood) asks
        → GoesAs is_open keeping damage c after result (call as_fault stood (act_of c (world.state_in c stood) asks) (answer c (world.state_in c stood)))) same
        (λ stands asked. goes_on is_open keeping damage as_fault asks answer before after stood result stands asked few node still undamaged ample
        (ended result) goes)

-- SETTLING
pub settles_go : {K : Type 0} (is_open : K → Type 0) (keeping : K → Keeping) (damage : K → Option (Option ℕ)) → SettleGoes is_open keeping damage
settles_go {K} is_open keeping damage config before after stood result stands node settles undamaged ample = on result refl
  where
    sound : IsSound config
    sound = subst IsSound stands.config_is stands.is_node.config

    still : after.config ≡ config
    still = settles.still.config ∙ stands.config_is

    kept : KeepsFor keeping damage config after.keeper stood
    kept = record {
      calls = stands.keeps.calls;
      made = stands.keeps.made;
      sound = stands.keeps.sound;
      held = stands.keeps.held;
      told = settles.kept ∙ stands.keeps.told;
      whole = undamaged ∙ stands.keeps.whole;
    }

    on : (r : Result (Unit {0}) NodeFault) → result ≡ r → (result ≡ Ok tt) × ((after.sure ≡ true) × StandsFor is_open keeping damage config after stood)
    on (Ok tt) is = (
      is,
      (
        settles.settled is,
        record {
          is_node = node;
          config_is = still;
          me_is = settles.still.me ∙ stands.me_is;
          has_is = told_has is_open keeping damage config after stood node still kept;
          keeps = kept;
        },
      ),
    )
    on (Err found) is =
        let failed = settles.failed found is in
        absurd (ample (is ∙ ap (λ f. Err f) (no_cause config (world.state_in config stood) sound stands.keeps.sound stands.keeps.held
        (AreBad config (has before).me) stood.faults found
        (λ key. not_bad config (world.state_in config stood) sound stands.keeps.sound stands.keeps.held (has before).me key stands.me_is)
        (subst (λ c. IsCause (AreBad c (has before).me) (told_of config stood) (Some None) found) stands.config_is
        (subst (λ (d : Option (Option ℕ)). IsCause (AreBad before.config (has before).me) (told_of config stood) d found) stands.keeps.whole
        (subst (λ kept. IsCause (AreBad before.config (has before).me) kept (damage before.keeper) found) stands.keeps.told failed.cause))))))

-- OPENING
pub opens_go : {K : Type 0} (is_open : K → Type 0) (keeping : K → Keeping) (damage : K → Option (Option ℕ)) → OpenGoes is_open keeping damage
opens_go {K} is_open keeping damage config keeper stood (Ok node) sound keeps opened told whole cause ample =
    let kept : KeepsFor keeping damage config node.keeper stood = record {
      calls = keeps.calls;
      made = keeps.made;
      sound = keeps.sound;
      held = keeps.held;
      told = told ∙ keeps.told;
      whole = whole ∙ keeps.whole;
    } in
    let has_is = told_has is_open keeping damage config node stood opened.0 opened.1.1 kept in
    record {
      node = node;
      result_is = refl;
      sure = opened.1.0;
      stands = record {
        is_node = opened.0;
        config_is = opened.1.1;
        me_is = ap (λ (state : State). state.me) (has_is opened.1.0);
        has_is = has_is;
        keeps = kept;
      };
    }
opens_go {K} is_open keeping damage config keeper stood (Err (found, given)) sound keeps opened told whole cause ample =
    let s : State = world.state_in config stood in
    absurd (ample given (ap (λ f. Err (f, given)) (no_cause config s sound keeps.sound keeps.held
    (AreUnread config) stood.faults found (λ key. not_unread config s sound keeps.sound keeps.held key)
    (subst (λ (d : Option (Option ℕ)). IsCause (AreUnread config) (told_of config stood) d found) keeps.whole
    (subst (λ kept. IsCause (AreUnread config) kept (damage keeper) found) keeps.told cause)))))

-- A NODE THAT BEGINS
fates_kept : (told later : Keeping) (me : Peer) → Commits (own_edit me) told later (Ok tt) → told ≡ empty_keeping
    → later.fates ≡ Some []
fates_kept told later me commits is = ap (λ (k : Keeping). k.fates) commits.0 ∙ ap (λ (k : Keeping). k.fates) is

begun_records : {K : Type 0} (is_open : K → Type 0) (keeping : K → Keeping) (config : Config) (me : Peer) (node : Node K) (records : Option (List outside.Record))
    → IsNode is_open keeping node → IsCreated config me node → (keeping node.keeper).records ≡ records → records ≢ None
    → records ≡ Some (pairs (image_of config (new_state me)))
begun_records is_open keeping config me node None is_node created is some = absurd (some refl)
begun_records is_open keeping config me node (Some records) is_node created is some =
    ap (λ r. Some r) (subst (λ o. IfSome o (λ told. told ≡ pairs (image_of node.config (has node)))) is (is_node.told created.sure)
    ∙ (ap (λ (s : State). pairs (image_of node.config s)) created.new ∙ ap (λ (c : Config). pairs (image_of c (new_state me))) created.config_is))

pub begins_go : {K : Type 0} (is_open : K → Type 0) (keeping : K → Keeping) (damage : K → Option (Option ℕ)) → BeginGoes is_open keeping damage
begins_go {K} is_open keeping damage config me keeper node is_node created commits same empty whole = record {
  is_node = is_node;
  config_is = created.config_is;
  me_is = ap (λ (s : State). s.me) created.new;
  has_is = λ sure. created.new;
  keeps = record {
    calls = [];
    made = refl;
    sound = subst (λ c. IsSoundState c (new_state me)) created.config_is (subst (IsSoundState node.config) created.new is_node.fits.sound);
    held = subst AreHeld created.new is_node.fits.held;
    told = ap (λ r. record { records = r; fates = (keeping node.keeper).fates })
        (begun_records is_open keeping config me node (keeping node.keeper).records is_node created refl
        (λ none. absurd (no_none (sym (ap (λ (k : Keeping). k.records) (commits.0 ∙ ap (with_edits (own_edit me)) empty)) ∙ none))))
        ∙ ap (λ f. record { records = Some (pairs (image_of config (new_state me))); fates = f }) (fates_kept (keeping keeper) (keeping node.keeper) me commits empty);
    whole = same ∙ whole;
  };
}
  where
    no_none : {A : Type 0} {x : A} → Some x ≡ None → ⊥
    no_none is = absurd (cc)
