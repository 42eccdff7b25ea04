-- A call that was settled ends by what the settled node has, and leaves a node.
use Rattle.std.proofs.Common.{◌≡◌, ◌↔◌, Bool, true, false, not, Option, None, Some, List, ℕ, inl, inr, true≢false, refl, sym, ap, subst, ◌∙◌}
use Rattle.std.specs.Prelude.{IfSome, IsTrue, Result, Ok, Err}
use Rattle.sds_outside.specs.Keepings.{Keeping}
use Rattle.sds_types.specs.declared.config.Config.{Config}
use Rattle.sds_types.specs.declared.node_fault.NodeFault.{NodeFault}
use Rattle.sds_history.specs.history.Acts.{Act, State}
use Rattle.sds_history.specs.history.Image.{image_of}
use Rattle.sds_history.specs.history.SoundStates.{IsSoundState}
use Rattle.sds_image.specs.Pairs.{pairs}
use Rattle.sds_image.specs.declared.state.State as kept
use Rattle.sds_nodelaws.specs.Asked.{IsAsked}
use Rattle.sds_nodelaws.specs.Calls.{Call, act_of}
use Rattle.sds_imagelaws.specs.Widths.{IsHeldCall}
use Rattle.sds_commit.specs.Ends.{Ends, Fails, HasFailed, Kept, Makes, kept_with}
use Rattle.sds_node.specs.Going.{EndsFrom, Goes, IsStill, Settled, Settles}
use Rattle.sds_node.specs.Meaning.{IsNode, has, kept_by}
use Rattle.sds_node.specs.declared.node.Node.{Node}
use Rattle.sds_node.proofs.Endings.{Ended}
use Rattle.sds_node.proofs.Standing.{held_after, sound_after, told_after}

-- who a node is stays
made_me : (config : Config) (before after : Kept) (act : Option Act) → Makes config before after act → after.state.me ≡ before.state.me
made_me config before after None made = ap (λ (kept : Kept). kept.state.me) made
made_me config before after (Some act) made = ap (λ (state : State). state.me) made.0

failed_me : (config : Config) (before after : Kept) (act : Option Act) → Fails config before after act → after.state.me ≡ before.state.me
failed_me config before after None failed = absurd failed
failed_me config before after (Some act) failed = ap (λ (state : State). state.me) failed.0

me_after : {A E : Type 0} (config : Config) (before after : Kept) (act : Option Act) (as_fault : NodeFault → E) (answer result : Result A E)
    → Ended as_fault result → Ends config before after act as_fault answer result → after.state.me ≡ before.state.me
me_after config before after act as_fault answer result (inl failed) ends = failed_me config before after act (ends.failed failed)
me_after config before after act as_fault answer result (inr (inl lacks)) ends = ap (λ (kept : Kept). kept.state.me) (ends.no_memory lacks)
me_after config before after act as_fault answer result (inr (inr answered)) ends = made_me config before after act (ends.answered answered).1

-- a node that wasn't settled
pub goes_unsettled : {K A E : Type 0} (keeping : K → Keeping) (damage : K → Option (Option ℕ)) (before after : Node K)
    (result : Result (Unit {0}) NodeFault) (found : NodeFault) (act : State → Option Act) (as_fault : NodeFault → E) (answer : State → Result A E)
    → Settles keeping damage before after result → result ≡ Err found → Goes keeping damage before after act as_fault answer (Err (as_fault found))
goes_unsettled keeping damage before after result found act as_fault answer settles is =
    inr (record { found = found; result_is = refl; unsettled = settles.failed found is })

-- a node that was, and then was asked a call
module _ {K A E : Type 0} (is_open : K → Type 0) (keeping : K → Keeping) (damage : K → Option (Option ℕ))
    (before middle : Node K) (settled : Result (Unit {0}) NodeFault) (settles : Settles keeping damage before middle settled) (well : settled ≡ Ok tt)
    (node : IsNode is_open keeping middle) (call : Call) (as_fault : NodeFault → E) (answer : Config → State → Result A E) (result : Result A E)
    (state : kept.State) (keeper : K) (failed : Bool) (ended : Ended as_fault result)
    (ends : Ends middle.config (kept_by keeping middle) (kept_with state (keeping keeper)) (act_of middle.config (has middle) call) as_fault
    (answer middle.config (has middle)) result) where
  after : Node K
  after = record middle { state = state; keeper = keeper; sure = not failed }

  settled_is : Settled keeping before (has middle)
  settled_is = record {
    same = λ sure. ap (λ (kept : Kept). kept.state) (settles.quiet sure).1;
    sound = subst (λ config. IsSoundState config (has middle)) settles.still.config node.fits.sound;
    held = node.fits.held;
    me = settles.still.me;
    told = subst (λ config. IfSome (keeping before.keeper).records (λ told. told ≡ pairs (image_of config (has middle)))) settles.still.config
        (subst (λ (kept : Keeping). IfSome kept.records (λ told. told ≡ pairs (image_of middle.config (has middle)))) settles.kept (node.told (settles.settled well)));
  }

  pub goes_settled : (IsTrue failed ↔ HasFailed as_fault result)
      → Goes keeping damage before (record middle { state = state; keeper = keeper; sure = not failed }) (λ now. act_of before.config now call) as_fault (answer before.config) result
  goes_settled is = inl (record {
    state = has middle;
    settled = settled_is;
    ends = subst (λ told. Ends before.config (record { state = has middle; told = told }) (kept_with state (keeping keeper)) (act_of before.config (has middle) call) as_fault (answer before.config (has middle)) result) settles.kept
        (subst (λ config. Ends config (kept_by keeping middle) (kept_with state (keeping keeper)) (act_of config (has middle) call) as_fault (answer config (has middle)) result) settles.still.config ends);
    sure = λ well_ended. sure_by failed (λ yes_failed. well_ended (is.0 yes_failed));
  })
    where
      sure_by : (b : Bool) → (IsTrue b → ⊥) → not b ≡ true
      sure_by true isnt = absurd (isnt refl)
      sure_by false isnt = refl

  pub still_settled : IsStill before (record middle { state = state; keeper = keeper; sure = not failed })
  still_settled = record {
    config = settles.still.config;
    me = me_after middle.config (kept_by keeping middle) (kept_with state (keeping keeper)) (act_of middle.config (has middle) call) as_fault
        (answer middle.config (has middle)) result ended ends ∙ settles.still.me;
  }

  pub node_settled : (IsTrue failed ↔ HasFailed as_fault result) → IsAsked before.config (has middle) call → IsHeldCall call → state.tables.defs ≡ middle.state.tables.defs
      → ((HasFailed as_fault result → ⊥) → is_open keeper) → IsNode is_open keeping (record middle { state = state; keeper = keeper; sure = not failed })
  node_settled is asked few tables opens =
      let rightly : IsAsked middle.config (has middle) call = subst (λ config. IsAsked config (has middle) call) (sym settles.still.config) asked in
      record {
        config = node.config;
        fits = record {
          sound = sound_after middle.config call (kept_by keeping middle) (kept_with state (keeping keeper)) as_fault (answer middle.config (has middle)) result
              node.config node.fits.sound rightly ended ends;
          held = held_after middle.config call (kept_by keeping middle) (kept_with state (keeping keeper)) as_fault (answer middle.config (has middle)) result
              node.config node.fits.sound node.fits.held rightly few ended ends;
          tables = tables ∙ node.fits.tables;
        };
        opened = λ sure. opens (isnt failed sure is.1);
        told = λ sure. told_after middle.config call (kept_by keeping middle) (kept_with state (keeping keeper)) as_fault (answer middle.config (has middle)) result
            node.config node.fits.sound rightly ended (isnt failed sure is.1) (node.told (settles.settled well)) ends;
      }
    where
      isnt : (b : Bool) → not b ≡ true → (HasFailed as_fault result → IsTrue b) → HasFailed as_fault result → ⊥
      isnt true sure gives has_failed = absurd (true≢false (sym sure))
      isnt false sure gives has_failed = absurd (true≢false (sym (gives has_failed)))
