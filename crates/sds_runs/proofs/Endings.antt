-- How an act is kept tells how the call ends that makes it.
use Rattle.std.proofs.Common.{◌≡◌, Bool, true, false, cond, Option, None, Some, Result, Ok, Err, refl, sym, ap, subst, ◌∙◌, true≢false}
use Rattle.sds_outside.specs.Keepings.{FailsAs, with_edits}
use Rattle.sds_types.specs.declared.config.Config.{Config}
use Rattle.sds_types.specs.declared.node_fault.NodeFault.{NodeFault}
use Rattle.sds_types.specs.declared.node_fault.NodeFault.TheVariants.{Counters}
use Rattle.sds_history.specs.history.Acts.{Act}
use Rattle.sds_history.specs.history.Counters.{answer_within, is_past, within}
use Rattle.sds_history.specs.history.States.{state_after}
use Rattle.sds_commit.specs.Ends.{Ends, HasFailed, IsAnswer, Kept, LacksMemory}
use Rattle.sds_imagelaws.specs.Edits.{edits_of}
use Rattle.sds_runs.specs.Keeping.{Keepable, Keeps}

-- how a call ends whose own answer makes this act, if any
abbrev pub EndsOwn : {A E : Type 0} → Config → Kept → Kept → (NodeFault → E) → Option Act → Result A E → Result A E → Type 0
EndsOwn config before after fault act own result =
    Ends config before after (within config before.state act) fault (answer_within fault config before.state act own) result

module _ {A E : Type 0} (config : Config) (before after : Kept) (fault : NodeFault → E) where
  kept_on : (act : Act) (kept : Keepable) (value : A) (result : Result A E) (p : Bool) → kept.past ≡ p
      → kept.edits ≡ edits_of config before.state act → kept.state ≡ state_after config before.state act → Keeps fault kept value before after result
      → Ends config before after (cond p None (Some act)) fault (cond p (Err (fault Counters)) (Ok value)) result
  kept_on act kept value result true past edits state keeps = record {
    answered = λ is.
        let both = keeps.answered is in (
          both.0 ∙ ap (λ b. cond b (Err (fault Counters)) (Ok value)) past,
          both.1 ∙ ap (λ b. cond b before (record { state = kept.state; told = with_edits kept.edits before.told })) past,
        );
    failed = λ is. absurd (true≢false (sym past ∙ (keeps.failed is).0));
    no_memory = keeps.no_memory;
  }
  kept_on act kept value result false past edits state keeps = record {
    answered = λ is.
        let both = keeps.answered is in
        let made = both.1 ∙ ap (λ b. cond b before (record { state = kept.state; told = with_edits kept.edits before.told })) past in (
          both.0 ∙ ap (λ b. cond b (Err (fault Counters)) (Ok value)) past,
          (ap (λ (k : Kept). k.state) made ∙ state, ap (λ (k : Kept). k.told) made ∙ ap (λ e. with_edits e before.told) edits, both.2 past),
        );
    failed = λ is. let all = keeps.failed is in
        (all.1, subst (λ e. FailsAs before.told.fates e before.told after.told) edits all.2);
    no_memory = keeps.no_memory;
  }

  -- an act is kept
  pub kept_ends : (act : Act) (kept : Keepable) (value : A) (result : Result A E) → kept.past ≡ is_past kept.state.counts
      → kept.edits ≡ edits_of config before.state act → kept.state ≡ state_after config before.state act → Keeps fault kept value before after result
      → EndsOwn config before after fault (Some act) (Ok value) result
  kept_ends act kept value result past edits state keeps =
      kept_on act kept value result (is_past (state_after config before.state act).counts) (past ∙ ap (λ s. is_past s.counts) state) edits state keeps

  -- an answer without an act
  pub quiet_ends : (answer : Result A E) → after ≡ before → IsAnswer fault answer → EndsOwn config before after fault None answer answer
  quiet_ends answer same is = record {
    answered = λ any. (refl, same);
    failed = λ has. absurd (is.0 has);
    no_memory = λ lacks. same;
  }

  -- memory was wanting
  pub lacking_ends : (act : Option Act) (own result : Result A E) → after ≡ before → LacksMemory fault result → (HasFailed fault result → ⊥)
      → EndsOwn config before after fault act own result
  lacking_ends act own result same lacks sound = record {
    answered = λ is. absurd (is.1 lacks);
    failed = λ has. absurd (sound has);
    no_memory = λ any. same;
  }
