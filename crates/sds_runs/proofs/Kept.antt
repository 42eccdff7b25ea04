-- The ways in which keeping an act ends.
use Rattle.std.proofs.Common.{◌≡◌, ◌≢◌, Bool, true, false, cond, Result, Ok, Err, refl, sym, ap, ◌∙◌, true≢false}
use Rattle.sds_outside.specs.Keepings.{FailsAs, NoneFails, with_edits}
use Rattle.sds_types.specs.declared.node_fault.NodeFault.{NodeFault}
use Rattle.sds_types.specs.declared.node_fault.NodeFault.TheVariants.{Counters, Keeper, NoMemory}
use Rattle.sds_commit.specs.Ends.{Kept}
use Rattle.sds_runs.specs.Keeping.{Keepable, Keeps, kept_by}

-- what is ready where no counter would pass its end
pub was_ready : {R E : Type 0} (past : Bool) (why : E) (x ready : R) → Ok x ≡ cond past (Err why) (Ok ready) → (past ≡ false) × (x ≡ ready)
was_ready true why x ready is = absurd (cc)
was_ready false why x ready is = (refl, cc)

pub was_past : {R E : Type 0} (past : Bool) (why e : E) (ready : R) → Err e ≡ cond past (Err why) (Ok ready) → (past ≡ true) × (e ≡ why)
was_past true why e ready is = (refl, cc)
was_past false why e ready is = absurd (cc)

-- faults of a call are told apart
pub record Apart {E : Type 0} (fault : NodeFault → E) : Type 0 where
  pub memory : fault Keeper ≢ fault NoMemory
  pub counters : fault Keeper ≢ fault Counters

same_err : {A E : Type 0} (a b : E) (x : Result A E) → x ≡ Err a → x ≡ Err b → a ≡ b
same_err a b x first second = cc

module _ {A E : Type 0} (fault : NodeFault → E) (apart : Apart fault) (act : Keepable) (value : A) (before after : Kept) where
  -- it stands
  pub stands : act.past ≡ false → after.state ≡ act.state → (after.told ≡ with_edits act.edits before.told) × NoneFails before.told.fates
      → Keeps fault act value before after (Ok value)
  stands past state told = record {
    answered = λ is. (
      sym (ap (λ b. cond b (Err (fault Counters)) (Ok value)) past),
      ap (λ s. record { state = s; told = after.told }) state
          ∙ (ap (λ t. record { state = act.state; told = t }) told.0
          ∙ sym (ap (λ b. cond b before (record { state = act.state; told = with_edits act.edits before.told })) past)),
      λ within. told.1,
    );
    failed = λ has. absurd (cc);
    no_memory = λ lacks. absurd (cc);
  }

  -- the keeper failed
  pub fails : act.past ≡ false → after.state ≡ before.state → FailsAs before.told.fates act.edits before.told after.told
      → Keeps fault act value before after (Err (fault Keeper))
  fails past state told = record {
    answered = λ is. absurd (is.0 refl);
    failed = λ has. (past, state, told);
    no_memory = λ lacks. absurd (apart.memory (same_err (fault Keeper) (fault NoMemory) (Err (fault Keeper)) refl lacks));
  }

  -- memory was wanting
  pub lacks_memory : after ≡ before → Keeps fault act value before after (Err (fault NoMemory))
  lacks_memory same = record {
    answered = λ is. absurd (is.1 refl);
    failed = λ has. absurd (apart.memory (sym (same_err (fault NoMemory) (fault Keeper) (Err (fault NoMemory)) refl has)));
    no_memory = λ lacks. same;
  }

  -- it wasn't ready
  pub not_ready : {R : Type 0} (ready : R) (tried : Result R E) (e : E) → tried ≡ Err e → after ≡ before
      → (tried ≢ Err (fault NoMemory) → tried ≡ cond act.past (Err (fault Counters)) (Ok ready)) → Keeps fault act value before after (Err e)
  not_ready {R} ready tried e failing same is = record {
    answered = λ any.
        let past = past_by (λ lacks. any.1 (ap (λ x. Err x) (same_err e (fault NoMemory) tried failing lacks))) in (
          ap (λ x. Err x) past.1 ∙ sym (ap (λ b. cond b (Err (fault Counters)) (Ok value)) past.0),
          same ∙ sym (ap (λ b. cond b before (record { state = act.state; told = with_edits act.edits before.told })) past.0),
          λ within. absurd (true≢false (sym past.0 ∙ within)),
        );
    failed = λ has.
        let failed : e ≡ fault Keeper = same_err e (fault Keeper) (Err e) refl has in
        let past = past_by (λ lacks. apart.memory (sym failed ∙ same_err e (fault NoMemory) tried failing lacks)) in
        absurd (apart.counters (sym failed ∙ past.1));
    no_memory = λ any. same;
  }
    where
      past_by : tried ≢ Err (fault NoMemory) → (act.past ≡ true) × (e ≡ fault Counters)
      past_by sound = was_past act.past (fault Counters) e ready (sym failing ∙ is sound)
