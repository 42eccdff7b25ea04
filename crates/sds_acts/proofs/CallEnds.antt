-- How a call ends, by what it came to: its answer alone, a counter at its end, memory that was
-- wanting, a commit that isn't known to stand, or its act.
use Rattle.std.proofs.Common.{◌≡◌, ◌⊎◌, inl, inr, Bool, true, false, cond, List, Option, None, Some, refl, sym, ap, subst, ◌∙◌, true≢false}
use Rattle.std.specs.Prelude.{Result, Ok, Err, OnOk, OnErr, IsErrAnd}
use Rattle.sds_outside.specs.Keepings.{FailsAs, Keeping, with_edits}
use Rattle.sds_outside.specs.declared.keeping.Edit.{Edit}
use Rattle.sds_types.specs.declared.ack.AckRefusal.{AckRefusal}
use Rattle.sds_types.specs.declared.ack.AckRefusal.TheVariants as ack
use Rattle.sds_types.specs.declared.config.Config.{Config}
use Rattle.sds_types.specs.declared.counts.Counts.{Counts}
use Rattle.sds_types.specs.declared.node_fault.NodeFault.{NodeFault}
use Rattle.sds_types.specs.declared.node_fault.NodeFault.TheVariants.{Keeper, BadKept, Damaged, Counters, NoMemory}
use Rattle.sds_types.specs.declared.registration.RegRefusal.{RegRefusal}
use Rattle.sds_types.specs.declared.registration.RegRefusal.TheVariants as reg
use Rattle.sds_history.specs.history.Acts.{Act, State}
use Rattle.sds_history.specs.history.Counters.{act_passes, answer_within, is_past, within}
use Rattle.sds_history.specs.history.States.{state_after}
use Rattle.sds_image.specs.Meaning.{meaning_of}
use Rattle.sds_image.specs.declared.state.State as kept
use Rattle.sds_imagelaws.specs.Edits.{edits_of}
use Rattle.sds_commit.specs.Commits.{Commits}
use Rattle.sds_commit.specs.Counting.{within_end}
use Rattle.sds_commit.specs.Ends.{Ends, Fails, HasFailed, Kept, LacksMemory, Makes, kept_with}
use Rattle.sds_commit.specs.Faults.{fault_of}
use Rattle.sds_commit.specs.declared.committing.Uncommitted.{Uncommitted}
use Rattle.sds_commit.specs.declared.committing.Uncommitted.TheVariants as end
use Rattle.sds_acts.specs.Ending.{EndsWith}

-- FAULTS differ
abbrev is_keeper : NodeFault → Bool
is_keeper Keeper = true
is_keeper (BadKept key) = false
is_keeper (Damaged at) = false
is_keeper Counters = false
is_keeper NoMemory = false

abbrev is_counters : NodeFault → Bool
is_counters Keeper = false
is_counters (BadKept key) = false
is_counters (Damaged at) = false
is_counters Counters = true
is_counters NoMemory = false

-- a call says each fault by another refusal
abbrev pub TellsApart : {E : Type 0} → (NodeFault → E) → Type 0
TellsApart fault = (a b : NodeFault) → fault a ≡ fault b → a ≡ b

abbrev fault_in_reg : NodeFault → RegRefusal → NodeFault
fault_in_reg other (reg.Fault fault) = fault
fault_in_reg other refusal = other

pub reg_apart : TellsApart reg.Fault
reg_apart a b same = ap (fault_in_reg a) same

abbrev fault_in_ack : NodeFault → AckRefusal → NodeFault
fault_in_ack other (ack.Fault fault) = fault
fault_in_ack other refusal = other

pub ack_apart : TellsApart ack.Fault
ack_apart a b same = ap (fault_in_ack a) same

pub itself_apart : TellsApart (λ (fault : NodeFault). fault)
itself_apart a b same = same

abbrev error_in : {A E : Type 0} → E → Result A E → E
error_in other (Ok value) = other
error_in other (Err error) = error

pub same_error : {A E : Type 0} (a b : E) → ◌≡◌ {A = Result A E} (Err a) (Err b) → a ≡ b
same_error a b same = ap (error_in a) same

-- an error that is passed on
pub told_error : {A E : Type 0} (r : Result A E) (e : E) → IsErrAnd r (λ y. y ≡ e) → r ≡ Err e
told_error (Ok value) e is = absurd is
told_error (Err error) e is = ap Err is

-- HOW A CALL ENDS
module _ {A E : Type 0} (fault : NodeFault → E) (apart : TellsApart fault) (config : Config) (before after : Kept) where
  keeper_isnt_memory : ◌≡◌ {A = Result A E} (Err (fault Keeper)) (Err (fault NoMemory)) → ⊥
  keeper_isnt_memory same = true≢false (ap is_keeper (apart Keeper NoMemory (same_error (fault Keeper) (fault NoMemory) same)))

  counters_arent : (other : NodeFault) → is_counters other ≡ false → ◌≡◌ {A = Result A E} (Err (fault Counters)) (Err (fault other)) → ⊥
  counters_arent other isnt same = true≢false (ap is_counters (apart Counters other (same_error (fault Counters) (fault other) same)) ∙ isnt)

  -- the act and the answer of a call that is about to make this act, if it is, with this answer
  abbrev pub EndsBy : Option Act → Result A E → Result A E → Type 0
  EndsBy next own result = Ends config before after (within config before.state next) fault (answer_within fault config before.state next own) result

  -- where a counter would pass its end by this act, if it would
  abbrev EndsPast : Bool → Act → Result A E → Result A E → Type 0
  EndsPast past act own result = Ends config before after (cond past None (Some act)) fault (cond past (Err (fault Counters)) own) result

  by_past : (act : Act) (next : Option Act) (own result : Result A E) (past : Bool) → next ≡ Some act → act_passes config before.state act ≡ past
      → EndsPast past act own result → EndsBy next own result
  by_past act next own result past is passes ends =
      subst (λ n. EndsBy n own result) (sym is) (subst (λ b. EndsPast b act own result) (sym passes) ends)

  -- no act is near
  pub judged : (next : Option Act) (own result : Result A E) → next ≡ None → own ≡ result → after ≡ before → (HasFailed fault result → ⊥)
      → EndsBy next own result
  judged next own result none is same fine =
      subst (λ n. EndsBy n own result) (sym none)
      (record { answered = λ answered. (sym is, same); failed = λ failed. absurd (fine failed); no_memory = λ lacks. same })

  -- a counter would pass its end
  pub passed : (act : Act) (next : Option Act) (own : Result A E) → next ≡ Some act → act_passes config before.state act ≡ true → after ≡ before
      → EndsBy next own (Err (fault Counters))
  passed act next own is passes same = by_past act next own (Err (fault Counters)) true is passes (record {
    answered = λ answered. (refl, same);
    failed = λ failed. absurd (counters_arent Keeper refl failed);
    no_memory = λ lacks. same;
  })

  -- memory was wanting before any act
  pub lacks : (next : Option Act) (own : Result A E) → after ≡ before → EndsBy next own (Err (fault NoMemory))
  lacks next own same = record {
    answered = λ answered. absurd (answered.1 refl);
    failed = λ failed. absurd (keeper_isnt_memory (sym failed));
    no_memory = λ lacks. same;
  }

  -- the commit isn't known to stand
  by_commit : (act : Act) (own : Result A E) (e : Uncommitted) → EndsWith config before after act (Err e) → EndsPast false act own (Err (fault (fault_of e)))
  by_commit act own end.Failed fails = record {
    answered = λ answered. absurd (answered.0 refl);
    failed = λ failed. fails;
    no_memory = λ lacks. absurd (keeper_isnt_memory lacks);
  }
  by_commit act own end.NoMemory same = record {
    answered = λ answered. absurd (answered.1 refl);
    failed = λ failed. absurd (keeper_isnt_memory (sym failed));
    no_memory = λ lacks. same;
  }

  pub uncommitted : (act : Act) (next : Option Act) (own : Result A E) (e : Uncommitted) → next ≡ Some act → act_passes config before.state act ≡ false
      → EndsWith config before after act (Err e) → EndsBy next own (Err (fault (fault_of e)))
  uncommitted act next own e is passes ends = by_past act next own (Err (fault (fault_of e))) false is passes (by_commit act own e ends)

  -- the act is made
  pub made : (act : Act) (next : Option Act) (own result : Result A E) → next ≡ Some act → act_passes config before.state act ≡ false → own ≡ result
      → Makes config before after (Some act) → (HasFailed fault result → ⊥) → (LacksMemory fault result → ⊥) → EndsBy next own result
  made act next own result is passes answer makes fine ample = by_past act next own result false is passes (record {
    answered = λ answered. (sym answer, makes);
    failed = λ failed. absurd (fine failed);
    no_memory = λ lacks. absurd (ample lacks);
  })

-- COUNTERS within their end, and past it
pub past_end : (counts : Counts) → None ≡ within_end counts → is_past counts ≡ true
past_end counts none = on (is_past counts) none
  where
    on : (b : Bool) → None ≡ cond b None (Some counts) → b ≡ true
    on true is = refl
    on false is = absurd (true≢false (ap (λ (o : Option Counts). elim o [ None ↦ true | Some c ↦ false ]) is))

pub record WithinEnd (found counts : Counts) : Type 0 where
  pub same : found ≡ counts
  pub within : is_past counts ≡ false

pub within_its_end : (found counts : Counts) → Some found ≡ within_end counts → WithinEnd found counts
within_its_end found counts some = on (is_past counts) refl some
  where
    counts_in : Option Counts → Counts
    counts_in None = found
    counts_in (Some c) = c

    on : (b : Bool) → is_past counts ≡ b → Some found ≡ cond b None (Some counts) → WithinEnd found counts
    on true is some = absurd (true≢false (ap (λ (o : Option Counts). elim o [ None ↦ false | Some c ↦ true ]) some))
    on false is some = record { same = ap counts_in some; within = is }

-- ONE COMMIT: how it ends, by the lists and what is told after it
told_same : (a b : List Edit) (told : Keeping) → a ≡ b → with_edits a told ≡ with_edits b told
told_same a b told same = ap (λ (edits : List Edit). with_edits edits told) same

pub committed : (config : Config) (before after : kept.State) (told later : Keeping) (act : Act) (edits : List Edit)
    (result : Result (Unit {0}) Uncommitted) → edits ≡ edits_of config (meaning_of before) act → Commits edits told later result
    → OnOk result (meaning_of after ≡ state_after config (meaning_of before) act) → OnErr result (after ≡ before)
    → EndsWith config (kept_with before told) (kept_with after later) act result
committed config before after told later act edits (Ok done) are commits made same =
    (made, commits.0 ∙ told_same edits (edits_of config (meaning_of before) act) told are, commits.1)
committed config before after told later act edits (Err end.Failed) are commits made same =
    (ap meaning_of same, subst (λ (e : List Edit). FailsAs told.fates e told later) are commits)
committed config before after told later act edits (Err end.NoMemory) are commits made same =
    ap (λ (s : kept.State). kept_with s later) same ∙ ap (λ (t : Keeping). kept_with before t) commits

-- so where the error of the commit is passed on
pub passed_on : (config : Config) (before after : kept.State) (told later : Keeping) (act : Act) (edits : List Edit)
    (e : Uncommitted) (result : Result (Unit {0}) Uncommitted) → edits ≡ edits_of config (meaning_of before) act → Commits edits told later (Err e)
    → IsErrAnd result (λ y. y ≡ e) → after ≡ before → EndsWith config (kept_with before told) (kept_with after later) act result
passed_on config before after told later act edits e result are commits is same =
    subst (EndsWith config (kept_with before told) (kept_with after later) act) (sym (told_error result e is))
    (committed config before after told later act edits (Err e) are commits tt same)

pub act_made : (config : Config) (before after : kept.State) (told later : Keeping) (act : Act) (edits : List Edit)
    → edits ≡ edits_of config (meaning_of before) act → Commits edits told later (Ok tt) → meaning_of after ≡ state_after config (meaning_of before) act
    → EndsWith config (kept_with before told) (kept_with after later) act (Ok tt)
act_made config before after told later act edits are commits made = committed config before after told later act edits (Ok tt) are commits made tt
