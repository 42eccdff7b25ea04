-- What the program says and writes of a rehearsal is what the texts of its configuration and of its scenario have.
use Rattle.std.proofs.Common.{◌≡◌, ◌≢◌, inl, inr, ℕ, Bool, true, false, List, Option, None, Some, Result, Err, refl, sym, ap, ◌∙◌}
use Rattle.std.specs.Prelude.{IfSome}
use Rattle.sds_types.specs.declared.config.Config.{Config}
use Rattle.sds_types.specs.declared.config_refusal.ConfigRefusal.{ConfigRefusal}
use Rattle.sds_config.specs.Configuration.{IsConfiguration}
use Rattle.sds_config.proofs.OneReading.{one_configuration, not_both}
use Rattle.sds_outside.specs.Told.{after_told}
use Rattle.sds_first_spec.specs.One.{one}
use Rattle.sds_first_world.specs.declared.rehearsal.BadLine.{BadLine}
use Rattle.sds_first_world.specs.declared.rehearsal.WorldRefusal.{WorldRefusal}
use Rattle.sds_first_world.specs.declared.rehearsal.WorldRefusal.TheVariants as refusal
use Rattle.sds_first_world.specs.Played.{refusal_of, screen, ending, Shows}
use Rattle.sds_first_world.proofs.Answering.{unshown}
use Rattle.sds_types.specs.declared.status.Status.{Status}
use Rattle.sds_types.specs.declared.status.Status.TheVariants as status
use Rattle.sds_types.specs.declared.status.Unreadable.{Unreadable}
use Rattle.sds_types.specs.declared.status.Unreadable.TheVariants.{Input}
use Rattle.symds.specs.Configured.{IsRefusedBy, IsUnread, SaysRefusal, TellsOf}
use Rattle.symds.specs.Rehearsed.{status_by, status_of, IsNoFault, Tells}

-- A REHEARSAL
status_ends : (o : Option BadLine) → status_by (ending o) ≡ status_of o
status_ends None = refl
status_ends (Some bad) = refl

tells : (is_built : Bool) (text : List ℕ) (result : Result (Unit {0}) WorldRefusal) (answer : Status) (old new : Option (List ℕ)) → answer ≡ status_by result → Shows is_built text result old new → Tells is_built text answer old new
tells is_built text result answer old new is shows = record {
  ends = λ read write memory.
      let both : (result ≡ ending (refusal_of is_built text)) × (new ≡ after_told old (screen is_built text)) =
      shows.ends (λ failed. read Input (is ∙ ap status_by failed)) (λ failed. write (is ∙ ap status_by failed)) (λ failed. memory (is ∙ ap status_by failed)) in (
        is ∙ (ap status_by both.0 ∙ status_ends (refusal_of is_built text)),
        both.1,
      );
  part = shows.part;
}

pub told_so : (is_built : Bool) (o : Option (List ℕ)) (result : Result (Unit {0}) WorldRefusal) (answer : Status) (old new : Option (List ℕ)) → answer ≡ status_by result
    → IfSome o (λ (text : List ℕ). Shows is_built text result old new) → IfSome o (λ (text : List ℕ). Tells is_built text answer old new)
told_so is_built None result answer old new is shows = tt
told_so is_built (Some text) result answer old new is shows = tells is_built text result answer old new is shows

-- where nothing was read or memory was wanting, nothing is written
unread_so : (is_built : Bool) (text : List ℕ) (answer : Status) (told : Option (List ℕ)) → IsUnread answer → ((why : ConfigRefusal) → answer ≡ status.Config why → ⊥) → Tells is_built text answer told told
unread_so is_built text answer told (inl (what, is)) other = record {
  ends = λ read write memory. absurd (read what is);
  part = (tells is_built text (Err refusal.NoMemory) status.NoMemory told told refl (unshown is_built (Some text) told (Err refusal.NoMemory) (inr refl))).part;
}
unread_so is_built text answer told (inr (inl is)) other = tells is_built text (Err refusal.NoMemory) answer told told is (unshown is_built (Some text) told (Err refusal.NoMemory) (inr refl))
unread_so is_built text answer told (inr (inr (why, is))) other = absurd (other why is)

-- BY A CONFIGURATION that was read
abbrev TellsTo : Bool → Option (List ℕ) → Status → Option (List ℕ) → Option (List ℕ) → Type 0
TellsTo is_built o answer old new = IfSome o (λ (text : List ℕ). Tells is_built text answer old new)

read_of : (file text : List ℕ) (config : Config) (answer : Status) (old new : Option (List ℕ)) → IsConfiguration file config → (config ≡ one → Tells true text answer old new) → (config ≢ one → Tells false text answer old new)
    → TellsOf file text answer old new
read_of file text config answer old new is first other = record {
  built = λ ours. first (one_configuration file config one is ours);
  unbuilt = λ theirs known not_one. other (λ same. not_one (one_configuration file theirs config known is ∙ same));
}

pub read_so : (f o : Option (List ℕ)) (config : Config) (answer : Status) (old new : Option (List ℕ)) → IfSome f (λ (file : List ℕ). IsConfiguration file config) → (config ≡ one → TellsTo true o answer old new)
    → (config ≢ one → TellsTo false o answer old new) → IfSome f (λ (file : List ℕ). IfSome o (λ (text : List ℕ). TellsOf file text answer old new))
read_so None o config answer old new is first other = tt
read_so (Some file) None config answer old new is first other = tt
read_so (Some file) (Some text) config answer old new is first other = read_of file text config answer old new is first other

-- OR BY ONE that is refused
read_fault_no : (why : ConfigRefusal) (what : Unreadable) → status.Config why ≡ status.ReadFault what → ⊥
read_fault_no why what is = cc

no_memory_no : (why : ConfigRefusal) → status.Config why ≡ status.NoMemory → ⊥
no_memory_no why is = cc

refused_of : (file text : List ℕ) (answer : Status) (told : Option (List ℕ)) → IsUnread answer → (IsNoFault answer → answer ≢ status.NoMemory → SaysRefusal file answer) → TellsOf file text answer told told
refused_of file text answer told is by =
    let never : (config : Config) → IsConfiguration file config → (why : ConfigRefusal) → answer ≡ status.Config why → ⊥ =
    λ config known why same.
    let refused : SaysRefusal file answer = by (λ what e. read_fault_no why what (sym same ∙ e)) (λ e. no_memory_no why (sym same ∙ e)) in
    not_both file config refused.0 known refused.1.0 in
    record {
      built = λ ours. unread_so true text answer told is (never one ours);
      unbuilt = λ config known other. unread_so false text answer told is (never config known);
    }

pub refused_so : (f o : Option (List ℕ)) (answer : Status) (told : Option (List ℕ)) → IsUnread answer → (IsNoFault answer → answer ≢ status.NoMemory → IfSome f (λ (file : List ℕ). SaysRefusal file answer))
    → IfSome f (λ (file : List ℕ). IfSome o (λ (text : List ℕ). TellsOf file text answer told told))
refused_so None o answer told is by = tt
refused_so (Some file) None answer told is by = tt
refused_so (Some file) (Some text) answer told is by = refused_of file text answer told is by

pub refused_by : (f : Option (List ℕ)) (answer : Status) (told : Option (List ℕ)) → (IsNoFault answer → answer ≢ status.NoMemory → IfSome f (λ (file : List ℕ). SaysRefusal file answer))
    → IfSome f (λ (file : List ℕ). IsRefusedBy file answer told told)
refused_by None answer told by = tt
refused_by (Some file) answer told by = λ refusal known. (by, refl)

pub never_refused : (f : Option (List ℕ)) (config : Config) (answer : Status) (old new : Option (List ℕ)) → IfSome f (λ (file : List ℕ). IsConfiguration file config)
    → IfSome f (λ (file : List ℕ). IsRefusedBy file answer old new)
never_refused None config answer old new is = tt
never_refused (Some file) config answer old new is = λ refusal known. absurd (not_both file config refusal is known)
