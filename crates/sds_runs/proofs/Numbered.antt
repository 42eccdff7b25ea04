-- What the number of a write decides makes no act.
use Rattle.std.proofs.Common.{◌≡◌, ℕ, ◌+◌, ◌≤◌, ◌==◌, Bool, true, false, cond, List, [], ◌∷◌, length, Option, None, Some, Result, Ok, Err, refl, sym, ap, subst, ◌∙◌, arith}
use Rattle.std.specs.Prelude.{nat_lt}
use Rattle.std.proofs.lemmas.Bool.Decides.{nat_tests}
use Rattle.sds_outside.specs.Keepings.{Keeping}
use Rattle.sds_value.specs.declared.row.Event.TheVariants.{Delete}
use Rattle.sds_types.specs.Limits.{most_write_rows}
use Rattle.sds_types.specs.declared.config.Config.{Config}
use Rattle.sds_types.specs.declared.counts.WriterLast.{WriterLast}
use Rattle.sds_types.specs.declared.rule.Rule.TheVariants.{UnknownTable}
use Rattle.sds_types.specs.declared.tx_row.TxRow.{TxRow}
use Rattle.sds_types.specs.declared.write_answer.WriteRefusal.{WriteRefusal}
use Rattle.sds_types.specs.declared.write_answer.WriteRefusal.TheVariants.{Broken, Fault, GapNumber, OldNumber, TooManyRows}
use Rattle.sds_types.specs.declared.write_answer.Written.{Written}
use Rattle.sds_history.specs.history.Acts.{Act, State}
use Rattle.sds_history.specs.history.Acts.Act.{Wrote}
use Rattle.sds_history.specs.history.Writers.{last_number, writer_of}
use Rattle.sds_history.specs.history.Writes.{last_answer, next_answer, numbered_answer, own_answer, write_by}
use Rattle.sds_commit.specs.Ends.{IsAnswer, Kept}
use Rattle.sds_runs.proofs.Endings.{EndsOwn, quiet_ends}
use Rattle.sds_runs.proofs.NextWrites.{EndsWrite}

-- NUMBERS
no_more : (a b : ℕ) → a ≤ b → nat_lt b a ≡ false
no_more a b few = grind (arith, nat_tests, few)

-- a configuration without tables, and a row that breaks a rule there
abbrev empty_config : Config
empty_config = record {
  groups = [];
  links = [];
  channels = [];
  tables = [];
  triggers = [];
  routers = [];
  trigger_routers = [];
  transforms = [];
  conflicts = [];
}

abbrev broken_rows : List TxRow
broken_rows = record { event = Delete; table = []; fields = [] } ∷ []

refused : (state : State) (writer : List ℕ) (number : ℕ) → next_answer empty_config state writer number broken_rows ≡ Err (Broken 1 UnknownTable)
refused state writer number = refl

record Decided (act : Act) (answer : Result Written WriteRefusal) : Type 0 where
  quiet : write_by act answer ≡ None
  told : IsAnswer Fault answer

refusal : (act : Act) (why : WriteRefusal) → IsAnswer {A = Written} Fault (Err why) → Decided act (Err why)
refusal act why is = record { quiet = refl; told = is }

again : (act : Act) (kept : Option WriterLast) → Decided act (Ok (last_answer kept))
again act None = record { quiet = refl; told = (λ has. absurd (cc), λ lacks. absurd (cc)) }
again act (Some last) = record { quiet = refl; told = (λ has. absurd (cc), λ lacks. absurd (cc)) }

module _ (state : State) (writer : List ℕ) (number : ℕ) (act : Act) (answer : Result Written WriteRefusal) (kept : Option WriterLast) where
  abbrev by_tests : Config → List TxRow → Bool → Bool → Bool → Bool → Result Written WriteRefusal
  by_tests config rows a b c d = cond a (Err (OldNumber (last_number kept))) (cond b (Err (OldNumber (last_number kept)))
      (cond c (Ok (last_answer kept)) (cond d (Err (GapNumber (last_number kept))) (next_answer config state writer number rows))))

  decided_on : (a b c d : Bool) → ((config : Config) (rows : List TxRow) → by_tests config rows a b c d ≡ answer) → Decided act answer
  decided_on true b c d is = subst (Decided act) (is empty_config []) (refusal act (OldNumber (last_number kept)) (λ has. absurd (cc), λ lacks. absurd (cc)))
  decided_on false true c d is = subst (Decided act) (is empty_config []) (refusal act (OldNumber (last_number kept)) (λ has. absurd (cc), λ lacks. absurd (cc)))
  decided_on false false true d is = subst (Decided act) (is empty_config []) (again act kept)
  decided_on false false false true is = subst (Decided act) (is empty_config []) (refusal act (GapNumber (last_number kept)) (λ has. absurd (cc), λ lacks. absurd (cc)))
  decided_on false false false false is =
      subst (Decided act) (sym (refused state writer number) ∙ is empty_config broken_rows)
      (refusal act (Broken 1 UnknownTable) (λ has. absurd (cc), λ lacks. absurd (cc)))

-- THE CALL, by its number of rows and its number
module _ (config : Config) (state : State) (kept : Keeping) (writer : List ℕ) (number : ℕ) (tx : List TxRow) where
  abbrev the_act : Act
  the_act = Wrote writer number tx

  abbrev before : Kept
  before = record { state = state; told = kept }

  abbrev own : Result Written WriteRefusal
  own = own_answer config state writer number tx

  abbrev numbered : Result Written WriteRefusal
  numbered = numbered_answer config state writer number tx (writer_of state.writers writer)

  own_is : length tx ≤ most_write_rows → own ≡ numbered
  own_is few = ap (λ b. cond b (Err TooManyRows) numbered) (no_more (length tx) most_write_rows few)

  answered : (answer : Result Written WriteRefusal)
      → ((config : Config) (rows : List TxRow) → numbered_answer config state writer number rows (writer_of state.writers writer) ≡ answer)
      → Decided the_act answer
  answered answer is =
      let kept = writer_of state.writers writer in
      decided_on state writer number the_act answer kept (number == 0) (nat_lt number (last_number kept)) (number == last_number kept)
      (nat_lt (last_number kept + 1) number) is

  pub told_by_number : (answer : Result Written WriteRefusal)
      → ((config : Config) (rows : List TxRow) → numbered_answer config state writer number rows (writer_of state.writers writer) ≡ answer)
      → IsAnswer Fault answer
  told_by_number answer is = (answered answer is).told

  pub by_number : (answer : Result Written WriteRefusal) → length tx ≤ most_write_rows
      → ((config : Config) (rows : List TxRow) → numbered_answer config state writer number rows (writer_of state.writers writer) ≡ answer)
      → EndsWrite config before before the_act own answer
  by_number answer few is =
      let decided = answered answer is in
      subst (λ own. EndsWrite config before before the_act own answer) (sym (own_is few ∙ is config tx))
      (subst (λ act. EndsOwn config before before Fault act answer answer) (sym decided.quiet)
      (quiet_ends config before before Fault answer refl decided.told))
