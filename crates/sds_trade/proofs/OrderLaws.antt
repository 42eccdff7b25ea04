-- The rules come in their order: those on texts, then those on steps, and last that too many changes wait.
use Rattle.std.proofs.Common.{◌≡◌, ◌≤◌, Bool, true, false, cond, [], None, Some, sym, ap, arith, true≢false}
use Rattle.std.specs.Option.{unwrap_or}
use Rattle.sds_value.specs.declared.kind.Binary.TheVariants.{Base64}
use Rattle.sds_types.specs.declared.conflict.Resolution.TheVariants.{Broken}
use Rattle.sds_types.specs.declared.rule.Rule.TheVariants.{UnknownTable, UnknownColumn, MissingKey, BadValue, TooLong, NullNotAllowed, DuplicateKey, RowMissing, MissingParent, HasChildren, TableFull, ManualConflict, OldMissing, SumOutOfRange, CaptureFull, UnknownChannel}
use Rattle.sds_types.specs.Rules.{number_of}
use Rattle.sds_trade.specs.laws.Rules.{TextRulesComeFirst, FirstUnseenRuleAnswers, CaptureComesLast, MissingOldComesFirst}
use Rattle.sds_trade.specs.rules.LoadRows.{by_rule, plain_row, with_adds}
use Rattle.sds_trade.specs.rules.OwnWrites.{by_texts, doc_of, unseen_breaks}
use Rattle.sds_trade.specs.rules.Resolutions.{by_verdict}
use Rattle.sds_trade.specs.rules.Conflicts.{target_row, verdict}
use Rattle.sds_trade.specs.rules.Runs.{by_broken}

pub text_rules_come_first : TextRulesComeFirst
text_rules_come_first defs rows row rule broken =
    ap (λ found. by_texts defs rows (by_rule found (with_adds (plain_row defs Base64 0 (doc_of defs row)) []))) broken

pub capture_comes_last : CaptureComesLast
capture_comes_last defs overflow rows step rule broken = ap (λ found. by_broken found (overflow step) step) broken

pub missing_old_comes_first : MissingOldComesFirst
missing_old_comes_first defs setting rows row lacks =
    ap (λ (b : Bool). elim b [ true ↦ Broken OldMissing | false ↦ by_verdict defs rows row setting (verdict setting row (target_row defs rows row)) ]) lacks

-- the first of the two, else the next, else the last
null_first : (null double : Bool) → null ≡ true
    → number_of (unwrap_or (cond null (Some NullNotAllowed) (cond double (Some DuplicateKey) None)) RowMissing) ≤ 6
null_first true double is = omega arith
null_first false double is = absurd (true≢false (sym is))

double_next : (null double : Bool) → double ≡ true
    → number_of (unwrap_or (cond null (Some NullNotAllowed) (cond double (Some DuplicateKey) None)) RowMissing) ≤ 7
double_next true double is = omega arith
double_next false true is = omega arith
double_next false false is = absurd (true≢false (sym is))

never : {G : Type 0} → false ≡ true → G
never is = absurd (true≢false (sym is))

pub first_unseen_rule_answers : FirstUnseenRuleAnswers
first_unseen_rule_answers defs rows row NullNotAllowed is =
    null_first (unseen_breaks defs rows row NullNotAllowed) (unseen_breaks defs rows row DuplicateKey) is
first_unseen_rule_answers defs rows row DuplicateKey is =
    double_next (unseen_breaks defs rows row NullNotAllowed) (unseen_breaks defs rows row DuplicateKey) is
first_unseen_rule_answers defs rows row UnknownTable is = never is
first_unseen_rule_answers defs rows row UnknownColumn is = never is
first_unseen_rule_answers defs rows row MissingKey is = never is
first_unseen_rule_answers defs rows row BadValue is = never is
first_unseen_rule_answers defs rows row TooLong is = never is
first_unseen_rule_answers defs rows row RowMissing is = never is
first_unseen_rule_answers defs rows row MissingParent is = never is
first_unseen_rule_answers defs rows row HasChildren is = never is
first_unseen_rule_answers defs rows row TableFull is = never is
first_unseen_rule_answers defs rows row ManualConflict is = never is
first_unseen_rule_answers defs rows row OldMissing is = never is
first_unseen_rule_answers defs rows row SumOutOfRange is = never is
first_unseen_rule_answers defs rows row CaptureFull is = never is
first_unseen_rule_answers defs rows row UnknownChannel is = never is
