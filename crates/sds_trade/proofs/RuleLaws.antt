-- Of two rules that are broken the one of the lower number answers.
use Rattle.std.proofs.Common.{◌≡◌, ℕ, ◌≤◌, ◌<◌, Bool, true, false, cond, List, [], ◌∷◌, Option, None, Some, refl, sym, ap, subst, ◌∙◌, arith, true≢false, find, inl, inr, ◌⊎◌}
use Rattle.sds_value.specs.declared.kind.Binary.{Binary}
use Rattle.sds_value.specs.declared.row.DocRow.{DocRow}
use Rattle.sds_value.specs.declared.table.TableDef.{TableDef}
use Rattle.sds_types.specs.declared.row.RowStep.{RowStep}
use Rattle.sds_types.specs.declared.row.TableRow.{TableRow}
use Rattle.sds_types.specs.declared.rule.Rule.{Rule}
use Rattle.sds_types.specs.declared.rule.Rule.TheVariants.{UnknownTable, UnknownColumn, MissingKey, BadValue, TooLong, NullNotAllowed, DuplicateKey, RowMissing, MissingParent, HasChildren, TableFull, ManualConflict, OldMissing, SumOutOfRange, CaptureFull, UnknownChannel}
use Rattle.sds_types.specs.Rules.{number_of}
use Rattle.sds_trade.specs.laws.Rules.{FirstStepRuleAnswers, AnsweredStepRuleIsBroken, FirstTextRuleAnswers, AnsweredTextRuleIsBroken}
use Rattle.sds_trade.specs.rules.StepRules.{step_breaks, step_rules}
use Rattle.sds_trade.specs.rules.TextRules.{text_breaks, text_rules}

-- each is of a lower number than those after it
abbrev AllAbove : ℕ → List Rule → Type 0
AllAbove n [] = Unit {0}
AllAbove n (rule ∷ rules) = (n < number_of rule) × AllAbove n rules

abbrev Rise : List Rule → Type 0
Rise [] = Unit {0}
Rise (rule ∷ rules) = AllAbove (number_of rule) rules × Rise rules

-- what is found passes, and is one of the list
abbrev some_rule : Option Rule → Rule → Rule
some_rule None rule = rule
some_rule (Some found) rule = found

found_on : (p : Rule → Bool) (next rule : Rule) (rules : List Rule) (b : Bool) → p next ≡ b → cond b (Some next) (find p rules) ≡ Some rule
    → (find p rules ≡ Some rule → p rule ≡ true) → p rule ≡ true
found_on p next rule rules true is found rest = ap p (sym (ap (λ o. some_rule o next) found)) ∙ is
found_on p next rule rules false is found rest = rest found

found_passes : (p : Rule → Bool) (rule : Rule) (rules : List Rule) → find p rules ≡ Some rule → p rule ≡ true
found_passes p rule [] found = absurd (true≢false (ap (λ o. elim o [ None ↦ true | Some r ↦ false ]) found))
found_passes p rule (next ∷ rules) found = found_on p next rule rules (p next) refl found (found_passes p rule rules)

-- a rule is one of a list
abbrev In : List Rule → Rule → Type 0
In [] rule = ⊥
In (next ∷ rules) rule = (next ≡ rule) ⊎ In rules rule

above_in : (n : ℕ) (rules : List Rule) (rule : Rule) → AllAbove n rules → In rules rule → n < number_of rule
above_in n [] rule above is = absurd is
above_in n (next ∷ rules) rule above (inl is) = subst (λ r. n < number_of r) is above.0
above_in n (next ∷ rules) rule above (inr is) = above_in n rules rule above.1 is

least_here : (n m : ℕ) → n ≡ m → n ≤ m
least_here n m is = omega (arith, is)

least_on : (p : Rule → Bool) (next rule other : Rule) (rules : List Rule) (b : Bool) → p next ≡ b → cond b (Some next) (find p rules) ≡ Some rule
    → AllAbove (number_of next) rules → (next ≡ other) ⊎ In rules other → p other ≡ true
    → (In rules other → find p rules ≡ Some rule → number_of rule ≤ number_of other) → number_of rule ≤ number_of other
least_on p next rule other rules true is found above (inl same) broken rest =
    least_here (number_of rule) (number_of other) (ap number_of (sym (ap (λ o. some_rule o next) found) ∙ same))
least_on p next rule other rules true is found above (inr later) broken rest =
    let e : number_of next ≡ number_of rule = ap (λ o. number_of (some_rule o next)) found in
    let more : number_of next < number_of other = above_in (number_of next) rules other above later in omega (arith, e, more)
least_on p next rule other rules false is found above (inl same) broken rest = absurd (true≢false (sym broken ∙ (ap p (sym same) ∙ is)))
least_on p next rule other rules false is found above (inr later) broken rest = rest later found

least : (p : Rule → Bool) (rules : List Rule) (rule other : Rule) → Rise rules → In rules other → find p rules ≡ Some rule → p other ≡ true
    → number_of rule ≤ number_of other
least p [] rule other rise is found broken = absurd is
least p (next ∷ rules) rule other rise is found broken =
    least_on p next rule other rules (p next) refl found rise.0 is broken (λ later more. least p rules rule other rise.1 later more broken)

never : {G : Type 0} → false ≡ true → G
never is = absurd (true≢false (sym is))

-- STEPS
step_in : (defs : List TableDef) (rows : List TableRow) (step : RowStep) (rule : Rule) → step_breaks defs rows step rule ≡ true → In step_rules rule
step_in defs rows step NullNotAllowed is = inl refl
step_in defs rows step DuplicateKey is = inr (inl refl)
step_in defs rows step RowMissing is = inr (inr (inl refl))
step_in defs rows step MissingParent is = inr (inr (inr (inl refl)))
step_in defs rows step HasChildren is = inr (inr (inr (inr (inl refl))))
step_in defs rows step TableFull is = inr (inr (inr (inr (inr (inl refl)))))
step_in defs rows step UnknownTable is = never is
step_in defs rows step UnknownColumn is = never is
step_in defs rows step MissingKey is = never is
step_in defs rows step BadValue is = never is
step_in defs rows step TooLong is = never is
step_in defs rows step ManualConflict is = never is
step_in defs rows step OldMissing is = never is
step_in defs rows step SumOutOfRange is = never is
step_in defs rows step CaptureFull is = never is
step_in defs rows step UnknownChannel is = never is

steps_rise : Rise step_rules
steps_rise = ((omega arith, (omega arith, (omega arith, (omega arith, (omega arith, tt))))), ((omega arith, (omega arith, (omega arith, (omega arith, tt)))), ((omega arith, (omega arith, (omega arith, tt))), ((omega arith, (omega arith, tt)), ((omega arith, tt), (tt, tt))))))

pub first_step_rule_answers : FirstStepRuleAnswers
first_step_rule_answers defs rows step rule other found broken =
    least (step_breaks defs rows step) step_rules rule other steps_rise (step_in defs rows step other broken) found broken

pub answered_step_rule_is_broken : AnsweredStepRuleIsBroken
answered_step_rule_is_broken defs rows step rule found = found_passes (step_breaks defs rows step) rule step_rules found

-- TEXTS
text_in : (defs : List TableDef) (form : Binary) (doc : DocRow) (rule : Rule) → text_breaks defs form doc rule ≡ true → In text_rules rule
text_in defs form doc UnknownTable is = inl refl
text_in defs form doc UnknownColumn is = inr (inl refl)
text_in defs form doc MissingKey is = inr (inr (inl refl))
text_in defs form doc BadValue is = inr (inr (inr (inl refl)))
text_in defs form doc TooLong is = inr (inr (inr (inr (inl refl))))
text_in defs form doc NullNotAllowed is = never is
text_in defs form doc DuplicateKey is = never is
text_in defs form doc RowMissing is = never is
text_in defs form doc MissingParent is = never is
text_in defs form doc HasChildren is = never is
text_in defs form doc TableFull is = never is
text_in defs form doc ManualConflict is = never is
text_in defs form doc OldMissing is = never is
text_in defs form doc SumOutOfRange is = never is
text_in defs form doc CaptureFull is = never is
text_in defs form doc UnknownChannel is = never is

texts_rise : Rise text_rules
texts_rise = ((omega arith, (omega arith, (omega arith, (omega arith, tt)))), ((omega arith, (omega arith, (omega arith, tt))), ((omega arith, (omega arith, tt)), ((omega arith, tt), (tt, tt)))))

pub first_text_rule_answers : FirstTextRuleAnswers
first_text_rule_answers defs form doc rule other found broken =
    least (text_breaks defs form doc) text_rules rule other texts_rise (text_in defs form doc other broken) found broken

pub answered_text_rule_is_broken : AnsweredTextRuleIsBroken
answered_text_rule_is_broken defs form doc rule found = found_passes (text_breaks defs form doc) rule text_rules found
