-- What is printed of an expression has its form, and what has a form has names.
use Rattle.std.proofs.Common.{◌≡◌, ℕ, inl, inr, Bool, true, false, List, [], ◌∷◌, codes, All, refl, sym, subst, ◌∙◌, append-nil, arith}
use Rattle.std.proofs.lemmas.List.Elements.{All-head, All-tail, All-cons}
use Rattle.sds_types.specs.declared.column_test.ColumnTest.{ColumnTest}
use Rattle.sds_types.specs.declared.column_test.Operand.{Operand}
use Rattle.sds_types.specs.declared.column_test.Operand.TheVariants as operand
use Rattle.sds_types.specs.declared.lookup.Lookup.{Lookup}
use Rattle.sds_types.specs.declared.subselect.Compared.{Compared}
use Rattle.sds_types.specs.declared.subselect.Compared.TheVariants.{Routed, Text}
use Rattle.sds_types.specs.declared.subselect.Condition.{Condition}
use Rattle.sds_types.specs.declared.subselect.NodeColumn.{NodeColumn}
use Rattle.sds_types.specs.declared.subselect.NodeColumn.TheVariants as node
use Rattle.sds_types.specs.declared.subselect.Subselect.{Subselect}
use Rattle.sds_value.specs.Names.{is_name_text}
use Rattle.sds_expressions.specs.declared.lookup_router.LookupKey.TheVariants.{Table, Column, LookupColumn, ExternalId}
use Rattle.sds_expressions.specs.ColumnForm.{begins_old, quoted, NameOf, SignOf, TestOf, TestsOf, IsColumnForm}
use Rattle.sds_expressions.specs.ColumnForm as column
use Rattle.sds_expressions.specs.LookupForm.{HasNames, IsOrder, IsLookupForm}
use Rattle.sds_expressions.specs.SubselectForm.{Keyword, keyword_of, ComparedOf, ConditionOf, SpacingAfter, ConditionsOf, IsSubselectForm}
use Rattle.sds_expressions.proofs.Accepting.{joined}
use Rattle.sds_expressions.specs.Printed.{IsTest, text_of_name, text_of_sign, text_of_operand, text_of_test, text_of_tests, text_of_lookup, IsCompared, IsCondition, IsChoice, text_of_compared, text_of_condition, text_of_conditions, text_of_choice}

-- tests
name_written : (old : Bool) (name : List ℕ) → is_name_text name ≡ true → (old ≡ false → begins_old name ≡ false) → NameOf old name (text_of_name old name)
name_written true name good current = (refl, good)
name_written false name good current = (refl, good, current refl)

sign_written : (differs : Bool) → SignOf differs (text_of_sign differs)
sign_written true = refl
sign_written false = refl

operand_written : (value : Operand) → column.OperandOf value (text_of_operand value)
operand_written operand.NodeId = refl
operand_written operand.ExternalId = refl
operand_written operand.NodeGroupId = refl
operand_written operand.Null = refl
operand_written (operand.Text text) = inr refl

test_written : (test : ColumnTest) → IsTest test → TestOf test (text_of_test test)
test_written test is =
    joined _ _ [] _ refl (joined _ _ (text_of_name test.old test.name) _ (name_written test.old test.name is.named is.current)
    (joined _ _ (codes " ") _ refl (joined _ _ (text_of_sign test.differs) _ (sign_written test.differs) (joined _ _ (codes " ") _ refl
    (text_of_operand test.operand, [], sym (append-nil (text_of_operand test.operand)), operand_written test.operand, refl)))))

tests_written : (test : ColumnTest) (tests : List ColumnTest) → All IsTest (test ∷ tests) → TestsOf (test ∷ tests) (text_of_tests (test ∷ tests))
tests_written test [] all = test_written test (All-head IsTest test [] all)
tests_written test (next ∷ tests) all =
    joined _ _ (text_of_test test) _ (test_written test (All-head IsTest test (next ∷ tests) all))
    (joined _ _ (codes " or ") _ (inl refl) (tests_written next tests (All-tail IsTest test (next ∷ tests) all)))

pub column_written : (test : ColumnTest) (tests : List ColumnTest) → All IsTest (test ∷ tests) → IsColumnForm (text_of_tests (test ∷ tests)) (test ∷ tests)
column_written test tests all = (text_of_tests (test ∷ tests), [], sym (append-nil (text_of_tests (test ∷ tests))), tests_written test tests all, inl refl)

no_item : {X : Type 0} (P : X → Type 0) → All P []
no_item P k d below = absurd (omega (arith, below))

-- the names of tests
named_test : (test : ColumnTest) (text : List ℕ) → TestOf test text → IsTest test
named_test test text (a, t, e, spaces, (word, rest, f, name, more)) = at test.old refl name
  where
    at : (old : Bool) → test.old ≡ old → NameOf old test.name word → IsTest test
    at true is (same, good) = record { named = good; current = λ other. let none : true ≡ false = sym is ∙ other in absurd (cc) }
    at false is (same, good, current) = record { named = good; current = λ other. current }

named_tests : (tests : List ColumnTest) (text : List ℕ) → TestsOf tests text → All IsTest tests
named_tests [] text is = absurd is
named_tests (test ∷ []) text is = All-cons IsTest test [] (named_test test text is) (no_item IsTest)
named_tests (test ∷ next ∷ tests) text (a, t, e, first, (joint, rest, f, joins, others)) = All-cons IsTest test (next ∷ tests) (named_test test a first) (named_tests (next ∷ tests) rest others)

pub column_names : (text : List ℕ) (tests : List ColumnTest) → IsColumnForm text tests → All IsTest tests
column_names text tests (a, end, e, is, ends) = named_tests tests a is

-- lookups
pub lookup_written : (lookup : Lookup) → HasNames lookup → IsLookupForm (text_of_lookup lookup) lookup
lookup_written lookup names = (names, Table ∷ Column ∷ LookupColumn ∷ ExternalId ∷ [], once, inl refl)
  where
    once : IsOrder (Table ∷ Column ∷ LookupColumn ∷ ExternalId ∷ [])
    once Table = refl
    once Column = refl
    once LookupColumn = refl
    once ExternalId = refl

-- choices
compared_written : (value : Compared) → IsCompared value → ComparedOf value (text_of_compared value)
compared_written (Routed name) good = joined _ _ (codes ":") name refl (joined _ _ [] name refl (refl, good))
compared_written (Text text) good = refl

condition_written : (condition : Condition) → IsCondition condition → ConditionOf condition (text_of_condition condition)
condition_written condition is =
    joined _ _ condition.column _ (refl, is.named) (joined _ _ [] _ refl (joined _ _ (codes "=") _ refl (joined _ _ [] _ refl (compared_written condition.value is.compared))))

space_after : (value : Compared) → SpacingAfter value (codes " ")
space_after (Routed name) = (refl, refl)
space_after (Text text) = refl

conditions_written : (condition : Condition) (conditions : List Condition) → All IsCondition (condition ∷ conditions) → ConditionsOf (condition ∷ conditions) (text_of_conditions (condition ∷ conditions))
conditions_written condition [] all = condition_written condition (All-head IsCondition condition [] all)
conditions_written condition (next ∷ conditions) all =
    joined _ _ (text_of_condition condition) _ (condition_written condition (All-head IsCondition condition (next ∷ conditions) all))
    (joined _ _ (codes " ") _ (space_after condition.value) (joined _ _ (codes "and") _ refl
    (joined _ _ (codes " ") _ (refl, refl) (conditions_written next conditions (All-tail IsCondition condition (next ∷ conditions) all)))))

keyword_written : (by : NodeColumn) → Keyword (keyword_of by) (keyword_of by)
keyword_written node.ExternalId = refl
keyword_written node.NodeId = refl

pub choice_written : (choice : Subselect) (condition : Condition) (conditions : List Condition) → choice.conditions ≡ condition ∷ conditions → IsChoice choice → IsSubselectForm (text_of_choice choice) choice
choice_written choice condition conditions e is =
    let all : All IsCondition (condition ∷ conditions) = subst (λ x. All IsCondition x) e is.conditions in
    let says : ConditionsOf choice.conditions (text_of_conditions choice.conditions) = subst (λ x. ConditionsOf x (text_of_conditions x)) (sym e) (conditions_written condition conditions all) in
    joined _ _ [] _ refl (joined _ _ (codes "c") _ refl (joined _ _ [] _ refl (joined _ _ (codes ".") _ refl
    (joined _ _ [] _ refl (joined _ _ (keyword_of choice.by) _ (keyword_written choice.by) (joined _ _ (codes " ") _ (refl, refl) (joined _ _ (codes "in") _ refl
    (joined _ _ (codes " ") _ refl (joined _ _ (codes "(") _ refl (joined _ _ [] _ refl (joined _ _ (codes "select") _ refl
    (joined _ _ (codes " ") _ (refl, refl) (joined _ _ choice.column _ (refl, is.column) (joined _ _ (codes " ") _ (refl, refl) (joined _ _ (codes "from") _ refl
    (joined _ _ (codes " ") _ (refl, refl) (joined _ _ choice.table _ (refl, is.table) (joined _ _ (codes " ") _ (refl, refl) (joined _ _ (codes "where") _ refl
    (joined _ _ (codes " ") _ (refl, refl) (joined _ _ (text_of_conditions choice.conditions) _ says (joined _ _ [] _ refl (joined _ _ (codes ")") [] refl refl)))))))))))))))))))))))

-- the names of a choice
named_value : (value : Compared) (text : List ℕ) → ComparedOf value text → IsCompared value
named_value (Routed name) text (a, t, e, colon, (b, rest, f, spaces, (same, good))) = good
named_value (Text content) text is = tt

named_condition : (condition : Condition) (text : List ℕ) → ConditionOf condition text → IsCondition condition
named_condition condition text (a, t1, e1, (same, good), (b, t2, e2, all, (c, t3, e3, is, (d, value, e4, more, says)))) = record { named = good; compared = named_value condition.value value says }

named_conditions : (conditions : List Condition) (text : List ℕ) → ConditionsOf conditions text → All IsCondition conditions
named_conditions [] text is = absurd is
named_conditions (condition ∷ []) text is = All-cons IsCondition condition [] (named_condition condition text is) (no_item IsCondition)
named_conditions (condition ∷ next ∷ conditions) text (a, t1, e1, is, (b, t2, e2, gap, (c, t3, e3, word, (d, t4, e4, more, others)))) = All-cons IsCondition condition (next ∷ conditions) (named_condition condition a is) (named_conditions (next ∷ conditions) t4 others)

pub choice_names : (text : List ℕ) (choice : Subselect) → IsSubselectForm text choice → IsChoice choice
choice_names text choice (
  a,
  t1,
  e1,
  p1,
  (
    b,
    t2,
    e2,
    p2,
    (
      c,
      t3,
      e3,
      p3,
      (
        d,
        t4,
        e4,
        p4,
        (
          f,
          t5,
          e5,
          p5,
          (
            g,
            t6,
            e6,
            p6,
            (
              h,
              t7,
              e7,
              p7,
              (
                i,
                t8,
                e8,
                p8,
                (
                  j,
                  t9,
                  e9,
                  p9,
                  (
                    k,
                    t10,
                    e10,
                    p10,
                    (
                      l,
                      t11,
                      e11,
                      p11,
                      (
                        m,
                        t12,
                        e12,
                        p12,
                        (n, t13, e13, p13, (o, t14, e14, (column, column_good), (p, t15, e15, p15, (q, t16, e16, p16, (r, t17, e17, p17, (s, t18, e18, (table, table_good), (t, t19, e19, p19, (u, t20, e20, p20, (v, t21, e21, p21, (w, t22, e22, says, rest)))))))))),
                      ),
                    ),
                  ),
                ),
              ),
            ),
          ),
        ),
      ),
    ),
  ),
) =
    record { column = column_good; table = table_good; conditions = named_conditions choice.conditions w says }
