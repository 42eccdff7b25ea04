-- What the reading of a `subselect` router's expression accepts has its form.
use Rattle.std.proofs.Common.{◌≡◌, ℕ, zero, suc, ◌+◌, ◌≤◌, ◌⊎◌, inl, inr, Bool, true, false, ◌||◌, ◌==◌, nat_lt, nat_le, List, [], ◌∷◌, ◌++◌, length, map, codes, Option, Some, None, option_and_then, bytes_eq, refl, sym, ap, subst, ◌∙◌, arith, append_assoc, append-nil, eqb-true, length-append}
use Rattle.std.proofs.lemmas.Bool.Decides.{nat_tests}
use Rattle.std.proofs.lemmas.Slice.Eq.{bytes_eq-Decides}
use Rattle.std.specs.Char.{to_ascii_lowercase}
use Rattle.std.specs.List.{list_all}
use Rattle.sds_types.specs.declared.subselect.Compared.{Compared}
use Rattle.sds_types.specs.declared.subselect.Compared.TheVariants.{Routed, Text}
use Rattle.sds_types.specs.declared.subselect.Condition.{Condition}
use Rattle.sds_types.specs.declared.subselect.Subselect.{Subselect}
use Rattle.sds_value.specs.Names.{is_name_text, is_name_character}
use Rattle.sds_expressions.specs.declared.subselect_router.SubselectReading.{SubselectReading}
use Rattle.sds_expressions.specs.declared.subselect_router.SubselectSlot.{SubselectSlot}
use Rattle.sds_expressions.specs.declared.subselect_router.SubselectSlot.TheVariants as slot
use Rattle.sds_expressions.specs.SubselectRouter as choice
use Rattle.sds_expressions.specs.Forms.{Form, ◌▸◌, Exactly, Name}
use Rattle.sds_expressions.specs.ColumnForm.{doubled, quoted}
use Rattle.sds_expressions.specs.SubselectForm.{is_spacing, Spacing, Gap, Keyword, keyword_of, ComparedOf, ConditionOf, SpacingAfter, ConditionsOf, IsSubselectForm}
use Rattle.sds_expressions.proofs.Accepting.{value_of, branch, in_front, grouped}

abbrev pub accept : SubselectReading → List ℕ → Option Subselect
accept reading text = value_of choice.step choice.finish reading text

abbrev pub on : List ℕ → SubselectReading → Option Subselect
on text reading = accept reading text

-- before a word of a slot, and in it
abbrev pub before : SubselectReading → SubselectSlot → Bool → SubselectReading
before reading at spaced = choice.moved reading at spaced

abbrev pub within : SubselectReading → SubselectSlot → List ℕ → SubselectReading
within reading at word = record reading { word = word; spaced = true; slot = at }

-- the text is accepted from there
abbrev pub From : SubselectReading → Subselect → Form
From reading v text = accept reading text ≡ Some v

-- the spacing before a word
abbrev pub SpacingIf : Bool → Form
SpacingIf true = Spacing
SpacingIf false = Gap

-- what holds of each slot of a keyword or a name
pub record IsWordSlot (at : SubselectSlot) : Type 0 where
  pub outside : (reading : SubselectReading) (c : ℕ) → choice.step_at at reading c ≡ choice.outside reading.word reading c
  pub unended : (reading : SubselectReading) → choice.choice_at at reading ≡ None
  pub goes_on : (reading : SubselectReading) (c : ℕ) → choice.step (choice.finished_at at reading) c ≡ choice.fresh (choice.finished_at at reading) c
  pub unfinished : (reading : SubselectReading) → choice.finish (choice.finished_at at reading) ≡ None

abbrev pub Keywords : SubselectSlot → Type 0
Keywords at = (reading : SubselectReading) (c : ℕ) → choice.fresh_at at reading c ≡ choice.before_keyword reading c

-- spacing before a keyword
abbrev Begun : SubselectReading → SubselectSlot → Subselect → Form
Begun r at v text = (c : ℕ) × (cs : List ℕ) × (text ≡ c ∷ cs) × (choice.begins_keyword at (to_ascii_lowercase c ∷ []) ≡ true) × From (within r at (to_ascii_lowercase c ∷ [])) v cs

spaced_gap : (Q : Form) (c : ℕ) (cs : List ℕ) → is_spacing c ≡ true → (Spacing ▸ Q) cs → (Gap ▸ Q) (c ∷ cs)
spaced_gap Q c cs e (a, b, is, all, more) = (c ∷ a, b, ap (λ x. c ∷ x) is, (rw e all, some_length c a), more)
  where
    some_length : (c : ℕ) (cs : List ℕ) → nat_le 1 (length (c ∷ cs)) ≡ true
    some_length c cs = grind (arith, nat_tests)

first_step : (at : SubselectSlot) (is : IsWordSlot at) (words : Keywords at) (r : SubselectReading) (spaced : Bool) (c : ℕ) (cs : List ℕ) (v : Subselect) → From (before r at spaced) v (c ∷ cs)
    → option_and_then (on cs) (choice.before_keyword (before r at spaced) c) ≡ Some v
first_step at is words r spaced c cs v e = sym (ap (option_and_then (on cs)) (is.outside (before r at spaced) c ∙ words (before r at spaced) c)) ∙ e

to_keyword : (at : SubselectSlot) (is : IsWordSlot at) (words : Keywords at) (r : SubselectReading) (spaced : Bool) (cs : List ℕ) (v : Subselect) → From (before r at spaced) v cs → (SpacingIf spaced ▸ Begun r at v) cs
to_keyword at is words r spaced [] v e = let none : None ≡ Some v = sym (is.unended (before r at spaced)) ∙ e in absurd (cc)
to_keyword at is words r true (c ∷ cs) v e =
    branch (on cs) v (is_spacing c) _ _ (λ t f. in_front is_spacing (Begun r at v) c cs t (to_keyword at is words r true cs v f))
    (λ t f. branch (on cs) v (choice.begins_keyword at (to_ascii_lowercase c ∷ [])) _ _ (λ u g. ([], c ∷ cs, refl, refl, (c, cs, refl, u, g))) (λ u g. absurd (cc)) f) (first_step at is words r true c cs v e)
to_keyword at is words r false (c ∷ cs) v e =
    branch (on cs) v (is_spacing c) _ _ (λ t f. spaced_gap (Begun r at v) c cs t (to_keyword at is words r true cs v f)) (λ t f. absurd (cc)) (first_step at is words r false c cs v e)

-- the rest of a keyword
record KeywordRead (r : SubselectReading) (at : SubselectSlot) (w cs : List ℕ) (v : Subselect) : Type 0 where
  word : List ℕ
  rest : List ℕ
  is : cs ≡ word ++ rest
  whole : choice.is_keyword at (w ++ map to_ascii_lowercase word) ≡ true
  more : From (choice.finished_at at (within r at (w ++ map to_ascii_lowercase word))) v rest

keyword_rest : (at : SubselectSlot) (is : IsWordSlot at) (no_name : choice.takes_name at ≡ false) (r : SubselectReading) (w : ℕ) (ws cs : List ℕ) (v : Subselect) → From (within r at (w ∷ ws)) v cs → KeywordRead r at (w ∷ ws) cs v
keyword_rest at is no_name r w ws [] v e = let none : None ≡ Some v = sym (is.unended (within r at (w ∷ ws))) ∙ e in absurd (cc)
keyword_rest at is no_name r w ws (c ∷ cs) v e =
    branch (on cs) v (choice.begins_keyword at (w ∷ (ws ++ to_ascii_lowercase c ∷ []))) _ _ (λ t f. longer (keyword_rest at is no_name r w (ws ++ to_ascii_lowercase c ∷ []) cs v f))
    (λ t f. branch (on cs) v (choice.is_keyword at (w ∷ ws)) _ _ (λ u g. ends u g) (λ u g. absurd (cc)) f) inside
  where
    inside : option_and_then (on cs) (choice.in_keyword (within r at (w ∷ ws)) c) ≡ Some v
    inside =
        let chosen : choice.outside (w ∷ ws) (within r at (w ∷ ws)) c ≡ choice.in_keyword (within r at (w ∷ ws)) c = rw no_name refl in
        sym (ap (option_and_then (on cs)) (is.outside (within r at (w ∷ ws)) c ∙ chosen)) ∙ e

    longer : KeywordRead r at (w ∷ (ws ++ to_ascii_lowercase c ∷ [])) cs v → KeywordRead r at (w ∷ ws) (c ∷ cs) v
    longer q =
        let same : w ∷ ((ws ++ to_ascii_lowercase c ∷ []) ++ map to_ascii_lowercase q.word) ≡ w ∷ (ws ++ map to_ascii_lowercase (c ∷ q.word)) = ap (λ x. w ∷ x) (append_assoc ws (to_ascii_lowercase c ∷ []) (map to_ascii_lowercase q.word)) in
        record {
          word = c ∷ q.word;
          rest = q.rest;
          is = ap (λ x. c ∷ x) q.is;
          whole = subst (λ x. choice.is_keyword at x ≡ true) same q.whole;
          more = subst (λ x. From (choice.finished_at at (within r at x)) v q.rest) same q.more;
        }

    ends : choice.is_keyword at (w ∷ ws) ≡ true → option_and_then (on cs) (choice.fresh (choice.finished_at at (within r at (w ∷ ws))) c) ≡ Some v → KeywordRead r at (w ∷ ws) (c ∷ cs) v
    ends u g =
        let same : w ∷ ws ≡ (w ∷ ws) ++ [] = sym (append-nil (w ∷ ws)) in
        let here : From (choice.finished_at at (within r at (w ∷ ws))) v (c ∷ cs) = ap (option_and_then (on cs)) (is.goes_on (within r at (w ∷ ws)) c) ∙ g in
        record { word = []; rest = c ∷ cs; is = refl; whole = subst (λ x. choice.is_keyword at x ≡ true) same u; more = subst (λ x. From (choice.finished_at at (within r at x)) v (c ∷ cs)) same here }

-- a keyword, and what is accepted after it
abbrev pub AfterKeyword : SubselectReading → SubselectSlot → Subselect → Form
AfterKeyword r at v text = (word : List ℕ) × (choice.is_keyword at word ≡ true) × (Keyword word ▸ From (choice.finished_at at (within r at word)) v) text

begun_keyword : (at : SubselectSlot) (is : IsWordSlot at) (no_name : choice.takes_name at ≡ false) (r : SubselectReading) (text : List ℕ) (v : Subselect) → Begun r at v text → AfterKeyword r at v text
begun_keyword at is no_name r text v (c, cs, e, begins, f) =
    let q = keyword_rest at is no_name r (to_ascii_lowercase c) [] cs v f in
    (to_ascii_lowercase c ∷ map to_ascii_lowercase q.word, q.whole, (c ∷ q.word, q.rest, e ∙ ap (λ x. c ∷ x) q.is, refl, q.more))

keyword_read : (at : SubselectSlot) (is : IsWordSlot at) (no_name : choice.takes_name at ≡ false) (words : Keywords at) (r : SubselectReading) (spaced : Bool) (cs : List ℕ) (v : Subselect) → From (before r at spaced) v cs → (SpacingIf spaced ▸ AfterKeyword r at v) cs
keyword_read at is no_name words r spaced cs v e =
    let q = to_keyword at is words r spaced cs v e in
    (q.0, q.1, q.2, q.3, begun_keyword at is no_name r q.1 v q.4)

-- a name, and what is accepted after it
abbrev pub Names : SubselectSlot → Type 0
Names at = (reading : SubselectReading) (c : ℕ) → choice.fresh_at at reading c ≡ choice.before_name reading c

abbrev pub AfterName : SubselectReading → SubselectSlot → Subselect → Form
AfterName r at v text = (name : List ℕ) × (Name name ▸ From (choice.finished_at at (within r at name)) v) text

record NameRead (r : SubselectReading) (at : SubselectSlot) (w cs : List ℕ) (v : Subselect) : Type 0 where
  word : List ℕ
  rest : List ℕ
  is : cs ≡ word ++ rest
  all : list_all is_name_character word ≡ true
  short : nat_le (length (w ++ word)) 50 ≡ true
  more : From (choice.finished_at at (within r at (w ++ word))) v rest

one_longer : (w : List ℕ) (c : ℕ) → nat_lt (length w) 50 ≡ true → nat_le (length (w ++ c ∷ [])) 50 ≡ true
one_longer w c e = let l : length (w ++ c ∷ []) ≡ length w + 1 = length-append w (c ∷ []) in grind (arith, nat_tests)

name_rest : (at : SubselectSlot) (is : IsWordSlot at) (name : choice.takes_name at ≡ true) (r : SubselectReading) (w : ℕ) (ws cs : List ℕ) (v : Subselect) → nat_le (length (w ∷ ws)) 50 ≡ true → From (within r at (w ∷ ws)) v cs → NameRead r at (w ∷ ws) cs v
name_rest at is name r w ws [] v short e = let none : None ≡ Some v = sym (is.unended (within r at (w ∷ ws))) ∙ e in absurd (cc)
name_rest at is name r w ws (c ∷ cs) v short e =
    branch (on cs) v (is_name_character c) _ _
    (λ t f. branch (on cs) v (nat_lt (length (w ∷ ws)) 50) _ _ (λ s g. longer t (name_rest at is name r w (ws ++ c ∷ []) cs v (one_longer (w ∷ ws) c s) g)) (λ s g. absurd (cc)) f)
    (λ t f. ends f) inside
  where
    inside : option_and_then (on cs) (choice.in_name (within r at (w ∷ ws)) c) ≡ Some v
    inside =
        let chosen : choice.outside (w ∷ ws) (within r at (w ∷ ws)) c ≡ choice.in_name (within r at (w ∷ ws)) c = rw name refl in
        sym (ap (option_and_then (on cs)) (is.outside (within r at (w ∷ ws)) c ∙ chosen)) ∙ e

    longer : is_name_character c ≡ true → NameRead r at (w ∷ (ws ++ c ∷ [])) cs v → NameRead r at (w ∷ ws) (c ∷ cs) v
    longer t q =
        let same : w ∷ ((ws ++ c ∷ []) ++ q.word) ≡ w ∷ (ws ++ c ∷ q.word) = ap (λ x. w ∷ x) (append_assoc ws (c ∷ []) q.word) in
        record {
          word = c ∷ q.word;
          rest = q.rest;
          is = ap (λ x. c ∷ x) q.is;
          all = rw t q.all;
          short = subst (λ x. nat_le (length x) 50 ≡ true) same q.short;
          more = subst (λ x. From (choice.finished_at at (within r at x)) v q.rest) same q.more;
        }

    ends : option_and_then (on cs) (choice.fresh (choice.finished_at at (within r at (w ∷ ws))) c) ≡ Some v → NameRead r at (w ∷ ws) (c ∷ cs) v
    ends g =
        let same : w ∷ ws ≡ (w ∷ ws) ++ [] = sym (append-nil (w ∷ ws)) in
        let here : From (choice.finished_at at (within r at (w ∷ ws))) v (c ∷ cs) = ap (option_and_then (on cs)) (is.goes_on (within r at (w ∷ ws)) c) ∙ g in
        record { word = []; rest = c ∷ cs; is = refl; all = refl; short = subst (λ x. nat_le (length x) 50 ≡ true) same short; more = subst (λ x. From (choice.finished_at at (within r at x)) v (c ∷ cs)) same here }

name_text : (c : ℕ) (word : List ℕ) → is_name_character c ≡ true → list_all is_name_character word ≡ true → nat_le (length (c ∷ word)) 50 ≡ true → is_name_text (c ∷ word) ≡ true
name_text c word first all short = rw (some_length, short, first, all) refl
  where
    some_length : nat_le 1 (length (c ∷ word)) ≡ true
    some_length = grind (arith, nat_tests)

name_read : (at : SubselectSlot) (is : IsWordSlot at) (name : choice.takes_name at ≡ true) (names : Names at) (r : SubselectReading) (spaced : Bool) (cs : List ℕ) (v : Subselect) → From (before r at spaced) v cs → (SpacingIf spaced ▸ AfterName r at v) cs
name_read at is name names r spaced [] v e = let none : None ≡ Some v = sym (is.unended (before r at spaced)) ∙ e in absurd (cc)
name_read at is name names r true (c ∷ cs) v e =
    branch (on cs) v (is_spacing c) _ _ (λ t f. in_front is_spacing (AfterName r at v) c cs t (name_read at is name names r true cs v f))
    (λ t f. branch (on cs) v (is_name_character c) _ _ (λ u g. whole u (name_rest at is name r c [] cs v refl g)) (λ u g. absurd (cc)) f) first
  where
    first : option_and_then (on cs) (choice.before_name (before r at true) c) ≡ Some v
    first = sym (ap (option_and_then (on cs)) (is.outside (before r at true) c ∙ names (before r at true) c)) ∙ e

    whole : is_name_character c ≡ true → NameRead r at (c ∷ []) cs v → (Spacing ▸ AfterName r at v) (c ∷ cs)
    whole u q = ([], c ∷ cs, refl, refl, (c ∷ q.word, (c ∷ q.word, q.rest, ap (λ x. c ∷ x) q.is, (refl, name_text c q.word u q.all q.short), q.more)))
name_read at is name names r false (c ∷ cs) v e =
    branch (on cs) v (is_spacing c) _ _ (λ t f. spaced_gap (AfterName r at v) c cs t (name_read at is name names r true cs v f)) (λ t f. absurd (cc)) first
  where
    first : option_and_then (on cs) (choice.before_name (before r at false) c) ≡ Some v
    first = sym (ap (option_and_then (on cs)) (is.outside (before r at false) c ∙ names (before r at false) c)) ∙ e

-- a sign, and what is accepted after it
pub record IsSignSlot (at : SubselectSlot) (mark : ℕ) (to : SubselectSlot) : Type 0 where
  pub step : (reading : SubselectReading) (spaced : Bool) (c : ℕ) → choice.step (before reading at spaced) c ≡ choice.sign mark to (before reading at spaced) c
  pub unended : (reading : SubselectReading) → choice.choice_at at reading ≡ None

sign_read : (at : SubselectSlot) (mark : ℕ) (to : SubselectSlot) (is : IsSignSlot at mark to) (r : SubselectReading) (spaced : Bool) (cs : List ℕ) (v : Subselect) → From (before r at spaced) v cs → (Spacing ▸ (Exactly (mark ∷ []) ▸ From (before r to true) v)) cs
sign_read at mark to is r spaced [] v e = let none : None ≡ Some v = sym (is.unended (before r at spaced)) ∙ e in absurd (cc)
sign_read at mark to is r spaced (c ∷ cs) v e =
    branch (on cs) v (is_spacing c) _ _ (λ t f. in_front is_spacing _ c cs t (sign_read at mark to is r spaced cs v f))
    (λ t f. branch (on cs) v (c == mark) _ _ (λ u g. ([], c ∷ cs, refl, refl, (c ∷ [], cs, refl, ap (λ x. x ∷ []) (eqb-true c mark u), g))) (λ u g. absurd (cc)) f) first
  where
    first : option_and_then (on cs) (choice.sign mark to (before r at spaced) c) ≡ Some v
    first = sym (ap (option_and_then (on cs)) (is.step r spaced c)) ∙ e

-- the slots
pub at_prefix : IsWordSlot slot.Prefix
at_prefix = record { outside = λ reading c. refl; unended = λ reading. refl; goes_on = λ reading c. refl; unfinished = λ reading. refl }

pub at_which : IsWordSlot slot.Which
at_which = record { outside = λ reading c. refl; unended = λ reading. refl; goes_on = λ reading c. refl; unfinished = λ reading. refl }

pub at_in : IsWordSlot slot.In
at_in = record { outside = λ reading c. refl; unended = λ reading. refl; goes_on = λ reading c. refl; unfinished = λ reading. refl }

pub at_select : IsWordSlot slot.Select
at_select = record { outside = λ reading c. refl; unended = λ reading. refl; goes_on = λ reading c. refl; unfinished = λ reading. refl }

pub at_column : IsWordSlot slot.Column
at_column = record { outside = λ reading c. refl; unended = λ reading. refl; goes_on = λ reading c. refl; unfinished = λ reading. refl }

pub at_from : IsWordSlot slot.From
at_from = record { outside = λ reading c. refl; unended = λ reading. refl; goes_on = λ reading c. refl; unfinished = λ reading. refl }

pub at_table : IsWordSlot slot.Table
at_table = record { outside = λ reading c. refl; unended = λ reading. refl; goes_on = λ reading c. refl; unfinished = λ reading. refl }

pub at_where : IsWordSlot slot.Where
at_where = record { outside = λ reading c. refl; unended = λ reading. refl; goes_on = λ reading c. refl; unfinished = λ reading. refl }

pub at_tested : IsWordSlot slot.Tested
at_tested = record { outside = λ reading c. refl; unended = λ reading. refl; goes_on = λ reading c. refl; unfinished = λ reading. refl }

pub at_routed : IsWordSlot slot.Routed
at_routed = record { outside = λ reading c. refl; unended = λ reading. refl; goes_on = λ reading c. refl; unfinished = λ reading. refl }

pub at_next : IsWordSlot slot.Next
at_next = record { outside = λ reading c. refl; unended = λ reading. refl; goes_on = λ reading c. refl; unfinished = λ reading. refl }

pub at_dot : IsSignSlot slot.Dot 46 slot.Which
at_dot = record { step = λ reading spaced c. refl; unended = λ reading. refl }

pub at_open : IsSignSlot slot.Open 40 slot.Select
at_open = record { step = λ reading spaced c. refl; unended = λ reading. refl }

pub at_equals : IsSignSlot slot.Equals 61 slot.Value
at_equals = record { step = λ reading spaced c. refl; unended = λ reading. refl }

-- a text between quotes, from after the first quote
record QuotedRead (r : SubselectReading) (t cs : List ℕ) (v : Subselect) : Type 0 where
  word : List ℕ
  rest : List ℕ
  is : cs ≡ doubled word ++ 39 ∷ rest
  more : From (choice.with_condition r (Text (t ++ word)) true) v rest

quoted_read : (r : SubselectReading) (t cs : List ℕ) (v : Subselect) → From (record r { word = t; spaced = true; slot = slot.Quoted }) v cs → QuotedRead r t cs v
quoted_read r t [] v e = absurd (cc)
quoted_read r t (c ∷ []) v e = branch (on []) v (c == 39) _ _ (λ u f. absurd (cc)) (λ u f. absurd (cc)) e
quoted_read r t (c ∷ d ∷ cs) v e =
    branch (on (d ∷ cs)) v (c == 39) _ _
    (λ u f. branch (on cs) v (d == 39) _ _ (λ w g. twice (eqb-true c 39 u) (eqb-true d 39 w) (quoted_read r (t ++ d ∷ []) cs v g))
    (λ w g. record { word = []; rest = d ∷ cs; is = ap (λ x. x ∷ d ∷ cs) (eqb-true c 39 u); more = rw (append-nil t) g }) f)
    (λ u f. once u (quoted_read r (t ++ c ∷ []) (d ∷ cs) v f)) e
  where
    twice : c ≡ 39 → d ≡ 39 → QuotedRead r (t ++ d ∷ []) cs v → QuotedRead r t (c ∷ d ∷ cs) v
    twice is also q =
        let same : (t ++ d ∷ []) ++ q.word ≡ t ++ (d ∷ q.word) = append_assoc t (d ∷ []) q.word in
        record { word = d ∷ q.word; rest = q.rest; is = rw (is, also, q.is) refl; more = subst (λ w. From (choice.with_condition r (Text w) true) v q.rest) same q.more }

    once : (c == 39) ≡ false → QuotedRead r (t ++ c ∷ []) (d ∷ cs) v → QuotedRead r t (c ∷ d ∷ cs) v
    once u q =
        let same : (t ++ c ∷ []) ++ q.word ≡ t ++ (c ∷ q.word) = append_assoc t (c ∷ []) q.word in
        record { word = c ∷ q.word; rest = q.rest; is = rw u (ap (λ xs. c ∷ xs) q.is); more = subst (λ w. From (choice.with_condition r (Text w) true) v q.rest) same q.more }

-- a value: a word may stand at once after a quoted text
abbrev pub closes : Compared → Bool
closes (Routed name) = false
closes (Text text) = true

abbrev AfterValue : SubselectReading → Subselect → Form
AfterValue r v text = (value : Compared) × (ComparedOf value ▸ From (choice.with_condition r value (closes value)) v) text

value_read : (r : SubselectReading) (cs : List ℕ) (v : Subselect) → From (before r slot.Value true) v cs → (Spacing ▸ AfterValue r v) cs
value_read r [] v e = absurd (cc)
value_read r (c ∷ cs) v e =
    branch (on cs) v (is_spacing c) _ _ (λ t f. in_front is_spacing (AfterValue r v) c cs t (value_read r cs v f))
    (λ t f. branch (on cs) v (c == 58) _ _ (λ u g. routed (eqb-true c 58 u) (name_read slot.Routed at_routed refl (λ reading x. refl) r true cs v g))
    (λ u g. branch (on cs) v (c == 39) _ _ (λ w h. quote (eqb-true c 39 w) (quoted_read r [] cs v h)) (λ w h. absurd (cc)) g) f) e
  where
    routed : c ≡ 58 → (Spacing ▸ AfterName r slot.Routed v) cs → (Spacing ▸ AfterValue r v) (c ∷ cs)
    routed is (a, b, cut, spaces, (name, (x, y, f, good, more))) =
        ([], c ∷ cs, refl, refl, (Routed name, grouped (Exactly (codes ":")) (Spacing ▸ Name name) _ (c ∷ cs) (c ∷ []) cs refl (ap (λ x. x ∷ []) is) (grouped Spacing (Name name) _ cs a b cut spaces (x, y, f, good, more))))

    quote : c ≡ 39 → QuotedRead r [] cs v → (Spacing ▸ AfterValue r v) (c ∷ cs)
    quote is q =
        let cut : c ∷ cs ≡ quoted q.word ++ q.rest = rw (is, q.is) (ap (λ xs. 39 ∷ xs) (sym (append_assoc (doubled q.word) (39 ∷ []) q.rest))) in
        ([], c ∷ cs, refl, refl, (Text q.word, (quoted q.word, q.rest, cut, refl, q.more)))

-- after a condition
abbrev Closing : SubselectReading → Subselect → Form
Closing r v = Exactly (codes ")") ▸ From (before r slot.Close true) v

abbrev AfterCondition : SubselectReading → Bool → Subselect → List ℕ → Type 0
AfterCondition r spaced v text = ((SpacingIf spaced ▸ (Keyword (codes "and") ▸ From (before r slot.Tested false) v)) text) ⊎ ((Spacing ▸ Closing r v) text)

only_and : (word : List ℕ) → choice.is_keyword slot.Next word ≡ true → word ≡ codes "and"
only_and word e = (bytes_eq-Decides word (codes "and")).0 e

and_read : (r : SubselectReading) (text : List ℕ) (v : Subselect) → Begun r slot.Next v text → (Keyword (codes "and") ▸ From (before r slot.Tested false) v) text
and_read r text v begun =
    let q = begun_keyword slot.Next at_next refl r text v begun in
    (q.2.0, q.2.1, q.2.2, q.2.3 ∙ only_and q.0 q.1, q.2.4)

next_read : (r : SubselectReading) (spaced : Bool) (cs : List ℕ) (v : Subselect) → From (before r slot.Next spaced) v cs → AfterCondition r spaced v cs
next_read r spaced [] v e = absurd (cc)
next_read r true (c ∷ cs) v e =
    branch (on cs) v (c == 41) _ _ (λ u g. inr ([], c ∷ cs, refl, refl, (c ∷ [], cs, refl, ap (λ x. x ∷ []) (eqb-true c 41 u), g)))
    (λ u g. branch (on cs) v (is_spacing c) _ _ (λ t f. longer t (next_read r true cs v f))
    (λ t f. branch (on cs) v (choice.begins_keyword slot.Next (to_ascii_lowercase c ∷ [])) _ _ (λ w h. inl ([], c ∷ cs, refl, refl, and_read r (c ∷ cs) v (c, cs, refl, w, h))) (λ w h. absurd (cc)) f) g) e
  where
    longer : is_spacing c ≡ true → AfterCondition r true v cs → AfterCondition r true v (c ∷ cs)
    longer t (inl q) = inl (in_front is_spacing (Keyword (codes "and") ▸ From (before r slot.Tested false) v) c cs t q)
    longer t (inr q) = inr (in_front is_spacing (Closing r v) c cs t q)
next_read r false (c ∷ cs) v e =
    branch (on cs) v (c == 41) _ _ (λ u g. inr ([], c ∷ cs, refl, refl, (c ∷ [], cs, refl, ap (λ x. x ∷ []) (eqb-true c 41 u), g)))
    (λ u g. branch (on cs) v (is_spacing c) _ _ (λ t f. longer t (next_read r true cs v f)) (λ t f. absurd (cc)) g) e
  where
    longer : is_spacing c ≡ true → AfterCondition r true v cs → AfterCondition r false v (c ∷ cs)
    longer t (inl q) = inl (spaced_gap (Keyword (codes "and") ▸ From (before r slot.Tested false) v) c cs t q)
    longer t (inr q) = inr (in_front is_spacing (Closing r v) c cs t q)

-- after the closing parenthesis
abbrev made : SubselectReading → Subselect
made r = record { by = r.by; column = r.column; table = r.table; conditions = r.conditions }

close_read : (r : SubselectReading) (cs : List ℕ) (v : Subselect) → From (before r slot.Close true) v cs → Spacing cs × (made r ≡ v)
close_read r [] v e = (refl, same e)
  where
    same : Some (made r) ≡ Some v → made r ≡ v
    same f = cc
close_read r (c ∷ cs) v e = branch (on cs) v (is_spacing c) _ _ (λ t f. let q = close_read r cs v f in (rw t q.0, q.1)) (λ t f. absurd (cc)) e

-- one condition, and what follows it
record OneCondition (r : SubselectReading) (cs : List ℕ) (v : Subselect) : Type 0 where
  condition : Condition
  is : (ConditionOf condition ▸ From (before (record r { tested = condition.column; conditions = r.conditions ++ condition ∷ [] }) slot.Next (closes condition.value)) v) cs

one_condition : (r : SubselectReading) (cs : List ℕ) (v : Subselect) → AfterName r slot.Tested v cs → OneCondition r cs v
one_condition r cs v (name, (a, t1, e1, named, f)) =
    let q = sign_read slot.Equals 61 slot.Value at_equals (record r { tested = name }) false t1 v f in
    let s = q.4 in
    let p = value_read (record r { tested = name }) s.1 v s.4 in
    let x = p.4 in
    record {
      condition = record { column = name; value = x.0 };
      is = grouped (Name name) _ _ cs a t1 e1 named (grouped Spacing _ _ t1 q.0 q.1 q.2 q.3 (grouped (Exactly (codes "=")) _ _ q.1 s.0 s.1 s.2 s.3 (grouped Spacing (ComparedOf x.0) _ s.1 p.0 p.1 p.2 p.3 x.1)));
    }

-- all conditions
record AllConditions (r : SubselectReading) (cs : List ℕ) (v : Subselect) : Type 0 where
  first : Condition
  others : List Condition
  made_is : v ≡ record { by = r.by; column = r.column; table = r.table; conditions = r.conditions ++ first ∷ others }
  is : (ConditionsOf (first ∷ others) ▸ (Spacing ▸ (Exactly (codes ")") ▸ Spacing))) cs

gap_counts : (text word : List ℕ) → Keyword (codes "and") word → 1 ≤ length word
gap_counts text [] e = absurd (cc)
gap_counts text (c ∷ cs) e = omega arith

shorter : (text a b x y z w u t : List ℕ) (n : ℕ) → length text ≤ suc n → text ≡ a ++ b → b ≡ x ++ y → y ≡ z ++ w → w ≡ u ++ t → 1 ≤ length z → length t ≤ n
shorter text a b x y z w u t n most e f g h some =
    let l : length text ≡ length a + length b = ap length e ∙ length-append a b in
    let m : length b ≡ length x + length y = ap length f ∙ length-append x y in
    let o : length y ≡ length z + length w = ap length g ∙ length-append z w in
    let p : length w ≡ length u + length t = ap length h ∙ length-append u t in
    omega (arith, l, m, o, p, most, some)

after_is : (value : Compared) (text : List ℕ) → SpacingIf (closes value) text → SpacingAfter value text
after_is (Routed name) text e = e
after_is (Text content) text e = e

onward : (n : ℕ) (r : SubselectReading) (cs : List ℕ) (v : Subselect) → length cs ≤ suc n → ((next : SubselectReading) (more : List ℕ) → length more ≤ n → AfterName next slot.Tested v more → AllConditions next more v)
    → (q : OneCondition r cs v) → AfterCondition (record r { tested = q.condition.column; conditions = r.conditions ++ q.condition ∷ [] }) (closes q.condition.value) v q.is.1 → AllConditions r cs v
onward n r cs v most again q (inr (a, b, e, spaces, (mark, more, f, is, g))) =
    let end = close_read (record r { tested = q.condition.column; conditions = r.conditions ++ q.condition ∷ [] }) more v g in
    record { first = q.condition; others = []; made_is = sym end.1; is = (q.is.0, q.is.1, q.is.2, q.is.3, (a, b, e, spaces, (mark, more, f, is, end.0))) }
onward n r cs v most again q (inl (a, b, e, spaces, (word, more, f, is, g))) =
    let next = record r { tested = q.condition.column; conditions = r.conditions ++ q.condition ∷ [] } in
    let s = name_read slot.Tested at_tested refl (λ reading x. refl) next false more v g in
    let rest = again next s.1 (shorter cs q.is.0 q.is.1 a b word more s.0 s.1 n most q.is.2 e f s.2 (gap_counts more word is)) s.4 in
    let all : (r.conditions ++ q.condition ∷ []) ++ rest.first ∷ rest.others ≡ r.conditions ++ q.condition ∷ rest.first ∷ rest.others = append_assoc r.conditions (q.condition ∷ []) (rest.first ∷ rest.others) in
    record {
      first = q.condition;
      others = rest.first ∷ rest.others;
      made_is = rest.made_is ∙ ap (λ (x : List Condition). record { by = r.by; column = r.column; table = r.table; conditions = x }) all;
      is = grouped (ConditionOf q.condition) _ _ cs q.is.0 q.is.1 q.is.2 q.is.3 (grouped (SpacingAfter q.condition.value) _ _ q.is.1 a b e (after_is q.condition.value a spaces)
          (grouped (Keyword (codes "and")) _ _ b word more f is (grouped Gap (ConditionsOf (rest.first ∷ rest.others)) _ more s.0 s.1 s.2 s.3 rest.is)));
    }

conditions : (n : ℕ) (r : SubselectReading) (cs : List ℕ) (v : Subselect) → length cs ≤ n → AfterName r slot.Tested v cs → AllConditions r cs v
conditions zero r [] v most (name, ([], b, e, (same, good), f)) = let none : is_name_text [] ≡ true = subst (λ w. is_name_text w ≡ true) (sym same) good in absurd (cc)
conditions zero r [] v most (name, (x ∷ xs, b, e, named, f)) = absurd (cc)
conditions zero r (c ∷ cs) v most e = absurd (omega (arith, most))
conditions (suc n) r cs v most e =
    let q = one_condition r cs v e in
    onward n r cs v most (λ next more shorter f. conditions n next more v shorter f) q (next_read (record r { tested = q.condition.column; conditions = r.conditions ++ q.condition ∷ [] }) (closes q.condition.value) q.is.1 v q.is.4)

-- the keyword of a node's column
which_is : (word : List ℕ) → choice.is_keyword slot.Which word ≡ true → word ≡ keyword_of (choice.node_column word)
which_is word e = at (bytes_eq word (codes "external_id")) (bytes_eq word (codes "node_id")) refl refl e
  where
    at : (a b : Bool) → bytes_eq word (codes "external_id") ≡ a → bytes_eq word (codes "node_id") ≡ b → (a || b) ≡ true → word ≡ keyword_of (choice.node_column word)
    at a true f g h = rw g ((bytes_eq-Decides word (codes "node_id")).0 g)
    at true false f g h = rw g ((bytes_eq-Decides word (codes "external_id")).0 f)
    at false false f g h = absurd (cc)

-- a slot of one keyword
one_keyword : (at : SubselectSlot) (is : IsWordSlot at) (no_name : choice.takes_name at ≡ false) (words : Keywords at) (keyword : List ℕ) (only : (word : List ℕ) → choice.is_keyword at word ≡ true → word ≡ keyword)
    (r : SubselectReading) (spaced : Bool) (cs : List ℕ) (v : Subselect) → From (before r at spaced) v cs → (SpacingIf spaced ▸ (Keyword keyword ▸ From (choice.finished_at at (within r at keyword)) v)) cs
one_keyword at is no_name words keyword only r spaced cs v e = by (keyword_read at is no_name words r spaced cs v e)
  where
    by : (SpacingIf spaced ▸ AfterKeyword r at v) cs → (SpacingIf spaced ▸ (Keyword keyword ▸ From (choice.finished_at at (within r at keyword)) v)) cs
    by (a, b, cut, spaces, (word, whole, (x, y, f, letters, more))) =
        let same : word ≡ keyword = only word whole in
        (a, b, cut, spaces, (x, y, f, letters ∙ same, subst (λ w. From (choice.finished_at at (within r at w)) v y) same more))

is_word : (keyword word : List ℕ) → bytes_eq word keyword ≡ true → word ≡ keyword
is_word keyword word e = (bytes_eq-Decides word keyword).0 e

-- from `where` on
abbrev Rest : List Condition → Form
Rest conditions = Gap ▸ Keyword (codes "where") ▸ Gap ▸ ConditionsOf conditions ▸ Spacing ▸ Exactly (codes ")") ▸ Spacing

record WhereRead (r : SubselectReading) (cs : List ℕ) (v : Subselect) : Type 0 where
  conditions : List Condition
  made_is : v ≡ record { by = r.by; column = r.column; table = r.table; conditions = r.conditions ++ conditions }
  is : Rest conditions cs

where_read : (r : SubselectReading) (cs : List ℕ) (v : Subselect) → From (before r slot.Where false) v cs → WhereRead r cs v
where_read r cs v e =
    let p = one_keyword slot.Where at_where refl (λ reading c. refl) (codes "where") (is_word (codes "where")) r false cs v e in
    let q = p.4 in
    let s = name_read slot.Tested at_tested refl (λ reading x. refl) r false q.1 v q.4 in
    let all = conditions (length s.1) r s.1 v (omega arith) s.4 in
    record { conditions = all.first ∷ all.others; made_is = all.made_is; is = (p.0, p.1, p.2, p.3, (q.0, q.1, q.2, q.3, (s.0, s.1, s.2, s.3, all.is))) }

-- from `select` on
record SelectRead (r : SubselectReading) (cs : List ℕ) (v : Subselect) : Type 0 where
  column : List ℕ
  table : List ℕ
  conditions : List Condition
  made_is : v ≡ record { by = r.by; column = column; table = table; conditions = r.conditions ++ conditions }
  is : (Spacing ▸ Keyword (codes "select") ▸ Gap ▸ Name column ▸ Gap ▸ Keyword (codes "from") ▸ Gap ▸ Name table ▸ Rest conditions) cs

select_read : (r : SubselectReading) (cs : List ℕ) (v : Subselect) → From (before r slot.Select true) v cs → SelectRead r cs v
select_read r cs v e =
    let p = one_keyword slot.Select at_select refl (λ reading c. refl) (codes "select") (is_word (codes "select")) r true cs v e in
    let q = p.4 in
    let s = name_read slot.Column at_column refl (λ reading x. refl) r false q.1 v q.4 in
    let (column, named) = s.4 in
    let t = one_keyword slot.From at_from refl (λ reading c. refl) (codes "from") (is_word (codes "from")) (record r { column = column }) false named.1 v named.4 in
    let u = t.4 in
    let w = name_read slot.Table at_table refl (λ reading x. refl) (record r { column = column }) false u.1 v u.4 in
    let (table, also) = w.4 in
    let all = where_read (record r { column = column; table = table }) also.1 v also.4 in
    record {
      column = column;
      table = table;
      conditions = all.conditions;
      made_is = all.made_is;
      is = (p.0, p.1, p.2, p.3, (q.0, q.1, q.2, q.3, (s.0, s.1, s.2, s.3, (named.0, named.1, named.2, named.3, (t.0, t.1, t.2, t.3, (u.0, u.1, u.2, u.3, (w.0, w.1, w.2, w.3, (also.0, also.1, also.2, also.3, all.is))))))));
    }

pub sound : (cs : List ℕ) (v : Subselect) → accept choice.beginning cs ≡ Some v → IsSubselectForm cs v
sound cs v e =
    let p = one_keyword slot.Prefix at_prefix refl (λ reading c. refl) (codes "c") (is_word (codes "c")) choice.beginning true cs v e in
    let q = p.4 in
    let s = sign_read slot.Dot 46 slot.Which at_dot choice.beginning false q.1 v q.4 in
    let t = s.4 in
    let u = keyword_read slot.Which at_which refl (λ reading c. refl) choice.beginning true t.1 v t.4 in
    let word = u.4 in
    let w = word.2 in
    let by = choice.node_column word.0 in
    let x = one_keyword slot.In at_in refl (λ reading c. refl) (codes "in") (is_word (codes "in")) (record choice.beginning { by = by }) false w.1 v w.4 in
    let y = x.4 in
    let z = sign_read slot.Open 40 slot.Select at_open (record choice.beginning { by = by }) false y.1 v y.4 in
    let o = z.4 in
    let all = select_read (record choice.beginning { by = by }) o.1 v o.4 in
    subst (λ choice. IsSubselectForm cs choice) (sym all.made_is) (
      p.0,
      p.1,
      p.2,
      p.3,
      (
        q.0,
        q.1,
        q.2,
        q.3,
        (
          s.0,
          s.1,
          s.2,
          s.3,
          (
            t.0,
            t.1,
            t.2,
            t.3,
            (
              u.0,
              u.1,
              u.2,
              u.3,
              (
                w.0,
                w.1,
                w.2,
                w.3 ∙ which_is word.0 word.1,
                (x.0, x.1, x.2, x.3, (y.0, y.1, y.2, y.3, (z.0, z.1, z.2, z.3, (o.0, o.1, o.2, o.3, all.is)))),
              ),
            ),
          ),
        ),
      ),
    )
