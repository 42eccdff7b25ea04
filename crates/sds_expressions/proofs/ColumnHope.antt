-- From each state of the reading of a `column` router's expression that is reached some way to go on has the form.
use Rattle.std.proofs.Common.{◌≡◌, ℕ, ◌⊎◌, inl, inr, Bool, true, false, ◌||◌, ◌==◌, if◌then◌else◌, nat_le, List, [], ◌∷◌, ◌++◌, length, drop, codes, Option, Some, None, Err, refl, sym, ap, subst, ◌∙◌, arith}
use Rattle.std.proofs.lemmas.Bool.{and_parts}
use Rattle.std.proofs.lemmas.Bool.Decides.{nat_tests, Decides-eqb}
use Rattle.std.proofs.lemmas.List.{append_assoc, append-nil}
use Rattle.std.proofs.lemmas.Slice.Eq.{starts_is}
use Rattle.std.proofs.Math.Utf8.{scalar}
use Rattle.std.specs.List.{starts_with}
use Rattle.std.specs.Str.{all_scalars}
use Rattle.sds_types.specs.declared.column_test.ColumnTest.{ColumnTest}
use Rattle.sds_types.specs.declared.column_test.Operand.{Operand}
use Rattle.sds_types.specs.declared.column_test.Operand.TheVariants.{NodeId, ExternalId, NodeGroupId, Text}
use Rattle.sds_expressions.specs.declared.column_router.ColumnPart.{ColumnPart}
use Rattle.sds_expressions.specs.declared.column_router.ColumnPart.TheVariants as part
use Rattle.sds_expressions.specs.declared.column_router.ColumnReading.{ColumnReading}
use Rattle.sds_expressions.proofs.Readings.{IsBadPlace}
use Rattle.sds_value.specs.Names.{is_name_character}
use Rattle.sds_expressions.specs.ColumnForm.{begins_old, is_bare_character}
use Rattle.sds_expressions.specs.ColumnRouter as column
use Rattle.sds_expressions.proofs.Readings as readings

abbrev CanEnd : ColumnReading → Type 0
CanEnd reading = readings.CanEnd column.step column.finish reading

done : (reading : ColumnReading) (tests : List ColumnTest) → column.finish reading ≡ Some tests → CanEnd reading
done reading tests is = readings.done column.step column.finish reading tests is

one_more : (reading next : ColumnReading) (c : ℕ) → column.step reading c ≡ Some next → scalar c ≡ true → CanEnd next → CanEnd reading
one_more reading next c is good can = readings.one_more column.step column.finish reading next c is good can

-- in a word after a colon stands a prefix of a word
abbrev HoldsAt : ColumnPart → List ℕ → Type 0
HoldsAt part.Colon text = column.begins_word text ≡ true
HoldsAt other text = Unit {0}

abbrev Holds : ColumnReading → Type 0
Holds reading = HoldsAt reading.part reading.text

-- one state after another
kept : (reading next : ColumnReading) → Holds reading → Some reading ≡ Some next → Holds next
kept reading next holds e = let same : reading ≡ next = cc in subst Holds same holds

gone : (next : ColumnReading) → None ≡ Some next → Holds next
gone next e = absurd (cc)

branch : (t : Bool) (x y : Option ColumnReading) (next : ColumnReading) → (t ≡ true → x ≡ Some next → Holds next) → (y ≡ Some next → Holds next) → (if t then x else y) ≡ Some next → Holds next
branch true x y next f g e = f refl e
branch false x y next f g e = g e

ended : (reading next : ColumnReading) (c : ℕ) (operand : Option Operand) → column.ended reading c operand ≡ Some next → Holds next
ended reading next c None e = absurd (cc)
ended reading next c (Some operand) e =
    branch (c == 32) _ _ next (λ _ f. kept _ next tt f) (λ f. branch (c == 10) _ _ next (λ _ g. kept _ next tt g) (gone next) f) e

named : (reading next : ColumnReading) (c : ℕ) → column.step_named reading c ≡ Some next → Holds next
named reading next c e =
    branch (c == 32) _ _ next (λ _ f. kept _ next tt f) (λ f. branch (c == 61) _ _ next (λ _ g. kept _ next tt g) (λ g. branch (c == 33) _ _ next (λ _ h. kept _ next tt h) (gone next) g) f) e

before : (reading next : ColumnReading) (c : ℕ) → column.step_before reading c ≡ Some next → Holds next
before reading next c e = branch (c == 32) _ _ next (λ _ f. kept _ next tt f) (λ f. branch (is_name_character c) _ _ next (λ _ g. kept _ next tt g) (gone next) f) e

step_kept : (at : ColumnPart) (reading next : ColumnReading) (c : ℕ) → reading.part ≡ at → Holds reading → column.step_at at reading c ≡ Some next → Holds next
step_kept part.Before reading next c is holds e = before reading next c e
step_kept part.Fresh reading next c is holds e = before reading next c e
step_kept part.Name reading next c is holds e =
    branch (is_name_character c) _ _ next (λ _ f. branch (column.is_short (reading.name ++ c ∷ [])) _ _ next (λ _ g. kept _ next holds g) (gone next) f)
    (λ f. branch (column.is_whole reading.name) _ _ next (λ _ g. named reading next c g) (gone next) f) e
step_kept part.Named reading next c is holds e = named reading next c e
step_kept part.Bang reading next c is holds e = branch (c == 61) _ _ next (λ _ f. kept _ next tt f) (gone next) e
step_kept part.Sign reading next c is holds e =
    branch (c == 32) _ _ next (λ _ f. kept _ next holds f)
    (λ f. branch (c == 39) _ _ next (λ _ g. kept _ next tt g)
    (λ g. branch (c == 58) _ _ next (λ _ h. kept _ next refl h)
    (λ h. branch (is_bare_character c) _ _ next (λ _ i. kept _ next tt i) (gone next) h) g) f) e
step_kept part.Colon reading next c is holds e =
    branch (column.begins_word (reading.text ++ c ∷ [])) _ _ next (λ test f. kept _ next (rw is test) f)
    (λ f. ended reading next c (column.operand_at part.Colon reading.text) f) e
step_kept part.Bare reading next c is holds e =
    branch (is_bare_character c) _ _ next (λ _ f. kept _ next (rw is tt) f) (λ f. ended reading next c (column.operand_at part.Bare reading.text) f) e
step_kept part.Quoted reading next c is holds e = branch (c == 39) _ _ next (λ _ f. kept _ next tt f) (λ f. kept _ next (rw is tt) f) e
step_kept part.Quote reading next c is holds e =
    branch (c == 39) _ _ next (λ _ f. kept _ next tt f) (λ f. ended reading next c (column.operand_at part.Quote reading.text) f) e
step_kept part.After reading next c is holds e =
    branch (c == 32) _ _ next (λ _ f. kept _ next holds f) (λ f. branch (c == 10) _ _ next (λ _ g. kept _ next tt g) (λ g. branch (c == 111) _ _ next (λ _ h. kept _ next tt h) (gone next) g) f) e
step_kept part.Letter reading next c is holds e = branch (c == 114) _ _ next (λ _ f. kept _ next tt f) (gone next) e
step_kept part.Joined reading next c is holds e = branch (c == 32) _ _ next (λ _ f. kept _ next tt f) (gone next) e

keeps : (reading next : ColumnReading) (c : ℕ) → Holds reading → column.step reading c ≡ Some next → Holds next
keeps reading next c holds e = step_kept reading.part reading next c refl holds e

-- after a value, and before one
can_bare : (reading : ColumnReading) → reading.part ≡ part.Bare → CanEnd reading
can_bare reading is = done reading (reading.tests ++ column.test_of reading (column.bare_operand reading.text) ∷ []) (rw is refl)

can_quote : (reading : ColumnReading) → reading.part ≡ part.Quote → CanEnd reading
can_quote reading is = done reading (reading.tests ++ column.test_of reading (Text reading.text) ∷ []) (rw is refl)

can_quoted : (reading : ColumnReading) → reading.part ≡ part.Quoted → CanEnd reading
can_quoted reading is = one_more reading (column.at_part reading part.Quote) 39 (rw is refl) refl (can_quote (column.at_part reading part.Quote) refl)

can_sign : (reading : ColumnReading) → reading.part ≡ part.Sign → CanEnd reading
can_sign reading is = let next = record reading { text = 98 ∷ []; part = part.Bare } in one_more reading next 98 (rw is refl) refl (can_bare next refl)

can_bang : (reading : ColumnReading) → reading.part ≡ part.Bang → CanEnd reading
can_bang reading is = let next = record reading { differs = true; part = part.Sign } in one_more reading next 61 (rw is refl) refl (can_sign next refl)

-- after a name, and in one
can_named : (reading : ColumnReading) → reading.part ≡ part.Named → CanEnd reading
can_named reading is = let next = record reading { differs = false; part = part.Sign } in one_more reading next 61 (rw is refl) refl (can_sign next refl)

can_whole : (reading : ColumnReading) → reading.part ≡ part.Name → column.is_whole reading.name ≡ true → CanEnd reading
can_whole reading is whole = let next = record reading { differs = false; part = part.Sign } in one_more reading next 61 (rw (is, whole) refl) refl (can_sign next refl)

no_more : (xs : List ℕ) → nat_le 1 (length xs) ≡ false → xs ≡ []
no_more [] h = refl
no_more (x ∷ xs) h = absurd (grind (arith, nat_tests))

pub old_name : (name : List ℕ) → begins_old name ≡ true → name ≡ codes "OLD_" ++ drop 4 name
old_name name e = (starts_is Decides-eqb name (codes "OLD_") (begins_old name) refl).0 e

-- a name that has no character yet is empty or `OLD_`
nameless : (name : List ℕ) → column.is_whole name ≡ false → (name ≡ []) ⊎ (name ≡ codes "OLD_")
nameless name h = at (begins_old name) refl
  where
    at : (t : Bool) → begins_old name ≡ t → (name ≡ []) ⊎ (name ≡ codes "OLD_")
    at true e = let nothing : drop 4 name ≡ [] = no_more (drop 4 name) (rw e at h) in inr (old_name name e ∙ ap (λ rest. codes "OLD_" ++ rest) nothing)
    at false e = inl (no_more name (rw e at h))

can_name : (reading : ColumnReading) → reading.part ≡ part.Name → CanEnd reading
can_name reading is = at (column.is_whole reading.name) refl
  where
    begun : (name : List ℕ) → (name ≡ []) ⊎ (name ≡ codes "OLD_") → (column.is_short (name ++ 97 ∷ []) ≡ true) × (column.is_whole (name ++ 97 ∷ []) ≡ true)
    begun name (inl e) = (rw e refl, rw e refl)
    begun name (inr e) = (rw e refl, rw e refl)

    at : (t : Bool) → column.is_whole reading.name ≡ t → CanEnd reading
    at true e = can_whole reading is e
    at false e =
        let grows = begun reading.name (nameless reading.name e) in
        let next = record reading { name = reading.name ++ 97 ∷ [] } in
        one_more reading next 97 (rw (is, grows.0) refl) refl (can_whole next is grows.1)

can_before : (reading : ColumnReading) → reading.part ≡ part.Before → CanEnd reading
can_before reading is = let next = record reading { name = 97 ∷ []; part = part.Name } in one_more reading next 97 (rw is refl) refl (can_name next refl)

can_joined : (reading : ColumnReading) → reading.part ≡ part.Joined → CanEnd reading
can_joined reading is = one_more reading (column.at_part reading part.Before) 32 (rw is refl) refl (can_before (column.at_part reading part.Before) refl)

can_letter : (reading : ColumnReading) → reading.part ≡ part.Letter → CanEnd reading
can_letter reading is = one_more reading (column.at_part reading part.Joined) 114 (rw is refl) refl (can_joined (column.at_part reading part.Joined) refl)

-- in a word after a colon
abbrev IsWord : List ℕ → Type 0
IsWord word = (word ≡ codes "NODE_ID") ⊎ ((word ≡ codes "EXTERNAL_ID") ⊎ (word ≡ codes "NODE_GROUP_ID"))

abbrev front : List ℕ → List ℕ → Bool
front word text = starts_with (λ a b. a == b) word text

pub front_is : (word text rest : List ℕ) → word ≡ text ++ rest → starts_with (λ a b. a == b) word text ≡ true
front_is word text rest e = (starts_is Decides-eqb word text (starts_with (λ a b. a == b) word text) refl).1 rest e

pub rest_is : (word text : List ℕ) → starts_with (λ a b. a == b) word text ≡ true → word ≡ text ++ drop (length text) word
rest_is word text e = (starts_is Decides-eqb word text (starts_with (λ a b. a == b) word text) refl).0 e

any_of : (a b c : Bool) → (a ≡ true) ⊎ ((b ≡ true) ⊎ (c ≡ true)) → (a || (b || c)) ≡ true
any_of true b c h = refl
any_of false true c h = refl
any_of false false true h = refl
any_of false false false (inl h) = h
any_of false false false (inr (inl h)) = h
any_of false false false (inr (inr h)) = h

one_of : (a b c : Bool) → (a || (b || c)) ≡ true → (a ≡ true) ⊎ ((b ≡ true) ⊎ (c ≡ true))
one_of true b c h = inl refl
one_of false true c h = inr (inl refl)
one_of false false c h = inr (inr h)

begins : (word text rest : List ℕ) → IsWord word → word ≡ text ++ rest → column.begins_word text ≡ true
begins word text rest is e = any_of (front (codes "NODE_ID") text) (front (codes "EXTERNAL_ID") text) (front (codes "NODE_GROUP_ID") text) (at is)
  where
    at : IsWord word → (front (codes "NODE_ID") text ≡ true) ⊎ ((front (codes "EXTERNAL_ID") text ≡ true) ⊎ (front (codes "NODE_GROUP_ID") text ≡ true))
    at (inl w) = inl (front_is (codes "NODE_ID") text rest (sym w ∙ e))
    at (inr (inl w)) = inr (inl (front_is (codes "EXTERNAL_ID") text rest (sym w ∙ e)))
    at (inr (inr w)) = inr (inr (front_is (codes "NODE_GROUP_ID") text rest (sym w ∙ e)))

operand : (word : List ℕ) → IsWord word → (value : Operand) × (column.operand_named word ≡ Some value)
operand word (inl w) = (NodeId, rw w refl)
operand word (inr (inl w)) = (ExternalId, rw w refl)
operand word (inr (inr w)) = (NodeGroupId, rw w refl)

word_scalars : (word : List ℕ) → IsWord word → all_scalars word ≡ true
word_scalars word (inl w) = rw w refl
word_scalars word (inr (inl w)) = rw w refl
word_scalars word (inr (inr w)) = rw w refl

pub back_scalars : (cs ds : List ℕ) → all_scalars (cs ++ ds) ≡ true → all_scalars ds ≡ true
back_scalars [] ds e = e
back_scalars (c ∷ cs) ds e = back_scalars cs ds (and_parts (scalar c) (all_scalars (cs ++ ds)) e).1

can_word : (rest word : List ℕ) (reading : ColumnReading) → reading.part ≡ part.Colon → IsWord word → word ≡ reading.text ++ rest → CanEnd reading
can_word [] word reading is named e =
    let text : reading.text ≡ word = sym (e ∙ append-nil reading.text) in
    let means = operand word named in
    done reading (reading.tests ++ column.test_of reading means.0 ∷ []) (rw (is, text, means.1) refl)
can_word (c ∷ rest) word reading is named e =
    let longer : word ≡ (reading.text ++ c ∷ []) ++ rest = e ∙ sym (append_assoc reading.text (c ∷ []) rest) in
    let good : all_scalars (c ∷ rest) ≡ true = back_scalars reading.text (c ∷ rest) (ap all_scalars (sym e) ∙ word_scalars word named) in
    let next = record reading { text = reading.text ++ c ∷ [] } in
    one_more reading next c (rw (is, begins word (reading.text ++ c ∷ []) rest named longer) refl) (and_parts (scalar c) (all_scalars rest) good).0 (can_word rest word next is named longer)

can_colon : (reading : ColumnReading) → reading.part ≡ part.Colon → column.begins_word reading.text ≡ true → CanEnd reading
can_colon reading is holds = at (one_of (front (codes "NODE_ID") reading.text) (front (codes "EXTERNAL_ID") reading.text) (front (codes "NODE_GROUP_ID") reading.text) holds)
  where
    at : (front (codes "NODE_ID") reading.text ≡ true) ⊎ ((front (codes "EXTERNAL_ID") reading.text ≡ true) ⊎ (front (codes "NODE_GROUP_ID") reading.text ≡ true)) → CanEnd reading
    at (inl e) = can_word (drop (length reading.text) (codes "NODE_ID")) (codes "NODE_ID") reading is (inl refl) (rest_is (codes "NODE_ID") reading.text e)
    at (inr (inl e)) = can_word (drop (length reading.text) (codes "EXTERNAL_ID")) (codes "EXTERNAL_ID") reading is (inr (inl refl)) (rest_is (codes "EXTERNAL_ID") reading.text e)
    at (inr (inr e)) = can_word (drop (length reading.text) (codes "NODE_GROUP_ID")) (codes "NODE_GROUP_ID") reading is (inr (inr refl)) (rest_is (codes "NODE_GROUP_ID") reading.text e)

can_at : (at : ColumnPart) (reading : ColumnReading) → reading.part ≡ at → HoldsAt at reading.text → CanEnd reading
can_at part.Before reading is holds = can_before reading is
can_at part.Fresh reading is holds = done reading reading.tests (rw is refl)
can_at part.Name reading is holds = can_name reading is
can_at part.Named reading is holds = can_named reading is
can_at part.Bang reading is holds = can_bang reading is
can_at part.Sign reading is holds = can_sign reading is
can_at part.Colon reading is holds = can_colon reading is holds
can_at part.Bare reading is holds = can_bare reading is
can_at part.Quoted reading is holds = can_quoted reading is
can_at part.Quote reading is holds = can_quote reading is
can_at part.After reading is holds = done reading reading.tests (rw is refl)
can_at part.Letter reading is holds = can_letter reading is
can_at part.Joined reading is holds = can_joined reading is

can : (reading : ColumnReading) → Holds reading → CanEnd reading
can reading holds = can_at reading.part reading refl holds

-- the first bad place
pub column_bad : (text : List ℕ) (place : ℕ) → column.tests_of text ≡ Err place → IsBadPlace column.tests_of text place
column_bad text place is = readings.first column.step column.finish column.tests_of column.beginning (λ text. refl) Holds keeps can tt text place is
