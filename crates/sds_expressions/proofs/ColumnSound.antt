-- What the reading of a `column` router's expression accepts has its form.
use Rattle.std.proofs.Common.{◌≡◌, ℕ, zero, suc, ◌+◌, ◌≤◌, ◌⊎◌, inl, inr, Bool, true, false, ◌==◌, if◌then◌else◌, nat_le, List, [], ◌∷◌, ◌++◌, length, drop, codes, Option, Some, None, option_and_then, bytes_eq, refl, sym, ap, subst, ◌∙◌, arith, append_assoc, append-nil, eqb-true, length-append}
use Rattle.std.proofs.lemmas.Bool.Decides.{nat_tests}
use Rattle.std.proofs.lemmas.Slice.Eq.{bytes_eq-Decides}
use Rattle.std.specs.List.{list_all}
use Rattle.sds_types.specs.declared.column_test.ColumnTest.{ColumnTest}
use Rattle.sds_types.specs.declared.column_test.Operand.{Operand}
use Rattle.sds_types.specs.declared.column_test.Operand.TheVariants.{NodeId, ExternalId, NodeGroupId, Text}
use Rattle.sds_value.specs.Names.{is_name_text, is_name_character}
use Rattle.sds_expressions.specs.declared.column_router.ColumnPart.{ColumnPart}
use Rattle.sds_expressions.specs.declared.column_router.ColumnPart.TheVariants as part
use Rattle.sds_expressions.specs.declared.column_router.ColumnReading.{ColumnReading}
use Rattle.sds_expressions.specs.ColumnRouter as column
use Rattle.sds_expressions.specs.Forms.{Form, ◌▸◌, AnyOf}
use Rattle.sds_expressions.specs.ColumnForm.{is_space, begins_old, is_bare_character, NameOf, SignOf, is_bare, doubled, quoted, OperandOf, TestOf, IsJoint, TestsOf, OptionalFeed, IsColumnForm}
use Rattle.sds_expressions.proofs.Accepting.{value_of, branch, in_front, grouped}
use Rattle.sds_expressions.proofs.ColumnHope.{old_name}

abbrev pub accept : ColumnReading → List ℕ → Option (List ColumnTest)
accept reading text = value_of column.step column.finish reading text

abbrev pub on : List ℕ → ColumnReading → Option (List ColumnTest)
on text reading = accept reading text

-- the states, by what is known in them
abbrev pub before : ColumnReading → ColumnReading
before reading = record reading { part = part.Before }

abbrev pub in_name : ColumnReading → List ℕ → ColumnReading
in_name reading name = record reading { name = name; part = part.Name }

abbrev pub named : ColumnReading → List ℕ → ColumnReading
named reading name = record reading { name = name; part = part.Named }

abbrev pub signed : ColumnReading → Bool → ColumnReading
signed reading differs = record reading { differs = differs; part = part.Sign }

abbrev pub with_text : ColumnReading → List ℕ → ColumnPart → ColumnReading
with_text reading text next = record reading { text = text; part = next }

abbrev pub tested : ColumnReading → Operand → ColumnReading
tested reading operand = record reading { tests = reading.tests ++ column.test_of reading operand ∷ [] }

-- what follows a value
abbrev pub after : ColumnReading → Operand → List ℕ → Option (List ColumnTest)
after reading operand [] = Some (tested reading operand).tests
after reading operand (c ∷ cs) = option_and_then (on cs) (column.ended reading c (Some operand))

short_one : (c : ℕ) → column.is_short (c ∷ []) ≡ true
short_one c = at (begins_old (c ∷ []))
  where
    at : (t : Bool) → nat_le (length (if t then drop 4 (c ∷ []) else c ∷ [])) 50 ≡ true
    at true = refl
    at false = refl

-- spaces before a name
to_name : (r : ColumnReading) (cs : List ℕ) (v : List ColumnTest) → accept (before r) cs ≡ Some v → (AnyOf is_space ▸ (λ rest. accept (in_name r []) rest ≡ Some v)) cs
to_name r [] v e = absurd (cc)
to_name r (c ∷ cs) v e =
    branch (on cs) v (c == 32) _ _ (λ t f. in_front is_space _ c cs t (to_name r cs v f))
    (λ t f. branch (on cs) v (is_name_character c) _ _ (λ u g. ([], c ∷ cs, refl, refl, rw (u, short_one c) g)) (λ u g. absurd (cc)) f) e

-- a name
pub record NameRead (r : ColumnReading) (n cs : List ℕ) (v : List ColumnTest) : Type 0 where
  pub word : List ℕ
  pub rest : List ℕ
  pub is : cs ≡ word ++ rest
  pub all : list_all is_name_character word ≡ true
  pub short : column.is_short (n ++ word) ≡ true
  pub whole : column.is_whole (n ++ word) ≡ true
  pub more : accept (named r (n ++ word)) rest ≡ Some v

to_named : (r : ColumnReading) (n cs : List ℕ) (v : List ColumnTest) → column.is_short n ≡ true → accept (in_name r n) cs ≡ Some v → NameRead r n cs v
to_named r n [] v short e = absurd (cc)
to_named r n (c ∷ cs) v short e =
    branch (on cs) v (is_name_character c) _ _
    (λ t f. branch (on cs) v (column.is_short (n ++ c ∷ [])) _ _ (λ s g. longer t (to_named r (n ++ c ∷ []) cs v s g)) (λ s g. absurd (cc)) f)
    (λ t f. branch (on cs) v (column.is_whole n) _ _ (λ w g. record { word = []; rest = c ∷ cs; is = refl; all = refl; short = rw (append-nil n) short; whole = rw (append-nil n) w; more = rw (append-nil n) g }) (λ w g. absurd (cc)) f) e
  where
    longer : is_name_character c ≡ true → NameRead r (n ++ c ∷ []) cs v → NameRead r n (c ∷ cs) v
    longer t q =
        let same : (n ++ c ∷ []) ++ q.word ≡ n ++ (c ∷ q.word) = append_assoc n (c ∷ []) q.word in
        record {
          word = c ∷ q.word;
          rest = q.rest;
          is = ap (λ xs. c ∷ xs) q.is;
          all = rw t q.all;
          short = subst (λ w. column.is_short w ≡ true) same q.short;
          whole = subst (λ w. column.is_whole w ≡ true) same q.whole;
          more = subst (λ w. accept (named r w) q.rest ≡ Some v) same q.more;
        }

-- what a whole name names
name_of : (word : List ℕ) → list_all is_name_character word ≡ true → column.is_short word ≡ true → column.is_whole word ≡ true → NameOf (begins_old word) (column.column_name word) word
name_of word all short whole = at (begins_old word) refl
  where
    parts : (t : Bool) → begins_old word ≡ t → column.column_name word ≡ (if t then drop 4 word else word)
    parts t e = rw e refl

    text : (name : List ℕ) → list_all is_name_character name ≡ true → nat_le (length name) 50 ≡ true → nat_le 1 (length name) ≡ true → is_name_text name ≡ true
    text name all short whole = rw (whole, short, all) refl

    at : (t : Bool) → begins_old word ≡ t → NameOf (begins_old word) (column.column_name word) word
    at true e =
        let old : word ≡ codes "OLD_" ++ drop 4 word = old_name word e in
        let good : list_all is_name_character (drop 4 word) ≡ true = subst (λ w. list_all is_name_character w ≡ true) old all in
        rw e (old, text (drop 4 word) good (rw e at short) (rw e at whole))
    at false e = rw e (refl, text word all (rw e at short) (rw e at whole), e)

-- spaces and a sign
to_sign : (r : ColumnReading) (n cs : List ℕ) (v : List ColumnTest) → accept (named r n) cs ≡ Some v
    → (AnyOf is_space ▸ (λ rest. (differs : Bool) × (SignOf differs ▸ (λ more. accept (signed (named r n) differs) more ≡ Some v)) rest)) cs
to_sign r n [] v e = absurd (cc)
to_sign r n (c ∷ cs) v e =
    branch (on cs) v (c == 32) _ _ (λ t f. in_front is_space _ c cs t (to_sign r n cs v f))
    (λ t f. branch (on cs) v (c == 61) _ _ (λ u g. ([], c ∷ cs, refl, refl, (false, (c ∷ [], cs, refl, ap (λ x. x ∷ []) (eqb-true c 61 u), g))))
    (λ u g. branch (on cs) v (c == 33) _ _ (λ w h. bang (eqb-true c 33 w) cs h) (λ w h. absurd (cc)) g) f) e
  where
    bang : c ≡ 33 → (ds : List ℕ) → accept (record r { name = n; part = part.Bang }) ds ≡ Some v
        → (AnyOf is_space ▸ (λ rest. (differs : Bool) × (SignOf differs ▸ (λ more. accept (signed (named r n) differs) more ≡ Some v)) rest)) (c ∷ ds)
    bang is [] h = absurd (cc)
    bang is (d ∷ ds) h = branch (on ds) v (d == 61) _ _ (λ u g. ([], c ∷ d ∷ ds, refl, refl, (true, (c ∷ d ∷ [], ds, refl, rw (is, eqb-true d 61 u) refl, g)))) (λ u g. absurd (cc)) h

-- a bare text, to its end
pub record BareRead (r : ColumnReading) (t cs : List ℕ) (v : List ColumnTest) : Type 0 where
  pub word : List ℕ
  pub rest : List ℕ
  pub is : cs ≡ word ++ rest
  pub all : list_all is_bare_character word ≡ true
  pub more : after (with_text r (t ++ word) part.Sign) (column.bare_operand (t ++ word)) rest ≡ Some v

to_bare : (r : ColumnReading) (t cs : List ℕ) (v : List ColumnTest) → accept (with_text r t part.Bare) cs ≡ Some v → BareRead r t cs v
to_bare r t [] v e = record { word = []; rest = []; is = refl; all = refl; more = rw (append-nil t) e }
to_bare r t (c ∷ cs) v e =
    branch (on cs) v (is_bare_character c) _ _ (λ u f. longer u (to_bare r (t ++ c ∷ []) cs v f))
    (λ u f. record { word = []; rest = c ∷ cs; is = refl; all = refl; more = rw (append-nil t) f }) e
  where
    longer : is_bare_character c ≡ true → BareRead r (t ++ c ∷ []) cs v → BareRead r t (c ∷ cs) v
    longer u q =
        let same : (t ++ c ∷ []) ++ q.word ≡ t ++ (c ∷ q.word) = append_assoc t (c ∷ []) q.word in
        record { word = c ∷ q.word; rest = q.rest; is = ap (λ xs. c ∷ xs) q.is; all = rw u q.all; more = subst (λ w. after (with_text r w part.Sign) (column.bare_operand w) q.rest ≡ Some v) same q.more }

-- a text between quotes, from after the first quote
pub record QuotedRead (r : ColumnReading) (t cs : List ℕ) (v : List ColumnTest) : Type 0 where
  pub word : List ℕ
  pub rest : List ℕ
  pub is : cs ≡ doubled word ++ 39 ∷ rest
  pub more : after (with_text r (t ++ word) part.Sign) (Text (t ++ word)) rest ≡ Some v

to_quoted : (r : ColumnReading) (t cs : List ℕ) (v : List ColumnTest) → accept (with_text r t part.Quoted) cs ≡ Some v → QuotedRead r t cs v
to_quoted r t [] v e = absurd (cc)
to_quoted r t (c ∷ []) v e =
    branch (on []) v (c == 39) _ _ (λ u f. record { word = []; rest = []; is = ap (λ x. x ∷ []) (eqb-true c 39 u); more = rw (append-nil t) f }) (λ u f. absurd (cc)) e
to_quoted r t (c ∷ d ∷ cs) v e =
    branch (on (d ∷ cs)) v (c == 39) _ _
    (λ u f. branch (on cs) v (d == 39) _ _ (λ w g. twice (eqb-true c 39 u) (eqb-true d 39 w) (to_quoted r (t ++ d ∷ []) cs v g))
    (λ w g. record { word = []; rest = d ∷ cs; is = ap (λ x. x ∷ d ∷ cs) (eqb-true c 39 u); more = rw (append-nil t) g }) f)
    (λ u f. once u (to_quoted r (t ++ c ∷ []) (d ∷ cs) v f)) e
  where
    twice : c ≡ 39 → d ≡ 39 → QuotedRead r (t ++ d ∷ []) cs v → QuotedRead r t (c ∷ d ∷ cs) v
    twice is also q =
        let same : (t ++ d ∷ []) ++ q.word ≡ t ++ (d ∷ q.word) = append_assoc t (d ∷ []) q.word in
        record { word = d ∷ q.word; rest = q.rest; is = rw (is, also, q.is) refl; more = subst (λ w. after (with_text r w part.Sign) (Text w) q.rest ≡ Some v) same q.more }

    once : (c == 39) ≡ false → QuotedRead r (t ++ c ∷ []) (d ∷ cs) v → QuotedRead r t (c ∷ d ∷ cs) v
    once u q =
        let same : (t ++ c ∷ []) ++ q.word ≡ t ++ (c ∷ q.word) = append_assoc t (c ∷ []) q.word in
        record { word = c ∷ q.word; rest = q.rest; is = rw u (ap (λ xs. c ∷ xs) q.is); more = subst (λ w. after (with_text r w part.Sign) (Text w) q.rest ≡ Some v) same q.more }

-- a word after a colon
pub record WordRead (r : ColumnReading) (t cs : List ℕ) (v : List ColumnTest) : Type 0 where
  pub word : List ℕ
  pub rest : List ℕ
  pub is : cs ≡ word ++ rest
  pub operand : Operand
  pub means : column.operand_named (t ++ word) ≡ Some operand
  pub more : after (with_text r (t ++ word) part.Sign) operand rest ≡ Some v

to_word : (r : ColumnReading) (t cs : List ℕ) (v : List ColumnTest) → accept (with_text r t part.Colon) cs ≡ Some v → WordRead r t cs v
to_word r t [] v e = at (column.operand_named t) refl e
  where
    at : (o : Option Operand) → column.operand_named t ≡ o → column.tests_ended (with_text r t part.Colon) o ≡ Some v → WordRead r t [] v
    at None is f = absurd (cc)
    at (Some operand) is f = record { word = []; rest = []; is = refl; operand = operand; means = rw (append-nil t) is; more = f }
to_word r t (c ∷ cs) v e =
    branch (on cs) v (column.begins_word (t ++ c ∷ [])) _ _ (λ u f. longer (to_word r (t ++ c ∷ []) cs v f)) (λ u f. at (column.operand_named t) refl f) e
  where
    longer : WordRead r (t ++ c ∷ []) cs v → WordRead r t (c ∷ cs) v
    longer q =
        let same : (t ++ c ∷ []) ++ q.word ≡ t ++ (c ∷ q.word) = append_assoc t (c ∷ []) q.word in
        record {
          word = c ∷ q.word;
          rest = q.rest;
          is = ap (λ xs. c ∷ xs) q.is;
          operand = q.operand;
          means = subst (λ w. column.operand_named w ≡ Some q.operand) same q.means;
          more = subst (λ w. after (with_text r w part.Sign) q.operand q.rest ≡ Some v) same q.more;
        }

    at : (o : Option Operand) → column.operand_named t ≡ o → option_and_then (on cs) (column.ended (with_text r t part.Colon) c o) ≡ Some v → WordRead r t (c ∷ cs) v
    at None is f = absurd (cc)
    at (Some operand) is f = record { word = []; rest = c ∷ cs; is = refl; operand = operand; means = rw (append-nil t) is; more = rw (append-nil t) f }

same_operand : (a b : Operand) → Some a ≡ Some b → a ≡ b
same_operand a b e = cc

word_of : (word : List ℕ) (operand : Operand) → column.operand_named word ≡ Some operand → OperandOf operand (58 ∷ word)
word_of word operand e = at (bytes_eq word (codes "NODE_ID")) (bytes_eq word (codes "EXTERNAL_ID")) (bytes_eq word (codes "NODE_GROUP_ID")) refl refl refl
  where
    is : (w : List ℕ) → bytes_eq word w ≡ true → 58 ∷ word ≡ 58 ∷ w
    is w f = ap (λ x. 58 ∷ x) ((bytes_eq-Decides word w).0 f)

    at : (a b c : Bool) → bytes_eq word (codes "NODE_ID") ≡ a → bytes_eq word (codes "EXTERNAL_ID") ≡ b → bytes_eq word (codes "NODE_GROUP_ID") ≡ c → OperandOf operand (58 ∷ word)
    at true b c f g h = let o : Some NodeId ≡ Some operand = rw f at e in subst (λ x. OperandOf x (58 ∷ word)) (same_operand NodeId operand o) (is (codes "NODE_ID") f)
    at false true c f g h = let o : Some ExternalId ≡ Some operand = rw (f, g) at e in subst (λ x. OperandOf x (58 ∷ word)) (same_operand ExternalId operand o) (is (codes "EXTERNAL_ID") g)
    at false false true f g h = let o : Some NodeGroupId ≡ Some operand = rw (f, g, h) at e in subst (λ x. OperandOf x (58 ∷ word)) (same_operand NodeGroupId operand o) (is (codes "NODE_GROUP_ID") h)
    at false false false f g h = let o : None ≡ Some operand = rw (f, g, h) at e in absurd (cc)

pub some_length : (c : ℕ) (cs : List ℕ) → nat_le 1 (length (c ∷ cs)) ≡ true
some_length c cs = grind (arith, nat_tests)

bare_of : (c : ℕ) (word : List ℕ) → is_bare_character c ≡ true → list_all is_bare_character word ≡ true → OperandOf (column.bare_operand (c ∷ word)) (c ∷ word)
bare_of c word first all = at (bytes_eq (c ∷ word) (codes "NULL")) refl
  where
    good : is_bare (c ∷ word) ≡ true
    good = rw (some_length c word, first, all) refl

    at : (t : Bool) → bytes_eq (c ∷ word) (codes "NULL") ≡ t → OperandOf (column.bare_operand (c ∷ word)) (c ∷ word)
    at true e = rw e ((bytes_eq-Decides (c ∷ word) (codes "NULL")).0 e)
    at false e = rw e (inl (refl, good, λ same. let t : bytes_eq (c ∷ word) (codes "NULL") ≡ true = (bytes_eq-Decides (c ∷ word) (codes "NULL")).1 same in absurd (cc)))

-- spaces and a value
abbrev AfterValue : ColumnReading → List ColumnTest → Form
AfterValue r v cs = (operand : Operand) × (text : List ℕ) × (OperandOf operand ▸ (λ rest. after (with_text r text part.Sign) operand rest ≡ Some v)) cs

to_value : (r : ColumnReading) (cs : List ℕ) (v : List ColumnTest) → accept (record r { part = part.Sign }) cs ≡ Some v → (AnyOf is_space ▸ AfterValue r v) cs
to_value r [] v e = absurd (cc)
to_value r (c ∷ cs) v e =
    branch (on cs) v (c == 32) _ _ (λ t f. in_front is_space _ c cs t (to_value r cs v f))
    (λ t f. branch (on cs) v (c == 39) _ _ (λ u g. quote (eqb-true c 39 u) (to_quoted r [] cs v g))
    (λ u g. branch (on cs) v (c == 58) _ _ (λ w h. word (eqb-true c 58 w) (to_word r [] cs v h))
    (λ w h. branch (on cs) v (is_bare_character c) _ _ (λ x i. bare x (to_bare r (c ∷ []) cs v i)) (λ x i. absurd (cc)) h) g) f) e
  where
    quote : c ≡ 39 → QuotedRead r [] cs v → (AnyOf is_space ▸ AfterValue r v) (c ∷ cs)
    quote is q =
        let cut : c ∷ cs ≡ quoted q.word ++ q.rest = rw (is, q.is) (ap (λ xs. 39 ∷ xs) (sym (append_assoc (doubled q.word) (39 ∷ []) q.rest))) in
        ([], c ∷ cs, refl, refl, (Text q.word, q.word, (quoted q.word, q.rest, cut, inr refl, q.more)))

    word : c ≡ 58 → WordRead r [] cs v → (AnyOf is_space ▸ AfterValue r v) (c ∷ cs)
    word is q = ([], c ∷ cs, refl, refl, (q.operand, q.word, (58 ∷ q.word, q.rest, rw (is, q.is) refl, word_of q.word q.operand q.means, q.more)))

    bare : is_bare_character c ≡ true → BareRead r (c ∷ []) cs v → (AnyOf is_space ▸ AfterValue r v) (c ∷ cs)
    bare good q = ([], c ∷ cs, refl, refl, (column.bare_operand (c ∷ q.word), c ∷ q.word, (c ∷ q.word, q.rest, ap (λ xs. c ∷ xs) q.is, bare_of c q.word good q.all, q.more)))

-- spaces after a value, and what joins the next test, or the end
abbrev Tail : ColumnReading → List ColumnTest → Form
Tail r v rest = (OptionalFeed rest × (r.tests ≡ v)) ⊎ (IsJoint ▸ (λ more. accept (before r) more ≡ Some v)) rest

same_tests : (a b : List ColumnTest) → Some a ≡ Some b → a ≡ b
same_tests a b e = cc

from_fresh : (r : ColumnReading) (c : ℕ) (cs : List ℕ) (v : List ColumnTest) → c ≡ 10 → accept (record r { part = part.Fresh }) cs ≡ Some v → Tail r v (c ∷ cs)
from_fresh r c [] v is e = inl (inr (ap (λ x. x ∷ []) is), same_tests _ _ e)
from_fresh r c (d ∷ ds) v is e = inr (c ∷ [], d ∷ ds, refl, inr (ap (λ x. x ∷ []) is), e)

from_behind : (r : ColumnReading) (c : ℕ) (cs : List ℕ) (v : List ColumnTest) → (c == 32) ≡ true → accept (record r { part = part.After }) cs ≡ Some v → (AnyOf is_space ▸ Tail r v) (c ∷ cs)
from_behind r c [] v is e = (c ∷ [], [], refl, rw is refl, inl (inl refl, same_tests _ _ e))
from_behind r c (d ∷ ds) v is e =
    branch (on ds) v (d == 32) _ _ (λ t f. in_front is_space (Tail r v) c (d ∷ ds) is (from_behind r d ds v t f))
    (λ t f. branch (on ds) v (d == 10) _ _ (λ u g. (c ∷ [], d ∷ ds, refl, rw is refl, from_fresh r d ds v (eqb-true d 10 u) g))
    (λ u g. branch (on ds) v (d == 111) _ _ (λ w h. letter (eqb-true c 32 is) (eqb-true d 111 w) ds h) (λ w h. absurd (cc)) g) f) e
  where
    joined : (x : ℕ) → c ≡ 32 → d ≡ 111 → x ≡ 114 → (es : List ℕ) → accept (record r { part = part.Joined }) es ≡ Some v → (AnyOf is_space ▸ Tail r v) (c ∷ d ∷ x ∷ es)
    joined x p q s [] h = absurd (cc)
    joined x p q s (y ∷ es) h = branch (on es) v (y == 32) _ _ (λ u g. ([], c ∷ d ∷ x ∷ y ∷ es, refl, refl, inr (c ∷ d ∷ x ∷ y ∷ [], es, refl, inl (rw (p, q, s, eqb-true y 32 u) refl), g))) (λ u g. absurd (cc)) h

    letter : c ≡ 32 → d ≡ 111 → (es : List ℕ) → accept (record r { part = part.Letter }) es ≡ Some v → (AnyOf is_space ▸ Tail r v) (c ∷ d ∷ es)
    letter p q [] h = absurd (cc)
    letter p q (x ∷ es) h = branch (on es) v (x == 114) _ _ (λ u g. joined x p q (eqb-true x 114 u) es g) (λ u g. absurd (cc)) h

to_tail : (r : ColumnReading) (operand : Operand) (cs : List ℕ) (v : List ColumnTest) → after r operand cs ≡ Some v → (AnyOf is_space ▸ Tail (tested r operand) v) cs
to_tail r operand [] v e = ([], [], refl, refl, inl (inl refl, same_tests _ _ e))
to_tail r operand (c ∷ cs) v e =
    branch (on cs) v (c == 32) _ _ (λ t f. from_behind (tested r operand) c cs v t f)
    (λ t f. branch (on cs) v (c == 10) _ _ (λ u g. ([], c ∷ cs, refl, refl, from_fresh (tested r operand) c cs v (eqb-true c 10 u) g)) (λ u g. absurd (cc)) f) e

-- one test, and what follows it
pub record OneTest (tests : List ColumnTest) (cs : List ℕ) (v : List ColumnTest) : Type 0 where
  pub test : ColumnTest
  pub reading : ColumnReading
  pub tests_are : reading.tests ≡ tests ++ test ∷ []
  pub is : (TestOf test ▸ Tail reading v) cs

one_test : (r : ColumnReading) (cs : List ℕ) (v : List ColumnTest) → accept (before r) cs ≡ Some v → OneTest r.tests cs v
one_test r cs v e =
    let a = to_name r cs v e in
    let b = to_named r [] a.1 v refl a.4 in
    let c = to_sign r b.word b.rest v b.more in
    let d = c.4.1 in
    let f = to_value (signed (named r b.word) c.4.0) d.1 v d.4 in
    let g = f.4.2 in
    let h = to_tail (with_text (signed (named r b.word) c.4.0) f.4.1 part.Sign) f.4.0 g.1 v g.4 in
    let test : ColumnTest = record { name = column.column_name b.word; old = begins_old b.word; differs = c.4.0; operand = f.4.0 } in
    let last = tested (with_text (signed (named r b.word) c.4.0) f.4.1 part.Sign) f.4.0 in
    record {
      test = test;
      reading = last;
      tests_are = refl;
      is = grouped (AnyOf is_space) _ (Tail last v) cs a.0 a.1 a.2 a.3
          (grouped (NameOf test.old test.name) _ (Tail last v) a.1 b.word b.rest b.is (name_of b.word b.all b.short b.whole)
          (grouped (AnyOf is_space) _ (Tail last v) b.rest c.0 c.1 c.2 c.3
          (grouped (SignOf test.differs) _ (Tail last v) c.1 d.0 d.1 d.2 d.3
          (grouped (AnyOf is_space) _ (Tail last v) d.1 f.0 f.1 f.2 f.3
          (grouped (OperandOf test.operand) (AnyOf is_space) (Tail last v) f.1 g.0 g.1 g.2 g.3 h)))));
    }

-- all tests
pub record AllTests (tests : List ColumnTest) (cs : List ℕ) (v : List ColumnTest) : Type 0 where
  pub first : ColumnTest
  pub others : List ColumnTest
  pub tests_are : v ≡ tests ++ first ∷ others
  pub is : (TestsOf (first ∷ others) ▸ OptionalFeed) cs

joint_counts : (joint : List ℕ) → IsJoint joint → 1 ≤ length joint
joint_counts joint (inl e) = let l : length joint ≡ 4 = ap length e in omega (arith, l)
joint_counts joint (inr e) = let l : length joint ≡ 1 = ap length e in omega (arith, l)

shorter : (text a b x y : List ℕ) (n : ℕ) → length text ≤ suc n → text ≡ a ++ b → b ≡ x ++ y → 1 ≤ length x → length y ≤ n
shorter text a b x y n most e f some =
    let l : length text ≡ length a + length b = ap length e ∙ length-append a b in
    let m : length b ≡ length x + length y = ap length f ∙ length-append x y in
    omega (arith, l, m, most, some)

onward : (n : ℕ) (r : ColumnReading) (cs : List ℕ) (v : List ColumnTest) → length cs ≤ suc n → ((next : ColumnReading) (more : List ℕ) → length more ≤ n → accept (before next) more ≡ Some v → AllTests next.tests more v)
    → (q : OneTest r.tests cs v) → Tail q.reading v q.is.1 → AllTests r.tests cs v
onward n r cs v most again q (inl (end, same)) = record { first = q.test; others = []; tests_are = sym same ∙ q.tests_are; is = (q.is.0, q.is.1, q.is.2, q.is.3, end) }
onward n r cs v most again q (inr (joint, more, cut, is, f)) =
    let rest = again q.reading more (shorter cs q.is.0 q.is.1 joint more n most q.is.2 cut (joint_counts joint is)) f in
    record {
      first = q.test;
      others = rest.first ∷ rest.others;
      tests_are = rest.tests_are ∙ (ap (λ x. x ++ rest.first ∷ rest.others) q.tests_are ∙ append_assoc r.tests (q.test ∷ []) (rest.first ∷ rest.others));
      is = grouped (TestOf q.test) (IsJoint ▸ TestsOf (rest.first ∷ rest.others)) OptionalFeed cs q.is.0 q.is.1 q.is.2 q.is.3 (grouped IsJoint (TestsOf (rest.first ∷ rest.others)) OptionalFeed q.is.1 joint more cut is rest.is);
    }

all_tests : (n : ℕ) (r : ColumnReading) (cs : List ℕ) (v : List ColumnTest) → length cs ≤ n → accept (before r) cs ≡ Some v → AllTests r.tests cs v
all_tests zero r [] v most e = absurd (cc)
all_tests zero r (c ∷ cs) v most e = absurd (omega (arith, most))
all_tests (suc n) r cs v most e = let q = one_test r cs v e in onward n r cs v most (λ next more shorter f. all_tests n next more v shorter f) q q.is.4

pub sound : (cs : List ℕ) (v : List ColumnTest) → accept column.beginning cs ≡ Some v → IsColumnForm cs v
sound cs v e = let q = all_tests (length cs) column.beginning cs v (omega arith) e in subst (λ tests. IsColumnForm cs tests) (sym q.tests_are) q.is
