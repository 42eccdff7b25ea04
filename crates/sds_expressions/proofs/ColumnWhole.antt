-- What has the form of a `column` router's expression is accepted.
use Rattle.std.proofs.Common.{◌≡◌, ◌≢◌, ℕ, ◌+◌, ◌⊎◌, inl, inr, Bool, true, false, ◌==◌, if◌then◌else◌, nat_le, List, [], ◌∷◌, ◌++◌, length, drop, codes, Option, Some, bytes_eq, refl, sym, ap, subst, ◌∙◌, arith, append_assoc, append-nil, eqb-true, length-append}
use Rattle.std.proofs.lemmas.Bool.{and_parts}
use Rattle.std.proofs.lemmas.Bool.Decides.{nat_tests}
use Rattle.std.proofs.lemmas.Slice.Eq.{bytes_eq-Decides}
use Rattle.std.specs.List.{list_all}
use Rattle.sds_types.specs.declared.column_test.ColumnTest.{ColumnTest}
use Rattle.sds_types.specs.declared.column_test.Operand.{Operand}
use Rattle.sds_types.specs.declared.column_test.Operand.TheVariants.{NodeId, ExternalId, NodeGroupId, Null, Text}
use Rattle.sds_value.specs.Names.{is_name_character}
use Rattle.sds_expressions.specs.declared.column_router.ColumnPart.TheVariants as part
use Rattle.sds_expressions.specs.declared.column_router.ColumnReading.{ColumnReading}
use Rattle.sds_expressions.specs.ColumnRouter as column
use Rattle.sds_expressions.specs.Forms.{AnyOf}
use Rattle.sds_expressions.specs.ColumnForm.{is_space, begins_old, is_bare_character, NameOf, SignOf, is_bare, doubled, quoted, OperandOf, TestOf, IsJoint, TestsOf, OptionalFeed, IsColumnForm}
use Rattle.sds_expressions.proofs.ColumnSound.{accept, before, in_name, named, signed, with_text, tested, after}

-- spaces change nothing before a name, a sign and a value
over_name : (r : ColumnReading) (a rest : List ℕ) → AnyOf is_space a → accept (before r) (a ++ rest) ≡ accept (before r) rest
over_name r [] rest all = refl
over_name r (c ∷ cs) rest all = let (here, more) = and_parts (c == 32) (list_all is_space cs) all in rw here (over_name r cs rest more)

over_sign : (r : ColumnReading) (n a rest : List ℕ) → AnyOf is_space a → accept (named r n) (a ++ rest) ≡ accept (named r n) rest
over_sign r n [] rest all = refl
over_sign r n (c ∷ cs) rest all = let (here, more) = and_parts (c == 32) (list_all is_space cs) all in rw here (over_sign r n cs rest more)

over_value : (r : ColumnReading) (a rest : List ℕ) → AnyOf is_space a → accept (record r { part = part.Sign }) (a ++ rest) ≡ accept (record r { part = part.Sign }) rest
over_value r [] rest all = refl
over_value r (c ∷ cs) rest all = let (here, more) = and_parts (c == 32) (list_all is_space cs) all in rw here (over_value r cs rest more)

over_behind : (r : ColumnReading) (a rest : List ℕ) → AnyOf is_space a → accept (record r { part = part.After }) (a ++ rest) ≡ accept (record r { part = part.After }) rest
over_behind r [] rest all = refl
over_behind r (c ∷ cs) rest all = let (here, more) = and_parts (c == 32) (list_all is_space cs) all in rw here (over_behind r cs rest more)

-- a name, with `OLD_` or without
record Named (word : List ℕ) (old : Bool) (name : List ℕ) : Type 0 where
  all : list_all is_name_character word ≡ true
  short : column.is_short word ≡ true
  whole : column.is_whole word ≡ true
  asks : begins_old word ≡ old
  is : column.column_name word ≡ name

named_word : (old : Bool) (name word : List ℕ) → NameOf old name word → Named word old name
named_word true name word (is, good) =
    let (some, rest) = and_parts (nat_le 1 (length name)) _ good in
    let (short, all) = and_parts (nat_le (length name) 50) (list_all is_name_character name) rest in
    rw is (record { all = all; short = short; whole = some; asks = refl; is = refl })
named_word false name word (is, good, new) =
    let (some, rest) = and_parts (nat_le 1 (length name)) _ good in
    let (short, all) = and_parts (nat_le (length name) 50) (list_all is_name_character name) rest in
    rw is (record { all = all; short = rw new short; whole = rw new some; asks = new; is = rw new refl })

-- a prefix of a short name is short
short_prefix : (a b : List ℕ) → column.is_short (a ++ b) ≡ true → column.is_short a ≡ true
short_prefix [] b e = refl
short_prefix (x ∷ []) b e = at (begins_old (x ∷ []))
  where
    at : (t : Bool) → nat_le (length (if t then drop 4 (x ∷ []) else x ∷ [])) 50 ≡ true
    at true = refl
    at false = refl
short_prefix (x ∷ y ∷ []) b e = at (begins_old (x ∷ y ∷ []))
  where
    at : (t : Bool) → nat_le (length (if t then drop 4 (x ∷ y ∷ []) else x ∷ y ∷ [])) 50 ≡ true
    at true = refl
    at false = refl
short_prefix (x ∷ y ∷ z ∷ []) b e = at (begins_old (x ∷ y ∷ z ∷ []))
  where
    at : (t : Bool) → nat_le (length (if t then drop 4 (x ∷ y ∷ z ∷ []) else x ∷ y ∷ z ∷ [])) 50 ≡ true
    at true = refl
    at false = refl
short_prefix (x ∷ y ∷ z ∷ w ∷ a) b e = at (begins_old (x ∷ y ∷ z ∷ w ∷ a)) e
  where
    longer : nat_le (length (x ∷ y ∷ z ∷ w ∷ (a ++ b))) 50 ≡ true → nat_le (length (x ∷ y ∷ z ∷ w ∷ a)) 50 ≡ true
    longer f = let l : length (a ++ b) ≡ length a + length b = length-append a b in grind (arith, nat_tests)

    few : nat_le (length (a ++ b)) 50 ≡ true → nat_le (length a) 50 ≡ true
    few f = let l : length (a ++ b) ≡ length a + length b = length-append a b in grind (arith, nat_tests)

    at : (t : Bool) → nat_le (length (if t then a ++ b else x ∷ y ∷ z ∷ w ∷ (a ++ b))) 50 ≡ true → nat_le (length (if t then a else x ∷ y ∷ z ∷ w ∷ a)) 50 ≡ true
    at true f = few f
    at false f = longer f

over_word : (r : ColumnReading) (n a rest : List ℕ) → list_all is_name_character a ≡ true → column.is_short (n ++ a) ≡ true → accept (in_name r n) (a ++ rest) ≡ accept (in_name r (n ++ a)) rest
over_word r n [] rest all short = ap (λ w. accept (in_name r w) rest) (sym (append-nil n))
over_word r n (c ∷ cs) rest all short =
    let (here, more) = and_parts (is_name_character c) (list_all is_name_character cs) all in
    let same : (n ++ c ∷ []) ++ cs ≡ n ++ (c ∷ cs) = append_assoc n (c ∷ []) cs in
    let now : column.is_short (n ++ c ∷ []) ≡ true = short_prefix (n ++ c ∷ []) cs (ap column.is_short same ∙ short) in
    rw (here, now) (over_word r (n ++ c ∷ []) cs rest more (ap column.is_short same ∙ short) ∙ ap (λ w. accept (in_name r w) rest) same)

-- a name begins with a character that isn't a space
space_no_name : (c : ℕ) → is_name_character c ≡ true → (c == 32) ≡ false
space_no_name c e = at (c == 32) refl
  where
    at : (t : Bool) → (c == 32) ≡ t → t ≡ false
    at true f = let g : is_name_character 32 ≡ true = subst (λ x. is_name_character x ≡ true) (eqb-true c 32 f) e in absurd (cc)
    at false f = refl

short_one : (c : ℕ) → column.is_short (c ∷ []) ≡ true
short_one c = at (begins_old (c ∷ []))
  where
    at : (t : Bool) → nat_le (length (if t then drop 4 (c ∷ []) else c ∷ [])) 50 ≡ true
    at true = refl
    at false = refl

begins_name : (r : ColumnReading) (c : ℕ) (rest : List ℕ) → is_name_character c ≡ true → accept (before r) (c ∷ rest) ≡ accept (in_name r []) (c ∷ rest)
begins_name r c rest e = rw (space_no_name c e, e, short_one c) refl

to_word : (r : ColumnReading) (word rest : List ℕ) (old : Bool) (name : List ℕ) → Named word old name → accept (before r) (word ++ rest) ≡ accept (in_name r word) rest
to_word r [] rest old name is = let none : false ≡ true = is.whole in absurd (cc)
to_word r (c ∷ cs) rest old name is =
    let (here, more) = and_parts (is_name_character c) (list_all is_name_character cs) is.all in
    begins_name r c (cs ++ rest) here ∙ over_word r [] (c ∷ cs) rest is.all is.short

-- after a whole name stands a space or a sign
ends_name : (r : ColumnReading) (word : List ℕ) (c : ℕ) (rest : List ℕ) → column.is_whole word ≡ true → is_name_character c ≡ false → accept (in_name r word) (c ∷ rest) ≡ accept (named r word) (c ∷ rest)
ends_name r word c rest whole e = rw (e, whole) refl

sign_read : (r : ColumnReading) (n : List ℕ) (differs : Bool) (sign rest : List ℕ) → SignOf differs sign → accept (named r n) (sign ++ rest) ≡ accept (signed (named r n) differs) rest
sign_read r n true sign rest e = rw e refl
sign_read r n false sign rest e = rw e refl

before_sign : (r : ColumnReading) (word : List ℕ) (differs : Bool) (a sign rest : List ℕ) → column.is_whole word ≡ true → AnyOf is_space a → SignOf differs sign
    → accept (in_name r word) (a ++ (sign ++ rest)) ≡ accept (named r word) (a ++ (sign ++ rest))
before_sign r word true [] sign rest whole all e = rw e (ends_name r word 33 (61 ∷ rest) whole refl)
before_sign r word false [] sign rest whole all e = rw e (ends_name r word 61 rest whole refl)
before_sign r word differs (c ∷ cs) sign rest whole all e =
    let (here, more) = and_parts (c == 32) (list_all is_space cs) all in
    ends_name r word c (cs ++ (sign ++ rest)) whole (ap is_name_character (eqb-true c 32 here))

-- a value is closed by the end, a space or a line feed
abbrev Closed : List ℕ → Type 0
Closed text = (text ≡ []) ⊎ ((cs : List ℕ) × (text ≡ 32 ∷ cs)) ⊎ ((cs : List ℕ) × (text ≡ 10 ∷ cs))

bare_end : (r : ColumnReading) (t rest : List ℕ) → Closed rest → accept (with_text r t part.Bare) rest ≡ after (with_text r t part.Sign) (column.bare_operand t) rest
bare_end r t rest (inl e) = rw e refl
bare_end r t rest (inr (inl (cs, e))) = rw e refl
bare_end r t rest (inr (inr (cs, e))) = rw e refl

over_bare : (r : ColumnReading) (t a rest : List ℕ) → list_all is_bare_character a ≡ true → accept (with_text r t part.Bare) (a ++ rest) ≡ accept (with_text r (t ++ a) part.Bare) rest
over_bare r t [] rest all = ap (λ w. accept (with_text r w part.Bare) rest) (sym (append-nil t))
over_bare r t (c ∷ cs) rest all =
    let (here, more) = and_parts (is_bare_character c) (list_all is_bare_character cs) all in
    rw here (over_bare r (t ++ c ∷ []) cs rest more ∙ ap (λ w. accept (with_text r w part.Bare) rest) (append_assoc t (c ∷ []) cs))

no_bare : (c d : ℕ) → is_bare_character d ≡ false → is_bare_character c ≡ true → (c == d) ≡ false
no_bare c d g e = at (c == d) refl
  where
    at : (t : Bool) → (c == d) ≡ t → t ≡ false
    at true f = let h : is_bare_character d ≡ true = subst (λ x. is_bare_character x ≡ true) (eqb-true c d f) e in absurd (cc)
    at false f = refl

bare_read : (r : ColumnReading) (word rest : List ℕ) → is_bare word ≡ true → Closed rest → accept (record r { part = part.Sign }) (word ++ rest) ≡ after (with_text r word part.Sign) (column.bare_operand word) rest
bare_read r [] rest good closed = let none : false ≡ true = good in absurd (cc)
bare_read r (c ∷ cs) rest good closed =
    let all = (and_parts (nat_le 1 (length (c ∷ cs))) _ good).1 in
    let (here, more) = and_parts (is_bare_character c) (list_all is_bare_character cs) all in
    rw (no_bare c 32 refl here, no_bare c 39 refl here, no_bare c 58 refl here, here) (over_bare r (c ∷ []) cs rest more ∙ bare_end r (c ∷ cs) rest closed)

quote_end : (r : ColumnReading) (t rest : List ℕ) → Closed rest → accept (with_text r t part.Quote) rest ≡ after (with_text r t part.Sign) (Text t) rest
quote_end r t rest (inl e) = rw e refl
quote_end r t rest (inr (inl (cs, e))) = rw e refl
quote_end r t rest (inr (inr (cs, e))) = rw e refl

over_quoted : (r : ColumnReading) (t a rest : List ℕ) → accept (with_text r t part.Quoted) (doubled a ++ 39 ∷ rest) ≡ accept (with_text r (t ++ a) part.Quote) rest
over_quoted r t [] rest = ap (λ w. accept (with_text r w part.Quote) rest) (sym (append-nil t))
over_quoted r t (c ∷ cs) rest = at (c == 39) refl (over_quoted r (t ++ c ∷ []) cs rest ∙ ap (λ w. accept (with_text r w part.Quote) rest) (append_assoc t (c ∷ []) cs))
  where
    at : (b : Bool) → (c == 39) ≡ b → accept (with_text r (t ++ c ∷ []) part.Quoted) (doubled cs ++ 39 ∷ rest) ≡ accept (with_text r (t ++ c ∷ cs) part.Quote) rest
        → accept (with_text r t part.Quoted) (doubled (c ∷ cs) ++ 39 ∷ rest) ≡ accept (with_text r (t ++ c ∷ cs) part.Quote) rest
    at true f more = rw f (ap (λ x. accept (with_text r (t ++ x ∷ []) part.Quoted) (doubled cs ++ 39 ∷ rest)) (sym (eqb-true c 39 f)) ∙ more)
    at false f more = rw (f, f) more

quoted_read : (r : ColumnReading) (value rest : List ℕ) → Closed rest → accept (record r { part = part.Sign }) (quoted value ++ rest) ≡ after (with_text r value part.Sign) (Text value) rest
quoted_read r value rest closed = ap (λ x. accept (with_text r [] part.Quoted) x) (append_assoc (doubled value) (39 ∷ []) rest) ∙ (over_quoted r [] value rest ∙ quote_end r value rest closed)

-- a value, with some text that is left of it in the reading
value_read : (r : ColumnReading) (operand : Operand) (word rest : List ℕ) → OperandOf operand word → Closed rest
    → (text : List ℕ) × (accept (record r { part = part.Sign }) (word ++ rest) ≡ after (with_text r text part.Sign) operand rest)
value_read r NodeId word rest e closed = (codes "NODE_ID", rw e (at closed))
  where
    at : Closed rest → accept (with_text r (codes "NODE_ID") part.Colon) rest ≡ after (with_text r (codes "NODE_ID") part.Sign) NodeId rest
    at (inl f) = rw f refl
    at (inr (inl (cs, f))) = rw f refl
    at (inr (inr (cs, f))) = rw f refl
value_read r ExternalId word rest e closed = (codes "EXTERNAL_ID", rw e (at closed))
  where
    at : Closed rest → accept (with_text r (codes "EXTERNAL_ID") part.Colon) rest ≡ after (with_text r (codes "EXTERNAL_ID") part.Sign) ExternalId rest
    at (inl f) = rw f refl
    at (inr (inl (cs, f))) = rw f refl
    at (inr (inr (cs, f))) = rw f refl
value_read r NodeGroupId word rest e closed = (codes "NODE_GROUP_ID", rw e (at closed))
  where
    at : Closed rest → accept (with_text r (codes "NODE_GROUP_ID") part.Colon) rest ≡ after (with_text r (codes "NODE_GROUP_ID") part.Sign) NodeGroupId rest
    at (inl f) = rw f refl
    at (inr (inl (cs, f))) = rw f refl
    at (inr (inr (cs, f))) = rw f refl
value_read r Null word rest e closed = (codes "NULL", ap (λ w. accept (record r { part = part.Sign }) (w ++ rest)) e ∙ bare_read r (codes "NULL") rest refl closed)
value_read r (Text value) word rest (inl (e, good, other)) closed = (value, ap (λ w. accept (record r { part = part.Sign }) (w ++ rest)) e ∙ (bare_read r value rest good closed ∙ ap (λ o. after (with_text r value part.Sign) o rest) (no_null value other)))
  where
    no_null : (w : List ℕ) → w ≢ codes "NULL" → column.bare_operand w ≡ Text w
    no_null w ne = at (bytes_eq w (codes "NULL")) refl
      where
        at : (t : Bool) → bytes_eq w (codes "NULL") ≡ t → column.bare_operand w ≡ Text w
        at true f = absurd (ne ((bytes_eq-Decides w (codes "NULL")).0 f))
        at false f = rw f refl
value_read r (Text value) word rest (inr e) closed = (value, ap (λ w. accept (record r { part = part.Sign }) (w ++ rest)) e ∙ quoted_read r value rest closed)

-- spaces after a value
closed_spaces : (a rest : List ℕ) → AnyOf is_space a → Closed rest → Closed (a ++ rest)
closed_spaces [] rest all closed = closed
closed_spaces (c ∷ cs) rest all closed = let (here, more) = and_parts (c == 32) (list_all is_space cs) all in inr (inl (cs ++ rest, ap (λ x. x ∷ cs ++ rest) (eqb-true c 32 here)))

after_spaces : (r : ColumnReading) (operand : Operand) (c : ℕ) (cs rest : List ℕ) → AnyOf is_space (c ∷ cs) → after r operand ((c ∷ cs) ++ rest) ≡ accept (record (tested r operand) { part = part.After }) rest
after_spaces r operand c cs rest all = let (here, more) = and_parts (c == 32) (list_all is_space cs) all in rw here (over_behind (tested r operand) cs rest more)

-- what the rest of an expression gives after a test
abbrev tests_of : ColumnReading → List ℕ → Option (List ColumnTest)
tests_of r [] = Some r.tests
tests_of r (c ∷ cs) = accept (record r { part = part.After }) (c ∷ cs)

behind : (r : ColumnReading) (operand : Operand) (a rest : List ℕ) → AnyOf is_space a → Closed rest → after r operand (a ++ rest) ≡ tests_of (tested r operand) rest
behind r operand [] rest all (inl e) = rw e refl
behind r operand [] rest all (inr (inl (cs, e))) = rw e refl
behind r operand [] rest all (inr (inr (cs, e))) = rw e refl
behind r operand (c ∷ cs) rest all (inl e) = rw e (after_spaces r operand c cs [] all)
behind r operand (c ∷ cs) rest all (inr (inl (ds, e))) = rw e (after_spaces r operand c cs (32 ∷ ds) all)
behind r operand (c ∷ cs) rest all (inr (inr (ds, e))) = rw e (after_spaces r operand c cs (10 ∷ ds) all)

-- a test, and what the rest gives
record Accepted (r : ColumnReading) (test : ColumnTest) (text rest : List ℕ) : Type 0 where
  last : ColumnReading
  tests_are : last.tests ≡ r.tests ++ test ∷ []
  is : accept (before r) (text ++ rest) ≡ tests_of last rest

regroup : (a b c text rest : List ℕ) → text ≡ a ++ b → b ++ rest ≡ c → text ++ rest ≡ a ++ c
regroup a b c text rest e f = ap (λ x. x ++ rest) e ∙ (append_assoc a b rest ∙ ap (λ x. a ++ x) f)

test_accepted : (r : ColumnReading) (test : ColumnTest) (text rest : List ℕ) → TestOf test text → Closed rest → Accepted r test text rest
test_accepted r test text rest (a, t1, e1, spaces, (word, t2, e2, name, (b, t3, e3, more, (sign, t4, e4, is_sign, (c, t5, e5, still, (value, d, e6, is_value, last)))))) closed =
    let good = named_word test.old test.name word name in
    let whole : text ++ rest ≡ a ++ (word ++ (b ++ (sign ++ (c ++ (value ++ (d ++ rest)))))) =
    regroup a t1 _ text rest e1 (regroup word t2 _ t1 rest e2 (regroup b t3 _ t2 rest e3 (regroup sign t4 _ t3 rest e4 (regroup c t5 _ t4 rest e5 (regroup value d _ t5 rest e6 refl))))) in
    let with_name = signed (named r word) test.differs in
    let left = value_read with_name test.operand value (d ++ rest) is_value (closed_spaces d rest last closed) in
    let end = tested (with_text with_name left.0 part.Sign) test.operand in
    record {
      last = end;
      tests_are = rw (good.is, good.asks) refl;
      is = ap (accept (before r)) whole
          ∙ (over_name r a _ spaces
          ∙ (to_word r word _ test.old test.name good
          ∙ (before_sign r word test.differs b sign _ good.whole more is_sign
          ∙ (over_sign r word b _ more
          ∙ (sign_read r word test.differs sign _ is_sign
          ∙ (over_value with_name c _ still
          ∙ (left.1
          ∙ behind (with_text with_name left.0 part.Sign) test.operand d rest last closed)))))));
    }

-- all tests
whole_end : (r : ColumnReading) (end : List ℕ) → OptionalFeed end → tests_of r end ≡ Some r.tests
whole_end r end (inl e) = rw e refl
whole_end r end (inr e) = rw e refl

closed_end : (end : List ℕ) → OptionalFeed end → Closed end
closed_end end (inl e) = inl e
closed_end end (inr e) = inr (inr ([], e))

closed_joint : (joint rest : List ℕ) → IsJoint joint → Closed (joint ++ rest)
closed_joint joint rest (inl e) = inr (inl (111 ∷ 114 ∷ 32 ∷ rest, ap (λ x. x ++ rest) e))
closed_joint joint rest (inr e) = inr (inr (rest, ap (λ x. x ++ rest) e))

-- some text stands after a joint
over_joint : (r : ColumnReading) (joint rest : List ℕ) → IsJoint joint → (v : List ColumnTest) → accept (before r) rest ≡ Some v → tests_of r (joint ++ rest) ≡ Some v
over_joint r joint rest (inl e) v f = rw e f
over_joint r joint [] (inr e) v f = absurd (cc)
over_joint r joint (c ∷ cs) (inr e) v f = rw e f

whole : (tests : List ColumnTest) (r : ColumnReading) (text end : List ℕ) → TestsOf tests text → OptionalFeed end → accept (before r) (text ++ end) ≡ Some (r.tests ++ tests)
whole [] r text end is ends = absurd is
whole (test ∷ []) r text end is ends =
    let q = test_accepted r test text end is (closed_end end ends) in
    q.is ∙ (whole_end q.last end ends ∙ ap (λ x. Some x) q.tests_are)
whole (test ∷ next ∷ tests) r text end (a, b, e, is, (joint, more, f, joins, others)) ends =
    let q = test_accepted r test a (joint ++ (more ++ end)) is (closed_joint joint (more ++ end) joins) in
    let cut : text ++ end ≡ a ++ (joint ++ (more ++ end)) = regroup a b _ text end e (regroup joint more _ b end f refl) in
    let rest : accept (before q.last) (more ++ end) ≡ Some (q.last.tests ++ next ∷ tests) = whole (next ∷ tests) q.last more end others ends in
    let all : q.last.tests ++ next ∷ tests ≡ r.tests ++ test ∷ next ∷ tests = ap (λ x. x ++ next ∷ tests) q.tests_are ∙ append_assoc r.tests (test ∷ []) (next ∷ tests) in
    ap (accept (before r)) cut ∙ (q.is ∙ (over_joint q.last joint (more ++ end) joins _ rest ∙ ap (λ x. Some x) all))

pub complete : (text : List ℕ) (tests : List ColumnTest) → IsColumnForm text tests → accept column.beginning text ≡ Some tests
complete text tests (a, end, e, is, ends) = ap (accept column.beginning) e ∙ whole tests column.beginning a end is ends
