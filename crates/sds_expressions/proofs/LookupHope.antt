-- From each state of the reading of a `lookuptable` router's expression that is reached some way to go on has the form.
use Rattle.std.proofs.Common.{◌≡◌, ℕ, zero, suc, ◌+◌, ◌≤◌, Bool, true, false, not, ◌&&◌, ◌||◌, ◌==◌, if◌then◌else◌, nat_lt, List, [], ◌∷◌, ◌++◌, length, drop, codes, Option, Some, None, is_some, Err, refl, sym, ap, subst, ◌∙◌, arith}
use Rattle.std.proofs.lemmas.Bool.{and_parts}
use Rattle.std.proofs.lemmas.Bool.Decides.{nat_tests}
use Rattle.std.proofs.lemmas.List.{append_assoc, append-nil}
use Rattle.std.proofs.lemmas.Slice.Eq.{bytes_eq-Decides}
use Rattle.std.proofs.Math.Utf8.{scalar}
use Rattle.std.specs.List.{starts_with}
use Rattle.std.specs.Str.{all_scalars, bytes_eq}
use Rattle.sds_types.specs.declared.lookup.Lookup.{Lookup}
use Rattle.sds_expressions.specs.declared.lookup_router.LookupKey.{LookupKey}
use Rattle.sds_expressions.specs.declared.lookup_router.LookupKey.TheVariants.{Table, Column, LookupColumn, ExternalId}
use Rattle.sds_expressions.specs.declared.lookup_router.LookupPart.{LookupPart}
use Rattle.sds_expressions.specs.declared.lookup_router.LookupPart.TheVariants as part
use Rattle.sds_expressions.specs.declared.lookup_router.LookupReading.{LookupReading}
use Rattle.sds_expressions.proofs.Readings.{IsBadPlace}
use Rattle.sds_value.specs.Names.{is_name_character}
use Rattle.sds_expressions.specs.LookupRouter as lookup
use Rattle.sds_expressions.specs.LookupForm.{key_text}
use Rattle.sds_expressions.proofs.ColumnHope.{front_is, rest_is, back_scalars}
use Rattle.sds_expressions.proofs.Readings as readings

abbrev CanEnd : LookupReading → Type 0
CanEnd reading = readings.CanEnd lookup.step lookup.finish reading

done : (reading : LookupReading) (value : Lookup) → lookup.finish reading ≡ Some value → CanEnd reading
done reading value is = readings.done lookup.step lookup.finish reading value is

one_more : (reading next : LookupReading) (c : ℕ) → lookup.step reading c ≡ Some next → scalar c ≡ true → CanEnd next → CanEnd reading
one_more reading next c is good can = readings.one_more lookup.step lookup.finish reading next c is good can

-- before a name stands a proper prefix of a key whose line is still to come; after the last line all four names are there
record InKey (reading : LookupReading) : Type 0 where
  key : LookupKey
  more : ℕ
  rest : List ℕ
  still : lookup.is_open reading key ≡ true
  is : key_text key ≡ reading.word ++ more ∷ rest

abbrev HoldsAt : LookupPart → LookupReading → Type 0
HoldsAt part.Key reading = InKey reading
HoldsAt part.Name reading = Unit {0}
HoldsAt part.Ended reading = (value : Lookup) × (lookup.lookup_of reading ≡ Some value)

abbrev Holds : LookupReading → Type 0
Holds reading = HoldsAt reading.part reading

kept : (reading next : LookupReading) → Holds reading → Some reading ≡ Some next → Holds next
kept reading next holds e = let same : reading ≡ next = cc in subst Holds same holds

gone : (next : LookupReading) → None ≡ Some next → Holds next
gone next e = absurd (cc)

branch : (t : Bool) (x y : Option LookupReading) (next : LookupReading) → (t ≡ true → x ≡ Some next → Holds next) → (y ≡ Some next → Holds next) → (if t then x else y) ≡ Some next → Holds next
branch true x y next f g e = f refl e
branch false x y next f g e = g e

and_no : (a : Bool) → (a && false) ≡ false
and_no true = refl
and_no false = refl

-- four tests, one for each key
abbrev chosen : LookupKey → Bool → Bool → Bool → Bool → Bool
chosen Table a b c d = a
chosen Column a b c d = b
chosen LookupColumn a b c d = c
chosen ExternalId a b c d = d

chosen_is : (key : LookupKey) (test : LookupKey → Bool) → chosen key (test Table) (test Column) (test LookupColumn) (test ExternalId) ≡ test key
chosen_is Table test = refl
chosen_is Column test = refl
chosen_is LookupColumn test = refl
chosen_is ExternalId test = refl

any_of : (key : LookupKey) (a b c d : Bool) → chosen key a b c d ≡ true → (a || (b || (c || d))) ≡ true
any_of key true b c d e = refl
any_of key false true c d e = refl
any_of key false false true d e = refl
any_of key false false false true e = refl
any_of Table false false false false e = e
any_of Column false false false false e = e
any_of LookupColumn false false false false e = e
any_of ExternalId false false false false e = e

which : (a b c d : Bool) → (a || (b || (c || d))) ≡ true → (key : LookupKey) × (chosen key a b c d ≡ true)
which true b c d e = (Table, refl)
which false true c d e = (Column, refl)
which false false true d e = (LookupColumn, refl)
which false false false d e = (ExternalId, e)

no_key : (key : LookupKey) (a b c d : Bool) → (if a then Some Table else (if b then Some Column else (if c then Some LookupColumn else (if d then Some ExternalId else None)))) ≡ None → chosen key a b c d ≡ false
no_key key true b c d e = absurd (cc)
no_key key false true c d e = absurd (cc)
no_key key false false true d e = absurd (cc)
no_key key false false false true e = absurd (cc)
no_key Table false false false false e = refl
no_key Column false false false false e = refl
no_key LookupColumn false false false false e = refl
no_key ExternalId false false false false e = refl

-- no key is a proper prefix of a key
no_true : false ≡ true → ⊥
no_true e = cc

no_more : (c : ℕ) (rest : List ℕ) → [] ≡ c ∷ rest → ⊥
no_more c rest e = cc

apart : (key other : LookupKey) (c : ℕ) (rest : List ℕ) → key_text key ≡ key_text other ++ c ∷ rest → ⊥
apart Table Table c rest e = no_more c rest (ap (drop 13) e)
apart Table Column c rest e = no_true (front_is (codes "LOOKUP_TABLE=") (codes "KEY_COLUMN=") (c ∷ rest) e)
apart Table LookupColumn c rest e = no_true (front_is (codes "LOOKUP_TABLE=") (codes "LOOKUP_KEY_COLUMN=") (c ∷ rest) e)
apart Table ExternalId c rest e = no_true (front_is (codes "LOOKUP_TABLE=") (codes "EXTERNAL_ID_COLUMN=") (c ∷ rest) e)
apart Column Table c rest e = no_true (front_is (codes "KEY_COLUMN=") (codes "LOOKUP_TABLE=") (c ∷ rest) e)
apart Column Column c rest e = no_more c rest (ap (drop 11) e)
apart Column LookupColumn c rest e = no_true (front_is (codes "KEY_COLUMN=") (codes "LOOKUP_KEY_COLUMN=") (c ∷ rest) e)
apart Column ExternalId c rest e = no_true (front_is (codes "KEY_COLUMN=") (codes "EXTERNAL_ID_COLUMN=") (c ∷ rest) e)
apart LookupColumn Table c rest e = no_true (front_is (codes "LOOKUP_KEY_COLUMN=") (codes "LOOKUP_TABLE=") (c ∷ rest) e)
apart LookupColumn Column c rest e = no_true (front_is (codes "LOOKUP_KEY_COLUMN=") (codes "KEY_COLUMN=") (c ∷ rest) e)
apart LookupColumn LookupColumn c rest e = no_more c rest (ap (drop 18) e)
apart LookupColumn ExternalId c rest e = no_true (front_is (codes "LOOKUP_KEY_COLUMN=") (codes "EXTERNAL_ID_COLUMN=") (c ∷ rest) e)
apart ExternalId Table c rest e = no_true (front_is (codes "EXTERNAL_ID_COLUMN=") (codes "LOOKUP_TABLE=") (c ∷ rest) e)
apart ExternalId Column c rest e = no_true (front_is (codes "EXTERNAL_ID_COLUMN=") (codes "KEY_COLUMN=") (c ∷ rest) e)
apart ExternalId LookupColumn c rest e = no_true (front_is (codes "EXTERNAL_ID_COLUMN=") (codes "LOOKUP_KEY_COLUMN=") (c ∷ rest) e)
apart ExternalId ExternalId c rest e = no_more c rest (ap (drop 19) e)

not_key : (key other : LookupKey) (reading : LookupReading) (word : List ℕ) (c : ℕ) (rest : List ℕ) → key_text key ≡ word ++ c ∷ rest → lookup.is_key reading word other ≡ false
not_key key other reading word c rest e = at (bytes_eq word (key_text other)) refl
  where
    at : (t : Bool) → bytes_eq word (key_text other) ≡ t → (lookup.is_open reading other && bytes_eq word (key_text other)) ≡ false
    at true f = let same : word ≡ key_text other = (bytes_eq-Decides word (key_text other)).0 f in absurd (apart key other c rest (e ∙ ap (λ w. w ++ c ∷ rest) same))
    at false f = rw f (and_no (lookup.is_open reading other))

pub not_whole : (key : LookupKey) (reading : LookupReading) (word : List ℕ) (c : ℕ) (rest : List ℕ) → key_text key ≡ word ++ c ∷ rest → lookup.key_of reading word ≡ None
not_whole key reading word c rest e =
    rw (not_key key Table reading word c rest e, not_key key Column reading word c rest e, not_key key LookupColumn reading word c rest e, not_key key ExternalId reading word c rest e) refl

pub whole_key : (key : LookupKey) (reading : LookupReading) → lookup.is_open reading key ≡ true → lookup.key_of reading (key_text key) ≡ Some key
whole_key Table reading still = rw still refl
whole_key Column reading still = rw (and_no (lookup.is_open reading Table), still) refl
whole_key LookupColumn reading still = rw (and_no (lookup.is_open reading Table), and_no (lookup.is_open reading Column), still) refl
whole_key ExternalId reading still = rw (and_no (lookup.is_open reading Table), and_no (lookup.is_open reading Column), and_no (lookup.is_open reading LookupColumn), still) refl

pub begins_key : (key : LookupKey) (reading : LookupReading) (word rest : List ℕ) → lookup.is_open reading key ≡ true → key_text key ≡ word ++ rest → lookup.begins reading word ≡ true
begins_key key reading word rest still e =
    let this : lookup.begins_key reading word key ≡ true = rw (still, front_is (key_text key) word rest e) refl in
    any_of key (lookup.begins_key reading word Table) (lookup.begins_key reading word Column) (lookup.begins_key reading word LookupColumn) (lookup.begins_key reading word ExternalId)
    (chosen_is key (lookup.begins_key reading word) ∙ this)

-- in a key, and after a line
key_holds : (reading : LookupReading) → reading.part ≡ part.Key → InKey reading → Holds reading
key_holds reading is holds = subst (λ (at : LookupPart). HoldsAt at reading) (sym is) holds

key_kept : (reading next : LookupReading) (word : List ℕ) (key : Option LookupKey) → reading.part ≡ part.Key → lookup.key_of reading word ≡ key → lookup.key_read reading word key ≡ Some next → Holds next
key_kept reading next word (Some key) is none e = kept (record reading { word = []; key = key; part = part.Name }) next tt e
key_kept reading next word None is none e = branch (lookup.begins reading word) (Some (record reading { word = word })) None next (λ test f. kept (record reading { word = word }) next (key_holds (record reading { word = word }) is (front test)) f) (gone next) e
  where
    longer : (key : LookupKey) (rest : List ℕ) → lookup.is_open (record reading { word = word }) key ≡ true → lookup.is_key reading word key ≡ false → lookup.is_open reading key ≡ true → key_text key ≡ word ++ rest → InKey (record reading { word = word })
    longer key [] still other still' f =
        let same : word ≡ key_text key = sym (f ∙ append-nil word) in
        let is_same : bytes_eq word (key_text key) ≡ true = (bytes_eq-Decides word (key_text key)).1 same in
        let whole : lookup.is_key reading word key ≡ true = rw (still', is_same) refl in
        absurd (cc)
    longer key (c ∷ rest) still other still' f = record { key = key; more = c; rest = rest; still = still; is = f }

    word_open : (key : LookupKey) → lookup.is_open reading key ≡ true → lookup.is_open (record reading { word = word }) key ≡ true
    word_open Table h = h
    word_open Column h = h
    word_open LookupColumn h = h
    word_open ExternalId h = h

    front : lookup.begins reading word ≡ true → InKey (record reading { word = word })
    front test =
        let found = which (lookup.begins_key reading word Table) (lookup.begins_key reading word Column) (lookup.begins_key reading word LookupColumn) (lookup.begins_key reading word ExternalId) test in
        let this = and_parts (lookup.is_open reading found.0) (starts_with (λ a b. a == b) (key_text found.0) word) (sym (chosen_is found.0 (lookup.begins_key reading word)) ∙ found.1) in
        let other = sym (chosen_is found.0 (lookup.is_key reading word)) ∙ no_key found.0 (lookup.is_key reading word Table) (lookup.is_key reading word Column) (lookup.is_key reading word LookupColumn) (lookup.is_key reading word ExternalId) none in
        longer found.0 (drop (length word) (key_text found.0)) (word_open found.0 this.0) other this.0 (rest_is (key_text found.0) word this.1)

pub key_head : (key : LookupKey) → (c : ℕ) × (rest : List ℕ) × (key_text key ≡ [] ++ c ∷ rest)
key_head Table = (76, drop 1 (codes "LOOKUP_TABLE="), refl)
key_head Column = (75, drop 1 (codes "KEY_COLUMN="), refl)
key_head LookupColumn = (76, drop 1 (codes "LOOKUP_KEY_COLUMN="), refl)
key_head ExternalId = (69, drop 1 (codes "EXTERNAL_ID_COLUMN="), refl)

still_open : (table column lookup_column external_id : Option (List ℕ)) → lookup.four table column lookup_column external_id ≡ None
    → (key : LookupKey) × (chosen key (not (is_some table)) (not (is_some column)) (not (is_some lookup_column)) (not (is_some external_id)) ≡ true)
still_open None column lookup_column external_id e = (Table, refl)
still_open (Some table) None lookup_column external_id e = (Column, refl)
still_open (Some table) (Some column) None external_id e = (LookupColumn, refl)
still_open (Some table) (Some column) (Some lookup_column) None e = (ExternalId, refl)
still_open (Some table) (Some column) (Some lookup_column) (Some external_id) e = absurd (cc)

key_to_come : (reading : LookupReading) → lookup.lookup_of reading ≡ None → (key : LookupKey) × (lookup.is_open reading key ≡ true)
key_to_come reading e =
    let found = still_open reading.table reading.column reading.lookup_column reading.external_id e in
    (found.0, sym (chosen_is found.0 (lookup.is_open reading)) ∙ found.1)

line_kept : (line : LookupReading) (value : Option Lookup) → lookup.lookup_of line ≡ value → HoldsAt (lookup.part_after value) (lookup.next_line line)
line_kept line (Some value) e = (value, e)
line_kept line None e =
    let found = key_to_come (lookup.next_line line) e in
    let head = key_head found.0 in
    record { key = found.0; more = head.0; rest = head.1; still = found.1; is = head.2 }

step_kept : (at : LookupPart) (reading next : LookupReading) (c : ℕ) → reading.part ≡ at → lookup.step_at at reading c ≡ Some next → Holds next
step_kept part.Key reading next c is e = key_kept reading next (reading.word ++ c ∷ []) (lookup.key_of reading (reading.word ++ c ∷ [])) is refl e
step_kept part.Name reading next c is e =
    let line = lookup.with_line reading.key reading reading.word in
    branch (is_name_character c) _ _ next (λ _ f. branch (nat_lt (length reading.word) 50) _ _ next (λ _ g. kept (record reading { word = reading.word ++ c ∷ [] }) next (rw is tt) g) (gone next) f)
    (λ f. branch (c == 10 && nat_lt 0 (length reading.word)) _ _ next (λ _ g. kept (lookup.next_line line) next (line_kept line (lookup.lookup_of line) refl) g) (gone next) f) e
step_kept part.Ended reading next c is e = absurd (cc)

keeps : (reading next : LookupReading) (c : ℕ) → Holds reading → lookup.step reading c ≡ Some next → Holds next
keeps reading next c holds e = step_kept reading.part reading next c refl e

-- how many lines are still to come
abbrev gap : Option (List ℕ) → ℕ
gap None = 1
gap (Some name) = 0

abbrev gaps : LookupReading → ℕ
gaps reading = gap reading.table + (gap reading.column + (gap reading.lookup_column + gap reading.external_id))

gap_is : (name : Option (List ℕ)) → not (is_some name) ≡ true → gap name ≡ 1
gap_is None h = refl
gap_is (Some name) h = absurd (cc)

some_gap : (table column lookup_column external_id : Option (List ℕ)) → lookup.four table column lookup_column external_id ≡ None → 1 ≤ gap table + (gap column + (gap lookup_column + gap external_id))
some_gap None column lookup_column external_id e = omega arith
some_gap (Some table) None lookup_column external_id e = omega arith
some_gap (Some table) (Some column) None external_id e = omega arith
some_gap (Some table) (Some column) (Some lookup_column) None e = omega arith
some_gap (Some table) (Some column) (Some lookup_column) (Some external_id) e = absurd (cc)

abbrev before_name : LookupKey → LookupReading → LookupReading
before_name key reading = record reading { word = []; key = key; part = part.Name }

fewer : (key : LookupKey) (reading : LookupReading) (most : ℕ) → lookup.is_open reading key ≡ true → gaps reading ≤ suc most → gaps (lookup.with_line key (before_name key reading) []) ≤ most
fewer Table reading most still few = omega (arith, gap_is reading.table still, few)
fewer Column reading most still few = omega (arith, gap_is reading.column still, few)
fewer LookupColumn reading most still few = omega (arith, gap_is reading.lookup_column still, few)
fewer ExternalId reading most still few = omega (arith, gap_is reading.external_id still, few)

line_gaps : (key : LookupKey) (reading : LookupReading) (word name other : List ℕ) → gaps (lookup.with_line key reading name) ≡ gaps (lookup.with_line key (record reading { word = word }) other)
line_gaps Table reading word name other = refl
line_gaps Column reading word name other = refl
line_gaps LookupColumn reading word name other = refl
line_gaps ExternalId reading word name other = refl

key_scalars : (key : LookupKey) → all_scalars (key_text key) ≡ true
key_scalars Table = refl
key_scalars Column = refl
key_scalars LookupColumn = refl
key_scalars ExternalId = refl

more_open : (key : LookupKey) (reading : LookupReading) (word : List ℕ) → lookup.is_open reading key ≡ true → lookup.is_open (record reading { word = word }) key ≡ true
more_open Table reading word h = h
more_open Column reading word h = h
more_open LookupColumn reading word h = h
more_open ExternalId reading word h = h

-- from within a key to its name
can_key : (most : ℕ) → ((next : LookupReading) → next.part ≡ part.Name → gaps (lookup.with_line next.key next next.word) ≤ most → CanEnd next)
    → (rest : List ℕ) (c : ℕ) (reading : LookupReading) (key : LookupKey) → reading.part ≡ part.Key → lookup.is_open reading key ≡ true → key_text key ≡ reading.word ++ c ∷ rest → gaps reading ≤ suc most → CanEnd reading
can_key most name [] c reading key is still e few =
    let good : all_scalars (c ∷ []) ≡ true = back_scalars reading.word (c ∷ []) (ap all_scalars (sym e) ∙ key_scalars key) in
    let next = before_name key reading in
    one_more reading next c (rw (is, ← e, whole_key key reading still) refl) (and_parts (scalar c) true good).0 (name next refl (fewer key reading most still few))
can_key most name (d ∷ rest) c reading key is still e few =
    let longer : key_text key ≡ (reading.word ++ c ∷ []) ++ d ∷ rest = e ∙ sym (append_assoc reading.word (c ∷ []) (d ∷ rest)) in
    let good : all_scalars (c ∷ d ∷ rest) ≡ true = back_scalars reading.word (c ∷ d ∷ rest) (ap all_scalars (sym e) ∙ key_scalars key) in
    let word = reading.word ++ c ∷ [] in
    let next = record reading { word = word } in
    one_more reading next c (rw (is, not_whole key reading word d rest longer, begins_key key reading word (d ∷ rest) still longer) refl) (and_parts (scalar c) (all_scalars (d ∷ rest)) good).0
    (can_key most name rest d next key is (more_open key reading word still) longer few)

-- from a name with a character after its line
is_long : (word : List ℕ) (w : ℕ) (ws : List ℕ) → word ≡ w ∷ ws → nat_lt 0 (length word) ≡ true
is_long word w ws e = rw e (longer (length ws))
  where
    longer : (n : ℕ) → nat_lt 0 (suc n) ≡ true
    longer n = grind (arith, nat_tests)

written : (most : ℕ) → ((line : LookupReading) → lookup.lookup_of line ≡ None → gaps line ≤ most → CanEnd (lookup.next_line line))
    → (reading : LookupReading) (w : ℕ) (ws : List ℕ) → reading.part ≡ part.Name → reading.word ≡ w ∷ ws → gaps (lookup.with_line reading.key reading reading.word) ≤ most → CanEnd reading
written most behind reading w ws is word few = at (lookup.lookup_of (lookup.with_line reading.key reading reading.word)) refl
  where
    at : (value : Option Lookup) → lookup.lookup_of (lookup.with_line reading.key reading reading.word) ≡ value → CanEnd reading
    at (Some value) e =
        let ends : lookup.finish reading ≡ lookup.last_line reading reading.word = ap (λ (at : LookupPart). lookup.lookup_at at reading) is in
        let last : lookup.last_line reading reading.word ≡ lookup.last_line reading (w ∷ ws) = ap (lookup.last_line reading) word in
        let line : lookup.lookup_of (lookup.with_line reading.key reading reading.word) ≡ lookup.last_line reading (w ∷ ws) = ap (λ (x : List ℕ). lookup.lookup_of (lookup.with_line reading.key reading x)) word in
        done reading value (ends ∙ (last ∙ (sym line ∙ e)))
    at None e =
        let long : nat_lt 0 (length reading.word) ≡ true = is_long reading.word w ws word in
        let line = lookup.with_line reading.key reading reading.word in
        one_more reading (lookup.next_line line) 10 (rw (is, long) refl) refl (behind line e few)

named : (most : ℕ) → ((line : LookupReading) → lookup.lookup_of line ≡ None → gaps line ≤ most → CanEnd (lookup.next_line line))
    → (word : List ℕ) (reading : LookupReading) → reading.word ≡ word → reading.part ≡ part.Name → gaps (lookup.with_line reading.key reading reading.word) ≤ most → CanEnd reading
named most behind [] reading e is few =
    let next = record reading { word = 97 ∷ [] } in
    one_more reading next 97 (rw (is, e) refl) refl (written most behind next 97 [] is refl (subst (λ n. n ≤ most) (line_gaps reading.key reading (97 ∷ []) reading.word (97 ∷ [])) few))
named most behind (w ∷ ws) reading e is few = written most behind reading w ws is e few

next_key : (most : ℕ) → ((next : LookupReading) → next.part ≡ part.Name → gaps (lookup.with_line next.key next next.word) ≤ most → CanEnd next)
    → (line : LookupReading) → lookup.lookup_of line ≡ None → gaps line ≤ suc most → CanEnd (lookup.next_line line)
next_key most name line none left =
    let next = lookup.next_line line in
    let at_key : next.part ≡ part.Key = rw none refl in
    let found = key_to_come next none in
    let head = key_head found.0 in
    can_key most name head.1 head.0 next found.0 at_key found.1 head.2 left

can_name : (most : ℕ) (reading : LookupReading) → reading.part ≡ part.Name → gaps (lookup.with_line reading.key reading reading.word) ≤ most → CanEnd reading
can_name zero reading is few = named 0 (λ line none none_left. absurd (omega (arith, some_gap line.table line.column line.lookup_column line.external_id none, none_left))) reading.word reading refl is few
can_name (suc most) reading is few = named (suc most) (λ line none left. next_key most (can_name most) line none left) reading.word reading refl is few

can_at : (at : LookupPart) (reading : LookupReading) → reading.part ≡ at → HoldsAt at reading → CanEnd reading
can_at part.Key reading is holds = can_key (gaps reading) (can_name (gaps reading)) holds.rest holds.more reading holds.key is holds.still holds.is (omega arith)
can_at part.Name reading is holds = can_name (gaps (lookup.with_line reading.key reading reading.word)) reading is (omega arith)
can_at part.Ended reading is holds = done reading holds.0 (rw is holds.1)

can : (reading : LookupReading) → Holds reading → CanEnd reading
can reading holds = can_at reading.part reading refl holds

-- the first bad place
at_first : Holds lookup.beginning
at_first = record { key = Table; more = 76; rest = drop 1 (codes "LOOKUP_TABLE="); still = refl; is = refl }

pub lookup_bad : (text : List ℕ) (place : ℕ) → lookup.lookup_read text ≡ Err place → IsBadPlace lookup.lookup_read text place
lookup_bad text place is = readings.first lookup.step lookup.finish lookup.lookup_read lookup.beginning (λ text. refl) Holds keeps can at_first text place is
