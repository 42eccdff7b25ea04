-- What the reading of a `lookuptable` router's expression accepts has its form.
use Rattle.std.proofs.Common.{◌≡◌, ℕ, zero, suc, ◌+◌, ◌≤◌, ◌⊎◌, inl, inr, Bool, true, false, ◌&&◌, ◌==◌, if◌then◌else◌, nat_lt, nat_le, List, [], ◌∷◌, ◌++◌, length, Option, Some, None, option_and_then, bytes_eq, refl, sym, ap, subst, ◌∙◌, arith, append_assoc, append-nil, eqb-true, length-append}
use Rattle.std.proofs.lemmas.Bool.{and_parts}
use Rattle.std.proofs.lemmas.Bool.Decides.{nat_tests}
use Rattle.std.proofs.lemmas.Slice.Eq.{bytes_eq-Decides}
use Rattle.std.specs.List.{list_all}
use Rattle.sds_types.specs.declared.lookup.Lookup.{Lookup}
use Rattle.sds_value.specs.Names.{is_name_text, is_name_character}
use Rattle.sds_expressions.specs.declared.lookup_router.LookupKey.{LookupKey}
use Rattle.sds_expressions.specs.declared.lookup_router.LookupKey.TheVariants.{Table, Column, LookupColumn, ExternalId}
use Rattle.sds_expressions.specs.declared.lookup_router.LookupPart.TheVariants as part
use Rattle.sds_expressions.specs.declared.lookup_router.LookupReading.{LookupReading}
use Rattle.sds_expressions.specs.LookupRouter as lookup
use Rattle.sds_expressions.specs.LookupForm.{key_text, name_for, is_same_key, count_of, lookup_lines, IsLookupForm}
use Rattle.sds_expressions.proofs.Accepting.{value_of, branch}

abbrev pub accept : LookupReading → List ℕ → Option Lookup
accept reading text = value_of lookup.step lookup.finish reading text

abbrev pub on : List ℕ → LookupReading → Option Lookup
on text reading = accept reading text

abbrev pub in_key : LookupReading → List ℕ → LookupReading
in_key reading word = record reading { word = word; part = part.Key }

abbrev pub in_name : LookupReading → LookupKey → List ℕ → LookupReading
in_name reading key word = record reading { key = key; word = word; part = part.Name }

-- the reading with a line
abbrev pub line : LookupReading → LookupKey → List ℕ → LookupReading
line reading key word = lookup.with_line key (in_name reading key word) word

abbrev pub after : LookupReading → List ℕ → Option Lookup
after reading [] = lookup.lookup_of reading
after reading (c ∷ cs) = option_and_then (on cs) (if c == 10 then Some (lookup.next_line reading) else None)

-- what a line changes
pub same_key : (key other : LookupKey) → is_same_key key other ≡ true → key ≡ other
same_key Table Table e = refl
same_key Column Column e = refl
same_key LookupColumn LookupColumn e = refl
same_key ExternalId ExternalId e = refl
same_key key other e = absurd (cc)

pub own_key : (key : LookupKey) → is_same_key key key ≡ true
own_key Table = refl
own_key Column = refl
own_key LookupColumn = refl
own_key ExternalId = refl

pub line_open : (key other : LookupKey) (r : LookupReading) (word : List ℕ) → lookup.is_open (line r other word) key ≡ (if is_same_key key other then false else lookup.is_open r key)
line_open Table Table r word = refl
line_open Column Column r word = refl
line_open LookupColumn LookupColumn r word = refl
line_open ExternalId ExternalId r word = refl
line_open key other r word = refl

pub line_found : (key other : LookupKey) (r : LookupReading) (word : List ℕ) → lookup.found key (line r other word) ≡ (if is_same_key key other then Some word else lookup.found key r)
line_found Table Table r word = refl
line_found Column Column r word = refl
line_found LookupColumn LookupColumn r word = refl
line_found ExternalId ExternalId r word = refl
line_found key other r word = refl

pub key_open : (key : LookupKey) (r : LookupReading) (word : List ℕ) → lookup.is_open (in_key r word) key ≡ lookup.is_open r key
key_open Table r word = refl
key_open Column r word = refl
key_open LookupColumn r word = refl
key_open ExternalId r word = refl

-- a whole key
key_is : (reading : LookupReading) (word : List ℕ) (key : LookupKey) → lookup.is_key reading word key ≡ true → (lookup.is_open reading key ≡ true) × (word ≡ key_text key)
key_is reading word key e = let (still, same) = and_parts (lookup.is_open reading key) (bytes_eq word (key_text key)) e in (still, (bytes_eq-Decides word (key_text key)).0 same)

key_found : (reading : LookupReading) (word : List ℕ) (key : LookupKey) → lookup.key_of reading word ≡ Some key → (lookup.is_open reading key ≡ true) × (word ≡ key_text key)
key_found reading word key e = at (lookup.is_key reading word Table) (lookup.is_key reading word Column) (lookup.is_key reading word LookupColumn) (lookup.is_key reading word ExternalId) refl refl refl refl e
  where
    this : (other : LookupKey) → lookup.is_key reading word other ≡ true → Some other ≡ Some key → (lookup.is_open reading key ≡ true) × (word ≡ key_text key)
    this other f g = let same : other ≡ key = cc in subst (λ k. (lookup.is_open reading k ≡ true) × (word ≡ key_text k)) same (key_is reading word other f)

    at : (a b c d : Bool) → lookup.is_key reading word Table ≡ a → lookup.is_key reading word Column ≡ b → lookup.is_key reading word LookupColumn ≡ c → lookup.is_key reading word ExternalId ≡ d
        → (if a then Some Table else (if b then Some Column else (if c then Some LookupColumn else (if d then Some ExternalId else None)))) ≡ Some key → (lookup.is_open reading key ≡ true) × (word ≡ key_text key)
    at true b c d f g h i more = this Table f more
    at false true c d f g h i more = this Column g more
    at false false true d f g h i more = this LookupColumn h more
    at false false false true f g h i more = this ExternalId i more
    at false false false false f g h i more = absurd (cc)

record KeyRead (r : LookupReading) (w cs : List ℕ) (v : Lookup) : Type 0 where
  key : LookupKey
  word : List ℕ
  rest : List ℕ
  is : cs ≡ word ++ rest
  whole : key_text key ≡ w ++ word
  still : lookup.is_open r key ≡ true
  more : accept (in_name r key []) rest ≡ Some v

to_key : (r : LookupReading) (w cs : List ℕ) (v : Lookup) → accept (in_key r w) cs ≡ Some v → KeyRead r w cs v
to_key r w [] v e = absurd (cc)
to_key r w (c ∷ cs) v e = at (lookup.key_of (in_key r w) (w ++ c ∷ [])) refl (λ f. longer (to_key r (w ++ c ∷ []) cs v f)) e
  where
    longer : KeyRead r (w ++ c ∷ []) cs v → KeyRead r w (c ∷ cs) v
    longer q = record { key = q.key; word = c ∷ q.word; rest = q.rest; is = ap (λ x. c ∷ x) q.is; whole = q.whole ∙ append_assoc w (c ∷ []) q.word; still = q.still; more = q.more }

    at : (o : Option LookupKey) → lookup.key_of (in_key r w) (w ++ c ∷ []) ≡ o → (accept (in_key r (w ++ c ∷ [])) cs ≡ Some v → KeyRead r w (c ∷ cs) v)
        → option_and_then (on cs) (lookup.key_read (in_key r w) (w ++ c ∷ []) o) ≡ Some v → KeyRead r w (c ∷ cs) v
    at (Some key) is again f = let (still, same) = key_found (in_key r w) (w ++ c ∷ []) key is in
        record { key = key; word = c ∷ []; rest = cs; is = refl; whole = sym same; still = sym (key_open key r w) ∙ still; more = f }
    at None is again f = branch (on cs) v (lookup.begins (in_key r w) (w ++ c ∷ [])) _ _ (λ _ g. again g) (λ _ g. absurd (cc)) f

-- a name, to the end of its line
record NameRead (r : LookupReading) (key : LookupKey) (w cs : List ℕ) (v : Lookup) : Type 0 where
  word : List ℕ
  rest : List ℕ
  is : cs ≡ word ++ rest
  all : list_all is_name_character word ≡ true
  short : nat_le (length (w ++ word)) 50 ≡ true
  some : nat_le 1 (length (w ++ word)) ≡ true
  more : after (line r key (w ++ word)) rest ≡ Some v

positive : (n : ℕ) → nat_lt 0 n ≡ true → nat_le 1 n ≡ true
positive n e = grind (arith, nat_tests)

one_longer : (w : List ℕ) (c : ℕ) → nat_lt (length w) 50 ≡ true → nat_le (length (w ++ c ∷ [])) 50 ≡ true
one_longer w c e = let l : length (w ++ c ∷ []) ≡ length w + 1 = length-append w (c ∷ []) in grind (arith, nat_tests)

counted : (c : ℕ) (cs : List ℕ) → nat_le 1 (length (c ∷ cs)) ≡ true
counted c cs = grind (arith, nat_tests)

to_line : (r : LookupReading) (key : LookupKey) (w cs : List ℕ) (v : Lookup) → nat_le (length w) 50 ≡ true → accept (in_name r key w) cs ≡ Some v → NameRead r key w cs v
to_line r key [] [] v short e = absurd (cc)
to_line r key (x ∷ xs) [] v short e = record { word = []; rest = []; is = refl; all = refl; short = rw (append-nil xs) short; some = rw (append-nil xs) (counted x xs); more = rw (append-nil xs) e }
to_line r key w (c ∷ cs) v short e =
    branch (on cs) v (is_name_character c) _ _
    (λ t f. branch (on cs) v (nat_lt (length w) 50) _ _ (λ s g. longer t (to_line r key (w ++ c ∷ []) cs v (one_longer w c s) g)) (λ s g. absurd (cc)) f)
    (λ t f. branch (on cs) v (c == 10 && nat_lt 0 (length w)) _ _ (λ s g. ends (and_parts (c == 10) (nat_lt 0 (length w)) s) g) (λ s g. absurd (cc)) f) e
  where
    longer : is_name_character c ≡ true → NameRead r key (w ++ c ∷ []) cs v → NameRead r key w (c ∷ cs) v
    longer t q =
        let same : (w ++ c ∷ []) ++ q.word ≡ w ++ (c ∷ q.word) = append_assoc w (c ∷ []) q.word in
        record {
          word = c ∷ q.word;
          rest = q.rest;
          is = ap (λ x. c ∷ x) q.is;
          all = rw t q.all;
          short = subst (λ x. nat_le (length x) 50 ≡ true) same q.short;
          some = subst (λ x. nat_le 1 (length x) ≡ true) same q.some;
          more = subst (λ x. after (line r key x) q.rest ≡ Some v) same q.more;
        }

    ends : (c == 10 ≡ true) × (nat_lt 0 (length w) ≡ true) → accept (lookup.next_line (lookup.with_line key (in_name r key w) w)) cs ≡ Some v → NameRead r key w (c ∷ cs) v
    ends (t, s) f = record { word = []; rest = c ∷ cs; is = refl; all = refl; short = rw (append-nil w) short; some = rw (append-nil w) (positive (length w) s); more = rw (append-nil w, t) f }

-- what a whole lookup was read from
pub four_found : (a b c d : Option (List ℕ)) (v : Lookup) → lookup.four a b c d ≡ Some v → (a ≡ Some v.table) × (b ≡ Some v.column) × (c ≡ Some v.lookup_column) × (d ≡ Some v.external_id)
four_found None b c d v e = absurd (cc)
four_found (Some a) None c d v e = absurd (cc)
four_found (Some a) (Some b) None d v e = absurd (cc)
four_found (Some a) (Some b) (Some c) None v e = absurd (cc)
four_found (Some a) (Some b) (Some c) (Some d) v e =
    let made : Lookup = record { table = a; column = b; lookup_column = c; external_id = d } in
    let same : made ≡ v = cc in
    subst (λ (x : Lookup). (Some a ≡ Some x.table) × (Some b ≡ Some x.column) × (Some c ≡ Some x.lookup_column) × (Some d ≡ Some x.external_id)) same (refl, refl, refl, refl)

-- the names that are read are those of the lookup
abbrev pub Fits : LookupReading → Lookup → Type 0
Fits r v = (key : LookupKey) → lookup.is_open r key ≡ false → lookup.found key r ≡ Some (name_for key v)

whole_fits : (r : LookupReading) (v : Lookup) → lookup.lookup_of r ≡ Some v → (key : LookupKey) → lookup.found key r ≡ Some (name_for key v)
whole_fits r v e key = at key (four_found r.table r.column r.lookup_column r.external_id v e)
  where
    at : (key : LookupKey) → (r.table ≡ Some v.table) × (r.column ≡ Some v.column) × (r.lookup_column ≡ Some v.lookup_column) × (r.external_id ≡ Some v.external_id) → lookup.found key r ≡ Some (name_for key v)
    at Table (a, b, c, d) = a
    at Column (a, b, c, d) = b
    at LookupColumn (a, b, c, d) = c
    at ExternalId (a, b, c, d) = d

found_closed : (key : LookupKey) (r : LookupReading) (name : List ℕ) → lookup.found key r ≡ Some name → lookup.is_open r key ≡ false
found_closed Table r name e = rw e refl
found_closed Column r name e = rw e refl
found_closed LookupColumn r name e = rw e refl
found_closed ExternalId r name e = rw e refl

-- all lines
abbrev pub waits : Bool → ℕ
waits true = 1
waits false = 0

record LinesRead (r : LookupReading) (cs : List ℕ) (v : Lookup) : Type 0 where
  first : LookupKey
  others : List LookupKey
  once : (key : LookupKey) → count_of key (first ∷ others) ≡ waits (lookup.is_open r key)
  fits : Fits r v
  names : (key : LookupKey) → lookup.is_open r key ≡ true → is_name_text (name_for key v) ≡ true
  is : (cs ≡ lookup_lines v (first ∷ others)) ⊎ (cs ≡ lookup_lines v (first ∷ others) ++ 10 ∷ [])

-- what is known after a line, at the last one or another
record Rest (r : LookupReading) (keys : List LookupKey) (v : Lookup) : Type 0 where
  once : (key : LookupKey) → count_of key keys ≡ waits (lookup.is_open r key)
  fits : Fits r v
  names : (key : LookupKey) → lookup.is_open r key ≡ true → is_name_text (name_for key v) ≡ true

no_rest : (r : LookupReading) (v : Lookup) → lookup.lookup_of r ≡ Some v → Rest r [] v
no_rest r v e =
    let all = whole_fits r v e in
    record {
      once = λ key. ap waits (sym (found_closed key r (name_for key v) (all key)));
      fits = λ key _. all key;
      names = λ key still. let closed : lookup.is_open r key ≡ false = found_closed key r (name_for key v) (all key) in absurd (cc);
    }

-- one line more before them
more_lines : (r : LookupReading) (key : LookupKey) (word : List ℕ) (keys : List LookupKey) (v : Lookup) → lookup.is_open r key ≡ true → is_name_text word ≡ true → Rest (line r key word) keys v
    → (name_for key v ≡ word) × Rest r (key ∷ keys) v
more_lines r key word keys v still good rest = (this, record { once = once; fits = fits; names = names })
  where
    here : lookup.found key (line r key word) ≡ Some word
    here = line_found key key r word ∙ rw (own_key key) refl

    this : name_for key v ≡ word
    this = let e : Some (name_for key v) ≡ Some word = sym (rest.fits key (found_closed key (line r key word) word here)) ∙ here in cc

    once : (other : LookupKey) → count_of other (key ∷ keys) ≡ waits (lookup.is_open r other)
    once other = at (is_same_key other key) refl
      where
        at : (t : Bool) → is_same_key other key ≡ t → count_of other (key ∷ keys) ≡ waits (lookup.is_open r other)
        at true e =
            let same : other ≡ key = same_key other key e in
            let closed : lookup.is_open (line r key word) other ≡ false = line_open other key r word ∙ rw e refl in
            let none : count_of other keys ≡ 0 = rest.once other ∙ ap waits closed in
            let one : waits (lookup.is_open r other) ≡ 1 = ap (λ k. waits (lookup.is_open r k)) same ∙ ap waits still in
            rw (e, none, one) refl
        at false e =
            let same : lookup.is_open (line r key word) other ≡ lookup.is_open r other = line_open other key r word ∙ rw e refl in
            let rests : count_of other keys ≡ waits (lookup.is_open r other) = rest.once other ∙ ap waits same in
            rw e (omega (arith, rests))

    fits : Fits r v
    fits other closed = at (is_same_key other key) refl
      where
        at : (t : Bool) → is_same_key other key ≡ t → lookup.found other r ≡ Some (name_for other v)
        at true e = let f : lookup.is_open r key ≡ false = subst (λ k. lookup.is_open r k ≡ false) (same_key other key e) closed in absurd (cc)
        at false e =
            let f : lookup.found other (line r key word) ≡ lookup.found other r = line_found other key r word ∙ rw e refl in
            let g : lookup.is_open (line r key word) other ≡ false = line_open other key r word ∙ rw e closed in
            sym f ∙ rest.fits other g

    names : (other : LookupKey) → lookup.is_open r other ≡ true → is_name_text (name_for other v) ≡ true
    names other waiting = at (is_same_key other key) refl
      where
        at : (t : Bool) → is_same_key other key ≡ t → is_name_text (name_for other v) ≡ true
        at true e = ap (λ k. is_name_text (name_for k v)) (same_key other key e) ∙ (ap is_name_text this ∙ good)
        at false e = rest.names other (line_open other key r word ∙ rw e waiting)

name_text : (word : List ℕ) → list_all is_name_character word ≡ true → nat_le (length word) 50 ≡ true → nat_le 1 (length word) ≡ true → is_name_text word ≡ true
name_text word all short some = rw (some, short, all) refl

same_lookup : (a b : Lookup) → Some a ≡ Some b → a ≡ b
same_lookup a b e = cc

shorter : (cs key rest name more : List ℕ) (c n : ℕ) → length cs ≤ suc n → cs ≡ key ++ rest → rest ≡ name ++ c ∷ more → length more ≤ n
shorter cs key rest name more c n most e f =
    let l : length cs ≡ length key + length rest = ap length e ∙ length-append key rest in
    let m : length rest ≡ length name + length (c ∷ more) = ap length f ∙ length-append name (c ∷ more) in
    omega (arith, l, m, most)

-- the text of a line, at the end and before others
last_line : (cs key name word rest : List ℕ) → name ≡ word → cs ≡ key ++ (word ++ rest) → cs ≡ (key ++ name) ++ rest
last_line cs key name word rest same e = e ∙ (sym (append_assoc key word rest) ∙ ap (λ x. (key ++ x) ++ rest) (sym same))

next_lines : (cs key name word more text : List ℕ) (c : ℕ) → c ≡ 10 → name ≡ word → cs ≡ key ++ (word ++ c ∷ more) → (more ≡ text) ⊎ (more ≡ text ++ 10 ∷ [])
    → (cs ≡ key ++ (name ++ 10 ∷ text)) ⊎ (cs ≡ (key ++ (name ++ 10 ∷ text)) ++ 10 ∷ [])
next_lines cs key name word more text c ten same e (inl f) = inl (e ∙ rw (same, ten, f) refl)
next_lines cs key name word more text c ten same e (inr f) =
    let inner : word ++ c ∷ more ≡ (word ++ 10 ∷ text) ++ 10 ∷ [] = rw (ten, f) (sym (append_assoc word (10 ∷ text) (10 ∷ []))) in
    let outer : key ++ ((word ++ 10 ∷ text) ++ 10 ∷ []) ≡ (key ++ (word ++ 10 ∷ text)) ++ 10 ∷ [] = sym (append_assoc key (word ++ 10 ∷ text) (10 ∷ [])) in
    inr (rw same (e ∙ (ap (λ x. key ++ x) inner ∙ outer)))

-- one line, with what follows it
with_line : (r : LookupReading) (cs : List ℕ) (v : Lookup) (q : KeyRead r [] cs v) (p : NameRead r q.key [] q.rest v)
    → ((more : List ℕ) (c : ℕ) → p.rest ≡ c ∷ more → accept (in_key (line r q.key p.word) []) more ≡ Some v → LinesRead (line r q.key p.word) more v) → LinesRead r cs v
with_line r cs v q p again = by p.rest refl p.more
  where
    good : is_name_text p.word ≡ true
    good = name_text p.word p.all p.short p.some

    cut : (rest : List ℕ) → p.rest ≡ rest → cs ≡ key_text q.key ++ (p.word ++ rest)
    cut rest e = q.is ∙ (ap (λ x. x ++ q.rest) (sym q.whole) ∙ ap (λ x. key_text q.key ++ x) (p.is ∙ ap (λ x. p.word ++ x) e))

    last : (rest : List ℕ) → p.rest ≡ rest → (rest ≡ []) ⊎ (rest ≡ 10 ∷ []) → lookup.lookup_of (line r q.key p.word) ≡ Some v → LinesRead r cs v
    last rest e ends f =
        let m = more_lines r q.key p.word [] v q.still good (no_rest (line r q.key p.word) v f) in
        let whole = last_line cs (key_text q.key) (name_for q.key v) p.word rest m.0 (cut rest e) in
        record { first = q.key; others = []; once = m.1.once; fits = m.1.fits; names = m.1.names; is = at whole ends }
      where
        at : cs ≡ lookup_lines v (q.key ∷ []) ++ rest → (rest ≡ []) ⊎ (rest ≡ 10 ∷ []) → (cs ≡ lookup_lines v (q.key ∷ [])) ⊎ (cs ≡ lookup_lines v (q.key ∷ []) ++ 10 ∷ [])
        at whole (inl g) = inl (whole ∙ (ap (λ x. lookup_lines v (q.key ∷ []) ++ x) g ∙ append-nil (lookup_lines v (q.key ∷ []))))
        at whole (inr g) = inr (whole ∙ ap (λ x. lookup_lines v (q.key ∷ []) ++ x) g)

    ends : (c : ℕ) (more : List ℕ) → p.rest ≡ c ∷ more → c ≡ 10 → accept (record (line r q.key p.word) { word = []; part = part.Ended }) more ≡ Some v → LinesRead r cs v
    ends c [] e ten f = last (c ∷ []) e (inr (ap (λ x. x ∷ []) ten)) f
    ends c (d ∷ ds) e ten f = absurd (cc)

    others : (c : ℕ) (more : List ℕ) → p.rest ≡ c ∷ more → c ≡ 10 → LinesRead (line r q.key p.word) more v → LinesRead r cs v
    others c more e ten l =
        let m = more_lines r q.key p.word (l.first ∷ l.others) v q.still good (record { once = l.once; fits = l.fits; names = l.names }) in
        record {
          first = q.key;
          others = l.first ∷ l.others;
          once = m.1.once;
          fits = m.1.fits;
          names = m.1.names;
          is = next_lines cs (key_text q.key) (name_for q.key v) p.word more (lookup_lines v (l.first ∷ l.others)) c ten m.0 (cut (c ∷ more) e) l.is;
        }

    at : (o : Option Lookup) → lookup.lookup_of (line r q.key p.word) ≡ o → (c : ℕ) (more : List ℕ) → p.rest ≡ c ∷ more → c ≡ 10
        → accept (record (line r q.key p.word) { word = []; part = lookup.part_after o }) more ≡ Some v → LinesRead r cs v
    at (Some w) is c more e ten f = ends c more e ten f
    at None is c more e ten f = others c more e ten (again more c e f)

    by : (rest : List ℕ) → p.rest ≡ rest → after (line r q.key p.word) rest ≡ Some v → LinesRead r cs v
    by [] e f = last [] e (inl refl) f
    by (c ∷ more) e f = branch (on more) v (c == 10) _ _ (λ t g. at (lookup.lookup_of (line r q.key p.word)) refl c more e (eqb-true c 10 t) g) (λ t g. absurd (cc)) f

lines : (n : ℕ) (r : LookupReading) (cs : List ℕ) (v : Lookup) → length cs ≤ n → accept (in_key r []) cs ≡ Some v → LinesRead r cs v
lines zero r [] v most e = absurd (cc)
lines zero r (c ∷ cs) v most e = absurd (omega (arith, most))
lines (suc n) r cs v most e =
    let q = to_key r [] cs v e in
    let p = to_line r q.key [] q.rest v refl q.more in
    with_line r cs v q p (λ more c f g. lines n (line r q.key p.word) more v (shorter cs q.word q.rest p.word more c n most q.is (p.is ∙ ap (λ x. p.word ++ x) f)) g)

pub sound : (cs : List ℕ) (v : Lookup) → accept lookup.beginning cs ≡ Some v → IsLookupForm cs v
sound cs v e =
    let q = lines (length cs) lookup.beginning cs v (omega arith) e in
    (λ key. q.names key (open_first key), q.first ∷ q.others, λ key. q.once key ∙ ap waits (open_first key), q.is)
  where
    open_first : (key : LookupKey) → lookup.is_open lookup.beginning key ≡ true
    open_first Table = refl
    open_first Column = refl
    open_first LookupColumn = refl
    open_first ExternalId = refl
