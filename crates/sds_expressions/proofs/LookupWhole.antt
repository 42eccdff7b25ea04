-- What has the form of a `lookuptable` router's expression is accepted.
use Rattle.std.proofs.Common.{◌≡◌, ℕ, ◌+◌, ◌⊎◌, inl, inr, Bool, true, false, nat_lt, nat_le, List, [], ◌∷◌, ◌++◌, length, Option, Some, None, refl, sym, ap, ◌∙◌, arith, append_assoc, append-nil, length-append}
use Rattle.std.proofs.lemmas.Bool.{and_parts}
use Rattle.std.proofs.lemmas.Bool.Decides.{nat_tests}
use Rattle.std.specs.List.{list_all}
use Rattle.sds_types.specs.declared.lookup.Lookup.{Lookup}
use Rattle.sds_value.specs.Names.{is_name_text, is_name_character}
use Rattle.sds_expressions.specs.declared.lookup_router.LookupKey.{LookupKey}
use Rattle.sds_expressions.specs.declared.lookup_router.LookupKey.TheVariants.{Table, Column, LookupColumn, ExternalId}
use Rattle.sds_expressions.specs.declared.lookup_router.LookupReading.{LookupReading}
use Rattle.sds_expressions.specs.LookupRouter as lookup
use Rattle.sds_expressions.specs.LookupForm.{key_text, name_for, is_same_key, count_of, IsOrder, lookup_lines, HasNames, IsLookupForm}
use Rattle.sds_expressions.proofs.LookupHope.{whole_key, not_whole, begins_key, key_head}
use Rattle.sds_expressions.proofs.LookupSound.{accept, in_key, in_name, line, after, same_key, own_key, line_open, line_found, key_open, Fits, waits}

-- a key
over_key : (r : LookupReading) (key : LookupKey) (w : List ℕ) (c : ℕ) (cs rest : List ℕ) → lookup.is_open r key ≡ true → key_text key ≡ w ++ c ∷ cs → accept (in_key r w) ((c ∷ cs) ++ rest) ≡ accept (in_name r key []) rest
over_key r key w c [] rest still e =
    let open_here : lookup.is_open (in_key r w) key ≡ true = key_open key r w ∙ still in
    let whole : lookup.key_of (in_key r w) (w ++ c ∷ []) ≡ Some key = ap (lookup.key_of (in_key r w)) (sym e) ∙ whole_key key (in_key r w) open_here in
    rw whole refl
over_key r key w c (d ∷ ds) rest still e =
    let open_here : lookup.is_open (in_key r w) key ≡ true = key_open key r w ∙ still in
    let longer : key_text key ≡ (w ++ c ∷ []) ++ d ∷ ds = e ∙ sym (append_assoc w (c ∷ []) (d ∷ ds)) in
    rw (not_whole key (in_key r w) (w ++ c ∷ []) d ds longer, begins_key key (in_key r w) (w ++ c ∷ []) (d ∷ ds) open_here longer)
    (over_key r key (w ++ c ∷ []) d ds rest still longer)

whole_key_read : (r : LookupReading) (key : LookupKey) (rest : List ℕ) → lookup.is_open r key ≡ true → accept (in_key r []) (key_text key ++ rest) ≡ accept (in_name r key []) rest
whole_key_read r key rest still =
    let head = key_head key in
    ap (λ x. accept (in_key r []) (x ++ rest)) head.2 ∙ over_key r key [] head.0 head.1 rest still head.2

-- a name
one_less : (w a : List ℕ) (c : ℕ) → nat_le (length (w ++ c ∷ a)) 50 ≡ true → nat_lt (length w) 50 ≡ true
one_less w a c e = let l : length (w ++ c ∷ a) ≡ length w + length (c ∷ a) = length-append w (c ∷ a) in grind (arith, nat_tests)

over_name : (r : LookupReading) (key : LookupKey) (w a rest : List ℕ) → list_all is_name_character a ≡ true → nat_le (length (w ++ a)) 50 ≡ true → accept (in_name r key w) (a ++ rest) ≡ accept (in_name r key (w ++ a)) rest
over_name r key w [] rest all short = ap (λ x. accept (in_name r key x) rest) (sym (append-nil w))
over_name r key w (c ∷ cs) rest all short =
    let (here, more) = and_parts (is_name_character c) (list_all is_name_character cs) all in
    let same : (w ++ c ∷ []) ++ cs ≡ w ++ (c ∷ cs) = append_assoc w (c ∷ []) cs in
    rw (here, one_less w cs c short) (over_name r key (w ++ c ∷ []) cs rest more (ap (λ x. nat_le (length x) 50) same ∙ short) ∙ ap (λ x. accept (in_name r key x) rest) same)

counts : (c : ℕ) (cs : List ℕ) → nat_lt 0 (length (c ∷ cs)) ≡ true
counts c cs = grind (arith, nat_tests)

-- a line, and what may stand after it
abbrev Closed : List ℕ → Type 0
Closed rest = (rest ≡ []) ⊎ ((more : List ℕ) × (rest ≡ 10 ∷ more))

end_line : (r : LookupReading) (key : LookupKey) (word rest : List ℕ) → is_name_text word ≡ true → Closed rest → accept (in_name r key word) rest ≡ after (line r key word) rest
end_line r key [] rest good closed = let none : false ≡ true = good in absurd (cc)
end_line r key (c ∷ cs) rest good (inl e) = rw e refl
end_line r key (c ∷ cs) rest good (inr (more, e)) = rw (e, counts c cs) refl

line_read : (r : LookupReading) (key : LookupKey) (word rest : List ℕ) → lookup.is_open r key ≡ true → is_name_text word ≡ true → Closed rest
    → accept (in_key r []) (key_text key ++ (word ++ rest)) ≡ after (line r key word) rest
line_read r key word rest still good closed =
    let some = (and_parts (nat_le 1 (length word)) _ good).1 in
    let (short, all) = and_parts (nat_le (length word) 50) (list_all is_name_character word) some in
    whole_key_read r key (word ++ rest) still ∙ (over_name r key [] word rest all short ∙ end_line r key word rest good closed)

-- which lines are still to come
is_waiting : (t : Bool) (n : ℕ) → 1 + n ≡ waits t → t ≡ true
is_waiting true n e = refl
is_waiting false n e = absurd (omega (arith, e))

not_waiting : (t : Bool) → 0 ≡ waits t → t ≡ false
not_waiting true e = absurd (omega (arith, e))
not_waiting false e = refl

first_open : (r : LookupReading) (key : LookupKey) (keys : List LookupKey) → ((other : LookupKey) → count_of other (key ∷ keys) ≡ waits (lookup.is_open r other)) → lookup.is_open r key ≡ true
first_open r key keys once =
    let one : count_of key (key ∷ keys) ≡ 1 + count_of key keys = rw (own_key key) refl in
    is_waiting (lookup.is_open r key) (count_of key keys) (sym one ∙ once key)

once_more : (r : LookupReading) (key : LookupKey) (word : List ℕ) (keys : List LookupKey) → ((other : LookupKey) → count_of other (key ∷ keys) ≡ waits (lookup.is_open r other))
    → (other : LookupKey) → count_of other keys ≡ waits (lookup.is_open (line r key word) other)
once_more r key word keys once other = at (is_same_key other key) refl
  where
    start : count_of other (key ∷ keys) ≡ waits (lookup.is_open r other)
    start = once other

    at : (t : Bool) → is_same_key other key ≡ t → count_of other keys ≡ waits (lookup.is_open (line r key word) other)
    at true e =
        let closed : lookup.is_open (line r key word) other ≡ false = line_open other key r word ∙ rw e refl in
        let both : 1 + count_of other keys ≡ waits (lookup.is_open r other) = rw e at start in
        rw closed (none (lookup.is_open r other) both)
      where
        none : (t : Bool) → 1 + count_of other keys ≡ waits t → count_of other keys ≡ 0
        none true f = omega (arith, f)
        none false f = absurd (omega (arith, f))
    at false e =
        let same : lookup.is_open (line r key word) other ≡ lookup.is_open r other = line_open other key r word ∙ rw e refl in
        let both : 0 + count_of other keys ≡ waits (lookup.is_open r other) = rw e at start in
        rw same (omega (arith, both))

fits_more : (r : LookupReading) (key : LookupKey) (v : Lookup) → Fits r v → Fits (line r key (name_for key v)) v
fits_more r key v fits other closed = at (is_same_key other key) refl
  where
    at : (t : Bool) → is_same_key other key ≡ t → lookup.found other (line r key (name_for key v)) ≡ Some (name_for other v)
    at true e = line_found other key r (name_for key v) ∙ rw e (ap (λ k. Some (name_for k v)) (sym (same_key other key e)))
    at false e = line_found other key r (name_for key v) ∙ rw e (fits other (sym (line_open other key r (name_for key v) ∙ rw e refl) ∙ closed))

-- the lookup where no line is still to come, and where one is
all_found : (r : LookupReading) (v : Lookup) → ((key : LookupKey) → lookup.found key r ≡ Some (name_for key v)) → lookup.lookup_of r ≡ Some v
all_found r v found =
    let table : r.table ≡ Some v.table = found Table in
    let column : r.column ≡ Some v.column = found Column in
    let lookup_column : r.lookup_column ≡ Some v.lookup_column = found LookupColumn in
    let external_id : r.external_id ≡ Some v.external_id = found ExternalId in
    rw (table, column, lookup_column, external_id) refl

some_open : (a b c d : Option (List ℕ)) (key : LookupKey) → lookup.is_open (record lookup.beginning { table = a; column = b; lookup_column = c; external_id = d }) key ≡ true → lookup.four a b c d ≡ None
some_open None b c d key e = refl
some_open (Some a) None c d key e = refl
some_open (Some a) (Some b) None d key e = refl
some_open (Some a) (Some b) (Some c) None key e = refl
some_open (Some a) (Some b) (Some c) (Some d) Table e = absurd (cc)
some_open (Some a) (Some b) (Some c) (Some d) Column e = absurd (cc)
some_open (Some a) (Some b) (Some c) (Some d) LookupColumn e = absurd (cc)
some_open (Some a) (Some b) (Some c) (Some d) ExternalId e = absurd (cc)

still_open : (r : LookupReading) (key : LookupKey) → lookup.is_open r key ≡ true → lookup.lookup_of r ≡ None
still_open r key e = some_open r.table r.column r.lookup_column r.external_id key (same key ∙ e)
  where
    same : (key : LookupKey) → lookup.is_open (record lookup.beginning { table = r.table; column = r.column; lookup_column = r.lookup_column; external_id = r.external_id }) key ≡ lookup.is_open r key
    same Table = refl
    same Column = refl
    same LookupColumn = refl
    same ExternalId = refl

-- all lines
abbrev OptionalFeed : List ℕ → Type 0
OptionalFeed text = (text ≡ []) ⊎ (text ≡ 10 ∷ [])

whole_end : (r : LookupReading) (v : Lookup) (end : List ℕ) → lookup.lookup_of r ≡ Some v → OptionalFeed end → after r end ≡ Some v
whole_end r v end e (inl f) = rw f e
whole_end r v end e (inr f) = rw (f, e) e

next_line : (r : LookupReading) (rest : List ℕ) → lookup.lookup_of r ≡ None → after r (10 ∷ rest) ≡ accept (in_key r []) rest
next_line r rest e = rw e refl

closed_end : (end : List ℕ) → OptionalFeed end → Closed end
closed_end end (inl e) = inl e
closed_end end (inr e) = inr ([], e)

whole : (keys : List LookupKey) (key : LookupKey) (r : LookupReading) (v : Lookup) (end : List ℕ) → ((other : LookupKey) → count_of other (key ∷ keys) ≡ waits (lookup.is_open r other)) → Fits r v → HasNames v → OptionalFeed end
    → accept (in_key r []) (lookup_lines v (key ∷ keys) ++ end) ≡ Some v
whole [] key r v end once fits names ends =
    let l = line r key (name_for key v) in
    let none = once_more r key (name_for key v) [] once in
    let found = all_found l v (λ other. fits_more r key v fits other (not_waiting (lookup.is_open l other) (none other))) in
    ap (accept (in_key r [])) (append_assoc (key_text key) (name_for key v) end)
    ∙ (line_read r key (name_for key v) end (first_open r key [] once) (names key) (closed_end end ends) ∙ whole_end l v end found ends)
whole (next ∷ keys) key r v end once fits names ends =
    let l = line r key (name_for key v) in
    let rest = lookup_lines v (next ∷ keys) ++ end in
    let others = once_more r key (name_for key v) (next ∷ keys) once in
    let cut : lookup_lines v (key ∷ next ∷ keys) ++ end ≡ key_text key ++ (name_for key v ++ 10 ∷ rest) =
    append_assoc (key_text key) (name_for key v ++ 10 ∷ lookup_lines v (next ∷ keys)) end ∙ ap (λ x. key_text key ++ x) (append_assoc (name_for key v) (10 ∷ lookup_lines v (next ∷ keys)) end) in
    ap (accept (in_key r [])) cut
    ∙ (line_read r key (name_for key v) (10 ∷ rest) (first_open r key (next ∷ keys) once) (names key) (inr (rest, refl))
    ∙ (next_line l rest (still_open l next (first_open l next keys others)) ∙ whole keys next l v end others (fits_more r key v fits) names ends))

no_order : IsOrder [] → ⊥
no_order once = let e : 0 ≡ 1 = once Table in absurd (omega (arith, e))

pub complete : (text : List ℕ) (v : Lookup) → IsLookupForm text v → accept lookup.beginning text ≡ Some v
complete text v (names, [], once, ends) = absurd (no_order once)
complete text v (names, key ∷ keys, once, ends) = at ends
  where
    all_open : (other : LookupKey) → lookup.is_open lookup.beginning other ≡ true
    all_open Table = refl
    all_open Column = refl
    all_open LookupColumn = refl
    all_open ExternalId = refl

    fits : Fits lookup.beginning v
    fits other closed = let e : lookup.is_open lookup.beginning other ≡ true = all_open other in absurd (cc)

    counts : (other : LookupKey) → count_of other (key ∷ keys) ≡ waits (lookup.is_open lookup.beginning other)
    counts other = once other ∙ ap waits (sym (all_open other))

    at : (text ≡ lookup_lines v (key ∷ keys)) ⊎ (text ≡ lookup_lines v (key ∷ keys) ++ 10 ∷ []) → accept lookup.beginning text ≡ Some v
    at (inl e) = ap (accept lookup.beginning) (e ∙ sym (append-nil (lookup_lines v (key ∷ keys)))) ∙ whole keys key lookup.beginning v [] counts fits names (inl refl)
    at (inr e) = ap (accept lookup.beginning) e ∙ whole keys key lookup.beginning v (10 ∷ []) counts fits names (inr refl)
