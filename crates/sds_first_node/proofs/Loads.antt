-- What loading a batch does, in the one configuration.
use Rattle.std.proofs.Common.{◌≡◌, ℕ, ◌+◌, ◌<◌, Bool, true, false, ◌&&◌, not, List, [], ◌∷◌, ◌++◌, length, take, drop, get_or, map, Option, None, Some, Ok, Err, All, refl, sym, ap, ◌∙◌, append-nil, add-one, codes, arith}
use Rattle.std.specs.Prelude.{if◌then◌else◌, nat_lt, nat_le}
use Rattle.std.specs.Str.{bytes_eq}
use Rattle.std.proofs.lemmas.List.{drop_more, set_split, get_or_default}
use Rattle.std.proofs.lemmas.Slice.Eq.{bytes_eq-Decides}
use Rattle.std.proofs.lemmas.List.Elements.{All-head, All-tail}
use Rattle.sds_value.specs.declared.kind.Value.{Value}
use Rattle.sds_value.specs.declared.row.DocRow.{DocRow}
use Rattle.sds_value.specs.declared.row.Event.{Event}
use Rattle.sds_value.specs.declared.row.Field.{Field}
use Rattle.sds_value.specs.declared.table.ColumnDef.{ColumnDef}
use Rattle.sds_value.specs.declared.kind.Kind.TheVariants.{Integer, Varchar}
use Rattle.sds_first_spec.specs.declared.row.LoadRow.{LoadRow}
use Rattle.sds_types.specs.declared.row.Row.{Row}
use Rattle.sds_types.specs.declared.row.TableRow.{TableRow}
use Rattle.sds_first_spec.specs.Capture.{after_all, field_value, is_allowed, are_allowed, is_insert, row_values}
use Rattle.sds_first_spec.specs.One.{one}
use Rattle.sds_first_spec.specs.Outcome.{is_whole_insert, read_row, read_rows, with_values, insert_by, load_step, load_steps}
use Rattle.sds_first_spec.specs.Places.{columns_of, column_place}
use Rattle.sds_first_spec.specs.Tables.{key_of, is_at, row_at, after}
use Rattle.sds_first_spec.specs.Texts.{same_texts}
use Rattle.sds_types.specs.declared.load_answer.LoadAnswer.TheVariants.{Again, Loaded}
use Rattle.sds_types.specs.declared.node_fault.NodeFault.TheVariants.{Counters}
use Rattle.sds_types.specs.declared.load_answer.PeerRefusal.TheVariants.{UnknownNode, Fault}
use Rattle.sds_first_spec.specs.Acts.{State, History}
use Rattle.sds_first_spec.specs.Acts.Act.{Loaded as ActLoaded}
use Rattle.sds_first_spec.specs.Calls.{is_peer, may_count, load_answer_of}
use Rattle.sds_first_spec.specs.History.{state_of}
use Rattle.sds_first_spec.specs.Kept.{highest_in}
use Rattle.sds_first_node.specs.Loaded.{doc_row, overwritten, updated, with_row, with_rows, IsRowAt, taken_in}
use Rattle.sds_first_node.specs.Meaning.{followed_by}
use Rattle.sds_first_node.specs.Steps.{loaded}
use Rattle.sds_first_spec.proofs.Uncaptured.{no_changes}
use Rattle.sds_first_node.proofs.Histories.{loaded-state}

-- the place of the row of a key, found
pub row_found : (key : List Value) (rows : List TableRow) (i : ℕ) (kept : TableRow) → i < length rows → kept ≡ get_or rows i kept → is_at one 0 key kept ≡ true
    → ((row : TableRow) → key_of one 0 row.row ≡ key → with_row row rows ≡ take i rows ++ with_row row (drop i rows)) → IsRowAt key rows i
row_found key rows i kept inside item same put = record {
  within = inside;
  put = λ row kept' is item'.
      let one_kept : kept ≡ kept' = item ∙ (get_or_default rows i kept kept' inside ∙ sym item') in
      let here : is_at one 0 (key_of one 0 row.row) kept ≡ true = ap (λ (k : List Value). is_at one 0 k kept) is ∙ same in
      rw (put row is) (rw (drop_more rows i kept inside) (rw (← item) (rw here (rw (add-one, one_kept) (sym (set_split rows i (updated row kept') inside))))));
}

in_table : (e b r : Bool) → (e && (nat_lt (if b then 0 else 1) 1 && r)) ≡ true → b ≡ true
in_table true true r is = refl
in_table true false r is = cc
in_table false b r is = cc

both : (a b : Bool) → (a && b) ≡ true → (a ≡ true) × (b ≡ true)
both true b is = (refl, is)
both false b is = absurd (cc)

-- a row of a batch is an insert of the one table
pub in_pair : (doc : DocRow) → is_whole_insert one doc ≡ true → bytes_eq (codes "pair") doc.table ≡ true
in_pair doc is = in_table (is_insert doc.event) (bytes_eq (codes "pair") doc.table) _ is

rest_of : (doc : DocRow) → is_whole_insert one doc ≡ true
    → (same_texts doc.columns (codes "id" ∷ (codes "text" ∷ [])) ≡ true) × (are_allowed (columns_of one 0) doc.new ≡ true)
rest_of doc is =
    let named = rw (in_pair doc is) at is in
    let tail = (both (is_insert doc.event) _ named).1 in
    let these = both (same_texts doc.columns (codes "id" ∷ (codes "text" ∷ []))) _ tail in
    (these.0, (both (are_allowed (columns_of one 0) doc.new) _ these.1).0)

same_name : (a b : List ℕ) → bytes_eq a b ≡ true → a ≡ b
same_name a b is = (bytes_eq-Decides a b).0 is

-- the places of the columns of a batch's row
pub both_places : (names : List (List ℕ)) → same_texts names (codes "id" ∷ (codes "text" ∷ [])) ≡ true
    → map (λ (name : List ℕ). column_place name (columns_of one 0)) names ≡ 0 ∷ (1 ∷ [])
both_places [] is = absurd (cc)
both_places (a ∷ []) is = let e = both (bytes_eq a (codes "id")) _ is in absurd (cc)
both_places (a ∷ (b ∷ [])) is =
    let e = both (bytes_eq a (codes "id")) _ is in
    let f = both (bytes_eq b (codes "text")) _ e.1 in
    rw (same_name a (codes "id") e.0, same_name b (codes "text") f.0) refl
both_places (a ∷ (b ∷ (d ∷ names))) is =
    let e = both (bytes_eq a (codes "id")) _ is in
    let f = both (bytes_eq b (codes "text")) _ e.1 in absurd (cc)

abbrev id_column : ColumnDef
id_column = record { name = codes "id"; kind = Integer; not_null = true; parent = None }

abbrev text_column : ColumnDef
text_column = record { name = codes "text"; kind = Varchar 40; not_null = false; parent = None }

-- a row of a batch has two values
pub two_values : (fields : List Field) → are_allowed (columns_of one 0) fields ≡ true → (a : Value) × (b : Value) × (row_values (columns_of one 0) fields ≡ a ∷ (b ∷ []))
two_values [] is = absurd (cc)
two_values (f ∷ []) is = let e = both (is_allowed id_column f) _ is in absurd (cc)
two_values (f ∷ (g ∷ [])) is = (field_value id_column.kind f, field_value text_column.kind g, refl)
two_values (f ∷ (g ∷ (h ∷ fields))) is =
    let e = both (is_allowed id_column f) _ is in
    let d = both (is_allowed text_column g) _ e.1 in absurd (cc)

-- with_values at the two places of a row is overwriting
places_overwritten : (a b : Value) (kept : List Value) → with_values (0 ∷ (1 ∷ [])) (a ∷ (b ∷ [])) kept ≡ overwritten (a ∷ (b ∷ [])) kept
places_overwritten a b [] = refl
places_overwritten a b (x ∷ []) = refl
places_overwritten a b (x ∷ (y ∷ kept)) = refl

-- a row of a batch, read
abbrev row_with : ℕ → Event → Value → Value → LoadRow
row_with n event a b =
    record { row = n; table = 0; event = event; key = record { 0 = a ∷ [] }; columns = 0 ∷ (1 ∷ []); new = a ∷ (b ∷ []); old = None }

read_with : (n : ℕ) (doc : DocRow) (a b : Value) → is_whole_insert one doc ≡ true → row_values (columns_of one 0) doc.new ≡ a ∷ (b ∷ []) → read_row one n doc ≡ row_with n doc.event a b
read_with n doc a b is values = rw (in_pair doc is) (rw (both_places doc.columns (rest_of doc is).0, values) refl)

abbrev of_two : Value → Value → TableRow
of_two a b = record { table = 0; row = record { 0 = a ∷ (b ∷ []) } }

-- what the step of a row makes of a row of another key, and of those behind it
passed : (n : ℕ) (event : Event) (a b : Value) (x : TableRow) (xs : List TableRow) (o : Option Row) → is_at one 0 (a ∷ []) x ≡ false
    → after one (x ∷ xs) (insert_by one (row_with n event a b) o).step ≡ x ∷ after one xs (insert_by one (row_with n event a b) o).step
passed n event a b x xs None is = refl
passed n event a b x xs (Some kept) is = rw is refl

by_test : (n : ℕ) (event : Event) (a b : Value) (x : TableRow) (xs : List TableRow) (t : Bool) → is_at one 0 (a ∷ []) x ≡ t
    → after one xs (insert_by one (row_with n event a b) (row_at one 0 (a ∷ []) xs)).step ≡ with_row (of_two a b) xs
    → after one (x ∷ xs) (insert_by one (row_with n event a b) (row_at one 0 (a ∷ []) (x ∷ xs))).step ≡ with_row (of_two a b) (x ∷ xs)
by_test n event a b x xs true is others = rw is (rw is (rw (places_overwritten a b x.row.0) refl))
by_test n event a b x xs false is others = rw is (passed n event a b x xs (row_at one 0 (a ∷ []) xs) is ∙ ap (λ (rows : List TableRow). x ∷ rows) others)

one_step : (n : ℕ) (event : Event) (a b : Value) (kept : List TableRow)
    → after one kept (insert_by one (row_with n event a b) (row_at one 0 (a ∷ []) kept)).step ≡ with_row (of_two a b) kept
one_step n event a b [] = refl
one_step n event a b (x ∷ xs) = by_test n event a b x xs _ refl (one_step n event a b xs)

pub stepped : (n : ℕ) (kept : List TableRow) (doc : DocRow) → is_whole_insert one doc ≡ true
    → after one kept (load_step one kept (read_row one n doc)).step ≡ with_row (doc_row doc) kept
stepped n kept doc is =
    let two = two_values doc.new (rest_of doc is).1 in
    ap (λ (row : LoadRow). after one kept (load_step one kept row).step) (read_with n doc two.0 two.1 is two.2)
    ∙ (one_step n doc.event two.0 two.1 kept ∙ ap (λ (values : List Value). with_row (record { table = 0; row = record { 0 = values } }) kept) (sym two.2))

abbrev IsWhole : DocRow → Type 0
IsWhole doc = is_whole_insert one doc ≡ true

-- what the rows of a batch make of the tables
pub tables-loaded : (n : ℕ) (kept : List TableRow) (docs : List DocRow) → All (λ (doc : DocRow). is_whole_insert one doc ≡ true) docs
    → after_all one kept (load_steps one kept (read_rows one n docs)) ≡ with_rows kept (map doc_row docs)
tables-loaded n kept [] are = refl
tables-loaded n kept (doc ∷ docs) are =
    ap (λ (rows : List TableRow). after_all one rows (load_steps one rows (read_rows one (n + 1) docs))) (stepped n kept doc (All-head IsWhole doc docs are))
    ∙ tables-loaded (n + 1) (with_row (doc_row doc) kept) docs (All-tail IsWhole doc docs are)

none_added : (n : ℕ) → n + 0 ≡ n
none_added n = omega arith

-- what a batch makes of a state
pub loaded-taken : (s : State) (sender : List ℕ) (batch : ℕ) (docs : List DocRow) → All (λ (doc : DocRow). is_whole_insert one doc ≡ true) docs
    → loaded s sender 0 batch (read_rows one 1 docs) ≡ taken_in s sender batch (map doc_row docs)
loaded-taken s sender batch docs are =
    rw (tables-loaded 1 s.tables docs are, no_changes s.me.group sender (s.counts.last_change + 1) (s.counts.last_tx + 1) (load_steps one s.tables (read_rows one 1 docs)))
    (rw (append-nil s.changes, none_added s.counts.last_change) refl)

-- what a load is answered
pub load-judged : (s : State) (sender : List ℕ) (channel batch : ℕ) (docs : List DocRow) (known seen may : Bool)
    → is_peer sender s ≡ known → nat_le batch (highest_in sender channel s.lanes) ≡ seen → may_count s 0 ≡ may
    → load_answer_of one s sender channel batch docs
    ≡ (if not known then Err UnknownNode else if seen then Ok Again else if may then Ok (Loaded (s.counts.acts + 1)) else Err (Fault Counters))
load-judged s sender channel batch docs known seen may is was can =
    rw (no_changes s.me.group sender (s.counts.last_change + 1) (s.counts.last_tx + 1) (load_steps one s.tables (read_rows one 1 docs)), is, was, can) refl

-- the history after a batch that is loaded now
pub stands-loaded : (h : History) (s s' : State) (sender : List ℕ) (channel batch : ℕ) (docs : List DocRow) (rows : List TableRow)
    → All (λ (doc : DocRow). is_whole_insert one doc ≡ true) docs → channel ≡ 0 → rows ≡ map doc_row docs → s' ≡ taken_in s sender batch rows → s ≡ state_of one h
    → s' ≡ state_of one (followed_by h (ActLoaded sender channel batch (read_rows one 1 docs) ∷ []))
stands-loaded h s s' sender channel batch docs rows are at read new stood =
    rw at (new ∙ (rw (read, stood) (sym (loaded-taken (state_of one h) sender batch docs are)) ∙ loaded-state h sender 0 batch (read_rows one 1 docs)))
