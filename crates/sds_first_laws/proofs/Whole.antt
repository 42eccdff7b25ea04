-- The rows of a message are such as a receiver loads: what an application wrote is carried as an insert of every column.
use Rattle.std.proofs.Common.{◌≡◌, ℕ, ◌+◌, Bool, true, false, ◌&&◌, ◌==◌, not, List, [], ◌∷◌, ◌++◌, length, map, Option, None, Some, Result, Ok, Err, refl, sym, ap, subst, ◌∙◌, codes}
use Rattle.std.specs.Prelude.{nat_le, nat_lt, is_ok, if◌then◌else◌, All}
use Rattle.std.specs.List.{filter_map, list_all}
use Rattle.std.specs.Result.{result_unwrap_or}
use Rattle.std.specs.Str.{bytes_eq, all_scalars}
use Rattle.std.proofs.lemmas.List.Elements.{All-head, All-tail}
use Rattle.sds_value.specs.declared.kind.Binary.TheVariants.{Base64}
use Rattle.sds_value.specs.declared.kind.Kind.{Kind}
use Rattle.sds_value.specs.declared.kind.Kind.TheVariants as Kinds
use Rattle.sds_value.specs.declared.kind.Value.{Value}
use Rattle.sds_value.specs.declared.kind.Value.TheVariants as value
use Rattle.sds_value.specs.declared.refusal.ValueRefusal.{ValueRefusal}
use Rattle.sds_value.specs.declared.refusal.ValueRefusal.TheVariants.{BadText, TooLong, OutOfRange}
use Rattle.sds_value.specs.declared.row.DocRow.{DocRow}
use Rattle.sds_value.specs.declared.row.Field.{Field}
use Rattle.sds_value.specs.declared.row.Field.TheVariants.{Null, Text}
use Rattle.sds_value.specs.declared.row.Peer.{Peer}
use Rattle.sds_value.specs.declared.table.ColumnDef.{ColumnDef}
use Rattle.sds_value.specs.Values.{value_of, fits, is_in_range, is_integer_text, integer_value, has_zero}
use Rattle.sds_value.proofs.Back.{reads_back}
use Rattle.sds_types.specs.declared.config.Config.{Config}
use Rattle.sds_types.specs.declared.batch.OutBatch.{OutBatch}
use Rattle.sds_first_spec.specs.declared.batch.Sent.{Sent}
use Rattle.sds_types.specs.declared.row.Change.{Change}
use Rattle.sds_first_spec.specs.declared.row.Done.{Done}
use Rattle.sds_types.specs.declared.tx_row.TxRow.{TxRow}
use Rattle.sds_first_spec.specs.Acts.{Act, State}
use Rattle.sds_first_spec.specs.Acts.Act.{Wrote, Routed, Loaded, Acked}
use Rattle.sds_first_spec.specs.Capture.{field_value, row_values, is_allowed, are_allowed, is_insert, is_own_insert, step_of, steps_of}
use Rattle.sds_first_spec.specs.Changes.{changes_from, change_of, captured_channel, is_own_source, onto_changes}
use Rattle.sds_first_spec.specs.History.{captured_of, last_change_of, last_tx_of}
use Rattle.sds_first_spec.specs.Lanes.{field_of, doc_of, change_at, rows_of}
use Rattle.sds_first_spec.specs.One.{one, paired}
use Rattle.sds_first_spec.specs.Outcome.{is_whole_insert}
use Rattle.sds_first_spec.specs.Places.{columns_of}
use Rattle.sds_first_spec.specs.World.{sent_of}
use Rattle.sds_first_laws.specs.Pairs.{is_of_characters, is_written_row}
use Rattle.sds_first_laws.proofs.Each.{Each, each_append, all_from_each}
use Rattle.sds_first_laws.proofs.Link.{and_left, and_right}

-- VALUES. A value that was read is carried as a text that reads again.
abbrev id_column : ColumnDef
id_column = record { name = codes "id"; kind = Kinds.Integer; not_null = true; parent = None }

abbrev text_column : ColumnDef
text_column = record { name = codes "text"; kind = Kinds.Varchar 40; not_null = false; parent = None }

number_allowed : (v : Value) → fits Kinds.Integer v ≡ true → is_allowed id_column (field_of v) ≡ true
number_allowed value.Null fit = absurd (cc)
number_allowed (value.Integer z) fit = ap is_ok (reads_back Kinds.Integer Base64 (value.Integer z) refl fit)
number_allowed (value.Decimal z) fit = absurd (cc)
number_allowed (value.Text text) fit = absurd (cc)
number_allowed (value.Stamp day nano) fit = absurd (cc)
number_allowed (value.Bin bytes) fit = absurd (cc)

text_allowed : (v : Value) → fits (Kinds.Varchar 40) v ≡ true → is_allowed text_column (field_of v) ≡ true
text_allowed value.Null fit = absurd (cc)
text_allowed (value.Integer z) fit = absurd (cc)
text_allowed (value.Decimal z) fit = absurd (cc)
text_allowed (value.Text text) fit = ap is_ok (reads_back (Kinds.Varchar 40) Base64 (value.Text text) refl fit)
text_allowed (value.Stamp day nano) fit = absurd (cc)
text_allowed (value.Bin bytes) fit = absurd (cc)

integer_by : (a b : Bool) (text : List ℕ) (v : Value) → is_in_range (integer_value text) ≡ b
    → (if a then (if b then Ok (value.Integer (integer_value text)) else Err OutOfRange) else Err BadText) ≡ Ok v → fits Kinds.Integer v ≡ true
integer_by true true text v is e = let same : value.Integer (integer_value text) ≡ v = cc in subst (λ (x : Value). fits Kinds.Integer x ≡ true) same is
integer_by true false text v is e = absurd (cc)
integer_by false b text v is e = absurd (cc)

integer_fits : (text : List ℕ) (v : Value) → value_of Kinds.Integer Base64 text ≡ Ok v → fits Kinds.Integer v ≡ true
integer_fits text v e = integer_by (is_integer_text text) (is_in_range (integer_value text)) text v refl e

varchar_by : (a b : Bool) (n : ℕ) (text : List ℕ) (v : Value) → all_scalars text ≡ true → has_zero text ≡ a → nat_le (length text) n ≡ b
    → (if a then Err BadText else (if b then Ok (value.Text text) else Err TooLong)) ≡ Ok v → fits (Kinds.Varchar n) v ≡ true
varchar_by true b n text v scalars zero short e = absurd (cc)
varchar_by false true n text v scalars zero short e =
    let same : value.Text text ≡ v = cc in subst (λ (x : Value). fits (Kinds.Varchar n) x ≡ true) same (rw (scalars, zero, short) refl)
varchar_by false false n text v scalars zero short e = absurd (cc)

varchar_fits : (n : ℕ) (text : List ℕ) (v : Value) → all_scalars text ≡ true → value_of (Kinds.Varchar n) Base64 text ≡ Ok v → fits (Kinds.Varchar n) v ≡ true
varchar_fits n text v scalars e = varchar_by (has_zero text) (nat_le (length text) n) n text v scalars refl refl e

id_by : (text : List ℕ) (r : Result Value ValueRefusal) → value_of Kinds.Integer Base64 text ≡ r → is_ok r ≡ true → is_allowed id_column (field_of (result_unwrap_or r value.Null)) ≡ true
id_by text (Ok v) e is = number_allowed v (integer_fits text v e)
id_by text (Err refusal) e is = absurd (cc)

id_back : (f : Field) → is_allowed id_column f ≡ true → is_allowed id_column (field_of (field_value Kinds.Integer f)) ≡ true
id_back Null is = absurd (cc)
id_back (Text text) is = id_by text (value_of Kinds.Integer Base64 text) refl is

text_by : (text : List ℕ) (r : Result Value ValueRefusal) → all_scalars text ≡ true → value_of (Kinds.Varchar 40) Base64 text ≡ r → is_ok r ≡ true
    → is_allowed text_column (field_of (result_unwrap_or r value.Null)) ≡ true
text_by text (Ok v) scalars e is = text_allowed v (varchar_fits 40 text v scalars e)
text_by text (Err refusal) scalars e is = absurd (cc)

text_back : (f : Field) → is_of_characters f ≡ true → is_allowed text_column f ≡ true → is_allowed text_column (field_of (field_value (Kinds.Varchar 40) f)) ≡ true
text_back Null scalars is = refl
text_back (Text text) scalars is = text_by text (value_of (Kinds.Varchar 40) Base64 text) scalars refl is

rows_back : (fields : List Field) → list_all is_of_characters fields ≡ true → are_allowed (columns_of one 0) fields ≡ true
    → are_allowed (columns_of one 0) (map field_of (row_values (columns_of one 0) fields)) ≡ true
rows_back [] scalars is = absurd (cc)
rows_back (f ∷ []) scalars is = absurd (let e : false ≡ true = and_right (is_allowed id_column f) false is in cc)
rows_back (f ∷ (g ∷ [])) scalars is =
    let second : (is_allowed text_column g && true) ≡ true = and_right (is_allowed id_column f) _ is in
    let key : is_allowed id_column (field_of (field_value Kinds.Integer f)) ≡ true = id_back f (and_left (is_allowed id_column f) _ is) in
    let text : is_allowed text_column (field_of (field_value (Kinds.Varchar 40) g)) ≡ true =
    text_back g (and_left (is_of_characters g) _ (and_right (is_of_characters f) _ scalars)) (and_left (is_allowed text_column g) _ second) in
    rw (key, text) refl
rows_back (f ∷ (g ∷ (h ∷ fields))) scalars is =
    let second : (is_allowed text_column g && false) ≡ true = and_right (is_allowed id_column f) _ is in
    absurd (let e : false ≡ true = and_right (is_allowed text_column g) false second in cc)

-- ROWS
in_table : (e b r : Bool) → (e && (nat_lt (if b then 0 else 1) 1 && r)) ≡ true → b ≡ true
in_table true true r is = refl
in_table true false r is = cc
in_table false b r is = cc

in_pair : (row : TxRow) → is_own_insert one row ≡ true → bytes_eq (codes "pair") row.table ≡ true
in_pair row is = in_table (is_insert row.event) (bytes_eq (codes "pair") row.table) _ is

allowed_row : (row : TxRow) → is_own_insert one row ≡ true → are_allowed (columns_of one 0) row.fields ≡ true
allowed_row row is = let named = rw (in_pair row is) at is in and_right (is_insert row.event) _ named

abbrev pub IsWhole : Change → Type 0
IsWhole c = is_whole_insert one (doc_of one c) ≡ true

abbrev own_done : TxRow → Done
own_done row = record { step = step_of one row; old = None }

whole_row : (row : TxRow) → is_written_row row ≡ true → (id tx channel : ℕ) → IsWhole (change_of id tx None channel (own_done row))
whole_row row is id tx channel =
    let own : is_own_insert one row ≡ true = and_left (is_own_insert one row) _ is in
    let back : are_allowed (columns_of one 0) (map field_of (row_values (columns_of one 0) row.fields)) ≡ true =
    rows_back row.fields (and_right (is_own_insert one row) _ is) (allowed_row row own) in
    rw (in_pair row own, back) refl

-- CHANGES
each_captured : (P : Change → Type 0) (o : Option ℕ) (id tx : ℕ) (source : Option (List ℕ)) (done : Done) (without more : List Change)
    → ((channel : ℕ) → P (change_of id tx source channel done)) → Each P without → Each P more → Each P (onto_changes o id tx source done without more)
each_captured P None id tx source done without more here first second = first
each_captured P (Some channel) id tx source done without more here first second = (here channel, second)

whole_changes : (group : List ℕ) (id tx : ℕ) (rows : List TxRow) → All (λ (row : TxRow). is_written_row row ≡ true) rows → Each IsWhole (changes_from one group None id tx (steps_of one rows))
whole_changes group id tx [] are = tt
whole_changes group id tx (row ∷ rows) are =
    each_captured IsWhole (captured_channel one group (is_own_source None) (own_done row).step) id tx None (own_done row) _ _
    (λ channel. whole_row row (All-head (λ (r : TxRow). is_written_row r ≡ true) row rows are) id tx channel)
    (whole_changes group id tx rows (All-tail (λ (r : TxRow). is_written_row r ≡ true) row rows are))
    (whole_changes group (id + 1) tx rows (All-tail (λ (r : TxRow). is_written_row r ≡ true) row rows are))

-- an act of a node that is written to and loads nothing
abbrev pub IsOwn : Act → Type 0
IsOwn (Wrote writer number rows) = All (λ (row : TxRow). is_written_row row ≡ true) rows
IsOwn Routed = Unit {0}
IsOwn (Loaded from channel batch rows) = ⊥
IsOwn (Acked from acks) = Unit {0}

pub captured_whole : (me other : Peer) (acts : List Act) → Each IsOwn acts → Each IsWhole (captured_of one (paired me other) acts)
captured_whole me other [] own = tt
captured_whole me other (Wrote writer number rows ∷ acts) own =
    each_append IsWhole (captured_of one (paired me other) acts) _ (captured_whole me other acts own.1)
    (whole_changes me.group (last_change_of one (paired me other) acts + 1) (last_tx_of (paired me other) acts + 1) rows own.0)
captured_whole me other (Routed ∷ acts) own = captured_whole me other acts own.1
captured_whole me other (Loaded from channel batch rows ∷ acts) own = absurd own.0
captured_whole me other (Acked from acks ∷ acts) own = captured_whole me other acts own.1

-- BATCHES
found_by : (c : Change) (o : Option Change) (t : Bool) → IsWhole c → ((f : Change) → o ≡ Some f → IsWhole f) → (f : Change) → (if t then Some c else o) ≡ Some f → IsWhole f
found_by c o true here on f is = let same : c ≡ f = cc in subst IsWhole same here
found_by c o false here on f is = on f is

found_whole : (id : ℕ) (changes : List Change) → Each IsWhole changes → (f : Change) → change_at id changes ≡ Some f → IsWhole f
found_whole id [] each f is = absurd (cc)
found_whole id (c ∷ changes) each f is = found_by c (change_at id changes) (c.id == id) each.0 (found_whole id changes each.1) f is

docs_by : (changes : List Change) (id : ℕ) (ids : List ℕ) (o : Option Change) → change_at id changes ≡ o → Each IsWhole changes
    → Each (λ (doc : DocRow). is_whole_insert one doc ≡ true) (map (doc_of one) (filter_map (λ (n : ℕ). change_at n changes) ids))
    → Each (λ (doc : DocRow). is_whole_insert one doc ≡ true) (map (doc_of one) (filter_map (λ (n : ℕ). change_at n changes) (id ∷ ids)))
docs_by changes id ids None is each on = rw is on
docs_by changes id ids (Some c) is each on = rw is (found_whole id changes each c is, on)

docs_whole : (changes : List Change) (ids : List ℕ) → Each IsWhole changes
    → Each (λ (doc : DocRow). is_whole_insert one doc ≡ true) (map (doc_of one) (filter_map (λ (n : ℕ). change_at n changes) ids))
docs_whole changes [] each = tt
docs_whole changes (id ∷ ids) each = docs_by changes id ids (change_at id changes) refl each (docs_whole changes ids each)

pub sents_whole : (s : State) (batches : List OutBatch) → Each IsWhole s.changes → Each (λ (sent : Sent). All (λ (doc : DocRow). is_whole_insert one doc ≡ true) sent.rows) (map (sent_of one s) batches)
sents_whole s [] each = tt
sents_whole s (b ∷ batches) each =
    (all_from_each (λ (doc : DocRow). is_whole_insert one doc ≡ true) (rows_of one s b) (docs_whole s.changes b.changes each), sents_whole s batches each)
