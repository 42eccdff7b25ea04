-- The written lines of a batch read back as that batch.
use Rattle.std.proofs.Common.{◌≡◌, ℕ, ◌+◌, ◌<◌, ◌≤◌, ◌^◌, Bool, true, false, ◌&&◌, ◌==◌, nat_lt, nat_le, List, [], ◌∷◌, ◌++◌, length, length-append, map, take, drop, Option, None, Some, Ok, refl, sym, ap, ◌∙◌, arith, if◌then◌else◌}
use Rattle.std.proofs.Math.Seq.{take-append_seam, drop-append_seam}
use Rattle.std.proofs.lemmas.Bool.Decides.{nat_tests}
use Rattle.std.proofs.lemmas.List.Folds.{list_all-append}
use Rattle.std.proofs.lemmas.Slice.Eq.{bytes_eq-Decides}
use Rattle.std.specs.Fmt.{decimal}
use Rattle.std.specs.List.{list_all}
use Rattle.std.specs.Prelude.{codes, is_some, is_none}
use Rattle.std.specs.Str.{bytes_eq}
use Rattle.sds_line.proofs.Comparisons.{both, eq_from, le_from}
use Rattle.sds_line.specs.Reading.{line_of}
use Rattle.sds_line.specs.Written.{written_line, are_fields}
use Rattle.sds_types.specs.Limits.{most_count, most_line_bytes}
use Rattle.sds_types.specs.declared.document.BatchDoc.{BatchDoc}
use Rattle.sds_value.specs.Digits.{digits_value, is_digit_text}
use Rattle.sds_value.specs.Names.{is_name_text}
use Rattle.sds_value.specs.declared.kind.Binary.TheVariants.{Base64}
use Rattle.sds_value.specs.declared.row.DocRow.{DocRow}
use Rattle.sds_value.specs.declared.row.Event.{Event}
use Rattle.sds_value.specs.declared.row.Event.TheVariants as event
use Rattle.sds_value.specs.declared.row.Field.{Field}
use Rattle.sds_value.specs.declared.row.Field.TheVariants.{Text}
use Rattle.sds_batchtext.specs.declared.directive.Directive.TheVariants as directive
use Rattle.sds_batchtext.specs.declared.doc_line.DocLine.{DocLine}
use Rattle.sds_batchtext.specs.declared.doc_line.DocLine.TheVariants.{Table, Keys, Columns, Insert, Update, Old, Delete}
use Rattle.sds_batchtext.specs.declared.heading.Heading.{Heading}
use Rattle.sds_batchtext.specs.DocLines.{said, name_in, names_in, all_names, onto, id_in, in_range}
use Rattle.sds_batchtext.specs.Documents.{batches_of, row_of, rows_of}
use Rattle.sds_batchtext.specs.Judging.{given, is_complete}
use Rattle.sds_batchtext.specs.LookingBack.{node_of, binary_of, channel_of, batch_lines, commit_lines, is_open, last_batch, table_of, keys_of, columns_of, heading_at, heading_of, pending_old}
use Rattle.sds_batchtext.specs.Writable.{are_names, is_old, has_sides, is_row_text}
use Rattle.sds_batchtext.specs.Writing.{name_line, names_line, values_line, event_line, row_lines}
use Rattle.sds_batchtext.proofs.PlainLines.{name_back, names_back, values_back, written_append, fields_append, decimal_digits, decimal_value, decimal_some}
use Rattle.sds_batchtext.proofs.Plays.{Plays, plays_line, plays_then, judged_ok, stands, stands_after}

-- A BATCH IS OPEN with this id, under this heading, after these rows and these whole batches, and with this old row that waits
pub record IsInside (older : List DocLine) (id : ℕ) (heading : Heading) (rows : List DocRow) (whole : List BatchDoc) (channel : List ℕ) (old : Option (List Field)) : Type 0 where
  pub count : batch_lines older ≡ commit_lines older + 1
  pub last : last_batch older ≡ Some id
  pub pending : pending_old older ≡ old
  pub under : heading_of older ≡ heading
  pub binary : binary_of older ≡ Base64
  pub named : channel_of older ≡ Some channel
  pub given_rows : rows_of older ≡ rows
  pub given_batches : batches_of older ≡ whole
  pub node : is_some (node_of older) ≡ true

-- none is open, after these batches
pub record IsOutside (older : List DocLine) (whole : List BatchDoc) : Type 0 where
  pub count : batch_lines older ≡ commit_lines older
  pub pending : pending_old older ≡ None
  pub binary : binary_of older ≡ Base64
  pub given_batches : batches_of older ≡ whole
  pub node : is_some (node_of older) ≡ true

open_by : (b c : ℕ) → b ≡ c + 1 → nat_lt c b ≡ true
open_by b c is = grind (arith, nat_tests)

closed_by : (b c : ℕ) → b ≡ c → nat_lt c b ≡ false
closed_by b c is = grind (arith, nat_tests)

pub and_true : (a b : Bool) → a ≡ true → b ≡ true → (a && b) ≡ true
and_true a b one two = rw (one, two) refl

short : (line : List ℕ) → nat_le (length line) most_line_bytes ≡ true → length line ≤ 1048576
short line is = le_from (length line) most_line_bytes is

abbrev pub are_short : List (List ℕ) → Bool
are_short lines = list_all (λ line. nat_le (length line) most_line_bytes) lines

pub short_parts : (a b : List (List ℕ)) → are_short (a ++ b) ≡ true → (are_short a ≡ true) × (are_short b ≡ true)
short_parts a b is = both (are_short a) (are_short b) (sym (list_all-append (λ (line : List ℕ). nat_le (length line) most_line_bytes) a b) ∙ is)

pub first_short : (line : List ℕ) (lines : List (List ℕ)) → are_short (line ∷ lines) ≡ true → (length line ≤ 1048576) × (are_short lines ≡ true)
first_short line lines is = let two = both _ (are_short lines) is in (short line two.0, two.1)

same_bytes : (t : List ℕ) → bytes_eq t t ≡ true
same_bytes t = (bytes_eq-Decides t t).1 refl

-- names that are fields are names again
pub name_said : (name : List ℕ) (say : List ℕ → DocLine) → is_name_text name ≡ true → said say (name_in (Text name ∷ [])) ≡ Some (say name)
name_said name say is = ap (λ (b : Bool). said say (if b then Some name else None)) is

all_said : (names : List (List ℕ)) → list_all is_name_text names ≡ true → all_names (map (λ n. Text n) names) ≡ Some names
all_said [] all = refl
all_said (name ∷ names) all =
    let two = both (is_name_text name) (list_all is_name_text names) all in
    ap (λ (b : Bool). onto (if b then Some name else None) (all_names (map (λ n. Text n) names))) two.0 ∙ ap (onto (Some name)) (all_said names two.1)

pub id_said : (n : ℕ) (say : ℕ → DocLine) → (nat_le 1 n && nat_le n most_count) ≡ true → n < 2 ^ 64 → 0 < n → said say (id_in (Text (decimal n) ∷ [])) ≡ Some (say n)
id_said n say range few more =
    let some : (nat_lt 0 (length (decimal n))) ≡ true = positive (length (decimal n)) (decimal_some n few more) in
    let digits : is_digit_text (decimal n) ≡ true = and_true _ _ some (decimal_digits n few) in
    ap (λ (b : Bool). said say (if b then in_range (digits_value (decimal n)) else None)) digits
    ∙ (ap (λ (v : ℕ). said say (in_range v)) (decimal_value n few) ∙ ap (λ (b : Bool). said say (if b then Some n else None)) range)
  where
    positive : (k : ℕ) → 0 < k → nat_lt 0 k ≡ true
    positive k more = grind (arith, nat_tests)

abbrev pub heading_for : DocRow → Heading
heading_for row = record { table = Some row.table; keys = Some row.keys; columns = Some row.columns }

abbrev pub named_heading : List ℕ → List (List ℕ) → List (List ℕ) → Heading
named_heading table keys columns = record { table = Some table; keys = Some keys; columns = Some columns }

-- THE HEADING of a row
abbrev pub heading_lines_said : List ℕ → List (List ℕ) → List (List ℕ) → List DocLine → List DocLine
heading_lines_said table keys columns older = Columns columns ∷ (Keys keys ∷ (Table table ∷ older))

some_names : (names : List (List ℕ)) → are_names names ≡ true → (name : List ℕ) × (others : List (List ℕ)) × (names ≡ name ∷ others)
some_names [] is = absurd (cc)
some_names (name ∷ others) is = (name, others, refl)

keys_line_reads : (names : List (List ℕ)) → are_names names ≡ true → line_of (names_line (codes "keys") names) ≡ Ok (Text (codes "keys") ∷ map (λ n. Text n) names)
keys_line_reads [] is = absurd (cc)
keys_line_reads (name ∷ names) is = let two = both (is_name_text name) (list_all is_name_text names) (both _ _ is).1 in names_back name names (Text (codes "keys") ∷ []) two.0 two.1

columns_line_reads : (names : List (List ℕ)) → are_names names ≡ true → line_of (names_line (codes "columns") names) ≡ Ok (Text (codes "columns") ∷ map (λ n. Text n) names)
columns_line_reads [] is = absurd (cc)
columns_line_reads (name ∷ names) is = let two = both (is_name_text name) (list_all is_name_text names) (both _ _ is).1 in names_back name names (Text (codes "columns") ∷ []) two.0 two.1

names_said : (names : List (List ℕ)) (say : List (List ℕ) → DocLine) → are_names names ≡ true → said say (names_in (map (λ n. Text n) names)) ≡ Some (say names)
names_said [] say is = absurd (cc)
names_said (name ∷ names) say is = ap (said say) (all_said (name ∷ names) (both _ _ is).1)

pub opened : (older : List DocLine) → batch_lines older ≡ commit_lines older + 1 → is_open older ≡ true
opened older count = open_by (batch_lines older) (commit_lines older) count

pub closed : (older : List DocLine) → batch_lines older ≡ commit_lines older → is_open older ≡ false
closed older count = closed_by (batch_lines older) (commit_lines older) count

pub heading_step : (older : List DocLine) (id : ℕ) (heading : Heading) (rows : List DocRow) (whole : List BatchDoc) (channel table : List ℕ) (keys columns : List (List ℕ))
    → IsInside older id heading rows whole channel None → is_name_text table ≡ true → are_names keys ≡ true → are_names columns ≡ true
    → are_short (name_line (codes "table,") table ∷ (names_line (codes "keys") keys ∷ (names_line (codes "columns") columns ∷ []))) ≡ true
    → Plays older (name_line (codes "table,") table ∷ (names_line (codes "keys") keys ∷ (names_line (codes "columns") columns ∷ []))) (heading_lines_said table keys columns older)
    × IsInside (heading_lines_said table keys columns older) id (named_heading table keys columns) rows whole channel None
heading_step older id heading rows whole channel table keys columns inside is_table is_keys is_columns is_short =
    let open_here : is_open older ≡ true = opened older inside.count in
    let s1 = first_short (name_line (codes "table,") table) (names_line (codes "keys") keys ∷ (names_line (codes "columns") columns ∷ [])) is_short in
    let s2 = first_short (names_line (codes "keys") keys) (names_line (codes "columns") columns ∷ []) s1.1 in
    let s3 = first_short (names_line (codes "columns") columns) [] s2.1 in
    let one : Plays older (name_line (codes "table,") table ∷ []) (Table table ∷ older) =
    plays_line older (name_line (codes "table,") table) (Text (codes "table")) (Text table ∷ []) (Table table) (name_back table (Text (codes "table") ∷ []) is_table) s1.0 (λ n.
    judged_ok older n (Text (codes "table") ∷ (Text table ∷ [])) directive.Table (Table table) refl (stands older directive.Table inside.pending open_here) (name_said table Table is_table) refl refl) in
    let two : Plays (Table table ∷ older) (names_line (codes "keys") keys ∷ []) (Keys keys ∷ (Table table ∷ older)) =
    plays_line (Table table ∷ older) (names_line (codes "keys") keys) (Text (codes "keys")) (map (λ n. Text n) keys) (Keys keys) (keys_line_reads keys is_keys) s2.0 (λ n.
    judged_ok (Table table ∷ older) n (Text (codes "keys") ∷ map (λ n. Text n) keys) directive.Keys (Keys keys) refl
    (stands (Table table ∷ older) directive.Keys refl (and_true (is_open older) true open_here refl)) (names_said keys Keys is_keys) refl refl) in
    let three : Plays (Keys keys ∷ (Table table ∷ older)) (names_line (codes "columns") columns ∷ []) (heading_lines_said table keys columns older) =
    plays_line (Keys keys ∷ (Table table ∷ older)) (names_line (codes "columns") columns) (Text (codes "columns")) (map (λ n. Text n) columns) (Columns columns) (columns_line_reads columns is_columns) s3.0 (λ n.
    judged_ok (Keys keys ∷ (Table table ∷ older)) n (Text (codes "columns") ∷ map (λ n. Text n) columns) directive.Columns (Columns columns) refl
    (stands (Keys keys ∷ (Table table ∷ older)) directive.Columns refl (and_true (is_open older) true open_here refl)) (names_said columns Columns is_columns) refl refl) in (
      plays_then older (Table table ∷ older) (heading_lines_said table keys columns older) (name_line (codes "table,") table ∷ []) (names_line (codes "keys") keys ∷ (names_line (codes "columns") columns ∷ [])) one
          (plays_then (Table table ∷ older) (Keys keys ∷ (Table table ∷ older)) (heading_lines_said table keys columns older) (names_line (codes "keys") keys ∷ []) (names_line (codes "columns") columns ∷ []) two three),
      record {
        count = inside.count;
        last = inside.last;
        pending = refl;
        under = ap (λ (b : Bool). named_by b) (same_bytes table);
        binary = inside.binary;
        named = inside.named;
        given_rows = inside.given_rows;
        given_batches = inside.given_batches;
        node = inside.node;
      },
    )
  where
    named_by : Bool → Heading
    named_by b = record {
      table = Some table;
      keys = if b then Some keys else keys_of table (Table table ∷ older);
      columns = if b then Some columns else columns_of table (Keys keys ∷ (Table table ∷ older));
    }

-- A ROW
insert_under : (o : Option (List ℕ)) (values : List Field) (older : List DocLine) → heading_at o (Insert values ∷ older) ≡ heading_at o older
insert_under None values older = refl
insert_under (Some table) values older = refl

update_under : (o : Option (List ℕ)) (values : List Field) (older : List DocLine) → heading_at o (Update values ∷ older) ≡ heading_at o older
update_under None values older = refl
update_under (Some table) values older = refl

delete_under : (o : Option (List ℕ)) (values : List Field) (older : List DocLine) → heading_at o (Delete values ∷ older) ≡ heading_at o older
delete_under None values older = refl
delete_under (Some table) values older = refl

old_under : (o : Option (List ℕ)) (values : List Field) (older : List DocLine) → heading_at o (Old values ∷ older) ≡ heading_at o older
old_under None values older = refl
old_under (Some table) values older = refl

nil_from : (xs : List Field) → (length xs == 0) ≡ true → xs ≡ []
nil_from [] is = refl
nil_from (x ∷ xs) is = let none : length (x ∷ xs) ≡ 0 = eq_from (length (x ∷ xs)) 0 is in absurd (omega arith)

none_from : (o : Option (List Field)) → is_none o ≡ true → o ≡ None
none_from None is = refl
none_from (Some x) is = absurd (cc)

some_values : (values : List Field) (names : List (List ℕ)) → (length values == length names) ≡ true → are_names names ≡ true → 0 < length values
some_values values [] same is = absurd (cc)
some_values values (name ∷ names) same is = let count : length values ≡ length (name ∷ names) = eq_from (length values) (length (name ∷ names)) same in omega (arith, count)

more_values : (a b : List Field) → 0 < length a → 0 < length (a ++ b)
more_values a b some = let sum : length (a ++ b) ≡ length a + length b = length-append a b in omega (arith, sum)

sum_test : (a b : List Field) (c k : ℕ) → (length a == c) ≡ true → (length b == k) ≡ true → (length (a ++ b) == c + k) ≡ true
sum_test a b c k one two =
    let first : length a ≡ c = eq_from (length a) c one in
    let second : length b ≡ k = eq_from (length b) k two in
    let sum : length (a ++ b) ≡ length a + length b = length-append a b in
    eq_yes (length (a ++ b)) (c + k) (omega (arith, sum, first, second))
  where
    eq_yes : (m n : ℕ) → m ≡ n → (m == n) ≡ true
    eq_yes m n is = grind (arith, nat_tests)

complete : (older : List DocLine) (table : List ℕ) (keys columns : List (List ℕ)) → batch_lines older ≡ commit_lines older + 1 → heading_of older ≡ named_heading table keys columns → (is_open older && is_complete (heading_of older)) ≡ true
complete older table keys columns count under = and_true _ _ (opened older count) (ap is_complete under)

abbrev pub row_at : Event → List ℕ → List (List ℕ) → List (List ℕ) → List Field → List Field → Option (List Field) → DocRow
row_at kind table keys columns new key old = record { event = kind; table = table; keys = keys; columns = columns; new = new; key = key; old = old }

pub event_step : (kind : Event) (older : List DocLine) (id : ℕ) (rows : List DocRow) (whole : List BatchDoc) (channel table : List ℕ) (keys columns : List (List ℕ)) (new key : List Field) (old : Option (List Field))
    → IsInside older id (named_heading table keys columns) rows whole channel old → are_names keys ≡ true → are_names columns ≡ true → has_sides kind (row_at kind table keys columns new key old) ≡ true
    → are_fields new ≡ true → are_fields key ≡ true → are_short (event_line kind (row_at kind table keys columns new key old) ∷ []) ≡ true
    → (said : DocLine) × (Plays older (event_line kind (row_at kind table keys columns new key old) ∷ []) (said ∷ older)
    × IsInside (said ∷ older) id (named_heading table keys columns) (rows ++ row_at kind table keys columns new key old ∷ []) whole channel None)
event_step event.Insert older id rows whole channel table keys columns new key old inside is_keys is_columns sides new_text key_text is_short =
    let s = first_short (event_line event.Insert (row_at event.Insert table keys columns new key old)) [] is_short in
    let p = both (length new == length columns) ((length key == 0) && is_none old) sides in
    let q = both (length key == 0) (is_none old) p.1 in
    let no_key : key ≡ [] = nil_from key q.0 in
    let no_old : old ≡ None = none_from old q.1 in (
      Insert new,
      (
        plays_line older (values_line (codes "insert,") new) (Text (codes "insert")) new (Insert new) (values_back new (Text (codes "insert") ∷ []) new_text (some_values new columns p.0 is_columns)) s.0 (λ n.
            judged_ok older n (Text (codes "insert") ∷ new) directive.Insert (Insert new) refl (stands older directive.Insert (inside.pending ∙ no_old) (complete older table keys columns inside.count inside.under)) refl
            (ap (λ (h : Heading). length new == length (given h.columns)) inside.under ∙ p.0) refl),
        record {
          count = inside.count;
          last = inside.last;
          pending = refl;
          under = insert_under (table_of older) new older ∙ inside.under;
          binary = inside.binary;
          named = inside.named;
          given_rows = λ i. inside.given_rows i ++ row_of (inside.under i) event.Insert new (sym no_key i) (sym no_old i) ∷ [];
          given_batches = inside.given_batches;
          node = inside.node;
        },
      ),
    )
event_step event.Update older id rows whole channel table keys columns new key old inside is_keys is_columns sides new_text key_text is_short =
    let s = first_short (event_line event.Update (row_at event.Update table keys columns new key old)) [] is_short in
    let p = both (length new == length columns) ((length key == length keys) && is_old old columns) sides in
    let q = both (length key == length keys) (is_old old columns) p.1 in
    let some_new : 0 < length new = some_values new columns p.0 is_columns in
    let some_key : 0 < length key = some_values key keys q.0 is_keys in
    let count : length columns ≡ length new = sym (eq_from (length new) (length columns) p.0) in
    let reads : line_of (codes "update," ++ (written_line new ++ 44 ∷ written_line key)) ≡ Ok (Text (codes "update") ∷ (new ++ key)) =
    ap (λ (l : List ℕ). line_of (codes "update," ++ l)) (sym (written_append new key some_new some_key))
    ∙ values_back (new ++ key) (Text (codes "update") ∷ []) (fields_append new key new_text key_text) (more_values new key some_new) in (
      Update (new ++ key),
      (
        plays_line older (codes "update," ++ (written_line new ++ 44 ∷ written_line key)) (Text (codes "update")) (new ++ key) (Update (new ++ key)) reads s.0 (λ n.
            judged_ok older n (Text (codes "update") ∷ (new ++ key)) directive.Update (Update (new ++ key)) refl (stands_after older directive.Update refl (complete older table keys columns inside.count inside.under)) refl
            (ap (λ (h : Heading). length (new ++ key) == length (given h.columns) + length (given h.keys)) inside.under ∙ sum_test new key (length columns) (length keys) p.0 q.0) refl),
        record {
          count = inside.count;
          last = inside.last;
          pending = refl;
          under = update_under (table_of older) (new ++ key) older ∙ inside.under;
          binary = inside.binary;
          named = inside.named;
          given_rows = (λ i. inside.given_rows i ++ row_of (inside.under i) event.Update (take (length (given (inside.under i).columns)) (new ++ key)) (drop (length (given (inside.under i).columns)) (new ++ key)) (inside.pending i) ∷ [])
              ∙ ((λ i. rows ++ row_of (named_heading table keys columns) event.Update (take (count i) (new ++ key)) (drop (count i) (new ++ key)) old ∷ [])
              ∙ (λ i. rows ++ row_of (named_heading table keys columns) event.Update (take-append_seam new key i) (drop-append_seam new key i) old ∷ []));
          given_batches = inside.given_batches;
          node = inside.node;
        },
      ),
    )
event_step event.Delete older id rows whole channel table keys columns new key old inside is_keys is_columns sides new_text key_text is_short =
    let s = first_short (event_line event.Delete (row_at event.Delete table keys columns new key old)) [] is_short in
    let p = both (length new == 0) ((length key == length keys) && is_old old columns) sides in
    let q = both (length key == length keys) (is_old old columns) p.1 in
    let no_new : new ≡ [] = nil_from new p.0 in (
      Delete key,
      (
        plays_line older (values_line (codes "delete,") key) (Text (codes "delete")) key (Delete key) (values_back key (Text (codes "delete") ∷ []) key_text (some_values key keys q.0 is_keys)) s.0 (λ n.
            judged_ok older n (Text (codes "delete") ∷ key) directive.Delete (Delete key) refl (stands_after older directive.Delete refl (complete older table keys columns inside.count inside.under)) refl
            (ap (λ (h : Heading). length key == length (given h.keys)) inside.under ∙ q.0) refl),
        record {
          count = inside.count;
          last = inside.last;
          pending = refl;
          under = delete_under (table_of older) key older ∙ inside.under;
          binary = inside.binary;
          named = inside.named;
          given_rows = λ i. inside.given_rows i ++ row_of (inside.under i) event.Delete (sym no_new i) key (inside.pending i) ∷ [];
          given_batches = inside.given_batches;
          node = inside.node;
        },
      ),
    )

-- the old row before it
old_test : (kind : Event) (table : List ℕ) (keys columns : List (List ℕ)) (new key values : List Field) → has_sides kind (row_at kind table keys columns new key (Some values)) ≡ true → (length values == length columns) ≡ true
old_test event.Insert table keys columns new key values sides = let q = both (length key == 0) false (both (length new == length columns) ((length key == 0) && false) sides).1 in absurd (no_true q.1)
  where
    no_true : false ≡ true → ⊥
    no_true is = absurd (cc)
old_test event.Update table keys columns new key values sides = (both (length key == length keys) (length values == length columns) (both (length new == length columns) _ sides).1).1
old_test event.Delete table keys columns new key values sides = (both (length key == length keys) (length values == length columns) (both (length new == 0) _ sides).1).1

pub row_step : (older : List DocLine) (id : ℕ) (rows : List DocRow) (whole : List BatchDoc) (channel : List ℕ) (kind : Event) (table : List ℕ) (keys columns : List (List ℕ)) (new key : List Field) (old : Option (List Field))
    → IsInside older id (named_heading table keys columns) rows whole channel None → are_names keys ≡ true → are_names columns ≡ true → has_sides kind (row_at kind table keys columns new key old) ≡ true
    → is_row_text (row_at kind table keys columns new key old) ≡ true → are_short (row_lines (row_at kind table keys columns new key old)) ≡ true
    → (later : List DocLine) × (Plays older (row_lines (row_at kind table keys columns new key old)) later
    × IsInside later id (named_heading table keys columns) (rows ++ row_at kind table keys columns new key old ∷ []) whole channel None)
row_step older id rows whole channel kind table keys columns new key None inside is_keys is_columns sides text is_short =
    let t = both (are_fields new) (are_fields key && true) text in
    let u = both (are_fields key) true t.1 in
    let step = event_step kind older id rows whole channel table keys columns new key None inside is_keys is_columns sides t.0 u.0 is_short in
    (step.0 ∷ older, (step.1.0, step.1.1))
row_step older id rows whole channel kind table keys columns new key (Some values) inside is_keys is_columns sides text is_short =
    let t = both (are_fields new) (are_fields key && are_fields values) text in
    let u = both (are_fields key) (are_fields values) t.1 in
    let fits : (length values == length columns) ≡ true = old_test kind table keys columns new key values sides in
    let parts = first_short (values_line (codes "old,") values) (event_line kind (row_at kind table keys columns new key (Some values)) ∷ []) is_short in
    let one : Plays older (values_line (codes "old,") values ∷ []) (Old values ∷ older) =
    plays_line older (values_line (codes "old,") values) (Text (codes "old")) values (Old values) (values_back values (Text (codes "old") ∷ []) u.1 (some_values values columns fits is_columns)) parts.0 (λ n.
    judged_ok older n (Text (codes "old") ∷ values) directive.Old (Old values) refl (stands older directive.Old inside.pending (complete older table keys columns inside.count inside.under)) refl
    (ap (λ (h : Heading). length values == length (given h.columns)) inside.under ∙ fits) refl) in
    let waits : IsInside (Old values ∷ older) id (named_heading table keys columns) rows whole channel (Some values) = record {
      count = inside.count;
      last = inside.last;
      pending = refl;
      under = old_under (table_of older) values older ∙ inside.under;
      binary = inside.binary;
      named = inside.named;
      given_rows = inside.given_rows;
      given_batches = inside.given_batches;
      node = inside.node;
    } in
    let step = event_step kind (Old values ∷ older) id rows whole channel table keys columns new key (Some values) waits is_keys is_columns sides t.0 u.0 parts.1 in (
      step.0 ∷ (Old values ∷ older),
      (
        plays_then older (Old values ∷ older) (step.0 ∷ (Old values ∷ older)) (values_line (codes "old,") values ∷ []) (event_line kind (row_at kind table keys columns new key (Some values)) ∷ []) one step.1.0,
        step.1.1,
      ),
    )
