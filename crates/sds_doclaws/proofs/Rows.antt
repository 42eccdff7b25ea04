-- Rows whose fields are short have a written form, and so has a batch of such rows.
use Rattle.std.proofs.Common.{◌≡◌, ℕ, suc, ◌+◌, ◌*◌, ◌≤◌, Bool, true, false, ◌&&◌, List, [], ◌∷◌, ◌++◌, length, Option, None, Some, refl, sym, ap, subst, arith, All, nat_lt, nat_le}
use Rattle.std.proofs.lemmas.Fmt.{length-decimal-le}
use Rattle.std.proofs.lemmas.List.{length-append}
use Rattle.std.proofs.lemmas.List.Elements.{All-nil, All-cons, All-append}
use Rattle.std.specs.Fmt.{decimal}
use Rattle.std.specs.List.{list_all}
use Rattle.std.specs.Prelude.{IfSome, codes, if◌then◌else◌}
use Rattle.std.specs.Str.{encode_utf8_all}
use Rattle.sds_value.specs.declared.kind.Binary.TheVariants.{Base64}
use Rattle.sds_value.specs.declared.row.DocRow.{DocRow}
use Rattle.sds_value.specs.declared.row.Event.{Event}
use Rattle.sds_value.specs.declared.row.Event.TheVariants.{Insert, Update, Delete}
use Rattle.sds_value.specs.declared.row.Field.{Field}
use Rattle.sds_value.specs.Names.{is_name_character, is_name_text}
use Rattle.sds_line.specs.Written.{are_fields, is_field, written_line}
use Rattle.sds_types.specs.Limits.{most_count, most_line_bytes}
use Rattle.sds_types.specs.declared.document.BatchDoc.{BatchDoc}
use Rattle.sds_batchtext.proofs.PlainLines.{encoded}
use Rattle.sds_batchtext.specs.Writable.{are_names, has_sides, is_batch_text, is_old_text, is_row, is_row_text, is_writable}
use Rattle.sds_batchtext.specs.Writing.{event_line, further_names, heading_after, heading_lines, later_lines, lines_of_batch, lines_of_rows, old_lines, row_lines, same_heading, values_line, name_line, names_line, number_line}
use Rattle.sds_trade.proofs.Lists.{all_head, all_tail}
use Rattle.sds_nodelaws.proofs.Lists.{and_both, and_left, from_le, is_le, is_lt_test}
use Rattle.sds_nodelaws.proofs.Held.{mapped}
use Rattle.sds_doclaws.proofs.Values.{IsFit}
use Rattle.sds_doclaws.proofs.Weights.{line_length, total}

-- TESTS of lists
pub all_pass : {X : Type 0} (p : X → Bool) (xs : List X) → All (λ x. p x ≡ true) xs → list_all p xs ≡ true
all_pass p [] are = refl
all_pass p (x ∷ xs) are = and_both (p x) (list_all p xs) (all_head (λ y. p y ≡ true) x xs are) (all_pass p xs (all_tail (λ y. p y ≡ true) x xs are))

abbrev pub IsName : List ℕ → Type 0
IsName name = is_name_text name ≡ true

-- ROWS. A row that has all that its written form asks for, and short lines
abbrev pub AreShort : List Field → Type 0
AreShort fields = total fields ≤ 1048500

pub record IsGood (row : DocRow) : Type 0 where
  pub table : is_name_text row.table ≡ true
  pub keys : All IsName row.keys
  pub some_key : 1 ≤ length row.keys
  pub few_keys : length row.keys ≤ 128
  pub columns : All IsName row.columns
  pub some_column : 1 ≤ length row.columns
  pub few_columns : length row.columns ≤ 128
  pub sides : has_sides row.event row ≡ true
  pub new : All IsFit row.new
  pub key : All IsFit row.key
  pub old : IfSome row.old (All IsFit)
  pub short : total row.new + total row.key ≤ 1048500
  pub short_old : IfSome row.old AreShort

names_are : (names : List (List ℕ)) → All IsName names → 1 ≤ length names → are_names names ≡ true
names_are names are some = and_both (nat_lt 0 (length names)) (list_all is_name_text names) (is_lt_test 0 (length names) some) (all_pass is_name_text names are)

good_is_row : (row : DocRow) → IsGood row → is_row row ≡ true
good_is_row row good = and_both _ _ good.table (and_both _ _ (names_are row.keys good.keys good.some_key)
    (and_both _ _ (names_are row.columns good.columns good.some_column) good.sides))

fields_are : (fields : List Field) → All IsFit fields → are_fields fields ≡ true
fields_are [] are = refl
fields_are (field ∷ fields) are = and_both (is_field field) (are_fields fields) (all_head IsFit field fields are).text (fields_are fields (all_tail IsFit field fields are))

old_is : (old : Option (List Field)) → IfSome old (All IsFit) → is_old_text old ≡ true
old_is None are = refl
old_is (Some fields) are = fields_are fields are

good_is_text : (row : DocRow) → IsGood row → is_row_text row ≡ true
good_is_text row good = and_both _ _ (fields_are row.new good.new) (and_both _ _ (fields_are row.key good.key) (old_is row.old good.old))

-- LINES
abbrev pub IsLine : List ℕ → Type 0
IsLine line = length line ≤ 1048576

name_short : (name : List ℕ) → IsName name → length (encode_utf8_all name) ≤ 50
name_short name is = subst (λ (bytes : List ℕ). length bytes ≤ 50) (sym (encoded name is))
    (from_le (length name) 50 (and_left (nat_le (length name) 50) (list_all is_name_character name) (rest (nat_le 1 (length name)) _ is)))
  where
    rest : (a b : Bool) → (a && b) ≡ true → b ≡ true
    rest true b both = both
    rest false b both = absurd (cc)

further_short : (names : List (List ℕ)) → All IsName names → length (further_names names) ≤ 51 * length names
further_short [] are = omega arith
further_short (name ∷ names) are =
    on (length (encode_utf8_all name ++ further_names names)) (length (encode_utf8_all name)) (length (further_names names)) (length names)
    (length-append (encode_utf8_all name) (further_names names)) (name_short name (all_head IsName name names are)) (further_short names (all_tail IsName name names are))
  where
    on : (n a b m : ℕ) → n ≡ a + b → a ≤ 50 → b ≤ 51 * m → suc n ≤ 51 * suc m
    on n a b m same first second = omega (arith, same, first, second)

-- a short word, and so many bytes after it
word_line : (word rest : List ℕ) (n : ℕ) → length word ≤ 10 → length rest ≤ n → n ≤ 1048560 → IsLine (word ++ rest)
word_line word rest n short few most = on (length (word ++ rest)) (length word) (length rest) (length-append word rest) short few
  where
    on : (k a b : ℕ) → k ≡ a + b → a ≤ 10 → b ≤ n → k ≤ 1048576
    on k a b same first second = omega (arith, same, first, second, most)

names_short : (word : List ℕ) (names : List (List ℕ)) → length word ≤ 10 → All IsName names → length names ≤ 128 → IsLine (names_line word names)
names_short word names short are few = word_line word (further_names names) 10000 short
    (on (length (further_names names)) (length names) (further_short names are) few) (omega arith)
  where
    on : (a m : ℕ) → a ≤ 51 * m → m ≤ 128 → a ≤ 10000
    on a m first second = omega (arith, first, second)

name_line_short : (word name : List ℕ) → length word ≤ 10 → IsName name → IsLine (name_line word name)
name_line_short word name short is = word_line word (encode_utf8_all name) 50 short (name_short name is) (omega arith)

heading_short : (row : DocRow) → IsGood row → All IsLine (heading_lines row)
heading_short row good =
    All-cons IsLine (name_line (codes "table,") row.table) (names_line (codes "keys") row.keys ∷ names_line (codes "columns") row.columns ∷ []) (name_line_short (codes "table,") row.table (omega arith) good.table)
    (All-cons IsLine (names_line (codes "keys") row.keys) (names_line (codes "columns") row.columns ∷ []) (names_short (codes "keys") row.keys (omega arith) good.keys good.few_keys)
    (All-cons IsLine (names_line (codes "columns") row.columns) [] (names_short (codes "columns") row.columns (omega arith) good.columns good.few_columns)
    (All-nil IsLine)))

values_short : (word : List ℕ) (fields : List Field) → length word ≤ 10 → total fields ≤ 1048500 → IsLine (values_line word fields)
values_short word fields short few = word_line word (written_line fields) 1048500 short
    (on (length (written_line fields)) (total fields) (line_length fields) few) (omega arith)
  where
    on : (a b : ℕ) → a ≤ b → b ≤ 1048500 → a ≤ 1048500
    on a b first second = omega (arith, first, second)

old_short : (old : Option (List Field)) → IfSome old AreShort → All IsLine (old_lines old)
old_short None short = All-nil IsLine
old_short (Some fields) short = All-cons IsLine (values_line (codes "old,") fields) [] (values_short (codes "old,") fields (omega arith) short) (All-nil IsLine)

event_short : (event : Event) (row : DocRow) → total row.new + total row.key ≤ 1048500 → IsLine (event_line event row)
event_short Insert row short = values_short (codes "insert,") row.new (omega arith) (on (total row.new) (total row.key) short)
  where
    on : (a b : ℕ) → a + b ≤ 1048500 → a ≤ 1048500
    on a b less = omega (arith, less)
event_short Update row short =
    word_line (codes "update,") (written_line row.new ++ 44 ∷ written_line row.key) 1048501 (omega arith)
    (on (length (written_line row.new ++ 44 ∷ written_line row.key)) (length (written_line row.new)) (length (written_line row.key)) (total row.new) (total row.key)
    (length-append (written_line row.new) (44 ∷ written_line row.key)) (line_length row.new) (line_length row.key) short) (omega arith)
  where
    on : (n a b c d : ℕ) → n ≡ a + suc b → a ≤ c → b ≤ d → c + d ≤ 1048500 → n ≤ 1048501
    on n a b c d same first second less = omega (arith, same, first, second, less)
event_short Delete row short = values_short (codes "delete,") row.key (omega arith) (on (total row.new) (total row.key) short)
  where
    on : (a b : ℕ) → a + b ≤ 1048500 → b ≤ 1048500
    on a b less = omega (arith, less)

row_short : (row : DocRow) → IsGood row → All IsLine (row_lines row)
row_short row good = All-append IsLine (old_lines row.old) (event_line row.event row ∷ []) (old_short row.old good.short_old)
    (All-cons IsLine (event_line row.event row) [] (event_short row.event row good.short) (All-nil IsLine))

heading_after_short : (before row : DocRow) → IsGood row → All IsLine (heading_after before row)
heading_after_short before row good = on (same_heading before row) (heading_short row good)
  where
    on : (same : Bool) → All IsLine (heading_lines row) → All IsLine (if same then [] else heading_lines row)
    on true short = All-nil IsLine
    on false short = short

later_short : (before : DocRow) (rows : List DocRow) → All IsGood rows → All IsLine (later_lines before rows)
later_short before [] good = All-nil IsLine
later_short before (row ∷ rows) good =
    All-append IsLine (heading_after before row) (row_lines row ++ later_lines row rows) (heading_after_short before row (all_head IsGood row rows good))
    (All-append IsLine (row_lines row) (later_lines row rows) (row_short row (all_head IsGood row rows good)) (later_short row rows (all_tail IsGood row rows good)))

rows_short : (rows : List DocRow) → All IsGood rows → All IsLine (lines_of_rows rows)
rows_short [] good = All-nil IsLine
rows_short (row ∷ rows) good =
    All-append IsLine (heading_lines row) (row_lines row ++ later_lines row rows) (heading_short row (all_head IsGood row rows good))
    (All-append IsLine (row_lines row) (later_lines row rows) (row_short row (all_head IsGood row rows good)) (later_short row rows (all_tail IsGood row rows good)))

-- BATCHES
number_short : (word : List ℕ) (n : ℕ) → length word ≤ 10 → n ≤ most_count → IsLine (number_line word n)
number_short word n short most =
    word_line word (decimal n) 20 short (length-decimal-le 20 n (omega arith) (omega (arith, most)) (omega (arith, most))) (omega arith)

pub record IsNumbered (batch : BatchDoc) : Type 0 where
  pub binary : batch.binary ≡ Base64
  pub least : 1 ≤ batch.batch
  pub most : batch.batch ≤ most_count
  pub channel : is_name_text batch.channel ≡ true

pub good_writable : (batch : BatchDoc) → IsNumbered batch → All IsGood batch.rows → is_writable batch ≡ true
good_writable batch numbered good =
    and_both _ _ (ap Rattle.sds_batchtext.specs.Writable.is_base64 numbered.binary)
    (and_both _ _ (and_both _ _ (is_le 1 batch.batch numbered.least) (is_le batch.batch most_count numbered.most))
    (and_both _ _ numbered.channel
    (and_both _ _ (all_pass is_row batch.rows (mapped IsGood (λ (row : DocRow). is_row row ≡ true) batch.rows good_is_row good))
    (all_pass (λ (line : List ℕ). nat_le (length line) most_line_bytes) (lines_of_batch batch)
    (mapped IsLine (λ (line : List ℕ). nat_le (length line) most_line_bytes ≡ true) (lines_of_batch batch) (λ line short. is_le (length line) most_line_bytes short)
    (All-cons IsLine (name_line (codes "channel,") batch.channel)
    (number_line (codes "batch,") batch.batch ∷ (lines_of_rows batch.rows ++ number_line (codes "commit,") batch.batch ∷ [])) (name_line_short (codes "channel,") batch.channel (omega arith) numbered.channel)
    (All-cons IsLine (number_line (codes "batch,") batch.batch) (lines_of_rows batch.rows ++ number_line (codes "commit,") batch.batch ∷ []) (number_short (codes "batch,") batch.batch (omega arith) numbered.most)
    (All-append IsLine (lines_of_rows batch.rows) (number_line (codes "commit,") batch.batch ∷ []) (rows_short batch.rows good)
    (All-cons IsLine (number_line (codes "commit,") batch.batch) [] (number_short (codes "commit,") batch.batch (omega arith) numbered.most) (All-nil IsLine))))))))))

pub good_text : (batch : BatchDoc) → All IsGood batch.rows → is_batch_text batch ≡ true
good_text batch good = all_pass is_row_text batch.rows (mapped IsGood (λ (row : DocRow). is_row_text row ≡ true) batch.rows good_is_text good)
