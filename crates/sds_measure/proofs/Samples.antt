-- The sample has a written form, however many rows it has.
use Rattle.std.proofs.Common.{◌≡◌, ℕ, zero, suc, Bool, true, IsTrue, ◌&&◌, nat_le, List, [], ◌∷◌, ◌++◌, length, refl, ap, ◌∙◌, arith, rules}
use Rattle.std.proofs.lemmas.List.Folds.{list_all-append}
use lib.Utf8.{encode}
use Rattle.std.proofs.lemmas.Fmt.{decimal-digits_value}
use Rattle.std.proofs.lemmas.Str.Parse.{IsNumeralModel, numerals_by_weight}
use Rattle.std.specs.Char.{is_ascii_digit}
use Rattle.std.specs.Fmt.{decimal}
use Rattle.sds_value.specs.Digits.{digits_value}
use Rattle.std.specs.List.{list_all}
use Rattle.std.specs.Prelude.{replicate, codes}
use Rattle.sds_types.specs.Limits.{most_line_bytes}
use Rattle.sds_types.specs.declared.document.BatchDoc.{BatchDoc}
use Rattle.sds_value.specs.declared.row.DocRow.{DocRow}
use Rattle.sds_batchtext.specs.Writable.{is_row, is_writable}
use Rattle.sds_batchtext.specs.Writing.{lines_of_batch, lines_of_rows, later_lines, name_line}
use Rattle.sds_measure.specs.Sample.{sample_row, sample_batch}

pub one_more : (n : ℕ) → replicate n sample_row ++ sample_row ∷ [] ≡ replicate (suc n) sample_row
one_more zero = refl
one_more (suc n) = ap (λ (l : List DocRow). sample_row ∷ l) (one_more n)

rows_fit : (n : ℕ) → list_all is_row (replicate n sample_row) ≡ true
rows_fit zero = refl
rows_fit (suc n) = rows_fit n

abbrev short : List ℕ → Bool
short line = nat_le (length line) most_line_bytes

later_fit : (n : ℕ) → list_all short (later_lines sample_row (replicate n sample_row)) ≡ true
unfolding encode
later_fit zero = refl
later_fit (suc n) = later_fit n

lines_fit : (n : ℕ) → list_all short (lines_of_rows (replicate n sample_row)) ≡ true
unfolding encode
lines_fit zero = refl
lines_fit (suc n) = later_fit n

both_true : (a b : Bool) → a ≡ true → b ≡ true → (a && b) ≡ true
both_true a b one two = rw (one, two) refl

own : IsNumeralModel (λ ds. list_all is_ascii_digit ds ≡ true) digits_value
own = numerals_by_weight _ (search rules) digits_value (search rules)

one_written : decimal 1 ≡ 49 ∷ []
one_written = decimal-digits_value own (49 ∷ []) refl (omega arith) (λ zero_first. refl) (omega arith)

all_fit : (n : ℕ) (id : List ℕ) → id ≡ 49 ∷ [] → list_all short (name_line (codes "channel,") (codes "sale") ∷ ((codes "batch," ++ id) ∷ (lines_of_rows (replicate n sample_row) ++ (codes "commit," ++ id) ∷ []))) ≡ true
unfolding encode
all_fit n id is =
    ap (λ (id : List ℕ). list_all short (name_line (codes "channel,") (codes "sale") ∷ ((codes "batch," ++ id) ∷ (lines_of_rows (replicate n sample_row) ++ (codes "commit," ++ id) ∷ [])))) is
    ∙ (list_all-append short (lines_of_rows (replicate n sample_row)) ((codes "commit," ++ 49 ∷ []) ∷ []) ∙ both_true (list_all short (lines_of_rows (replicate n sample_row))) true (lines_fit n) refl)

sample_writable : (n : ℕ) → is_writable (sample_batch n) ≡ true
sample_writable n = both_true (list_all is_row (replicate n sample_row)) (list_all short (lines_of_batch (sample_batch n))) (rows_fit n) (all_fit n (decimal 1) one_written)

pub writable_by : (batch : BatchDoc) (n : ℕ) → batch ≡ sample_batch n → IsTrue (is_writable batch)
writable_by batch n is = ap is_writable is ∙ sample_writable n
