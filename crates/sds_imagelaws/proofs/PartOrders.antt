-- Parts kind by kind ascend by their records' keys, and rows are sorted by them.
use Rattle.std.proofs.Common.{◌≡◌, ℕ, ◌<◌, ◌≤◌, true, cond, List, [], ◌∷◌, ◌++◌, length, map, Some, refl, sym, ap, subst, ◌∙◌, arith, All, AllPairs, get_or, is_lt, nat_cmp}
use Rattle.std.specs.Prelude.{IsTrue}
use Rattle.std.specs.Cmp.Lexicographic.{slice_cmp}
use Rattle.std.specs.Ordering.{ordering_then}
use Rattle.std.specs.Str.{bytes_eq}
use Rattle.std.proofs.lemmas.List.Elements.{All-append, All-nil}
use Rattle.std.proofs.lemmas.List.Kept.{AllPairs-cons}
use Rattle.sds_types.specs.declared.config.Config.{Config}
use Rattle.sds_types.specs.declared.row.TableRow.{TableRow}
use Rattle.sds_trade.proofs.Lists.{all_head, all_tail, pairs_append, pairs_head, pairs_tail}
use Rattle.sds_history.specs.history.Orders.{is_before, with_item}
use Rattle.sds_history.specs.history.RowRecords.{row_record}
use Rattle.sds_history.specs.history.SoundParts.{AscendBy}
use Rattle.sds_records.specs.Told.{record_of_told}
use Rattle.sds_records.specs.declared.told.Told.{Told}
use Rattle.sds_nodelaws.proofs.KeyedLists.{item_all, item_ascends, item_length, pairs_nil}
use Rattle.sds_nodelaws.proofs.Lists.{map_all}
use Rattle.sds_imagelaws.proofs.Items.{part_at}
use Rattle.sds_imagelaws.proofs.KeyOrders.{less_cmp}
use Rattle.sds_imagelaws.proofs.Sorted.{part_with_item}

-- ORDER of parts whose keys begin with different bytes
abbrev pub first_byte : List ℕ → ℕ
first_byte [] = 0
first_byte (c ∷ cs) = c

byte_before : (a b : List ℕ) → first_byte a < first_byte b → is_before a b ≡ true
byte_before [] [] less = let none : 0 < 0 = less in absurd (omega (arith, none))
byte_before [] (d ∷ ds) less = refl
byte_before (c ∷ cs) [] less = let none : c < 0 = less in absurd (omega (arith, none))
byte_before (c ∷ cs) (d ∷ ds) less = ap (λ o. is_lt (ordering_then o (slice_cmp nat_cmp cs ds))) (less_cmp c d less)

pub map_pairs : {A B : Type 0} (Q : A → A → Type 0) (R : B → B → Type 0) (f : A → B) → ((x y : A) → Q x y → R (f x) (f y)) → (xs : List A) → AllPairs Q xs
    → AllPairs R (map f xs)
map_pairs Q R f by [] up = pairs_nil R
map_pairs Q R f by (x ∷ xs) up =
    AllPairs-cons R (f x) (map f xs)
    (map_all (R (f x)) f xs (λ k d within. by x (get_or xs k d) (pairs_head Q x xs up k d within)))
    (map_pairs Q R f by xs (pairs_tail Q x xs up))

module _ (config : Config) where
  abbrev pub byte_of : Told → ℕ
  byte_of told = first_byte (record_of_told config told).key

  abbrev pub Before : Told → Told → Type 0
  Before a b = is_before (record_of_told config a).key (record_of_told config b).key ≡ true

  -- parts that ascend and whose keys begin with this byte or a later one
  pub record From (byte : ℕ) (parts : List Told) : Type 0 where
    pub high : All (λ (told : Told). byte ≤ byte_of told) parts
    pub up : AllPairs Before parts

  pub from_none : (byte : ℕ) → From byte []
  from_none byte = record { high = All-nil (λ (told : Told). byte ≤ byte_of told); up = pairs_nil Before }

  lower : (a b c : ℕ) → a < b → b ≤ c → a < c
  lower a b c less low = omega (arith, less, low)

  at_least : (a b : ℕ) → b ≡ a → a ≤ b
  at_least a b is = omega (arith, is)

  lower_all : (a b : ℕ) (parts : List Told) → a < b → All (λ (told : Told). b ≤ byte_of told) parts → All (λ (told : Told). a ≤ byte_of told) parts
  lower_all a b parts less are k d within = weaker a b (byte_of (get_or parts k d)) less (are k d within)
    where
      weaker : (a b c : ℕ) → a < b → b ≤ c → a ≤ c
      weaker a b c less low = omega (arith, less, low)

  pub from_kind : {A : Type 0} (byte next : ℕ) (part : A → Told) (Q : A → A → Type 0) (xs : List A) (rest : List Told) → byte < next
      → ((x : A) → byte_of (part x) ≡ byte) → ((x y : A) → Q x y → Before (part x) (part y)) → AllPairs Q xs → From next rest → From byte (map part xs ++ rest)
  from_kind byte next part Q xs rest less at by up later = record {
    high = All-append (λ (told : Told). byte ≤ byte_of told) (map part xs) rest
        (map_all (λ (told : Told). byte ≤ byte_of told) part xs (λ k d within. at_least byte (byte_of (part (get_or xs k d))) (at (get_or xs k d))))
        (lower_all byte next rest less later.high);
    up = pairs_append Before (map part xs) rest (map_pairs Q Before part by xs up) later.up
        (map_all (λ (told : Told). All (Before told) rest) part xs
        (λ k d within. λ j e inside. byte_before (record_of_told config (part (get_or xs k d))).key (record_of_told config (get_or rest j e)).key
        (subst (λ b. b < byte_of (get_or rest j e)) (sym (at (get_or xs k d))) (lower byte next (byte_of (get_or rest j e)) less (later.high j e inside)))));
  }

-- ROWS in the order of their records' keys
module _ (config : Config) where
  abbrev pub row_key_of : TableRow → List ℕ
  row_key_of r = (row_record config r).key

  abbrev pub key_sorted : List TableRow → List TableRow
  key_sorted [] = []
  key_sorted (row ∷ rows) = with_item row_key_of row (key_sorted rows)

  pub key_sorted_up : (rows : List TableRow) → AscendBy row_key_of (key_sorted rows)
  key_sorted_up [] = pairs_nil (λ a b. IsTrue (is_before (row_key_of a) (row_key_of b)))
  key_sorted_up (row ∷ rows) = item_ascends row_key_of row (key_sorted rows) (key_sorted_up rows)

  pub key_sorted_all : (P : TableRow → Type 0) (rows : List TableRow) → All P rows → All P (key_sorted rows)
  key_sorted_all P [] are = are
  key_sorted_all P (row ∷ rows) are =
      item_all P row_key_of row (key_sorted rows) (all_head P row rows are) (key_sorted_all P rows (all_tail P row rows are))

  pub key_sorted_few : (rows : List TableRow) → length (key_sorted rows) ≤ length rows
  key_sorted_few [] = omega arith
  key_sorted_few (row ∷ rows) = let rest = key_sorted_few rows in let more = item_length row_key_of row (key_sorted rows) in omega (arith, rest, more)

  pub key_sorted_part : (key : List ℕ) (rows : List TableRow) → part_at (row_record config) key (key_sorted rows) ≡ part_at (row_record config) key rows
  key_sorted_part key [] = refl
  key_sorted_part key (row ∷ rows) =
      part_with_item (row_record config) row_key_of [] (λ x. refl) row (key_sorted rows) key
      ∙ ap (λ told. cond (bytes_eq (row_record config row).key key) (Some (row_record config row).body) told) (key_sorted_part key rows)
