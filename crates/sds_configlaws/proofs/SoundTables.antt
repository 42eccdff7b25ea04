-- The tables of a file are sound: their columns, keys and references.
use Rattle.std.proofs.Common.{◌≡◌, ◌≢◌, ℕ, zero, suc, ◌+◌, ◌<◌, ◌≤◌, Bool, true, false, cond, List, [], ◌∷◌, ◌++◌, length, map, Option, None, Some, refl, subst, All, AllPairs, sym, ap, ◌∙◌, true≢false, ◌&&◌, ◌==◌, arith}
use Rattle.std.specs.Bool.{IsTrue}
use Rattle.std.specs.List.{list_any, list_all, sum_by, enumerate_from}
use Rattle.std.specs.Option.{IsSomeAnd, IfSome}
use Rattle.std.specs.Prelude.{codes, if◌then◌else◌, option_map, option_and_then, slice_get, nat_le, nat_lt, unwrap_or, not}
use Rattle.std.specs.Str.{bytes_eq, chars}
use Rattle.std.proofs.lemmas.Bool.Decides.{nat_tests}
use Rattle.std.proofs.lemmas.List.{length-map}
use Rattle.std.proofs.lemmas.List.Elements.{All-nil, All-map}
use Rattle.std.proofs.lemmas.List.Kept.{AllPairs-cons}
use Rattle.std.proofs.lemmas.List.Sums.{AllPass-from_list_all}
use Rattle.std.proofs.lemmas.Option.{IfSome_then}
use Rattle.std.proofs.lemmas.Slice.Eq.{bytes_eq-Decides}
use Rattle.toml.specs.Data.{Members}
use Rattle.sds_trade.proofs.ReferenceLaws.{both_left, both_right}
use Rattle.sds_trade.specs.sound.Tables.{AreColumns, HasSize, IsKey, IsPresent, Refers, RefersWell, ReferWell, single_kind, width_of}
use Rattle.sds_types.specs.declared.config.Config.{Config}
use Rattle.sds_types.specs.declared.config_refusal.ConfigRefusal.{ConfigRefusal}
use Rattle.sds_types.specs.declared.config_refusal.ConfigRefusal.TheVariants.{BadSetting, TooMany}
use Rattle.sds_value.specs.Names.{is_name_text}
use Rattle.sds_value.specs.declared.kind.Kind.{Kind}
use Rattle.sds_value.specs.declared.kind.Kind.TheVariants.{Integer, Decimal, Varchar, Timestamp, Varbinary}
use Rattle.sds_value.specs.declared.table.ColumnDef.{ColumnDef}
use Rattle.sds_value.specs.declared.table.TableDef.{TableDef}
use Rattle.sds_config.specs.declared.columns.ColumnText.{ColumnText}
use Rattle.sds_config.specs.ColumnTexts.{columns_from}
use Rattle.sds_config.specs.Fields.{id_at, only_keys, place_of}
use Rattle.sds_config.specs.Sections.{section_of}
use Rattle.sds_config.specs.TableEntries.{are_distinct, are_sound, column_of, has_key, is_kind, key_kind, key_places, only_key_kind, parent_place, parent_of, referred_kind, refers_well, same_kind, table_key_kind, table_of, texts_at, whole_table, widths}
use Rattle.sds_configlaws.proofs.Gave.{Answer, Is, gives, refuses, gave, same_value, never, no_value, below, not_above, not_same, place_within, all_snoc, all_mapped, pairs_snoc, no_pairs, none_passes, IsNew, new_given}
use Rattle.sds_configlaws.proofs.Kept.{Keeps, IsKept, section_kept}
use Rattle.sds_configlaws.proofs.SoundColumns.{IsWritten, columns_written, widths_same}
use Rattle.sds_configlaws.proofs.SoundKeys.{Below, Placed, places_placed, places_ascend, places_few, places_some, single_kinds}

-- COLUMNS. No name stands twice
abbrev NamesApart : ColumnDef → ColumnDef → Type 0
NamesApart a b = a.name ≢ b.name

split_not : (a b : Bool) → (not a && b) ≡ true → a ≡ false
split_not true b is = absurd (true≢false (sym is))
split_not false b is = refl

turned : (a b : List ℕ) → bytes_eq b a ≡ false → a ≢ b
turned a b isnt same = absurd (true≢false (sym ((bytes_eq-Decides b a).1 (sym same)) ∙ isnt))

columns_apart : (earlier : List TableDef) (columns : List ColumnText) → are_distinct columns ≡ true → AllPairs NamesApart (map (column_of earlier) columns)
columns_apart earlier [] is = no_pairs NamesApart
columns_apart earlier (column ∷ columns) is =
    AllPairs-cons NamesApart (column_of earlier column) (map (column_of earlier) columns)
    (All-map (NamesApart (column_of earlier column)) (column_of earlier) columns
    (all_mapped (λ other. bytes_eq other.name column.name ≡ false) (λ other. column.name ≢ other.name) columns
    (λ other isnt. turned column.name other.name isnt)
    (none_passes (λ other. bytes_eq other.name column.name) columns (split_not _ _ is))))
    (columns_apart earlier columns (both_right (not (list_any (λ other. bytes_eq other.name column.name) columns)) (are_distinct columns) is))

-- what is known of a table's texts
record AreSound (earlier : List TableDef) (id : List ℕ) (columns : List ColumnText) : Type 0 where
  key : has_key columns ≡ true
  narrow : nat_le (widths columns) 16000 ≡ true
  distinct : are_distinct columns ≡ true
  refer : list_all (refers_well earlier id columns) columns ≡ true
  few : length columns ≤ 64
  written : All IsWritten columns

narrow_by : (sum all : ℕ) → sum ≡ all → nat_le all 16000 ≡ true → sum ≤ 16000
narrow_by sum all same few = subst (λ n. n ≤ 16000) (sym same) (below all 16000 few)

few_by : (n m : ℕ) → n ≡ m → m ≤ 64 → n ≤ 64
few_by n m same few = subst (λ k. k ≤ 64) (sym same) few

columns_sound : (earlier : List TableDef) (id : List ℕ) (columns : List ColumnText) → AreSound earlier id columns → AreColumns (map (column_of earlier) columns)
columns_sound earlier id columns are = record {
  few = few_by (length (map (column_of earlier) columns)) (length columns) (length-map columns (column_of earlier)) are.few;
  narrow = narrow_by (sum_by (λ (column : ColumnDef). width_of column.kind) (map (column_of earlier) columns)) (widths columns)
      (widths_same (column_of earlier) columns (λ column. refl)) are.narrow;
  sized = All-map (λ (column : ColumnDef). HasSize column.kind) (column_of earlier) columns
      (all_mapped IsWritten (λ column. HasSize column.kind) columns (λ column written. written.sized) are.written);
  named = All-map (λ (column : ColumnDef). IsTrue (is_name_text column.name)) (column_of earlier) columns
      (all_mapped IsWritten (λ column. IsTrue (is_name_text column.name)) columns (λ column written. written.named) are.written);
  apart = columns_apart earlier columns are.distinct;
}

-- KEYS
few_key : (places columns : ℕ) → places ≤ columns → columns ≤ 64 → places ≤ 64
few_key places columns fewer few = omega (arith, fewer, few)

some_within : {X : Type 0} (P : X → Type 0) (xs : List X) (k : ℕ) → IsSomeAnd (slice_get xs k) P → k < length xs
some_within P [] k is = absurd is
some_within P (x ∷ xs) zero is = omega arith
some_within P (x ∷ xs) (suc k) is = let rest : k < length xs = some_within P xs k is in omega (arith, rest)

from_zero : (k : ℕ) → k ≡ 0 + k
from_zero k = omega arith

placed_within : (earlier : List TableDef) (columns : List ColumnText) (place : ℕ) → Placed earlier columns 0 place
    → place < length (map (column_of earlier) columns)
placed_within earlier columns place (k, (is, present)) =
    subst (λ p. p < length (map (column_of earlier) columns)) (from_zero k ∙ sym is) (some_within IsPresent (map (column_of earlier) columns) k present)

placed_present : (earlier : List TableDef) (columns : List ColumnText) (place : ℕ) → Placed earlier columns 0 place
    → IsSomeAnd (slice_get (map (column_of earlier) columns) place) IsPresent
placed_present earlier columns place (k, (is, present)) =
    subst (λ p. IsSomeAnd (slice_get (map (column_of earlier) columns) p) IsPresent) (from_zero k ∙ sym is) present

key_sound : (earlier : List TableDef) (id : List ℕ) (columns : List ColumnText) → AreSound earlier id columns
    → IsKey (map (column_of earlier) columns) (key_places 0 columns)
key_sound earlier id columns are = record {
  some = places_some columns 0 are.key;
  few = few_key (length (key_places 0 columns)) (length columns) (places_few columns 0) are.few;
  ascends = places_ascend earlier columns 0 are.written;
  within = all_mapped (Placed earlier columns 0) (λ place. place < length (map (column_of earlier) columns)) (key_places 0 columns)
      (λ place placed. placed_within earlier columns place placed) (places_placed earlier columns 0 are.written);
  present = all_mapped (Placed earlier columns 0) (λ place. IsSomeAnd (slice_get (map (column_of earlier) columns) place) IsPresent) (key_places 0 columns)
      (λ place placed. placed_present earlier columns place placed) (places_placed earlier columns 0 are.written);
}

-- REFERENCES. Two kinds that are one
number_same : (a b : ℕ) → (a == b) ≡ true → a ≡ b
number_same a b is = grind (arith, nat_tests)

kind_same : (a b : Kind) → same_kind a b ≡ true → a ≡ b
kind_same Integer Integer is = refl
kind_same (Decimal s) (Decimal t) is = ap (λ n. Decimal n) (number_same s t is)
kind_same (Varchar n) (Varchar m) is = ap (λ k. Varchar k) (number_same n m is)
kind_same Timestamp Timestamp is = refl
kind_same (Varbinary n) (Varbinary m) is = ap (λ k. Varbinary k) (number_same n m is)
kind_same Integer (Decimal t) is = absurd (true≢false (sym is))
kind_same Integer (Varchar m) is = absurd (true≢false (sym is))
kind_same Integer Timestamp is = absurd (true≢false (sym is))
kind_same Integer (Varbinary m) is = absurd (true≢false (sym is))
kind_same (Decimal s) Integer is = absurd (true≢false (sym is))
kind_same (Decimal s) (Varchar m) is = absurd (true≢false (sym is))
kind_same (Decimal s) Timestamp is = absurd (true≢false (sym is))
kind_same (Decimal s) (Varbinary m) is = absurd (true≢false (sym is))
kind_same (Varchar n) Integer is = absurd (true≢false (sym is))
kind_same (Varchar n) (Decimal t) is = absurd (true≢false (sym is))
kind_same (Varchar n) Timestamp is = absurd (true≢false (sym is))
kind_same (Varchar n) (Varbinary m) is = absurd (true≢false (sym is))
kind_same Timestamp Integer is = absurd (true≢false (sym is))
kind_same Timestamp (Decimal t) is = absurd (true≢false (sym is))
kind_same Timestamp (Varchar m) is = absurd (true≢false (sym is))
kind_same Timestamp (Varbinary m) is = absurd (true≢false (sym is))
kind_same (Varbinary n) Integer is = absurd (true≢false (sym is))
kind_same (Varbinary n) (Decimal t) is = absurd (true≢false (sym is))
kind_same (Varbinary n) (Varchar m) is = absurd (true≢false (sym is))
kind_same (Varbinary n) Timestamp is = absurd (true≢false (sym is))

kind_found : (kind : Kind) (found : Option Kind) → is_kind kind found ≡ true → found ≡ Some kind
kind_found kind None is = absurd (true≢false (sym is))
kind_found kind (Some other) is = ap (λ k. Some k) (sym (kind_same kind other is))

one_kind : (def : TableDef) (key : List ℕ) → only_key_kind def key ≡ single_kind def.columns key
one_kind def [] = refl
one_kind def (place ∷ []) = refl
one_kind def (place ∷ (next ∷ places)) = refl

-- a table whose key is one column of this kind
abbrev HasSingle : Kind → TableDef → Type 0
HasSingle kind def = single_kind def.columns def.key ≡ Some kind

alike_on : (kind : Kind) (found : Option TableDef) → is_kind kind (option_and_then table_key_kind found) ≡ true → IsSomeAnd found (HasSingle kind)
alike_on kind None is = absurd (true≢false (sym is))
alike_on kind (Some def) is = sym (one_kind def def.key) ∙ kind_found kind (table_key_kind def) is

-- what stands before stands where more follows, and what comes next stands after it
some_more : {X : Type 0} (P : X → Type 0) (xs ys : List X) (k : ℕ) → IsSomeAnd (slice_get xs k) P → IsSomeAnd (slice_get (xs ++ ys) k) P
some_more P [] ys k is = absurd is
some_more P (x ∷ xs) ys zero is = is
some_more P (x ∷ xs) ys (suc k) is = some_more P xs ys k is

at_end : {X : Type 0} (P : X → Type 0) (xs : List X) (x : X) → P x → IsSomeAnd (slice_get (xs ++ x ∷ []) (length xs)) P
at_end P [] x is = is
at_end P (y ∷ xs) x is = at_end P xs x is

up_to_itself : (n : ℕ) → n ≤ 0 + n
up_to_itself n = omega arith

before_itself : (place n : ℕ) → place < n → place ≤ 0 + n
before_itself place n less = omega (arith, less)

itself_on : (earlier : List TableDef) (id name : List ℕ) (columns : List ColumnText) (column : ColumnText) (b : Bool)
    → is_kind column.kind (cond b (key_kind columns) None) ≡ true
    → HasSingle column.kind (record { name = id; columns = map (column_of earlier) columns; key = key_places 0 columns })
itself_on earlier id name columns column true is = single_kinds earlier columns column.kind (kind_found column.kind (key_kind columns) is)
itself_on earlier id name columns column false is = absurd (true≢false (sym is))

abbrev made_table : List TableDef → List ℕ → List ColumnText → TableDef
made_table earlier id columns = record { name = id; columns = map (column_of earlier) columns; key = key_places 0 columns }

refers_on : (earlier : List TableDef) (id name : List ℕ) (columns : List ColumnText) (column : ColumnText) (found : Option ℕ)
    → place_of (λ table. table.name) earlier name ≡ found
    → is_kind column.kind (elim found [
      | Some place ↦ option_and_then table_key_kind (slice_get earlier place)
      | None ↦ if bytes_eq id name then key_kind columns else None
    ]) ≡ true
    → Refers (earlier ++ made_table earlier id columns ∷ []) (0 + length earlier) (column_of earlier column) (unwrap_or found (length earlier))
refers_on earlier id name columns column (Some place) found is = record {
  earlier = before_itself place (length earlier) (place_within (λ table. bytes_eq table.name name) earlier place found);
  alike = some_more (HasSingle column.kind) earlier (made_table earlier id columns ∷ []) place (alike_on column.kind (slice_get earlier place) is);
}
refers_on earlier id name columns column None found is = record {
  earlier = up_to_itself (length earlier);
  alike = at_end (HasSingle column.kind) earlier (made_table earlier id columns) (itself_on earlier id name columns column (bytes_eq id name) is);
}

column_refers_on : (earlier : List TableDef) (id : List ℕ) (columns : List ColumnText) (column : ColumnText) (reference : Option (List ℕ))
    → elim reference [ None ↦ true | Some name ↦ is_kind column.kind (referred_kind earlier id columns name) ] ≡ true
    → IfSome (parent_of earlier reference) (Refers (earlier ++ made_table earlier id columns ∷ []) (0 + length earlier) (column_of earlier column))
column_refers_on earlier id columns column None is = tt
column_refers_on earlier id columns column (Some name) is =
    refers_on earlier id name columns column (place_of (λ table. table.name) earlier name) refl is

table_refers : (earlier : List TableDef) (id : List ℕ) (columns : List ColumnText) → list_all (refers_well earlier id columns) columns ≡ true
    → ReferWell (earlier ++ made_table earlier id columns ∷ []) (0 + length earlier, made_table earlier id columns)
table_refers earlier id columns is =
    All-map (RefersWell (earlier ++ made_table earlier id columns ∷ []) (0 + length earlier)) (column_of earlier) columns
    (all_mapped (λ column. refers_well earlier id columns column ≡ true)
    (λ column. RefersWell (earlier ++ made_table earlier id columns ∷ []) (0 + length earlier) (column_of earlier column)) columns
    (λ column well. column_refers_on earlier id columns column column.reference well)
    (AllPass-from_list_all (refers_well earlier id columns) columns is))

-- those before go on referring to what they referred to
refers_more : (earlier : List TableDef) (new : TableDef) (table : ℕ) (column : ColumnDef) (parent : ℕ) → Refers earlier table column parent
    → Refers (earlier ++ new ∷ []) table column parent
refers_more earlier new table column parent is = record {
  earlier = is.earlier;
  alike = some_more (HasSingle column.kind) earlier (new ∷ []) parent is.alike;
}

refer_more : (earlier : List TableDef) (new : TableDef) (at : ℕ × TableDef) → ReferWell earlier at → ReferWell (earlier ++ new ∷ []) at
refer_more earlier new at are = all_mapped (RefersWell earlier at.0) (RefersWell (earlier ++ new ∷ []) at.0) at.1.columns
    (λ column is. IfSome_then column.parent is (λ parent refers. refers_more earlier new at.0 column parent refers)) are

next_number : (n m : ℕ) → (n + 1) + m ≡ n + suc m
next_number n m = omega arith

no_number : (n : ℕ) → n ≡ n + 0
no_number n = omega arith

numbered_more : {X : Type 0} (n : ℕ) (xs : List X) (x : X) → enumerate_from n (xs ++ x ∷ []) ≡ enumerate_from n xs ++ (n + length xs, x) ∷ []
numbered_more n [] x = ap (λ k. (k, x) ∷ []) (no_number n)
numbered_more n (y ∷ xs) x =
    ap (λ rest. (n, y) ∷ rest) (numbered_more (n + 1) xs x)
    ∙ ap (λ k. (n, y) ∷ (enumerate_from (n + 1) xs ++ (k, x) ∷ [])) (next_number n (length xs))

-- TABLES
abbrev TableNamed : TableDef → Type 0
TableNamed def = IsTrue (is_name_text def.name)

abbrev TablesApart : TableDef → TableDef → Type 0
TablesApart a b = a.name ≢ b.name

abbrev WithColumns : TableDef → Type 0
WithColumns def = AreColumns def.columns

abbrev WithKey : TableDef → Type 0
WithKey def = IsKey def.columns def.key

pub record Tables (defs : List TableDef) : Type 0 where
  pub named : All TableNamed defs
  pub apart : AllPairs TablesApart defs
  pub columns : All WithColumns defs
  pub keys : All WithKey defs
  pub references : All (ReferWell defs) (enumerate_from 0 defs)

no_tables : Tables []
no_tables = record {
  named = All-nil TableNamed;
  apart = no_pairs TablesApart;
  columns = All-nil WithColumns;
  keys = All-nil WithKey;
  references = All-nil (ReferWell []);
}

table_more : (earlier : List TableDef) (id : List ℕ) (columns : List ColumnText) → Tables earlier → IsNew (λ table. table.name) earlier id
    → AreSound earlier id columns → Tables (earlier ++ made_table earlier id columns ∷ [])
table_more earlier id columns are new sound = record {
  named = all_snoc TableNamed earlier (made_table earlier id columns) are.named new.named;
  apart = pairs_snoc TablesApart earlier (made_table earlier id columns) are.apart new.apart;
  columns = all_snoc WithColumns earlier (made_table earlier id columns) are.columns (columns_sound earlier id columns sound);
  keys = all_snoc WithKey earlier (made_table earlier id columns) are.keys (key_sound earlier id columns sound);
  references = subst (All (ReferWell (earlier ++ made_table earlier id columns ∷ [])))
      (sym (numbered_more 0 earlier (made_table earlier id columns)))
      (all_snoc (ReferWell (earlier ++ made_table earlier id columns ∷ [])) (enumerate_from 0 earlier) (0 + length earlier, made_table earlier id columns)
      (all_mapped (ReferWell earlier) (ReferWell (earlier ++ made_table earlier id columns ∷ [])) (enumerate_from 0 earlier)
      (λ at is. refer_more earlier (made_table earlier id columns) at is) are.references)
      (table_refers earlier id columns sound.refer));
}

few_on : (earlier : List TableDef) (id : List ℕ) (refusal : ConfigRefusal) (columns : List ColumnText) (new : TableDef) (b : Bool) → Tables earlier
    → IsNew (λ table. table.name) earlier id → are_sound earlier id columns ≡ true → All IsWritten columns → nat_lt 64 (length columns) ≡ b
    → Is (cond b (refuses refusal) (gives (made_table earlier id columns))) new → Tables (earlier ++ new ∷ [])
few_on earlier id refusal columns new true are named sound written many is = never _ new is
few_on earlier id refusal columns new false are named sound written few is =
    let rest : (nat_le (widths columns) 16000 && (are_distinct columns && list_all (refers_well earlier id columns) columns)) ≡ true =
    both_right (has_key columns) (nat_le (widths columns) 16000 && (are_distinct columns && list_all (refers_well earlier id columns) columns)) sound in
    let last : (are_distinct columns && list_all (refers_well earlier id columns) columns) ≡ true =
    both_right (nat_le (widths columns) 16000) (are_distinct columns && list_all (refers_well earlier id columns) columns) rest in
    subst (λ n. Tables (earlier ++ n ∷ [])) (same_value (made_table earlier id columns) new is)
    (table_more earlier id columns are named (record {
      key = both_left (has_key columns) (nat_le (widths columns) 16000 && (are_distinct columns && list_all (refers_well earlier id columns) columns)) sound;
      narrow = both_left (nat_le (widths columns) 16000) (are_distinct columns && list_all (refers_well earlier id columns) columns) rest;
      distinct = both_left (are_distinct columns) (list_all (refers_well earlier id columns) columns) last;
      refer = both_right (are_distinct columns) (list_all (refers_well earlier id columns) columns) last;
      few = not_above (length columns) 64 few;
      written = written;
    }))

sound_on : (earlier : List TableDef) (id : List ℕ) (many refusal : ConfigRefusal) (columns : List ColumnText) (new : TableDef) (b : Bool) → Tables earlier
    → IsNew (λ table. table.name) earlier id → are_sound earlier id columns ≡ b → All IsWritten columns
    → Is (cond b (cond (nat_lt 64 (length columns)) (refuses many) (gives (made_table earlier id columns))) (refuses refusal)) new
    → Tables (earlier ++ new ∷ [])
sound_on earlier id many refusal columns new true are named sound written is =
    few_on earlier id many columns new (nat_lt 64 (length columns)) are named sound written refl is
sound_on earlier id many refusal columns new false are named sound written is = never _ new is

table_on : (earlier : List TableDef) (at id : List ℕ) (texts : List (List ℕ)) (found : Option (List ColumnText)) (new : TableDef) → Tables earlier
    → IsNew (λ table. table.name) earlier id → columns_from [] texts ≡ found → whole_table earlier at id found ≡ gives new → Tables (earlier ++ new ∷ [])
table_on earlier at id texts None new are named found is = never _ new is
table_on earlier at id texts (Some columns) new are named found is =
    sound_on earlier id (TooMany (chars at)) (BadSetting (chars at)) columns new (are_sound earlier id columns) are named refl
    (columns_written [] texts columns (All-nil IsWritten) found) is

tables_keep : (config : Config) → Keeps config table_of Tables
tables_keep config earlier entry at new are is =
    gave (only_keys (codes "id" ∷ codes "columns" ∷ []) entry at) _ new is (λ unit listed is.
    gave (id_at (λ table. table.name) earlier entry at (codes "id")) _ new is (λ id id_is is.
    gave (texts_at entry at (codes "columns")) _ new is (λ texts texts_is is.
    table_on earlier at id texts (columns_from [] texts) new are (new_given (λ table. table.name) earlier entry at (codes "id") id id_is) refl is)))

pub tables_kept : (config : Config) (file : Members) (tables : List TableDef) → section_of table_of 64 (codes "table") config file ≡ gives tables
    → IsKept Tables 64 tables
tables_kept config file tables is = section_kept config table_of Tables (tables_keep config) 64 (codes "table") file tables no_tables is
