-- What a transform makes of a side: its names, its fields and what they take.
use Rattle.std.proofs.Common.{◌≡◌, ℕ, ◌+◌, ◌*◌, ◌≤◌, Bool, true, false, ◌||◌, List, [], ◌∷◌, ◌++◌, length, Option, None, Some, refl, sym, ap, subst, arith, All, filter, find}
use Rattle.std.proofs.lemmas.List.{length-append, length-map}
use Rattle.std.proofs.lemmas.List.Elements.{All-nil, All-cons, All-append}
use Rattle.std.specs.List.{flat_map, zip}
use Rattle.std.specs.Option.{option_map_or}
use Rattle.std.specs.Str.{bytes_eq}
use Rattle.sds_value.specs.declared.row.Field.{Field}
use Rattle.sds_value.specs.declared.row.Field.TheVariants.{Null}
use Rattle.sds_types.specs.declared.transform.ColumnPolicy.{ColumnPolicy}
use Rattle.sds_types.specs.declared.transform.ColumnPolicy.TheVariants.{Specified, Implied}
use Rattle.sds_types.specs.declared.transform_column.TransformColumn.{TransformColumn}
use Rattle.sds_types.specs.declared.way.Way.{Way}
use Rattle.sds_trade.specs.rules.DocRows.{field_in}
use Rattle.sds_trade.specs.rules.MadeSides.{column_for, in_place, is_further, made_field, made_fields, made_side, makes, names_of, passed_fields}
use Rattle.sds_trade.specs.rules.Places.{is_among}
use Rattle.sds_trade.specs.rules.Sides.{Side, given_side}
use Rattle.sds_trade.proofs.Lists.{all_head, all_tail}
use Rattle.sds_nodelaws.proofs.Held.{mapped}
use Rattle.sds_nodelaws.proofs.Lists.{all_flat, filter_all, find_all, map_all, unmap_all}
use Rattle.sds_doclaws.proofs.Expressions.{MakesFit}
use Rattle.sds_doclaws.proofs.Plain.{AreFields}
use Rattle.sds_doclaws.proofs.Rows.{IsName}
use Rattle.sds_doclaws.proofs.Sums.{Distinct, columns_sum, filter_few, is_other, pair_cost, replaced, sum_append, sum_most}
use Rattle.sds_doclaws.proofs.Values.{IsFit, null_fits}
use Rattle.sds_doclaws.proofs.Weights.{cost, sum_of, total}

-- PAIRS of a name and a field
abbrev pub HasFit : List ℕ × Field → Type 0
HasFit at = IsFit at.1

abbrev pub IsPair : List ℕ × Field → Type 0
IsPair at = IsName at.0 × IsFit at.1

pub found_fits : (fields : List (List ℕ × Field)) (name : List ℕ) → All HasFit fields → IsFit (field_in fields name)
found_fits fields name are = on (find (λ (at : List ℕ × Field). bytes_eq at.0 name) fields) refl
  where
    on : (found : Option (List ℕ × Field)) → find (λ (at : List ℕ × Field). bytes_eq at.0 name) fields ≡ found
        → IsFit (option_map_or (λ (at : List ℕ × Field). at.1) found Null)
    on None is = null_fits
    on (Some at) is = find_all HasFit (λ (one : List ℕ × Field). bytes_eq one.0 name) fields at are is

-- SIDES of a row
pub record IsSide (names : List (List ℕ)) (side : Side) : Type 0 where
  pub same : names_of side.listed ≡ names
  pub fit : All HasFit side.listed
  pub sources_fit : All HasFit side.sources
  pub narrow : sum_of pair_cost side.listed ≤ 22762

zip_names : (names : List (List ℕ)) (fields : List Field) → length fields ≡ length names → names_of (zip names fields) ≡ names
zip_names [] fields same = refl
zip_names (n ∷ ns) [] same = absurd (cc)
zip_names (n ∷ ns) (f ∷ fs) same = ap (λ l. n ∷ l) (zip_names ns fs (omega (arith, same)))

zip_fits : (names : List (List ℕ)) (fields : List Field) → All IsFit fields → All HasFit (zip names fields)
zip_fits [] fields are = All-nil HasFit
zip_fits (n ∷ ns) [] are = All-nil HasFit
zip_fits (n ∷ ns) (f ∷ fs) are = All-cons HasFit (n, f) (zip ns fs) (all_head IsFit f fs are) (zip_fits ns fs (all_tail IsFit f fs are))

zip_cost : (names : List (List ℕ)) (fields : List Field) → sum_of pair_cost (zip names fields) ≤ total fields
zip_cost [] fields = omega arith
zip_cost (n ∷ ns) [] = omega arith
zip_cost (n ∷ ns) (f ∷ fs) = omega (arith, zip_cost ns fs)

pub given_is : (names : List (List ℕ)) (fields : List Field) → AreFields names fields → IsSide names (given_side names fields)
given_is names fields are = record {
  same = zip_names names fields are.whole;
  fit = zip_fits names fields are.fit;
  sources_fit = zip_fits names fields are.fit;
  narrow = on (sum_of pair_cost (zip names fields)) (total fields) (zip_cost names fields) are.narrow;
}
  where
    on : (a b : ℕ) → a ≤ b → b ≤ 22762 → a ≤ 22762
    on a b first second = omega (arith, first, second)

-- COLUMNS. Each has a name, and makes a fit field
abbrev pub IsColumn : Way → TransformColumn → Type 0
IsColumn way c = IsName c.target × MakesFit way c.parsed

column_fits : (way : Way) (side : Side) (c : TransformColumn) → All HasFit side.sources → IsColumn way c → IsFit (made_field way side c)
column_fits way side c are is = is.1 (field_in side.sources c.source) (found_fits side.sources c.source are)

abbrev made_pair : Way → Side → TransformColumn → List ℕ × Field
made_pair way side c = (c.target, made_field way side c)

pub fields_pairs : (way : Way) (columns : List TransformColumn) (side : Side) → All HasFit side.sources → All (IsColumn way) columns
    → All IsPair (made_fields way columns side)
fields_pairs way columns side fit are =
    map_all IsPair (made_pair way side) (filter makes columns)
    (mapped (IsColumn way) (λ (c : TransformColumn). IsPair (made_pair way side c)) (filter makes columns)
    (λ c is. (is.0, column_fits way side c fit is)) (filter_all (IsColumn way) makes columns are))

pub fields_cost : (way : Way) (columns : List TransformColumn) (side : Side) → All HasFit side.sources → All (IsColumn way) columns
    → sum_of pair_cost (made_fields way columns side) ≤ 8003 * length columns
fields_cost way columns side fit are =
    on (sum_of pair_cost (made_fields way columns side)) (length (made_fields way columns side)) (length (filter makes columns)) (length columns)
    (sum_most pair_cost (made_fields way columns side)
    (mapped IsPair (λ (at : List ℕ × Field). pair_cost at ≤ 8003) (made_fields way columns side) (λ at is. is.1.short) (fields_pairs way columns side fit are)))
    (length-map (filter makes columns) (made_pair way side)) (filter_few makes columns)
  where
    on : (a b c d : ℕ) → a ≤ 8003 * b → b ≡ c → c ≤ d → a ≤ 8003 * d
    on a b c d first second third = omega (arith, first, second, third)

-- a column of the source in its place
found_column : (way : Way) (columns : List TransformColumn) (name : List ℕ) (c : TransformColumn) → All (IsColumn way) columns → column_for columns name ≡ Some c → IsColumn way c
found_column way columns name c are is = find_all (IsColumn way) (λ (d : TransformColumn). bytes_eq d.target name) columns c are is

abbrev place : Way → List TransformColumn → Side → List ℕ × Field → List (List ℕ × Field)
place way columns side at = in_place way side at (column_for columns at.0)

placed_pairs : (way : Way) (side : Side) (at : List ℕ × Field) (found : Option TransformColumn) → All HasFit side.sources → IsPair at
    → ((c : TransformColumn) → found ≡ Some c → IsColumn way c) → All IsPair (in_place way side at found)
placed_pairs way side at None fit is are = All-cons IsPair at [] is (All-nil IsPair)
placed_pairs way side at (Some c) fit is are = on (makes c)
  where
    on : (b : Bool) → All IsPair (elim b [ true ↦ (at.0, made_field way side c) ∷ [] | false ↦ [] ])
    on true = All-cons IsPair (at.0, made_field way side c) [] (is.0, column_fits way side c fit (are c refl)) (All-nil IsPair)
    on false = All-nil IsPair

passed_pairs : (way : Way) (columns : List TransformColumn) (side : Side) (listed : List (List ℕ × Field)) → All HasFit side.sources → All (IsColumn way) columns
    → All IsPair listed → All IsPair (flat_map (place way columns side) listed)
passed_pairs way columns side listed fit are is =
    all_flat IsPair (place way columns side) listed
    (mapped IsPair (λ (at : List ℕ × Field). All IsPair (place way columns side at)) listed
    (λ at pair. placed_pairs way side at (column_for columns at.0) fit pair (λ c found. found_column way columns at.0 c are found)) is)

placed_cost : (way : Way) (side : Side) (at : List ℕ × Field) (found : Option TransformColumn) → All HasFit side.sources
    → ((c : TransformColumn) → found ≡ Some c → IsColumn way c) → sum_of pair_cost (in_place way side at found) ≤ pair_cost at + replaced found
placed_cost way side at None fit are = omega arith
placed_cost way side at (Some c) fit are = on (makes c) (column_fits way side c fit (are c refl)).short
  where
    on : (b : Bool) → cost (made_field way side c) ≤ 8003 → sum_of pair_cost (elim b [ true ↦ (at.0, made_field way side c) ∷ [] | false ↦ [] ]) ≤ pair_cost at + 8003
    on true less = omega (arith, less)
    on false less = omega arith

passed_cost : (way : Way) (columns : List TransformColumn) (side : Side) (listed : List (List ℕ × Field)) → All HasFit side.sources → All (IsColumn way) columns
    → sum_of pair_cost (flat_map (place way columns side) listed) ≤ sum_of pair_cost listed + sum_of (λ (n : List ℕ). replaced (column_for columns n)) (names_of listed)
passed_cost way columns side [] fit are = omega arith
passed_cost way columns side (at ∷ listed) fit are =
    on (sum_of pair_cost (place way columns side at ++ flat_map (place way columns side) listed)) (sum_of pair_cost (place way columns side at))
    (sum_of pair_cost (flat_map (place way columns side) listed)) (pair_cost at) (replaced (column_for columns at.0))
    (sum_of pair_cost listed) (sum_of (λ (n : List ℕ). replaced (column_for columns n)) (names_of listed))
    (sum_append pair_cost (place way columns side at) (flat_map (place way columns side) listed))
    (placed_cost way side at (column_for columns at.0) fit (λ c found. found_column way columns at.0 c are found))
    (passed_cost way columns side listed fit are)
  where
    on : (n a b p r l s : ℕ) → n ≡ a + b → a ≤ p + r → b ≤ l + s → n ≤ (p + l) + (r + s)
    on n a b p r l s same first second = omega (arith, same, first, second)

-- how many there are, by the names alone
abbrev pub kept : Option TransformColumn → ℕ
kept None = 1
kept (Some c) = elim (makes c) [ true ↦ 1 | false ↦ 0 ]

abbrev pub side_count : ColumnPolicy → List TransformColumn → List (List ℕ) → ℕ
side_count Specified columns names = length (filter makes columns)
side_count Implied columns names =
    sum_of (λ (n : List ℕ). kept (column_for columns n)) names + length (filter makes (filter (is_other names) columns))

placed_length : (way : Way) (side : Side) (at : List ℕ × Field) (found : Option TransformColumn) → length (in_place way side at found) ≡ kept found
placed_length way side at None = refl
placed_length way side at (Some c) = on (makes c)
  where
    on : (b : Bool) → length (elim b as (λ x. List (List ℕ × Field)) [ true ↦ (at.0, made_field way side c) ∷ [] | false ↦ [] ]) ≡ elim b as (λ x. ℕ) [ true ↦ 1 | false ↦ 0 ]
    on true = refl
    on false = refl

passed_length : (way : Way) (columns : List TransformColumn) (side : Side) (listed : List (List ℕ × Field))
    → length (flat_map (place way columns side) listed) ≡ sum_of (λ (n : List ℕ). kept (column_for columns n)) (names_of listed)
passed_length way columns side [] = refl
passed_length way columns side (at ∷ listed) =
    on (length (place way columns side at ++ flat_map (place way columns side) listed)) (length (place way columns side at)) (length (flat_map (place way columns side) listed))
    (kept (column_for columns at.0)) (sum_of (λ (n : List ℕ). kept (column_for columns n)) (names_of listed))
    (length-append (place way columns side at) (flat_map (place way columns side) listed)) (placed_length way side at (column_for columns at.0)) (passed_length way columns side listed)
  where
    on : (n a b k s : ℕ) → n ≡ a + b → a ≡ k → b ≡ s → n ≡ k + s
    on n a b k s same first second = omega (arith, same, first, second)

pub side_length : (way : Way) (policy : ColumnPolicy) (columns : List TransformColumn) (side : Side)
    → length (made_side way policy columns side) ≡ side_count policy columns (names_of side.listed)
side_length way Specified columns side = length-map (filter makes columns) (made_pair way side)
side_length way Implied columns side =
    on (length (made_side way Implied columns side)) (length (passed_fields way columns side)) (length (made_fields way (filter (is_further side) columns) side))
    (sum_of (λ (n : List ℕ). kept (column_for columns n)) (names_of side.listed)) (length (filter makes (filter (is_other (names_of side.listed)) columns)))
    (length-append (passed_fields way columns side) (made_fields way (filter (is_further side) columns) side))
    (passed_length way columns side side.listed) (length-map (filter makes (filter (is_further side) columns)) (made_pair way side))
  where
    on : (n a b k s : ℕ) → n ≡ a + b → a ≡ k → b ≡ s → n ≡ k + s
    on n a b k s same first second = omega (arith, same, first, second)

-- MADE SIDES take at most 64 made fields and all fields of the source: 64 * 8,003 + 22,762 bytes
pub record IsMade (side : List (List ℕ × Field)) : Type 0 where
  pub pairs : All IsPair side
  pub short : sum_of pair_cost side ≤ 534954
  pub few : length side ≤ 128

-- the columns that take part, by the keys of the source
abbrev pub is_for : List (List ℕ) → TransformColumn → Bool
is_for keys c = c.pk || is_among keys c.target

pub record TakePart (way : Way) (policy : ColumnPolicy) (keys : List (List ℕ)) (columns : List TransformColumn) : Type 0 where
  pub are : All (IsColumn way) columns
  pub few : length columns ≤ 64
  pub few_pks : length (filter (λ (c : TransformColumn). c.pk) columns) ≤ 32
  pub few_keys : policy ≡ Implied → length (filter (is_for keys) columns) ≤ 61

listed_pairs : (names : List (List ℕ)) (side : Side) → All IsName names → IsSide names side → All IsPair side.listed
listed_pairs names side named is k d within =
    (unmap_all IsName (λ (at : List ℕ × Field). at.0) side.listed (subst (All IsName) (sym is.same) named) k d within, is.fit k d within)

pub side_made : (way : Way) (policy : ColumnPolicy) (keys names : List (List ℕ)) (columns : List TransformColumn) (side : Side) → TakePart way policy keys columns
    → All IsName names → Distinct names → length names ≤ 64 → IsSide names side → IsMade (made_side way policy columns side)
side_made way Specified keys names columns side c named apart few is = record {
  pairs = fields_pairs way columns side is.sources_fit c.are;
  short = short (sum_of pair_cost (made_fields way columns side)) (length columns) (fields_cost way columns side is.sources_fit c.are) c.few;
  few = fewer (length (made_fields way columns side)) (length (filter makes columns)) (length columns)
      (length-map (filter makes columns) (made_pair way side)) (filter_few makes columns) c.few;
}
  where
    short : (s n : ℕ) → s ≤ 8003 * n → n ≤ 64 → s ≤ 534954
    short s n first second = omega (arith, first, second)

    fewer : (a b n : ℕ) → a ≡ b → b ≤ n → n ≤ 64 → a ≤ 128
    fewer a b n first second third = omega (arith, first, second, third)
side_made way Implied keys names columns side c named apart few is =
    let further : List TransformColumn = filter (is_further side) columns in
    let distinct : Distinct (names_of side.listed) = subst Distinct (sym is.same) apart in record {
      pairs = All-append IsPair (passed_fields way columns side) (made_fields way further side)
          (passed_pairs way columns side side.listed is.sources_fit c.are (listed_pairs names side named is))
          (fields_pairs way further side is.sources_fit (filter_all (IsColumn way) (is_further side) columns c.are));
      short = short (sum_of pair_cost (made_side way Implied columns side)) (sum_of pair_cost (passed_fields way columns side)) (sum_of pair_cost (made_fields way further side))
          (sum_of pair_cost side.listed) (sum_of (λ (n : List ℕ). replaced (column_for columns n)) (names_of side.listed)) (length further) (length columns)
          (sum_append pair_cost (passed_fields way columns side) (made_fields way further side))
          (passed_cost way columns side side.listed is.sources_fit c.are)
          (fields_cost way further side is.sources_fit (filter_all (IsColumn way) (is_further side) columns c.are))
          is.narrow (columns_sum columns (names_of side.listed) distinct) c.few;
      few = count (length (made_side way Implied columns side)) (sum_of (λ (n : List ℕ). kept (column_for columns n)) (names_of side.listed))
          (length (filter makes further)) (length further) (length columns) (length (names_of side.listed))
          (side_length way Implied columns side) (kept_few columns (names_of side.listed)) (filter_few makes further) (filter_few (is_further side) columns) c.few
          (subst (λ (l : List (List ℕ)). length l ≤ 64) (sym is.same) few);
    }
  where
    short : (n a b l s f k : ℕ) → n ≡ a + b → a ≤ l + s → b ≤ 8003 * f → l ≤ 22762 → s + 8003 * f ≤ 8003 * k → k ≤ 64 → n ≤ 534954
    short n a b l s f k same first second third fourth fifth = omega (arith, same, first, second, third, fourth, fifth)

    kept_one : (found : Option TransformColumn) → kept found ≤ 1
    kept_one None = omega arith
    kept_one (Some d) = on (makes d)
      where
        on : (b : Bool) → elim b as (λ x. ℕ) [ true ↦ 1 | false ↦ 0 ] ≤ 1
        on true = omega arith
        on false = omega arith

    kept_few : (cs : List TransformColumn) (ns : List (List ℕ)) → sum_of (λ (n : List ℕ). kept (column_for cs n)) ns ≤ length ns
    kept_few cs [] = omega arith
    kept_few cs (n ∷ ns) = omega (arith, kept_one (column_for cs n), kept_few cs ns)

    count : (n s a f k l : ℕ) → n ≡ s + a → s ≤ l → a ≤ f → f ≤ k → k ≤ 64 → l ≤ 64 → n ≤ 128
    count n s a f k l same first second third fourth fifth = omega (arith, same, first, second, third, fourth, fifth)
