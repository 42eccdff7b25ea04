-- Few columns of a transform are for keys, as the law of written documents has it.
use Rattle.std.proofs.Common.{◌≡◌, ℕ, ◌+◌, ◌≤◌, Bool, true, false, cond, List, [], ◌∷◌, length, map, filter, Option, None, Some, refl, subst, All, sym, ap, true≢false, ◌||◌, arith}
use Rattle.std.specs.Bool.{IsTrue}
use Rattle.std.specs.List.{list_any, count_by}
use Rattle.std.specs.Option.{option_map_or}
use Rattle.std.specs.Prelude.{slice_get, nat_le}
use Rattle.std.specs.Str.{bytes_eq}
use Rattle.std.proofs.lemmas.List.Sums.{length-filter, sum_by-cons}
use Rattle.std.proofs.lemmas.Slice.Eq.{bytes_eq-Decides}
use Rattle.sds_doclaws.specs.Writable as written
use Rattle.sds_trade.proofs.Lists.{all_head, all_tail}
use Rattle.sds_trade.specs.rules.Places.{column_name, is_among}
use Rattle.sds_types.specs.declared.transform.ColumnPolicy.{ColumnPolicy}
use Rattle.sds_types.specs.declared.transform.ColumnPolicy.TheVariants.{Specified, Implied}
use Rattle.sds_types.specs.declared.transform.Point.{Point}
use Rattle.sds_types.specs.declared.transform.Point.TheVariants.{Extract, Load}
use Rattle.sds_types.specs.declared.transform_column.TransformColumn.{TransformColumn}
use Rattle.sds_value.specs.Names.{is_name_text}
use Rattle.sds_value.specs.declared.table.ColumnDef.{ColumnDef}
use Rattle.sds_value.specs.declared.table.TableDef.{TableDef}
use Rattle.sds_config.specs.declared.formulas.ColumnEntry.{ColumnEntry}
use Rattle.sds_config.specs.Transforms.{are_few_for_keys, is_for_key, is_implied, is_key_named, is_load, most_columns_for_keys}
use Rattle.sds_configlaws.proofs.Gave.{below}

-- the entry of a column: all but what its expression says
abbrev pub entry_of : TransformColumn → ColumnEntry
entry_of column = record {
  target = column.target;
  source = column.source;
  pk = column.pk;
  include_on = column.include_on;
  kind = column.kind;
  expression = column.expression;
}

-- a column makes one of a name
abbrev pub HasName : TransformColumn → Type 0
HasName column = IsTrue (is_name_text column.target)

-- NAMES. A key column of this name is one by either definition
no_name : (name : List ℕ) → IsTrue (is_name_text name) → [] ≡ name → is_name_text [] ≡ true
no_name name named same = subst (λ n. is_name_text n ≡ true) (sym same) named

named_on : (name : List ℕ) (found : Option ColumnDef) → IsTrue (is_name_text name)
    → bytes_eq (option_map_or (λ (column : ColumnDef). column.name) found []) name ≡ true
    → elim found [ None ↦ false | Some key ↦ bytes_eq key.name name ] ≡ true
named_on name None named is = absurd (true≢false (sym (no_name name named ((bytes_eq-Decides [] name).0 is))))
named_on name (Some key) named is = is

either : (a b c : Bool) → (b ≡ true → c ≡ true) → (a || b) ≡ true → (a || c) ≡ true
either true b c more is = refl
either false b c more is = more is

both : (a b c d : Bool) → (a ≡ true → b ≡ true) → (c ≡ true → d ≡ true) → (a || c) ≡ true → (b || d) ≡ true
both true true c d first more is = refl
both true false c d first more is = absurd (true≢false (sym (first refl)))
both false true c d first more is = refl
both false false c d first more is = more is

among : (def : TableDef) (name : List ℕ) → IsTrue (is_name_text name) → (places : List ℕ)
    → is_among (map (column_name def.columns) places) name ≡ true → list_any (is_key_named def name) places ≡ true
among def name named [] is = is
among def name named (place ∷ places) is =
    both (bytes_eq (column_name def.columns place) name) (is_key_named def name place)
    (is_among (map (column_name def.columns) places) name) (list_any (is_key_named def name) places)
    (named_on name (slice_get def.columns place) named) (among def name named places) is

for_key : (def : TableDef) (column : TransformColumn) → HasName column → written.is_for_key def column ≡ true → is_for_key def (entry_of column) ≡ true
for_key def column named is =
    either column.pk (is_among (map (column_name def.columns) def.key) column.target) (list_any (is_key_named def column.target) def.key)
    (among def column.target named def.key) is

-- COUNTS. So there are at most as many as the file's rule counts
no_fewer : (a b : Bool) (n m : ℕ) → (a ≡ true → b ≡ true) → n ≤ m → cond a 1 0 + n ≤ cond b 1 0 + m
no_fewer true true n m more few = omega (arith, few)
no_fewer true false n m more few = absurd (true≢false (sym (more refl)))
no_fewer false true n m more few = omega (arith, few)
no_fewer false false n m more few = omega (arith, few)

counted : (def : TableDef) (columns : List TransformColumn) → All HasName columns
    → count_by (written.is_for_key def) columns ≤ count_by (is_for_key def) (map entry_of columns)
counted def [] named = omega arith
counted def (column ∷ columns) named =
    subst (λ n. n ≤ count_by (is_for_key def) (entry_of column ∷ map entry_of columns))
    (sym (sum_by-cons (λ (c : TransformColumn). cond (written.is_for_key def c) 1 0) column columns))
    (subst (λ n. cond (written.is_for_key def column) 1 0 + count_by (written.is_for_key def) columns ≤ n)
    (sym (sum_by-cons (λ (entry : ColumnEntry). cond (is_for_key def entry) 1 0) (entry_of column) (map entry_of columns)))
    (no_fewer (written.is_for_key def column) (is_for_key def (entry_of column)) (count_by (written.is_for_key def) columns)
    (count_by (is_for_key def) (map entry_of columns)) (for_key def column (all_head HasName column columns named))
    (counted def columns (all_tail HasName column columns named))))

at_most : (few all most : ℕ) → few ≤ all → all ≤ most → few ≤ most
at_most few all most below above = omega (arith, below, above)

-- WHOLE. Where a batch is written under the implied policy
few_at : (def : TableDef) (columns : List TransformColumn) → All HasName columns
    → nat_le (count_by (is_for_key def) (map entry_of columns)) most_columns_for_keys ≡ true
    → length (filter (written.is_for_key def) columns) ≤ written.most_key_columns
few_at def columns named few =
    subst (λ n. n ≤ written.most_key_columns) (sym (length-filter (written.is_for_key def) columns))
    (at_most (count_by (written.is_for_key def) columns) (count_by (is_for_key def) (map entry_of columns)) most_columns_for_keys (counted def columns named)
    (below (count_by (is_for_key def) (map entry_of columns)) most_columns_for_keys few))

abbrev pub HasFew : Point → ColumnPolicy → TableDef → List TransformColumn → Type 0
HasFew point policy def columns =
    point ≡ Extract → policy ≡ Implied → length (filter (written.is_for_key def) columns) ≤ written.most_key_columns

pub few_for_keys : (point : Point) (policy : ColumnPolicy) (def : TableDef) (columns : List TransformColumn) → All HasName columns
    → are_few_for_keys point policy def (map entry_of columns) ≡ true → HasFew point policy def columns
few_for_keys Load policy def columns named few point_is policy_is = absurd (true≢false (ap is_load point_is))
few_for_keys Extract Specified def columns named few point_is policy_is = absurd (true≢false (sym (ap is_implied policy_is)))
few_for_keys Extract Implied def columns named few point_is policy_is = few_at def columns named few
