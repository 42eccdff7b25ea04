-- What the texts of columns say: names, kinds of sizes in their ranges, and no null in a key; and their widths.
use Rattle.std.proofs.Common.{◌≡◌, ◌≢◌, ℕ, zero, suc, ◌+◌, ◌*◌, ◌<◌, ◌≤◌, Bool, true, false, cond, List, [], ◌∷◌, ◌++◌, length, map, Option, None, Some, Result, Ok, Err, refl, subst, All, AllPairs, sym, ap, ◌∙◌, true≢false, ◌&&◌, ◌||◌, arith}
use Rattle.std.specs.Bool.{IsTrue}
use Rattle.std.specs.List.{list_any, list_all, sum_by, enumerate_from}
use Rattle.std.specs.Option.{IsSomeAnd, IfSome}
use Rattle.std.specs.Prelude.{codes, if◌then◌else◌, option_map, option_and_then, slice_get, nat_le, nat_lt, unwrap_or, not}
use Rattle.std.specs.Str.{bytes_eq, chars}
use Rattle.std.proofs.lemmas.Bool.Decides.{nat_tests}
use Rattle.std.proofs.lemmas.List.{length-map}
use Rattle.std.proofs.lemmas.List.Elements.{All-nil, All-cons, All-append, All-map}
use Rattle.std.proofs.lemmas.List.Kept.{AllPairs-cons}
use Rattle.std.proofs.lemmas.List.Sums.{sum_by-cons, AllPass-from_list_all}
use Rattle.std.proofs.lemmas.Option.{cond_some, option_and_then_some}
use Rattle.std.proofs.lemmas.Slice.Eq.{bytes_eq-Decides}
use Rattle.toml.specs.Data.{Members}
use Rattle.sds_expressions.specs.Numbers.{plain_number, up_to, number_from, is_plain}
use Rattle.sds_expressions.specs.Pieces.{behind, split_at}
use Rattle.sds_value.specs.Names.{is_name_text}
use Rattle.sds_value.specs.declared.kind.Kind.{Kind}
use Rattle.sds_value.specs.declared.kind.Kind.TheVariants.{Integer, Decimal, Varchar, Timestamp, Varbinary}
use Rattle.sds_value.specs.declared.table.ColumnDef.{ColumnDef}
use Rattle.sds_value.specs.declared.table.TableDef.{TableDef}
use Rattle.sds_types.specs.declared.config.Config.{Config}
use Rattle.sds_types.specs.declared.config_refusal.ConfigRefusal.{ConfigRefusal}
use Rattle.sds_trade.proofs.ReferenceLaws.{both_left, both_right, both_of}
use Rattle.sds_trade.specs.sound.Tables.{HasSize, width_of}
use Rattle.sds_config.specs.declared.columns.ColumnText.{ColumnText}
use Rattle.sds_config.specs.ColumnTexts.{size_in_front, decimal_in_front, varchar_in_front, varbinary_in_front, kind_in_front, mark_in_front, reference_of, marked, column_text, columns_from}
use Rattle.sds_config.specs.TableEntries.{width, widths}
use Rattle.sds_configlaws.proofs.Gave.{no_value, below, all_snoc}

-- COLUMNS. What a column's text says: a name, a kind of a size in its range, and no null in a key
pub record IsWritten (column : ColumnText) : Type 0 where
  pub named : IsTrue (is_name_text column.name)
  pub sized : HasSize column.kind
  pub present : column.key ≡ true → column.not_null ≡ true

-- a size between the least and the most
up_to_on : (most n size : ℕ) (b : Bool) → nat_le n most ≡ b → cond b (Some n) None ≡ Some size → size ≤ most
up_to_on most n size true is given = subst (λ k. k ≤ most) (ap (λ o. elim o [ None ↦ n | Some k ↦ k ]) given) (below n most is)
up_to_on most n size false is given = no_value size (sym given)

number_on : (most size : ℕ) (text : List ℕ) (b : Bool) → cond b (up_to most (number_from 0 text)) None ≡ Some size → size ≤ most
number_on most size text true is = up_to_on most (number_from 0 text) size (nat_le (number_from 0 text) most) refl is
number_on most size text false is = no_value size (sym is)

number_few : (most size : ℕ) (text : List ℕ) → plain_number most text ≡ Some size → size ≤ most
number_few most size text is = number_on most size text (is_plain text) is

size_given : {G : Type 0} (least most : ℕ) (text : List ℕ) (found : ℕ × List ℕ) → size_in_front least most text ≡ Some found
    → (least ≤ found.0 → found.0 ≤ most → G) → G
size_given least most text found is follows =
    option_and_then_some {A = List ℕ × List ℕ} _ (split_at 41 text) found is (λ parts parts_is is.
    option_and_then_some _ (plain_number most parts.0) found is (λ size size_is is.
    let (enough, same) = cond_some (nat_le least size) (size, parts.1) found is in
    let one : size ≡ found.0 = ap (λ (p : ℕ × List ℕ). p.0) same in
    follows (subst (λ n. least ≤ n) one (below least size enough)) (subst (λ n. n ≤ most) one (number_few most size parts.0 size_is))))

-- the kind of what is found
abbrev Sized : Kind × List ℕ → Type 0
Sized found = HasSize found.0

abbrev pair_or : Kind × List ℕ → Option (Kind × List ℕ) → Kind × List ℕ
pair_or other None = other
pair_or other (Some found) = found

mapped_size : (make : ℕ → Kind) (given : Option (ℕ × List ℕ)) (found : Kind × List ℕ)
    → option_map (λ (p : ℕ × List ℕ). (make p.0, p.1)) given ≡ Some found
    → ((p : ℕ × List ℕ) → given ≡ Some p → HasSize (make p.0)) → Sized found
mapped_size make None found is sized = no_value found (sym is)
mapped_size make (Some p) found is sized = subst Sized (ap (pair_or found) is) (sized p refl)

decimal_sized : (text : List ℕ) (found : Kind × List ℕ) → decimal_in_front text ≡ Some found → Sized found
decimal_sized text found is =
    mapped_size (λ n. Decimal n) (size_in_front 0 9 text) found is (λ p p_is. size_given 0 9 text p p_is (λ enough few. few))

varchar_sized : (text : List ℕ) (found : Kind × List ℕ) → varchar_in_front text ≡ Some found → Sized found
varchar_sized text found is =
    mapped_size (λ n. Varchar n) (size_in_front 1 2000 text) found is (λ p p_is. size_given 1 2000 text p p_is (λ enough few. (enough, few)))

varbinary_sized : (text : List ℕ) (found : Kind × List ℕ) → varbinary_in_front text ≡ Some found → Sized found
varbinary_sized text found is =
    mapped_size (λ n. Varbinary n) (size_in_front 1 4000 text) found is (λ p p_is. size_given 1 4000 text p p_is (λ enough few. (enough, few)))

-- one of two words comes first
either : (first : Option (List ℕ)) (make : List ℕ → Option (Kind × List ℕ)) (other : Option (Kind × List ℕ)) (found : Kind × List ℕ)
    → ((rest : List ℕ) → make rest ≡ Some found → Sized found) → (other ≡ Some found → Sized found)
    → elim first [ Some rest ↦ make rest | None ↦ other ] ≡ Some found → Sized found
either None make other found here there is = there is
either (Some rest) make other found here there is = here rest is

plain_sized : (kind : Kind) (rest : List ℕ) (found : Kind × List ℕ) → HasSize kind → Some (kind, rest) ≡ Some found → Sized found
plain_sized kind rest found sized is = subst Sized (ap (pair_or found) is) sized

kind_sized : (text : List ℕ) (found : Kind × List ℕ) → kind_in_front text ≡ Some found → Sized found
kind_sized text found is =
    either (behind (codes "INTEGER") text) (λ rest. Some (Integer, rest)) _ found (λ rest is. plain_sized Integer rest found tt is)
    (either (behind (codes "TIMESTAMP") text) (λ rest. Some (Timestamp, rest)) _ found (λ rest is. plain_sized Timestamp rest found tt is)
    (either (behind (codes "DECIMAL(") text) decimal_in_front _ found (λ rest is. decimal_sized rest found is)
    (either (behind (codes "VARCHAR(") text) varchar_in_front _ found (λ rest is. varchar_sized rest found is)
    (either (behind (codes "VARBINARY(") text) varbinary_in_front None found (λ rest is. varbinary_sized rest found is)
    (λ is. no_value found (sym is)))))) is

-- a key allows no null
no_null : (null key : Bool) → key ≡ true → (null || key) ≡ true
no_null true key is = refl
no_null false key is = is

marked_on : (name : List ℕ) (kind : Kind) (null key : Bool) (reference : Option (Option (List ℕ))) (column : ColumnText)
    → IsTrue (is_name_text (chars name)) → HasSize kind
    → option_map (λ reference. record { name = chars name; kind = kind; not_null = null || key; key = key; reference = reference }) reference ≡ Some column
    → IsWritten column
marked_on name kind null key None column named sized is = no_value column (sym is)
marked_on name kind null key (Some reference) column named sized is =
    subst IsWritten (ap (λ o. elim o [ None ↦ column | Some c ↦ c ]) is) (record { named = named; sized = sized; present = no_null null key })

parts_on : (name rest : List ℕ) (column : ColumnText) (b : Bool) → is_name_text (chars name) ≡ b
    → cond b (option_and_then (λ (kind : Kind × List ℕ). marked name kind.0 kind.1) (kind_in_front rest)) None ≡ Some column → IsWritten column
parts_on name rest column true named is =
    option_and_then_some {A = Kind × List ℕ} _ (kind_in_front rest) column is (λ kind kind_is is.
    marked_on name kind.0 (mark_in_front (codes " NOT NULL") kind.1).0
    (mark_in_front (codes " KEY") (mark_in_front (codes " NOT NULL") kind.1).1).0
    (reference_of (mark_in_front (codes " KEY") (mark_in_front (codes " NOT NULL") kind.1).1).1) column named (kind_sized rest kind kind_is) is)
parts_on name rest column false named is = no_value column (sym is)

column_written : (text : List ℕ) (column : ColumnText) → column_text text ≡ Some column → IsWritten column
column_written text column is =
    option_and_then_some {A = List ℕ × List ℕ} _ (split_at 32 text) column is (λ parts parts_is is. parts_on parts.0 parts.1 column (is_name_text (chars parts.0)) refl is)

pub columns_written : (earlier : List ColumnText) (texts : List (List ℕ)) (columns : List ColumnText) → All IsWritten earlier
    → columns_from earlier texts ≡ Some columns → All IsWritten columns
columns_written earlier [] columns are is = subst (λ c. All IsWritten c) (ap (λ o. elim o [ None ↦ columns | Some c ↦ c ]) is) are
columns_written earlier (text ∷ texts) columns are is =
    option_and_then_some {A = ColumnText} _ (column_text text) columns is (λ column column_is is.
    columns_written (earlier ++ column ∷ []) texts columns (all_snoc IsWritten earlier column are (column_written text column column_is)) is)

-- WIDTHS. Both count the same room
width_same : (kind : Kind) → width kind ≡ width_of kind
width_same Integer = refl
width_same (Decimal digits) = refl
width_same (Varchar most) = refl
width_same Timestamp = refl
width_same (Varbinary most) = refl

pub widths_same : (make : ColumnText → ColumnDef) (columns : List ColumnText) → ((column : ColumnText) → (make column).kind ≡ column.kind)
    → sum_by (λ (column : ColumnDef). width_of column.kind) (map make columns) ≡ widths columns
widths_same make [] kinds = refl
widths_same make (column ∷ columns) kinds =
    sum_by-cons (λ (c : ColumnDef). width_of c.kind) (make column) (map make columns)
    ∙ (ap (λ w. w + sum_by (λ (c : ColumnDef). width_of c.kind) (map make columns)) (ap width_of (kinds column) ∙ sym (width_same column.kind))
    ∙ ap (λ w. width column.kind + w) (widths_same make columns kinds))
