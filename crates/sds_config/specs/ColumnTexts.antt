-- A column's text: `NAME KIND`, then ` NOT NULL`, ` KEY` and ` REF TABLE`, each optional and in that order. Texts are given by their bytes.
use Rattle.std.specs.Prelude.{ℕ, Bool, true, false, ◌||◌, nat_le, if◌then◌else◌, List, [], ◌∷◌, ◌++◌, codes, Option, Some, None, option_map, option_and_then}
use Rattle.std.specs.Str.{chars}
use Rattle.sds_value.specs.Names.{is_name_text}
use Rattle.sds_value.specs.declared.kind.Kind.{Kind}
use Rattle.sds_value.specs.declared.kind.Kind.TheVariants.{Integer, Decimal, Varchar, Timestamp, Varbinary}
use Rattle.sds_expressions.specs.Numbers.{plain_number}
use Rattle.sds_expressions.specs.Pieces.{behind, split_at}
use Rattle.sds_config.specs.declared.columns.ColumnText.{ColumnText}

-- the size of a kind, which is at least this and at most that, and what follows its closing parenthesis
abbrev pub size_in_front : ℕ → ℕ → List ℕ → Option (ℕ × List ℕ)
size_in_front least most text = option_and_then
    (λ (parts : List ℕ × List ℕ). option_and_then (λ size. if nat_le least size then Some (size, parts.1) else None) (plain_number most parts.0))
    (split_at 41 text)

-- the three kinds with a size, after their opening parenthesis
abbrev pub decimal_in_front : List ℕ → Option (Kind × List ℕ)
decimal_in_front text = option_map (λ (p : ℕ × List ℕ). (Decimal p.0, p.1)) (size_in_front 0 9 text)

abbrev pub varchar_in_front : List ℕ → Option (Kind × List ℕ)
varchar_in_front text = option_map (λ (p : ℕ × List ℕ). (Varchar p.0, p.1)) (size_in_front 1 2000 text)

abbrev pub varbinary_in_front : List ℕ → Option (Kind × List ℕ)
varbinary_in_front text = option_map (λ (p : ℕ × List ℕ). (Varbinary p.0, p.1)) (size_in_front 1 4000 text)

-- the kind that a text begins with, and what follows it
abbrev pub kind_in_front : List ℕ → Option (Kind × List ℕ)
kind_in_front text =
    elim (behind (codes "INTEGER") text) [
      | Some rest ↦ Some (Integer, rest)
      | None ↦
          elim (behind (codes "TIMESTAMP") text) [
            | Some rest ↦ Some (Timestamp, rest)
            | None ↦
                elim (behind (codes "DECIMAL(") text) [
                  | Some rest ↦ decimal_in_front rest
                  | None ↦
                      elim (behind (codes "VARCHAR(") text) [
                        | Some rest ↦ varchar_in_front rest
                        | None ↦
                            elim (behind (codes "VARBINARY(") text) [
                              | Some rest ↦ varbinary_in_front rest
                              | None ↦
                                  None
                            ]
                      ]
                ]
          ]
    ]

-- whether a mark comes first, and what follows it
abbrev pub mark_in_front : List ℕ → List ℕ → Bool × List ℕ
mark_in_front mark text = elim (behind mark text) [ Some rest ↦ (true, rest) | None ↦ (false, text) ]

-- the name of the table that is referred to, or that there is none
abbrev pub reference_of : List ℕ → Option (Option (List ℕ))
reference_of [] = Some None
reference_of (c ∷ cs) = option_map (λ name. Some (chars name)) (behind (codes " REF ") (c ∷ cs))

-- the marks after the kind
abbrev pub marked : List ℕ → Kind → List ℕ → Option ColumnText
marked name kind text =
    let null = mark_in_front (codes " NOT NULL") text in
    let key = mark_in_front (codes " KEY") null.1 in
    option_map (λ reference. record { name = chars name; kind = kind; not_null = null.0 || key.0; key = key.0; reference = reference }) (reference_of key.1)

-- the column that a text writes
abbrev pub column_text : List ℕ → Option ColumnText
column_text text = option_and_then
    (λ (parts : List ℕ × List ℕ). if is_name_text (chars parts.0)
    then option_and_then (λ (kind : Kind × List ℕ). marked parts.0 kind.0 kind.1) (kind_in_front parts.1) else None)
    (split_at 32 text)

-- the columns so far and those of the texts that follow
abbrev pub columns_from : List ColumnText → List (List ℕ) → Option (List ColumnText)
columns_from earlier [] = Some earlier
columns_from earlier (text ∷ texts) = option_and_then (λ column. columns_from (earlier ++ column ∷ []) texts) (column_text text)
