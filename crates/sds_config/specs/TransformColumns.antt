-- The section `transform.column`: how a transform makes its columns.
use Rattle.std.specs.Prelude.{ℕ, Bool, true, false, if◌then◌else◌, List, [], ◌∷◌, codes, Some, None, Result, Ok}
use Rattle.std.specs.Str.{chars}
use Rattle.toml.specs.Data.{Members, get_member}
use Rattle.sds_value.specs.Names.{is_name_text}
use Rattle.sds_types.specs.declared.config.Config.{Config}
use Rattle.sds_types.specs.declared.config_refusal.ConfigRefusal.{ConfigRefusal}
use Rattle.sds_config.specs.declared.formulas.ColumnEntry.{ColumnEntry}
use Rattle.sds_config.specs.declared.formulas.Formula.{Formula}
use Rattle.sds_config.specs.declared.formulas.Making.{Making}
use Rattle.sds_config.specs.Fields.{only_keys, name_at, text_at, text_or_empty, flag_at, word_at, allowed}
use Rattle.sds_config.specs.Refusals.{and_then}
use Rattle.sds_config.specs.Words.{column_kind_of}

abbrev pub transform_column_keys : List (List ℕ)
transform_column_keys = codes "target" ∷ codes "source" ∷ codes "pk" ∷ codes "include_on" ∷ codes "type" ∷ codes "expression" ∷ []

abbrev pub is_name_or_empty : List ℕ → Bool
is_name_or_empty [] = true
is_name_or_empty (c ∷ cs) = is_name_text (c ∷ cs)

-- a name that may be absent and is then empty
abbrev pub name_or_empty : Members → List ℕ → List ℕ → Result (List ℕ) ConfigRefusal
name_or_empty entry at key = and_then (text_or_empty entry at key) (λ text. allowed (if is_name_or_empty text then Some text else None) at key)

-- the events, which are all of them where the field is absent
abbrev pub events_at : Members → List ℕ → List ℕ → Result (List ℕ) ConfigRefusal
events_at entry at key = elim (get_member key entry) [ None ↦ Ok (chars (codes "*")) | Some value ↦ text_at entry at key ]

-- what is made of what
abbrev pub making_at : Members → List ℕ → Result Making ConfigRefusal
making_at entry at =
    and_then (name_at entry at (codes "target")) (λ target.
    and_then (name_or_empty entry at (codes "source")) (λ source.
    and_then (flag_at false entry at (codes "pk")) (λ pk.
    Ok (record { target = target; source = source; pk = pk }))))

-- at which events and by what
abbrev pub formula_at : Members → List ℕ → Result Formula ConfigRefusal
formula_at entry at =
    and_then (events_at entry at (codes "include_on")) (λ include_on.
    and_then (word_at column_kind_of entry at (codes "type")) (λ kind.
    and_then (text_or_empty entry at (codes "expression")) (λ expression.
    Ok (record { include_on = include_on; kind = kind; expression = expression }))))

-- the column as its entry writes it
abbrev pub column_entry_of : Config → List ColumnEntry → Members → List ℕ → Result ColumnEntry ConfigRefusal
column_entry_of config earlier entry at =
    and_then (only_keys transform_column_keys entry at) (λ _.
    and_then (making_at entry at) (λ making.
    and_then (formula_at entry at) (λ formula.
    Ok (record {
      target = making.target;
      source = making.source;
      pk = making.pk;
      include_on = formula.include_on;
      kind = formula.kind;
      expression = formula.expression;
    }))))
