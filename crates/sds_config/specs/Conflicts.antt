-- The section `conflict`: how conflicts in a table are seen and resolved between two groups. There is at most one entry for these three.
use Rattle.std.specs.Prelude.{ℕ, Bool, true, false, ◌&&◌, ◌==◌, if◌then◌else◌, List, [], ◌∷◌, take, codes, Option, Some, None, option_map, option_and_then, Result, Ok, Err}
use Rattle.std.specs.List.{list_any, slice_get}
use Rattle.std.specs.Str.{chars}
use Rattle.toml.specs.Data.{Members}
use Rattle.sds_value.specs.declared.kind.Kind.{Kind}
use Rattle.sds_value.specs.declared.kind.Kind.TheVariants as kind
use Rattle.sds_value.specs.declared.table.ColumnDef.{ColumnDef}
use Rattle.sds_value.specs.declared.table.TableDef.{TableDef}
use Rattle.sds_types.specs.declared.config.Config.{Config}
use Rattle.sds_types.specs.declared.conflict.ConflictDef.{ConflictDef}
use Rattle.sds_types.specs.declared.conflict.DetectType.{DetectType}
use Rattle.sds_types.specs.declared.conflict.DetectType.TheVariants.{UseTimestamp, UseVersion}
use Rattle.sds_types.specs.declared.conflict.ResolveType.{ResolveType}
use Rattle.sds_types.specs.declared.conflict.ResolveType.TheVariants.{NewerWins}
use Rattle.sds_types.specs.declared.config_refusal.ConfigRefusal.{ConfigRefusal}
use Rattle.sds_types.specs.declared.config_refusal.ConfigRefusal.TheVariants.{BadSetting, Duplicate, NoLink}
use Rattle.sds_config.specs.declared.conflicts.Detect.{Detect}
use Rattle.sds_config.specs.declared.conflicts.Resolve.{Resolve}
use Rattle.sds_config.specs.Ends.{ends_at}
use Rattle.sds_config.specs.Refusals.{and_then}
use Rattle.sds_config.specs.Fields.{only_keys, place_at, place_of, flag_at, word_at, text_or_empty}
use Rattle.sds_config.specs.Links.{leads}
use Rattle.sds_config.specs.Words.{detect_type_of, resolve_type_of}

abbrev pub conflict_keys : List (List ℕ)
conflict_keys = codes "source_group" ∷ codes "target_group" ∷ codes "target_table" ∷ codes "detect_type" ∷ codes "detect_expression" ∷ codes "resolve_type" ∷ codes "resolve_row_only" ∷ []

-- the detect type that goes by a named column, and so may be resolved by the newer value
abbrev pub names_column : DetectType → Bool
names_column UseTimestamp = true
names_column UseVersion = true
names_column detect = false

-- the kind that the named column has
abbrev pub suits : DetectType → Kind → Bool
suits UseTimestamp kind.Timestamp = true
suits UseVersion kind.Integer = true
suits detect kind = false

-- the place of the column of this name, where its kind suits the detect type
abbrev pub suited_column : DetectType → List ℕ → List ColumnDef → Option ℕ
suited_column detect text columns = option_and_then
    (λ place. option_and_then (λ column. if suits detect column.kind then Some place else None) (slice_get columns place))
    (place_of (λ column. column.name) columns text)

-- the same among the columns of a table, which are at most 64
abbrev pub suited : DetectType → List ℕ → List TableDef → ℕ → Option ℕ
suited detect text tables table = option_and_then (λ def. suited_column detect text (take 64 def.columns)) (slice_get tables table)

-- an expression that is to be empty
abbrev pub nothing_named : List ℕ → Option (Option ℕ)
nothing_named [] = Some None
nothing_named (c ∷ cs) = None

-- what the detect expression names: nothing, where it is to be empty
abbrev pub named_column : DetectType → List ℕ → List TableDef → ℕ → Option (Option ℕ)
named_column detect text tables table = if names_column detect then option_map Some (suited detect text tables table)
    else nothing_named text

-- the newer value resolves only where a column is named
abbrev pub resolves : DetectType → ResolveType → Bool
resolves detect NewerWins = names_column detect
resolves detect resolve = true

-- the three that may stand together only once
abbrev pub same_three : ℕ → ℕ → ℕ → ConflictDef → Bool
same_three source target table other = other.source_group == source && (other.target_group == target && other.target_table == table)

abbrev pub whole_conflict : Config → List ConflictDef → List ℕ → List ℕ → ConflictDef → Result ConflictDef ConfigRefusal
whole_conflict config earlier at text conflict =
    if list_any (same_three conflict.source_group conflict.target_group conflict.target_table) earlier then Err (Duplicate (chars at))
    else (if leads config.links conflict.source_group conflict.target_group
    then (if resolves conflict.detect_type conflict.resolve_type
    then elim (named_column conflict.detect_type text config.tables conflict.target_table) [
      | None ↦ Err (BadSetting (chars at))
      | Some column ↦ Ok (record conflict { detect_expression = column })
    ]
    else Err (BadSetting (chars at)))
    else Err (NoLink (chars at)))

-- how a conflict is seen: the type, and the text of the expression
abbrev pub detect_at : Members → List ℕ → Result Detect ConfigRefusal
detect_at entry at =
    and_then (word_at detect_type_of entry at (codes "detect_type")) (λ detect_type.
    and_then (text_or_empty entry at (codes "detect_expression")) (λ text.
    Ok (record { detect_type = detect_type; text = text })))

-- how it is resolved
abbrev pub resolve_at : Members → List ℕ → Result Resolve ConfigRefusal
resolve_at entry at =
    and_then (word_at resolve_type_of entry at (codes "resolve_type")) (λ resolve_type.
    and_then (flag_at true entry at (codes "resolve_row_only")) (λ row_only.
    Ok (record { resolve_type = resolve_type; row_only = row_only })))

abbrev pub conflict_of : Config → List ConflictDef → Members → List ℕ → Result ConflictDef ConfigRefusal
conflict_of config earlier entry at =
    and_then (only_keys conflict_keys entry at) (λ _.
    and_then (ends_at config.groups entry at) (λ ends.
    and_then (place_at (λ table. table.name) config.tables entry at (codes "target_table")) (λ target_table.
    and_then (detect_at entry at) (λ detect.
    and_then (resolve_at entry at) (λ resolve.
    whole_conflict config earlier at detect.text (record {
      source_group = ends.source;
      target_group = ends.target;
      target_table = target_table;
      detect_type = detect.detect_type;
      detect_expression = None;
      resolve_type = resolve.resolve_type;
      resolve_row_only = resolve.row_only;
    }))))))
