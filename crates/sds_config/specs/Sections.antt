-- A section: an array of tables, whose entries are read in order, each knowing those before it.
use Rattle.std.specs.Prelude.{ℕ, ◌+◌, nat_lt, if◌then◌else◌, List, [], ◌∷◌, ◌++◌, length, Some, None, Result, Ok, Err}
use Rattle.std.specs.Str.{chars}
use Rattle.toml.specs.Data.{Data, Items, no_items, item, Members, get_member, as_array, as_table}
use Rattle.sds_types.specs.declared.config.Config.{Config}
use Rattle.sds_types.specs.declared.config_refusal.ConfigRefusal.{ConfigRefusal}
use Rattle.sds_types.specs.declared.config_refusal.ConfigRefusal.TheVariants.{WrongType, TooMany}
use Rattle.sds_config.specs.Refusals.{and_then}
use Rattle.sds_config.specs.Fields.{entry_path, typed}

-- how many items an array has
abbrev pub count : Items → ℕ
count no_items = 0
count (item value rest) = 1 + count rest

-- the entry at a place is a table, and is read as one
abbrev pub entry_at : {E : Type 0} → (Config → List E → Members → List ℕ → Result E ConfigRefusal) → Config → List ℕ → List E → Data → Result E ConfigRefusal
entry_at entry_of config section earlier value =
    and_then (elim (as_table value) [ None ↦ Err (WrongType (chars (entry_path section (length earlier)))) | Some entry ↦ Ok entry ])
    (λ entry. entry_of config earlier entry (entry_path section (length earlier)))

-- the entries so far and those of the items that follow, or the first refusal
abbrev pub entries_from : {E : Type 0} → (Config → List E → Members → List ℕ → Result E ConfigRefusal) → Config → List ℕ → List E → Items → Result (List E) ConfigRefusal
entries_from entry_of config section earlier no_items = Ok earlier
entries_from entry_of config section earlier (item value rest) =
    and_then (entry_at entry_of config section earlier value) (λ entry. entries_from entry_of config section (earlier ++ entry ∷ []) rest)

-- an array, with at most so many items: more of them are refused under a name of their own
abbrev pub items_at : ℕ → List ℕ → Data → List ℕ → List ℕ → Result Items ConfigRefusal
items_at most name value at key = and_then (typed (as_array value) at key)
    (λ items. if nat_lt most (count items) then Err (TooMany (chars name)) else Ok items)

-- a section: absent it is empty; else it is an array, with at most so many entries
abbrev pub section_of : {E : Type 0} → (Config → List E → Members → List ℕ → Result E ConfigRefusal) → ℕ → List ℕ → Config → Members → Result (List E) ConfigRefusal
section_of entry_of most section config file = elim (get_member section file) [
  | None ↦ Ok []
  | Some value ↦ and_then (items_at most section value [] section) (λ items. entries_from entry_of config section [] items)
]
