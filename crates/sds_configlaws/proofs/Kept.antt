-- What every entry's reading keeps holds of a whole section.
use Rattle.std.proofs.Common.{◌≡◌, ℕ, ◌+◌, ◌≤◌, Bool, true, false, cond, List, [], ◌∷◌, ◌++◌, length, Option, None, Some, Result, Ok, Err, refl, sym, ap, subst, arith}
use Rattle.std.specs.Prelude.{nat_lt, if◌then◌else◌}
use Rattle.std.specs.Str.{chars}
use Rattle.std.proofs.lemmas.List.{length-append}
use Rattle.toml.specs.Data.{Data, Items, no_items, item, Members, as_array, as_table, get_member}
use Rattle.sds_types.specs.declared.config.Config.{Config}
use Rattle.sds_types.specs.declared.config_refusal.ConfigRefusal.{ConfigRefusal}
use Rattle.sds_types.specs.declared.config_refusal.ConfigRefusal.TheVariants.{TooMany, WrongType}
use Rattle.sds_config.specs.Fields.{entry_path, typed}
use Rattle.sds_config.specs.Refusals.{and_then}
use Rattle.sds_config.specs.Sections.{count, entry_at, entries_from, items_at, section_of}
use Rattle.sds_configlaws.proofs.Gave.{Answer, Is, gives, refuses, gave, same_value, never, not_above}

-- how the entries of a section are read
abbrev pub Reading : Type 0 → Type 0
Reading E = Config → List E → Members → List ℕ → Answer E

-- the reading of an entry keeps what holds of those before it
abbrev pub Keeps : {E : Type 0} → Config → Reading E → (List E → Type 0) → Type 0
Keeps {E} config entry_of What = (earlier : List E) (entry : Members) (at : List ℕ) (new : E) → What earlier
    → entry_of config earlier entry at ≡ Ok new → What (earlier ++ new ∷ [])

-- what holds of the entries, which are so many
pub record Holds {E : Type 0} (What : List E → Type 0) (all : List E) (number : ℕ) : Type 0 where
  pub what : What all
  pub counted : length all ≡ number

entry_kept : {E : Type 0} (config : Config) (entry_of : Reading E) (What : List E → Type 0) (keeps : Keeps config entry_of What) (section : List ℕ)
    (earlier : List E) (value : Data) (new : E) → What earlier → entry_at entry_of config section earlier value ≡ Ok new → What (earlier ++ new ∷ [])
entry_kept config entry_of What keeps section earlier value new what is =
    gave (elim (as_table value) [ None ↦ refuses (WrongType (chars (entry_path section (length earlier)))) | Some entry ↦ gives entry ]) _ new is
    (λ entry read rest. keeps earlier entry (entry_path section (length earlier)) new what rest)

one_more : (n more all earlier : ℕ) → n ≡ earlier + 1 → all ≡ n + more → all ≡ earlier + (1 + more)
one_more n more all earlier first follows = omega (arith, first, follows)

counted_more : {E : Type 0} (What : List E → Type 0) (earlier : List E) (new : E) (all : List E) (more : ℕ)
    → Holds What all (length (earlier ++ new ∷ []) + more) → Holds What all (length earlier + (1 + more))
counted_more What earlier new all more holds = record {
  what = holds.what;
  counted = one_more (length (earlier ++ new ∷ [])) more (length all) (length earlier) (length-append earlier (new ∷ [])) holds.counted;
}

no_more : (n : ℕ) → n ≡ n + 0
no_more n = omega arith

entries_kept : {E : Type 0} (config : Config) (entry_of : Reading E) (What : List E → Type 0) (keeps : Keeps config entry_of What) (section : List ℕ)
    (earlier : List E) (items : Items) (all : List E) → What earlier → entries_from entry_of config section earlier items ≡ Ok all
    → Holds What all (length earlier + count items)
entries_kept config entry_of What keeps section earlier no_items all what is =
    subst (λ a. Holds What a (length earlier + 0)) (same_value earlier all is) (record { what = what; counted = no_more (length earlier) })
entries_kept config entry_of What keeps section earlier (item value rest) all what is =
    gave (entry_at entry_of config section earlier value) _ all is (λ new read more. counted_more What earlier new all (count rest)
    (entries_kept config entry_of What keeps section (earlier ++ new ∷ []) rest all
    (entry_kept config entry_of What keeps section earlier value new what read) more))

-- SECTIONS. What holds of few entries
pub record IsKept {E : Type 0} (What : List E → Type 0) (most : ℕ) (all : List E) : Type 0 where
  pub what : What all
  pub few : length all ≤ most

few_on : (most : ℕ) (refusal : ConfigRefusal) (items given : Items) (b : Bool) → nat_lt most (count items) ≡ b
    → cond b (refuses refusal) (gives items) ≡ Ok given → count given ≤ most
few_on most refusal items given true is read = never _ given read
few_on most refusal items given false is read = subst (λ i. count i ≤ most) (same_value items given read) (not_above (count items) most is)

pub items_few : (most : ℕ) (name : List ℕ) (value : Data) (at key : List ℕ) (given : Items) → items_at most name value at key ≡ Ok given → count given ≤ most
items_few most name value at key given is =
    gave (typed (as_array value) at key) _ given is (λ items read rest. few_on most (TooMany (chars name)) items given (nat_lt most (count items)) refl rest)

few_all : (all items most : ℕ) → all ≡ 0 + items → items ≤ most → all ≤ most
few_all all items most same few = omega (arith, same, few)

no_entries : (most : ℕ) → 0 ≤ most
no_entries most = omega arith

pub list_kept : {E : Type 0} (config : Config) (entry_of : Reading E) (What : List E → Type 0) (keeps : Keeps config entry_of What) (most : ℕ)
    (path : List ℕ) (items : Items) (all : List E) → count items ≤ most → What [] → entries_from entry_of config path [] items ≡ Ok all
    → IsKept What most all
list_kept config entry_of What keeps most path items all few none is =
    let holds : Holds What all (0 + count items) = entries_kept config entry_of What keeps path [] items all none is in
    record { what = holds.what; few = few_all (length all) (count items) most holds.counted few }

section_on : {E : Type 0} (config : Config) (entry_of : Reading E) (What : List E → Type 0) (keeps : Keeps config entry_of What) (most : ℕ)
    (section : List ℕ) (all : List E) (found : Option Data) → What []
    → Is {T = List E} (elim found [
      | None ↦ gives []
      | Some value ↦ and_then (items_at most section value [] section) (λ items. entries_from entry_of config section [] items)
    ]) all → IsKept What most all
section_on config entry_of What keeps most section all None none is =
    subst (λ a. IsKept What most a) (same_value [] all is) (record { what = none; few = no_entries most })
section_on config entry_of What keeps most section all (Some value) none is =
    gave (items_at most section value [] section) _ all is (λ items given rest. list_kept config entry_of What keeps most section items all (items_few most section value [] section items given) none rest)

pub section_kept : {E : Type 0} (config : Config) (entry_of : Reading E) (What : List E → Type 0) (keeps : Keeps config entry_of What) (most : ℕ)
    (section : List ℕ) (file : Members) (all : List E) → What [] → section_of entry_of most section config file ≡ Ok all → IsKept What most all
section_kept config entry_of What keeps most section file all none is =
    section_on config entry_of What keeps most section all (get_member section file) none is
