-- The conflict settings of a file are sound.
use Rattle.std.proofs.Common.{◌≡◌, ◌≢◌, ℕ, zero, suc, ◌<◌, ◌≤◌, Bool, true, false, cond, List, [], ◌∷◌, ◌++◌, length, take, Option, None, Some, Result, Ok, Err, refl, subst, All, AllPairs, sym, ap, ◌∙◌, true≢false, ◌&&◌}
use Rattle.std.specs.Bool.{IsTrue}
use Rattle.std.specs.List.{list_any}
use Rattle.std.specs.Option.{IsSomeAnd, option_map_or}
use Rattle.std.specs.Prelude.{codes, if◌then◌else◌, option_map, option_and_then, slice_get}
use Rattle.std.specs.Str.{chars}
use Rattle.std.proofs.lemmas.List.Elements.{All-nil}
use Rattle.std.proofs.lemmas.Option.{cond_some, option_and_then_some}
use Rattle.toml.specs.Data.{Members}
use Rattle.sds_value.specs.declared.kind.Kind.{Kind}
use Rattle.sds_value.specs.declared.kind.Kind.TheVariants.{Integer, Decimal, Varchar, Timestamp, Varbinary}
use Rattle.sds_value.specs.declared.table.ColumnDef.{ColumnDef}
use Rattle.sds_value.specs.declared.table.TableDef.{TableDef}
use Rattle.sds_types.specs.declared.config.Config.{Config}
use Rattle.sds_types.specs.declared.config_refusal.ConfigRefusal.{ConfigRefusal}
use Rattle.sds_types.specs.declared.config_refusal.ConfigRefusal.TheVariants.{BadSetting, Duplicate, NoLink}
use Rattle.sds_types.specs.declared.conflict.ConflictDef.{ConflictDef}
use Rattle.sds_types.specs.declared.conflict.DetectType.{DetectType}
use Rattle.sds_types.specs.declared.conflict.DetectType.TheVariants.{UsePkData, UseOldData, UseChangedData, UseTimestamp, UseVersion}
use Rattle.sds_types.specs.declared.conflict.ResolveType.{ResolveType}
use Rattle.sds_types.specs.declared.conflict.ResolveType.TheVariants.{NewerWins}
use Rattle.sds_trade.specs.rules.Places.{columns_at}
use Rattle.sds_trade.specs.sound.Conflicts.{HasKind, NamesWell, IsConflict, settle_alike}
use Rattle.sds_trade.specs.sound.Conflicts as sound
use Rattle.sds_config.specs.Conflicts.{conflict_keys, conflict_of, detect_at, named_column, names_column, nothing_named, resolve_at, resolves, same_three, suited, suited_column, suits}
use Rattle.sds_config.specs.Ends.{ends_at}
use Rattle.sds_config.specs.Fields.{only_keys, place_at, place_of}
use Rattle.sds_config.specs.Links.{leads}
use Rattle.sds_config.specs.Sections.{section_of}
use Rattle.sds_configlaws.proofs.Gave.{Answer, Is, gives, refuses, gave, same_value, never, no_value, all_snoc, pairs_snoc, no_pairs, none_passes, place_given}
use Rattle.sds_configlaws.proofs.Kept.{Keeps, IsKept, section_kept}
use Rattle.sds_configlaws.proofs.SoundRouters.{AreEnds, ends_given}

-- COLUMNS. What is among the first columns is among the columns
taken : {X : Type 0} (P : X → Type 0) (n : ℕ) (xs : List X) (place : ℕ) → IsSomeAnd (slice_get (take n xs) place) P → IsSomeAnd (slice_get xs place) P
taken P zero xs place is = absurd is
taken P (suc n) [] place is = absurd is
taken P (suc n) (x ∷ xs) zero is = is
taken P (suc n) (x ∷ xs) (suc place) is = taken P n xs place is

some_and : {X : Type 0} (P : X → Type 0) (found : Option X) (x : X) → found ≡ Some x → P x → IsSomeAnd found P
some_and P found x is holds = subst (λ o. IsSomeAnd o P) (sym is) holds

abbrev Suits : DetectType → ColumnDef → Type 0
Suits detect column = suits detect column.kind ≡ true

suited_in : (detect : DetectType) (text : List ℕ) (columns : List ColumnDef) (place : ℕ) → suited_column detect text (take 64 columns) ≡ Some place
    → IsSomeAnd (slice_get columns place) (Suits detect)
suited_in detect text columns place is =
    option_and_then_some _ (place_of (λ column. column.name) (take 64 columns) text) place is (λ found found_is is.
    option_and_then_some _ (slice_get (take 64 columns) found) place is (λ column column_is is.
    let (suited, same) = cond_some (suits detect column.kind) found place is in
    subst (λ p. IsSomeAnd (slice_get columns p) (Suits detect)) same
    (taken (Suits detect) 64 columns found (some_and (Suits detect) (slice_get (take 64 columns) found) column column_is suited))))

suited_on : (detect : DetectType) (text : List ℕ) (found : Option TableDef) (place : ℕ)
    → option_and_then (λ def. suited_column detect text (take 64 def.columns)) found ≡ Some place
    → IsSomeAnd (slice_get (option_map_or (λ (def : TableDef). def.columns) found []) place) (Suits detect)
suited_on detect text None place is = no_value place (sym is)
suited_on detect text (Some def) place is = suited_in detect text def.columns place is

stamp : (kind : Kind) → suits UseTimestamp kind ≡ true → kind ≡ Timestamp
stamp Timestamp is = refl
stamp Integer is = absurd (true≢false (sym is))
stamp (Decimal digits) is = absurd (true≢false (sym is))
stamp (Varchar most) is = absurd (true≢false (sym is))
stamp (Varbinary most) is = absurd (true≢false (sym is))

version : (kind : Kind) → suits UseVersion kind ≡ true → kind ≡ Integer
version Integer is = refl
version Timestamp is = absurd (true≢false (sym is))
version (Decimal digits) is = absurd (true≢false (sym is))
version (Varchar most) is = absurd (true≢false (sym is))
version (Varbinary most) is = absurd (true≢false (sym is))

-- what follows of the column that is there
some_then : {X : Type 0} (P Q : X → Type 0) (found : Option X) → ((x : X) → P x → Q x) → IsSomeAnd found P → IsSomeAnd found Q
some_then P Q None follows is = is
some_then P Q (Some x) follows is = follows x is

mapped_on : (given : Option ℕ) (column : Option ℕ) {G : Type 0} → option_map Some given ≡ Some column
    → ((place : ℕ) → given ≡ Some place → Some place ≡ column → G) → G
mapped_on None column is follows = no_value column (sym is)
mapped_on (Some place) column is follows = follows place refl (ap (λ o. elim o [ None ↦ column | Some c ↦ c ]) is)

unnamed : (text : List ℕ) (column : Option ℕ) → nothing_named text ≡ Some column → column ≡ None
unnamed [] column is = sym (ap (λ o. elim o [ None ↦ column | Some c ↦ c ]) is)
unnamed (c ∷ cs) column is = no_value column (sym is)

kind_named : (detect : DetectType) (kind : Kind) (text : List ℕ) (tables : List TableDef) (table : ℕ) (column : Option ℕ)
    → ((k : Kind) → suits detect k ≡ true → k ≡ kind) → option_map Some (suited detect text tables table) ≡ Some column
    → HasKind (columns_at tables table) kind column
kind_named detect kind text tables table column only is =
    mapped_on (suited detect text tables table) column is (λ place found same.
    subst (λ c. HasKind (columns_at tables table) kind c) same
    (some_then (Suits detect) (λ c. c.kind ≡ kind) (slice_get (columns_at tables table) place) (λ c suited. only c.kind suited)
    (suited_on detect text (slice_get tables table) place found)))

names_well : (detect : DetectType) (text : List ℕ) (tables : List TableDef) (table : ℕ) (column : Option ℕ)
    → named_column detect text tables table ≡ Some column → NamesWell (columns_at tables table) detect column
names_well UseTimestamp text tables table column is = kind_named UseTimestamp Timestamp text tables table column stamp is
names_well UseVersion text tables table column is = kind_named UseVersion Integer text tables table column version is
names_well UsePkData text tables table column is = unnamed text column is
names_well UseOldData text tables table column is = unnamed text column is
names_well UseChangedData text tables table column is = unnamed text column is

names_alike : (detect : DetectType) → names_column detect ≡ true → sound.names_column detect ≡ true
names_alike UseTimestamp is = refl
names_alike UseVersion is = refl
names_alike UsePkData is = is
names_alike UseOldData is = is
names_alike UseChangedData is = is

newer : (detect : DetectType) (resolve : ResolveType) → resolves detect resolve ≡ true → resolve ≡ NewerWins → sound.names_column detect ≡ true
newer detect resolve is same = names_alike detect (subst (λ r. resolves detect r ≡ true) same is)

-- CONFLICTS
abbrev Apart : ConflictDef → ConflictDef → Type 0
Apart a b = settle_alike a b ≡ false

pub record Conflicts (config : Config) (conflicts : List ConflictDef) : Type 0 where
  pub each : All (IsConflict config) conflicts
  pub apart : AllPairs Apart conflicts

no_conflicts : (config : Config) → Conflicts config []
no_conflicts config = record { each = All-nil (IsConflict config); apart = no_pairs Apart }

conflict_more : (config : Config) (earlier : List ConflictDef) (made new : ConflictDef) (column : Option ℕ) → Conflicts config earlier
    → AreEnds config.groups (record { source = made.source_group; target = made.target_group }) → made.target_table < length config.tables
    → All (λ other. same_three made.source_group made.target_group made.target_table other ≡ false) earlier
    → leads config.links made.source_group made.target_group ≡ true → resolves made.detect_type made.resolve_type ≡ true
    → NamesWell (columns_at config.tables made.target_table) made.detect_type column
    → gives (record made { detect_expression = column }) ≡ Ok new → Conflicts config (earlier ++ new ∷ [])
conflict_more config earlier made new column are ends table apart linked resolved named is =
    subst (λ n. Conflicts config (earlier ++ n ∷ [])) (same_value (record made { detect_expression = column }) new is) (record {
      each = all_snoc (IsConflict config) earlier (record made { detect_expression = column }) are.each (record {
        source = ends.source;
        target = ends.target;
        linked = linked;
        table = table;
        column = named;
        by_newer_value = newer made.detect_type made.resolve_type resolved;
      });
      apart = pairs_snoc Apart earlier (record made { detect_expression = column }) are.apart apart;
    })

column_on : (config : Config) (earlier : List ConflictDef) (refusal : ConfigRefusal) (made new : ConflictDef) (found : Option (Option ℕ))
    (text : List ℕ) → Conflicts config earlier
    → AreEnds config.groups (record { source = made.source_group; target = made.target_group }) → made.target_table < length config.tables
    → All (λ other. same_three made.source_group made.target_group made.target_table other ≡ false) earlier
    → leads config.links made.source_group made.target_group ≡ true → resolves made.detect_type made.resolve_type ≡ true
    → named_column made.detect_type text config.tables made.target_table ≡ found
    → Is {T = ConflictDef} (elim found [ None ↦ refuses refusal | Some column ↦ gives (record made { detect_expression = column }) ]) new
    → Conflicts config (earlier ++ new ∷ [])
column_on config earlier refusal made new None text are ends table apart linked resolved named is = never _ new is
column_on config earlier refusal made new (Some column) text are ends table apart linked resolved named is =
    conflict_more config earlier made new column are ends table apart linked resolved
    (names_well made.detect_type text config.tables made.target_table column named) is

resolves_on : (config : Config) (earlier : List ConflictDef) (refusal other : ConfigRefusal) (made new : ConflictDef) (text : List ℕ) (b : Bool)
    → Conflicts config earlier
    → AreEnds config.groups (record { source = made.source_group; target = made.target_group }) → made.target_table < length config.tables
    → All (λ other. same_three made.source_group made.target_group made.target_table other ≡ false) earlier
    → leads config.links made.source_group made.target_group ≡ true → resolves made.detect_type made.resolve_type ≡ b
    → Is {T = ConflictDef} (cond b (elim (named_column made.detect_type text config.tables made.target_table) [
      | None ↦ refuses refusal
      | Some column ↦ gives (record made { detect_expression = column })
    ]) (refuses other)) new → Conflicts config (earlier ++ new ∷ [])
resolves_on config earlier refusal other made new text true are ends table apart linked resolved is =
    column_on config earlier refusal made new (named_column made.detect_type text config.tables made.target_table) text are ends table apart linked resolved refl is
resolves_on config earlier refusal other made new text false are ends table apart linked resolved is = never _ new is

leads_on : (config : Config) (earlier : List ConflictDef) (refusal other last : ConfigRefusal) (made new : ConflictDef) (text : List ℕ) (b : Bool)
    → Conflicts config earlier
    → AreEnds config.groups (record { source = made.source_group; target = made.target_group }) → made.target_table < length config.tables
    → All (λ other. same_three made.source_group made.target_group made.target_table other ≡ false) earlier
    → leads config.links made.source_group made.target_group ≡ b
    → Is {T = ConflictDef} (cond b (cond (resolves made.detect_type made.resolve_type) (elim (named_column made.detect_type text config.tables made.target_table) [
      | None ↦ refuses refusal
      | Some column ↦ gives (record made { detect_expression = column })
    ]) (refuses other)) (refuses last)) new → Conflicts config (earlier ++ new ∷ [])
leads_on config earlier refusal other last made new text true are ends table apart linked is =
    resolves_on config earlier refusal other made new text (resolves made.detect_type made.resolve_type) are ends table apart linked refl is
leads_on config earlier refusal other last made new text false are ends table apart linked is = never _ new is

conflict_on : (config : Config) (earlier : List ConflictDef) (refusal other last first : ConfigRefusal) (made new : ConflictDef) (text : List ℕ) (b : Bool)
    → Conflicts config earlier
    → AreEnds config.groups (record { source = made.source_group; target = made.target_group }) → made.target_table < length config.tables
    → (b ≡ false → All (λ other. same_three made.source_group made.target_group made.target_table other ≡ false) earlier)
    → Is {T = ConflictDef} (cond b (refuses first) (cond (leads config.links made.source_group made.target_group)
    (cond (resolves made.detect_type made.resolve_type) (elim (named_column made.detect_type text config.tables made.target_table) [
      | None ↦ refuses refusal
      | Some column ↦ gives (record made { detect_expression = column })
    ]) (refuses other)) (refuses last))) new → Conflicts config (earlier ++ new ∷ [])
conflict_on config earlier refusal other last first made new text true are ends table apart is = never _ new is
conflict_on config earlier refusal other last first made new text false are ends table apart is =
    leads_on config earlier refusal other last made new text (leads config.links made.source_group made.target_group) are ends table (apart refl) refl is

conflicts_keep : (config : Config) → Keeps config conflict_of (Conflicts config)
conflicts_keep config earlier entry at new are is =
    gave (only_keys conflict_keys entry at) _ new is (λ unit listed is.
    gave (ends_at config.groups entry at) _ new is (λ ends ends_is is.
    gave (place_at (λ table. table.name) config.tables entry at (codes "target_table")) _ new is (λ table table_is is.
    gave (detect_at entry at) _ new is (λ detect detect_is is.
    gave (resolve_at entry at) _ new is (λ resolve resolve_is is.
    conflict_on config earlier (BadSetting (chars at)) (BadSetting (chars at)) (NoLink (chars at)) (Duplicate (chars at)) (record {
      source_group = ends.source;
      target_group = ends.target;
      target_table = table;
      detect_type = detect.detect_type;
      detect_expression = None;
      resolve_type = resolve.resolve_type;
      resolve_row_only = resolve.row_only;
    }) new detect.text (list_any (same_three ends.source ends.target table) earlier) are (ends_given config.groups entry at ends ends_is)
    (place_given (λ def. def.name) config.tables entry at (codes "target_table") table table_is)
    (λ none. none_passes (same_three ends.source ends.target table) earlier none) is)))))

pub conflicts_kept : (config : Config) (file : Members) (conflicts : List ConflictDef)
    → section_of conflict_of 256 (codes "conflict") config file ≡ Ok conflicts → IsKept (Conflicts config) 256 conflicts
conflicts_kept config file conflicts is =
    section_kept config conflict_of (Conflicts config) (conflicts_keep config) 256 (codes "conflict") file conflicts (no_conflicts config) is
