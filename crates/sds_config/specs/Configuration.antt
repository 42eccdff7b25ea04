-- The configuration that a file writes, or the first refusal in the order of the file's rules.
use Rattle.std.specs.Prelude.{◌≡◌, ◌≤◌, ◌<◌, ◌^◌, ◌⊎◌, ℕ, List, [], ◌∷◌, length, codes, Some, Result, Ok, Err}
use Rattle.std.specs.Str.{chars, IsUtf8}
use Rattle.toml.specs.Data.{Members}
use Rattle.toml.specs.Parse.{parse_document}
use Rattle.sds_types.specs.declared.config.Config.{Config}
use Rattle.sds_types.specs.declared.config_refusal.ConfigRefusal.{ConfigRefusal}
use Rattle.sds_types.specs.declared.config_refusal.ConfigRefusal.TheVariants.{NotToml, TooMany}
use Rattle.sds_config.specs.Positions.{IsPosition}
use Rattle.sds_config.specs.Refusals.{and_then}
use Rattle.sds_config.specs.Fields.{only_keys, number_at}
use Rattle.sds_config.specs.Sections.{section_of}
use Rattle.sds_config.specs.Groups.{group_of}
use Rattle.sds_config.specs.Links.{link_of}
use Rattle.sds_config.specs.Channels.{channel_of}
use Rattle.sds_config.specs.TableEntries.{table_of}
use Rattle.sds_config.specs.Triggers.{trigger_of}
use Rattle.sds_config.specs.Routers.{router_of}
use Rattle.sds_config.specs.TriggerRouters.{trigger_router_of}
use Rattle.sds_config.specs.Transforms.{transform_of}
use Rattle.sds_config.specs.Conflicts.{conflict_of}

-- a configuration before its first section is read
abbrev pub empty : Config
empty = record { groups = []; links = []; channels = []; tables = []; triggers = []; routers = []; trigger_routers = []; transforms = []; conflicts = [] }

-- a configuration and one section more
abbrev pub with_groups : Members → Config → Result Config ConfigRefusal
with_groups file config = and_then (section_of group_of 32 (codes "group") config file) (λ groups. Ok (record config { groups = groups }))

abbrev pub with_links : Members → Config → Result Config ConfigRefusal
with_links file config = and_then (section_of link_of 64 (codes "link") config file) (λ links. Ok (record config { links = links }))

abbrev pub with_channels : Members → Config → Result Config ConfigRefusal
with_channels file config = and_then (section_of channel_of 32 (codes "channel") config file) (λ channels. Ok (record config { channels = channels }))

abbrev pub with_tables : Members → Config → Result Config ConfigRefusal
with_tables file config = and_then (section_of table_of 64 (codes "table") config file) (λ tables. Ok (record config { tables = tables }))

abbrev pub with_triggers : Members → Config → Result Config ConfigRefusal
with_triggers file config = and_then (section_of trigger_of 64 (codes "trigger") config file) (λ triggers. Ok (record config { triggers = triggers }))

abbrev pub with_routers : Members → Config → Result Config ConfigRefusal
with_routers file config = and_then (section_of router_of 256 (codes "router") config file) (λ routers. Ok (record config { routers = routers }))

abbrev pub with_trigger_routers : Members → Config → Result Config ConfigRefusal
with_trigger_routers file config = and_then (section_of trigger_router_of 1024 (codes "trigger_router") config file)
    (λ pairs. Ok (record config { trigger_routers = pairs }))

abbrev pub with_transforms : Members → Config → Result Config ConfigRefusal
with_transforms file config = and_then (section_of transform_of 256 (codes "transform") config file)
    (λ transforms. Ok (record config { transforms = transforms }))

abbrev pub with_conflicts : Members → Config → Result Config ConfigRefusal
with_conflicts file config = and_then (section_of conflict_of 256 (codes "conflict") config file) (λ conflicts. Ok (record config { conflicts = conflicts }))

-- the keys of the top
abbrev pub file_keys : List (List ℕ)
file_keys = codes "version" ∷ codes "group" ∷ codes "link" ∷ codes "channel" ∷ codes "table" ∷ codes "trigger" ∷ codes "router" ∷ codes "trigger_router" ∷ codes "transform" ∷ codes "conflict" ∷ []

-- the sections up to the tables
abbrev pub up_to_tables : Members → Result Config ConfigRefusal
up_to_tables file =
    and_then (with_groups file empty) (λ config.
    and_then (with_links file config) (λ config.
    and_then (with_channels file config) (λ config.
    with_tables file config)))

-- and those after them
abbrev pub up_to_pairs : Members → Result Config ConfigRefusal
up_to_pairs file =
    and_then (up_to_tables file) (λ config.
    and_then (with_triggers file config) (λ config.
    and_then (with_routers file config) (λ config.
    with_trigger_routers file config)))

abbrev pub all_sections : Members → Result Config ConfigRefusal
all_sections file =
    and_then (up_to_pairs file) (λ config.
    and_then (with_transforms file config) (λ config.
    with_conflicts file config))

-- the configuration of a tree: the version is 1, no key is unlisted, and then section after section
abbrev pub config_of : Members → Result Config ConfigRefusal
config_of file =
    and_then (number_at 1 1 file [] (codes "version")) (λ version.
    and_then (only_keys file_keys file []) (λ _.
    all_sections file))

-- the text is UTF-8 and writes this tree
abbrev pub IsTree : List ℕ → Members → Type 0
IsTree text tree = IsUtf8 text × (parse_document text ≡ Some tree)

-- a file has at most 1 MiB
abbrev pub most_bytes : ℕ
most_bytes = 2 ^ 20

-- the file writes this configuration
abbrev pub IsConfiguration : List ℕ → Config → Type 0
IsConfiguration text config = (length text ≤ most_bytes) × ((tree : Members) × IsTree text tree × (config_of tree ≡ Ok config))

-- this is the first refusal of the file: it is too long, or it is no TOML in UTF-8, or its tree is refused so
abbrev pub IsTooLong : List ℕ → ConfigRefusal → Type 0
IsTooLong text refusal = (most_bytes < length text) × (refusal ≡ TooMany (chars (codes "file")))

-- where the reading of TOML stopped is a place of the text, which no definition of TOML settles
abbrev pub IsNotToml : List ℕ → ConfigRefusal → Type 0
IsNotToml text refusal = (length text ≤ most_bytes) × ((tree : Members) → ¬ (IsTree text tree))
    × ((line : ℕ) × ((column : ℕ) × (IsPosition text line column × (refusal ≡ NotToml line column))))

abbrev pub IsRefusedTree : List ℕ → ConfigRefusal → Type 0
IsRefusedTree text refusal = (length text ≤ most_bytes) × ((tree : Members) × IsTree text tree × (config_of tree ≡ Err refusal))

abbrev pub IsFirstRefusal : List ℕ → ConfigRefusal → Type 0
IsFirstRefusal text refusal = IsTooLong text refusal ⊎ (IsNotToml text refusal ⊎ IsRefusedTree text refusal)

-- a refusal without the place at which the reading of TOML stopped
abbrev pub without_place : ConfigRefusal → ConfigRefusal
without_place (NotToml line column) = NotToml 1 1
without_place refusal = refusal
