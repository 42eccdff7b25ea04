-- Every configuration that a file writes is sound, and its transforms have few columns for keys.
use Rattle.std.proofs.Common.{◌≡◌, ℕ, List, [], All, sym, subst}
use Rattle.std.specs.Prelude.{codes}
use Rattle.toml.specs.Data.{Members}
use Rattle.sds_doclaws.specs.Writable.{HasFewKeys}
use Rattle.sds_trade.specs.rules.Sound.{IsSound}
use Rattle.sds_trade.specs.sound.Conflicts.{IsConflict}
use Rattle.sds_trade.specs.sound.Routers.{IsRouter}
use Rattle.sds_trade.specs.sound.Sections.{AreChannels, AreGroups, AreLinks}
use Rattle.sds_trade.specs.sound.Tables.{AreTableDefs}
use Rattle.sds_trade.specs.sound.Transforms.{IsTransform}
use Rattle.sds_trade.specs.sound.Triggers.{IsTrigger, IsTriggerRouter}
use Rattle.sds_types.specs.declared.channel.ChannelDef.{ChannelDef}
use Rattle.sds_types.specs.declared.config.Config.{Config}
use Rattle.sds_types.specs.declared.conflict.ConflictDef.{ConflictDef}
use Rattle.sds_types.specs.declared.link.LinkDef.{LinkDef}
use Rattle.sds_types.specs.declared.router.RouterDef.{RouterDef}
use Rattle.sds_types.specs.declared.transform.TransformDef.{TransformDef}
use Rattle.sds_types.specs.declared.trigger.TriggerDef.{TriggerDef}
use Rattle.sds_types.specs.declared.trigger.TriggerRouterDef.{TriggerRouterDef}
use Rattle.sds_value.specs.declared.table.TableDef.{TableDef}
use Rattle.sds_config.specs.Channels.{channel_of}
use Rattle.sds_config.specs.Configuration.{IsConfiguration, all_sections, config_of, empty, file_keys, up_to_pairs, up_to_tables, with_conflicts, with_routers, with_transforms, with_trigger_routers, with_triggers}
use Rattle.sds_config.specs.Conflicts.{conflict_of}
use Rattle.sds_config.specs.Fields.{number_at, only_keys}
use Rattle.sds_config.specs.Groups.{group_of}
use Rattle.sds_config.specs.Links.{link_of}
use Rattle.sds_config.specs.Refusals.{and_then}
use Rattle.sds_config.specs.Routers.{router_of}
use Rattle.sds_config.specs.Sections.{section_of}
use Rattle.sds_config.specs.TableEntries.{table_of}
use Rattle.sds_config.specs.Transforms.{transform_of}
use Rattle.sds_config.specs.TriggerRouters.{trigger_router_of}
use Rattle.sds_config.specs.Triggers.{trigger_of}
use Rattle.sds_configlaws.proofs.Gave.{Answer, gives, gave, same_value, all_mapped}
use Rattle.sds_configlaws.proofs.Kept.{IsKept}
use Rattle.sds_configlaws.proofs.SoundConflicts.{Conflicts, conflicts_kept}
use Rattle.sds_configlaws.proofs.SoundRouters.{Routers, routers_kept}
use Rattle.sds_configlaws.proofs.SoundSections.{channels_sound, groups_sound, links_sound}
use Rattle.sds_configlaws.proofs.SoundTables.{Tables, tables_kept}
use Rattle.sds_configlaws.proofs.SoundTransforms.{Transforms, transforms_kept}
use Rattle.sds_configlaws.proofs.SoundTriggers.{Pairs, Triggers, pairs_kept, triggers_kept}

-- a configuration of these sections
abbrev of : List (List ℕ) → List LinkDef → List ChannelDef → List TableDef → List TriggerDef → List RouterDef → List TriggerRouterDef
    → List TransformDef → List ConflictDef → Config
of groups links channels tables triggers routers pairs transforms conflicts = record {
  groups = groups;
  links = links;
  channels = channels;
  tables = tables;
  triggers = triggers;
  routers = routers;
  trigger_routers = pairs;
  transforms = transforms;
  conflicts = conflicts;
}

-- a section is read, and the configuration with it goes on
section : {E G : Type 0} (read : Answer (List E)) (put : List E → Config) (next : Config → Answer Config) (config : Config)
    → and_then (and_then read (λ entries. gives (put entries))) next ≡ gives config
    → ((entries : List E) → read ≡ gives entries → next (put entries) ≡ gives config → G) → G
section read put next config is follows =
    gave (and_then read (λ entries. gives (put entries))) next config is (λ middle middle_is rest.
    gave read (λ entries. gives (put entries)) middle middle_is (λ entries entries_is made.
    follows entries entries_is (subst (λ c. next c ≡ gives config) (sym (same_value (put entries) middle made)) rest)))

-- the last section
last : {E G : Type 0} (read : Answer (List E)) (put : List E → Config) (config : Config) → and_then read (λ entries. gives (put entries)) ≡ gives config
    → ((entries : List E) → read ≡ gives entries → put entries ≡ config → G) → G
last read put config is follows = gave read (λ entries. gives (put entries)) config is (λ entries entries_is made.
    follows entries entries_is (same_value (put entries) config made))

table_defs : (tables : List TableDef) → IsKept Tables 64 tables → AreTableDefs tables
table_defs tables kept = record {
  few = kept.few;
  named = kept.what.named;
  apart = kept.what.apart;
  columns = kept.what.columns;
  keys = kept.what.keys;
  references = kept.what.references;
}

-- UP TO THE TABLES
record ToTables (config : Config) : Type 0 where
  groups : List (List ℕ)
  links : List LinkDef
  channels : List ChannelDef
  tables : List TableDef
  same : of groups links channels tables [] [] [] [] [] ≡ config
  are_groups : AreGroups groups
  are_links : AreLinks groups links
  are_channels : AreChannels channels
  are_tables : AreTableDefs tables

to_tables : (file : Members) (config : Config) → up_to_tables file ≡ gives config → ToTables config
to_tables file config is =
    section (section_of group_of 32 (codes "group") empty file) (λ groups. of groups [] [] [] [] [] [] [] []) _ config is (λ groups groups_is is.
    section (section_of link_of 64 (codes "link") (of groups [] [] [] [] [] [] [] []) file) (λ links. of groups links [] [] [] [] [] [] []) _ config is
    (λ links links_is is.
    section (section_of channel_of 32 (codes "channel") (of groups links [] [] [] [] [] [] []) file) (λ channels. of groups links channels [] [] [] [] [] [])
    _ config is (λ channels channels_is is.
    last (section_of table_of 64 (codes "table") (of groups links channels [] [] [] [] [] []) file) (λ tables. of groups links channels tables [] [] [] [] [])
    config is (λ tables tables_is same. record {
      groups = groups;
      links = links;
      channels = channels;
      tables = tables;
      same = same;
      are_groups = groups_sound empty file groups groups_is;
      are_links = links_sound (of groups [] [] [] [] [] [] [] []) file links links_is;
      are_channels = channels_sound (of groups links [] [] [] [] [] [] []) file channels channels_is;
      are_tables = table_defs tables (tables_kept (of groups links channels [] [] [] [] [] []) file tables tables_is);
    }))))

-- UP TO THE PAIRS
record ToPairs (config : Config) : Type 0 where
  before : Config
  first : ToTables before
  triggers : List TriggerDef
  routers : List RouterDef
  pairs : List TriggerRouterDef
  same : of first.groups first.links first.channels first.tables triggers routers pairs [] [] ≡ config
  are_triggers : IsKept (Triggers (of first.groups first.links first.channels first.tables [] [] [] [] [])) 64 triggers
  are_routers : IsKept (Routers (of first.groups first.links first.channels first.tables triggers [] [] [] [])) 256 routers
  are_pairs : IsKept (Pairs (of first.groups first.links first.channels first.tables triggers routers [] [] [])) 1024 pairs

to_pairs : (file : Members) (config : Config) → up_to_pairs file ≡ gives config → ToPairs config
to_pairs file config is =
    gave (up_to_tables file) _ config is (λ before before_is is.
    let first : ToTables before = to_tables file before before_is in
    let start : Config = of first.groups first.links first.channels first.tables [] [] [] [] [] in
    section (section_of trigger_of 64 (codes "trigger") start file)
    (λ triggers. of first.groups first.links first.channels first.tables triggers [] [] [] []) _ config
    (subst (λ c. and_then (with_triggers file c) (λ c. and_then (with_routers file c) (λ c. with_trigger_routers file c)) ≡ gives config) (sym first.same) is)
    (λ triggers triggers_is is.
    section (section_of router_of 256 (codes "router") (of first.groups first.links first.channels first.tables triggers [] [] [] []) file)
    (λ routers. of first.groups first.links first.channels first.tables triggers routers [] [] []) _ config is (λ routers routers_is is.
    last (section_of trigger_router_of 1024 (codes "trigger_router") (of first.groups first.links first.channels first.tables triggers routers [] [] []) file)
    (λ pairs. of first.groups first.links first.channels first.tables triggers routers pairs [] []) config is (λ pairs pairs_is same. record {
      before = before;
      first = first;
      triggers = triggers;
      routers = routers;
      pairs = pairs;
      same = same;
      are_triggers = triggers_kept start file triggers triggers_is;
      are_routers = routers_kept (of first.groups first.links first.channels first.tables triggers [] [] [] []) file routers routers_is;
      are_pairs = pairs_kept (of first.groups first.links first.channels first.tables triggers routers [] [] []) file pairs pairs_is;
    }))))

-- THE WHOLE. What was kept beside the sections read so far holds beside all of them
whole : (before : Config) (first : ToTables before) (triggers : List TriggerDef) (routers : List RouterDef) (pairs : List TriggerRouterDef)
    (transforms : List TransformDef) (conflicts : List ConflictDef)
    → IsKept (Triggers (of first.groups first.links first.channels first.tables [] [] [] [] [])) 64 triggers
    → IsKept (Routers (of first.groups first.links first.channels first.tables triggers [] [] [] [])) 256 routers
    → IsKept (Pairs (of first.groups first.links first.channels first.tables triggers routers [] [] [])) 1024 pairs
    → IsKept (Transforms (of first.groups first.links first.channels first.tables triggers routers pairs [] [])) 256 transforms
    → IsKept (Conflicts (of first.groups first.links first.channels first.tables triggers routers pairs transforms [])) 256 conflicts
    → IsSound (of first.groups first.links first.channels first.tables triggers routers pairs transforms conflicts)
whole before first triggers routers pairs transforms conflicts are_triggers are_routers are_pairs are_transforms are_conflicts =
    let config : Config = of first.groups first.links first.channels first.tables triggers routers pairs transforms conflicts in
    record {
      groups = first.are_groups;
      links = first.are_links;
      channels = first.are_channels;
      tables = first.are_tables;
      triggers = record {
        few = are_triggers.few;
        each = all_mapped (IsTrigger (of first.groups first.links first.channels first.tables [] [] [] [] [])) (IsTrigger config) triggers
            (λ trigger is. record { named = is.named; table = is.table; channel = is.channel }) are_triggers.what.each;
        apart = are_triggers.what.apart;
        single = are_triggers.what.single;
      };
      routers = record {
        few = are_routers.few;
        each = all_mapped (IsRouter (of first.groups first.links first.channels first.tables triggers [] [] [] [])) (IsRouter config) routers
            (λ router is. record {
              named = is.named;
              source = is.source;
              target = is.target;
              linked = is.linked;
              parsed = is.parsed;
              known = is.known;
            }) are_routers.what.each;
        apart = are_routers.what.apart;
      };
      trigger_routers = record {
        few = are_pairs.few;
        each = all_mapped (IsTriggerRouter (of first.groups first.links first.channels first.tables triggers routers [] [] [])) (IsTriggerRouter config) pairs
            (λ pair is. record { trigger = is.trigger; router = is.router }) are_pairs.what.each;
        apart = are_pairs.what.apart;
      };
      transforms = record {
        few = are_transforms.few;
        each = all_mapped (IsTransform (of first.groups first.links first.channels first.tables triggers routers pairs [] [])) (IsTransform config) transforms
            (λ transform is. record {
              named = is.named;
              source = is.source;
              target = is.target;
              linked = is.linked;
              source_name = is.source_name;
              target_name = is.target_name;
              few = is.few;
              apart = is.apart;
              table = is.table;
            }) are_transforms.what.each;
        apart = are_transforms.what.apart;
      };
      conflicts = record {
        few = are_conflicts.few;
        each = all_mapped (IsConflict (of first.groups first.links first.channels first.tables triggers routers pairs transforms [])) (IsConflict config) conflicts
            (λ conflict is. record {
              source = is.source;
              target = is.target;
              linked = is.linked;
              table = is.table;
              column = is.column;
              by_newer_value = is.by_newer_value;
            }) are_conflicts.what.each;
        apart = are_conflicts.what.apart;
      };
    }

-- what holds of a configuration that a file writes
record IsWritten (config : Config) : Type 0 where
  sound : IsSound config
  few_keys : All (HasFewKeys config) config.transforms

sections_sound : (file : Members) (config : Config) → all_sections file ≡ gives config → IsWritten config
sections_sound file config is =
    gave (up_to_pairs file) _ config is (λ before before_is is.
    let so_far : ToPairs before = to_pairs file before before_is in
    let first : ToTables so_far.before = so_far.first in
    section (section_of transform_of 256 (codes "transform")
    (of first.groups first.links first.channels first.tables so_far.triggers so_far.routers so_far.pairs [] []) file)
    (λ transforms. of first.groups first.links first.channels first.tables so_far.triggers so_far.routers so_far.pairs transforms []) _ config
    (subst (λ c. and_then (with_transforms file c) (λ c. with_conflicts file c) ≡ gives config) (sym so_far.same) is)
    (λ transforms transforms_is is.
    last (section_of conflict_of 256 (codes "conflict")
    (of first.groups first.links first.channels first.tables so_far.triggers so_far.routers so_far.pairs transforms []) file)
    (λ conflicts. of first.groups first.links first.channels first.tables so_far.triggers so_far.routers so_far.pairs transforms conflicts) config is
    (λ conflicts conflicts_is same.
    let are_transforms : IsKept (Transforms (of first.groups first.links first.channels first.tables so_far.triggers so_far.routers so_far.pairs [] [])) 256
    transforms =
    transforms_kept (of first.groups first.links first.channels first.tables so_far.triggers so_far.routers so_far.pairs [] []) file transforms transforms_is in
    subst IsWritten same (record {
      sound = whole so_far.before first so_far.triggers so_far.routers so_far.pairs transforms conflicts so_far.are_triggers so_far.are_routers
          so_far.are_pairs are_transforms
          (conflicts_kept (of first.groups first.links first.channels first.tables so_far.triggers so_far.routers so_far.pairs transforms []) file conflicts
          conflicts_is);
      few_keys = are_transforms.what.few_keys;
    }))))

tree_sound : (tree : Members) (config : Config) → config_of tree ≡ gives config → IsWritten config
tree_sound tree config is =
    gave (number_at 1 1 tree [] (codes "version")) _ config is (λ version version_is is.
    gave (only_keys file_keys tree []) _ config is (λ unit listed is. sections_sound tree config is))

pub files_are_sound : (file : List ℕ) (config : Config) → IsConfiguration file config → IsSound config
files_are_sound file config (few, (tree, is_tree, answer)) = (tree_sound tree config answer).sound

pub files_have_few_keys : (file : List ℕ) (config : Config) → IsConfiguration file config → All (HasFewKeys config) config.transforms
files_have_few_keys file config (few, (tree, is_tree, answer)) = (tree_sound tree config answer).few_keys
