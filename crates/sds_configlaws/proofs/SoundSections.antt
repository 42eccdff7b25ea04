-- The groups, links and channels of a file are sound.
use Rattle.std.proofs.Common.{◌≡◌, ◌≢◌, ℕ, ◌<◌, ◌≤◌, Bool, true, false, cond, List, [], ◌∷◌, ◌++◌, length, Result, Ok, Err, refl, subst, All, AllPairs}
use Rattle.std.specs.Bool.{IsTrue}
use Rattle.std.specs.Prelude.{codes, if◌then◌else◌}
use Rattle.std.specs.Str.{chars}
use Rattle.std.proofs.lemmas.List.Elements.{All-nil}
use Rattle.toml.specs.Data.{Members}
use Rattle.sds_types.specs.declared.channel.Algorithm.{Algorithm}
use Rattle.sds_types.specs.declared.channel.ChannelDef.{ChannelDef}
use Rattle.sds_types.specs.declared.config.Config.{Config}
use Rattle.sds_types.specs.declared.config_refusal.ConfigRefusal.{ConfigRefusal}
use Rattle.sds_types.specs.declared.config_refusal.ConfigRefusal.TheVariants.{Duplicate}
use Rattle.sds_types.specs.declared.link.Action.{Action}
use Rattle.sds_types.specs.declared.link.LinkDef.{LinkDef}
use Rattle.sds_trade.specs.sound.Sections.{AreGroups, AreLinks, AreChannels, IsChannel, lead_alike}
use Rattle.sds_value.specs.Names.{is_name_text}
use Rattle.sds_config.specs.Channels.{channel_of, channel_keys}
use Rattle.sds_config.specs.Fields.{id_at, number_at, only_keys, place_at, word_at}
use Rattle.sds_config.specs.Groups.{group_of}
use Rattle.sds_config.specs.Links.{leads, link_of}
use Rattle.sds_config.specs.Refusals.{and_then}
use Rattle.sds_config.specs.Sections.{section_of}
use Rattle.sds_config.specs.Words.{action_of, algorithm_of}
use Rattle.sds_configlaws.proofs.Gave.{Answer, Is, gives, refuses, gave, same_value, never, all_snoc, pairs_snoc, no_pairs, none_passes, IsNew, new_given, place_given, IsWithin, number_given}
use Rattle.sds_configlaws.proofs.Kept.{Keeps, IsKept, section_kept}

-- GROUPS
abbrev Named : List ℕ → Type 0
Named group = IsTrue (is_name_text group)

abbrev Apart : List ℕ → List ℕ → Type 0
Apart a b = a ≢ b

pub record Groups (groups : List (List ℕ)) : Type 0 where
  pub named : All Named groups
  pub apart : AllPairs Apart groups

no_groups : Groups []
no_groups = record { named = All-nil Named; apart = no_pairs Apart }

group_more : (earlier : List (List ℕ)) (new : List ℕ) → Groups earlier → IsNew (λ name. name) earlier new → Groups (earlier ++ new ∷ [])
group_more earlier new are is = record {
  named = all_snoc Named earlier new are.named is.named;
  apart = pairs_snoc Apart earlier new are.apart is.apart;
}

groups_keep : (config : Config) → Keeps config group_of Groups
groups_keep config earlier entry at new are is = gave (only_keys (codes "id" ∷ []) entry at) _ new is (λ unit listed rest.
    group_more earlier new are (new_given (λ name. name) earlier entry at (codes "id") new rest))

pub groups_sound : (config : Config) (file : Members) (groups : List (List ℕ)) → section_of group_of 32 (codes "group") config file ≡ Ok groups → AreGroups groups
groups_sound config file groups is =
    let kept : IsKept Groups 32 groups = section_kept config group_of Groups (groups_keep config) 32 (codes "group") file groups no_groups is in
    record { few = kept.few; named = kept.what.named; apart = kept.what.apart }

-- LINKS
abbrev Source : List (List ℕ) → LinkDef → Type 0
Source groups link = link.source < length groups

abbrev Target : List (List ℕ) → LinkDef → Type 0
Target groups link = link.target < length groups

abbrev LeadApart : LinkDef → LinkDef → Type 0
LeadApart a b = lead_alike a b ≡ false

pub record Links (groups : List (List ℕ)) (links : List LinkDef) : Type 0 where
  pub source : All (Source groups) links
  pub target : All (Target groups) links
  pub apart : AllPairs LeadApart links

no_links : (groups : List (List ℕ)) → Links groups []
no_links groups = record { source = All-nil (Source groups); target = All-nil (Target groups); apart = no_pairs LeadApart }

link_on : (groups : List (List ℕ)) (earlier : List LinkDef) (refusal : ConfigRefusal) (made new : LinkDef) (b : Bool)
    → Links groups earlier → made.source < length groups → made.target < length groups
    → leads earlier made.source made.target ≡ b → Is (cond b (refuses refusal) (gives made)) new → Links groups (earlier ++ new ∷ [])
link_on groups earlier refusal made new true are source target leads_so is = never _ new is
link_on groups earlier refusal made new false are source target apart is = subst (λ n. Links groups (earlier ++ n ∷ [])) (same_value made new is) (record {
  source = all_snoc (Source groups) earlier made are.source source;
  target = all_snoc (Target groups) earlier made are.target target;
  apart = pairs_snoc LeadApart earlier made are.apart (none_passes (λ link. lead_alike link made) earlier apart);
})

links_keep : (config : Config) → Keeps config link_of (Links config.groups)
links_keep config earlier entry at new are is =
    gave (only_keys (codes "source" ∷ codes "target" ∷ codes "action" ∷ []) entry at) _ new is (λ unit listed is.
    gave (place_at (λ name. name) config.groups entry at (codes "source")) _ new is (λ source source_is is.
    gave (place_at (λ name. name) config.groups entry at (codes "target")) _ new is (λ target target_is is.
    gave (word_at action_of entry at (codes "action")) _ new is (λ action action_is is.
    link_on config.groups earlier (Duplicate (chars at)) (record { source = source; target = target; action = action }) new (leads earlier source target) are
    (place_given (λ name. name) config.groups entry at (codes "source") source source_is)
    (place_given (λ name. name) config.groups entry at (codes "target") target target_is) refl is))))

pub links_sound : (config : Config) (file : Members) (links : List LinkDef) → section_of link_of 64 (codes "link") config file ≡ Ok links
    → AreLinks config.groups links
links_sound config file links is =
    let kept : IsKept (Links config.groups) 64 links =
    section_kept config link_of (Links config.groups) (links_keep config) 64 (codes "link") file links (no_links config.groups) is in
    record { few = kept.few; source = kept.what.source; target = kept.what.target; apart = kept.what.apart }

-- CHANNELS
abbrev ChannelsApart : ChannelDef → ChannelDef → Type 0
ChannelsApart a b = a.id ≢ b.id

pub record Channels (channels : List ChannelDef) : Type 0 where
  pub each : All IsChannel channels
  pub apart : AllPairs ChannelsApart channels

no_channels : Channels []
no_channels = record { each = All-nil IsChannel; apart = no_pairs ChannelsApart }

channel_more : (earlier : List ChannelDef) (made new : ChannelDef) → Channels earlier → IsNew (λ channel. channel.id) earlier made.id
    → IsWithin 0 1000000 made.processing_order → IsWithin 1 10000 made.max_batch_size → IsWithin 1 10000 made.max_batch_to_send
    → gives made ≡ Ok new → Channels (earlier ++ new ∷ [])
channel_more earlier made new are id order size send is = subst (λ n. Channels (earlier ++ n ∷ [])) (same_value made new is) (record {
  each = all_snoc IsChannel earlier made are.each (record {
    named = id.named;
    order = order.few;
    size = size.enough;
    size_end = size.few;
    count = send.enough;
    count_end = send.few;
  });
  apart = pairs_snoc ChannelsApart earlier made are.apart id.apart;
})

channels_keep : (config : Config) → Keeps config channel_of Channels
channels_keep config earlier entry at new are is =
    gave (only_keys channel_keys entry at) _ new is (λ unit listed is.
    gave (id_at (λ channel. channel.id) earlier entry at (codes "id")) _ new is (λ id id_is is.
    gave (number_at 0 1000000 entry at (codes "processing_order")) _ new is (λ order order_is is.
    gave (number_at 1 10000 entry at (codes "max_batch_size")) _ new is (λ size size_is is.
    gave (number_at 1 10000 entry at (codes "max_batch_to_send")) _ new is (λ send send_is is.
    gave (word_at algorithm_of entry at (codes "batch_algorithm")) _ new is (λ algorithm algorithm_is is.
    channel_more earlier (record { id = id; processing_order = order; max_batch_size = size; max_batch_to_send = send; batch_algorithm = algorithm }) new are
    (new_given (λ channel. channel.id) earlier entry at (codes "id") id id_is)
    (number_given 0 1000000 entry at (codes "processing_order") order order_is)
    (number_given 1 10000 entry at (codes "max_batch_size") size size_is)
    (number_given 1 10000 entry at (codes "max_batch_to_send") send send_is) is))))))

pub channels_sound : (config : Config) (file : Members) (channels : List ChannelDef) → section_of channel_of 32 (codes "channel") config file ≡ Ok channels
    → AreChannels channels
channels_sound config file channels is =
    let kept : IsKept Channels 32 channels = section_kept config channel_of Channels (channels_keep config) 32 (codes "channel") file channels no_channels is in
    record { few = kept.few; each = kept.what.each; apart = kept.what.apart }
