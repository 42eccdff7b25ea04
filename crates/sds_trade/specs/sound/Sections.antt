-- Of a sound configuration: its groups, links and channels.
use Rattle.std.specs.Prelude.{◌≡◌, ◌≢◌, ℕ, ◌<◌, ◌≤◌, Bool, false, ◌&&◌, ◌==◌, IsTrue, List, length}
use Rattle.std.specs.List.{All, AllPairs, list_any}
use Rattle.sds_value.specs.Names.{is_name_text}
use Rattle.sds_types.specs.Limits.{most_groups, most_links, most_channels, most_processing_order, most_batch_size}
use Rattle.sds_types.specs.declared.channel.ChannelDef.{ChannelDef}
use Rattle.sds_types.specs.declared.link.LinkDef.{LinkDef}

-- groups are named, each by another name, and there are few enough
pub record AreGroups (groups : List (List ℕ)) : Type 0 where
  pub few : length groups ≤ most_groups
  pub named : All (λ (group : List ℕ). IsTrue (is_name_text group)) groups
  pub apart : AllPairs (λ (a b : List ℕ). a ≢ b) groups

-- two links lead from one group to one group
abbrev pub lead_alike : LinkDef → LinkDef → Bool
lead_alike a b = a.source == b.source && a.target == b.target

-- links lead between groups that are there, and no two lead from one group to one group
pub record AreLinks (groups : List (List ℕ)) (links : List LinkDef) : Type 0 where
  pub few : length links ≤ most_links
  pub source : All (λ (link : LinkDef). link.source < length groups) links
  pub target : All (λ (link : LinkDef). link.target < length groups) links
  pub apart : AllPairs (λ (a b : LinkDef). lead_alike a b ≡ false) links

-- a link leads from the one group to the other
abbrev pub leads : List LinkDef → ℕ → ℕ → Bool
leads links source target =
    list_any (λ (link : LinkDef). link.source == source && link.target == target) links

-- the numbers of a channel lie in their ranges
pub record IsChannel (channel : ChannelDef) : Type 0 where
  pub named : IsTrue (is_name_text channel.id)
  pub order : channel.processing_order ≤ most_processing_order
  pub size : 1 ≤ channel.max_batch_size
  pub size_end : channel.max_batch_size ≤ most_batch_size
  pub count : 1 ≤ channel.max_batch_to_send
  pub count_end : channel.max_batch_to_send ≤ most_batch_size

pub record AreChannels (channels : List ChannelDef) : Type 0 where
  pub few : length channels ≤ most_channels
  pub each : All IsChannel channels
  pub apart : AllPairs (λ (a b : ChannelDef). a.id ≢ b.id) channels
