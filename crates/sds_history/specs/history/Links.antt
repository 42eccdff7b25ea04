-- Which groups are joined by links.
use Rattle.std.specs.Prelude.{ℕ, Bool, true, false, ◌&&◌, ◌||◌, List}
use Rattle.std.specs.List.{list_any}
use Rattle.std.specs.Str.{bytes_eq}
use Rattle.sds_types.specs.declared.config.Config.{Config}
use Rattle.sds_types.specs.declared.link.Action.{Action}
use Rattle.sds_types.specs.declared.link.Action.TheVariants.{P, W}
use Rattle.sds_types.specs.declared.link.LinkDef.{LinkDef}
use Rattle.sds_trade.specs.rules.Places.{group_name}

abbrev pub link_leads : Config → List ℕ → List ℕ → LinkDef → Bool
link_leads config from to link = bytes_eq (group_name config.groups link.source) from
    && bytes_eq (group_name config.groups link.target) to

-- a link leads from one group to another
abbrev pub has_way : Config → List ℕ → List ℕ → Bool
has_way config from to = list_any (link_leads config from to) config.links

-- a link stands between two groups, whichever way it leads
abbrev pub are_linked : Config → List ℕ → List ℕ → Bool
are_linked config a b = has_way config a b || has_way config b a

-- a link pushes, or waits for a pull
abbrev pub pushes : Action → Bool
pushes P = true
pushes W = false

abbrev pub has_push : Config → List ℕ → List ℕ → Bool
has_push config from to =
    list_any (λ (link : LinkDef). pushes link.action && link_leads config from to link) config.links

abbrev pub waits : Action → Bool
waits P = false
waits W = true

abbrev pub has_pull : Config → List ℕ → List ℕ → Bool
has_pull config from to =
    list_any (λ (link : LinkDef). waits link.action && link_leads config from to link) config.links
