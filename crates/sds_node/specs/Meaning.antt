-- What a node has, and when it is a node.
use Rattle.std.specs.Prelude.{◌≡◌, true, IfSome}
use Rattle.sds_outside.specs.Keepings.{Keeping}
use Rattle.sds_trade.specs.rules.Sound.{IsSound}
use Rattle.sds_history.specs.history.Acts.{State}
use Rattle.sds_history.specs.history.Image.{image_of}
use Rattle.sds_image.specs.Meaning.{meaning_of}
use Rattle.sds_image.specs.Pairs.{pairs}
use Rattle.sds_commit.specs.Ends.{Fits, Kept}
use Rattle.sds_node.specs.declared.node.Node.{Node}

-- what a node has
abbrev pub has : {K : Type 0} → Node K → State
has node = meaning_of node.state

-- and what its keeper tells
abbrev pub kept_by : {K : Type 0} → (K → Keeping) → Node K → Kept
kept_by keeping node = record { state = has node; told = keeping node.keeper }

-- a node: its configuration and what it has are sound; while it is sure its keeper is open, and the
-- records that are told are the image of what it has
pub record IsNode {K : Type 0} (is_open : K → Type 0) (keeping : K → Keeping)
    (node : Node K) : Type 0 where
  pub config : IsSound node.config
  pub fits : Fits node.config node.state
  pub opened : node.sure ≡ true → is_open node.keeper
  pub told : node.sure ≡ true → IfSome (keeping node.keeper).records
      (λ told. told ≡ pairs (image_of node.config (has node)))
