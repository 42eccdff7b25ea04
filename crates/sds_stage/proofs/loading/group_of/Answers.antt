use Rattle.std.proofs.Common.{◌∙◌, sym, ap}
use Rattle.std.proofs.lemmas.Str.{chars-nil}
use Rattle.std.specs.Option.{option_copied}
use Rattle.std.specs.Str.{chars}
use Rattle.sds_history.specs.history.Peers.{kept_peer}
use Rattle.sds_node.specs.Meaning.{has}
use Rattle.sds_stage.proofs.Loaded.{group_unknown}
use Rattle.sds_stage.proofs.loading.group_of.Goals as goal

pub returns-in-None : goal.returns-in-None
returns-in-None c =
    group_unknown c.copied.result (kept_peer (has c.args.node.now).peers (chars c.args.peer.now)) _ (sym c.peer.ensures ∙ ap option_copied c.in-None.is) c.copied.ensures chars-nil
