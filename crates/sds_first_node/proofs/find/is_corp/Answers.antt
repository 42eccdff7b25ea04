use Rattle.std.proofs.Common.{◌≡◌, codes, refl, ap, ◌∙◌}
use Rattle.std.specs.Str.{bytes_eq, chars}
use Rattle.sds_first_node.proofs.find.is_corp.Goals as goal

spelt : chars (codes "corp") ≡ codes "corp"
unfolding chars
spelt = refl

pub returns : goal.returns
returns c = c.is.ensures ∙ ap (bytes_eq c.args.group.now) spelt
