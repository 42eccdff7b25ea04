use Rattle.std.proofs.Common.{◌≡◌, refl, [], ap, ◌∙◌}
use Rattle.std.specs.Str.{chars}
use Rattle.std.proofs.lemmas.Str.{chars-nil}
use Rattle.sds_first_node.proofs.offering.bare_doc.Goals as goal

pub returns : goal.returns
returns c = let none : c.of.result ≡ [] = c.of.ensures ∙ (ap chars c.new.ensures.bytes ∙ chars-nil) in
    rw (none, c.new-2.ensures, c.new-3.ensures, c.new-4.ensures) refl
