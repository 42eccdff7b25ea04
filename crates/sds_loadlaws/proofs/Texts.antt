-- Texts that are of characters: those that a program has, and names.
use Rattle.std.proofs.Common.{◌≡◌, ℕ, true, List, sym, ap, ◌∙◌}
use Rattle.std.specs.Str.{IsUtf8, all_scalars, chars}
use Rattle.std.proofs.lemmas.Str.{scalars-chars}
use Rattle.sds_nodelaws.proofs.Lists.{and_both}
use Rattle.sds_imagelaws.proofs.Fields.{name_good}
use Rattle.sds_loadlaws.specs.ReadBatches.{NamedWaysAreSpelt}

pub text_spelt : (bytes text : List ℕ) → IsUtf8 bytes → chars bytes ≡ text → all_scalars text ≡ true
text_spelt bytes text utf8 is = ap all_scalars (sym is) ∙ scalars-chars bytes utf8

pub named_ways_are_spelt : NamedWaysAreSpelt
named_ways_are_spelt way source target = and_both (all_scalars way.source) (all_scalars way.target) (name_good way.source source) (name_good way.target target)
