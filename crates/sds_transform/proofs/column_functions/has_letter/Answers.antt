use Rattle.std.proofs.Common.{◌≡◌, ◌∙◌, ◌==◌, ℕ, List, ap, rules, tests}
use Rattle.std.proofs.lemmas.Iterator.{YieldsList-from_chars}
use Rattle.std.proofs.lemmas.Iterator.Search.{any_from_yields_List}
use Rattle.std.specs.List.{list_any}
use Rattle.sds_transform.proofs.column_functions.has_letter.Goals as goal

pub returns : goal.returns
returns c =
    any_from_yields_List (λ (other : ℕ). other == c.args.letter) _ _ _ c.any.ensures.ran (YieldsList-from_chars c.as_str.result.now c.as_str.utf8 cc) (λ x b q k. search (rules, tests))
    ∙ ap (λ (text : List ℕ). list_any (λ (other : ℕ). other == c.args.letter) text) c.as_str.ensures.chars
