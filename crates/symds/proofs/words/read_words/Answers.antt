use Rattle.std.proofs.Common.{◌≡◌, ap, ◌∙◌, map, List, ℕ}
use Rattle.std.specs.Borrow.{Bor}
use Rattle.symds.specs.Words.{words_refusal_of}
use Rattle.symds.proofs.Ordering.{order_read, refusal_read, fault_read}
use Rattle.symds.proofs.words.read_words.Goals as goal

abbrev texts : List (Bor (List ℕ)) → List (List ℕ)
texts items = map (λ text. text.now) items

pub returns-in-Ok-read_matches-clause-order : goal.returns-in-Ok-read_matches-clause-order
returns-in-Ok-read_matches-clause-order c = order_read c.args.words.now (texts c.as_slice.result.now) _ c.order_of.result (ap texts c.as_slice.ensures.value ∙ c.in-Ok.ensures)
    c.in-Ok-read_matches.ensures.matches c.in-Ok-read_matches.ensures.refused c.order_of.ensures.order

pub returns-in-Ok-read_matches-clause-refused : goal.returns-in-Ok-read_matches-clause-refused
returns-in-Ok-read_matches-clause-refused c = refusal_read c.args.words.now (texts c.as_slice.result.now) _ c.order_of.result (ap texts c.as_slice.ensures.value ∙ c.in-Ok.ensures)
    c.in-Ok-read_matches.ensures.matches c.in-Ok-read_matches.ensures.refused c.order_of.ensures.refused

pub returns-clause-refused : goal.returns-clause-refused
returns-clause-refused c = fault_read c.args.words.now (texts c.as_slice.result.now) _ c.refusal_of.result (ap texts c.as_slice.ensures.value ∙ c.in-Ok.ensures)
    c.in-Err.ensures.refused (c.refusal_of.ensures ∙ ap words_refusal_of c.kind.ensures)
