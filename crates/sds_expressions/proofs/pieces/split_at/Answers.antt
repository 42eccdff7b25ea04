use Rattle.sds_expressions.proofs.Fronts.{pieces_are}
use Rattle.sds_expressions.proofs.pieces.split_at.Goals as goal

pub returns-clause-pieces : goal.returns-clause-pieces
returns-clause-pieces c = pieces_are c.args.mark c.args.text.now c.split_once.result (c.split_once.ensures.byte c.requires (λ w o h. h))
