use Rattle.std.proofs.Common.{ap}
use Rattle.sds_image.specs.Reading.{batch_of_part, opening_of_part, peer_of_part, row_of_part}
use Rattle.sds_image.proofs.EarlierParts.{batch_added, opening_added, other_added, peer_added, row_added}
use Rattle.sds_image.proofs.earlier.Earlier.add.Goals as goal

pub returns-in-Peer : goal.returns-in-Peer
returns-in-Peer c = λ before are. peer_added c.args.self.now before c.args.part.now are c.in-Peer.field-0 c.in-Peer.is

pub returns-in-Row : goal.returns-in-Row
returns-in-Row c = λ before are. row_added c.args.self.now before c.args.part.now are c.in-Row.field-0 c.in-Row.is

pub returns-in_ok-push-in-Opening : goal.returns-in_ok-push-in-Opening
returns-in_ok-push-in-Opening c = λ before are. opening_added c.args.self.now before c.args.part.now are _ c.push.new.self c.in-Opening.is c.in_ok-push-in-Opening.ensures.ok

pub returns-in_ok-push-in-Batch : goal.returns-in_ok-push-in-Batch
returns-in_ok-push-in-Batch c = λ before are. batch_added c.args.self.now before c.args.part.now are _ c.push-in-Batch.new.self c.in-Batch.is c.in_ok-push-in-Batch.ensures.ok

pub returns-in-Me : goal.returns-in-Me
returns-in-Me c = λ before are. other_added c.args.self.now before c.args.part.now are (ap peer_of_part c.in-Me.is) (ap row_of_part c.in-Me.is) (ap opening_of_part c.in-Me.is) (ap batch_of_part c.in-Me.is)

pub returns-in-Counts : goal.returns-in-Counts
returns-in-Counts c = λ before are. other_added c.args.self.now before c.args.part.now are (ap peer_of_part c.in-Counts.is) (ap row_of_part c.in-Counts.is) (ap opening_of_part c.in-Counts.is) (ap batch_of_part c.in-Counts.is)

pub returns-in-Writer : goal.returns-in-Writer
returns-in-Writer c = λ before are. other_added c.args.self.now before c.args.part.now are (ap peer_of_part c.in-Writer.is) (ap row_of_part c.in-Writer.is) (ap opening_of_part c.in-Writer.is) (ap batch_of_part c.in-Writer.is)

pub returns-in-Change : goal.returns-in-Change
returns-in-Change c = λ before are. other_added c.args.self.now before c.args.part.now are (ap peer_of_part c.in-Change.is) (ap row_of_part c.in-Change.is) (ap opening_of_part c.in-Change.is) (ap batch_of_part c.in-Change.is)

pub returns-in-Lane : goal.returns-in-Lane
returns-in-Lane c = λ before are. other_added c.args.self.now before c.args.part.now are (ap peer_of_part c.in-Lane.is) (ap row_of_part c.in-Lane.is) (ap opening_of_part c.in-Lane.is) (ap batch_of_part c.in-Lane.is)
