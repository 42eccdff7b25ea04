use Rattle.std.specs.Prelude.{IsTrue}
use Rattle.sds_batchtext.specs.Writable.{is_batch_text, is_writable}
use Rattle.sds_doclaws.proofs.Writable.{documents_are_writable}
use Rattle.sds_history.specs.history.Documents.{doc_of_batch}
use Rattle.sds_nodelaws.proofs.Held.{mapped}
use Rattle.sds_node.specs.Meaning.{has}
use Rattle.sds_types.specs.declared.batch.OutBatch.{OutBatch}
use Rattle.sds_node.proofs.node.Node.put_message.Goals as goal

pub put_message-requires-clause-writable : goal.put_message-requires-clause-writable
put_message-requires-clause-writable g c =
    mapped (λ (batch : OutBatch). IsTrue (is_writable (doc_of_batch c.args.self.now.config (has c.args.self.now) batch))
    × IsTrue (is_batch_text (doc_of_batch c.args.self.now.config (has c.args.self.now) batch)))
    (λ (batch : OutBatch). IsTrue (is_writable (doc_of_batch c.args.self.now.config (has c.args.self.now) batch)))
    (has c.args.self.now).batches (λ batch both. both.0)
    (documents_are_writable c.args.self.now.config (has c.args.self.now) c.requires.node.config c.requires.characters c.requires.few c.requires.node.fits.sound)
