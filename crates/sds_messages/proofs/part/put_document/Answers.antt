use Rattle.std.proofs.Common.{◌≡◌}
use Rattle.sds_image.specs.Meaning.{meaning_of}
use Rattle.sds_messages.proofs.Writables.{document_writable}
use Rattle.sds_messages.proofs.part.put_document.Goals as goal

pub put_batch-requires : goal.put_batch-requires
put_batch-requires c =
    document_writable c.args.config.now (meaning_of c.args.state.now) c.args.batch.now c.in_ok-doc.doc c.requires.writable c.requires.known c.in_ok-doc.ensures
