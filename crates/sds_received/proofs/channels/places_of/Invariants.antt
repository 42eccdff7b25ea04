use Rattle.std.proofs.Common.{◌≡◌, map, take}
use Rattle.sds_types.specs.declared.document.BatchDoc.{BatchDoc}
use Rattle.sds_received.specs.Places.{place_in}
use Rattle.sds_received.proofs.channels.places_of.Given as goal

abbrev pub invariant-loop-doc : goal.invariant-loop-doc
invariant-loop-doc l = l.places.items ≡ map (λ (doc : BatchDoc). place_in l.config doc.channel) (take l.doc-index l.docs)
