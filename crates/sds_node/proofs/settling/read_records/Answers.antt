use Rattle.std.proofs.Common.{◌≡◌, inl, inr, Ok, Err, sym, ap, subst, ◌∙◌}
use Rattle.sds_image.specs.Meaning.{meaning_of}
use Rattle.sds_image.specs.Pairs.{pairs}
use Rattle.sds_imagelaws.proofs.AgreeingStates.{agreeing_records_are_images}
use Rattle.sds_image.specs.ReadStates.{IsReading}
use Rattle.sds_image.specs.declared.refusal.StateRefusal.TheVariants.{BadRecord, Contradicts}
use Rattle.sds_node.specs.Going.{IsUnread, records_of}
use Rattle.sds_node.proofs.Reading.{pairs_back}
use Rattle.sds_node.proofs.settling.read_records.Goals as goal

pub returns-in-Ok-clause-read : goal.returns-in-Ok-clause-read
returns-in-Ok-clause-read c =
    let kept = records_of c.args.records.now in
    let told = c.in-Ok.ensures.reading c.requires kept (pairs_back c.args.records.now) in
    let image = agreeing_records_are_images c.args.config.now kept told.parts (meaning_of c.in-Ok.state) c.requires told.told told.state_is told.agree in
    (record { sound = image.0; held = image.1.0; tables = c.in-Ok.ensures.defs }, sym (pairs_back c.args.records.now) ∙ ap pairs (sym image.1.1))

pub returns-in-Err-BadRecord-clause-cause : goal.returns-in-Err-BadRecord-clause-cause
returns-in-Err-BadRecord-clause-cause c =
    let result : c.read.result ≡ Err (BadRecord c.in-Err-BadRecord.key) = cc in
    λ found is. subst (IsUnread c.args.config.now c.args.records.now) (ap (λ r. elim r [ Ok s ↦ found | Err f ↦ f ]) is)
    (inl (subst (IsReading c.args.config.now (records_of c.args.records.now)) result
    (c.read.ensures.reading c.requires (records_of c.args.records.now) (pairs_back c.args.records.now))))

pub returns-in-Err-Contradicts-clause-cause : goal.returns-in-Err-Contradicts-clause-cause
returns-in-Err-Contradicts-clause-cause c =
    let result : c.read.result ≡ Err (Contradicts c.in-Err-Contradicts.key) = cc in
    λ found is. subst (IsUnread c.args.config.now c.args.records.now) (ap (λ r. elim r [ Ok s ↦ found | Err f ↦ f ]) is)
    (inr (subst (IsReading c.args.config.now (records_of c.args.records.now)) result
    (c.read.ensures.reading c.requires (records_of c.args.records.now) (pairs_back c.args.records.now))))
