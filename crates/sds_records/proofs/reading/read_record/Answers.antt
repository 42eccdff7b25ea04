use Rattle.std.proofs.Common.{ap, subst, sym, ◌≡◌, ◌∙◌, true}
use Rattle.sds_records.specs.Fields.{fields_of_told}
use Rattle.sds_records.specs.Told.{HasKeyOf, is_formed, record_of_told}
use Rattle.sds_records.specs.declared.told.Told.{Told}
use Rattle.sds_records.proofs.Telling.{fields_told, has_key, key_told, none_confirmed, none_some, same_some}
use Rattle.sds_records.proofs.reading.read_record.Goals as goal

pub returns-in_default-clause-none : goal.returns-in_default-clause-none
returns-in_default-clause-none c = λ sound same told held tells.
    c.in_default.not-Some (fields_of_told c.args.config.now told) (fields_told c.args.config.now c.args.key.now c.args.body.now c.deref.result.now told c.in_ok-fields.field-0 sound held tells (c.deref.ensures.value ∙ c.inner.ensures) c.in_ok-fields.ensures)

pub returns-clause-none : goal.returns-clause-none
returns-clause-none c = λ sound same told held tells. none_some c.in-None.is
    (c.in_ok-told.ensures.found sound told held tells.form tells.values (key_told c.args.config.now c.args.key.now c.args.body.now c.deref-2.result.now told tells (c.deref-2.ensures.value ∙ c.inner-2.ensures))
    (c.deref-3.ensures.value ∙ (c.inner-3.ensures ∙ same_some c.in-Some.is (fields_told c.args.config.now c.args.key.now c.args.body.now c.deref.result.now told c.in_ok-fields.field-0 sound held tells (c.deref.ensures.value ∙ c.inner.ensures) c.in_ok-fields.ensures))))

pub returns-in-Some-2-clause-none : goal.returns-in-Some-2-clause-none
returns-in-Some-2-clause-none c = λ sound same told held tells.
    let one : c.in-Some-2.told ≡ told = same_some c.in-Some-2.is
    (c.in_ok-told.ensures.found sound told held tells.form tells.values (key_told c.args.config.now c.args.key.now c.args.body.now c.deref-2.result.now told tells (c.deref-2.ensures.value ∙ c.inner-2.ensures))
    (c.deref-3.ensures.value ∙ (c.inner-3.ensures ∙ same_some c.in-Some.is (fields_told c.args.config.now c.args.key.now c.args.body.now c.deref.result.now told c.in_ok-fields.field-0 sound held tells (c.deref.ensures.value ∙ c.inner.ensures) c.in_ok-fields.ensures)))) in
    none_confirmed c.confirmed.result c.in-Some-2.told same (c.confirmed.ensures.found
    (subst (λ (t : Told). is_formed c.args.config.now t ≡ true) (sym one) tells.form)
    (subst (λ (t : Told). HasKeyOf c.args.config.now t) (sym one) (has_key c.args.config.now told sound tells.form))
    (ap (record_of_told c.args.config.now) one ∙ tells.record_is))
