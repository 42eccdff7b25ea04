use Rattle.std.proofs.Common.{ℕ, All, None, Some, ap, refl, sym, subst, ◌∙◌, length, List, map}
use Rattle.std.specs.List.{enumerate_from, list_all}
use Rattle.std.specs.Str.{chars}
use Rattle.sds_delivery.specs.Placing.{at_places}
use Rattle.sds_history.specs.world.Delivery.{acks_in_order}
use Rattle.sds_doclaws.specs.Writable.{IsOfCharacters}
use Rattle.sds_nodelaws.specs.Asked.{is_ack}
use Rattle.sds_types.specs.declared.ack.Ack.{Ack}
use Rattle.sds_types.specs.declared.config.Config.{Config}
use Rattle.sds_stage.specs.Standing.{Stands}
use Rattle.sds_stage.proofs.Delivered.{all_asked}
use Rattle.sds_stage.proofs.Texts.{all_from, loads_refused, loads_whole}
use Rattle.sds_stage.proofs.delivering.load_text.Goals as goal

pub returns-in-Some-clause-loads : goal.returns-in-Some-clause-loads
returns-in-Some-clause-loads c = λ config stood sender to parts stands text.
    loads_refused config c.config-2.result.now sender to parts (chars c.args.from.now) c.args.text.now c.args.mentions.now c.as_slice-docs.result.now
    c.as_slice-channels.result.now c.as_slice-places.result.now c.load_all.new.acks.items c.load_all.new.held.items c.in-Some.refusal stood (Stands config c.load_all.new.node)
    (c.config-2.ensures ∙ stands.config_is)
    (subst (λ (under : Config). All IsOfCharacters under.transforms) (c.config.ensures ∙ sym c.config-2.ensures) c.expressions_are_of_characters.ensures)
    text (c.as_slice-docs.ensures.value ∙ (c.inner.ensures ∙ c.in_ok-docs.ensures.docs))
    (λ sender batches within are. c.as_slice-channels.ensures.value ∙ c.in_ok-channels.ensures.places sender batches within are)
    (λ batches same. c.in_ok-places.ensures.order batches same ∙ ap (at_places batches) (sym c.as_slice-places.ensures.value))
    (all_from config stood (Stands config c.load_all.new.node) (chars c.args.from.now) c.as_slice-docs.result.now c.as_slice-channels.result.now c.as_slice-places.result.now
    c.new-acks.result.items c.new-held.result.items c.load_all.new.acks.items c.load_all.new.held.items c.in_ok-refusal.refusal (Some c.in-Some.refusal)
    c.new-acks.ensures.items c.new-held.ensures.items c.in-Some.is
    (λ sender batches from_is docs_are channels_are. c.in_ok-refusal.ensures.goes config stood sender batches stands from_is docs_are channels_are))

pub returns-clause-acks : goal.returns-clause-acks
returns-clause-acks c =
    all_asked (length c.as_slice-channels.result.now) c.as_slice.result.now c.in_ok-acks_in_order-in-None.field-0
    (λ batches is. c.in_ok-acks_in_order-in-None.ensures.acks batches is)
    (ap (λ (l : List (ℕ × Ack)). list_all is_ack (map (λ (at : ℕ × Ack). at.1) l)) c.as_slice.ensures.value
    ∙ c.in_ok-refusal.ensures.acks (ap (λ (l : List (ℕ × Ack)). list_all is_ack (map (λ (at : ℕ × Ack). at.1) l)) c.new-acks.ensures.items))

pub returns-clause-loads : goal.returns-clause-loads
returns-clause-loads c = λ config stood sender to parts stands text.
    loads_whole config c.config-2.result.now sender to parts (chars c.args.from.now) c.args.text.now c.args.mentions.now c.as_slice-docs.result.now
    c.as_slice-channels.result.now c.as_slice-places.result.now c.load_all.new.acks.items c.load_all.new.held.items (length c.as_slice-channels.result.now)
    c.in_ok-acks_in_order-in-None.field-0 stood (Stands config c.load_all.new.node)
    (c.config-2.ensures ∙ stands.config_is)
    (subst (λ (under : Config). All IsOfCharacters under.transforms) (c.config.ensures ∙ sym c.config-2.ensures) c.expressions_are_of_characters.ensures)
    text (c.as_slice-docs.ensures.value ∙ (c.inner.ensures ∙ c.in_ok-docs.ensures.docs))
    (λ sender batches within are. c.as_slice-channels.ensures.value ∙ c.in_ok-channels.ensures.places sender batches within are)
    (λ batches same. c.in_ok-places.ensures.order batches same ∙ ap (at_places batches) (sym c.as_slice-places.ensures.value))
    (all_from config stood (Stands config c.load_all.new.node) (chars c.args.from.now) c.as_slice-docs.result.now c.as_slice-channels.result.now c.as_slice-places.result.now
    c.new-acks.result.items c.new-held.result.items c.load_all.new.acks.items c.load_all.new.held.items c.in_ok-refusal.refusal None
    c.new-acks.ensures.items c.new-held.ensures.items c.in-None.is
    (λ sender batches from_is docs_are channels_are. c.in_ok-refusal.ensures.goes config stood sender batches stands from_is docs_are channels_are))
    refl
    (λ batches is. ap (acks_in_order (enumerate_from 0 batches)) (sym c.as_slice.ensures.value) ∙ c.in_ok-acks_in_order-in-None.ensures.acks batches is)
