use Rattle.std.proofs.Common.{◌∙◌, ℕ, ◌==◌, sym, ap}
use Rattle.std.specs.List.{list_any}
use Rattle.std.specs.Option.{option_copied}
use Rattle.std.specs.Str.{chars}
use Rattle.sds_loadlaws.specs.ReadBatches.{IsLoadable}
use Rattle.sds_nodelaws.proofs.Lists.{slice_all}
use Rattle.sds_stage.proofs.Called.{if_ok}
use Rattle.sds_stage.proofs.Loaded.{channel_held, loads, no_channel, no_document}
use Rattle.sds_stage.proofs.loading.load_one.Goals as goal

pub returns-in_default-clause-goes : goal.returns-in_default-clause-goes
returns-in_default-clause-goes c =
    no_document c.args.node.now (chars c.args.from.now) c.args.docs.now c.args.channels.now c.args.acks.now.items c.args.held.now.items c.args.place
    (ap option_copied (sym c.in_default.is) ∙ c.doc_at.ensures)

pub returns-in_default-channel_at-clause-goes : goal.returns-in_default-channel_at-clause-goes
returns-in_default-channel_at-clause-goes c =
    no_channel c.args.node.now (chars c.args.from.now) c.args.docs.now c.args.channels.now c.args.acks.now.items c.args.held.now.items c.args.place
    (sym c.in_default-channel_at.is ∙ c.channel_at.ensures)

pub returns-then-is_held-clause-goes : goal.returns-then-is_held-clause-goes
returns-then-is_held-clause-goes c =
    channel_held c.args.node.now (chars c.args.from.now) c.args.docs.now c.args.channels.now c.args.acks.now.items c.args.held.now.items c.args.place
    c.in-Some-channel_at.channel c.is_held.result (sym c.in-Some-channel_at.is ∙ c.channel_at.ensures)
    (c.is_held.ensures ∙ ap (list_any (λ (one : ℕ). one == c.in-Some-channel_at.channel)) c.deref.ensures.value) c.if-is_held.true

pub load_at-requires-clause-doc : goal.load_at-requires-clause-doc
load_at-requires-clause-doc c =
    slice_all IsLoadable c.args.docs.now c.args.place c.in-Some.doc.now c.requires.docs (sym c.doc_at.ensures ∙ ap option_copied c.in-Some.is)

pub returns-clause-goes : goal.returns-clause-goes
returns-clause-goes c =
    if_ok c.take_answer.result c.take_answer.ensures.answered (λ refusal takes.
    loads c.args.node.now c.load_at.new.node (chars c.args.from.now) c.args.docs.now c.args.channels.now c.args.acks.now.items c.take_answer.new.acks.items
    c.args.held.now.items c.take_answer.new.held.items c.args.place c.in-Some-channel_at.channel c.in-Some.doc.now c.is_held.result c.in_ok-answer.answer refusal
    (ap option_copied (sym c.in-Some.is) ∙ c.doc_at.ensures) (sym c.in-Some-channel_at.is ∙ c.channel_at.ensures)
    (c.is_held.ensures ∙ ap (list_any (λ (one : ℕ). one == c.in-Some-channel_at.channel)) c.deref.ensures.value) c.if-is_held.false
    c.in_ok-answer.ensures.goes takes)
