use Rattle.std.proofs.Common.{◌+◌, drop}
use Rattle.std.proofs.lemmas.List.{drop_all, drop_more}
use Rattle.std.specs.Str.{chars}
use Rattle.sds_stage.proofs.Loaded.{all_loaded, place_loaded, refused}
use Rattle.sds_stage.proofs.loading.load_all.Goals as goal

pub returns-in-Some-clause-goes : goal.returns-in-Some-clause-goes
returns-in-Some-clause-goes c =
    refused c.args.node.now (chars c.args.from.now) c.args.docs.now c.args.channels.now c.args.places.now c.args.acks.now.items c.args.held.now.items
    c.loop-place.node c.load_one.new.node c.loop-place.acks.items c.load_one.new.acks.items c.loop-place.held.items c.load_one.new.held.items
    (drop c.loop-place.place-index c.args.places.now) (drop (c.loop-place.place-index + 1) c.args.places.now) _ c.in_ok-refusal.refusal c.in-Some.refusal
    (drop_more c.args.places.now c.loop-place.place-index _ c.loop-place-test.true) c.in-Some.is c.loop-place.invariant c.in_ok-refusal.ensures.goes

pub loop-place-preserved : goal.loop-place-preserved
loop-place-preserved c =
    place_loaded c.args.node.now (chars c.args.from.now) c.args.docs.now c.args.channels.now c.args.places.now c.args.acks.now.items c.args.held.now.items
    c.loop-place.node c.load_one.new.node c.loop-place.acks.items c.load_one.new.acks.items c.loop-place.held.items c.load_one.new.held.items
    (drop c.loop-place.place-index c.args.places.now) (drop (c.loop-place.place-index + 1) c.args.places.now) _ c.in_ok-refusal.refusal
    (drop_more c.args.places.now c.loop-place.place-index _ c.loop-place-test.true) c.in_default.is c.loop-place.invariant
    c.load_one.ensures.node c.in_ok-refusal.ensures.goes c.in_ok-refusal.ensures.acks

pub returns-clause-goes : goal.returns-clause-goes
returns-clause-goes c =
    all_loaded c.args.node.now (chars c.args.from.now) c.args.docs.now c.args.channels.now c.args.places.now c.args.acks.now.items c.args.held.now.items
    c.loop-place.node c.loop-place.acks.items c.loop-place.held.items (drop c.loop-place.place-index c.args.places.now)
    (drop_all c.loop-place.place-index c.args.places.now c.loop-place-test.false) c.loop-place.invariant
