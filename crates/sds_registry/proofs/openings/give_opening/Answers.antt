use Rattle.std.proofs.Common.{◌≡◌, ◌∙◌, ap, map, slice_set, subst, sym}
use Rattle.std.specs.List.{position}
use Rattle.sds_history.specs.history.Openings.{given_to, is_opening_of}
use Rattle.sds_types.specs.declared.registration.Stage.TheVariants.{Given}
use Rattle.sds_registry.proofs.Giving.{none_given, one_given}
use Rattle.sds_registry.proofs.openings.give_opening.Goals as goal

pub returns-in-Some-clause-items : goal.returns-in-Some-clause-items
returns-in-Some-clause-items c =
    let items = c.args.openings.now.items in
    subst (λ node. slice_set items c.in-Some.at (record c.index_mut.result.now { stage = Given node }) ≡ map (given_to c.args.peer.now) items)
    (sym c.requires.node)
    (one_given c.args.peer.now items c.in-Some.at c.index_mut.result.now c.requires.order
    (ap (position (is_opening_of c.args.peer.now)) (sym c.deref.ensures.value) ∙ sym c.in-Some.ensures) c.index_mut.ensures.value)

pub returns-in_default-clause-items : goal.returns-in_default-clause-items
returns-in_default-clause-items c =
    none_given c.args.peer.now c.args.openings.now.items c.deref.result.now c.deref.ensures.value c.in_default.ensures
