use Rattle.std.proofs.Common.{◌≡◌, ◌++◌, List, map, subst}
use Rattle.std.specs.Prelude.{OnOk}
use Rattle.sds_types.specs.declared.registration.Opening.{Opening}
use Rattle.sds_history.specs.history.Records.{opening_record}
use Rattle.sds_imagelaws.specs.Edits.{puts_of}
use Rattle.sds_acts.proofs.Given.{given_is, none_given}
use Rattle.sds_acts.proofs.registering.push_given.Goals as goal

pub returns-in_default : goal.returns-in_default
returns-in_default c =
    none_given c.args.peer.now c.args.openings.now _ _ c.args.edits.now.items c.requires c.in_default.ensures c.as_str.ensures.chars c.as_str-2.ensures.chars

pub returns : goal.returns
returns c =
    subst (λ (os : List Opening). OnOk c.push_put.result (c.push_put.new.edits.items ≡ c.args.edits.now.items ++ puts_of (map opening_record os)))
    (given_is c.args.peer.now c.args.openings.now _ _ c.in-Some.opening.now c.in_ok-given.given c.requires c.in-Some.ensures
    c.as_str.ensures.chars c.as_str-2.ensures.chars c.in_ok-given.ensures)
    c.push_put.ensures
