use Rattle.std.proofs.Common.{◌≡◌, ◌∙◌, ◌+◌, ◌==◌, ◌++◌, ℕ, Bool, List, Some, ap, sym, drop, get_or, filter_map, find}
use Rattle.std.specs.List.{flat_map}
use Rattle.std.specs.Prelude.{option_copied}
use Rattle.sds_value.specs.declared.row.DocRow.{DocRow}
use Rattle.sds_types.specs.declared.row.Change.{Change}
use Rattle.sds_trade.specs.rules.Transforms.{extracted_rows}
use Rattle.sds_history.specs.history.Documents.{change_of_number}
use Rattle.sds_image.specs.Meaning.{meaning_of}
use Rattle.sds_outgoing.proofs.Lists.{found_fits}
use Rattle.sds_outgoing.proofs.Turns.{none_found, one_found}
use Rattle.sds_outgoing.proofs.documents.batch_rows.Goals as goal

pub loop-number-preserved-in_default : goal.loop-number-preserved-in_default
loop-number-preserved-in_default c =
    let items : List ℕ = c.deref-number-items.result.now in
    let test : Change → Bool = λ change. change.id == get_or items c.loop-number.number-index 0 in
    none_found (extracted_rows c.args.config.now c.in_ok-way.way) (change_of_number (meaning_of c.args.state.now)) items c.loop-number.number-index 0 c.loop-number.rows.items
    (flat_map (extracted_rows c.args.config.now c.in_ok-way.way) (filter_map (change_of_number (meaning_of c.args.state.now)) items)) c.loop-number-test.true c.loop-number.invariant
    (sym (ap option_copied c.in_default.is) ∙ (c.change_of_number.ensures ∙ ap (find test) (c.deref.ensures.value ∙ c.inner-in-loop-number.ensures)))

pub extract-requires-clause-new : goal.extract-requires-clause-new
extract-requires-clause-new c =
    let items : List ℕ = c.deref-number-items.result.now in
    let test : Change → Bool = λ change. change.id == get_or items c.loop-number.number-index 0 in
    (found_fits c.args.config.now.tables c.args.state.now.changes c.deref.result.now test c.in-Some.change.now c.requires (c.deref.ensures.value ∙ c.inner-in-loop-number.ensures)
    (sym (ap option_copied c.in-Some.is) ∙ c.change_of_number.ensures)).new

pub extract-requires-clause-old : goal.extract-requires-clause-old
extract-requires-clause-old c =
    let items : List ℕ = c.deref-number-items.result.now in
    let test : Change → Bool = λ change. change.id == get_or items c.loop-number.number-index 0 in
    (found_fits c.args.config.now.tables c.args.state.now.changes c.deref.result.now test c.in-Some.change.now c.requires (c.deref.ensures.value ∙ c.inner-in-loop-number.ensures)
    (sym (ap option_copied c.in-Some.is) ∙ c.change_of_number.ensures)).old

pub loop-number-preserved : goal.loop-number-preserved
loop-number-preserved c =
    let items : List ℕ = c.deref-number-items.result.now in
    let test : Change → Bool = λ change. change.id == get_or items c.loop-number.number-index 0 in
    ap (λ (made : List DocRow). made ++ flat_map (extracted_rows c.args.config.now c.in_ok-way.way) (filter_map (change_of_number (meaning_of c.args.state.now)) (drop (c.loop-number.number-index + 1) items)))
    (c.in_ok-append.ensures.items ∙ ap (λ (more : List DocRow). c.loop-number.rows.items ++ more) (c.into_inner-more.ensures ∙ c.in_ok-extract.ensures))
    ∙ one_found (extracted_rows c.args.config.now c.in_ok-way.way) (change_of_number (meaning_of c.args.state.now)) items c.loop-number.number-index 0 c.loop-number.rows.items
    (flat_map (extracted_rows c.args.config.now c.in_ok-way.way) (filter_map (change_of_number (meaning_of c.args.state.now)) items)) c.loop-number-test.true c.loop-number.invariant c.in-Some.change.now
    (sym (ap option_copied c.in-Some.is) ∙ (c.change_of_number.ensures ∙ ap (find test) (c.deref.ensures.value ∙ c.inner-in-loop-number.ensures)))
