use Rattle.std.proofs.Common.{◌∙◌, string_bytes}
use Rattle.sds_expressions.proofs.Spelling.{more, whole}
use Rattle.sds_expressions.proofs.letters.text_of.Goals as goal

pub loop-character-preserved : goal.loop-character-preserved
loop-character-preserved c =
    let m = more (string_bytes c.loop-character.text) (string_bytes c.put.new.text) c.args.characters.now c.loop-character.character-index c.character-item.result
    c.loop-character-test.true c.character-item.is c.loop-character.invariant.so_far c.loop-character.invariant.scalars c.in_ok-put.ensures.bytes c.in_ok-put.ensures.scalar in
    record { so_far = m.so_far; scalars = m.scalars }

pub returns : goal.returns
returns c = c.of.ensures ∙ whole (string_bytes c.loop-character.text) c.args.characters.now c.loop-character.character-index c.loop-character-test.false c.loop-character.invariant.so_far c.loop-character.invariant.scalars
