use Rattle.std.proofs.Common.{List, ℕ, [], ◌∷◌, ◌++◌, ap, ◌∙◌}
use Rattle.std.proofs.lemmas.Str.{IsUtf8-string_bytes}
use Rattle.std.specs.Str.{chars}
use Rattle.sds_line.proofs.Texts.{characters_pushed}
use Rattle.sds_line.proofs.draft.push_character.Goals as goal

pub returns-clause-ok : goal.returns-clause-ok
returns-clause-ok c =
    characters_pushed _ _ c.args.character (IsUtf8-string_bytes c.make_room.new.text) c.ranges.character.0 c.in_ok-push.ensures.bytes
    ∙ ap (λ (bytes : List ℕ). chars bytes ++ c.args.character ∷ []) c.in_ok-make_room.ensures.ok
