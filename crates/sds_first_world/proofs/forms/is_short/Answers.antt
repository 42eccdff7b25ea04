use Rattle.std.proofs.Common.{rules, ◌≡◌, true}
use Rattle.sds_first_laws.specs.Pairs.{is_of_characters}
use Rattle.sds_first_world.proofs.Soundness.{characters_by}
use Rattle.sds_first_world.proofs.forms.is_short.Goals as goal
use Rattle.sds_first_world.proofs.forms.is_short.Goals.{in-Ok, in-Err-NoMemory, in-Err}

pub returns-clause-characters : goal.returns-clause-characters
returns-clause-characters c =
    let all : is_of_characters c.args.field.now ≡ true = rw c.in-Text.is (characters_by c.as_str.result.now _ c.as_str.utf8 c.as_str.ensures.chars) in
    elim c.match-read.branch [
      | in-Ok w ↦ search rules
      | in-Err-NoMemory w ↦ search rules
      | in-Err w ↦ search rules
    ]
