use Rattle.std.proofs.Common.{rules}
use Rattle.sds_first_world.proofs.Soundness.{characters_by}
use Rattle.sds_first_world.proofs.forms.is_key.Goals as goal

pub returns-in-Err : goal.returns-in-Err
returns-in-Err c = record { holds = search rules; characters = characters_by c.as_str-text.result.now c.args.key.now c.as_str-text.utf8 c.as_str-text.ensures.chars }

pub returns-clause-characters : goal.returns-clause-characters
returns-clause-characters c = characters_by c.as_str-text.result.now c.args.key.now c.as_str-text.utf8 c.as_str-text.ensures.chars
