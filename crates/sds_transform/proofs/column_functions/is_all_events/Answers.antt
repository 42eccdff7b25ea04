use Rattle.std.proofs.Common.{◌∙◌, ap}
use Rattle.std.specs.Str.{bytes_eq}
use Rattle.sds_transform.proofs.Texts.{star_characters}
use Rattle.sds_transform.proofs.column_functions.is_all_events.Goals as goal

pub returns : goal.returns
returns c = c.is.ensures ∙ ap (bytes_eq c.args.letters.now) star_characters
