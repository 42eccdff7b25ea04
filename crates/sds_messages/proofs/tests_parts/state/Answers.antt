use Rattle.sds_messages.proofs.Sound.{read_sound}
use Rattle.sds_messages.proofs.tests_parts.state.Goals as goal

pub returns-in-Ok : goal.returns-in-Ok
returns-in-Ok c = λ sound. read_sound c.args.config.now c.args.records.now c.in-Ok.state sound (c.in-Ok.ensures.reading sound)
