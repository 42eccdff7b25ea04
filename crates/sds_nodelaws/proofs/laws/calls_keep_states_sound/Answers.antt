use Rattle.sds_nodelaws.proofs.SoundActs.{calls_keep_states_sound, nodes_stay_sound}
use Rattle.sds_nodelaws.proofs.laws.calls_keep_states_sound.Goals as goal

pub returns-clause-call : goal.returns-clause-call
returns-clause-call c = calls_keep_states_sound

pub returns-clause-node : goal.returns-clause-node
returns-clause-node c = nodes_stay_sound
