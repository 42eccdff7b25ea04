use Rattle.std.proofs.Common.{Option, subst, sym}
use Rattle.std.specs.Prelude.{IfSome}
use Rattle.sds_types.specs.declared.config.Config.{Config}
use Rattle.sds_trade.specs.rules.Sound.{IsSound}
use Rattle.sds_history.specs.history.SoundStates.{IsSoundState}
use Rattle.sds_image.specs.Meaning.{meaning_of}
use Rattle.sds_image.specs.declared.state.State.{State}
use Rattle.sds_messages.proofs.Sound.{all_written, two_channels_sound}
use Rattle.sds_messages.proofs.tests.written.Goals as goal

pub put_message-requires-clause-config : goal.put_message-requires-clause-config
put_message-requires-clause-config c = subst (λ (config : Config). IsSound config) (sym c.in_ok-config.ensures) two_channels_sound

pub put_message-requires-clause-state : goal.put_message-requires-clause-state
put_message-requires-clause-state c =
    subst (λ (o : Option State). IfSome o (λ (state : State). IsSoundState c.in_ok-config.config (meaning_of state))) c.in-Some.is
    (c.in_ok-state.ensures (subst (λ (config : Config). IsSound config) (sym c.in_ok-config.ensures) two_channels_sound))

pub put_message-requires-clause-writable : goal.put_message-requires-clause-writable
put_message-requires-clause-writable c =
    all_written c.in_ok-config.config (meaning_of c.in-Some.state) c.in_ok-config.ensures
    (subst (λ (o : Option State). IfSome o (λ (state : State). IsSoundState c.in_ok-config.config (meaning_of state))) c.in-Some.is
    (c.in_ok-state.ensures (subst (λ (config : Config). IsSound config) (sym c.in_ok-config.ensures) two_channels_sound)))
