-- Law of widths: the numbers that acts leave have the widths that they are kept in.
use Rattle.std.specs.Prelude.{◌≡◌, ⊤, ℕ, Some, IfSome}
use Rattle.std.specs.List.{All}
use Rattle.sds_types.specs.declared.ack.Ack.{Ack}
use Rattle.sds_types.specs.declared.config.Config.{Config}
use Rattle.sds_types.specs.declared.load_row.LoadRow.{LoadRow}
use Rattle.sds_types.specs.declared.prepared.Body.{Body}
use Rattle.sds_types.specs.declared.prepared.Body.TheVariants as body
use Rattle.sds_trade.specs.rules.Sound.{IsSound}
use Rattle.sds_history.specs.history.Acts.{Act, State}
use Rattle.sds_history.specs.history.SoundStates.{IsSoundState}
use Rattle.sds_history.specs.history.States.{state_after}
use Rattle.sds_records.specs.Told.{IsNarrow}
use Rattle.sds_nodelaws.specs.Asked.{IsAsked}
use Rattle.sds_nodelaws.specs.Calls.{Call, act_of}
use Rattle.sds_nodelaws.specs.Calls.Call.{Load, TakeAcks}
use Rattle.sds_imagelaws.specs.Reading.{AreHeld}

-- the rows of a batch have the numbers of its document's rows, which are of 32 bits, and so are the
-- rows of acks' errors
abbrev pub IsHeldBody : Body → Type 0
IsHeldBody (body.Rows rows) = All (λ (row : LoadRow). IsNarrow row.row) rows
IsHeldBody (body.Broken number rule) = IsNarrow number

abbrev pub IsHeldAck : Ack → Type 0
IsHeldAck ack = IfSome ack.error (λ (error : ℕ × ℕ). IsNarrow error.0)

-- the numbers that a node is asked with have their widths, as those of every caller have
abbrev pub IsHeldCall : Call → Type 0
IsHeldCall (Load from batch) = IsHeldBody batch.body
IsHeldCall (TakeAcks from acks) = All IsHeldAck acks
IsHeldCall other = ⊤

-- so whatever a node is asked rightly, its numbers keep their widths
abbrev pub ActsKeepWidths : Type 0
ActsKeepWidths = (config : Config) (state : State) (call : Call) (act : Act)
    → IsSound config → IsSoundState config state → AreHeld state → IsAsked config state call
    → IsHeldCall call → act_of config state call ≡ Some act
    → AreHeld (state_after config state act)
