-- Laws of images: an act's edits make the image of the state after it of the image before it.
use Rattle.std.specs.Prelude.{◌≡◌, ◌<◌, List, [], ◌∷◌, length, Some, IfSome}
use Rattle.std.specs.List.{All}
use Rattle.sds_outside.specs.Records as outside
use Rattle.sds_value.specs.declared.row.Peer.{Peer}
use Rattle.sds_value.specs.declared.table.TableDef.{TableDef}
use Rattle.sds_types.specs.declared.config.Config.{Config}
use Rattle.sds_types.specs.declared.row.RowStep.{RowStep}
use Rattle.sds_trade.specs.rules.Captured.{Done}
use Rattle.sds_trade.specs.rules.Fitting.{FitsRow}
use Rattle.sds_trade.specs.rules.Sound.{IsSound}
use Rattle.sds_trade.specs.rules.Steps.{new_row, table_of}
use Rattle.sds_history.specs.history.Acts.{Act, State}
use Rattle.sds_history.specs.history.Image.{image_of}
use Rattle.sds_history.specs.history.Records.{me_record}
use Rattle.sds_history.specs.history.SoundStates.{IsSoundState}
use Rattle.sds_history.specs.history.States.{new_state, state_after}
use Rattle.sds_image.specs.Pairs.{pairs}
use Rattle.sds_nodelaws.specs.Asked.{IsAsked}
use Rattle.sds_nodelaws.specs.Calls.{Call, act_of}
use Rattle.sds_imagelaws.specs.Edits.{edits_of, made_steps}

-- a step is on a table that is there, and the row that it puts has values of that table's columns,
-- as it has where it was read from texts of characters. Without that two rows that are apart may
-- have records of one key: of a value that is not of its column's kind the printed text is empty
abbrev pub PutsFit : List TableDef → RowStep → Type 0
PutsFit defs step =
    (table_of step < length defs) × IfSome (new_row step) (FitsRow defs (table_of step))

-- so are the steps that an act makes
abbrev pub StepsFit : Config → State → Act → Type 0
StepsFit config state act =
    All (λ (done : Done). PutsFit config.tables done.step) (made_steps config state act)

-- the records of a sound state, with the edits of an act that leaves a sound state, are those of
-- the state that it leaves
abbrev pub EditsMakeImages : Type 0
EditsMakeImages = (config : Config) (state : State) (act : Act)
    → IsSound config → IsSoundState config state
    → IsSoundState config (state_after config state act) → StepsFit config state act
    → outside.edited (edits_of config state act) (pairs (image_of config state))
    ≡ pairs (image_of config (state_after config state act))

-- so whoever asks a node rightly and commits the edits of the act that his call makes keeps the
-- records of what the node then has
abbrev pub AskedCallsMakeImages : Type 0
AskedCallsMakeImages = (config : Config) (state : State) (call : Call) (act : Act)
    → IsSound config → IsSoundState config state → IsAsked config state call
    → act_of config state call ≡ Some act
    → outside.edited (edits_of config state act) (pairs (image_of config state))
    ≡ pairs (image_of config (state_after config state act))

-- a node that has made no act has one record: its own
abbrev pub NewNodesHaveOneRecord : Type 0
NewNodesHaveOneRecord = (config : Config) (me : Peer)
    → image_of config (new_state me) ≡ me_record me ∷ []
