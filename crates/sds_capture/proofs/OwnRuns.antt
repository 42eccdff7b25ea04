-- Runs of own writes.
use Rattle.std.proofs.Common.{◌≡◌, ◌≢◌, ℕ, ◌+◌, Bool, true, false, List, [], ◌∷◌, Option, None, Some, Result, Ok, Err, refl, sym, ap, ◌∙◌}
use Rattle.std.specs.List.{enumerate_from}
use Rattle.sds_value.specs.declared.kind.Binary.TheVariants.{Base64}
use Rattle.sds_value.specs.declared.row.Event.{Event}
use Rattle.sds_value.specs.declared.row.Event.TheVariants.{Insert, Update, Delete}
use Rattle.sds_value.specs.declared.table.TableDef.{TableDef}
use Rattle.sds_value.specs.declared.row.DocRow.{DocRow}
use Rattle.sds_types.specs.declared.config.Config.{Config}
use Rattle.sds_types.specs.declared.conflict.Resolution.{Resolution}
use Rattle.sds_types.specs.declared.conflict.Resolution.TheVariants.{Apply, SkipRow, SkipBatch, Broken}
use Rattle.sds_types.specs.declared.load_row.LoadRow.{LoadRow}
use Rattle.sds_types.specs.declared.row.Row.{Row}
use Rattle.sds_types.specs.declared.row.RowStep.{RowStep}
use Rattle.sds_types.specs.declared.row.TableRow.{TableRow}
use Rattle.sds_types.specs.declared.rule.Rule.{Rule}
use Rattle.sds_types.specs.declared.tx_row.TxRow.{TxRow}
use Rattle.sds_trade.specs.rules.Captured.{Done, overflows}
use Rattle.sds_trade.specs.rules.LoadRows.{by_rule, plain_row, row_of, with_adds}
use Rattle.sds_trade.specs.rules.OwnWrites.{by_texts, doc_of, outcome_of_write, own_judge, own_step, own_update}
use Rattle.sds_trade.specs.rules.Runs.{RunEnd, by_broken, by_step_rules, done_of, run, with_done}
use Rattle.sds_trade.specs.rules.Runs.RunEnd.{Made, Ignored, Refused}
use Rattle.sds_trade.specs.rules.StepRules.{broken_rule}
use Rattle.sds_trade.specs.rules.Steps.{rows_after}
use Rattle.sds_trade.specs.rules.Tables.{row_at}
use Rattle.sds_trade.specs.rules.TextRules.{broken_text_rule}
use Rattle.sds_capture.specs.Ends.{end_of, numbered}
use Rattle.sds_capture.specs.declared.outcome.Outcome.{Outcome}

-- own rows are numbered from 1
pub numbered_own : {R : Type 0} (place : ℕ) (rows : List R) → numbered (λ at row. at + 1) place rows ≡ enumerate_from (place + 1) rows
numbered_own place [] = refl
numbered_own place (row ∷ rows) = ap (λ later. (place + 1, row) ∷ later) (numbered_own (place + 1) rows)

-- NO OWN ROW ASKS TO SKIP ANYTHING
abbrev Decided : Resolution → Type 0
Decided (Apply step) = Unit {0}
Decided SkipRow = ⊥
Decided SkipBatch = ⊥
Decided (Broken rule) = Unit {0}

update_decided : (defs : List TableDef) (rows : List TableRow) (row : LoadRow) (kept : Option Row) → Decided (own_update defs rows row kept)
update_decided defs rows row None = tt
update_decided defs rows row (Some kept) = tt

step_decided : (defs : List TableDef) (rows : List TableRow) (row : LoadRow) (event : Event) → Decided (own_step defs rows row event)
step_decided defs rows row Insert = tt
step_decided defs rows row Update = update_decided defs rows row (row_at defs rows row.table row.key)
step_decided defs rows row Delete = tt

texts_decided : (defs : List TableDef) (rows : List TableRow) (read : Result LoadRow Rule) → Decided (by_texts defs rows read)
texts_decided defs rows (Ok row) = step_decided defs rows row row.event
texts_decided defs rows (Err rule) = tt

broken_decided : (broken : Option Rule) (overflow : Bool) (step : RowStep) → Decided (by_broken broken overflow step)
broken_decided None true step = tt
broken_decided None false step = tt
broken_decided (Some rule) overflow step = tt

rules_decided : (defs : List TableDef) (overflow : RowStep → Bool) (rows : List TableRow) (asks : Resolution) → Decided asks
    → Decided (by_step_rules defs overflow rows asks)
rules_decided defs overflow rows (Apply step) is = broken_decided (broken_rule defs rows step) (overflow step) step
rules_decided defs overflow rows SkipRow is = is
rules_decided defs overflow rows SkipBatch is = is
rules_decided defs overflow rows (Broken rule) is = tt

row_decided : (defs : List TableDef) (overflow : RowStep → Bool) (rows : List TableRow) (row : TxRow)
    → Decided (by_step_rules defs overflow rows (own_judge defs rows row))
row_decided defs overflow rows row = rules_decided defs overflow rows (own_judge defs rows row)
    (texts_decided defs rows (row_of defs Base64 0 (doc_of defs row) []))

-- SO NO OWN WRITE IS IGNORED
done_ignored : (done : Done) (end : RunEnd) → with_done done end ≡ Ignored → end ≡ Ignored
done_ignored done (Made dones rows) is = absurd (cc)
done_ignored done Ignored is = refl
done_ignored done (Refused number rule) is = absurd (cc)

module _ (defs : List TableDef) (overflow : RowStep → Bool) where
  abbrev goes_on : List TableRow → ℕ × TxRow → List (ℕ × TxRow) → Resolution → RunEnd
  goes_on rows next later resolution = elim resolution [
    | Apply step ↦ with_done (done_of defs rows step) (run defs overflow (own_judge defs) (rows_after defs rows step) later)
    | SkipRow ↦ run defs overflow (own_judge defs) rows later
    | SkipBatch ↦ Ignored
    | Broken rule ↦ Refused next.0 rule
  ]

  next_not : (rows : List TableRow) (next : ℕ × TxRow) (later : List (ℕ × TxRow))
      → ((after : List TableRow) → run defs overflow (own_judge defs) after later ≡ Ignored → ⊥)
      → (resolution : Resolution) → Decided resolution → goes_on rows next later resolution ≡ Ignored → ⊥
  next_not rows next later others (Apply step) decided is =
      others (rows_after defs rows step) (done_ignored (done_of defs rows step) (run defs overflow (own_judge defs) (rows_after defs rows step) later) is)
  next_not rows next later others SkipRow decided is = decided
  next_not rows next later others SkipBatch decided is = decided
  next_not rows next later others (Broken rule) decided is = absurd (cc)

  pub never_ignored : (tx : List (ℕ × TxRow)) (rows : List TableRow) → run defs overflow (own_judge defs) rows tx ≡ Ignored → ⊥
  never_ignored [] rows is = absurd (cc)
  never_ignored (next ∷ later) rows is =
      next_not rows next later (λ after. never_ignored later after) (by_step_rules defs overflow rows (own_judge defs rows next.1))
      (row_decided defs overflow rows next.1) is

-- AN OWN ROW THAT IS READ
module _ (slice defs : List TableDef) (rows : List TableRow) (tx : TxRow) (doc : DocRow) (read : Result LoadRow Rule) (same : slice ≡ defs)
    (is_doc : doc ≡ doc_of slice tx) (is_read : read ≡ row_of slice Base64 0 doc []) where
  judged : own_judge defs rows tx ≡ by_texts defs rows read
  judged = rw is_read (rw is_doc (rw same refl))

  pub refused : (rule : Rule) → read ≡ Err rule → Broken rule ≡ own_judge defs rows tx
  refused rule is = sym (judged ∙ ap (by_texts defs rows) is)

  pub asked : (own : List TableDef) (row : LoadRow) (asks : Resolution) → read ≡ Ok row → own ≡ defs
      → asks ≡ own_step own rows row row.event → asks ≡ own_judge defs rows tx
  asked own row asks is one asks_is = rw asks_is (rw one (sym (judged ∙ ap (by_texts defs rows) is)))

read_whole : (broken : Option Rule) (made row : LoadRow) → by_rule broken made ≡ Ok row → made ≡ row
read_whole None made row is = cc
read_whole (Some rule) made row is = absurd (cc)

pub adds_nothing : (defs : List TableDef) (doc : DocRow) (read : Result LoadRow Rule) (row : LoadRow)
    → read ≡ row_of defs Base64 0 doc [] → read ≡ Ok row → row.adds ≡ []
adds_nothing defs doc read row is_read is =
    sym (ap (λ (r : LoadRow). r.adds)
    (read_whole (broken_text_rule defs Base64 doc) (with_adds (plain_row defs Base64 0 doc) []) row (sym is_read ∙ is)))

-- THE RUN OF AN OWN WRITE
pub own_run : (config : Config) (group : List ℕ) (waiting : ℕ) (rows : List TableRow) (tx : List TxRow)
    → run config.tables (overflows config group false waiting) (own_judge config.tables) rows (numbered (λ at row. at + 1) 0 tx)
    ≡ outcome_of_write config group waiting rows tx
own_run config group waiting rows tx =
    ap (run config.tables (overflows config group false waiting) (own_judge config.tables) rows) (numbered_own 0 tx)

pub own_run_ends : (config : Config) (group : List ℕ) (waiting : ℕ) (rows : List TableRow) (tx : List TxRow)
    → outcome_of_write config group waiting rows tx ≢ Ignored
own_run_ends config group waiting rows tx is =
    never_ignored config.tables (overflows config group false waiting) (enumerate_from 1 tx) rows is

pub made_own : (config : Config) (group : List ℕ) (waiting : ℕ) (rows after : List TableRow) (tx : List TxRow) (outcome : Outcome) (end : RunEnd)
    → end_of outcome after ≡ run config.tables (overflows config group false waiting) (own_judge config.tables) rows (numbered (λ at row. at + 1) 0 tx)
    → end_of outcome after ≡ end → end ≡ outcome_of_write config group waiting rows tx
made_own config group waiting rows after tx outcome end is ends = sym ends ∙ (is ∙ own_run config group waiting rows tx)
