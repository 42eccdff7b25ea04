-- Worked cases: what is done with a row of a batch, by the tables, and where newer versions win.
use Rattle.std.specs.Prelude.{◌≡◌, ℕ, [], ◌∷◌, Option, None, Some}
use Rattle.sds_value.specs.declared.kind.Value.TheVariants.{Null}
use Rattle.sds_value.specs.declared.row.Event.TheVariants.{Insert, Update, Delete}
use Rattle.sds_types.specs.declared.conflict.ConflictDef.{ConflictDef}
use Rattle.sds_types.specs.declared.conflict.DetectType.TheVariants.{UseVersion}
use Rattle.sds_types.specs.declared.conflict.Resolution.{Resolution}
use Rattle.sds_types.specs.declared.conflict.Resolution.TheVariants.{Apply, SkipRow, Broken}
use Rattle.sds_types.specs.declared.conflict.ResolveType.TheVariants.{NewerWins}
use Rattle.sds_types.specs.declared.load_row.LoadRow.{LoadRow}
use Rattle.sds_types.specs.declared.row.Key.{Key}
use Rattle.sds_types.specs.declared.row.RowStep.TheVariants as step
use Rattle.sds_types.specs.declared.rule.Rule.TheVariants.{OldMissing}
use Rattle.sds_trade.specs.rules.Resolutions.{resolution_of}
use Rattle.sds_trade.specs.worked.Entries.{number}
use Rattle.sds_trade.specs.worked.Versions.{count_tables, three, count_row, standing, load_row, all_three, setting_of}

abbrev pub Becomes : Option ConflictDef → LoadRow → Resolution → Type 0
Becomes setting row expected = resolution_of count_tables setting standing row ≡ expected

abbrev pub key : ℕ → Key
key id = record { 0 = number id ∷ [] }

-- an insert of a new key has nulls where it gives nothing; of a key that stands it updates what it
-- gives
abbrev pub InsertsStand : Type 0
InsertsStand =
    Becomes None (load_row Insert 2 (0 ∷ []) (number 2 ∷ []) None)
    (Apply (step.Insert 0 (record { 0 = number 2 ∷ (Null ∷ (Null ∷ [])) })))
    × Becomes None (load_row Insert 1 (0 ∷ (2 ∷ [])) (number 1 ∷ (number 6 ∷ [])) None)
    (Apply (step.Update 0 (key 1) (count_row 1 10 6)))

-- an update goes to the row of its old key, which may get a new one; else to that of its new key;
-- else it inserts, with the old key where it gives none
abbrev pub UpdatesStand : Type 0
UpdatesStand =
    Becomes None (load_row Update 1 all_three (three 3 8 6) None)
    (Apply (step.Update 0 (key 1) (count_row 3 8 6)))
    × Becomes None (load_row Update 2 (0 ∷ (1 ∷ [])) (number 1 ∷ (number 8 ∷ [])) None)
    (Apply (step.Update 0 (key 1) (count_row 1 8 5)))
    × Becomes None (load_row Update 2 (1 ∷ []) (number 8 ∷ []) None)
    (Apply (step.Insert 0 (record { 0 = number 2 ∷ (number 8 ∷ (Null ∷ [])) })))

abbrev pub DeletesStand : Type 0
DeletesStand = Becomes None (load_row Delete 1 [] [] None) (Apply (step.Delete 0 (key 1)))
    × Becomes None (load_row Delete 2 [] [] None) SkipRow

abbrev pub by_version : Option ConflictDef
by_version = Some (setting_of UseVersion (Some 2) NewerWins)

-- a conflict by the old version: the greater one wins, of a delete the old one
abbrev pub NewerVersionWins : Type 0
NewerVersionWins =
    Becomes by_version (load_row Update 1 all_three (three 1 8 6) (Some (three 1 8 4)))
    (Apply (step.Update 0 (key 1) (count_row 1 8 6)))
    × Becomes by_version (load_row Update 1 all_three (three 1 8 4) (Some (three 1 8 4))) SkipRow
    × Becomes by_version (load_row Delete 1 all_three [] (Some (three 1 8 6)))
    (Apply (step.Delete 0 (key 1)))
    × Becomes by_version (load_row Delete 1 all_three [] (Some (three 1 8 4))) SkipRow

-- without the old version, or the new one of an insert, it can't be told; where no row stands it
-- needn't be
abbrev pub VersionIsNeeded : Type 0
VersionIsNeeded =
    Becomes by_version (load_row Update 1 all_three (three 1 8 6) None) (Broken OldMissing)
    × Becomes by_version (load_row Insert 1 (0 ∷ []) (number 1 ∷ []) None) (Broken OldMissing)
    × Becomes by_version (load_row Update 2 all_three (three 2 8 4) None)
    (Apply (step.Insert 0 (count_row 2 8 4)))
