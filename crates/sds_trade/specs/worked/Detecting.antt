-- Worked cases: what is a conflict with the row that stands, by each detection.
use Rattle.std.specs.Prelude.{◌≡◌, ℕ, pos, List, [], ◌∷◌, Option, None, Some}
use Rattle.sds_value.specs.declared.kind.Value.{Value}
use Rattle.sds_value.specs.declared.row.Event.TheVariants.{Insert, Update, Delete}
use Rattle.sds_types.specs.declared.conflict.DetectType.{DetectType}
use Rattle.sds_types.specs.declared.conflict.DetectType.TheVariants.{UsePkData, UseOldData, UseChangedData, UseTimestamp, UseVersion}
use Rattle.sds_types.specs.declared.conflict.ResolveType.TheVariants.{Fallback}
use Rattle.sds_types.specs.declared.conflict.Verdict.{Verdict}
use Rattle.sds_types.specs.declared.conflict.Verdict.TheVariants.{No, Yes, OldMissing}
use Rattle.sds_types.specs.declared.load_row.LoadRow.{LoadRow}
use Rattle.sds_trade.specs.rules.Conflicts.{target_row, verdict}
use Rattle.sds_trade.specs.worked.Versions.{count_tables, three, standing, load_row, all_three, setting_of}

-- the verdict on a row where the one row stands
abbrev pub Is : DetectType → Option ℕ → LoadRow → Verdict → Type 0
Is detect column row expected =
    verdict (Some (setting_of detect column Fallback)) row (target_row count_tables standing row)
    ≡ expected

abbrev pub update_from : List Value → List Value → LoadRow
update_from old new = load_row Update 1 all_three new (Some old)

abbrev pub delete_of : List Value → LoadRow
delete_of old = load_row Delete 1 all_three [] (Some old)

-- by the key alone: an update of the row that stands is none, one of a row that doesn't is one; an
-- insert is one where the row stands; without a setting it is the same
abbrev pub ByKey : Type 0
ByKey = Is UsePkData None (update_from (three 1 9 9) (three 1 8 8)) No
    × Is UsePkData None (load_row Update 2 all_three (three 2 8 8) None) Yes
    × Is UsePkData None (load_row Insert 1 all_three (three 1 8 8) None) Yes
    × Is UsePkData None (load_row Insert 2 all_three (three 2 8 8) None) No
    × (verdict None (update_from (three 1 9 9) (three 1 8 8))
    (target_row count_tables standing (update_from (three 1 9 9) (three 1 8 8))) ≡ No)

-- by all old values; they have to be given, and a column that is added to isn't compared
abbrev pub ByOld : Type 0
ByOld = Is UseOldData None (update_from (three 1 10 5) (three 1 8 8)) No
    × Is UseOldData None (update_from (three 1 10 4) (three 1 8 4)) Yes
    × Is UseOldData None (delete_of (three 1 10 4)) Yes
    × Is UseOldData None (load_row Update 1 all_three (three 1 8 8) None) OldMissing
    × Is UseOldData None (record (update_from (three 1 9 5) (three 1 8 5)) {
      adds = record { column = 1; add = Some (pos 1) } ∷ [];
    }) No

-- by the old values of the columns that change; a delete changes all
abbrev pub ByChanged : Type 0
ByChanged = Is UseChangedData None (update_from (three 1 10 4) (three 1 8 4)) No
    × Is UseChangedData None (update_from (three 1 9 5) (three 1 8 5)) Yes
    × Is UseChangedData None (delete_of (three 1 10 4)) Yes
    × Is UseChangedData None (delete_of (three 1 10 5)) No

-- by the old version, which has to be given
abbrev pub ByVersion : Type 0
ByVersion = Is UseVersion (Some 2) (update_from (three 1 9 5) (three 1 8 6)) No
    × Is UseVersion (Some 2) (update_from (three 1 10 4) (three 1 10 6)) Yes
    × Is UseTimestamp (Some 2) (update_from (three 1 10 4) (three 1 10 6)) Yes
    × Is UseVersion (Some 2) (load_row Update 1 (0 ∷ []) (three 1 8 8) (Some (three 1 8 8)))
    OldMissing
