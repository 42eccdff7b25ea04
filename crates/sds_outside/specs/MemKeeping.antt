-- What a keeper in memory tells, and which of its calls fail.
use Rattle.std.specs.Prelude.{◌≡◌, ℕ, Bool, true, List, [], Option, None, Some, drop}
use Rattle.sds_outside.specs.Causes.{next_number, is_listed}
use Rattle.sds_outside.specs.Stands.{left_armed, next_stand_of}
use Rattle.sds_outside.specs.Records.{Record}
use Rattle.sds_outside.specs.Keepings.{Keeping}
use Rattle.sds_outside.specs.declared.mem_keeper.FailAt.{FailAt}
use Rattle.sds_outside.specs.declared.mem_keeper.MemKeeper.{MemKeeper}

-- the records
abbrev pub kept_records : MemKeeper → Option (List Record)
kept_records k = Some (k.records.items)

-- what the reading that runs will still give
abbrev pub kept_unread : MemKeeper → Option (List Record)
kept_unread k = Some (drop k.at k.records.items)

-- how often the keeper failed
abbrev pub kept_faults : MemKeeper → ℕ
kept_faults k = k.faults

-- the numbers of the calls of reopen and next that fail
abbrev pub kept_reads : MemKeeper → List ℕ
kept_reads k = k.reads.fails

-- how many calls of reopen and next were made
abbrev pub kept_read_calls : MemKeeper → ℕ
kept_read_calls k = k.reads.made

-- the commits that fail
abbrev pub kept_commits : MemKeeper → List FailAt
kept_commits k = k.commits

-- how many commits were made
abbrev pub kept_commit_calls : MemKeeper → ℕ
kept_commit_calls k = k.commit_calls

-- for each armed commit whether it stands all the same
abbrev pub kept_armed : MemKeeper → List Bool
kept_armed k = k.armed.items

-- which of the commits to come fail is told where no call is listed to fail
abbrev pub fates_of : List ℕ → List FailAt → List Bool → Option (List Bool)
fates_of [] [] armed = Some armed
fates_of reads commits armed = None

abbrev pub kept_fates : MemKeeper → Option (List Bool)
kept_fates k = fates_of (kept_reads k) (kept_commits k) (kept_armed k)

-- what is told
abbrev pub kept_told : MemKeeper → Keeping
kept_told k = record { records = kept_records k; fates = kept_fates k }

-- reopen answered Ok, and no call failed since
abbrev pub IsKeptOpen : MemKeeper → Type 0
IsKeptOpen k = k.opened ≡ true

-- whether the next call of reopen or next fails
abbrev pub read_fails : MemKeeper → Bool
read_fails k = is_listed (kept_reads k) (next_number (kept_read_calls k))

-- whether the next commit stands, where it fails
abbrev pub next_stand : MemKeeper → Option Bool
next_stand k = next_stand_of (kept_commits k) (next_number (kept_commit_calls k)) (kept_armed k)

-- what is armed after the next commit
abbrev pub armed_after : MemKeeper → List Bool
armed_after k = left_armed (kept_commits k) (next_number (kept_commit_calls k)) (kept_armed k)

-- one more reopen or next is counted, and the calls that fail are as before
pub record CountsRead (old new : MemKeeper) : Type 0 where
  pub read_calls : kept_read_calls new ≡ next_number (kept_read_calls old)
  pub commit_calls : kept_commit_calls new ≡ kept_commit_calls old
  pub reads : kept_reads new ≡ kept_reads old
  pub commits : kept_commits new ≡ kept_commits old
  pub armed : kept_armed new ≡ kept_armed old

-- one more commit is counted, and the calls that fail are as before
pub record CountsCommit (old new : MemKeeper) : Type 0 where
  pub read_calls : kept_read_calls new ≡ kept_read_calls old
  pub commit_calls : kept_commit_calls new ≡ next_number (kept_commit_calls old)
  pub reads : kept_reads new ≡ kept_reads old
  pub commits : kept_commits new ≡ kept_commits old
  pub armed : kept_armed new ≡ armed_after old

-- all but what is armed is as before
pub record AreAsBefore (old new : MemKeeper) : Type 0 where
  pub records : kept_records new ≡ kept_records old
  pub unread : kept_unread new ≡ kept_unread old
  pub faults : kept_faults new ≡ kept_faults old
  pub is_open : new.opened ≡ old.opened
  pub read_calls : kept_read_calls new ≡ kept_read_calls old
  pub commit_calls : kept_commit_calls new ≡ kept_commit_calls old
  pub reads : kept_reads new ≡ kept_reads old
  pub commits : kept_commits new ≡ kept_commits old
