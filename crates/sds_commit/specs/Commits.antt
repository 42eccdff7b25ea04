-- How a commit ends.
use Rattle.std.specs.Prelude.{◌≡◌, List, Result, Ok, Err}
use Rattle.sds_outside.specs.Keepings.{FailsAs, Keeping, NoneFails, with_edits}
use Rattle.sds_outside.specs.declared.keeping.Edit.{Edit}
use Rattle.sds_commit.specs.declared.committing.Uncommitted.{Uncommitted}
use Rattle.sds_commit.specs.declared.committing.Uncommitted.TheVariants.{Failed, NoMemory}

-- what a keeper tells after a commit, by the commit's answer: the records have all its edits; where
-- the keeper failed they are as was told, or else as before or with all edits; where memory was
-- wanting all is as before
abbrev pub Commits : List Edit → Keeping → Keeping → Result (Unit {0}) Uncommitted → Type 0
Commits edits before after (Ok done) =
    (after ≡ with_edits edits before) × NoneFails before.fates
Commits edits before after (Err Failed) = FailsAs before.fates edits before after
Commits edits before after (Err NoMemory) = after ≡ before
