-- How the commit of an act ends.
use Rattle.std.specs.Prelude.{◌≡◌, Result, Ok, Err, Some}
use Rattle.sds_types.specs.declared.config.Config.{Config}
use Rattle.sds_history.specs.history.Acts.{Act}
use Rattle.sds_commit.specs.Ends.{Fails, Kept, Makes}
use Rattle.sds_commit.specs.declared.committing.Uncommitted.{Uncommitted}
use Rattle.sds_commit.specs.declared.committing.Uncommitted.TheVariants.{Failed, NoMemory}

-- the act is made; or the keeper failed as it was committed; or memory was wanting, and nothing
-- changed
abbrev pub EndsWith : Config → Kept → Kept → Act → Result (Unit {0}) Uncommitted → Type 0
EndsWith config before after act (Ok done) = Makes config before after (Some act)
EndsWith config before after act (Err Failed) = Fails config before after (Some act)
EndsWith config before after act (Err NoMemory) = after ≡ before
