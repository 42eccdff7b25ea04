-- What a source over a file stands over, and how often it failed.
use Rattle.std.specs.Prelude.{ℕ, List, Option, None, Some}
use Rattle.sds_outside.specs.declared.file_source.FileSource.{FileSource}

-- the file, where it could be opened
abbrev pub file_of : {F : Type 0} → FileSource F → Option F
file_of s = s.file

-- how often the source failed
abbrev pub file_faults : {F : Type 0} → FileSource F → ℕ
file_faults s = s.faults

-- the bytes that the file will give, where it is known
abbrev pub known_of : {F : Type 0} → (F → Option (List ℕ)) → Option F → Option (List ℕ)
known_of remaining (Some file) = remaining file
known_of remaining None = None
