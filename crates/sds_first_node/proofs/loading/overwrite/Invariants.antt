use Rattle.std.proofs.Common.{◌≡◌, ◌++◌, take, drop}
use Rattle.sds_first_node.specs.Loaded.{overwritten}
use Rattle.sds_first_node.proofs.loading.overwrite.Given as goal

abbrev pub invariant-loop-place : goal.invariant-loop-place
invariant-loop-place l = take l.place l.kept ++ overwritten (drop l.place l.new) (drop l.place l.kept) ≡ overwritten l.initial.new l.initial.kept
