use Rattle.std.proofs.Common.{◌≡◌, ◌++◌, take, drop}
use Rattle.std.specs.Str.{chars}
use Rattle.sds_types.specs.declared.counts.WriterLast.{WriterLast}
use Rattle.sds_first_spec.specs.Kept.{writer_in, with_writer}
use Rattle.sds_first_node.proofs.find.writer_place.Given as goal

abbrev pub invariant-loop-place : goal.invariant-loop-place
invariant-loop-place l = record {
  found : writer_in (chars l.writer) (drop l.place l.lasts) ≡ writer_in (chars l.writer) l.lasts;
  put : (new : WriterLast) → new.writer ≡ chars l.writer → with_writer new l.lasts ≡ take l.place l.lasts ++ with_writer new (drop l.place l.lasts);
}
