use Rattle.std.proofs.Common.{◌≡◌, sym, ◌∙◌}
use Rattle.std.specs.Str.{chars}
use Rattle.sds_world.proofs.Delivered.{wires}
use Rattle.sds_world.proofs.Rehearsed.{found_at}
use Rattle.sds_world.proofs.rehearsal.Rehearsal.wire.Goals as goal

pub returns : goal.returns
returns c = record {
  plays = λ played plays fresh.
      wires c.args.self.now played c.args.number c.args.out.now.items c.extend_from_slice.new.self.items c.deref-2.result.now (chars c.as_str.result.now) c.in-Some.message.now
      c.requires.rehearsal.stage.config plays
      (found_at c.args.self.now.messages.items c.deref.result.now c.args.number c.place_of.result c.in-Some.message.now c.deref.ensures.value c.place_of.ensures
      c.in-Some.ensures.lookup.3.0 c.in-Some.ensures.lookup.3.1)
      c.as_str.ensures.chars (c.deref-2.ensures.value ∙ c.inner.ensures) (sym (c.has_node.ensures played plays.stage) ∙ c.if-not-has_node.false)
      c.in_ok-extend_from_slice.ensures.items;
}
