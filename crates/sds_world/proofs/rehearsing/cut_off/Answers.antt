use Rattle.std.proofs.Common.{◌∙◌, ◌==◌, not, ap, arith}
use Rattle.std.specs.List.{suffix_len}
use Rattle.std.proofs.lemmas.List.Sums.{suffix_len-le-length}
use Rattle.sds_world.proofs.Answering.{cut_items}
use Rattle.sds_world.proofs.rehearsing.cut_off.Goals as goal

pub overflow_sub-kept : goal.overflow_sub-kept
overflow_sub-kept c =
    let few = suffix_len-le-length (λ b. not (b == 10)) c.truncate.new.self.items in
    omega (arith, few, c.behind_last_feed.ensures ∙ ap (suffix_len (λ b. not (b == 10))) c.deref.ensures.value, c.len.ensures)

pub returns-clause-front : goal.returns-clause-front
returns-clause-front c =
    cut_items c.args.bytes c.into_inner-bytes.result.items c.truncate.new.self.items c.deref.result.now c.truncate-2.new.self.items c.len.result c.behind_last_feed.result
    c.into_inner-bytes.ensures c.truncate.ensures.items (omega (arith, c.len.ensures)) c.deref.ensures.value c.behind_last_feed.ensures c.truncate-2.ensures.items
