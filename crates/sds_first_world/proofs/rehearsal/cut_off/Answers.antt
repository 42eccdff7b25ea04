use Rattle.std.proofs.Common.{◌∙◌, ◌==◌, not, ap, arith}
use Rattle.std.specs.List.{suffix_len}
use Rattle.std.proofs.lemmas.List.Sums.{suffix_len-le-length}
use Rattle.sds_first_world.proofs.rehearsal.cut_off.Goals as goal

pub overflow_sub-kept : goal.overflow_sub-kept
overflow_sub-kept c =
    let few = suffix_len-le-length (λ b. not (b == 10)) c.truncate.new.self.items in
    omega (arith, few, c.behind_last_feed.ensures ∙ ap (suffix_len (λ b. not (b == 10))) c.deref.ensures.value, c.len.ensures)
