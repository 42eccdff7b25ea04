use Rattle.std.proofs.Common.{ℕ, [], ◌∙◌, sym, arith}
use Rattle.std.proofs.lemmas.List.FromFn.{map-range_with_len_more}
use Rattle.sds_batcher.specs.declared.lanes.Waiting.{Waiting}
use Rattle.std.proofs.Common.{List}
use Rattle.sds_batcher.proofs.lanes.empty_lanes.Goals as goal

pub loop-peer-preserved : goal.loop-peer-preserved
loop-peer-preserved c =
    let none : ℕ → List Waiting = λ peer. [] in
    c.in_ok-push.ensures.items ∙ (rw (c.loop-peer.invariant, c.new.ensures)
    (sym (map-range_with_len_more none 0 c.loop-peer._peer c.loop-peer._peer (omega arith))))
