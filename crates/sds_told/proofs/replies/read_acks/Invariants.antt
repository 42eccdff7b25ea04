use Rattle.std.proofs.Common.{◌≡◌, ◌≤◌, ◌+◌, length, map}
use Rattle.form_urlencoded.specs.Parse.{pairs_left}
use Rattle.sds_told.specs.Replies.{acks_of, pair_texts, pairs}
use Rattle.sds_told.proofs.Turns.{acks_from}
use Rattle.sds_told.proofs.replies.read_acks.Given as goal

abbrev pub invariant-loop-pair : goal.invariant-loop-pair
invariant-loop-pair l = record {
  so_far : acks_from l.acks l.place (map pair_texts (pairs_left l.pair-iterator)) ≡ acks_of (pairs l.text);
  count : l.place + length (pairs_left l.pair-iterator) ≤ length l.text;
}
