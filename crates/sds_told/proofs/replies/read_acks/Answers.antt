use Rattle.std.proofs.Common.{◌≡◌, ◌∙◌, List, ℕ, [], ap, map, length, arith}
use Rattle.form_urlencoded.specs.Form.{raw_pairs}
use Rattle.form_urlencoded.specs.Parse.{pairs_left}
use Rattle.form_urlencoded.proofs.CountLemmas.{length-raw_pairs}
use Rattle.sds_types.specs.declared.ack.Ack.{Ack}
use Rattle.sds_told.specs.Replies.{pair_texts, pairs}
use Rattle.sds_told.proofs.Turns.{acks_from, from_first}
use Rattle.sds_told.proofs.replies.read_acks.Goals as goal

pub loop-pair-init : goal.loop-pair-init
loop-pair-init c =
    let text = c.args.text.now in
    let left : pairs_left c.into_iter-pair-iterator.result ≡ raw_pairs text = ap pairs_left c.into_iter-pair-iterator.ensures.into_iter_gives ∙ c.parse-pair-items.ensures.value in
    let few = length-raw_pairs text in
    let count = ap length left in
    record {
      so_far = ap (λ (acks : List Ack). acks_from acks 0 (map pair_texts (pairs_left c.into_iter-pair-iterator.result))) c.new-acks.ensures
          ∙ (ap (λ (ps : List (List ℕ × List ℕ)). acks_from [] 0 (map pair_texts ps)) left ∙ from_first (pairs text));
      count = omega (arith, count, few);
    }
