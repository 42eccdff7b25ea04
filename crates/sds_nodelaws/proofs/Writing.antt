-- Each writer's writes count 1, 2, 3 and so on.
use Rattle.std.proofs.Common.{◌≡◌, ℕ, zero, suc, ◌+◌, Bool, true, false, cond, List, [], ◌∷◌, ◌++◌, length, Option, None, Some, refl, sym, ap, ◌∙◌, arith, true≢false, append-nil}
use Rattle.std.specs.List.{range_with_len}
use Rattle.std.specs.Str.{bytes_eq, encode_utf8_all}
use Rattle.std.proofs.lemmas.List.{length-append}
use Rattle.std.proofs.lemmas.Slice.Eq.{bytes_eq-Decides}
use Rattle.std.proofs.lemmas.Str.{encodes_same}
use Rattle.sds_value.specs.declared.row.Peer.{Peer}
use Rattle.sds_types.specs.declared.config.Config.{Config}
use Rattle.sds_types.specs.declared.counts.WriterLast.{WriterLast}
use Rattle.sds_types.specs.declared.tx_row.TxRow.{TxRow}
use Rattle.sds_history.specs.history.Acts.{Act, History}
use Rattle.sds_history.specs.history.Acts.Act.{Opened, Joined, Confirmed, Wrote, Routed, Loaded, Erred, Acked}
use Rattle.sds_history.specs.history.Changes.{run_after, runs_after}
use Rattle.sds_history.specs.history.Orders.{item_at, with_item}
use Rattle.sds_history.specs.history.Runs.{Run, captured_in, last_change_after}
use Rattle.sds_history.specs.history.States.{state_of}
use Rattle.sds_history.specs.history.Writers.{last_number, writer_key, writer_of}
use Rattle.sds_history.specs.world.Calling.{with_act}
use Rattle.sds_history.specs.world.LaneParts.{numbers_of, write_number}
use Rattle.sds_nodelaws.specs.Calls.{Call, act_of, begun, called_all, with_made}
use Rattle.sds_nodelaws.specs.Writers.{LastIsKept, WritersCount}
use Rattle.sds_nodelaws.proofs.Items.{new_item, other_item}
use Rattle.sds_nodelaws.proofs.Made.{Follows, made_follows}

-- what holds of a history whose acts are made by calls
record Counts (config : Config) (history : History) : Type 0 where
  last : (writer : List ℕ) → last_number (writer_of (state_of config history).writers writer) ≡ length (numbers_of writer history.acts)
  count : (writer : List ℕ) → numbers_of writer history.acts ≡ range_with_len 1 (length (numbers_of writer history.acts))

none_yet : (config : Config) (me : Peer) → Counts config (begun me)
none_yet config me = record { last = λ writer. refl; count = λ writer. refl }

-- an act that writes nothing
one_less : (n : ℕ) → n + 0 ≡ n
one_less n = omega arith

plain_numbers : (numbers : List ℕ) → length (numbers ++ []) ≡ length numbers
plain_numbers numbers = ap length (append-nil numbers)

plain : (config : Config) (history : History) (act : Act) → ((writer : List ℕ) → write_number writer act ≡ [])
    → (state_of config (with_act history act)).writers ≡ (state_of config history).writers → Counts config history → Counts config (with_act history act)
plain config history act none same counts = record {
  last = λ writer. ap (λ ws. last_number (writer_of ws writer)) same ∙ (counts.last writer ∙ sym (ap length (joined writer)));
  count = λ writer. joined writer ∙ (counts.count writer ∙ ap (range_with_len 1) (sym (ap length (joined writer))));
}
  where
    joined : (writer : List ℕ) → numbers_of writer history.acts ++ write_number writer act ≡ numbers_of writer history.acts
    joined writer = ap (λ ns. numbers_of writer history.acts ++ ns) (none writer) ∙ append-nil (numbers_of writer history.acts)

-- one more number
range_more : (a n : ℕ) → range_with_len a n ++ (a + n) ∷ [] ≡ range_with_len a (n + 1)
range_more a zero = ap (λ k. k ∷ []) (no_more a) ∙ ap (range_with_len a) (one_is 0)
  where
    no_more : (k : ℕ) → k + zero ≡ k
    no_more k = omega arith

    one_is : (k : ℕ) → suc zero ≡ zero + 1
    one_is k = omega arith
range_more a (suc n) =
    ap (λ k. a ∷ (range_with_len (a + 1) n ++ k ∷ [])) (next a n) ∙ (ap (λ ns. a ∷ ns) (range_more (a + 1) n) ∙ ap (range_with_len a) (suc_is n))
  where
    next : (k m : ℕ) → k + suc m ≡ (k + 1) + m
    next k m = omega arith

    suc_is : (k : ℕ) → suc (k + 1) ≡ suc k + 1
    suc_is k = omega arith

one_first : (n : ℕ) → n + 1 ≡ 1 + n
one_first n = omega arith

more_count : (numbers : List ℕ) (number : ℕ) → number ≡ length numbers + 1 → numbers ≡ range_with_len 1 (length numbers)
    → numbers ++ number ∷ [] ≡ range_with_len 1 (length (numbers ++ number ∷ []))
more_count numbers number follows count =
    ap (λ k. numbers ++ k ∷ []) (follows ∙ one_first (length numbers))
    ∙ (ap (λ ns. ns ++ (1 + length numbers) ∷ []) count
    ∙ (range_more 1 (length numbers) ∙ ap (range_with_len 1) (sym (length-append numbers (number ∷ [])))))

-- a write
wrote_on : (config : Config) (history : History) (writer : List ℕ) (number : ℕ) (rows : List TxRow) (other : List ℕ) (b : Bool)
    → bytes_eq writer other ≡ b → Counts config history → number ≡ last_number (writer_of (state_of config history).writers writer) + 1
    → (last_number (writer_of (state_of config (with_act history (Wrote writer number rows))).writers other)
    ≡ length (numbers_of other history.acts ++ cond b (number ∷ []) []))
    × (numbers_of other history.acts ++ cond b (number ∷ []) []
    ≡ range_with_len 1 (length (numbers_of other history.acts ++ cond b (number ∷ []) [])))
wrote_on config history writer number rows other true same counts follows =
    let one : writer ≡ other = (bytes_eq-Decides writer other).0 same in
    let next : number ≡ length (numbers_of other history.acts) + 1 =
    follows ∙ (ap (λ w. last_number (writer_of (state_of config history).writers w) + 1) one ∙ ap (λ n. n + 1) (counts.last other)) in
    let runs : List Run = runs_after config history.opening history.acts in
    let run : Run = run_after config history.opening runs (Wrote writer number rows) in
    let new : WriterLast = record {
      writer = writer;
      number = number;
      first = last_change_after config history.opening runs + 1;
      count = length (captured_in config history.opening 0 0 run);
    } in (
      ap (λ w. last_number (item_at writer_key (encode_utf8_all w) (with_item writer_key new (state_of config history).writers))) (sym one)
          ∙ (ap last_number (new_item writer_key new (state_of config history).writers)
          ∙ (next ∙ sym (length-append (numbers_of other history.acts) (number ∷ [])))),
      more_count (numbers_of other history.acts) number next (counts.count other),
    )
wrote_on config history writer number rows other false differ counts follows =
    let runs : List Run = runs_after config history.opening history.acts in
    let run : Run = run_after config history.opening runs (Wrote writer number rows) in
    let new : WriterLast = record {
      writer = writer;
      number = number;
      first = last_change_after config history.opening runs + 1;
      count = length (captured_in config history.opening 0 0 run);
    } in (
      ap last_number (other_item writer_key new (state_of config history).writers (encode_utf8_all other) apart)
          ∙ (counts.last other ∙ sym (plain_numbers (numbers_of other history.acts))),
      append-nil (numbers_of other history.acts) ∙ (counts.count other ∙ ap (range_with_len 1) (sym (plain_numbers (numbers_of other history.acts)))),
    )
  where
    apart : encode_utf8_all writer ≡ encode_utf8_all other → ⊥
    apart is = true≢false (sym ((bytes_eq-Decides writer other).1 (encodes_same writer other is)) ∙ differ)

wrote : (config : Config) (history : History) (writer : List ℕ) (number : ℕ) (rows : List TxRow) → Counts config history
    → number ≡ last_number (writer_of (state_of config history).writers writer) + 1 → Counts config (with_act history (Wrote writer number rows))
wrote config history writer number rows counts follows = record {
  last = λ other. (wrote_on config history writer number rows other (bytes_eq writer other) refl counts follows).0;
  count = λ other. (wrote_on config history writer number rows other (bytes_eq writer other) refl counts follows).1;
}

one_act : (config : Config) (history : History) (act : Act) → Counts config history → Follows (state_of config history) act → Counts config (with_act history act)
one_act config history (Wrote writer number rows) counts follows = wrote config history writer number rows counts follows
one_act config history (Opened group external token) counts follows = plain config history (Opened group external token) (λ writer. refl) refl counts
one_act config history (Joined kept) counts follows = plain config history (Joined kept) (λ writer. refl) refl counts
one_act config history (Confirmed peer) counts follows = plain config history (Confirmed peer) (λ writer. refl) refl counts
one_act config history Routed counts follows = plain config history Routed (λ writer. refl) refl counts
one_act config history (Loaded channel batch) counts follows = plain config history (Loaded channel batch) (λ writer. refl) refl counts
one_act config history (Erred from channel error) counts follows = plain config history (Erred from channel error) (λ writer. refl) refl counts
one_act config history (Acked from acks) counts follows = plain config history (Acked from acks) (λ writer. refl) refl counts

made_on : (config : Config) (history : History) (call : Call) (made : Option Act) → act_of config (state_of config history) call ≡ made → Counts config history
    → Counts config (with_made history made)
made_on config history call None is counts = counts
made_on config history call (Some act) is counts = one_act config history act counts (made_follows config (state_of config history) call act is)

all_count : (config : Config) (me : Peer) (calls : List Call) → Counts config (called_all config (begun me) calls)
all_count config me [] = none_yet config me
all_count config me (call ∷ older) =
    made_on config (called_all config (begun me) older) call (act_of config (state_of config (called_all config (begun me) older)) call) refl
    (all_count config me older)

pub writers_count : WritersCount
writers_count config me calls writer = (all_count config me calls).count writer

pub last_is_kept : LastIsKept
last_is_kept config me calls writer = (all_count config me calls).last writer
