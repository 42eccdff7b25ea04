-- The numbers of a writer's writes count down to 1.
use Rattle.std.proofs.Common.{◌≡◌, ℕ, ◌+◌, Bool, true, false, ◌||◌, ◌&&◌, ◌==◌, not, List, [], ◌∷◌, ◌++◌, length, Option, None, Some, Result, Ok, Err, refl, ◌∙◌, arith, add-one}
use Rattle.std.specs.Prelude.{nat_lt, if◌then◌else◌}
use Rattle.std.specs.Str.{bytes_eq}
use Rattle.std.proofs.lemmas.Slice.Eq.{bytes_eq-Decides}
use Rattle.std.proofs.lemmas.Bool.Decides.{nat_tests}
use Rattle.sds_value.specs.declared.row.DocRow.{DocRow}
use Rattle.sds_types.specs.declared.config.Config.{Config}
use Rattle.sds_types.specs.declared.ack.Ack.{Ack}
use Rattle.sds_types.specs.declared.ack.AckRefusal.{AckRefusal}
use Rattle.sds_types.specs.declared.load_answer.LoadAnswer.{LoadAnswer}
use Rattle.sds_types.specs.declared.load_answer.LoadAnswer.TheVariants as load_answer
use Rattle.sds_types.specs.declared.node_fault.NodeFault.{NodeFault}
use Rattle.sds_types.specs.declared.load_answer.PeerRefusal.{PeerRefusal}
use Rattle.sds_types.specs.declared.write_answer.WriteRefusal.{WriteRefusal}
use Rattle.sds_types.specs.declared.write_answer.WriteRefusal.TheVariants.{OldNumber, GapNumber}
use Rattle.sds_types.specs.declared.write_answer.Written.{Written}
use Rattle.sds_types.specs.declared.write_answer.Written.TheVariants.{Done, Again}
use Rattle.sds_types.specs.declared.counts.WriterLast.{WriterLast}
use Rattle.sds_types.specs.declared.tx_row.TxRow.{TxRow}
use Rattle.sds_first_spec.specs.Acts.{Act, State, History}
use Rattle.sds_first_spec.specs.Acts.Act.{Wrote, Routed, Acked}
use Rattle.sds_first_spec.specs.Calls.{by_number, by_writer, write_answer, write_acts, route_answer, route_acts, load_answer_of, load_acts, acks_answer, acks_acts, unrouted}
use Rattle.sds_first_spec.specs.Capture.{steps_of}
use Rattle.sds_first_spec.specs.Changes.{changes_from}
use Rattle.sds_first_spec.specs.History.{writers_of, last_change_of, last_tx_of, state_of}
use Rattle.sds_first_spec.specs.InStep.{numbers_of, IsCountdown}
use Rattle.sds_first_spec.specs.Kept.{writer_in, with_writer}
use Rattle.sds_first_laws.specs.Runs.{Call, called, history_after, begins, WritersStayInOrder}
use Rattle.sds_first_laws.specs.Runs.Call.{Write, Route, Load, TakeAcks}

abbrev pub kept_number : Option WriterLast → ℕ
kept_number None = 0
kept_number (Some last) = last.number

only_next : (last number : ℕ) → (number == 0 || nat_lt number last) ≡ false → nat_lt (last + 1) number ≡ false
    → (number ≡ last → number ≡ 0) → number ≡ last + 1
only_next last number a b other = grind (arith, nat_tests)

-- what is done has the next number
next_by_number : (last number : ℕ) (rest : Result Written WriteRefusal) (f c : ℕ) (a b : Bool) → (number == 0 || nat_lt number last) ≡ a → nat_lt (last + 1) number ≡ b
    → (if a then Err (OldNumber last) else if b then Err (GapNumber last) else rest) ≡ Ok (Done f c) → (number ≡ last → number ≡ 0) → number ≡ last + 1
next_by_number last number rest f c true b p q done other = cc
next_by_number last number rest f c false true p q done other = cc
next_by_number last number rest f c false false p q done other = only_next last number p q other

zero_or_not : (m n : ℕ) → m ≡ n → (m == n && not (m == 0)) ≡ false → m ≡ 0
zero_or_not m n same other = grind (arith, nat_tests)

by_again : (b : Bool) (last : WriterLast) (number : ℕ) (rest : Result Written WriteRefusal) (f c : ℕ) → (number == last.number && not (number == 0)) ≡ b
    → (if b then Ok (Again last.first last.count) else by_number last.number number rest) ≡ Ok (Done f c) → number ≡ last.number + 1
by_again true last number rest f c is done = cc
by_again false last number rest f c is done = next_by_number last.number number rest f c _ _ refl refl done (λ same. zero_or_not number last.number same is)

pub next_number : (last : Option WriterLast) (number : ℕ) (rest : Result Written WriteRefusal) (f c : ℕ) → by_writer last number rest ≡ Ok (Done f c) → number ≡ kept_number last + 1
next_number None number rest f c done = next_by_number 0 number rest f c _ _ refl refl done (λ same. same)
next_number (Some last) number rest f c done = by_again (number == last.number && not (number == 0)) last number rest f c refl done

same_at : (b : Bool) (writer : List ℕ) (new last : WriterLast) (lasts : List WriterLast) → bytes_eq new.writer writer ≡ true → bytes_eq last.writer new.writer ≡ b
    → writer_in writer (with_writer new lasts) ≡ Some new → writer_in writer (if b then new ∷ lasts else last ∷ with_writer new lasts) ≡ Some new
same_at true writer new last lasts same is rest = rw same refl
same_at false writer new last lasts same is rest =
    let apart : bytes_eq last.writer writer ≡ false = rw (← (bytes_eq-Decides new.writer writer).0 same) is in rw apart rest

other_at : (b : Bool) (writer : List ℕ) (new last : WriterLast) (lasts : List WriterLast) → bytes_eq new.writer writer ≡ false → bytes_eq last.writer new.writer ≡ b
    → writer_in writer (with_writer new lasts) ≡ writer_in writer lasts → writer_in writer (if b then new ∷ lasts else last ∷ with_writer new lasts) ≡ writer_in writer (last ∷ lasts)
other_at true writer new last lasts other is rest =
    let apart : bytes_eq last.writer writer ≡ false = rw ((bytes_eq-Decides last.writer new.writer).0 is) other in rw (other, apart) refl
other_at false writer new last lasts other is rest = rw rest refl

-- what is kept of a writer after its own write, and after another's
pub writer_in-same : (writer : List ℕ) (new : WriterLast) (lasts : List WriterLast) → bytes_eq new.writer writer ≡ true → writer_in writer (with_writer new lasts) ≡ Some new
writer_in-same writer new [] same = rw same refl
writer_in-same writer new (last ∷ lasts) same = same_at (bytes_eq last.writer new.writer) writer new last lasts same refl (writer_in-same writer new lasts same)

pub writer_in-other : (writer : List ℕ) (new : WriterLast) (lasts : List WriterLast) → bytes_eq new.writer writer ≡ false → writer_in writer (with_writer new lasts) ≡ writer_in writer lasts
writer_in-other writer new [] other = rw other refl
writer_in-other writer new (last ∷ lasts) other = other_at (bytes_eq last.writer new.writer) writer new last lasts other refl (writer_in-other writer new lasts other)

-- the numbers count down, and the one that is kept is the greatest
pub record IsKept (config : Config) (writer : List ℕ) (h : History) : Type 0 where
  pub countdown : IsCountdown (numbers_of writer h.acts)
  pub greatest : kept_number (writer_in writer (writers_of config h.opening h.acts)) ≡ length (numbers_of writer h.acts)

abbrev last_by : Config → List ℕ → ℕ → List TxRow → State → List Act → WriterLast
last_by config name number rows opening acts = let first = last_change_of config opening acts + 1 in record {
  writer = name;
  number = number;
  first = first;
  count = length (changes_from config opening.me.group None first (last_tx_of opening acts + 1) (steps_of config rows));
}

abbrev with_act : History → Act → History
with_act h act = record { opening = h.opening; acts = act ∷ h.acts }

wrote_by : (config : Config) (writer name : List ℕ) (number : ℕ) (rows : List TxRow) (h : History) (b : Bool) → bytes_eq name writer ≡ b
    → number ≡ kept_number (writer_in name (writers_of config h.opening h.acts)) + 1 → IsKept config writer h → IsKept config writer (with_act h (Wrote name number rows))
wrote_by config writer name number rows h true same next kept =
    let is : name ≡ writer = (bytes_eq-Decides name writer).0 same in
    let next' : number ≡ length (numbers_of writer h.acts) + 1 = rw (is, kept.greatest) at next in
    record {
      countdown = rw same (next', kept.countdown);
      greatest = rw (writer_in-same writer (last_by config name number rows h.opening h.acts) (writers_of config h.opening h.acts) same) (rw same (next' ∙ add-one _));
    }
wrote_by config writer name number rows h false other next kept = record {
  countdown = rw other kept.countdown;
  greatest = rw (writer_in-other writer (last_by config name number rows h.opening h.acts) (writers_of config h.opening h.acts) other) (rw other kept.greatest);
}

done_next : (b : Bool) (config : Config) (name : List ℕ) (number : ℕ) (rows : List TxRow) (last : Option WriterLast) (rest : Result Written WriteRefusal) (f c : ℕ) (early : WriteRefusal)
    → (if b then Err early else by_writer last number rest) ≡ Ok (Done f c) → number ≡ kept_number last + 1
done_next true config name number rows last rest f c early done = cc
done_next false config name number rows last rest f c early done = next_number last number rest f c done

wrote : (config : Config) (writer name : List ℕ) (number : ℕ) (rows : List TxRow) (h : History) (r : Result Written WriteRefusal)
    → write_answer config (state_of config h) name number rows ≡ r → IsKept config writer h
    → IsKept config writer (record { opening = h.opening; acts = write_acts r name number rows ++ h.acts })
wrote config writer name number rows h (Err refusal) is kept = kept
wrote config writer name number rows h (Ok (Again first count)) is kept = kept
wrote config writer name number rows h (Ok (Done first count)) is kept =
    wrote_by config writer name number rows h (bytes_eq name writer) refl
    (done_next (nat_lt 10000 (length rows)) config name number rows (writer_in name (writers_of config h.opening h.acts)) _ first count _ is) kept

routed_by : (config : Config) (writer : List ℕ) (h : History) (b : Bool) → IsKept config writer h
    → IsKept config writer (record { opening = h.opening; acts = (if b then Routed ∷ [] else []) ++ h.acts })
routed_by config writer h true kept = record { countdown = kept.countdown; greatest = kept.greatest }
routed_by config writer h false kept = kept

routed : (config : Config) (writer : List ℕ) (h : History) (s : State) (r : Result ℕ NodeFault) → IsKept config writer h
    → IsKept config writer (record { opening = h.opening; acts = route_acts r s ++ h.acts })
routed config writer h s (Err fault) kept = kept
routed config writer h s (Ok batches) kept = routed_by config writer h (nat_lt 0 (length (unrouted s))) kept

loaded : (config : Config) (writer from : List ℕ) (channel batch : ℕ) (rows : List DocRow) (h : History) (r : Result LoadAnswer PeerRefusal) → IsKept config writer h
    → IsKept config writer (record { opening = h.opening; acts = load_acts r config from channel batch rows ++ h.acts })
loaded config writer from channel batch rows h (Ok (load_answer.Loaded place)) kept = record { countdown = kept.countdown; greatest = kept.greatest }
loaded config writer from channel batch rows h (Ok (load_answer.Ignored place)) kept = kept
loaded config writer from channel batch rows h (Ok load_answer.Again) kept = kept
loaded config writer from channel batch rows h (Ok (load_answer.Erred row rule)) kept = kept
loaded config writer from channel batch rows h (Ok (load_answer.Held held row rule)) kept = kept
loaded config writer from channel batch rows h (Err refusal) kept = kept

acked_by : (config : Config) (writer from : List ℕ) (acks : List Ack) (h : History) (b : Bool) → IsKept config writer h
    → IsKept config writer (record { opening = h.opening; acts = (if b then [] else Acked from acks ∷ []) ++ h.acts })
acked_by config writer from acks h true kept = kept
acked_by config writer from acks h false kept = record { countdown = kept.countdown; greatest = kept.greatest }

acked : (config : Config) (writer from : List ℕ) (acks : List Ack) (h : History) (r : Result ℕ AckRefusal) → IsKept config writer h
    → IsKept config writer (record { opening = h.opening; acts = acks_acts r from acks ++ h.acts })
acked config writer from acks h (Err refusal) kept = kept
acked config writer from acks h (Ok changed) kept = acked_by config writer from acks h (changed == 0) kept

pub IsKept-called : (config : Config) (writer : List ℕ) (h : History) (call : Call) → IsKept config writer h → IsKept config writer (called config h call)
IsKept-called config writer h (Write name number rows) kept = wrote config writer name number rows h _ refl kept
IsKept-called config writer h Route kept = routed config writer h (state_of config h) (route_answer config (state_of config h)) kept
IsKept-called config writer h (Load from channel batch rows) kept =
    loaded config writer from channel batch rows h (load_answer_of config (state_of config h) from channel batch rows) kept
IsKept-called config writer h (TakeAcks from acks) kept = acked config writer from acks h (acks_answer (state_of config h) from acks) kept

IsKept-after : (config : Config) (writer : List ℕ) (h : History) (calls : List Call) → IsKept config writer h → IsKept config writer (history_after config h calls)
IsKept-after config writer h [] kept = kept
IsKept-after config writer h (call ∷ calls) kept = IsKept-after config writer (called config h call) calls (IsKept-called config writer h call kept)

pub in_order : WritersStayInOrder
in_order config me peers calls writer = (IsKept-after config writer (begins me peers) calls (record { countdown = tt; greatest = refl })).countdown
