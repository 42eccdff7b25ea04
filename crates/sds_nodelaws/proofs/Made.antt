-- What the acts of calls are: a write's number follows its writer's last, and acks name batches that were made.
use Rattle.std.proofs.Common.{◌≡◌, ℕ, ◌+◌, Bool, true, false, cond, List, Option, None, Some, Result, Ok, Err, refl, sym, ap, subst, ◌∙◌, arith, true≢false, ◌==◌, [], ◌∷◌, not, All}
use Rattle.std.specs.Prelude.{is_some, nat_lt, length}
use Rattle.std.proofs.lemmas.Bool.Decides.{nat_tests}
use Rattle.std.proofs.lemmas.List.Elements.{All-nil, All-cons}
use Rattle.sds_types.specs.Limits.{most_write_rows}
use Rattle.sds_types.specs.declared.ack.Ack.{Ack}
use Rattle.sds_types.specs.declared.ack.AckRefusal.TheVariants.{UnknownNode}
use Rattle.sds_types.specs.declared.config.Config.{Config}
use Rattle.sds_types.specs.declared.counts.WriterLast.{WriterLast}
use Rattle.sds_types.specs.declared.lane.LaneError.{LaneError}
use Rattle.sds_types.specs.declared.load_answer.LoadAnswer.{LoadAnswer}
use Rattle.sds_types.specs.declared.load_answer.LoadAnswer.TheVariants as answer
use Rattle.sds_types.specs.declared.load_answer.PeerRefusal.{PeerRefusal}
use Rattle.sds_types.specs.declared.prepared.Prepared.{Prepared}
use Rattle.sds_types.specs.declared.registration.RegRefusal.{RegRefusal}
use Rattle.sds_types.specs.declared.tx_row.TxRow.{TxRow}
use Rattle.sds_types.specs.declared.write_answer.WriteRefusal.{WriteRefusal}
use Rattle.sds_types.specs.declared.write_answer.WriteRefusal.TheVariants.{OldNumber, GapNumber, TooManyRows}
use Rattle.sds_types.specs.declared.write_answer.Written.{Written}
use Rattle.sds_types.specs.declared.write_answer.Written.TheVariants.{Done, Again}
use Rattle.sds_value.specs.declared.row.Peer.{Peer}
use Rattle.sds_history.specs.history.Acks.{acks_by, changed_by, known_answer, names_batch, own_acks_answer, unknown_ack}
use Rattle.sds_history.specs.history.Acts.{Act, State}
use Rattle.sds_history.specs.history.Acts.Act.{Opened, Joined, Confirmed, Wrote, Routed, Loaded, Erred, Acked}
use Rattle.sds_history.specs.history.Counters.{act_if, within, would_pass}
use Rattle.sds_history.specs.history.Joins.{own_join_answer}
use Rattle.sds_history.specs.history.Loads.{keeps_error, load_by, load_of, own_load_answer}
use Rattle.sds_history.specs.history.Lanes.{lane_of}
use Rattle.sds_history.specs.history.Peers.{kept_peer}
use Rattle.sds_history.specs.history.Registrations.{act_by, is_open_for, join_by, own_open_answer, own_register_answer, token_of}
use Rattle.sds_history.specs.history.Writers.{last_number, writer_of}
use Rattle.sds_history.specs.history.Writes.{last_answer, next_answer, next_write, numbered_answer, waiting_in, write_by}
use Rattle.sds_nodelaws.specs.Calls.{Call, act_of}
use Rattle.sds_nodelaws.specs.Calls.Call.{Write, Route, Load, TakeAcks, Open, Register, Join, Confirm}

-- a write's number is one more than its writer's last, and each ack is of a batch to the peer
abbrev pub Names : State → List ℕ → Ack → Type 0
Names state from ack = names_batch state from ack ≡ true

abbrev pub Follows : State → Act → Type 0
Follows state (Wrote writer number rows) = number ≡ last_number (writer_of state.writers writer) + 1
Follows state (Acked from acks) = All (Names state from) acks
Follows state act = Unit {0}

-- OPTIONS
pub nothing : {G : Type 0} (act : Act) → None ≡ Some act → G
nothing act is = absurd (true≢false (sym (ap (λ o. elim o [ None ↦ false | Some a ↦ true ]) is)))

pub same_act : (a b : Act) → Some a ≡ Some b → a ≡ b
same_act a b is = ap (λ o. elim o [ None ↦ a | Some c ↦ c ]) is

-- an act that isn't made where a counter would pass its end
within_on : (made : Option Act) (act : Act) (b : Bool) → cond b None made ≡ Some act → made ≡ Some act
within_on made act true is = nothing act is
within_on made act false is = is

pub was_within : (config : Config) (state : State) (made : Option Act) (act : Act) → within config state made ≡ Some act → made ≡ Some act
was_within config state made act is = within_on made act (would_pass config state made) is

if_on : (state : State) (plain act : Act) (b : Bool) → Follows state plain → act_if b plain ≡ Some act → Follows state act
if_on state plain act true follows is = subst (Follows state) (same_act plain act is) follows
if_on state plain act false follows is = nothing act is

-- WRITES
number_on : (number last : ℕ) → (number == 0) ≡ false → nat_lt number last ≡ false → (number == last) ≡ false → nat_lt (last + 1) number ≡ false
    → number ≡ last + 1
number_on number last some not_old not_last no_gap = grind (arith, nat_tests)

written_on : (state : State) (writer : List ℕ) (number : ℕ) (rows : List TxRow) (act : Act) (told : Result Written WriteRefusal)
    → number ≡ last_number (writer_of state.writers writer) + 1 → write_by (Wrote writer number rows) told ≡ Some act → Follows state act
written_on state writer number rows act (Ok (Done first count)) follows is = subst (Follows state) (same_act (Wrote writer number rows) act is) follows
written_on state writer number rows act (Ok (Again first count)) follows is = nothing act is
written_on state writer number rows act (Err refusal) follows is = nothing act is

again_on : (plain act : Act) (kept : Option WriterLast) → write_by plain (Ok (last_answer kept)) ≡ Some act → {G : Type 0} → G
again_on plain act None is = nothing act is
again_on plain act (Some last) is = nothing act is

numbered_on : (config : Config) (state : State) (writer : List ℕ) (number : ℕ) (rows : List TxRow) (act : Act) (kept : Option WriterLast)
    (zero_b old_b last_b gap_b : Bool) → kept ≡ writer_of state.writers writer
    → (number == 0) ≡ zero_b → nat_lt number (last_number kept) ≡ old_b → (number == last_number kept) ≡ last_b → nat_lt (last_number kept + 1) number ≡ gap_b
    → write_by (Wrote writer number rows)
    (cond zero_b (Err (OldNumber (last_number kept))) (cond old_b (Err (OldNumber (last_number kept)))
    (cond last_b (Ok (last_answer kept)) (cond gap_b (Err (GapNumber (last_number kept))) (next_answer config state writer number rows)))))
    ≡ Some act → Follows state act
numbered_on config state writer number rows act kept true old_b last_b gap_b is_kept z o l g is = nothing act is
numbered_on config state writer number rows act kept false true last_b gap_b is_kept z o l g is = nothing act is
numbered_on config state writer number rows act kept false false true gap_b is_kept z o l g is = again_on (Wrote writer number rows) act kept is
numbered_on config state writer number rows act kept false false false true is_kept z o l g is = nothing act is
numbered_on config state writer number rows act kept false false false false is_kept z o l g is =
    written_on state writer number rows act (next_answer config state writer number rows)
    (number_on number (last_number kept) z o l g ∙ ap (λ k. last_number k + 1) is_kept) is

own_on : (config : Config) (state : State) (writer : List ℕ) (number : ℕ) (rows : List TxRow) (act : Act) (b : Bool)
    → write_by (Wrote writer number rows) (cond b (Err TooManyRows) (numbered_answer config state writer number rows (writer_of state.writers writer))) ≡ Some act
    → Follows state act
own_on config state writer number rows act true is = nothing act is
own_on config state writer number rows act false is =
    let kept : Option WriterLast = writer_of state.writers writer in
    numbered_on config state writer number rows act kept (number == 0) (nat_lt number (last_number kept)) (number == last_number kept)
    (nat_lt (last_number kept + 1) number) refl refl refl refl refl is

-- OTHERS
error_on : (state : State) (from : List ℕ) (channel : ℕ) (error : LaneError) (act : Act) (b : Bool)
    → cond b None (Some (Erred from channel error)) ≡ Some act → Follows state act
error_on state from channel error act true is = nothing act is
error_on state from channel error act false is = subst (Follows state) (same_act (Erred from channel error) act is) tt

loaded_on : (state : State) (from : List ℕ) (batch : Prepared) (channel : ℕ) (told : LoadAnswer) (act : Act)
    → load_by state from batch channel told ≡ Some act → Follows state act
loaded_on state from batch channel (answer.Loaded place) act is = subst (Follows state) (same_act (Loaded channel batch) act is) tt
loaded_on state from batch channel (answer.Ignored place) act is = subst (Follows state) (same_act (Loaded channel batch) act is) tt
loaded_on state from batch channel answer.Again act is = nothing act is
loaded_on state from batch channel (answer.Erred row rule) act is =
    error_on state from channel (record { batch = batch.batch; row = row; rule = rule }) act
    (keeps_error (lane_of state.lanes from channel) (record { batch = batch.batch; row = row; rule = rule })) is
loaded_on state from batch channel (answer.Held held row rule) act is = nothing act is

load_on : (state : State) (from : List ℕ) (batch : Prepared) (channel : Option ℕ) (told : Result LoadAnswer PeerRefusal) (act : Act)
    → load_of state from batch channel told ≡ Some act → Follows state act
load_on state from batch (Some channel) (Ok told) act is = loaded_on state from batch channel told act is
load_on state from batch (Some channel) (Err refusal) act is = nothing act is
load_on state from batch None (Ok told) act is = nothing act is
load_on state from batch None (Err refusal) act is = nothing act is

not_missing : (b : Bool) → not b ≡ false → b ≡ true
not_missing true is = refl
not_missing false is = sym is

named_on : (state : State) (from : List ℕ) (ack : Ack) (acks : List Ack) (b : Bool) → not (names_batch state from ack) ≡ b
    → (unknown_ack state from acks ≡ None → All (Names state from) acks) → cond b (Some ack) (unknown_ack state from acks) ≡ None
    → All (Names state from) (ack ∷ acks)
named_on state from ack acks true isnt rest none = absurd (true≢false (ap (λ o. elim o [ None ↦ false | Some a ↦ true ]) none))
named_on state from ack acks false isnt rest none =
    All-cons (Names state from) ack acks (not_missing (names_batch state from ack) isnt) (rest none)

all_named : (state : State) (from : List ℕ) (acks : List Ack) → unknown_ack state from acks ≡ None → All (Names state from) acks
all_named state from [] none = All-nil (Names state from)
all_named state from (ack ∷ acks) none =
    named_on state from ack acks (not (names_batch state from ack)) refl (all_named state from acks) none

known_on : (config : Config) (state : State) (from : List ℕ) (acks : List Ack) (act : Act) (found : Option Ack) → unknown_ack state from acks ≡ found
    → acks_by (Acked from acks) (known_answer config state from acks found) ≡ Some act → Follows state act
known_on config state from acks act None found is =
    if_on state (Acked from acks) act (nat_lt 0 (changed_by config state (Acked from acks))) (all_named state from acks found) is
known_on config state from acks act (Some ack) found is = nothing act is

acks_on : (config : Config) (state : State) (from : List ℕ) (acks : List Ack) (act : Act) (b : Bool)
    → acks_by (Acked from acks) (cond b (known_answer config state from acks (unknown_ack state from acks)) (Err UnknownNode)) ≡ Some act
    → Follows state act
acks_on config state from acks act true is = known_on config state from acks act (unknown_ack state from acks) refl is
acks_on config state from acks act false is = nothing act is

opened_on : (state : State) (plain act : Act) (told : Result (Unit {0}) RegRefusal) → Follows state plain → act_by plain told ≡ Some act → Follows state act
opened_on state plain act (Ok unit) follows is = subst (Follows state) (same_act plain act is) follows
opened_on state plain act (Err refusal) follows is = nothing act is

kept_on : (state : State) (peer : Peer) (token : List ℕ) (child : Bool) (act : Act) (b : Bool)
    → cond b None (Some (Joined (record { peer = peer; token = token; child = child }))) ≡ Some act → Follows state act
kept_on state peer token child act true is = nothing act is
kept_on state peer token child act false is = subst (Follows state) (same_act (Joined (record { peer = peer; token = token; child = child })) act is) tt

joined_on : (state : State) (peer : Peer) (child : Bool) (act : Act) (told : Result (List ℕ) RegRefusal) → join_by state peer child told ≡ Some act
    → Follows state act
joined_on state peer child act (Ok token) is = kept_on state peer token child act (is_some (kept_peer state.peers peer.id)) is
joined_on state peer child act (Err refusal) is = nothing act is

-- ANY CALL
pub made_follows : (config : Config) (state : State) (call : Call) (act : Act) → act_of config state call ≡ Some act → Follows state act
made_follows config state (Write writer number rows) act is =
    own_on config state writer number rows act (nat_lt most_write_rows (length rows))
    (was_within config state (next_write config state writer number rows) act is)
made_follows config state Route act is =
    if_on state Routed act (nat_lt 0 (waiting_in state)) tt (was_within config state (act_if (nat_lt 0 (waiting_in state)) Routed) act is)
made_follows config state (Load from batch) act is =
    load_on state from batch batch.channel (own_load_answer config state from batch) act
    (was_within config state (load_of state from batch batch.channel (own_load_answer config state from batch)) act is)
made_follows config state (TakeAcks from acks) act is =
    acks_on config state from acks act (is_some (kept_peer state.peers from))
    (was_within config state (acks_by (Acked from acks) (own_acks_answer config state from acks)) act is)
made_follows config state (Open group external noise) act is =
    opened_on state (Opened group external (token_of noise)) act (own_open_answer config state group external) tt
    (was_within config state (act_by (Opened group external (token_of noise)) (own_open_answer config state group external)) act is)
made_follows config state (Register asks) act is =
    joined_on state asks true act (own_register_answer state asks) (was_within config state (join_by state asks true (own_register_answer state asks)) act is)
made_follows config state (Join other token) act is =
    joined_on state other false act (own_join_answer config state other token)
    (was_within config state (join_by state other false (own_join_answer config state other token)) act is)
made_follows config state (Confirm peer) act is =
    if_on state (Confirmed peer) act (is_open_for state peer) tt (was_within config state (act_if (is_open_for state peer) (Confirmed peer)) act is)
