-- The act of a call that is asked rightly of a sound state has what it is due.
use Rattle.std.proofs.Common.{◌≡◌, ℕ, zero, suc, ◌+◌, ◌<◌, ◌≤◌, Bool, true, false, cond, List, [], ◌∷◌, length, Option, None, Some, refl, sym, ap, subst, ◌∙◌, arith, not, ◌&&◌, All}
use Rattle.std.specs.List.{list_all}
use Rattle.std.specs.Option.{option_map_or}
use Rattle.std.specs.Prelude.{is_some, nat_le, Result, Ok, Err}
use Rattle.std.specs.Str.{bytes_eq, encode_utf8_all}
use Rattle.std.proofs.lemmas.List.Sums.{AllPass-from_list_all}
use Rattle.sds_value.specs.Names.{is_name_text}
use Rattle.sds_value.specs.declared.row.Peer.{Peer}
use Rattle.sds_types.specs.Limits.{most_count, most_peers}
use Rattle.sds_types.specs.declared.channel.ChannelDef.{ChannelDef}
use Rattle.sds_types.specs.declared.config.Config.{Config}
use Rattle.sds_types.specs.declared.counts.WriterLast.{WriterLast}
use Rattle.sds_types.specs.declared.lane.LaneError.{LaneError}
use Rattle.sds_types.specs.declared.link.LinkDef.{LinkDef}
use Rattle.sds_types.specs.declared.peer.KeptPeer.{KeptPeer}
use Rattle.sds_types.specs.declared.prepared.Prepared.{Prepared}
use Rattle.sds_types.specs.declared.registration.Opening.{Opening}
use Rattle.sds_types.specs.declared.registration.RegRefusal.{RegRefusal}
use Rattle.sds_types.specs.declared.registration.RegRefusal.TheVariants as reg
use Rattle.sds_types.specs.declared.tx_row.TxRow.{TxRow}
use Rattle.sds_trade.specs.rules.Places.{group_name, is_among}
use Rattle.sds_trade.specs.rules.Sound.{IsSound}
use Rattle.sds_history.specs.history.Acts.{Act, State}
use Rattle.sds_history.specs.history.Acts.Act.{Opened, Joined, Wrote, Loaded, Erred}
use Rattle.sds_history.specs.history.Joins.{is_another, join_act, next_join, own_join_answer}
use Rattle.sds_history.specs.history.Lanes.{lane_of}
use Rattle.sds_history.specs.history.Links.{are_linked, has_way, link_leads}
use Rattle.sds_history.specs.history.Loads.{knows_sender, load_act, load_of, next_load, own_load_answer}
use Rattle.sds_history.specs.history.Openings.{opening_key, opening_of}
use Rattle.sds_history.specs.history.Orders.{pair_key}
use Rattle.sds_history.specs.history.Peers.{kept_peer}
use Rattle.sds_history.specs.history.Registrations.{act_by, is_closed, is_full, is_taken, join_by, next_open, next_register, open_act, own_register_answer, register_act, token_of}
use Rattle.sds_history.specs.history.SoundParts.{is_kept_peer, is_opening, is_peer, is_token}
use Rattle.sds_history.specs.history.SoundStates.{IsSoundState, is_counted_writer}
use Rattle.sds_history.specs.history.Writers.{last_number, writer_key, writer_of}
use Rattle.sds_history.specs.history.Writes.{write_act}
use Rattle.sds_nodelaws.specs.Asked.{IsAsked, IsReadFrom, are_spelt, is_named_peer, is_noise}
use Rattle.sds_nodelaws.specs.Calls.{Call, act_of}
use Rattle.sds_nodelaws.specs.Calls.Call.{Write, Route, Load, TakeAcks, Open, Register, Join, Confirm}
use Rattle.sds_nodelaws.proofs.CallActs.{LoadMade, acks_is, asked, confirm_is, join_is, load_is, open_is, register_is, route_is, write_is}
use Rattle.sds_nodelaws.proofs.Due.{Due}
use Rattle.sds_nodelaws.proofs.Items.{equal}
use Rattle.sds_nodelaws.proofs.KeyedLists.{position_within}
use Rattle.sds_nodelaws.proofs.Lists.{and_both, and_left, and_right, any_gives, find_all, find_passes, from_le, from_not_le}
use Rattle.sds_nodelaws.proofs.Lists.{Either}
use Rattle.sds_nodelaws.proofs.Lists.Either.{left, right}
use Rattle.sds_nodelaws.proofs.Made.{made_follows, nothing, same_act, was_within}
use Rattle.sds_nodelaws.proofs.NodeFacts.{IsKept}
use Rattle.sds_nodelaws.proofs.PairKeys.{first_same, token_is}
use Rattle.sds_nodelaws.proofs.Tests.{or_cases, or_left, or_right}

-- GROUPS that links join are the configuration's
place_among : (groups : List (List ℕ)) (place : ℕ) (name : List ℕ) → place < length groups → bytes_eq (group_name groups place) name ≡ true
    → is_among groups name ≡ true
place_among [] place name less is = absurd (omega (arith, less))
place_among (group ∷ groups) zero name less is = or_left (bytes_eq group name) (is_among groups name) is
place_among (group ∷ groups) (suc place) name less is =
    or_right (bytes_eq group name) (is_among groups name) (place_among groups place name (omega (arith, less)) is)

abbrev LinkThere : Config → LinkDef → Type 0
LinkThere config link = (link.source < length config.groups) × (link.target < length config.groups)

links_there : (config : Config) → IsSound config → All (LinkThere config) config.links
links_there config sound k d within = (sound.links.source k d within, sound.links.target k d within)

linked_among : (config : Config) (a b : List ℕ) → IsSound config → are_linked config a b ≡ true → is_among config.groups a ≡ true
linked_among config a b sound linked =
    or_cases (has_way config a b) (has_way config b a) linked
    (λ from. any_gives (link_leads config a b) (LinkThere config) config.links from (links_there config sound)
    (λ link leads there. place_among config.groups link.source a there.0
    (and_left (bytes_eq (group_name config.groups link.source) a) (bytes_eq (group_name config.groups link.target) b) leads)))
    (λ to. any_gives (link_leads config b a) (LinkThere config) config.links to (links_there config sound)
    (λ link leads there. place_among config.groups link.target a there.1
    (and_right (bytes_eq (group_name config.groups link.source) b) (bytes_eq (group_name config.groups link.target) a) leads)))

-- WRITES
last_counted : (state : State) (writer : List ℕ) → list_all (is_counted_writer state.counts) state.writers ≡ true
    → last_number (writer_of state.writers writer) ≤ state.counts.acts
last_counted state writer are = on (writer_of state.writers writer) refl
  where
    none_yet : (n : ℕ) → 0 ≤ n
    none_yet n = omega arith

    on : (found : Option WriterLast) → writer_of state.writers writer ≡ found → last_number found ≤ state.counts.acts
    on None is = none_yet state.counts.acts
    on (Some last) is =
        let counted : is_counted_writer state.counts last ≡ true =
        find_all (λ (l : WriterLast). is_counted_writer state.counts l ≡ true) (λ (l : WriterLast). bytes_eq (writer_key l) (encode_utf8_all writer)) state.writers last
        (AllPass-from_list_all (is_counted_writer state.counts) state.writers are) is in
        from_le last.number state.counts.acts
        (and_left (nat_le last.number state.counts.acts) (nat_le (last.first + last.count) (state.counts.last_change + 1))
        (and_right (is_name_text last.writer) (nat_le last.number state.counts.acts && nat_le (last.first + last.count) (state.counts.last_change + 1)) counted))

write_due : (config : Config) (state : State) (writer : List ℕ) (number : ℕ) (rows : List TxRow) (act : Act) → IsSoundState config state
    → (is_name_text writer && are_spelt rows) ≡ true → write_act config state writer number rows ≡ Some act → Due config state act
write_due config state writer number rows act sound asked is =
    let same : act ≡ Wrote writer number rows = write_is config state writer number rows act is in
    let made : write_act config state writer number rows ≡ Some (Wrote writer number rows) = is ∙ ap Some same in
    subst (Due config state) (sym same) (
      and_left (is_name_text writer) (are_spelt rows) asked,
      next number (last_number (writer_of state.writers writer)) state.counts.acts
          (made_follows config state (Write writer number rows) (Wrote writer number rows) made) (last_counted state writer sound.writers),
      and_right (is_name_text writer) (are_spelt rows) asked,
    )
  where
    next : (n last acts : ℕ) → n ≡ last + 1 → last ≤ acts → n ≤ acts + 1
    next n last acts is less = omega (arith, is, less)

-- OPENINGS
abbrev open_told : Bool → Bool → Result (Unit {0}) RegRefusal
open_told linked stands = cond (not linked) (Err reg.UnknownGroup) (cond stands (Err reg.AlreadyOpen) (Ok tt))

open_due : (config : Config) (state : State) (group external noise : List ℕ) (act : Act) → IsSound config
    → (is_name_text group && (is_name_text external && is_noise noise)) ≡ true → open_act config state group external noise ≡ Some act → Due config state act
open_due config state group external noise act sound asked is =
    let rest : (is_name_text external && is_noise noise) ≡ true = and_right (is_name_text group) (is_name_text external && is_noise noise) asked in
    subst (Due config state) (sym (open_is config state group external noise act is))
    (and_both (is_among config.groups group) (is_name_text external && is_token (token_of noise))
    (linked_among config group state.me.group sound
    (on (are_linked config group state.me.group) (is_some (opening_of state.openings group external)) (was_within config state (next_open config state group external noise) act is)))
    (and_both (is_name_text external) (is_token (token_of noise)) (and_left (is_name_text external) (is_noise noise) rest)
    (token_is noise (and_right (is_name_text external) (is_noise noise) rest))))
  where
    on : (linked stands : Bool) → act_by (Opened group external (token_of noise)) (open_told linked stands) ≡ Some act → linked ≡ true
    on true stands made = refl
    on false stands made = nothing act made

-- JOINS. What an answer with a token tells
no_token : {G : Type 0} (refusal : RegRefusal) (token : List ℕ) → Err refusal ≡ Ok token → G
no_token refusal token is = absurd (cc)

joined_by : (state : State) (peer : Peer) (child : Bool) (told : Result (List ℕ) RegRefusal) (act : Act) → join_by state peer child told ≡ Some act
    → (token : List ℕ) × (told ≡ Ok token) × (act ≡ Joined (record { peer = peer; token = token; child = child }))
joined_by state peer child (Err refusal) act made = nothing act made
joined_by state peer child (Ok token) act made = (token, refl, on (is_some (kept_peer state.peers peer.id)) made)
  where
    on : (b : Bool) → cond b None (Some (Joined (record { peer = peer; token = token; child = child }))) ≡ Some act
        → act ≡ Joined (record { peer = peer; token = token; child = child })
    on true made = nothing act made
    on false made = sym (same_act (Joined (record { peer = peer; token = token; child = child })) act made)

room_for : (state : State) (id : List ℕ) → kept_peer state.peers id ≡ None → (not (is_some (kept_peer state.peers id)) && is_full state) ≡ false
    → length state.peers + 1 ≤ most_peers
room_for state id none room =
    next (length state.peers) (from_not_le most_peers (length state.peers)
    (sym (ap (λ (o : Option KeptPeer). not (is_some o) && is_full state) none) ∙ room))
  where
    next : (n : ℕ) → n < most_peers → n + 1 ≤ most_peers
    next n less = omega (arith, less)

-- of a registration: the opening, and that there is room
record Given (config : Config) (state : State) (asks : Peer) (token : List ℕ) : Type 0 where
  opening : Opening
  found : opening_of state.openings asks.group asks.external ≡ Some opening
  same : opening.token ≡ token
  room : (not (is_some (kept_peer state.peers asks.id)) && is_full state) ≡ false

given_is : (config : Config) (state : State) (asks : Peer) (token : List ℕ) → own_register_answer state asks ≡ Ok token → Given config state asks token
given_is config state asks token told = on (opening_of state.openings asks.group asks.external) refl told
  where
    by_answer : (opening : Opening) → opening_of state.openings asks.group asks.external ≡ Some opening → (closed taken full : Bool)
        → (not (is_some (kept_peer state.peers asks.id)) && is_full state) ≡ full
        → cond closed (Err reg.NotOpen) (cond taken (Err reg.IdTaken) (cond full (Err reg.TooManyNodes) (Ok opening.token))) ≡ Ok token
        → Given config state asks token
    by_answer opening is true taken full room told = no_token reg.NotOpen token told
    by_answer opening is false true full room told = no_token reg.IdTaken token told
    by_answer opening is false false true room told = no_token reg.TooManyNodes token told
    by_answer opening is false false false room told = record { opening = opening; found = is; same = cc; room = room }

    on : (found : Option Opening) → opening_of state.openings asks.group asks.external ≡ found
        → asked state asks found ≡ Ok token → Given config state asks token
    on None is told = no_token reg.NotOpen token told
    on (Some opening) is told =
        by_answer opening is (is_closed opening.stage) (is_taken state opening asks.id) (not (is_some (kept_peer state.peers asks.id)) && is_full state) refl told

peer_fits : (config : Config) (peer : Peer) (token : List ℕ) (child : Bool) → is_named_peer peer ≡ true → is_among config.groups peer.group ≡ true → is_token token ≡ true
    → is_kept_peer config (record { peer = peer; token = token; child = child }) ≡ true
peer_fits config peer token child named among is =
    let rest : (is_name_text peer.group && is_name_text peer.external) ≡ true = and_right (is_name_text peer.id) (is_name_text peer.group && is_name_text peer.external) named in
    and_both (is_peer config peer) (is_token token)
    (and_both (is_name_text peer.id) (is_among config.groups peer.group && is_name_text peer.external)
    (and_left (is_name_text peer.id) (is_name_text peer.group && is_name_text peer.external) named)
    (and_both (is_among config.groups peer.group) (is_name_text peer.external) among (and_right (is_name_text peer.group) (is_name_text peer.external) rest))) is

register_due : (config : Config) (state : State) (asks : Peer) (act : Act) → IsSoundState config state → is_named_peer asks ≡ true
    → register_act config state asks ≡ Some act → Due config state act
register_due config state asks act sound named is =
    let joins = register_is config state asks act is in
    let (token, told, same_join) = joined_by state asks true (own_register_answer state asks) act (was_within config state (next_register state asks) act is) in
    let given = given_is config state asks token told in
    let fits : is_opening config given.opening ≡ true =
    find_all (λ (o : Opening). is_opening config o ≡ true) (λ (o : Opening). bytes_eq (opening_key o) (pair_key asks.group asks.external)) state.openings given.opening
    (AllPass-from_list_all (is_opening config) state.openings sound.openings) given.found in
    let rest : (is_name_text given.opening.external && is_token given.opening.token) ≡ true =
    and_right (is_among config.groups given.opening.group) (is_name_text given.opening.external && is_token given.opening.token) fits in
    let same : given.opening.group ≡ asks.group =
    first_same given.opening.group given.opening.external asks.group asks.external
    (and_left (is_name_text given.opening.external) (is_token given.opening.token) rest)
    (and_right (is_name_text asks.group) (is_name_text asks.external) (and_right (is_name_text asks.id) (is_name_text asks.group && is_name_text asks.external) named))
    (equal (opening_key given.opening) (pair_key asks.group asks.external)
    (find_passes (λ (o : Opening). bytes_eq (opening_key o) (pair_key asks.group asks.external)) state.openings given.opening given.found)) in
    subst (Due config state) (sym same_join) (
      peer_fits config asks token true named
          (subst (λ g. is_among config.groups g ≡ true) same
          (and_left (is_among config.groups given.opening.group) (is_name_text given.opening.external && is_token given.opening.token) fits))
          (subst (λ t. is_token t ≡ true) given.same (and_right (is_name_text given.opening.external) (is_token given.opening.token) rest)),
      record { joins = (joins.new, joins.other); few = room_for state asks.id joins.new given.room },
    )

join_due : (config : Config) (state : State) (other : Peer) (token : List ℕ) (act : Act) → IsSound config → (is_named_peer other && is_token token) ≡ true
    → join_act config state other token ≡ Some act → Due config state act
join_due config state other token act sound asked is =
    let joins = join_is config state other token act is in
    let (own, told, same) = joined_by state other false (own_join_answer config state other token) act (was_within config state (next_join config state other token) act is) in
    let parts = on own (are_linked config other.group state.me.group) refl (is_another state other token)
    (not (is_some (kept_peer state.peers other.id)) && is_full state) refl told in
    subst (Due config state) (sym same) (
      peer_fits config other own false (and_left (is_named_peer other) (is_token token) asked) (linked_among config other.group state.me.group sound parts.0)
          (subst (λ t. is_token t ≡ true) parts.1 (and_right (is_named_peer other) (is_token token) asked)),
      record { joins = (joins.new, joins.other); few = room_for state other.id joins.new parts.2 },
    )
  where
    on : (own : List ℕ) (linked : Bool) → are_linked config other.group state.me.group ≡ linked → (another full : Bool)
        → (not (is_some (kept_peer state.peers other.id)) && is_full state) ≡ full
        → cond (not linked) (Err reg.UnknownGroup) (cond another (Err reg.IdTaken) (cond full (Err reg.TooManyNodes) (Ok token))) ≡ Ok own
        → (are_linked config other.group state.me.group ≡ true) × (token ≡ own) × ((not (is_some (kept_peer state.peers other.id)) && is_full state) ≡ false)
    on own false is another full room told = no_token reg.UnknownGroup own told
    on own true is true full room told = no_token reg.IdTaken own told
    on own true is false true room told = no_token reg.TooManyNodes own told
    on own true is false false room told = (is, cc, room)

-- LOADS
sender_kept : (state : State) (from : List ℕ) (batch : Prepared) → knows_sender state from batch ≡ true → IsKept state.peers from
sender_kept state from batch knows = on (kept_peer state.peers from) knows
  where
    on : (found : Option KeptPeer) → option_map_or (λ (kept : KeptPeer). bytes_eq kept.peer.group batch.from_group) found false ≡ true → is_some found ≡ true
    on None known = known
    on (Some p) known = refl

load_due : (config : Config) (state : State) (from : List ℕ) (batch : Prepared) (act : Act) → IsReadFrom config from batch
    → load_act config state from batch ≡ Some act → Due config state act
load_due config state from batch act read is = by_channel batch.channel refl
  where
    sent : batch.from ≡ from
    sent = ap (λ (b : Prepared). b.from) read.read ∙ read.source

    most : batch.batch ≤ most_count
    most = subst (λ n. n ≤ most_count) (sym (ap (λ (b : Prepared). b.batch) read.read)) read.last

    there : (channel : ℕ) → batch.channel ≡ Some channel → channel < length config.channels
    there channel named =
        position_within (λ (def : ChannelDef). bytes_eq def.id read.document.channel) config.channels channel
        (sym (ap (λ (b : Prepared). b.channel) read.read) ∙ named)

    by_act : (channel : ℕ) → batch.channel ≡ Some channel → LoadMade state from batch channel act
        → Either (act ≡ Loaded channel batch) ((error : LaneError) × (act ≡ Erred from channel error) × (error.batch ≡ batch.batch)) → Due config state act
    by_act channel named made (left same) =
        subst (Due config state) (sym same) (record {
          from = from;
          read = read;
          kept = subst (IsKept state.peers) (sym sent) (sender_kept state from batch made.knows);
          there = there channel named;
          most = most;
        })
    by_act channel named made (right (error, same, number)) =
        subst (Due config state) (sym same) (
          sender_kept state from batch made.knows,
          there channel named,
          subst (λ n. (lane_of state.lanes from channel).highest < n) (sym number) made.later,
          subst (λ n. n ≤ most_count) (sym number) most,
        )

    by_channel : (channel : Option ℕ) → batch.channel ≡ channel → Due config state act
    by_channel None named =
        nothing act (sym (ap (λ (c : Option ℕ). load_of state from batch c (own_load_answer config state from batch)) named)
        ∙ was_within config state (next_load config state from batch) act is)
    by_channel (Some channel) named =
        let made = load_is config state from batch channel act named is in
        by_act channel named made made.is

-- ALL CALLS
pub asked_due : (config : Config) (state : State) (call : Call) (act : Act) → IsSound config → IsSoundState config state → IsAsked config state call
    → act_of config state call ≡ Some act → Due config state act
asked_due config state (Write writer number rows) act sound whole asked is = write_due config state writer number rows act whole asked is
asked_due config state Route act sound whole asked is = subst (Due config state) (sym (route_is config state act is)) tt
asked_due config state (Load from batch) act sound whole asked is = load_due config state from batch act asked is
asked_due config state (TakeAcks from acks) act sound whole asked is = subst (Due config state) (sym (acks_is config state from acks act is)) asked
asked_due config state (Open group external noise) act sound whole asked is = open_due config state group external noise act sound asked is
asked_due config state (Register asks) act sound whole asked is = register_due config state asks act whole asked is
asked_due config state (Join other token) act sound whole asked is = join_due config state other token act sound asked is
asked_due config state (Confirm peer) act sound whole asked is = subst (Due config state) (sym (confirm_is config state peer act is)) tt
