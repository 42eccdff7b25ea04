-- What a node's lists decide is never a fault; and which act an answer is about to make.
use Rattle.std.proofs.Common.{◌≡◌, ℕ, Bool, true, false, cond, not, ◌&&◌, List, Option, None, Some, refl, sym, ap, ◌∙◌, arith}
use Rattle.std.specs.Prelude.{Result, Ok, Err, is_some, nat_lt}
use Rattle.std.proofs.lemmas.Bool.Decides.{nat_tests}
use Rattle.sds_value.specs.declared.row.Peer.{Peer}
use Rattle.sds_types.specs.declared.ack.Ack.{Ack}
use Rattle.sds_types.specs.declared.ack.AckRefusal.{AckRefusal}
use Rattle.sds_types.specs.declared.ack.AckRefusal.TheVariants as ack
use Rattle.sds_types.specs.declared.config.Config.{Config}
use Rattle.sds_types.specs.declared.node_fault.NodeFault.{NodeFault}
use Rattle.sds_types.specs.declared.registration.Opening.{Opening}
use Rattle.sds_types.specs.declared.registration.RegRefusal.{RegRefusal}
use Rattle.sds_types.specs.declared.registration.RegRefusal.TheVariants as reg
use Rattle.sds_history.specs.history.Acks.{acks_by, changed_by, known_answer, next_acks, own_acks_answer, unknown_ack}
use Rattle.sds_history.specs.history.Acts.{Act, State}
use Rattle.sds_history.specs.history.Acts.Act.{Acked, Joined}
use Rattle.sds_history.specs.history.Counters.{act_if}
use Rattle.sds_history.specs.history.Joins.{is_another, own_join_answer, told_join}
use Rattle.sds_history.specs.history.Links.{are_linked}
use Rattle.sds_history.specs.history.Openings.{opening_of}
use Rattle.sds_history.specs.history.Peers.{kept_peer}
use Rattle.sds_history.specs.history.Registrations.{given_answer, is_closed, is_full, is_taken, join_by, own_open_answer, own_register_answer}
use Rattle.sds_acts.specs.Parts.{kept_with_token}

-- NO FAULT
pub open_fine : (config : Config) (state : State) (group external : List ℕ) (fault : NodeFault)
    → own_open_answer config state group external ≡ Err (reg.Fault fault) → ⊥
open_fine config state group external fault is =
    on (not (are_linked config group state.me.group)) (is_some (opening_of state.openings group external)) is
  where
    on : (a b : Bool) → ◌≡◌ {A = Result (Unit {0}) RegRefusal} (cond a (Err reg.UnknownGroup) (cond b (Err reg.AlreadyOpen) (Ok tt))) (Err (reg.Fault fault)) → ⊥
    on true b is = absurd (cc)
    on false true is = absurd (cc)
    on false false is = absurd (cc)

pub register_fine : (state : State) (asks : Peer) (fault : NodeFault) → own_register_answer state asks ≡ Err (reg.Fault fault) → ⊥
register_fine state asks fault is = on (opening_of state.openings asks.group asks.external) is
  where
    given : (token : List ℕ) (a b c : Bool)
        → ◌≡◌ {A = Result (List ℕ) RegRefusal} (cond a (Err reg.NotOpen) (cond b (Err reg.IdTaken) (cond c (Err reg.TooManyNodes) (Ok token)))) (Err (reg.Fault fault)) → ⊥
    given token true b c is = absurd (cc)
    given token false true c is = absurd (cc)
    given token false false true is = absurd (cc)
    given token false false false is = absurd (cc)

    on : (found : Option Opening)
        → ◌≡◌ {A = Result (List ℕ) RegRefusal} (elim found [ None ↦ Err reg.NotOpen | Some opening ↦ given_answer state asks opening ]) (Err (reg.Fault fault)) → ⊥
    on None is = absurd (cc)
    on (Some opening) is =
        given opening.token (is_closed opening.stage) (is_taken state opening asks.id) (not (is_some (kept_peer state.peers asks.id)) && is_full state) is

pub join_fine : (config : Config) (state : State) (other : Peer) (token : List ℕ) (fault : NodeFault)
    → told_join (own_join_answer config state other token) ≡ Err (reg.Fault fault) → ⊥
join_fine config state other token fault is =
    on (not (are_linked config other.group state.me.group)) (is_another state other token)
    (not (is_some (kept_peer state.peers other.id)) && is_full state) is
  where
    on : (a b c : Bool) → told_join (cond a (Err reg.UnknownGroup) (cond b (Err reg.IdTaken) (cond c (Err reg.TooManyNodes) (Ok token)))) ≡ Err (reg.Fault fault) → ⊥
    on true b c is = absurd (cc)
    on false true c is = absurd (cc)
    on false false true is = absurd (cc)
    on false false false is = absurd (cc)

pub acks_fine : (config : Config) (state : State) (from : List ℕ) (acks : List Ack) (fault : NodeFault)
    → own_acks_answer config state from acks ≡ Err (ack.Fault fault) → ⊥
acks_fine config state from acks fault is = on (is_some (kept_peer state.peers from)) (unknown_ack state from acks) is
  where
    on : (a : Bool) (unknown : Option Ack) → cond a (known_answer config state from acks unknown) (Err ack.UnknownNode) ≡ Err (ack.Fault fault) → ⊥
    on true None is = absurd (cc)
    on true (Some found) is = absurd (cc)
    on false unknown is = absurd (cc)

-- JOINS: an answer with a token keeps a peer that isn't kept
pub joins_none : (state : State) (peer : Peer) (child : Bool) (own : Result (List ℕ) RegRefusal) → is_some (kept_peer state.peers peer.id) ≡ true
    → join_by state peer child own ≡ None
joins_none state peer child (Ok token) is = ap (λ (b : Bool). cond b None (Some (Joined (kept_with_token peer token child)))) is
joins_none state peer child (Err refusal) is = refl

pub joins_refused : (state : State) (peer : Peer) (child : Bool) (own : Result (List ℕ) RegRefusal) (refusal : RegRefusal) → own ≡ Err refusal
    → join_by state peer child own ≡ None
joins_refused state peer child own refusal is = ap (join_by state peer child) is

pub joins_new : (state : State) (peer : Peer) (child : Bool) (own : Result (List ℕ) RegRefusal) (token : List ℕ) → is_some (kept_peer state.peers peer.id) ≡ false
    → own ≡ Ok token → join_by state peer child own ≡ Some (Joined (kept_with_token peer token child))
joins_new state peer child own token isnt is =
    ap (join_by state peer child) is ∙ ap (λ (b : Bool). cond b None (Some (Joined (kept_with_token peer token child)))) isnt

-- what is told of a join that isn't refused is its token
pub join_told : (config : Config) (state : State) (other : Peer) (token : List ℕ) → told_join (own_join_answer config state other token) ≡ Ok tt
    → own_join_answer config state other token ≡ Ok token
join_told config state other token is =
    on (not (are_linked config other.group state.me.group)) (is_another state other token)
    (not (is_some (kept_peer state.peers other.id)) && is_full state) is
  where
    on : (a b c : Bool) → told_join (cond a (Err reg.UnknownGroup) (cond b (Err reg.IdTaken) (cond c (Err reg.TooManyNodes) (Ok token)))) ≡ Ok tt
        → cond a (Err reg.UnknownGroup) (cond b (Err reg.IdTaken) (cond c (Err reg.TooManyNodes) (Ok token))) ≡ Ok token
    on true b c is = absurd (cc)
    on false true c is = absurd (cc)
    on false false true is = absurd (cc)
    on false false false is = refl

pub join_refused : (state : State) (peer : Peer) (own : Result (List ℕ) RegRefusal) (refusal : RegRefusal) → told_join own ≡ Err refusal
    → join_by state peer false own ≡ None
join_refused state peer (Ok token) refusal is = absurd (cc)
join_refused state peer (Err other) refusal is = refl

-- ACKS: an act where a batch changes
pub acks_none : (config : Config) (state : State) (from : List ℕ) (acks : List Ack) (n : ℕ)
    → own_acks_answer config state from acks ≡ Ok (changed_by config state (Acked from acks)) → n ≡ changed_by config state (Acked from acks) → n ≡ 0
    → next_acks config state from acks ≡ None
acks_none config state from acks n own is zero =
    ap (acks_by (Acked from acks)) own ∙ ap (λ (k : ℕ). act_if (nat_lt 0 k) (Acked from acks)) (sym is ∙ zero)

pub acks_some : (config : Config) (state : State) (from : List ℕ) (acks : List Ack) (n : ℕ)
    → own_acks_answer config state from acks ≡ Ok (changed_by config state (Acked from acks)) → n ≡ changed_by config state (Acked from acks)
    → nat_lt 0 n ≡ true → next_acks config state from acks ≡ Some (Acked from acks)
acks_some config state from acks n own is more =
    ap (acks_by (Acked from acks)) own
    ∙ (ap (λ (k : ℕ). act_if (nat_lt 0 k) (Acked from acks)) (sym is) ∙ ap (λ (b : Bool). act_if b (Acked from acks)) more)

pub more_than_none : (n : ℕ) → (n ≡ 0 → ⊥) → nat_lt 0 n ≡ true
more_than_none n some = grind (arith, nat_tests, some)
