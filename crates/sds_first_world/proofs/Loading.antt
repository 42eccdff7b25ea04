-- The loads of a message at a node, one after another.
use Rattle.std.proofs.Common.{◌≡◌, ℕ, ◌+◌, ◌<◌, ◌≤◌, None, refl, Bool, true, false, append-nil, List, [], ◌∷◌, ◌++◌, All, drop, length, get_or, sym, ap, subst, ◌∙◌, append_assoc}
use Rattle.std.proofs.lemmas.List.{drop_more, drop_all}
use Rattle.sds_value.specs.declared.row.DocRow.{DocRow}
use Rattle.sds_types.specs.declared.ack.Ack.{Ack}
use Rattle.sds_first_spec.specs.declared.batch.Sent.{Sent}
use Rattle.sds_first_spec.specs.Acts.{History}
use Rattle.sds_first_spec.specs.One.{one}
use Rattle.sds_first_spec.specs.Outcome.{is_whole_insert}
use Rattle.sds_first_laws.specs.Loads.{is_loaded, load_of, after_load, after_loads, loads_acks}
use Rattle.sds_first_node.specs.declared.node.Node.{Node}
use Rattle.sds_first_node.specs.Meaning.{StandsFor}

abbrev pub IsWholeSent : Sent → Type 0
IsWholeSent sent = All (λ (doc : DocRow). is_whole_insert one doc ≡ true) sent.rows

-- the loads of these batches are still to come, at a node that stands for a history
pub record Goes (from : List ℕ) (sents rest : List Sent) (node : Node) (acks : List Ack) (first : History) : Type 0 where
  pub h : History
  pub stands : StandsFor node h
  pub takes : after_loads one from 0 rest h ≡ after_loads one from 0 sents first
  pub says : acks ++ loads_acks one from 0 rest h ≡ loads_acks one from 0 sents first

next_at : (sents : List Sent) (i : ℕ) (sent : Sent) → i < length sents → sent ≡ get_or sents i sent → drop i sents ≡ sent ∷ drop (i + 1) sents
next_at sents i sent inside item = drop_more sents i sent inside ∙ ap (λ (s : Sent). s ∷ drop (i + 1) sents) (sym item)

whole_at : (sents : List Sent) (i : ℕ) (sent : Sent) → i < length sents → sent ≡ get_or sents i sent → All IsWholeSent sents → IsWholeSent sent
whole_at sents i sent inside item whole = subst IsWholeSent (sym item) (whole i sent inside)

-- a batch that is loaded is behind the loads
pub go_on : (from : List ℕ) (sents : List Sent) (i : ℕ) (sent : Sent) (node new : Node) (acks more : List Ack) (holds : Bool) → i < length sents → sent ≡ get_or sents i sent
    → ((h : History) → StandsFor node h → holds ≡ is_loaded (load_of one from 0 sent h)) → ((h : History) → IsWholeSent sent → StandsFor node h → StandsFor new (after_load one from 0 sent h))
    → holds ≡ true → more ≡ acks ++ record { batch = sent.id; error = None } ∷ [] → (first : History) → All IsWholeSent sents → Goes from sents (drop i sents) node acks first
    → Goes from sents (drop (i + 1) sents) new more first
go_on from sents i sent node new acks more holds inside item loaded stands is pushed first whole goes =
    let on : is_loaded (load_of one from 0 sent goes.h) ≡ true = sym (loaded goes.h goes.stands) ∙ is in
    let next : drop i sents ≡ sent ∷ drop (i + 1) sents = next_at sents i sent inside item in
    let takes : after_loads one from 0 (sent ∷ drop (i + 1) sents) goes.h ≡ after_loads one from 0 (drop (i + 1) sents) (after_load one from 0 sent goes.h) = rw on refl in
    let says : loads_acks one from 0 (sent ∷ drop (i + 1) sents) goes.h ≡ record { batch = sent.id; error = None } ∷ loads_acks one from 0 (drop (i + 1) sents) (after_load one from 0 sent goes.h) = rw on refl in
    record {
      h = after_load one from 0 sent goes.h;
      stands = stands goes.h (whole_at sents i sent inside item whole) goes.stands;
      takes = sym takes ∙ (ap (λ (l : List Sent). after_loads one from 0 l goes.h) (sym next) ∙ goes.takes);
      says = ap (λ (l : List Ack). l ++ loads_acks one from 0 (drop (i + 1) sents) (after_load one from 0 sent goes.h)) pushed
          ∙ (append_assoc acks (record { batch = sent.id; error = None } ∷ []) (loads_acks one from 0 (drop (i + 1) sents) (after_load one from 0 sent goes.h))
          ∙ (ap (λ (l : List Ack). acks ++ l) (sym says) ∙ (ap (λ (l : List Sent). acks ++ loads_acks one from 0 l goes.h) (sym next) ∙ goes.says)));
    }

-- at one that isn't loaded the loads end
pub stop : (from : List ℕ) (sents : List Sent) (i : ℕ) (sent : Sent) (node new : Node) (acks : List Ack) (holds : Bool) → i < length sents → sent ≡ get_or sents i sent
    → ((h : History) → StandsFor node h → holds ≡ is_loaded (load_of one from 0 sent h)) → ((h : History) → IsWholeSent sent → StandsFor node h → StandsFor new (after_load one from 0 sent h))
    → holds ≡ false → (first : History) → All IsWholeSent sents → Goes from sents (drop i sents) node acks first
    → (acks ≡ loads_acks one from 0 sents first) × StandsFor new (after_loads one from 0 sents first)
stop from sents i sent node new acks holds inside item loaded stands is first whole goes =
    let off : is_loaded (load_of one from 0 sent goes.h) ≡ false = sym (loaded goes.h goes.stands) ∙ is in
    let next : drop i sents ≡ sent ∷ drop (i + 1) sents = next_at sents i sent inside item in
    let takes : after_loads one from 0 (sent ∷ drop (i + 1) sents) goes.h ≡ after_load one from 0 sent goes.h = rw off refl in
    let says : loads_acks one from 0 (sent ∷ drop (i + 1) sents) goes.h ≡ [] = rw off refl in
    let all : after_load one from 0 sent goes.h ≡ after_loads one from 0 sents first = sym takes ∙ (ap (λ (l : List Sent). after_loads one from 0 l goes.h) (sym next) ∙ goes.takes) in (
      sym (append-nil acks) ∙ (ap (λ (l : List Ack). acks ++ l) (sym says) ∙ (ap (λ (l : List Sent). acks ++ loads_acks one from 0 l goes.h) (sym next) ∙ goes.says)),
      subst (λ (h : History). StandsFor new h) all (stands goes.h (whole_at sents i sent inside item whole) goes.stands),
    )

-- behind the last batch they have ended
pub all_done : (from : List ℕ) (sents : List Sent) (i : ℕ) (node : Node) (acks : List Ack) → length sents ≤ i → (first : History) → Goes from sents (drop i sents) node acks first
    → (acks ≡ loads_acks one from 0 sents first) × StandsFor node (after_loads one from 0 sents first)
all_done from sents i node acks end first goes =
    let none : drop i sents ≡ [] = drop_all i sents end in (
      sym (append-nil acks) ∙ (ap (λ (l : List Sent). acks ++ loads_acks one from 0 l goes.h) (sym none) ∙ goes.says),
      subst (λ (h : History). StandsFor node h) (ap (λ (l : List Sent). after_loads one from 0 l goes.h) (sym none) ∙ goes.takes) goes.stands,
    )
