-- The opening that is given to a peer: at most one of openings that ascend is its.
use Rattle.std.proofs.Common.{◌≡◌, Bool, true, false, cond, List, [], ◌∷◌, map, Option, None, Some, refl, sym, ap, subst, ◌∙◌, ◌++◌, ℕ, append-nil, true≢false, filter, find, All}
use Rattle.std.specs.Str.{bytes_eq}
use Rattle.std.proofs.lemmas.Slice.Eq.{bytes_eq-Decides}
use Rattle.sds_outside.specs.declared.keeping.Edit.{Edit}
use Rattle.sds_value.specs.declared.row.Peer.{Peer}
use Rattle.sds_types.specs.declared.registration.Opening.{Opening}
use Rattle.sds_types.specs.declared.registration.Stage.TheVariants.{Given}
use Rattle.sds_trade.proofs.Lists.{pairs_head, pairs_tail}
use Rattle.sds_history.specs.history.Openings.{given_to, is_opening_of, opening_key, opening_of}
use Rattle.sds_history.specs.history.Orders.{is_before, pair_key}
use Rattle.sds_history.specs.history.Records.{opening_record}
use Rattle.sds_history.specs.history.SoundParts.{AscendBy}
use Rattle.sds_imagelaws.specs.Edits.{puts_of}
use Rattle.sds_nodelaws.proofs.Held.{mapped}
use Rattle.sds_nodelaws.proofs.KeyedLists.{never_before_itself}
use Rattle.sds_nodelaws.proofs.Lists.{filter_none}
use Rattle.sds_acts.specs.Parts.{given_openings}

-- an opening, given to a peer
abbrev pub with_node : Peer → Opening → Opening
with_node peer opening = record opening { stage = Given peer.id }

abbrev pub given_if_found : Peer → Option Opening → List Opening
given_if_found peer None = []
given_if_found peer (Some opening) = with_node peer opening ∷ []

abbrev Before : Opening → Opening → Type 0
Before a b = is_before (opening_key a) (opening_key b) ≡ true

-- after the one that is found there is no other
other_on : (peer : Peer) (found other : Opening) (b : Bool) → is_opening_of peer other ≡ b → is_opening_of peer found ≡ true → Before found other → b ≡ false
other_on peer found other false is first less = refl
other_on peer found other true is first less =
    let one : opening_key other ≡ opening_key found =
    (bytes_eq-Decides (opening_key other) (pair_key peer.group peer.external)).0 is
    ∙ sym ((bytes_eq-Decides (opening_key found) (pair_key peer.group peer.external)).0 first) in
    never_before_itself (opening_key found) (subst (λ k. is_before (opening_key found) k ≡ true) one less)

found_on : (peer : Peer) (opening : Opening) (openings : List Opening) (b : Bool) → is_opening_of peer opening ≡ b
    → All (Before opening) openings → map (given_to peer) (filter (is_opening_of peer) openings) ≡ given_if_found peer (find (is_opening_of peer) openings)
    → map (given_to peer) (cond b (opening ∷ filter (is_opening_of peer) openings) (filter (is_opening_of peer) openings))
    ≡ given_if_found peer (cond b (Some opening) (find (is_opening_of peer) openings))
found_on peer opening openings false is later rest = rest
found_on peer opening openings true is later rest =
    ap (λ (os : List Opening). given_to peer opening ∷ map (given_to peer) os)
    (filter_none (is_opening_of peer) openings
    (mapped (Before opening) (λ (o : Opening). is_opening_of peer o ≡ false) openings
    (λ other less. other_on peer opening other (is_opening_of peer other) refl is less) later))
    ∙ ap (λ (b : Bool). cond b (with_node peer opening) opening ∷ []) is

pub one_given : (peer : Peer) (openings : List Opening) → AscendBy opening_key openings
    → given_openings peer openings ≡ given_if_found peer (find (is_opening_of peer) openings)
one_given peer [] ascend = refl
one_given peer (opening ∷ openings) ascend =
    found_on peer opening openings (is_opening_of peer opening) refl (pairs_head Before opening openings ascend)
    (one_given peer openings (pairs_tail Before opening openings ascend))

-- so by what is found
pub given_found : (peer : Peer) (openings : List Opening) (found : Option Opening) → AscendBy opening_key openings
    → found ≡ find (is_opening_of peer) openings → given_openings peer openings ≡ given_if_found peer found
given_found peer openings found ascend is = one_given peer openings ascend ∙ ap (given_if_found peer) (sym is)

-- so by what is found of its names
pub none_given : (peer : Peer) (openings : List Opening) (group external : List ℕ) (edits : List Edit) → AscendBy opening_key openings
    → None ≡ opening_of openings group external → group ≡ peer.group → external ≡ peer.external
    → edits ≡ edits ++ puts_of (map opening_record (given_openings peer openings))
none_given peer openings group external edits ascend none one two =
    sym (ap (λ (os : List Opening). edits ++ puts_of (map opening_record os))
    (given_found peer openings None ascend (none ∙ (ap (λ (g : List ℕ). opening_of openings g external) one ∙ ap (opening_of openings peer.group) two)))
    ∙ append-nil edits)

pub given_is : (peer : Peer) (openings : List Opening) (group external : List ℕ) (opening given : Opening) → AscendBy opening_key openings
    → Some opening ≡ opening_of openings group external → group ≡ peer.group → external ≡ peer.external → given ≡ with_node peer opening
    → given ∷ [] ≡ given_openings peer openings
given_is peer openings group external opening given ascend some one two is =
    ap (λ (o : Opening). o ∷ []) is
    ∙ sym (given_found peer openings (Some opening) ascend
    (some ∙ (ap (λ (g : List ℕ). opening_of openings g external) one ∙ ap (opening_of openings peer.group) two)))
