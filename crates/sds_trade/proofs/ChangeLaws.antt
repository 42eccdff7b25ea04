-- A step that isn't captured uses no number, numbers are consecutive, and a peer is named at most once.
use Rattle.std.proofs.Common.{◌≡◌, ℕ, ◌+◌, ◌<◌, List, [], ◌∷◌, ◌++◌, map, length, Option, None, is_some, refl, ap, arith, All, AllPairs, filter, filter_map, option_map}
use Rattle.std.specs.List.{enumerate_from, range_with_len, cons_option}
use Rattle.std.proofs.lemmas.List.Elements.{All-nil, All-cons, All-map}
use Rattle.std.proofs.lemmas.List.Kept.{AllPairs-cons, AllPairs-filter}
use Rattle.sds_value.specs.declared.row.Peer.{Peer}
use Rattle.sds_types.specs.declared.config.Config.{Config}
use Rattle.sds_types.specs.declared.row.Change.{Change}
use Rattle.sds_trade.specs.laws.Captured.{UncapturedUsesNoNumber, NumbersAreConsecutive}
use Rattle.sds_trade.specs.laws.Named.{PeersAreNamedOnce}
use Rattle.sds_trade.specs.rules.Captured.{Done, captured_channel, change_in, change_of, numbered_change}
use Rattle.sds_trade.specs.rules.Named.{is_named}
use Rattle.sds_trade.proofs.Lists.{pairs_tail, pairs_head}

-- NUMBERS
uncaught : (config : Config) (group : List ℕ) (tx : ℕ) (source : Option (List ℕ)) (done : Done)
    → captured_channel config group (is_some source) done.step ≡ None → change_of config group tx source done ≡ None
uncaught config group tx source done is = ap (option_map (change_in tx source done)) is

dropped : (h : Done → Option Change) (earlier later : List Done) (done : Done) → h done ≡ None
    → filter_map h (earlier ++ done ∷ later) ≡ filter_map h (earlier ++ later)
dropped h [] later done is = ap (λ o. cons_option o (filter_map h later)) is
dropped h (next ∷ earlier) later done is = ap (cons_option (h next)) (dropped h earlier later done is)

pub uncaptured_uses_no_number : UncapturedUsesNoNumber
uncaptured_uses_no_number config group first tx source earlier later done is =
    ap (λ changes. map numbered_change (enumerate_from first changes))
    (dropped (change_of config group tx source) earlier later done (uncaught config group tx source done is))

ids_rise : (first : ℕ) (changes : List Change)
    → map (λ (change : Change). change.id) (map numbered_change (enumerate_from first changes))
    ≡ range_with_len first (length (map numbered_change (enumerate_from first changes)))
ids_rise first [] = refl
ids_rise first (change ∷ changes) = ap (λ ids. first ∷ ids) (ids_rise (first + 1) changes)

pub numbers_are_consecutive : NumbersAreConsecutive
numbers_are_consecutive config group first tx source dones =
    ids_rise first (filter_map (change_of config group tx source) dones)

-- PEERS
above : {X : Type 0} (n m : ℕ) (xs : List X) → n < m → All (λ (at : ℕ × X). n < at.0) (enumerate_from m xs)
above {X} n m [] less = All-nil (λ (at : ℕ × X). n < at.0)
above {X} n m (x ∷ xs) less = All-cons (λ (at : ℕ × X). n < at.0) (m, x) (enumerate_from (m + 1) xs) less (above n (m + 1) xs (omega (arith, less)))

places_rise : {X : Type 0} (n : ℕ) (xs : List X) → AllPairs (λ (a b : ℕ × X). a.0 < b.0) (enumerate_from n xs)
places_rise n [] = λ i j d below within. absurd (omega arith)
places_rise {X} n (x ∷ xs) = AllPairs-cons (λ (a b : ℕ × X). a.0 < b.0) (n, x) (enumerate_from (n + 1) xs)
    (above n (n + 1) xs (omega arith)) (places_rise (n + 1) xs)

first_places : {X : Type 0} (ats : List (ℕ × X)) → AllPairs (λ (a b : ℕ × X). a.0 < b.0) ats
    → AllPairs (λ (a b : ℕ). a < b) (map (λ (at : ℕ × X). at.0) ats)
first_places [] are = λ i j d below within. absurd (omega arith)
first_places {X} (at ∷ ats) are = AllPairs-cons (λ (a b : ℕ). a < b) at.0 (map (λ (at : ℕ × X). at.0) ats)
    (All-map (λ (b : ℕ). at.0 < b) (λ (at : ℕ × X). at.0) ats (pairs_head (λ (a b : ℕ × X). a.0 < b.0) at ats are))
    (first_places ats (pairs_tail (λ (a b : ℕ × X). a.0 < b.0) at ats are))

pub peers_are_named_once : PeersAreNamedOnce
peers_are_named_once config me rows peers change =
    let test = λ (at : ℕ × Peer). is_named config me rows change at.1 in
    first_places (filter test (enumerate_from 0 peers))
    (AllPairs-filter (λ (a b : ℕ × Peer). a.0 < b.0) test (enumerate_from 0 peers) (places_rise 0 peers))
