-- How many changes steps become doesn't depend on the changes' numbers.
use Rattle.std.proofs.Common.{◌≡◌, ℕ, suc, ◌+◌, ◌<◌, List, [], ◌∷◌, ◌++◌, length, map, Option, None, Some, refl, sym, ap, ◌∙◌, arith, append_assoc, drop, get_or}
use Rattle.std.specs.Prelude.{is_some, option_map}
use Rattle.std.specs.List.{cons_option, enumerate_from, filter_map}
use Rattle.std.proofs.lemmas.List.{drop_more, length-append, length-map}
use Rattle.std.proofs.lemmas.List.FromFn.{length-enumerate_from}
use Rattle.std.proofs.Math.Nat.{add-zero}
use Rattle.sds_types.specs.declared.config.Config.{Config}
use Rattle.sds_types.specs.declared.row.Change.{Change}
use Rattle.sds_trade.specs.rules.Captured.{Done, captured_channel, change_in, change_of, changes_of, numbered_change}
use Rattle.sds_history.specs.history.Acts.{State}
use Rattle.sds_rows.specs.Undoing.{without_undo, without_undos}
use Rattle.sds_rows.specs.declared.undo.Done as stepped
use Rattle.sds_runs.specs.Made.{changes_from, next_changes}

same_count : (config : Config) (group : List ℕ) (tx other : ℕ) (source : Option (List ℕ)) (dones : List Done)
    → length (filter_map (change_of config group tx source) dones) ≡ length (filter_map (change_of config group other source) dones)
same_count config group tx other source [] = refl
same_count config group tx other source (done ∷ dones) =
    on (captured_channel config group (is_some source) done.step) (filter_map (change_of config group tx source) dones)
    (filter_map (change_of config group other source) dones) (same_count config group tx other source dones)
  where
    on : (found : Option ℕ) (xs ys : List Change) → length xs ≡ length ys
        → length (cons_option (option_map (change_in tx source done) found) xs) ≡ length (cons_option (option_map (change_in other source done) found) ys)
    on None xs ys same = same
    on (Some channel) xs ys same = ap (λ n. suc n) same

numbered_count : (first : ℕ) (changes : List Change) → length (map numbered_change (enumerate_from first changes)) ≡ length changes
numbered_count first changes = length-map (enumerate_from first changes) numbered_change ∙ length-enumerate_from first changes

pub captured_count : (config : Config) (group : List ℕ) (first tx : ℕ) (source : Option (List ℕ)) (dones : List Done)
    → length (changes_of config group 0 0 source dones) ≡ length (changes_of config group first tx source dones)
captured_count config group first tx source dones =
    numbered_count 0 (filter_map (change_of config group 0 source) dones)
    ∙ (same_count config group 0 tx source dones ∙ sym (numbered_count first (filter_map (change_of config group tx source) dones)))

-- BEFORE the first step
pub none_yet : (config : Config) (state : State) (source : Option (List ℕ)) (dones : List Done)
    → changes_from config state source [] dones ≡ next_changes config state source dones
none_yet config state source dones =
    ap (λ n. map numbered_change (enumerate_from n (filter_map (change_of config state.me.group (state.counts.last_tx + 1) source) dones)))
    (add-zero (state.counts.last_change + 1))

-- ONE MORE step
pub one_kept : (config : Config) (state : State) (source : Option (List ℕ)) (made : List Change) (done : Done) (channel : ℕ) (later : List Done)
    → captured_channel config state.me.group (is_some source) done.step ≡ Some channel
    → changes_from config state source made (done ∷ later)
    ≡ changes_from config state source
    (made ++ numbered_change (state.counts.last_change + 1 + length made, change_in (state.counts.last_tx + 1) source done channel) ∷ []) later
one_kept config state source made done channel later is =
    let tx = state.counts.last_tx + 1 in
    let at = state.counts.last_change + 1 + length made in
    let rest = filter_map (change_of config state.me.group tx source) later in
    let new = numbered_change (at, change_in tx source done channel) in
    ap (λ (found : Option ℕ). made ++ map numbered_change (enumerate_from at (cons_option (option_map (change_in tx source done) found) rest))) is
    ∙ (sym (append_assoc made (new ∷ []) (map numbered_change (enumerate_from (at + 1) rest)))
    ∙ ap (λ n. (made ++ new ∷ []) ++ map numbered_change (enumerate_from n rest)) (next (state.counts.last_change + 1) (length made) _ (length-append made (new ∷ []))))
  where
    next : (first n m : ℕ) → m ≡ n + 1 → first + n + 1 ≡ first + m
    next first n m is = omega (arith, is)

pub one_left : (config : Config) (state : State) (source : Option (List ℕ)) (made : List Change) (done : Done) (later : List Done)
    → captured_channel config state.me.group (is_some source) done.step ≡ None
    → changes_from config state source made (done ∷ later) ≡ changes_from config state source made later
one_left config state source made done later is =
    let tx = state.counts.last_tx + 1 in
    let at = state.counts.last_change + 1 + length made in
    let rest = filter_map (change_of config state.me.group tx source) later in
    ap (λ (found : Option ℕ). made ++ map numbered_change (enumerate_from at (cons_option (option_map (change_in tx source done) found) rest))) is

-- and the rest of them
pub one_further : (config : Config) (state : State) (source : Option (List ℕ)) (before after target : List Change) (dones : List stepped.Done) (at : ℕ) (done : stepped.Done)
    → at < length dones → done ≡ get_or dones at done
    → ((later : List Done) → changes_from config state source before (without_undo done ∷ later) ≡ changes_from config state source after later)
    → changes_from config state source before (without_undos (drop at dones)) ≡ target
    → changes_from config state source after (without_undos (drop (at + 1) dones)) ≡ target
one_further config state source before after target dones at done within is step so_far =
    sym (step (without_undos (drop (at + 1) dones)))
    ∙ (sym (ap (λ (ds : List stepped.Done). changes_from config state source before (without_undos ds))
    (drop_more dones at done within ∙ ap (λ d. d ∷ drop (at + 1) dones) (sym is))) ∙ so_far)
