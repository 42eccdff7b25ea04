-- One more act of a history is one step of its state.
use Rattle.std.proofs.Common.{◌≡◌, ℕ, ◌+◌, List, [], ◌∷◌, ◌++◌, length, Some, refl, append_assoc, length-append, suc, arith}
use Rattle.sds_types.specs.declared.ack.Ack.{Ack}
use Rattle.sds_types.specs.declared.row.Change.{Change}
use Rattle.sds_first_spec.specs.declared.row.LoadRow.{LoadRow}
use Rattle.sds_types.specs.declared.tx_row.TxRow.{TxRow}
use Rattle.sds_first_spec.specs.Acts.{History}
use Rattle.sds_first_spec.specs.Acts.Act.{Wrote, Routed, Loaded, Acked}
use Rattle.sds_first_spec.specs.Calls.{write_changes}
use Rattle.sds_first_spec.specs.Changes.{changes_from}
use Rattle.sds_first_spec.specs.History.{state_of, captured_of}
use Rattle.sds_first_spec.specs.One.{one}
use Rattle.sds_first_spec.specs.Outcome.{load_steps}
use Rattle.sds_first_node.specs.Meaning.{followed_by}
use Rattle.sds_first_node.specs.Steps.{wrote, routed, loaded, acked}

one_more : (n k : ℕ) → n + k + 1 ≡ n + suc k
one_more n k = omega arith

longer : (n : ℕ) (xs ys : List Change) → n + length xs + length ys ≡ n + length (xs ++ ys)
longer n xs ys = omega (arith, length-append xs ys)

pub wrote-state : (h : History) (writer : List ℕ) (number : ℕ) (rows : List TxRow) → wrote (state_of one h) writer number rows ≡ state_of one (followed_by h (Wrote writer number rows ∷ []))
wrote-state h writer number rows =
    let before = captured_of one h.opening h.acts in
    let new = write_changes one (state_of one h) rows in
    rw (one_more h.opening.counts.acts (length h.acts), longer h.opening.counts.last_change before new, append_assoc h.opening.changes before new) refl

pub routed-state : (h : History) → routed (state_of one h) ≡ state_of one (followed_by h (Routed ∷ []))
routed-state h = rw (one_more h.opening.counts.acts (length h.acts)) refl

pub loaded-state : (h : History) (sender : List ℕ) (channel batch : ℕ) (rows : List LoadRow)
    → loaded (state_of one h) sender channel batch rows ≡ state_of one (followed_by h (Loaded sender channel batch rows ∷ []))
loaded-state h sender channel batch rows =
    let s = state_of one h in
    let before = captured_of one h.opening h.acts in
    let new = changes_from one s.me.group (Some sender) (s.counts.last_change + 1) (s.counts.last_tx + 1) (load_steps one s.tables rows) in
    rw (one_more h.opening.counts.acts (length h.acts), longer h.opening.counts.last_change before new, append_assoc h.opening.changes before new) refl

pub acked-state : (h : History) (sender : List ℕ) (acks : List Ack) → acked (state_of one h) acks ≡ state_of one (followed_by h (Acked sender acks ∷ []))
acked-state h sender acks = rw (one_more h.opening.counts.acts (length h.acts)) refl
