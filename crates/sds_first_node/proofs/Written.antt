-- An own write in the one configuration: its rows, their first broken one and their changes.
use Rattle.std.proofs.Common.{◌≡◌, ℕ, ◌+◌, ◌≤◌, Result, Bool, true, false, ◌&&◌, ◌||◌, List, [], ◌∷◌, ◌++◌, length, None, refl, sym, ap, ◌∙◌, append_assoc, append-nil, codes, suc, arith}
use Rattle.std.specs.Prelude.{if◌then◌else◌, nat_lt}
use Rattle.std.proofs.lemmas.List.Elements.{All-head, All-tail}
use Rattle.std.specs.Str.{bytes_eq}
use Rattle.sds_value.specs.declared.kind.Value.{Value}
use Rattle.sds_types.specs.declared.row.TableRow.{TableRow}
use Rattle.sds_types.specs.declared.tx_row.TxRow.{TxRow}
use Rattle.sds_types.specs.declared.write_answer.WriteRefusal.{WriteRefusal}
use Rattle.sds_types.specs.declared.write_answer.Written.{Written}
use Rattle.std.proofs.lemmas.Bool.Decides.{nat_tests}
use Rattle.sds_first_spec.specs.Acts.{State, History, Act}
use Rattle.sds_first_spec.specs.Acts.Act.{Wrote}
use Rattle.sds_first_spec.specs.History.{state_of}
use Rattle.sds_first_spec.specs.Kept.{writer_in}
use Rattle.sds_first_node.specs.Meaning.{followed_by}
use Rattle.sds_first_node.proofs.Histories.{wrote-state}
use Rattle.sds_first_spec.specs.Calls.{write_changes, written_by, by_writer, write_answer}
use Rattle.sds_first_spec.specs.Capture.{steps_of, after_all, first_broken, is_insert, is_own_insert}
use Rattle.sds_first_spec.specs.Changes.{changes_from}
use Rattle.sds_first_spec.specs.One.{one}
use Rattle.sds_first_spec.specs.Tables.{is_at, stands}
use Rattle.sds_first_node.specs.NewRows.{ArePairRows, new_row, new_rows, first_taken, numbered, captured, captured_at, count_at}
use Rattle.sds_first_node.specs.Steps.{wrote, accepted}

in_table : (e b r : Bool) → (e && (nat_lt (if b then 0 else 1) 1 && r)) ≡ true → b ≡ true
in_table true true r is = refl
in_table true false r is = cc
in_table false b r is = cc

or_assoc : (a b c : Bool) → (a || (b || c)) ≡ ((a || b) || c)
or_assoc true b c = refl
or_assoc false b c = refl

-- an own insert is into the one table
pub in_pair : (row : TxRow) → is_own_insert one row ≡ true → bytes_eq (codes "pair") row.table ≡ true
in_pair row is = in_table (is_insert row.event) (bytes_eq (codes "pair") row.table) _ is

abbrev IsPair : TxRow → Type 0
IsPair row = is_own_insert one row ≡ true

first_is : (row : TxRow) (tx : List TxRow) → ArePairRows (row ∷ tx) → bytes_eq (codes "pair") row.table ≡ true
first_is row tx are = in_pair row (All-head IsPair row tx are)

others_are : (row : TxRow) (tx : List TxRow) → ArePairRows (row ∷ tx) → ArePairRows tx
others_are row tx are = All-tail IsPair row tx are

pub tables-wrote : (kept : List TableRow) (tx : List TxRow) → ArePairRows tx → after_all one kept (steps_of one tx) ≡ kept ++ new_rows tx
tables-wrote kept [] are = sym (append-nil kept)
tables-wrote kept (row ∷ tx) are =
    let is : bytes_eq (codes "pair") row.table ≡ true = first_is row tx are in
    rw is (tables-wrote (kept ++ new_row row ∷ []) tx (others_are row tx are) ∙ append_assoc kept (new_row row ∷ []) (new_rows tx))

pub broken-taken : (n : ℕ) (kept : List TableRow) (tx : List TxRow) → ArePairRows tx → first_broken n one kept tx ≡ first_taken n kept (new_rows tx)
broken-taken n kept [] are = refl
broken-taken n kept (row ∷ tx) are =
    let is : bytes_eq (codes "pair") row.table ≡ true = first_is row tx are in
    rw is (rw (broken-taken (n + 1) (kept ++ new_row row ∷ []) tx (others_are row tx are)) refl)

captures : (group : List ℕ) (id number : ℕ) (tx : List TxRow) (b : Bool) → bytes_eq group (codes "corp") ≡ b → ArePairRows tx
    → changes_from one group None id number (steps_of one tx) ≡ captured b id number (new_rows tx)
captures group id number [] true is are = refl
captures group id number [] false is are = refl
captures group id number (row ∷ tx) true is are =
    let pair : bytes_eq (codes "pair") row.table ≡ true = first_is row tx are in
    rw (pair, is) (rw (captures group (id + 1) number tx true is (others_are row tx are)) refl)
captures group id number (row ∷ tx) false is are =
    let pair : bytes_eq (codes "pair") row.table ≡ true = first_is row tx are in
    rw (pair, is) (captures group id number tx false is (others_are row tx are))

pub changes-captured : (group : List ℕ) (id number : ℕ) (tx : List TxRow) → ArePairRows tx
    → changes_from one group None id number (steps_of one tx) ≡ captured (bytes_eq group (codes "corp")) id number (new_rows tx)
changes-captured group id number tx are = captures group id number tx _ refl are

pub stands_append : (table : ℕ) (key : List Value) (xs ys : List TableRow) → stands one table key (xs ++ ys) ≡ (stands one table key xs || stands one table key ys)
stands_append table key [] ys = refl
stands_append table key (x ∷ xs) ys = rw (stands_append table key xs ys) (or_assoc (is_at one table key x) (stands one table key xs) (stands one table key ys))

length-numbered : (id tx : ℕ) (rows : List TableRow) → length (numbered id tx rows) ≡ length rows
length-numbered id tx [] = refl
length-numbered id tx (row ∷ rows) = ap suc (length-numbered (id + 1) tx rows)

counted : (b : Bool) (id tx : ℕ) (rows : List TableRow) → length (captured b id tx rows) ≡ (if b then length rows else 0)
counted true id tx rows = length-numbered id tx rows
counted false id tx rows = refl

-- as many changes as are counted
pub length-captured_at : (s : State) (rows : List TableRow) → length (captured_at s rows) ≡ count_at s rows
length-captured_at s rows = counted (bytes_eq s.me.group (codes "corp")) (s.counts.last_change + 1) (s.counts.last_tx + 1) rows

-- the changes of a write are those of its rows
pub write_changes-captured : (s : State) (tx : List TxRow) → ArePairRows tx → write_changes one s tx ≡ captured_at s (new_rows tx)
write_changes-captured s tx are = changes-captured s.me.group (s.counts.last_change + 1) (s.counts.last_tx + 1) tx are

-- what a write makes of a state
pub wrote-accepted : (s : State) (writer : List ℕ) (number : ℕ) (tx : List TxRow) → ArePairRows tx
    → wrote s writer number tx ≡ accepted s writer number (new_rows tx) (captured_at s (new_rows tx))
wrote-accepted s writer number tx are = rw (write_changes-captured s tx are, tables-wrote s.tables tx are) refl

-- what a write whose number is the next one is answered
pub written-judged : (s : State) (tx : List TxRow) → ArePairRows tx
    → written_by (first_broken 1 one s.tables tx) s (length (write_changes one s tx)) ≡ written_by (first_taken 1 s.tables (new_rows tx)) s (count_at s (new_rows tx))
written-judged s tx are = rw (write_changes-captured s tx are, broken-taken 1 s.tables tx are, length-captured_at s (new_rows tx)) refl

few : (n : ℕ) → n ≤ 10000 → nat_lt 10000 n ≡ false
few n le = grind (arith, nat_tests)

-- what a write is answered whose number is the next one
pub write_answer-judged : (s : State) (writer : List ℕ) (number : ℕ) (tx : List TxRow) (rows : List TableRow) (r : Result Written WriteRefusal)
    → length tx ≤ 10000 → ArePairRows tx → rows ≡ new_rows tx
    → ((next : Result Written WriteRefusal) → by_writer (writer_in writer s.writers) number next ≡ next)
    → r ≡ written_by (first_taken 1 s.tables rows) s (count_at s rows) → r ≡ write_answer one s writer number tx
write_answer-judged s writer number tx rows r le are read next judged =
    rw (few (length tx) le) (judged ∙ (rw read (sym (written-judged s tx are)) ∙ sym (next _)))

-- and one whose number is not
pub write_answer-numbered : (s : State) (writer : List ℕ) (number : ℕ) (tx : List TxRow) (r : Result Written WriteRefusal)
    → length tx ≤ 10000 → ((next : Result Written WriteRefusal) → by_writer (writer_in writer s.writers) number next ≡ r) → r ≡ write_answer one s writer number tx
write_answer-numbered s writer number tx r le numbered' = rw (few (length tx) le) (sym (numbered' _))

-- the history after a write that is done
pub stands-wrote : (h : History) (s s' : State) (writer : List ℕ) (number : ℕ) (tx : List TxRow) (rows : List TableRow) (acts : List Act)
    → ArePairRows tx → rows ≡ new_rows tx → acts ≡ Wrote writer number tx ∷ [] → s' ≡ accepted s writer number rows (captured_at s rows) → s ≡ state_of one h
    → s' ≡ state_of one (followed_by h acts)
stands-wrote h s s' writer number tx rows acts are read made new stood =
    rw made (new ∙ (rw (read, stood) (sym (wrote-accepted (state_of one h) writer number tx are)) ∙ wrote-state h writer number tx))

pub stands-still : (h : History) (s : State) (acts : List Act) → acts ≡ [] → s ≡ state_of one h → s ≡ state_of one (followed_by h acts)
stands-still h s acts none stood = rw none stood
