-- What the definitions give on concrete histories of two nodes, corp and the store: the repeated, refused and empty cases.
use Rattle.std.specs.Prelude.{◌≡◌, ℕ, ◌-◌, ◌^◌, true, false, List, [], ◌∷◌, map, Some, Result, Ok, Err, ℤ, pos, neg_ℤ, codes}
use Rattle.sds_value.specs.declared.kind.Value.{Value}
use Rattle.sds_value.specs.declared.kind.Value.TheVariants as value
use Rattle.sds_types.specs.declared.ack.Ack.{Ack}
use Rattle.sds_types.specs.declared.ack.AckRefusal.TheVariants.{UnknownNode, UnknownBatch}
use Rattle.sds_types.specs.declared.load_answer.LoadAnswer.{LoadAnswer}
use Rattle.sds_types.specs.declared.load_answer.LoadAnswer.TheVariants as load_answer
use Rattle.sds_types.specs.declared.node_fault.NodeFault.TheVariants.{Counters}
use Rattle.sds_types.specs.declared.write_answer.WriteRefusal.{WriteRefusal}
use Rattle.sds_types.specs.declared.load_answer.PeerRefusal.{PeerRefusal}
use Rattle.sds_types.specs.declared.write_answer.WriteRefusal.TheVariants.{Broken, OldNumber, GapNumber, Fault}
use Rattle.sds_types.specs.declared.write_answer.Written.{Written}
use Rattle.sds_types.specs.declared.write_answer.Written.TheVariants.{Done, Again}
use Rattle.sds_types.specs.declared.batch.OutBatch.{OutBatch}
use Rattle.sds_types.specs.declared.batch.Standing.{Standing}
use Rattle.sds_types.specs.declared.batch.Standing.TheVariants as standing
use Rattle.sds_first_spec.specs.declared.event.WorldEvent.TheVariants.{Register}
use Rattle.sds_types.specs.declared.row.TableRow.{TableRow}
use Rattle.sds_types.specs.declared.tx_row.TxRow.{TxRow}
use Rattle.sds_types.specs.declared.rule.Rule.TheVariants.{DuplicateKey}
use Rattle.sds_first_spec.specs.Acts.{Act, State}
use Rattle.sds_first_spec.specs.Acts.Act.{Wrote, Routed, Loaded, Acked}
use Rattle.sds_first_spec.specs.Calls.{write_answer, write_acts, route_answer, route_acts, load_answer_of, acks_answer, acks_acts, offer_answer}
use Rattle.sds_first_spec.specs.Happens.{delivered, reply_to, happens}
use Rattle.sds_first_spec.specs.History.{state_of, tables_of}
use Rattle.sds_first_spec.specs.One.{one, paired}
use Rattle.sds_first_spec.specs.Outcome.{is_whole_insert}
use Rattle.sds_first_spec.specs.Screen.{screen_of}
use Rattle.sds_first_spec.specs.Shown.{row_line, tables_text}
use Rattle.sds_first_spec.specs.TwoNodes.{corp, store, pair_row, wrote, load, taken, ok, heard, doc, message, answered}
use Rattle.sds_first_spec.specs.World.{World}

abbrev pub er : ℕ → Ack
er batch = record { batch = batch; error = Some (1, 7) }

abbrev pub cap_rows : List TxRow
cap_rows = pair_row (codes "3") (codes "Cap") ∷ []

-- two batches to the store, of a write each
abbrev pub two_batches : List Act
two_batches = Routed ∷ (Wrote (codes "office") 2 cap_rows ∷ (Routed ∷ (wrote ∷ [])))

-- the two nodes after their acts, the newest first
abbrev pub at_corp : List Act → State
at_corp acts = state_of one (record { opening = paired corp store; acts = acts })

abbrev pub at_store : List Act → State
at_store acts = state_of one (record { opening = paired store corp; acts = acts })

-- a row of the table as it is kept
abbrev pub kept : ℤ → Value → TableRow
kept id text = record { table = 0; row = record { 0 = value.Integer id ∷ (text ∷ []) } }

-- MESSAGES. A message comes a second time: no node changes, and the reply says once more that its batch is loaded.
abbrev pub RepeatChangesNothing : Type 0
RepeatChangesNothing = ((delivered one message answered).nodes ≡ answered.nodes) × ((reply_to one message answered).acks ≡ ok 1 ∷ [])

-- a node that registers again changes nothing
abbrev pub RegisterAgainIsNothing : Type 0
RegisterAgainIsNothing = happens one answered (Register (codes "s1") (codes "corp")) ≡ answered

-- WRITES, behind a writer's first.
abbrev pub second_write : ℕ → List TxRow → Result Written WriteRefusal
second_write number rows = write_answer one (at_corp (wrote ∷ [])) (codes "office") number rows

-- the last number is answered as it was, whatever the rows, and makes no act
abbrev pub LastNumberIsAgain : Type 0
LastNumberIsAgain = (second_write 1 cap_rows ≡ Ok (Again 1 2)) × (write_acts (second_write 1 cap_rows) (codes "office") 1 cap_rows ≡ [])

-- 0 is old, and so is a number before the last
abbrev pub EarlierIsOld : Type 0
EarlierIsOld = (second_write 0 cap_rows ≡ Err (OldNumber 1)) × (write_answer one (at_corp two_batches) (codes "office") 1 cap_rows ≡ Err (OldNumber 2))

-- a number is left out, by this writer and by one that has none yet
abbrev pub SkippedIsGap : Type 0
SkippedIsGap = (second_write 3 cap_rows ≡ Err (GapNumber 1)) × (write_answer one (at_corp (wrote ∷ [])) (codes "desk") 2 cap_rows ≡ Err (GapNumber 0))

-- of two rows of one write with one key the second breaks the rule
abbrev pub KeyTwiceIsRefused : Type 0
KeyTwiceIsRefused = second_write 2 (pair_row (codes "7") (codes "a") ∷ (pair_row (codes "+07") (codes "b") ∷ [])) ≡ Err (Broken 2 DuplicateKey)

abbrev pub NoRowsIsDone : Type 0
NoRowsIsDone = second_write 2 [] ≡ Ok (Done 3 0)

-- the store captures nothing of its own
abbrev pub StoreCapturesNothing : Type 0
StoreCapturesNothing = write_answer one (at_store (taken ∷ [])) (codes "desk") 1 cap_rows ≡ Ok (Done 1 0)

-- the last act that may be counted, and the one that may not
abbrev pub counted_write : ℕ → Result Written WriteRefusal
counted_write acts =
    write_answer one (record (at_corp []) { counts = record { acts = acts; last_change = 0; last_batch = 0; last_tx = 0; routed = 0 } }) (codes "office") 1 cap_rows

abbrev pub CountersEnd : Type 0
CountersEnd = (counted_write (2 ^ 62 - 1) ≡ Ok (Done 1 1)) × (counted_write (2 ^ 62) ≡ Err (Fault Counters))

-- ROUTING. Where nothing was captured since the last run it makes no batch and no act, at the store after a write too.
abbrev pub RoutesNothing : State → Type 0
RoutesNothing s = (route_answer one s ≡ Ok 0) × (route_acts (route_answer one s) s ≡ [])

abbrev pub RoutedIsDone : Type 0
RoutedIsDone = RoutesNothing (at_corp (Routed ∷ (wrote ∷ [])))

abbrev pub StoreRoutesNothing : Type 0
StoreRoutesNothing = RoutesNothing (at_store (Wrote (codes "desk") 1 cap_rows ∷ (taken ∷ [])))

-- LOADS. A batch that is loaded was loaded before, and the next is loaded by the next act.
abbrev pub second_load : ℕ → Result LoadAnswer PeerRefusal
second_load batch = load_answer_of one (at_store (taken ∷ [])) (codes "corp") 0 batch (doc (codes "3") (codes "Cap") ∷ [])

abbrev pub LoadedIsAgain : Type 0
LoadedIsAgain = (second_load 1 ≡ Ok load_answer.Again) × (second_load 2 ≡ Ok (load_answer.Loaded 2))

-- a message's row is one that a load takes, and under another key it is none
abbrev pub SentRowIsWhole : Type 0
SentRowIsWhole = (is_whole_insert one (doc (codes "3") (codes "Cap")) ≡ true) × (is_whole_insert one (record (doc (codes "3") (codes "Cap")) { keys = codes "text" ∷ [] }) ≡ false)

-- a row at a key that stands is updated where it stands
abbrev pub StandingRowIsUpdated : Type 0
StandingRowIsUpdated = tables_of one (paired store corp) (Loaded (codes "corp") 0 2 (load 1 2 (codes "Cap") ∷ []) ∷ (taken ∷ []))
    ≡ kept (pos 2) (value.Text (codes "Cap")) ∷ (kept (pos 1) (value.Text (codes "Pen")) ∷ [])

-- ACKS of a peer that isn't known, and of a batch that isn't, behind one that is
abbrev pub StrangerIsRefused : Type 0
StrangerIsRefused = acks_answer (at_corp (Routed ∷ (wrote ∷ []))) (codes "s2") (ok 1 ∷ []) ≡ Err UnknownNode

abbrev pub UnknownBatchIsRefused : Type 0
UnknownBatchIsRefused = acks_answer (at_corp (Routed ∷ (wrote ∷ []))) (codes "s1") (ok 1 ∷ (ok 99 ∷ [])) ≡ Err (UnknownBatch 99)

-- an error of a batch that is loaded changes nothing and makes no act
abbrev pub LoadedStays : State → Type 0
LoadedStays s = (acks_answer s (codes "s1") (er 1 ∷ []) ≡ Ok 0) × (acks_acts (acks_answer s (codes "s1") (er 1 ∷ [])) (codes "s1") (er 1 ∷ []) ≡ [])

abbrev pub ErrorAfterOkIsNothing : Type 0
ErrorAfterOkIsNothing = LoadedStays (at_corp (heard ∷ (Routed ∷ (wrote ∷ []))))

-- what acks change where two batches wait, what is known of the two then, and what the store is offered
abbrev pub Leaves : List Ack → ℕ → List Standing → List ℕ → Type 0
Leaves acks changed standings offered = let s = at_corp (Acked (codes "s1") acks ∷ two_batches) in
    (acks_answer (at_corp two_batches) (codes "s1") acks ≡ Ok changed) × (map (λ (b : OutBatch). b.standing) s.batches ≡ standings)
    × (offer_answer one s (codes "s1") [] ≡ Ok offered)

-- an error of the first is known, and the next message ends behind it; it gives way to an ok of either
abbrev pub ErrorEndsOffer : Type 0
ErrorEndsOffer = Leaves (er 1 ∷ []) 1 (standing.Erred 1 7 ∷ (standing.New ∷ [])) (1 ∷ [])

abbrev pub LaterOkTakesBoth : Type 0
LaterOkTakesBoth = Leaves (er 1 ∷ (ok 2 ∷ [])) 2 (standing.Acked ∷ (standing.Acked ∷ [])) []

-- SCREENS. No event prints nothing, and an empty table its name alone.
abbrev pub NothingPrintsNothing : Type 0
NothingPrintsNothing = (w : World) → screen_of one w [] ≡ []

abbrev pub EmptyTableIsItsName : Type 0
EmptyTableIsItsName = tables_text one [] ≡ codes "table pair\n"

-- a quote and a backslash stand behind a backslash each, and null is nothing
abbrev pub TextsAreEscaped : Type 0
TextsAreEscaped = (row_line (kept (pos 7) (value.Text (codes "a\"b\\c"))) ≡ codes "\"7\",\"a\\\"b\\\\c\"\n") × (row_line (kept (pos 8) value.Null) ≡ codes "\"8\",\n")

-- keys go by number: those below 0 first, and two digits behind one
abbrev pub KeysGoByNumber : Type 0
KeysGoByNumber = tables_text one (kept (pos 10) value.Null ∷ (kept (neg_ℤ (pos 2)) value.Null ∷ (kept (pos 9) value.Null ∷ [])))
    ≡ codes "table pair\n\"-2\",\n\"9\",\n\"10\",\n"
