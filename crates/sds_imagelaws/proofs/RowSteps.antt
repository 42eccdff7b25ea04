-- The edits of a run's steps go from the records of the rows before it to those of the rows after it.
use Rattle.std.proofs.Common.{◌≡◌, ℕ, ◌==◌, ◌&&◌, Bool, true, false, not, cond, List, [], ◌∷◌, ◌++◌, map, Option, None, Some, refl, sym, ap, subst, ◌∙◌, true≢false, filter, find, is_eq, is_lt}
use Rattle.std.specs.Prelude.{option_map}
use Rattle.std.specs.List.{AllByRecursion, enumerate_from}
use Rattle.std.specs.Str.{bytes_eq}
use Rattle.std.specs.Cmp.Lexicographic.{slice_cmp}
use Rattle.std.specs.declared.cmp.Ordering.{Ordering}
use Rattle.std.specs.declared.cmp.Ordering.TheVariants.{Less, Equal, Greater}
use Rattle.std.proofs.lemmas.Bool.{eqb-true}
use Rattle.std.proofs.lemmas.List.Concat.{flat_map-cons}
use Rattle.std.proofs.lemmas.Option.{same_Some}
use Rattle.sds_value.specs.Values.{value_order}
use Rattle.sds_types.specs.declared.config.Config.{Config}
use Rattle.sds_types.specs.declared.conflict.Resolution.{Resolution}
use Rattle.sds_types.specs.declared.conflict.Resolution.TheVariants.{Apply, SkipRow, SkipBatch, Broken}
use Rattle.sds_types.specs.declared.prepared.Body.{Body}
use Rattle.sds_types.specs.declared.prepared.Body.TheVariants as body
use Rattle.sds_types.specs.declared.prepared.Prepared.{Prepared}
use Rattle.sds_types.specs.declared.row.Key.{Key}
use Rattle.sds_types.specs.declared.row.Row.{Row}
use Rattle.sds_types.specs.declared.row.RowStep.{RowStep}
use Rattle.sds_types.specs.declared.row.RowStep.TheVariants.{Insert, Update, Delete}
use Rattle.sds_types.specs.declared.row.TableRow.{TableRow}
use Rattle.sds_types.specs.declared.tx_row.TxRow.{TxRow}
use Rattle.sds_trade.specs.rules.Captured.{Done, overflows}
use Rattle.sds_trade.specs.rules.Outcomes.{batch_judge, by_body, by_channel, outcome_of_batch, with_number}
use Rattle.sds_trade.specs.rules.OwnWrites.{outcome_of_write, own_judge}
use Rattle.sds_trade.specs.rules.Runs.{RunEnd, by_step_rules, done_of, run, with_done}
use Rattle.sds_trade.specs.rules.Runs.RunEnd.{Made, Ignored, Refused}
use Rattle.sds_trade.specs.rules.Sound.{IsSound}
use Rattle.sds_trade.specs.rules.Steps.{new_row, rows_after, table_of, with_row, without_row}
use Rattle.sds_trade.specs.rules.Tables.{is_at, row_at, row_order}
use Rattle.sds_history.specs.history.Records.{Record}
use Rattle.sds_history.specs.history.RowRecords.{row_record}
use Rattle.sds_history.specs.history.Runs.{dones_of, rows_after_run}
use Rattle.sds_imagelaws.specs.Edits.{exchange_edits, record_at, row_edits, step_edits}
use Rattle.sds_imagelaws.specs.Images.{PutsFit}
use Rattle.sds_imagelaws.proofs.Items.{Pass, part_at, part_dropped, part_is, part_kept, part_put}
use Rattle.sds_imagelaws.proofs.Lists.{each_append, each_by, each_filter}
use Rattle.sds_imagelaws.proofs.Lookups.{first_wins, told_append, told_by}
use Rattle.sds_imagelaws.proofs.Parts.{EditsAt, Goes, edits_at_append, place_of}
use Rattle.sds_imagelaws.proofs.RowKeys.{RowFits, columns_suit, equal_values, key_values, one_key, record_key, rows_tell}
use Rattle.sds_imagelaws.proofs.Tests.{equal, no_value}

-- FOUND: what is found passes the test, and where nothing is found none does
record Finds {A : Type 0} (P : A → Type 0) (p : A → Bool) (x : A) : Type 0 where
  holds : P x
  passes : p x ≡ true

found_one : {A : Type 0} (P : A → Type 0) (p : A → Bool) (xs : List A) (x : A) → AllByRecursion P xs → find p xs ≡ Some x → Finds P p x
found_one P p [] x are is = no_value x is
found_one P p (y ∷ ys) x are is = on (p y) refl is (found_one P p ys x are.1)
  where
    on : (b : Bool) → p y ≡ b → cond b (Some y) (find p ys) ≡ Some x → (find p ys ≡ Some x → Finds P p x) → Finds P p x
    on true pass found rest = subst (Finds P p) (same_Some y x found) (record { holds = are.0; passes = pass })
    on false pass found rest = rest found

found_none : {A : Type 0} (p : A → Bool) (xs : List A) → find p xs ≡ None → AllByRecursion (λ x. p x ≡ false) xs
found_none p [] is = tt
found_none p (y ∷ ys) is = on (p y) refl is (found_none p ys)
  where
    on : (b : Bool) → p y ≡ b → cond b (Some y) (find p ys) ≡ None → (find p ys ≡ None → AllByRecursion (λ x. p x ≡ false) ys)
        → AllByRecursion (λ x. p x ≡ false) (y ∷ ys)
    on true pass none rest = absurd (true≢false (ap (λ o. elim o [ None ↦ false | Some z ↦ true ]) none))
    on false pass none rest = (pass, rest none)

-- EXCHANGES of an old record for a new one
abbrev pub dropped : Option Record → List ℕ → Option (List ℕ) → Option (List ℕ)
dropped None key told = told
dropped (Some old) key told = cond (bytes_eq old.key key) None told

abbrev pub put : Option Record → List ℕ → Option (List ℕ) → Option (List ℕ)
put None key told = told
put (Some new) key told = cond (bytes_eq new.key key) (Some new.body) told

exchanged : (old new : Option Record) (key : List ℕ) (told : Option (List ℕ))
    → told_by key (exchange_edits old new) told ≡ put new key (dropped old key told)
exchanged None None key told = refl
exchanged None (Some new) key told = refl
exchanged (Some old) None key told = refl
exchanged (Some old) (Some new) key told = on (bytes_eq new.key old.key) refl
  where
    on : (b : Bool) → bytes_eq new.key old.key ≡ b
        → told_by key ((cond b [] (record { key = old.key; body = None } ∷ [])) ++ record { key = new.key; body = Some new.body } ∷ []) told
        ≡ cond (bytes_eq new.key key) (Some new.body) (cond (bytes_eq old.key key) None told)
    on true is =
        first_wins (bytes_eq new.key key) (Some new.body) None told
        ∙ ap (λ k. cond (bytes_eq new.key key) (Some new.body) (cond (bytes_eq k key) None told)) (equal new.key old.key is)
    on false is = refl

module _ (config : Config) (sound : IsSound config) where
  abbrev kept : TableRow → Record
  kept = row_record config

  abbrev Fits : TableRow → Type 0
  Fits = RowFits config

  -- A NEW ROW
  with_row_part : (key : List ℕ) (rows : List TableRow) (new : TableRow) → Fits new → AllByRecursion Fits rows
      → part_at kept key (with_row config.tables rows new) ≡ cond (bytes_eq (kept new).key key) (Some (kept new).body) (part_at kept key rows)
  with_row_part key rows new fit are = part_put kept (row_order config.tables) Fits (rows_tell config sound) new key rows fit are

  -- THE ROW WITH A KEY
  table_is : (table : ℕ) (k : Key) (x : TableRow) → is_at config.tables table k x ≡ true → x.table ≡ table
  table_is table k x is = eqb-true x.table table (left_of (x.table == table) _ is)
    where
      left_of : (a b : Bool) → (a && b) ≡ true → a ≡ true
      left_of true b is = refl
      left_of false b is = is

  equal_is : (o : Ordering) → is_eq o ≡ true → o ≡ Equal
  equal_is Less is = absurd (true≢false (sym is))
  equal_is Equal is = refl
  equal_is Greater is = absurd (true≢false (sym is))

  values_are : (table : ℕ) (k : Key) (x : TableRow) → is_at config.tables table k x ≡ true → key_values config table x.row ≡ k.0
  values_are table k x is =
      equal_values config sound (key_values config table x.row) k.0
      (equal_is (slice_cmp value_order (key_values config table x.row) k.0) (right_of (x.table == table) _ is))
    where
      right_of : (a b : Bool) → (a && b) ≡ true → b ≡ true
      right_of true b is = is
      right_of false b is = absurd (true≢false (sym is))

  -- its record's key goes by the table and the key alone
  at_key : (table : ℕ) (k : Key) (x : TableRow) → is_at config.tables table k x ≡ true → (kept x).key ≡ record_key config table k.0
  at_key table k x is =
      ap (λ t. record_key config t (key_values config t x.row)) (table_is table k x is)
      ∙ ap (record_key config table) (values_are table k x is)

  -- and a row with the record's key has the key
  at_back : (table : ℕ) (k : Key) (x found : TableRow) → Fits x → Fits found → is_at config.tables table k found ≡ true
      → (kept x).key ≡ (kept found).key → is_at config.tables table k x ≡ true
  at_back table k x found fit also is same =
      let one = one_key config sound x found fit also same in
      let there = table_is table k found is in
      let values : key_values config table x.row ≡ key_values config table found.row =
      subst (λ t. key_values config t x.row ≡ key_values config t found.row) there one.values in
      ap (λ t. (t == table) && is_eq (slice_cmp value_order (key_values config table x.row) k.0)) one.table
      ∙ (ap (λ vs. (found.table == table) && is_eq (slice_cmp value_order vs k.0)) values ∙ is)

  abbrev found_row : ℕ → Option TableRow → Option Record
  found_row table found = option_map (record_at config table) (option_map (λ (row : TableRow). row.row) found)

  not_is : (a b : Bool) → a ≡ b → not a ≡ not b
  not_is a b is = ap not is

  without_found : (key : List ℕ) (rows : List TableRow) (table : ℕ) (k : Key) (found : TableRow) → AllByRecursion Fits rows → Fits found
      → is_at config.tables table k found ≡ true
      → part_at kept key (without_row config.tables rows table k)
      ≡ cond (bytes_eq (record_at config table found.row).key key) None (part_at kept key rows)
  without_found key rows table k found are fit is = on (bytes_eq (record_at config table found.row).key key) refl
    where
      there : (kept found).key ≡ (record_at config table found.row).key
      there = ap (λ t. record_key config t (key_values config t found.row)) (table_is table k found is)

      passes : TableRow → Bool
      passes row = not (is_at config.tables table k row)

      on : (b : Bool) → bytes_eq (record_at config table found.row).key key ≡ b
          → part_at kept key (without_row config.tables rows table k) ≡ cond b None (part_at kept key rows)
      on true here = part_dropped kept key passes rows (each_by Fits (Pass kept key passes false) rows
          (λ x fits has. not_is (is_at config.tables table k x) true
          (at_back table k x found fits fit is (equal (kept x).key key has ∙ sym (there ∙ equal (record_at config table found.row).key key here)))) are)
      on false isnt = part_kept kept key passes rows (each_by Fits (Pass kept key passes true) rows
          (λ x fits has. other x has (is_at config.tables table k x) refl) are)
        where
          other : (x : TableRow) → bytes_eq (kept x).key key ≡ true → (b : Bool) → is_at config.tables table k x ≡ b → not b ≡ true
          other x has true at = absurd (true≢false
              (sym (ap (λ l. bytes_eq l key) (sym there ∙ (at_key table k found is ∙ sym (at_key table k x at))) ∙ has) ∙ isnt))
          other x has false at = refl

  without_none : (key : List ℕ) (rows : List TableRow) (table : ℕ) (k : Key) → AllByRecursion (λ x. is_at config.tables table k x ≡ false) rows
      → part_at kept key (without_row config.tables rows table k) ≡ part_at kept key rows
  without_none key rows table k none = part_kept kept key (λ (row : TableRow). not (is_at config.tables table k row)) rows
      (each_by (λ x. is_at config.tables table k x ≡ false) (Pass kept key (λ (row : TableRow). not (is_at config.tables table k row)) true) rows
      (λ x isnt has. not_is (is_at config.tables table k x) false isnt) none)

  without_part : (key : List ℕ) (rows : List TableRow) (table : ℕ) (k : Key) → AllByRecursion Fits rows
      → part_at kept key (without_row config.tables rows table k)
      ≡ dropped (option_map (record_at config table) (row_at config.tables rows table k)) key (part_at kept key rows)
  without_part key rows table k are = on (find (is_at config.tables table k) rows) refl
    where
      on : (found : Option TableRow) → find (is_at config.tables table k) rows ≡ found
          → part_at kept key (without_row config.tables rows table k) ≡ dropped (found_row table found) key (part_at kept key rows)
      on None none = without_none key rows table k (found_none (is_at config.tables table k) rows none)
      on (Some x) is =
          let one = found_one Fits (is_at config.tables table k) rows x are is in
          without_found key rows table k x are one.holds one.passes

  -- ONE STEP
  pub fits_after : (rows : List TableRow) (step : RowStep) → PutsFit config.tables step → AllByRecursion Fits rows
      → AllByRecursion Fits (rows_after config.tables rows step)
  fits_after rows (Insert table row) fit are =
      let new : TableRow = record { table = table; row = row } in
      each_append Fits (filter (λ (x : TableRow). is_lt (row_order config.tables x new)) rows) _ (each_filter Fits _ rows are)
      (record { known = fit.0; suits = columns_suit _ row.0 fit.1 }, each_filter Fits _ rows are)
  fits_after rows (Update table k row) fit are =
      let new : TableRow = record { table = table; row = row } in
      let others = without_row config.tables rows table k in
      let left = each_filter Fits (λ (x : TableRow). not (is_at config.tables table k x)) rows are in
      each_append Fits (filter (λ (x : TableRow). is_lt (row_order config.tables x new)) others) _ (each_filter Fits _ others left)
      (record { known = fit.0; suits = columns_suit _ row.0 fit.1 }, each_filter Fits _ others left)
  fits_after rows (Delete table k) fit are = each_filter Fits (λ (x : TableRow). not (is_at config.tables table k x)) rows are

  step_part : (key : List ℕ) (rows : List TableRow) (step : RowStep) → PutsFit config.tables step → AllByRecursion Fits rows
      → told_by key (step_edits config (done_of config.tables rows step)) (part_at kept key rows)
      ≡ part_at kept key (rows_after config.tables rows step)
  step_part key rows (Insert table row) fit are =
      let new : TableRow = record { table = table; row = row } in
      exchanged None (Some (kept new)) key (part_at kept key rows)
      ∙ sym (with_row_part key rows new (record { known = fit.0; suits = columns_suit _ row.0 fit.1 }) are)
  step_part key rows (Update table k row) fit are =
      let new : TableRow = record { table = table; row = row } in
      let others = without_row config.tables rows table k in
      let old = option_map (record_at config table) (row_at config.tables rows table k) in
      exchanged old (Some (kept new)) key (part_at kept key rows)
      ∙ (ap (put (Some (kept new)) key) (sym (without_part key rows table k are))
      ∙ sym (with_row_part key others new (record { known = fit.0; suits = columns_suit _ row.0 fit.1 })
      (each_filter Fits (λ (x : TableRow). not (is_at config.tables table k x)) rows are)))
  step_part key rows (Delete table k) fit are =
      exchanged (option_map (record_at config table) (row_at config.tables rows table k)) None key (part_at kept key rows)
      ∙ sym (without_part key rows table k are)

  -- A RUN
  abbrev Keeps : List TableRow → List Done → List TableRow → Type 0
  Keeps rows dones after = AllByRecursion (λ (done : Done). PutsFit config.tables done.step) dones → AllByRecursion Fits rows
      → (key : List ℕ) → told_by key (row_edits config dones) (part_at kept key rows) ≡ part_at kept key after

  step_keeps : (rows : List TableRow) (step : RowStep) (dones : List Done) (after : List TableRow)
      → Keeps (rows_after config.tables rows step) dones after → Keeps rows (done_of config.tables rows step ∷ dones) after
  step_keeps rows step dones after rest fit are key =
      ap (λ edits. told_by key edits (part_at kept key rows)) (flat_map-cons (step_edits config) (done_of config.tables rows step) dones)
      ∙ (told_append key (step_edits config (done_of config.tables rows step)) (row_edits config dones) (part_at kept key rows)
      ∙ (ap (told_by key (row_edits config dones)) (step_part key rows step fit.0 are)
      ∙ rest fit.1 (fits_after rows step fit.0 are) key))

  abbrev made_dones : RunEnd → List Done
  made_dones (Made dones rows) = dones
  made_dones Ignored = []
  made_dones (Refused number rule) = []

  abbrev made_rows : RunEnd → List TableRow
  made_rows (Made dones rows) = rows
  made_rows Ignored = []
  made_rows (Refused number rule) = []

  abbrev is_made : RunEnd → Bool
  is_made (Made dones rows) = true
  is_made Ignored = false
  is_made (Refused number rule) = false

  no_end : {G : Type 0} (e : RunEnd) (dones : List Done) (rows : List TableRow) → is_made e ≡ false → e ≡ Made dones rows → G
  no_end e dones rows isnt is = absurd (true≢false (sym (ap is_made is) ∙ isnt))

  with_keeps : (rows : List TableRow) (step : RowStep) (later : RunEnd) (dones : List Done) (after : List TableRow)
      → ((more : List Done) → later ≡ Made more after → Keeps (rows_after config.tables rows step) more after)
      → with_done (done_of config.tables rows step) later ≡ Made dones after → Keeps rows dones after
  with_keeps rows step (Made more last) dones after rest is =
      subst (λ list. Keeps rows list after) (ap made_dones is)
      (step_keeps rows step more after (rest more (ap (Made more) (ap made_rows is))))
  with_keeps rows step Ignored dones after rest is = no_end Ignored dones after refl is
  with_keeps rows step (Refused number rule) dones after rest is = no_end (Refused number rule) dones after refl is

  module _ {R : Type 0} (overflow : RowStep → Bool) (judge : List TableRow → R → Resolution) where
    run_on : (rows : List TableRow) (next : ℕ × R) (later : List (ℕ × R)) (dones : List Done) (after : List TableRow) (asked : Resolution)
        → elim asked [
          | Apply step ↦ with_done (done_of config.tables rows step) (run config.tables overflow judge (rows_after config.tables rows step) later)
          | SkipRow ↦ run config.tables overflow judge rows later
          | SkipBatch ↦ Ignored
          | Broken rule ↦ Refused next.0 rule
        ] ≡ Made dones after
        → ((from : List TableRow) (more : List Done) → run config.tables overflow judge from later ≡ Made more after → Keeps from more after)
        → Keeps rows dones after
    run_on rows next later dones after (Apply step) is rest =
        with_keeps rows step (run config.tables overflow judge (rows_after config.tables rows step) later) dones after
        (λ more made. rest (rows_after config.tables rows step) more made) is
    run_on rows next later dones after SkipRow is rest = rest rows dones is
    run_on rows next later dones after SkipBatch is rest = no_end Ignored dones after refl is
    run_on rows next later dones after (Broken rule) is rest = no_end (Refused next.0 rule) dones after refl is

    run_keeps : (rows : List TableRow) (items : List (ℕ × R)) (dones : List Done) (after : List TableRow)
        → run config.tables overflow judge rows items ≡ Made dones after → Keeps rows dones after
    run_keeps rows [] dones after is = λ fit are key.
        ap (λ list. told_by key (row_edits config list) (part_at kept key rows)) (sym (ap made_dones is))
        ∙ ap (part_at kept key) (ap made_rows is)
    run_keeps rows (next ∷ later) dones after is =
        run_on rows next later dones after (by_step_rules config.tables overflow rows (judge rows next.1)) is
        (λ from more made. run_keeps from later more after made)

  -- AN ACT'S ROWS, however they end
  abbrev EndKeeps : List TableRow → RunEnd → Type 0
  EndKeeps rows end = (dones : List Done) (after : List TableRow) → end ≡ Made dones after → Keeps rows dones after

  pub write_keeps : (group : List ℕ) (waiting : ℕ) (rows : List TableRow) (tx : List TxRow) → EndKeeps rows (outcome_of_write config group waiting rows tx)
  write_keeps group waiting rows tx dones after is =
      run_keeps (overflows config group false waiting) (own_judge config.tables) rows (enumerate_from 1 tx) dones after is

  body_keeps : (group : List ℕ) (waiting : ℕ) (rows : List TableRow) (batch : Prepared) (made : Body) → EndKeeps rows (by_body config group waiting rows batch made)
  body_keeps group waiting rows batch (body.Rows made) dones after is =
      run_keeps (overflows config group true waiting) (batch_judge config batch) rows (map with_number made) dones after is
  body_keeps group waiting rows batch (body.Broken number rule) dones after is = no_end (Refused number rule) dones after refl is

  channel_keeps : (group : List ℕ) (waiting : ℕ) (rows : List TableRow) (batch : Prepared) (channel : Option ℕ) → EndKeeps rows (by_channel config group waiting rows batch channel)
  channel_keeps group waiting rows batch None dones after is = no_end (by_channel config group waiting rows batch None) dones after refl is
  channel_keeps group waiting rows batch (Some channel) dones after is = body_keeps group waiting rows batch batch.body dones after is

  pub batch_keeps : (group : List ℕ) (waiting : ℕ) (rows : List TableRow) (batch : Prepared) → EndKeeps rows (outcome_of_batch config group waiting rows batch)
  batch_keeps group waiting rows batch dones after is = channel_keeps group waiting rows batch batch.channel dones after is

  pub ended_keeps : (rows : List TableRow) (end : RunEnd) → EndKeeps rows end → Keeps rows (dones_of (Some end)) (rows_after_run rows (Some end))
  ended_keeps rows (Made dones after) keeps = keeps dones after refl
  ended_keeps rows Ignored keeps = λ fit are key. refl
  ended_keeps rows (Refused number rule) keeps = λ fit are key. refl

  pub rows_go : (rows : List TableRow) (dones : List Done) (after : List TableRow) → Keeps rows dones after
      → AllByRecursion (λ (done : Done). PutsFit config.tables done.step) dones → AllByRecursion Fits rows
      → Goes (row_edits config dones) (map kept rows) (map kept after)
  rows_go rows dones after keeps fit are key =
      ap (told_by key (row_edits config dones)) (part_is kept key rows) ∙ (keeps fit are key ∙ sym (part_is kept key after))

-- ALL THESE EDITS are of rows
abbrev KeptAt : ℕ → Option Record → Type 0
KeptAt place None = Unit {0}
KeptAt place (Some kept) = place_of kept.key ≡ place

exchange_at : (place : ℕ) (old new : Option Record) → KeptAt place old → KeptAt place new → EditsAt place (exchange_edits old new)
exchange_at place None None is also = tt
exchange_at place None (Some new) is also = (also, tt)
exchange_at place (Some old) None is also = (is, tt)
exchange_at place (Some old) (Some new) is also = on (bytes_eq new.key old.key)
  where
    on : (b : Bool) → EditsAt place ((cond b [] (record { key = old.key; body = None } ∷ [])) ++ record { key = new.key; body = Some new.body } ∷ [])
    on true = (also, tt)
    on false = (is, (also, tt))

rows_kept_at : (config : Config) (table : ℕ) (row : Option Row) → KeptAt 5 (option_map (record_at config table) row)
rows_kept_at config table None = tt
rows_kept_at config table (Some row) = refl

pub row_edits_at : (config : Config) (dones : List Done) → EditsAt 5 (row_edits config dones)
row_edits_at config [] = tt
row_edits_at config (done ∷ dones) =
    subst (EditsAt 5) (sym (flat_map-cons (step_edits config) done dones))
    (edits_at_append 5 (step_edits config done) (row_edits config dones)
    (exchange_at 5 (option_map (record_at config (table_of done.step)) done.old) (option_map (record_at config (table_of done.step)) (new_row done.step))
    (rows_kept_at config (table_of done.step) done.old) (rows_kept_at config (table_of done.step) (new_row done.step)))
    (row_edits_at config dones))
