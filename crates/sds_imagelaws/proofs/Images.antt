-- The image with an act's edits is the image after the act.
use Rattle.std.proofs.Common.{◌≡◌, ℕ, ◌<◌, ◌||◌, Bool, true, false, List, [], ◌∷◌, ◌++◌, length, map, Option, refl, sym, ap, ◌∙◌, arith}
use Rattle.std.specs.Prelude.{IsTrue}
use Rattle.std.specs.List.{AllByRecursion, zip}
use Rattle.std.proofs.lemmas.List.Elements.{recursion_from_All}
use Rattle.sds_outside.specs.Records.{edited}
use Rattle.sds_outside.specs.declared.keeping.Edit.{Edit}
use Rattle.sds_outside.proofs.Ascending.{ascending_edited}
use Rattle.sds_value.specs.declared.kind.Value.{Value}
use Rattle.sds_value.specs.declared.table.ColumnDef.{ColumnDef}
use Rattle.sds_value.specs.Values.{fits}
use Rattle.sds_types.specs.declared.config.Config.{Config}
use Rattle.sds_types.specs.declared.row.Row.{Row}
use Rattle.sds_types.specs.declared.row.TableRow.{TableRow}
use Rattle.sds_trade.specs.rules.Captured.{Done}
use Rattle.sds_trade.specs.rules.Fitting.{Suits}
use Rattle.sds_trade.specs.rules.Places.{columns_at}
use Rattle.sds_trade.specs.rules.Sound.{IsSound}
use Rattle.sds_trade.specs.rules.Tables.{AreTables, IsRowOf, is_null, may_hold}
use Rattle.sds_history.specs.history.Acts.{Act, State}
use Rattle.sds_history.specs.history.Acts.Act.{Opened, Joined, Confirmed, Wrote, Routed, Loaded, Erred, Acked}
use Rattle.sds_history.specs.history.Image.{count_records, image_of, records_of}
use Rattle.sds_history.specs.history.Records.{count_record, me_record}
use Rattle.sds_history.specs.history.RowRecords.{row_record}
use Rattle.sds_history.specs.history.SoundStates.{IsSoundState}
use Rattle.sds_history.specs.history.States.{state_after}
use Rattle.sds_records.specs.Parts.{put_edit}
use Rattle.sds_imagelaws.specs.Edits.{batch_edits, change_edits, edits_of, lane_edits, opening_edits, peer_edits, row_edits, made_steps, writer_edits}
use Rattle.sds_image.specs.Pairs.{pairs}
use Rattle.sds_imagelaws.specs.Images.{EditsMakeImages, NewNodesHaveOneRecord, PutsFit, StepsFit}
use Rattle.sds_imagelaws.proofs.BatchSteps.{batch_part, lane_part}
use Rattle.sds_imagelaws.proofs.Lists.{each_both, each_by}
use Rattle.sds_imagelaws.proofs.Lookups.{body_at, body_edited, same_records, told_append, told_by}
use Rattle.sds_imagelaws.proofs.Parts.{EditsAt, Goes, Part, PartsFrom, and_parts, either_order, last_part, mapped_at}
use Rattle.sds_imagelaws.proofs.PartSteps.{change_part, count_part, me_part, opening_part, peer_part, same_part, writer_part}
use Rattle.sds_imagelaws.proofs.RowKeys.{AllSuit, RowFits}
use Rattle.sds_imagelaws.proofs.RowSteps.{batch_keeps, ended_keeps, row_edits_at, rows_go, write_keeps}
use Rattle.sds_imagelaws.proofs.Sorted.{sorted_ascend, sorted_has}
use Rattle.sds_imagelaws.proofs.Tests.{not_below}

-- ROWS of a sound state fit
pub held_suits : (null not_null fit : Bool) → elim null [ true ↦ not_null | false ↦ fit ] ≡ true → (null || fit) ≡ true
held_suits true not_null fit is = refl
held_suits false not_null fit is = is

pub held_row : (columns : List ColumnDef) (row : Row) → IsRowOf columns row → AllSuit columns row.0
held_row columns row held = record {
  whole = held.whole;
  each = each_by (λ (at : ColumnDef × Value). IsTrue (may_hold at.0 at.1)) Suits (zip columns row.0)
      (λ at is. held_suits (is_null at.1) _ (fits at.0.kind at.1) is)
      (recursion_from_All (λ (at : ColumnDef × Value). IsTrue (may_hold at.0 at.1)) (zip columns row.0) held.held);
}

pub tables_fit : (config : Config) (rows : List TableRow) → AreTables config.tables rows → AllByRecursion (RowFits config) rows
tables_fit config rows are =
    each_both (λ (row : TableRow). row.table < length config.tables) (λ (row : TableRow). IsRowOf (columns_at config.tables row.table) row.row) (RowFits config) rows
    (λ row known held. record { known = known; suits = held_row (columns_at config.tables row.table) row.row held })
    (recursion_from_All (λ (row : TableRow). row.table < length config.tables) rows are.known)
    (recursion_from_All (λ (row : TableRow). IsRowOf (columns_at config.tables row.table) row.row) rows are.held)

row_part : (config : Config) (state : State) (act : Act) → Goes (row_edits config (made_steps config state act)) (map (row_record config) state.tables)
    (map (row_record config) (state_after config state act).tables)
    → Part 5 (row_edits config (made_steps config state act)) (map (row_record config) state.tables) (map (row_record config) (state_after config state act).tables)
row_part config state act goes = record {
  goes = goes;
  own = row_edits_at config (made_steps config state act);
  old = mapped_at (row_record config) 5 state.tables (λ x. refl);
  new = mapped_at (row_record config) 5 (state_after config state act).tables (λ x. refl);
}

table_part : (config : Config) → IsSound config → (state : State) → AreTables config.tables state.tables → (act : Act) → StepsFit config state act
    → Part 5 (row_edits config (made_steps config state act)) (map (row_record config) state.tables) (map (row_record config) (state_after config state act).tables)
table_part config sound state are (Wrote writer number rows) fit =
    row_part config state (Wrote writer number rows)
    (rows_go config sound state.tables _ _ (ended_keeps config sound state.tables _ (write_keeps config sound state.me.group _ state.tables rows))
    (recursion_from_All (λ (done : Done). PutsFit config.tables done.step) _ fit) (tables_fit config state.tables are))
table_part config sound state are (Loaded channel batch) fit =
    row_part config state (Loaded channel batch)
    (rows_go config sound state.tables _ _ (ended_keeps config sound state.tables _ (batch_keeps config sound state.me.group _ state.tables batch))
    (recursion_from_All (λ (done : Done). PutsFit config.tables done.step) _ fit) (tables_fit config state.tables are))
table_part config sound state are (Opened group external token) fit = same_part 5 (row_record config) (λ x. refl) state.tables
table_part config sound state are (Joined kept) fit = same_part 5 (row_record config) (λ x. refl) state.tables
table_part config sound state are (Confirmed peer) fit = same_part 5 (row_record config) (λ x. refl) state.tables
table_part config sound state are Routed fit = same_part 5 (row_record config) (λ x. refl) state.tables
table_part config sound state are (Erred from channel error) fit = same_part 5 (row_record config) (λ x. refl) state.tables
table_part config sound state are (Acked from acks) fit = same_part 5 (row_record config) (λ x. refl) state.tables

-- EDITS in the order of the records: the counters' first, and the writer's before those of rows and changes
module _ (key : List ℕ) where
  abbrev by : List Edit → Option (List ℕ) → Option (List ℕ)
  by edits told = told_by key edits told

  turned : (p o r c w b l n : List Edit) → ((told : Option (List ℕ)) → by n (by l told) ≡ by l (by n told))
      → ((told : Option (List ℕ)) → by n (by b told) ≡ by b (by n told)) → ((told : Option (List ℕ)) → by n (by w told) ≡ by w (by n told))
      → ((told : Option (List ℕ)) → by n (by c told) ≡ by c (by n told)) → ((told : Option (List ℕ)) → by n (by r told) ≡ by r (by n told))
      → ((told : Option (List ℕ)) → by n (by o told) ≡ by o (by n told)) → ((told : Option (List ℕ)) → by n (by p told) ≡ by p (by n told))
      → ((told : Option (List ℕ)) → by w (by c told) ≡ by c (by w told)) → ((told : Option (List ℕ)) → by w (by r told) ≡ by r (by w told))
      → (told : Option (List ℕ))
      → by n (by l (by b (by w (by c (by r (by o (by p told))))))) ≡ by l (by b (by c (by r (by w (by o (by p (by n told)))))))
  turned p o r c w b l n nl nb nw nc nr n_o np wc wr told =
      nl (by b (by w (by c (by r (by o (by p told))))))
      ∙ ap (by l) (nb (by w (by c (by r (by o (by p told)))))
      ∙ ap (by b) (nw (by c (by r (by o (by p told))))
      ∙ (ap (by w) (nc (by r (by o (by p told)))
      ∙ ap (by c) (nr (by o (by p told)) ∙ ap (by r) (n_o (by p told) ∙ ap (by o) (np told))))
      ∙ (wc (by r (by o (by p (by n told)))) ∙ ap (by c) (wr (by o (by p (by n told))))))))

  in_turn : (p o r c w b l n : List Edit) (told : Option (List ℕ))
      → by (p ++ (o ++ (r ++ (c ++ (w ++ (b ++ (l ++ n))))))) told ≡ by n (by l (by b (by w (by c (by r (by o (by p told)))))))
  in_turn p o r c w b l n told =
      told_append key p _ told ∙ (told_append key o _ _ ∙ (told_append key r _ _ ∙ (told_append key c _ _
      ∙ (told_append key w _ _ ∙ (told_append key b _ _ ∙ told_append key l _ _)))))

  in_order : (p o r c w b l n : List Edit) (told : Option (List ℕ))
      → by (n ++ (p ++ (o ++ (w ++ (r ++ (c ++ (b ++ l))))))) told ≡ by l (by b (by c (by r (by w (by o (by p (by n told)))))))
  in_order p o r c w b l n told =
      told_append key n _ told ∙ (told_append key p _ _ ∙ (told_append key o _ _ ∙ (told_append key w _ _
      ∙ (told_append key r _ _ ∙ (told_append key c _ _ ∙ told_append key b _ _)))))

  -- the edits of the parts as an act has them, and as the records stand
  moved : (p o r c w b l n : List Edit) → EditsAt 2 p → EditsAt 3 o → EditsAt 5 r → EditsAt 6 c → EditsAt 4 w → EditsAt 7 b → EditsAt 8 l → EditsAt 1 n
      → (told : Option (List ℕ))
      → by (p ++ (o ++ (r ++ (c ++ (w ++ (b ++ (l ++ n))))))) told ≡ by (n ++ (p ++ (o ++ (w ++ (r ++ (c ++ (b ++ l))))))) told
  moved p o r c w b l n at_p at_o at_r at_c at_w at_b at_l at_n told =
      in_turn p o r c w b l n told
      ∙ (turned p o r c w b l n
      (λ t. either_order key 1 8 n l t at_n at_l (not_below 1 8 (omega arith))) (λ t. either_order key 1 7 n b t at_n at_b (not_below 1 7 (omega arith)))
      (λ t. either_order key 1 4 n w t at_n at_w (not_below 1 4 (omega arith))) (λ t. either_order key 1 6 n c t at_n at_c (not_below 1 6 (omega arith)))
      (λ t. either_order key 1 5 n r t at_n at_r (not_below 1 5 (omega arith))) (λ t. either_order key 1 3 n o t at_n at_o (not_below 1 3 (omega arith)))
      (λ t. either_order key 1 2 n p t at_n at_p (not_below 1 2 (omega arith)))
      (λ t. either_order key 4 6 w c t at_w at_c (not_below 4 6 (omega arith))) (λ t. either_order key 4 5 w r t at_w at_r (not_below 4 5 (omega arith))) told
      ∙ sym (in_order p o r c w b l n told))

module _ (config : Config) (sound : IsSound config) (state : State) (act : Act) (before : IsSoundState config state)
    (after : IsSoundState config (state_after config state act)) (fit : StepsFit config state act) where
  abbrev next : State
  next = state_after config state act

  abbrev edits : List Edit
  edits = edits_of config state act

  abbrev count_edits : List Edit
  count_edits = put_edit (count_record next.counts) ∷ []

  abbrev ordered : List Edit
  ordered = count_edits ++ (peer_edits act ++ (opening_edits state act ++ (writer_edits next act
      ++ (row_edits config (made_steps config state act) ++ (change_edits config state next act
      ++ (batch_edits config state next act ++ lane_edits config next act))))))

  rows : Part 5 (row_edits config (made_steps config state act)) (map (row_record config) state.tables) (map (row_record config) next.tables)
  rows = table_part config sound state before.tables act fit

  counts : Part 1 count_edits (count_records state.counts) (count_records next.counts)
  counts = count_part state.counts next.counts state.counts.acts refl

  parts : PartsFrom 0 ordered (records_of config state) (records_of config next)
  parts =
      and_parts 0 [] _ _ _ _ _ (me_part (me_record state.me) refl)
      (and_parts 1 _ _ _ _ _ _ counts
      (and_parts 2 _ _ _ _ _ _ (peer_part act state.peers)
      (and_parts 3 _ _ _ _ _ _ (opening_part act state.openings before.lists.openings)
      (and_parts 4 _ _ _ _ _ _ (writer_part config state act)
      (and_parts 5 _ _ _ _ _ _ rows
      (and_parts 6 _ _ _ _ _ _ (change_part config state act after)
      (and_parts 7 _ _ _ _ _ _ (batch_part config state act before after)
      (last_part (lane_part config state act)))))))))

  one_image : edited edits (pairs (image_of config state)) ≡ pairs (image_of config next)
  one_image =
      same_records (edited edits (pairs (image_of config state))) (pairs (image_of config next))
      (ascending_edited edits (pairs (image_of config state)) (sorted_ascend (records_of config state)))
      (sorted_ascend (records_of config next))
      (λ key. body_edited key edits (pairs (image_of config state)) (sorted_ascend (records_of config state))
      ∙ (ap (told_by key edits) (sorted_has key (records_of config state))
      ∙ (moved key (peer_edits act) (opening_edits state act) (row_edits config (made_steps config state act)) (change_edits config state next act)
      (writer_edits next act) (batch_edits config state next act) (lane_edits config next act) count_edits
      (peer_part act state.peers).own (opening_part act state.openings before.lists.openings).own rows.own
      (change_part config state act after).own (writer_part config state act).own (batch_part config state act before after).own
      (lane_part config state act).own counts.own (body_at key (pairs (records_of config state)))
      ∙ (parts.goes key ∙ sym (sorted_has key (records_of config next))))))

pub edits_make_images : EditsMakeImages
edits_make_images config state act sound before after fit = one_image config sound state act before after fit

pub new_nodes_have_one_record : NewNodesHaveOneRecord
new_nodes_have_one_record config me = refl
