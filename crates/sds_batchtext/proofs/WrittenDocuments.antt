-- The written lines of rows, of batches and of a document read back.
use Rattle.std.proofs.Common.{◌≡◌, ℕ, ◌+◌, ◌<◌, ◌≤◌, ◌^◌, Bool, true, false, not, ◌&&◌, ◌||◌, ◌==◌, nat_le, List, [], ◌∷◌, ◌++◌, length, length-append, Option, None, Some, IsTrue, refl, sym, ap, subst, ◌∙◌, arith, append-nil, append_assoc, if◌then◌else◌}
use Rattle.std.proofs.lemmas.Bool.Decides.{nat_tests}
use Rattle.std.proofs.lemmas.Slice.Eq.{bytes_eq-Decides}
use Rattle.std.specs.Fmt.{decimal}
use Rattle.std.specs.List.{list_all}
use Rattle.std.specs.Prelude.{codes, is_some}
use Rattle.std.specs.Str.{bytes_eq, encode_utf8_all}
use Rattle.sds_line.proofs.Comparisons.{both, le_from}
use Rattle.sds_line.specs.Splitting.{lines_from, lines_in, line_feeds}
use Rattle.sds_types.specs.Limits.{most_count}
use Rattle.sds_types.specs.declared.document.BatchDoc.{BatchDoc}
use Rattle.sds_types.specs.declared.document.End.TheVariants.{Clean}
use Rattle.sds_value.specs.Names.{is_name_text, is_name_character}
use Rattle.sds_value.specs.declared.kind.Binary.{Binary}
use Rattle.sds_value.specs.declared.kind.Binary.TheVariants.{Base64, Hex, Plain}
use Rattle.sds_value.specs.declared.row.DocRow.{DocRow}
use Rattle.sds_value.specs.declared.row.Field.{Field}
use Rattle.sds_value.specs.declared.row.Field.TheVariants.{Text}
use Rattle.sds_batchtext.specs.declared.directive.Directive.TheVariants as directive
use Rattle.sds_batchtext.specs.declared.doc_line.DocLine.{DocLine}
use Rattle.sds_batchtext.specs.declared.doc_line.DocLine.TheVariants.{NodeId, Binary as BinaryForm, Channel, Batch, Commit}
use Rattle.sds_batchtext.specs.declared.heading.Heading.{Heading}
use Rattle.sds_batchtext.specs.Documents.{Document, document_of, batches_of, given_text, is_unfinished, last_end, end_or, first_end, bad_line}
use Rattle.sds_batchtext.specs.Judging.{is_id}
use Rattle.sds_batchtext.specs.LookingBack.{is_open, pending_old}
use Rattle.sds_batchtext.specs.Writable.{are_names, is_row, has_sides, is_row_text, is_base64, is_writable, is_batch_text}
use Rattle.sds_batchtext.specs.Writing.{name_line, number_line, heading_lines, heading_after, row_lines, later_lines, lines_of_rows, lines_of_batch, lines_of_batches, same_names, same_heading, text_of_lines, text_of}
use Rattle.sds_batchtext.proofs.Fronts.{text_append}
use Rattle.sds_batchtext.proofs.Joins.{same_names_Decides}
use Rattle.sds_batchtext.proofs.PlainLines.{name_back, number_back, encoded}
use Rattle.sds_batchtext.proofs.Plays.{Outcome, outcome_of, Plays, plays_line, plays_line_at, plays_then, judged_ok, stands}
use Rattle.sds_batchtext.proofs.WrittenBatches.{IsInside, IsOutside, heading_for, heading_lines_said, heading_step, row_step, are_short, short_parts, first_short, and_true, opened, closed, name_said, id_said}

-- what a row has that has a written form
record IsRow (row : DocRow) : Type 0 where
  table : is_name_text row.table ≡ true
  keys : are_names row.keys ≡ true
  columns : are_names row.columns ≡ true
  sides : has_sides row.event row ≡ true

row_parts : (row : DocRow) → is_row row ≡ true → IsRow row
row_parts row is =
    let p = both (is_name_text row.table) (are_names row.keys && (are_names row.columns && has_sides row.event row)) is in
    let q = both (are_names row.keys) (are_names row.columns && has_sides row.event row) p.1 in
    let r = both (are_names row.columns) (has_sides row.event row) q.1 in
    record { table = p.0; keys = q.0; columns = r.0; sides = r.1 }

-- LATER ROWS
abbrev Leads : List DocLine → List (List ℕ) → ℕ → Heading → List DocRow → List BatchDoc → List ℕ → Type 0
Leads older lines id heading rows whole channel = (later : List DocLine) × (Plays older lines later × IsInside later id heading rows whole channel None)

same_headings : (before row : DocRow) → same_heading before row ≡ true → heading_for before ≡ heading_for row
same_headings before row is =
    let p = both (bytes_eq before.table row.table) (same_names before.keys row.keys && same_names before.columns row.columns) is in
    let q = both (same_names before.keys row.keys) (same_names before.columns row.columns) p.1 in
    let table : before.table ≡ row.table = (bytes_eq-Decides before.table row.table).0 p.0 in
    let keys : before.keys ≡ row.keys = (same_names_Decides before.keys row.keys).0 q.0 in
    let columns : before.columns ≡ row.columns = (same_names_Decides before.columns row.columns).0 q.1 in
    λ i. record { table = Some (table i); keys = Some (keys i); columns = Some (columns i) }

heading_next : (before row : DocRow) (older : List DocLine) (id : ℕ) (rows : List DocRow) (whole : List BatchDoc) (channel : List ℕ) → IsInside older id (heading_for before) rows whole channel None → IsRow row
    → are_short (heading_after before row) ≡ true → Leads older (heading_after before row) id (heading_for row) rows whole channel
heading_next before row older id rows whole channel inside is is_short = by (same_heading before row) refl
  where
    by : (b : Bool) → same_heading before row ≡ b → Leads older (heading_after before row) id (heading_for row) rows whole channel
    by true same =
        let none : heading_after before row ≡ [] = ap (λ (b : Bool). if b then [] else heading_lines row) same in
        (older, (subst (λ (lines : List (List ℕ)). Plays older lines older) (sym none) (λ n text. (n, refl)), subst (λ (h : Heading). IsInside older id h rows whole channel None) (same_headings before row same) inside))
    by false same =
        let all : heading_after before row ≡ heading_lines row = ap (λ (b : Bool). if b then [] else heading_lines row) same in
        let step = heading_step older id (heading_for before) rows whole channel row.table row.keys row.columns inside is.table is.keys is.columns (ap are_short (sym all) ∙ is_short) in (
          heading_lines_said row.table row.keys row.columns older,
          (subst (λ (lines : List (List ℕ)). Plays older lines (heading_lines_said row.table row.keys row.columns older)) (sym all) step.0, step.1),
        )

row_next : (row : DocRow) (older : List DocLine) (id : ℕ) (rows : List DocRow) (whole : List BatchDoc) (channel : List ℕ) → IsInside older id (heading_for row) rows whole channel None → IsRow row → is_row_text row ≡ true
    → are_short (row_lines row) ≡ true → Leads older (row_lines row) id (heading_for row) (rows ++ row ∷ []) whole channel
row_next row older id rows whole channel inside is text is_short =
    row_step older id rows whole channel row.event row.table row.keys row.columns row.new row.key row.old inside is.keys is.columns is.sides text is_short

later_rows : (more : List DocRow) (before : DocRow) (older : List DocLine) (id : ℕ) (rows : List DocRow) (whole : List BatchDoc) (channel : List ℕ) → IsInside older id (heading_for before) rows whole channel None
    → list_all is_row more ≡ true → list_all is_row_text more ≡ true → are_short (later_lines before more) ≡ true → (heading : Heading) × Leads older (later_lines before more) id heading (rows ++ more) whole channel
later_rows [] before older id rows whole channel inside are texts is_short =
    (heading_for before, (older, ((λ n text. (n, refl)), subst (λ (l : List DocRow). IsInside older id (heading_for before) l whole channel None) (sym (append-nil rows)) inside)))
later_rows (row ∷ more) before older id rows whole channel inside are texts is_short =
    let a = both (is_row row) (list_all is_row more) are in
    let t = both (is_row_text row) (list_all is_row_text more) texts in
    let s = short_parts (heading_after before row) (row_lines row ++ later_lines row more) is_short in
    let u = short_parts (row_lines row) (later_lines row more) s.1 in
    let is = row_parts row a.0 in
    let one = heading_next before row older id rows whole channel inside is s.0 in
    let two = row_next row one.0 id rows whole channel one.1.1 is t.0 u.0 in
    let three = later_rows more row two.0 id (rows ++ row ∷ []) whole channel two.1.1 a.1 t.1 u.1 in (
      three.0,
      (
        three.1.0,
        (
          plays_then older one.0 three.1.0 (heading_after before row) (row_lines row ++ later_lines row more) one.1.0 (plays_then one.0 two.0 three.1.0 (row_lines row) (later_lines row more) two.1.0 three.1.1.0),
          subst (λ (l : List DocRow). IsInside three.1.0 id three.0 l whole channel None) (append_assoc rows (row ∷ []) more) three.1.1.1,
        ),
      ),
    )

all_rows : (rows : List DocRow) (older : List DocLine) (id : ℕ) (heading : Heading) (whole : List BatchDoc) (channel : List ℕ) → IsInside older id heading [] whole channel None → list_all is_row rows ≡ true
    → list_all is_row_text rows ≡ true → are_short (lines_of_rows rows) ≡ true → (last : Heading) × Leads older (lines_of_rows rows) id last rows whole channel
all_rows [] older id heading whole channel inside are texts is_short = (heading, (older, ((λ n text. (n, refl)), inside)))
all_rows (row ∷ more) older id heading whole channel inside are texts is_short =
    let a = both (is_row row) (list_all is_row more) are in
    let t = both (is_row_text row) (list_all is_row_text more) texts in
    let s = short_parts (heading_lines row) (row_lines row ++ later_lines row more) is_short in
    let u = short_parts (row_lines row) (later_lines row more) s.1 in
    let is = row_parts row a.0 in
    let one = heading_step older id heading [] whole channel row.table row.keys row.columns inside is.table is.keys is.columns s.0 in
    let two = row_next row (heading_lines_said row.table row.keys row.columns older) id [] whole channel one.1 is t.0 u.0 in
    let three = later_rows more row two.0 id (row ∷ []) whole channel two.1.1 a.1 t.1 u.1 in (
      three.0,
      (
        three.1.0,
        (
          plays_then older (heading_lines_said row.table row.keys row.columns older) three.1.0 (heading_lines row) (row_lines row ++ later_lines row more) one.0
              (plays_then (heading_lines_said row.table row.keys row.columns older) two.0 three.1.0 (row_lines row) (later_lines row more) two.1.0 three.1.1.0),
          three.1.1.1,
        ),
      ),
    )

-- A BATCH
base64_is : (b : Binary) → is_base64 b ≡ true → b ≡ Base64
base64_is Base64 is = refl
base64_is Hex is = absurd (cc)
base64_is Plain is = absurd (cc)

in_numbers : (n : ℕ) → (nat_le 1 n && nat_le n most_count) ≡ true → (n < 2 ^ 64) × (0 < n)
in_numbers n is =
    let p = both (nat_le 1 n) (nat_le n most_count) is in
    let low : 1 ≤ n = le_from 1 n p.0 in
    let high : n ≤ most_count = le_from n most_count p.1 in (omega arith, omega arith)

itself : (n : ℕ) → (n == n) ≡ true
itself n = grind (arith, nat_tests)

pub batch_step : (batch : BatchDoc) (older : List DocLine) (whole : List BatchDoc) → IsOutside older whole → is_writable batch ≡ true → is_batch_text batch ≡ true
    → (later : List DocLine) × (Plays older (lines_of_batch batch) later × IsOutside later (whole ++ batch ∷ []))
batch_step batch older whole outside is text =
    let p = both (is_base64 batch.binary) _ is in
    let q = both (nat_le 1 batch.batch && nat_le batch.batch most_count) _ p.1 in
    let r = both (is_name_text batch.channel) _ q.1 in
    let t = both (list_all is_row batch.rows) (are_short (lines_of_batch batch)) r.1 in
    let numbers = in_numbers batch.batch q.0 in
    let closed_here : is_open older ≡ false = closed older outside.count in
    let s1 = first_short (name_line (codes "channel,") batch.channel) (number_line (codes "batch,") batch.batch ∷ (lines_of_rows batch.rows ++ number_line (codes "commit,") batch.batch ∷ [])) t.1 in
    let s2 = first_short (number_line (codes "batch,") batch.batch) (lines_of_rows batch.rows ++ number_line (codes "commit,") batch.batch ∷ []) s1.1 in
    let s3 = short_parts (lines_of_rows batch.rows) (number_line (codes "commit,") batch.batch ∷ []) s2.1 in
    let s4 = first_short (number_line (codes "commit,") batch.batch) [] s3.1 in
    let after_channel : List DocLine = Channel batch.channel ∷ older in
    let begun : List DocLine = Batch batch.batch ∷ (Channel batch.channel ∷ older) in
    let one : Plays older (name_line (codes "channel,") batch.channel ∷ []) (Channel batch.channel ∷ older) =
    plays_line older (name_line (codes "channel,") batch.channel) (Text (codes "channel")) (Text batch.channel ∷ []) (Channel batch.channel) (name_back batch.channel (Text (codes "channel") ∷ []) r.0) s1.0 (λ n.
    judged_ok older n (Text (codes "channel") ∷ (Text batch.channel ∷ [])) directive.Channel (Channel batch.channel) refl
    (stands older directive.Channel outside.pending (and_true _ _ (ap not closed_here) outside.node)) (name_said batch.channel Channel r.0) refl refl) in
    let two : Plays (Channel batch.channel ∷ older) (number_line (codes "batch,") batch.batch ∷ []) (Batch batch.batch ∷ (Channel batch.channel ∷ older)) =
    plays_line (Channel batch.channel ∷ older) (number_line (codes "batch,") batch.batch) (Text (codes "batch")) (Text (decimal batch.batch) ∷ []) (Batch batch.batch)
    (number_back batch.batch (Text (codes "batch") ∷ []) numbers.0 numbers.1) s2.0 (λ n.
    judged_ok (Channel batch.channel ∷ older) n (Text (codes "batch") ∷ (Text (decimal batch.batch) ∷ [])) directive.Batch (Batch batch.batch) refl
    (stands (Channel batch.channel ∷ older) directive.Batch refl (and_true (not (is_open older)) true (ap not closed_here) refl)) (id_said batch.batch Batch q.0 numbers.0 numbers.1) refl refl) in
    let inside : IsInside (Batch batch.batch ∷ (Channel batch.channel ∷ older)) batch.batch (record { table = None; keys = None; columns = None }) [] whole batch.channel None = record {
      count = ap (λ (k : ℕ). k + 1) outside.count;
      last = refl;
      pending = refl;
      under = refl;
      binary = outside.binary;
      named = refl;
      given_rows = refl;
      given_batches = outside.given_batches;
      node = outside.node;
    } in
    let rows = all_rows batch.rows (Batch batch.batch ∷ (Channel batch.channel ∷ older)) batch.batch (record { table = None; keys = None; columns = None }) whole batch.channel inside t.0 text s3.0 in
    let last : List DocLine = rows.1.0 in
    let at_end : IsInside rows.1.0 batch.batch rows.0 batch.rows whole batch.channel None = rows.1.1.1 in
    let three : Plays rows.1.0 (number_line (codes "commit,") batch.batch ∷ []) (Commit batch.batch ∷ rows.1.0) =
    plays_line rows.1.0 (number_line (codes "commit,") batch.batch) (Text (codes "commit")) (Text (decimal batch.batch) ∷ []) (Commit batch.batch)
    (number_back batch.batch (Text (codes "commit") ∷ []) numbers.0 numbers.1) s4.0 (λ n.
    judged_ok rows.1.0 n (Text (codes "commit") ∷ (Text (decimal batch.batch) ∷ [])) directive.Commit (Commit batch.batch) refl (stands rows.1.0 directive.Commit at_end.pending (opened rows.1.0 at_end.count))
    (id_said batch.batch Commit q.0 numbers.0 numbers.1) refl (ap (λ (o : Option ℕ). is_id o batch.batch) at_end.last ∙ itself batch.batch)) in (
      Commit batch.batch ∷ rows.1.0,
      (
        plays_then older (Channel batch.channel ∷ older) (Commit batch.batch ∷ rows.1.0) (name_line (codes "channel,") batch.channel ∷ [])
            (number_line (codes "batch,") batch.batch ∷ (lines_of_rows batch.rows ++ number_line (codes "commit,") batch.batch ∷ [])) one
            (plays_then (Channel batch.channel ∷ older) (Batch batch.batch ∷ (Channel batch.channel ∷ older)) (Commit batch.batch ∷ rows.1.0) (number_line (codes "batch,") batch.batch ∷ [])
            (lines_of_rows batch.rows ++ number_line (codes "commit,") batch.batch ∷ []) two
            (plays_then (Batch batch.batch ∷ (Channel batch.channel ∷ older)) rows.1.0 (Commit batch.batch ∷ rows.1.0) (lines_of_rows batch.rows) (number_line (codes "commit,") batch.batch ∷ []) rows.1.1.0 three)),
        record {
          count = at_end.count;
          pending = refl;
          binary = at_end.binary;
          given_batches = (λ i. at_end.given_batches i ++ record { channel = given_text (at_end.named i); batch = batch.batch; binary = at_end.binary i; rows = at_end.given_rows i } ∷ [])
              ∙ (λ i. whole ++ record { channel = batch.channel; batch = batch.batch; binary = sym (base64_is batch.binary p.0) i; rows = batch.rows } ∷ []);
          node = at_end.node;
        },
      ),
    )

pub batches_step : (batches : List BatchDoc) (older : List DocLine) (whole : List BatchDoc) → IsOutside older whole → list_all is_writable batches ≡ true → list_all is_batch_text batches ≡ true
    → (later : List DocLine) × (Plays older (lines_of_batches batches) later × IsOutside later (whole ++ batches))
batches_step [] older whole outside are texts = (older, ((λ n text. (n, refl)), subst (λ (l : List BatchDoc). IsOutside older l) (sym (append-nil whole)) outside))
batches_step (batch ∷ batches) older whole outside are texts =
    let a = both (is_writable batch) (list_all is_writable batches) are in
    let t = both (is_batch_text batch) (list_all is_batch_text batches) texts in
    let one = batch_step batch older whole outside a.0 t.0 in
    let two = batches_step batches one.0 (whole ++ batch ∷ []) one.1.1 a.1 t.1 in (
      two.0,
      (
        plays_then older one.0 two.0 (lines_of_batch batch) (lines_of_batches batches) one.1.0 two.1.0,
        subst (λ (l : List BatchDoc). IsOutside two.0 l) (append_assoc whole (batch ∷ []) batches) two.1.1,
      ),
    )

-- A DOCUMENT
node_short : (node : List ℕ) → is_name_text node ≡ true → length (name_line (codes "nodeid,") node) ≤ 1048576
node_short node is =
    let few : length node ≤ 50 = le_from (length node) 50 (both (nat_le (length node) 50) (list_all is_name_character node) (both (nat_le 1 (length node)) _ is).1).0 in
    let same : length (encode_utf8_all node) ≡ length node = ap length (encoded node is) in
    let sum : length (codes "nodeid," ++ encode_utf8_all node) ≡ length (codes "nodeid,") + length (encode_utf8_all node) = length-append (codes "nodeid,") (encode_utf8_all node) in
    omega arith

abbrev gives : Outcome → ℕ → Document
gives o n = record { batches = batches_of o.said; ending = end_or (first_end o.broken (bad_line o.stop n)) (last_end (is_unfinished o.said) n) }

finished : (older : List DocLine) (whole : List BatchDoc) → IsOutside older whole → is_unfinished older ≡ false
finished older whole outside = ap (λ (b : Bool). b || is_some (pending_old older)) (closed older outside.count) ∙ ap (λ (o : Option (List Field)). is_some o) outside.pending

pub written_back : (node : List ℕ) (batches : List BatchDoc) → IsTrue (is_name_text node) → IsTrue (list_all is_writable batches) → IsTrue (list_all is_batch_text batches)
    → document_of (text_of node batches) ≡ record { batches = batches; ending = Clean }
written_back node batches is are texts =
    let named : DocLine = NodeId (record { id = node; line = 1 }) in
    let begun : List DocLine = BinaryForm Base64 ∷ (NodeId (record { id = node; line = 1 }) ∷ []) in
    let outside : IsOutside (BinaryForm Base64 ∷ (NodeId (record { id = node; line = 1 }) ∷ [])) [] = record { count = refl; pending = refl; binary = refl; given_batches = refl; node = refl } in
    let rest = batches_step batches (BinaryForm Base64 ∷ (NodeId (record { id = node; line = 1 }) ∷ [])) [] outside are texts in
    let second : Plays (NodeId (record { id = node; line = 1 }) ∷ []) (codes "binary,BASE64" ∷ []) (BinaryForm Base64 ∷ (NodeId (record { id = node; line = 1 }) ∷ [])) =
    plays_line (NodeId (record { id = node; line = 1 }) ∷ []) (codes "binary,BASE64") (Text (codes "binary")) (Text (codes "BASE64") ∷ []) (BinaryForm Base64) refl (omega arith) (λ n.
    judged_ok (NodeId (record { id = node; line = 1 }) ∷ []) n (Text (codes "binary") ∷ (Text (codes "BASE64") ∷ [])) directive.Binary (BinaryForm Base64) refl refl refl refl refl) in
    let later : Plays (NodeId (record { id = node; line = 1 }) ∷ []) (codes "binary,BASE64" ∷ lines_of_batches batches) rest.0 =
    plays_then (NodeId (record { id = node; line = 1 }) ∷ []) (BinaryForm Base64 ∷ (NodeId (record { id = node; line = 1 }) ∷ [])) rest.0 (codes "binary,BASE64" ∷ []) (lines_of_batches batches) second rest.1.0 in
    let first : outcome_of [] (lines_from 1 (text_of_lines (name_line (codes "nodeid,") node ∷ []) ++ text_of_lines (codes "binary,BASE64" ∷ lines_of_batches batches)))
    ≡ outcome_of (NodeId (record { id = node; line = 1 }) ∷ []) (lines_from (1 + line_feeds (name_line (codes "nodeid,") node) + 1) (text_of_lines (codes "binary,BASE64" ∷ lines_of_batches batches))) =
    plays_line_at [] (name_line (codes "nodeid,") node) (Text (codes "nodeid")) (Text node ∷ []) (NodeId (record { id = node; line = 1 })) 1 (text_of_lines (codes "binary,BASE64" ∷ lines_of_batches batches))
    (name_back node (Text (codes "nodeid") ∷ []) is) (node_short node is)
    (judged_ok [] 1 (Text (codes "nodeid") ∷ (Text node ∷ [])) directive.NodeId (NodeId (record { id = node; line = 1 })) refl refl (name_said node (λ id. NodeId (record { id = id; line = 1 })) is) refl refl) in
    let all = later (1 + line_feeds (name_line (codes "nodeid,") node) + 1) [] in
    let total : outcome_of [] (lines_from 1 (text_of node batches)) ≡ record { said = rest.0; broken = None; stop = None } =
    ap (λ (l : List ℕ). outcome_of [] (lines_from 1 l)) (text_append (name_line (codes "nodeid,") node ∷ []) (codes "binary,BASE64" ∷ lines_of_batches batches))
    ∙ (first ∙ (ap (λ (l : List ℕ). outcome_of (NodeId (record { id = node; line = 1 }) ∷ []) (lines_from (1 + line_feeds (name_line (codes "nodeid,") node) + 1) l)) (sym (append-nil (text_of_lines (codes "binary,BASE64" ∷ lines_of_batches batches)))) ∙ all.1)) in
    let number : ℕ = (lines_in true (text_of node batches)).last.number in
    ap (λ (o : Outcome). gives o (lines_in true (text_of node batches)).last.number) total
    ∙ (λ i. record { batches = rest.1.1.given_batches i; ending = last_end (finished rest.0 batches rest.1.1 i) (lines_in true (text_of node batches)).last.number })
