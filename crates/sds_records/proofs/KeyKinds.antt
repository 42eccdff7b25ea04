-- Which kind of part a key tells of: the first byte of a part's key is its kind's.
use Rattle.std.proofs.Common.{◌≡◌, ℕ, ◌<◌, Bool, true, false, ◌&&◌, ◌||◌, List, [], ◌∷◌, ◌++◌, length, Option, None, Some, refl, sym, ap, subst, ◌∙◌, arith, true≢false}
use Rattle.std.proofs.lemmas.Bool.Decides.{nat_tests}
use Rattle.std.specs.List.{All}
use Rattle.std.specs.Prelude.{IsTrue, nat_lt}
use Rattle.std.specs.Str.{bytes_eq, encode_utf8_all}
use Rattle.sds_value.proofs.Characters.{left_true, right_true}
use Rattle.sds_value.specs.Names.{is_name_text}
use Rattle.sds_value.specs.declared.row.Event.{Event}
use Rattle.sds_value.specs.declared.row.Event.TheVariants.{Insert, Update, Delete}
use Rattle.sds_value.specs.declared.row.Field.{Field}
use Rattle.sds_types.specs.declared.batch.OutBatch.{OutBatch}
use Rattle.sds_types.specs.declared.config.Config.{Config}
use Rattle.sds_types.specs.declared.lane.LaneIn.{LaneIn}
use Rattle.sds_types.specs.declared.registration.Opening as opened
use Rattle.sds_types.specs.declared.row.Change as changed
use Rattle.sds_types.specs.declared.row.Row as row
use Rattle.sds_types.specs.declared.row.TableRow.{TableRow}
use Rattle.sds_trade.proofs.Lists.{all_head, all_tail}
use Rattle.sds_trade.specs.rules.Fitting.{FitsRow, HasRows}
use Rattle.sds_trade.specs.rules.Places.{columns_at, is_among, table_name}
use Rattle.sds_trade.specs.rules.Sound.{IsSound}
use Rattle.sds_history.specs.history.Lanes.{lane_key}
use Rattle.sds_history.specs.history.Openings.{opening_key}
use Rattle.sds_history.specs.history.Records.{id_text}
use Rattle.sds_history.specs.history.RowRecords.{row_fields, row_key}
use Rattle.sds_history.specs.history.SoundParts.{is_batch, is_opening, is_standing, is_token}
use Rattle.sds_records.specs.Fields.{batch_fields, change_fields, fields_of_told, lane_fields, opening_fields}
use Rattle.sds_records.specs.Parts.{FitsSide}
use Rattle.sds_records.specs.Told.{HasChannel, HasTable, HasValues, IsHeld, IsHeldBatch, IsHeldChange, IsHeldLane, IsNarrow, is_formed, names_node, names_source, record_of_told, sides_stand}
use Rattle.sds_records.specs.declared.told.Told.{Told}
use Rattle.sds_records.specs.declared.told.Told.TheVariants.{Me, Counts, Peer, Opening, Writer, Row, Change, Batch, Lane}
use Rattle.sds_records.proofs.Places.{sound_channel, sound_table}
use Rattle.sds_records.proofs.Texts.{equal_texts}

-- a part of a kind that is found is the part that is told
pub record Found {X : Type 0} (make : X → Told) (result : Option X) (told : Told) : Type 0 where
  pub part : X
  pub is : told ≡ make part
  pub here : result ≡ Some part

pub some_told : {X : Type 0} (make : X → Told) (result : Option X) (told : Told) (x : X) → Found make result told → result ≡ Some x → ◌≡◌ {A = Option Told} (Some (make x)) (Some told)
some_told {X} make result told x found is = ap (λ (p : X). Some (make p)) (some_of (sym is ∙ found.here)) ∙ ap (λ (t : Told). Some t) (sym found.is)
  where
    some_of : {A : Type 0} {a b : A} → Some a ≡ Some b → a ≡ b
    some_of {A} {a} {b} same = cc

pub none_told : {X : Type 0} (make : X → Told) (result : Option X) (told : Told) → Found make result told → result ≡ None → ⊥
none_told {X} make result told found is = none_some (sym is ∙ found.here)
  where
    none_some : {A : Type 0} {a : A} → None ≡ Some a → ⊥
    none_some {A} {a} same = cc

head_is : {a b : ℕ} {xs ys : List ℕ} → a ∷ xs ≡ b ∷ ys → a ≡ b
head_is {a} {b} {xs} {ys} same = cc

rest_is : {a b c d : ℕ} {xs ys : List ℕ} → a ∷ (b ∷ xs) ≡ c ∷ (d ∷ ys) → xs ≡ ys
rest_is {a} {b} {c} {d} {xs} {ys} same = cc

-- another kind's byte
other_kind : {kind a b : ℕ} {xs ys : List ℕ} → kind ≡ a → kind ∷ xs ≡ b ∷ ys → (a ≡ b → ⊥) → ⊥
other_kind {kind} {a} {b} {xs} {ys} is same differs = differs (sym is ∙ head_is same)

pub below : (a b : ℕ) → (nat_lt a b) ≡ true → a < b
below a b is = grind (arith, nat_tests)

-- a group that is among those of a sound configuration is named by a name
pub among_named : (groups : List (List ℕ)) (group : List ℕ) → All (λ (g : List ℕ). IsTrue (is_name_text g)) groups → is_among groups group ≡ true → is_name_text group ≡ true
among_named [] group named is = absurd (true≢false (sym is))
among_named (g ∷ groups) group named is = on (bytes_eq g group) refl is (λ later. among_named groups group (all_tail (λ (g : List ℕ). IsTrue (is_name_text g)) g groups named) later)
  where
    on : (b : Bool) → bytes_eq g group ≡ b → (b || is_among groups group) ≡ true → (is_among groups group ≡ true → is_name_text group ≡ true) → is_name_text group ≡ true
    on true same also later = subst (λ (x : List ℕ). is_name_text x ≡ true) (equal_texts g group same) (all_head (λ (g : List ℕ). IsTrue (is_name_text g)) g groups named)
    on false same also later = later also

has_rows : (event : Event) (new old : Option row.Row) → sides_stand event new old ≡ true → HasRows event new old
has_rows Insert (Some n) None is = (refl, refl)
has_rows Insert (Some n) (Some o) is = absurd (true≢false (sym is))
has_rows Insert None old is = absurd (true≢false (sym is))
has_rows Update (Some n) (Some o) is = (refl, refl)
has_rows Update (Some n) None is = absurd (true≢false (sym is))
has_rows Update None old is = absurd (true≢false (sym is))
has_rows Delete None (Some o) is = (refl, refl)
has_rows Delete None None is = absurd (true≢false (sym is))
has_rows Delete (Some n) old is = absurd (true≢false (sym is))

-- the opening that a key tells of
pub opening_found : (config : Config) (told : Told) (kind : ℕ) (rest : List ℕ) (fields : List Field) (result : Option opened.Opening) → IsSound config → IsHeld told → is_formed config told ≡ true → HasValues config told
    → kind ≡ 111 → kind ∷ (47 ∷ rest) ≡ (record_of_told config told).key → fields ≡ fields_of_told config told
    → ((opening : opened.Opening) → is_name_text opening.group ≡ true → is_name_text opening.external ≡ true → rest ≡ opening_key opening → fields ≡ opening_fields opening → result ≡ Some opening)
    → Found Opening result told
opening_found config (Me me) kind rest fields result sound held formed values is same told find = absurd (other_kind is same (λ e. omega (arith, e)))
opening_found config (Counts counts) kind rest fields result sound held formed values is same told find = absurd (other_kind is same (λ e. omega (arith, e)))
opening_found config (Peer kept) kind rest fields result sound held formed values is same told find = absurd (other_kind is same (λ e. omega (arith, e)))
opening_found config (Opening opening) kind rest fields result sound held formed values is same told find =
    let opened = left_true (is_opening config opening) (names_node opening.stage) formed in
    let group = among_named config.groups opening.group sound.groups.named (left_true (is_among config.groups opening.group) (is_name_text opening.external && is_token opening.token) opened) in
    let external = left_true (is_name_text opening.external) (is_token opening.token) (right_true (is_among config.groups opening.group) (is_name_text opening.external && is_token opening.token) opened) in
    record { part = opening; is = refl; here = find opening group external (rest_is same) told }
opening_found config (Writer last) kind rest fields result sound held formed values is same told find = absurd (other_kind is same (λ e. omega (arith, e)))
opening_found config (Row row) kind rest fields result sound held formed values is same told find = absurd (other_kind is same (λ e. omega (arith, e)))
opening_found config (Change change) kind rest fields result sound held formed values is same told find = absurd (other_kind is same (λ e. omega (arith, e)))
opening_found config (Batch batch) kind rest fields result sound held formed values is same told find = absurd (other_kind is same (λ e. omega (arith, e)))
opening_found config (Lane lane) kind rest fields result sound held formed values is same told find = absurd (other_kind is same (λ e. omega (arith, e)))

-- the row that a key tells of
pub row_found : (config : Config) (told : Told) (kind : ℕ) (rest : List ℕ) (fields : List Field) (result : Option TableRow) → IsSound config → IsHeld told → is_formed config told ≡ true → HasValues config told
    → kind ≡ 116 → kind ∷ (47 ∷ rest) ≡ (record_of_told config told).key → fields ≡ fields_of_told config told
    → ((row : TableRow) → IsNarrow row.table → HasTable config row.table → FitsRow config.tables row.table row.row → (key : List ℕ) → rest ≡ encode_utf8_all (table_name config.tables row.table) ++ 47 ∷ key → fields ≡ row_fields (columns_at config.tables row.table) row.row.0 → result ≡ Some row)
    → Found Row result told
row_found config (Me me) kind rest fields result sound held formed values is same told find = absurd (other_kind is same (λ e. omega (arith, e)))
row_found config (Counts counts) kind rest fields result sound held formed values is same told find = absurd (other_kind is same (λ e. omega (arith, e)))
row_found config (Peer kept) kind rest fields result sound held formed values is same told find = absurd (other_kind is same (λ e. omega (arith, e)))
row_found config (Opening opening) kind rest fields result sound held formed values is same told find = absurd (other_kind is same (λ e. omega (arith, e)))
row_found config (Writer last) kind rest fields result sound held formed values is same told find = absurd (other_kind is same (λ e. omega (arith, e)))
row_found config (Row row) kind rest fields result sound held formed values is same told find =
    record { part = row; is = refl; here = find row held (sound_table config row.table sound (below row.table (length config.tables) formed)) values (row_key config row) (rest_is same) told }
row_found config (Change change) kind rest fields result sound held formed values is same told find = absurd (other_kind is same (λ e. omega (arith, e)))
row_found config (Batch batch) kind rest fields result sound held formed values is same told find = absurd (other_kind is same (λ e. omega (arith, e)))
row_found config (Lane lane) kind rest fields result sound held formed values is same told find = absurd (other_kind is same (λ e. omega (arith, e)))

-- the change that a key tells of
pub change_found : (config : Config) (told : Told) (kind : ℕ) (rest : List ℕ) (fields : List Field) (result : Option changed.Change) → IsSound config → IsHeld told → is_formed config told ≡ true → HasValues config told
    → kind ≡ 100 → kind ∷ (47 ∷ rest) ≡ (record_of_told config told).key → fields ≡ fields_of_told config told
    → ((change : changed.Change) → IsHeldChange change → HasTable config change.table → HasChannel config change.channel → HasRows change.event change.new change.old → FitsSide config.tables change.table change.new → FitsSide config.tables change.table change.old → rest ≡ id_text change.id → fields ≡ change_fields config change → result ≡ Some change)
    → Found Change result told
change_found config (Me me) kind rest fields result sound held formed values is same told find = absurd (other_kind is same (λ e. omega (arith, e)))
change_found config (Counts counts) kind rest fields result sound held formed values is same told find = absurd (other_kind is same (λ e. omega (arith, e)))
change_found config (Peer kept) kind rest fields result sound held formed values is same told find = absurd (other_kind is same (λ e. omega (arith, e)))
change_found config (Opening opening) kind rest fields result sound held formed values is same told find = absurd (other_kind is same (λ e. omega (arith, e)))
change_found config (Writer last) kind rest fields result sound held formed values is same told find = absurd (other_kind is same (λ e. omega (arith, e)))
change_found config (Row row) kind rest fields result sound held formed values is same told find = absurd (other_kind is same (λ e. omega (arith, e)))
change_found config (Change change) kind rest fields result sound held formed values is same told find =
    let table = left_true (nat_lt change.table (length config.tables)) (nat_lt change.channel (length config.channels) && (sides_stand change.event change.new change.old && names_source change.source)) formed in
    let later = right_true (nat_lt change.table (length config.tables)) (nat_lt change.channel (length config.channels) && (sides_stand change.event change.new change.old && names_source change.source)) formed in
    let channel = left_true (nat_lt change.channel (length config.channels)) (sides_stand change.event change.new change.old && names_source change.source) later in
    let sides = left_true (sides_stand change.event change.new change.old) (names_source change.source) (right_true (nat_lt change.channel (length config.channels)) (sides_stand change.event change.new change.old && names_source change.source) later) in
    record {
      part = change;
      is = refl;
      here = find change held (sound_table config change.table sound (below change.table (length config.tables) table)) (sound_channel config change.channel sound (below change.channel (length config.channels) channel))
          (has_rows change.event change.new change.old sides) values.0 values.1 (rest_is same) told;
    }
change_found config (Batch batch) kind rest fields result sound held formed values is same told find = absurd (other_kind is same (λ e. omega (arith, e)))
change_found config (Lane lane) kind rest fields result sound held formed values is same told find = absurd (other_kind is same (λ e. omega (arith, e)))

-- the batch that a key tells of
pub batch_found : (config : Config) (told : Told) (kind : ℕ) (rest : List ℕ) (fields : List Field) (result : Option OutBatch) → IsSound config → IsHeld told → is_formed config told ≡ true → HasValues config told
    → kind ≡ 98 → kind ∷ (47 ∷ rest) ≡ (record_of_told config told).key → fields ≡ fields_of_told config told
    → ((batch : OutBatch) → IsHeldBatch batch → HasChannel config batch.channel → rest ≡ id_text batch.id → fields ≡ batch_fields config batch → result ≡ Some batch)
    → Found Batch result told
batch_found config (Me me) kind rest fields result sound held formed values is same told find = absurd (other_kind is same (λ e. omega (arith, e)))
batch_found config (Counts counts) kind rest fields result sound held formed values is same told find = absurd (other_kind is same (λ e. omega (arith, e)))
batch_found config (Peer kept) kind rest fields result sound held formed values is same told find = absurd (other_kind is same (λ e. omega (arith, e)))
batch_found config (Opening opening) kind rest fields result sound held formed values is same told find = absurd (other_kind is same (λ e. omega (arith, e)))
batch_found config (Writer last) kind rest fields result sound held formed values is same told find = absurd (other_kind is same (λ e. omega (arith, e)))
batch_found config (Row row) kind rest fields result sound held formed values is same told find = absurd (other_kind is same (λ e. omega (arith, e)))
batch_found config (Change change) kind rest fields result sound held formed values is same told find = absurd (other_kind is same (λ e. omega (arith, e)))
batch_found config (Batch batch) kind rest fields result sound held formed values is same told find =
    let channel = left_true (nat_lt batch.channel (length config.channels)) (is_standing batch.standing) (left_true (is_batch config batch) (is_name_text batch.peer) formed) in
    record { part = batch; is = refl; here = find batch held (sound_channel config batch.channel sound (below batch.channel (length config.channels) channel)) (rest_is same) told }
batch_found config (Lane lane) kind rest fields result sound held formed values is same told find = absurd (other_kind is same (λ e. omega (arith, e)))

-- the lane that a key tells of
pub lane_found : (config : Config) (told : Told) (kind : ℕ) (rest : List ℕ) (fields : List Field) (result : Option LaneIn) → IsSound config → IsHeld told → is_formed config told ≡ true → HasValues config told
    → kind ≡ 105 → kind ∷ (47 ∷ rest) ≡ (record_of_told config told).key → fields ≡ fields_of_told config told
    → ((lane : LaneIn) → is_name_text lane.peer ≡ true → IsHeldLane lane → HasChannel config lane.channel → rest ≡ lane_key config lane → fields ≡ lane_fields lane → result ≡ Some lane)
    → Found Lane result told
lane_found config (Me me) kind rest fields result sound held formed values is same told find = absurd (other_kind is same (λ e. omega (arith, e)))
lane_found config (Counts counts) kind rest fields result sound held formed values is same told find = absurd (other_kind is same (λ e. omega (arith, e)))
lane_found config (Peer kept) kind rest fields result sound held formed values is same told find = absurd (other_kind is same (λ e. omega (arith, e)))
lane_found config (Opening opening) kind rest fields result sound held formed values is same told find = absurd (other_kind is same (λ e. omega (arith, e)))
lane_found config (Writer last) kind rest fields result sound held formed values is same told find = absurd (other_kind is same (λ e. omega (arith, e)))
lane_found config (Row row) kind rest fields result sound held formed values is same told find = absurd (other_kind is same (λ e. omega (arith, e)))
lane_found config (Change change) kind rest fields result sound held formed values is same told find = absurd (other_kind is same (λ e. omega (arith, e)))
lane_found config (Batch batch) kind rest fields result sound held formed values is same told find = absurd (other_kind is same (λ e. omega (arith, e)))
lane_found config (Lane lane) kind rest fields result sound held formed values is same told find =
    let channel = left_true (nat_lt lane.channel (length config.channels)) (is_name_text lane.peer) formed in
    let named = right_true (nat_lt lane.channel (length config.channels)) (is_name_text lane.peer) formed in
    record { part = lane; is = refl; here = find lane named held (sound_channel config lane.channel sound (below lane.channel (length config.channels) channel)) (rest_is same) told }
