-- The fields of a part's record: each text is made of characters, and the fields have a written form of their own, which is the record's body.
use Rattle.std.proofs.Common.{◌≡◌, ℕ, ◌<◌, ◌^◌, Bool, true, false, ◌&&◌, ◌||◌, List, [], ◌∷◌, ◌++◌, length, map, Option, None, Some, refl, sym, ap, ◌∙◌, arith, true≢false}
use Rattle.std.specs.Fmt.{decimal}
use Rattle.std.specs.List.{All, zip}
use Rattle.std.specs.Option.{option_map_or}
use Rattle.std.specs.Prelude.{IfSome, nat_lt}
use Rattle.std.specs.Str.{IsAscii, all_scalars, chars}
use Rattle.std.proofs.lemmas.Fmt.{IsAscii-decimal}
use Rattle.std.proofs.lemmas.List.Elements.{All-head, All-tail}
use Rattle.std.proofs.lemmas.Str.{IsUtf8-from_ascii, chars-IsAscii, scalars-chars}
use Rattle.sds_value.proofs.Characters.{left_true, name_ascii, right_true}
use Rattle.sds_value.specs.Names.{is_name_text}
use Rattle.sds_value.specs.Values.{fits, printed}
use Rattle.sds_value.specs.declared.kind.Binary.TheVariants.{Base64}
use Rattle.sds_value.specs.declared.kind.Kind.{Kind}
use Rattle.sds_value.specs.declared.kind.Value.{Value}
use Rattle.sds_value.specs.declared.row.Event.{Event}
use Rattle.sds_value.specs.declared.row.Event.TheVariants.{Insert, Update, Delete}
use Rattle.sds_value.specs.declared.row.Field.{Field}
use Rattle.sds_value.specs.declared.row.Field.TheVariants.{Null, Text}
use Rattle.sds_value.specs.declared.row.Peer as node
use Rattle.sds_value.specs.declared.table.ColumnDef.{ColumnDef}
use Rattle.sds_line.specs.Written.{are_fields, is_field, written_line}
use Rattle.sds_types.specs.Rules.{number_of}
use Rattle.sds_types.specs.Standings.{name_of}
use Rattle.sds_types.specs.declared.batch.Standing.{Standing}
use Rattle.sds_types.specs.declared.batch.Standing.TheVariants as standing
use Rattle.sds_types.specs.declared.config.Config.{Config}
use Rattle.sds_types.specs.declared.lane.LaneError.{LaneError}
use Rattle.sds_types.specs.declared.registration.Stage.{Stage}
use Rattle.sds_types.specs.declared.registration.Stage.TheVariants.{Waiting, Given, Closed}
use Rattle.sds_types.specs.declared.row.Row as row
use Rattle.sds_types.specs.declared.rule.Rule.{Rule}
use Rattle.sds_types.specs.declared.rule.Rule.TheVariants as rule
use Rattle.sds_rowvalues.proofs.Printed.{printed_utf8}
use Rattle.sds_trade.specs.rules.Fitting.{FitColumns, Suits}
use Rattle.sds_trade.specs.rules.Places.{columns_at, is_among, table_name}
use Rattle.sds_trade.specs.rules.RoutedValues.{field_of}
use Rattle.sds_trade.specs.rules.Sound.{IsSound}
use Rattle.sds_trade.specs.rules.Tables.{is_null}
use Rattle.sds_trade.proofs.Lists.{all_head, all_tail}
use Rattle.sds_history.specs.history.Lanes.{channel_name}
use Rattle.sds_history.specs.history.Records.{error_fields, held_fields, number_field, side_word, stage_fields, status_field}
use Rattle.sds_history.specs.history.RowRecords.{event_word, row_fields, side_fields}
use Rattle.sds_history.specs.history.SoundParts.{is_batch, is_opening, is_peer, is_standing, is_token}
use Rattle.sds_records.specs.Fields.{fields_of_told}
use Rattle.sds_records.specs.Told.{HasValues, IsHeld, IsHeldStanding, IsHeldError, IsWide, is_formed, names_node, names_source, record_of_told, sides_stand, stage_node, stage_word}
use Rattle.sds_records.specs.declared.told.Told.{Told}
use Rattle.sds_records.specs.declared.told.Told.TheVariants.{Me, Counts, Peer, Opening, Writer, Row, Change, Batch, Lane}
use Rattle.sds_records.proofs.KeyKinds.{among_named, below}
use Rattle.sds_records.proofs.Places.{columns_by, sound_channel, sound_table, stands}
use Rattle.sds_records.proofs.RowsTold.{fields_long}
use Rattle.sds_records.proofs.Texts.{token_ascii}

pub both_true : (a b : Bool) → a ≡ true → b ≡ true → (a && b) ≡ true
both_true true b is also = also
both_true false b is also = absurd (true≢false (sym is))

-- TEXTS OF CHARACTERS
ascii_good : (text : List ℕ) → IsAscii text → all_scalars text ≡ true
ascii_good text ascii = ap all_scalars (sym (chars-IsAscii text ascii)) ∙ scalars-chars text (IsUtf8-from_ascii text ascii)

name_good : (text : List ℕ) → is_name_text text ≡ true → all_scalars text ≡ true
name_good text is = ascii_good text (name_ascii text is)

number_good : (number : ℕ) → number < 2 ^ 64 → all_scalars (decimal number) ≡ true
number_good number small = ascii_good (decimal number) (IsAscii-decimal number small)

token_good : (text : List ℕ) → is_token text ≡ true → all_scalars text ≡ true
token_good text is = ascii_good text (token_ascii text is)

-- LISTS OF FIELDS
with_text : (text : List ℕ) (fields : List Field) → all_scalars text ≡ true → are_fields fields ≡ true → are_fields (Text text ∷ fields) ≡ true
with_text text fields is are = both_true (all_scalars text) (are_fields fields) is are

with_field : (field : Field) (fields : List Field) → is_field field ≡ true → are_fields fields ≡ true → are_fields (field ∷ fields) ≡ true
with_field field fields is are = both_true (is_field field) (are_fields fields) is are

fields_append : (first second : List Field) → are_fields first ≡ true → are_fields second ≡ true → are_fields (first ++ second) ≡ true
fields_append [] second are also = also
fields_append (field ∷ first) second are also =
    with_field field (first ++ second) (left_true (is_field field) (are_fields first) are) (fields_append first second (right_true (is_field field) (are_fields first) are) also)

numbers_good : (numbers : List ℕ) → All IsWide numbers → are_fields (map number_field numbers) ≡ true
numbers_good [] wide = refl
numbers_good (n ∷ ns) wide = with_text (decimal n) (map number_field ns) (number_good n (All-head IsWide n ns wide)) (numbers_good ns (All-tail IsWide n ns wide))

narrow_wide : (n : ℕ) → n < 2 ^ 32 → n < 2 ^ 64
narrow_wide n narrow = omega (arith, narrow)

tiny_wide : (n : ℕ) → n < 256 → n < 2 ^ 64
tiny_wide n tiny = omega (arith, tiny)

-- VALUES
or_other : (a b : Bool) → (a || b) ≡ true → a ≡ false → b ≡ true
or_other true b is isnt = absurd (true≢false isnt)
or_other false b is isnt = is

abbrev field_by : Kind → Value → Bool → Field
field_by kind v null = option_map_or (λ (text : List ℕ). Text text) (elim null [ true ↦ None | false ↦ Some (chars (printed kind Base64 v)) ]) Null

value_good : (kind : Kind) (v : Value) → (is_null v || fits kind v) ≡ true → is_field (field_of kind v) ≡ true
value_good kind v suit = on (is_null v) refl
  where
    on : (b : Bool) → is_null v ≡ b → is_field (field_by kind v b) ≡ true
    on true is = refl
    on false is = scalars-chars (printed kind Base64 v) (printed_utf8 kind v (or_other (is_null v) (fits kind v) suit is))

values_good : (columns : List ColumnDef) (vs : List Value) → All Suits (zip columns vs) → are_fields (row_fields columns vs) ≡ true
values_good [] vs suit = refl
values_good (c ∷ columns) [] suit = refl
values_good (c ∷ columns) (v ∷ vs) suit =
    with_field (field_of c.kind v) (row_fields columns vs) (value_good c.kind v (all_head Suits (c, v) (zip columns vs) suit)) (values_good columns vs (all_tail Suits (c, v) (zip columns vs) suit))

side_good : (columns : List ColumnDef) (side : Option row.Row) → IfSome side (λ (r : row.Row). FitColumns columns r.0) → are_fields (side_fields columns side) ≡ true
side_good columns None fit = refl
side_good columns (Some r) fit = values_good columns r.0 fit.each

-- THE FIELDS OF EACH PART
peer_good : (config : Config) (me : node.Peer) → IsSound config → is_peer config me ≡ true
    → (all_scalars me.id ≡ true) × ((all_scalars me.group ≡ true) × (all_scalars me.external ≡ true))
peer_good config me sound is =
    let later = right_true (is_name_text me.id) (is_among config.groups me.group && is_name_text me.external) is in (
      name_good me.id (left_true (is_name_text me.id) (is_among config.groups me.group && is_name_text me.external) is),
      (
        name_good me.group (among_named config.groups me.group sound.groups.named (left_true (is_among config.groups me.group) (is_name_text me.external) later)),
        name_good me.external (right_true (is_among config.groups me.group) (is_name_text me.external) later),
      ),
    )

stage_word_good : (stage : Stage) → all_scalars (stage_word stage) ≡ true
stage_word_good Waiting = refl
stage_word_good (Given node) = refl
stage_word_good (Closed node) = refl

stage_node_good : (stage : Stage) → names_node stage ≡ true → is_field (stage_node stage) ≡ true
stage_node_good Waiting is = refl
stage_node_good (Given node) is = name_good node is
stage_node_good (Closed node) is = name_good node is

side_word_good : (child : Bool) → all_scalars (side_word child) ≡ true
side_word_good true = refl
side_word_good false = refl

event_word_good : (event : Event) → all_scalars (event_word event) ≡ true
event_word_good Insert = refl
event_word_good Update = refl
event_word_good Delete = refl

source_good : (source : Option (List ℕ)) → names_source source ≡ true → is_field (option_map_or (λ (node : List ℕ). Text node) source Null) ≡ true
source_good None is = refl
source_good (Some node) is = name_good node is

standing_word_good : (s : Standing) → all_scalars (name_of s) ≡ true
standing_word_good standing.New = refl
standing_word_good (standing.Erred at because) = refl
standing_word_good standing.Acked = refl

error_good : (s : Standing) → IsHeldStanding s → are_fields (error_fields s) ≡ true
error_good standing.New held = refl
error_good (standing.Erred at because) held =
    with_text (decimal at) (number_field because ∷ []) (number_good at (narrow_wide at held.0)) (with_text (decimal because) [] (number_good because (tiny_wide because held.1)) refl)
error_good standing.Acked held = refl

status_good : (ignored : Option Bool) → is_field (status_field ignored) ≡ true
status_good None = refl
status_good (Some true) = refl
status_good (Some false) = refl

rule_small : (r : Rule) → number_of r < 256
rule_small rule.UnknownTable = omega arith
rule_small rule.UnknownColumn = omega arith
rule_small rule.MissingKey = omega arith
rule_small rule.BadValue = omega arith
rule_small rule.TooLong = omega arith
rule_small rule.NullNotAllowed = omega arith
rule_small rule.DuplicateKey = omega arith
rule_small rule.RowMissing = omega arith
rule_small rule.MissingParent = omega arith
rule_small rule.HasChildren = omega arith
rule_small rule.TableFull = omega arith
rule_small rule.ManualConflict = omega arith
rule_small rule.OldMissing = omega arith
rule_small rule.SumOutOfRange = omega arith
rule_small rule.CaptureFull = omega arith
rule_small rule.UnknownChannel = omega arith

held_good : (error : Option LaneError) → IfSome error IsHeldError → are_fields (held_fields error) ≡ true
held_good None held = refl
held_good (Some error) held =
    with_text (decimal error.batch) (number_field error.row ∷ (number_field (number_of error.rule) ∷ [])) (number_good error.batch held.0)
    (with_text (decimal error.row) (number_field (number_of error.rule) ∷ []) (number_good error.row (narrow_wide error.row held.1))
    (with_text (decimal (number_of error.rule)) [] (number_good (number_of error.rule) (tiny_wide (number_of error.rule) (rule_small error.rule))) refl))

three_numbers : (a b c : ℕ) → a < 2 ^ 64 → b < 2 ^ 64 → c < 2 ^ 64 → are_fields (number_field a ∷ (number_field b ∷ (number_field c ∷ []))) ≡ true
three_numbers a b c first second third =
    with_text (decimal a) (number_field b ∷ (number_field c ∷ [])) (number_good a first)
    (with_text (decimal b) (number_field c ∷ []) (number_good b second) (with_text (decimal c) [] (number_good c third) refl))

pub fields_good : (config : Config) (told : Told) → IsSound config → IsHeld told → is_formed config told ≡ true → HasValues config told → are_fields (fields_of_told config told) ≡ true
fields_good config (Me me) sound held formed values =
    let names = peer_good config me sound formed in
    with_text me.id (Text me.group ∷ (Text me.external ∷ [])) names.0 (with_text me.group (Text me.external ∷ []) names.1.0 (with_text me.external [] names.1.1 refl))
fields_good config (Counts counts) sound held formed values =
    with_text (decimal counts.acts) (number_field counts.last_change ∷ (number_field counts.last_batch ∷ (number_field counts.last_tx ∷ (number_field counts.routed ∷ [])))) (number_good counts.acts held.0)
    (with_text (decimal counts.last_change) (number_field counts.last_batch ∷ (number_field counts.last_tx ∷ (number_field counts.routed ∷ []))) (number_good counts.last_change held.1.0)
    (three_numbers counts.last_batch counts.last_tx counts.routed held.1.1.0 held.1.1.1.0 held.1.1.1.1))
fields_good config (Peer kept) sound held formed values =
    let names = peer_good config kept.peer sound (left_true (is_peer config kept.peer) (is_token kept.token) formed) in
    with_text kept.peer.group (Text kept.peer.external ∷ (Text kept.token ∷ (Text (side_word kept.child) ∷ []))) names.1.0
    (with_text kept.peer.external (Text kept.token ∷ (Text (side_word kept.child) ∷ [])) names.1.1
    (with_text kept.token (Text (side_word kept.child) ∷ []) (token_good kept.token (right_true (is_peer config kept.peer) (is_token kept.token) formed))
    (with_text (side_word kept.child) [] (side_word_good kept.child) refl)))
fields_good config (Opening opening) sound held formed values =
    let opened = left_true (is_opening config opening) (names_node opening.stage) formed in
    let token = right_true (is_name_text opening.external) (is_token opening.token) (right_true (is_among config.groups opening.group) (is_name_text opening.external && is_token opening.token) opened) in
    with_text opening.token (Text (stage_word opening.stage) ∷ (stage_node opening.stage ∷ [])) (token_good opening.token token)
    (with_text (stage_word opening.stage) (stage_node opening.stage ∷ []) (stage_word_good opening.stage)
    (with_field (stage_node opening.stage) [] (stage_node_good opening.stage (right_true (is_opening config opening) (names_node opening.stage) formed)) refl))
fields_good config (Writer last) sound held formed values = three_numbers last.number last.first last.count held.0 held.1.0 (narrow_wide last.count held.1.1)
fields_good config (Row r) sound held formed values = values_good (columns_at config.tables r.table) r.row.0 values.each
fields_good config (Change change) sound held formed values =
    let table = left_true (nat_lt change.table (length config.tables)) (nat_lt change.channel (length config.channels) && (sides_stand change.event change.new change.old && names_source change.source)) formed in
    let later = right_true (nat_lt change.table (length config.tables)) (nat_lt change.channel (length config.channels) && (sides_stand change.event change.new change.old && names_source change.source)) formed in
    let channel = left_true (nat_lt change.channel (length config.channels)) (sides_stand change.event change.new change.old && names_source change.source) later in
    let source = right_true (sides_stand change.event change.new change.old) (names_source change.source) (right_true (nat_lt change.channel (length config.channels)) (sides_stand change.event change.new change.old && names_source change.source) later) in
    let columns = columns_at config.tables change.table in
    let sides = side_fields columns change.new ++ side_fields columns change.old in
    let source_field = option_map_or (λ (node : List ℕ). Text node) change.source Null in
    let named = (sound_table config change.table sound (below change.table (length config.tables) table)).named in
    let lane = (sound_channel config change.channel sound (below change.channel (length config.channels) channel)).named in
    let from_channel = Text (channel_name config change.channel) ∷ (source_field ∷ sides) in
    let from_event = Text (event_word change.event) ∷ from_channel in
    with_field (number_field change.tx) (Text (table_name config.tables change.table) ∷ from_event) (number_good change.tx held.1.0)
    (with_field (Text (table_name config.tables change.table)) from_event (name_good (table_name config.tables change.table) named)
    (with_field (Text (event_word change.event)) from_channel (event_word_good change.event)
    (with_field (Text (channel_name config change.channel)) (source_field ∷ sides) (name_good (channel_name config change.channel) lane)
    (with_field source_field sides (source_good change.source source)
    (fields_append (side_fields columns change.new) (side_fields columns change.old) (side_good columns change.new values.0) (side_good columns change.old values.1))))))
fields_good config (Batch batch) sound held formed values =
    let formed_batch = left_true (is_batch config batch) (is_name_text batch.peer) formed in
    let channel = left_true (nat_lt batch.channel (length config.channels)) (is_standing batch.standing) formed_batch in
    let lane = (sound_channel config batch.channel sound (below batch.channel (length config.channels) channel)).named in
    let ends = error_fields batch.standing ++ map number_field batch.changes in
    let from_standing = Text (name_of batch.standing) ∷ ends in
    with_field (Text batch.peer) (Text (channel_name config batch.channel) ∷ from_standing) (name_good batch.peer (right_true (is_batch config batch) (is_name_text batch.peer) formed))
    (with_field (Text (channel_name config batch.channel)) from_standing (name_good (channel_name config batch.channel) lane)
    (with_field (Text (name_of batch.standing)) ends (standing_word_good batch.standing)
    (fields_append (error_fields batch.standing) (map number_field batch.changes) (error_good batch.standing held.1.1.0) (numbers_good batch.changes held.1.1.1))))
fields_good config (Lane lane) sound held formed values =
    with_field (number_field lane.highest) (status_field lane.ignored ∷ held_fields lane.error) (number_good lane.highest held.1.0)
    (with_field (status_field lane.ignored) (held_fields lane.error) (status_good lane.ignored) (held_good lane.error held.1.1))

-- each part has a field
columns_some : (config : Config) (table : ℕ) → IsSound config → table < length config.tables → 0 < length (columns_at config.tables table)
columns_some config table sound within = let at = stands config.tables table within in columns_by config table at.0 sound at.1

pub fields_some : (config : Config) (told : Told) → IsSound config → is_formed config told ≡ true → HasValues config told → 0 < length (fields_of_told config told)
fields_some config (Me me) sound formed values = omega arith
fields_some config (Counts counts) sound formed values = omega arith
fields_some config (Peer kept) sound formed values = omega arith
fields_some config (Opening opening) sound formed values = omega arith
fields_some config (Writer last) sound formed values = omega arith
fields_some config (Row r) sound formed values =
    let some = columns_some config r.table sound (below r.table (length config.tables) formed) in
    let long = fields_long (columns_at config.tables r.table) r.row.0 values.whole in
    omega (arith, some, long)
fields_some config (Change change) sound formed values = omega arith
fields_some config (Batch batch) sound formed values = omega arith
fields_some config (Lane lane) sound formed values = omega arith

-- the body of a part's record is its fields as a line
pub body_is : (config : Config) (told : Told) → (record_of_told config told).body ≡ written_line (fields_of_told config told)
body_is config (Me me) = refl
body_is config (Counts counts) = refl
body_is config (Peer kept) = refl
body_is config (Opening opening) = ap (λ (fields : List Field). written_line (Text opening.token ∷ fields)) (by opening.stage)
  where
    by : (stage : Stage) → stage_fields stage ≡ (Text (stage_word stage) ∷ (stage_node stage ∷ []))
    by Waiting = refl
    by (Given node) = refl
    by (Closed node) = refl
body_is config (Writer last) = refl
body_is config (Row r) = refl
body_is config (Change change) = refl
body_is config (Batch batch) = refl
body_is config (Lane lane) = refl
