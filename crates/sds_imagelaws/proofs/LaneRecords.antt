-- The records of batches and of lanes tell them, where the numbers of errors have 64 bits.
use Rattle.std.proofs.Common.{◌≡◌, ℕ, ◌<◌, ◌==◌, Bool, true, false, cond, List, [], ◌∷◌, ◌++◌, length, map, Option, None, Some, refl, sym, ap, ◌∙◌, arith, true≢false}
use Rattle.std.specs.Prelude.{IfSome, codes}
use Rattle.std.specs.List.{AllByRecursion}
use Rattle.std.specs.Fmt.{decimal}
use Rattle.std.specs.Str.{encode_utf8_all}
use Rattle.std.proofs.lemmas.Bool.Decides.{nat_tests}
use Rattle.std.proofs.lemmas.List.{append_cancel_left}
use Rattle.std.proofs.lemmas.Str.{encodes_same}
use Rattle.sds_value.specs.Names.{is_name_text}
use Rattle.sds_value.specs.declared.row.Field.{Field}
use Rattle.sds_value.specs.declared.row.Field.TheVariants.{Null, Text}
use Rattle.sds_types.specs.Rules.{number_of}
use Rattle.sds_types.specs.Standings.{name_of}
use Rattle.sds_types.specs.declared.batch.OutBatch.{OutBatch}
use Rattle.sds_types.specs.declared.batch.Standing.{Standing}
use Rattle.sds_types.specs.declared.batch.Standing.TheVariants as standing
use Rattle.sds_types.specs.declared.channel.ChannelDef.{ChannelDef}
use Rattle.sds_types.specs.declared.config.Config.{Config}
use Rattle.sds_types.specs.declared.lane.LaneError.{LaneError}
use Rattle.sds_types.specs.declared.lane.LaneIn.{LaneIn}
use Rattle.sds_types.specs.declared.rule.Rule.{Rule}
use Rattle.sds_types.specs.declared.rule.Rule.TheVariants.{UnknownTable, UnknownColumn, MissingKey, BadValue, TooLong, NullNotAllowed, DuplicateKey, RowMissing, MissingParent, HasChildren, TableFull, ManualConflict, OldMissing, SumOutOfRange, CaptureFull, UnknownChannel}
use Rattle.sds_line.specs.Written.{are_fields, is_field}
use Rattle.sds_trade.specs.rules.Sound.{IsSound}
use Rattle.sds_history.specs.history.Lanes.{channel_name}
use Rattle.sds_history.specs.history.Records.{batch_record, error_fields, held_fields, id_text, lane_record, number_field, status_field}
use Rattle.sds_imagelaws.proofs.Fields.{Good, Small, all_numbers, fields_append, first_byte, first_field, first_number, first_text, is_text, line_tells, name_good, number_at, number_good, numbers_good, rest_of, text_in, with_field, with_text}
use Rattle.sds_imagelaws.proofs.Keys.{after_names, named_at, one_place, same_id}

-- CHANNELS by their names
module _ (config : Config) (sound : IsSound config) where
  pub channel_named : (channel : ℕ) → channel < length config.channels → is_name_text (channel_name config channel) ≡ true
  channel_named channel within =
      named_at (λ (def : ChannelDef). def.id) config.channels channel (λ k d inside. (sound.channels.each k d inside).named) within

  pub same_channel : (a b : ℕ) → a < length config.channels → b < length config.channels → channel_name config a ≡ channel_name config b → a ≡ b
  same_channel a b within also same = one_place (λ (def : ChannelDef). def.id) config.channels a b sound.channels.apart within also same

-- STANDINGS
abbrev pub StandingFits : Standing → Type 0
StandingFits (standing.Erred row rule) = Small row × Small rule
StandingFits standing.New = Unit {0}
StandingFits standing.Acked = Unit {0}

word_good : (s : Standing) → Good (name_of s)
word_good standing.New = refl
word_good standing.Acked = refl
word_good (standing.Erred row rule) = refl

error_good : (s : Standing) → StandingFits s → are_fields (error_fields s) ≡ true
error_good standing.New fit = refl
error_good standing.Acked fit = refl
error_good (standing.Erred row rule) fit = numbers_good (row ∷ (rule ∷ [])) (fit.0, (fit.1, tt))

record Stands (a b : Standing) (xs ys : List Field) : Type 0 where
  standing : a ≡ b
  rest : xs ≡ ys

-- the first two letters tell the word
abbrev tag_of : List Field → ℕ
tag_of fields = first_byte (text_in (first_field fields))

no_tag : {G : Type 0} (m n : ℕ) → (m == n) ≡ false → m ≡ n → G
no_tag m n isnt is = absurd (true≢false (sym (ap (λ k. k == n) is ∙ itself_is n) ∙ isnt))
  where
    itself_is : (k : ℕ) → (k == k) ≡ true
    itself_is k = grind (arith, nat_tests)

same_standing : (a b : Standing) (xs ys : List Field) → StandingFits a → StandingFits b
    → Text (name_of a) ∷ (error_fields a ++ xs) ≡ Text (name_of b) ∷ (error_fields b ++ ys) → Stands a b xs ys
same_standing standing.New standing.New xs ys fit also is =
    record { standing = refl; rest = rest_of Null Null xs ys (rest_of Null Null (Null ∷ xs) (Null ∷ ys) (rest_of _ _ _ _ is)) }
same_standing standing.Acked standing.Acked xs ys fit also is =
    record { standing = refl; rest = rest_of Null Null xs ys (rest_of Null Null (Null ∷ xs) (Null ∷ ys) (rest_of _ _ _ _ is)) }
same_standing (standing.Erred row rule) (standing.Erred other because) xs ys fit also is =
    let first = rest_of (Text (codes "ER")) (Text (codes "ER")) (number_field row ∷ (number_field rule ∷ xs)) (number_field other ∷ (number_field because ∷ ys)) is in
    let second = rest_of (number_field row) (number_field other) (number_field rule ∷ xs) (number_field because ∷ ys) first in
    record {
      standing = ap (λ r. standing.Erred r rule) (first_number row other (number_field rule ∷ xs) (number_field because ∷ ys) fit.0 also.0 first)
          ∙ ap (standing.Erred other) (first_number rule because xs ys fit.1 also.1 second);
      rest = rest_of (number_field rule) (number_field because) xs ys second;
    }
same_standing standing.New standing.Acked xs ys fit also is = no_tag 78 79 refl (ap tag_of is)
same_standing standing.New (standing.Erred row rule) xs ys fit also is = no_tag 78 69 refl (ap tag_of is)
same_standing standing.Acked standing.New xs ys fit also is = no_tag 79 78 refl (ap tag_of is)
same_standing standing.Acked (standing.Erred row rule) xs ys fit also is = no_tag 79 69 refl (ap tag_of is)
same_standing (standing.Erred row rule) standing.New xs ys fit also is = no_tag 69 78 refl (ap tag_of is)
same_standing (standing.Erred row rule) standing.Acked xs ys fit also is = no_tag 69 79 refl (ap tag_of is)

-- BATCHES
pub record BatchFits (config : Config) (batch : OutBatch) : Type 0 where
  pub id : Small batch.id
  pub peer : is_name_text batch.peer ≡ true
  pub channel : batch.channel < length config.channels
  pub standing : StandingFits batch.standing
  pub changes : AllByRecursion Small batch.changes

module _ (config : Config) (sound : IsSound config) where
  abbrev batch_tail : OutBatch → List Field
  batch_tail batch = Text (name_of batch.standing) ∷ (error_fields batch.standing ++ map number_field batch.changes)

  batch_good : (batch : OutBatch) → BatchFits config batch → are_fields (Text batch.peer ∷ (Text (channel_name config batch.channel) ∷ batch_tail batch)) ≡ true
  batch_good batch fit =
      with_text batch.peer (Text (channel_name config batch.channel) ∷ batch_tail batch) (name_good batch.peer fit.peer)
      (with_text (channel_name config batch.channel) (batch_tail batch)
      (name_good (channel_name config batch.channel) (channel_named config sound batch.channel fit.channel))
      (with_text (name_of batch.standing) (error_fields batch.standing ++ map number_field batch.changes) (word_good batch.standing)
      (fields_append (error_fields batch.standing) (map number_field batch.changes) (error_good batch.standing fit.standing)
      (numbers_good batch.changes fit.changes))))

  pub same_batch : (a b : OutBatch) → BatchFits config a → BatchFits config b → (batch_record config a).key ≡ (batch_record config b).key
      → (batch_record config a).body ≡ (batch_record config b).body → a ≡ b
  same_batch a b fit also key same =
      let id : a.id ≡ b.id = same_id a.id b.id fit.id also.id (append_cancel_left (codes "b/") (id_text a.id) (id_text b.id) key) in
      let fields = line_tells a.peer b.peer (Text (channel_name config a.channel) ∷ batch_tail a) (Text (channel_name config b.channel) ∷ batch_tail b)
      (batch_good a fit) (batch_good b also) same in
      let second = rest_of (Text a.peer) (Text b.peer) (Text (channel_name config a.channel) ∷ batch_tail a) (Text (channel_name config b.channel) ∷ batch_tail b) fields in
      let third = rest_of (Text (channel_name config a.channel)) (Text (channel_name config b.channel)) (batch_tail a) (batch_tail b) second in
      let stands = same_standing a.standing b.standing (map number_field a.changes) (map number_field b.changes) fit.standing also.standing third in
      let peer : a.peer ≡ b.peer = first_text a.peer b.peer (Text (channel_name config a.channel) ∷ batch_tail a) (Text (channel_name config b.channel) ∷ batch_tail b) fields in
      let channel : a.channel ≡ b.channel = same_channel config sound a.channel b.channel fit.channel also.channel
      (first_text (channel_name config a.channel) (channel_name config b.channel) (batch_tail a) (batch_tail b) second) in
      let changes : a.changes ≡ b.changes = all_numbers a.changes b.changes fit.changes also.changes stands.rest in
      let standing : a.standing ≡ b.standing = stands.standing in
      λ i. record { id = id i; peer = peer i; channel = channel i; standing = standing i; changes = changes i }

-- RULES by their numbers
abbrev rule_back : ℕ → Rule
rule_back n = cond (n == 1) UnknownTable (cond (n == 2) UnknownColumn (cond (n == 3) MissingKey (cond (n == 4) BadValue
    (cond (n == 5) TooLong (cond (n == 6) NullNotAllowed (cond (n == 7) DuplicateKey (cond (n == 8) RowMissing
    (cond (n == 9) MissingParent (cond (n == 10) HasChildren (cond (n == 11) TableFull (cond (n == 12) ManualConflict
    (cond (n == 13) OldMissing (cond (n == 14) SumOutOfRange (cond (n == 15) CaptureFull UnknownChannel))))))))))))))

-- its number is small, and tells it
record RuleNumber (rule : Rule) : Type 0 where
  small : Small (number_of rule)
  back : rule_back (number_of rule) ≡ rule

rule_number : (rule : Rule) → RuleNumber rule
rule_number UnknownTable = record { small = omega arith; back = refl }
rule_number UnknownColumn = record { small = omega arith; back = refl }
rule_number MissingKey = record { small = omega arith; back = refl }
rule_number BadValue = record { small = omega arith; back = refl }
rule_number TooLong = record { small = omega arith; back = refl }
rule_number NullNotAllowed = record { small = omega arith; back = refl }
rule_number DuplicateKey = record { small = omega arith; back = refl }
rule_number RowMissing = record { small = omega arith; back = refl }
rule_number MissingParent = record { small = omega arith; back = refl }
rule_number HasChildren = record { small = omega arith; back = refl }
rule_number TableFull = record { small = omega arith; back = refl }
rule_number ManualConflict = record { small = omega arith; back = refl }
rule_number OldMissing = record { small = omega arith; back = refl }
rule_number SumOutOfRange = record { small = omega arith; back = refl }
rule_number CaptureFull = record { small = omega arith; back = refl }
rule_number UnknownChannel = record { small = omega arith; back = refl }

-- LANES
abbrev pub ErrorFits : LaneError → Type 0
ErrorFits error = Small error.batch × Small error.row

pub record LaneFits (config : Config) (lane : LaneIn) : Type 0 where
  pub peer : is_name_text lane.peer ≡ true
  pub channel : lane.channel < length config.channels
  pub highest : Small lane.highest
  pub error : IfSome lane.error ErrorFits

abbrev status_back : Field → Option Bool
status_back Null = None
status_back (Text []) = None
status_back (Text (c ∷ cs)) = Some (c == 73)

status_is : (ignored : Option Bool) → status_back (status_field ignored) ≡ ignored
status_is None = refl
status_is (Some true) = refl
status_is (Some false) = refl

status_good : (ignored : Option Bool) → is_field (status_field ignored) ≡ true
status_good None = refl
status_good (Some true) = refl
status_good (Some false) = refl

error_small : (error : LaneError) → ErrorFits error → AllByRecursion Small (error.batch ∷ (error.row ∷ (number_of error.rule ∷ [])))
error_small error fit = (fit.0, (fit.1, ((rule_number error.rule).small, tt)))

held_good : (error : Option LaneError) → IfSome error ErrorFits → are_fields (held_fields error) ≡ true
held_good None fit = refl
held_good (Some error) fit = numbers_good (error.batch ∷ (error.row ∷ (number_of error.rule ∷ []))) (error_small error fit)

same_held : (a b : Option LaneError) → IfSome a ErrorFits → IfSome b ErrorFits → held_fields a ≡ held_fields b → a ≡ b
same_held None None fit also is = refl
same_held None (Some b) fit also is = absurd (true≢false (sym (ap (λ fields. is_text (first_field fields)) is)))
same_held (Some a) None fit also is = absurd (true≢false (ap (λ fields. is_text (first_field fields)) is))
same_held (Some a) (Some b) fit also is =
    let numbers = all_numbers (a.batch ∷ (a.row ∷ (number_of a.rule ∷ []))) (b.batch ∷ (b.row ∷ (number_of b.rule ∷ []))) (error_small a fit) (error_small b also) is in
    let batch : a.batch ≡ b.batch = ap (number_at 0) numbers in
    let row : a.row ≡ b.row = ap (number_at 1) numbers in
    let rule : a.rule ≡ b.rule = sym (rule_number a.rule).back ∙ (ap (λ ns. rule_back (number_at 2 ns)) numbers ∙ (rule_number b.rule).back) in
    λ i. Some (record { batch = batch i; row = row i; rule = rule i })

module _ (config : Config) (sound : IsSound config) where
  abbrev lane_tail : LaneIn → List Field
  lane_tail lane = status_field lane.ignored ∷ held_fields lane.error

  lane_good : (lane : LaneIn) → LaneFits config lane → are_fields (number_field lane.highest ∷ lane_tail lane) ≡ true
  lane_good lane fit =
      with_text (decimal lane.highest) (lane_tail lane) (number_good lane.highest fit.highest)
      (with_field (status_field lane.ignored) (held_fields lane.error) (status_good lane.ignored) (held_good lane.error fit.error))

  pub same_lane : (a b : LaneIn) → LaneFits config a → LaneFits config b → (lane_record config a).key ≡ (lane_record config b).key
      → (lane_record config a).body ≡ (lane_record config b).body → a ≡ b
  same_lane a b fit also key same =
      let names = after_names a.peer b.peer (encode_utf8_all (channel_name config a.channel)) (encode_utf8_all (channel_name config b.channel)) fit.peer also.peer
      (append_cancel_left (codes "i/") _ _ key) in
      let channel : a.channel ≡ b.channel = same_channel config sound a.channel b.channel fit.channel also.channel
      (encodes_same (channel_name config a.channel) (channel_name config b.channel) names.after) in
      let fields = line_tells (decimal a.highest) (decimal b.highest) (lane_tail a) (lane_tail b) (lane_good a fit) (lane_good b also) same in
      let second = rest_of (number_field a.highest) (number_field b.highest) (lane_tail a) (lane_tail b) fields in
      let highest : a.highest ≡ b.highest = first_number a.highest b.highest (lane_tail a) (lane_tail b) fit.highest also.highest fields in
      let ignored : a.ignored ≡ b.ignored =
      sym (status_is a.ignored) ∙ (ap (λ fs. status_back (first_field fs)) second ∙ status_is b.ignored) in
      let error : a.error ≡ b.error = same_held a.error b.error fit.error also.error
      (rest_of (status_field a.ignored) (status_field b.ignored) (held_fields a.error) (held_fields b.error) second) in
      λ i. record { peer = names.before i; channel = channel i; highest = highest i; ignored = ignored i; error = error i }
