-- What the parts that records tell are judged by, and what stands before each of them.
use Rattle.std.specs.Prelude.{◌≡◌, ⊤, ℕ, List, ◌++◌, length, map}
use Rattle.std.specs.BTreeSet.{contains}
use Rattle.std.specs.List.{filter_map}
use Rattle.std.specs.Option.{option_or}
use Rattle.std.specs.Ordering.{nat_cmp}
use Rattle.sds_outside.specs.Records as outside
use Rattle.sds_types.specs.declared.config.Config.{Config}
use Rattle.sds_history.specs.history.Acts.{State}
use Rattle.sds_history.specs.history.Records.{Record}
use Rattle.sds_history.specs.history.SoundStates.{is_kept}
use Rattle.sds_records.specs.Told.{kept_record}
use Rattle.sds_records.specs.declared.told.Told.{Told}
use Rattle.sds_image.specs.ReadStates.{IsBadKey}
use Rattle.sds_image.specs.Reading.{IsBad, batch_of_part, change_of_part, first_told, lane_of_part, me_of_part, opening_of_part, peer_of_part, row_of_part, writer_of_part}
use Rattle.sds_image.specs.declared.earlier.Earlier.{Earlier}
use Rattle.sds_image.specs.declared.lists.Lists.{Lists}
use Rattle.sds_image.specs.declared.refusal.StateRefusal.{StateRefusal}
use Rattle.sds_image.specs.declared.refusal.StateRefusal.TheVariants.{BadRecord, Contradicts, NoMemory}
use Rattle.sds_image.specs.declared.seen.Seen.{Seen}

-- records of which a keeper tells the keys and the bodies
abbrev pub record_of_pair : outside.Record → Record
record_of_pair pair = kept_record pair.0 pair.1

abbrev pub records_of_pairs : List outside.Record → List Record
records_of_pairs pairs = map record_of_pair pairs

-- how a record is refused that is read after others, and how one of several is
abbrev pub IsBadNext : Config → List Record → Record → StateRefusal → Type 0
IsBadNext config before kept (BadRecord key) = IsBad config before kept × (kept.key ≡ key)
IsBadNext config before kept (Contradicts key) = ⊥
IsBadNext config before kept NoMemory = ⊤

abbrev pub IsBadAmong : Config → List Record → StateRefusal → Type 0
IsBadAmong config records (BadRecord key) = IsBadKey config records key
IsBadAmong config records (Contradicts key) = ⊥
IsBadAmong config records NoMemory = ⊤

-- what parts are judged by is that of a state
pub record IsSeen (state : State) (seen : Seen) : Type 0 where
  pub counts : seen.counts ≡ state.counts
  pub peers : map (λ kept. kept.now) seen.peers.items ≡ state.peers
  pub changes : (number : ℕ) → contains nat_cmp seen.changes number ≡ is_kept state number
  pub rows : seen.rows.items ≡ state.tables

-- what stands before a part
pub record AreEarlier (earlier : Earlier) (before : List Told) : Type 0 where
  pub peers : earlier.peers ≡ length (filter_map peer_of_part before)
  pub rows : earlier.rows ≡ length (filter_map row_of_part before)
  pub openings : map (λ opening. opening.now) earlier.openings
      ≡ filter_map opening_of_part before
  pub batches : map (λ batch. batch.now) earlier.batches ≡ filter_map batch_of_part before

-- lists with the parts that are still to come are those of all parts
pub record Lead (lists : Lists) (rest parts : List Told) : Type 0 where
  pub me : option_or lists.me (first_told me_of_part rest) ≡ first_told me_of_part parts
  pub peers : lists.peers ++ filter_map peer_of_part rest ≡ filter_map peer_of_part parts
  pub openings : lists.openings ++ filter_map opening_of_part rest
      ≡ filter_map opening_of_part parts
  pub writers : lists.writers ++ filter_map writer_of_part rest
      ≡ filter_map writer_of_part parts
  pub changes : lists.changes ++ filter_map change_of_part rest
      ≡ filter_map change_of_part parts
  pub batches : lists.batches ++ filter_map batch_of_part rest
      ≡ filter_map batch_of_part parts
  pub lanes : lists.lanes ++ filter_map lane_of_part rest ≡ filter_map lane_of_part parts
