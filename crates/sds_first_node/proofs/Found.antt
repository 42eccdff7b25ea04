-- A place found in a list.
use Rattle.std.proofs.Common.{◌≡◌, ℕ, ◌<◌, true, List, ◌++◌, length, take, drop, get_or, Some, sym, ap, ◌∙◌, add-one}
use Rattle.std.specs.Str.{bytes_eq}
use Rattle.std.proofs.lemmas.Bool.{eq-eqb}
use Rattle.std.proofs.lemmas.List.{drop_more, set_split}
use Rattle.std.proofs.lemmas.Option.{slice_get-get_or}
use Rattle.sds_types.specs.declared.counts.WriterLast.{WriterLast}
use Rattle.sds_types.specs.declared.lane.LaneIn.{LaneIn}
use Rattle.sds_first_spec.specs.Kept.{writer_in, with_writer, is_lane, with_lane}
use Rattle.sds_first_node.specs.Finding.{IsWriterAt, IsLaneAt}

pub writer_at : (writer : List ℕ) (lasts : List WriterLast) (i : ℕ) (last : WriterLast) → i < length lasts → last ≡ get_or lasts i last → bytes_eq last.writer writer ≡ true
    → writer_in writer (drop i lasts) ≡ writer_in writer lasts
    → ((new : WriterLast) → new.writer ≡ writer → with_writer new lasts ≡ take i lasts ++ with_writer new (drop i lasts)) → IsWriterAt writer lasts i
writer_at writer lasts i last inside item same found put = record {
  within = inside;
  found = sym found ∙ rw (drop_more lasts i last inside) (rw (← item) (rw same (rw (slice_get-get_or lasts i last inside) (ap Some item))));
  put = λ new is.
      let named : bytes_eq last.writer new.writer ≡ true = rw is same in
      rw (put new is) (rw (drop_more lasts i last inside) (rw (← item) (rw named (rw add-one (sym (set_split lasts i new inside))))));
}

pub lane_at : (peer : List ℕ) (channel : ℕ) (lanes : List LaneIn) (i : ℕ) (lane : LaneIn) → i < length lanes → lane ≡ get_or lanes i lane → bytes_eq lane.peer peer ≡ true → lane.channel ≡ channel
    → ((new : LaneIn) → new.peer ≡ peer → new.channel ≡ channel → with_lane new lanes ≡ take i lanes ++ with_lane new (drop i lanes)) → IsLaneAt peer channel lanes i
lane_at peer channel lanes i lane inside item same here put = record {
  within = inside;
  put = λ new is at.
      let named : is_lane new.peer new.channel lane ≡ true = rw (is, at) (rw same (eq-eqb lane.channel channel here)) in
      rw (put new is at) (rw (drop_more lanes i lane inside) (rw (← item) (rw named (rw add-one (sym (set_split lanes i new inside))))));
}
