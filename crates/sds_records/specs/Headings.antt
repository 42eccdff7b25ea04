-- What the first fields of a change's record tell.
use Rattle.sds_types.specs.declared.row.Change.{Change}
use Rattle.sds_records.specs.declared.told_rows.Heading.{Heading}

abbrev pub heading_of : Change → Heading
heading_of change = record {
  tx = change.tx;
  table = change.table;
  event = change.event;
  channel = change.channel;
  source = change.source;
}
