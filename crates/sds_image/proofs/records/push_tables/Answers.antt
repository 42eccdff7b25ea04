use Rattle.std.proofs.Common.{◌≡◌, ◌<◌, length, map, arith, ap, ◌∙◌}
use Rattle.sds_records.proofs.Places.{sound_key}
use Rattle.sds_rows.specs.Stored.{rows_in}
use Rattle.sds_image.proofs.Fitting.{rows_found_fit}
use Rattle.sds_image.proofs.RowsByTable.{all_pushed, none_pushed, rows_pushed}
use Rattle.sds_image.proofs.records.push_tables.Goals as goal

pub loop-table-init : goal.loop-table-init
loop-table-init c = none_pushed c.args.config.now c.args.tables.now.rows c.args.all.now.items

pub push_rows-requires-clause-key : goal.push_rows-requires-clause-key
push_rows-requires-clause-key c =
    let size : c.len-count.result ≡ length c.args.config.now.tables = cc in
    let few = c.requires.config.tables.few in
    let within : c.loop-table.table < length c.args.config.now.tables = omega (arith, size, few) in
    sound_key c.args.config.now c.loop-table.table c.requires.config within

pub push_rows-requires-clause-rows : goal.push_rows-requires-clause-rows
push_rows-requires-clause-rows c =
    let found : map (λ row. row.now) c.deref.result.now ≡ rows_in c.loop-table.table c.args.tables.now.rows = ap (map (λ row. row.now)) c.deref.ensures.value ∙ c.in_ok-rows.ensures in
    rows_found_fit c.args.config.now.tables c.loop-table.table c.args.tables.now.rows (λ row. row.now) c.deref.result.now found c.requires.tables.held

pub loop-table-preserved : goal.loop-table-preserved
loop-table-preserved c =
    let found : map (λ row. row.now) c.deref.result.now ≡ rows_in c.loop-table.table c.args.tables.now.rows = ap (map (λ row. row.now)) c.deref.ensures.value ∙ c.in_ok-rows.ensures in
    rows_pushed c.args.config.now c.loop-table.table c.args.tables.now.rows c.args.all.now.items c.loop-table.all.items c.push_rows.new.all.items (map (λ row. row.now) c.deref.result.now)
    c.requires.tables.ascend found c.loop-table.invariant c.in_ok-push_rows.ensures

pub returns : goal.returns
returns c =
    let size : c.len-count.result ≡ length c.args.config.now.tables = cc in
    let few = c.requires.config.tables.few in
    let end : c.loop-table.table ≡ length c.args.config.now.tables = omega (arith, size, few) in
    all_pushed c.args.config.now c.loop-table.table c.args.tables.now.rows c.args.all.now.items c.loop-table.all.items end c.requires.tables.known c.loop-table.invariant
