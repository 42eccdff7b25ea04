use Rattle.sds_records.proofs.KeyKinds.{batch_found, change_found, lane_found, none_told, opening_found, row_found, some_told}
use Rattle.sds_records.specs.declared.told.Told.TheVariants.{Opening, Row, Change, Batch, Lane}
use Rattle.sds_records.proofs.reading.told_by.Goals as goal

pub returns-in-Some-2-clause-found : goal.returns-in-Some-2-clause-found
returns-in-Some-2-clause-found c = λ sound told held formed values same fields.
    some_told Opening c.in_ok-opening-in-111.field-0 told c.in-Some-2.opening (opening_found c.args.config.now told c.args.kind c.args.rest.now c.args.fields.now c.in_ok-opening-in-111.field-0 sound held formed values c.in-111.is same fields c.in_ok-opening-in-111.ensures) c.in-Some-2.is

pub returns-in-None-2-clause-found : goal.returns-in-None-2-clause-found
returns-in-None-2-clause-found c = λ sound told held formed values same fields.
    absurd (none_told Opening c.in_ok-opening-in-111.field-0 told (opening_found c.args.config.now told c.args.kind c.args.rest.now c.args.fields.now c.in_ok-opening-in-111.field-0 sound held formed values c.in-111.is same fields c.in_ok-opening-in-111.ensures) c.in-None-2.is)

pub returns-in-Some-4-clause-found : goal.returns-in-Some-4-clause-found
returns-in-Some-4-clause-found c = λ sound told held formed values same fields.
    some_told Row c.in_ok-row-in-116.field-0 told c.in-Some-4.row (row_found c.args.config.now told c.args.kind c.args.rest.now c.args.fields.now c.in_ok-row-in-116.field-0 sound held formed values c.in-116.is same fields c.in_ok-row-in-116.ensures.found) c.in-Some-4.is

pub returns-in-None-4-clause-found : goal.returns-in-None-4-clause-found
returns-in-None-4-clause-found c = λ sound told held formed values same fields.
    absurd (none_told Row c.in_ok-row-in-116.field-0 told (row_found c.args.config.now told c.args.kind c.args.rest.now c.args.fields.now c.in_ok-row-in-116.field-0 sound held formed values c.in-116.is same fields c.in_ok-row-in-116.ensures.found) c.in-None-4.is)

pub returns-in-Some-5-clause-found : goal.returns-in-Some-5-clause-found
returns-in-Some-5-clause-found c = λ sound told held formed values same fields.
    some_told Change c.in_ok-change-in-100.field-0 told c.in-Some-5.change (change_found c.args.config.now told c.args.kind c.args.rest.now c.args.fields.now c.in_ok-change-in-100.field-0 sound held formed values c.in-100.is same fields c.in_ok-change-in-100.ensures.found) c.in-Some-5.is

pub returns-in-None-5-clause-found : goal.returns-in-None-5-clause-found
returns-in-None-5-clause-found c = λ sound told held formed values same fields.
    absurd (none_told Change c.in_ok-change-in-100.field-0 told (change_found c.args.config.now told c.args.kind c.args.rest.now c.args.fields.now c.in_ok-change-in-100.field-0 sound held formed values c.in-100.is same fields c.in_ok-change-in-100.ensures.found) c.in-None-5.is)

pub returns-in-Some-6-clause-found : goal.returns-in-Some-6-clause-found
returns-in-Some-6-clause-found c = λ sound told held formed values same fields.
    some_told Batch c.in_ok-batch-in-98.field-0 told c.in-Some-6.batch (batch_found c.args.config.now told c.args.kind c.args.rest.now c.args.fields.now c.in_ok-batch-in-98.field-0 sound held formed values c.in-98.is same fields c.in_ok-batch-in-98.ensures) c.in-Some-6.is

pub returns-in-None-6-clause-found : goal.returns-in-None-6-clause-found
returns-in-None-6-clause-found c = λ sound told held formed values same fields.
    absurd (none_told Batch c.in_ok-batch-in-98.field-0 told (batch_found c.args.config.now told c.args.kind c.args.rest.now c.args.fields.now c.in_ok-batch-in-98.field-0 sound held formed values c.in-98.is same fields c.in_ok-batch-in-98.ensures) c.in-None-6.is)

pub returns-in-Some-7-clause-found : goal.returns-in-Some-7-clause-found
returns-in-Some-7-clause-found c = λ sound told held formed values same fields.
    some_told Lane c.in_ok-lane-in-105.field-0 told c.in-Some-7.lane (lane_found c.args.config.now told c.args.kind c.args.rest.now c.args.fields.now c.in_ok-lane-in-105.field-0 sound held formed values c.in-105.is same fields c.in_ok-lane-in-105.ensures) c.in-Some-7.is

pub returns-in-None-7-clause-found : goal.returns-in-None-7-clause-found
returns-in-None-7-clause-found c = λ sound told held formed values same fields.
    absurd (none_told Lane c.in_ok-lane-in-105.field-0 told (lane_found c.args.config.now told c.args.kind c.args.rest.now c.args.fields.now c.in_ok-lane-in-105.field-0 sound held formed values c.in-105.is same fields c.in_ok-lane-in-105.ensures) c.in-None-7.is)
