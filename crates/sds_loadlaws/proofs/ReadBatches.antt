-- Batches that are read of documents: their texts are of characters, their numbers have 32 bits, and so their loads are asked rightly.
use Rattle.std.proofs.Common.{◌≡◌, ℕ, true, ◌+◌, ◌<◌, ◌^◌, List, [], ◌∷◌, length, map, Option, None, Some, Result, Ok, Err, refl, ap, subst, arith, All, filter_map}
use Rattle.std.specs.List.{enumerate_from}
use Rattle.std.proofs.lemmas.List.Sums.{AllPass-from_list_all, list_all-from_AllPass}
use Rattle.std.specs.Result.{result_err, result_ok}
use Rattle.sds_value.specs.declared.kind.Binary.{Binary}
use Rattle.sds_value.specs.declared.row.DocRow.{DocRow}
use Rattle.sds_types.specs.declared.config.Config.{Config}
use Rattle.sds_types.specs.declared.document.BatchDoc.{BatchDoc}
use Rattle.sds_types.specs.declared.load_row.LoadRow.{LoadRow}
use Rattle.sds_types.specs.declared.rule.Rule.{Rule}
use Rattle.sds_types.specs.declared.transform.Shaped.{Shaped}
use Rattle.sds_types.specs.declared.way.Way.{Way}
use Rattle.sds_batchtext.specs.Writable.{is_batch_text, is_row_text}
use Rattle.sds_trade.proofs.Lists.{all_head}
use Rattle.sds_trade.specs.rules.LoadRows.{by_rule, plain_row, with_adds}
use Rattle.sds_trade.specs.rules.Outcomes.{body_by, numbered_rule, reading_of, readings_of}
use Rattle.sds_trade.specs.rules.TextRules.{broken_text_rule}
use Rattle.sds_trade.specs.rules.Transforms.{shaped_rows}
use Rattle.sds_records.specs.Told.{IsNarrow}
use Rattle.sds_nodelaws.proofs.Held.{all_of, mapped}
use Rattle.sds_nodelaws.proofs.KeyedLists.{placed_all, places_within}
use Rattle.sds_nodelaws.proofs.Lists.{all_flat, map_all, no_some, same_some}
use Rattle.sds_nodelaws.specs.Asked.{is_spelt_body, is_spelt_row}
use Rattle.sds_imagelaws.specs.Widths.{IsHeldBody}
use Rattle.sds_loadlaws.proofs.Lists.{given_all}
use Rattle.sds_loadlaws.proofs.SpeltRows.{IsSpeltShape, row_spelt, shaped_spelt}
use Rattle.sds_loadlaws.specs.ReadBatches.{ReadBatchesAreAsked, ReadBatchesAreHeld, ReadBatchesAreSpelt}
use Rattle.sds_loadlaws.specs.Spelt.{is_spelt_config, is_spelt_way}

-- NUMBERS. What is read of a row has that row's number
abbrev Reading : Type 0
Reading = Result LoadRow (ℕ × Rule)

abbrev NumberFits : Reading → Type 0
NumberFits (Ok row) = IsNarrow row.row
NumberFits (Err why) = IsNarrow why.0

reading_fits : (config : Config) (form : Binary) (number : ℕ) (made : Shaped) → IsNarrow number → NumberFits (reading_of config form number made)
reading_fits config form number made fits = on (broken_text_rule config.tables form made.row)
  where
    on : (broken : Option Rule) → NumberFits (numbered_rule number (by_rule broken (with_adds (plain_row config.tables form number made.row) made.adds)))
    on None = fits
    on (Some rule) = fits

readings_fit : (config : Config) (way : Way) (doc : BatchDoc) → length doc.rows < 2 ^ 32 → All NumberFits (readings_of config way doc)
readings_fit config way doc few =
    all_flat NumberFits (λ (at : ℕ × DocRow). map (reading_of config doc.binary at.0) (shaped_rows config way at.1)) (enumerate_from 1 doc.rows)
    (mapped (λ (at : ℕ × DocRow). at.0 < 1 + length doc.rows)
    (λ (at : ℕ × DocRow). All NumberFits (map (reading_of config doc.binary at.0) (shaped_rows config way at.1))) (enumerate_from 1 doc.rows)
    (λ at within. map_all NumberFits (reading_of config doc.binary at.0) (shaped_rows config way at.1)
    (all_of (λ (made : Shaped). NumberFits (reading_of config doc.binary at.0 made)) (shaped_rows config way at.1)
    (λ made. reading_fits config doc.binary at.0 made (narrow at.0 (length doc.rows) within few))))
    (places_within 1 doc.rows))
  where
    narrow : (n rows : ℕ) → n < 1 + rows → rows < 2 ^ 32 → n < 2 ^ 32
    narrow n rows within less = omega (arith, within, less)

ok_is : (r : Reading) (row : LoadRow) → result_ok r ≡ Some row → r ≡ Ok row
ok_is (Ok other) row is = ap Ok (same_some other row is)
ok_is (Err why) row is = no_some row is

err_is : (r : Reading) (why : ℕ × Rule) → result_err r ≡ Some why → r ≡ Err why
err_is (Ok row) why is = no_some why is
err_is (Err other) why is = ap Err (same_some other why is)

body_held : (broken : List (ℕ × Rule)) (rows : List LoadRow) → All (λ (why : ℕ × Rule). IsNarrow why.0) broken → All (λ (row : LoadRow). IsNarrow row.row) rows
    → IsHeldBody (body_by broken rows)
body_held [] rows broken are = are
body_held (first ∷ others) rows broken are = all_head (λ (why : ℕ × Rule). IsNarrow why.0) first others broken

pub read_batches_are_held : ReadBatchesAreHeld
read_batches_are_held config way doc few =
    let readings = readings_of config way doc in
    let fit = readings_fit config way doc few in
    body_held (filter_map result_err readings) (filter_map result_ok readings)
    (given_all (λ (why : ℕ × Rule). IsNarrow why.0) result_err readings
    (mapped NumberFits (λ (r : Reading). (why : ℕ × Rule) → result_err r ≡ Some why → IsNarrow why.0) readings
    (λ r fits why is. subst NumberFits (err_is r why is) fits) fit))
    (given_all (λ (row : LoadRow). IsNarrow row.row) result_ok readings
    (mapped NumberFits (λ (r : Reading). (row : LoadRow) → result_ok r ≡ Some row → IsNarrow row.row) readings
    (λ r fits row is. subst NumberFits (ok_is r row is) fits) fit))

-- TEXTS. What is read of a row of characters is of characters
abbrev ReadsSpelt : Reading → Type 0
ReadsSpelt (Ok row) = is_spelt_row row ≡ true
ReadsSpelt (Err why) = Unit {0}

reading_spelt : (config : Config) (form : Binary) (number : ℕ) (made : Shaped) → IsSpeltShape made → ReadsSpelt (reading_of config form number made)
reading_spelt config form number made are = on (broken_text_rule config.tables form made.row)
  where
    on : (broken : Option Rule) → ReadsSpelt (numbered_rule number (by_rule broken (with_adds (plain_row config.tables form number made.row) made.adds)))
    on None = row_spelt config.tables form number made are
    on (Some rule) = tt

readings_spelt : (config : Config) (way : Way) (doc : BatchDoc) → is_spelt_config config ≡ true → is_spelt_way way ≡ true → is_batch_text doc ≡ true
    → All ReadsSpelt (readings_of config way doc)
readings_spelt config way doc spelt ways are =
    all_flat ReadsSpelt (λ (at : ℕ × DocRow). map (reading_of config doc.binary at.0) (shaped_rows config way at.1)) (enumerate_from 1 doc.rows)
    (mapped (λ (at : ℕ × DocRow). is_row_text at.1 ≡ true)
    (λ (at : ℕ × DocRow). All ReadsSpelt (map (reading_of config doc.binary at.0) (shaped_rows config way at.1))) (enumerate_from 1 doc.rows)
    (λ at is. map_all ReadsSpelt (reading_of config doc.binary at.0) (shaped_rows config way at.1)
    (mapped IsSpeltShape (λ (made : Shaped). ReadsSpelt (reading_of config doc.binary at.0 made)) (shaped_rows config way at.1)
    (λ made shape. reading_spelt config doc.binary at.0 made shape) (shaped_spelt config way at.1 spelt ways is)))
    (placed_all (λ (row : DocRow). is_row_text row ≡ true) 1 doc.rows (AllPass-from_list_all is_row_text doc.rows are)))

body_spelt : (broken : List (ℕ × Rule)) (rows : List LoadRow) → All (λ (row : LoadRow). is_spelt_row row ≡ true) rows → is_spelt_body (body_by broken rows) ≡ true
body_spelt [] rows are = list_all-from_AllPass is_spelt_row rows are
body_spelt (first ∷ others) rows are = refl

pub read_batches_are_spelt : ReadBatchesAreSpelt
read_batches_are_spelt config way doc spelt ways are =
    let readings = readings_of config way doc in
    body_spelt (filter_map result_err readings) (filter_map result_ok readings)
    (given_all (λ (row : LoadRow). is_spelt_row row ≡ true) result_ok readings
    (mapped ReadsSpelt (λ (r : Reading). (row : LoadRow) → result_ok r ≡ Some row → is_spelt_row row ≡ true) readings
    (λ r reads row is. subst ReadsSpelt (ok_is r row is) reads) (readings_spelt config way doc spelt ways are)))

-- ASKED RIGHTLY
pub read_batches_are_asked : ReadBatchesAreAsked
read_batches_are_asked config state from way document spelt ways source loadable = (
  record {
    way = way;
    document = document;
    source = source;
    read = refl;
    first = loadable.first;
    last = loadable.last;
    spelt = read_batches_are_spelt config way document spelt ways loadable.spelt;
  },
  read_batches_are_held config way document loadable.few,
)
