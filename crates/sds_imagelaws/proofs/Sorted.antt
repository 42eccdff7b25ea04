-- Sorted records ascend, and have for each key what the records have.
use Rattle.std.proofs.Common.{◌≡◌, ℕ, Some, cond, true, List, [], ◌∷◌, ◌++◌, refl, sym, ap, ◌∙◌, arith, All, AllPairs, Ordering, filter, get_or, nat_cmp, is_lt}
use Rattle.std.specs.Cmp.Lexicographic.{slice_cmp}
use Rattle.std.specs.Str.{bytes_eq}
use Rattle.std.proofs.lemmas.Cmp.{nat_list_cmp_total, on_total}
use Rattle.std.proofs.lemmas.List.{append_cancel_left}
use Rattle.std.proofs.lemmas.List.Elements.{All-cons, filter_passes}
use Rattle.std.proofs.lemmas.List.Kept.{AllPairs-cons, AllPairs-filter}
use Rattle.sds_outside.specs.Records.{IsAscending, IsBelow}
use Rattle.sds_trade.proofs.Lists.{all_head, all_tail, pairs_append, pairs_head, pairs_tail}
use Rattle.sds_trade.proofs.TableLaws.{less_is}
use Rattle.sds_history.specs.history.Image.{key_of_record, sorted_records}
use Rattle.sds_history.specs.history.Orders.{is_before, with_item}
use Rattle.sds_history.specs.history.Records.{Record}
use Rattle.sds_image.specs.Pairs.{pairs}
use Rattle.sds_imagelaws.proofs.Items.{Tells, part_at, part_put}
use Rattle.sds_imagelaws.proofs.Lists.{each_of}
use Rattle.sds_imagelaws.proofs.Lookups.{body_at}
use Rattle.sds_imagelaws.proofs.Tests.{equal_keys}

-- AN ORDER by keys in bytes, which stand in the records' keys after the same bytes
abbrev pub by_key : {A : Type 0} → (A → List ℕ) → A → A → Ordering
by_key key a b = slice_cmp nat_cmp (key a) (key b)

abbrev pub Any : {A : Type 0} → A → Type 0
Any x = Unit {0}

pub key_tells : {A : Type 0} (kept : A → Record) (key : A → List ℕ) (front : List ℕ) → ((x : A) → (kept x).key ≡ front ++ key x)
    → Tells kept (by_key key) Any
key_tells kept key front keyed = record {
  total = on_total key nat_list_cmp_total;
  level = λ x y is. keyed x ∙ (ap (λ k. front ++ k) (equal_keys (key x) (key y) is) ∙ sym (keyed y));
  tells = λ x y z fit also same. ap (λ k. slice_cmp nat_cmp k (key z))
      (append_cancel_left front (key x) (key y) (sym (keyed x) ∙ (same ∙ keyed y)));
}

pub part_with_item : {A : Type 0} (kept : A → Record) (key : A → List ℕ) (front : List ℕ) → ((x : A) → (kept x).key ≡ front ++ key x)
    → (new : A) (xs : List A) (wanted : List ℕ)
    → part_at kept wanted (with_item key new xs) ≡ cond (bytes_eq (kept new).key wanted) (Some (kept new).body) (part_at kept wanted xs)
part_with_item kept key front keyed new xs wanted =
    part_put kept (by_key key) Any (key_tells kept key front keyed) new wanted xs tt (each_of Any xs (λ x. tt))

-- LOOK-UPS
records_part : (key : List ℕ) (records : List Record) → body_at key (pairs records) ≡ part_at (λ (kept : Record). kept) key records
records_part key [] = refl
records_part key (kept ∷ records) = ap (λ told. cond (bytes_eq kept.key key) (Some kept.body) told) (records_part key records)

pub sorted_has : (key : List ℕ) (records : List Record) → body_at key (pairs (sorted_records records)) ≡ body_at key (pairs records)
sorted_has key [] = refl
sorted_has key (kept ∷ records) =
    records_part key (with_item key_of_record kept (sorted_records records))
    ∙ (part_with_item (λ (kept : Record). kept) key_of_record [] (λ x. refl) kept (sorted_records records) key
    ∙ ap (λ told. cond (bytes_eq kept.key key) (Some kept.body) told)
    (sym (records_part key (sorted_records records)) ∙ sorted_has key records))

-- ORDER
abbrev pub Before : Record → Record → Type 0
Before a b = is_before a.key b.key ≡ true

with_item_ascends : (new : Record) (records : List Record) → AllPairs Before records → AllPairs Before (with_item key_of_record new records)
with_item_ascends new records are =
    let low = λ (kept : Record). is_before kept.key new.key in
    let high = λ (kept : Record). is_before new.key kept.key in
    let after : All (Before new) (filter high records) = filter_passes high records in
    let first : All (λ (kept : Record). Before kept new) (filter low records) = filter_passes low records in
    pairs_append Before (filter low records) (new ∷ filter high records) (AllPairs-filter Before low records are)
    (AllPairs-cons Before new (filter high records) after (AllPairs-filter Before high records are))
    (λ k d within.
    let x = get_or (filter low records) k d in
    All-cons (Before x) new (filter high records) (first k d within)
    (λ j e inside. ap is_lt (nat_list_cmp_total.trans x.key new.key (get_or (filter high records) j e).key
    (less_is (slice_cmp nat_cmp x.key new.key) (first k d within)) (less_is (slice_cmp nat_cmp new.key (get_or (filter high records) j e).key) (after j e inside)))))

sorted_before : (records : List Record) → AllPairs Before (sorted_records records)
sorted_before [] = λ i j d less within. absurd (omega (arith, within))
sorted_before (kept ∷ records) = with_item_ascends kept (sorted_records records) (sorted_before records)

below_of : (key : List ℕ) (records : List Record) → All (λ (kept : Record). is_before key kept.key ≡ true) records → IsBelow key (pairs records)
below_of key [] are = tt
below_of key (kept ∷ records) are =
    let P = λ (x : Record). is_before key x.key ≡ true in
    (less_is (slice_cmp nat_cmp key kept.key) (all_head P kept records are), below_of key records (all_tail P kept records are))

pub ascending_of : (records : List Record) → AllPairs Before records → IsAscending (pairs records)
ascending_of [] are = tt
ascending_of (kept ∷ records) are =
    (below_of kept.key records (pairs_head Before kept records are), ascending_of records (pairs_tail Before kept records are))

pub sorted_ascend : (records : List Record) → IsAscending (pairs (sorted_records records))
sorted_ascend records = ascending_of (sorted_records records) (sorted_before records)
