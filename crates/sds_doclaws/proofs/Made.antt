-- The rows that a transform makes of the row of a change have a written form.
use Rattle.std.proofs.Common.{◌≡◌, ℕ, zero, suc, ◌+◌, ◌*◌, ◌<◌, ◌≤◌, Bool, true, false, ◌&&◌, ◌==◌, List, [], ◌∷◌, ◌++◌, length, map, Option, None, Some, option_map, refl, sym, ap, subst, ◌∙◌, arith, true≢false, All, AllPairs}
use Rattle.std.proofs.lemmas.List.{length-map}
use Rattle.std.proofs.lemmas.List.Elements.{All-nil, All-cons}
use Rattle.std.specs.Prelude.{IfSome}
use Rattle.sds_value.specs.declared.row.DocRow.{DocRow}
use Rattle.sds_value.specs.declared.row.Event.{Event}
use Rattle.sds_value.specs.declared.row.Event.TheVariants.{Insert, Update, Delete}
use Rattle.sds_value.specs.declared.row.Field.{Field}
use Rattle.sds_types.specs.declared.transform.DeleteAction.{DeleteAction}
use Rattle.sds_types.specs.declared.transform.DeleteAction.TheVariants.{DelRow, Nothing, UpdateCol}
use Rattle.sds_types.specs.declared.transform.TransformDef.{TransformDef}
use Rattle.sds_types.specs.declared.way.Way.{Way}
use Rattle.sds_batchtext.specs.Writable.{is_old}
use Rattle.sds_trade.specs.rules.DocRows.{field_in}
use Rattle.sds_trade.specs.rules.MadeRows.{active_columns, keys_of, made_delete, made_insert, made_mark, made_of_delete, made_rows, made_update, marked_fields, old_if_given, side_of}
use Rattle.sds_trade.specs.rules.MadeSides.{names_of, values_of}
use Rattle.sds_trade.specs.rules.Sides.{Side, given_side, key_side, new_side, old_side}
use Rattle.sds_history.specs.history.SoundParts.{has_new, has_old}
use Rattle.sds_nodelaws.proofs.Held.{mapped}
use Rattle.sds_nodelaws.proofs.Lists.{and_both, map_all}
use Rattle.sds_doclaws.proofs.Keys.{AreKeys, Apart, HasKey, StarredKey, keys_are, keys_some, side_some}
use Rattle.sds_doclaws.proofs.KeyFields.{key_fields_short}
use Rattle.sds_doclaws.proofs.Marks.{IsMarked, marked_is}
use Rattle.sds_doclaws.proofs.Plain.{HasOld, IsDoc, same_count}
use Rattle.sds_doclaws.proofs.Rows.{AreShort, IsGood, IsName}
use Rattle.sds_doclaws.proofs.Sides.{TakePart, IsMade, IsPair, IsSide, found_fits, given_is, side_count, side_length, side_made}
use Rattle.sds_doclaws.proofs.Sums.{pair_cost, sum_map}
use Rattle.sds_doclaws.proofs.Values.{IsFit}
use Rattle.sds_doclaws.proofs.Weights.{cost, sum_of, total}

-- TRANSFORMS. What holds of one that is for a row
pub record IsReady (way : Way) (transform : TransformDef) (doc : DocRow) : Type 0 where
  pub target : IsName transform.target_table
  pub columns : TakePart way transform.column_policy doc.keys (active_columns transform doc)
  pub apart : Apart (active_columns transform doc)
  pub starred : All StarredKey (active_columns transform doc)
  pub key : HasKey transform.column_policy (active_columns transform doc) doc

-- SIDES of a row that it makes
record IsMadeSide (way : Way) (transform : TransformDef) (doc : DocRow) (side : Side) : Type 0 where
  made : IsMade (side_of way transform doc side)
  some : 1 ≤ length (side_of way transform doc side)
  count : length (side_of way transform doc side) ≡ side_count transform.column_policy (active_columns transform doc) doc.columns
  keys : AreKeys (keys_of transform doc (side_of way transform doc side))
  some_key : 1 ≤ length (keys_of transform doc (side_of way transform doc side))
  key_short : (made : List (List ℕ × Field)) → sum_of (λ (n : List ℕ). cost (field_in (side_of way transform doc side) n)) (keys_of transform doc made) ≤ 511009

is_made_side : (way : Way) (transform : TransformDef) (doc : DocRow) (side : Side) → IsReady way transform doc → IsDoc doc → IsSide doc.columns side
    → IsMadeSide way transform doc side
is_made_side way transform doc side ready is given = record {
  made = made;
  some = side_some way transform.column_policy (active_columns transform doc) doc side ready.apart given ready.key;
  count = side_length way transform.column_policy (active_columns transform doc) side ∙ ap (side_count transform.column_policy (active_columns transform doc)) given.same;
  keys = keys_are way transform.column_policy (active_columns transform doc) doc (side_of way transform doc side) ready.apart ready.starred ready.columns.are ready.columns.few
      is.keys is.keys_apart is.few_keys;
  some_key = keys_some way transform.column_policy (active_columns transform doc) doc side given ready.key;
  key_short = λ other. key_fields_short way transform.column_policy (active_columns transform doc) doc side other ready.columns given made is.keys_apart is.few_keys;
}
  where
    made : IsMade (side_of way transform doc side)
    made = side_made way transform.column_policy doc.keys doc.columns (active_columns transform doc) side ready.columns is.columns is.columns_apart is.few_columns given

old_is_side : (doc : DocRow) → HasOld doc → IsSide doc.columns (old_side doc)
old_is_side doc has = subst (λ (o : Option (List Field)). IsSide doc.columns (elim o [ None ↦ key_side doc | Some old ↦ given_side doc.columns old ])) (sym has.given)
    (given_is doc.columns has.values has.are)

-- NAMES AND VALUES of fields
names_are : (fields : List (List ℕ × Field)) → All IsPair fields → All IsName (names_of fields)
names_are fields are = map_all IsName (λ (at : List ℕ × Field). at.0) fields (mapped IsPair (λ (at : List ℕ × Field). IsName at.0) fields (λ at is. is.0) are)

values_are : (fields : List (List ℕ × Field)) → All IsPair fields → All IsFit (values_of fields)
values_are fields are = map_all IsFit (λ (at : List ℕ × Field). at.1) fields (mapped IsPair (λ (at : List ℕ × Field). IsFit at.1) fields (λ at is. is.1) are)

values_total : (fields : List (List ℕ × Field)) → total (values_of fields) ≡ sum_of pair_cost fields
values_total fields = sum_map cost (λ (at : List ℕ × Field). at.1) fields

names_some : (fields : List (List ℕ × Field)) → 1 ≤ length fields → 1 ≤ length (names_of fields)
names_some fields some = subst (λ (n : ℕ). 1 ≤ n) (sym (length-map fields (λ (at : List ℕ × Field). at.0))) some

names_few : (fields : List (List ℕ × Field)) → length fields ≤ 128 → length (names_of fields) ≤ 128
names_few fields few = subst (λ (n : ℕ). n ≤ 128) (sym (length-map fields (λ (at : List ℕ × Field). at.0))) few

values_count : (fields others : List (List ℕ × Field)) → length fields ≡ length others → (length (values_of fields) == length (names_of others)) ≡ true
values_count fields others same = same_count (length (values_of fields)) (length (names_of others))
    (length-map fields (λ (at : List ℕ × Field). at.1) ∙ (same ∙ sym (length-map others (λ (at : List ℕ × Field). at.0))))

abbrev key_of : List (List ℕ × Field) → List (List ℕ) → List Field
key_of old keys = map (field_in old) keys

key_are : (old : List (List ℕ × Field)) (keys : List (List ℕ)) → All IsPair old → All IsFit (key_of old keys)
key_are old keys are = map_all IsFit (field_in old) keys (λ i d within. found_fits old (Rattle.std.proofs.Common.get_or keys i d) (λ j e inside. (are j e inside).1))

key_total : (old : List (List ℕ × Field)) (keys : List (List ℕ)) → sum_of (λ (n : List ℕ). cost (field_in old n)) keys ≤ 511009 → total (key_of old keys) ≤ 511009
key_total old keys short = subst (λ (n : ℕ). n ≤ 511009) (sym (sum_map cost (field_in old) keys)) short

key_count : (old : List (List ℕ × Field)) (keys : List (List ℕ)) → (length (key_of old keys) == length keys) ≡ true
key_count old keys = same_count (length (key_of old keys)) (length keys) (length-map keys (field_in old))

both_short : (a b : ℕ) → a ≤ 535018 → b ≤ 511009 → a + b ≤ 1048500
both_short a b first second = omega (arith, first, second)

values_short : (fields : List (List ℕ × Field)) → sum_of pair_cost fields ≤ 534954 → total (values_of fields) ≤ 535018
values_short fields short = on (total (values_of fields)) (sum_of pair_cost fields) (values_total fields) short
  where
    on : (n a : ℕ) → n ≡ a → a ≤ 534954 → n ≤ 535018
    on n a same less = omega (arith, same, less)

old_short : (n : ℕ) → n ≤ 535018 → n ≤ 1048500
old_short n less = omega (arith, less)

given_old : (doc : DocRow) (fields : List (List ℕ × Field)) (has : HasOld doc) → old_if_given doc fields ≡ Some (values_of fields)
given_old doc fields has = ap (option_map (λ (old : List Field). values_of fields)) has.given

if_old : (doc : DocRow) (fields : List (List ℕ × Field)) (P : List Field → Type 0) → HasOld doc → P (values_of fields) → IfSome (old_if_given doc fields) P
if_old doc fields P has is = subst (λ (o : Option (List Field)). IfSome o P) (sym (given_old doc fields has)) is

old_count : (doc : DocRow) (fields others : List (List ℕ × Field)) → HasOld doc → length fields ≡ length others → is_old (old_if_given doc fields) (names_of others) ≡ true
old_count doc fields others has same =
    subst (λ (o : Option (List Field)). is_old o (names_of others) ≡ true) (sym (given_old doc fields has)) (values_count fields others same)

-- ROWS
insert_good : (way : Way) (transform : TransformDef) (doc : DocRow) → IsReady way transform doc → IsDoc doc → has_new doc.event ≡ true → IsGood (made_insert way transform doc)
insert_good way transform doc ready is has = record {
  table = ready.target;
  keys = side.keys.named;
  some_key = side.some_key;
  few_keys = side.keys.few;
  columns = names_are new side.made.pairs;
  some_column = names_some new side.some;
  few_columns = names_few new side.made.few;
  sides = and_both (length (values_of new) == length (names_of new)) true (values_count new new refl) refl;
  new = values_are new side.made.pairs;
  key = All-nil IsFit;
  old = tt;
  short = both_short (total (values_of new)) 0 (values_short new side.made.short) (omega arith);
  short_old = tt;
}
  where
    side : IsMadeSide way transform doc (new_side doc)
    side = is_made_side way transform doc (new_side doc) ready is (given_is doc.columns doc.new (is.new has))

    new : List (List ℕ × Field)
    new = side_of way transform doc (new_side doc)

update_good : (way : Way) (transform : TransformDef) (doc : DocRow) → IsReady way transform doc → IsDoc doc → has_new doc.event ≡ true → has_old doc.event ≡ true
    → IsGood (made_update way transform doc)
update_good way transform doc ready is has also = record {
  table = ready.target;
  keys = side.keys.named;
  some_key = side.some_key;
  few_keys = side.keys.few;
  columns = names_are new side.made.pairs;
  some_column = names_some new side.some;
  few_columns = names_few new side.made.few;
  sides = and_both (length (values_of new) == length (names_of new)) ((length (key_of old keys) == length keys) && is_old (old_if_given doc old) (names_of new))
      (values_count new new refl)
      (and_both (length (key_of old keys) == length keys) (is_old (old_if_given doc old) (names_of new)) (key_count old keys)
      (old_count doc old new (is.old also) (other.count ∙ sym side.count)));
  new = values_are new side.made.pairs;
  key = key_are old keys other.made.pairs;
  old = if_old doc old (All IsFit) (is.old also) (values_are old other.made.pairs);
  short = both_short (total (values_of new)) (total (key_of old keys)) (values_short new side.made.short) (key_total old keys (other.key_short new));
  short_old = if_old doc old AreShort (is.old also) (old_short (total (values_of old)) (values_short old other.made.short));
}
  where
    side : IsMadeSide way transform doc (new_side doc)
    side = is_made_side way transform doc (new_side doc) ready is (given_is doc.columns doc.new (is.new has))

    other : IsMadeSide way transform doc (old_side doc)
    other = is_made_side way transform doc (old_side doc) ready is (old_is_side doc (is.old also))

    new : List (List ℕ × Field)
    new = side_of way transform doc (new_side doc)

    old : List (List ℕ × Field)
    old = side_of way transform doc (old_side doc)

    keys : List (List ℕ)
    keys = keys_of transform doc new

delete_good : (way : Way) (transform : TransformDef) (doc : DocRow) → IsReady way transform doc → IsDoc doc → has_old doc.event ≡ true → IsGood (made_delete way transform doc)
delete_good way transform doc ready is also = record {
  table = ready.target;
  keys = side.keys.named;
  some_key = side.some_key;
  few_keys = side.keys.few;
  columns = names_are old side.made.pairs;
  some_column = names_some old side.some;
  few_columns = names_few old side.made.few;
  sides = and_both (length (key_of old keys) == length keys) (is_old (old_if_given doc old) (names_of old)) (key_count old keys) (old_count doc old old (is.old also) refl);
  new = All-nil IsFit;
  key = key_are old keys side.made.pairs;
  old = if_old doc old (All IsFit) (is.old also) (values_are old side.made.pairs);
  short = both_short 0 (total (key_of old keys)) (omega arith) (key_total old keys (side.key_short old));
  short_old = if_old doc old AreShort (is.old also) (old_short (total (values_of old)) (values_short old side.made.short));
}
  where
    side : IsMadeSide way transform doc (old_side doc)
    side = is_made_side way transform doc (old_side doc) ready is (old_is_side doc (is.old also))

    old : List (List ℕ × Field)
    old = side_of way transform doc (old_side doc)

    keys : List (List ℕ)
    keys = keys_of transform doc old

mark_good : (way : Way) (transform : TransformDef) (doc : DocRow) → IsReady way transform doc → IsDoc doc → has_old doc.event ≡ true → IsGood (made_mark way transform doc)
mark_good way transform doc ready is also = record {
  table = ready.target;
  keys = side.keys.named;
  some_key = side.some_key;
  few_keys = side.keys.few;
  columns = names_are fields mark.pairs;
  some_column = names_some fields mark.some;
  few_columns = names_few fields mark.few;
  sides = and_both (length (values_of fields) == length (names_of fields)) ((length (key_of old keys) == length keys) && is_old (old_if_given doc fields) (names_of fields))
      (values_count fields fields refl)
      (and_both (length (key_of old keys) == length keys) (is_old (old_if_given doc fields) (names_of fields)) (key_count old keys) (old_count doc fields fields (is.old also) refl));
  new = values_are fields mark.pairs;
  key = key_are old keys side.made.pairs;
  old = if_old doc fields (All IsFit) (is.old also) (values_are fields mark.pairs);
  short = both_short (total (values_of fields)) (total (key_of old keys)) short (key_total old keys (side.key_short old));
  short_old = if_old doc fields AreShort (is.old also) (old_short (total (values_of fields)) short);
}
  where
    side : IsMadeSide way transform doc (old_side doc)
    side = is_made_side way transform doc (old_side doc) ready is (old_is_side doc (is.old also))

    old : List (List ℕ × Field)
    old = side_of way transform doc (old_side doc)

    keys : List (List ℕ)
    keys = keys_of transform doc old

    fields : List (List ℕ × Field)
    fields = marked_fields way transform doc

    mark : IsMarked fields
    mark = marked_is way transform.column_policy (active_columns transform doc) doc (old_side doc) ready.columns (old_is_side doc (is.old also)) side.made ready.key
        is.keys is.keys_apart is.few_keys

    short : total (values_of fields) ≤ 535018
    short = subst (λ (n : ℕ). n ≤ 535018) (sym (values_total fields)) mark.short

-- whatever the event and the delete action
pub made_good : (way : Way) (transform : TransformDef) (doc : DocRow) → IsReady way transform doc → IsDoc doc → All IsGood (made_rows way transform doc doc.event)
made_good way transform doc ready is = on doc.event refl
  where
    deleted : (action : DeleteAction) → has_old doc.event ≡ true → All IsGood (made_of_delete way transform doc action)
    deleted DelRow has = All-cons IsGood (made_delete way transform doc) [] (delete_good way transform doc ready is has) (All-nil IsGood)
    deleted Nothing has = All-nil IsGood
    deleted UpdateCol has = All-cons IsGood (made_mark way transform doc) [] (mark_good way transform doc ready is has) (All-nil IsGood)

    on : (event : Event) → doc.event ≡ event → All IsGood (made_rows way transform doc event)
    on Insert same = All-cons IsGood (made_insert way transform doc) [] (insert_good way transform doc ready is (ap has_new same)) (All-nil IsGood)
    on Update same = All-cons IsGood (made_update way transform doc) [] (update_good way transform doc ready is (ap has_new same) (ap has_old same)) (All-nil IsGood)
    on Delete same = deleted transform.delete_action (ap has_old same)
