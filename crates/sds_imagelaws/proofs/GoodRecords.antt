-- Records that tell parts are good: none of them is bad.
use Rattle.std.proofs.Common.{◌≡◌, inl, inr, ℕ, zero, suc, true, not, List, [], ◌∷◌, ◌++◌, map, drop, take, Option, None, Some, refl, sym, ap, subst, ◌∙◌, true≢false, All, AllPairs}
use Rattle.std.specs.Prelude.{IsSomeAnd, slice_get}
use Rattle.std.specs.List.{last_or}
use Rattle.std.specs.Option.{option_map_or}
use Rattle.std.proofs.lemmas.Option.{same_Some}
use Rattle.sds_types.specs.declared.config.Config.{Config}
use Rattle.sds_trade.proofs.Lists.{all_head, all_tail}
use Rattle.sds_history.specs.history.Image.{key_of_record}
use Rattle.sds_history.specs.history.Orders.{is_before}
use Rattle.sds_history.specs.history.Records.{Record}
use Rattle.sds_history.specs.history.SoundParts.{AscendBy}
use Rattle.sds_records.specs.Told.{record_of_told}
use Rattle.sds_records.specs.declared.told.Told.{Told}
use Rattle.sds_image.specs.Reading.{AreTold, IsBad, IsTold, is_after_last}
use Rattle.sds_imagelaws.specs.Reading.{ToldRecordsAreGood}
use Rattle.sds_imagelaws.proofs.Sorted.{Before}
use Rattle.sds_imagelaws.proofs.Tests.{no_value}
use Rattle.sds_imagelaws.proofs.Walks.{with_earlier}

-- THE RECORD at a place among those before it and those after it
split_at : {A : Type 0} (xs : List A) (place : ℕ) (x : A) → slice_get xs place ≡ Some x → take place xs ++ x ∷ drop (suc place) xs ≡ xs
split_at [] place x is = no_value x is
split_at (y ∷ ys) zero x is = ap (λ z. z ∷ ys) (sym (same_Some y x is))
split_at (y ∷ ys) (suc place) x is = ap (λ l. y ∷ l) (split_at ys place x is)

after_all : (kept : Record) (last : Option Record) (before : List Record)
    → option_map_or (λ (earlier : Record). is_before earlier.key kept.key) last true ≡ true
    → All (λ (earlier : Record). Before earlier kept) before
    → option_map_or (λ (earlier : Record). is_before earlier.key kept.key) (last_or last before) true ≡ true
after_all kept last [] is are = is
after_all kept last (earlier ∷ before) is are =
    after_all kept (Some earlier) before (all_head (λ (e : Record). Before e kept) earlier before are)
    (all_tail (λ (e : Record). Before e kept) earlier before are)

after_last : (records : List Record) (place : ℕ) (kept : Record) → AscendBy key_of_record records → slice_get records place ≡ Some kept
    → is_after_last (take place records) kept ≡ true
after_last records place kept up at =
    after_all kept None (take place records) refl
    (with_earlier Before (take place records) kept (drop (suc place) records)
    (subst (AllPairs Before) (sym (split_at records place kept at)) up))

-- a part of mapped ones, by what it is mapped to
record Mapped {A B : Type 0} (P : A → Type 0) (f : A → B) (y : B) : Type 0 where
  item : A
  holds : P item
  is : f item ≡ y

mapped_at : {A B : Type 0} (P : A → Type 0) (f : A → B) (xs : List A) (place : ℕ) (y : B) → All P xs → slice_get (map f xs) place ≡ Some y → Mapped P f y
mapped_at P f [] place y are is = no_value y is
mapped_at P f (x ∷ xs) zero y are is = record { item = x; holds = all_head P x xs are; is = same_Some (f x) y is }
mapped_at P f (x ∷ xs) (suc place) y are is = mapped_at P f xs place y (all_tail P x xs are) is

not_bad : (config : Config) (records : List Record) (parts : List Told) (place : ℕ) (kept : Record) → AreTold config records parts
    → slice_get records place ≡ Some kept → IsBad config (take place records) kept → ⊥
not_bad config records parts place kept told at (inl none) =
    let part = mapped_at (IsTold config) (record_of_told config) parts place kept told.each
    (ap (λ l. slice_get l place) told.records_are ∙ at) in
    none part.item (record { form = part.holds.form; values = part.holds.values; record_is = part.is }) part.holds.held
not_bad config records parts place kept told at (inr isnt) =
    absurd (true≢false (sym isnt ∙ ap not (after_last records place kept told.ascend at)))

pub told_records_are_good : ToldRecordsAreGood
told_records_are_good config records parts place told bad = on (slice_get records place) refl bad.bad
  where
    on : (o : Option Record) → slice_get records place ≡ o → IsSomeAnd o (IsBad config (take place records)) → ⊥
    on None at is = is
    on (Some kept) at is = not_bad config records parts place kept told at is
