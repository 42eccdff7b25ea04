-- What it says of told parts that none of them disagrees with those before it.
use Rattle.std.proofs.Common.{◌≡◌, Bool, true, false, cond, List, [], ◌∷◌, ◌++◌, None, Some, refl, sym, ap, subst, ◌∙◌, append-nil, All, AllPairs, get_or}
use Rattle.std.specs.List.{cons_option, filter_map}
use Rattle.std.proofs.lemmas.List.{append_assoc}
use Rattle.std.proofs.lemmas.List.Elements.{All-append, All-cons, All-nil, filter_map-append}
use Rattle.std.proofs.lemmas.List.Kept.{AllPairs-cons}
use Rattle.sds_types.specs.declared.config.Config.{Config}
use Rattle.sds_trade.proofs.Lists.{pairs_append}
use Rattle.sds_history.specs.history.Acts.{State}
use Rattle.sds_nodelaws.proofs.KeyedLists.{pairs_nil}
use Rattle.sds_records.specs.declared.told.Told.{Told}
use Rattle.sds_image.specs.Reading.{disagreement_after, disagrees}
use Rattle.sds_imagelaws.proofs.PartKinds.{Kind, Seen}
use Rattle.sds_imagelaws.proofs.PartKinds.Seen.{own, other}
use Rattle.sds_imagelaws.proofs.Tests.{no_value}

-- ONE MORE of a kind of items
pub one_more_all : {A : Type 0} (P : A → Type 0) (xs : List A) (x : A) → All P xs → P x → All P (xs ++ x ∷ [])
one_more_all P xs x are is = All-append P xs (x ∷ []) are (All-cons P x [] is (All-nil P))

pub one_more_pair : {A : Type 0} (R : A → A → Type 0) (xs : List A) (x : A) → AllPairs R xs → All (λ y. R y x) xs → AllPairs R (xs ++ x ∷ [])
one_more_pair R xs x up last =
    pairs_append R xs (x ∷ []) up (AllPairs-cons R x [] (All-nil (R x)) (pairs_nil R))
    (λ k d within. All-cons (R (get_or xs k d)) x [] (last k d within) (All-nil (R (get_or xs k d))))

module _ (config : Config) (state : State) where
  abbrev pub Agrees : List Told → Told → Type 0
  Agrees before told = disagrees config state before told ≡ false

  record Next (before : List Told) (told : Told) (later : List Told) : Type 0 where
    agrees : Agrees before told
    rest : disagreement_after config state (before ++ told ∷ []) later ≡ None

  next : (before : List Told) (told : Told) (later : List Told) → disagreement_after config state before (told ∷ later) ≡ None → Next before told later
  next before told later none = on (disagrees config state before told) refl none
    where
      on : (b : Bool) → disagrees config state before told ≡ b → cond b (Some told) (disagreement_after config state (before ++ told ∷ []) later) ≡ None
          → Next before told later
      on true is none = no_value told (sym none)
      on false is none = record { agrees = is; rest = none }

  -- OF A KIND: what holds of those before, and of one more where it agrees, holds of all
  module _ (A : Type 0) (kind : Kind config A) (Holds : List A → Type 0)
      (more : (before : List Told) (x : A) → Agrees before (kind.part x) → Holds (filter_map kind.of_part before)
      → Holds (filter_map kind.of_part before ++ x ∷ [])) where
    abbrev parts_of : List Told → List A
    parts_of parts = filter_map kind.of_part parts

    one_more : (before : List Told) (told : Told) → Seen config A kind.of_part kind.part kind.place told → Agrees before told
        → Holds (parts_of before) → Holds (parts_of (before ++ told ∷ []))
    one_more before told (own x is) agrees holds =
        subst Holds
        (sym (filter_map-append kind.of_part before (told ∷ [])
        ∙ ap (λ l. parts_of before ++ l) (ap (λ t. cons_option (kind.of_part t) []) is ∙ ap (λ o. cons_option o []) (kind.found x))))
        (more before x (subst (Agrees before) is agrees) holds)
    one_more before told (other none apart) agrees holds =
        subst Holds
        (sym (filter_map-append kind.of_part before (told ∷ [])
        ∙ (ap (λ l. parts_of before ++ l) (ap (λ o. cons_option o []) none) ∙ append-nil (parts_of before)))) holds

    pub agreeing_hold : (before parts : List Told) → Holds (filter_map kind.of_part before) → disagreement_after config state before parts ≡ None
        → Holds (filter_map kind.of_part (before ++ parts))
    agreeing_hold before [] holds none = subst (λ l. Holds (parts_of l)) (sym (append-nil before)) holds
    agreeing_hold before (told ∷ later) holds none =
        let step = next before told later none in
        subst (λ l. Holds (parts_of l)) (append_assoc before (told ∷ []) later)
        (agreeing_hold (before ++ told ∷ []) later (one_more before told (kind.see told) step.agrees holds) step.rest)
