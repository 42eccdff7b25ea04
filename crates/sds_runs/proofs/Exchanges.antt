-- The edits of a step, by the edit that puts its new row.
use Rattle.std.proofs.Common.{◌≡◌, ℕ, Bool, true, false, cond, List, [], ◌∷◌, Option, None, Some, IsTrue, refl, sym, ap, ◌∙◌, true≢false}
use Rattle.std.specs.Prelude.{◌↔◌, option_map}
use Rattle.std.specs.Option.{option_map_or}
use Rattle.std.specs.Str.{bytes_eq}
use Rattle.std.proofs.lemmas.Slice.Eq.{bytes_eq-Decides}
use Rattle.sds_outside.specs.declared.keeping.Edit.{Edit}
use Rattle.sds_history.specs.history.Records.{Record}
use Rattle.sds_records.specs.Parts.{drop_edit, put_edit}
use Rattle.sds_imagelaws.specs.Edits.{drop_unless, exchange_edits, put_if}

-- a test that is exact is that of bytes
pub exact_test : (b : Bool) (x y : List ℕ) → IsTrue b ↔ (x ≡ y) → b ≡ bytes_eq x y
exact_test true x y is = sym ((bytes_eq-Decides x y).1 (is.0 refl))
exact_test false x y is = on (bytes_eq x y) refl
  where
    on : (b : Bool) → bytes_eq x y ≡ b → false ≡ b
    on true same = is.1 ((bytes_eq-Decides x y).0 same)
    on false same = refl

-- the edit of the new row, where there is one, by its record
module _ {R : Type 0} (record_of : R → Record) where
  abbrev put_of : Option R → Option Edit
  put_of new = option_map (λ row. put_edit (record_of row)) new

  -- no old row, or one whose record isn't dropped
  pub only_put : (new : Option R) (put : Edit) → Some put ≡ put_of new → put_if (option_map record_of new) ≡ put ∷ []
  only_put None put is = absurd (cc)
  only_put (Some row) put is = ap (λ (e : Edit). e ∷ []) (sym (cc))

  pub nothing_put : (new : Option R) → None ≡ put_of new → put_if (option_map record_of new) ≡ []
  nothing_put None is = refl
  nothing_put (Some row) is = absurd (cc)

  -- an old row's record
  pub old_drops : (old : R) (new : Option R) (put : Option Edit) → put ≡ put_of new
      → option_map_or (λ (p : Edit). bytes_eq p.key (record_of old).key) put false ≡ false
      → drop_unless (option_map record_of new) (record_of old) ≡ drop_edit (record_of old) ∷ []
  old_drops old None put is apart = refl
  old_drops old (Some row) put is apart =
      ap (λ b. cond b [] (drop_edit (record_of old) ∷ [])) (sym (ap (λ p. option_map_or (λ (e : Edit). bytes_eq e.key (record_of old).key) p false) is) ∙ apart)

  pub old_stays : (old : R) (new : Option R) (put : Option Edit) → put ≡ put_of new
      → option_map_or (λ (p : Edit). bytes_eq p.key (record_of old).key) put false ≡ true
      → drop_unless (option_map record_of new) (record_of old) ≡ []
  old_stays old None put is same =
      absurd (true≢false (sym same ∙ ap (λ p. option_map_or (λ (e : Edit). bytes_eq e.key (record_of old).key) p false) is))
  old_stays old (Some row) put is same =
      ap (λ b. cond b [] (drop_edit (record_of old) ∷ [])) (sym (ap (λ p. option_map_or (λ (e : Edit). bytes_eq e.key (record_of old).key) p false) is) ∙ same)
