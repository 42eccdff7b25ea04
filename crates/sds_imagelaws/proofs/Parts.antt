-- The parts of a state are told apart by the first bytes of their records' keys: each goes by the edits of its own.
use Rattle.std.proofs.Common.{◌≡◌, ◌≢◌, ℕ, ◌+◌, ◌<◌, ◌==◌, Bool, true, false, cond, List, [], ◌∷◌, ◌++◌, map, Option, None, Some, refl, sym, ap, ◌∙◌, arith}
use Rattle.std.specs.List.{AllByRecursion}
use Rattle.std.specs.Str.{bytes_eq}
use Rattle.std.proofs.lemmas.Bool.{eqb-true}
use Rattle.std.proofs.lemmas.Bool.Decides.{nat_tests}
use Rattle.sds_outside.specs.declared.keeping.Edit.{Edit}
use Rattle.sds_history.specs.history.Records.{Record}
use Rattle.sds_imagelaws.specs.Edits.{puts_of}
use Rattle.sds_image.specs.Pairs.{pairs}
use Rattle.sds_imagelaws.proofs.Lookups.{body_at, told_append, told_by}
use Rattle.sds_imagelaws.proofs.Tests.{differs, first_alone, first_of, first_on, not_below}

-- PLACES of the parts in the list of all records, by the first byte: me, count, n, o, w, t, d, b, i
abbrev pub byte_place : ℕ → ℕ
byte_place c = cond (c == 109) 0 (cond (c == 99) 1 (cond (c == 110) 2 (cond (c == 111) 3 (cond (c == 119) 4
    (cond (c == 116) 5 (cond (c == 100) 6 (cond (c == 98) 7 (cond (c == 105) 8 9))))))))

abbrev pub place_of : List ℕ → ℕ
place_of [] = 9
place_of (c ∷ cs) = byte_place c

abbrev pub RecordsAt : ℕ → List Record → Type 0
RecordsAt place records = AllByRecursion (λ (kept : Record). place_of kept.key ≡ place) records

abbrev pub EditsAt : ℕ → List Edit → Type 0
EditsAt place edits = AllByRecursion (λ (edit : Edit). place_of edit.key ≡ place) edits

pub mapped_at : {A : Type 0} (kept : A → Record) (place : ℕ) (xs : List A) → ((x : A) → place_of (kept x).key ≡ place) → RecordsAt place (map kept xs)
mapped_at kept place [] at = tt
mapped_at kept place (x ∷ xs) at = (at x, mapped_at kept place xs at)

pub puts_at : (place : ℕ) (records : List Record) → RecordsAt place records → EditsAt place (puts_of records)
puts_at place [] are = tt
puts_at place (kept ∷ records) are = (are.0, puts_at place records are.1)

pub edits_at_append : (place : ℕ) (first second : List Edit) → EditsAt place first → EditsAt place second → EditsAt place (first ++ second)
edits_at_append place [] second are others = others
edits_at_append place (edit ∷ edits) second are others = (are.0, edits_at_append place edits second are.1 others)

-- keys of another place
key_apart : (own key : List ℕ) (place : ℕ) → place_of own ≡ place → place_of key ≢ place → bytes_eq own key ≡ false
key_apart own key place is isnt = differs own key (λ same. isnt (ap place_of (sym same) ∙ is))

pub records_none : (key : List ℕ) (place : ℕ) (records : List Record) → RecordsAt place records → place_of key ≢ place → body_at key (pairs records) ≡ None
records_none key place [] are isnt = refl
records_none key place (kept ∷ records) are isnt =
    ap (λ b. cond b (Some kept.body) (body_at key (pairs records))) (key_apart kept.key key place are.0 isnt)
    ∙ records_none key place records are.1 isnt

pub edits_none : (key : List ℕ) (place : ℕ) (edits : List Edit) (told : Option (List ℕ)) → EditsAt place edits → place_of key ≢ place → told_by key edits told ≡ told
edits_none key place [] told are isnt = refl
edits_none key place (edit ∷ edits) told are isnt =
    ap (λ b. told_by key edits (cond b edit.body told)) (key_apart edit.key key place are.0 isnt)
    ∙ edits_none key place edits told are.1 isnt

-- EDITS GO from records to records: for every key
abbrev pub Goes : List Edit → List Record → List Record → Type 0
Goes edits before after = (key : List ℕ) → told_by key edits (body_at key (pairs before)) ≡ body_at key (pairs after)

-- one part, and the parts from a place on
pub record Part (place : ℕ) (edits : List Edit) (before after : List Record) : Type 0 where
  pub goes : Goes edits before after
  pub own : EditsAt place edits
  pub old : RecordsAt place before
  pub new : RecordsAt place after

pub record PartsFrom (place : ℕ) (edits : List Edit) (before after : List Record) : Type 0 where
  pub goes : Goes edits before after
  pub own : (key : List ℕ) (told : Option (List ℕ)) → place_of key < place → told_by key edits told ≡ told
  pub old : (key : List ℕ) → place_of key < place → body_at key (pairs before) ≡ None
  pub new : (key : List ℕ) → place_of key < place → body_at key (pairs after) ≡ None

pub last_part : {place : ℕ} {edits : List Edit} {before after : List Record} → Part place edits before after → PartsFrom place edits before after
last_part {place} {edits} {before} {after} part = record {
  goes = part.goes;
  own = λ key told less. edits_none key place edits told part.own (not_below (place_of key) place less);
  old = λ key less. records_none key place before part.old (not_below (place_of key) place less);
  new = λ key less. records_none key place after part.new (not_below (place_of key) place less);
}

pub body_append : (key : List ℕ) (first second : List Record)
    → body_at key (pairs (first ++ second)) ≡ first_of (body_at key (pairs first)) (body_at key (pairs second))
body_append key [] second = refl
body_append key (kept ∷ first) second =
    ap (λ told. cond (bytes_eq kept.key key) (Some kept.body) told) (body_append key first second)
    ∙ first_on (bytes_eq kept.key key) kept.body (body_at key (pairs first)) (body_at key (pairs second))

pub other_place : (a b : ℕ) → (a == b) ≡ false → a ≢ b
other_place a b is same = absurd (grind (arith, nat_tests))

module _ (place : ℕ) (edits more : List Edit) (before after others later : List Record) (part : Part place edits before after)
    (rest : PartsFrom (place + 1) more others later) where
  at_place : (key : List ℕ) → place_of key ≡ place → place_of key < place + 1
  at_place key is = omega (arith, is)

  goes_here : (key : List ℕ) → place_of key ≡ place
      → told_by key (edits ++ more) (body_at key (pairs (before ++ others))) ≡ body_at key (pairs (after ++ later))
  goes_here key is =
      ap (told_by key (edits ++ more)) (body_append key before others
      ∙ (ap (first_of (body_at key (pairs before))) (rest.old key (at_place key is)) ∙ first_alone (body_at key (pairs before))))
      ∙ (told_append key edits more (body_at key (pairs before))
      ∙ (rest.own key (told_by key edits (body_at key (pairs before))) (at_place key is)
      ∙ (part.goes key
      ∙ sym (body_append key after later
      ∙ (ap (first_of (body_at key (pairs after))) (rest.new key (at_place key is)) ∙ first_alone (body_at key (pairs after)))))))

  goes_there : (key : List ℕ) → place_of key ≢ place
      → told_by key (edits ++ more) (body_at key (pairs (before ++ others))) ≡ body_at key (pairs (after ++ later))
  goes_there key isnt =
      ap (told_by key (edits ++ more)) (body_append key before others
      ∙ ap (λ told. first_of told (body_at key (pairs others))) (records_none key place before part.old isnt))
      ∙ (told_append key edits more (body_at key (pairs others))
      ∙ (ap (told_by key more) (edits_none key place edits (body_at key (pairs others)) part.own isnt)
      ∙ (rest.goes key
      ∙ sym (body_append key after later
      ∙ ap (λ told. first_of told (body_at key (pairs later))) (records_none key place after part.new isnt)))))

  goes_on : Goes (edits ++ more) (before ++ others) (after ++ later)
  goes_on key = on (place_of key == place) refl
    where
      on : (b : Bool) → (place_of key == place) ≡ b
          → told_by key (edits ++ more) (body_at key (pairs (before ++ others))) ≡ body_at key (pairs (after ++ later))
      on true is = goes_here key (eqb-true (place_of key) place is)
      on false is = goes_there key (other_place (place_of key) place is)

  less_more : (key : List ℕ) → place_of key < place → place_of key < place + 1
  less_more key less = omega (arith, less)

  pub and_parts : PartsFrom place (edits ++ more) (before ++ others) (after ++ later)
  and_parts = record {
    goes = goes_on;
    own = λ key told less. told_append key edits more told
        ∙ (ap (told_by key more) (edits_none key place edits told part.own (not_below (place_of key) place less))
        ∙ rest.own key told (less_more key less));
    old = λ key less. body_append key before others
        ∙ (ap (λ told. first_of told (body_at key (pairs others))) (records_none key place before part.old (not_below (place_of key) place less))
        ∙ rest.old key (less_more key less));
    new = λ key less. body_append key after later
        ∙ (ap (λ told. first_of told (body_at key (pairs later))) (records_none key place after part.new (not_below (place_of key) place less))
        ∙ rest.new key (less_more key less));
  }

-- EDITS OF TWO PARTS may come in either order
pub either_order : (key : List ℕ) (p q : ℕ) (xs ys : List Edit) (told : Option (List ℕ)) → EditsAt p xs → EditsAt q ys → p ≢ q
    → told_by key xs (told_by key ys told) ≡ told_by key ys (told_by key xs told)
either_order key p q xs ys told at_p at_q apart = on (place_of key == p) refl
  where
    on : (b : Bool) → (place_of key == p) ≡ b → told_by key xs (told_by key ys told) ≡ told_by key ys (told_by key xs told)
    on true is =
        let isnt : place_of key ≢ q = λ same. apart (sym (eqb-true (place_of key) p is) ∙ same) in
        ap (told_by key xs) (edits_none key q ys told at_q isnt) ∙ sym (edits_none key q ys (told_by key xs told) at_q isnt)
    on false is =
        let isnt = other_place (place_of key) p is in
        edits_none key p xs (told_by key ys told) at_p isnt ∙ ap (told_by key ys) (sym (edits_none key p xs told at_p isnt))
