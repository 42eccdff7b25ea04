-- From each state of the reading of a `subselect` router's expression that is reached some way to go on has the form.
use Rattle.std.proofs.Common.{◌≡◌, ℕ, ◌⊎◌, inl, inr, Bool, true, false, ◌&&◌, ◌||◌, ◌==◌, if◌then◌else◌, nat_lt, List, [], ◌∷◌, ◌++◌, length, drop, codes, Option, Some, None, Err, refl, sym, ap, subst, ◌∙◌}
use Rattle.std.proofs.lemmas.Bool.{and_parts}
use Rattle.std.proofs.lemmas.Bool.Decides.{Decides-eqb}
use Rattle.std.proofs.lemmas.List.{append_assoc, append-nil}
use Rattle.std.proofs.Math.Utf8.{scalar}
use Rattle.std.specs.Char.{to_ascii_lowercase}
use Rattle.sds_types.specs.declared.subselect.Compared.TheVariants.{Routed, Text}
use Rattle.sds_types.specs.declared.subselect.Subselect.{Subselect}
use Rattle.sds_expressions.specs.declared.subselect_router.SubselectReading.{SubselectReading}
use Rattle.sds_expressions.specs.declared.subselect_router.SubselectSlot.{SubselectSlot}
use Rattle.sds_expressions.specs.declared.subselect_router.SubselectSlot.TheVariants as slot
use Rattle.sds_expressions.proofs.Readings.{IsBadPlace}
use Rattle.sds_value.specs.Names.{is_name_character}
use Rattle.sds_expressions.specs.SubselectRouter as choice
use Rattle.sds_expressions.specs.SubselectForm.{is_spacing}
use Rattle.sds_expressions.proofs.ColumnHope.{front_is, rest_is}
use Rattle.sds_expressions.proofs.Readings as readings

abbrev CanEnd : SubselectReading → Type 0
CanEnd reading = readings.CanEnd choice.step choice.finish reading

done : (reading : SubselectReading) (value : Subselect) → choice.finish reading ≡ Some value → CanEnd reading
done reading value is = readings.done choice.step choice.finish reading value is

one_more : (reading next : SubselectReading) (c : ℕ) → choice.step reading c ≡ Some next → scalar c ≡ true → CanEnd next → CanEnd reading
one_more reading next c is good can = readings.one_more choice.step choice.finish reading next c is good can

-- at a keyword stands a prefix of one, and at a sign stands nothing
abbrev HoldsAt : SubselectSlot → List ℕ → Type 0
HoldsAt slot.Prefix word = choice.begins_keyword slot.Prefix word ≡ true
HoldsAt slot.Dot word = word ≡ []
HoldsAt slot.Which word = choice.begins_keyword slot.Which word ≡ true
HoldsAt slot.In word = choice.begins_keyword slot.In word ≡ true
HoldsAt slot.Open word = word ≡ []
HoldsAt slot.Select word = choice.begins_keyword slot.Select word ≡ true
HoldsAt slot.Column word = Unit {0}
HoldsAt slot.From word = choice.begins_keyword slot.From word ≡ true
HoldsAt slot.Table word = Unit {0}
HoldsAt slot.Where word = choice.begins_keyword slot.Where word ≡ true
HoldsAt slot.Tested word = Unit {0}
HoldsAt slot.Equals word = word ≡ []
HoldsAt slot.Value word = word ≡ []
HoldsAt slot.Routed word = Unit {0}
HoldsAt slot.Quoted word = Unit {0}
HoldsAt slot.Quote word = Unit {0}
HoldsAt slot.Next word = choice.begins_keyword slot.Next word ≡ true
HoldsAt slot.Close word = word ≡ []

abbrev Holds : SubselectReading → Type 0
Holds reading = HoldsAt reading.slot reading.word

kept : (reading next : SubselectReading) → Holds reading → Some reading ≡ Some next → Holds next
kept reading next holds e = let same : reading ≡ next = cc in subst Holds same holds

gone : (next : SubselectReading) → None ≡ Some next → Holds next
gone next e = absurd (cc)

branch : (t : Bool) (x y : Option SubselectReading) (next : SubselectReading) → (t ≡ true → x ≡ Some next → Holds next) → (y ≡ Some next → Holds next) → (if t then x else y) ≡ Some next → Holds next
branch true x y next f g e = f refl e
branch false x y next f g e = g e

no_true : false ≡ true → ⊥
no_true e = cc

-- where no word has begun, in a keyword, and in a name
fresh_holds : (at : SubselectSlot) → HoldsAt at []
fresh_holds slot.Prefix = refl
fresh_holds slot.Dot = refl
fresh_holds slot.Which = refl
fresh_holds slot.In = refl
fresh_holds slot.Open = refl
fresh_holds slot.Select = refl
fresh_holds slot.Column = tt
fresh_holds slot.From = refl
fresh_holds slot.Table = tt
fresh_holds slot.Where = refl
fresh_holds slot.Tested = tt
fresh_holds slot.Equals = refl
fresh_holds slot.Value = refl
fresh_holds slot.Routed = tt
fresh_holds slot.Quoted = tt
fresh_holds slot.Quote = tt
fresh_holds slot.Next = refl
fresh_holds slot.Close = refl

keyword_holds : (at : SubselectSlot) (word : List ℕ) → choice.begins_keyword at word ≡ true → HoldsAt at word
keyword_holds slot.Prefix word e = e
keyword_holds slot.Dot word e = absurd (no_true e)
keyword_holds slot.Which word e = e
keyword_holds slot.In word e = e
keyword_holds slot.Open word e = absurd (no_true e)
keyword_holds slot.Select word e = e
keyword_holds slot.Column word e = tt
keyword_holds slot.From word e = e
keyword_holds slot.Table word e = tt
keyword_holds slot.Where word e = e
keyword_holds slot.Tested word e = tt
keyword_holds slot.Equals word e = absurd (no_true e)
keyword_holds slot.Value word e = absurd (no_true e)
keyword_holds slot.Routed word e = tt
keyword_holds slot.Quoted word e = tt
keyword_holds slot.Quote word e = tt
keyword_holds slot.Next word e = e
keyword_holds slot.Close word e = absurd (no_true e)

name_holds : (at : SubselectSlot) (word : List ℕ) → choice.takes_name at ≡ true → HoldsAt at word
name_holds slot.Prefix word e = absurd (no_true e)
name_holds slot.Dot word e = absurd (no_true e)
name_holds slot.Which word e = absurd (no_true e)
name_holds slot.In word e = absurd (no_true e)
name_holds slot.Open word e = absurd (no_true e)
name_holds slot.Select word e = absurd (no_true e)
name_holds slot.Column word e = tt
name_holds slot.From word e = absurd (no_true e)
name_holds slot.Table word e = tt
name_holds slot.Where word e = absurd (no_true e)
name_holds slot.Tested word e = tt
name_holds slot.Equals word e = absurd (no_true e)
name_holds slot.Value word e = absurd (no_true e)
name_holds slot.Routed word e = tt
name_holds slot.Quoted word e = tt
name_holds slot.Quote word e = tt
name_holds slot.Next word e = absurd (no_true e)
name_holds slot.Close word e = absurd (no_true e)

finished_word : (at : SubselectSlot) (reading : SubselectReading) (word : List ℕ) → (choice.takes_name at ≡ true) ⊎ (choice.is_keyword at word ≡ true) → (choice.finished_at at reading).word ≡ []
finished_word slot.Prefix reading word e = refl
finished_word slot.Dot reading word (inl e) = absurd (no_true e)
finished_word slot.Dot reading word (inr e) = absurd (no_true e)
finished_word slot.Which reading word e = refl
finished_word slot.In reading word e = refl
finished_word slot.Open reading word (inl e) = absurd (no_true e)
finished_word slot.Open reading word (inr e) = absurd (no_true e)
finished_word slot.Select reading word e = refl
finished_word slot.Column reading word e = refl
finished_word slot.From reading word e = refl
finished_word slot.Table reading word e = refl
finished_word slot.Where reading word e = refl
finished_word slot.Tested reading word e = refl
finished_word slot.Equals reading word (inl e) = absurd (no_true e)
finished_word slot.Equals reading word (inr e) = absurd (no_true e)
finished_word slot.Value reading word (inl e) = absurd (no_true e)
finished_word slot.Value reading word (inr e) = absurd (no_true e)
finished_word slot.Routed reading word e = refl
finished_word slot.Quoted reading word (inl e) = absurd (no_true e)
finished_word slot.Quoted reading word (inr e) = absurd (no_true e)
finished_word slot.Quote reading word (inl e) = absurd (no_true e)
finished_word slot.Quote reading word (inr e) = absurd (no_true e)
finished_word slot.Next reading word e = refl
finished_word slot.Close reading word (inl e) = absurd (no_true e)
finished_word slot.Close reading word (inr e) = absurd (no_true e)

empty_holds : (reading : SubselectReading) → reading.word ≡ [] → Holds reading
empty_holds reading empty = subst (HoldsAt reading.slot) (sym empty) (fresh_holds reading.slot)

before_keyword : (reading next : SubselectReading) (c : ℕ) → reading.word ≡ [] → choice.before_keyword reading c ≡ Some next → Holds next
before_keyword reading next c empty e =
    branch (is_spacing c) _ _ next (λ _ f. kept (record reading { spaced = true }) next (empty_holds reading empty) f)
    (λ f. branch (reading.spaced && choice.begins_keyword reading.slot (to_ascii_lowercase c ∷ [])) _ _ next
    (λ test g. kept (record reading { word = to_ascii_lowercase c ∷ [] }) next (keyword_holds reading.slot (to_ascii_lowercase c ∷ []) (and_parts reading.spaced (choice.begins_keyword reading.slot (to_ascii_lowercase c ∷ [])) test).1) g) (gone next) f) e

before_name : (reading next : SubselectReading) (c : ℕ) → reading.word ≡ [] → choice.takes_name reading.slot ≡ true → choice.before_name reading c ≡ Some next → Holds next
before_name reading next c empty takes e =
    branch (is_spacing c) _ _ next (λ _ f. kept (record reading { spaced = true }) next (empty_holds reading empty) f)
    (λ f. branch (reading.spaced && is_name_character c) _ _ next (λ _ g. kept (record reading { word = c ∷ [] }) next (name_holds reading.slot (c ∷ []) takes) g) (gone next) f) e

sign : (mark : ℕ) (to : SubselectSlot) (reading next : SubselectReading) (c : ℕ) → reading.word ≡ [] → choice.sign mark to reading c ≡ Some next → Holds next
sign mark to reading next c empty e =
    branch (is_spacing c) _ _ next (λ _ f. kept reading next (empty_holds reading empty) f)
    (λ f. branch (c == mark) _ _ next (λ _ g. kept (choice.moved reading to true) next (fresh_holds to) g) (gone next) f) e

fresh_kept : (at : SubselectSlot) (reading next : SubselectReading) (c : ℕ) → reading.slot ≡ at → reading.word ≡ [] → choice.fresh_at at reading c ≡ Some next → Holds next
fresh_kept slot.Prefix reading next c is empty e = before_keyword reading next c empty e
fresh_kept slot.Dot reading next c is empty e = sign 46 slot.Which reading next c empty e
fresh_kept slot.Which reading next c is empty e = before_keyword reading next c empty e
fresh_kept slot.In reading next c is empty e = before_keyword reading next c empty e
fresh_kept slot.Open reading next c is empty e = sign 40 slot.Select reading next c empty e
fresh_kept slot.Select reading next c is empty e = before_keyword reading next c empty e
fresh_kept slot.Column reading next c is empty e = before_name reading next c empty (ap choice.takes_name is) e
fresh_kept slot.From reading next c is empty e = before_keyword reading next c empty e
fresh_kept slot.Table reading next c is empty e = before_name reading next c empty (ap choice.takes_name is) e
fresh_kept slot.Where reading next c is empty e = before_keyword reading next c empty e
fresh_kept slot.Tested reading next c is empty e = before_name reading next c empty (ap choice.takes_name is) e
fresh_kept slot.Equals reading next c is empty e = sign 61 slot.Value reading next c empty e
fresh_kept slot.Value reading next c is empty e =
    branch (is_spacing c) _ _ next (λ _ f. kept reading next (empty_holds reading empty) f)
    (λ f. branch (c == 58) _ _ next (λ _ g. kept (choice.moved reading slot.Routed true) next tt g)
    (λ g. branch (c == 39) _ _ next (λ _ h. kept (choice.moved reading slot.Quoted true) next tt h) (gone next) g) f) e
fresh_kept slot.Routed reading next c is empty e = before_name reading next c empty (ap choice.takes_name is) e
fresh_kept slot.Quoted reading next c is empty e = before_keyword reading next c empty e
fresh_kept slot.Quote reading next c is empty e = before_keyword reading next c empty e
fresh_kept slot.Next reading next c is empty e = branch (c == 41) _ _ next (λ _ f. kept (choice.moved reading slot.Close true) next refl f) (λ f. before_keyword reading next c empty f) e
fresh_kept slot.Close reading next c is empty e = branch (is_spacing c) _ _ next (λ _ f. kept reading next (empty_holds reading empty) f) (gone next) e

outside_kept : (word : List ℕ) (reading next : SubselectReading) (c : ℕ) → reading.word ≡ word → choice.outside word reading c ≡ Some next → Holds next
outside_kept [] reading next c is e = fresh_kept reading.slot reading next c refl is e
outside_kept (w ∷ ws) reading next c is e = at (choice.takes_name reading.slot) refl e
  where
    behind : (choice.takes_name reading.slot ≡ true) ⊎ (choice.is_keyword reading.slot reading.word ≡ true) → choice.fresh (choice.finished_at reading.slot reading) c ≡ Some next → Holds next
    behind whole f =
        let finished = choice.finished_at reading.slot reading in
        fresh_kept finished.slot finished next c refl (finished_word reading.slot reading reading.word whole) f

    at : (t : Bool) → choice.takes_name reading.slot ≡ t → (if t then choice.in_name reading c else choice.in_keyword reading c) ≡ Some next → Holds next
    at true takes f =
        branch (is_name_character c) _ _ next
        (λ _ g. branch (nat_lt (length reading.word) 50) _ _ next (λ _ h. kept (record reading { word = reading.word ++ c ∷ [] }) next (name_holds reading.slot (reading.word ++ c ∷ []) takes) h) (gone next) g)
        (λ g. behind (inl takes) g) f
    at false takes f =
        branch (choice.begins_keyword reading.slot (reading.word ++ to_ascii_lowercase c ∷ [])) _ _ next
        (λ test g. kept (record reading { word = reading.word ++ to_ascii_lowercase c ∷ [] }) next (keyword_holds reading.slot (reading.word ++ to_ascii_lowercase c ∷ []) test) g)
        (λ g. branch (choice.is_keyword reading.slot reading.word) _ _ next (λ test h. behind (inr test) h) (gone next) g) f

quoted_holds : (reading : SubselectReading) (word : List ℕ) → reading.slot ≡ slot.Quoted → HoldsAt reading.slot word
quoted_holds reading word is = subst (λ (at : SubselectSlot). HoldsAt at word) (sym is) tt

step_kept : (at : SubselectSlot) (reading next : SubselectReading) (c : ℕ) → reading.slot ≡ at → choice.step_at at reading c ≡ Some next → Holds next
step_kept slot.Quoted reading next c is e =
    branch (c == 39) _ _ next (λ _ f. kept (record reading { slot = slot.Quote }) next tt f) (λ f. kept (record reading { word = reading.word ++ c ∷ [] }) next (quoted_holds reading (reading.word ++ c ∷ []) is) f) e
step_kept slot.Quote reading next c is e =
    branch (c == 39) _ _ next (λ _ f. kept (record reading { word = reading.word ++ c ∷ []; slot = slot.Quoted }) next tt f)
    (λ f. fresh_kept slot.Next (choice.with_condition reading (Text reading.word) true) next c refl refl f) e
step_kept slot.Prefix reading next c is e = outside_kept reading.word reading next c refl e
step_kept slot.Dot reading next c is e = outside_kept reading.word reading next c refl e
step_kept slot.Which reading next c is e = outside_kept reading.word reading next c refl e
step_kept slot.In reading next c is e = outside_kept reading.word reading next c refl e
step_kept slot.Open reading next c is e = outside_kept reading.word reading next c refl e
step_kept slot.Select reading next c is e = outside_kept reading.word reading next c refl e
step_kept slot.Column reading next c is e = outside_kept reading.word reading next c refl e
step_kept slot.From reading next c is e = outside_kept reading.word reading next c refl e
step_kept slot.Table reading next c is e = outside_kept reading.word reading next c refl e
step_kept slot.Where reading next c is e = outside_kept reading.word reading next c refl e
step_kept slot.Tested reading next c is e = outside_kept reading.word reading next c refl e
step_kept slot.Equals reading next c is e = outside_kept reading.word reading next c refl e
step_kept slot.Value reading next c is e = outside_kept reading.word reading next c refl e
step_kept slot.Routed reading next c is e = outside_kept reading.word reading next c refl e
step_kept slot.Next reading next c is e = outside_kept reading.word reading next c refl e
step_kept slot.Close reading next c is e = outside_kept reading.word reading next c refl e

keeps : (reading next : SubselectReading) (c : ℕ) → Holds reading → choice.step reading c ≡ Some next → Holds next
keeps reading next c holds e = step_kept reading.slot reading next c refl e

-- from the end to the value of a condition
can_close : (reading : SubselectReading) → reading.slot ≡ slot.Close → CanEnd reading
can_close reading is = done reading (record { by = reading.by; column = reading.column; table = reading.table; conditions = reading.conditions }) (ap (λ (at : SubselectSlot). choice.choice_at at reading) is)

can_next : (reading : SubselectReading) → reading.slot ≡ slot.Next → reading.word ≡ [] → CanEnd reading
can_next reading is empty = let next = choice.moved reading slot.Close true in one_more reading next 41 (rw (is, empty) refl) refl (can_close next refl)

can_quote : (reading : SubselectReading) → reading.slot ≡ slot.Quote → CanEnd reading
can_quote reading is = let next = choice.moved (choice.with_condition reading (Text reading.word) true) slot.Close true in one_more reading next 41 (rw is refl) refl (can_close next refl)

can_quoted : (reading : SubselectReading) → reading.slot ≡ slot.Quoted → CanEnd reading
can_quoted reading is = let next = record reading { slot = slot.Quote } in one_more reading next 39 (rw is refl) refl (can_quote next refl)

can_value : (reading : SubselectReading) → reading.slot ≡ slot.Value → reading.word ≡ [] → CanEnd reading
can_value reading is empty = let next = choice.moved reading slot.Quoted true in one_more reading next 39 (rw (is, empty) refl) refl (can_quoted next refl)

can_equals : (reading : SubselectReading) → reading.slot ≡ slot.Equals → reading.word ≡ [] → CanEnd reading
can_equals reading is empty = let next = choice.moved reading slot.Value true in one_more reading next 61 (rw (is, empty) refl) refl (can_value next refl refl)

-- a name that has begun, and one that has not
abbrev Named : SubselectSlot → Type 0
Named at = (reading : SubselectReading) (w : ℕ) (ws : List ℕ) → reading.slot ≡ at → reading.word ≡ w ∷ ws → CanEnd reading

can_name : (at : SubselectSlot) → ((reading : SubselectReading) (c : ℕ) → reading.slot ≡ at → reading.word ≡ [] → choice.step reading c ≡ choice.before_name reading c) → Named at
    → (word : List ℕ) (reading : SubselectReading) → reading.word ≡ word → reading.slot ≡ at → CanEnd reading
can_name at fresh named (w ∷ ws) reading e is = named reading w ws is e
can_name at fresh named [] reading e is = spaced reading.spaced refl
  where
    begins : (from : SubselectReading) → from.spaced ≡ true → from.slot ≡ at → from.word ≡ [] → CanEnd from
    begins from good at_name empty = let next = record from { word = 97 ∷ [] } in one_more from next 97 (fresh from 97 at_name empty ∙ rw good refl) refl (named next 97 [] at_name refl)

    spaced : (t : Bool) → reading.spaced ≡ t → CanEnd reading
    spaced true good = begins reading good is e
    spaced false good = let next = record reading { spaced = true } in one_more reading next 32 (fresh reading 32 is e) refl (begins next refl is e)

named_routed : Named slot.Routed
named_routed reading w ws is word = let next = choice.moved (choice.with_condition reading (Routed reading.word) false) slot.Close true in one_more reading next 41 (rw (is, word) refl) refl (can_close next refl)

can_routed : (reading : SubselectReading) → reading.slot ≡ slot.Routed → CanEnd reading
can_routed reading is = can_name slot.Routed (λ from c at_name empty. rw (at_name, empty) refl) named_routed reading.word reading refl is

named_tested : Named slot.Tested
named_tested reading w ws is word = let next = choice.moved (record reading { tested = reading.word }) slot.Value true in one_more reading next 61 (rw (is, word) refl) refl (can_value next refl refl)

can_tested : (reading : SubselectReading) → reading.slot ≡ slot.Tested → CanEnd reading
can_tested reading is = can_name slot.Tested (λ from c at_name empty. rw (at_name, empty) refl) named_tested reading.word reading refl is

-- the keywords of a slot
abbrev good : List ℕ → Bool
good [] = true
good (c ∷ cs) = scalar c && (to_ascii_lowercase c == c && good cs)

good_parts : (c : ℕ) (cs : List ℕ) → good (c ∷ cs) ≡ true → (scalar c ≡ true) × (to_ascii_lowercase c ≡ c)
good_parts c cs e =
    let parts = and_parts (scalar c) (to_ascii_lowercase c == c && good cs) e in
    (parts.0, (Decides-eqb (to_ascii_lowercase c) c).0 (and_parts (to_ascii_lowercase c == c) (good cs) parts.1).0)

good_rest : (cs ds : List ℕ) → good (cs ++ ds) ≡ true → good ds ≡ true
good_rest [] ds e = e
good_rest (c ∷ cs) ds e =
    let parts = and_parts (scalar c) (to_ascii_lowercase c == c && good (cs ++ ds)) e in
    good_rest cs ds (and_parts (to_ascii_lowercase c == c) (good (cs ++ ds)) parts.1).1

record Keyword (at : SubselectSlot) (word : List ℕ) : Type 0 where
  outside : (reading : SubselectReading) (c : ℕ) → reading.slot ≡ at → choice.step reading c ≡ choice.outside reading.word reading c
  no_name : choice.takes_name at ≡ false
  fronts : (text rest : List ℕ) → word ≡ text ++ rest → choice.begins_keyword at text ≡ true
  letters : good word ≡ true

abbrev Whole : SubselectSlot → List ℕ → Type 0
Whole at word = (reading : SubselectReading) → reading.slot ≡ at → reading.word ≡ word → CanEnd reading

can_rest : (at : SubselectSlot) (word : List ℕ) → Keyword at word → Whole at word
    → (rest : List ℕ) (reading : SubselectReading) (w : ℕ) (ws : List ℕ) → reading.slot ≡ at → reading.word ≡ w ∷ ws → word ≡ reading.word ++ rest → CanEnd reading
can_rest at word keyword whole [] reading w ws is begun e = whole reading is (sym (e ∙ append-nil reading.word))
can_rest at word keyword whole (c ∷ rest) reading w ws is begun e =
    let longer : word ≡ (reading.word ++ c ∷ []) ++ rest = e ∙ sym (append_assoc reading.word (c ∷ []) rest) in
    let letter = good_parts c rest (good_rest reading.word (c ∷ rest) (ap good (sym e) ∙ keyword.letters)) in
    let no_name : choice.takes_name reading.slot ≡ false = ap choice.takes_name is ∙ keyword.no_name in
    let front : choice.begins_keyword reading.slot (reading.word ++ c ∷ []) ≡ true = ap (λ (s : SubselectSlot). choice.begins_keyword s (reading.word ++ c ∷ [])) is ∙ keyword.fronts (reading.word ++ c ∷ []) rest longer in
    let inside : choice.in_keyword reading c ≡ Some (record reading { word = reading.word ++ c ∷ [] }) = rw (letter.1, front) refl in
    let outside : choice.outside (w ∷ ws) reading c ≡ choice.in_keyword reading c = rw no_name refl in
    let next = record reading { word = reading.word ++ c ∷ [] } in
    let begun_next : next.word ≡ w ∷ (ws ++ c ∷ []) = ap (λ (x : List ℕ). x ++ c ∷ []) begun in
    one_more reading next c (keyword.outside reading c is ∙ (ap (λ (x : List ℕ). choice.outside x reading c) begun ∙ (outside ∙ inside))) letter.0
    (can_rest at word keyword whole rest next w (ws ++ c ∷ []) is begun_next longer)

can_begin : (at : SubselectSlot) (c : ℕ) (rest : List ℕ) → Keyword at (c ∷ rest) → Whole at (c ∷ rest) → is_spacing c ≡ false
    → ((reading : SubselectReading) (x : ℕ) → reading.slot ≡ at → reading.word ≡ [] → choice.step reading x ≡ choice.before_keyword reading x)
    → (reading : SubselectReading) → reading.slot ≡ at → reading.word ≡ [] → CanEnd reading
can_begin at c rest keyword whole letter fresh reading is empty = spaced reading.spaced refl
  where
    begins : (from : SubselectReading) → from.spaced ≡ true → from.slot ≡ at → from.word ≡ [] → CanEnd from
    begins from good_place at_word nothing =
        let parts = good_parts c rest keyword.letters in
        let front : choice.begins_keyword from.slot (c ∷ []) ≡ true = ap (λ (s : SubselectSlot). choice.begins_keyword s (c ∷ [])) at_word ∙ keyword.fronts (c ∷ []) rest refl in
        let next = record from { word = c ∷ [] } in
        one_more from next c (fresh from c at_word nothing ∙ rw (letter, parts.1, good_place, front) refl) parts.0 (can_rest at (c ∷ rest) keyword whole rest next c [] at_word refl refl)

    spaced : (t : Bool) → reading.spaced ≡ t → CanEnd reading
    spaced true good_place = begins reading good_place is empty
    spaced false good_place = let next = record reading { spaced = true } in one_more reading next 32 (fresh reading 32 is empty) refl (begins next refl is empty)

keyword_next : Keyword slot.Next (codes "and")
keyword_next = record { outside = λ reading c is. rw is refl; no_name = refl; fronts = λ text rest e. front_is (codes "and") text rest e; letters = refl }

whole_next : Whole slot.Next (codes "and")
whole_next reading is word = let next = choice.moved reading slot.Tested true in one_more reading next 32 (rw (is, word) refl) refl (can_tested next refl)

can_next_word : (reading : SubselectReading) → reading.slot ≡ slot.Next → choice.begins_keyword slot.Next reading.word ≡ true → CanEnd reading
can_next_word reading is front = at reading.word refl
  where
    at : (word : List ℕ) → reading.word ≡ word → CanEnd reading
    at [] e = can_next reading is e
    at (w ∷ ws) e = can_rest slot.Next (codes "and") keyword_next whole_next (drop (length reading.word) (codes "and")) reading w ws is e (rest_is (codes "and") reading.word front)

keyword_where : Keyword slot.Where (codes "where")
keyword_where = record { outside = λ reading c is. rw is refl; no_name = refl; fronts = λ text rest e. front_is (codes "where") text rest e; letters = refl }

whole_where : Whole slot.Where (codes "where")
whole_where reading is word = let next = choice.moved reading slot.Tested true in one_more reading next 32 (rw (is, word) refl) refl (can_tested next refl)

can_where_word : (reading : SubselectReading) → reading.slot ≡ slot.Where → choice.begins_keyword slot.Where reading.word ≡ true → CanEnd reading
can_where_word reading is front = at reading.word refl
  where
    at : (word : List ℕ) → reading.word ≡ word → CanEnd reading
    at [] e = can_begin slot.Where 119 (drop 1 (codes "where")) keyword_where whole_where refl (λ from x at_word nothing. rw (at_word, nothing) refl) reading is e
    at (w ∷ ws) e = can_rest slot.Where (codes "where") keyword_where whole_where (drop (length reading.word) (codes "where")) reading w ws is e (rest_is (codes "where") reading.word front)

named_table : Named slot.Table
named_table reading w ws is word = let next = choice.moved (record reading { table = reading.word }) slot.Where true in one_more reading next 32 (rw (is, word) refl) refl (can_where_word next refl refl)

can_table : (reading : SubselectReading) → reading.slot ≡ slot.Table → CanEnd reading
can_table reading is = can_name slot.Table (λ from c at_name empty. rw (at_name, empty) refl) named_table reading.word reading refl is

keyword_from : Keyword slot.From (codes "from")
keyword_from = record { outside = λ reading c is. rw is refl; no_name = refl; fronts = λ text rest e. front_is (codes "from") text rest e; letters = refl }

whole_from : Whole slot.From (codes "from")
whole_from reading is word = let next = choice.moved reading slot.Table true in one_more reading next 32 (rw (is, word) refl) refl (can_table next refl)

can_from_word : (reading : SubselectReading) → reading.slot ≡ slot.From → choice.begins_keyword slot.From reading.word ≡ true → CanEnd reading
can_from_word reading is front = at reading.word refl
  where
    at : (word : List ℕ) → reading.word ≡ word → CanEnd reading
    at [] e = can_begin slot.From 102 (drop 1 (codes "from")) keyword_from whole_from refl (λ from x at_word nothing. rw (at_word, nothing) refl) reading is e
    at (w ∷ ws) e = can_rest slot.From (codes "from") keyword_from whole_from (drop (length reading.word) (codes "from")) reading w ws is e (rest_is (codes "from") reading.word front)

named_column : Named slot.Column
named_column reading w ws is word = let next = choice.moved (record reading { column = reading.word }) slot.From true in one_more reading next 32 (rw (is, word) refl) refl (can_from_word next refl refl)

can_column : (reading : SubselectReading) → reading.slot ≡ slot.Column → CanEnd reading
can_column reading is = can_name slot.Column (λ from c at_name empty. rw (at_name, empty) refl) named_column reading.word reading refl is

keyword_select : Keyword slot.Select (codes "select")
keyword_select = record { outside = λ reading c is. rw is refl; no_name = refl; fronts = λ text rest e. front_is (codes "select") text rest e; letters = refl }

whole_select : Whole slot.Select (codes "select")
whole_select reading is word = let next = choice.moved reading slot.Column true in one_more reading next 32 (rw (is, word) refl) refl (can_column next refl)

can_select_word : (reading : SubselectReading) → reading.slot ≡ slot.Select → choice.begins_keyword slot.Select reading.word ≡ true → CanEnd reading
can_select_word reading is front = at reading.word refl
  where
    at : (word : List ℕ) → reading.word ≡ word → CanEnd reading
    at [] e = can_begin slot.Select 115 (drop 1 (codes "select")) keyword_select whole_select refl (λ from x at_word nothing. rw (at_word, nothing) refl) reading is e
    at (w ∷ ws) e = can_rest slot.Select (codes "select") keyword_select whole_select (drop (length reading.word) (codes "select")) reading w ws is e (rest_is (codes "select") reading.word front)

can_open : (reading : SubselectReading) → reading.slot ≡ slot.Open → reading.word ≡ [] → CanEnd reading
can_open reading is empty = let next = choice.moved reading slot.Select true in one_more reading next 40 (rw (is, empty) refl) refl (can_select_word next refl refl)

keyword_in : Keyword slot.In (codes "in")
keyword_in = record { outside = λ reading c is. rw is refl; no_name = refl; fronts = λ text rest e. front_is (codes "in") text rest e; letters = refl }

whole_in : Whole slot.In (codes "in")
whole_in reading is word = let next = choice.moved reading slot.Select true in one_more reading next 40 (rw (is, word) refl) refl (can_select_word next refl refl)

can_in_word : (reading : SubselectReading) → reading.slot ≡ slot.In → choice.begins_keyword slot.In reading.word ≡ true → CanEnd reading
can_in_word reading is front = at reading.word refl
  where
    at : (word : List ℕ) → reading.word ≡ word → CanEnd reading
    at [] e = can_begin slot.In 105 (drop 1 (codes "in")) keyword_in whole_in refl (λ from x at_word nothing. rw (at_word, nothing) refl) reading is e
    at (w ∷ ws) e = can_rest slot.In (codes "in") keyword_in whole_in (drop (length reading.word) (codes "in")) reading w ws is e (rest_is (codes "in") reading.word front)

or_true : (a b : Bool) → b ≡ true → (a || b) ≡ true
or_true true b e = refl
or_true false b e = e

either : (a b : Bool) → (a || b) ≡ true → (a ≡ true) ⊎ (b ≡ true)
either true b e = inl refl
either false b e = inr e

keyword_external : Keyword slot.Which (codes "external_id")
keyword_external = record { outside = λ reading c is. rw is refl; no_name = refl; fronts = λ text rest e. rw (front_is (codes "external_id") text rest e) refl; letters = refl }

keyword_node : Keyword slot.Which (codes "node_id")
keyword_node = record { outside = λ reading c is. rw is refl; no_name = refl; fronts = λ text rest e. or_true (choice.is_prefix (codes "external_id") text) (choice.is_prefix (codes "node_id") text) (front_is (codes "node_id") text rest e); letters = refl }

whole_external : Whole slot.Which (codes "external_id")
whole_external reading is word = let next = choice.moved (record reading { by = choice.node_column reading.word }) slot.In true in one_more reading next 32 (rw (is, word) refl) refl (can_in_word next refl refl)

whole_node : Whole slot.Which (codes "node_id")
whole_node reading is word = let next = choice.moved (record reading { by = choice.node_column reading.word }) slot.In true in one_more reading next 32 (rw (is, word) refl) refl (can_in_word next refl refl)

can_which_word : (reading : SubselectReading) → reading.slot ≡ slot.Which → choice.begins_keyword slot.Which reading.word ≡ true → CanEnd reading
can_which_word reading is front = at reading.word refl (either (choice.is_prefix (codes "external_id") reading.word) (choice.is_prefix (codes "node_id") reading.word) front)
  where
    at : (word : List ℕ) → reading.word ≡ word → (choice.is_prefix (codes "external_id") reading.word ≡ true) ⊎ (choice.is_prefix (codes "node_id") reading.word ≡ true) → CanEnd reading
    at [] e fronts = can_begin slot.Which 101 (drop 1 (codes "external_id")) keyword_external whole_external refl (λ from x at_word nothing. rw (at_word, nothing) refl) reading is e
    at (w ∷ ws) e (inl f) = can_rest slot.Which (codes "external_id") keyword_external whole_external (drop (length reading.word) (codes "external_id")) reading w ws is e (rest_is (codes "external_id") reading.word f)
    at (w ∷ ws) e (inr f) = can_rest slot.Which (codes "node_id") keyword_node whole_node (drop (length reading.word) (codes "node_id")) reading w ws is e (rest_is (codes "node_id") reading.word f)

can_dot : (reading : SubselectReading) → reading.slot ≡ slot.Dot → reading.word ≡ [] → CanEnd reading
can_dot reading is empty = let next = choice.moved reading slot.Which true in one_more reading next 46 (rw (is, empty) refl) refl (can_which_word next refl refl)

keyword_prefix : Keyword slot.Prefix (codes "c")
keyword_prefix = record { outside = λ reading c is. rw is refl; no_name = refl; fronts = λ text rest e. front_is (codes "c") text rest e; letters = refl }

whole_prefix : Whole slot.Prefix (codes "c")
whole_prefix reading is word = let next = choice.moved reading slot.Which true in one_more reading next 46 (rw (is, word) refl) refl (can_which_word next refl refl)

can_prefix_word : (reading : SubselectReading) → reading.slot ≡ slot.Prefix → choice.begins_keyword slot.Prefix reading.word ≡ true → CanEnd reading
can_prefix_word reading is front = at reading.word refl
  where
    at : (word : List ℕ) → reading.word ≡ word → CanEnd reading
    at [] e = can_begin slot.Prefix 99 (drop 1 (codes "c")) keyword_prefix whole_prefix refl (λ from x at_word nothing. rw (at_word, nothing) refl) reading is e
    at (w ∷ ws) e = can_rest slot.Prefix (codes "c") keyword_prefix whole_prefix (drop (length reading.word) (codes "c")) reading w ws is e (rest_is (codes "c") reading.word front)

can_at : (at : SubselectSlot) (reading : SubselectReading) → reading.slot ≡ at → HoldsAt at reading.word → CanEnd reading
can_at slot.Prefix reading is holds = can_prefix_word reading is holds
can_at slot.Dot reading is holds = can_dot reading is holds
can_at slot.Which reading is holds = can_which_word reading is holds
can_at slot.In reading is holds = can_in_word reading is holds
can_at slot.Open reading is holds = can_open reading is holds
can_at slot.Select reading is holds = can_select_word reading is holds
can_at slot.Column reading is holds = can_column reading is
can_at slot.From reading is holds = can_from_word reading is holds
can_at slot.Table reading is holds = can_table reading is
can_at slot.Where reading is holds = can_where_word reading is holds
can_at slot.Tested reading is holds = can_tested reading is
can_at slot.Equals reading is holds = can_equals reading is holds
can_at slot.Value reading is holds = can_value reading is holds
can_at slot.Routed reading is holds = can_routed reading is
can_at slot.Quoted reading is holds = can_quoted reading is
can_at slot.Quote reading is holds = can_quote reading is
can_at slot.Next reading is holds = can_next_word reading is holds
can_at slot.Close reading is holds = can_close reading is

can : (reading : SubselectReading) → Holds reading → CanEnd reading
can reading holds = can_at reading.slot reading refl holds

-- the first bad place
pub subselect_bad : (text : List ℕ) (place : ℕ) → choice.subselect_of text ≡ Err place → IsBadPlace choice.subselect_of text place
subselect_bad text place is = readings.first choice.step choice.finish choice.subselect_of choice.beginning (λ text. refl) Holds keeps can refl text place is
