-- What has the form of a `subselect` router's expression is accepted.
use Rattle.std.proofs.Common.{◌≡◌, ℕ, ◌+◌, ◌⊎◌, inl, inr, Bool, true, false, ◌||◌, ◌==◌, nat_lt, nat_le, List, [], ◌∷◌, ◌++◌, length, map, codes, Some, option_and_then, refl, sym, ap, subst, ◌∙◌, arith, append_assoc, append-nil, eqb-true, length-append}
use Rattle.std.proofs.lemmas.Bool.{and_parts}
use Rattle.std.proofs.lemmas.Bool.Decides.{nat_tests}
use Rattle.std.specs.Char.{to_ascii_lowercase}
use Rattle.std.specs.List.{list_all}
use Rattle.sds_types.specs.declared.subselect.Compared.{Compared}
use Rattle.sds_types.specs.declared.subselect.Compared.TheVariants.{Routed, Text}
use Rattle.sds_types.specs.declared.subselect.Condition.{Condition}
use Rattle.sds_types.specs.declared.subselect.NodeColumn.{NodeColumn}
use Rattle.sds_types.specs.declared.subselect.NodeColumn.TheVariants.{ExternalId, NodeId}
use Rattle.sds_types.specs.declared.subselect.Subselect.{Subselect}
use Rattle.sds_value.specs.Names.{is_name_text, is_name_character}
use Rattle.sds_expressions.specs.declared.subselect_router.SubselectReading.{SubselectReading}
use Rattle.sds_expressions.specs.declared.subselect_router.SubselectSlot.{SubselectSlot}
use Rattle.sds_expressions.specs.declared.subselect_router.SubselectSlot.TheVariants as slot
use Rattle.sds_expressions.specs.SubselectRouter as choice
use Rattle.sds_expressions.specs.Forms.{◌▸◌, Exactly, Name}
use Rattle.sds_expressions.specs.ColumnForm.{doubled}
use Rattle.sds_expressions.specs.SubselectForm.{is_spacing, Spacing, Gap, Keyword, keyword_of, ComparedOf, ConditionOf, SpacingAfter, ConditionsOf, IsSubselectForm}
use Rattle.sds_expressions.proofs.ColumnHope.{front_is}
use Rattle.sds_expressions.proofs.SubselectSound.{accept, on, before, within, SpacingIf, IsWordSlot, IsSignSlot, closes, at_prefix, at_which, at_in, at_select, at_column, at_from, at_table, at_where, at_tested, at_routed, at_next, at_dot, at_open, at_equals}

-- kinds of characters
or_cases : (a b : Bool) → (a || b) ≡ true → (a ≡ true) ⊎ (b ≡ true)
or_cases true b e = inl refl
or_cases false b e = inr e

spacing_is : (P : ℕ → Type 0) (c : ℕ) → is_spacing c ≡ true → P 32 → P 9 → P 13 → P 10 → P c
spacing_is P c e a b d f = at (or_cases (c == 32) (c == 9 || (c == 13 || c == 10)) e)
  where
    this : (n : ℕ) → (c == n) ≡ true → P n → P c
    this n g p = subst P (sym (eqb-true c n g)) p

    third : (c == 13 ≡ true) ⊎ (c == 10 ≡ true) → P c
    third (inl g) = this 13 g d
    third (inr g) = this 10 g f

    second : (c == 9 ≡ true) ⊎ ((c == 13 || c == 10) ≡ true) → P c
    second (inl g) = this 9 g b
    second (inr g) = third (or_cases (c == 13) (c == 10) g)

    at : (c == 32 ≡ true) ⊎ ((c == 9 || (c == 13 || c == 10)) ≡ true) → P c
    at (inl g) = this 32 g a
    at (inr g) = second (or_cases (c == 9) (c == 13 || c == 10) g)

spacing_no_name : (c : ℕ) → is_spacing c ≡ true → is_name_character c ≡ false
spacing_no_name c e = spacing_is (λ x. is_name_character x ≡ false) c e refl refl refl refl

spacing_no_quote : (c : ℕ) → is_spacing c ≡ true → (c == 39) ≡ false
spacing_no_quote c e = spacing_is (λ x. (x == 39) ≡ false) c e refl refl refl refl

spacing_no_end : (c : ℕ) → is_spacing c ≡ true → (c == 41) ≡ false
spacing_no_end c e = spacing_is (λ x. (x == 41) ≡ false) c e refl refl refl refl

spacing_stays : (c : ℕ) → is_spacing c ≡ true → is_spacing (to_ascii_lowercase c) ≡ true
spacing_stays c e = spacing_is (λ x. is_spacing (to_ascii_lowercase x) ≡ true) c e refl refl refl refl

not_both : (P Q : ℕ → Bool) (c : ℕ) → ((x : ℕ) → P x ≡ true → Q x ≡ false) → Q c ≡ true → P c ≡ false
not_both P Q c apart e = at (P c) refl
  where
    at : (t : Bool) → P c ≡ t → t ≡ false
    at true f = let g : Q c ≡ false = apart c f in absurd (cc)
    at false f = refl

name_no_spacing : (c : ℕ) → is_name_character c ≡ true → is_spacing c ≡ false
name_no_spacing c e = not_both is_spacing is_name_character c spacing_no_name e

-- a character whose lower case is a letter of a keyword
letter_no_spacing : (c k : ℕ) → to_ascii_lowercase c ≡ k → is_spacing k ≡ false → is_spacing c ≡ false
letter_no_spacing c k e f = at (is_spacing c) refl
  where
    at : (t : Bool) → is_spacing c ≡ t → t ≡ false
    at true g = let h : is_spacing k ≡ true = subst (λ x. is_spacing x ≡ true) e (spacing_stays c g) in absurd (cc)
    at false g = refl

letter_is_not : (c k n : ℕ) → to_ascii_lowercase c ≡ k → to_ascii_lowercase n ≡ n → (k == n) ≡ false → (c == n) ≡ false
letter_is_not c k n e f g = at (c == n) refl
  where
    same : (m : ℕ) → (m == m) ≡ true
    same m = grind (arith, nat_tests)

    at : (t : Bool) → (c == n) ≡ t → t ≡ false
    at true h =
        let i : to_ascii_lowercase c ≡ n = ap to_ascii_lowercase (eqb-true c n h) ∙ f in
        let j : (n == n) ≡ false = subst (λ x. (x == n) ≡ false) (sym e ∙ i) g in
        let k : (n == n) ≡ true = same n in
        absurd (cc)
    at false h = refl

-- spacing changes nothing but that a word may begin
abbrev Passes : SubselectSlot → Type 0
Passes at = (r : SubselectReading) (spaced : Bool) (c : ℕ) → is_spacing c ≡ true → choice.step (before r at spaced) c ≡ Some (before r at true)

over_spacing : (at : SubselectSlot) → Passes at → (r : SubselectReading) (a rest : List ℕ) → Spacing a → accept (before r at true) (a ++ rest) ≡ accept (before r at true) rest
over_spacing at passes r [] rest all = refl
over_spacing at passes r (c ∷ cs) rest all = let (here, more) = and_parts (is_spacing c) (list_all is_spacing cs) all in rw (passes r true c here) (over_spacing at passes r cs rest more)

over_if : (at : SubselectSlot) → Passes at → (r : SubselectReading) (spaced : Bool) (a rest : List ℕ) → SpacingIf spaced a → accept (before r at spaced) (a ++ rest) ≡ accept (before r at true) rest
over_if at passes r true a rest all = over_spacing at passes r a rest all
over_if at passes r false [] rest (all, some) = let none : false ≡ true = some in absurd (cc)
over_if at passes r false (c ∷ cs) rest (all, some) = let (here, more) = and_parts (is_spacing c) (list_all is_spacing cs) all in rw (passes r false c here) (over_spacing at passes r cs rest more)

-- a keyword
record IsKeywordOf (at : SubselectSlot) (k : ℕ) (ks : List ℕ) : Type 0 where
  slot_is : IsWordSlot at
  no_name : choice.takes_name at ≡ false
  begins : (r : SubselectReading) (c : ℕ) → to_ascii_lowercase c ≡ k → choice.step (before r at true) c ≡ Some (within r at (k ∷ []))
  fronts : (text rest : List ℕ) → k ∷ ks ≡ text ++ rest → choice.begins_keyword at text ≡ true
  last : (c : ℕ) → choice.begins_keyword at ((k ∷ ks) ++ c ∷ []) ≡ false
  whole : choice.is_keyword at (k ∷ ks) ≡ true

in_word : (at : SubselectSlot) (is : IsWordSlot at) (no_name : choice.takes_name at ≡ false) (r : SubselectReading) (w : ℕ) (ws : List ℕ) (c : ℕ) → choice.step (within r at (w ∷ ws)) c ≡ choice.in_keyword (within r at (w ∷ ws)) c
in_word at is no_name r w ws c =
    let chosen : choice.outside (w ∷ ws) (within r at (w ∷ ws)) c ≡ choice.in_keyword (within r at (w ∷ ws)) c = rw no_name refl in
    is.outside (within r at (w ∷ ws)) c ∙ chosen

over_letters : (at : SubselectSlot) (k : ℕ) (ks : List ℕ) (is : IsKeywordOf at k ks) (r : SubselectReading) (w : ℕ) (ws a rest : List ℕ) → k ∷ ks ≡ (w ∷ ws) ++ map to_ascii_lowercase a
    → accept (within r at (w ∷ ws)) (a ++ rest) ≡ accept (within r at ((w ∷ ws) ++ map to_ascii_lowercase a)) rest
over_letters at k ks is r w ws [] rest e = ap (λ x. accept (within r at (w ∷ x)) rest) (sym (append-nil ws))
over_letters at k ks is r w ws (c ∷ cs) rest e =
    let same : (w ∷ (ws ++ to_ascii_lowercase c ∷ [])) ++ map to_ascii_lowercase cs ≡ (w ∷ ws) ++ map to_ascii_lowercase (c ∷ cs) = append_assoc (w ∷ ws) (to_ascii_lowercase c ∷ []) (map to_ascii_lowercase cs) in
    let front : choice.begins_keyword at (w ∷ (ws ++ to_ascii_lowercase c ∷ [])) ≡ true = is.fronts (w ∷ (ws ++ to_ascii_lowercase c ∷ [])) (map to_ascii_lowercase cs) (e ∙ sym same) in
    let step : choice.step (within r at (w ∷ ws)) c ≡ Some (within r at (w ∷ (ws ++ to_ascii_lowercase c ∷ []))) = in_word at is.slot_is is.no_name r w ws c ∙ rw front refl in
    rw step (over_letters at k ks is r w (ws ++ to_ascii_lowercase c ∷ []) cs rest (e ∙ sym same) ∙ ap (λ x. accept (within r at x) rest) same)

end_keyword : (at : SubselectSlot) (k : ℕ) (ks : List ℕ) (is : IsKeywordOf at k ks) (r : SubselectReading) (rest : List ℕ) → accept (within r at (k ∷ ks)) rest ≡ accept (choice.finished_at at (within r at (k ∷ ks))) rest
end_keyword at k ks is r [] = is.slot_is.unended (within r at (k ∷ ks)) ∙ sym (is.slot_is.unfinished (within r at (k ∷ ks)))
end_keyword at k ks is r (c ∷ cs) =
    let step : choice.step (within r at (k ∷ ks)) c ≡ choice.fresh (choice.finished_at at (within r at (k ∷ ks))) c = in_word at is.slot_is is.no_name r k ks c ∙ rw (is.last (to_ascii_lowercase c), is.whole) refl in
    ap (option_and_then (on cs)) (step ∙ sym (is.slot_is.goes_on (within r at (k ∷ ks)) c))

over_keyword : (at : SubselectSlot) (k : ℕ) (ks : List ℕ) (is : IsKeywordOf at k ks) (r : SubselectReading) (a rest : List ℕ) → Keyword (k ∷ ks) a → accept (before r at true) (a ++ rest) ≡ accept (choice.finished_at at (within r at (k ∷ ks))) rest
over_keyword at k ks is r [] rest e = absurd (cc)
over_keyword at k ks is r (c ∷ cs) rest e =
    let first : to_ascii_lowercase c ≡ k = cc in
    let others : map to_ascii_lowercase cs ≡ ks = cc in
    rw (is.begins r c first) (over_letters at k ks is r k [] cs rest (ap (λ x. k ∷ x) (sym others)) ∙ (ap (λ x. accept (within r at (k ∷ x)) rest) others ∙ end_keyword at k ks is r rest))

-- what stops a name
abbrev Stops : List ℕ → Type 0
Stops rest = (rest ≡ []) ⊎ ((c : ℕ) × (cs : List ℕ) × (rest ≡ c ∷ cs) × (is_name_character c ≡ false))

abbrev BeginsName : SubselectSlot → Type 0
BeginsName at = (r : SubselectReading) (c : ℕ) → is_name_character c ≡ true → choice.step (before r at true) c ≡ Some (within r at (c ∷ []))

in_name : (at : SubselectSlot) (is : IsWordSlot at) (name : choice.takes_name at ≡ true) (r : SubselectReading) (w : ℕ) (ws : List ℕ) (c : ℕ) → choice.step (within r at (w ∷ ws)) c ≡ choice.in_name (within r at (w ∷ ws)) c
in_name at is name r w ws c =
    let chosen : choice.outside (w ∷ ws) (within r at (w ∷ ws)) c ≡ choice.in_name (within r at (w ∷ ws)) c = rw name refl in
    is.outside (within r at (w ∷ ws)) c ∙ chosen

one_less : (w a : List ℕ) (c : ℕ) → nat_le (length (w ++ c ∷ a)) 50 ≡ true → nat_lt (length w) 50 ≡ true
one_less w a c e = let l : length (w ++ c ∷ a) ≡ length w + length (c ∷ a) = length-append w (c ∷ a) in grind (arith, nat_tests)

over_characters : (at : SubselectSlot) (is : IsWordSlot at) (name : choice.takes_name at ≡ true) (r : SubselectReading) (w : ℕ) (ws a rest : List ℕ) → list_all is_name_character a ≡ true → nat_le (length ((w ∷ ws) ++ a)) 50 ≡ true
    → accept (within r at (w ∷ ws)) (a ++ rest) ≡ accept (within r at ((w ∷ ws) ++ a)) rest
over_characters at is name r w ws [] rest all short = ap (λ x. accept (within r at (w ∷ x)) rest) (sym (append-nil ws))
over_characters at is name r w ws (c ∷ cs) rest all short =
    let (here, more) = and_parts (is_name_character c) (list_all is_name_character cs) all in
    let same : (w ∷ (ws ++ c ∷ [])) ++ cs ≡ (w ∷ ws) ++ c ∷ cs = append_assoc (w ∷ ws) (c ∷ []) cs in
    let step : choice.step (within r at (w ∷ ws)) c ≡ Some (within r at (w ∷ (ws ++ c ∷ []))) = in_name at is name r w ws c ∙ rw (here, one_less (w ∷ ws) cs c short) refl in
    rw step (over_characters at is name r w (ws ++ c ∷ []) cs rest more (ap (λ x. nat_le (length x) 50) same ∙ short) ∙ ap (λ x. accept (within r at x) rest) same)

end_name : (at : SubselectSlot) (is : IsWordSlot at) (name : choice.takes_name at ≡ true) (r : SubselectReading) (w : ℕ) (ws rest : List ℕ) → Stops rest → accept (within r at (w ∷ ws)) rest ≡ accept (choice.finished_at at (within r at (w ∷ ws))) rest
end_name at is name r w ws rest (inl e) = rw e (is.unended (within r at (w ∷ ws)) ∙ sym (is.unfinished (within r at (w ∷ ws))))
end_name at is name r w ws rest (inr (c, cs, e, other)) =
    let step : choice.step (within r at (w ∷ ws)) c ≡ choice.fresh (choice.finished_at at (within r at (w ∷ ws))) c = in_name at is name r w ws c ∙ rw other refl in
    rw e (ap (option_and_then (on cs)) (step ∙ sym (is.goes_on (within r at (w ∷ ws)) c)))

over_name : (at : SubselectSlot) (is : IsWordSlot at) (name : choice.takes_name at ≡ true) (begins : BeginsName at) (r : SubselectReading) (word a rest : List ℕ) → Name word a → Stops rest
    → accept (before r at true) (a ++ rest) ≡ accept (choice.finished_at at (within r at word)) rest
over_name at is name begins r word a rest (same, good) stops = ap (λ x. accept (before r at true) (x ++ rest)) same ∙ by word good
  where
    by : (word : List ℕ) → is_name_text word ≡ true → accept (before r at true) (word ++ rest) ≡ accept (choice.finished_at at (within r at word)) rest
    by [] good = let none : false ≡ true = good in absurd (cc)
    by (c ∷ cs) good =
        let some = (and_parts (nat_le 1 (length (c ∷ cs))) _ good).1 in
        let (short, all) = and_parts (nat_le (length (c ∷ cs)) 50) (list_all is_name_character (c ∷ cs)) some in
        let (here, more) = and_parts (is_name_character c) (list_all is_name_character cs) all in
        rw (begins r c here) (over_characters at is name r c [] cs rest more short ∙ end_name at is name r c cs rest stops)

-- a sign
over_sign : (at : SubselectSlot) (mark : ℕ) (to : SubselectSlot) (is : IsSignSlot at mark to) → is_spacing mark ≡ false → (mark == mark) ≡ true → (r : SubselectReading) (spaced : Bool) (a b rest : List ℕ) → Spacing a → Exactly (mark ∷ []) b
    → accept (before r at spaced) (a ++ (b ++ rest)) ≡ accept (before r to true) rest
over_sign at mark to is other same r spaced [] b rest all e =
    let step : choice.step (before r at spaced) mark ≡ Some (before r to true) = is.step r spaced mark ∙ rw (other, same) refl in
    rw e (ap (option_and_then (on rest)) step)
over_sign at mark to is other same r spaced (c ∷ cs) b rest all e =
    let (here, more) = and_parts (is_spacing c) (list_all is_spacing cs) all in
    let step : choice.step (before r at spaced) c ≡ Some (before r at spaced) = is.step r spaced c ∙ rw here refl in
    ap (option_and_then (on (cs ++ (b ++ rest)))) step ∙ over_sign at mark to is other same r spaced cs b rest more e

-- what stops a name: spacing, or a character that is none of a name
gap_stops : (a rest : List ℕ) → Gap a → Stops (a ++ rest)
gap_stops [] rest (all, some) = let none : false ≡ true = some in absurd (cc)
gap_stops (c ∷ cs) rest (all, some) = inr (c, cs ++ rest, refl, spacing_no_name c (and_parts (is_spacing c) (list_all is_spacing cs) all).0)

sign_stops : (mark : ℕ) (a b rest : List ℕ) → Spacing a → Exactly (mark ∷ []) b → is_name_character mark ≡ false → Stops (a ++ (b ++ rest))
sign_stops mark [] b rest all e other = inr (mark, rest, ap (λ x. x ++ rest) e, other)
sign_stops mark (c ∷ cs) b rest all e other = inr (c, cs ++ (b ++ rest), refl, spacing_no_name c (and_parts (is_spacing c) (list_all is_spacing cs) all).0)

-- what ends a quoted text
abbrev NoQuote : List ℕ → Type 0
NoQuote rest = (rest ≡ []) ⊎ ((c : ℕ) × (cs : List ℕ) × (rest ≡ c ∷ cs) × ((c == 39) ≡ false))

abbrev Ends : Compared → List ℕ → Type 0
Ends (Routed name) rest = Stops rest
Ends (Text text) rest = NoQuote rest

closing_ends : (value : Compared) (a b rest : List ℕ) → Spacing a → Exactly (41 ∷ []) b → Ends value (a ++ (b ++ rest))
closing_ends (Routed name) a b rest all e = sign_stops 41 a b rest all e refl
closing_ends (Text text) [] b rest all e = inr (41, rest, ap (λ x. x ++ rest) e, refl)
closing_ends (Text text) (c ∷ cs) b rest all e = inr (c, cs ++ (b ++ rest), refl, spacing_no_quote c (and_parts (is_spacing c) (list_all is_spacing cs) all).0)

and_ends : (value : Compared) (a b rest : List ℕ) → SpacingAfter value a → Keyword (codes "and") b → Ends value (a ++ (b ++ rest))
and_ends (Routed name) a b rest gap e = gap_stops a (b ++ rest) gap
and_ends (Text text) [] [] rest all e = absurd (cc)
and_ends (Text text) [] (c ∷ cs) rest all e = let first : to_ascii_lowercase c ≡ 97 = cc in inr (c, cs ++ rest, refl, letter_is_not c 97 39 first refl refl)
and_ends (Text text) (c ∷ cs) b rest all e = inr (c, cs ++ (b ++ rest), refl, spacing_no_quote c (and_parts (is_spacing c) (list_all is_spacing cs) all).0)

-- a value
abbrev quoting : SubselectReading → List ℕ → SubselectReading
quoting r w = record r { word = w; spaced = true; slot = slot.Quoted }

over_quoted : (r : SubselectReading) (t a rest : List ℕ) → accept (quoting r t) (doubled a ++ 39 ∷ rest) ≡ accept (record r { word = t ++ a; spaced = true; slot = slot.Quote }) rest
over_quoted r t [] rest = ap (λ w. accept (record r { word = w; spaced = true; slot = slot.Quote }) rest) (sym (append-nil t))
over_quoted r t (c ∷ cs) rest = at (c == 39) refl (over_quoted r (t ++ c ∷ []) cs rest ∙ ap (λ w. accept (record r { word = w; spaced = true; slot = slot.Quote }) rest) (append_assoc t (c ∷ []) cs))
  where
    at : (b : Bool) → (c == 39) ≡ b → accept (quoting r (t ++ c ∷ [])) (doubled cs ++ 39 ∷ rest) ≡ accept (record r { word = t ++ c ∷ cs; spaced = true; slot = slot.Quote }) rest
        → accept (quoting r t) (doubled (c ∷ cs) ++ 39 ∷ rest) ≡ accept (record r { word = t ++ c ∷ cs; spaced = true; slot = slot.Quote }) rest
    at true f more = rw f (ap (λ x. accept (quoting r (t ++ x ∷ [])) (doubled cs ++ 39 ∷ rest)) (sym (eqb-true c 39 f)) ∙ more)
    at false f more = rw (f, f) more

quote_end : (r : SubselectReading) (t rest : List ℕ) → NoQuote rest → accept (record r { word = t; spaced = true; slot = slot.Quote }) rest ≡ accept (choice.with_condition r (Text t) true) rest
quote_end r t rest (inl e) = rw e refl
quote_end r t rest (inr (c, cs, e, other)) = rw (e, other) refl

passes_routed : Passes slot.Routed
passes_routed r spaced c e = rw e refl

begins_routed : BeginsName slot.Routed
begins_routed r c e = rw (name_no_spacing c e, e) refl

over_value : (r : SubselectReading) (value : Compared) (a rest : List ℕ) → ComparedOf value a → Ends value rest → accept (before r slot.Value true) (a ++ rest) ≡ accept (choice.with_condition r value (closes value)) rest
over_value r (Routed name) a rest (colon, t1, e1, is, (spaces, t2, e2, all, named)) ends =
    ap (λ x. accept (before r slot.Value true) (x ++ rest)) (e1 ∙ ap (λ x. x ++ t1) is)
    ∙ (ap (λ x. accept (before r slot.Routed true) (x ++ rest)) e2
    ∙ (ap (accept (before r slot.Routed true)) (append_assoc spaces t2 rest)
    ∙ (over_spacing slot.Routed passes_routed r spaces (t2 ++ rest) all ∙ over_name slot.Routed at_routed refl begins_routed r name t2 rest named ends)))
over_value r (Text text) a rest e ends =
    ap (λ x. accept (before r slot.Value true) (x ++ rest)) e
    ∙ (ap (λ x. accept (record r { word = []; spaced = true; slot = slot.Quoted }) x) (append_assoc (doubled text) (39 ∷ []) rest)
    ∙ (over_quoted r [] text rest ∙ quote_end r text rest ends))

value_spacing : (r : SubselectReading) (a rest : List ℕ) → Spacing a → accept (before r slot.Value true) (a ++ rest) ≡ accept (before r slot.Value true) rest
value_spacing r [] rest all = refl
value_spacing r (c ∷ cs) rest all = let (here, more) = and_parts (is_spacing c) (list_all is_spacing cs) all in rw here (value_spacing r cs rest more)

-- a condition
begins_tested : BeginsName slot.Tested
begins_tested r c e = rw (name_no_spacing c e, e) refl

passes_tested : Passes slot.Tested
passes_tested r spaced c e = rw e refl

abbrev behind : SubselectReading → Condition → SubselectReading
behind r condition = before (record r { tested = condition.column; conditions = r.conditions ++ condition ∷ [] }) slot.Next (closes condition.value)

regroup : (a b c text rest : List ℕ) → text ≡ a ++ b → b ++ rest ≡ c → text ++ rest ≡ a ++ c
regroup a b c text rest e f = ap (λ x. x ++ rest) e ∙ (append_assoc a b rest ∙ ap (λ x. a ++ x) f)

over_condition : (r : SubselectReading) (condition : Condition) (text rest : List ℕ) → ConditionOf condition text → Ends condition.value rest → accept (before r slot.Tested true) (text ++ rest) ≡ accept (behind r condition) rest
over_condition r condition text rest (name, t1, e1, named, (a, t2, e2, all, (mark, t3, e3, is, (b, value, e4, spaces, says)))) ends =
    let cut : text ++ rest ≡ name ++ (a ++ (mark ++ (b ++ (value ++ rest)))) = regroup name t1 _ text rest e1 (regroup a t2 _ t1 rest e2 (regroup mark t3 _ t2 rest e3 (regroup b value _ t3 rest e4 refl))) in
    let with_name = record r { tested = condition.column } in
    ap (accept (before r slot.Tested true)) cut
    ∙ (over_name slot.Tested at_tested refl begins_tested r condition.column name (a ++ (mark ++ (b ++ (value ++ rest)))) named (sign_stops 61 a mark (b ++ (value ++ rest)) all is refl)
    ∙ (over_sign slot.Equals 61 slot.Value at_equals refl refl with_name false a mark (b ++ (value ++ rest)) all is
    ∙ (value_spacing with_name b (value ++ rest) spaces ∙ over_value with_name condition.value value rest says ends)))

-- after a condition
passes_next : Passes slot.Next
passes_next r spaced c e = rw (spacing_no_end c e, e) refl

keyword_next : IsKeywordOf slot.Next 97 (codes "nd")
keyword_next = record {
  slot_is = at_next;
  no_name = refl;
  begins = λ r c e. rw (letter_is_not c 97 41 e refl refl, letter_no_spacing c 97 e refl, e) refl;
  fronts = λ text rest e. front_is (codes "and") text rest e;
  last = λ c. refl;
  whole = refl;
}

after_if : (value : Compared) (text : List ℕ) → SpacingAfter value text → SpacingIf (closes value) text
after_if (Routed name) text e = e
after_if (Text content) text e = e

over_closing : (r : SubselectReading) (spaced : Bool) (a rest : List ℕ) → Spacing a → accept (before r slot.Next spaced) (a ++ (41 ∷ rest)) ≡ accept (before r slot.Close true) rest
over_closing r spaced [] rest all = refl
over_closing r spaced (c ∷ cs) rest all = let (here, more) = and_parts (is_spacing c) (list_all is_spacing cs) all in rw (spacing_no_end c here, here) (over_closing r true cs rest more)

abbrev made : SubselectReading → List Condition → Subselect
made r conditions = record { by = r.by; column = r.column; table = r.table; conditions = r.conditions ++ conditions }

over_close : (r : SubselectReading) (a : List ℕ) → Spacing a → accept (before r slot.Close true) a ≡ Some (record { by = r.by; column = r.column; table = r.table; conditions = r.conditions })
over_close r [] all = refl
over_close r (c ∷ cs) all = let (here, more) = and_parts (is_spacing c) (list_all is_spacing cs) all in rw here (over_close r cs more)

-- all conditions
over_conditions : (conditions : List Condition) (r : SubselectReading) (text a mark b : List ℕ) → ConditionsOf conditions text → Spacing a → Exactly (codes ")") mark → Spacing b
    → accept (before r slot.Tested true) (text ++ (a ++ (mark ++ b))) ≡ Some (made r conditions)
over_conditions [] r text a mark b is all e spaces = absurd is
over_conditions (condition ∷ []) r text a mark b is all e spaces =
    over_condition r condition text (a ++ (mark ++ b)) is (closing_ends condition.value a mark b all e)
    ∙ (ap (λ x. accept (behind r condition) (a ++ (x ++ b))) e
    ∙ (over_closing (record r { tested = condition.column; conditions = r.conditions ++ condition ∷ [] }) (closes condition.value) a b all ∙ over_close (record r { tested = condition.column; conditions = r.conditions ++ condition ∷ [] }) b spaces))
over_conditions (condition ∷ next ∷ conditions) r text a mark b (first, t1, e1, is, (s, t2, e2, gap, (word, t3, e3, letters, (g, others, e4, also, rest_is)))) all e spaces =
    let end = a ++ (mark ++ b) in
    let more = record r { tested = condition.column; conditions = r.conditions ++ condition ∷ [] } in
    let cut : text ++ end ≡ first ++ (s ++ (word ++ (g ++ (others ++ end)))) = regroup first t1 _ text end e1 (regroup s t2 _ t1 end e2 (regroup word t3 _ t2 end e3 (regroup g others _ t3 end e4 refl))) in
    let same : (r.conditions ++ condition ∷ []) ++ next ∷ conditions ≡ r.conditions ++ condition ∷ next ∷ conditions = append_assoc r.conditions (condition ∷ []) (next ∷ conditions) in
    ap (accept (before r slot.Tested true)) cut
    ∙ (over_condition r condition first (s ++ (word ++ (g ++ (others ++ end)))) is (and_ends condition.value s word (g ++ (others ++ end)) gap letters)
    ∙ (over_if slot.Next passes_next more (closes condition.value) s (word ++ (g ++ (others ++ end))) (after_if condition.value s gap)
    ∙ (over_keyword slot.Next 97 (codes "nd") keyword_next more word (g ++ (others ++ end)) letters
    ∙ (over_if slot.Tested passes_tested more false g (others ++ end) also
    ∙ (over_conditions (next ∷ conditions) more others a mark b rest_is all e spaces
    ∙ ap (λ (x : List Condition). Some (record { by = r.by; column = r.column; table = r.table; conditions = x })) same)))))

-- the other slots
keyword_prefix : IsKeywordOf slot.Prefix 99 []
keyword_prefix = record { slot_is = at_prefix; no_name = refl; begins = λ r c e. rw (letter_no_spacing c 99 e refl, e) refl; fronts = λ text rest e. front_is (codes "c") text rest e; last = λ c. refl; whole = refl }

keyword_external : IsKeywordOf slot.Which 101 (codes "xternal_id")
keyword_external = record { slot_is = at_which; no_name = refl; begins = λ r c e. rw (letter_no_spacing c 101 e refl, e) refl; fronts = λ text rest e. rw (front_is (codes "external_id") text rest e) refl; last = λ c. refl; whole = refl }

or_true : (a b : Bool) → b ≡ true → (a || b) ≡ true
or_true true b e = refl
or_true false b e = e

keyword_node : IsKeywordOf slot.Which 110 (codes "ode_id")
keyword_node = record {
  slot_is = at_which;
  no_name = refl;
  begins = λ r c e. rw (letter_no_spacing c 110 e refl, e) refl;
  fronts = λ text rest e. or_true (choice.is_prefix (codes "external_id") text) (choice.is_prefix (codes "node_id") text) (front_is (codes "node_id") text rest e);
  last = λ c. refl;
  whole = refl;
}

keyword_in : IsKeywordOf slot.In 105 (codes "n")
keyword_in = record { slot_is = at_in; no_name = refl; begins = λ r c e. rw (letter_no_spacing c 105 e refl, e) refl; fronts = λ text rest e. front_is (codes "in") text rest e; last = λ c. refl; whole = refl }

keyword_select : IsKeywordOf slot.Select 115 (codes "elect")
keyword_select = record { slot_is = at_select; no_name = refl; begins = λ r c e. rw (letter_no_spacing c 115 e refl, e) refl; fronts = λ text rest e. front_is (codes "select") text rest e; last = λ c. refl; whole = refl }

keyword_from : IsKeywordOf slot.From 102 (codes "rom")
keyword_from = record { slot_is = at_from; no_name = refl; begins = λ r c e. rw (letter_no_spacing c 102 e refl, e) refl; fronts = λ text rest e. front_is (codes "from") text rest e; last = λ c. refl; whole = refl }

keyword_where : IsKeywordOf slot.Where 119 (codes "here")
keyword_where = record { slot_is = at_where; no_name = refl; begins = λ r c e. rw (letter_no_spacing c 119 e refl, e) refl; fronts = λ text rest e. front_is (codes "where") text rest e; last = λ c. refl; whole = refl }

over_which : (r : SubselectReading) (by : NodeColumn) (a rest : List ℕ) → Keyword (keyword_of by) a → accept (before r slot.Which true) (a ++ rest) ≡ accept (before (record r { by = by }) slot.In false) rest
over_which r ExternalId a rest e = over_keyword slot.Which 101 (codes "xternal_id") keyword_external r a rest e
over_which r NodeId a rest e = over_keyword slot.Which 110 (codes "ode_id") keyword_node r a rest e

-- one piece after another
onward : (from to : SubselectReading) (text a rest : List ℕ) (value : Subselect) → text ≡ a ++ rest → accept from (a ++ rest) ≡ accept to rest → accept to rest ≡ Some value → accept from text ≡ Some value
onward from to text a rest value e f g = ap (accept from) e ∙ (f ∙ g)

gap_next : (text a rest : List ℕ) → text ≡ a ++ rest → Gap a → Stops text
gap_next text a rest e gap = subst Stops (sym e) (gap_stops a rest gap)

-- from `where` on
over_where : (r : SubselectReading) (conditions : List Condition) (text : List ℕ)
    → (Gap ▸ Keyword (codes "where") ▸ Gap ▸ ConditionsOf conditions ▸ Spacing ▸ Exactly (codes ")") ▸ Spacing) text → accept (before r slot.Where false) text ≡ Some (made r conditions)
over_where r conditions text (a, t1, e1, gap, (word, t2, e2, letters, (b, t3, e3, more, (others, t4, e4, says, (c, t5, e5, all, (mark, d, e6, is, last)))))) =
    let rest : t3 ≡ others ++ (c ++ (mark ++ d)) = e4 ∙ ap (λ x. others ++ x) (e5 ∙ ap (λ x. c ++ x) e6) in
    onward (before r slot.Where false) (before r slot.Where true) text a t1 _ e1 (over_if slot.Where (λ r spaced c e. rw e refl) r false a t1 gap)
    (onward (before r slot.Where true) (before r slot.Tested false) t1 word t2 _ e2 (over_keyword slot.Where 119 (codes "here") keyword_where r word t2 letters)
    (onward (before r slot.Tested false) (before r slot.Tested true) t2 b t3 _ e3 (over_if slot.Tested passes_tested r false b t3 more)
    (ap (accept (before r slot.Tested true)) rest ∙ over_conditions conditions r others c mark d says all is last)))

-- from `select` on
over_select : (r : SubselectReading) (column table : List ℕ) (conditions : List Condition) (text : List ℕ)
    → (Spacing ▸ Keyword (codes "select") ▸ Gap ▸ Name column ▸ Gap ▸ Keyword (codes "from") ▸ Gap ▸ Name table
    ▸ Gap ▸ Keyword (codes "where") ▸ Gap ▸ ConditionsOf conditions ▸ Spacing ▸ Exactly (codes ")") ▸ Spacing) text
    → accept (before r slot.Select true) text ≡ Some (made (record r { column = column; table = table }) conditions)
over_select r column table conditions text (a, t1, e1, all, (word, t2, e2, letters, (b, t3, e3, gap, (name, t4, e4, named, (c, t5, e5, more, (from, t6, e6, also, (d, t7, e7, third, (other, t8, e8, tabled, rest)))))))) =
    let with_column = record r { column = column } in
    let with_table = record r { column = column; table = table } in
    onward (before r slot.Select true) (before r slot.Select true) text a t1 _ e1 (over_spacing slot.Select (λ r spaced c e. rw e refl) r a t1 all)
    (onward (before r slot.Select true) (before r slot.Column false) t1 word t2 _ e2 (over_keyword slot.Select 115 (codes "elect") keyword_select r word t2 letters)
    (onward (before r slot.Column false) (before r slot.Column true) t2 b t3 _ e3 (over_if slot.Column (λ r spaced c e. rw e refl) r false b t3 gap)
    (onward (before r slot.Column true) (before with_column slot.From false) t3 name t4 _ e4 (over_name slot.Column at_column refl (λ r c e. rw (name_no_spacing c e, e) refl) r column name t4 named (gap_next t4 c t5 e5 more))
    (onward (before with_column slot.From false) (before with_column slot.From true) t4 c t5 _ e5 (over_if slot.From (λ r spaced c e. rw e refl) with_column false c t5 more)
    (onward (before with_column slot.From true) (before with_column slot.Table false) t5 from t6 _ e6 (over_keyword slot.From 102 (codes "rom") keyword_from with_column from t6 also)
    (onward (before with_column slot.Table false) (before with_column slot.Table true) t6 d t7 _ e7 (over_if slot.Table (λ r spaced c e. rw e refl) with_column false d t7 third)
    (onward (before with_column slot.Table true) (before with_table slot.Where false) t7 other t8 _ e8 (over_name slot.Table at_table refl (λ r c e. rw (name_no_spacing c e, e) refl) with_column table other t8 tabled (gap_next t8 rest.0 rest.1 rest.2 rest.3))
    (over_where with_table conditions t8 rest))))))))

pub complete : (text : List ℕ) (value : Subselect) → IsSubselectForm text value → accept choice.beginning text ≡ Some value
complete text value (a, t1, e1, all, (prefix, t2, e2, letter, (b, t3, e3, more, (dot, t4, e4, is, (c, t5, e5, third, (node, t6, e6, letters, (d, t7, e7, gap, (inside, t8, e8, also, (f, t9, e9, fourth, (mark, t10, e10, opens, rest)))))))))) =
    let r = choice.beginning in
    let s = record choice.beginning { by = value.by } in
    onward (before r slot.Prefix true) (before r slot.Prefix true) text a t1 _ e1 (over_spacing slot.Prefix (λ r spaced c e. rw e refl) r a t1 all)
    (onward (before r slot.Prefix true) (before r slot.Dot false) t1 prefix t2 _ e2 (over_keyword slot.Prefix 99 [] keyword_prefix r prefix t2 letter)
    (ap (accept (before r slot.Dot false)) (e3 ∙ ap (λ x. b ++ x) e4) ∙ (over_sign slot.Dot 46 slot.Which at_dot refl refl r false b dot t4 more is
    ∙ (onward (before r slot.Which true) (before r slot.Which true) t4 c t5 _ e5 (over_spacing slot.Which (λ r spaced c e. rw e refl) r c t5 third)
    (onward (before r slot.Which true) (before s slot.In false) t5 node t6 _ e6 (over_which r value.by node t6 letters)
    (onward (before s slot.In false) (before s slot.In true) t6 d t7 _ e7 (over_if slot.In (λ r spaced c e. rw e refl) s false d t7 gap)
    (onward (before s slot.In true) (before s slot.Open false) t7 inside t8 _ e8 (over_keyword slot.In 105 (codes "n") keyword_in s inside t8 also)
    (ap (accept (before s slot.Open false)) (e9 ∙ ap (λ x. f ++ x) e10) ∙ (over_sign slot.Open 40 slot.Select at_open refl refl s false f mark t10 fourth opens
    ∙ over_select s value.column value.table value.conditions t10 rest)))))))))
