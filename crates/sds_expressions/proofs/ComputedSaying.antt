-- The expressions of a transform's columns read as their forms say.
use Rattle.std.proofs.Common.{◌≡◌, ◌↔◌, ℕ, ℤ, pos, negsuc, neg_ℤ, nat_abs, zero, suc, ◌+◌, ◌^◌, ◌≤◌, ◌<◌, inl, inr, Bool, true, false, not, ◌==◌, if◌then◌else◌, nat_lt, nat_le, List, [], ◌∷◌, ◌++◌, length, get_or, codes, Option, Some, None, option_map, option_and_then, bytes_eq, decimal, refl, sym, ap, subst, ◌∙◌, arith, rules, append_assoc, length-append, eqb-true, eq-eqb}
use Rattle.std.proofs.lemmas.Bool.{and_parts}
use Rattle.std.proofs.lemmas.Bool.Decides.{nat_tests}
use Rattle.std.proofs.lemmas.Fmt.{decimal-digits_value, digits_value-decimal, digits_decimal, decimal_nonempty, first_decimal, decimal_digit}
use Rattle.std.proofs.lemmas.Slice.Eq.{bytes_eq-Decides}
use Rattle.std.proofs.lemmas.Str.Parse.{IsNumeralModel, numerals_by_fold}
use Rattle.std.specs.Char.{is_ascii_digit}
use Rattle.std.specs.Fmt.{signed_decimal}
use Rattle.std.specs.List.{list_all}
use Rattle.std.specs.Str.{chars}
use Rattle.sds_types.specs.declared.transform_column.MapPair.{MapPair}
use Rattle.sds_types.specs.declared.transform_column.NodeWord.{NodeWord}
use Rattle.sds_types.specs.declared.transform_column.NodeWord.TheVariants.{SourceNode, TargetNode}
use Rattle.sds_types.specs.declared.transform_column.Substring.{Substring}
use Rattle.sds_expressions.specs.Computed.{left_of, substr_of, pair_of, pairs_from, value_map_of, variable_of, negative_of, multiplier_of}
use Rattle.sds_expressions.specs.ComputedForm.{NumberOf, IsLeftForm, PieceOf, IsSubstrForm, Without, PairOf, PairsOf, IsValueMapForm, IsVariableForm, IsAdditiveForm}
use Rattle.sds_expressions.specs.Pieces.{split_at, split}
use Rattle.sds_expressions.proofs.Dividing.{divides, undivided, Divided, Parts, parts, one_piece, first_piece}
use Rattle.sds_expressions.specs.Numbers.{number_from, is_padded, is_plain, up_to, plain_number}

own : IsNumeralModel (λ ds. list_all is_ascii_digit ds ≡ true) (number_from 0)
own = numerals_by_fold _ (search rules) number_from (search rules)

-- numbers
lead : (text : List ℕ) → not (is_padded text) ≡ true → get_or text 0 0 ≡ 48 → length text ≡ 1
lead [] e f = absurd (omega (arith, f))
lead (d ∷ []) e f = refl
lead (d ∷ x ∷ ds) e f = let padded : (d == 48) ≡ true = eq-eqb d 48 f in let other : false ≡ true = rw padded at e in absurd (cc)

unpadded_list : (ds : List ℕ) → 48 < get_or ds 0 0 → is_padded ds ≡ false
unpadded_list [] h = refl
unpadded_list (d ∷ []) h = refl
unpadded_list (d ∷ e ∷ ds) h = apart d h
  where
    apart : (d : ℕ) → 48 < d → (d == 48) ≡ false
    apart d h = grind (arith, nat_tests)

unpadded : (n : ℕ) → n < 2 ^ 64 → is_padded (decimal n) ≡ false
unpadded zero h = rw (decimal_digit 0 (omega arith)) refl
unpadded (suc n) h = unpadded_list (decimal (suc n)) (first_decimal (suc n) (omega arith) h)

is_some : (n : ℕ) → nat_lt 0 n ≡ true → 0 < n
is_some n e = grind (arith, nat_tests)

some_is : (n : ℕ) → 0 < n → nat_lt 0 n ≡ true
some_is n e = grind (arith, nat_tests)

is_within : (n most : ℕ) → nat_le n most ≡ true → n ≤ most
is_within n most e = grind (arith, nat_tests)

within_is : (n most : ℕ) → n ≤ most → nat_le n most ≡ true
within_is n most e = grind (arith, nat_tests)

bounded : (most v n : ℕ) → up_to most v ≡ Some n → (v ≡ n) × (n ≤ most)
bounded most v n f = by (nat_le v most) refl f
  where
    by : (t : Bool) → nat_le v most ≡ t → (if t then Some v else None) ≡ Some n → (v ≡ n) × (n ≤ most)
    by true le e = let same : v ≡ n = cc in (same, subst (λ x. x ≤ most) same (is_within v most le))
    by false le e = absurd (cc)

to_decimal : (most n : ℕ) (text : List ℕ) → most < 2 ^ 64 → plain_number most text ≡ Some n → (text ≡ decimal n) × (n ≤ most)
to_decimal most n text small e = at (is_plain text) refl e
  where
    at : (t : Bool) → is_plain text ≡ t → (if t then up_to most (number_from 0 text) else None) ≡ Some n → (text ≡ decimal n) × (n ≤ most)
    at true plain f =
        let (some, rest) = and_parts (nat_lt 0 (length text)) _ plain in
        let (digits, whole) = and_parts (list_all is_ascii_digit text) (not (is_padded text)) rest in
        let v = bounded most (number_from 0 text) n f in
        let same : decimal (number_from 0 text) ≡ text = decimal-digits_value own text digits (is_some (length text) some) (lead text whole) (omega (arith, v.0, v.1, small)) in
        (sym same ∙ ap decimal v.0, v.1)
    at false plain f = absurd (cc)

from_decimal : (most n : ℕ) (text : List ℕ) → most < 2 ^ 64 → text ≡ decimal n → n ≤ most → plain_number most text ≡ Some n
from_decimal most n text small same le =
    let fits : n < 2 ^ 64 = omega (arith, small, le) in
    let plain : is_plain (decimal n) ≡ true = rw (some_is (length (decimal n)) (decimal_nonempty n fits), digits_decimal own n fits, unpadded n fits) refl in
    let value : number_from 0 (decimal n) ≡ n = digits_value-decimal own n fits in
    let here : plain_number most (decimal n) ≡ up_to most (number_from 0 (decimal n)) = chosen (is_plain (decimal n)) plain in
    ap (plain_number most) same ∙ (here ∙ (ap (up_to most) value ∙ bound))
  where
    chosen : (t : Bool) → t ≡ true → (if t then up_to most (number_from 0 (decimal n)) else None) ≡ up_to most (number_from 0 (decimal n))
    chosen t e = rw e refl

    bound : up_to most n ≡ Some n
    bound = rw (within_is n most le) refl

pub number_says : (most n : ℕ) (text : List ℕ) → most < 2 ^ 64 → (plain_number most text ≡ Some n) ↔ NumberOf most n text
number_says most n text small = (to_decimal most n text small, λ is. from_decimal most n text small is.0 is.1)

pub left_says : (text : List ℕ) (n : ℕ) → (left_of text ≡ Some n) ↔ IsLeftForm text n
left_says text n = number_says 2000 n text (omega arith)

-- the two words
pub variable_says : (text : List ℕ) (node : NodeWord) → (variable_of text ≡ Some node) ↔ IsVariableForm text node
variable_says text node = (to_word node, from_word node)
  where
    to_word : (node : NodeWord) → variable_of text ≡ Some node → IsVariableForm text node
    to_word node e = at (bytes_eq text (codes "source_node_id")) (bytes_eq text (codes "target_node_id")) refl refl e
      where
        at : (a b : Bool) → bytes_eq text (codes "source_node_id") ≡ a → bytes_eq text (codes "target_node_id") ≡ b → (if a then Some SourceNode else (if b then Some TargetNode else None)) ≡ Some node → IsVariableForm text node
        at true b f g h = let same : SourceNode ≡ node = cc in subst (λ x. IsVariableForm text x) same ((bytes_eq-Decides text (codes "source_node_id")).0 f)
        at false true f g h = let same : TargetNode ≡ node = cc in subst (λ x. IsVariableForm text x) same ((bytes_eq-Decides text (codes "target_node_id")).0 g)
        at false false f g h = absurd (cc)

    from_word : (node : NodeWord) → IsVariableForm text node → variable_of text ≡ Some node
    from_word SourceNode e = rw e refl
    from_word TargetNode e = rw e refl

-- multipliers
to_multiplier : (text : List ℕ) (z : ℤ) → multiplier_of text ≡ Some z → IsAdditiveForm text z
to_multiplier [] z e = let same : pos 1 ≡ z = cc in inl (refl, sym same)
to_multiplier (c ∷ cs) z e = at (c == 45) refl e
  where
    positive : (o : Option ℕ) → plain_number 1000000 (c ∷ cs) ≡ o → option_map (λ n. pos n) o ≡ Some z → IsAdditiveForm (c ∷ cs) z
    positive None f g = absurd (cc)
    positive (Some n) f g =
        let same : pos n ≡ z = cc in
        let is = to_decimal 1000000 n (c ∷ cs) (omega arith) f in
        inr (subst (λ x. (c ∷ cs ≡ signed_decimal x) × (nat_abs x ≤ 1000000)) same (is.0, is.1))

    negative : (o : Option ℕ) → c ≡ 45 → plain_number 1000000 cs ≡ o → option_and_then (λ n. if n == 0 then None else Some (neg_ℤ (pos n))) o ≡ Some z → IsAdditiveForm (c ∷ cs) z
    negative None minus f g = absurd (cc)
    negative (Some zero) minus f g = absurd (cc)
    negative (Some (suc n)) minus f g =
        let some : (suc n == 0) ≡ false = apart n in
        let h : Some (negsuc n) ≡ Some z = rw some at g in
        let same : negsuc n ≡ z = cc in
        let is = to_decimal 1000000 (suc n) cs (omega arith) f in
        let whole : c ∷ cs ≡ 45 ∷ decimal (suc n) = rw (minus, is.0) refl in
        inr (subst (λ x. (c ∷ cs ≡ signed_decimal x) × (nat_abs x ≤ 1000000)) same (whole, is.1))
      where
        apart : (n : ℕ) → (suc n == 0) ≡ false
        apart n = grind (arith, nat_tests)

    at : (t : Bool) → (c == 45) ≡ t → (if t then negative_of cs else option_map (λ n. pos n) (plain_number 1000000 (c ∷ cs))) ≡ Some z → IsAdditiveForm (c ∷ cs) z
    at true f g = negative (plain_number 1000000 cs) (eqb-true c 45 f) refl g
    at false f g = positive (plain_number 1000000 (c ∷ cs)) refl g

minus_apart : (n : ℕ) (c : ℕ) (cs : List ℕ) → n < 2 ^ 64 → decimal n ≡ c ∷ cs → (c == 45) ≡ false
minus_apart n c cs fits e = at (c == 45) refl
  where
    digits : list_all is_ascii_digit (c ∷ cs) ≡ true
    digits = subst (λ x. list_all is_ascii_digit x ≡ true) e (digits_decimal own n fits)

    at : (t : Bool) → (c == 45) ≡ t → t ≡ false
    at true f =
        let here : is_ascii_digit c ≡ true = (and_parts (is_ascii_digit c) (list_all is_ascii_digit cs) digits).0 in
        let other : is_ascii_digit 45 ≡ true = subst (λ x. is_ascii_digit x ≡ true) (eqb-true c 45 f) here in
        absurd (cc)
    at false f = refl

from_multiplier : (text : List ℕ) (z : ℤ) → IsAdditiveForm text z → multiplier_of text ≡ Some z
from_multiplier text z (inl (none, one)) = rw (none, one) refl
from_multiplier text (pos n) (inr (is, le)) = at text is (from_decimal 1000000 n text (omega arith) is le)
  where
    at : (text : List ℕ) → text ≡ decimal n → plain_number 1000000 text ≡ Some n → multiplier_of text ≡ Some (pos n)
    at [] e f = absurd (omega (arith, ap length e, decimal_nonempty n (omega (arith, le))))
    at (c ∷ cs) e f = rw (minus_apart n c cs (omega (arith, le)) (sym e), f) refl
from_multiplier text (negsuc n) (inr (is, le)) =
    let digits : plain_number 1000000 (decimal (suc n)) ≡ Some (suc n) = from_decimal 1000000 (suc n) (decimal (suc n)) (omega arith) refl le in
    ap multiplier_of is ∙ rw (digits, apart n) refl
  where
    apart : (n : ℕ) → (suc n == 0) ≡ false
    apart n = grind (arith, nat_tests)

pub additive_says : (text : List ℕ) (z : ℤ) → (multiplier_of text ≡ Some z) ↔ IsAdditiveForm text z
additive_says text z = (to_multiplier text z, from_multiplier text z)

-- pieces of texts
no_comma : (ds : List ℕ) → list_all is_ascii_digit ds ≡ true → Without 44 ds
no_comma [] all = refl
no_comma (d ∷ ds) all =
    let (here, rest) = and_parts (is_ascii_digit d) (list_all is_ascii_digit ds) all in
    rw (apart (d == 44) refl here, no_comma ds rest) refl
  where
    apart : (t : Bool) → (d == 44) ≡ t → is_ascii_digit d ≡ true → (d == 44) ≡ false
    apart true f good = let other : is_ascii_digit 44 ≡ true = subst (λ x. is_ascii_digit x ≡ true) (eqb-true d 44 f) good in absurd (cc)
    apart false f good = f

number_no_comma : (n : ℕ) (text : List ℕ) → NumberOf 2000 n text → Without 44 text
number_no_comma n text (same, le) = subst (Without 44) (sym same) (no_comma (decimal n) (digits_decimal own n (omega (arith, le))))

abbrev both : Option ℕ → Option ℕ → Option Substring
both first end = option_and_then (λ from. option_map (λ to. record { first = from; end = Some to }) end) first

to_piece : (text : List ℕ) (piece : Substring) → substr_of text ≡ Some piece → IsSubstrForm text piece
to_piece text piece e = at (split_at 44 text) (parts 44 text) e
  where
    one : (o : Option ℕ) → left_of text ≡ o → option_map (λ from. record { first = from; end = None }) o ≡ Some piece → IsSubstrForm text piece
    one None f g = absurd (cc)
    one (Some n) f g =
        let made : Substring = record { first = n; end = None } in
        let same : made ≡ piece = cc in
        subst (IsSubstrForm text) same ((left_says text n).0 f)

    two : (a b : List ℕ) (o p : Option ℕ) → text ≡ a ++ 44 ∷ b → left_of a ≡ o → left_of b ≡ p → both o p ≡ Some piece → IsSubstrForm text piece
    two a b None p cut f g h = absurd (cc)
    two a b (Some n) None cut f g h = absurd (cc)
    two a b (Some n) (Some m) cut f g h =
        let made : Substring = record { first = n; end = Some m } in
        let same : made ≡ piece = cc in
        subst (IsSubstrForm text) same (a, 44 ∷ b, cut, (left_says a n).0 f, (44 ∷ [], b, refl, refl, (left_says b m).0 g))

    at : (o : Option (List ℕ × List ℕ)) → Parts 44 text o
        → ◌≡◌ {A = Option Substring} (elim o [ None ↦ option_map (λ from. record { first = from; end = None }) (left_of text) | Some x ↦ both (left_of x.0) (left_of x.1) ]) (Some piece) → IsSubstrForm text piece
    at None all f = one (left_of text) refl f
    at (Some x) cut f = two x.0 x.1 (left_of x.0) (left_of x.1) cut.is refl refl f

abbrev piece_at : List ℕ → Option (List ℕ × List ℕ) → Option Substring
piece_at text o = elim o [ None ↦ option_map (λ from. record { first = from; end = None }) (left_of text) | Some x ↦ both (left_of x.0) (left_of x.1) ]

from_piece : (first : ℕ) (end : Option ℕ) (text : List ℕ) → PieceOf first end text → substr_of text ≡ Some (record { first = first; end = end })
from_piece first None text is = ap (piece_at text) (undivided 44 text (number_no_comma first text is)) ∙ ap (option_map (λ from. record { first = from; end = None })) ((left_says text first).1 is)
from_piece first (Some end) text (a, t, e, number, (comma, b, f, mark, other)) =
    let cut : text ≡ a ++ 44 ∷ b = e ∙ (ap (λ x. a ++ x) f ∙ ap (λ x. a ++ (x ++ b)) mark) in
    let divided : split_at 44 text ≡ Some (a, b) = ap (split_at 44) cut ∙ divides 44 a b (number_no_comma first a number) refl in
    ap (piece_at text) divided ∙ (ap (λ o. both o (left_of b)) ((left_says a first).1 number) ∙ ap (λ o. both (Some first) o) ((left_says b end).1 other))

pub substr_says : (text : List ℕ) (piece : Substring) → (substr_of text ≡ Some piece) ↔ IsSubstrForm text piece
substr_says text piece = (to_piece text piece, from_piece piece.first piece.end text)

-- pairs
to_pair : (text : List ℕ) (pair : MapPair) → Without 32 text → pair_of text ≡ Some pair → PairOf pair text
to_pair text pair all e = at (split_at 61 text) (parts 61 text) e
  where
    at : (o : Option (List ℕ × List ℕ)) → Parts 61 text o → ◌≡◌ {A = Option MapPair} (option_map (λ (x : List ℕ × List ℕ). record { source = chars x.0; target = chars x.1 }) o) (Some pair) → PairOf pair text
    at None whole f = absurd (cc)
    at (Some x) cut f =
        let made : MapPair = record { source = chars x.0; target = chars x.1 } in
        let same : made ≡ pair = cc in
        record { source = x.0; target = x.1; is = cut.is; first = cut.first; unspaced = all; source_is = ap (λ (p : MapPair). p.source) same; target_is = ap (λ (p : MapPair). p.target) same }

from_pair : (text : List ℕ) (pair : MapPair) → PairOf pair text → pair_of text ≡ Some pair
from_pair text pair is =
    let divided : split_at 61 text ≡ Some (is.source, is.target) = ap (split_at 61) is.is ∙ divides 61 is.source is.target is.first refl in
    rw divided (rw (is.source_is, is.target_is) refl)

record PairsRead (earlier : List MapPair) (text : List ℕ) (all : List MapPair) : Type 0 where
  first : MapPair
  others : List MapPair
  is : all ≡ earlier ++ first ∷ others
  says : PairsOf (first ∷ others) text

onward : (earlier all : List MapPair) (text a b : List ℕ) (pair : MapPair) → Divided 32 text a b → pair_of a ≡ Some pair → PairsRead (earlier ++ pair ∷ []) b all → PairsRead earlier text all
onward earlier all text a b pair cut e rest = record {
  first = pair;
  others = rest.first ∷ rest.others;
  is = rest.is ∙ append_assoc earlier (pair ∷ []) (rest.first ∷ rest.others);
  says = (a, 32 ∷ b, cut.is, to_pair a pair cut.first e, (32 ∷ [], b, refl, refl, rest.says));
}

shorter : (text a b : List ℕ) (n : ℕ) → length text ≤ suc n → Divided 32 text a b → length b ≤ n
shorter text a b n most cut = let l : length text ≡ length a + length (32 ∷ b) = ap length cut.is ∙ length-append a (32 ∷ b) in omega (arith, l, most)

last_pair : (earlier all : List MapPair) (text : List ℕ) (o : Option MapPair) → Without 32 text → pair_of text ≡ o → option_and_then (λ pair. pairs_from (earlier ++ pair ∷ []) []) o ≡ Some all → PairsRead earlier text all
last_pair earlier all text None whole f g = absurd (cc)
last_pair earlier all text (Some pair) whole f g = let same : earlier ++ pair ∷ [] ≡ all = cc in record { first = pair; others = []; is = sym same; says = to_pair text pair whole f }

first_pair : (earlier all : List MapPair) (text a b : List ℕ) (o : Option MapPair) → Divided 32 text a b → pair_of a ≡ o → option_and_then (λ pair. pairs_from (earlier ++ pair ∷ []) (split 32 b)) o ≡ Some all
    → ((pair : MapPair) → pairs_from (earlier ++ pair ∷ []) (split 32 b) ≡ Some all → PairsRead (earlier ++ pair ∷ []) b all) → PairsRead earlier text all
first_pair earlier all text a b None cut f g again = absurd (cc)
first_pair earlier all text a b (Some pair) cut f g again = onward earlier all text a b pair cut f (again pair g)

to_pairs : (n : ℕ) (earlier all : List MapPair) (text : List ℕ) (o : Option (List ℕ × List ℕ)) → Parts 32 text o → length text ≤ n → pairs_from earlier (split 32 text) ≡ Some all → PairsRead earlier text all
to_pairs n earlier all text None whole most e = last_pair earlier all text (pair_of text) whole refl (sym (ap (pairs_from earlier) (one_piece 32 text whole)) ∙ e)
to_pairs zero earlier all text (Some x) cut most e = let l : length text ≡ length x.0 + length (32 ∷ x.1) = ap length cut.is ∙ length-append x.0 (32 ∷ x.1) in absurd (omega (arith, l, most))
to_pairs (suc n) earlier all text (Some x) cut most e =
    let pieces : split 32 text ≡ x.0 ∷ split 32 x.1 = ap (split 32) cut.is ∙ first_piece 32 x.0 x.1 cut.first refl in
    first_pair earlier all text x.0 x.1 (pair_of x.0) cut refl (sym (ap (pairs_from earlier) pieces) ∙ e)
    (λ pair f. to_pairs n (earlier ++ pair ∷ []) all x.1 (split_at 32 x.1) (parts 32 x.1) (shorter text x.0 x.1 n most cut) f)

from_pairs : (earlier pairs : List MapPair) (text : List ℕ) → PairsOf pairs text → pairs_from earlier (split 32 text) ≡ Some (earlier ++ pairs)
from_pairs earlier [] text is = absurd is
from_pairs earlier (pair ∷ []) text is = ap (pairs_from earlier) (one_piece 32 text is.unspaced) ∙ ap (option_and_then (λ p. pairs_from (earlier ++ p ∷ []) [])) (from_pair text pair is)
from_pairs earlier (pair ∷ next ∷ pairs) text (a, t, e, is, (space, b, f, mark, rest)) =
    let cut : text ≡ a ++ 32 ∷ b = e ∙ (ap (λ x. a ++ x) f ∙ ap (λ x. a ++ (x ++ b)) mark) in
    let pieces : split 32 text ≡ a ∷ split 32 b = ap (split 32) cut ∙ first_piece 32 a b is.unspaced refl in
    let same : (earlier ++ pair ∷ []) ++ next ∷ pairs ≡ earlier ++ pair ∷ next ∷ pairs = append_assoc earlier (pair ∷ []) (next ∷ pairs) in
    ap (pairs_from earlier) pieces
    ∙ (ap (option_and_then (λ p. pairs_from (earlier ++ p ∷ []) (split 32 b))) (from_pair a pair is)
    ∙ (from_pairs (earlier ++ pair ∷ []) (next ∷ pairs) b rest ∙ ap (λ x. Some x) same))

to_map : (text : List ℕ) (pairs : List MapPair) → value_map_of text ≡ Some pairs → IsValueMapForm text pairs
to_map text pairs e =
    let q = to_pairs (length text) [] pairs text (split_at 32 text) (parts 32 text) (omega arith) e in
    subst (IsValueMapForm text) (sym q.is) q.says

pub value_map_says : (text : List ℕ) (pairs : List MapPair) → (value_map_of text ≡ Some pairs) ↔ IsValueMapForm text pairs
value_map_says text pairs = (to_map text pairs, from_pairs [] pairs text)
