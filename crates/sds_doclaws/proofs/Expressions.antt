-- What a transform's column makes of a field that is fit is fit xs well.
use Rattle.std.proofs.Common.{◌≡◌, ℕ, ℤ, zero, suc, ◌+◌, ◌*◌, ◌<◌, ◌≤◌, Bool, true, false, cond, ◌&&◌, ◌||◌, ◌==◌, List, [], ◌∷◌, ◌++◌, length, take, drop, get_or, map, Option, None, Some, option_map, refl, sym, ap, subst, ◌∙◌, arith, true≢false, All, find}
use Rattle.std.proofs.lemmas.List.{length-append, take-append-drop, take_at}
use Rattle.std.proofs.lemmas.List.Elements.{All-nil, All-cons}
use Rattle.std.proofs.lemmas.Str.{IsCharBoundary-after_ascii, IsCharBoundary-before_ascii, IsUtf8-drop, IsUtf8-take, IsUtf8-from_ascii, chars-IsAscii, encodes-chars, encodes-append, scalars-chars}
use Rattle.std.specs.Option.{option_map_or, option_or}
use Rattle.std.specs.Prelude.{codes}
use Rattle.std.specs.Str.{IsUtf8, all_scalars, bytes_eq, chars, encode_utf8_all}
use Rattle.sds_value.specs.declared.row.Field.{Field}
use Rattle.sds_value.specs.declared.row.Field.TheVariants.{Null, Text}
use Rattle.sds_value.proofs.Characters.{name_ascii}
use Rattle.sds_line.specs.Written.{escaped}
use Rattle.sds_types.specs.declared.transform_column.ColumnExpression.{ColumnExpression}
use Rattle.sds_types.specs.declared.transform_column.ColumnExpression.TheVariants as says
use Rattle.sds_types.specs.declared.transform_column.ColumnKind.{ColumnKind}
use Rattle.sds_types.specs.declared.transform_column.ColumnKind.TheVariants as kind
use Rattle.sds_types.specs.declared.transform_column.MapPair.{MapPair}
use Rattle.sds_types.specs.declared.transform_column.NodeWord.{NodeWord}
use Rattle.sds_types.specs.declared.transform_column.NodeWord.TheVariants.{SourceNode, TargetNode}
use Rattle.sds_types.specs.declared.transform_column.Substring.{Substring}
use Rattle.sds_types.specs.declared.way.Way.{Way}
use Rattle.sds_expressions.specs.Computed.{left_of, multiplier_of, substr_of, value_map_of, variable_of}
use Rattle.sds_expressions.specs.ComputedForm.{PairOf, PairsOf}
use Rattle.sds_expressions.proofs.ComputedSaying.{value_map_says}
use Rattle.sds_trade.specs.rules.ColumnFunctions.{field_made, mapped_text, piece_of, target_of}
use Rattle.sds_trade.specs.rules.Expressions.{column_expression_of}
use Rattle.sds_nodelaws.proofs.Lists.{and_left, and_right, find_all, from_le, same_some}
use Rattle.sds_doclaws.proofs.Rows.{IsName}
use Rattle.sds_doclaws.proofs.Values.{IsFit, null_fits, text_fits}
use Rattle.sds_doclaws.proofs.Weights.{characters_most, cost, cost_is, escaped_append, weight}

-- PIECES of a text that is fit
scalars_parts : (xs ys : List ℕ) → all_scalars (xs ++ ys) ≡ true → (all_scalars xs ≡ true) × (all_scalars ys ≡ true)
scalars_parts [] ys are = (refl, are)
scalars_parts (a ∷ xs) ys are = on _ are (λ rest. scalars_parts xs ys rest)
  where
    on : (first : Bool) → (first && all_scalars (xs ++ ys)) ≡ true → (all_scalars (xs ++ ys) ≡ true → (all_scalars xs ≡ true) × (all_scalars ys ≡ true))
        → ((first && all_scalars xs) ≡ true) × (all_scalars ys ≡ true)
    on true both rest = rest both
    on false both rest = absurd (true≢false (sym both))

weight_parts : (xs ys : List ℕ) → weight (xs ++ ys) ≡ weight xs + weight ys
weight_parts xs ys = ap (λ bytes. length (escaped bytes)) (encodes-append xs ys)
    ∙ (ap length (escaped_append (encode_utf8_all xs) (encode_utf8_all ys)) ∙ length-append (escaped (encode_utf8_all xs)) (escaped (encode_utf8_all ys)))

text_weight : (text : List ℕ) → IsFit (Text text) → weight text ≤ 8000
text_weight text fit = on (cost (Text text)) (weight text) (cost_is text) fit.short
  where
    on : (n w : ℕ) → n ≡ w + 3 → n ≤ 8003 → w ≤ 8000
    on n w same less = omega (arith, same, less)

parts_fit : (text xs ys : List ℕ) → xs ++ ys ≡ text → IsFit (Text text) → IsFit (Text xs) × IsFit (Text ys)
parts_fit text xs ys same fit =
    let scalars = scalars_parts xs ys (ap all_scalars same ∙ fit.text) in
    let sum = sym (ap weight same) ∙ weight_parts xs ys in (
      text_fits xs scalars.0 (first (weight text) (weight xs) (weight ys) sum (text_weight text fit)),
      text_fits ys scalars.1 (second (weight text) (weight xs) (weight ys) sum (text_weight text fit)),
    )
  where
    first : (n a b : ℕ) → n ≡ a + b → n ≤ 8000 → a ≤ 8000
    first n a b same less = omega (arith, same, less)

    second : (n a b : ℕ) → n ≡ a + b → n ≤ 8000 → b ≤ 8000
    second n a b same less = omega (arith, same, less)

take_fits : (n : ℕ) (text : List ℕ) → IsFit (Text text) → IsFit (Text (take n text))
take_fits n text fit = (parts_fit text (take n text) (drop n text) (take-append-drop n text) fit).0

drop_fits : (n : ℕ) (text : List ℕ) → IsFit (Text text) → IsFit (Text (drop n text))
drop_fits n text fit = (parts_fit text (take n text) (drop n text) (take-append-drop n text) fit).1

piece_fits : (piece : Substring) (text : List ℕ) → IsFit (Text text) → IsFit (Text (piece_of piece text))
piece_fits piece text fit = on piece.end
  where
    on : (end : Option ℕ) → IsFit (Text (elim end [ None ↦ drop piece.first text | Some e ↦ take (Rattle.std.proofs.Common.◌-◌ e piece.first) (drop piece.first text) ]))
    on None = drop_fits piece.first text fit
    on (Some e) = take_fits _ (drop piece.first text) (drop_fits piece.first text fit)

-- NAMES
pub name_fits : (name : List ℕ) → IsName name → IsFit (Text name)
name_fits name is = text_fits name
    (ap all_scalars (sym (chars-IsAscii name (name_ascii name is))) ∙ scalars-chars name (IsUtf8-from_ascii name (name_ascii name is)))
    (on (weight name) (length name) (characters_most name)
    (from_le (length name) 50 (and_left _ _ (and_right _ _ is))))
  where
    on : (w n : ℕ) → w ≤ 4 * n → n ≤ 50 → w ≤ 8000
    on w n first second = omega (arith, first, second)

-- TEXTS OF AN EXPRESSION, which has at most 2,000 characters
expression_fits : (text : List ℕ) → all_scalars text ≡ true → length text ≤ 2000 → weight text ≤ 8000
expression_fits text are few = on (weight text) (length text) (characters_most text) few
  where
    on : (w n : ℕ) → w ≤ 4 * n → n ≤ 2000 → w ≤ 8000
    on w n first second = omega (arith, first, second)

-- the two sides of an ASCII byte in UTF-8
byte_at : (xs ys : List ℕ) (c : ℕ) → get_or (xs ++ c ∷ ys) (length xs) 0 ≡ c
byte_at [] ys c = refl
byte_at (x ∷ xs) ys c = byte_at xs ys c

drop_past : (xs ys : List ℕ) (c n : ℕ) → n ≡ length xs + 1 → drop n (xs ++ c ∷ ys) ≡ ys
drop_past [] ys c n is = let one : n ≡ 1 = omega (arith, is) in ap (λ k. drop k (c ∷ ys)) one
drop_past (x ∷ xs) ys c zero is = absurd (omega (arith, is))
drop_past (x ∷ xs) ys c (suc n) is = drop_past xs ys c n (omega (arith, is))

utf8_parts : (xs ys : List ℕ) (c : ℕ) → c < 128 → IsUtf8 (xs ++ c ∷ ys) → IsUtf8 xs × IsUtf8 ys
utf8_parts xs ys c small utf8 =
    let within : length xs < length (xs ++ c ∷ ys) = inside (length (xs ++ c ∷ ys)) (length xs) (length ys) (length-append xs (c ∷ ys)) in
    let low : get_or (xs ++ c ∷ ys) (length xs) 0 < 128 = subst (λ (b : ℕ). b < 128) (sym (byte_at xs ys c)) small in (
      subst IsUtf8 (take_at xs (c ∷ ys) (length xs) refl) (IsUtf8-take (xs ++ c ∷ ys) (length xs) utf8 (IsCharBoundary-before_ascii (xs ++ c ∷ ys) (length xs) within low)),
      subst IsUtf8 (drop_past xs ys c (length xs + 1) refl)
          (IsUtf8-drop (xs ++ c ∷ ys) (length xs + 1) utf8 (IsCharBoundary-after_ascii (xs ++ c ∷ ys) (length xs) utf8 within low)),
    )
  where
    inside : (n a b : ℕ) → n ≡ a + suc b → a < n
    inside n a b same = omega (arith, same)

-- PAIRS of a value map
abbrev HasFitTarget : MapPair → Type 0
HasFitTarget pair = IsFit (Text pair.target)

escapes_parts : (xs ys : List ℕ) → length (escaped (xs ++ ys)) ≡ length (escaped xs) + length (escaped ys)
escapes_parts xs ys = ap length (escaped_append xs ys) ∙ length-append (escaped xs) (escaped ys)

pair_fits : (pair : MapPair) (text : List ℕ) → IsUtf8 text → length (escaped text) ≤ 8000 → PairOf pair text → HasFitTarget pair
pair_fits pair text utf8 few is =
    let target : IsUtf8 is.target = (utf8_parts is.source is.target 61 (omega arith) (subst IsUtf8 is.is utf8)).1 in
    let less : length (escaped is.target) ≤ 8000 = on (length (escaped text)) (length (escaped is.source)) (length (escaped is.target))
    (ap (λ bs. length (escaped bs)) is.is ∙ escapes_parts is.source (61 ∷ is.target)) few in
    subst (λ (t : List ℕ). IsFit (Text t)) is.target_is
    (text_fits (chars is.target) (scalars-chars is.target target)
    (subst (λ (bs : List ℕ). length (escaped bs) ≤ 8000) (sym (encodes-chars is.target target)) less))
  where
    on : (n a b : ℕ) → n ≡ a + suc b → n ≤ 8000 → b ≤ 8000
    on n a b same less = omega (arith, same, less)

pairs_fit : (pairs : List MapPair) (text : List ℕ) → IsUtf8 text → length (escaped text) ≤ 8000 → PairsOf pairs text → All HasFitTarget pairs
pairs_fit [] text utf8 few is = absurd is
pairs_fit (pair ∷ []) text utf8 few is = All-cons HasFitTarget pair [] (pair_fits pair text utf8 few is) (All-nil HasFitTarget)
pairs_fit (pair ∷ next ∷ pairs) text utf8 few (a, b, whole, first, (space, rest, same, blank, others)) =
    let joined : text ≡ a ++ 32 ∷ rest = whole ∙ ap (λ l. a ++ l) (same ∙ ap (λ l. l ++ rest) blank) in
    let parts = utf8_parts a rest 32 (omega arith) (subst IsUtf8 joined utf8) in
    let sum = ap (λ bs. length (escaped bs)) joined ∙ escapes_parts a (32 ∷ rest) in
    All-cons HasFitTarget pair (next ∷ pairs)
    (pair_fits pair a parts.0 (left (length (escaped text)) (length (escaped a)) (length (escaped rest)) sum few) first)
    (pairs_fit (next ∷ pairs) rest parts.1 (right (length (escaped text)) (length (escaped a)) (length (escaped rest)) sum few) others)
  where
    left : (n a b : ℕ) → n ≡ a + suc b → n ≤ 8000 → a ≤ 8000
    left n a b same less = omega (arith, same, less)

    right : (n a b : ℕ) → n ≡ a + suc b → n ≤ 8000 → b ≤ 8000
    right n a b same less = omega (arith, same, less)

target_fits : (pairs : List MapPair) (text target : List ℕ) → All HasFitTarget pairs → target_of pairs text ≡ Some target → IsFit (Text target)
target_fits pairs text target are is = on (find (λ (pair : MapPair). bytes_eq pair.source text) pairs) refl is
  where
    on : (found : Option MapPair) → find (λ (pair : MapPair). bytes_eq pair.source text) pairs ≡ found
        → option_map (λ (pair : MapPair). pair.target) found ≡ Some target → IsFit (Text target)
    on None is none = absurd (cc)
    on (Some pair) is same = subst (λ (t : List ℕ). IsFit (Text t)) (same_some pair.target target same)
        (find_all HasFitTarget (λ (p : MapPair). bytes_eq p.source text) pairs pair are is)

mapped_fits : (pairs : List MapPair) (text : List ℕ) → All HasFitTarget pairs → IsFit (mapped_text pairs text)
mapped_fits pairs text are = on (target_of pairs text) refl (target_of pairs (codes "*")) refl
  where
    on : (here : Option (List ℕ)) → target_of pairs text ≡ here → (other : Option (List ℕ)) → target_of pairs (codes "*") ≡ other
        → IsFit (option_map_or (λ (target : List ℕ). Text target) (option_or here other) Null)
    on (Some target) is other also = target_fits pairs text target are is
    on None is (Some target) also = target_fits pairs (codes "*") target are also
    on None is None also = null_fits

-- COLUMNS. What each kind of expression makes
abbrev pub MakesFit : Way → ColumnExpression → Type 0
MakesFit way parsed = (source : Field) → IsFit source → IsFit (field_made way parsed source)

left_fits : (way : Way) (n : ℕ) → MakesFit way (says.Left n)
left_fits way n Null fit = null_fits
left_fits way n (Text text) fit = take_fits n text fit

substr_fits : (way : Way) (piece : Substring) → MakesFit way (says.Substr piece)
substr_fits way piece Null fit = null_fits
substr_fits way piece (Text text) fit = piece_fits piece text fit

map_fits : (way : Way) (pairs : List MapPair) → All HasFitTarget pairs → MakesFit way (says.ValueMap pairs)
map_fits way pairs are Null fit = null_fits
map_fits way pairs are (Text text) fit = mapped_fits pairs text are

node_fits : (way : Way) (node : NodeWord) → IsName way.source → IsName way.target → MakesFit way (says.Variable node)
node_fits way SourceNode from to source fit = name_fits way.source from
node_fits way TargetNode from to source fit = name_fits way.target to

by_option : {X : Type 0} (P : ColumnExpression → Type 0) (f : X → ColumnExpression) (o : Option X) (parsed : ColumnExpression)
    → option_map f o ≡ Some parsed → ((x : X) → o ≡ Some x → P (f x)) → P parsed
by_option P f None parsed is each = absurd (cc)
by_option P f (Some x) parsed is each = subst P (same_some (f x) parsed is) (each x refl)

pub made_fits : (way : Way) (k : ColumnKind) (text : List ℕ) (parsed : ColumnExpression) → IsName way.source → IsName way.target
    → all_scalars text ≡ true → length text ≤ 2000 → column_expression_of k text ≡ Some parsed → MakesFit way parsed
made_fits way kind.Copy text parsed from to are few is = subst (MakesFit way) (same_some says.Unused parsed is) (λ source fit. fit)
made_fits way kind.Remove text parsed from to are few is = subst (MakesFit way) (same_some says.Unused parsed is) (λ source fit. fit)
made_fits way kind.Const text parsed from to are few is =
    subst (MakesFit way) (same_some (says.Const text) parsed is) (λ source fit. text_fits text are (expression_fits text are few))
made_fits way kind.Left text parsed from to are few is =
    by_option (MakesFit way) (λ (count : ℕ). says.Left count) (left_of (encode_utf8_all text)) parsed is (λ n same. left_fits way n)
made_fits way kind.Substr text parsed from to are few is =
    by_option (MakesFit way) (λ (piece : Substring). says.Substr piece) (substr_of (encode_utf8_all text)) parsed is (λ piece same. substr_fits way piece)
made_fits way kind.ValueMap text parsed from to are few is =
    by_option (MakesFit way) (λ (pairs : List MapPair). says.ValueMap pairs) (value_map_of (encode_utf8_all text)) parsed is
    (λ pairs same. map_fits way pairs (pairs_fit pairs (encode_utf8_all text) (text, (are, refl)) (expression_fits text are few) ((value_map_says (encode_utf8_all text) pairs).0 same)))
made_fits way kind.Variable text parsed from to are few is =
    by_option (MakesFit way) (λ (node : NodeWord). says.Variable node) (variable_of (encode_utf8_all text)) parsed is (λ node same. node_fits way node from to)
made_fits way kind.Additive text parsed from to are few is =
    by_option (MakesFit way) (λ (factor : ℤ). says.Additive factor) (multiplier_of (encode_utf8_all text)) parsed is (λ factor same source fit. fit)
