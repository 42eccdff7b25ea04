-- The records of two lanes have different keys, since no channel's name has a slash.
use Rattle.std.proofs.Common.{◌≡◌, ◌≢◌, ℕ, zero, suc, ◌<◌, true, List, [], ◌∷◌, ◌++◌, length, refl, sym, ap, subst, ◌∙◌, arith, true≢false, ◌&&◌, All, AllPairs}
use Rattle.std.specs.List.{list_all}
use Rattle.std.specs.Option.{option_map_or}
use Rattle.std.specs.Prelude.{nat_le, slice_get}
use Rattle.std.specs.Str.{encode_utf8_all}
use Rattle.std.proofs.lemmas.List.Elements.{All-nil, All-cons}
use Rattle.std.proofs.lemmas.Str.{encodes_same}
use Rattle.sds_value.specs.Names.{is_name_character, is_name_text}
use Rattle.sds_types.specs.declared.channel.ChannelDef.{ChannelDef}
use Rattle.sds_types.specs.declared.config.Config.{Config}
use Rattle.sds_trade.proofs.Lists.{all_head, all_tail, pairs_head, pairs_tail}
use Rattle.sds_trade.specs.rules.Sound.{IsSound}
use Rattle.sds_trade.specs.sound.Sections.{IsChannel}
use Rattle.sds_batchtext.proofs.PlainLines.{encoded}
use Rattle.sds_history.specs.history.Lanes.{channel_name}
use Rattle.sds_history.specs.history.Orders.{pair_key}
use Rattle.sds_nodelaws.proofs.Held.{mapped}
use Rattle.sds_nodelaws.proofs.Lists.{all_in, and_left, and_right, in_last}
use Rattle.sds_nodelaws.proofs.Lists.Either.{left}

-- SLASHES. The last one parts a key
abbrev NoSlash : List ℕ → Type 0
NoSlash text = All (λ (c : ℕ). 47 ≢ c) text

no_slash_after : (xs ys rest : List ℕ) → NoSlash rest → rest ≡ xs ++ 47 ∷ ys → ⊥
no_slash_after xs ys rest none same =
    all_in (λ (c : ℕ). 47 ≢ c) 47 (xs ++ 47 ∷ ys) (subst NoSlash same none) (in_last 47 xs (47 ∷ ys) (left refl)) refl

abbrev tail_of : List ℕ → List ℕ
tail_of [] = []
tail_of (x ∷ xs) = xs

abbrev head_of : List ℕ → ℕ
head_of [] = 0
head_of (x ∷ xs) = x

parted : (xs ys us vs : List ℕ) → NoSlash ys → NoSlash vs → xs ++ 47 ∷ ys ≡ us ++ 47 ∷ vs → (xs ≡ us) × (ys ≡ vs)
parted [] ys [] vs first second same = (refl, ap tail_of same)
parted [] ys (u ∷ us) vs first second same = absurd (no_slash_after us vs ys first (ap tail_of same))
parted (x ∷ xs) ys [] vs first second same = absurd (no_slash_after xs ys vs second (sym (ap tail_of same)))
parted (x ∷ xs) ys (u ∷ us) vs first second same =
    let rest = parted xs ys us vs first second (ap tail_of same) in
    (ap (λ l. x ∷ l) rest.0 ∙ ap (λ c. c ∷ us) (ap head_of same), rest.1)

-- NAMES
not_slash : (c : ℕ) → is_name_character c ≡ true → 47 ≢ c
not_slash c is same = absurd (true≢false (sym is ∙ ap is_name_character (sym same)))

all_name : (text : List ℕ) → list_all is_name_character text ≡ true → NoSlash text
all_name [] is = All-nil (λ (c : ℕ). 47 ≢ c)
all_name (c ∷ text) is =
    All-cons (λ (d : ℕ). 47 ≢ d) c text (not_slash c (and_left (is_name_character c) (list_all is_name_character text) is))
    (all_name text (and_right (is_name_character c) (list_all is_name_character text) is))

name_text : (text : List ℕ) → is_name_text text ≡ true → NoSlash text
name_text text is =
    all_name text (and_right (nat_le (length text) 50) (list_all is_name_character text)
    (and_right (nat_le 1 (length text)) (nat_le (length text) 50 && list_all is_name_character text) is))

-- CHANNELS, by their places
abbrev pub name_in : List ChannelDef → ℕ → List ℕ
name_in channels place = option_map_or (λ (def : ChannelDef). def.id) (slice_get channels place) []

at_place : (P : List ℕ → Type 0) (channels : List ChannelDef) (place : ℕ) → All (λ (c : ChannelDef). P c.id) channels → place < length channels
    → P (name_in channels place)
at_place P [] place are less = absurd (omega (arith, less))
at_place P (channel ∷ channels) zero are less = all_head (λ (c : ChannelDef). P c.id) channel channels are
at_place P (channel ∷ channels) (suc place) are less =
    at_place P channels place (all_tail (λ (c : ChannelDef). P c.id) channel channels are) (omega (arith, less))

pub one_place : (channels : List ChannelDef) (a b : ℕ) → AllPairs (λ (c d : ChannelDef). c.id ≢ d.id) channels → a < length channels → b < length channels
    → name_in channels a ≡ name_in channels b → a ≡ b
one_place [] a b apart first second same = absurd (omega (arith, first))
one_place (channel ∷ channels) zero zero apart first second same = refl
one_place (channel ∷ channels) zero (suc b) apart first second same =
    absurd (at_place (λ name. channel.id ≢ name) channels b (pairs_head (λ (c d : ChannelDef). c.id ≢ d.id) channel channels apart) (omega (arith, second)) same)
one_place (channel ∷ channels) (suc a) zero apart first second same =
    absurd (at_place (λ name. channel.id ≢ name) channels a (pairs_head (λ (c d : ChannelDef). c.id ≢ d.id) channel channels apart) (omega (arith, first)) (sym same))
one_place (channel ∷ channels) (suc a) (suc b) apart first second same =
    ap suc (one_place channels a b (pairs_tail (λ (c d : ChannelDef). c.id ≢ d.id) channel channels apart) (omega (arith, first)) (omega (arith, second)) same)

-- two lanes of one key are one lane
pub one_lane : (config : Config) (a b : List ℕ) (c d : ℕ) → IsSound config → c < length config.channels → d < length config.channels
    → pair_key a (channel_name config c) ≡ pair_key b (channel_name config d) → (a ≡ b) × (c ≡ d)
one_lane config a b c d sound first second same =
    let names : All (λ (def : ChannelDef). is_name_text def.id ≡ true) config.channels =
    mapped IsChannel (λ (def : ChannelDef). is_name_text def.id ≡ true) config.channels (λ def is. is.named) sound.channels.each in
    let one : is_name_text (channel_name config c) ≡ true = at_place (λ name. is_name_text name ≡ true) config.channels c names first in
    let two : is_name_text (channel_name config d) ≡ true = at_place (λ name. is_name_text name ≡ true) config.channels d names second in
    let both = parted (encode_utf8_all a) (encode_utf8_all (channel_name config c)) (encode_utf8_all b) (encode_utf8_all (channel_name config d))
    (subst NoSlash (sym (encoded (channel_name config c) one)) (name_text (channel_name config c) one))
    (subst NoSlash (sym (encoded (channel_name config d) two)) (name_text (channel_name config d) two)) same in (
      encodes_same a b both.0,
      one_place config.channels c d sound.channels.apart first second (encodes_same (channel_name config c) (channel_name config d) both.1),
    )
