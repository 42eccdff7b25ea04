-- The configuration of the tests is sound.
use Rattle.std.proofs.Common.{◌≡◌, ◌≢◌, ℕ, List, [], ◌∷◌, ◌++◌, false, refl, sym, ap, ◌∙◌, arith, true≢false, All, AllPairs}
use Rattle.std.proofs.lemmas.List.Elements.{All-nil, All-cons}
use Rattle.std.proofs.lemmas.List.Kept.{AllPairs-cons}
use Rattle.std.specs.Prelude.{codes}
use Rattle.std.specs.Str.{bytes_eq}
use Rattle.sds_types.specs.declared.channel.ChannelDef.{ChannelDef}
use Rattle.sds_trade.specs.rules.Sound.{IsSound}
use Rattle.sds_trade.specs.sound.Sections.{AreChannels, IsChannel}
use Rattle.sds_trade.specs.worked.Entries.{channel_def}
use Rattle.sds_imagelaws.proofs.Tests.{itself}
use Rattle.sds_received.specs.TwoChannels.{two_channels}

-- LISTS of none and of two
no_pairs : {A : Type 0} (R : A → A → Type 0) → AllPairs R []
no_pairs R i j d below within = absurd (omega (arith, within))

two : {A : Type 0} (P : A → Type 0) (a b : A) → P a → P b → All P (a ∷ b ∷ [])
two P a b first second = All-cons P a (b ∷ []) first (All-cons P b [] second (All-nil P))

both_apart : {A : Type 0} (R : A → A → Type 0) (a b : A) → R a b → AllPairs R (a ∷ b ∷ [])
both_apart R a b apart =
    AllPairs-cons R a (b ∷ []) (All-cons (R a) b [] apart (All-nil (R a))) (AllPairs-cons R b [] (All-nil (R b)) (no_pairs R))

other : (a b : List ℕ) → bytes_eq a b ≡ false → a ≢ b
other a b differ same = true≢false (sym (itself b) ∙ (ap (λ x. bytes_eq x b) (sym same) ∙ differ))

-- a list of two that were put one after the other
pub two_put : {A : Type 0} (none first both : List A) (a b x y : A) → none ≡ [] → first ≡ none ++ a ∷ [] → both ≡ first ++ b ∷ [] → a ≡ x → b ≡ y → both ≡ x ∷ (y ∷ [])
two_put none first both a b x y empty one_in both_in is also =
    both_in ∙ (ap (λ l. l ++ b ∷ []) (one_in ∙ ap (λ l. l ++ a ∷ []) empty) ∙ (ap (λ e. e ∷ (b ∷ [])) is ∙ ap (λ e. x ∷ (e ∷ [])) also))

-- THE CONFIGURATION
abbrev orders : ChannelDef
orders = channel_def (codes "orders") 20

abbrev stock : ChannelDef
stock = channel_def (codes "stock") 10

orders_sound : IsChannel orders
orders_sound = record { named = refl; order = omega arith; size = omega arith; size_end = omega arith; count = omega arith; count_end = omega arith }

stock_sound : IsChannel stock
stock_sound = record { named = refl; order = omega arith; size = omega arith; size_end = omega arith; count = omega arith; count_end = omega arith }

channels_sound : AreChannels two_channels.channels
channels_sound = record {
  few = omega arith;
  each = two IsChannel orders stock orders_sound stock_sound;
  apart = both_apart (λ (a b : ChannelDef). a.id ≢ b.id) orders stock (other (codes "orders") (codes "stock") refl);
}

pub two_channels_sound : IsSound two_channels
two_channels_sound = record {
  groups = record { few = omega arith; named = All-nil _; apart = λ i j d below within. absurd (omega (arith, within)) };
  links = record { few = omega arith; source = All-nil _; target = All-nil _; apart = λ i j d below within. absurd (omega (arith, within)) };
  channels = channels_sound;
  tables = record { few = omega arith; named = All-nil _; apart = λ i j d below within. absurd (omega (arith, within)); columns = All-nil _; keys = All-nil _; references = All-nil _ };
  triggers = record { few = omega arith; each = All-nil _; apart = λ i j d below within. absurd (omega (arith, within)); single = λ i j d below within. absurd (omega (arith, within)) };
  routers = record { few = omega arith; each = All-nil _; apart = λ i j d below within. absurd (omega (arith, within)) };
  trigger_routers = record { few = omega arith; each = All-nil _; apart = λ i j d below within. absurd (omega (arith, within)) };
  transforms = record { few = omega arith; each = All-nil _; apart = λ i j d below within. absurd (omega (arith, within)) };
  conflicts = record { few = omega arith; each = All-nil _; apart = λ i j d below within. absurd (omega (arith, within)) };
}
