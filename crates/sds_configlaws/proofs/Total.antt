-- Each file is a configuration or has a refusal.
use Rattle.std.proofs.Common.{◌≡◌, ℕ, ◌<◌, ◌≤◌, Bool, true, false, List, length, Option, None, Some, Result, Ok, Err, refl, sym, ap, ◌∙◌, true≢false, inl, inr, ◌⊎◌, arith}
use Rattle.std.specs.Prelude.{codes, nat_le}
use Rattle.std.specs.Str.{IsUtf8, chars, is_utf8}
use Rattle.std.proofs.lemmas.Bool.Decides.{nat_tests}
use Rattle.std.proofs.lemmas.Str.{IsUtf8-from_is_utf8, is_utf8-from_IsUtf8}
use Rattle.toml.specs.Data.{Members}
use Rattle.toml.specs.Parse.{parse_document}
use Rattle.sds_types.specs.declared.config.Config.{Config}
use Rattle.sds_types.specs.declared.config_refusal.ConfigRefusal.{ConfigRefusal}
use Rattle.sds_types.specs.declared.config_refusal.ConfigRefusal.TheVariants.{NotToml, TooMany}
use Rattle.sds_config.specs.Configuration.{IsConfiguration, IsFirstRefusal, IsTree, config_of, most_bytes}
use Rattle.sds_config.specs.Positions.{IsPosition}
use Rattle.sds_configlaws.proofs.Gave.{Answer, below, no_value}

-- what a file gives
abbrev pub Given : List ℕ → Type 0
Given file = ((config : Config) × IsConfiguration file config) ⊎ ((refusal : ConfigRefusal) × IsFirstRefusal file refusal)

above : (n most : ℕ) → nat_le n most ≡ false → most < n
above n most is = grind (arith, nat_tests)

some_place : (n : ℕ) → 0 ≤ n
some_place n = omega arith

first_place : (file : List ℕ) → IsPosition file 1 1
first_place file = (0, (some_place (length file), (refl, refl)))

-- no tree is written
no_tree : (file : List ℕ) → length file ≤ most_bytes → ((tree : Members) → IsTree file tree → ⊥) → Given file
no_tree file few none = inr (NotToml 1 1, inr (inl (few, none, (1, (1, (first_place file, refl))))))

tree_read : (file : List ℕ) (tree : Members) (answer : Answer Config) → length file ≤ most_bytes → IsTree file tree → config_of tree ≡ answer → Given file
tree_read file tree (Ok config) few is_tree is = inl (config, (few, (tree, is_tree, is)))
tree_read file tree (Err refusal) few is_tree is = inr (refusal, inr (inr (few, (tree, is_tree, is))))

parsed : (file : List ℕ) (found : Option Members) → length file ≤ most_bytes → IsUtf8 file → parse_document file ≡ found → Given file
parsed file None few utf8 is = no_tree file few (λ tree is_tree. no_value tree (sym is_tree.1 ∙ is))
parsed file (Some tree) few utf8 is = tree_read file tree (config_of tree) few (utf8, is) refl

decoded : (file : List ℕ) (b : Bool) → length file ≤ most_bytes → is_utf8 file ≡ b → Given file
decoded file true few is = parsed file (parse_document file) few (IsUtf8-from_is_utf8 file is) refl
decoded file false few is =
    no_tree file few (λ tree is_tree. true≢false (sym (is_utf8-from_IsUtf8 file is_tree.0) ∙ is))

sized : (file : List ℕ) (b : Bool) → nat_le (length file) most_bytes ≡ b → Given file
sized file true is = decoded file (is_utf8 file) (below (length file) most_bytes is) refl
sized file false is = inr (TooMany (chars (codes "file")), inl (above (length file) most_bytes is, refl))

pub files_are_read : (file : List ℕ) → Given file
files_are_read file = sized file (nat_le (length file) most_bytes) refl
