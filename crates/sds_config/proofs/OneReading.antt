-- A file writes one configuration, or has one first refusal.
use Rattle.std.proofs.Common.{◌≡◌, inl, inr, ℕ, ◌<◌, ◌≤◌, ◌^◌, List, length, Some, Result, Ok, Err, sym, ap, ◌∙◌, arith}
use Rattle.toml.specs.Data.{Members}
use Rattle.sds_types.specs.declared.config.Config.{Config}
use Rattle.sds_types.specs.declared.config_refusal.ConfigRefusal.{ConfigRefusal}
use Rattle.sds_types.specs.declared.config_refusal.ConfigRefusal.TheVariants.{NotToml}
use Rattle.sds_config.specs.Configuration.{config_of, IsTree, IsConfiguration, IsFirstRefusal, without_place}

some_same : (a b : Members) → Some a ≡ Some b → a ≡ b
some_same a b is = cc

abbrev Read : Config → Result Config ConfigRefusal
Read config = Ok config

abbrev Refused : ConfigRefusal → Result Config ConfigRefusal
Refused refusal = Err refusal

ok_same : (a b : Config) → Read a ≡ Read b → a ≡ b
ok_same a b is = cc

err_same : (a b : ConfigRefusal) → Refused a ≡ Refused b → a ≡ b
err_same a b is = cc

ok_or_err : (c : Config) (r : ConfigRefusal) (o : Result Config ConfigRefusal) → o ≡ Ok c → o ≡ Err r → ⊥
ok_or_err c r o is other = cc

one_tree : (file : List ℕ) (a b : Members) → IsTree file a → IsTree file b → a ≡ b
one_tree file a b first second = some_same a b (sym first.1 ∙ second.1)

pub one_configuration : (file : List ℕ) (a b : Config) → IsConfiguration file a → IsConfiguration file b → a ≡ b
one_configuration file a b (few, (tree, is_tree, answer)) (few', (tree', is_tree', answer')) =
    let same : tree ≡ tree' = one_tree file tree tree' is_tree is_tree' in ok_same a b (sym answer ∙ (ap config_of same ∙ answer'))

pub far : (n : ℕ) → n ≤ 2 ^ 20 → 2 ^ 20 < n → ⊥
far n few many = omega (arith, few, many)

pub not_both : (file : List ℕ) (config : Config) (refusal : ConfigRefusal) → IsConfiguration file config → IsFirstRefusal file refusal → ⊥
not_both file config refusal (few, (tree, is_tree, answer)) (inl (many, is)) = far (length file) few many
not_both file config refusal (few, (tree, is_tree, answer)) (inr (inl (few', none, is))) = none tree is_tree
not_both file config refusal (few, (tree, is_tree, answer)) (inr (inr (few', (tree', is_tree', answer')))) =
    let same : tree ≡ tree' = one_tree file tree tree' is_tree is_tree' in ok_or_err config refusal (config_of tree') (ap config_of (sym same) ∙ answer) answer'

placeless : (a b : ConfigRefusal) (l c l' c' : ℕ) → a ≡ NotToml l c → b ≡ NotToml l' c' → without_place a ≡ without_place b
placeless a b l c l' c' is is' = ap without_place is ∙ sym (ap without_place is')

pub one_refusal : (file : List ℕ) (a b : ConfigRefusal) → IsFirstRefusal file a → IsFirstRefusal file b → without_place a ≡ without_place b
one_refusal file a b (inl (many, is)) (inl (many', is')) = ap without_place (is ∙ sym is')
one_refusal file a b (inl (many, is)) (inr (inl (few, none, other))) = absurd (far (length file) few many)
one_refusal file a b (inl (many, is)) (inr (inr (few, other))) = absurd (far (length file) few many)
one_refusal file a b (inr (inl (few, none, other))) (inl (many, is)) = absurd (far (length file) few many)
one_refusal file a b (inr (inl (few, none, (l, (c, (at, is)))))) (inr (inl (few', none', (l', (c', (at', is')))))) = placeless a b l c l' c' is is'
one_refusal file a b (inr (inl (few, none, is))) (inr (inr (few', (tree, is_tree, answer)))) = absurd (none tree is_tree)
one_refusal file a b (inr (inr (few, other))) (inl (many, is)) = absurd (far (length file) few many)
one_refusal file a b (inr (inr (few, (tree, is_tree, answer)))) (inr (inl (few', none, is))) = absurd (none tree is_tree)
one_refusal file a b (inr (inr (few, (tree, is_tree, answer)))) (inr (inr (few', (tree', is_tree', answer')))) =
    let same : tree ≡ tree' = one_tree file tree tree' is_tree is_tree' in ap without_place (err_same a b (sym answer ∙ (ap config_of same ∙ answer')))
