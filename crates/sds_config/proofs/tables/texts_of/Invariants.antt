use Rattle.std.proofs.Common.{◌≡◌, drop, [], map, List, ℕ, Bor}
use Rattle.toml.specs.View.{items_view}
use Rattle.sds_config.specs.TableEntries as wanted
use Rattle.sds_config.proofs.tables.texts_of.Given as goal

-- the texts so far and those of the items that are left
abbrev pub invariant-loop-item : goal.invariant-loop-item
invariant-loop-item l = wanted.texts_from (map (λ (t : Bor (List ℕ)). t.now) l.texts.items) (items_view (drop l.item-index l.items)) ≡ wanted.texts_from [] (items_view l.items)
