use Rattle.std.proofs.Common.{◌≡◌, drop, [], map, List, ℕ, Bor}
use Rattle.sds_config.specs.ColumnTexts as wanted
use Rattle.sds_config.proofs.columns.columns_of.Given as goal

-- the columns so far and those of the texts that are left
abbrev pub invariant-loop-text : goal.invariant-loop-text
invariant-loop-text l =
    wanted.columns_from l.columns.items (map (λ (t : Bor (List ℕ)). t.now) (drop l.text-index l.texts)) ≡ wanted.columns_from [] (map (λ (t : Bor (List ℕ)). t.now) l.texts)
