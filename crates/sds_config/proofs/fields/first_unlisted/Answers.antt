use Rattle.std.proofs.Common.{◌≡◌, ◌∷◌, ◌∙◌, sym, map, List, ℕ, Bor}
use Rattle.toml.proofs.Views.{Entry}
use Rattle.sds_config.proofs.Least.{found_first, passed_over}
use Rattle.sds_config.proofs.fields.first_unlisted.Goals as goal

pub returns-then-not-is_listed : goal.returns-then-not-is_listed
returns-then-not-is_listed c =
    let (same, sorted) = c.loop-key.invariant in
    let e : Entry = (c.in-Some.key.now, c.in-Some._value.now) in
    found_first (map (λ (n : Bor (List ℕ)). n.now) c.args.names.now) e c.next.new.self c.loop-key.key-iterator c.args.table.now.entries
    c.as_str.result.now c.as_str-then-not-is_listed.result.now c.in-Some.ensures.steps sorted same
    (sym c.is_listed.ensures ∙ c.if-not-is_listed.true) c.as_str.ensures.value c.as_str-then-not-is_listed.ensures.value

pub loop-key-preserved : goal.loop-key-preserved
loop-key-preserved c =
    let (same, sorted) = c.loop-key.invariant in
    let e : Entry = (c.in-Some.key.now, c.in-Some._value.now) in
    passed_over (map (λ (n : Bor (List ℕ)). n.now) c.args.names.now) e c.next.new.self c.loop-key.key-iterator c.args.table.now.entries
    c.as_str.result.now c.in-Some.ensures.steps sorted same (sym c.is_listed.ensures ∙ c.if-not-is_listed.false) c.as_str.ensures.value
