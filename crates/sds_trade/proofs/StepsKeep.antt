-- After every step that breaks no rule the references hold: of the rows that it leaves alone, and of the new one.
use Rattle.std.proofs.Common.{◌≡◌, ℕ, Bool, true, false, not, ◌&&◌, List, [], ◌∷◌, refl, sym, true≢false, All, filter, get_or, inl, inr, ◌⊎◌, is_lt}
use Rattle.std.specs.List.{list_any}
use Rattle.std.proofs.lemmas.List.Elements.{All-append, All-cons, All-filter, All-nil}
use Rattle.sds_value.specs.declared.table.TableDef.{TableDef}
use Rattle.sds_types.specs.declared.row.Key.{Key}
use Rattle.sds_types.specs.declared.row.RowStep.TheVariants.{Insert, Update, Delete}
use Rattle.sds_types.specs.declared.row.TableRow.{TableRow}
use Rattle.sds_trade.specs.laws.Tables.{StepsKeepReferences}
use Rattle.sds_trade.specs.rules.StepRules.{step_breaks, step_rules}
use Rattle.sds_trade.specs.rules.Steps.{with_row, without_row}
use Rattle.sds_trade.specs.rules.Tables.{ReferencesHold, finds_parents, has_row, is_at, references_of, refers_to, row_order}
use Rattle.sds_trade.proofs.Lists.{none_found}
use Rattle.sds_trade.proofs.ReferenceLaws.{Keeps, all_more, not_false, or_left, or_right, row_on, with_row_has, without_has}

orphan : (a b : Bool) → (a && not b) ≡ false → a ≡ true → b ≡ true
orphan true b none is = not_false b none
orphan false b none is = absurd (true≢false (sym is))

left_by : {A B C : Type 0} → (A → C) → A ⊎ B → C ⊎ B
left_by f (inl a) = inl (f a)
left_by f (inr b) = inr b

-- an element that passes is reason enough
each_counts : {X : Type 0} (p : X → Bool) (xs : List X) → All (λ x. p x ≡ true → list_any p xs ≡ true) xs
each_counts {X} p [] = All-nil (λ (x : X). p x ≡ true → list_any p [] ≡ true)
each_counts {X} p (x ∷ xs) = All-cons (λ (y : X). p y ≡ true → list_any p (x ∷ xs) ≡ true) x xs (λ is. or_left (p x) (list_any p xs) is)
    (λ k d within is. or_right (p x) (list_any p xs) (each_counts p xs k d within is))

all_with_row : (P : TableRow → Type 0) (defs : List TableDef) (rows : List TableRow) (new : TableRow) → All P rows → P new → All P (with_row defs rows new)
all_with_row P defs rows new are holds =
    let below = λ (row : TableRow). is_lt (row_order defs row new) in
    let above = λ (row : TableRow). is_lt (row_order defs new row) in
    All-append P (filter below rows) (new ∷ filter above rows) (All-filter below P rows are)
    (All-cons P new (filter above rows) holds (All-filter above P rows are))

-- the rows that a step leaves alone
abbrev Finds : List TableDef → List TableRow → TableRow → Type 0
Finds defs rows row = finds_parents defs rows row.table row.row ≡ true

others_find : (defs : List TableDef) (rows after : List TableRow) (table : ℕ) (old : Key) → Keeps defs rows after table old
    → (list_any (refers_to defs table old) (without_row defs rows table old) && not (has_row defs after table old)) ≡ false
    → ReferencesHold defs rows → All (Finds defs after) (without_row defs rows table old)
others_find defs rows after table old keeps none hold k d within =
    let others = without_row defs rows table old in
    let row = get_or others k d in
    row_on defs rows after table old row (refers_to defs table old row) refl keeps
    (All-filter (λ (row : TableRow). not (is_at defs table old row)) (Finds defs rows) rows hold k d within)
    (λ refers. orphan (list_any (refers_to defs table old) others) (has_row defs after table old) none
    (each_counts (refers_to defs table old) others k d within refers))

pub steps_keep_references : StepsKeepReferences
steps_keep_references defs rows (Insert table row) none hold =
    let new : TableRow = record { table = table; row = row } in
    let after = with_row defs rows new in
    let fails = none_found (step_breaks defs rows (Insert table row)) step_rules none in
    all_with_row (Finds defs after) defs rows new
    (λ k d within. let kept = get_or rows k d in
    all_more (λ (reference : ℕ × Key). has_row defs rows reference.0 reference.1) (λ (reference : ℕ × Key). has_row defs after reference.0 reference.1)
    (references_of defs kept.table kept.row) (λ reference has. with_row_has defs rows new reference.0 reference.1 has) (hold k d within))
    (not_false (finds_parents defs after table row) fails.1.1.1.0)
steps_keep_references defs rows (Update table old row) none hold =
    let new : TableRow = record { table = table; row = row } in
    let others = without_row defs rows table old in
    let after = with_row defs others new in
    let fails = none_found (step_breaks defs rows (Update table old row)) step_rules none in
    let keeps : Keeps defs rows after table old = λ parent key has. left_by (with_row_has defs others new parent key) (without_has defs rows table old parent key has) in
    all_with_row (Finds defs after) defs others new
    (others_find defs rows after table old keeps fails.1.1.1.1.0 hold)
    (not_false (finds_parents defs after table row) fails.1.1.1.0)
steps_keep_references defs rows (Delete table old) none hold =
    let others = without_row defs rows table old in
    let fails = none_found (step_breaks defs rows (Delete table old)) step_rules none in
    others_find defs rows others table old (λ parent key has. without_has defs rows table old parent key has) fails.1.1.1.1.0 hold
