-- Which batches hold a change: of the batches of a lane one does, where the change is of the lane, and else none.
use Rattle.std.proofs.Common.{◌≡◌, ◌≢◌, ℕ, ◌+◌, Bool, true, false, cond, List, [], ◌∷◌, ◌++◌, map, refl, sym, ap, subst, ◌∙◌, arith, true≢false, filter, ◌||◌, ◌&&◌, ◌==◌, All, AllPairs}
use Rattle.std.specs.List.{enumerate_from, flat_map, list_any}
use Rattle.std.proofs.lemmas.Bool.Decides.{nat_tests}
use Rattle.std.proofs.lemmas.List.{map-append}
use Rattle.std.proofs.lemmas.List.Concat.{flat_map-cons}
use Rattle.std.proofs.lemmas.List.Elements.{All-nil, All-cons, filter-append}
use Rattle.std.proofs.lemmas.List.Folds.{list_any-append}
use Rattle.sds_types.specs.declared.batch.NewBatch.{NewBatch}
use Rattle.sds_types.specs.declared.row.Change.{Change}
use Rattle.sds_trade.proofs.Lists.{all_head, all_tail, pairs_head, pairs_tail}
use Rattle.sds_trade.specs.rules.Batches.{batch_in, is_for, lane_changes, numbered_batch}
use Rattle.sds_trade.specs.rules.Cuts.{changes_in}
use Rattle.sds_nodelaws.proofs.Tests.{or_cases, other_number, same_number}

-- TESTS
pub equal_itself : (a : ℕ) → (a == a) ≡ true
equal_itself a = grind (arith, nat_tests)

-- LISTS
pub any_map : {X Y : Type 0} (p : X → Bool) (f : Y → X) (ys : List Y) → list_any p (map f ys) ≡ list_any (λ y. p (f y)) ys
any_map p f [] = refl
any_map p f (y ∷ ys) = ap (λ b. p (f y) || b) (any_map p f ys)

pub flat_same : {X Y : Type 0} (f g : X → List Y) (xs : List X) → All (λ x. f x ≡ g x) xs → flat_map f xs ≡ flat_map g xs
flat_same f g [] same = refl
flat_same f g (x ∷ xs) same =
    flat_map-cons f x xs ∙ (ap (λ ys. ys ++ flat_map f xs) (all_head (λ y. f y ≡ g y) x xs same)
    ∙ (ap (λ ys. g x ++ ys) (flat_same f g xs (all_tail (λ y. f y ≡ g y) x xs same)) ∙ sym (flat_map-cons g x xs)))

pub all_of : {X : Type 0} (P : X → Type 0) (xs : List X) → ((x : X) → P x) → All P xs
all_of P xs each k d within = each _

pub mapped : {X : Type 0} (P Q : X → Type 0) (xs : List X) → ((x : X) → P x → Q x) → All P xs → All Q xs
mapped P Q xs each are k d within = each _ (are k d within)

pub last_all : {X : Type 0} (P : X → Type 0) (xs ys : List X) → All P (xs ++ ys) → All P ys
last_all P [] ys are = are
last_all P (x ∷ xs) ys are = last_all P xs ys (all_tail P x (xs ++ ys) are)

pub first_all : {X : Type 0} (P : X → Type 0) (xs ys : List X) → All P (xs ++ ys) → All P xs
first_all P [] ys are = All-nil P
first_all P (x ∷ xs) ys are = All-cons P x xs (all_head P x (xs ++ ys) are) (first_all P xs ys (all_tail P x (xs ++ ys) are))

-- HELD. The peers of the batches that hold a change
abbrev pub holds_id : ℕ → NewBatch → Bool
holds_id id batch = list_any (λ (other : ℕ). other == id) batch.changes

abbrev pub held : ℕ → List NewBatch → List ℕ
held id batches = map (λ (batch : NewBatch). batch.peer) (filter (holds_id id) batches)

pub held_append : (id : ℕ) (xs ys : List NewBatch) → held id (xs ++ ys) ≡ held id xs ++ held id ys
held_append id xs ys =
    ap (map (λ (batch : NewBatch). batch.peer)) (filter-append (holds_id id) xs ys)
    ∙ map-append (λ (batch : NewBatch). batch.peer) (filter (holds_id id) xs) (filter (holds_id id) ys)

pub held_flat : {X : Type 0} (id : ℕ) (f : X → List NewBatch) (xs : List X) → held id (flat_map f xs) ≡ flat_map (λ x. held id (f x)) xs
held_flat id f [] = refl
held_flat id f (x ∷ xs) =
    ap (held id) (flat_map-cons f x xs) ∙ (held_append id (f x) (flat_map f xs)
    ∙ (ap (λ ps. held id (f x) ++ ps) (held_flat id f xs) ∙ sym (flat_map-cons (λ y. held id (f y)) x xs)))

-- the number of a batch doesn't matter
numbered_on : (id : ℕ) (batch : NewBatch) (b : Bool) (xs ys : List NewBatch) (first : ℕ)
    → map (λ (b : NewBatch). b.peer) xs ≡ map (λ (b : NewBatch). b.peer) ys
    → map (λ (b : NewBatch). b.peer) (cond b (numbered_batch (first, batch) ∷ xs) xs) ≡ map (λ (b : NewBatch). b.peer) (cond b (batch ∷ ys) ys)
numbered_on id batch true xs ys first same = ap (λ ps. batch.peer ∷ ps) same
numbered_on id batch false xs ys first same = same

pub held_numbered : (id first : ℕ) (batches : List NewBatch) → held id (map numbered_batch (enumerate_from first batches)) ≡ held id batches
held_numbered id first [] = refl
held_numbered id first (batch ∷ batches) =
    numbered_on id batch (holds_id id batch) (filter (holds_id id) (map numbered_batch (enumerate_from (first + 1) batches)))
    (filter (holds_id id) batches) first (held_numbered id (first + 1) batches)

-- PIECES. Of distinct changes one piece holds each
abbrev pub Apart : Change → Change → Type 0
Apart a b = a.id ≢ b.id

abbrev pub has_id : ℕ → List Change → Bool
has_id id changes = list_any (λ (change : Change). change.id == id) changes

none_of : (id : ℕ) (changes : List Change) → All (λ (change : Change). id ≢ change.id) changes → has_id id changes ≡ false
none_of id [] apart = refl
none_of id (change ∷ changes) apart =
    ap (λ b. b || has_id id changes) (other_number id change.id (all_head (λ (c : Change). id ≢ c.id) change changes apart))
    ∙ none_of id changes (all_tail (λ (c : Change). id ≢ c.id) change changes apart)

rest_apart : (id : ℕ) (piece rest : List Change) → AllPairs Apart (piece ++ rest) → has_id id piece ≡ true → has_id id rest ≡ false
rest_apart id [] rest apart has = absurd (true≢false (sym has))
rest_apart id (change ∷ piece) rest apart has = or_cases (change.id == id) (has_id id piece) has
    (λ here. none_of id rest (subst (λ n. All (λ (c : Change). n ≢ c.id) rest) (same_number change.id id here)
    (last_all (λ (c : Change). change.id ≢ c.id) piece rest (pairs_head Apart change (piece ++ rest) apart))))
    (λ later. rest_apart id piece rest (pairs_tail Apart change (piece ++ rest) apart) later)

last_pairs : (xs ys : List Change) → AllPairs Apart (xs ++ ys) → AllPairs Apart ys
last_pairs [] ys apart = apart
last_pairs (x ∷ xs) ys apart = last_pairs xs ys (pairs_tail Apart x (xs ++ ys) apart)

piece_on : (peer : ℕ) (here rest : Bool) (later : List ℕ) → (here ≡ true → rest ≡ false) → later ≡ cond rest (peer ∷ []) []
    → cond here (peer ∷ later) later ≡ cond (here || rest) (peer ∷ []) []
piece_on peer true rest later one same = ap (λ ps. peer ∷ ps) (same ∙ ap (λ b. cond b (peer ∷ []) []) (one refl))
piece_on peer false rest later one same = same

held_cond : (peer : ℕ) (b : Bool) (batch : NewBatch) (batches : List NewBatch) → batch.peer ≡ peer
    → map (λ (b : NewBatch). b.peer) (cond b (batch ∷ batches) batches)
    ≡ cond b (peer ∷ map (λ (b : NewBatch). b.peer) batches) (map (λ (b : NewBatch). b.peer) batches)
held_cond peer true batch batches same = ap (λ p. p ∷ map (λ (b : NewBatch). b.peer) batches) same
held_cond peer false batch batches same = refl

pub held_pieces : (id channel peer : ℕ) (pieces : List (List Change)) → AllPairs Apart (changes_in pieces)
    → held id (map (batch_in channel peer) pieces) ≡ cond (has_id id (changes_in pieces)) (peer ∷ []) []
held_pieces id channel peer [] apart = refl
held_pieces id channel peer (piece ∷ pieces) apart =
    ap (λ b. map (λ (b : NewBatch). b.peer) (cond b (batch_in channel peer piece ∷ filter (holds_id id) (map (batch_in channel peer) pieces))
    (filter (holds_id id) (map (batch_in channel peer) pieces))))
    (any_map (λ (other : ℕ). other == id) (λ (change : Change). change.id) piece)
    ∙ (held_cond peer (has_id id piece) (batch_in channel peer piece) (filter (holds_id id) (map (batch_in channel peer) pieces)) refl
    ∙ (piece_on peer (has_id id piece) (has_id id (changes_in pieces)) (held id (map (batch_in channel peer) pieces))
    (λ has. rest_apart id piece (changes_in pieces) apart has)
    (held_pieces id channel peer pieces (last_pairs piece (changes_in pieces) apart))
    ∙ ap (λ b. cond b (peer ∷ []) []) (sym (list_any-append (λ (change : Change). change.id == id) piece (changes_in pieces)))))

-- LANES. The changes of a lane
abbrev pub in_lane : (Change → List ℕ) → ℕ → ℕ → Change → Bool
in_lane targets channel peer change = change.channel == channel && list_any (λ (target : ℕ). target == peer) (targets change)

lane_on : (targets : Change → List ℕ) (channel peer : ℕ) (change : Change) (b : Bool) (xs : List (Change × List ℕ)) (ys : List Change)
    → map (λ (at : Change × List ℕ). at.0) xs ≡ ys
    → map (λ (at : Change × List ℕ). at.0) (cond b ((change, targets change) ∷ xs) xs) ≡ cond b (change ∷ ys) ys
lane_on targets channel peer change true xs ys same = ap (λ cs. change ∷ cs) same
lane_on targets channel peer change false xs ys same = same

pub lane_filter : (targets : Change → List ℕ) (channel peer : ℕ) (changes : List Change)
    → lane_changes (map (λ (change : Change). (change, targets change)) changes) channel peer ≡ filter (in_lane targets channel peer) changes
lane_filter targets channel peer [] = refl
lane_filter targets channel peer (change ∷ changes) =
    lane_on targets channel peer change (in_lane targets channel peer change)
    (filter (is_for channel peer) (map (λ (c : Change). (c, targets c)) changes)) (filter (in_lane targets channel peer) changes)
    (lane_filter targets channel peer changes)

-- of distinct changes one has the number of a change
filter_none : (test : Change → Bool) (id : ℕ) (changes : List Change) → All (λ (change : Change). id ≢ change.id) changes
    → has_id id (filter test changes) ≡ false
filter_none test id [] apart = refl
filter_none test id (change ∷ changes) apart =
    none_on (test change) (other_number id change.id (all_head (λ (c : Change). id ≢ c.id) change changes apart))
    (filter_none test id changes (all_tail (λ (c : Change). id ≢ c.id) change changes apart))
  where
    none_on : (b : Bool) → (change.id == id) ≡ false → has_id id (filter test changes) ≡ false
        → has_id id (cond b (change ∷ filter test changes) (filter test changes)) ≡ false
    none_on true isnt rest = ap (λ b. b || has_id id (filter test changes)) isnt ∙ rest
    none_on false isnt rest = rest

here_on : (test : Change → Bool) (change : Change) (later : List Change) (b : Bool) → test change ≡ b → has_id change.id (filter test later) ≡ false
    → has_id change.id (cond b (change ∷ filter test later) (filter test later)) ≡ test change
here_on test change later true is none = ap (λ t. t || has_id change.id (filter test later)) (equal_itself change.id) ∙ sym is
here_on test change later false is none = none ∙ sym is

pub filter_one : (test : Change → Bool) (before : List Change) (change : Change) (later : List Change) → AllPairs Apart (before ++ change ∷ later)
    → has_id change.id (filter test (before ++ change ∷ later)) ≡ test change
filter_one test [] change later apart =
    here_on test change later (test change) refl (filter_none test change.id later (pairs_head Apart change later apart))
filter_one test (other ∷ before) change later apart =
    other_on (test other) (other_number change.id other.id (λ same. all_head (λ (c : Change). other.id ≢ c.id) change later
    (last_all (λ (c : Change). other.id ≢ c.id) before (change ∷ later) (pairs_head Apart other (before ++ change ∷ later) apart)) (sym same)))
    (filter_one test before change later (pairs_tail Apart other (before ++ change ∷ later) apart))
  where
    other_on : (b : Bool) → (other.id == change.id) ≡ false → has_id change.id (filter test (before ++ change ∷ later)) ≡ test change
        → has_id change.id (cond b (other ∷ filter test (before ++ change ∷ later)) (filter test (before ++ change ∷ later))) ≡ test change
    other_on true isnt rest = ap (λ b. b || has_id change.id (filter test (before ++ change ∷ later))) isnt ∙ rest
    other_on false isnt rest = rest
