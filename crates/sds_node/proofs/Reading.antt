-- Records that a keeper tells, read one after another, and what they are read as.
use Rattle.std.proofs.Common.{◌≡◌, ◌∷◌, ◌++◌, ◌⊎◌, [], inl, inr, List, ℕ, Option, None, Some, Result, Ok, Err, refl, sym, ap, subst, map, append_assoc, append-nil, ◌∙◌}
use Rattle.std.specs.Prelude.{IfSome}
use Rattle.sds_outside.specs.Keepings.{Keeping}
use Rattle.sds_outside.specs.Records.{Gives, Record}
use Rattle.sds_types.specs.declared.config.Config.{Config}
use Rattle.sds_types.specs.declared.node_fault.NodeFault.{NodeFault}
use Rattle.sds_history.specs.history.Records as history
use Rattle.sds_image.specs.Pairs.{pairs}
use Rattle.sds_value.specs.declared.row.Peer.{Peer}
use Rattle.sds_types.specs.declared.node_fault.NodeFault.TheVariants.{Keeper, BadKept, Damaged, Counters, NoMemory}
use Rattle.sds_node.specs.Going.{AreBad, AreUnread, IsCause, IsUnread, record_of, records_of}

-- of the records that a reading gives some were read, and the rest is left
abbrev pub Gathers : Option (List Record) → Option (List Record) → List Record → Type 0
Gathers all left read = (told : List Record) → all ≡ Some told
    → (rest : List Record) × ((left ≡ Some rest) × (read ++ rest ≡ told))

pub if_told : {A : Type 0} (P : A → Type 0) (o : Option A) → ((x : A) → o ≡ Some x → P x) → IfSome o P
if_told P None has = tt
if_told P (Some x) has = has x refl

pub begins : (all : Option (List Record)) → Gathers all all []
begins all told is = (told, (is, refl))

next_on : (left next_left : Option (List Record)) (read told rest : List Record) (next : Record) → left ≡ Some rest → read ++ rest ≡ told → Gives left (Some next) next_left
    → (later : List Record) × ((next_left ≡ Some later) × ((read ++ next ∷ []) ++ later ≡ told))
next_on None next_left read told rest next at is gives = absurd (cc)
next_on (Some records) next_left read told rest next at is gives =
    let same : records ≡ rest = ap (λ o. elim o [ None ↦ rest | Some y ↦ y ]) at in
    (gives.0, (gives.2, append_assoc read (next ∷ []) gives.0 ∙ (ap (λ ys. read ++ ys) (sym gives.1 ∙ same) ∙ is)))

pub goes_on : (all left next_left : Option (List Record)) (read : List Record) (next : Record) → Gathers all left read → Gives left (Some next) next_left
    → Gathers all next_left (read ++ next ∷ [])
goes_on all left next_left read next gathers gives told is =
    let before = gathers told is in
    next_on left next_left read told before.0 next before.1.0 before.1.1 gives

end_on : (left next_left : Option (List Record)) (read told rest : List Record) → left ≡ Some rest → read ++ rest ≡ told → Gives left None next_left → told ≡ read
end_on None next_left read told rest at is gives = absurd (cc)
end_on (Some records) next_left read told rest at is gives =
    let same : records ≡ rest = ap (λ o. elim o [ None ↦ rest | Some y ↦ y ]) at in
    sym is ∙ (ap (λ ys. read ++ ys) (sym same ∙ gives.0) ∙ append-nil read)

pub ends : (all left next_left : Option (List Record)) (read told : List Record) → Gathers all left read → Gives left None next_left → all ≡ Some told → told ≡ read
ends all left next_left read told gathers gives is =
    let before = gathers told is in
    end_on left next_left read told before.0 before.1.0 before.1.1 gives

-- records of a keeper, as the definitions of histories have them and back
pub pairs_back : (records : List Record) → pairs (records_of records) ≡ records
pairs_back [] = refl
pairs_back (kept ∷ records) = ap (λ rest. kept ∷ rest) (pairs_back records)

-- why records couldn't be read that a keeper has
pub cause_told : (config : Config) (kept : Keeping) (damage : Option (Option ℕ)) (all : List Record) (found : NodeFault)
    → ((told : List Record) → kept.records ≡ Some told → told ≡ all) → IsUnread config all found → IsCause (AreUnread config) kept damage found
cause_told config kept damage all Keeper same unread = absurd unread
cause_told config kept damage all (BadKept key) same unread =
    if_told (AreUnread config key) kept.records (λ told is. subst (AreUnread config key) (sym (same told is)) unread)
cause_told config kept damage all (Damaged at) same unread = absurd unread
cause_told config kept damage all Counters same unread = absurd unread
cause_told config kept damage all NoMemory same unread = tt

bad_own : (config : Config) (me : Peer) (records : Option (List Record)) (key : List ℕ) → IfSome records (AreUnread config key)
    → IfSome records (AreBad config me key)
bad_own config me None key cause = tt
bad_own config me (Some told) key cause = inl cause

pub cause_own : (config : Config) (me : Peer) (kept : Keeping) (damage : Option (Option ℕ)) (found : NodeFault)
    → IsCause (AreUnread config) kept damage found → IsCause (AreBad config me) kept damage found
cause_own config me kept damage Keeper cause = cause
cause_own config me kept damage (BadKept key) cause = bad_own config me kept.records key cause
cause_own config me kept damage (Damaged at) cause = cause
cause_own config me kept damage Counters cause = cause
cause_own config me kept damage NoMemory cause = tt
