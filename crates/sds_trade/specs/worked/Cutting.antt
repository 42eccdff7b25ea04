-- Worked cases: where batches end.
use Rattle.std.specs.Prelude.{◌≡◌, ℕ, List, [], ◌∷◌, map, length, None}
use Rattle.sds_value.specs.declared.row.Event.TheVariants.{Insert}
use Rattle.sds_types.specs.declared.channel.Algorithm.{Algorithm}
use Rattle.sds_types.specs.declared.channel.Algorithm.TheVariants.{Default, Transactional, Nontransactional}
use Rattle.sds_types.specs.declared.row.Change.{Change}
use Rattle.sds_trade.specs.rules.Cuts.{cut, cuts_of}

abbrev pub change_of_tx : ℕ → Change
change_of_tx tx = record {
  id = 1;
  tx = tx;
  table = 0;
  event = Insert;
  new = None;
  old = None;
  channel = 0;
  source = None;
}

-- transactions of two changes, of three and of one
abbrev pub six_changes : List Change
six_changes = map change_of_tx (1 ∷ (1 ∷ (2 ∷ (2 ∷ (2 ∷ (3 ∷ []))))))

-- how many changes each batch has where three make one full
abbrev pub Has : Algorithm → List ℕ → Type 0
Has algorithm counts =
    map (λ (piece : List Change). length piece) (cut algorithm 3 six_changes) ≡ counts

abbrev pub WholeTransactions : Type 0
WholeTransactions = Has Default (5 ∷ (1 ∷ []))

abbrev pub FullBatches : Type 0
FullBatches = Has Nontransactional (3 ∷ (3 ∷ []))

abbrev pub EachTransaction : Type 0
EachTransaction = Has Transactional (2 ∷ (3 ∷ (1 ∷ [])))

abbrev pub NothingIsCut : Type 0
NothingIsCut = (cut Default 3 [] ≡ []) × (cut Nontransactional 3 [] ≡ [])
    × (cut Transactional 3 [] ≡ [])

-- the same by places and counts
abbrev pub PlacesAndCounts : Type 0
PlacesAndCounts = cuts_of Transactional 3 six_changes ≡ record { first = 0; count = 2 }
    ∷ (record { first = 2; count = 3 } ∷ (record { first = 5; count = 1 } ∷ []))
