-- A sale that both the store and the head office wrote: what each resolution makes of it.
use Rattle.std.specs.Prelude.{ℕ, Bool, true, false, List, [], ◌∷◌, ◌++◌, codes, Option, None, Some}
use Rattle.sds_types.specs.declared.config.Config.{Config}
use Rattle.sds_types.specs.declared.conflict.DetectType.{DetectType}
use Rattle.sds_types.specs.declared.conflict.DetectType.TheVariants.{UsePkData, UseVersion}
use Rattle.sds_types.specs.declared.conflict.ResolveType.{ResolveType}
use Rattle.sds_types.specs.declared.conflict.ResolveType.TheVariants.{Fallback, Ignore, Manual, NewerWins}
use Rattle.sds_screen.specs.generator.Shop.{shop}
use Rattle.sds_examples.specs.Lines.{Prints, stocked, stocked_screen}

-- the shop with a setting for sales that come up
abbrev pub settled : DetectType → Option ℕ → ResolveType → Bool → Config
settled detect column resolve row_only = record shop {
  conflicts = record {
    source_group = 1;
    target_group = 0;
    target_table = 2;
    detect_type = detect;
    detect_expression = column;
    resolve_type = resolve;
    resolve_row_only = row_only;
  } ∷ [];
}

-- both have a sale b, of 7 at the head office and of 2 at the store
abbrev pub disputed : List (List ℕ)
disputed = stocked
    ++ codes "write,corp,office,2"
    ∷ codes "insert,sale,b,001,1,7"
    ∷ codes "end"
    ∷ codes "write,s1,till,1"
    ∷ codes "insert,sale,a,001,1,1"
    ∷ codes "insert,sale,b,001,1,2"
    ∷ codes "end"
    ∷ codes "route,s1"
    ∷ codes "push,s1,corp"
    ∷ codes "show,corp"
    ∷ codes "batches,corp"
    ∷ []

abbrev pub disputed_screen : List ℕ → List (List ℕ) → List ℕ → List (List ℕ)
disputed_screen ack sales lane = stocked_screen
    ++ codes "write corp office 2: done 2 0"
    ∷ codes "write s1 till 1: done 1 2"
    ∷ codes "route s1: 1 batches"
    ∷ codes "send 2 s1 corp: 1 batches"
    ∷ (codes "deliver 2: reply 2 " ++ ack)
    ∷ codes "answer 2: 1 changed"
    ∷ codes "table item"
    ∷ codes "\"1\",\"Pen\",\"2.50\""
    ∷ codes "table stock"
    ∷ codes "table sale"
    ∷ (sales ++ codes "out 1 s1 item 1 OK" ∷ lane ∷ [])

abbrev pub sale_a : List ℕ
sale_a = codes "\"a\",\"001\",\"1\",\"1\""

abbrev pub sale_b : List ℕ
sale_b = codes "\"b\",\"001\",\"1\",\"7\""

-- the store's sale stands
abbrev pub FallbackTakes : Type 0
FallbackTakes = Prints (settled UsePkData None Fallback true) disputed
    (disputed_screen (codes "batch-1=ok") (sale_a ∷ codes "\"b\",\"001\",\"1\",\"2\"" ∷ [])
    (codes "in s1 sale 1 OK"))

-- the head office's sale stands, and the other sale of the batch comes, or it doesn't
abbrev pub IgnoreSkipsTheRow : Type 0
IgnoreSkipsTheRow = Prints (settled UsePkData None Ignore true) disputed
    (disputed_screen (codes "batch-1=ok") (sale_a ∷ sale_b ∷ []) (codes "in s1 sale 1 OK"))

abbrev pub IgnoreSkipsTheBatch : Type 0
IgnoreSkipsTheBatch = Prints (settled UsePkData None Ignore false) disputed
    (disputed_screen (codes "batch-1=ok") (sale_b ∷ []) (codes "in s1 sale 1 IG"))

-- nothing of the batch stands until a person has looked at it
abbrev pub ManualWaits : Type 0
ManualWaits = Prints (settled UsePkData None Manual true) disputed
    (disputed_screen (codes "batch-1=er.2.12") (sale_b ∷ [])
    (codes "in s1 sale 0 - held 1 2 12"))

-- the greater quantity stands, taken for a version
abbrev pub GreaterVersionStands : Type 0
GreaterVersionStands = Prints (settled UseVersion (Some 3) NewerWins true) disputed
    (disputed_screen (codes "batch-1=ok") (sale_a ∷ sale_b ∷ []) (codes "in s1 sale 1 OK"))
