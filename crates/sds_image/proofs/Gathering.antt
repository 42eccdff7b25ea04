-- The records of the parts of a state, kind after kind.
use Rattle.std.proofs.Common.{◌≡◌, List, [], ◌∷◌, ◌++◌, sym, ap, ◌∙◌}
use Rattle.std.proofs.lemmas.List.{append_assoc, map-append}
use Rattle.sds_outside.specs.Records as outside
use Rattle.sds_history.specs.history.Records.{Record}
use Rattle.sds_image.specs.Pairs.{kept_pair, pairs}

-- a part and then the rest, after what stood before
next_part : (part rest : List Record) (before after : List outside.Record) → after ≡ before ++ pairs part → after ++ pairs rest ≡ before ++ pairs (part ++ rest)
next_part part rest before after is =
    ap (λ all. all ++ pairs rest) is
    ∙ (append_assoc before (pairs part) (pairs rest) ∙ ap (λ all. before ++ all) (sym (map-append kept_pair part rest)))

pub all_parts : (me : Record) (counts peers openings writers tables changes batches lanes : List Record)
    (with_me with_counts with_peers with_openings with_writers with_tables with_changes with_batches with_lanes : List outside.Record)
    → with_me ≡ kept_pair me ∷ []
    → with_counts ≡ with_me ++ pairs counts
    → with_peers ≡ with_counts ++ pairs peers
    → with_openings ≡ with_peers ++ pairs openings
    → with_writers ≡ with_openings ++ pairs writers
    → with_tables ≡ with_writers ++ pairs tables
    → with_changes ≡ with_tables ++ pairs changes
    → with_batches ≡ with_changes ++ pairs batches
    → with_lanes ≡ with_batches ++ pairs lanes
    → with_lanes ≡ pairs (me ∷ (counts ++ (peers ++ (openings ++ (writers ++ (tables ++ (changes ++ (batches ++ lanes))))))))
all_parts me counts peers openings writers tables changes batches lanes a b c d e f g h i is_a is_b is_c is_d is_e is_f is_g is_h is_i =
    is_i
    ∙ (next_part batches lanes g h is_h
    ∙ (next_part changes (batches ++ lanes) f g is_g
    ∙ (next_part tables (changes ++ (batches ++ lanes)) e f is_f
    ∙ (next_part writers (tables ++ (changes ++ (batches ++ lanes))) d e is_e
    ∙ (next_part openings (writers ++ (tables ++ (changes ++ (batches ++ lanes)))) c d is_d
    ∙ (next_part peers (openings ++ (writers ++ (tables ++ (changes ++ (batches ++ lanes))))) b c is_c
    ∙ (next_part counts (peers ++ (openings ++ (writers ++ (tables ++ (changes ++ (batches ++ lanes)))))) a b is_b
    ∙ ap (λ all. all ++ pairs (counts ++ (peers ++ (openings ++ (writers ++ (tables ++ (changes ++ (batches ++ lanes)))))))) is_a)))))))
