-- One row of a document after another.
use Rattle.std.proofs.Common.{◌≡◌, ◌<◌, ◌+◌, ◌++◌, ℕ, List, length, get_or, drop, sym}
use Rattle.std.specs.List.{enumerate_from, flat_map}
use Rattle.std.proofs.lemmas.List.{drop_more}
use Rattle.sds_value.specs.declared.row.DocRow.{DocRow}
use Rattle.sds_types.specs.declared.load_row.LoadRow.{LoadRow}
use Rattle.sds_load.specs.Bodies.{Reading, body_after}

pub next_row : (f : ℕ × DocRow → List Reading) (docs : List DocRow) (at number : ℕ) (doc : DocRow) (rows made : List LoadRow) → at < length docs → doc ≡ get_or docs at doc
    → ((rest : List Reading) → body_after rows (f (number, doc) ++ rest) ≡ body_after made rest)
    → body_after made (flat_map f (enumerate_from (number + 1) (drop (at + 1) docs))) ≡ body_after rows (flat_map f (enumerate_from number (drop at docs)))
next_row f docs at number doc rows made inside is reads =
    rw (drop_more docs at doc inside) (rw (← is) (sym (reads (flat_map f (enumerate_from (number + 1) (drop (at + 1) docs))))))
