-- What a keeper tells: its records, and which of the commits to come fail.
use Rattle.std.specs.Prelude.{◌≡◌, ◌⊎◌, ⊤, Bool, true, false, List, [], ◌∷◌, Option, None, Some}
use Rattle.sds_outside.specs.declared.keeping.Edit.{Edit}
use Rattle.sds_outside.specs.Records.{Record, told_edited}

-- the records, and for each of the next commits, which will fail, whether its edits stand all the
-- same: the commits after these don't fail, and no reading does. Each is told where it can be
pub record Keeping : Type 0 where
  pub records : Option (List Record)
  pub fates : Option (List Bool)

-- with edits made
abbrev pub with_edits : List Edit → Keeping → Keeping
with_edits edits told = record told { records = told_edited edits told.records }

-- the next commit doesn't fail, where that is told
abbrev pub NoneFails : Option (List Bool) → Type 0
NoneFails None = ⊤
NoneFails (Some []) = ⊤
NoneFails (Some (stands ∷ fates)) = ⊥

-- no reading fails, where that is told
abbrev pub MayFail : Option (List Bool) → Type 0
MayFail None = ⊤
MayFail (Some fates) = ⊥

-- a commit that failed: where it is told, its edits stand as was told; and else all of them do, or
-- none
abbrev pub FailsAs : Option (List Bool) → List Edit → Keeping → Keeping → Type 0
FailsAs None edits before after = (after ≡ before) ⊎ (after ≡ with_edits edits before)
FailsAs (Some []) edits before after = ⊥
FailsAs (Some (false ∷ fates)) edits before after =
    after ≡ record before { fates = Some fates }
FailsAs (Some (true ∷ fates)) edits before after =
    after ≡ with_edits edits (record before { fates = Some fates })
