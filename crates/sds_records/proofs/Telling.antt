-- What follows of a record that tells a part.
use Rattle.std.proofs.Common.{◌≡◌, ℕ, ◌<◌, true, List, length, Option, Some, None, Result, Ok, refl, sym, ap, subst, ◌∙◌}
use Rattle.std.specs.Prelude.{IfOk}
use Rattle.sds_value.specs.declared.row.Field.{Field}
use Rattle.sds_line.specs.Written.{are_fields, written_line}
use Rattle.sds_types.specs.declared.config.Config.{Config}
use Rattle.sds_trade.specs.rules.Sound.{IsSound}
use Rattle.sds_history.specs.history.Records.{Record}
use Rattle.sds_records.specs.Fields.{fields_of_told}
use Rattle.sds_records.specs.Told.{HasKeyOf, IsHeld, Tells, is_formed, kept_record, record_of_told}
use Rattle.sds_records.specs.declared.told.Told.{Told}
use Rattle.sds_records.specs.declared.told.Told.TheVariants.{Me, Counts, Peer, Opening, Writer, Row, Change, Batch, Lane}
use Rattle.sds_records.proofs.GoodFields.{body_is, fields_good, fields_some}
use Rattle.sds_records.proofs.KeyKinds.{below}
use Rattle.sds_records.proofs.Places.{sound_key}

-- the fields of the body of a record that tells a part
pub fields_told : (config : Config) (key body bytes : List ℕ) (told : Told) (found : Option (List Field)) → IsSound config → IsHeld told → Tells config (kept_record key body) told → bytes ≡ body
    → ((fields : List Field) → are_fields fields ≡ true → 0 < length fields → bytes ≡ written_line fields → found ≡ Some fields) → found ≡ Some (fields_of_told config told)
fields_told config key body bytes told found sound held tells same read =
    read (fields_of_told config told) (fields_good config told sound held tells.form tells.values) (fields_some config told sound tells.form tells.values)
    (same ∙ (sym (ap (λ (r : Record). r.body) tells.record_is) ∙ body_is config told))

pub none_some : {A : Type 0} {found : Option A} {x : A} → found ≡ None → found ≡ Some x → ⊥
none_some {A} {found} {x} none some = cc

pub same_some : {A : Type 0} {found : Option A} {x y : A} → found ≡ Some x → found ≡ Some y → x ≡ y
same_some {A} {found} {x} {y} one other = cc

-- its key
pub key_told : (config : Config) (key body bytes : List ℕ) (told : Told) → Tells config (kept_record key body) told → bytes ≡ key → bytes ≡ (record_of_told config told).key
key_told config key body bytes told tells same = same ∙ sym (ap (λ (r : Record). r.key) tells.record_is)

-- the key columns of its table
pub has_key : (config : Config) (told : Told) → IsSound config → is_formed config told ≡ true → HasKeyOf config told
has_key config (Me me) sound formed = tt
has_key config (Counts counts) sound formed = tt
has_key config (Peer kept) sound formed = tt
has_key config (Opening opening) sound formed = tt
has_key config (Writer last) sound formed = tt
has_key config (Row r) sound formed = sound_key config r.table sound (below r.table (length config.tables) formed)
has_key config (Change change) sound formed = tt
has_key config (Batch batch) sound formed = tt
has_key config (Lane lane) sound formed = tt

-- a part that is confirmed isn't none
pub none_confirmed : {E : Type 0} (result : Result (Option Told) E) (told : Told) → result ≡ Ok None → IfOk result (λ (found : Option Told). found ≡ Some told) → ⊥
none_confirmed {E} result told none found = none_some {A = Told} refl (subst (λ (r : Result (Option Told) E). IfOk r (λ (found : Option Told). found ≡ Some told)) none found)
