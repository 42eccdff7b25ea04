use Rattle.std.proofs.Common.{Some, ap, ◌∙◌, sym}
use Rattle.std.specs.Option.{option_map}
use Rattle.std.specs.String.{string_bytes}
use Rattle.sds_records.proofs.Texts.{name_told, name_utf8}
use Rattle.sds_records.proofs.pieces.name_of.Goals as goal

pub returns-in-Some : goal.returns-in-Some
returns-in-Some c = λ name is same. ap Some (c.of.ensures ∙ name_told c.args.bytes.now (string_bytes c.in-Some.text) name is same
    (ap (λ o. option_map string_bytes o) (sym c.in-Some.is) ∙ c.in_ok-text.ensures (name_utf8 c.args.bytes.now name is same)))

pub returns-in-None : goal.returns-in-None
returns-in-None c = λ name is same. absurd (let none = ap (λ o. option_map string_bytes o) (sym c.in-None.is) ∙ c.in_ok-text.ensures (name_utf8 c.args.bytes.now name is same) in cc)
