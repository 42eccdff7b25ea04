use Rattle.std.proofs.Common.{ap, ◌∙◌, ◌-◌, length, sym}
use Rattle.std.specs.Fmt.{decimal}
use Rattle.std.specs.Option.{option_map}
use Rattle.std.specs.String.{string_bytes}
use Rattle.sds_records.proofs.Numbers.{key_utf8}
use Rattle.sds_records.proofs.pieces.number_of_key.Goals as goal

pub returns-in-Some : goal.returns-in-Some
returns-in-Some c = λ number fits same. c.number_written.ensures (20 - length (decimal number)) number fits
    (let told = ap (λ o. option_map string_bytes o) (sym c.in-Some.is) ∙ c.in_ok-text.ensures (key_utf8 c.args.bytes.now number fits same) in
    let bytes = c.deref.ensures in cc)

pub returns-in-None : goal.returns-in-None
returns-in-None c = λ number fits same. absurd (let none = ap (λ o. option_map string_bytes o) (sym c.in-None.is) ∙ c.in_ok-text.ensures (key_utf8 c.args.bytes.now number fits same) in cc)
