use Rattle.std.proofs.Common.{◌≡◌, refl, subst, sym}
use Rattle.std.specs.Str.{IsUtf8}
use Rattle.sds_value.specs.declared.kind.Binary.TheVariants.{Base64}
use Rattle.sds_value.specs.Values.{printed}
use Rattle.sds_rowvalues.proofs.Printed.{printed_utf8}
use Rattle.sds_rowvalues.proofs.printing.printed.Goals as goal

pub unwrap-requires : goal.unwrap-requires
unwrap-requires c =
    let text : c.put.new.out.items ≡ printed c.args.kind Base64 c.args.value.now =
    rw c.in_ok-put.ensures.ok (rw c.new-bytes.ensures.items refl) in
    c.from_utf8.ensures.succeeds
    (subst IsUtf8 (sym text) (printed_utf8 c.args.kind c.args.value.now c.requires))
