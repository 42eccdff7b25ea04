use Rattle.std.proofs.Common.{◌∙◌, arith, None, Some}
use Rattle.sds_value.proofs.Bytes.{of_text, short_binary, long_binary, some_is, none_is}
use Rattle.sds_value.proofs.coded.read_binary.Goals as goal

pub returns-in_default : goal.returns-in_default
returns-in_default c = λ _. of_text c.args.most c.args.form c.args.text.now None c.utf8.text (none_is _ _ c.in_ok-bytes.field-0 c.in_ok-bytes.ensures c.in_default.is)

pub returns-then-len-most : goal.returns-then-len-most
returns-then-len-most c = λ _.
    let long = long_binary c.args.most c.in-Some.bytes.items (omega (arith, c.in-Some.bytes.ok.0, c.len.ensures, c.if-len-most.true)) in
    long ∙ of_text c.args.most c.args.form c.args.text.now (Some c.in-Some.bytes.items) c.utf8.text (some_is _ _ c.in_ok-bytes.field-0 c.in-Some.bytes c.in_ok-bytes.ensures c.in-Some.is)

pub returns : goal.returns
returns c = λ _.
    let same = c.of.ensures in
    let short = short_binary c.args.most c.in-Some.bytes.items (omega (arith, c.in-Some.bytes.ok.0, c.len.ensures, c.if-len-most.false)) in
    (rw same short) ∙ of_text c.args.most c.args.form c.args.text.now (Some c.in-Some.bytes.items) c.utf8.text (some_is _ _ c.in_ok-bytes.field-0 c.in-Some.bytes c.in_ok-bytes.ensures c.in-Some.is)
