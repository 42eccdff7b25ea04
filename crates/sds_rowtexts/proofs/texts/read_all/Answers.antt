use Rattle.std.proofs.Common.{rules}
use Rattle.sds_trade.specs.rules.TextRules.{is_bad, is_too_long}
use Rattle.sds_rowtexts.proofs.Placing.{all_refused, placed_old, placed_values}
use Rattle.sds_rowtexts.proofs.texts.read_all.Goals as goal

pub returns-clause-values : goal.returns-clause-values
returns-clause-values c =
    let key = placed_values c.args.form c.args.columns.now c.args.row.now.keys c.args.row.now.key c.requires.keys in
    let new = placed_values c.args.form c.args.columns.now c.args.row.now.columns c.args.row.now.new c.requires.columns in
    let old = placed_old c.args.form c.args.columns.now c.args.row.now.columns c.args.row.now.old c.requires.columns in
    (search rules, search rules, search rules)

pub returns-clause-bad : goal.returns-clause-bad
returns-clause-bad c =
    all_refused is_bad c.args.form c.args.columns.now c.args.row.now c.read_fields.new.refused.bad c.read_fields-2.new.refused.bad c.read_old.new.refused.bad c.requires.keys c.requires.columns (search rules) (search rules) (search rules)

pub returns-clause-long : goal.returns-clause-long
returns-clause-long c =
    all_refused is_too_long c.args.form c.args.columns.now c.args.row.now c.read_fields.new.refused.long c.read_fields-2.new.refused.long c.read_old.new.refused.long c.requires.keys c.requires.columns (search rules) (search rules) (search rules)
