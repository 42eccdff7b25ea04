use Rattle.std.proofs.Common.{◌∙◌, sym, ap}
use Rattle.std.specs.Str.{chars}
use Rattle.sds_types.specs.declared.config.Config.{Config}
use Rattle.sds_trade.specs.rules.Outcomes.{prepared_batch}
use Rattle.sds_loadlaws.specs.Spelt.{is_spelt_config}
use Rattle.sds_node.specs.Meaning.{has}
use Rattle.sds_stage.proofs.Loaded.{read_asked}
use Rattle.sds_stage.proofs.loading.read_at.Goals as goal

pub returns-clause-asked : goal.returns-clause-asked
returns-clause-asked c =
    (read_asked c.args.node.now.config (has c.args.node.now) (chars c.args.from.now) c.in_ok-way.way c.args.doc.now c.in_ok-batch.batch
    (c.in_ok-batch.ensures ∙ ap (λ (config : Config). prepared_batch config c.in_ok-way.way c.args.doc.now) c.config-2.ensures) c.in_ok-way.ensures
    (ap is_spelt_config (sym c.config.ensures) ∙ c.configs_are_spelt.ensures) c.ways_are_spelt.ensures c.requires.doc).0

pub returns-clause-held : goal.returns-clause-held
returns-clause-held c =
    (read_asked c.args.node.now.config (has c.args.node.now) (chars c.args.from.now) c.in_ok-way.way c.args.doc.now c.in_ok-batch.batch
    (c.in_ok-batch.ensures ∙ ap (λ (config : Config). prepared_batch config c.in_ok-way.way c.args.doc.now) c.config-2.ensures) c.in_ok-way.ensures
    (ap is_spelt_config (sym c.config.ensures) ∙ c.configs_are_spelt.ensures) c.ways_are_spelt.ensures c.requires.doc).1
