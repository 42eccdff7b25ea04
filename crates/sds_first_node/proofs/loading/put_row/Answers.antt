use Rattle.sds_first_node.proofs.Updates.{row_updated}
use Rattle.sds_first_node.proofs.loading.put_row.Goals as goal

pub returns-in-Some-clause-items : goal.returns-in-Some-clause-items
returns-in-Some-clause-items c =
    row_updated c.args.row _ _ _ _ _ _ _ c.in-Some.ensures c.deref.ensures.value c.index_mut.ensures.value c.replace-kept.ensures.value c.updated.ensures
