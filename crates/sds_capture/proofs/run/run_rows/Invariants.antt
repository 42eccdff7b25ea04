use Rattle.std.proofs.Common.{◌≡◌, drop}
use Rattle.sds_rows.specs.Undoing.{Undone, without_undos}
use Rattle.sds_capture.specs.Ends.{numbered, run_at, with_dones}
use Rattle.sds_capture.proofs.run.run_rows.Given as goal

abbrev pub invariant-loop-place : goal.invariant-loop-place
invariant-loop-place g l = record {
  ends : with_dones (without_undos l.dones.items) (run_at l.at (g.J.Judge.asked l.judge) l.tables.rows (numbered (g.J.Judge.number l.judge) l.place (drop l.place l.rows)))
      ≡ run_at l.at (g.J.Judge.asked l.judge) l.fn.tables.rows (numbered (g.J.Judge.number l.judge) 0 l.rows);
  undone : Undone l.dones.items l.tables l.fn.tables.rows;
  defs : l.tables.defs ≡ l.fn.tables.defs;
}
