use Rattle.std.proofs.Common.{◌≡◌, sym, ◌∙◌, refl, true, false}
use Rattle.std.specs.Prelude.{nat_le}
use Rattle.std.specs.Str.{chars}
use Rattle.sds_first_spec.specs.Calls.{is_peer, may_count}
use Rattle.sds_first_spec.specs.Kept.{highest_in}
use Rattle.sds_first_node.proofs.Loads.{load-judged, stands-loaded}
use Rattle.sds_first_node.proofs.node.Node.load.Goals as goal

pub returns-clause-answer : goal.returns-clause-answer
returns-clause-answer c = λ _.
    let s = c.args.self.now.kept in
    let sender = chars c.args.from.now in
    let known : is_peer sender s ≡ true = rw (← c.self.view_is) (sym c.is_peer.ensures ∙ c.if-not-is_peer.false) in
    let seen : nat_le c.args.batch (highest_in sender c.args.channel s.lanes) ≡ false = rw (← c.self.view_is) (sym c.has_loaded.ensures ∙ c.if-has_loaded.false) in
    let may : may_count s 0 ≡ true = rw (← c.self.view_is) (sym c.may_count.ensures ∙ c.if-not-may_count.false) in
    sym (load-judged s sender c.args.channel c.args.batch c.args.rows.now _ _ _ known seen may ∙ rw (← c.self.view_is) refl)

pub returns-clause-stands : goal.returns-clause-stands
returns-clause-stands c = λ h are stood.
    stands-loaded h c.args.self.now.kept _ _ _ _ c.args.rows.now _ are c.requires c.in_ok-rows.ensures c.in_ok-load_rows.ensures.ok stood
