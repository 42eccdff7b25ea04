use Rattle.std.proofs.Common.{◌≡◌, ◌==◌, ◌&&◌, drop}
use Rattle.std.specs.List.{list_any}
use Rattle.std.specs.Str.{chars}
use Rattle.sds_types.specs.declared.trigger.TriggerRouterDef.{TriggerRouterDef}
use Rattle.sds_trade.specs.rules.Captured.{leads_from}
use Rattle.sds_capture.proofs.capture.is_joined.Given as goal

abbrev pub invariant-loop-join : goal.invariant-loop-join
invariant-loop-join l =
    list_any (λ (join : TriggerRouterDef). join.enabled && (join.trigger == l.trigger && leads_from l.config (chars l.group) join.router)) (drop l.join-index l.joins)
    ≡ list_any (λ (join : TriggerRouterDef). join.enabled && (join.trigger == l.trigger && leads_from l.config (chars l.group) join.router)) l.joins
