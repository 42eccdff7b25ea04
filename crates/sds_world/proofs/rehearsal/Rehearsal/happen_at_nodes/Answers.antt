use Rattle.std.proofs.Common.{◌≡◌, refl, sym, ap, subst, ◌∙◌}
use Rattle.std.specs.Prelude.{ℕ, List}
use Rattle.std.specs.Str.{chars}
use Rattle.sds_types.specs.declared.tx_row.TxRow.{TxRow}
use Rattle.sds_types.specs.declared.world_event.WorldEvent.TheVariants as event
use Rattle.sds_world.specs.Playing.{Plays}
use Rattle.sds_world.proofs.Rehearsed.{any_text, both_ok, nothing_else, on_ok, plays_said, rehearses, three, two, with_stage}
use Rattle.sds_world.proofs.rehearsal.Rehearsal.happen_at_nodes.Goals as goal

pub returns-in-Node-clause-plays : goal.returns-in-Node-clause-plays
returns-in-Node-clause-plays c = λ of.
    on_ok c.add.result c.add.ensures.plays (λ goes. subst (Plays c.args.self.now c.add.new.self c.args.out.now.items c.args.out.now.items) (sym c.in-Node.is)
    (goes c.args.out.now.items))

pub returns-in-Open-clause-plays : goal.returns-in-Open-clause-plays
returns-in-Open-clause-plays c = λ of.
    on_ok c.open.result c.open.ensures.plays (λ goes. plays_said c.args.self.now c.open.new.self c.args.out.now.items c.open.new.out.items c.args.event.now
    (event.Open (chars c.as_str.result.now) (chars c.as_str-in-Open.result.now) (chars c.as_str-in-Open-2.result.now))
    (c.in-Open.is ∙ sym (three (λ a g e. event.Open a g e) c.as_str.ensures.chars c.as_str-in-Open.ensures.chars c.as_str-in-Open-2.ensures.chars))
    c.requires.rehearsal.stage.config tt c.open.ensures.config c.open.ensures.noise goes)

pub returns-in-Open-clause-rehearsal : goal.returns-in-Open-clause-rehearsal
returns-in-Open-clause-rehearsal c =
    on_ok c.open.result c.open.ensures.plays (λ goes. rehearses c.args.self.now (with_stage c.args.self.now c.open.new.self) c.args.out.now.items c.open.new.out.items
    (event.Open (chars c.as_str.result.now) (chars c.as_str-in-Open.result.now) (chars c.as_str-in-Open-2.result.now)) c.requires.rehearsal c.open.ensures.stage
    (plays_said c.args.self.now c.open.new.self c.args.out.now.items c.open.new.out.items (event.Open (chars c.as_str.result.now) (chars c.as_str-in-Open.result.now) (chars c.as_str-in-Open-2.result.now))
    (event.Open (chars c.as_str.result.now) (chars c.as_str-in-Open.result.now) (chars c.as_str-in-Open-2.result.now)) refl c.requires.rehearsal.stage.config tt c.open.ensures.config c.open.ensures.noise goes) tt c.requires.rehearsal.replies)

pub returns-in-Register-clause-plays : goal.returns-in-Register-clause-plays
returns-in-Register-clause-plays c = λ of.
    on_ok c.register.result c.register.ensures.plays (λ goes. plays_said c.args.self.now c.register.new.self c.args.out.now.items c.register.new.out.items c.args.event.now
    (event.Register (chars c.as_str-in-Register.result.now) (chars c.as_str-in-Register-2.result.now))
    (c.in-Register.is ∙ sym (two (λ a b. event.Register a b) c.as_str-in-Register.ensures.chars c.as_str-in-Register-2.ensures.chars))
    c.requires.rehearsal.stage.config tt c.register.ensures.config c.register.ensures.noise goes)

pub returns-in-Register-clause-rehearsal : goal.returns-in-Register-clause-rehearsal
returns-in-Register-clause-rehearsal c =
    on_ok c.register.result c.register.ensures.plays (λ goes. rehearses c.args.self.now (with_stage c.args.self.now c.register.new.self) c.args.out.now.items c.register.new.out.items
    (event.Register (chars c.as_str-in-Register.result.now) (chars c.as_str-in-Register-2.result.now)) c.requires.rehearsal c.register.ensures.stage
    (plays_said c.args.self.now c.register.new.self c.args.out.now.items c.register.new.out.items (event.Register (chars c.as_str-in-Register.result.now) (chars c.as_str-in-Register-2.result.now))
    (event.Register (chars c.as_str-in-Register.result.now) (chars c.as_str-in-Register-2.result.now)) refl c.requires.rehearsal.stage.config tt c.register.ensures.config c.register.ensures.noise goes) tt c.requires.rehearsal.replies)

pub returns-in-Write-clause-plays : goal.returns-in-Write-clause-plays
returns-in-Write-clause-plays c = λ of.
    on_ok c.write.result c.write.ensures.plays (λ goes. plays_said c.args.self.now c.write.new.self c.args.out.now.items c.write.new.out.items c.args.event.now
    (event.Write (chars c.as_str-in-Write.result.now) (chars c.as_str-in-Write-2.result.now) c.in-Write.number c.deref.result.now)
    (c.in-Write.is ∙ sym (three (λ n w r. event.Write n w c.in-Write.number r) c.as_str-in-Write.ensures.chars c.as_str-in-Write-2.ensures.chars (c.deref.ensures.value ∙ c.inner.ensures)))
    c.requires.rehearsal.stage.config tt c.write.ensures.config c.write.ensures.noise goes)

pub returns-in-Write-clause-rehearsal : goal.returns-in-Write-clause-rehearsal
returns-in-Write-clause-rehearsal c =
    on_ok c.write.result c.write.ensures.plays (λ goes. rehearses c.args.self.now (with_stage c.args.self.now c.write.new.self) c.args.out.now.items c.write.new.out.items
    (event.Write (chars c.as_str-in-Write.result.now) (chars c.as_str-in-Write-2.result.now) c.in-Write.number c.deref.result.now) c.requires.rehearsal c.write.ensures.stage
    (plays_said c.args.self.now c.write.new.self c.args.out.now.items c.write.new.out.items (event.Write (chars c.as_str-in-Write.result.now) (chars c.as_str-in-Write-2.result.now) c.in-Write.number c.deref.result.now)
    (event.Write (chars c.as_str-in-Write.result.now) (chars c.as_str-in-Write-2.result.now) c.in-Write.number c.deref.result.now) refl c.requires.rehearsal.stage.config tt c.write.ensures.config c.write.ensures.noise goes) tt c.requires.rehearsal.replies)

pub returns-in-Route-clause-plays : goal.returns-in-Route-clause-plays
returns-in-Route-clause-plays c = λ of.
    on_ok c.route.result c.route.ensures.plays (λ goes. plays_said c.args.self.now c.route.new.self c.args.out.now.items c.route.new.out.items c.args.event.now
    (event.Route (chars c.as_str-in-Route.result.now))
    (c.in-Route.is ∙ sym (ap (λ n. event.Route n) c.as_str-in-Route.ensures.chars))
    c.requires.rehearsal.stage.config tt c.route.ensures.config c.route.ensures.noise goes)

pub returns-in-Route-clause-rehearsal : goal.returns-in-Route-clause-rehearsal
returns-in-Route-clause-rehearsal c =
    on_ok c.route.result c.route.ensures.plays (λ goes. rehearses c.args.self.now (with_stage c.args.self.now c.route.new.self) c.args.out.now.items c.route.new.out.items
    (event.Route (chars c.as_str-in-Route.result.now)) c.requires.rehearsal c.route.ensures.stage
    (plays_said c.args.self.now c.route.new.self c.args.out.now.items c.route.new.out.items (event.Route (chars c.as_str-in-Route.result.now))
    (event.Route (chars c.as_str-in-Route.result.now)) refl c.requires.rehearsal.stage.config tt c.route.ensures.config c.route.ensures.noise goes) tt c.requires.rehearsal.replies)

pub returns-in-Fault-clause-plays : goal.returns-in-Fault-clause-plays
returns-in-Fault-clause-plays c = λ of.
    on_ok c.fault.result c.fault.ensures.plays (λ goes. plays_said c.args.self.now c.fault.new.self c.args.out.now.items c.args.out.now.items c.args.event.now
    (event.Fault (chars c.as_str-in-Fault.result.now) c.in-Fault.stands)
    (c.in-Fault.is ∙ sym (ap (λ n. event.Fault n c.in-Fault.stands) c.as_str-in-Fault.ensures.chars))
    c.requires.rehearsal.stage.config tt c.fault.ensures.config c.fault.ensures.noise (λ played plays. any_text c.args.self.now.stage c.fault.new.self c.args.out.now.items played (event.Fault (chars c.as_str-in-Fault.result.now) c.in-Fault.stands) (goes played plays)))

pub returns-in-Fault-clause-rehearsal : goal.returns-in-Fault-clause-rehearsal
returns-in-Fault-clause-rehearsal c =
    both_ok c.fault.result c.fault.ensures.plays c.fault.ensures.stage (λ goes stands. rehearses c.args.self.now (with_stage c.args.self.now c.fault.new.self) c.args.out.now.items c.args.out.now.items
    (event.Fault (chars c.as_str-in-Fault.result.now) c.in-Fault.stands) c.requires.rehearsal stands
    (plays_said c.args.self.now c.fault.new.self c.args.out.now.items c.args.out.now.items (event.Fault (chars c.as_str-in-Fault.result.now) c.in-Fault.stands)
    (event.Fault (chars c.as_str-in-Fault.result.now) c.in-Fault.stands) refl c.requires.rehearsal.stage.config tt c.fault.ensures.config c.fault.ensures.noise (λ played plays. any_text c.args.self.now.stage c.fault.new.self c.args.out.now.items played (event.Fault (chars c.as_str-in-Fault.result.now) c.in-Fault.stands) (goes played plays))) tt c.requires.rehearsal.replies)

pub returns-in_default-clause-plays : goal.returns-in_default-clause-plays
returns-in_default-clause-plays c = λ of.
    absurd (nothing_else c.args.event.now of c.in_default.not-Node c.in_default.not-Open c.in_default.not-Register c.in_default.not-Write c.in_default.not-Route
    c.in_default.not-Show c.in_default.not-Batches c.in_default.not-Crash c.in_default.not-Fault)
