use Rattle.std.proofs.Common.{inl, inr, refl}
use Rattle.sds_world.proofs.Answering.{always_told, kept_all, shows_all, unkept, unshown}
use Rattle.sds_world.proofs.rehearsing.rehearse.Goals as goal

pub returns-in-Err-Fault-clause-shows : goal.returns-in-Err-Fault-clause-shows
returns-in-Err-Fault-clause-shows g c = unshown c.args.config c.args.noise _ _ _ (inl refl)

pub returns-in-Err-NoMemory-clause-shows : goal.returns-in-Err-NoMemory-clause-shows
returns-in-Err-NoMemory-clause-shows g c = unshown c.args.config c.args.noise _ _ _ (inr refl)

pub returns-in-Err-clause-shows : goal.returns-in-Err-clause-shows
returns-in-Err-clause-shows g c = unshown c.args.config c.args.noise _ _ _ (inr refl)

pub returns-in-Err-Fault-clause-kept : goal.returns-in-Err-Fault-clause-kept
returns-in-Err-Fault-clause-kept g c = unkept c.args.config c.args.noise _ _ _ (inl refl)

pub returns-in-Err-NoMemory-clause-kept : goal.returns-in-Err-NoMemory-clause-kept
returns-in-Err-NoMemory-clause-kept g c = unkept c.args.config c.args.noise _ _ _ (inr refl)

pub returns-in-Err-clause-kept : goal.returns-in-Err-clause-kept
returns-in-Err-clause-kept g c = unkept c.args.config c.args.noise _ _ _ (inr refl)

pub returns-in-Err-Fault-clause-in_step : goal.returns-in-Err-Fault-clause-in_step
returns-in-Err-Fault-clause-in_step g c = always_told c.args.config c.requires.config c.args.noise (g.I.Source.left c.args.input.now)

pub returns-in-Err-NoMemory-clause-in_step : goal.returns-in-Err-NoMemory-clause-in_step
returns-in-Err-NoMemory-clause-in_step g c = always_told c.args.config c.requires.config c.args.noise (g.I.Source.left c.args.input.now)

pub returns-in-Err-clause-in_step : goal.returns-in-Err-clause-in_step
returns-in-Err-clause-in_step g c = always_told c.args.config c.requires.config c.args.noise (g.I.Source.left c.args.input.now)

pub returns-clause-in_step : goal.returns-clause-in_step
returns-clause-in_step g c = always_told c.args.config c.requires.config c.args.noise (g.I.Source.left c.args.input.now)

pub returns-clause-shows : goal.returns-clause-shows
returns-clause-shows g c =
    shows_all c.args.config c.args.noise (g.I.Source.left c.args.input.now) c.in-Ok.read.bytes.items c.deref.result.now c.in-Ok.read.is_over c.in-Ok-rehearse_text.rehearsed
    c.deref-2.result.now c.show.result (g.W.Sink.taken c.args.out.now) (g.W.Sink.taken c.show.new.out) c.in-Ok.ensures.front c.deref.ensures.value
    c.in-Ok-rehearse_text.ensures.ends c.deref-2.ensures.value c.show.ensures.ends c.show.ensures.part

pub returns-clause-kept : goal.returns-clause-kept
returns-clause-kept g c =
    kept_all c.args.config c.args.noise (g.I.Source.left c.args.input.now) c.in-Ok.read.bytes.items c.deref.result.now c.in-Ok.read.is_over c.in-Ok-rehearse_text.rehearsed
    c.show.result c.in-Ok.ensures.front c.deref.ensures.value c.in-Ok-rehearse_text.ensures.ends
