use Rattle.std.proofs.Common.{drop}
use Rattle.std.specs.Str.{chars}
use Rattle.sds_image.specs.Meaning.{meaning_of}
use Rattle.sds_messages.proofs.Parts.{PutsParts}
use Rattle.sds_messages.proofs.message.put_parts.Given as goal

-- the parts so far and those of the channels that are left are all
abbrev pub invariant-loop-channel : goal.invariant-loop-channel
invariant-loop-channel l =
    PutsParts l.config (meaning_of l.state) (chars l.to) l.channels l.channel-items (drop l.channel-index l.channel-items) l.fn.out.items l.count l.out.items
