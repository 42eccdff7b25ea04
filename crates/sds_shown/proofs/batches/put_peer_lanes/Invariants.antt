use Rattle.std.proofs.Common.{◌≡◌, ◌++◌, ℕ, drop, filter_map, find, map}
use Rattle.std.specs.List.{flat_map}
use Rattle.sds_batcher.specs.Order.{entry_of}
use Rattle.sds_history.specs.history.Lanes.{is_lane}
use Rattle.sds_line.specs.Written.{Extends}
use Rattle.sds_screen.specs.Listed.{in_line}
use Rattle.sds_types.specs.declared.channel.ChannelDef.{ChannelDef}
use Rattle.sds_shown.proofs.batches.put_peer_lanes.Given as goal

-- the lines so far and those of the channels that are left are all
abbrev pub invariant-loop-channel : goal.invariant-loop-channel
invariant-loop-channel l = record {
  so_far : l.out.items ++ flat_map (in_line l.config) (filter_map (λ (at : ℕ × ChannelDef). find (is_lane l.kept.peer.id at.0) l.state.lanes) (map entry_of (drop l.channel-index l.channels)))
      ≡ l.fn.out.items ++ flat_map (in_line l.config) (filter_map (λ (at : ℕ × ChannelDef). find (is_lane l.kept.peer.id at.0) l.state.lanes) (map entry_of l.channels));
  front : Extends l.fn.out.items l.out.items;
}
