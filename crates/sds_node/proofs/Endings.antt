-- Each result of a call is a fault of the keeper, want of memory, or an answer.
use Rattle.std.proofs.Common.{◌≡◌, ◌⊎◌, inl, inr, refl}
use Rattle.std.specs.Prelude.{Result, Ok, Err}
use Rattle.sds_types.specs.declared.ack.AckRefusal.{AckRefusal}
use Rattle.sds_types.specs.declared.ack.AckRefusal.TheVariants as ack
use Rattle.sds_types.specs.declared.load_answer.PeerRefusal.{PeerRefusal}
use Rattle.sds_types.specs.declared.load_answer.PeerRefusal.TheVariants as peer
use Rattle.sds_types.specs.declared.node_fault.NodeFault.{NodeFault}
use Rattle.sds_types.specs.declared.node_fault.NodeFault.TheVariants as fault
use Rattle.sds_types.specs.declared.registration.RegRefusal.{RegRefusal}
use Rattle.sds_types.specs.declared.registration.RegRefusal.TheVariants as reg
use Rattle.sds_types.specs.declared.write_answer.WriteRefusal.{WriteRefusal}
use Rattle.sds_types.specs.declared.write_answer.WriteRefusal.TheVariants as write
use Rattle.sds_commit.specs.Ends.{HasFailed, IsAnswer, LacksMemory}

abbrev pub Ended : {A E : Type 0} → (NodeFault → E) → Result A E → Type 0
Ended as_fault result = HasFailed as_fault result ⊎ (LacksMemory as_fault result ⊎ IsAnswer as_fault result)

pub ended_plain : {A : Type 0} (result : Result A NodeFault) → Ended (λ (found : NodeFault). found) result
ended_plain (Ok value) = inr (inr ((λ same. absurd (cc)), (λ same. absurd (cc))))
ended_plain (Err fault.Keeper) = inl refl
ended_plain (Err (fault.BadKept key)) = inr (inr ((λ same. absurd (cc)), (λ same. absurd (cc))))
ended_plain (Err (fault.Damaged at)) = inr (inr ((λ same. absurd (cc)), (λ same. absurd (cc))))
ended_plain (Err fault.Counters) = inr (inr ((λ same. absurd (cc)), (λ same. absurd (cc))))
ended_plain (Err fault.NoMemory) = inr (inl refl)

pub ended_reg : {A : Type 0} (result : Result A RegRefusal) → Ended reg.Fault result
ended_reg (Ok value) = inr (inr ((λ same. absurd (cc)), (λ same. absurd (cc))))
ended_reg (Err reg.NotOpen) = inr (inr ((λ same. absurd (cc)), (λ same. absurd (cc))))
ended_reg (Err reg.UnknownGroup) = inr (inr ((λ same. absurd (cc)), (λ same. absurd (cc))))
ended_reg (Err reg.AlreadyOpen) = inr (inr ((λ same. absurd (cc)), (λ same. absurd (cc))))
ended_reg (Err reg.IdTaken) = inr (inr ((λ same. absurd (cc)), (λ same. absurd (cc))))
ended_reg (Err reg.TooManyNodes) = inr (inr ((λ same. absurd (cc)), (λ same. absurd (cc))))
ended_reg (Err (reg.Fault fault.Keeper)) = inl refl
ended_reg (Err (reg.Fault (fault.BadKept key))) = inr (inr ((λ same. absurd (cc)), (λ same. absurd (cc))))
ended_reg (Err (reg.Fault (fault.Damaged at))) = inr (inr ((λ same. absurd (cc)), (λ same. absurd (cc))))
ended_reg (Err (reg.Fault fault.Counters)) = inr (inr ((λ same. absurd (cc)), (λ same. absurd (cc))))
ended_reg (Err (reg.Fault fault.NoMemory)) = inr (inl refl)

pub ended_write : {A : Type 0} (result : Result A WriteRefusal) → Ended write.Fault result
ended_write (Ok value) = inr (inr ((λ same. absurd (cc)), (λ same. absurd (cc))))
ended_write (Err (write.Broken row rule)) = inr (inr ((λ same. absurd (cc)), (λ same. absurd (cc))))
ended_write (Err (write.OldNumber last)) = inr (inr ((λ same. absurd (cc)), (λ same. absurd (cc))))
ended_write (Err (write.GapNumber last)) = inr (inr ((λ same. absurd (cc)), (λ same. absurd (cc))))
ended_write (Err write.TooManyRows) = inr (inr ((λ same. absurd (cc)), (λ same. absurd (cc))))
ended_write (Err (write.Fault fault.Keeper)) = inl refl
ended_write (Err (write.Fault (fault.BadKept key))) = inr (inr ((λ same. absurd (cc)), (λ same. absurd (cc))))
ended_write (Err (write.Fault (fault.Damaged at))) = inr (inr ((λ same. absurd (cc)), (λ same. absurd (cc))))
ended_write (Err (write.Fault fault.Counters)) = inr (inr ((λ same. absurd (cc)), (λ same. absurd (cc))))
ended_write (Err (write.Fault fault.NoMemory)) = inr (inl refl)

pub ended_peer : {A : Type 0} (result : Result A PeerRefusal) → Ended peer.Fault result
ended_peer (Ok value) = inr (inr ((λ same. absurd (cc)), (λ same. absurd (cc))))
ended_peer (Err peer.UnknownNode) = inr (inr ((λ same. absurd (cc)), (λ same. absurd (cc))))
ended_peer (Err (peer.Fault fault.Keeper)) = inl refl
ended_peer (Err (peer.Fault (fault.BadKept key))) = inr (inr ((λ same. absurd (cc)), (λ same. absurd (cc))))
ended_peer (Err (peer.Fault (fault.Damaged at))) = inr (inr ((λ same. absurd (cc)), (λ same. absurd (cc))))
ended_peer (Err (peer.Fault fault.Counters)) = inr (inr ((λ same. absurd (cc)), (λ same. absurd (cc))))
ended_peer (Err (peer.Fault fault.NoMemory)) = inr (inl refl)

pub ended_ack : {A : Type 0} (result : Result A AckRefusal) → Ended ack.Fault result
ended_ack (Ok value) = inr (inr ((λ same. absurd (cc)), (λ same. absurd (cc))))
ended_ack (Err ack.UnknownNode) = inr (inr ((λ same. absurd (cc)), (λ same. absurd (cc))))
ended_ack (Err (ack.UnknownBatch batch)) = inr (inr ((λ same. absurd (cc)), (λ same. absurd (cc))))
ended_ack (Err (ack.Fault fault.Keeper)) = inl refl
ended_ack (Err (ack.Fault (fault.BadKept key))) = inr (inr ((λ same. absurd (cc)), (λ same. absurd (cc))))
ended_ack (Err (ack.Fault (fault.Damaged at))) = inr (inr ((λ same. absurd (cc)), (λ same. absurd (cc))))
ended_ack (Err (ack.Fault fault.Counters)) = inr (inr ((λ same. absurd (cc)), (λ same. absurd (cc))))
ended_ack (Err (ack.Fault fault.NoMemory)) = inr (inl refl)
