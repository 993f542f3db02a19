-- A walker that wants memory.
use Rattle.std.{proofs.Common.{◌≡◌, ◌≢◌, ◌⊎◌, ◌+◌, ◌<◌, ◌≤◌, ℕ, List, length, Some, None, Result, Ok, Err, arith, inl, inr, vec_len, vec_capacity}, specs.Prelude.{OnErr}}
use Rattle.pldm_message.specs.Pdrs.{PartRequest, Part}
use Rattle.pdr_repository.{specs.Faults.{IsLast, Judges, Room}, specs.declared.walk_fault.Step.{Step as WalkStep}, specs.declared.walk_fault.WalkFault.{WalkFault}, specs.declared.walk_fault.WalkFault.TheVariants.{WrongFlag, WrongSize, OutOfMemory}, specs.declared.walker.Walker.{Walker}, specs.WalkerRooms.{HasRoom, LacksRoom, BringsTooMuch}}

-- the tests of a part find no want of memory
pub found_otherwise : (room : Room) (records : List (List ℕ)) (before : List ℕ) (r : PartRequest) (p : Part) (f : WalkFault) → Judges room records before r p (Some f) → f ≢ OutOfMemory
found_otherwise room records before r p f (inl (_, is)) e = cc
found_otherwise room records before r p f (inr (_, inl (_, is))) e = cc
found_otherwise room records before r p f (inr (_, inr (_, inl (_, is)))) e = cc
found_otherwise room records before r p f (inr (_, inr (_, inr (_, inl (_, is))))) e = cc
found_otherwise room records before r p f (inr (_, inr (_, inr (_, inr (_, inl (_, is)))))) e = cc
found_otherwise room records before r p f (inr (_, inr (_, inr (_, inr (_, inr (_, inl (_, is))))))) e = cc
found_otherwise room records before r p f (inr (_, inr (_, inr (_, inr (_, inr (_, inr (_, is))))))) e = cc

-- a part without a fault is no longer than asked for
pub as_asked : (room : Room) (records : List (List ℕ)) (before : List ℕ) (r : PartRequest) (p : Part) → Judges room records before r p None → length p.bytes ≤ r.count
as_asked room records before r p (inl (_, is)) = absurd (let e : None ≡ Some WrongFlag = is in cc)
as_asked room records before r p (inr (_, inl (_, is))) = absurd (let e : None ≡ Some WrongSize = is in cc)
as_asked room records before r p (inr (_, inr (fits, _))) = let short : ¬ (r.count < length p.bytes) = λ long. fits (inr (inl long)) in omega arith

-- another fault
pub other_fault : (P : Type 0) (result : Result WalkStep WalkFault) (f : WalkFault) → result ≡ Err f → f ≢ OutOfMemory → result ≡ Err OutOfMemory → P
other_fault P result f is other wants = absurd (other (cc))

pub lacks_at_last : (w : Walker) (p : Part) (result : Result WalkStep WalkFault) → length p.bytes ≤ w.count → IsLast p
    → OnErr result ((vec_capacity w.under_way < vec_len w.under_way + length p.bytes) ⊎ (vec_capacity w.collected.records ≤ vec_len w.collected.records)) → result ≡ Err OutOfMemory → LacksRoom w p
lacks_at_last w p (Ok step) short last full wants = absurd (cc)
lacks_at_last w p (Err f) short last (inl bytes) wants = (short, inl bytes)
lacks_at_last w p (Err f) short last (inr list) wants = (short, inr (last, list))

pub lacks_before : (w : Walker) (p : Part) (result : Result WalkStep WalkFault) → length p.bytes ≤ w.count → OnErr result (vec_capacity w.under_way < vec_len w.under_way + length p.bytes)
    → result ≡ Err OutOfMemory → LacksRoom w p
lacks_before w p (Ok step) short full wants = absurd (cc)
lacks_before w p (Err f) short full wants = (short, inl full)

-- with room for as many bytes as are asked for, and for a record, no part lacks room
pub enough : (w : Walker) (bytes : List ℕ) → HasRoom w → ¬ BringsTooMuch w bytes
enough w bytes (list, under_way) (m, p, _, _, (short, inl full)) = omega arith
enough w bytes (list, under_way) (m, p, _, _, (short, inr (_, full))) = omega arith
