-- Events that take no memory.
use Rattle.std.proofs.Common.{◌≡◌, ℕ, List, true, false, inl, inr, ◌∙◌}
use Rattle.net_tables.specs.TwoPlans.{Tables}
use Rattle.pdr_repository.specs.Records.{Entry}
use Rattle.net_runs.{specs.Events.{Put, Move, Lose, Expire, AnswerAt, Switch}, specs.Walkers.{WalkedState, WalkedEvent, Happening, BeginWalk, Ask, TellWalk}}
use Rattle.net_sim.{specs.declared.network.Network.{Network}, specs.LackingRooms.{NetworkLacksRoom}, specs.MemoryFree.{TakesNoRoom, NeverWants}, specs.Networks.{network_value, checked_of}, specs.WalkedStanding.{StandsForWalked}}

pub never_wants : (tables : Tables) (w : WalkedState) (event : WalkedEvent) → NeverWants tables w event
never_wants tables w (Happening event) (inl (why, refused)) (may, room) = may why refused
never_wants tables w (BeginWalk node eid tag count) (inl (why, refused)) may = may why refused
never_wants tables w (Ask k) (inl (why, refused)) may = may why refused
never_wants tables w (TellWalk k) none may = may
never_wants tables w (Happening (Put node bytes)) (inr none) may = none
never_wants tables w (Happening (Move number true)) (inr none) may = none
never_wants tables w (Happening (Move number false)) (inr none) (may, (f, there, holds)) = none f there holds
never_wants tables w (Happening (Lose number)) (inr none) (may, room) = room
never_wants tables w (Happening (Expire node key)) (inr none) (may, room) = room
never_wants tables w (Happening (AnswerAt node)) (inr none) may = none
never_wants tables w (Happening (Switch node)) (inr none) (may, room) = room
never_wants tables w (BeginWalk node eid tag count) (inr none) may = none
never_wants tables w (Ask k) (inr none) may = none

module _ {T : Type 0} (tid : T → ℕ) (records : T → List Entry) (network : Network T) (w : WalkedState) (s : StandsForWalked (network_value tid records network) w) where
  pub lacks_no_room : (event : WalkedEvent) → TakesNoRoom (checked_of network).0.plan w event → ¬ NetworkLacksRoom network event
  lacks_no_room (Happening (Put node bytes)) none lacks = none
  lacks_no_room (Happening (Move number true)) none lacks = none
  lacks_no_room (Happening (Move number false)) none (inl (inl (copied, lacks))) = let e : false ≡ true = copied in absurd (cc)
  lacks_no_room (Happening (Move number false)) none (inl (inr (f, (at, holds), lacks))) = none f (s.network.flights number ∙ at) holds
  lacks_no_room (Happening (Move number false)) none (inr (node, key, (f, (at, holds), of_node, of_key), k, walker, there, listens, ready)) = none f (s.network.flights number ∙ at) holds
  lacks_no_room (Happening (Lose number)) none lacks = lacks
  lacks_no_room (Happening (Expire node key)) none lacks = lacks
  lacks_no_room (Happening (AnswerAt node)) none lacks = none
  lacks_no_room (Happening (Switch node)) none lacks = lacks
  lacks_no_room (BeginWalk node eid tag count) none lacks = none
  lacks_no_room (Ask k) none lacks = none
  lacks_no_room (TellWalk k) none lacks = lacks
