use Rattle.std.{proofs.Common.{◌+◌, All, length, sym, ◌∙◌, ap, subst}, proofs.lemmas.List.{length_push}, proofs.lemmas.List.Elements.{All-push}}
use Rattle.net_sim.specs.Payloads.{IsRoomFor}
use Rattle.net_sim.proofs.payload.rooms_for_answer.Goals as goal

pub loop-preserved : goal.loop-preserved
loop-preserved c = (
  ap length c.in_ok-push.ensures.items ∙ (length_push c.loop.rooms.items c.in_ok-room_for_payload.field-0 ∙ ap (λ n. n + 1) c.loop.invariant.0),
  subst (All (IsRoomFor c.args.unit)) (sym c.in_ok-push.ensures.items) (All-push (IsRoomFor c.args.unit) c.loop.rooms.items c.in_ok-room_for_payload.field-0 c.loop.invariant.1 c.in_ok-room_for_payload.ensures.room),
)
