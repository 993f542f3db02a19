use Rattle.std.proofs.Common.{ℕ, List, refl, sym, ◌∙◌, ap, subst}
use Rattle.net_runs.{specs.Events.{Put, Lose, Expire, AnswerAt, Switch}, specs.Walkers.{Happening}}
use Rattle.mctp_transport.specs.Packets.{key_value}
use Rattle.net_sim.{specs.Effects.{effect_value}, specs.Outcomes.{event_value}, proofs.Walking.{err_told, walked_as, wants_as, happens_apart, happens_wants}, specs.LackingRooms.{LacksRoom, NetworkLacksRoom}, proofs.Lacking.{err_lacks}}
use Rattle.net_sim.proofs.network.Network.play.Goals as goal

pub returns-in_err-put-in-Put-clause-plays : goal.returns-in_err-put-in-Put-clause-plays
returns-in_err-put-in-Put-clause-plays g c =
    let tables = c.args.self.now.traffic.router.tables in
    err_told _ _ c.from_residual.result c.from_residual.ensures.0
    (wants_as tables _ _ _ _ (ap (λ bytes. Happening (Put c.in-Put.node bytes)) c.deref.ensures.value ∙ ap event_value (sym c.in-Put.is))
    (happens_wants tables _ _ _ refl (Put c.in-Put.node c.deref.result.now) c.in_err-put-in-Put.ensures.plays))

pub returns-in_err-answer-in-Answer-clause-plays : goal.returns-in_err-answer-in-Answer-clause-plays
returns-in_err-answer-in-Answer-clause-plays g c =
    let tables = c.args.self.now.traffic.router.tables in
    err_told _ _ c.from_residual-in_err-answer-in-Answer.result c.from_residual-in_err-answer-in-Answer.ensures.0
    (wants_as tables _ _ _ _ (ap event_value (sym c.in-Answer.is)) (happens_wants tables _ _ _ refl (AnswerAt c.in-Answer.node) c.in_err-answer-in-Answer.ensures.plays))

pub returns-in_ok-put-in-Put-clause-plays : goal.returns-in_ok-put-in-Put-clause-plays
returns-in_ok-put-in-Put-clause-plays g c =
    let tables = c.args.self.now.traffic.router.tables in
    walked_as tables _ _ _ _ _ _ (ap (λ bytes. Happening (Put c.in-Put.node bytes)) c.deref.ensures.value ∙ ap event_value (sym c.in-Put.is)) (sym c.happened.ensures)
    (happens_apart tables _ _ _ refl (Put c.in-Put.node c.deref.result.now) (λ number keep is. absurd (cc)) (effect_value c.in_ok-put-in-Put.field-0) c.in_ok-put-in-Put.ensures.plays)

pub returns-in-Lose-clause-plays : goal.returns-in-Lose-clause-plays
returns-in-Lose-clause-plays g c =
    let tables = c.args.self.now.traffic.router.tables in
    walked_as tables _ _ _ _ _ _ (ap event_value (sym c.in-Lose.is)) (sym c.happened-in-Lose.ensures)
    (happens_apart tables _ _ _ refl (Lose c.in-Lose.flight) (λ number keep is. absurd (cc)) (effect_value c.lose.result) c.lose.ensures.plays)

pub returns-in-Expire-clause-plays : goal.returns-in-Expire-clause-plays
returns-in-Expire-clause-plays g c =
    let tables = c.args.self.now.traffic.router.tables in
    walked_as tables _ _ _ _ _ _ (ap event_value (sym c.in-Expire.is)) (sym c.happened-in-Expire.ensures)
    (happens_apart tables _ _ _ refl (Expire c.in-Expire.node (key_value c.in-Expire.key)) (λ number keep is. absurd (cc)) (effect_value c.expire.result) c.expire.ensures.plays)

pub returns-in_ok-answer-in-Answer-clause-plays : goal.returns-in_ok-answer-in-Answer-clause-plays
returns-in_ok-answer-in-Answer-clause-plays g c =
    let tables = c.args.self.now.traffic.router.tables in
    walked_as tables _ _ _ _ _ _ (ap event_value (sym c.in-Answer.is)) (sym c.happened-in-Answer.ensures)
    (happens_apart tables _ _ _ refl (AnswerAt c.in-Answer.node) (λ number keep is. absurd (cc)) (effect_value c.in_ok-answer-in-Answer.field-0) c.in_ok-answer-in-Answer.ensures.plays)

pub returns-in-Switch-clause-plays : goal.returns-in-Switch-clause-plays
returns-in-Switch-clause-plays g c =
    let tables = c.args.self.now.traffic.router.tables in
    walked_as tables _ _ _ _ _ _ (ap event_value (sym c.in-Switch.is)) (sym c.happened-in-Switch.ensures)
    (happens_apart tables _ _ _ refl (Switch c.in-Switch.node) (λ number keep is. absurd (cc)) (effect_value c.switch.result) c.switch.ensures.plays)

pub returns-in-Collected-clause-plays : goal.returns-in-Collected-clause-plays
returns-in-Collected-clause-plays g c =
    walked_as c.args.self.now.traffic.router.tables _ _ _ _ _ _ (ap event_value (sym c.in-Collected.is)) refl c.tell.ensures

pub returns-in_err-put-in-Put-clause-full : goal.returns-in_err-put-in-Put-clause-full
returns-in_err-put-in-Put-clause-full g c =
    let same = ap (λ bytes. Happening (Put c.in-Put.node bytes)) c.deref.ensures.value ∙ ap event_value (sym c.in-Put.is) in
    err_lacks _ c.from_residual.result c.from_residual.ensures.0 (subst (λ e. NetworkLacksRoom c.args.self.now e) same c.in_err-put-in-Put.ensures.full)

pub returns-in_err-answer-in-Answer-clause-full : goal.returns-in_err-answer-in-Answer-clause-full
returns-in_err-answer-in-Answer-clause-full g c =
    err_lacks _ c.from_residual-in_err-answer-in-Answer.result c.from_residual-in_err-answer-in-Answer.ensures.0
    (subst (λ e. NetworkLacksRoom c.args.self.now e) (ap event_value (sym c.in-Answer.is)) c.in_err-answer-in-Answer.ensures.full)

pub returns-in_err-put-in-Put-clause-lacks : goal.returns-in_err-put-in-Put-clause-lacks
returns-in_err-put-in-Put-clause-lacks g c =
    let lacks = subst (λ (bytes : List ℕ). LacksRoom c.put.new.self (Put c.in-Put.node bytes)) c.deref.ensures.value c.in_err-put-in-Put.ensures.lacks in
    err_lacks _ c.from_residual.result c.from_residual.ensures.0 (rw c.in-Put.is lacks)

pub returns-in_err-answer-in-Answer-clause-lacks : goal.returns-in_err-answer-in-Answer-clause-lacks
returns-in_err-answer-in-Answer-clause-lacks g c =
    err_lacks _ c.from_residual-in_err-answer-in-Answer.result c.from_residual-in_err-answer-in-Answer.ensures.0 (rw c.in-Answer.is c.in_err-answer-in-Answer.ensures.lacks)
