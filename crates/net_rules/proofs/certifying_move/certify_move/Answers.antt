use Rattle.std.proofs.Common.{◌≡◌, rules, refl, sym, Err}
use Rattle.plan_values.specs.declared.certificate.Certificate.{Certificate}
use Rattle.net_rules.{specs.MoveObstacles.{obstacle_of_error}, specs.MoveRanks.{IsMoveRank}, proofs.ExactCertificates.{exact_only_by, exact_well_formed, exact_few}, proofs.MoveCertificates.{plan_meets, plan_rows_apart, plan_rows_in_range, rows_lie_apart, rows_lie_in_range, with_ranks, difference_named, mixed_loop_named, fault_judged, ruled_out_move}, proofs.MoveOrder.{as_many_nodes}, proofs.MoveRankLaws.{move_rank_only}, proofs.SameHolders.{hold_the_same}}
use Rattle.net_rules.proofs.certifying_move.certify_move.Goals as goal

pub returns-in_err-meet_frames-clause-none : goal.returns-in_err-meet_frames-clause-none
returns-in_err-meet_frames-clause-none c =
    let before = c.args.before.now in
    let after = c.args.after.now in
    let failed = c.in_err-meet_frames in
    let ended : c.from_residual.result ≡ Err (obstacle_of_error failed.field-0.0) = search rules in
    rw ended (ruled_out_move before after (obstacle_of_error failed.field-0.0) (difference_named before after failed.field-0.0 failed.ensures.difference))

pub returns-in_err-made-clause-none : goal.returns-in_err-made-clause-none
returns-in_err-made-clause-none c =
    let before = c.args.before.now in
    let after = c.args.after.now in
    let failed = c.in_err-made in
    let ended : c.from_residual-in_err-made.result ≡ Err failed.field-0.0 = search rules in
    rw ended (ruled_out_move before after failed.field-0.0 failed.ensures.obstacle)

pub returns-in_err-meet_new_rows-clause-none : goal.returns-in_err-meet_new_rows-clause-none
returns-in_err-meet_new_rows-clause-none c =
    let before = c.args.before.now in
    let after = c.args.after.now in
    let failed = c.in_err-meet_new_rows in
    let ended : c.from_residual-in_err-meet_new_rows.result ≡ Err failed.field-0.0 = search rules in
    rw ended (ruled_out_move before after failed.field-0.0 failed.ensures.obstacle)

pub exact_move_ranks-requires-clause-apart : goal.exact_move_ranks-requires-clause-apart
exact_move_ranks-requires-clause-apart c = plan_rows_apart c.args.before.now c.in_ok-made.made c.in_ok-made.ensures.accepted

pub exact_move_ranks-requires-clause-in_range : goal.exact_move_ranks-requires-clause-in_range
exact_move_ranks-requires-clause-in_range c = plan_rows_in_range c.args.before.now c.in_ok-made.made c.in_ok-made.ensures.accepted

pub exact_move_ranks-requires-clause-apart_after : goal.exact_move_ranks-requires-clause-apart_after
exact_move_ranks-requires-clause-apart_after c = rows_lie_apart c.args.after.now c.in_ok-made.made c.in_ok-meet_new_rows.ensures.met

pub exact_move_ranks-requires-clause-in_range_after : goal.exact_move_ranks-requires-clause-in_range_after
exact_move_ranks-requires-clause-in_range_after c = rows_lie_in_range c.args.after.now c.in_ok-made.made c.in_ok-meet_new_rows.ensures.met

pub exact_move_ranks-requires-clause-many : goal.exact_move_ranks-requires-clause-many
exact_move_ranks-requires-clause-many c = sym (as_many_nodes c.args.before.now c.args.after.now c.in_ok-meet_frames.ensures.met.0)

pub exact_move_ranks-requires-clause-holders : goal.exact_move_ranks-requires-clause-holders
exact_move_ranks-requires-clause-holders c = hold_the_same c.args.before.now c.args.after.now c.in_ok-meet_frames.ensures.met.1

pub returns-in_err-made-2-clause-obstacle : goal.returns-in_err-made-2-clause-obstacle
returns-in_err-made-2-clause-obstacle c =
    let before = c.args.before.now in
    let after = c.args.after.now in
    let failed = c.in_err-made-2 in
    let ended : c.from_residual-in_err-made-2.result ≡ Err failed.field-0.0 = search rules in
    rw ended (mixed_loop_named before after c.in_ok-meet_frames.ensures.met c.in_ok-made.made c.in_ok-made.ensures.accepted failed.field-0.0 c.in_ok-meet_new_rows.ensures.met failed.ensures.obstacle)

pub returns-in_err-made-2-clause-none : goal.returns-in_err-made-2-clause-none
returns-in_err-made-2-clause-none c =
    let before = c.args.before.now in
    let after = c.args.after.now in
    let failed = c.in_err-made-2 in
    let ended : c.from_residual-in_err-made-2.result ≡ Err failed.field-0.0 = search rules in
    let named = mixed_loop_named before after c.in_ok-meet_frames.ensures.met c.in_ok-made.made c.in_ok-made.ensures.accepted failed.field-0.0 c.in_ok-meet_new_rows.ensures.met failed.ensures.obstacle in
    rw ended (ruled_out_move before after failed.field-0.0 named)

pub returns-in_err-meet_rules_of_move-clause-obstacle : goal.returns-in_err-meet_rules_of_move-clause-obstacle
returns-in_err-meet_rules_of_move-clause-obstacle c =
    let before = c.args.before.now in
    let after = c.args.after.now in
    let failed = c.in_err-meet_rules_of_move in
    let old = c.in_ok-made.made in
    let ended : c.from_residual-in_err-meet_rules_of_move.result ≡ Err (obstacle_of_error failed.field-0.0) = search rules in
    rw ended (fault_judged before after c.in_ok-meet_frames.ensures.met old c.in_ok-made.ensures.accepted _
    (with_ranks before after old _ c.in_ok-made.ensures.exact refl refl c.in_ok-made-2.ensures.exact) failed.field-0.0 failed.ensures.first_fault)

pub returns-in_err-meet_rules_of_move-clause-none : goal.returns-in_err-meet_rules_of_move-clause-none
returns-in_err-meet_rules_of_move-clause-none c =
    let before = c.args.before.now in
    let after = c.args.after.now in
    let failed = c.in_err-meet_rules_of_move in
    let old = c.in_ok-made.made in
    let ended : c.from_residual-in_err-meet_rules_of_move.result ≡ Err (obstacle_of_error failed.field-0.0) = search rules in
    let named = fault_judged before after c.in_ok-meet_frames.ensures.met old c.in_ok-made.ensures.accepted _
    (with_ranks before after old _ c.in_ok-made.ensures.exact refl refl c.in_ok-made-2.ensures.exact) failed.field-0.0 failed.ensures.first_fault in
    rw ended (ruled_out_move before after (obstacle_of_error failed.field-0.0) named)

pub returns-clause-only : goal.returns-clause-only
returns-clause-only c =
    let before = c.args.before.now in
    let after = c.args.after.now in
    let old = c.in_ok-made.made in
    let made : Certificate = record { levels = old.levels; places = old.places; ranks = c.in_ok-made-2.field-0 } in
    exact_only_by before (IsMoveRank before after) (move_rank_only before after) made (plan_meets before old c.in_ok-made.ensures.accepted)
    (with_ranks before after old made c.in_ok-made.ensures.exact refl refl c.in_ok-made-2.ensures.exact)

pub returns-clause-well_formed : goal.returns-clause-well_formed
returns-clause-well_formed c =
    let before = c.args.before.now in
    let after = c.args.after.now in
    let old = c.in_ok-made.made in
    let made : Certificate = record { levels = old.levels; places = old.places; ranks = c.in_ok-made-2.field-0 } in
    exact_well_formed before (IsMoveRank before after) made (plan_meets before old c.in_ok-made.ensures.accepted)
    (with_ranks before after old made c.in_ok-made.ensures.exact refl refl c.in_ok-made-2.ensures.exact)

pub returns-clause-few : goal.returns-clause-few
returns-clause-few c =
    let before = c.args.before.now in
    let after = c.args.after.now in
    let old = c.in_ok-made.made in
    let made : Certificate = record { levels = old.levels; places = old.places; ranks = c.in_ok-made-2.field-0 } in
    exact_few before (IsMoveRank before after) made (with_ranks before after old made c.in_ok-made.ensures.exact refl refl c.in_ok-made-2.ensures.exact)
