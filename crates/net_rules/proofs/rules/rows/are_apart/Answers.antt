use Rattle.std.proofs.Common.{ℕ, ◌↔◌, IsTrue, subst, arith}
use Rattle.mctp_transport.{specs.declared.eid_run.EidRun.{EidRun}, specs.EidRuns.{IsInRun}, proofs.EidRuns.{apart_everywhere}}
use Rattle.net_tables.specs.Rows.{AreApart}
use Rattle.net_rules.proofs.rules.rows.are_apart.Goals as goal

pub returns : goal.returns
unfolding AreApart
returns c =
    let row = c.args.row.now in
    let other = c.args.other.now in
    let A : EidRun → Type 0 = λ run. IsTrue c.is_apart_from.result ↔ ((e : ℕ) → IsInRun run e → ¬ IsInRun c.eids-2.result e) in
    let B : EidRun → Type 0 = λ run. IsTrue c.is_apart_from.result ↔ ((e : ℕ) → IsInRun (record { first = row.first; size = row.size }) e → ¬ IsInRun run e) in
    let told = subst B c.eids-2.ensures (subst A c.eids.ensures c.is_apart_from.ensures) in (
      λ h e covers others. told.0 h e (covers.0, covers.1) (others.0, others.1),
      λ apart. told.1 (apart_everywhere row.first.value row.size other.first.value other.size (omega (arith, row.first.in_range)) (omega (arith, other.first.in_range)) apart),
    )
