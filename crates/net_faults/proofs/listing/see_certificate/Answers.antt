use Rattle.std.proofs.Common.{rules}
use Rattle.net_rules.specs.Certificates.{NamesObstacle}
use Rattle.net_faults.proofs.NothingLeft.{nothing_in_the_way}
use Rattle.net_faults.proofs.listing.see_certificate.Goals as goal

pub unreachable-requires : goal.unreachable-requires
unreachable-requires c =
    let named : NamesObstacle c.args.plan.now c.in-Err.field-0 = c.in-Err.ensures.obstacle in
    let memory = nothing_in_the_way c.args.plan.now c.requires c.in-Err.field-0 named in
    search rules
