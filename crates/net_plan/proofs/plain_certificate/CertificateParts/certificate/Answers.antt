use Rattle.std.proofs.Common.{◌≢◌, AllPairs, subst}
use Rattle.net_plan.proofs.PlainCertificate.{certificate_of}
use Rattle.net_plan.proofs.plain_certificate.CertificateParts.certificate.Goals as goal

pub returns : goal.returns
returns c =
    let one_level = subst (λ xs. AllPairs (λ a b. a.node ≢ b.node) xs) c.as_slice.ensures.value (c.nodes_differ.ensures c.if-not-nodes_differ.false) in
    let one_places = subst (λ xs. AllPairs (λ a b. a.node ≢ b.node) xs) c.as_slice-2.ensures.value (c.nodes_differ-2.ensures c.if-not-nodes_differ-2.false) in
    let one_ranks = subst (λ xs. AllPairs (λ a b. a.node ≢ b.node) xs) c.as_slice-3.ensures.value (c.nodes_differ-3.ensures c.if-not-nodes_differ-3.false) in
    certificate_of c.args.self c.in_ok-_format._format c.in_ok-levels.levels c.in_ok-places.places c.in_ok-ranks.ranks c.in_ok-_format.was c.in_ok-levels.was c.in_ok-places.was c.in_ok-ranks.was one_level one_places one_ranks
