use Rattle.std.proofs.Common.{◌∙◌, ap}
use Rattle.net_tables.specs.Names.{first_address}
use Rattle.net_tables.proofs.lookup.address_on.Goals as goal

pub returns-in-Some : goal.returns-in-Some
returns-in-Some c = rw c.in-Some.is (c.first_address.ensures ∙ ap (λ ports. first_address ports c.in-Some.bus) c.ports_at.ensures)
