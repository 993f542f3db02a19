use Rattle.std.{proofs.Common.{List, ℕ, subst, ◌↔◌, IsTrue}, specs.Prelude.{slice_get}}
use Rattle.net_questions.{specs.Addresses.{IsForeignAddress}, proofs.Exists.{of_some, of_none}}
use Rattle.net_questions.proofs.lints.addresses.has_foreign_address.Goals as goal

pub returns-in-Some : goal.returns-in-Some
returns-in-Some c =
    let told = subst (λ (a : List ℕ). IsTrue c.is_foreign_address.result ↔ IsForeignAddress c.in-Some.bus.now.binding a) c.deref.ensures.value c.is_foreign_address.ensures in
    of_some (slice_get c.args.plan.now.buses.items c.args.port.now.bus) c.in-Some.bus.now (λ b. IsForeignAddress b.binding c.args.port.now.address.items)
    c.is_foreign_address.result c.in-Some.ensures told

pub returns-in-None : goal.returns-in-None
returns-in-None c =
    of_none (slice_get c.args.plan.now.buses.items c.args.port.now.bus) (λ b. IsForeignAddress b.binding c.args.port.now.address.items) c.in-None.ensures
