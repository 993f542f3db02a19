use Rattle.std.{proofs.Common.{◌≡◌, [], inl, rules}, specs.Prelude.{string_bytes}}
use Rattle.plan_differences.proofs.told.reason.Goals as goal

pub returns-in-Ok : goal.returns-in-Ok
returns-in-Ok c =
    let none : string_bytes c.new.result ≡ [] = search rules in
    inl ((c.in-Ok.field-0, c.in-Ok.ensures.accepted), none)
