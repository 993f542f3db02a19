use Rattle.std.{proofs.Common.{rules, ◌≡◌, ◌∙◌, None, ap, slice_get}, specs.Option.{option_and_then}}
use Rattle.plan_values.specs.declared.nodes.Row.{Row}
use Rattle.net_tables.specs.Routing.{ports_of}
use Rattle.bus_commands.proofs.hops.port_towards.Goals as goal

pub returns-in_err-row : goal.returns-in_err-row
returns-in_err-row c =
    let ended : c.from_residual.result ≡ None = search rules in
    rw ended (ap (option_and_then (λ (row : Row). slice_get (ports_of c.args.plan.now c.args.node) row.port)) c.in_err-row.ensures)

pub returns : goal.returns
returns c =
    c.port_at.ensures ∙ (ap (slice_get (ports_of c.args.plan.now c.args.node)) c.from.ensures
    ∙ ap (option_and_then (λ (row : Row). slice_get (ports_of c.args.plan.now c.args.node) row.port)) c.in_ok-row.ensures)
