use Rattle.plan_values.specs.declared.nodes.Row.{Row}
use Rattle.net_tables.specs.Routing.{rows_of, Covers}
use Rattle.net_explained.{specs.Rows.{CoversAt}, proofs.Items.{has_item, item_has}, proofs.Found.{least_alike}}
use Rattle.net_explained.proofs.causes.rows.common_eid_at.Goals as goal

pub returns-in-Some : goal.returns-in-Some
returns-in-Some c =
    let rows = rows_of c.args.plan.now c.args.node in
    let other = c.in-Some.other.now in
    let row = c.args.row.now in
    least_alike (λ e. Covers other e × Covers row e) (λ e. CoversAt c.args.plan.now c.args.node c.args.index e × Covers row e) c.common_eid.result
    (λ e both. (has_item rows c.args.index (λ (r : Row). Covers r e) other c.in-Some.ensures both.0, both.1))
    (λ e both. (item_has rows c.args.index (λ (r : Row). Covers r e) other c.in-Some.ensures both.0, both.1)) c.common_eid.ensures
