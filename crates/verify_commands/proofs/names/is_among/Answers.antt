use Rattle.std.{proofs.Common.{rules, ◌≡◌, ◌≢◌, map, string_bytes, subst}, specs.Prelude.{Contains}}
use Rattle.verify_commands.proofs.Named.{found_at, not_at}
use Rattle.verify_commands.proofs.names.is_among.Goals as goal

pub returns-then-eq : goal.returns-then-eq
returns-then-eq c =
    let same : string_bytes c.index-names-index.result ≡ c.args.name.now = search rules in
    (λ yes. subst (Contains (map string_bytes c.args.names.now)) same (found_at c.args.names.now c.loop-index.index c.index-names-index.result c.loop-index-test.true c.index-names-index.is), λ there. search rules)

pub loop-index-preserved : goal.loop-index-preserved
loop-index-preserved c =
    let other : string_bytes c.index-names-index.result ≢ c.args.name.now = search rules in
    not_at c.args.names.now c.loop-index.index c.index-names-index.result c.loop-index-test.true c.index-names-index.is c.args.name.now other c.loop-index.invariant
