use Rattle.std.proofs.Common.{inr}
use Rattle.board_kept.proofs.nodes.keeps_pool.Goals as goal

pub returns-in_ok-says_pool-in-Some : goal.returns-in_ok-says_pool-in-Some
returns-in_ok-says_pool-in-Some c = λ yes. inr (c.in-Some.pool, c.in-Some.is, c.in_ok-says_pool-in-Some.ensures yes)
