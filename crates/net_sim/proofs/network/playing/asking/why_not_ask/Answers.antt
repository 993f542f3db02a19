use Rattle.net_sim.proofs.network.playing.asking.why_not_ask.Goals as goal
use Rattle.net_sim.proofs.network.playing.asking.why_not_ask.Goals.{else-is_idle-via-then-is_idle+else-not-are_settled, else-is_idle-via-else-is_idle}

pub returns : goal.returns
returns g c = λ w s. (
  λ over. (let told = c.is_over.ensures.1 over in let e = c.if-is_over.false in absurd (cc)),
  λ idle own holds. elim c.else-is_idle.branch [
    | else-is_idle-via-then-is_idle+else-not-are_settled b ↦ (b.are_settled.ensures w own s holds).0 b.if-not-are_settled.false
    | else-is_idle-via-else-is_idle b ↦ (let told = c.is_idle.ensures.1 idle in let e = b.if-is_idle.false in absurd (cc))
  ],
)
