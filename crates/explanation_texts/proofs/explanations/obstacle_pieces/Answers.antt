use Rattle.explanation_texts.proofs.Chains.{chain_handles}
use Rattle.explanation_texts.proofs.explanations.obstacle_pieces.Goals as goal

pub chain_pieces-requires : goal.chain_pieces-requires
chain_pieces-requires c =
    let named = rw c.in-BadChain.is at c.requires in
    record { handles = chain_handles c.args.plan.now _ named.0; bad = named.1 }
