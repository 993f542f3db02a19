use Rattle.explain_commands.proofs.explain.moved.told_text.Goals as goal

pub explained_there-requires-clause-names : goal.explained_there-requires-clause-names
explained_there-requires-clause-names c =
    let named = rw c.in-Old.is at c.requires.names in
    named.2

pub loop_text-requires : goal.loop_text-requires
loop_text-requires c =
    let named = rw c.in-Loop.is at c.requires.names in
    named.1.picked.long
