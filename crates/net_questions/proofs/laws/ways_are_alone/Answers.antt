use Rattle.net_questions.proofs.WayLaws as law
use Rattle.net_questions.proofs.laws.ways_are_alone.Goals as goal

pub returns : goal.returns
returns c = law.ways_are_alone
