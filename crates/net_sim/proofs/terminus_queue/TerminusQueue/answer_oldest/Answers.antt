use Rattle.net_sim.proofs.Asking.{answers_oldest}
use Rattle.net_sim.proofs.terminus_queue.TerminusQueue.answer_oldest.Goals as goal

pub returns-clause-asked : goal.returns-clause-asked
returns-clause-asked g c =
    answers_oldest _ _ _ c.args.self.now.waiting.messages.items c.take_oldest.new.self.messages.items c.in_ok-oldest.oldest c.deref.result.now _ _ c.in_ok-oldest.ensures
    c.answer-answered.ensures.kept c.deref.ensures.value c.answer-answered.ensures.answered
