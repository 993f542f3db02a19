-- A terminus is asked for its oldest message.
use Rattle.std.proofs.Common.{◌≡◌, ℕ, List, ◌∷◌, map, Option, Some, refl, ap, subst}
use Rattle.pdr_repository.{specs.Records.{Entry}, specs.Answers.{Answers}}
use Rattle.net_runs.specs.Termini.{TerminusState}
use Rattle.net_sim.{specs.TerminusQueues.{AnswersOldest, waiting_value}, specs.declared.waiting.Waiting.{Waiting}}

pub answers_oldest : (tid : ℕ) (records others : List Entry) (waiting rest : List Waiting) (oldest : Waiting) (bytes : List ℕ) (answer : Option (List ℕ)) (next : ℕ) → waiting ≡ oldest ∷ rest
    → others ≡ records → bytes ≡ oldest.bytes.items → Answers tid records bytes answer next
    → AnswersOldest (Some (record { tid = tid; records = records; waiting = map waiting_value waiting })) (waiting_value oldest).key answer
    (Some (record { tid = next; records = others; waiting = map waiting_value rest }))
answers_oldest tid records others waiting rest oldest bytes answer next is kept same answers =
    let before : TerminusState = record { tid = tid; records = records; waiting = map waiting_value waiting } in
    let after : List Entry → Option TerminusState = λ rs. Some (record { tid = next; records = rs; waiting = map waiting_value rest }) in
    record {
      terminus = before;
      oldest = waiting_value oldest;
      rest = map waiting_value rest;
      tid = next;
      there = refl;
      waits = ap (map waiting_value) is;
      of_key = refl;
      answers = subst (λ (b : List ℕ). Answers tid records b answer next) same answers;
      after = ap after kept;
    }
