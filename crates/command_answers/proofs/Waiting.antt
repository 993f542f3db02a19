-- What an output took while lines waited, and what it takes with them.
use Rattle.std.{proofs.Common.{◌≡◌, ◌+◌, ℕ, List, [], ◌++◌, length, take, Option, Result, Ok, Err, sym, ◌∙◌, ap, subst, append_assoc, append-nil, length-append, arith}, proofs.Math.Seq.{take-append-add}, specs.Prelude.{OnOk, OnErr}, specs.Io.KnownBytes.{Appends}, proofs.KnownBytes.{Appends-trans}}
use Rattle.net_plan.specs.Stream.{AppendsBeginning}
use Rattle.command_answers.specs.Gathering.{AppendsAllBut}

-- what comes after some bytes, after what came before them
given_after : (given text : List ℕ) (old mid new : Option (List ℕ)) → Appends old mid given → AppendsBeginning mid new text → AppendsBeginning old new (given ++ text)
given_after given text old mid new before (k, few, part) =
    let all = length-append given text in (
      length given + k,
      omega (arith, few, all),
      subst (Appends old new) (sym (take-append-add given text k)) (Appends-trans old mid new given (take k text) before part),
    )

module _ (text : List ℕ) (line waiting waiting' : List ℕ) (old mid new : Option (List ℕ)) (before : AppendsAllBut waiting old mid text) where
  all_of_it : text ++ line ≡ before.0 ++ (waiting ++ line)
  all_of_it = ap (λ t. t ++ line) before.2 ∙ append_assoc before.0 waiting line

  pub added_after : AppendsAllBut waiting' mid new (waiting ++ line) → AppendsAllBut waiting' old new (text ++ line)
  added_after added = (
    before.0 ++ added.0,
    Appends-trans old mid new before.0 added.0 before.1 added.1,
    all_of_it ∙ (ap (λ t. before.0 ++ t) added.2 ∙ sym (append_assoc before.0 added.0 waiting')),
  )

module _ (text : List ℕ) (line waiting : List ℕ) (old mid new : Option (List ℕ)) (before : AppendsAllBut waiting old mid text) where
  pub begins_after : AppendsBeginning mid new (waiting ++ line) → AppendsBeginning old new (text ++ line)
  begins_after part =
      let is : text ++ line ≡ before.0 ++ (waiting ++ line) = ap (λ t. t ++ line) before.2 ∙ append_assoc before.0 waiting line in
      subst (AppendsBeginning old new) (sym is) (given_after before.0 (waiting ++ line) old mid new before.1 part)

module _ (text waiting : List ℕ) (old mid new : Option (List ℕ)) (before : AppendsAllBut waiting old mid text) where
  pub begins_at_end : AppendsBeginning mid new waiting → AppendsBeginning old new text
  begins_at_end part = subst (AppendsBeginning old new) (sym before.2) (given_after before.0 waiting old mid new before.1 part)

  -- and all was given
  pub given_at_end : Appends mid new waiting → Appends old new text
  given_at_end written = subst (Appends old new) (sym before.2) (Appends-trans old mid new before.0 waiting before.1 written)

-- what waited was written, and then the line
pub written_after : {T E : Type 0} (result : Result T E) (waiting line left : List ℕ) (old mid new : Option (List ℕ)) → left ≡ [] → Appends old mid waiting
    → OnOk result (Appends mid new line) → OnOk result (AppendsAllBut left old new (waiting ++ line))
written_after (Ok done) waiting line left old mid new none before written = (
  waiting ++ line,
  Appends-trans old mid new waiting line before written,
  sym (ap (λ l. (waiting ++ line) ++ l) none ∙ append-nil (waiting ++ line)),
)
written_after (Err why) waiting line left old mid new none before written = tt

pub broken_after : {T E : Type 0} (result : Result T E) (waiting line : List ℕ) (old mid new : Option (List ℕ)) → Appends old mid waiting
    → OnErr result (AppendsBeginning mid new line) → OnErr result (AppendsBeginning old new (waiting ++ line))
broken_after (Ok done) waiting line old mid new before part = tt
broken_after (Err why) waiting line old mid new before part = given_after waiting line old mid new before part
