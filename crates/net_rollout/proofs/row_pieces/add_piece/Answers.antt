use Rattle.std.proofs.Common.{◌≡◌, ◌↔◌, ◌⊎◌, ◌++◌, ◌∷◌, [], List, ℕ, subst, sym, rules}
use Rattle.plan_values.specs.declared.nodes.Row.{Row}
use Rattle.net_rollout.{specs.Steps.{IsPieceOf, SendsBy}, proofs.Sending.{none_added, one_added}}
use Rattle.net_rollout.proofs.row_pieces.add_piece.Goals as goal

pub returns-in_ok-push-in-Some : goal.returns-in_ok-push-in-Some
returns-in_ok-push-in-Some c =
    let made = c.args.made.now.items in
    let piece = c.in-Some.piece in
    let pushed : c.push.new.self.items ≡ made ++ piece ∷ [] = search rules in
    let P : List Row → Type 0 = λ xs. (e port m : ℕ) → SendsBy xs e port m ↔ (SendsBy made e port m ⊎ IsPieceOf c.args.row c.args.from c.args.to e port m) in
    subst P (sym pushed) (one_added made c.args.row piece c.args.from c.args.to c.in-Some.ensures.0 c.in-Some.ensures.1 c.in-Some.ensures.2)

pub returns-in-None : goal.returns-in-None
returns-in-None c = none_added c.args.made.now.items c.args.row c.args.from c.args.to c.in-None.ensures
