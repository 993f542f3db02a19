use Rattle.std.{proofs.Common.{◌≡◌, ap, sym, ◌∙◌, [], map}, proofs.lemmas.Bool.{eqb-true}, proofs.lemmas.List.{nil_from_length}}
use Rattle.emulated_node.proofs.sending.cut.Goals as goal

pub returns-then-is_empty : goal.returns-then-is_empty
returns-then-is_empty c =
    let none : c.args.message.now ≡ [] = nil_from_length c.args.message.now (eqb-true _ 0 (sym c.is_empty.ensures ∙ c.if-is_empty.true)) in (
      [],
      record {
        cut = record { whole = none; full = λ i p there few. absurd cc; last = λ i p there few. absurd cc };
        addressed = λ i f there. absurd cc;
        of_key = λ i f there. absurd cc;
        numbers = λ i f there. absurd cc;
        som = λ i f there. absurd cc;
        eom = λ i f there. absurd cc;
        reserved = λ i f there. absurd cc;
      },
      ap (map (λ v. v.items)) c.new-cut.ensures.items,
    )
