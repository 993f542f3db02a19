use Rattle.std.{proofs.Common.{ap, sym, refl, ◌∙◌}, specs.Prelude.{option_map}, proofs.lemmas.Option.{same_Some}}
use Rattle.emulated_node.{specs.Termini.{terminus_value}, proofs.Answering.{answered, no_some}}
use Rattle.emulated_node.proofs.responding.respond.Goals as goal

pub returns-in-Some : goal.returns-in-Some
returns-in-Some g c =
    let means = terminus_value g.T.Terminus.tid g.T.Terminus.records in
    let there = ap (option_map means) c.in-Some.is in
    record {
      responds = record {
        control = λ zero. absurd (let yes = c.is_control.ensures.1 zero in let no = c.if-is_control.false in cc);
        other = λ some t is.
            let (tid, answers, becomes) = answered _ _ _ _ t c.args.request.now _ (same_Some _ _ (sym there ∙ is)) c.answer.ensures.answered c.answer.ensures.kept in
            (tid, answers, becomes, refl);
        none = λ some is. absurd (no_some _ (sym there ∙ is));
      };
    }
