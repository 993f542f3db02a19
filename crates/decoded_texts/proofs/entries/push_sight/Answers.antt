use Rattle.std.{proofs.Common.{string_bytes, subst, sym}, specs.Prelude.{OnOk, option_map}}
use Rattle.heard_captures.{specs.Sights.{seen_of}, specs.declared.seeing.Sight.{Sight}}
use Rattle.decoded_texts.{specs.Seen.{fed_line, told_line}, specs.Steps.{AddsTold}, proofs.SeenLaws.{lines_if}}
use Rattle.decoded_texts.proofs.entries.push_sight.Goals as goal

pub returns-in-Fed : goal.returns-in-Fed
returns-in-Fed c =
    let plan = option_map (λ n. n.now.plan.now) c.args.names in
    let old = string_bytes c.args.text.now in
    let new = string_bytes c.push_fed.new.text in
    subst (λ (s : Sight). OnOk c.push_fed.result (AddsTold plan (seen_of s) old new)) (sym c.in-Fed.is)
    (lines_if old (fed_line plan _ _) new c.push_fed.result c.push_fed.ensures)

pub returns-in-Told : goal.returns-in-Told
returns-in-Told c =
    let plan = option_map (λ n. n.now.plan.now) c.args.names in
    let old = string_bytes c.args.text.now in
    let new = string_bytes c.push_told.new.text in
    subst (λ (s : Sight). OnOk c.push_told.result (AddsTold plan (seen_of s) old new)) (sym c.in-Told.is)
    (lines_if old (told_line _ _) new c.push_told.result c.push_told.ensures)
