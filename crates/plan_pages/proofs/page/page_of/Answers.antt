use Rattle.std.proofs.Common.{◌++◌, ◌∙◌, codes, string_bytes}
use Rattle.plan_pages.proofs.Telling.{tells}
use Rattle.plan_pages.proofs.page.page_of.Goals as goal

pub returns : goal.returns
returns c =
    tells string_bytes c.args.class.now c.args.verdict.now c.deref.result.now c.deref-2.result.now (c.args.body.now ++ codes "</body>\n</html>\n") c.whole.result
    (c.deref-2.ensures ∙ c.in_ok-verdict.ensures) c.whole.ensures
