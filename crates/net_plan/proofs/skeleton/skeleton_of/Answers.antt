use Rattle.std.proofs.Common.{◌≡◌, Some, codes, map, option_map, sym, subst, ap, ◌∙◌, true, rules}
use Rattle.json.{specs.Json.{object}, specs.Value.{members_view}, proofs.Trees.{view-Object}}
use Rattle.net_plan.{specs.Skeleton.{AreStandIns, IsCutNodes, cut_value}, specs.Trees.{fits}}
use Rattle.net_plan.proofs.skeleton.skeleton_of.Goals as goal

pub returns : goal.returns
returns c =
    let parts = c.read_text.new.gathered in
    let read = c.in_ok-read_text.ensures.read in
    let ms = read.0 in
    let ls = members_view parts.found.items in
    let is : parts.parts ≡ Some c.in_ok-parts.parts = search rules in
    let h = subst (λ o. AreStandIns (codes "nodes") (IsCutNodes (option_map (λ v. map cut_value v.items) o)) ms ls) is (read.2 c.none-parts.ensures) in
    let fit : fits (object ls) ≡ true = ap fits (sym (view-Object parts.found)) ∙ sym c.fits.ensures ∙ c.if-not-fits.false in
    (ms, ls, read.1, view-Object parts.found, h, fit)
