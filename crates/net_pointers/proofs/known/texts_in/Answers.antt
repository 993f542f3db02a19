use Rattle.std.proofs.Common.{◌≡◌, ◌∙◌, IfOk, map, sym, ap, subst}
use Rattle.serde_json.specs.Data.{array}
use Rattle.net_plan.{specs.Trees.{view, items_view}, proofs.Trees.{view-Array}}
use Rattle.net_pointers.proofs.NamesTold.{names_seen}
use Rattle.net_pointers.proofs.known.texts_in.Goals as goal

pub returns-in-Array : goal.returns-in-Array
returns-in-Array c =
    subst (λ texts. IfOk c.texts_of.result (λ names. map (λ name. name.now) names.items ≡ texts)) (names_seen c.args.key.now c.as_slice.result.now (view c.args.list.now) (ap view c.in-Array.is ∙ view-Array c.in-Array.items ∙ ap (λ vs. array (items_view vs)) (sym c.as_slice.ensures.value))) c.texts_of.ensures
