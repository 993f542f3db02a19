use Rattle.std.{proofs.Common.{rules, ◌≡◌, ◌+◌, ◌++◌, [], ◌∷◌, List, map, take, take_all, ap, sym, subst, ◌∙◌}, proofs.lemmas.List.{take_more, map-append}}
use Rattle.serde_json.{specs.Data.{Data}, specs.View.{view}, proofs.Views.{view-Array}}
use Rattle.json_commands.specs.Values.{AreTold}
use Rattle.json_commands.proofs.lists.list_of.Goals as goal

-- one more value, of the next item
one_more : {A : Type 0} (IsTold : A → Data → Type 0) (xs more : List A) (x : A) (ds longer : List Data) (d : Data) → AreTold IsTold xs ds → IsTold x d
    → more ≡ xs ++ x ∷ [] → longer ≡ ds ++ d ∷ [] → AreTold IsTold more longer
one_more IsTold xs more x ds longer d before told same written =
    subst (λ (ys : List _). AreTold IsTold ys longer) (sym same) (subst (λ (es : List Data). AreTold IsTold (xs ++ x ∷ []) es) (sym written) (AreTold.more x d before told))

pub loop-item-init : goal.loop-item-init
loop-item-init g c =
    subst (λ (ds : List Data). AreTold (g.W.Listed.told c.args.writer.now) [] ds) (sym (ap (map view) c.new-list.ensures.items)) AreTold.none

pub loop-item-preserved : goal.loop-item-preserved
loop-item-preserved g c =
    let told = g.W.Listed.told c.args.writer.now in
    let items = c.args.items.now in
    let i = c.loop-item.item-index in
    let item = c.item-item.result in
    let old = c.loop-item.list.items in
    let value = c.in_ok-value.value in
    let same : take (i + 1) items ≡ take i items ++ item ∷ [] = rw c.item-item.is (take_more items i item c.loop-item-test.true) in
    one_more told (take i items) (take (i + 1) items) item (map view old) (map view c.push.new.self.items) (view value) c.loop-item.invariant c.in_ok-value.ensures same
    (ap (map view) c.in_ok-push.ensures.items ∙ map-append view old (value ∷ []))

pub returns : goal.returns
returns g c =
    let told = g.W.Listed.told c.args.writer.now in
    let items = c.args.items.now in
    let all : take c.loop-item.item-index items ≡ items = take_all c.loop-item.item-index items (search rules) in
    let ds = map view c.loop-item.list.items in
    (ds, subst (λ (xs : List _). AreTold told xs ds) all c.loop-item.invariant, view-Array c.loop-item.list)
