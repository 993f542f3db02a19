use Rattle.std.{proofs.Common.{◌≡◌, ◌≢◌, ◌++◌, List, map, subst, rules}, specs.Prelude.{string_bytes}}
use Rattle.plan_differences.{specs.declared.fact.Fact.{Fact}, specs.Facts.{fact_value}, specs.Changes.{AreFactsTold}, proofs.Consequences.{changes_so}}
use Rattle.plan_differences.proofs.told.changes_told.Goals as goal

pub returns : goal.returns
returns c =
    let olds = c.in_ok-olds.olds.items in
    let news = c.in_ok-news.news.items in
    let facts = string_bytes c.in_ok-facts.facts in
    let rest = string_bytes c.in_ok-consequences.consequences in
    let old_slice : c.deref-3.result.now ≡ olds = search rules in
    let new_slice : c.deref-4.result.now ≡ news = search rules in
    let differ : map fact_value olds ≢ map fact_value news = search rules in
    let first : AreFactsTold (map fact_value olds) (map fact_value c.deref-4.result.now) facts =
    subst (λ (xs : List Fact). AreFactsTold (map fact_value xs) (map fact_value c.deref-4.result.now) facts) old_slice c.in_ok-facts.ensures in
    let told : AreFactsTold (map fact_value olds) (map fact_value news) facts =
    subst (λ (ys : List Fact). AreFactsTold (map fact_value olds) (map fact_value ys) facts) new_slice first in
    let whole : string_bytes c.in_ok-format.field-0 ≡ facts ++ rest = search rules in
    changes_so c.args.before.now c.args.after.now olds news facts rest (string_bytes c.in_ok-format.field-0) c.in_ok-olds.ensures c.in_ok-news.ensures differ told c.in_ok-consequences.ensures whole
