use Rattle.std.proofs.Common.{◌+◌, ◌∙◌, [], List, ap, arith, subst, sym, map}
use Rattle.audited_captures.{specs.Audits.{AreLines, Empty, heard_of}, specs.Counting.{has_compared}, specs.RecordLines.{one_if}, specs.Exchanges.{exchange_value}, specs.Lines.{line_value}, specs.declared.lines.Line.{Line}, specs.Repositories.{repository_values}, specs.Words.{word_value}, proofs.AuditLaws.{next_node}}
use Rattle.audited_captures.proofs.audits.lines_of_nodes.Goals as goal

pub loop-n-init : goal.loop-n-init
loop-n-init c =
    let rs = repository_values c.args.repositories.now in
    let h = heard_of (map word_value c.args.words.now) (map exchange_value c.args.exchanges.now) in (
      subst (λ (lines : List Line). AreLines c.args.plan.now rs h 0 (map line_value lines) (map line_value c.new-untold.result.items) 0) (sym c.new-lines.ensures.items)
          (subst (λ (untold : List Line). AreLines c.args.plan.now rs h 0 [] (map line_value untold) 0) (sym c.new-untold.ensures.items) Empty),
      omega arith,
    )

pub loop-n-preserved : goal.loop-n-preserved
loop-n-preserved c =
    let rs = repository_values c.args.repositories.now in
    let h = heard_of (map word_value c.args.words.now) (map exchange_value c.args.exchanges.now) in
    let more = c.in_ok-more.more in
    let sums = ap (λ more. c.loop-n.count + more)
    (c.one_if-count.ensures.is ∙ ap one_if (c.has_compared.ensures ∙ ap (λ (lines : List Line). has_compared (map line_value lines)) c.deref.ensures.value)) in (
      next_node c.args.plan.now rs h c.loop-n.n c.loop-n.lines.items more.lines.items c.append.new.self.items c.loop-n.untold.items more.untold.items c.append-in-loop-n.new.self.items c.loop-n.count _
          c.loop-n.invariant.0 c.in_ok-more.ensures c.in_ok-append.ensures.items c.in_ok-append-2.ensures.items sums,
      omega (arith, c.loop-n.invariant.1, c.one_if-count.ensures.within),
    )
