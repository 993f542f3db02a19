use Rattle.std.{proofs.Common.{◌+◌, All, List, length, sym, ◌∙◌, ap, subst}, proofs.lemmas.List.{length_push}, proofs.lemmas.List.Elements.{All-push}}
use Rattle.mctp_transport.{specs.declared.assembler.Assembler.{Assembler}, specs.Heard.{IsIdle}}
use Rattle.mctp_transport.proofs.heard.idle_assemblers.Goals as goal

pub loop-preserved : goal.loop-preserved
loop-preserved c =
    let made = c.in_ok-new.field-0 in
    let P : List Assembler → Type 0 = All IsIdle in (
      ap length c.in_ok-push.ensures.items ∙ (length_push c.loop.assemblers.items made ∙ ap (λ n. n + 1) c.loop.invariant.0),
      subst P (sym c.in_ok-push.ensures.items) (All-push IsIdle c.loop.assemblers.items made c.loop.invariant.1 (c.in_ok-new.ensures.slots, c.in_ok-new.ensures.limit, c.in_ok-new.ensures.stands)),
    )
