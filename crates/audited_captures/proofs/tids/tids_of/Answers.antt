use Rattle.std.{proofs.Common.{◌++◌, [], List, Result, subst, sym, ◌∙◌, ap}, specs.Prelude.{option_to_list}}
use Rattle.pldm_message.{specs.declared.completion_code.CompletionCode.{CompletionCode}, specs.declared.tid.Tid.{Tid}}
use Rattle.audited_captures.{specs.Tids.{AreTids, Empty, tid_values}, proofs.TidLaws.{next_tid}}
use Rattle.audited_captures.proofs.tids.tids_of.Goals as goal

pub loop-i-init : goal.loop-i-init
loop-i-init c = subst (λ (ts : List (Result Tid CompletionCode)). AreTids c.args.eid.value [] (tid_values ts)) (sym c.new-tids.ensures.items) Empty

pub loop-i-preserved : goal.loop-i-preserved
loop-i-preserved c =
    next_tid c.args.eid.value c.args.words.now c.loop-i.i c.index-words-i.result (tid_values c.loop-i.tids.items) _ c.loop-i-test.true c.index-words-i.is c.loop-i.invariant
    (c.in_ok-add.ensures ∙ ap (λ x. tid_values c.loop-i.tids.items ++ option_to_list x) c.tid_of.ensures)
