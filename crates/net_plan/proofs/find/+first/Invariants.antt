-- What is left decides.
use Rattle.std.proofs.Common.{◌≡◌, drop}
use Rattle.net_plan.{specs.Trees.{view, items_view}, specs.Finding.{first_fault, in_items, in_fields, in_choices}, specs.Grammar.{grammar, fields_view, known_seen}}
use Rattle.net_plan.proofs.find.+first.Given as goal

abbrev pub invariant-fault_in_fields-loop-field : goal.invariant-fault_in_fields-loop-field
invariant-fault_in_fields-loop-field l = in_fields (known_seen l.known) (fields_view (drop l.field-index l.fields)) (view l.value) ≡ in_fields (known_seen l.known) (fields_view l.fields) (view l.value)

abbrev pub invariant-fault_in_list-loop-index : goal.invariant-fault_in_list-loop-index
invariant-fault_in_list-loop-index l = in_items (first_fault (known_seen l.known) (grammar l.item)) l.index (items_view (drop l.index l.value-items)) ≡ in_items (first_fault (known_seen l.known) (grammar l.item)) 0 (items_view l.value-items)

abbrev pub invariant-fault_by_word-loop-choice : goal.invariant-fault_by_word-loop-choice
invariant-fault_by_word-loop-choice l = in_choices (known_seen l.known) (fields_view (drop l.choice-index l.choices)) l.word (view l.value) ≡ in_choices (known_seen l.known) (fields_view l.choices) l.word (view l.value)
