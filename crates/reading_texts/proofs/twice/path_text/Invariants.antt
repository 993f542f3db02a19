use Rattle.std.proofs.Common.{◌≡◌, ◌++◌, drop, option_map, string_bytes, Some}
use Rattle.json.specs.Value.{value_view}
use Rattle.reading_texts.specs.TroubleLines.{path_text}
use Rattle.reading_texts.proofs.twice.path_text.Given as goal

abbrev pub invariant-loop-index : goal.invariant-loop-index
invariant-loop-index l =
    string_bytes l.text ++ path_text (drop l.index-index l.path) (option_map (λ v. value_view v.now) l.part) ≡ path_text l.path (Some (value_view l.value))
