use Rattle.std.proofs.Common.{ℕ, List, ap, ◌∙◌}
use Rattle.bus_captures.{specs.Hex.{IsHex}, proofs.LineLaws.{no_bytes}}
use Rattle.bus_captures.proofs.line.read_text_of_line.Goals as goal

pub returns-in-None : goal.returns-in-None
returns-in-None c =
    let none : (bytes : List ℕ) → IsHex c.head_of_text-head.result.hex.now bytes → ⊥ = rw c.in-None.is at c.in_ok-bytes.ensures in (
      λ blank. c.if-before-text.false (c.before-2.ensures.place ∙ blank),
      no_bytes c.args.text.now c.head_of_text-head.result.hex.now (ap (λ h. h.hex) c.head_of_text-head.ensures.head)
          (λ bytes is. absurd (none bytes is)),
    )
