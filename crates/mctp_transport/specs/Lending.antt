-- What an assembler is once a message that it lends is given back.
use Rattle.std.{specs.Prelude.{⊤}, specs.Borrow.{follows_so, MutBor, Fml}}
use mathlib.Core.Option.{none}
use Rattle.mctp_transport.{specs.declared.assembler.Assembler.{Assembler}, specs.contracts.assembler.Assembler.{the_row}}

-- the assembler ends as one of which this holds
abbrev pub EndsAs : MutBor Assembler → (Assembler → Type 0) → Fml
EndsAs assembler P = follows_so the_row the_row assembler.ghost_name none (λ _ _. ⊤) P
