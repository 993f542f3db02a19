-- What an assembler made of a packet, wherever the message lies.
use Rattle.std.specs.Prelude.{◌≡◌, []}
use Rattle.mctp_transport.{specs.Assembly.{HoldsHistory, assembler_slots, assembler_limit}, specs.Hearing.{Answer, Whole, Held, Dropped}, specs.declared.assembler.Assembler.{Assembler}, specs.declared.heard.Heard.{Heard}}
use Rattle.mctp_transport.specs.declared.heard.Heard.TheVariants as heard

abbrev pub heard_answer : Heard → Answer
heard_answer (heard.Whole message) = Whole message.items
heard_answer heard.Held = Held
heard_answer (heard.Dropped cause) = Dropped cause

-- an assembler of 16 slots for messages of at most 4096 bytes, to which nothing was given
abbrev pub IsIdle : Assembler → Type 0
IsIdle a = (assembler_slots a ≡ 16) × (assembler_limit a ≡ 4096) × HoldsHistory a []
