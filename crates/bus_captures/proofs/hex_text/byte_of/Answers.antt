use Rattle.bus_captures.proofs.hex_text.byte_of.Goals as goal

pub returns-in-None : goal.returns-in-None
returns-in-None c = λ byte is. c.in-None.ensures is.0 is.2

pub returns-in-None-digit : goal.returns-in-None-digit
returns-in-None-digit c = λ byte is. c.in-None-digit.ensures is.1 is.3
