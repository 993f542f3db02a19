-- Words for why something isn't read.
use Rattle.std.specs.Prelude.{ℕ, List, codes}
use Rattle.bus_captures.specs.declared.capture.Unread.{Unread}
use Rattle.bus_captures.specs.declared.capture.Unread.TheVariants as cause

abbrev pub unread_word : Unread → List ℕ
unread_word cause.Cut = codes "cut"
unread_word cause.LinkHeader = codes "link-header"
unread_word (cause.Link number) = codes "link"
unread_word cause.Interface = codes "interface"
unread_word cause.Block = codes "block"
unread_word cause.NoFrame = codes "no-frame"
unread_word (cause.Pec told computed) = codes "pec"
