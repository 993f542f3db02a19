use Rattle.std.proofs.Common.{refl}
use Rattle.heard_captures.proofs.seeing.see.Goals as goal

pub returns-in-Message : goal.returns-in-Message
returns-in-Message c = (c.in-Message.is, refl, c.deref.ensures.value, refl)

pub returns-in-Other : goal.returns-in-Other
returns-in-Other c = (c.in-Other.is, refl)

pub returns-in-Unread : goal.returns-in-Unread
returns-in-Unread c = (c.in-Unread.is, refl)
