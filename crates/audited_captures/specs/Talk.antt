-- Requests and answers that don't go together as they should.
use Rattle.std.{specs.Prelude.{◌≡◌, ◌⊎◌, ℕ, ◌==◌, ◌&&◌, Bool, true, false, List, [], ◌∷◌, ◌++◌, codes, Option, None, Some, IsTrue, if◌then◌else◌}, specs.Fmt.{decimal}}
use Rattle.plan_values.specs.declared.plan.Plan.{Plan}
use Rattle.heard_captures.specs.Messages.{MessageValue}
use Rattle.audited_captures.{specs.AsPlanned.{IsAmong}, specs.Exchanges.{concerns, is_alike, last_that}, specs.Lines.{LineValue}, specs.Names.{IsNameOf}, specs.Words.{WordValue, is_question, IsMisowned, IsNotMisowned}, specs.declared.lines.Finding.{Finding}, specs.declared.lines.Finding.TheVariants.{Silent, Differs}}

-- what is told of a word: it asks once more what wasn't answered, it answers once more, or it answers what nobody
-- asked, with the last request of this command before it, if there was one
pub data Saying : Type 0 where
  AskedAgain : Saying
  AnsweredAgain : Saying
  Unasked : Option WordValue → Saying

-- a request repeats the last word that concerns it, where that asks the same endpoint ID
abbrev pub asked_saying : WordValue → Option WordValue → Option Saying
asked_saying word None = None
asked_saying word (Some earlier) =
    if is_question earlier.body && earlier.responder == word.responder then Some AskedAgain else None

-- an answer comes where none concerns it, or where the last that does answers too
abbrev pub answered_saying : List WordValue → WordValue → Option WordValue → Option Saying
answered_saying before word None = Some (Unasked (last_that (is_alike word) before))
answered_saying before word (Some earlier) = if is_question earlier.body then None else Some AnsweredAgain

abbrev pub saying_by : (asks : Bool) → List WordValue → WordValue → Option WordValue → Option Saying
saying_by true before word earlier = asked_saying word earlier
saying_by false before word earlier = answered_saying before word earlier

-- what is told of a word, by the words before it
abbrev pub saying_of : List WordValue → WordValue → Option Saying
saying_of before word = saying_by (is_question word.body) before word (last_that (concerns word) before)

abbrev pub kind_words : Bool → List ℕ
kind_words asks = if asks then codes "request" else codes "answer"

-- an endpoint ID by its name, a tag and an instance ID
abbrev pub tagged_words : List ℕ → WordValue → List ℕ
tagged_words name w = name ++ (codes " tag " ++ (decimal w.tag ++ (codes " instance " ++ decimal w.instance)))

abbrev pub said_text : WordValue → (from to why : List ℕ) → List ℕ
said_text w from to why =
    kind_words (is_question w.body) ++ (codes " from " ++ (from ++ (codes " to "
    ++ (tagged_words to w ++ (codes ": " ++ why)))))

-- who sent a word, and to whom
abbrev pub sender : WordValue → ℕ
sender w = if is_question w.body then w.requester else w.responder

abbrev pub receiver : WordValue → ℕ
receiver w = if is_question w.body then w.responder else w.requester

-- the text of a word's line, with why it is told
pub record IsSaidText (plan : Plan) (w : WordValue) (why text : List ℕ) : Type 0 where
  pub from : List ℕ
  pub to : List ℕ
  pub from_named : IsNameOf plan (sender w) from
  pub to_named : IsNameOf plan (receiver w) to
  pub told : text ≡ said_text w from to why

abbrev pub IsSaidLine : Plan → WordValue → (why : List ℕ) → Finding → List LineValue → Type 0
IsSaidLine plan w why finding lines =
    (text : List ℕ) × IsSaidText plan w why text × (lines ≡ record { text = text; finding = finding } ∷ [])

abbrev pub IsWhyOf : Plan → Saying → List ℕ → Type 0
IsWhyOf plan AskedAgain why = why ≡ codes "asked again"
IsWhyOf plan AnsweredAgain why = why ≡ codes "answered again"
IsWhyOf plan (Unasked None) why = why ≡ codes "nobody asked"
IsWhyOf plan (Unasked (Some earlier)) why =
    (name : List ℕ) × IsNameOf plan earlier.responder name × (why ≡ codes "asked " ++ tagged_words name earlier)

-- repetitions are remarks
abbrev pub finding_of : Saying → Finding
finding_of AskedAgain = Silent
finding_of AnsweredAgain = Silent
finding_of (Unasked earlier) = Differs

abbrev pub AreLinesBy : Plan → WordValue → Option Saying → List LineValue → Type 0
AreLinesBy plan w None lines = lines ≡ []
AreLinesBy plan w (Some saying) lines =
    (why : List ℕ) × IsWhyOf plan saying why × IsSaidLine plan w why (finding_of saying) lines

-- the lines of all words, in their order
pub data AreTalkLines (plan : Plan) : List WordValue → List LineValue → Type 0 where
  Empty : AreTalkLines plan [] []
  More : (ws : List WordValue) (lines : List LineValue) (w : WordValue) (more : List LineValue)
      → AreTalkLines plan ws lines → AreLinesBy plan w (saying_of ws w) more
      → AreTalkLines plan (ws ++ w ∷ []) (lines ++ more)

-- some word before it concerns the same exchange
abbrev pub HasEarlier : List WordValue → WordValue → Type 0
HasEarlier before w = (earlier : WordValue) × IsAmong earlier before × IsTrue (concerns w earlier)

-- Each answer comes after a word that concerns its exchange. So the first one of an exchange comes after its request.
abbrev pub AreAllAsked : List WordValue → Type 0
AreAllAsked words = (before after : List WordValue) (w : WordValue) → words ≡ before ++ w ∷ after
    → is_question w.body ≡ false → HasEarlier before w

-- of a message whose sender says the wrong of who owns the tag
abbrev pub owner_words : WordValue → List ℕ
owner_words w = if is_question w.body then codes "doesn't own its tag" else codes "owns its tag"

abbrev pub AreOwnerLinesOf : Plan → MessageValue → List LineValue → Type 0
AreOwnerLinesOf plan m lines =
    (IsNotMisowned m × (lines ≡ []))
    ⊎ ((w : WordValue) × IsMisowned m w × IsSaidLine plan w (owner_words w) Differs lines)

-- the lines of all such messages, in their order
pub data AreOwnerLines (plan : Plan) : List MessageValue → List LineValue → Type 0 where
  Nothing : AreOwnerLines plan [] []
  Also : (ms : List MessageValue) (lines : List LineValue) (m : MessageValue) (more : List LineValue)
      → AreOwnerLines plan ms lines → AreOwnerLinesOf plan m more
      → AreOwnerLines plan (ms ++ m ∷ []) (lines ++ more)

-- no message is so
abbrev pub AreAllOwned : List MessageValue → Type 0
AreAllOwned messages = (m : MessageValue) → IsAmong m messages → IsNotMisowned m
