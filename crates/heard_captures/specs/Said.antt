-- Messages that went over several interfaces, each once.
use Rattle.std.{specs.Prelude.{◌<◌, ◌&&◌, ℕ, Bool, List, [], ◌∷◌, ◌++◌, length, if◌then◌else◌}, specs.List.{filter}, specs.Str.{bytes_eq}}
use Rattle.bus_captures.specs.declared.capture.Interface.{Interface}
use Rattle.heard_captures.{specs.Messages.{MessageValue, Came}, specs.Places.{is_same}}

-- a message as numbers: where it comes from and goes to, whether its sender owns the tag, its tag, and its bytes
abbrev pub spoken : MessageValue → List ℕ
spoken m = m.source ∷ m.destination ∷ (if m.owner then 1 else 0) ∷ m.tag ∷ m.bytes

-- what came is this message, on this interface
abbrev pub is_that : Interface → MessageValue → Came → Bool
is_that i m c = is_same c.on i && bytes_eq (spoken c.message) (spoken m)

-- how often a message came on an interface
abbrev pub times : Interface → MessageValue → List Came → ℕ
times i m came = length (filter (is_that i m) came)

-- A message came on another interface more often than on its own before. So it is one of those there, on a later hop.
abbrev pub IsAgain : List Came → Came → Type 0
IsAgain before c = (j : Interface) × (times c.on c.message before < times j c.message before)

-- These messages came, each once: where one goes over several interfaces, it is told where it comes first.
pub data AreSaid : List Came → List MessageValue → Type 0 where
  None : AreSaid [] []
  Again : (came : List Came) (said : List MessageValue) (c : Came) → AreSaid came said → IsAgain came c
      → AreSaid (came ++ c ∷ []) said
  New : (came : List Came) (said : List MessageValue) (c : Came) → AreSaid came said → ¬ IsAgain came c
      → AreSaid (came ++ c ∷ []) (said ++ c.message ∷ [])
