-- What an answer to Get Routing Table Entries brings (DSP0236).
use Rattle.std.specs.Prelude.{ℕ, List}
use Rattle.mctp_control.{specs.Headers.{HeaderValue}, specs.RouteEntries.{EntryValue}, specs.Responses.{EntriesTold, SpellsResponse}}

-- the bytes are a success answer under this header, with this next handle and these entries
abbrev pub Tells : HeaderValue → (next : ℕ) → List EntryValue → List ℕ → Type 0
Tells header next entries bytes = SpellsResponse (record { header = header; answer = EntriesTold next entries }) bytes

-- the bytes are no such answer
abbrev pub TellsNothing : List ℕ → Type 0
TellsNothing bytes = (header : HeaderValue) (next : ℕ) (entries : List EntryValue) → ¬ Tells header next entries bytes
