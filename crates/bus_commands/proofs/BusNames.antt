-- Buses that lines name.
use Rattle.std.{proofs.Common.{◌≡◌, ◌≢◌, ℕ, ◌<◌, Bool, true, false, List, [], length, Option, None, Some, Result, Ok, Err, IfOk, option_map, slice_get, string_bytes, refl, subst}, proofs.lemmas.Option.{slice_get_within}}
use Rattle.plan_values.{specs.declared.nodes.Bus.{Bus}, specs.declared.plan.Plan.{Plan}}
use Rattle.bus_captures.specs.Lines.{behind_word, uncommented, word}
use Rattle.bus_commands.{specs.PacketLines.{IsReadAt, IsReadBehind, IsReadOver, NamesBus, NamesNode, Says, said_value}, specs.declared.line.Said.{Said}}
use Rattle.net_tables.specs.Names.{name_of_bus}
use Rattle.bus_commands.specs.declared.line.Said.TheVariants as said

-- a bus with a name is one of the plan's
pub named_within : (plan : Plan) (b : ℕ) (name : List ℕ) → name_of_bus plan b ≡ Some name → b < length plan.buses.items
named_within plan b name is = by (slice_get plan.buses.items b) refl is
  where
    by : (o : Option Bus) → slice_get plan.buses.items b ≡ o → option_map (λ (bus : Bus). string_bytes bus.name.text) o ≡ Some name → b < length plan.buses.items
    by None at is = absurd (cc)
    by (Some bus) at is = slice_get_within plan.buses.items b bus at

-- what is read behind the name of a bus is what the line says
says_over : (addressed : Bool) (plan : Plan) (n : ℕ) (line : List ℕ) (bus : ℕ) (read : Said) → word (uncommented line) ≢ [] → NamesBus plan n (word (uncommented line)) bus
    → IsReadBehind addressed plan n bus (behind_word (uncommented line)) (said_value read) → Says addressed plan n line (said_value read)
says_over true plan n line bus said.Nothing some names read = absurd read
says_over false plan n line bus said.Nothing some names read = absurd read
says_over true plan n line bus said.NoBus some names read = absurd read
says_over false plan n line bus said.NoBus some names read = absurd read
says_over addressed plan n line bus said.NoAddress some names read = (some, (bus, names, read))
says_over addressed plan n line bus said.Elsewhere some names read = (some, (bus, names, read))
says_over addressed plan n line bus said.NoPacket some names read = (some, (bus, names, read))
says_over addressed plan n line bus (said.Packet b bytes) some names read = (some, (bus, names, read))

pub says_all : {E : Type 0} (addressed : Bool) (plan : Plan) (n : ℕ) (line w rest : List ℕ) (bus : ℕ) (read : Result Said E) → w ≡ word (uncommented line)
    → rest ≡ behind_word (uncommented line) → w ≢ [] → NamesBus plan n w bus → IfOk read (λ r. IsReadBehind addressed plan n bus rest (said_value r))
    → IfOk read (λ r. Says addressed plan n line (said_value r))
says_all addressed plan n line w rest bus (Ok read) is behind some names over =
    says_over addressed plan n line bus read (subst (λ x. x ≢ []) is some) (subst (λ x. NamesBus plan n x bus) is names)
    (subst (λ x. IsReadBehind addressed plan n bus x (said_value read)) behind over)
says_all addressed plan n line w rest bus (Err e) is behind some names over = tt

-- what is read behind an address of the node's is what the text says
read_at : (plan : Plan) (n over : ℕ) (text : List ℕ) (read : Said) → NamesNode plan n over (word text) → IsReadOver over (behind_word text) (said_value read)
    → IsReadAt plan n over text (said_value read)
read_at plan n over text said.Nothing names read = absurd read
read_at plan n over text said.NoBus names read = absurd read
read_at plan n over text said.NoAddress names read = absurd read
read_at plan n over text said.Elsewhere names read = absurd read
read_at plan n over text said.NoPacket names read = (names, read)
read_at plan n over text (said.Packet b bytes) names read = (names, read)

pub read_at_all : {E : Type 0} (plan : Plan) (n over : ℕ) (text rest : List ℕ) (read : Result Said E) → rest ≡ behind_word text → NamesNode plan n over (word text)
    → IfOk read (λ r. IsReadOver over rest (said_value r)) → IfOk read (λ r. IsReadAt plan n over text (said_value r))
read_at_all plan n over text rest (Ok read) behind names over_rest =
    read_at plan n over text read names (subst (λ x. IsReadOver over x (said_value read)) behind over_rest)
read_at_all plan n over text rest (Err e) behind names over_rest = tt
