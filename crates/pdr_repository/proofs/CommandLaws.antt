-- The commands of headers.
use Rattle.std.proofs.Common.{ℕ, ◌≡◌, false, List, [], ◌∷◌, ◌++◌, drop, Some, Result, Ok, Err, refl, sym, ap, ◌∙◌, subst, inl, inr}
use Rattle.pldm_message.{specs.declared.kind.MessageKind.TheVariants.{Request, Response}, specs.declared.command.Command.{Command}, specs.declared.command.Command.TheVariants.{SetTid, GetTid, GetPldmTypes, GetPdr}, specs.Headers.{HeaderValue, BeginsWith, header_bytes}, specs.Messages.{ResponseHeadValue, answer_header}}
use Rattle.pdr_repository.{specs.Records.{Entry}, specs.Answers.{Answers, AnswersCommand, IsOf, reply_header}, specs.Replying.{CarriesOut, NamesCommand, Replies}}

-- a header that is of none of the four is of no command
pub none_of : (h : HeaderValue) → ¬ IsOf SetTid h → ¬ IsOf GetTid h → ¬ IsOf GetPldmTypes h → ¬ IsOf GetPdr h → (c : Command) → ¬ IsOf c h
none_of h set get types part SetTid = set
none_of h set get types part GetTid = get
none_of h set get types part GetPldmTypes = types
none_of h set get types part GetPdr = part

-- a header names one command
same_command : (r : Result Command ℕ) (c d : Command) → r ≡ Ok c → r ≡ Ok d → d ≡ c
same_command r c d a b = cc

-- a command that was found by the tests
record Found (h : HeaderValue) (c : Command) : Type 0 where
  known : ¬ ((h.pldm_type ≡ 0 → ⊥) × (h.pldm_type ≡ 2 → ⊥))
  is : IsOf c h

found : (h : HeaderValue) (c : Command) (r : Result Command ℕ) → r ≡ Ok c → NamesCommand h r → Found h c
found h c r at (inl (_, e)) = absurd (cc)
found h c r at (inr (_, inl (_, e))) = absurd (cc)
found h c r at (inr (known, inr (_, (d, is, e)))) =
    let P : Command → Type 0 = λ b. Found h b in
    subst P (same_command r c d at e) (record { known = known; is = is })

-- the header's command is the one that was found
pub of_header : (h : HeaderValue) (c : Command) → NamesCommand h (Ok c) → IsOf c h
of_header h c names = (found h c (Ok c) refl names).is

-- so the answer is by that command
pub replied : (h : HeaderValue) (c : Command) (tid : ℕ) (records : List Entry) (request reply : List ℕ) (next : ℕ) → NamesCommand h (Ok c) → CarriesOut c tid records request reply next
    → AnswersCommand h tid records (drop 4 request) reply next
replied h c tid records request reply next names carries =
    let f = found h c (Ok c) refl names in
    inr (f.known, inr ((λ none. none c f.is), (c, f.is, carries)))

same_code : (r : Result Command ℕ) (a b : ℕ) → r ≡ Err a → r ≡ Err b → a ≡ b
same_code r a b p q = cc

-- where there is none, it is the code
refused_by : (h : HeaderValue) (code tid : ℕ) (records : List Entry) (asked : List ℕ) (r : Result Command ℕ) → r ≡ Err code → NamesCommand h r → AnswersCommand h tid records asked (code ∷ []) tid
refused_by h code tid records asked r at (inl (unknown, e)) = inl (unknown, (ap (λ k. k ∷ []) (same_code r code 0x20 at e), refl))
refused_by h code tid records asked r at (inr (known, inl (none, e))) = inr (known, inl (none, (ap (λ k. k ∷ []) (same_code r code 0x05 at e), refl)))
refused_by h code tid records asked r at (inr (known, inr (_, (c, _, e)))) = absurd (cc)

pub refused : (h : HeaderValue) (code tid : ℕ) (records : List Entry) (asked : List ℕ) → NamesCommand h (Err code) → AnswersCommand h tid records asked (code ∷ []) tid
refused h code tid records asked names = refused_by h code tid records asked (Err code) refl names

-- the header of an answer to the command is that of the request, as a response
pub same_header : (h : HeaderValue) (c : Command) → IsOf c h → answer_header c (record { reserved = false; instance = h.instance }) ≡ reply_header h
same_header h c (type, command) = λ i. record { kind = Response; reserved = false; instance = h.instance; pldm_type = sym type i; command = sym command i }

-- the answer to a command, in the terms of the code
pub replied_as : (c d : Command) (head : ResponseHeadValue) (instance tid : ℕ) (records : List Entry) (request answer reply : List ℕ) (next : ℕ) → c ≡ d → head ≡ record { reserved = false; instance = instance }
    → answer ≡ header_bytes (answer_header d head) ++ reply → CarriesOut d tid records request reply next → Replies c instance tid records request answer next
replied_as c d head instance tid records request answer reply next is same whole carries =
    let P : Command → Type 0 = λ b. Replies b instance tid records request answer next in
    subst P (sym is) (reply, whole ∙ ap (λ g. header_bytes (answer_header d g) ++ reply) same, carries)

-- the whole answer to a request whose command is known
pub answered : (h : HeaderValue) (c : Command) (tid : ℕ) (records : List Entry) (request answer : List ℕ) (next : ℕ) → BeginsWith h request → h.kind ≡ Request → NamesCommand h (Ok c)
    → Replies c h.instance tid records request answer next → Answers tid records request (Some answer) next
answered h c tid records request answer next begins asked names (reply, is, carries) =
    let header = same_header h c (of_header h c names) in
    inr ((λ none. none (h, begins, asked)), (h, reply, begins, ap Some (is ∙ ap (λ g. header_bytes g ++ reply) header), replied h c tid records request reply next names carries))

-- and where it is not
pub answered_code : (h : HeaderValue) (code tid : ℕ) (records : List Entry) (request answer : List ℕ) → BeginsWith h request → h.kind ≡ Request → NamesCommand h (Err code)
    → answer ≡ header_bytes (reply_header h) ++ code ∷ [] → Answers tid records request (Some answer) tid
answered_code h code tid records request answer begins asked names is =
    inr ((λ none. none (h, begins, asked)), (h, code ∷ [], begins, ap Some is, refused h code tid records (drop 4 request) names))
