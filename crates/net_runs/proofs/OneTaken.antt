-- The exchanges that a walker takes in turns are determined by the turns.
use Rattle.std.{proofs.Common.{◌≡◌, ℕ, List, [], ◌∷◌, Option, Some, Ok, sym, ap, ◌∙◌, subst, inl, inr}, proofs.lemmas.Option.{same_Some}}
use Rattle.mctp_transport.{specs.PacketValues.{KeyValue}, specs.Hearing.{Whole}}
use Rattle.pldm_message.{specs.Messages.{ResponseMessage}, specs.Pdrs.{Part}, specs.PdrLaws.{one_get_pdr_answer}}
use Rattle.pdr_repository.specs.Walks.{Exchange}
use Rattle.net_runs.{specs.Events.{OutcomeValue, Entered}, specs.Walkers.{WalkerValue, WalkedState, WalkedOutcome, Happened, Handed, answering_key}, specs.WalkedRuns.{WalkedTurn}, specs.NetworkWalks.{IsExchange, TakesWith, AreTakenIn}}

same_lower : (a b : OutcomeValue) (x y : Option Handed) → ◌≡◌ {A = WalkedOutcome} (Happened a x) (Happened b y) → a ≡ b
same_lower a b x y e = cc

pub same_message : (f g n m : ℕ) (k l : KeyValue) (x y : List ℕ) → ◌≡◌ {A = OutcomeValue} (Entered f n k (Whole x)) (Entered g m l (Whole y)) → x ≡ y
same_message f g n m k l x y e = cc

exchange_one : (walker : WalkerValue) (message : List ℕ) (x y : Exchange) → IsExchange walker message x → IsExchange walker message y → x ≡ y
exchange_one walker message x y e f =
    let requests : x.request ≡ y.request = same_Some x.request y.request (sym e.due ∙ f.due) in
    let messages = one_get_pdr_answer (record { head = e.head; outcome = x.answer }) (record { head = f.head; outcome = y.answer }) e.spelled.0 f.spelled.0 (sym e.spelled.1 ∙ f.spelled.1) in
    let answers : x.answer ≡ y.answer = ap (λ (m : ResponseMessage Part). m.outcome) messages in
    λ j. record { request = requests j; answer = answers j }

takes_one : (k : ℕ) (w : WalkedState) (outcome : WalkedOutcome) (x y : Exchange) → TakesWith k w outcome x → TakesWith k w outcome y → x ≡ y
takes_one k w outcome x y t s =
    let lower : t.lower ≡ s.lower =
    same_lower t.lower s.lower (Some (record { number = k; result = Ok t.step })) (Some (record { number = k; result = Ok s.step })) (sym t.told ∙ s.told) in
    let walker : s.walker ≡ t.walker = same_Some s.walker t.walker (sym s.there ∙ t.there) in
    let message : s.message ≡ t.message =
    same_message s.meant.0 t.meant.0 s.walker.node t.walker.node (answering_key s.walker) (answering_key t.walker) s.message t.message (sym s.meant.1 ∙ (sym lower ∙ t.meant.1)) in
    let W : WalkerValue → Type 0 = λ v. IsExchange v s.message y in
    let M : List ℕ → Type 0 = λ m. IsExchange t.walker m y in
    exchange_one t.walker t.message x y t.exchange (subst M message (subst W walker s.exchange))

pub one_taken : (k : ℕ) (w : WalkedState) (turns : List WalkedTurn) (xs ys : List Exchange) → AreTakenIn k w turns xs → AreTakenIn k w turns ys → xs ≡ ys
one_taken k w [] xs ys a b = a ∙ sym b
one_taken k w (turn ∷ turns) xs ys (inl (none, rest)) (inl (none', rest')) = one_taken k turn.after turns xs ys rest rest'
one_taken k w (turn ∷ turns) xs ys (inl (none, rest)) (inr (y, others, takes, is, rest')) = absurd (none takes.lower takes.step takes.told)
one_taken k w (turn ∷ turns) xs ys (inr (x, more, takes, is, rest)) (inl (none, rest')) = absurd (none takes.lower takes.step takes.told)
one_taken k w (turn ∷ turns) xs ys (inr (x, more, takes, is, rest)) (inr (y, others, takes', is', rest')) =
    let heads : x ≡ y = takes_one k w turn.outcome x y takes takes' in
    let tails : more ≡ others = one_taken k turn.after turns more others rest rest' in
    is ∙ ((λ j. heads j ∷ tails j) ∙ sym is')
