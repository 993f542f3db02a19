-- A packet for one of the assemblers.
use Rattle.std.{proofs.Common.{◌≡◌, ◌&&◌, ◌==◌, ℕ, [], true, false, true≢false, arith, ◌∙◌, sym, subst}, specs.Prelude.{Result, Ok, Err, IfOk, Option, Some, None}, specs.BTreeMap.{Updates, get, is_at}, proofs.lemmas.Bool.Decides.{nat_tests}}
use Rattle.bus_captures.specs.declared.capture.Interface.{Interface}
use Rattle.mctp_transport.{specs.Assembly.{HoldsHistory, assembler_slots, assembler_limit}, specs.PacketValues.{PacketValue}, specs.Hearing.{Answer, HearsOnly}, specs.Histories.{History, Arrived, after}, specs.declared.assembler.Assembler.{Assembler}}
use Rattle.heard_captures.{specs.Places.{is_same, place_of, place_cmp}, specs.Stations.{station_at, HasBeenGiven, IsFedAt}, specs.declared.stations.Stations.{Stations}, proofs.PlaceLaws.{other_place}}

module _ (old between new : Stations) (i : Interface) (p : PacketValue) (before after_it : Assembler) where
  pub fed_at : (answer : Answer)
      → ((h : History) → HasBeenGiven (station_at old i p.destination) h → HasBeenGiven (Some before) h)
      → ((q : ℕ × ℕ × ℕ) → is_at (place_cmp (place_of i p.destination)) q ≡ false → get place_cmp between.by_place q ≡ get place_cmp old.by_place q)
      → Updates place_cmp between.by_place new.by_place (place_of i p.destination) (Some after_it)
      → assembler_slots after_it ≡ assembler_slots before → assembler_limit after_it ≡ assembler_limit before
      → ((h : History) → HoldsHistory before h → HearsOnly (assembler_slots before) (assembler_limit before) h p answer)
      → ((h : History) → HoldsHistory before h → HoldsHistory after_it (after h (Arrived p)))
      → IsFedAt old new i p answer
  fed_at answer was taken updates slots limit hears stands = record {
    hears = λ h given.
        let held = was h given in
        subst (λ (n : ℕ). HearsOnly n 4096 h p answer) held.1
        (subst (λ (n : ℕ). HearsOnly (assembler_slots before) n h p answer) held.2 (hears h held.0));
    given = λ h given.
        let held = was h given in
        subst (λ (o : Option Assembler). HasBeenGiven o (after h (Arrived p))) (sym updates.1) (stands h held.0, slots ∙ held.1, limit ∙ held.2);
    others = λ j d other.
        let elsewhere = other_place i j p.destination d (λ same to. true≢false (sym (here j d same to) ∙ other)) in
        updates.2 (place_of j d) elsewhere ∙ taken (place_of j d) elsewhere;
  }
    where
      here : (j : Interface) (d : ℕ) → is_same i j ≡ true → p.destination ≡ d → (is_same i j && (p.destination == d)) ≡ true
      here j d same to = grind (arith, nat_tests)

-- an assembler that was taken out, or an idle one, was given what was given there
pub taken_given : (o : Option Assembler) (a : Assembler) → o ≡ Some a → (h : History) → HasBeenGiven o h → HasBeenGiven (Some a) h
taken_given o a is h given = subst (λ (x : Option Assembler). HasBeenGiven x h) is given

pub idle_given : {E : Type 0} (o : Option Assembler) (result : Result Assembler E) → o ≡ None → IfOk result (λ a. assembler_slots a ≡ 16) → IfOk result (λ a. assembler_limit a ≡ 4096)
    → IfOk result (λ a. HoldsHistory a []) → IfOk result (λ a. (h : History) → HasBeenGiven o h → HasBeenGiven (Some a) h)
idle_given o (Ok a) none slots limit stands = λ h given.
    let nothing : h ≡ [] = subst (λ (x : Option Assembler). HasBeenGiven x h) none given in
    rw nothing (stands, slots, limit)
idle_given o (Err e) none slots limit stands = slots
