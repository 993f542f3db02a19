-- One time more.
use Rattle.std.{proofs.Common.{◌≡◌, ℕ, ◌+◌, ◌<◌, ◌≤◌, true, false, true≢false, arith, refl, sym, ◌∙◌, ap, subst}, specs.Prelude.{Option, Some, None, unwrap_or, Bool, List}, specs.BTreeMap.{Updates, UpdatesBy, get}, specs.Map.{lookup, IsKeyTest, AreApart, KeepsOthers}, specs.Cmp.{eq_by_cmp_equiv}, specs.Cmp.Lexicographic.{slice_cmp, nat_list_cmp_total, nat_list_eq_equiv, texts_ties}, specs.Ordering.{is_eq, nat_cmp}, specs.Str.{bytes_eq}}
use Rattle.bus_captures.specs.declared.capture.Interface.{Interface}
use Rattle.heard_captures.{specs.Places.{is_same, pair_of, pair_cmp}, specs.Messages.{MessageValue}, specs.Said.{spoken}, specs.Times.{times_on, times_of, IsNever, Counts, Tallies}, specs.declared.times.Tally.{Tally}, specs.declared.times.Times.{Times}, proofs.PlaceLaws.{same_pair, other_pair}}

module _ (old new : Times) (i : Interface) (before : ℕ) (was : unwrap_or (get pair_cmp old.on (pair_of i)) 0 ≡ before)
    (count : ℕ) (one_more : count ≡ before + 1) (updates : Updates pair_cmp old.on new.on (pair_of i) (Some count)) where
  this_more : (j : Interface) → is_same i j ≡ true → times_on (Some new) j ≡ times_on (Some old) j + 1
  this_more j same =
      subst (λ (k : ℕ × ℕ). unwrap_or (get pair_cmp new.on k) 0 ≡ unwrap_or (get pair_cmp old.on k) 0 + 1) (same_pair i j same)
      (ap (λ o. unwrap_or o 0) updates.1 ∙ one_more ∙ ap (λ n. n + 1) (sym was))

  others_same : (j : Interface) → is_same i j ≡ false → times_on (Some new) j ≡ times_on (Some old) j
  others_same j other = ap (λ o. unwrap_or o 0) (updates.2 (pair_of j) (other_pair i j other))

  pub is_first : old.most < count → new.most ≡ count → Counts (Some old) (Some new) i true
  is_first more most = record {
    this = this_more;
    others = others_same;
    fresh = λ is. (omega arith, most ∙ one_more ∙ ap (λ n. n + 1) (sym was));
    again = λ is. absurd (true≢false is);
  }

  pub is_repeated : count ≤ old.most → new.most ≡ old.most → Counts (Some old) (Some new) i false
  is_repeated few most = record {
    this = this_more;
    others = others_same;
    fresh = λ is. absurd (true≢false (sym is));
    again = λ is. (omega arith, most);
  }

-- one entry of a tally more
module _ {K X : Type 0} (eq : K → K → Bool) (test : K → Bool) where
  other_entries : (old new : List (K × X)) → KeepsOthers eq test old new → (other : K → Bool) → IsKeyTest eq other → AreApart test other → lookup other new ≡ lookup other old
  unfolding KeepsOthers
  other_entries old new h = h

apart : (bs cs ks : List ℕ) → bytes_eq bs cs ≡ false → is_eq (slice_cmp nat_cmp bs ks) ≡ true → is_eq (slice_cmp nat_cmp cs ks) ≡ false
apart bs cs ks other same =
    let here : bytes_eq bs ks ≡ true = texts_ties bs ks ∙ same in
    sym (texts_ties cs ks) ∙ nat_list_eq_equiv.symm cs ks ∙ sym (nat_list_eq_equiv.congr bs ks cs here) ∙ other

pub other_messages : (old new : Tally) (bytes : List ℕ) (w : Option Times)
    → UpdatesBy (λ x y. slice_cmp nat_cmp x.items y.items) (λ k. slice_cmp nat_cmp bytes k.items) old.by_message new.by_message w
    → (cs : List ℕ) → bytes_eq bytes cs ≡ false → times_of new cs ≡ times_of old cs
other_messages old new bytes w updates cs other =
    other_entries _ _ _ _ updates.3 _ (λ x y. (eq_by_cmp_equiv nat_list_cmp_total).congr cs x.items y.items) (λ k. apart bytes cs k.items other)

pub tallies : (old between new : Tally) (i : Interface) (m : MessageValue) (bytes : List ℕ) (t : Times) (is_new : Bool) → bytes ≡ spoken m
    → ((cs : List ℕ) → bytes_eq bytes cs ≡ false → times_of between cs ≡ times_of old cs)
    → UpdatesBy (λ x y. slice_cmp nat_cmp x.items y.items) (λ k. slice_cmp nat_cmp bytes k.items) between.by_message new.by_message (Some t)
    → Counts (times_of old bytes) (Some t) i is_new → Tallies old new i m is_new
tallies old between new i m bytes t is_new spells taken updates counts = record {
  this = subst (λ (bs : List ℕ). Counts (times_of old bs) (times_of new bs) i is_new) spells
      (subst (λ (o : Option Times). Counts (times_of old bytes) o i is_new) (sym updates.1) counts);
  others = λ cs other.
      let elsewhere : bytes_eq bytes cs ≡ false = ap (λ bs. bytes_eq bs cs) spells ∙ other in
      other_messages between new bytes (Some t) updates cs elsewhere ∙ taken cs elsewhere;
}

-- a message that never came is counted as one of which nothing is known
pub first_time : (t : Times) (new : Option Times) (i : Interface) (is_new : Bool) → IsNever t → Counts (Some t) new i is_new → Counts None new i is_new
first_time t new i is_new none counts = record {
  this = λ j same. counts.this j same ∙ ap (λ n. n + 1) (none.never j);
  others = λ j other. counts.others j other ∙ none.never j;
  fresh = λ is. let h = counts.fresh is in (omega arith, h.1 ∙ ap (λ n. n + 1) (none.never i));
  again = λ is. let h = counts.again is in let z = none.most in let l = h.0 in absurd (omega arith);
}
