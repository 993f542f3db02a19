-- What is said of moves holds of every relation that is the same.
use Rattle.std.proofs.Common.{ℕ, zero, suc, ◌+◌, ◌-◌, List, length, inl, inr}
use Rattle.net_rules.{specs.Moves.{Leads}, specs.Circles.{EndsAfter, HasNoCircle, IsLoop, IsLeastLoop, IsWalked}, specs.LongestWays.{IsLongest, IsLongestOrLoop}, specs.MixedLoops.{EitherOf, MovesOn, IsMixedLoop}, specs.declared.mixed_loop.Side.{Side}, specs.declared.mixed_loop.Side.TheVariants.{Old, New}, specs.declared.certifying.longest_ways.Longest.{Longest}, specs.declared.certifying.walks.Walked.{Walked}, specs.declared.certifying.walks.Walked.TheVariants.{Ended, Circled}}
use Rattle.net_rules.specs.declared.certifying.longest_ways.Longest.TheVariants as longest

pub Leads-same : (Move Other : ℕ → ℕ → Type 0) → ((n m : ℕ) → Move n m → Other n m) → (n k m : ℕ) → Leads Move n k m → Leads Other n k m
Leads-same Move Other to n zero m way = way
Leads-same Move Other to n (suc k) m way = (way.0, to n way.0 way.1, Leads-same Move Other to way.0 k m way.2)

IsLoop-same : (Move Other : ℕ → ℕ → Type 0) → ((n m : ℕ) → Move n m → Other n m) → (places : List ℕ) → IsLoop Move places → IsLoop Other places
IsLoop-same Move Other to places h = record { two = h.two; closed = h.closed; joined = λ i n m here there. to n m (h.joined i n m here there) }

module _ (Move Other : ℕ → ℕ → Type 0) (to : (n m : ℕ) → Move n m → Other n m) (from : (n m : ℕ) → Other n m → Move n m) where
  pub EndsAfter-same : (n k : ℕ) → EndsAfter Move n k → EndsAfter Other n k
  EndsAfter-same n k h = (h.0, Leads-same Move Other to n k h.0 h.1, λ p move. h.2 p (from h.0 p move))

  pub HasNoCircle-same : HasNoCircle Move → HasNoCircle Other
  HasNoCircle-same none n circle = none n (circle.0, Leads-same Other Move from n (suc circle.0) n circle.1)

  pub IsLeastLoop-same : (places : List ℕ) → IsLeastLoop Move places → IsLeastLoop Other places
  IsLeastLoop-same places h = (
    h.0,
    ((h.1.0.0, Leads-same Move Other to h.0 (suc h.1.0.0) h.0 h.1.0.1), λ n circle. h.1.1 n (circle.0, Leads-same Other Move from n (suc circle.0) n circle.1)),
    record { loop = IsLoop-same Move Other to places h.2.loop; starts = h.2.starts; once = h.2.once },
  )

  pub IsWalked-same : (places : ℕ) (walked : Walked) → IsWalked Move places walked → IsWalked Other places walked
  IsWalked-same places (Ended counts) h = (HasNoCircle-same h.0, (h.1.0, λ n k is. EndsAfter-same n k (h.1.1 n k is)))
  IsWalked-same places (Circled nodes) h = IsLeastLoop-same nodes.items h

-- of two relations
module _ (ByOld ByNew Old' New' : ℕ → ℕ → Type 0) (old_to : (n m : ℕ) → ByOld n m → Old' n m) (old_from : (n m : ℕ) → Old' n m → ByOld n m)
    (new_to : (n m : ℕ) → ByNew n m → New' n m) (new_from : (n m : ℕ) → New' n m → ByNew n m) where
  either_to : (n m : ℕ) → EitherOf ByOld ByNew n m → EitherOf Old' New' n m
  either_to n m (inl move) = inl (old_to n m move)
  either_to n m (inr move) = inr (new_to n m move)

  either_from : (n m : ℕ) → EitherOf Old' New' n m → EitherOf ByOld ByNew n m
  either_from n m (inl move) = inl (old_from n m move)
  either_from n m (inr move) = inr (new_from n m move)

  side_to : (side : Side) (n m : ℕ) → MovesOn side ByOld ByNew n m → MovesOn side Old' New' n m
  side_to Old n m move = old_to n m move
  side_to New n m move = new_to n m move

  ways_back_from : (n k m : ℕ) → Leads (EitherOf Old' New') n k m → Leads (EitherOf ByOld ByNew) n k m
  ways_back_from = Leads-same (EitherOf Old' New') (EitherOf ByOld ByNew) either_from

  pub no_circle_either : HasNoCircle (EitherOf ByOld ByNew) → HasNoCircle (EitherOf Old' New')
  no_circle_either = HasNoCircle-same (EitherOf ByOld ByNew) (EitherOf Old' New') either_to either_from

  IsMixedLoop-same : (nodes : List ℕ) (sides : List Side) → IsMixedLoop ByOld ByNew nodes sides → IsMixedLoop Old' New' nodes sides
  IsMixedLoop-same nodes sides h = record {
    first = h.first;
    least = (
      (h.least.0.0, Leads-same (EitherOf ByOld ByNew) (EitherOf Old' New') either_to h.first (suc h.least.0.0) h.first h.least.0.1),
      λ n circle. h.least.1 n (circle.0, ways_back_from n (suc circle.0) n circle.1),
    );
    some = h.some;
    long = h.long;
    starts = h.starts;
    closed = h.closed;
    joined = λ i n m side here there is. side_to side n m (h.joined i n m side here there is);
    once = h.once;
    shortest = λ k way. h.shortest k (ways_back_from h.first (suc k) h.first way);
    old_first = λ i n m here is move way. h.old_first i n m here is (old_from n m move) (ways_back_from m (length sides - (i + 1)) h.first way);
  }

  pub IsLongest-same : (n k : ℕ) → IsLongest (EitherOf ByOld ByNew) n k → IsLongest (EitherOf Old' New') n k
  IsLongest-same n k h = record {
    ends = EndsAfter-same (EitherOf ByOld ByNew) (EitherOf Old' New') either_to either_from n k h.ends;
    longest = λ l ends. h.longest l (EndsAfter-same (EitherOf Old' New') (EitherOf ByOld ByNew) either_from either_to n l ends);
  }

  pub IsLongestOrLoop-same : (places : ℕ) (longest : Longest) → IsLongestOrLoop ByOld ByNew places longest → IsLongestOrLoop Old' New' places longest
  IsLongestOrLoop-same places (longest.Ended counts) h = (no_circle_either h.0, (h.1.0, λ n k is. IsLongest-same n k (h.1.1 n k is)))
  IsLongestOrLoop-same places (longest.Circled nodes sides) h = IsMixedLoop-same nodes.items sides.items h
