-- Runs of free EIDs, and marks that are set.
use Rattle.std.{proofs.Common.{◌≡◌, ℕ, zero, suc, ◌+◌, ◌-◌, ◌<◌, ◌≤◌, false, true, slice_index_or, replicate, arith, add-zero, sym, ◌∙◌, inl, inr, Option, IfSome}, proofs.lemmas.Bool.{cases_lt, false≢true}, proofs.lemmas.Option.{IfSome_then}}
use Rattle.mctp_transport.specs.declared.address.Eid.{Eid}
use Rattle.mctp_control.specs.Pools.{PoolValue, IsFree, IsFreeRun, IsLowestFree, IsLowestRun}

-- nothing is marked in a list of no marks
pub no_mark : (n eid : ℕ) → slice_index_or (replicate n false) eid false ≡ true → ⊥
no_mark zero eid h = cc
no_mark (suc n) zero h = cc
no_mark (suc n) (suc eid) h = no_mark n eid h

-- a run of one is a free EID
pub run_of_one : (p : PoolValue) (eid : ℕ) → IsFreeRun p 1 eid → IsFree p eid
run_of_one p eid h = rw add-zero at (h 0 (omega arith))

pub one_is_run : (p : PoolValue) (eid : ℕ) → IsFree p eid → IsFreeRun p 1 eid
one_is_run p eid h i l = let z : i ≡ 0 = omega arith in rw (z, add-zero) h

pub lowest_one : (p : PoolValue) (eid : ℕ) → IsLowestRun p 1 eid → IsLowestFree p eid
lowest_one p eid h = record { free = run_of_one p eid h.run; lowest = λ other f. h.lowest other (one_is_run p other f) }

-- the same of an answer, if there is one
pub some_lowest : (p : PoolValue) (Q : Eid → Type 0) (r : Option Eid) → IfSome r (λ eid. IsLowestRun p 1 eid.value × Q eid)
    → IfSome r (λ eid. IsLowestFree p eid.value × Q eid)
some_lowest p Q r h = IfSome_then r {P = λ eid. IsLowestRun p 1 eid.value × Q eid} h (λ eid run. (lowest_one p eid.value run.0, run.1))

-- an EID that is marked is in no free run
pub marked_in_run : (p : PoolValue) (count first eid : ℕ) → first ≤ eid → eid < first + count → slice_index_or p.marks eid false ≡ true
    → IsFreeRun p count first → ⊥
marked_in_run p count first eid a b m h =
    let here : first + (eid - first) ≡ eid = omega arith in
    let f = rw here at (h (eid - first) (omega arith)) in
    f.1 (f.0, m)

-- no run begins before this EID
abbrev pub NoneBefore : PoolValue → ℕ → ℕ → Type 0
NoneBefore p count first = (e : ℕ) → e < first → ¬ IsFreeRun p count e

-- all from one EID up to another are free, too few for a run, and no run begins before them
pub record IsRunSoFar (p : PoolValue) (count first eid : ℕ) : Type 0 where
  pub low : p.first ≤ first
  pub high : first ≤ eid
  pub short : eid < first + count
  pub free : (e : ℕ) → first ≤ e → e < eid → slice_index_or p.marks e false ≡ false
  pub before : NoneBefore p count first

-- one that is out ends them, and the next ones begin behind it
pub out_ends : (p : PoolValue) (count first eid : ℕ) → 0 < count → IsRunSoFar p count first eid → slice_index_or p.marks eid false ≡ true → IsRunSoFar p count (eid + 1) (eid + 1)
out_ends p count first eid some h out = record {
  low = omega (arith, h.low, h.high);
  high = omega arith;
  short = omega arith;
  free = λ e a b. absurd (omega arith);
  before = λ e small run. elim (cases_lt e first) [
    | inl lt ↦ h.before e lt run
    | inr ge ↦ marked_in_run p count e eid (omega arith) (omega (arith, h.short)) out run
  ];
}

-- one that is free goes on with them
pub free_goes_on : (p : PoolValue) (count first eid : ℕ) → IsRunSoFar p count first eid → slice_index_or p.marks eid false ≡ false → eid + 1 < first + count → IsRunSoFar p count first (eid + 1)
free_goes_on p count first eid h free short = record {
  low = h.low;
  high = omega (arith, h.high);
  short = short;
  free = λ e a b. elim (cases_lt e eid) [
    | inl lt ↦ h.free e a lt
    | inr ge ↦ (let here : e ≡ eid = omega arith in rw here free)
  ];
  before = h.before;
}

-- or makes them a run, which is the lowest
pub run_found : (p : PoolValue) (count first eid : ℕ) → IsRunSoFar p count first eid → slice_index_or p.marks eid false ≡ false → eid + 1 ≡ first + count → eid < p.first + p.size → IsLowestRun p count first
run_found p count first eid h free whole within = record {
  run = λ i small. (
    (omega (arith, h.low), omega arith),
    λ out. false≢true (sym (free_at (first + i) (omega arith) (omega arith)) ∙ out.1),
  );
  lowest = λ other run. elim (cases_lt other first) [
    | inl lt ↦ absurd (h.before other lt run)
    | inr ge ↦ omega arith
  ];
}
  where
    free_at : (e : ℕ) → first ≤ e → e < eid + 1 → slice_index_or p.marks e false ≡ false
    free_at e a b = elim (cases_lt e eid) [
      | inl lt ↦ h.free e a lt
      | inr ge ↦ (let here : e ≡ eid = omega arith in rw here free)
    ]
