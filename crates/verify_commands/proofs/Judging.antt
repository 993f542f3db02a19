-- Parts that are judged, one after the other.
use Rattle.std.{proofs.Common.{◌≡◌, ℕ, Bool, List, [], ◌∷◌, ◌++◌, map, codes, refl, sym, ◌∙◌, ap, subst, append_assoc, append-nil, length, get_or, take, arith, ◌+◌, ◌<◌, ◌≤◌}, specs.Prelude.{All, Option, Some, None, Result, String, string_bytes}, specs.List.{AllZip}, proofs.lemmas.List.{length-map, map-append, take_all}, proofs.lemmas.List.Elements.{All-nil, All-cons, All-append}}
use Rattle.plan_values.specs.declared.plan.Plan.{Plan}
use Rattle.net_plan.specs.declared.stream.TextFault.{TextFault}
use Rattle.verify_commands.{specs.declared.parts.Judged.{Judged}, specs.declared.parts.Part.{Part}, specs.declared.parts.Verdict.{Verdict}, specs.Folders.{IsPlanTextHeld, Reading}, specs.Parts.{AddsBoard, AddsIf, AddsRuns, AddsWanted, AreRunsSo, IsBad, IsGood, IsJudged, IsNoted, IsRunBad, IsRunGood, IsRunPart, IsRunSo, Says}, specs.Reports.{name_of, run_name}, specs.Verifying.{Judges, name_if}, proofs.Named.{one_more}}
use Rattle.verify_commands.specs.declared.parts.Part.TheVariants as part

-- ---- runs

zip_more : {A B : Type 0} (R : A → B → Type 0) (xs : List A) (ys : List B) (x : A) (y : B) → AllZip R xs ys → R x y → AllZip R (xs ++ x ∷ []) (ys ++ y ∷ [])
zip_more R [] [] x y each so = (so, tt)
zip_more R [] (b ∷ bs) x y each so = absurd each
zip_more R (a ∷ rest) [] x y each so = absurd each
zip_more R (a ∷ rest) (b ∷ bs) x y each so = (each.0, zip_more R rest bs x y each.1 so)

module _ {Z : Type 0} (Reads : List ℕ → Reading → Type 0) (plan : Plan) (names : List (String Z)) where
  -- one run more is judged
  pub each_more : (k : ℕ) (it : String Z) (more : List Judged) (judged : Judged) → k < length names → it ≡ get_or names k it
      → AreRunsSo Reads plan (take k (map string_bytes names)) more → IsRunSo Reads plan (string_bytes it) judged
      → AreRunsSo Reads plan (take (k + 1) (map string_bytes names)) (more ++ judged ∷ [])
  each_more k it more judged within is each so =
      subst (λ ns. AreRunsSo Reads plan ns (more ++ judged ∷ [])) (sym (one_more names k it within is))
      (zip_more (IsRunSo Reads plan) (take k (map string_bytes names)) more (string_bytes it) judged each so)

  -- all are
  pub all_each : (k : ℕ) (more : List Judged) → length names ≤ k → AreRunsSo Reads plan (take k (map string_bytes names)) more
      → AreRunsSo Reads plan (map string_bytes names) more
  all_each k more past each =
      let all : length (map string_bytes names) ≤ k = omega (arith, past, length-map names (string_bytes {Z = Z})) in
      subst (λ ns. AreRunsSo Reads plan ns more) (take_all k (map string_bytes names) all) each

-- ---- parts that are added

-- parts of these names were added, of each of which this is so
pub record AddsParts (IsSo : Judged → Type 0) (names : List (List ℕ)) (old new : List Judged) : Type 0 where
  pub more : List Judged
  pub added : new ≡ old ++ more
  pub all : All IsSo more
  pub are_named : map (λ (judged : Judged). name_of judged.part) more ≡ names

module _ (IsSo : Judged → Type 0) where
  pub none_added : (old new : List Judged) → new ≡ old → AddsParts IsSo [] old new
  none_added old new same = record { more = []; added = same ∙ sym (append-nil old); all = All-nil IsSo; are_named = refl }

  pub one_added : (name : List ℕ) (old new : List Judged) (judged : Judged) → new ≡ old ++ judged ∷ [] → name_of judged.part ≡ name → IsSo judged
      → AddsParts IsSo (name ∷ []) old new
  one_added name old new judged same is so = record {
    more = judged ∷ [];
    added = same;
    all = All-cons IsSo judged [] so (All-nil IsSo);
    are_named = ap (λ n. n ∷ []) is;
  }

  pub then_added : (names others : List (List ℕ)) (old mid new : List Judged) → AddsParts IsSo names old mid → AddsParts IsSo others mid new
      → AddsParts IsSo (names ++ others) old new
  then_added names others old mid new a b = record {
    more = a.more ++ b.more;
    added = b.added ∙ (ap (λ xs. xs ++ b.more) a.added ∙ append_assoc old a.more b.more);
    all = All-append IsSo a.more b.more a.all b.all;
    are_named = map-append (λ (judged : Judged). name_of judged.part) a.more b.more
        ∙ (ap (λ ns. ns ++ map (λ (judged : Judged). name_of judged.part) b.more) a.are_named ∙ ap (λ ns. names ++ ns) b.are_named);
  }

module _ (Reads : List ℕ → Reading → Type 0) (Records : List ℕ → List ℕ → Type 0) (is_strict : Bool) (text : List ℕ) (plan : Plan) where
  -- a part is judged as it is
  pub judged_as : (it : Part) (judged : Judged) → judged.part ≡ it
      → Says judged.verdict (IsGood Reads Records text plan it) (IsBad Reads Records text plan it) (IsNoted is_strict it) → IsJudged Reads Records is_strict text plan judged
  judged_as it judged is said =
      subst (λ p. Says judged.verdict (IsGood Reads Records text plan p) (IsBad Reads Records text plan p) (IsNoted is_strict p)) (sym is) said

  run_as : (it : Part) (judged : Verdict) (name : List ℕ) → IsRunPart name it → Says judged (IsRunGood Reads plan name) (IsRunBad Reads plan name) ⊥
      → Says judged (IsGood Reads Records text plan it) (IsBad Reads Records text plan it) (IsNoted is_strict it)
  run_as (part.Run s) judged name same said = subst (λ n. Says judged (IsRunGood Reads plan n) (IsRunBad Reads plan n) ⊥) (sym same) said
  run_as part.Board judged name same said = absurd same
  run_as part.Check judged name same said = absurd same
  run_as part.Faults judged name same said = absurd same
  run_as part.Lint judged name same said = absurd same
  run_as part.Require judged name same said = absurd same

  run_called : (it : Part) (name : List ℕ) → IsRunPart name it → name_of it ≡ run_name name
  run_called (part.Run s) name same = ap run_name same
  run_called part.Board name same = absurd same
  run_called part.Check name same = absurd same
  run_called part.Faults name same = absurd same
  run_called part.Lint name same = absurd same
  run_called part.Require name same = absurd same

  runs_all : (names : List (List ℕ)) (more : List Judged) → AreRunsSo Reads plan names more → All (IsJudged Reads Records is_strict text plan) more
  runs_all [] [] each = All-nil (IsJudged Reads Records is_strict text plan)
  runs_all [] (j ∷ js) each = absurd each
  runs_all (n ∷ ns) [] each = absurd each
  runs_all (n ∷ ns) (j ∷ js) each =
      All-cons (IsJudged Reads Records is_strict text plan) j js (run_as j.part j.verdict n each.0.0 each.0.1) (runs_all ns js each.1)

  runs_called : (names : List (List ℕ)) (more : List Judged) → AreRunsSo Reads plan names more → map (λ (judged : Judged). name_of judged.part) more ≡ map run_name names
  runs_called [] [] each = refl
  runs_called [] (j ∷ js) each = absurd each
  runs_called (n ∷ ns) [] each = absurd each
  runs_called (n ∷ ns) (j ∷ js) each = ap (λ x. x ∷ map (λ (judged : Judged). name_of judged.part) js) (run_called j.part n each.0.0) ∙ ap (λ xs. run_name n ∷ xs) (runs_called ns js each.1)

  pub runs_added : (names : List (List ℕ)) (old new more : List Judged) → new ≡ old ++ more → AreRunsSo Reads plan names more
      → AddsParts (IsJudged Reads Records is_strict text plan) (map run_name names) old new
  runs_added names old new more same each = record { more = more; added = same; all = runs_all names more each; are_named = runs_called names more each }

  if_added : (name : List ℕ) (it : Part) (found : Option (List ℕ)) (IsSo : Judged → Type 0) (old new : List Judged) → name_of it ≡ name
      → ((judged : Judged) → IsSo judged → (judged.part ≡ it) × IsJudged Reads Records is_strict text plan judged) → AddsIf found IsSo old new
      → AddsParts (IsJudged Reads Records is_strict text plan) (name_if name found) old new
  if_added name it None IsSo old new called so added = none_added (IsJudged Reads Records is_strict text plan) old new added
  if_added name it (Some bytes) IsSo old new called so (judged, same, is) =
      let found = so judged is in
      one_added (IsJudged Reads Records is_strict text plan) name old new judged same (ap name_of found.0 ∙ called) found.1

  pub all_judged : (Lists : Result (List (List ℕ)) TextFault → Type 0) (a b c d e f : List Judged) → IsPlanTextHeld Reads text plan → AddsBoard Reads Records text [] a
      → AddsParts (IsJudged Reads Records is_strict text plan) (codes "check" ∷ []) a b → AddsParts (IsJudged Reads Records is_strict text plan) (codes "faults" ∷ []) b c
      → AddsParts (IsJudged Reads Records is_strict text plan) (codes "lint" ∷ []) c d → AddsWanted Reads plan d e → AddsRuns Reads Lists plan e f
      → Judges Reads Lists Records is_strict f
  all_judged Lists a b c d e f held (board, has_board, board_added) check faults lint (wanted, has_wanted, wanted_added) (files, runs, more, has_files, are_runs, same, each) =
      let So : Judged → Type 0 = IsJudged Reads Records is_strict text plan in
      let first = if_added (codes "board") part.Board board _ [] a refl (λ judged so. (so.0, judged_as part.Board judged so.0 so.1)) board_added in
      let asked = if_added (codes "require") part.Require wanted _ d e refl (λ judged so. (so.0, judged_as part.Require judged so.0 so.1)) wanted_added in
      let ran = runs_added runs e f more same each in
      let rest = then_added So _ _ d e f asked ran in
      let all = then_added So _ _ [] a f first (then_added So _ _ a b f check (then_added So _ _ b c f faults (then_added So _ _ c d f lint rest))) in
      record {
        text = text;
        plan = plan;
        board = board;
        wanted = wanted;
        files = files;
        runs = runs;
        held = held;
        has_board = has_board;
        has_wanted = has_wanted;
        has_files = has_files;
        are_runs = are_runs;
        all = ap (map (λ (judged : Judged). name_of judged.part)) all.added ∙ all.are_named;
        are_so = subst (All So) (sym all.added) all.all;
      }
