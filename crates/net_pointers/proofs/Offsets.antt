-- What stands at an offset, in the tree of the text.
use Rattle.std.{proofs.Common.{◌≡◌, ◌∙◌, sym, ap, ℕ, List, [], Option, Some, None, subst}, proofs.lemmas.Bool.{false≢true}, specs.Prelude.{Result, Ok, Err, IfOk, IfSome, IsSome, MatchOption}}
use Rattle.json.{specs.Find.{BeginsWith}, specs.Json.{Json}, specs.Lex.{tokens}}
use Rattle.serde_json.specs.Read.{max_depth}
use Rattle.net_plan.{specs.Texts.{IsTree}, specs.Trees.{data_of}, specs.Finding.{Step}}
use Rattle.net_pointers.{specs.Offsets.{PartStandsAt, LeadsTo, KeyStandsAt, LeadsToKey}, specs.Paths.{path_of}, specs.Doubles.{part_at}, specs.Pointers.{value_at}, proofs.Beginnings.{last}, proofs.Paths.{path_leads}, proofs.Readings.{path_read, path_key_read}}

begins : (text : List ℕ) (j : Json) → IsTree text j → BeginsWith (tokens text) j
begins text j e = (max_depth, [], last _ j e)

pub pointer_leads : (text : List ℕ) (pointer : List Step) (j : Json) (path : List ℕ) (offset : ℕ) → IsTree text j → path_of pointer j ≡ Some path → PartStandsAt text path offset → LeadsTo text pointer offset
pointer_leads text pointer j path offset whole along stands =
    let found = path_leads pointer j path along in
    record {
      tree = j;
      whole = whole;
      path = path;
      along = along;
      stands = stands;
      part = found.0;
      leads = found.2;
      begins = subst (λ ts. BeginsWith ts found.0) stands.2.3 (path_read path (tokens text) stands.0 j found.0 stands.1 (begins text j whole) found.1);
    }

key_leads : (text path : List ℕ) (m offset : ℕ) → KeyStandsAt text path m offset → LeadsToKey text path m offset
key_leads text path m offset stands = record {
  stands = stands;
  names = λ j ms whole at within.
      (let key = path_key_read path m (tokens text) stands.0 j ms stands.1 (begins text j whole) at within in
      (key.0, sym stands.2.3 ∙ key.1));
}

pub found_key_leads : {E : Type 0} (text path : List ℕ) (m : ℕ) (r : Result (Option ℕ) E) → IfOk r (λ f. IfSome f (KeyStandsAt text path m) × IsSome f) → IfOk r (λ f. IfSome f (LeadsToKey text path m) × IsSome f)
found_key_leads text path m (Ok (Some offset)) h = (key_leads text path m offset h.0, h.1)
found_key_leads text path m r h = h

-- where a pointer leads along a path, what it leads to is found
pub found_pointer_leads : {E : Type 0} (text : List ℕ) (pointer : List Step) (j : Json) (path : List ℕ) (r : Result (Option ℕ) E) → IsTree text j → path_of pointer j ≡ Some path
    → IfOk r (λ f. IfSome f (PartStandsAt text path)) → IfOk r (λ f. (tree part : Json) → IsTree text tree → part_at path tree ≡ Some part → IsSome f)
    → IfOk r (λ f. MatchOption f (value_at pointer (data_of j) ≡ None) (LeadsTo text pointer))
found_pointer_leads text pointer j path (Ok (Some offset)) whole along stands found = pointer_leads text pointer j path offset whole along stands
found_pointer_leads text pointer j path (Ok None) whole along stands found =
    let leads = path_leads pointer j path along in
    absurd (false≢true (found j leads.0 whole leads.1))
found_pointer_leads text pointer j path (Err e) whole along stands found = tt
