-- The keys of an object, as the search goes through them.
use Rattle.std.{proofs.Common.{rules, ◌≡◌, ℕ, List, [], ◌∷◌, map, not, Bor, Option, is_some, refl, ap, ◌∙◌}, specs.List.{list_any}, specs.Str.{bytes_eq}}
use Rattle.serde_json.{specs.Data.{Members}, specs.Find.{get_member}}
use Rattle.net_plan.{specs.Json.{has_unknown_key, lacks_key}, specs.Trees.{Tree, members_view}, proofs.Keys.{list_any-map, unknown_members}, specs.Grammar.{Grammar, a_list, an_object, a_choice, Fields, keys_of, no_fields, field, fields_view, field_view, grammar, step, field_step}, specs.declared.shape.Shape.{Shape, fold-Shape, the_lemmas}, specs.declared.shape.Rule.{Rule}, specs.declared.shape.Field.{Field, Field-F, out-Field, roll-Field, fold_out-Field, fold-roll-Field}}
use Rattle.net_plan.specs.declared.shape.Shape as shape

pub among_each : (names : List (Bor (List ℕ))) (text : List ℕ) → list_any (λ other. bytes_eq text other) (map (λ name. name.now) names) ≡ list_any (λ name. bytes_eq text name.now) names
among_each names text = list_any-map (λ other. bytes_eq text other) (λ name. name.now) names

abbrev pub key_held : Field → Bor (List ℕ)
key_held f = (out-Field f).key

pub field_seen : (f : Field) → field_view f ≡ ((out-Field f).key.now, fold-Shape Grammar (List ℕ × Grammar) step field_step (out-Field f).shape)
field_seen f = fold_out-Field Grammar (List ℕ × Grammar) step field_step f

pub keys_seen : (fs : List Field) → keys_of (fields_view fs) ≡ map (λ key. key.now) (map key_held fs)
keys_seen [] = refl
keys_seen (f ∷ fs) = rw (field_seen f) (ap (λ rest. (out-Field f).key.now ∷ rest) (keys_seen fs))

keys_each : (fs : List Field) (text : List ℕ) → list_any (λ key. bytes_eq text key.now) (map key_held fs) ≡ list_any (λ f. bytes_eq text (out-Field f).key.now) fs
keys_each fs text = list_any-map (λ key. bytes_eq text key.now) key_held fs

members_each : (fs : List Field) (ms : List (Bor (List ℕ) × Tree)) → list_any (λ m. not (list_any (λ key. bytes_eq m.0.now key.now) (map key_held fs))) ms
    ≡ list_any (λ m. not (list_any (λ f. bytes_eq m.0.now (out-Field f).key.now) fs)) ms
members_each fs [] = refl
members_each fs (m ∷ ms) = rw (keys_each fs m.0.now, members_each fs ms) refl

pub unknown_seen : (fs : List Field) (ms : List (Bor (List ℕ) × Tree)) → has_unknown_key (keys_of (fields_view fs)) (members_view ms)
    ≡ list_any (λ m. not (list_any (λ f. bytes_eq m.0.now (out-Field f).key.now) fs)) ms
unknown_seen fs ms = ap (λ keys. has_unknown_key keys (members_view ms)) (keys_seen fs) ∙ unknown_members (map key_held fs) ms ∙ members_each fs ms

pub lacked_seen : (fs : List Field) (ms : Members) → lacks_key (keys_of (fields_view fs)) ms ≡ list_any (λ f. not (is_some (get_member (out-Field f).key.now ms))) fs
lacked_seen fs ms =
    ap (λ keys. lacks_key keys ms) (keys_seen fs) ∙ list_any-map (λ key. not (is_some (get_member key ms))) (λ key. key.now) (map key_held fs)
    ∙ list_any-map (λ key. not (is_some (get_member key.now ms))) key_held fs

-- the fields one after another
pub fields_cons : (f : Field) (fs : List Field) → fields_view (f ∷ fs) ≡ field (out-Field f).key.now (grammar (out-Field f).shape) (fields_view fs)
fields_cons f fs = rw (field_seen f) refl

pub seen_list : (most : Option ℕ) (item : Bor Shape) → grammar (shape.List most item) ≡ a_list most (grammar item.now)
seen_list most item = search (rules, the_lemmas)

seen_object : (rule : Rule) (fields : Bor (List Field)) → grammar (shape.Object rule fields) ≡ an_object rule (fields_view fields.now)
seen_object rule fields = search (rules, the_lemmas)

seen_choice : (at : Bor Field) (choices : Bor (List Field)) → grammar (shape.Choice at choices) ≡ a_choice (field_view at.now).0 (field_view at.now).1 (fields_view choices.now)
seen_choice at choices = search (rules, the_lemmas)

-- an object whose word decides, as the search goes through it
pub seen_by : (at : Bor Field) (choices : Bor (List Field)) → grammar (shape.Choice at choices) ≡ a_choice (out-Field at.now).key.now (grammar (out-Field at.now).shape) (fields_view choices.now)
seen_by at choices = seen_choice at choices ∙ ap (λ p. a_choice p.0 p.1 (fields_view choices.now)) (field_seen at.now)

-- ---- a table, part by part

pub record Shows (s : Shape) (g : Grammar) : Type 0 where
  pub is : grammar s ≡ g

pub record AllShow (fs : List Field) (gs : Fields) : Type 0 where
  pub are : fields_view fs ≡ gs

pub object_shows : (rule : Rule) (fields : Bor (List Field)) (gs : Fields) → AllShow fields.now gs → Shows (shape.Object rule fields) (an_object rule gs)
object_shows rule fields gs h = record { is = seen_object rule fields ∙ ap (an_object rule) h.are }

pub list_shows : (most : Option ℕ) (item : Bor Shape) (g : Grammar) → Shows item.now g → Shows (shape.List most item) (a_list most g)
list_shows most item g h = record { is = seen_list most item ∙ ap (a_list most) h.is }

pub choice_shows : (r : Field-F Shape Field) (choices : Bor (List Field)) (at : Bor Field) (key : List ℕ) (g : Grammar) (gs : Fields) → at.now ≡ roll-Field r → r.key.now ≡ key → Shows r.shape g → AllShow choices.now gs
    → Shows (shape.Choice at choices) (a_choice key g gs)
choice_shows r choices at key g gs is same h all = record {
  is =
      seen_choice at choices ∙ ap (λ f. a_choice (field_view f).0 (field_view f).1 (fields_view choices.now)) is
      ∙ ap (λ p. a_choice p.0 p.1 (fields_view choices.now)) (fold-roll-Field Grammar (List ℕ × Grammar) step field_step r)
      ∙ ap (λ k. a_choice k (grammar r.shape) (fields_view choices.now)) same ∙ ap (λ g. a_choice key g (fields_view choices.now)) h.is ∙ ap (a_choice key g) all.are;
}

pub none_show : AllShow [] no_fields
none_show = record { are = refl }

pub one_more_shows : (r : Field-F Shape Field) (fs : List Field) (key : List ℕ) (g : Grammar) (gs : Fields) → r.key.now ≡ key → Shows r.shape g → AllShow fs gs → AllShow (roll-Field r ∷ fs) (field key g gs)
one_more_shows r fs key g gs same h rest = record {
  are =
      ap (λ p. field p.0 p.1 (fields_view fs)) (fold-roll-Field Grammar (List ℕ × Grammar) step field_step r) ∙ ap (λ k. field k (grammar r.shape) (fields_view fs)) same
      ∙ ap (λ h. field key h (fields_view fs)) h.is ∙ ap (field key g) rest.are;
}
