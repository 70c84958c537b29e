-- A name that a scope keeps, in the machine's heap: its place is found there, and what is read and written there is what is meant, compiled.
use Rattle.std.proofs.Common.{◌≡◌, ℕ, zero, suc, List, [], ◌∷◌, set, Option, Some, inl, inr, sym, ap, ◌∙◌, subst, arith}
use Rattle.std.specs.Prelude.{codes}
use Rattle.ps_gen.specs.ps_base.TyView.{TyView}
use Rattle.ps_stepping.specs.text_forms.declared.forms.Form.{Form}
use Rattle.ps_stepping.specs.text_forms.Forms.{forms_of, form_in}
use Rattle.ps_stepping.specs.text_forms.Classes.{form_of_type}
use Rattle.ps_stepping.proofs.of_text_forms.ClassForms.{class-told}
use Rattle.ps_type_text.specs.Texts.{Field, class_text}
use Rattle.ps_stepping.specs.ps_heap.Values.{Value, Num, word_of}
use Rattle.ps_stepping.specs.ps_heap.Objects.{Heap, Object, Scope, object_at, with_object, kept_as}
use Rattle.ps_stepping.specs.ps_heap.Scopes.{scope_at, parent_in, scope_out, with_name_in, with_name, with_kept_name}
use Rattle.ps_stepping.specs.Steps.{Step}
use Rattle.ps_stepping.specs.Objects.{when_number, when_reference}
use Rattle.ps_stepping.specs.Procedures.{of_scope}
use Rattle.ps_typing_laws.specs.ps_typing.WellTyped.{At, IsOfType}
use Rattle.ps_soundness.proofs.Fields.{form_at}
use Rattle.ps_code_laws.specs.Compiled.{compiled, compiled_all, compiled_heap}
use Rattle.ps_code_laws.proofs.Clauses.{IsNum, IsRef}
use Rattle.ps_code_laws.proofs.Compiling.{compiled_found, values_put, object_compiled, object_put, out_compiled}
use Rattle.ps_code_laws.proofs.Attempts.{number_form, reference_form, kept_word}
use Rattle.ps_soundness.proofs.Names.{IsFound}
use Rattle.heap_fit.specs.Bodies.{Level}
use Rattle.fit_soundness.specs.Levels.{IsLevelAt, AreLevelsAt}

abbrev pub text_of : List Field → List ℕ
text_of whole = class_text (codes "scope") whole

-- the scope so many levels out, in the machine's heap
pub level_there : (heap : Heap) (scope : Option ℕ) (up : ℕ) (whole : List Field) (names : List Value) → IsFound heap scope up whole names →
    (next : List ℕ → Step) →
    of_scope (scope_at (compiled_heap heap) (scope_out (compiled_heap heap) scope up)) (λ of parent. next of) ≡ next (text_of whole)
level_there heap scope up whole names f next =
    ap (λ (at : Option ℕ). of_scope (scope_at (compiled_heap heap) at) (λ of parent. next of)) (out_compiled heap scope up ∙ f.out)
    ∙ ap (λ (found : Option Object). of_scope found (λ of parent. next of)) (object_compiled heap f.id ∙ ap compiled_found f.is)

-- A name of this type has this place in the scope so many levels out, whether or not it has had its declaration.
pub record IsThere (heap : Heap) (scope : Option ℕ) (up position : ℕ) (ty : TyView) : Type 0 where
  pub whole : List Field
  pub names : List Value
  pub at_scope : IsFound heap scope up whole names
  pub at : At (IsOfType ty) whole position

further_there : (heap : Heap) (scope : Option ℕ) (first : Level) (up position : ℕ) (ty : TyView) (s : IsLevelAt heap scope first) →
    IsThere heap s.parent up position ty → IsThere heap scope (suc up) position ty
unfolding scope_out
further_there heap scope first up position ty s n = record {
  whole = n.whole;
  names = n.names;
  at_scope = record {
    id = n.at_scope.id;
    out = ap (λ (o : Option ℕ). scope_out heap (parent_in (scope_at heap o)) up) s.scope_is
        ∙ ap (λ (found : Option Object). scope_out heap (parent_in found) up) s.is ∙ n.at_scope.out;
    parent = n.at_scope.parent;
    is = n.at_scope.is;
    named = n.at_scope.named;
  };
  at = n.at;
}

innermost_there : (heap : Heap) (scope : Option ℕ) (level : Level) (position : ℕ) (ty : TyView) → IsLevelAt heap scope level →
    At (IsOfType ty) level.names position → IsThere heap scope 0 position ty
unfolding scope_out
innermost_there heap scope level position ty s at = record {
  whole = level.names;
  names = s.names;
  at_scope = record { id = s.id; out = s.scope_is; parent = s.parent; is = s.is; named = s.named };
  at = at;
}

pub place_there : (heap : Heap) (levels : List Level) (scope : Option ℕ) (up position : ℕ) (ty : TyView) →
    At (λ (level : Level). At (IsOfType ty) level.names position) levels up → AreLevelsAt heap scope levels → IsThere heap scope up position ty
place_there heap [] scope up position ty at h = absurd at
place_there heap (level ∷ levels) scope zero position ty (inl at) h = innermost_there heap scope level position ty h.0 at.1
place_there heap (level ∷ levels) scope zero position ty (inr at) h = absurd (let e = at.1 in omega arith)
place_there heap (level ∷ levels) scope (suc up) position ty (inl at) h = absurd (let e = at.0 in omega arith)
place_there heap (level ∷ levels) scope (suc up) position ty (inr (before, e, at)) h =
    let further : At (λ (round : Level). At (IsOfType ty) round.names position) levels up
    = subst (At (λ (round : Level). At (IsOfType ty) round.names position) levels) (let same : before ≡ up = omega arith in same) at in
    further_there heap scope level up position ty h.0 (place_there heap levels h.0.parent up position ty further h.1)

-- the form of the name at a place
pub form_there : (heap : Heap) (scope : Option ℕ) (up position : ℕ) (ty : TyView) (n : IsThere heap scope up position ty) →
    form_in (forms_of (text_of n.whole)) position ≡ Some (form_of_type ty)
form_there heap scope up position ty n =
    ap (λ (forms : List Form). form_in forms position) (class-told (codes "scope") n.whole n.at_scope.named) ∙ form_at n.whole position ty n.at

pub number_there : (heap : Heap) (scope : Option ℕ) (up position : ℕ) {ty : TyView} (n : IsThere heap scope up position ty) → IsNum ty → (s : Step) →
    when_number (form_in (forms_of (text_of n.whole)) position) s ≡ s
number_there heap scope up position {ty = ty} n num s =
    ap (λ (form : Option Form). when_number form s) (form_there heap scope up position ty n) ∙ number_form num s

pub reference_there : (heap : Heap) (scope : Option ℕ) (up position : ℕ) {ty : TyView} (n : IsThere heap scope up position ty) → IsRef ty →
    (s : Step) → when_reference (form_in (forms_of (text_of n.whole)) position) s ≡ s
reference_there heap scope up position {ty = ty} n ref s =
    ap (λ (form : Option Form). when_reference form s) (form_there heap scope up position ty n) ∙ reference_form ref s

-- the heap with another value of a name, where its scope is known
name_there : (heap : Heap) (scope : Option ℕ) (up position : ℕ) (v : Value) (id : ℕ) (text : List ℕ) (parent : Option ℕ) (names : List Value) →
    scope_out heap scope up ≡ Some id → object_at heap id ≡ Some (Scope text parent names) →
    with_kept_name heap scope up position v
    ≡ with_object heap id (Scope text parent (set names position (kept_as (form_in (forms_of text) position) v)))
unfolding with_name
name_there heap scope up position v id text parent names out is =
    ap (λ (at : Option ℕ). with_name heap at position v) out ∙ ap (λ (found : Option Object). with_name_in heap id found position v) is

-- a value that is kept as it is meant, compiled
kept_there : (heap : Heap) (scope : Option ℕ) (up position : ℕ) (v x : Value) (whole : List Field) (names : List Value) →
    IsFound heap scope up whole names →
    kept_as (form_in (forms_of (text_of whole)) position) x ≡ compiled (kept_as (form_in (forms_of (text_of whole)) position) v) →
    with_kept_name (compiled_heap heap) scope up position x ≡ compiled_heap (with_kept_name heap scope up position v)
kept_there heap scope up position v x whole names f same =
    let text = text_of whole in
    let kept = kept_as (form_in (forms_of text) position) v in
    name_there (compiled_heap heap) scope up position x f.id text f.parent (compiled_all names) (out_compiled heap scope up ∙ f.out)
    (object_compiled heap f.id ∙ ap compiled_found f.is)
    ∙ ap (λ (vs : List Value). with_object (compiled_heap heap) f.id (Scope text f.parent vs))
    (ap (set (compiled_all names) position) same ∙ values_put names position kept)
    ∙ object_put heap f.id (Scope text f.parent (set names position kept))
    ∙ ap compiled_heap (sym (name_there heap scope up position v f.id text f.parent names f.out f.is))

-- a number's word is kept as the value is
pub word_kept : (heap : Heap) (scope : Option ℕ) (up position : ℕ) {ty : TyView} (v : Value) (n : IsThere heap scope up position ty) → IsNum ty →
    with_kept_name (compiled_heap heap) scope up position (Num (word_of v)) ≡ compiled_heap (with_kept_name heap scope up position v)
word_kept heap scope up position {ty = ty} v n num =
    let is = form_there heap scope up position ty n in
    kept_there heap scope up position v (Num (word_of v)) n.whole n.names n.at_scope
    (ap (λ (form : Option Form). kept_as form (Num (word_of v))) is ∙ kept_word num v
    ∙ ap (λ (form : Option Form). compiled (kept_as form v)) (sym is))
