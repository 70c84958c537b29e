-- A name that a procedure in a fit heap mentions holds a value of its type.
use Rattle.std.proofs.Common.{inl, inr, ◌⊎◌, ◌≡◌, ℕ, zero, suc, ◌+◌, true, List, [], ◌∷◌, refl, sym, ◌∙◌, subst, arith, Option, Some}
use Rattle.std.specs.Prelude.{codes}
use Rattle.ps_heap.specs.ps_base.TyView.{TyView}
use Rattle.ps_soundness.specs.ps_program.Node.{BodyNode}
use Rattle.ps_soundness.specs.ps_type_text.Texts.{Field, class_text, IsNamed}
use Rattle.ps_soundness.specs.ps_typing.WellTyped.{At, IsOfType}
use Rattle.ps_heap.specs.Values.{Value, Procedure, Routine, as_written}
use Rattle.ps_heap.specs.reaching.Reaching.{IsIn, by_step}
use Rattle.reaching.proofs.Lists.{in-front, in-behind}
use Rattle.ps_heap.specs.Objects.{Object, Scope, object_at, value_at}
use Rattle.ps_heap.specs.Scopes.{parent_in}
use Rattle.ps_heap.specs.References.{values_of, scope_ids, value_ids, values_ids, object_ids, next_in}
use Rattle.ps_heap.specs.Held.{StoredHeap}
use Rattle.database_meaning.specs.Same.{IsInHeap}
use Rattle.ps_soundness.proofs.Telling.{Told}
use Rattle.heap_fit.specs.Slots.{mentions}
use Rattle.heap_fit.specs.Heaps.{IsFitValue, HasPart, IsOut, here, further, IsMentioned, AreFitNames, IsFitScope, IsFitObject, IsFitHeap}

part-ids : (does : Routine) (scope : Option ℕ) (vs : List Value) (x : ℕ) → HasPart (Procedure does scope) vs → IsIn x (scope_ids scope) → IsIn x (values_ids vs)
part-ids does scope [] x h l = absurd h
part-ids does scope (v ∷ vs) x (inl e) l = in-front x (value_ids v) (values_ids vs) (subst (λ w. IsIn x (value_ids w)) e l)
part-ids does scope (v ∷ vs) x (inr h) l = in-behind x (value_ids v) (values_ids vs) (part-ids does scope vs x h l)

pub referred : (stored : StoredHeap) (id : ℕ) (o : Object) → IsInHeap stored id → object_at stored.objects id ≡ Some o → (x : ℕ) → IsIn x (object_ids (Some o)) → IsInHeap stored x
unfolding next_in
referred stored id o there is x l = by_step id x there (subst (λ k. IsIn x (object_ids k)) (sym is) l) tt

-- the scopes on the way out from one that is reached are reached
out-reached : (stored : StoredHeap) (id : ℕ) (scope : Option ℕ) (out : ℕ) → ((x : ℕ) → IsIn x (scope_ids scope) → IsInHeap stored x) → IsOut stored.objects id scope out → IsInHeap stored id
out-reached stored id scope out there here = there id (inl refl)
out-reached stored id scope out there (further {other} {out = less} {text} {parent} {values} is way) =
    out-reached stored id parent less (λ x l. referred stored other (Scope text parent values) (there other (inl refl)) is x (in-front x (scope_ids parent) (values_ids values) l)) way

name-holds : (stored : StoredHeap) (id from : ℕ) (names : List Field) (values : List Value) (n : ℕ) (ty : TyView) → AreFitNames stored id from names values → At (IsOfType ty) names n
    → IsFitValue stored.objects ty (value_at values n) ⊎ (IsMentioned stored id (from + n) → ⊥)
name-holds stored id from [] values n ty are at = absurd at
name-holds stored id from (field ∷ fields) [] n ty are at = absurd are
name-holds stored id from (field ∷ fields) (v ∷ vs) zero ty are (inl h) = elim are.0 [
  | inl is ↦ inl (subst (λ t. IsFitValue stored.objects t v) h.1 is)
  | inr nil ↦ inr (λ m. nil.1 (subst (IsMentioned stored id) (omega arith) m))
]
name-holds stored id from (field ∷ fields) (v ∷ vs) zero ty are (inr h) = absurd (let e = h.1 in omega arith)
name-holds stored id from (field ∷ fields) (v ∷ vs) (suc n) ty are (inl h) = absurd (let e = h.0 in omega arith)
name-holds stored id from (field ∷ fields) (v ∷ vs) (suc n) ty are (inr (before, e, h)) =
    elim (name-holds stored id (from + 1) fields vs n ty are.1 (subst (At (IsOfType ty) fields) (omega (arith, e)) h)) [
      | inl is ↦ inl is
      | inr unsaid ↦ inr (λ m. unsaid (subst (IsMentioned stored id) (omega arith) m))
    ]

some_same : {A : Type 0} {a b : A} → Some a ≡ Some b → a ≡ b
some_same e = cc

pub mentioned-holds : (told : Told) (stored : StoredHeap) (holder : ℕ) (object : Object) (of : BodyNode) (scope : Option ℕ) (out position id : ℕ) (names : List Field) (parent : Option ℕ)
    (values : List Value) (ty : TyView) → IsFitHeap stored → IsInHeap stored holder → object_at stored.objects holder ≡ Some object
    → HasPart (Procedure (as_written of) scope) (values_of object) → IsOut stored.objects id scope out → mentions out position of ≡ true
    → object_at stored.objects id ≡ Some (Scope (class_text (codes "scope") names) parent values) → IsNamed (codes "scope") names → At (IsOfType ty) names position
    → IsFitValue stored.objects ty (value_at values position)
mentioned-holds told stored holder object of scope out position id names parent values ty fit there is has way mentioned scope_is named at =
    let inside = out-reached stored id scope out (λ x l. referred stored holder object there is x
    (in-behind x (scope_ids (parent_in (Some object))) (values_ids (values_of object)) (part-ids (as_written of) scope (values_of object) x has l))) way in
    let found = fit.each id inside in
    let s : IsFitScope stored id (class_text (codes "scope") names) parent values = subst (IsFitObject stored id) (some_same (sym found.is ∙ scope_is)) found.fit in
    let same = told.classes (codes "scope") (codes "scope") s.names names s.named named (sym s.text_is) in
    elim (name-holds stored id 0 s.names values position ty s.are (subst (λ fields. At (IsOfType ty) fields position) (sym same.1) at)) [
      | inl value ↦ value
      | inr unsaid ↦ absurd (unsaid (subst (IsMentioned stored id) (omega arith) (record {
        holder = holder;
        there = there;
        object = object;
        is = is;
        of = of;
        scope = scope;
        has = has;
        out = out;
        round = way;
        mentioned = mentioned;
      })))
    ]
