-- Scopes of a typed heap: what their names hold, what a new value of a name leaves, and a new scope.
use Rattle.std.proofs.Common.{◌≡◌, ℕ, zero, suc, true, List, [], ◌∷◌, ◌++◌, map, length, set, Option, Some, inl, inr, refl, sym, ap, ◌∙◌, subst, arith}
use Rattle.std.specs.Prelude.{codes}
use Rattle.ps_meaning.specs.ps_base.TyView.{TyView}
use Rattle.ps_type_text.specs.Texts.{Field, class_text, IsNamed}
use Rattle.ps_meaning.specs.text_forms.declared.forms.Form.{Form}
use Rattle.ps_meaning.specs.text_forms.Classes.{form_of_type}
use Rattle.ps_meaning.specs.text_forms.Forms.{forms_of}
use Rattle.ps_heap.proofs.of_text_forms.ClassForms.{class-told}
use Rattle.ps_meaning.specs.ps_typing.WellTyped.{At, IsOfType}
use Rattle.ps_heap.specs.Values.{Value}
use Rattle.ps_heap.specs.Objects.{Heap, Object, Scope, with_new, new_number, value_at, kept_as}
use Rattle.ps_heap.specs.Scopes.{first_value, new_scope, scope_at, parent_in, names_in, scope_out, name_in, kept_name, with_kept_name}
use Rattle.ps_soundness.specs.Shapes.{IsOf, is_given, HasValue, HaveValues, IsPrefix, IsScopeAt, AreScopes, AreNames, IsTypedHeap, Grows}
use Rattle.ps_soundness.proofs.Telling.{Told}
use Rattle.ps_soundness.proofs.Growing.{grows_new, at_new, typed_new, of_kept, scopes_kept}
use Rattle.ps_soundness.proofs.Fields.{kept_by_type}
use Rattle.ps_soundness.proofs.Names.{Holds, value_of, given_as, given_then, name_holds, IsFound, names_are, after_set, set_is, set_grows, set_typed, at_set, first_names}
use Rattle.ps_soundness.proofs.Standings.{by_rules}

-- Names of the types of the first ones of others.
pub front_less : (fields : List Field) (next : Field) (whole : List Field) → IsPrefix (fields ++ next ∷ []) whole → IsPrefix fields whole
front_less [] next whole h = tt
front_less (field ∷ fields) next [] h = absurd h
front_less (field ∷ fields) next (other ∷ others) h = (h.0, front_less fields next others h.1)

pub front_more : (fields : List Field) (next : Field) (whole : List Field) → IsPrefix fields whole → At (IsOfType next.ty) whole (length fields) →
    IsPrefix (fields ++ next ∷ []) whole
front_more [] next [] h at = absurd at
front_more [] next (other ∷ others) h (inl at) = (sym at.1, tt)
front_more [] next (other ∷ others) h (inr at) = absurd (let e = at.1 in omega arith)
front_more (field ∷ fields) next [] h at = absurd h
front_more (field ∷ fields) next (other ∷ others) h (inl at) = absurd (let e = at.0 in omega arith)
front_more (field ∷ fields) next (other ∷ others) h (inr (before, e, at)) =
    (h.0, front_more fields next others h.1 (subst (At (IsOfType next.ty) others) (let same : before ≡ length fields = omega arith in same) at))

pub front_at : (fields whole : List Field) (position : ℕ) (ty : TyView) → IsPrefix fields whole → At (IsOfType ty) fields position →
    At (IsOfType ty) whole position
front_at [] whole position ty front h = absurd h
front_at (field ∷ fields) [] position ty front h = absurd front
front_at (field ∷ fields) (other ∷ others) position ty front (inl h) = inl (h.0, sym front.0 ∙ h.1)
front_at (field ∷ fields) (other ∷ others) position ty front (inr (before, e, h)) = inr (before, e, front_at fields others before ty front.1 h)

-- The name at a position.
name_value : (heap : Heap) (fields whole : List Field) (names : List Value) (position : ℕ) (ty : TyView) → IsPrefix fields whole →
    AreNames heap whole names →
    HaveValues fields names → At (IsOfType ty) fields position → IsOf heap ty (value_at names position)
name_value heap [] whole names position ty front are have at = absurd at
name_value heap (field ∷ fields) [] names position ty front are have at = absurd front
name_value heap (field ∷ fields) (other ∷ others) [] position ty front are have at = absurd are
name_value heap (field ∷ fields) (other ∷ others) (v ∷ vs) zero ty front are have (inl h) =
    subst (λ (t : TyView). IsOf heap t v) h.1
    (value_of by_rules heap field.ty v (subst (λ (t : TyView). Holds by_rules heap t v) (sym front.0) (elim are.0 [ inl is ↦ inl is.0 | inr e ↦ inr e ])) have.0)
name_value heap (field ∷ fields) (other ∷ others) (v ∷ vs) zero ty front are have (inr h) = absurd (let e = h.1 in omega arith)
name_value heap (field ∷ fields) (other ∷ others) (v ∷ vs) (suc position) ty front are have (inl h) = absurd (let e = h.0 in omega arith)
name_value heap (field ∷ fields) (other ∷ others) (v ∷ vs) (suc position) ty front are have (inr (before, e, h)) =
    name_value heap fields others vs position ty front.1 are.1 have.1
    (subst (At (IsOfType ty) fields) (let same : before ≡ position = omega arith in same) h)

-- the next name has its value
have_next : (heap : Heap) (fields whole : List Field) (next : Field) (names : List Value) (v : Value) → IsPrefix (fields ++ next ∷ []) whole →
    AreNames heap whole names → HaveValues fields names → HasValue next.ty v → HaveValues (fields ++ next ∷ []) (set names (length fields) v)
have_next heap [] [] next names v front are have h = absurd front
have_next heap [] (other ∷ others) next [] v front are have h = absurd are
have_next heap [] (other ∷ others) next (old ∷ vs) v front are have h = (h, tt)
have_next heap (field ∷ fields) [] next names v front are have h = absurd front
have_next heap (field ∷ fields) (other ∷ others) next [] v front are have h = absurd are
have_next heap (field ∷ fields) (other ∷ others) next (old ∷ vs) v front are have h =
    (have.0, have_next heap fields others next vs v front.1 are.1 have.1 h)

have_less : (fields : List Field) (next : Field) (names : List Value) → HaveValues (fields ++ next ∷ []) names → HaveValues fields names
have_less [] next names h = tt
have_less (field ∷ fields) next [] h = absurd h
have_less (field ∷ fields) next (v ∷ vs) h = (h.0, have_less fields next vs h.1)

-- the name at a place
pub record IsName (heap : Heap) (scope : Option ℕ) (up position : ℕ) (ty : TyView) : Type 0 where
  pub whole : List Field
  pub names : List Value
  pub at_scope : IsFound heap scope up whole names
  pub fields : List Field
  pub front : IsPrefix fields whole
  pub have : HaveValues fields names
  pub at : At (IsOfType ty) fields position

pub found : (heap : Heap) (wholes scopes : List (List Field)) (scope : Option ℕ) (up position : ℕ) (ty : TyView) →
    At (λ (s : List Field). At (IsOfType ty) s position) scopes up → AreScopes heap scope wholes scopes → IsName heap scope up position ty
unfolding scope_out
found heap wholes [] scope up position ty at h = absurd at
found heap [] (fields ∷ scopes) scope up position ty at h = absurd h
found heap (whole ∷ wholes) (fields ∷ scopes) scope zero position ty (inl at) (s, rest) = record {
  whole = whole;
  names = s.names;
  at_scope = record { id = s.id; out = s.scope_is; parent = s.parent; is = s.is; named = s.named };
  fields = fields;
  front = s.front;
  have = s.have;
  at = at.1;
}
found heap (whole ∷ wholes) (fields ∷ scopes) scope zero position ty (inr at) h = absurd (let e = at.1 in omega arith)
found heap (whole ∷ wholes) (fields ∷ scopes) scope (suc up) position ty (inl at) h = absurd (let e = at.0 in omega arith)
found heap (whole ∷ wholes) (fields ∷ scopes) scope (suc up) position ty (inr (before, e, at)) (s, rest) =
    let further = found heap wholes scopes s.parent up position ty
    (subst (At (λ (f : List Field). At (IsOfType ty) f position) scopes) (let same : before ≡ up = omega arith in same) at) rest in
    let next : parent_in (scope_at heap scope) ≡ s.parent = ap (λ (o : Option ℕ). parent_in (scope_at heap o)) s.scope_is ∙ ap parent_in s.is in
    let there = further.at_scope in
    record {
      whole = further.whole;
      names = further.names;
      at_scope = record {
        id = there.id;
        out = ap (λ (o : Option ℕ). scope_out heap o up) next ∙ there.out;
        parent = there.parent;
        is = there.is;
        named = there.named;
      };
      fields = further.fields;
      front = further.front;
      have = further.have;
      at = further.at;
    }

-- what is read
pub name_read : (told : Told) (heap : Heap) (scope : Option ℕ) (up position : ℕ) (ty : TyView) → IsTypedHeap heap →
    IsName heap scope up position ty → IsOf heap ty (kept_name heap scope up position)
unfolding name_in
name_read told heap scope up position ty typed n =
    let s = n.at_scope in
    let is : name_in heap (scope_out heap scope up) position ≡ value_at n.names position =
    ap (λ (o : Option ℕ). name_in heap o position) s.out ∙ ap (λ (o : Option Object). value_at (names_in o) position) s.is in
    subst (IsOf heap ty) (sym is)
    (name_value heap n.fields n.whole n.names position ty n.front (names_are by_rules told heap scope up n.whole n.names typed s) n.have n.at)

-- The innermost scope, in which the next name gets its value.
abbrev pub innermost : {heap : Heap} {scope : Option ℕ} {whole fields : List Field} (s : IsScopeAt heap scope whole fields) →
    IsFound heap scope 0 whole s.names
unfolding scope_out
innermost s = record { id = s.id; out = s.scope_is; parent = s.parent; is = s.is; named = s.named }

-- a name gets another value of its type
pub name_put : (told : Told) (heap : Heap) (scope : Option ℕ) (up position : ℕ) (ty : TyView) (v : Value) → IsTypedHeap heap →
    IsName heap scope up position ty → IsOf heap ty v →
    Grows heap (with_kept_name heap scope up position v) × IsTypedHeap (with_kept_name heap scope up position v)
name_put told heap scope up position ty v typed n is =
    let f = n.at_scope in
    let at = front_at n.fields n.whole position ty n.front n.at in
    let holds = name_holds by_rules heap n.whole n.names position ty (names_are by_rules told heap scope up n.whole n.names typed f) at in
    let held = given_then by_rules heap heap ty (value_at n.names position) v holds is in
    let grows = set_grows heap scope up position n.whole n.names v f held in
    let new = after_set heap scope up n.whole n.names f position v in
    subst (λ (h : Heap). Grows heap h × IsTypedHeap h) (sym (set_is heap scope up position n.whole n.names ty v f at (kept_by_type by_rules heap ty v is)))
    (grows, set_typed by_rules told heap scope up position n.whole n.names ty v f held typed at tt (of_kept by_rules heap new grows ty v is))

-- the next name of the innermost scope gets its value, which may be a procedure that names it
pub name_declared : (told : Told) (heap : Heap) (scope : Option ℕ) (whole : List Field) (wholes : List (List Field)) (fields : List Field)
    (scopes : List (List Field)) (next : Field) (v : Value) → IsTypedHeap heap → AreScopes heap scope (whole ∷ wholes) (fields ∷ scopes) →
    At (IsOfType next.ty) whole (length fields) → HasValue next.ty v → kept_as (Some (form_of_type next.ty)) v ≡ v →
    ((new : Heap) → Grows heap new → AreScopes new scope (whole ∷ wholes) ((fields ++ next ∷ []) ∷ scopes) → IsOf new next.ty v) →
    Grows heap (with_kept_name heap scope 0 (length fields) v) × IsTypedHeap (with_kept_name heap scope 0 (length fields) v)
    × AreScopes (with_kept_name heap scope 0 (length fields) v) scope (whole ∷ wholes) ((fields ++ next ∷ []) ∷ scopes)
unfolding innermost
name_declared told heap scope whole wholes fields scopes next v typed (s, rest) at has kept is =
    let f = innermost s in
    let position = length fields in
    let front = front_more fields next whole s.front at in
    let text = class_text (codes "scope") whole in
    let are = names_are by_rules told heap scope 0 whole s.names typed f in
    let held = held_by (name_holds by_rules heap whole s.names position next.ty are at) in
    let grows = set_grows heap scope 0 position whole s.names v f held in
    let new = after_set heap scope 0 whole s.names f position v in
    let inner : IsScopeAt new scope whole (fields ++ next ∷ []) = record {
      id = s.id;
      scope_is = s.scope_is;
      parent = s.parent;
      names = set s.names position v;
      is = at_set heap s.id (Scope text s.parent s.names) (Scope text s.parent (set s.names position v)) s.is;
      named = s.named;
      front = front;
      have = have_next heap fields whole next s.names v front are s.have has;
    } in
    let around : AreScopes new scope (whole ∷ wholes) ((fields ++ next ∷ []) ∷ scopes) =
    (inner, scopes_kept heap new grows wholes scopes s.parent rest) in
    let of = is new grows around in
    subst (λ (h : Heap). Grows heap h × IsTypedHeap h × AreScopes h scope (whole ∷ wholes) ((fields ++ next ∷ []) ∷ scopes))
    (sym (set_is heap scope 0 position whole s.names next.ty v f at kept))
    (grows, set_typed by_rules told heap scope 0 position whole s.names next.ty v f held typed at tt of, around)
  where
    held_by : Holds by_rules heap next.ty (value_at s.names (length fields)) → is_given (value_at s.names (length fields)) ≡ true → is_given v ≡ true
    held_by holds given = given_as by_rules heap next.ty (value_at s.names (length fields)) v holds has given

-- a new scope: none of its names has had its declaration
pub scope_made : (heap : Heap) (scope : Option ℕ) (whole : List Field) (wholes scopes : List (List Field)) → IsNamed (codes "scope") whole →
    IsTypedHeap heap → AreScopes heap scope wholes scopes →
    IsTypedHeap (with_new heap (new_scope (class_text (codes "scope") whole) scope))
    × AreScopes (with_new heap (new_scope (class_text (codes "scope") whole) scope)) (Some (new_number heap)) (whole ∷ wholes) ([] ∷ scopes)
unfolding new_scope
scope_made heap scope whole wholes scopes named typed stand =
    let text = class_text (codes "scope") whole in
    let object = new_scope text scope in
    let new = with_new heap object in
    let are = subst (λ (forms : List Form). AreNames heap whole (map first_value forms)) (sym (class-told (codes "scope") whole named))
    (first_names by_rules heap whole) in (
      typed_new by_rules heap object typed (record { fields = whole; named = named; text_is = refl; round = tt; are = are }),
      (
        record {
          id = new_number heap;
          scope_is = refl;
          parent = scope;
          names = map first_value (forms_of text);
          is = at_new heap object;
          named = named;
          front = tt;
          have = tt;
        },
        scopes_kept heap new (grows_new heap object) wholes scopes scope stand,
      ),
    )

-- fewer names are in scope
pub scopes_less : (heap : Heap) (scope : Option ℕ) (wholes : List (List Field)) (fields : List Field) (next : Field) (scopes : List (List Field)) →
    AreScopes heap scope wholes ((fields ++ next ∷ []) ∷ scopes) → AreScopes heap scope wholes (fields ∷ scopes)
scopes_less heap scope [] fields next scopes h = absurd h
scopes_less heap scope (whole ∷ wholes) fields next scopes (s, rest) = (
  record {
    id = s.id;
    scope_is = s.scope_is;
    parent = s.parent;
    names = s.names;
    is = s.is;
    named = s.named;
    front = front_less fields next whole s.front;
    have = have_less fields next s.names s.have;
  },
  rest,
)
