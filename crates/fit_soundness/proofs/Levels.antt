-- The scopes round a clause as a heap grows: what was declared in them holds its value, and a name that is declared gets one.
use Rattle.std.proofs.Common.{◌≡◌, ◌⊎◌, ℕ, zero, suc, true, List, [], ◌∷◌, ◌++◌, map, length, set, Option, Some, inl, inr, refl, sym, ap, ◌∙◌, subst, arith}
use Rattle.std.specs.Prelude.{codes}
use Rattle.ps_heap.specs.ps_base.TyView.{TyView}
use Rattle.ps_heap.specs.ps_base.TyView as types
use Rattle.ps_soundness.specs.ps_typing.Checking.{isnt_void}
use Rattle.ps_heap.specs.text_forms.Classes.{form_of_type}
use Rattle.ps_heap.specs.text_forms.Forms.{forms_of}
use Rattle.ps_heap.specs.text_forms.declared.forms.Form.{Form}
use Rattle.ps_heap.proofs.of_text_forms.ClassForms.{class-told}
use Rattle.ps_soundness.specs.ps_program.Node.{BodyNode}
use Rattle.ps_soundness.specs.ps_type_text.Texts.{Field, class_text, IsNamed}
use Rattle.ps_soundness.specs.ps_typing.WellTyped.{At, IsOfType}
use Rattle.ps_heap.specs.Values.{Value}
use Rattle.ps_heap.specs.Objects.{Heap, Object, Scope, object_at, with_new, new_number, value_at, kept_as}
use Rattle.ps_heap.specs.Scopes.{first_value, new_scope, scope_at, parent_in, names_in, scope_out, name_in, kept_name, with_kept_name}
use Rattle.ps_soundness.specs.Over.{Grows, IsSameSort, StayGiven, IsOf, AreNames, IsTypedHeap}
use Rattle.ps_soundness.specs.Shapes.{HasValue}
use Rattle.ps_soundness.proofs.Telling.{Told}
use Rattle.ps_soundness.proofs.Notion.{Kind}
use Rattle.ps_soundness.proofs.Growing.{grows_new, at_new, typed_new, value_stays, of_kept}
use Rattle.ps_soundness.proofs.Fields.{kept_by_type}
use Rattle.ps_soundness.proofs.Names.{nil_given, value_of, given_as, given_then, name_is, name_holds, IsFound, names_are, after_set, set_is, set_grows, set_typed, at_set, first_names}
use Rattle.heap_fit.specs.Bodies.{Level, HasDeclared}
use Rattle.heap_fit.specs.Heaps.{AreRound, none_round, one_round}
use Rattle.heap_fit.specs.Going.{names_of}
use Rattle.database_meaning.proofs.TableLaws.{finite_maps}
use Rattle.fit_soundness.specs.Levels.{IsLevelAt, AreLevelsAt, IsProcedure, fitting}

-- Where the heap grows.

value_stays_at : (names others : List Value) (position : ℕ) (ty : TyView) → StayGiven names others → HasValue ty (value_at names position) → HasValue ty (value_at others position)
value_stays_at [] [] position ty s h = h
value_stays_at [] (w ∷ ws) position ty s h = absurd s
value_stays_at (v ∷ vs) [] position ty s h = absurd s
value_stays_at (v ∷ vs) (w ∷ ws) zero ty s h = value_stays ty v w s.0 h
value_stays_at (v ∷ vs) (w ∷ ws) (suc position) ty s h = value_stays_at vs ws position ty s.1 h

level_kept : (heap new : Heap) (scope : Option ℕ) (level : Level) → Grows heap new → (h : IsLevelAt heap scope level) →
    (k : IsLevelAt new scope level) × (k.parent ≡ h.parent)
level_kept heap new scope level g h =
    let stays = g h.id (Scope (class_text (codes "scope") level.names) h.parent h.names) h.is in
    of stays.now stays.is stays.sort
  where
    of : (now : Object) → object_at new h.id ≡ Some now → IsSameSort (Scope (class_text (codes "scope") level.names) h.parent h.names) now →
        (k : IsLevelAt new scope level) × (k.parent ≡ h.parent)
    of (Scope other round others) e s = (
      record {
        id = h.id;
        scope_is = h.scope_is;
        parent = round;
        names = others;
        is = e ∙ ap (λ (t : List ℕ). Some (Scope t round others)) s.0;
        named = h.named;
        have = λ position ty at. value_stays_at h.names others position ty s.2 (h.have position ty at);
      },
      s.1,
    )
    of now e s = absurd s

pub levels_kept : (heap new : Heap) → Grows heap new → (levels : List Level) (scope : Option ℕ) → AreLevelsAt heap scope levels → AreLevelsAt new scope levels
levels_kept heap new g [] scope h = h
levels_kept heap new g (level ∷ levels) scope h =
    let k = level_kept heap new scope level g h.0 in
    (k.0, subst (λ (p : Option ℕ). AreLevelsAt new p levels) (sym k.1) (levels_kept heap new g levels h.0.parent h.1))

pub procedure_kept : (heap new : Heap) → Grows heap new → (ty : TyView) (of : BodyNode) (scope : Option ℕ) → IsProcedure heap ty of scope → IsProcedure new ty of scope
procedure_kept heap new g ty of scope h =
    record { levels = h.levels; fit = h.fit; stand = levels_kept heap new g h.levels scope h.stand; ty_is = h.ty_is }

round_now : (heap new : Heap) (id : ℕ) (names : List Field) (parent : Option ℕ) (values : List Value) (more : List (List Field)) (now : Object) → object_at new id ≡ Some now →
    IsSameSort (Scope (class_text (codes "scope") names) parent values) now → IsNamed (codes "scope") names → AreRound new parent more → AreRound new (Some id) (names ∷ more)
round_now heap new id names parent values more (Scope other round others) e s named rest =
    one_round (e ∙ ap (λ (t : List ℕ). Some (Scope t round others)) s.0) named (subst (λ (p : Option ℕ). AreRound new p more) (sym s.1) rest)
round_now heap new id names parent values more now e s named rest = absurd s

pub round_kept : (heap new : Heap) → Grows heap new → (scope : Option ℕ) (scopes : List (List Field)) → AreRound heap scope scopes → AreRound new scope scopes
round_kept heap new g scope scopes none_round = none_round
round_kept heap new g scope scopes (one_round {id} {names} {parent} {values} {more} is named rest) =
    let stays = g id (Scope (class_text (codes "scope") names) parent values) is in
    round_now heap new id names parent values more stays.now stays.is stays.sort named (round_kept heap new g parent more rest)

-- the scopes round a clause come to an end
pub levels_round : (heap : Heap) (scope : Option ℕ) (levels : List Level) → AreLevelsAt heap scope levels → AreRound heap scope (names_of levels)
levels_round heap scope [] h = subst (λ (s : Option ℕ). AreRound heap s []) (sym h) none_round
levels_round heap scope (level ∷ levels) (s, rest) =
    subst (λ (o : Option ℕ). AreRound heap o (level.names ∷ names_of levels)) (sym s.scope_is) (one_round s.is s.named (levels_round heap s.parent levels rest))

abbrev pub fits : Kind
fits = record {
  asked = fitting;
  kept = procedure_kept;
  of_type = λ heap ty of scope h. h.ty_is;
  round_kept = λ heap new g parent h. (h.0, round_kept heap new g parent h.0 h.1);
  no_keys = tt;
  entered_kept = finite_maps.order;
}

-- A name in scope.

next_out : (heap : Heap) (scope : Option ℕ) (level : Level) (s : IsLevelAt heap scope level) → parent_in (scope_at heap scope) ≡ s.parent
next_out heap scope level s = ap (λ (o : Option ℕ). parent_in (scope_at heap o)) s.scope_is ∙ ap parent_in s.is

out_stays : (heap new : Heap) → Grows heap new → (scope : Option ℕ) (before : List Level) (level : Level) (after : List Level) → AreLevelsAt heap scope (before ++ level ∷ after) →
    scope_out new scope (length before) ≡ scope_out heap scope (length before)
unfolding scope_out
out_stays heap new g scope [] level after h = refl
out_stays heap new g scope (first ∷ before) level after (s, rest) =
    let k = level_kept heap new scope first g s in
    ap (λ (p : Option ℕ). scope_out new p (length before)) (next_out new scope first k.0 ∙ k.1) ∙ out_stays heap new g s.parent before level after rest
    ∙ sym (ap (λ (p : Option ℕ). scope_out heap p (length before)) (next_out heap scope first s))

-- the scope so many levels out
pub record IsOut (heap : Heap) (scope : Option ℕ) (up : ℕ) (level : Level) : Type 0 where
  pub names : List Value
  pub found : IsFound heap scope up level.names names
  pub have : (position : ℕ) (ty : TyView) → HasDeclared position ty level → HasValue ty (value_at names position)

further_out : (heap : Heap) (scope : Option ℕ) (first level : Level) (up : ℕ) (s : IsLevelAt heap scope first) → IsOut heap s.parent up level → IsOut heap scope (suc up) level
unfolding scope_out
further_out heap scope first level up s o = record {
  names = o.names;
  found = record {
    id = o.found.id;
    out = ap (λ (p : Option ℕ). scope_out heap p up) (next_out heap scope first s) ∙ o.found.out;
    parent = o.found.parent;
    is = o.found.is;
    named = o.found.named;
  };
  have = o.have;
}

innermost_out : (heap : Heap) (scope : Option ℕ) (level : Level) → IsLevelAt heap scope level → IsOut heap scope 0 level
unfolding scope_out
innermost_out heap scope level s =
    record { names = s.names; found = record { id = s.id; out = s.scope_is; parent = s.parent; is = s.is; named = s.named }; have = s.have }

pub level_out : (heap : Heap) (scope : Option ℕ) (before : List Level) (level : Level) (after : List Level) → AreLevelsAt heap scope (before ++ level ∷ after) →
    IsOut heap scope (length before) level
level_out heap scope [] level after h = innermost_out heap scope level h.0
level_out heap scope (first ∷ before) level after h = further_out heap scope first level (length before) h.0 (level_out heap h.0.parent before level after h.1)

-- the name at a place
pub record IsKept (heap : Heap) (scope : Option ℕ) (up position : ℕ) (ty : TyView) : Type 0 where
  pub level : Level
  pub out : IsOut heap scope up level
  pub at : HasDeclared position ty level

pub kept_found : (heap : Heap) (levels : List Level) (scope : Option ℕ) (up position : ℕ) (ty : TyView) → At (HasDeclared position ty) levels up → AreLevelsAt heap scope levels →
    IsKept heap scope up position ty
kept_found heap [] scope up position ty at h = absurd at
kept_found heap (level ∷ levels) scope zero position ty (inl at) h = record { level = level; out = innermost_out heap scope level h.0; at = at.1 }
kept_found heap (level ∷ levels) scope zero position ty (inr at) h = absurd (let e = at.1 in omega arith)
kept_found heap (level ∷ levels) scope (suc up) position ty (inl at) h = absurd (let e = at.0 in omega arith)
kept_found heap (level ∷ levels) scope (suc up) position ty (inr (before, e, at)) h =
    let rest = kept_found heap levels h.0.parent up position ty (subst (At (HasDeclared position ty) levels) (let same : before ≡ up = omega arith in same) at) h.1 in
    record { level = rest.level; out = further_out heap scope level rest.level up h.0 rest.out; at = rest.at }

pub kept_read : (told : Told) (heap : Heap) (scope : Option ℕ) (up position : ℕ) (ty : TyView) → IsTypedHeap fitting heap → IsKept heap scope up position ty →
    IsOf fitting heap ty (kept_name heap scope up position)
unfolding name_in
kept_read told heap scope up position ty typed n =
    let f = n.out.found in
    let is : name_in heap (scope_out heap scope up) position ≡ value_at n.out.names position =
    ap (λ (o : Option ℕ). name_in heap o position) f.out ∙ ap (λ (o : Option Object). value_at (names_in o) position) f.is in
    subst (IsOf fitting heap ty) (sym is)
    (value_of fits heap ty (value_at n.out.names position)
    (name_holds fits heap n.level.names n.out.names position ty (names_are fits told heap scope up n.level.names n.out.names typed f) n.at.0)
    (n.out.have position ty n.at))

-- a name that has its value isn't void
pub valued_named : (heap : Heap) (ty : TyView) (v : Value) → (IsOf fitting heap ty v × (isnt_void ty ≡ true)) ⊎ (v ≡ first_value (form_of_type ty)) → HasValue ty v → isnt_void ty ≡ true
valued_named heap ty v (inl h) has = h.1
valued_named heap types.Int v (inr e) has = refl
valued_named heap types.Bool v (inr e) has = refl
valued_named heap types.Str v (inr e) has = refl
valued_named heap types.Pntr v (inr e) has = refl
valued_named heap types.Void v (inr e) has = absurd (nil_given v has e)
valued_named heap (types.Vector element) v (inr e) has = refl
valued_named heap (types.Proc parameters gives) v (inr e) has = refl

pub kept_put : (told : Told) (heap : Heap) (scope : Option ℕ) (up position : ℕ) (ty : TyView) (v : Value) → IsTypedHeap fitting heap → IsKept heap scope up position ty →
    IsOf fitting heap ty v →
    Grows heap (with_kept_name heap scope up position v) × IsTypedHeap fitting (with_kept_name heap scope up position v)
kept_put told heap scope up position ty v typed n is =
    let f = n.out.found in
    let whole = n.level.names in
    let names = n.out.names in
    let holds = name_holds fits heap whole names position ty (names_are fits told heap scope up whole names typed f) n.at.0 in
    let held = given_then fits heap heap ty (value_at names position) v holds is in
    let grows = set_grows heap scope up position whole names v f held in
    let new = after_set heap scope up whole names f position v in
    subst (λ (h : Heap). Grows heap h × IsTypedHeap fitting h) (sym (set_is heap scope up position whole names ty v f n.at.0 (kept_by_type fits heap ty v is))) (
      grows,
      set_typed fits told heap scope up position whole names ty v f held typed n.at.0
          (valued_named heap ty (value_at names position) (name_is fits heap whole names position ty (names_are fits told heap scope up whole names typed f) n.at.0) (n.out.have position ty n.at))
          (of_kept fits heap new grows ty v is),
    )

-- A name that is declared.

pub one_type : (fields : List Field) (position : ℕ) (a b : TyView) → At (IsOfType a) fields position → At (IsOfType b) fields position → a ≡ b
one_type [] position a b h k = absurd h
one_type (field ∷ fields) position a b (inl h) (inl k) = sym h.1 ∙ k.1
one_type (field ∷ fields) position a b (inl h) (inr (before, e, k)) = absurd (omega (arith, h.0, e))
one_type (field ∷ fields) position a b (inr (before, e, h)) (inl k) = absurd (omega (arith, k.0, e))
one_type (field ∷ fields) position a b (inr (before, e, h)) (inr (other, f, k)) =
    one_type fields before a b h (subst (At (IsOfType b) fields) (let same : other ≡ before = omega (arith, e, f) in same) k)

set_same : (heap : Heap) (fields : List Field) (names : List Value) (position : ℕ) (ty : TyView) (v : Value) → AreNames fitting heap fields names →
    At (IsOfType ty) fields position → value_at (set names position v) position ≡ v
set_same heap [] names position ty v are at = absurd at
set_same heap (field ∷ fields) [] position ty v are at = absurd are
set_same heap (field ∷ fields) (old ∷ vs) zero ty v are at = refl
set_same heap (field ∷ fields) (old ∷ vs) (suc position) ty v are (inl h) = absurd (let e = h.0 in omega arith)
set_same heap (field ∷ fields) (old ∷ vs) (suc position) ty v are (inr (before, e, h)) =
    set_same heap fields vs position ty v are.1 (subst (At (IsOfType ty) fields) (let same : before ≡ position = omega arith in same) h)

abbrev pub with_declared : ℕ → Level → Level
with_declared position level = record level { declared = position ∷ level.declared }

-- where the name has its value it is declared
declared_more : (names : List Value) (position : ℕ) (ty : TyView) (level : Level) → At (IsOfType ty) level.names position → HasValue ty (value_at names position) →
    ((p : ℕ) (t : TyView) → HasDeclared p t level → HasValue t (value_at names p)) →
    (p : ℕ) (t : TyView) → HasDeclared p t (with_declared position level) → HasValue t (value_at names p)
declared_more names position ty level at has have p t (is, inl e) =
    subst (λ (n : ℕ). HasValue t (value_at names n)) (sym e)
    (subst (λ (u : TyView). HasValue u (value_at names position))
    (one_type level.names position ty t at (subst (At (IsOfType t) level.names) e is)) has)
declared_more names position ty level at has have p t (is, inr old) = have p t (is, old)

pub levels_more : (heap : Heap) (scope : Option ℕ) (before : List Level) (level : Level) (after : List Level) (position : ℕ) (ty : TyView) (names : List Value)
    (f : IsFound heap scope (length before) level.names names) → At (IsOfType ty) level.names position → HasValue ty (value_at names position) →
    AreLevelsAt heap scope (before ++ level ∷ after) → AreLevelsAt heap scope (before ++ with_declared position level ∷ after)
unfolding scope_out
levels_more heap scope [] level after position ty names f at has (s, rest) =
    let same : s.id ≡ f.id = some_same (sym s.scope_is ∙ f.out) in
    let names_same : s.names ≡ names = names_of (sym s.is ∙ (ap (object_at heap) same ∙ f.is)) in (
      record {
        id = s.id;
        scope_is = s.scope_is;
        parent = s.parent;
        names = s.names;
        is = s.is;
        named = s.named;
        have = declared_more s.names position ty level at (subst (λ (vs : List Value). HasValue ty (value_at vs position)) (sym names_same) has) s.have;
      },
      rest,
    )
  where
    some_same : {a b : ℕ} → Some a ≡ Some b → a ≡ b
    some_same e = cc

    names_of : {text other : List ℕ} {parent round : Option ℕ} {vs ws : List Value} → Some (Scope text parent vs) ≡ Some (Scope other round ws) → vs ≡ ws
    names_of e = cc
levels_more heap scope (first ∷ before) level after position ty names f at has (s, rest) = (
  s,
  levels_more heap s.parent before level after position ty names
      (record {
        id = f.id;
        out = sym (ap (λ (p : Option ℕ). scope_out heap p (length before)) (next_out heap scope first s)) ∙ f.out;
        parent = f.parent;
        is = f.is;
        named = f.named;
      }) at has rest,
)

pub fewer_declared : (heap : Heap) (scope : Option ℕ) (before : List Level) (level : Level) (after : List Level) (position : ℕ) →
    AreLevelsAt heap scope (before ++ with_declared position level ∷ after) → AreLevelsAt heap scope (before ++ level ∷ after)
fewer_declared heap scope [] level after position (s, rest) = (
  record {
    id = s.id;
    scope_is = s.scope_is;
    parent = s.parent;
    names = s.names;
    is = s.is;
    named = s.named;
    have = λ p t at. s.have p t (at.0, inr at.1);
  },
  rest,
)
fewer_declared heap scope (first ∷ before) level after position (s, rest) = (s, fewer_declared heap s.parent before level after position rest)

-- the name gets its value, which may be a procedure that names it
pub kept_declared : (told : Told) (heap : Heap) (scope : Option ℕ) (before : List Level) (level : Level) (after : List Level) (position : ℕ) (ty : TyView) (v : Value) →
    IsTypedHeap fitting heap → AreLevelsAt heap scope (before ++ level ∷ after) → At (IsOfType ty) level.names position → isnt_void ty ≡ true → HasValue ty v →
    kept_as (Some (form_of_type ty)) v ≡ v →
    ((new : Heap) → Grows heap new → AreLevelsAt new scope (before ++ with_declared position level ∷ after) → IsOf fitting new ty v) →
    Grows heap (with_kept_name heap scope (length before) position v) × IsTypedHeap fitting (with_kept_name heap scope (length before) position v)
    × AreLevelsAt (with_kept_name heap scope (length before) position v) scope (before ++ with_declared position level ∷ after)
kept_declared told heap scope before level after position ty v typed stand at isnt has kept is =
    let o = level_out heap scope before level after stand in
    let f = o.found in
    let whole = level.names in
    let names = o.names in
    let up = length before in
    let text = class_text (codes "scope") whole in
    let are = names_are fits told heap scope up whole names typed f in
    let holds = name_holds fits heap whole names position ty are at in
    let held = λ (given : _). given_as fits heap ty (value_at names position) v holds has given in
    let grows = set_grows heap scope up position whole names v f held in
    let new = after_set heap scope up whole names f position v in
    let put = set names position v in
    let kept_levels = levels_kept heap new grows (before ++ level ∷ after) scope stand in
    let there = at_set heap f.id (Scope text f.parent names) (Scope text f.parent put) f.is in
    let around = levels_more new scope before level after position ty put
    (record { id = f.id; out = out_stays heap new grows scope before level after stand ∙ f.out; parent = f.parent; is = there; named = f.named }) at
    (subst (HasValue ty) (sym (set_same heap whole names position ty v are at)) has) kept_levels in
    subst (λ (h : Heap). Grows heap h × IsTypedHeap fitting h × AreLevelsAt h scope (before ++ with_declared position level ∷ after))
    (sym (set_is heap scope up position whole names ty v f at kept))
    (grows, set_typed fits told heap scope up position whole names ty v f held typed at isnt (is new grows around), around)

-- A new scope, in which nothing is declared yet.
pub level_made : (heap : Heap) (scope : Option ℕ) (names : List Field) (levels : List Level) → IsNamed (codes "scope") names → IsTypedHeap fitting heap →
    AreLevelsAt heap scope levels →
    IsTypedHeap fitting (with_new heap (new_scope (class_text (codes "scope") names) scope))
    × AreLevelsAt (with_new heap (new_scope (class_text (codes "scope") names) scope)) (Some (new_number heap)) (record { names = names; declared = [] } ∷ levels)
unfolding new_scope
level_made heap scope names levels named typed stand =
    let text = class_text (codes "scope") names in
    let object = new_scope text scope in
    let new = with_new heap object in
    let are = subst (λ (forms : List Form). AreNames fitting heap names (map first_value forms)) (sym (class-told (codes "scope") names named))
    (first_names fits heap names) in (
      typed_new fits heap object typed (record { fields = names; named = named; text_is = refl; round = (names_of levels, levels_round heap scope levels stand); are = are }),
      (
        record {
          id = new_number heap;
          scope_is = refl;
          parent = scope;
          names = map first_value (forms_of text);
          is = at_new heap object;
          named = named;
          have = λ position ty at. absurd at.1;
        },
        levels_kept heap new (grows_new heap object) levels scope stand,
      ),
    )
