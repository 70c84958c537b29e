-- What is kept under the names of scopes, wherever those lie: read, and written.
use Rattle.std.proofs.Common.{ℤ, inl, inr, ◌⊎◌, ◌≡◌, ℕ, ◌+◌, ◌≤◌, arith, List, [], ◌∷◌, length, get_or, set, refl, sym, ap, ◌∙◌, subst, Bool, true, false, Option, Some, None, nat_eq, if◌then◌else◌}
use Rattle.std.specs.Prelude.{Result, Ok, Err, IfOk, OnOk}
use Rattle.joint_ops.specs.ps_outside.Outside.{Outside}
use Rattle.joint_ops.specs.obj_layout.Kind.{kind_number}
use Rattle.joint_ops.specs.obj_layout.Stored.{Space, damage}
use Rattle.joint_ops.specs.obj_layout.declared.kind.Kind.{Kind}
use Rattle.joint_ops.specs.obj_layout.declared.kind.Kind.TheVariants as kind
use Rattle.joint_ops.specs.obj_layout.declared.reference.Reference as reference
use Rattle.joint_ops.specs.obj_layout.declared.reference.Reference.TheVariants as name
use Rattle.joint_ops.specs.swizzle.declared.fault.SwizzleFault.{SwizzleFault}
use Rattle.joint_ops.specs.swizzle.Heap as area
use Rattle.joint_ops.specs.swizzle.Heap.{IsHeap, IsHeld, header_at, reference_to, Stands as AllStand}
use Rattle.joint_ops.specs.swizzle.Joint.{Shown, shown_at, name_at}
use Rattle.joint_ops.specs.swizzle.Changes.{Within}
use Rattle.joint_ops.specs.swizzle.Touch.{Keeps}
use Rattle.joint_ops.specs.swizzle.Reading.{joint, LeavesOutside, FailsReading}
use Rattle.joint_ops.specs.text_forms.declared.forms.Form.{Form}
use Rattle.joint_ops.specs.text_forms.declared.forms.Form.TheVariants as form
use Rattle.joint_ops.specs.text_forms.declared.forms.Place.{Place}
use Rattle.joint_ops.specs.text_forms.declared.forms.Located.{Located}
use Rattle.joint_ops.specs.text_forms.Forms.{forms_of, form_in, before_in, rows_of, located_in, located_as}
use Rattle.scopes.specs.heap_places.Shapes.{IsText, slot_of, word_in}
use Rattle.scopes.specs.heap_places.Words.{flag_in, flag_word, word_damage}
use Rattle.scopes.proofs.of_heap_places.PlaceLaws.{stands_then}
use Rattle.scopes.specs.heap_places.Places.{Holds, NamesDamage, touched_by, fit_damage, IsNear}
use Rattle.scopes.specs.heap_places.declared.value.Value as code
use Rattle.scopes.specs.heap_places.declared.value.Value.TheVariants as held
use Rattle.scopes.specs.heap_ops.Vectors.{fitted}
use Rattle.scopes.specs.Names as names_of
use Rattle.scopes.specs.Names.{kind_damage, damage_by, scope_damage, name_damage, index_of, FailsName, FailsKept, GetsKept, SetsKept}
use Rattle.joint_ops.specs.ps_heap.Operators.{is_int}
use Rattle.joint_ops.specs.ps_heap.Values.{Value, Num, Flag, Text, Nil, Pointer, Vector, Procedure, Nothing, number_of, is_one}
use Rattle.joint_ops.specs.ps_heap.Objects.{Heap, Object, Scope, object_at, with_object, value_at, kept_as}
use Rattle.joint_ops.specs.ps_heap.Scopes.{scope_at, scope_out, names_in, name_in, with_name, with_name_in}
use Rattle.joint_ops.specs.heap_meaning.Standing.{StandsFor, IsScope}
use Rattle.joint_ops.specs.heap_meaning.Paired.{paired}
use Rattle.joint_ops.proofs.of_heap_meaning.StandingLaws.{like-more}
use Rattle.joint_ops.proofs.of_heap_meaning.GivenLaws.{IsAt, located-at, shown_with, IsStored}
use Rattle.joint_ops.proofs.of_heap_meaning.ScopeLaws.{index_behind, scope-shape, scope-name, scope-read, scope-fits, scope-written}
use Rattle.joint_ops.specs.World.{IsWorld, seen, IsForIn, IsOfForm, Stands, Rewritten, BreaksOff, FailsAsReading}
use Rattle.joint_ops.proofs.SeenLaws.{Known, known-text, known-value, keeps-passes, reads-within, IsCaused, caused-touch, caused-fetch, breaks, breaks-earlier, text-is, no-text, no-damage, joint-one}
use Rattle.joint_ops.proofs.FormLaws.{int-back, holds-form, holds-near, denoted-name}
use Rattle.joint_ops.proofs.GainLaws.{reads-stands}
use Rattle.joint_ops.proofs.FieldLaws.{known-touched}
use Rattle.joint_ops.proofs.RewriteLaws.{rewritten, write-stands, stands-then, rewritten-then, for-carried}
use Rattle.joint_ops.proofs.PutLaws.{kind-with, no-bytes, was-written}
use Rattle.joint_ops.proofs.of_swizzle.ReadingLaws.{leaves-then}
use Rattle.joint_ops.proofs.of_swizzle.TouchLaws.{keeps-trans, rose_more}
use Rattle.joint_procedures.specs.Scopes.{IsDamage, HasName, IsOfRow, IsInt, IsOut, ReadsKept, WritesKept, PutsKept}
use Rattle.joint_procedures.proofs.ScopeLaws.{ScopeSeen, ScopeAt, scope-denoted, is-damage}

-- A value as a place of a form keeps it.

num-for : (here : area.Heap) (outside : Outside Space) (names : List reference.Reference) (z : ℤ) (v : Value) → IsForIn here outside names (held.Num z) v → v ≡ Num z
num-for here outside names z (Num w) i = ap Num (sym i)
num-for here outside names z (Flag b) i = absurd i
num-for here outside names z (Text b) i = absurd i
num-for here outside names z Nil i = absurd i
num-for here outside names z (Pointer b) i = absurd i
num-for here outside names z (Vector b) i = absurd i
num-for here outside names z (Procedure b s) i = absurd i
num-for here outside names z Nothing i = absurd i

flag-for : (here : area.Heap) (outside : Outside Space) (names : List reference.Reference) (b : Bool) (v : Value) → IsForIn here outside names (held.Flag b) v → v ≡ Flag b
flag-for here outside names b (Flag c) i = ap Flag (sym i)
flag-for here outside names b (Num z) i = absurd i
flag-for here outside names b (Text c) i = absurd i
flag-for here outside names b Nil i = absurd i
flag-for here outside names b (Pointer c) i = absurd i
flag-for here outside names b (Vector c) i = absurd i
flag-for here outside names b (Procedure c s) i = absurd i
flag-for here outside names b Nothing i = absurd i

flag-int : (b : Bool) → is_int (number_of b) ≡ true
flag-int true = refl
flag-int false = refl

flag-back : (b : Bool) → flag_in (flag_word b) ≡ Some b
unfolding flag_in
flag-back true = refl
flag-back false = refl

one-number : (b : Bool) → b ≡ is_one (number_of b)
one-number true = refl
one-number false = refl

kept-stored : (here : area.Heap) (outside : Outside Space) (names : List reference.Reference) (f : Form) (c stored : code.Value) (v : Value) → IsInt c → fitted f c ≡ Some stored
    → IsForIn here outside names c v → IsStored here (seen here outside) (paired names) f stored (kept_as (Some f) v)
unfolding fitted
kept-stored here outside names form.Number (held.Num z) stored v int fits i =
    let same : held.Num z ≡ stored = let both : Some (held.Num z) ≡ Some stored = fits in cc in
    subst (λ (s : code.Value). IsStored here (seen here outside) (paired names) form.Number s (kept_as (Some form.Number) v)) same
    (subst (λ (x : Value). IsStored here (seen here outside) (paired names) form.Number (held.Num z) (kept_as (Some form.Number) x)) (sym (num-for here outside names z v i))
    (int-back z int))
kept-stored here outside names form.Number (held.Flag b) stored v int fits i =
    let same : held.Num (number_of b) ≡ stored = let both : Some (held.Num (number_of b)) ≡ Some stored = fits in cc in
    subst (λ (s : code.Value). IsStored here (seen here outside) (paired names) form.Number s (kept_as (Some form.Number) v)) same
    (subst (λ (x : Value). IsStored here (seen here outside) (paired names) form.Number (held.Num (number_of b)) (kept_as (Some form.Number) x)) (sym (flag-for here outside names b v i))
    (int-back (number_of b) (flag-int b)))
kept-stored here outside names form.Flag (held.Num z) stored v int fits i =
    let same : held.Flag (is_one z) ≡ stored = let both : Some (held.Flag (is_one z)) ≡ Some stored = fits in cc in
    subst (λ (s : code.Value). IsStored here (seen here outside) (paired names) form.Flag s (kept_as (Some form.Flag) v)) same
    (subst (λ (x : Value). IsStored here (seen here outside) (paired names) form.Flag (held.Flag (is_one z)) (kept_as (Some form.Flag) x)) (sym (num-for here outside names z v i))
    (flag-back (is_one z)))
kept-stored here outside names form.Flag (held.Flag b) stored v int fits i =
    let same : held.Flag b ≡ stored = let both : Some (held.Flag b) ≡ Some stored = fits in cc in
    subst (λ (s : code.Value). IsStored here (seen here outside) (paired names) form.Flag s (kept_as (Some form.Flag) v)) same
    (subst (λ (x : Value). IsStored here (seen here outside) (paired names) form.Flag (held.Flag b) (kept_as (Some form.Flag) x)) (sym (flag-for here outside names b v i))
    (flag-back b ∙ ap Some (one-number b)))
kept-stored here outside names form.Reference (held.Ref to) stored v int fits i =
    let same : held.Ref to ≡ stored = let both : Some (held.Ref to) ≡ Some stored = fits in cc in
    subst (λ (s : code.Value). IsStored here (seen here outside) (paired names) form.Reference s v) same
    (subst (λ (n : reference.Reference). StandsFor (seen here outside) (paired names) n v) (sym (denoted-name here to i.name i.denotes)) i.stands)
kept-stored here outside names form.Number (held.Ref to) stored v int fits i = let bad : None ≡ Some stored = fits in absurd (cc)
kept-stored here outside names form.Flag (held.Ref to) stored v int fits i = let bad : None ≡ Some stored = fits in absurd (cc)
kept-stored here outside names form.Reference (held.Num z) stored v int fits i = let bad : None ≡ Some stored = fits in absurd (cc)
kept-stored here outside names form.Reference (held.Flag b) stored v int fits i = let bad : None ≡ Some stored = fits in absurd (cc)

fitted-row : (f : Form) (c stored : code.Value) → fitted f c ≡ Some stored → IsOfRow f c
unfolding fitted
fitted-row form.Number (held.Num z) stored e = tt
fitted-row form.Number (held.Flag b) stored e = tt
fitted-row form.Flag (held.Num z) stored e = tt
fitted-row form.Flag (held.Flag b) stored e = tt
fitted-row form.Reference (held.Ref to) stored e = tt
fitted-row form.Number (held.Ref to) stored e = let bad : None ≡ Some stored = e in absurd (cc)
fitted-row form.Flag (held.Ref to) stored e = let bad : None ≡ Some stored = e in absurd (cc)
fitted-row form.Reference (held.Num z) stored e = let bad : None ≡ Some stored = e in absurd (cc)
fitted-row form.Reference (held.Flag b) stored e = let bad : None ≡ Some stored = e in absurd (cc)

row-fitted : (f : Form) (c : code.Value) → IsOfRow f c → fitted f c ≡ None → ⊥
unfolding fitted
row-fitted form.Number (held.Num z) r e = let bad : Some (held.Num z) ≡ None = e in cc
row-fitted form.Number (held.Flag b) r e = let bad : Some (held.Num (number_of b)) ≡ None = e in cc
row-fitted form.Flag (held.Num z) r e = let bad : Some (held.Flag (is_one z)) ≡ None = e in cc
row-fitted form.Flag (held.Flag b) r e = let bad : Some (held.Flag b) ≡ None = e in cc
row-fitted form.Reference (held.Ref to) r e = let bad : Some (held.Ref to) ≡ None = e in cc
row-fitted form.Number (held.Ref to) r e = absurd r
row-fitted form.Flag (held.Ref to) r e = absurd r
row-fitted form.Reference (held.Num z) r e = absurd r
row-fitted form.Reference (held.Flag b) r e = absurd r

-- the place of a name lies behind the home
index-behind : (place : Place) → 1 ≤ index_of place
index-behind place = of place.form
  where
    of : (f : Form) → 1 ≤ index_behind f place.index
    of form.Number = omega arith
    of form.Flag = omega arith
    of form.Reference = omega arith

-- A scope of the area whose name is read or written.
module _ (mid : area.Heap) (before : Outside Space) (of : Heap) (names : List reference.Reference) (at which id : ℕ) (h : IsHeap mid)
    (w : IsWorld mid before of names) (was_one : (a b : Space) → before.contents a → before.contents b → a ≡ b) (lies : IsHeld mid at)
    (s : ScopeSeen mid before of names id (shown_at mid at)) where
  first-text : IsText (seen mid before) (slot_of (shown_at mid at) 0) s.text
  first-text = subst (λ (ns : List reference.Reference). IsText (seen mid before) (get_or ns 0 name.Nil) s.text) (sym s.is.refs) s.is.is_text

  text-same : (end : area.Heap) (out : Outside Space) (t : List ℕ) → IsHeap end → ((a b : Space) → out.contents a → out.contents b → a ≡ b)
      → Within (joint mid before) (joint end out) → IsText (joint end out) (slot_of (shown_at mid at) 0) t → s.text ≡ t
  text-same end out t now one grows is =
      text-is mid end before out (slot_of (shown_at mid at) 0) s.text t grows (joint-one end out now one) first-text is

  place-at : (l : Located) (t : List ℕ) → s.text ≡ t → located_in (forms_of t) which ≡ Some l → IsAt (forms_of s.text) which l
  place-at l t e p = located-at (forms_of s.text) which l (subst (λ (x : List ℕ). located_in (forms_of x) which ≡ Some l) (sym e) p)

  text-known : Known mid before (slot_of (shown_at mid at) 0)
  text-known = known-text mid before (slot_of (shown_at mid at) 0) s.text first-text

  name-known : (l : Located) → IsAt (forms_of s.text) which l → l.place.form ≡ form.Reference
      → Known mid before (slot_of (shown_at mid at) (index_of l.place))
  name-known l a e =
      let place : index_of l.place ≡ 2 + before_in form.Reference (forms_of s.text) which =
      ap (index_behind l.place.form) a.index_is ∙ ap (λ (f : Form). index_behind f (before_in f (forms_of s.text) which)) e in
      known-value mid before names (slot_of (shown_at mid at) (index_of l.place)) (get_or s.values which Nothing)
      (subst (λ (k : ℕ). StandsFor (seen mid before) (paired names) (slot_of (shown_at mid at) k) (get_or s.values which Nothing)) (sym place)
      (scope-name (seen mid before) (paired names) (shown_at mid at) s.text s.parent s.values which s.is (a.form_is ∙ ap Some e)))

  -- the scope, as it is seen after a reading
  scope-grown : (new : area.Heap) (after : Outside Space) → Keeps mid new → Within (seen mid before) (seen new after)
      → IsScope (seen new after) (paired names) (shown_at mid at) s.text s.parent s.values
  scope-grown new after keeps grows =
      let passes = keeps-passes mid new (seen mid before) (seen new after) keeps grows in
      like-more (seen mid before) (seen new after) (paired names) (paired names) (shown_at mid at) (Scope s.text s.parent s.values) passes.fixed
      passes.kinds (λ n i q. q) s.is

  -- What was read.
  pub record Read (new : area.Heap) (after : Outside Space) (c : code.Value) : Type 0 where
    pub f : Form
    pub place : form_in (forms_of s.text) which ≡ Some f
    pub of_form : IsOfForm f c
    pub value : IsForIn new after names c (get_or s.values which Nothing)
    pub stands : Stands mid new before after of names

  pub was-read : (new : area.Heap) (after : Outside Space) (c : code.Value) → IsHeap new
      → ((a b : Space) → after.contents a → after.contents b → a ≡ b) → names_of.ReadsKept mid new before after at which c → Read new after c
  was-read new after c now one t =
      let f = t.located.place.form in
      let index = index_of t.located.place in
      let touched = slot_of (shown_at mid at) 0 ∷ touched_by (shown_at mid at) f index in
      let a = place-at t.located t.text (text-same new after t.text now one t.reads.grows t.is.names) t.is.place in
      let grown = scope-grown new after t.reads.keeps (reads-within mid new before after touched t.reads) in
      record {
        f = f;
        place = a.form_is;
        of_form = holds-form new (shown_at mid at) f index c t.value;
        value = scope-read new (seen new after) (paired names) (shown_at mid at) s.text s.parent s.values which f c grown a.form_is
            (subst (λ (k : ℕ). Holds new (shown_at mid at) f k c) (ap (index_behind f) a.index_is) t.value);
        stands = reads-stands mid new before after touched of names h now
            (text-known, known-touched (seen mid before) (shown_at mid at) f index (name-known t.located a)) t.reads w;
      }

  -- The name isn't found only where the text has none of its number, or the text couldn't be fetched.
  pub not-found : (new : area.Heap) (after : Outside Space) (fault : SwizzleFault) → IsHeap new
      → ((a b : Space) → after.contents a → after.contents b → a ≡ b) → FailsName mid new before after at which fault
      → ((form_in (forms_of s.text) which ≡ None) × IsDamage fault) ⊎ IsCaused mid new before after fault
  unfolding name_damage located_in
  not-found new after fault now one (inl d) =
      absurd (no-damage mid at (kind_damage (shown_at mid at)) fault
      (ap (λ (k : Kind). if nat_eq (kind_number k) 4 then None else damage (kind_number k) 4) s.is.kind_is) d)
  not-found new after fault now one (inr (inl t)) = elim t.1 [
    | inl none ↦ absurd (no-text mid new before after at s.text fault now first-text none)
    | inr touch ↦ inr (caused-touch mid new before after at 0 fault h text-known touch)
  ]
  not-found new after fault now one (inr (inr y)) =
      let same = text-same new after y.3.0 now one y.2 y.3.1 in
      inl (cases (form_in (forms_of s.text) which) refl
      (subst (λ (t : List ℕ). NamesDamage mid at (damage_by (shown_at mid at) which (length (forms_of t)) (located_as (forms_of t) which (form_in (forms_of t) which))) fault)
      (sym same) y.3.2))
    where
      cases : (f : Option Form) → form_in (forms_of s.text) which ≡ f
          → NamesDamage mid at (damage_by (shown_at mid at) which (length (forms_of s.text)) (located_as (forms_of s.text) which f)) fault
          → (form_in (forms_of s.text) which ≡ None) × IsDamage fault
      cases None e d = (e, is-damage mid at (damage which (length (forms_of s.text))) fault d)
      cases (Some f) e d =
          absurd (no-damage mid at (scope_damage (shown_at mid at) (rows_of (forms_of s.text))) fault
          (scope-shape (seen mid before) (paired names) (shown_at mid at) s.text s.parent s.values s.is) d)

  pub caused-kept : (new : area.Heap) (after : Outside Space) (fault : SwizzleFault) → FailsKept mid before at which fault
      → IsCaused mid new before after fault
  caused-kept new after fault v =
      let f = v.located.place.form in
      let index = index_of v.located.place in
      let a = place-at v.located v.text (text-same v.mid before v.text v.heap was_one v.grows v.is.names) v.is.place in
      elim v.why [
        | inl d ↦ absurd (no-damage mid at (word_damage f (word_in (shown_at mid at) index)) fault
            (subst (λ (k : ℕ). word_damage f (word_in (shown_at mid at) k) ≡ None) (sym (ap (index_behind f) a.index_is))
            (scope-fits (seen mid before) (paired names) (shown_at mid at) s.text s.parent s.values which f s.is a.form_is)) d)
        | inr t ↦ caused-fetch mid new before after (slot_of (shown_at mid at) index) fault h (name-known v.located a t.0) t.1
      ]

  -- What was written.
  pub record Written (new : area.Heap) (after : Outside Space) (c : code.Value) (v : Value) : Type 0 where
    pub f : Form
    pub place : form_in (forms_of s.text) which ≡ Some f
    pub of_row : IsOfRow f c
    pub rewritten : Rewritten mid new before after id of (with_object of id (Scope s.text s.parent (set s.values which (kept_as (Some f) v)))) names

  pub was-kept : (new : area.Heap) (after : Outside Space) (c : code.Value) (v : Value) → IsHeap new
      → ((a b : Space) → after.contents a → after.contents b → a ≡ b) → paired names (name_at mid at) id → IsInt c → IsForIn mid before names c v
      → names_of.WritesKept mid new before after at which c → Written new after c v
  was-kept new after c v now one pair int for t =
      let f = t.located.place.form in
      let index = index_of t.located.place in
      let touched = slot_of (shown_at mid at) 0 ∷ [] in
      let b = seen t.mid after in
      let a = place-at t.located t.text (text-same t.mid after t.text t.heap one t.reads.grows t.is.names) t.is.place in
      let read = reads-stands mid t.mid before after touched of names h t.heap (text-known, tt) t.reads w in
      let stays = t.reads.keeps.objects at lies in
      let grown = scope-grown t.mid after t.reads.keeps (reads-within mid t.mid before after touched t.reads) in
      let there : IsScope b (paired names) (shown_at t.mid at) s.text s.parent s.values =
      subst (λ (it : Shown). IsScope b (paired names) it s.text s.parent s.values) (sym stays.shown_as) grown in
      let stored = kept-stored t.mid after names f c t.stored v int t.fits (for-carried mid t.mid before after names names c v read.carries for) in
      let object = Scope s.text s.parent (set s.values which (kept_as (Some f) v)) in
      let place = ap (index_behind f) a.index_is in
      record {
        f = f;
        place = a.form_is;
        of_row = fitted-row f c t.stored t.fits;
        rewritten = write-stands mid t.mid new before after of names at id (shown_with t.mid (shown_at t.mid at) index t.stored) object t.heap now one read
            stays.held
            (subst (λ (m : reference.Reference). paired names m id) (sym stays.name) pair)
            (no-bytes (header_at t.mid at).kind kind.Scope there.kind_is (λ e. cc) (λ e. cc))
            (kind-with t.mid (shown_at t.mid at) index t.stored)
            (subst (λ (k : ℕ). IsScope b (paired names) (shown_with t.mid (shown_at t.mid at) k t.stored) s.text s.parent (set s.values which (kept_as (Some f) v))) (sym place)
            (scope-written t.mid b (paired names) (shown_at t.mid at) s.text s.parent s.values which f t.stored (kept_as (Some f) v) there a.form_is stored))
            tt
            (was-written t.mid new at index t.stored kind.Scope t.heap stays.held there.kind_is tt (index-behind t.located.place) t.written)
            (rewritten t.mid new at index t.stored t.heap stays.held t.written);
      }

-- The same from the scope where the way begins.

no-level : (of : Heap) (within : Option ℕ) (up which : ℕ) → scope_out of within up ≡ None → (f : Form) → HasName of within up which f → ⊥
no-level of within up which none f n =
    let bad : None ≡ Some (Scope n.text n.parent n.level.values) = sym (ap (scope_at of) none) ∙ n.level.is in cc

pub no-scope : (old new : area.Heap) (before after : Outside Space) (of : Heap) (within : Option ℕ) (up which : ℕ) (fault : SwizzleFault)
    → ((scope_out of within up ≡ None) × IsDamage fault) ⊎ BreaksOff old new before after fault
    → (((f : Form) → HasName of within up which f → ⊥) × IsDamage fault) ⊎ BreaksOff old new before after fault
no-scope old new before after of within up which fault (inl a) = inl (no-level of within up which a.0, a.1)
no-scope old new before after of within up which fault (inr b) = inr b

pub no-row : (old new : area.Heap) (before after : Outside Space) (of : Heap) (within : Option ℕ) (up which : ℕ) (c : code.Value) (fault : SwizzleFault)
    → ((scope_out of within up ≡ None) × IsDamage fault) ⊎ BreaksOff old new before after fault
    → (((f : Form) → HasName of within up which f → IsOfRow f c → ⊥) × IsDamage fault) ⊎ BreaksOff old new before after fault
no-row old new before after of within up which c fault (inl a) = inl (λ f n row. no-level of within up which a.0 f n, a.1)
no-row old new before after of within up which c fault (inr b) = inr b

-- the form of a name is the one that the scope's text tells
form-of : (of : Heap) (within : Option ℕ) (up which : ℕ) (text : List ℕ) (parent : Option ℕ) (values : List Value) (f : Form)
    → scope_at of (scope_out of within up) ≡ Some (Scope text parent values) → HasName of within up which f → form_in (forms_of text) which ≡ Some f
form-of of within up which text parent values f is n =
    let both : Some (Scope text parent values) ≡ Some (Scope n.text n.parent n.level.values) = sym is ∙ n.level.is in
    let same : text ≡ n.text = cc in
    ap (λ (t : List ℕ). form_in (forms_of t) which) same ∙ n.place

kept-is : (of : Heap) (scope : Option ℕ) (which : ℕ) (text : List ℕ) (parent : Option ℕ) (values : List Value)
    → scope_at of scope ≡ Some (Scope text parent values) → name_in of scope which ≡ get_or values which Nothing
unfolding name_in
kept-is of scope which text parent values is = ap (λ (o : Option Object). value_at (names_in o) which) is

put-is : (of : Heap) (scope : Option ℕ) (id which : ℕ) (text : List ℕ) (parent : Option ℕ) (values : List Value) (f : Form) (v : Value)
    → scope ≡ Some id → object_at of id ≡ Some (Scope text parent values) → form_in (forms_of text) which ≡ Some f
    → with_name of scope which v ≡ with_object of id (Scope text parent (set values which (kept_as (Some f) v)))
unfolding with_name
put-is of scope id which text parent values f v is means place =
    ap (λ (x : Option ℕ). with_name of x which v) is
    ∙ ap (λ (o : Option Object). with_name_in of id o which v) means
    ∙ ap (λ (g : Option Form). with_object of id (Scope text parent (set values which (kept_as g v)))) place

module _ (old mid new : area.Heap) (start before after : Outside Space) (of : Heap) (names : List reference.Reference) (within : Option ℕ)
    (up at which : ℕ) (h : IsHeap mid) (now : IsHeap new) (was_one : (a b : Space) → before.contents a → before.contents b → a ≡ b)
    (is_one : (a b : Space) → after.contents a → after.contents b → a ≡ b) (keeps : Keeps old mid) (leaves : LeavesOutside start before)
    (out : IsOut old mid start before of names within up at) where
  scope-there : ScopeAt mid before of names at (Some out.id)
  scope-there = scope-denoted mid before of names at (Some out.id) h out.stands.world was_one out.denotes

  level-is : scope_at of (scope_out of within up) ≡ Some (Scope scope-there.there.text scope-there.there.parent scope-there.there.values)
  level-is = ap (scope_at of) (out.is ∙ scope-there.within_is) ∙ scope-there.there.means

  has-name : (f : Form) → form_in (forms_of scope-there.there.text) which ≡ Some f → HasName of within up which f
  has-name f place = record {
    text = scope-there.there.text;
    parent = scope-there.there.parent;
    level = record { values = scope-there.there.values; is = level-is };
    place = place;
  }

  broke : (fault : SwizzleFault) → FailsReading before after fault → IsCaused mid new before after fault → BreaksOff old new start after fault
  broke fault f caused = breaks-earlier old mid new start before after fault h keeps leaves (breaks mid new before after fault f caused)

  pub gets-kept : (result : Result code.Value SwizzleFault) → GetsKept mid new before after at which result
      → ReadsKept old new start after of names within up which result
  gets-kept (Ok c) g =
      let s = scope-there in
      let r = was-read mid before of names at which s.id h out.stands.world was_one s.held s.there new after c now is_one g in (
        r.f,
        has-name r.f r.place,
        r.of_form,
        subst (IsForIn new after names c) (sym (kept-is of (scope_out of within up) which s.there.text s.there.parent s.there.values level-is)) r.value,
        stands-then old mid new start before after of of names out.stands r.stands,
      )
  gets-kept (Err fault) g =
      let s = scope-there in
      elim g.1 [
        | inl n ↦ elim (not-found mid before of names at which s.id h out.stands.world was_one s.held s.there new after fault now is_one n) [
          | inl r ↦ inl (
            λ f n. let bad : None ≡ Some f = sym r.0 ∙ form-of of within up which s.there.text s.there.parent s.there.values f level-is n in cc,
            r.1,
          )
          | inr caused ↦ inr (broke fault g.0 caused)
        ]
        | inr v ↦ inr (broke fault g.0 (caused-kept mid before of names at which s.id h out.stands.world was_one s.held s.there new after fault v))
      ]

  pub sets-kept : (c : code.Value) (v : Value) (result : Result (Unit {0}) SwizzleFault) → IsInt c → IsForIn mid before names c v
      → SetsKept mid new before after at which c result → WritesKept old new start after of names within up which c v result
  sets-kept c v (Ok done) int for g =
      let s = scope-there in
      let r = was-kept mid before of names at which s.id h out.stands.world was_one s.held s.there new after c v now is_one s.pair int for g in (
        r.f,
        has-name r.f r.place,
        r.of_row,
        (
          s.id,
          out.is ∙ s.within_is,
          subst (λ (x : Heap). Rewritten old new start after s.id of x names)
              (sym (put-is of (scope_out of within up) s.id which s.there.text s.there.parent s.there.values r.f v (out.is ∙ s.within_is) s.there.means r.place))
              (rewritten-then old mid new start before after s.id of
              (with_object of s.id (Scope s.there.text s.there.parent (set s.there.values which (kept_as (Some r.f) v)))) names out.stands r.rewritten),
        ),
      )
  sets-kept c v (Err fault) int for g =
      let s = scope-there in
      elim g.1 [
        | inl n ↦ elim (not-found mid before of names at which s.id h out.stands.world was_one s.held s.there new after fault now is_one n) [
          | inl r ↦ inl (
            λ f n row. let bad : None ≡ Some f = sym r.0 ∙ form-of of within up which s.there.text s.there.parent s.there.values f level-is n in cc,
            r.1,
          )
          | inr caused ↦ inr (broke fault g.0 caused)
        ]
        | inr r ↦
            let same = text-same mid before of names at which s.id h out.stands.world was_one s.held s.there new after r.text now is_one r.grows r.is.names in
            let a = place-at mid before of names at which s.id h out.stands.world was_one s.held s.there r.located r.text same r.is.place in
            inl (
              λ f n row.
                  let both : Some r.located.place.form ≡ Some f = sym a.form_is ∙ form-of of within up which s.there.text s.there.parent s.there.values f level-is n in
                  let form_is : r.located.place.form ≡ f = cc in
                  row-fitted f c row (subst (λ (g : Form). fitted g c ≡ None) form_is r.misfit),
              is-damage mid at (fit_damage r.located.place.form c) fault r.names,
            )
      ]

-- What is said whatever the vault.

pub get-leaves : (mid new : area.Heap) (before after : Outside Space) (at which : ℕ) (result : Result code.Value SwizzleFault)
    → GetsKept mid new before after at which result → LeavesOutside before after
get-leaves mid new before after at which (Ok c) g = g.reads.outside
get-leaves mid new before after at which (Err fault) g = g.0.outside

pub set-leaves : (mid new : area.Heap) (before after : Outside Space) (at which : ℕ) (c : code.Value) (result : Result (Unit {0}) SwizzleFault)
    → SetsKept mid new before after at which c result → LeavesOutside before after
set-leaves mid new before after at which c (Ok done) g = g.reads.outside
set-leaves mid new before after at which c (Err fault) g = g.0.outside

-- a reading that failed after another
failed-then : (start before after : Outside Space) (fault : SwizzleFault) → LeavesOutside start before → FailsReading before after fault
    → FailsReading start after fault
failed-then start before after fault first second = record {
  outside = leaves-then start before after first second.outside;
  cause = λ e. rose_more start.device_faults before.device_faults after.device_faults first.counts (second.cause e);
  other = second.other;
  full = second.full;
  pages = second.pages;
}

pub get-fails : (mid new : area.Heap) (start before after : Outside Space) (at which : ℕ) (result : Result code.Value SwizzleFault)
    → LeavesOutside start before → GetsKept mid new before after at which result → FailsAsReading start after result
get-fails mid new start before after at which (Ok c) first g = tt
get-fails mid new start before after at which (Err fault) first g = failed-then start before after fault first g.0

pub set-fails : (mid new : area.Heap) (start before after : Outside Space) (at which : ℕ) (c : code.Value) (result : Result (Unit {0}) SwizzleFault)
    → LeavesOutside start before → SetsKept mid new before after at which c result → FailsAsReading start after result
set-fails mid new start before after at which c (Ok done) first g = tt
set-fails mid new start before after at which c (Err fault) first g = failed-then start before after fault first g.0

-- What denotes a value after the way out.
pub out-carries : (old mid : area.Heap) (start before : Outside Space) (of : Heap) (names : List reference.Reference) (within : Option ℕ) (up at : ℕ)
    (c : code.Value) (v : Value) → IsOut old mid start before of names within up at → IsForIn old start names c v → IsForIn mid before names c v
out-carries old mid start before of names within up at c v out for = for-carried old mid start before names names c v out.stands.carries for

-- Headers that stay, and stay again.
pub stand-then : (old mid new : area.Heap) → AllStand old mid → (result : Result (Unit {0}) SwizzleFault) → OnOk result (AllStand mid new) → OnOk result (AllStand old new)
stand-then old mid new first (Ok done) second = stands_then old mid new first second
stand-then old mid new first (Err fault) second = tt

pub get-keeps : (old mid new : area.Heap) (before after : Outside Space) (at which : ℕ) (result : Result code.Value SwizzleFault) → Keeps old mid
    → GetsKept mid new before after at which result → OnOk result (Keeps old new)
get-keeps old mid new before after at which (Ok c) first g = keeps-trans old mid new first g.reads.keeps
get-keeps old mid new before after at which (Err fault) first g = tt

-- What was done to the area, where a name was written.
pub puts-kept : (old mid new : area.Heap) (before after : Outside Space) (at which : ℕ) (c : code.Value) (result : Result (Unit {0}) SwizzleFault)
    → IsHeld mid at → Keeps old mid → SetsKept mid new before after at which c result → OnOk result (PutsKept old new which c)
puts-kept old mid new before after at which c (Ok done) there first g =
    let stays = g.reads.keeps.objects at there in
    record {
      mid = g.mid;
      at = at;
      located = g.located;
      stored = g.stored;
      heap = g.heap;
      keeps = keeps-trans old mid g.mid first g.reads.keeps;
      held = stays.held;
      kind = ap (λ (x : Shown). x.kind) stays.shown_as ∙ g.is.kind;
      place = (g.text, g.is.place);
      fits = g.fits;
      written = g.written;
    }
puts-kept old mid new before after at which c (Err fault) there first g = tt

-- What is kept lies in the area, where it is an object.
pub get-near : (mid new : area.Heap) (before after : Outside Space) (at which : ℕ) (result : Result code.Value SwizzleFault)
    → GetsKept mid new before after at which result → IfOk result (IsNear new)
get-near mid new before after at which (Ok c) g = holds-near new (shown_at mid at) g.located.place.form (index_of g.located.place) c g.value
get-near mid new before after at which (Err fault) g = tt
