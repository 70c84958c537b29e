-- What stays of the objects of the area where one was put in another's place, and where a value was written.
use Rattle.std.proofs.Common.{arith, inl, inr, ◌≡◌, ◌≢◌, ℕ, zero, suc, ◌≤◌, List, [], ◌∷◌, get_or, set, slice_set, refl, sym, ap, ◌∙◌, subst, Some}
use Rattle.std.specs.Prelude.{slice_index}
use Rattle.std.proofs.lemmas.Bool.{cases_eq}
use Rattle.joint_ops.specs.obj_layout.declared.kind.Kind.TheVariants as kind
use Rattle.joint_ops.specs.obj_layout.declared.reference.Reference as reference
use Rattle.joint_ops.specs.obj_layout.declared.reference.Reference.TheVariants.{Nil}
use Rattle.joint_ops.specs.swizzle.Objects as area_objects
use Rattle.joint_ops.specs.swizzle.Heap.{Heap, IsHeap, IsHeld, header_at, object_at}
use Rattle.joint_ops.specs.swizzle.Heap.{Stands as AllStand, with_object as with_another}
use Rattle.joint_ops.specs.swizzle.Joint.{Shown, shown_at}
use Rattle.joint_ops.specs.swizzle.Text.{HasBytes}
use Rattle.joint_ops.specs.swizzle.Touch.{Stays}
use Rattle.joint_ops.proofs.of_swizzle.HeapLaws.{held-replaced}
use Rattle.joint_ops.proofs.of_swizzle.KeptLaws.{held_is}
use Rattle.joint_ops.proofs.of_swizzle.StandLaws.{stands-object, stands-listed}
use Rattle.joint_ops.proofs.of_swizzle.JointLaws.{like_long, object-replaced_other, name-replaced, shown-replaced, shown-replaced_other}
use Rattle.joint_ops.specs.text_forms.declared.forms.Form.{Form}
use Rattle.joint_ops.specs.text_forms.declared.forms.Form.TheVariants as form
use Rattle.joint_ops.specs.heap_places.Shapes.{slot_of, word_in}
use Rattle.joint_ops.specs.heap_places.Places.{assigned_value}
use Rattle.joint_ops.specs.heap_places.declared.value.Value as code
use Rattle.joint_ops.specs.heap_places.declared.value.Value.TheVariants as held
use Rattle.joint_ops.specs.heap_ops.Vectors.{index_of, fitted}
use Rattle.joint_ops.proofs.of_heap_meaning.GivenLaws.{shown_with}
use Rattle.objects.specs.Lasting.{Lasts}
use Rattle.joint_ops.specs.World.{IsOfForm}
use Rattle.joint_ops.proofs.RewriteLaws.{Replaced, rewritten}

-- The heap with another list of the assigned.

relisted : Heap → List ℕ → Heap
relisted heap assigned = record heap { assigned = assigned }

as-relisted : (mid new : Heap) (at : ℕ) (it : Shown) → (r : Replaced mid new at it) → new ≡ relisted (with_another mid at r.object) new.assigned
unfolding relisted
as-relisted mid new at it r =
    ap (λ (os : List area_objects.Object). record new { objects = os }) r.objects
    ∙ ap (λ (n : ℕ). record (with_another mid at r.object) { size = n; assigned = new.assigned; reached = new.reached }) r.size
    ∙ ap (λ (xs : List ℕ). record (with_another mid at r.object) { assigned = new.assigned; reached = xs }) r.reached

-- Where one object was put in another's place, the others stay.

stays-relisted : (mid put : Heap) (assigned : List ℕ) (at : ℕ) → Stays mid put at → Stays mid (relisted put assigned) at
unfolding relisted
stays-relisted mid put assigned at s = record {
  held = record { object = s.held.object; is = s.held.is };
  name = s.name;
  shown_as = s.shown_as;
  flags = s.flags;
  refs = s.refs;
  nums = s.nums;
}

stays-other : (mid new : Heap) (at j : ℕ) (it : Shown) → IsHeld mid at → Replaced mid new at it → IsHeld mid j → j ≢ at → Stays mid new j
stays-other mid new at j it there r held ne =
    let put = with_another mid at r.object in
    let long = like_long (object_at mid at) r.object r.like in
    let same = object-replaced_other mid at j r.object there long ne in
    subst (λ (x : Heap). Stays mid x j) (sym (as-relisted mid new at it r))
    (stays-relisted mid put new.assigned j (record {
      held = held-replaced mid at (object_at mid at) r.object j (held_is mid at there) long held;
      name = name-replaced mid at j r.object there r.like;
      shown_as = shown-replaced_other mid at j r.object there r.like ne;
      flags = ap (λ (x : area_objects.Object). x.header.flags) same;
      refs = ap (λ (x : area_objects.Object). x.header.refs) same;
      nums = ap (λ (x : area_objects.Object). x.header.nums) same;
    }))

shown-relisted : (put : Heap) (assigned : List ℕ) (at : ℕ) → shown_at (relisted put assigned) at ≡ shown_at put at
unfolding relisted
shown-relisted put assigned at = refl

-- and it is seen itself
rewritten-shown : (mid new : Heap) (at : ℕ) (it : Shown) → IsHeld mid at → Replaced mid new at it → shown_at new at ≡ it
rewritten-shown mid new at it there r =
    let put = with_another mid at r.object in
    ap (λ (x : Heap). shown_at x at) (as-relisted mid new at it r) ∙ shown-relisted put new.assigned at ∙ shown-replaced mid at r.object there r.like ∙ r.shown_is

rewritten-stands : (mid new : Heap) (at : ℕ) (it : Shown) → IsHeld mid at → Replaced mid new at it → AllStand mid new
unfolding relisted
rewritten-stands mid new at it there r =
    let put = with_another mid at r.object in
    stands-listed mid put new new.assigned (as-relisted mid new at it r) (stands-object mid put at r.object refl there r.like)

-- what two objects that may stand in each other's place have alike, if they are vectors
abbrev IsBoundOf : Shown → Shown → Type 0
IsBoundOf a b = (slot_of a 0 ≡ slot_of b 0) × (word_in a 1 ≡ word_in b 1)

rewritten-lasts : (mid new : Heap) (at : ℕ) (it : Shown) → IsHeld mid at → (HasBytes (header_at mid at).kind → ⊥)
    → ((header_at mid at).kind ≢ kind.Closure) → ((header_at mid at).kind ≡ kind.Vector → IsBoundOf it (shown_at mid at))
    → Replaced mid new at it → Lasts mid new
rewritten-lasts mid new at it there bytes closure bound r = record {
  size = r.size;
  stands = rewritten-stands mid new at it there r;
  code = λ j held has. stays-other mid new at j it there r held (λ (e : j ≡ at). bytes (subst (λ (i : ℕ). HasBytes (header_at mid i).kind) e has));
  closures = λ j held is. stays-other mid new at j it there r held (λ (e : j ≡ at). closure (subst (λ (i : ℕ). (header_at mid i).kind ≡ kind.Closure) e is));
  bounds = λ j held is. elim (cases_eq j at) [
    | inl same ↦
        let seen : shown_at new j ≡ it = ap (shown_at new) same ∙ rewritten-shown mid new at it there r in
        let b = bound (subst (λ (i : ℕ). (header_at mid i).kind ≡ kind.Vector) same is) in
        record {
          type = ap (λ (x : Shown). slot_of x 0) seen ∙ b.0 ∙ ap (λ (i : ℕ). slot_of (shown_at mid i) 0) (sym same);
          bound = ap (λ (x : Shown). word_in x 1) seen ∙ b.1 ∙ ap (λ (i : ℕ). word_in (shown_at mid i) 1) (sym same);
        }
    | inr apart ↦
        let s = stays-other mid new at j it there r held apart in
        record { type = ap (λ (x : Shown). slot_of x 0) s.shown_as; bound = ap (λ (x : Shown). word_in x 1) s.shown_as }
  ];
}

-- An index behind what a vector has before its elements.
abbrev pub IsBehind : ℕ → code.Value → Type 0
IsBehind index (held.Num z) = 2 ≤ index
IsBehind index (held.Flag b) = 2 ≤ index
IsBehind index (held.Ref to) = 1 ≤ index

words-head : (ws : List ℕ) (index w : ℕ) → 2 ≤ index → slice_index (slice_set ws index w) 1 ≡ slice_index ws 1
words-head ws zero w le = absurd (omega (arith, le))
words-head ws (suc zero) w le = absurd (omega (arith, le))
words-head [] (suc (suc n)) w le = refl
words-head (a ∷ []) (suc (suc n)) w le = refl
words-head (a ∷ b ∷ ws) (suc (suc n)) w le = refl

names-head : (ns : List reference.Reference) (index : ℕ) (to : reference.Reference) → 1 ≤ index → get_or (set ns index to) 0 Nil ≡ get_or ns 0 Nil
names-head ns zero to le = absurd (omega (arith, le))
names-head [] (suc n) to le = refl
names-head (a ∷ ns) (suc n) to le = refl

behind-bound : (here : Heap) (it : Shown) (index : ℕ) (c : code.Value) → IsBehind index c → IsBoundOf (shown_with here it index c) it
behind-bound here it index (held.Num z) le = (refl, words-head it.nums index _ le)
behind-bound here it index (held.Flag b) le = (refl, words-head it.nums index _ le)
behind-bound here it index (held.Ref to) le = (names-head it.refs index _ le, refl)

-- A value was written to a place of an object of a kind that may be written, and where it is a vector, behind what it has before its elements.
pub written-lasts : (mid new : Heap) (at index : ℕ) (c : code.Value) → IsHeap mid → IsHeld mid at → (HasBytes (header_at mid at).kind → ⊥)
    → ((header_at mid at).kind ≢ kind.Closure) → ((header_at mid at).kind ≡ kind.Vector → IsBehind index c)
    → new ≡ assigned_value mid at index c → Lasts mid new
written-lasts mid new at index c h there bytes closure behind written =
    rewritten-lasts mid new at (shown_with mid (shown_at mid at) index c) there bytes closure
    (λ is. behind-bound mid (shown_at mid at) index c (behind is)) (rewritten mid new at index c h there written)

-- an element stands there
pub element-behind : (f : Form) (n : ℕ) (c : code.Value) → IsOfForm f c → IsBehind (index_of f n) c
element-behind form.Number n (held.Num z) is = omega arith
element-behind form.Flag n (held.Flag b) is = omega arith
element-behind form.Reference n (held.Ref to) is = omega arith
element-behind form.Number n (held.Flag b) is = absurd is
element-behind form.Number n (held.Ref to) is = absurd is
element-behind form.Flag n (held.Num z) is = absurd is
element-behind form.Flag n (held.Ref to) is = absurd is
element-behind form.Reference n (held.Num z) is = absurd is
element-behind form.Reference n (held.Flag b) is = absurd is

-- and so does one that was fitted to its place
pub fitted-behind : (f : Form) (n : ℕ) (v c : code.Value) → fitted f v ≡ Some c → IsBehind (index_of f n) c
unfolding fitted
fitted-behind form.Number n v (held.Num y) e = omega arith
fitted-behind form.Number n v (held.Flag b) e = omega arith
fitted-behind form.Number n (held.Num z) (held.Ref to) e = absurd (cc)
fitted-behind form.Number n (held.Flag a) (held.Ref to) e = absurd (cc)
fitted-behind form.Number n (held.Ref o) (held.Ref to) e = absurd (cc)
fitted-behind form.Flag n v (held.Num y) e = omega arith
fitted-behind form.Flag n v (held.Flag b) e = omega arith
fitted-behind form.Flag n (held.Num z) (held.Ref to) e = absurd (cc)
fitted-behind form.Flag n (held.Flag a) (held.Ref to) e = absurd (cc)
fitted-behind form.Flag n (held.Ref o) (held.Ref to) e = absurd (cc)
fitted-behind form.Reference n v (held.Ref to) e = omega arith
fitted-behind form.Reference n (held.Num z) (held.Num y) e = absurd (cc)
fitted-behind form.Reference n (held.Flag a) (held.Num y) e = absurd (cc)
fitted-behind form.Reference n (held.Ref o) (held.Num y) e = absurd (cc)
fitted-behind form.Reference n (held.Num z) (held.Flag b) e = absurd (cc)
fitted-behind form.Reference n (held.Flag a) (held.Flag b) e = absurd (cc)
fitted-behind form.Reference n (held.Ref o) (held.Flag b) e = absurd (cc)
