-- Values that are put into fields: as what they are kept, what stays, and which objects are noted as assigned.
use Rattle.std.proofs.Common.{◌≡◌, ℕ, suc, ◌%◌, ◌==◌, List, [], ◌∷◌, ◌++◌, refl, sym, ap, ◌∙◌, subst, Option, Some, None, IfSome, Bool, true, false, if◌then◌else◌}
use Rattle.std.specs.Prelude.{Result, Ok, Err}
use Rattle.joint_ops.specs.ps_outside.Outside.{Outside}
use Rattle.joint_ops.specs.obj_layout.Stored.{Space}
use Rattle.joint_ops.specs.obj_layout.declared.kind.Kind.TheVariants as kind
use Rattle.joint_ops.specs.obj_layout.declared.reference.Reference as reference
use Rattle.joint_ops.specs.swizzle.Objects as area_objects
use Rattle.joint_ops.specs.swizzle.Heap.{Heap, IsHeap, IsHeld, header_at, object_at, is_assigned, with_mark, with_object as with_another}
use Rattle.joint_ops.specs.swizzle.Joint.{Shown}
use Rattle.joint_ops.specs.swizzle.Touch.{Keeps}
use Rattle.joint_ops.proofs.of_swizzle.JointLaws.{object-replaced}
use Rattle.joint_ops.specs.text_forms.declared.forms.Form.{Form}
use Rattle.joint_ops.specs.text_forms.declared.forms.Form.TheVariants as form
use Rattle.joint_ops.specs.text_forms.declared.forms.Located.{Located}
use Rattle.joint_ops.specs.heap_texts.declared.fault.OpFault.{OpFault}
use Rattle.joint_ops.specs.heap_texts.declared.fault.OpFault.TheVariants as op
use Rattle.joint_ops.specs.heap_places.Places.{HasPlace, HasRow, IsNear, assigned_value}
use Rattle.joint_ops.specs.heap_places.declared.value.Value as code
use Rattle.joint_ops.specs.heap_places.declared.value.Value.TheVariants as held
use Rattle.joint_ops.specs.heap_ops.Outcomes.{UnlessFault}
use Rattle.joint_ops.specs.heap_ops.Structures.{SetsField}
use Rattle.joint_ops.specs.ps_heap.Values.{Value, Num, Flag, Text, Nil, Pointer, Vector, Procedure, Nothing, is_one, number_of}
use Rattle.joint_ops.specs.ps_heap.Objects.{kept_as}
use Rattle.joint_ops.specs.World.{IsForIn, IsOfForm}
use Rattle.joint_ops.proofs.PutLaws.{no-bytes}
use Rattle.objects.specs.Lasting.{Lasts, UnlessBroken}
use Rattle.objects.specs.Putting.{IsOfRow, kept_in, noted_in, NotesWritten}
use Rattle.objects.proofs.LastingLaws.{keeps-lasts, lasts-then}
use Rattle.objects.proofs.WrittenLaws.{written-lasts}

-- What a value denotes, as a field keeps it.

module _ (here : Heap) (outside : Outside Space) (names : List reference.Reference) where
  num-of : (z : _) (v : Value) → IsForIn here outside names (held.Num z) v → v ≡ Num z
  num-of z (Num w) i = ap Num (sym i)
  num-of z (Flag b) i = absurd i
  num-of z (Text b) i = absurd i
  num-of z Nil i = absurd i
  num-of z (Pointer id) i = absurd i
  num-of z (Vector id) i = absurd i
  num-of z (Procedure does scope) i = absurd i
  num-of z Nothing i = absurd i

  flag-of : (b : Bool) (v : Value) → IsForIn here outside names (held.Flag b) v → v ≡ Flag b
  flag-of b (Flag c) i = ap Flag (sym i)
  flag-of b (Num w) i = absurd i
  flag-of b (Text w) i = absurd i
  flag-of b Nil i = absurd i
  flag-of b (Pointer id) i = absurd i
  flag-of b (Vector id) i = absurd i
  flag-of b (Procedure does scope) i = absurd i
  flag-of b Nothing i = absurd i

  one-of : (b : Bool) → b ≡ is_one (number_of b)
  one-of true = refl
  one-of false = refl

  pub kept-for : (f : Form) (c : code.Value) (v : Value) → IsOfRow f c → IsForIn here outside names c v
      → IsForIn here outside names (kept_in f c) (kept_as (Some f) v)
  kept-for form.Number (held.Num z) v row i =
      subst (λ (x : Value). IsForIn here outside names (held.Num z) (kept_as (Some form.Number) x)) (sym (num-of z v i)) refl
  kept-for form.Number (held.Flag b) v row i =
      subst (λ (x : Value). IsForIn here outside names (held.Num (number_of b)) (kept_as (Some form.Number) x)) (sym (flag-of b v i)) refl
  kept-for form.Flag (held.Num z) v row i =
      subst (λ (x : Value). IsForIn here outside names (held.Flag (is_one z)) (kept_as (Some form.Flag) x)) (sym (num-of z v i)) refl
  kept-for form.Flag (held.Flag b) v row i =
      subst (λ (x : Value). IsForIn here outside names (held.Flag b) (kept_as (Some form.Flag) x)) (sym (flag-of b v i)) (one-of b)
  kept-for form.Reference (held.Ref to) v row i = i
  kept-for form.Reference (held.Num z) v row i = absurd row
  kept-for form.Reference (held.Flag b) v row i = absurd row
  kept-for form.Number (held.Ref to) v row i = absurd row
  kept-for form.Flag (held.Ref to) v row i = absurd row

-- its object lies in the area
pub kept-near : (here : Heap) (f : Form) (c : code.Value) → IsOfRow f c → IsNear here c → IsNear here (kept_in f c)
kept-near here form.Number (held.Num z) row near = tt
kept-near here form.Number (held.Flag b) row near = tt
kept-near here form.Flag (held.Num z) row near = tt
kept-near here form.Flag (held.Flag b) row near = tt
kept-near here form.Reference (held.Ref to) row near = near
kept-near here form.Reference (held.Num z) row near = absurd row
kept-near here form.Reference (held.Flag b) row near = absurd row
kept-near here form.Number (held.Ref to) row near = absurd row
kept-near here form.Flag (held.Ref to) row near = absurd row

pub near-later : (old new : Heap) (c : code.Value) → Keeps old new → IsNear old c → IsNear new c
near-later old new (held.Num z) keeps near = tt
near-later old new (held.Flag b) keeps near = tt
near-later old new (held.Ref None) keeps near = tt
near-later old new (held.Ref (Some at)) keeps near = (keeps.objects at near).held

-- and it has its place in its row
pub row-of : (it : Shown) (f : Form) (index : ℕ) (c : code.Value) → IsOfForm f c → HasPlace it f index → HasRow it index c
row-of it form.Number index (held.Num y) k h = h
row-of it form.Flag index (held.Flag b) k h = h
row-of it form.Reference index (held.Ref to) k h = h
row-of it form.Number index (held.Flag b) k h = absurd k
row-of it form.Number index (held.Ref to) k h = absurd k
row-of it form.Flag index (held.Num y) k h = absurd k
row-of it form.Flag index (held.Ref to) k h = absurd k
row-of it form.Reference index (held.Num y) k h = absurd k
row-of it form.Reference index (held.Flag b) k h = absurd k

-- What stays where a field was written, whatever the area stands for.

pub field-lasts : (here new : Heap) (at index : ℕ) (c : code.Value) → IsHeap here → IsHeld here at → (header_at here at).kind ≡ kind.Structure
    → new ≡ assigned_value here at index c → Lasts here new
field-lasts here new at index c h held is =
    written-lasts here new at index c h held (no-bytes (header_at here at).kind kind.Structure is (λ e. cc) (λ e. cc))
    (λ e. let bad : kind.Structure ≡ kind.Closure = sym is ∙ e in cc) (λ e. let bad : kind.Structure ≡ kind.Vector = sym is ∙ e in absurd (cc))

pub sets-lasts : (old new : Heap) (before after : Outside Space) (object : Option ℕ) (text : List ℕ) (l : Located) (c : code.Value)
    (result : Result (Unit {0}) OpFault) → IfSome object (IsHeld old) → SetsField old new before after object text l c result
    → UnlessFault result (Lasts old new)
sets-lasts old new before after None text l c (Ok done) is g = absurd g
sets-lasts old new before after (Some at) text l c (Ok done) is g =
    let stays = g.reads.keeps.objects at is in
    lasts-then old g.mid new (keeps-lasts old g.mid g.reads.keeps)
    (field-lasts g.mid new at (suc l.place.index) c g.heap stays.held (ap (λ (it : Shown). it.kind) stays.shown_as ∙ g.fields.class.kind) g.written)
sets-lasts old new before after None text l c (Err (op.Trap t)) is g = keeps-lasts old new g.1.keeps
sets-lasts old new before after (Some at) text l c (Err (op.Trap t)) is g = keeps-lasts old new g.2.keeps
sets-lasts old new before after object text l c (Err (op.Swizzle fault)) is g = tt

-- What is noted as assigned.

marked-list : (mid : Heap) (at : ℕ) (o : area_objects.Object) → IsHeld mid at → o.header.flags ≡ (object_at mid at).header.flags
    → (with_mark (with_another mid at o) at).assigned ≡ noted_in mid at
marked-list mid at o there flags =
    let put = with_another mid at o in
    pick (is_assigned (object_at put at))
    ∙ ap (λ (b : Bool). if b then mid.assigned else mid.assigned ++ at ∷ [])
    (ap is_assigned (object-replaced mid at o there) ∙ ap (λ (f : ℕ). f % 2 == 1) flags)
  where
    pick : (b : Bool) → (if b then with_another mid at o else record (with_another mid at o) {
      objects = area_objects.replace_from 1 (with_another mid at o).objects at (Rattle.joint_ops.specs.swizzle.Heap.flagged (object_at (with_another mid at o) at));
      assigned = mid.assigned ++ at ∷ [];
    }).assigned ≡ (if b then mid.assigned else mid.assigned ++ at ∷ [])
    pick true = refl
    pick false = refl

pub write-notes : (mid new : Heap) (at index : ℕ) (c : code.Value) → IsHeld mid at → new ≡ assigned_value mid at index c
    → new.assigned ≡ noted_in mid at
write-notes mid new at index (held.Num z) there written = ap (λ (h : Heap). h.assigned) written ∙ marked-list mid at _ there refl
write-notes mid new at index (held.Flag b) there written = ap (λ (h : Heap). h.assigned) written ∙ marked-list mid at _ there refl
write-notes mid new at index (held.Ref to) there written = ap (λ (h : Heap). h.assigned) written ∙ marked-list mid at _ there refl

noted-later : (old mid : Heap) (at : ℕ) → Keeps old mid → IsHeld old at → noted_in mid at ≡ noted_in old at
noted-later old mid at keeps there =
    ap (λ (f : ℕ). if f % 2 == 1 then mid.assigned else mid.assigned ++ at ∷ []) (keeps.objects at there).flags
    ∙ ap (λ (l : List ℕ). if is_assigned (object_at old at) then l else l ++ at ∷ []) keeps.assigned

pub sets-notes : (old new : Heap) (before after : Outside Space) (object : Option ℕ) (text : List ℕ) (l : Located) (c : code.Value)
    (result : Result (Unit {0}) OpFault) → IfSome object (IsHeld old) → SetsField old new before after object text l c result
    → NotesWritten old new object result
sets-notes old new before after None text l c (Ok done) is g = absurd g
sets-notes old new before after (Some at) text l c (Ok done) is g =
    write-notes g.mid new at (suc l.place.index) c (g.reads.keeps.objects at is).held g.written ∙ noted-later old g.mid at g.reads.keeps is
sets-notes old new before after None text l c (Err (op.Trap t)) is g = g.1.keeps.assigned
sets-notes old new before after (Some at) text l c (Err (op.Trap t)) is g = g.2.keeps.assigned
sets-notes old new before after object text l c (Err (op.Swizzle fault)) is g = tt

-- so after a reading
pub notes-later : (old mid new : Heap) (object : Option ℕ) (result : Result (Unit {0}) OpFault) → Keeps old mid → IfSome object (IsHeld old)
    → NotesWritten mid new object result → NotesWritten old new object result
notes-later old mid new None (Ok done) keeps is n = absurd n
notes-later old mid new (Some at) (Ok done) keeps is n = n ∙ noted-later old mid at keeps is
notes-later old mid new None (Err (op.Trap t)) keeps is n = n ∙ keeps.assigned
notes-later old mid new (Some at) (Err (op.Trap t)) keeps is n = n ∙ keeps.assigned
notes-later old mid new None (Err (op.Swizzle fault)) keeps is n = tt
notes-later old mid new (Some at) (Err (op.Swizzle fault)) keeps is n = tt

-- What was looked up stays so, unless the operation broke off.
pub unless-lasts : (T : Type 0) (old new : Heap) (fault : OpFault) → UnlessFault {T = T} (Err fault) (Lasts old new) → UnlessBroken fault (Lasts old new)
unless-lasts T old new (op.Trap t) lasts = lasts
unless-lasts T old new (op.Swizzle fault) lasts = tt
