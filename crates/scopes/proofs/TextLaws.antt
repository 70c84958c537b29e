-- Texts stay as an object that is none is changed.
use Rattle.std.proofs.Common.{Bool, true, false, ◌≡◌, ◌≢◌, ℕ, ◌∷◌, [], ◌++◌, List, refl, sym, ap, ◌∙◌, subst, if◌then◌else◌}
use Rattle.closures.specs.obj_layout.declared.kind.Kind.TheVariants.{Text}
use Rattle.closures.specs.swizzle.Objects.{Object}
use Rattle.closures.specs.swizzle.Heap.{Heap, IsHeld, object_at, header_at, with_object, with_mark, is_assigned, flagged}
use Rattle.closures.specs.swizzle.Text.{text_of}
use Rattle.closures.specs.swizzle.Reading.{TextsStay}
use Rattle.closures.proofs.of_swizzle.HeapLaws.{held-replaced}
use Rattle.closures.proofs.of_swizzle.KeptLaws.{held_is}
use Rattle.closures.proofs.of_swizzle.JointLaws.{IsLike, like_long, object-replaced_other}
use Rattle.closures.proofs.of_swizzle.ReadingLaws.{texts-then}
use Rattle.closures.proofs.of_swizzle.StandLaws.{like_flags, stands-object}
use Rattle.closures.specs.heap_places.declared.value.Value.{Value}
use Rattle.closures.specs.heap_places.declared.value.Value.TheVariants.{Num, Flag, Ref}
use Rattle.closures.specs.heap_places.Places.{with_value, assigned_value}

-- an object that is no text is replaced by one like it
texts-object : (heap : Heap) (at : ℕ) (o : Object) → IsHeld heap at → (header_at heap at).kind ≢ Text → IsLike (object_at heap at) o
    → TextsStay heap (with_object heap at o)
texts-object heap at o held no_text like j there is =
    let long = like_long (object_at heap at) o like in
    let apart : j ≢ at = λ (e : j ≡ at). no_text (ap (λ (n : ℕ). (header_at heap n).kind) (sym e) ∙ is) in
    let same = object-replaced_other heap at j o held long apart in
    record {
      held = held-replaced heap at (object_at heap at) o j (held_is heap at held) long there;
      kind = ap (λ (x : Object). x.header.kind) same ∙ is;
      bytes = ap text_of same;
    }

texts-listed : (heap : Heap) (at : ℕ) (list : List ℕ) (o : Object) → TextsStay heap (with_object heap at o)
    → TextsStay heap (record (with_object heap at o) { assigned = list })
texts-listed heap at list o stay j there is =
    let s = stay j there is in
    record { held = record { object = s.held.object; is = s.held.is }; kind = s.kind; bytes = s.bytes }

texts-refl : (heap : Heap) → TextsStay heap heap
texts-refl heap j there is = record { held = there; kind = is; bytes = refl }

texts-mark : (heap : Heap) (at : ℕ) → IsHeld heap at → (header_at heap at).kind ≢ Text → TextsStay heap (with_mark heap at)
texts-mark heap at held no_text = of (is_assigned (object_at heap at))
  where
    of : (b : Bool)
        → TextsStay heap (if b then heap else record (with_object heap at (flagged (object_at heap at))) { assigned = heap.assigned ++ at ∷ [] })
    of true = texts-refl heap
    of false = texts-listed heap at (heap.assigned ++ at ∷ []) (flagged (object_at heap at))
        (texts-object heap at (flagged (object_at heap at)) held no_text (like_flags (object_at heap at)))

-- a value is written into it

value-like : (heap : Heap) (at index : ℕ) (v : Value) → (o : Object) × IsLike (object_at heap at) o
    × (with_value heap at index v ≡ with_object heap at o)
value-like heap at index (Num z) = (_, record { kind = refl; refs = refl; nums = refl; bytes = refl; pid = refl }, refl)
value-like heap at index (Flag b) = (_, record { kind = refl; refs = refl; nums = refl; bytes = refl; pid = refl }, refl)
value-like heap at index (Ref to) = (_, record { kind = refl; refs = refl; nums = refl; bytes = refl; pid = refl }, refl)

pub texts-assigned : (heap : Heap) (at index : ℕ) (v : Value) → IsHeld heap at → (header_at heap at).kind ≢ Text
    → TextsStay heap (assigned_value heap at index v)
texts-assigned heap at index v held no_text =
    let w = value-like heap at index v in
    let mid = with_value heap at index v in
    let s = stands-object heap mid at w.0 w.2 held w.1 at held in
    texts-then heap mid (with_mark mid at)
    (subst (TextsStay heap) (sym w.2) (texts-object heap at w.0 held no_text w.1))
    (texts-mark mid at s.held (λ e. no_text (sym s.kind ∙ e)))
