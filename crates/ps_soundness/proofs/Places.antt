-- Locals of a frame: what a new value in a slot leaves, and what it gives.
use Rattle.std.proofs.Common.{◌≡◌, ◌⊎◌, ℕ, ◌<◌, ◌≤◌, Bool, true, false, List, [], ◌∷◌, inl, inr, refl, sym, ap, ◌∙◌, subst, arith, eq-eqb, eqb-true}
use Rattle.std.specs.Prelude.{nat_eq, if◌then◌else◌}
use Rattle.std.specs.List.{AllByRecursion}
use Rattle.ps_meaning.specs.ps_base.TyView.{TyView}
use Rattle.ps_meaning.specs.ps_base.TyView as types
use Rattle.ps_meaning.specs.ps_typing.Placing.{is_number}
use Rattle.ps_meaning.specs.ps_typing.WellTyped.{Some_is, Local, Free, IsLocal, next_slot}
use Rattle.ps_heap.specs.Values.{Value, Num, Flag, Text, Nil, Pointer, Vector, Procedure, as_written, Nothing}
use Rattle.ps_heap.specs.Objects.{Heap, Object, Elements}
use Rattle.ps_meaning.specs.Meaning.{Frame, with_local, local_of, frame_with}
use Rattle.ps_soundness.specs.Free.{AllBelow}
use Rattle.ps_soundness.specs.Over.{IsOf, AreLocals}
use Rattle.ps_soundness.specs.Shapes.{IsVectorAt}
use Rattle.ps_soundness.proofs.Notion.{Kind}
use Rattle.ps_soundness.proofs.Telling.{Told}
use Rattle.ps_soundness.proofs.Growing.{one_object}

text_in : List ℕ → Object → List ℕ
text_in other (Elements text low elements) = text
text_in other object = other

-- a vector has one type
one_vector : (told : Told) (heap : Heap) (a b : TyView) (id : ℕ) → IsVectorAt heap a id → IsVectorAt heap b id → a ≡ b
unfolding text_in
one_vector told heap a b id h k = told.types a b (ap (text_in []) (one_object _ _ (sym h.is ∙ k.is)))

-- where one value is of two types, a value of the one is of the other: the types are the same
shared : (kind : Kind) (told : Told) (heap : Heap) (a b : TyView) (old v : Value) → IsOf kind.asked heap a old → IsOf kind.asked heap b old → IsOf kind.asked heap a v → IsOf kind.asked heap b v
shared kind told heap types.Int types.Int (Num z) v h k l = l
shared kind told heap types.Int b (Num z) v h k l = absurd k
shared kind told heap types.Int b old v h k l = absurd h
shared kind told heap types.Bool types.Bool (Flag z) v h k l = l
shared kind told heap types.Bool b (Flag z) v h k l = absurd k
shared kind told heap types.Bool b old v h k l = absurd h
shared kind told heap types.Str types.Str (Text bytes) v h k l = l
shared kind told heap types.Str b (Text bytes) v h k l = absurd k
shared kind told heap types.Str b old v h k l = absurd h
shared kind told heap types.Pntr types.Pntr Nil v h k l = l
shared kind told heap types.Pntr b Nil v h k l = absurd k
shared kind told heap types.Pntr types.Pntr (Pointer id) v h k l = l
shared kind told heap types.Pntr b (Pointer id) v h k l = absurd k
shared kind told heap types.Pntr b old v h k l = absurd h
shared kind told heap (types.Vector a) (types.Vector b) (Vector id) v h k l =
    subst (λ (t : TyView). IsOf kind.asked heap t v) (one_vector told heap (types.Vector a) (types.Vector b) id h k) l
shared kind told heap (types.Vector a) b (Vector id) v h k l = absurd k
shared kind told heap (types.Vector a) b old v h k l = absurd h
shared kind told heap (types.Proc ps g) (types.Proc qs f) (Procedure (as_written of) scope) v h k l =
    subst (λ (t : TyView). IsOf kind.asked heap t v) (kind.of_type heap (types.Proc ps g) of scope h ∙ sym (kind.of_type heap (types.Proc qs f) of scope k)) l
shared kind told heap (types.Proc ps g) b (Procedure (as_written of) scope) v h k l = absurd k
shared kind told heap (types.Proc ps g) b old v h k l = absurd h
shared kind told heap types.Void types.Void Nothing v h k l = l
shared kind told heap types.Void b Nothing v h k l = absurd k
shared kind told heap types.Void b old v h k l = absurd h

-- a local of one of the two rows, and a frame in which it has another value
abbrev in_row : Frame → Bool → ℕ → Value
in_row frame number slot = if number then frame.nums slot else frame.refs slot

abbrev with_row : Frame → Bool → ℕ → Value → Frame
with_row frame number slot v =
    if number then record frame { nums = with_local frame.nums slot v } else record frame { refs = with_local frame.refs slot v }

if_same : {A : Type 0} (b : Bool) (x y : A) → b ≡ true → (if b then x else y) ≡ x
if_same b x y e = ap (λ (c : Bool). if c then x else y) e

local_same : (row : ℕ → Value) (slot : ℕ) (v : Value) → with_local row slot v slot ≡ v
local_same row slot v = if_same (nat_eq slot slot) v (row slot) (eq-eqb slot slot refl)

pub row_same : (frame : Frame) (number : Bool) (slot : ℕ) (v : Value) → in_row (with_row frame number slot v) number slot ≡ v
row_same frame true slot v = local_same frame.nums slot v
row_same frame false slot v = local_same frame.refs slot v

-- a local is as it was, or is the one that has the new value
abbrev IsOldOrNew : Frame → Bool → ℕ → Value → Bool → ℕ → Type 0
IsOldOrNew frame number slot v other at =
    (in_row (with_row frame number slot v) other at ≡ in_row frame other at)
    ⊎ ((number ≡ other) × (slot ≡ at) × (in_row (with_row frame number slot v) other at ≡ v) × (in_row frame other at ≡ in_row frame number slot))

local_tested : (row : ℕ → Value) (slot at : ℕ) (v : Value) (b : Bool) → nat_eq at slot ≡ b →
    ((if b then v else row at) ≡ row at) ⊎ ((slot ≡ at) × ((if b then v else row at) ≡ v) × (row at ≡ row slot))
local_tested row slot at v true e = let same = eqb-true at slot e in inr (sym same, refl, ap row same)
local_tested row slot at v false e = inl refl

tested_row : (frame : Frame) (number : Bool) (slot at : ℕ) (v : Value) →
    (in_row (with_row frame number slot v) number at ≡ in_row frame number at)
    ⊎ ((slot ≡ at) × (in_row (with_row frame number slot v) number at ≡ v) × (in_row frame number at ≡ in_row frame number slot))
tested_row frame true slot at v = local_tested frame.nums slot at v (nat_eq at slot) refl
tested_row frame false slot at v = local_tested frame.refs slot at v (nat_eq at slot) refl

in_one_row : (frame : Frame) (number : Bool) (slot at : ℕ) (v : Value) →
    (in_row (with_row frame number slot v) number at ≡ in_row frame number at)
    ⊎ ((slot ≡ at) × (in_row (with_row frame number slot v) number at ≡ v) × (in_row frame number at ≡ in_row frame number slot)) →
    IsOldOrNew frame number slot v number at
in_one_row frame number slot at v (inl e) = inl e
in_one_row frame number slot at v (inr e) = inr (refl, e.0, e.1, e.2)

old_or_new : (frame : Frame) (number : Bool) (slot : ℕ) (v : Value) (other : Bool) (at : ℕ) → IsOldOrNew frame number slot v other at
old_or_new frame true slot v true at = in_one_row frame true slot at v (tested_row frame true slot at v)
old_or_new frame true slot v false at = inl refl
old_or_new frame false slot v true at = inl refl
old_or_new frame false slot v false at = in_one_row frame false slot at v (tested_row frame false slot at v)

next_above : (free : Free) (a b : Bool) (slot at : ℕ) → (if a then free.nums else free.refs) ≤ slot → at < (if b then free.nums else free.refs) →
    a ≡ b → slot ≡ at → ⊥
next_above free true true slot at low high same e = omega arith
next_above free false false slot at low high same e = omega arith
next_above free true false slot at low high same e = cc
next_above free false true slot at low high same e = cc

-- no local of this row in scope has this slot
abbrev pub IsSpare : Bool → ℕ → List Local → Type 0
IsSpare number slot locals = AllByRecursion (λ (local : Local). number ≡ is_number local.ty → slot ≡ local.slot → ⊥) locals

-- a value in such a slot leaves the locals in scope
pub spare_slot : (kind : Kind) (heap : Heap) (frame : Frame) (ty : TyView) (slot : ℕ) (v : Value) (locals : List Local) → IsSpare (is_number ty) slot locals →
    AreLocals kind.asked heap frame locals → AreLocals kind.asked heap (frame_with frame ty slot v) locals
spare_slot kind heap frame ty slot v [] spare h = tt
spare_slot kind heap frame ty slot v (local ∷ locals) spare h =
    (of (old_or_new frame (is_number ty) slot v (is_number local.ty) local.slot), spare_slot kind heap frame ty slot v locals spare.1 h.1)
  where
    of : IsOldOrNew frame (is_number ty) slot v (is_number local.ty) local.slot →
        IsOf kind.asked heap local.ty (local_of (frame_with frame ty slot v) local.ty local.slot)
    of (inl e) = subst (IsOf kind.asked heap local.ty) (sym e) h.0
    of (inr e) = absurd (spare.0 e.0 e.1)

-- as a free slot is
below_spare : (free : Free) (ty : TyView) (slot : ℕ) (locals : List Local) → next_slot ty free ≤ slot → AllBelow locals free → IsSpare (is_number ty) slot locals
below_spare free ty slot [] low below = tt
below_spare free ty slot (local ∷ locals) low below =
    (λ same e. next_above free (is_number ty) (is_number local.ty) slot local.slot low below.0 same e, below_spare free ty slot locals low below.1)

pub free_slot : (kind : Kind) (heap : Heap) (frame : Frame) (free : Free) (ty : TyView) (slot : ℕ) (v : Value) (locals : List Local) → next_slot ty free ≤ slot →
    AllBelow locals free → AreLocals kind.asked heap frame locals → AreLocals kind.asked heap (frame_with frame ty slot v) locals
free_slot kind heap frame free ty slot v locals low below h = spare_slot kind heap frame ty slot v locals (below_spare free ty slot locals low below) h

-- the value of a name in scope
pub name_has : (kind : Kind) (heap : Heap) (frame : Frame) (slot : ℕ) (ty : TyView) (locals : List Local) → Some_is (IsLocal slot ty) locals →
    AreLocals kind.asked heap frame locals → IsOf kind.asked heap ty (local_of frame ty slot)
name_has kind heap frame slot ty [] found h = absurd found
name_has kind heap frame slot ty (local ∷ locals) (inl is) h =
    subst (λ (t : TyView). IsOf kind.asked heap t (local_of frame t slot)) is.1 (subst (λ (n : ℕ). IsOf kind.asked heap local.ty (local_of frame local.ty n)) is.0 h.0)
name_has kind heap frame slot ty (local ∷ locals) (inr found) h = name_has kind heap frame slot ty locals found h.1

-- a value of its type in the slot of a name in scope
pub name_set : (kind : Kind) (told : Told) (heap : Heap) (frame : Frame) (slot : ℕ) (ty : TyView) (v : Value) (locals : List Local) →
    IsOf kind.asked heap ty (local_of frame ty slot) → IsOf kind.asked heap ty v → AreLocals kind.asked heap frame locals → AreLocals kind.asked heap (frame_with frame ty slot v) locals
name_set kind told heap frame slot ty v [] old new h = tt
name_set kind told heap frame slot ty v (local ∷ locals) old new h =
    (of (old_or_new frame (is_number ty) slot v (is_number local.ty) local.slot), name_set kind told heap frame slot ty v locals old new h.1)
  where
    of : IsOldOrNew frame (is_number ty) slot v (is_number local.ty) local.slot →
        IsOf kind.asked heap local.ty (local_of (frame_with frame ty slot v) local.ty local.slot)
    of (inl e) = subst (IsOf kind.asked heap local.ty) (sym e) h.0
    of (inr e) = subst (IsOf kind.asked heap local.ty) (sym e.2) (shared kind told heap ty local.ty (local_of frame ty slot) v old
        (subst (IsOf kind.asked heap local.ty) e.3 h.0) new)

pub slot_has : (kind : Kind) (heap : Heap) (frame : Frame) (ty : TyView) (slot : ℕ) (v : Value) → IsOf kind.asked heap ty v →
    IsOf kind.asked heap ty (local_of (frame_with frame ty slot v) ty slot)
slot_has kind heap frame ty slot v h = subst (IsOf kind.asked heap ty) (sym (row_same frame (is_number ty) slot v)) h
