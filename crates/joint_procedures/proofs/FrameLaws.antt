-- The frame of a code object, and the units among its constants.
use Rattle.std.proofs.Common.{arith, ◌≡◌, ℕ, zero, suc, ◌/◌, ◌%◌, ◌^◌, ◌<◌, List, refl, sym, ap, ◌∙◌, subst, Some, None, slice_index}
use Rattle.std.specs.Prelude.{Ok}
use Rattle.ps_base.specs.CodeUnit.{UnitView, unit, ConstantView, text, literal, ConstantsView, no_constants, constant_then}
use Rattle.ps_base.specs.declared.code_unit.Frame.{Frame}
use Rattle.joint_ops.specs.ps_outside.Outside.{Outside}
use Rattle.joint_ops.specs.obj_layout.Stored.{Space}
use Rattle.joint_ops.specs.obj_layout.declared.kind.Kind.{Kind}
use Rattle.joint_ops.specs.obj_layout.declared.kind.Kind.TheVariants as kind
use Rattle.joint_ops.specs.swizzle.Objects.{HasRoomForBytes}
use Rattle.joint_ops.specs.swizzle.Heap.{Heap, IsHeap, IsHeld, header_at, object_at, num_at}
use Rattle.joint_ops.specs.swizzle.Joint.{Shown, name_at}
use Rattle.joint_ops.proofs.of_swizzle.ObjectLaws.{split}
use Rattle.joint_ops.proofs.of_swizzle.KeptLaws.{held_is}
use Rattle.joint_ops.specs.proc_values.Units.{frame_word}
use Rattle.joint_ops.specs.proc_values.Loaded.{IsFitUnit, AreFitConstants, IsFitConstant, constant_numbered}
use Rattle.joint_ops.proofs.of_proc_values.StayLaws.{frame-nums, frame-refs, frame-num_params, frame-ref_params}
use Rattle.joint_ops.specs.heap_meaning.Units.{IsUnitSeen}
use Rattle.joint_ops.specs.World.{IsUnitIn}
use Rattle.joint_ops.specs.Code.{DenotesConstant, AnswersConstant}
use Rattle.joint_ops.proofs.SeenLaws.{seen-is}
use Rattle.joint_ops.proofs.CodeLaws.{has-code}
use Rattle.joint_procedures.specs.Units.{AnswersLiteral, AnswersText, IsFrameIn}

-- a code object has a word for its frame
pub frame-there : (here : Heap) (code : ℕ) → IsHeap here → IsHeld here code → (header_at here code).kind ≡ kind.Code → 1 < (header_at here code).nums
frame-there here code h held is =
    let fit = (split 1 here.objects code (object_at here code) h.fit (held_is here code held)).fit in
    let room : HasRoomForBytes kind.Code (header_at here code).nums (header_at here code).bytes =
    subst (λ (k : Kind). HasRoomForBytes k (header_at here code).nums (header_at here code).bytes) is fit.bytes in
    omega (arith, room)

same-frame : (a b : Frame) → a.nums ≡ b.nums → a.refs ≡ b.refs → a.num_params ≡ b.num_params → a.ref_params ≡ b.ref_params → a ≡ b
same-frame a b nums refs num_params ref_params =
    ap (λ (n : ℕ). record { nums = n; refs = a.refs; num_params = a.num_params; ref_params = a.ref_params }) nums
    ∙ ap (λ (n : ℕ). record { nums = b.nums; refs = n; num_params = a.num_params; ref_params = a.ref_params }) refs
    ∙ ap (λ (n : ℕ). record { nums = b.nums; refs = b.refs; num_params = n; ref_params = a.ref_params }) num_params
    ∙ ap (λ (n : ℕ). record { nums = b.nums; refs = b.refs; num_params = b.num_params; ref_params = n }) ref_params

-- what its word spells is the frame of the unit
pub frame-read : (here : Heap) (outside : Outside Space) (code : ℕ) (result : Frame) (bytes : List ℕ) (row : ConstantsView) (frame : Frame)
    → IsHeap here → IsFrameIn (num_at here code 1) result
    → IsUnitIn here outside code (unit bytes row frame) → IsFitUnit (unit bytes row frame) → result ≡ frame
unfolding IsUnitSeen IsFitUnit
frame-read here outside code result bytes row frame h of u fit =
    let shown = seen-is here outside code (name_at here code) (u.is.0) h u.held refl (u.is.1) in
    let same : num_at here code 1 ≡ frame_word frame = sym (ap (λ (x : Shown). slice_index x.nums 1) shown) ∙ u.is.2.frame_is in
    same-frame result frame
    (of.nums ∙ ap (λ (w : ℕ). w % 2 ^ 16) same ∙ frame-nums frame fit.1)
    (of.refs ∙ ap (λ (w : ℕ). w / 2 ^ 16 % 2 ^ 16) same ∙ frame-refs frame fit.1)
    (of.num_params ∙ ap (λ (w : ℕ). w / 2 ^ 32 % 2 ^ 16) same ∙ frame-num_params frame fit.1)
    (of.ref_params ∙ ap (λ (w : ℕ). w / 2 ^ 48) same ∙ frame-ref_params frame fit.1)

-- The units among the constants of a fit unit are fit.
pub constant-fit : (row : ConstantsView) (index : ℕ) (u : UnitView) → AreFitConstants row → constant_numbered row index ≡ Some (literal u) → IsFitUnit u
unfolding AreFitConstants IsFitConstant
constant-fit no_constants index u fit e = absurd (cc)
constant-fit (constant_then c row) zero u fit e = let same : c ≡ literal u = cc in subst IsFitConstant same fit.0
constant-fit (constant_then c row) (suc index) u fit e = constant-fit row index u fit.1 e

-- a unit's code object is code
unit-code : (here : Heap) (outside : Outside Space) (at : ℕ) (u : UnitView) → IsHeap here → IsUnitIn here outside at u
    → (header_at here at).kind ≡ kind.Code
unit-code here outside at (unit bytes row frame) h d = (has-code here outside at bytes row frame h d).kind_is

module _ (old new : Heap) (before after : Outside Space) (code index at : ℕ) (now : IsHeap new) where
  -- The object of a constant that is code is that of a unit, and another one is that of a text.

  pub literal-found : (bytes : List ℕ) (row : ConstantsView) (frame : Frame) → (header_at new at).kind ≡ kind.Code
      → AnswersConstant old new before after code row index (Ok at) → IsFitUnit (unit bytes row frame)
      → AnswersLiteral old new before after code row index (Ok (Some at))
  unfolding IsFitUnit
  literal-found bytes row frame kinds a fit = of a.0 a.1 a.2
    where
      of : (c : ConstantView) → constant_numbered row index ≡ Some c → DenotesConstant new after at c
          → AnswersLiteral old new before after code row index (Ok (Some at))
      of (text b) e d = let bad : kind.Text ≡ kind.Code = sym (d.0) ∙ kinds in absurd (cc)
      of (literal u) e d = (u, e, d, constant-fit row index u fit.2 e)

  pub literal-other : (row : ConstantsView) → ((header_at new at).kind ≡ kind.Code → ⊥)
      → AnswersConstant old new before after code row index (Ok at) → AnswersLiteral old new before after code row index (Ok None)
  literal-other row other a = of a.0 a.1 a.2
    where
      of : (c : ConstantView) → constant_numbered row index ≡ Some c → DenotesConstant new after at c
          → AnswersLiteral old new before after code row index (Ok None)
      of (text b) e d = (b, e)
      of (literal u) e d = absurd (other (unit-code new after at u now d))

  -- The object of a constant that is a text denotes it, and another one is that of a unit.

  pub text-found : (row : ConstantsView) → (header_at new at).kind ≡ kind.Text
      → AnswersConstant old new before after code row index (Ok at) → AnswersText old new before after code row index (Ok (Some at))
  text-found row kinds a = of a.0 a.1 a.2
    where
      of : (c : ConstantView) → constant_numbered row index ≡ Some c → DenotesConstant new after at c
          → AnswersText old new before after code row index (Ok (Some at))
      of (text b) e d = (b, e, d.1)
      of (literal u) e d = let bad : kind.Text ≡ kind.Code = sym kinds ∙ unit-code new after at u now d in absurd (cc)

  pub text-other : (row : ConstantsView) → ((header_at new at).kind ≡ kind.Text → ⊥)
      → AnswersConstant old new before after code row index (Ok at) → AnswersText old new before after code row index (Ok None)
  text-other row other a = of a.0 a.1 a.2
    where
      of : (c : ConstantView) → constant_numbered row index ≡ Some c → DenotesConstant new after at c
          → AnswersText old new before after code row index (Ok None)
      of (text b) e d = absurd (other (d.0))
      of (literal u) e d = (u, e)
