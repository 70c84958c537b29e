-- Entries of procedures that are so, and what their bodies are.
use Rattle.std.proofs.Common.{inl, inr, ◌≡◌, ℕ, zero, suc, ◌+◌, ◌<◌, ◌≤◌, ◌⊎◌, ◌==◌, if◌then◌else◌, List, [], ◌∷◌, length, set, replicate, get_or, take, ◌++◌, slice_index, Option, Some, None, sym, ap, ◌∙◌, arith, subst}
use Rattle.ps_base.specs.CodeUnit.{UnitView, unit}
use Rattle.joint_ops.specs.ps_outside.Outside.{Outside}
use Rattle.joint_ops.specs.obj_layout.Stored.{Space}
use Rattle.joint_ops.specs.obj_layout.declared.reference.Reference.{Reference}
use Rattle.joint_ops.specs.obj_layout.declared.reference.Reference.TheVariants.{Pid, Local}
use Rattle.joint_ops.specs.swizzle.Heap as area
use Rattle.joint_ops.specs.swizzle.Heap.{IsHeap, Stands as AllStand}
use Rattle.joint_ops.specs.swizzle.Joint.{Shown}
use Rattle.joint_ops.specs.swizzle.Touch.{Denotes}
use Rattle.joint_ops.specs.heap_places.Shapes.{slot_of}
use Rattle.joint_ops.specs.ps_heap.Values.{Procedure, as_compiled}
use Rattle.joint_ops.specs.proc_values.Loaded.{IsFitUnit}
use Rattle.joint_ops.specs.World.{DenotesIn, IsUnitIn}
use Rattle.joint_procedures.specs.Procedures.{HasSlot}
use Rattle.joint_procedures.specs.Units.{IsFrameIn}
use Rattle.joint_procedures.proofs.ProcedureLaws.{procedure-denoted, slot-code, slot-scope}
use Rattle.joint_procedures.proofs.FrameLaws.{frame-read}
use Rattle.objects.specs.Lasting.{Lasts}
use Rattle.objects.specs.declared.body.Body.{Body}
use Rattle.objects.specs.declared.known_procedures.KnownProcedure.{KnownProcedure}
use Rattle.objects.specs.Bodies.{frame_in, IsBodyIn, HasCode, HasBody, AreSo}

-- what an entry says is so, or it says nothing
abbrev Says : area.Heap → KnownProcedure → Type 0
Says here known = (known.procedure ≡ 0) ⊎ HasBody here known.procedure known.body

denotes-stays : (old new : area.Heap) (to : Option ℕ) (n : Reference) → AllStand old new → Denotes old to n → Denotes new to n
denotes-stays old new None n stands d = d
denotes-stays old new (Some at) n stands d =
    let s = stands at d.0 in
    (s.held, ap (λ (p : ℕ). if p == 0 then Local at else Pid p) s.pid ∙ d.1)

module _ (old new : area.Heap) (lasts : Lasts old new) where
  pub slot-stays : (closure slot : ℕ) (to : Option ℕ) → HasSlot old closure slot to → HasSlot new closure slot to
  slot-stays closure slot to is =
      let s = lasts.closures closure is.held is.kind in
      record {
        held = s.held;
        kind = ap (λ (it : Shown). it.kind) s.shown_as ∙ is.kind;
        denotes = subst (λ (it : Shown). Denotes new to (slot_of it slot)) (sym s.shown_as) (denotes-stays old new to _ lasts.stands is.denotes);
      }

  code-stays : (body : Body) → HasCode old body → HasCode new body
  code-stays body is =
      let s = lasts.code body.code is.place.held (inr is.place.kind) in
      let stand = lasts.stands body.code is.place.held in
      record {
        place = record {
          held = stand.held;
          kind = stand.kind ∙ is.place.kind;
          first_is = is.place.first_is ∙ sym (ap (λ (n : ℕ). body.code + 6 + n) stand.refs);
          count_is = is.place.count_is ∙ sym stand.bytes;
        };
        frame = subst (λ (w : ℕ). IsFrameIn w body.frame) (sym (ap (λ (it : Shown). slice_index it.nums 1) s.shown_as)) is.frame;
      }

  body-stays : (procedure : ℕ) (body : Body) → HasBody old procedure body → HasBody new procedure body
  body-stays procedure body is = record {
    code_is = slot-stays procedure 0 (Some body.code) is.code_is;
    scope_is = slot-stays procedure 1 body.scope is.scope_is;
    code = code-stays body is.code;
  }

  stays : (known : KnownProcedure) → Says old known → Says new known
  stays known (inl none) = inl none
  stays known (inr so) = inr (body-stays known.procedure known.body so)

  pub procedures-stay : (entries : List KnownProcedure) → AreSo old entries → AreSo new entries
  procedures-stay [] so = tt
  procedures-stay (known ∷ rest) so = (stays known so.0, procedures-stay rest so.1)

module _ (here : area.Heap) where
  none-so : (n : ℕ) (known : KnownProcedure) → known.procedure ≡ 0 → AreSo here (replicate n known)
  none-so zero known none = tt
  none-so (suc n) known none = (inl none, none-so n known none)

  pub put-so : (entries : List KnownProcedure) (index : ℕ) (known : KnownProcedure) → AreSo here entries → HasBody here known.procedure known.body
      → AreSo here (set entries index known)
  put-so [] index known so is = tt
  put-so (k ∷ ks) zero known so is = (inr is, so.1)
  put-so (k ∷ ks) (suc index) known so is = (so.0, put-so ks index known so.1 is)

  said : (entries : List KnownProcedure) (index : ℕ) (known : KnownProcedure) → AreSo here entries → index < length entries
      → known ≡ get_or entries index known → Says here known
  said [] index known so below e = absurd (omega arith)
  said (k ∷ ks) zero known so below e = subst (Says here) (sym e) so.0
  said (k ∷ ks) (suc index) known so below e = said ks index known so.1 (omega (arith, below)) e

  pub found-so : (entries : List KnownProcedure) (index procedure : ℕ) (known : KnownProcedure) → AreSo here entries → index < length entries
      → known ≡ get_or entries index known → 1 ≤ procedure → known.procedure ≡ procedure → HasBody here procedure known.body
  found-so entries index procedure known so below found some is = elim (said entries index known so below found) [
    | inl none ↦ absurd (omega (arith, none, is, some))
    | inr fact ↦ subst (λ (p : ℕ). HasBody here p known.body) is fact
  ]

  -- entries that were put after none
  pub fresh-so : (items before : List KnownProcedure) (n : ℕ) (known : KnownProcedure) → before ≡ [] → known.procedure ≡ 0
      → items ≡ take 64 before ++ replicate n known → AreSo here items
  fresh-so items before n known empty none is =
      let all : items ≡ replicate n known = is ∙ ap (λ (x : List KnownProcedure). take 64 x ++ replicate n known) empty in
      subst (AreSo here) (sym all) (none-so n known none)

  pub cleared-so : (items : List KnownProcedure) (n : ℕ) (known : KnownProcedure) → known.procedure ≡ 0 → items ≡ replicate n known → AreSo here items
  cleared-so items n known none is = subst (AreSo here) (sym is) (none-so n known none)

-- The body that a closure has is that of the procedure that it denotes.

frame-is : (here : area.Heap) (outside : Outside Space) (u : UnitView) (body : Body) → IsHeap here → HasCode here body
    → IsUnitIn here outside body.code u → IsFitUnit u → body.frame ≡ frame_in u
frame-is here outside (unit bytes row frame) body h b is fit =
    frame-read here outside body.code body.frame bytes row frame h b.frame is fit

pub body-is : (here : area.Heap) (outside : Outside Space) (names : List Reference) (procedure : ℕ) (u : UnitView) (within : Option ℕ) (body : Body)
    → IsHeap here → HasBody here procedure body → DenotesIn here outside names (Some procedure) (Procedure (as_compiled u) within)
    → IsBodyIn here outside names u within body
body-is here outside names procedure u within body h b d =
    let p = procedure-denoted here outside names procedure u within h d in
    let is = slot-code here outside names procedure u within p body.code b.code_is in
    record {
      unit_is = is;
      fit = p.is.fit;
      frame_is = frame-is here outside u body h b.code is p.is.fit;
      scope_is = slot-scope here outside names procedure u within p body.scope b.scope_is;
    }
