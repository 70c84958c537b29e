-- What a vault tells once images were stored.
use Rattle.std.proofs.Common.{inl, inr, ◌⊎◌, ◌≡◌, ℕ, ◌≤◌, List, [], ◌∷◌, length, refl, sym, ap, ◌∙◌, subst, arith, Some, None}
use Rattle.swizzle.specs.obj_layout.ps_outside.Outside.{Outside}
use Rattle.swizzle.specs.obj_layout.Stored.{Space, HasObject, Holds, IsSpace}
use Rattle.swizzle.specs.obj_layout.Storing.{Becomes}
use Rattle.swizzle.proofs.of_obj_layout.StoredLaws.{Holds-within}
use Rattle.swizzle.specs.Heap.{Heap, IsHeap, IsHeld, object_at, header_at, local_of}
use Rattle.swizzle.specs.Image.{far_object}
use Rattle.swizzle.proofs.KeptLaws.{held_is}
use Rattle.swizzle.proofs.ImageLaws.{image-far}
use Rattle.reaching.specs.Reaching.{IsIn}
use Rattle.joint_ops.specs.World.{IsStored}
use Rattle.renames.specs.Numbered.{SameAway}
use Rattle.new_pids.specs.Giving.{AreStoredBelow}
use Rattle.commit_images.specs.Images.{image_of, with_images, over_images}
use Rattle.commit_images.specs.Staging.{AreReady, AreThere}
use Rattle.commit_images.specs.Stored.{IsCut, AreWhole, AreNumbered, HasNone, IsImage, Stores}
use Rattle.commit_images.specs.Saved.{saved}
use Rattle.commit_images.proofs.StoreLaws.{stores, stores-directed}
use Rattle.commit_images.proofs.SaveLaws.{saved-is}

-- what may come into the area has a PID below the used words
pub stored-below : (outside : Outside Space) (used directory : ℕ) → ((space : Space) → outside.contents space → IsSpace used directory space) → AreStoredBelow outside used
stored-below outside used directory space pid words s =
    let within = Holds-within outside used directory pid words space s.there in
    let long = s.far.long in
    (within.low, omega (arith, within.high, long))

-- what has an image may come into the area
pub image-stored : (outside : Outside Space) (heap : Heap) (x : ℕ) → IsHeap heap → AreReady heap (x ∷ []) → Holds outside (header_at heap x).pid (image_of heap x) → IsStored outside (header_at heap x).pid (image_of heap x)
unfolding image_of
image-stored outside heap x h ready held =
    let r = ready x (inl refl) in
    record { there = held; header = (far_object heap x).header; far = image-far heap x h r.0 r.1; clean = record { flags = refl; pid = refl; chain = refl } }

module _ (heap : Heap) (fresh changed : List ℕ) (directory used : ℕ) (before after : Outside Space)
    (h : IsHeap heap)
    (one : (a b : Space) → before.contents a → before.contents b → a ≡ b)
    (long : (space : Space) → before.contents space → length space.words ≡ used)
    (ready : AreReady heap fresh)
    (again : AreReady heap changed)
    (numbered : AreNumbered heap fresh used)
    (there : (space : Space) → before.contents space → AreThere heap changed (with_images heap fresh space))
    (becomes : Becomes before after (saved heap fresh changed directory))
    (cut : (space : Space) → before.contents space → IsCut space)
    (whole : AreWhole heap fresh)
    (also : AreWhole heap changed)
    (kept : (x : ℕ) → IsIn x changed → (words : List ℕ) × Holds before (header_at heap x).pid words) where
  pub stored-space : (space : Space) → before.contents space → Stores heap fresh changed space (saved heap fresh changed directory space)
  stored-space space is =
      let s = stores heap fresh changed space h (cut space is) ready again whole also (subst (AreNumbered heap fresh) (sym (long space is)) numbered)
      (λ x l. let k = kept x l in (k.0, subst (λ (s : Space). HasObject s (header_at heap x).pid k.0) (one k.1.space space k.1.is is) k.1.has)) (there space is) in
      subst (λ (s : Space). Stores heap fresh changed space s) (sym (saved-is heap fresh changed directory space))
      (stores-directed heap fresh changed space (over_images heap changed (with_images heap fresh space)) directory s)

  pub holds-here : (space : Space) → before.contents space → (x : ℕ) → IsIn x fresh ⊎ IsIn x changed → Holds after (header_at heap x).pid (image_of heap x)
  holds-here space is x l = record { space = saved heap fresh changed directory space; is = becomes.told space is; has = (stored-space space is).here x l }

  pub holds-stays : (pid : ℕ) (words : List ℕ) → HasNone heap changed pid → Holds before pid words → Holds after pid words
  holds-stays pid words none k = record { space = saved heap fresh changed directory k.space; is = becomes.told k.space k.is; has = (stored-space k.space k.is).stays pid words none k.has }

  -- nothing else is held
  pub holds-cases : (pid : ℕ) (words : List ℕ) → Holds after pid words → (HasNone heap changed pid × Holds before pid words) ⊎ IsImage heap fresh changed pid words
  holds-cases pid words k =
      let was = becomes.no_other k.space k.is in
      elim ((stored-space was.0 was.1).no_other pid words (subst (λ (s : Space). HasObject s pid words) (sym was.2) k.has)) [
        | inl old ↦ inl (old.0, record { space = was.0; is = was.1; has = old.1 })
        | inr image ↦ inr image
      ]

  pub cut-after : (space : Space) → after.contents space → IsCut space
  cut-after space is = let was = becomes.no_other space is in subst IsCut was.2 (stored-space was.0 was.1).cut

  -- an object of the area is found by its PID
  local : (x pid : ℕ) → IsHeld heap x → (header_at heap x).pid ≡ pid → 1 ≤ pid → local_of heap pid ≡ None → ⊥
  local x pid held e low away =
      let is : local_of heap (header_at heap x).pid ≡ Some x = h.one x (object_at heap x) (held_is heap x held) (omega (arith, e, low)) in
      let bad : None ≡ Some x = sym away ∙ (ap (local_of heap) (sym e) ∙ is) in
      cc

  listed-held : (x : ℕ) → IsIn x fresh ⊎ IsIn x changed → IsHeld heap x
  listed-held x (inl l) = (ready x l).0
  listed-held x (inr l) = (again x l).0

  -- What isn't in the area stays as it was.
  pub same-away : AreStoredBelow before used → ((pid : ℕ) (words : List ℕ) → Holds after pid words → 1 ≤ pid) → SameAway heap (IsStored before) (IsStored after)
  same-away range low = record {
    forth = λ pid words away s.
        let r = range pid words s in
        record { there = holds-stays pid words (λ x l e. local x pid (again x l).0 e r.0 away) s.there; header = s.header; far = s.far; clean = s.clean };
    back = λ pid words away s. elim (holds-cases pid words s.there) [
      | inl old ↦ record { there = old.1; header = s.header; far = s.far; clean = s.clean }
      | inr image ↦ absurd (local image.at pid (listed-held image.at image.listed) (sym image.pid_is) (low pid words s.there) away)
    ];
  }
