-- The names of objects, and what is shown of them.
use Rattle.std.proofs.Common.{inl, inr, ◌⊎◌, ◌≡◌, ◌≢◌, ℕ, zero, suc, ◌≤◌, List, [], ◌∷◌, length, map, get_or, refl, sym, ap, ◌∙◌, subst, arith, Some, None}
use Rattle.std.proofs.lemmas.Bool.{cases_eq}
use Rattle.std.proofs.lemmas.List.{length-map}
use Rattle.obj_layout.specs.declared.kind.Kind.{Kind}
use Rattle.obj_layout.specs.declared.header.Header.{Header}
use Rattle.obj_layout.specs.declared.reference.Reference.{Reference}
use Rattle.obj_layout.specs.declared.reference.Reference.TheVariants.{Nil, Pid, Local}
use Rattle.swizzle.specs.Objects.{Object}
use Rattle.swizzle.specs.Heap.{Heap, IsHeap, IsHeld, object_at, header_at, local_of}
use Rattle.swizzle.specs.Joint.{Shown, shown, name_by, name_at, name_of, shown_at, shown_words, Joint}
use Rattle.swizzle.proofs.ObjectLaws.{here, elsewhere, split}
use Rattle.swizzle.proofs.KeptLaws.{held_is}

-- The parts of a name.

pub name-pid : (h : Header) (at : ℕ) → 1 ≤ h.pid → name_by h at ≡ Pid h.pid
name-pid h at some = elsewhere h.pid 0 (Local at) (Pid h.pid) (λ e. omega arith)

pub name-none : (h : Header) (at : ℕ) → h.pid ≡ 0 → name_by h at ≡ Local at
name-none h at none = here h.pid 0 (Local at) (Pid h.pid) none

unfoldable pub pid_in : Reference → ℕ
pid_in Nil = 0
pid_in (Pid pid) = pid
pid_in (Local at) = 0

unfoldable pub at_in : Reference → ℕ
at_in Nil = 0
at_in (Pid pid) = 0
at_in (Local at) = at

-- two objects of the area with one name are one
pub name_at-injective : (heap : Heap) (i j : ℕ) → IsHeap heap → IsHeld heap i → IsHeld heap j → name_at heap i ≡ name_at heap j → i ≡ j
unfolding pid_in at_in
name_at-injective heap i j h hi hj e =
    let a = header_at heap i in
    let b = header_at heap j in
    elim (cases_eq a.pid 0) [
      | inl none ↦
          elim (cases_eq b.pid 0) [
            | inl none_too ↦ ap at_in (sym (name-none a i none) ∙ e ∙ name-none b j none_too)
            | inr some ↦ let bad : Local i ≡ Pid b.pid = sym (name-none a i none) ∙ e ∙ name-pid b j (omega arith) in absurd (cc)
          ]
      | inr some ↦
          elim (cases_eq b.pid 0) [
            | inl none ↦ let bad : Pid a.pid ≡ Local j = sym (name-pid a i (omega arith)) ∙ e ∙ name-none b j none in absurd (cc)
            | inr some_too ↦
                let same : a.pid ≡ b.pid = ap pid_in (sym (name-pid a i (omega arith)) ∙ e ∙ name-pid b j (omega arith)) in
                let one_i = h.one i (object_at heap i) (held_is heap i hi) (omega arith) in
                let one_j = h.one j (object_at heap j) (held_is heap j hj) (omega arith) in
                let both : Some i ≡ Some j = sym one_i ∙ ap (local_of heap) same ∙ one_j in
                cc
          ]
    ]

-- an object of the area with this PID isn't away
pub not_away : (heap : Heap) (at pid : ℕ) → IsHeap heap → IsHeld heap at → Pid pid ≡ name_at heap at → local_of heap pid ≡ None → ⊥
unfolding pid_in
not_away heap at pid h held e away =
    let a = header_at heap at in
    elim (cases_eq a.pid 0) [
      | inl none ↦ let bad : Pid pid ≡ Local at = e ∙ name-none a at none in cc
      | inr some ↦
          let same : pid ≡ a.pid = ap pid_in (e ∙ name-pid a at (omega arith)) in
          let one = h.one at (object_at heap at) (held_is heap at held) (omega arith) in
          let both : None ≡ Some at = sym away ∙ ap (local_of heap) same ∙ one in
          cc
    ]

-- a name has one object
pub Joint-one : (heap : Heap) (holds : ℕ → List ℕ → Type 0) (name : Reference) (it other : Shown) → IsHeap heap → ((pid : ℕ) (a b : List ℕ) → holds pid a → holds pid b → a ≡ b) → Joint heap holds name it → Joint heap holds name other → it ≡ other
unfolding pid_in
Joint-one heap holds name it other h one (inl a) (inl b) =
    let same = name_at-injective heap a.at b.at h a.held b.held (sym a.name_is ∙ b.name_is) in
    a.shown_is ∙ ap (shown_at heap) same ∙ sym b.shown_is
Joint-one heap holds name it other h one (inl a) (inr b) = absurd (not_away heap a.at b.pid h a.held (sym b.name_is ∙ a.name_is) b.away)
Joint-one heap holds name it other h one (inr a) (inl b) = absurd (not_away heap b.at a.pid h b.held (sym a.name_is ∙ b.name_is) a.away)
Joint-one heap holds name it other h one (inr a) (inr b) =
    let pids : a.pid ≡ b.pid = ap pid_in (sym a.name_is ∙ b.name_is) in
    let words = one b.pid a.words b.words (subst (λ (p : ℕ). holds p a.words) pids a.there) b.there in
    a.shown_is ∙ ap shown_words words ∙ sym b.shown_is

-- Names and what is shown, where objects stay.

-- the references of an object have the names that they had
pub names_kept : (old new : Heap) (refs : List Reference) → ((slot to : ℕ) → get_or refs slot Nil ≡ Local to → name_at new to ≡ name_at old to) → map (name_of new) refs ≡ map (name_of old) refs
names_kept old new [] h = refl
names_kept old new (Nil ∷ rs) h = ap (λ (r : List Reference). Nil ∷ r) (names_kept old new rs (λ slot. h (suc slot)))
names_kept old new (Pid pid ∷ rs) h = ap (λ (r : List Reference). Pid pid ∷ r) (names_kept old new rs (λ slot. h (suc slot)))
names_kept old new (Local at ∷ rs) h =
    let one = h 0 at refl in
    let more = names_kept old new rs (λ slot. h (suc slot)) in
    cc

abbrev pub shown_by : Kind → List Reference → List ℕ → ℕ → Shown
shown_by kind refs nums bytes = record { kind = kind; refs = refs; nums = nums; bytes = bytes }

pub same_shown : {k l : Kind} {y z : ℕ} {n m : List ℕ} {r s : List Reference} → k ≡ l → y ≡ z → n ≡ m → r ≡ s → shown_by k r n y ≡ shown_by l s m z
same_shown {k} {l} {y} {z} {n} {m} {r} {s} ek ey en er = cc

pub shown-same : (old new : Heap) (a b : Object) → a.header.kind ≡ b.header.kind → a.header.bytes ≡ b.header.bytes → a.nums ≡ b.nums → map (name_of new) a.refs ≡ map (name_of old) b.refs → shown (name_of new) a ≡ shown (name_of old) b
shown-same old new a b k y n r = same_shown k y n r

pub names-decided : (n m : Reference) → (n ≡ m) ⊎ (n ≢ m)
names-decided Nil Nil = inl refl
names-decided Nil (Pid q) = inr (λ e. cc)
names-decided Nil (Local j) = inr (λ e. cc)
names-decided (Pid p) Nil = inr (λ e. cc)
names-decided (Pid p) (Pid q) = elim (cases_eq p q) [ inl e ↦ inl (ap (λ (x : ℕ). Pid x) e) | inr ne ↦ inr (λ e. ne (cc)) ]
names-decided (Pid p) (Local j) = inr (λ e. cc)
names-decided (Local i) Nil = inr (λ e. cc)
names-decided (Local i) (Pid q) = inr (λ e. cc)
names-decided (Local i) (Local j) = elim (cases_eq i j) [ inl e ↦ inl (ap (λ (x : ℕ). Local x) e) | inr ne ↦ inr (λ e. ne (cc)) ]

-- the name in a slot
pub names_at : (heap : Heap) (refs : List Reference) (slot : ℕ) → get_or (map (name_of heap) refs) slot Nil ≡ name_of heap (get_or refs slot Nil)
names_at heap [] slot = refl
names_at heap (r ∷ rs) zero = refl
names_at heap (r ∷ rs) (suc slot) = names_at heap rs slot

-- an object shows as many references and numbers as its header counts
pub shown-counts : (heap : Heap) (at : ℕ) → IsHeap heap → IsHeld heap at → (length (shown_at heap at).refs ≡ (header_at heap at).refs) × (length (shown_at heap at).nums ≡ (header_at heap at).nums)
shown-counts heap at h held =
    let o = object_at heap at in
    let fit = (split 1 heap.objects at o h.fit (held_is heap at held)).fit in
    (length-map o.refs (name_of heap) ∙ fit.refs, fit.nums)

-- no object of the area has the name nil
pub name-not_nil : (heap : Heap) (at : ℕ) → name_at heap at ≢ Nil
name-not_nil heap at e =
    let a = header_at heap at in
    elim (cases_eq a.pid 0) [
      | inl none ↦ let bad : Local at ≡ Nil = sym (name-none a at none) ∙ e in cc
      | inr some ↦ let bad : Pid a.pid ≡ Nil = sym (name-pid a at (omega arith)) ∙ e in cc
    ]
