use Rattle.std.proofs.Common.{inl, inr, refl, set, Some, ◌≡◌, ◌∙◌, sym, ap, subst, arith}
use Rattle.obj_layout.specs.declared.reference.Reference.TheVariants.{Pid, Local}
use Rattle.swizzle.specs.Heap.{Heap, top_of, IsHeld, ref_at}
use Rattle.obj_layout.specs.Stored.{Holds}
use Rattle.obj_layout.proofs.StoredLaws.{Holds-one}
use Rattle.swizzle.specs.Joint.{Joint, name_of}
use Rattle.swizzle.specs.Heap.{object_at}
use Rattle.swizzle.proofs.JointLaws.{held-back}
use Rattle.swizzle.specs.Changes.{Same, Touched}
use Rattle.swizzle.specs.Touch.{Keeps, IsNear}
use Rattle.swizzle.proofs.TouchLaws.{ref-top, near-local, call-ok, slot_kept, slot_set, keeps-spelled, keeps-trans, joint-spelled, touched-same}
use Rattle.swizzle.proofs.swizzle.Swizzle.touch_slot.Given
use Rattle.swizzle.proofs.swizzle.Swizzle.touch_slot.Goals as goal

-- the slot's reference had this PID
was : (g : Given.Over) (c : goal.After-set_ref g) → ref_at c.args.self.now c.args.object c.args.slot ≡ Pid c.in-Pid.pid
was g c = sym c.peek.ensures.value ∙ c.in-Pid.is

-- the place has the name that the slot has
same_name : (g : Given.Over) (c : goal.After-set_ref g) → name_of c.touch_pid.new.self (Local c.in-Ok.at) ≡ name_of c.touch_pid.new.self (ref_at c.touch_pid.new.self c.args.object c.args.slot)
same_name g c =
    c.in-Ok.ensures.place.name
    ∙ sym (slot_kept c.args.self.now c.touch_pid.new.self c.args.object c.args.slot c.in-Ok.ensures.keeps c.requires.held ∙ ap (name_of c.args.self.now) (was g c))

held : (g : Given.Over) (c : goal.After-set_ref g) → IsHeld c.touch_pid.new.self c.args.object
held g c = (c.in-Ok.ensures.keeps.objects c.args.object c.requires.held).held

swizzled : (g : Given.Over) (c : goal.After-set_ref g) → Keeps c.touch_pid.new.self c.set_ref.new.self
swizzled g c =
    subst (Keeps c.touch_pid.new.self) (sym c.set_ref.ensures.written) (keeps-spelled c.touch_pid.new.self c.args.object c.args.slot (Local c.in-Ok.at) c.sound-in-Ok.ensures (held g c) (same_name g c))

pub returns-in-Ok-clause-target : goal.returns-in-Ok-clause-target
returns-in-Ok-clause-target g c =
    let s = (swizzled g c).objects c.in-Ok.at c.in-Ok.ensures.place.held in
    (s.held, s.name ∙ c.in-Ok.ensures.place.name ∙ sym (ap (name_of c.args.self.now) (was g c)))

pub returns-in-Ok-clause-keeps : goal.returns-in-Ok-clause-keeps
returns-in-Ok-clause-keeps g c = keeps-trans c.args.self.now c.touch_pid.new.self c.set_ref.new.self c.in-Ok.ensures.keeps (swizzled g c)

pub returns-in-Ok-clause-joint : goal.returns-in-Ok-clause-joint
returns-in-Ok-clause-joint g c =
    let mid = c.touch_pid.new.self in
    let same : Same (Joint mid (Holds (g.V.Vault.outside c.touch_pid.new.vault))) (Joint c.set_ref.new.self (Holds (g.V.Vault.outside c.touch_pid.new.vault))) =
    subst (λ (h : Heap). Same (Joint mid (Holds (g.V.Vault.outside c.touch_pid.new.vault))) (Joint h (Holds (g.V.Vault.outside c.touch_pid.new.vault)))) (sym c.set_ref.ensures.written)
    (joint-spelled mid (Holds (g.V.Vault.outside c.touch_pid.new.vault)) c.args.object c.args.slot (Local c.in-Ok.at) c.sound-in-Ok.ensures (held g c) (λ pid a b h k. Holds-one (g.V.Vault.outside c.touch_pid.new.vault) pid a b (g.met.V.Vault.one c.touch_pid.new.vault) h k) (same_name g c)) in
    let touched = touched-same (Joint c.args.self.now (Holds (g.V.Vault.outside c.args.vault.now))) (Joint mid (Holds (g.V.Vault.outside c.touch_pid.new.vault))) (Joint c.set_ref.new.self (Holds (g.V.Vault.outside c.touch_pid.new.vault))) (Pid c.in-Pid.pid) c.in-Ok.ensures.joint same in
    subst (Touched (Joint c.args.self.now (Holds (g.V.Vault.outside c.args.vault.now))) (Joint c.set_ref.new.self (Holds (g.V.Vault.outside c.touch_pid.new.vault)))) (sym (ap (name_of c.args.self.now) (was g c))) touched

pub returns-in-Ok-clause-local : goal.returns-in-Ok-clause-local
returns-in-Ok-clause-local g c =
    let k = c.in-Ok.ensures.keeps.objects c.args.object c.requires.held in
    ap (λ (h : Heap). ref_at h c.args.object c.args.slot) c.set_ref.ensures.written
    ∙ slot_set c.touch_pid.new.self c.args.object c.args.slot (Local c.in-Ok.at) c.sound-in-Ok.ensures (held g c) (omega (arith, k.refs, c.requires.below))

-- the slot is written in place
same_top : (g : Given.Over) (c : goal.After-set_ref g) → top_of c.set_ref.new.self ≡ top_of c.touch_pid.new.self
same_top g c = ap top_of c.set_ref.ensures.written ∙ ref-top c.touch_pid.new.self c.args.object c.args.slot (Local c.in-Ok.at) (held g c)

pub returns-in-Ok-clause-near : goal.returns-in-Ok-clause-near
returns-in-Ok-clause-near g c n =
    let at = near-local c.args.self.now c.in-Pid.pid c.sound.ensures (subst (IsNear c.args.self.now) (ap (name_of c.args.self.now) (was g c)) n) in
    let still = c.touch_pid.ensures.near at.0 at.1 in
    (same_top g c ∙ ap top_of still.0, still.1)

pub returns-in-Ok-clause-call : goal.returns-in-Ok-clause-call
returns-in-Ok-clause-call g c = call-ok c.args.self.now c.touch_pid.new.self c.set_ref.new.self _ _ c.in-Ok.at (Some c.in-Ok.at) c.in-Ok.ensures.call (same_top g c)

pub returns-in-Ok-clause-came : goal.returns-in-Ok-clause-came
returns-in-Ok-clause-came g c = elim (c.in-Ok.ensures.came) [
  | inl none ↦ inl (same_top g c ∙ none)
  | inr some ↦ inr (some.0, was g c ∙ some.1, some.2, λ words held. same_top g c ∙ some.3 words held)
]

pub returns-in-Ok-clause-only : goal.returns-in-Ok-clause-only
returns-in-Ok-clause-only g c at there =
    let mid = c.touch_pid.new.self in
    let o = object_at mid c.args.object in
    let back = held-back mid c.args.object at (record o { refs = set o.refs c.args.slot (Local c.in-Ok.at) }) (held g c) refl
    (subst (λ (h : Heap). IsHeld h at) c.set_ref.ensures.written there) in
    elim (c.in-Ok.ensures.only at back) [
      | inl before ↦ inl before
      | inr named ↦ inr (((swizzled g c).objects at back).name ∙ named ∙ sym (ap (name_of c.args.self.now) (was g c)))
    ]

pub returns-in-Ok-clause-sound : goal.returns-in-Ok-clause-sound
returns-in-Ok-clause-sound g c pid is away = c.in-Ok.ensures.sound pid (sym (was g c) ∙ is) away
