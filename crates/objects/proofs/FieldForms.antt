-- The form of a field of a class whose text was got.
use Rattle.std.proofs.Common.{inl, inr, ◌≡◌, ℕ, List, Some, None, refl, sym, ap, ◌∙◌}
use Rattle.std.specs.Prelude.{Ok, Err}
use Rattle.ps_base.specs.CodeUnit.{ConstantsView}
use Rattle.joint_ops.specs.ps_outside.Outside.{Outside}
use Rattle.joint_ops.specs.obj_layout.Stored.{Space}
use Rattle.joint_ops.specs.swizzle.declared.fault.SwizzleFault.{SwizzleFault}
use Rattle.joint_ops.specs.swizzle.Heap as area
use Rattle.joint_ops.specs.swizzle.Heap.{IsHeap}
use Rattle.joint_ops.specs.swizzle.Text.{text_at}
use Rattle.joint_ops.specs.proc_values.Reading.{IsDamaged}
use Rattle.joint_ops.specs.text_forms.declared.forms.Located.{Located}
use Rattle.joint_ops.specs.text_forms.Forms.{forms_of, located_in}
use Rattle.objects.specs.Classes.{AnswersClass, AnswersForm}
use Rattle.objects.proofs.LaterLaws.{got-named}

module _ (old mid : area.Heap) (start before : Outside Space) (code constant field : ℕ) (row : ConstantsView) where
  pub form-failed : (fault : SwizzleFault) → AnswersClass old mid start before code row constant (Err fault)
      → AnswersForm old mid start before code row constant field (Err fault)
  form-failed fault (inl a) = inl (λ class l is place. a.0 class is, a.1)
  form-failed fault (inr b) = inr b

  module _ (at : ℕ) (h : IsHeap mid) (given : AnswersClass old mid start before code row constant (Ok at)) where
    pub form-found : (l : Located) → Some l ≡ located_in (forms_of (text_at mid at)) field
        → AnswersForm old mid start before code row constant field (Ok l.place.form)
    form-found l is =
        let g = got-named old mid start before code constant row given.0 at h given.1 given in
        (given.0, l, given.1, ap (λ (x : List ℕ). located_in (forms_of x) field) (sym g.bytes) ∙ sym is, refl)

    pub form-lacks : (fault : SwizzleFault) → IsDamaged old code fault → located_in (forms_of (text_at mid at)) field ≡ None
        → AnswersForm old mid start before code row constant field (Err fault)
    form-lacks fault damaged none =
        inl (
          λ class l is place.
              let g = got-named old mid start before code constant row class at h is given in
              let bad : None ≡ Some l = sym none ∙ ap (λ (x : List ℕ). located_in (forms_of x) field) g.bytes ∙ place in
              cc,
          damaged,
        )
