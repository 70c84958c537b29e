-- The text constant that is a vector's type, and what follows it.
use Rattle.std.proofs.Common.{◌≡◌, ℕ, List, Option, Some, refl, sym, ap, ◌∙◌}
use Rattle.std.specs.Prelude.{Ok, Err}
use Rattle.ps_base.specs.CodeUnit.{ConstantView}
use Rattle.machine_core.specs.ps_outside.Outside.{Outside}
use Rattle.machine_core.specs.obj_layout.Stored.{Space}
use Rattle.machine_core.specs.obj_layout.declared.reference.Reference.{Reference}
use Rattle.machine_core.specs.swizzle.Reading.{LeavesOutside}
use Rattle.machine_core.specs.text_forms.declared.forms.Form.{Form}
use Rattle.machine_core.specs.text_forms.Forms.{element_of}
use Rattle.machine_core.specs.ps_heap.Values.{Text}
use Rattle.machine_core.specs.ps_stepping.Config.{Config}
use Rattle.machine_core.specs.ps_stepping.Steps.{Step, Stuck, text_in, with_text}
use Rattle.machine_core.specs.joint_ops.World.{DenotesIn}
use Rattle.machine_core.specs.declared.machine.Machine.{Machine}
use Rattle.machine_core.specs.declared.stepped.Stepped.{Stepped}
use Rattle.machine_core.specs.declared.stepped.Stepped.TheVariants.{Damaged}
use Rattle.machine_core.specs.Holding.{IsSound}
use Rattle.machine_core.specs.Naming.{NamesObjects}
use Rattle.machine_core.specs.Stepped.{Takes}
use Rattle.machine_core.proofs.Carrying.{does-behind, size-behind}
use Rattle.machine_operands.specs.Constants.{EndsReading, ReadsConstant}
use Rattle.machine_vectors.specs.inside.Making.{TakesType}
use Rattle.machine_vectors.proofs.Parts.{does-as}

module _ (before after : Outside Space) (k : ℕ) (of : List ℕ → Config → Step) (old mid : Machine) where
  -- what follows the constant is what the step does
  pub type-then : (new : Machine) (ty : ℕ) (r : Stepped) → LeavesOutside before after → EndsReading old mid (Ok ty) → ReadsConstant before after k old mid (Ok ty)
      → TakesType after of ty mid new r → Takes before after (λ c. with_text k c (λ text. of text c)) old new r
  type-then new ty r left ends reads t = record {
    sound = t.sound;
    names = λ n. t.names;
    size = size-behind r old.objects.size mid.objects.size new.objects.size ends.size t.size;
    does = λ c h.
        let g = reads.gives h.names c h.held in
        does-as before after old.objects.size (with_text k c (λ text. of text c)) (of g.0 c) r new
        (ap (λ (o : Option ConstantView). text_in o (λ text. of text c)) g.1)
        (does-behind before after after old.objects.size mid.objects.size (of g.0 c) r new left ends.size (t.does h.names c g.0 g.2.held g.3));
  }

  -- it couldn't be read, or is no text
  pub type-none : (r : Stepped) → EndsReading {T = ℕ} old mid (Err r) → ReadsConstant before after k old mid (Err r)
      → Takes before after (λ c. with_text k c (λ text. of text c)) old mid r
  type-none r ends reads = record {
    sound = ends.sound;
    names = λ n. ends.names;
    size = ends.size;
    does = λ c h. reads.gives h.names c h.held (λ text. of text c);
  }

-- The form of the elements of a type was told by its text.
module _ (out : Outside Space) (m : Machine) (ty : ℕ) (f : Form) (bytes : List ℕ) (tells : f ≡ element_of bytes)
    (value : (names : List Reference) (text : List ℕ) → DenotesIn m.objects out names (Some ty) (Text text) → bytes ≡ text) where
  pub type-form : (names : List Reference) (text : List ℕ) → DenotesIn m.objects out names (Some ty) (Text text) → element_of text ≡ f
  type-form names text d = ap element_of (sym (value names text d)) ∙ sym tells

  -- they are of the other row
  pub type-stuck : (when : Form → Step → Step) (next : List ℕ → Config → Step) → IsSound m → NamesObjects m → ((s : Step) → when f s ≡ Stuck)
      → TakesType out (λ text c. when (element_of text) (next text c)) ty m m Damaged
  type-stuck when next sound n misfits = record {
    sound = sound;
    names = n;
    size = refl;
    does = λ names c text h d. ap (λ (x : Form). when x (next text c)) (type-form names text d) ∙ misfits (next text c);
  }
