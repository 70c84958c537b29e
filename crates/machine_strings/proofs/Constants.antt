-- Text constants that are pushed.
use Rattle.std.proofs.Common.{◌≡◌, ℕ, Option, Some, None, refl, sym, ap, subst}
use Rattle.std.specs.Prelude.{Ok, Err}
use Rattle.ps_base.specs.CodeUnit.{ConstantView, text, literal}
use Rattle.machine_core.specs.ps_outside.Outside.{Outside}
use Rattle.machine_core.specs.obj_layout.Stored.{Space}
use Rattle.machine_core.specs.obj_layout.declared.kind.Kind.TheVariants as kind
use Rattle.machine_core.specs.swizzle.Reading.{LeavesOutside}
use Rattle.machine_core.specs.ps_heap.Values.{Text}
use Rattle.machine_core.specs.ps_stepping.Config.{Config, constants_in, constant_at}
use Rattle.machine_core.specs.ps_stepping.Steps.{Step, push_ref, text_in}
use Rattle.machine_core.specs.ps_stepping.Machine.{push_text}
use Rattle.machine_core.specs.declared.machine.Machine.{Machine}
use Rattle.machine_core.specs.declared.stepped.Stepped.{Stepped}
use Rattle.machine_core.specs.Stepped.{Does, Takes}
use Rattle.machine_core.specs.inside.Taking.{TakesRef}
use Rattle.machine_core.proofs.Carrying.{does-behind, size-behind}
use Rattle.machine_operands.specs.Constants.{EndsReading, ReadsConstant}
use Rattle.machine_operands.specs.Popping.{IsKind}

-- what pushes a constant goes on with its text
pushes-text : (constant : Option ConstantView) (c : Config) → push_text constant c ≡ text_in constant (λ bytes. push_ref (Text bytes) c)
pushes-text (Some (text bytes)) c = refl
pushes-text (Some (literal compiled)) c = refl
pushes-text None c = refl

module _ (before after : Outside Space) (k : ℕ) (old mid : Machine) where
  pub constant-pushed : (new : Machine) (at : ℕ) (r : Stepped) → LeavesOutside before after → IsKind kind.Text mid.objects at → EndsReading old mid (Ok at)
      → ReadsConstant before after k old mid (Ok at) → TakesRef after after push_ref mid (Some at) new r
      → Takes before after (λ c. push_text (constant_at (constants_in c.unit) k) c) old new r
  constant-pushed new at r left is ends reads t = record {
    sound = t.sound;
    names = λ n. t.names ends.names is.0;
    size = size-behind r old.objects.size mid.objects.size new.objects.size ends.size t.size;
    does = λ c h.
        let g = reads.gives h.names c h.held in
        subst (λ (s : Step). Does before after old.objects.size s r new) (sym (ap (λ (constant : Option ConstantView). push_text constant c) g.1))
        (does-behind before after after old.objects.size mid.objects.size (push_ref (Text g.0) c) r new left ends.size (t.does h.names (Text g.0) c g.2.held g.3));
  }

  -- it couldn't be read, or is no text
  pub no-constant : (r : Stepped) → EndsReading {T = ℕ} old mid (Err r) → ReadsConstant before after k old mid (Err r)
      → Takes before after (λ c. push_text (constant_at (constants_in c.unit) k) c) old mid r
  no-constant r ends reads = record {
    sound = ends.sound;
    names = λ n. ends.names;
    size = ends.size;
    does = λ c h.
        subst (λ (s : Step). Does before after old.objects.size s r mid) (sym (pushes-text (constant_at (constants_in c.unit) k) c))
        (reads.gives h.names c h.held (λ bytes. push_ref (Text bytes) c));
  }
