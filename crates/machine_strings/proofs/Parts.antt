-- What an instruction does, from what its parts take from the stacks and give.
use Rattle.std.proofs.Common.{◌≡◌, ℕ, List, Some, sym, ◌∙◌, subst}
use Rattle.std.specs.Prelude.{Result, IfOk}
use Rattle.ps_base.specs.declared.line.Line.{Line}
use Rattle.machine_core.specs.ps_outside.Outside.{Outside}
use Rattle.machine_core.specs.obj_layout.Stored.{Space}
use Rattle.machine_core.specs.obj_layout.declared.reference.Reference.{Reference}
use Rattle.machine_core.specs.swizzle.Heap as area
use Rattle.machine_core.specs.swizzle.Heap.{IsHeld}
use Rattle.machine_core.specs.swizzle.Touch.{Keeps}
use Rattle.machine_core.specs.heap_texts.declared.fault.OpFault.{OpFault}
use Rattle.machine_core.specs.ps_heap.Values.{Text}
use Rattle.machine_core.specs.ps_heap.Texts.{Attempt}
use Rattle.machine_core.specs.ps_stepping.Config.{Config}
use Rattle.machine_core.specs.ps_stepping.Steps.{Step, attempted, pop_text}
use Rattle.machine_core.specs.ps_stepping.Objects.{make_text}
use Rattle.machine_core.specs.joint_ops.World.{DenotesIn}
use Rattle.machine_core.specs.joint_ops.Made.{MakesText}
use Rattle.machine_core.specs.declared.machine.Machine.{Machine}
use Rattle.machine_core.specs.declared.stepped.Stepped.{Stepped}
use Rattle.machine_core.specs.Holding.{HeldBy, words_of}
use Rattle.machine_core.specs.Stepped.{Does, Takes, UnlessBroken}
use Rattle.machine_core.specs.inside.Taking.{Leaves}
use Rattle.machine_core.proofs.of_heap_ops.ClassLaws.{stands-kept}
use Rattle.machine_core.proofs.Carrying.{size-behind}
use Rattle.machine_core.proofs.Naming.{names-last}
use Rattle.machine_operands.specs.Popping.{PopsText}
use Rattle.machine_operands.specs.Giving.{GivesText}
pub use Rattle.machine_operands.proofs.Parts.{both-leave, after-parts}

-- where the objects stay, what denoted a text denotes it still
pub still-denotes : (out : Outside Space) (old new : Machine) (names : List Reference) (at : ℕ) (bytes : List ℕ) → new.objects ≡ old.objects
    → DenotesIn old.objects out names (Some at) (Text bytes) → DenotesIn new.objects out names (Some at) (Text bytes)
still-denotes out old new names at bytes same d = subst (λ (here : area.Heap). DenotesIn here out names (Some at) (Text bytes)) (sym same) d

module _ (out : Outside Space) (of : Config → Step) (old last : Machine) (left : Leaves old last) where
  module _ (line : Line) (now : area.Heap) (made : Result ℕ OpFault) where
    -- the step goes on with what this attempt yields, and so the text was made
    pub record Makes (names : List Reference) (c : Config) : Type 0 where
      pub next : Config
      pub attempt : Attempt (List ℕ)
      pub step : of c ≡ attempted line attempt (λ bytes. make_text bytes next)
      pub held : HeldBy out names last next
      pub makes : MakesText last.objects now out next.store.held.objects names attempt made

    pub gives : (new : Machine) (r : Stepped) → Keeps last.objects now → IfOk made (IsHeld now) → GivesText out line (record last { objects = now }) new r made
        → ((names : List Reference) (c : Config) → HeldBy out names old c → Makes names c) → Takes out out of old new r
    gives new r keeps held g does = record {
      sound = g.ends.sound;
      names = λ n. g.ends.names (names-last last.objects now (stands-kept last.objects now keeps) (words_of last) last.writing.item (left.names n)) held;
      size =
          subst (λ (here : area.Heap). UnlessBroken r (new.objects.size ≡ here.size)) left.objects
          (size-behind r last.objects.size now.size new.objects.size keeps.size g.ends.size);
      does = λ c h.
          let d = does h.names c h.held in
          subst (λ (s : Step). Does out out old.objects.size s r new) (sym d.step)
          (subst (λ (here : area.Heap). Does out out here.size (attempted line d.attempt (λ bytes. make_text bytes d.next)) r new) left.objects
          (g.does last.objects h.names d.next d.attempt d.held d.makes));
    }

module _ (out : Outside Space) (old mid last : Machine) (b a : ℕ) where
  -- Two texts were popped, the right operand first.
  pub record TwoTexts (names : List Reference) (c : Config) : Type 0 where
    pub next : Config
    pub left : List ℕ
    pub right : List ℕ
    pub pops : (more : List ℕ → List ℕ → Config → Step) → pop_text c (λ y d. pop_text d (λ x e. more x y e)) ≡ more left right next
    pub held : HeldBy out names last next
    pub left_is : DenotesIn last.objects out names (Some a) (Text left)
    pub right_is : DenotesIn last.objects out names (Some b) (Text right)

  pub two-texts : PopsText out old mid (Some b) → PopsText out mid last (Some a) → last.objects ≡ mid.objects → (names : List Reference) (c : Config)
      → HeldBy out names old c → TwoTexts names c
  two-texts p q same names c h =
      let y = p.gives names c h in
      let x = q.gives names y.0 y.3 in
      record {
        next = x.0;
        left = x.1;
        right = y.1;
        pops = λ more. y.2 (λ right d. pop_text d (λ left e. more left right e)) ∙ x.2 (λ left e. more left y.1 e);
        held = x.3;
        left_is = x.4;
        right_is = still-denotes out mid last names b y.1 same y.4;
      }
