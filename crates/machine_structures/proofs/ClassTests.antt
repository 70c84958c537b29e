-- Classes of what was popped.
use Rattle.std.proofs.Common.{◌≡◌, inl, inr, ℕ, Bool, List, Option, Some, sym, ◌∙◌, subst}
use Rattle.std.specs.Prelude.{IfOk, Result, Ok, Err}
use Rattle.machine_core.specs.ps_outside.Outside.{Outside}
use Rattle.machine_core.specs.obj_layout.Stored.{Space}
use Rattle.machine_core.specs.obj_layout.declared.reference.Reference.{Reference}
use Rattle.machine_core.specs.swizzle.Heap as area
use Rattle.machine_core.specs.swizzle.Heap.{Stands as AllStand}
use Rattle.machine_core.specs.swizzle.Reading.{LeavesOutside}
use Rattle.machine_core.specs.swizzle.Touch.{Keeps}
use Rattle.machine_core.specs.heap_ops.Outcomes.{UnlessFault}
use Rattle.machine_core.specs.heap_texts.declared.fault.OpFault.{OpFault}
use Rattle.machine_core.specs.ps_heap.Objects.{Heap, is_class}
use Rattle.machine_core.specs.ps_heap.Texts.{Yields}
use Rattle.machine_core.specs.ps_heap.Values.{Value, number_of}
use Rattle.machine_core.specs.ps_stepping.Config.{Config}
use Rattle.machine_core.specs.ps_stepping.Steps.{Step, push_num}
use Rattle.machine_core.specs.ps_stepping.Objects.{is_of_class, pop_object}
use Rattle.machine_core.specs.joint_ops.World.{Answers, DenotesIn, IsUnitIn, IsWorld}
use Rattle.machine_core.specs.objects.Classes.{BreaksByCode, LacksClass, NamesClass}
use Rattle.machine_core.proofs.of_heap_ops.ClassLaws.{stands-kept}
use Rattle.machine_core.specs.declared.machine.Machine.{Machine}
use Rattle.machine_core.specs.declared.stepped.Stepped.{Stepped}
use Rattle.machine_core.specs.Holding.{HeldBy, world_in}
use Rattle.machine_core.specs.Stepped.{Does, Takes}
use Rattle.machine_core.specs.inside.Taking.{Leaves}
use Rattle.machine_operands.specs.Giving.{GivesFlag}
use Rattle.machine_operands.specs.Popping.{PopsObject}
use Rattle.machine_operands.proofs.Parts.{ends-after, unless-fault}
use Rattle.machine_structures.proofs.ClassFields.{class-follows, class-or-none, lacks-class, names-class, no-class}

module _ (k : ℕ) where
  abbrev tests : Config → List ℕ → Step
  tests c class = pop_object c (λ v d. push_num (number_of (is_class d.store.held.objects v class)) d)

  module _ (before after : Outside Space) (old mid : Machine) (now : area.Heap) (left : Leaves old mid) (object : Option ℕ)
      (pops : PopsObject before old mid (Some object)) where
    code-there : (names : List Reference) (c : Config) → HeldBy before names old c → IsUnitIn mid.objects before old.code c.unit
    code-there names c h = subst (λ (here : area.Heap). IsUnitIn here before old.code c.unit) (sym left.objects) h.unit_is

    pub class-told : (told : Result Bool OpFault) (new : Machine) (r : Stepped) → LeavesOutside before after → UnlessFault told (Keeps mid.objects now)
        → ((of : Heap) (names : List Reference) (class : List ℕ) (o : Value) → IsWorld mid.objects before of names
        → NamesClass mid.objects before old.code k class → DenotesIn mid.objects before names object o
        → Answers mid.objects now before after (λ is wanted. is ≡ wanted) of names (Yields (is_class of o class)) told)
        → (LacksClass mid.objects before old.code k → BreaksByCode mid.objects now before after old.code told)
        → GivesFlag before after (record mid { objects = now }) new r told → Takes before after (is_of_class k) old new r
    class-told told new r leaves keeps got lacked give =
        ends-after before after (is_of_class k) old mid left told (λ is. Unit {0}) now new r give.ends
        (unless-fault told (stands-kept mid.objects now) keeps) (unless-fault told (λ (e : Keeps mid.objects now). e.size) keeps) (none-lies told)
        (λ names c h. elim (class-or-none c.unit k) [
          | inl f ↦
              let p = pops.gives names c h in
              let d = p.0 in
              let v = p.1 in
              let same : is_of_class k c ≡ push_num (number_of (is_class d.store.held.objects v f.class)) d =
              class-follows c.unit k f (tests c) ∙ p.2 (λ o e. push_num (number_of (is_class e.store.held.objects o f.class)) e) in
              subst (λ (s : Step). Does before after mid.objects.size s r new) (sym same)
              (give.does mid.objects names d (is_class d.store.held.objects v f.class) leaves p.3
              (got d.store.held.objects names f.class v (world_in p.3.run) (names-class mid.objects before old.code k c.unit (code-there names c h) f) p.4))
          | inr none ↦
              give.damaged mid.objects old.code (is_of_class k c) (no-class c.unit k none (tests c))
              (lacked (lacks-class mid.objects before old.code k c.unit (code-there names c h) none))
        ])
      where
        none-lies : (told : Result Bool OpFault) → IfOk told (λ is. Unit {0})
        none-lies (Ok is) = tt
        none-lies (Err fault) = tt
