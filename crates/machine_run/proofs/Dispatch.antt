-- What an instruction does, by which one it is; and the step of the machine, by what is spelled at its offset.
use Rattle.std.proofs.Common.{◌≡◌, ℕ, ◌+◌, List, drop, refl, sym, ap, ◌∙◌, subst}
use Rattle.std.specs.Prelude.{◌≢◌, Bool, true, false, if◌then◌else◌, Some, None}
use Rattle.ps_base.specs.CodeUnit.{UnitView, unit}
use Rattle.ps_base.specs.Instr.{width_of}
use Rattle.ps_base.specs.declared.instr.Instr.{Instr}
use Rattle.machine_core.specs.ps_outside.Outside.{Outside}
use Rattle.machine_core.specs.obj_layout.Stored.{Space}
use Rattle.machine_core.specs.swizzle.Heap as area
use Rattle.machine_core.specs.swizzle.Heap.{IsHeap}
use Rattle.machine_core.specs.swizzle.Reading.{LeavesOutside}
use Rattle.machine_core.specs.swizzle.Text.{text_at}
use Rattle.machine_core.specs.proc_values.Reading.{IsInstrIn, IsSpelled}
use Rattle.machine_core.specs.joint_ops.World.{IsUnitIn}
use Rattle.machine_core.specs.ps_stepping.Config.{Config, IsAt, code_in}
use Rattle.machine_core.specs.ps_stepping.Machine.{Step, Stuck, acts, act, behind}
use Rattle.machine_core.specs.declared.machine.Machine.{Machine}
use Rattle.machine_core.specs.declared.stepped.Stepped.{Stepped}
use Rattle.machine_core.specs.declared.stepped.Stepped.TheVariants.{Breaks, Damaged}
use Rattle.machine_core.specs.Holding.{IsSound, Holds}
use Rattle.machine_core.specs.Naming.{NamesObjects}
use Rattle.machine_core.specs.Failing.{FailsAsReading}
use Rattle.machine_core.specs.ps_stepping.Plain.{is_plain, acts_plainly, PlainSteps, at_plain, at_another, at_none}
use Rattle.machine_core.specs.Stepped.{Takes, TakesStep, Does}
use Rattle.machine_core.proofs.Failing.{whole-failing}
use Rattle.machine_core.proofs.of_swizzle.ReadingLaws.{leaves-none}
use Rattle.machine_core.proofs.of_joint_ops.SeenLaws.{seen-is}
use Rattle.machine_core.proofs.of_joint_ops.CodeLaws.{code-bytes}
use Rattle.machine_core.specs.joint_ops.heap_meaning.Units.{IsUnitSeen, shown_code}
use Rattle.machine_run.specs.Acting.{ActsAs}

module _ (before after : Outside Space) {i j : Instr} {own : ℕ} {old new : Machine} {answer : Stepped} (is : i ≡ j) where
  -- an instruction that may fetch
  pub acts_as : Takes before after (acts_plainly j own) old new answer → FailsAsReading before after answer new → LeavesOutside before after
      → ActsAs before after i own old new answer
  acts_as takes fails leaves = record {
    takes = subst (λ (x : Instr). Takes before after (acts_plainly x own) old new answer) (sym is) takes;
    fails = fails;
    leaves = leaves;
  }

module _ (outside : Outside Space) {i j : Instr} {own : ℕ} {old new : Machine} {answer : Stepped} (is : i ≡ j) where
  -- one beside a vault that stays
  pub acts_here : Takes outside outside (acts_plainly j own) old new answer → FailsAsReading outside outside answer new → ActsAs outside outside i own old new answer
  acts_here takes fails = acts_as outside outside is takes fails (leaves-none outside)

  -- one that doesn't break off
  pub acts_on : Takes outside outside (acts_plainly j own) old new answer → answer ≢ Breaks → ActsAs outside outside i own old new answer
  acts_on takes goes = acts_here takes (whole-failing outside outside answer new goes)

-- the bytes of a unit's code
unit_code : (here : area.Heap) (outside : Outside Space) (at : ℕ) (u : UnitView) → IsHeap here → IsUnitIn here outside at u → text_at here at ≡ code_in u
unfolding IsUnitSeen
unit_code here outside at (unit code cs frame) heap u =
    let s = u.is in
    let same = seen-is here outside at _ s.0 heap u.held refl s.1 in
    code-bytes here at (sym (ap (λ it. it.kind) same) ∙ s.2.kind_is) ∙ sym (ap shown_code same) ∙ s.2.code_is

pub code_of : (outside : Outside Space) (m : Machine) (c : Config) → IsHeap m.objects → Holds outside m c → text_at m.objects m.code ≡ code_in c.unit
code_of outside m c heap h = unit_code m.objects outside m.code c.unit heap h.held.unit_is

-- the machine after the instruction
pub holds_after : (outside : Outside Space) (m : Machine) (c : Config) (i : Instr) (next : ℕ) → Holds outside m c → next ≡ m.at + width_of i
    → Holds outside (record m { at = next }) (behind i c)
holds_after outside m c i next h is =
    let k = h.held in
    record {
      names = h.names;
      held = record {
        unit_is = k.unit_is;
        fit = k.fit;
        frame_is = k.frame_is;
        at_is = ap (λ (n : ℕ). n + width_of i) k.at_is ∙ sym is;
        nums_are = k.nums_are;
        refs_are = k.refs_are;
        scope_is = k.scope_is;
        callers_are = k.callers_are;
        input_is = k.input_is;
        turns_are = k.turns_are;
        run = k.run;
      };
    }

-- it names what it named
pub names_after : (m : Machine) (next : ℕ) → NamesObjects m → NamesObjects (record m { at = next })
names_after m next n = record { code = n.code; scope = n.scope; own = n.own; below = n.below; callers = n.callers; item = n.item; databases = n.databases }

pub sound_after : (m : Machine) (next : ℕ) → IsSound m → IsSound (record m { at = next })
sound_after m next s = record {
  nums_fit = s.nums_fit;
  refs_fit = s.refs_fit;
  nums_below = s.nums_below;
  refs_below = s.refs_below;
  nums_room = s.nums_room;
  refs_room = s.refs_room;
  values_room = s.values_room;
  waiting = s.waiting;
}

module _ (before after : Outside Space) (m : Machine) (heap : IsHeap m.objects) where
  -- an instruction is spelled at the machine's offset exactly where it is at the configuration's
  pub at_offset : (c : Config) (i : Instr) (next : ℕ) → Holds before m c → IsSpelled (text_at m.objects m.code) m.at i next → IsAt (code_in c.unit) c.at i
  at_offset c i next h at =
      let same = sym (ap (λ (n : ℕ). drop n (code_in c.unit)) h.held.at_is) in
      record {
        is_instr = at.is_instr;
        rest = at.rest;
        spelled = sym same ∙ ap (λ (code : List ℕ). drop m.at code) (sym (code_of before m c heap h)) ∙ at.spelled;
      }

  pub at_machine : (c : Config) (i : Instr) → Holds before m c → IsAt (code_in c.unit) c.at i → IsSpelled (text_at m.objects m.code) m.at i (m.at + width_of i)
  at_machine c i h at = record {
    is_instr = at.is_instr;
    rest = at.rest;
    spelled = ap (λ (code : List ℕ). drop m.at code) (code_of before m c heap h) ∙ sym (ap (λ (n : ℕ). drop n (code_in c.unit)) h.held.at_is) ∙ at.spelled;
    next_is = refl;
  }

  -- where there is no instruction, the run is stuck
  pub step_nothing : IsSound m → IsInstrIn (text_at m.objects m.code) m.at None → TakesStep before before m m Damaged
  step_nothing sound is = record {
    sound = sound;
    names = λ n. n;
    size = refl;
    does = λ c h. (Stuck, at_none (λ i at. is i (m.at + width_of i) (at_machine c i h at)), refl);
  }

  -- the step is what the instruction does from after itself
  pub step_acts : (new : Machine) (i : Instr) (next : ℕ) (answer : Stepped) → IsInstrIn (text_at m.objects m.code) m.at (Some (i, next))
      → ActsAs before after i m.at (record m { at = next }) new answer → TakesStep before after m new answer
  step_acts new i next answer is acting = record {
    sound = acting.takes.sound;
    names = λ n. acting.takes.names (names_after m next n);
    size = acting.takes.size;
    does = λ c h. plain c h (is_plain i) refl;
  }
    where
      plain : (c : Config) → Holds before m c → (b : Bool) → is_plain i ≡ b → (s : Step) × PlainSteps c s × Does before after m.objects.size s answer new
      plain c h b same =
          by b same
          (subst (λ (x : Bool). Does before after m.objects.size (if x then acts i c.at (behind i c) else Stuck) answer new) same
          (subst (λ (n : ℕ). Does before after m.objects.size (acts_plainly i n (behind i c)) answer new) (sym h.held.at_is)
          (acting.takes.does (behind i c) (holds_after before m c i next h is.next_is))))
        where
          by : (b : Bool) → is_plain i ≡ b → Does before after m.objects.size (if b then acts i c.at (behind i c) else Stuck) answer new
              → (s : Step) × PlainSteps c s × Does before after m.objects.size s answer new
          by true same did = (act i c, at_plain (at_offset c i next h is) same, did)
          by false same did = (Stuck, at_another (at_offset c i next h is) same, did)
