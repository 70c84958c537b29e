-- What an operation that failed returns, as the machine's next step.
use Rattle.std.proofs.Common.{◌≡◌, ◌≢◌, ℕ, Bool, true, false, inl, inr, refl, sym, ap, ◌∙◌, subst}
use Rattle.std.specs.Prelude.{Err}
use Rattle.ps_base.specs.declared.line.Line.{Line}
use Rattle.ps_base.specs.declared.trap.Trap.{Trap}
use Rattle.machine_core.specs.ps_outside.Outside.{Outside}
use Rattle.machine_core.specs.obj_layout.Stored.{Space}
use Rattle.machine_core.specs.swizzle.Heap as area
use Rattle.machine_core.specs.swizzle.declared.fault.SwizzleFault.{SwizzleFault}
use Rattle.machine_core.specs.heap_texts.declared.fault.OpFault.{OpFault}
use Rattle.machine_core.specs.heap_texts.declared.fault.OpFault.TheVariants as op
use Rattle.machine_core.specs.proc_values.Reading.{IsDamaged}
use Rattle.machine_core.specs.ps_heap.Texts.{Attempt, Fails}
use Rattle.machine_core.specs.ps_stepping.Steps.{Step, Stops, Stuck, attempted}
use Rattle.machine_core.specs.joint_ops.World.{BreaksOff}
use Rattle.machine_core.specs.declared.machine.Machine.{Machine}
use Rattle.machine_core.specs.declared.stepped.Stepped.{Stepped}
use Rattle.machine_core.specs.declared.stepped.Stepped.TheVariants.{Halts, Breaks, Damaged}
use Rattle.machine_core.specs.declared.run_end.RunEnd.TheVariants as in_code
use Rattle.machine_core.specs.Full.{BreaksBy}
use Rattle.machine_core.specs.Holding.{IsSound}
use Rattle.machine_core.specs.Naming.{NamesObjects}
use Rattle.machine_core.specs.Stepped.{Does, UnlessBroken, end_of, ended}
use Rattle.machine_core.proofs.Carrying.{broken-off}
use Rattle.machine_operands.specs.Giving.{failed_of, failed_in, broken_of, broken_in, BreaksWith, DoesByCode, EndsMaking, EndsSoundly}

-- the step is another one, and the area had another size
pub does-same : (before after : Outside Space) (a b : ℕ) (s t : Step) (r : Stepped) (m : Machine) → b ≡ a → t ≡ s → Does before after b s r m → Does before after a t r m
does-same before after a b s t r m same is d =
    subst (λ (n : ℕ). Does before after n t r m) same (subst (λ (x : Step). Does before after b x r m) (sym is) d)

-- what is so of the machine with its answer
so-answered : (P : Machine → Type 0) (r s : Stepped) (m new : Machine) → r ≡ s → new ≡ m → UnlessBroken s (P m) → UnlessBroken r (P new)
so-answered P r s m new answer left so =
    subst (λ (x : Stepped). UnlessBroken x (P new)) (sym answer) (subst (λ (n : Machine). UnlessBroken s (P n)) (sym left) so)

-- another answer is no breaking off
pub halts-goes : (r : Stepped) → r ≡ Halts → r ≢ Breaks
halts-goes r answer breaks = let bad : Halts ≡ Breaks = sym answer ∙ breaks in cc

pub damaged-goes : (r : Stepped) → r ≡ Damaged → r ≢ Breaks
damaged-goes r answer breaks = let bad : Damaged ≡ Breaks = sym answer ∙ breaks in cc

module _ (m new : Machine) (r : Stepped) where
  -- an operation that makes an object
  pub failed-making : (line : Line) (fault : OpFault) (room : Bool) → IsSound new → r ≡ failed_of fault room → new ≡ failed_in fault line room m
      → EndsMaking m new r (Err fault)
  failed-making line (op.Trap t) room sound answer left = record {
    sound = sound;
    names = λ n held. so-answered (λ x. NamesObjects x) r Halts (ended (in_code.Trapped t line) m) new answer left n;
    size = so-answered (λ x. x.objects.size ≡ m.objects.size) r Halts (ended (in_code.Trapped t line) m) new answer left refl;
    breaks = λ off. absurd (halts-goes r answer off);
  }
  failed-making line (op.Swizzle fault) true sound answer left = record {
    sound = sound;
    names = λ n held. so-answered (λ x. NamesObjects x) r Breaks (record m { fault = fault }) new answer left tt;
    size = so-answered (λ x. x.objects.size ≡ m.objects.size) r Breaks (record m { fault = fault }) new answer left tt;
    breaks = λ off. ap (λ (x : Machine). Err (op.Swizzle x.fault)) (sym left);
  }
  failed-making line (op.Swizzle fault) false sound answer left = record {
    sound = sound;
    names = λ n held. so-answered (λ x. NamesObjects x) r Damaged m new answer left n;
    size = so-answered (λ x. x.objects.size ≡ m.objects.size) r Damaged m new answer left refl;
    breaks = λ off. absurd (damaged-goes r answer off);
  }

  -- another one
  pub failed-soundly : {T : Type 0} (lies : T → Type 0) (line : Line) (fault : OpFault) → IsSound new → r ≡ failed_of fault true → new ≡ failed_in fault line true m
      → EndsSoundly (Err fault) lies m new r
  failed-soundly lies line (op.Trap t) sound answer left = record {
    sound = sound;
    names = λ n held. so-answered (λ x. NamesObjects x) r Halts (ended (in_code.Trapped t line) m) new answer left n;
    size = λ k is. so-answered (λ x. x.objects.size ≡ k) r Halts (ended (in_code.Trapped t line) m) new answer left is;
    breaks = halts-goes r answer;
  }
  failed-soundly lies line (op.Swizzle fault) sound answer left = record {
    sound = sound;
    names = λ n held. so-answered (λ x. NamesObjects x) r Breaks (record m { fault = fault }) new answer left tt;
    size = λ k is. so-answered (λ x. x.objects.size ≡ k) r Breaks (record m { fault = fault }) new answer left tt;
    breaks = (answer, ap (λ (x : Machine). x.fault) left);
  }

  -- and one without traps
  pub broken-soundly : {T : Type 0} (lies : T → Type 0) (fault : OpFault) → IsSound new → r ≡ broken_of fault → new ≡ broken_in fault m
      → EndsSoundly (Err fault) lies m new r
  broken-soundly lies (op.Trap t) sound answer left = record {
    sound = sound;
    names = λ n held. so-answered (λ x. NamesObjects x) r Damaged m new answer left n;
    size = λ k is. so-answered (λ x. x.objects.size ≡ k) r Damaged m new answer left is;
    breaks = damaged-goes r answer;
  }
  broken-soundly lies (op.Swizzle fault) sound answer left = record {
    sound = sound;
    names = λ n held. so-answered (λ x. NamesObjects x) r Breaks (record m { fault = fault }) new answer left tt;
    size = λ k is. so-answered (λ x. x.objects.size ≡ k) r Breaks (record m { fault = fault }) new answer left tt;
    breaks = (answer, ap (λ (x : Machine). x.fault) left);
  }

  module _ (before after : Outside Space) where
    -- its trap
    pub trap-does : {A : Type 0} (line : Line) (size : ℕ) (trap : Trap) (attempt : Attempt A) (next : A → Step) → r ≡ Halts
        → new ≡ ended (in_code.Trapped trap line) m → attempt ≡ Fails trap → Does before after size (attempted line attempt next) r new
    trap-does line size trap attempt next answer left is =
        subst (λ (x : Stepped). Does before after size (attempted line attempt next) x new) (sym answer)
        (0, subst (λ (n : Machine). attempted line attempt next ≡ Stops (end_of n.end) 0) (sym left) (ap (λ a. attempted line a next) is))

    -- the fault of the step
    fault-does : (size : ℕ) (s : Step) (fault : SwizzleFault) → r ≡ Breaks → new ≡ record m { fault = fault } → BreaksBy before after size s fault
        → Does before after size s r new
    fault-does size s fault answer left by =
        subst (λ (x : Stepped). Does before after size s x new) (sym answer)
        (subst (λ (n : Machine). BreaksBy before after size s n.fault) (sym left) by)

    -- it broke off as reading does
    pub off-does : (here : area.Heap) (s : Step) (fault : SwizzleFault) → r ≡ Breaks → new ≡ record m { fault = fault }
        → BreaksOff here m.objects before after fault → Does before after here.size s r new
    off-does here s fault answer left off = fault-does here.size s fault answer left (broken-off here m.objects before after s fault off)

    -- the code is damaged
    pub damaged-does : (here : area.Heap) (at : ℕ) (s : Step) (fault : SwizzleFault) → r ≡ Breaks → new ≡ record m { fault = fault } → s ≡ Stuck
        → IsDamaged here at fault → Does before after here.size s r new
    damaged-does here at s fault answer left stuck is =
        fault-does here.size s fault answer left (subst (λ (f : SwizzleFault). BreaksBy before after here.size s f) (sym is.2) stuck)

    pub breaks-with : (fault : SwizzleFault) → IsSound new → r ≡ Breaks → new ≡ record m { fault = fault } → BreaksWith before after m new r fault
    breaks-with fault sound answer left = record {
      sound = sound;
      off = λ here s off. off-does here s fault answer left off;
      damaged = λ here at s stuck is. damaged-does here at s fault answer left stuck is;
    }

    pub failed-code : (T : Type 0) (line : Line) (fault : OpFault) → r ≡ failed_of fault true → new ≡ failed_in fault line true m
        → DoesByCode before after m new r {T = T} (Err fault)
    failed-code T line (op.Trap t) answer left here at s stuck by = absurd by
    failed-code T line (op.Swizzle fault) answer left here at s stuck (inl is) = damaged-does here at s fault answer left stuck is
    failed-code T line (op.Swizzle fault) answer left here at s stuck (inr off) = off-does here s fault answer left off

    pub broken-code : (T : Type 0) (fault : OpFault) → r ≡ broken_of fault → new ≡ broken_in fault m → DoesByCode before after m new r {T = T} (Err fault)
    broken-code T (op.Trap t) answer left here at s stuck by = absurd by
    broken-code T (op.Swizzle fault) answer left here at s stuck (inl is) = damaged-does here at s fault answer left stuck is
    broken-code T (op.Swizzle fault) answer left here at s stuck (inr off) = off-does here s fault answer left off
