-- A configuration has one step.
use Rattle.std.proofs.Common.{◌≡◌, ℕ, List, [], length, refl, sym, ap, ◌∙◌, arith, length-append}
use Rattle.ps_base.specs.CodeUnit.{unit, no_constants}
use Rattle.ps_base.specs.Instr.{spelling}
use Rattle.ps_base.proofs.Spellings.{length-spelling}
use Rattle.machine_core.specs.ps_meaning.Meaning.{Store}
use Rattle.machine_run.specs.Loaded.{no_locals}
use Rattle.ps_base.specs.declared.instr.Instr.{Instr}
use Rattle.machine_core.proofs.of_ps_code.Makers.{one_front}
use Rattle.machine_core.specs.ps_stepping.Config.{Config, start}
use Rattle.machine_core.specs.ps_stepping.Machine.{Step, Stuck, Steps, at_instruction, at_nothing, act}

pub one_step : (c : Config) (s t : Step) → Steps c s → Steps c t → s ≡ t
one_step c s t (at_instruction {i = i} here) (at_instruction {i = j} there) =
    ap (λ (k : Instr). act k c) (one_front i j here.rest there.rest here.is_instr there.is_instr (sym here.spelled ∙ there.spelled)).0
one_step c s t (at_instruction {i = i} here) (at_nothing none) = absurd (none i here)
one_step c s t (at_nothing none) (at_instruction {i = j} there) = absurd (none j there)
one_step c s t (at_nothing none) (at_nothing none_there) = refl

-- of a unit without code there is no first step
pub no_first_step : (store : Store) → Steps (start (unit [] no_constants no_locals) store) Stuck
no_first_step store = at_nothing (λ i at.
    let none : List ℕ = [] in
    let spelled = ap length at.spelled in
    omega (arith, spelled, length-append (spelling i) at.rest, length-spelling i))
