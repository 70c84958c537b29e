-- A configuration has one step.
use Rattle.std.proofs.Common.{◌≡◌, ℕ, List, sym, ap, ◌∙◌, refl}
use Rattle.ps_code.specs.ps_base.declared.instr.Instr.{Instr}
use Rattle.ps_code.proofs.Makers.{one_front}
use Rattle.ps_stepping.specs.Config.{Config, code_in, IsAt}
use Rattle.ps_stepping.specs.Machine.{Step, act, Steps, at_instruction, at_nothing}

pub one_instruction : (code : List ℕ) (at : ℕ) (i j : Instr) → IsAt code at i → IsAt code at j → i ≡ j
one_instruction code at i j a b = (one_front i j a.rest b.rest a.is_instr b.is_instr (sym a.spelled ∙ b.spelled)).0

pub one_step : (c : Config) (s t : Step) → Steps c s → Steps c t → s ≡ t
one_step c s t (at_instruction {i = i} a) (at_instruction {i = j} b) = ap (λ (x : Instr). act x c) (one_instruction (code_in c.unit) c.at i j a b)
one_step c s t (at_instruction {i = i} a) (at_nothing none) = absurd (none i a)
one_step c s t (at_nothing none) (at_instruction {i = i} a) = absurd (none i a)
one_step c s t (at_nothing none) (at_nothing none') = refl
