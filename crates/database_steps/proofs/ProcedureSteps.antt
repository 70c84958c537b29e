-- Instructions over scopes and procedures change no more of what is held than objects, assigned places, what is touched and what is counted.
use Rattle.std.proofs.Common.{◌≡◌, ℕ, zero, suc, ℤ, List, [], ◌∷◌, length, Option, Some, None, refl}
use Rattle.std.specs.Prelude.{nat_lt}
use Rattle.ps_code.specs.ps_base.CodeUnit.{UnitView, ConstantView, text, literal}
use Rattle.ps_code.specs.ps_base.declared.line.Line.{Line}
use Rattle.ps_code.specs.ps_base.declared.trap.Trap.TheVariants.{TooDeep}
use Rattle.ps_code.specs.ps_base.declared.instr.Instr.{Instr}
use Rattle.ps_code.specs.ps_base.declared.instr.Instr.TheVariants as instr
use Rattle.ps_meaning.specs.text_forms.Forms.{forms_of, form_in}
use Rattle.ps_meaning.specs.Evaluation.{most_calls}
use Rattle.ps_meaning.specs.Meaning.{with_turns, spent, and_closure}
use Rattle.ps_heap.specs.Ends.{Trapped}
use Rattle.ps_heap.specs.Events.{Event, Turn}
use Rattle.ps_heap.specs.Held.{Held, reading_name}
use Rattle.ps_heap.specs.Scopes.{kept_name, scope_at}
use Rattle.ps_heap.specs.Values.{Value, Procedure, as_compiled, word_of}
use Rattle.ps_stepping.specs.Config.{Config, constants_in, frame_in, constant_at}
use Rattle.ps_stepping.specs.Steps.{Stops}
use Rattle.ps_stepping.specs.Library.{library}
use Rattle.ps_stepping.specs.Objects.{holding, having}
use Rattle.ps_stepping.specs.Procedures.{enter_scope, leave_scope, kept_num, kept_ref, keep_num, keep_ref, procedure_of, takes_refs, in_turn, call, acts_on_procedures}
use Rattle.database_steps.proofs.Going.{Going, Quietly, either, tested, pushed_num, pushed_ref, popped_num, popped_ref, popped_procedure, popped_nums, popped_refs, by_text, of_number, of_reference, in_scope, levels_out}
use Rattle.database_steps.proofs.ObjectSteps.{as_it_is, goes_on_objects}

module _ (K : List Event → Held → Type 0) where
  enters_scope : (k : ℕ) (c : Config) → Quietly K c.store.held → Going K (enter_scope k c)
  enters_scope k c q = by_text K k c _ (λ of. q _ _ _ _ [] tt)

  leaves_scope : (c : Config) → Quietly K c.store.held → Going K (leave_scope c)
  leaves_scope c q = in_scope K (scope_at c.store.held.objects c.scope) _ (λ of parent. as_it_is K c.store.held q)

  reads_num : (up i : ℕ) (c : Config) → Quietly K c.store.held → Going K (kept_num up i c)
  reads_num up i c q =
      levels_out K up c _ (λ of. of_number K (form_in (forms_of of) i) _
      (pushed_num K (word_of (kept_name c.store.held.objects c.scope up i)) (having (reading_name c.scope up i) c) (q _ _ _ _ [] tt)))

  reads_ref : (up i : ℕ) (c : Config) → Quietly K c.store.held → Going K (kept_ref up i c)
  reads_ref up i c q =
      levels_out K up c _ (λ of. of_reference K (form_in (forms_of of) i) _
      (pushed_ref K (kept_name c.store.held.objects c.scope up i) (having (reading_name c.scope up i) c) (q _ _ _ _ [] tt)))

  keeps_num : (up i : ℕ) (c : Config) → Quietly K c.store.held → Going K (keep_num up i c)
  keeps_num up i c q =
      popped_num K c _ (λ z rest. levels_out K up (record c { nums = rest }) _ (λ of. of_number K (form_in (forms_of of) i) _ (q _ _ _ _ [] tt)))

  keeps_ref : (up i : ℕ) (c : Config) → Quietly K c.store.held → Going K (keep_ref up i c)
  keeps_ref up i c q =
      popped_ref K c _ (λ v rest. levels_out K up (record c { refs = rest }) _ (λ of. of_reference K (form_in (forms_of of) i) _ (q _ _ _ _ [] tt)))

  makes_procedure : (found : Option ConstantView) (c : Config) → Quietly K c.store.held → Going K (procedure_of found c)
  makes_procedure (Some (literal of)) c q = pushed_ref K (Procedure (as_compiled of) c.scope) (holding (and_closure c.store) c) (q _ _ _ _ [] tt)
  makes_procedure (Some (text bytes)) c q = tt
  makes_procedure None c q = tt

  enters_body : (turns : ℕ) (of : UnitView) (scope : Option ℕ) (zs : List ℤ) (vs : List Value) (c : Config) → Quietly K c.store.held →
      Going K (in_turn (with_turns c.store turns) of scope zs vs c)
  enters_body zero of scope zs vs c q = tt
  enters_body (suc left) of scope zs vs c q = q _ _ _ _ (Turn c.store.held.counted ∷ []) (tt, tt)

  calls : (n : ℕ) (line : Line) (c : Config) → Quietly K c.store.held → Going K (call n line c)
  calls n line c q =
      popped_refs K n [] c _ (λ vs rest. popped_procedure K (record c { refs = rest }) _
      (λ of scope below. tested K (takes_refs n (frame_in of)) _ (popped_nums K (frame_in of).num_params [] (record c { refs = below }) _
      (λ zs left. let d : Config = record c { nums = left; refs = below } in
      either K (nat_lt (length c.callers) most_calls) (in_turn (spent c.store) of scope zs vs d) (Stops (Trapped TooDeep line) 0)
      (enters_body c.store.turns of scope zs vs d q) tt))))

  pub goes_on_procedures : (i : Instr) (c : Config) → Quietly K c.store.held → ((k : ℕ) (line : Line) → i ≡ instr.Lib k line → Going K (library k line c)) →
      Going K (acts_on_procedures i c)
  goes_on_procedures (instr.KeptM u i) c q in_library = reads_num u i c q
  goes_on_procedures (instr.KeptP u i) c q in_library = reads_ref u i c q
  goes_on_procedures (instr.KeepM u i) c q in_library = keeps_num u i c q
  goes_on_procedures (instr.KeepP u i) c q in_library = keeps_ref u i c q
  goes_on_procedures (instr.Scope k) c q in_library = enters_scope k c q
  goes_on_procedures instr.Leave c q in_library = leaves_scope c q
  goes_on_procedures (instr.Closure k) c q in_library = makes_procedure (constant_at (constants_in c.unit) k) c q
  goes_on_procedures (instr.Call n line) c q in_library = calls n line c q
  goes_on_procedures (instr.Lib k line) c q in_library = in_library k line refl
  goes_on_procedures i c q in_library = goes_on_objects K i c q
