-- The constants of the unit that a machine runs.
use Rattle.std.proofs.Common.{◌≡◌, ℕ, zero, suc, List, Option, Some, None, inl, inr, refl, sym, ap, ◌∙◌, subst}
use Rattle.std.specs.Prelude.{Result, Ok, Err}
use Rattle.ps_base.specs.CodeUnit.{UnitView, unit, ConstantView, text, literal, ConstantsView, no_constants, constant_then}
use Rattle.ps_base.specs.declared.code_unit.Frame.{Frame}
use Rattle.machine_core.specs.ps_outside.Outside.{Outside}
use Rattle.machine_core.specs.obj_layout.Stored.{Space}
use Rattle.machine_core.specs.obj_layout.declared.reference.Reference.{Reference}
use Rattle.machine_core.specs.swizzle.Heap as area
use Rattle.machine_core.specs.swizzle.Heap.{header_at}
use Rattle.machine_core.specs.swizzle.Reading.{LeavesOutside}
use Rattle.machine_core.specs.swizzle.Touch.{Keeps}
use Rattle.machine_core.specs.swizzle.declared.fault.SwizzleFault.{SwizzleFault}
use Rattle.machine_core.specs.proc_values.Loaded.{IsFitUnit, constant_numbered}
use Rattle.machine_core.specs.ps_heap.Objects.{Heap}
use Rattle.machine_core.specs.ps_heap.Values.{Text}
use Rattle.machine_core.specs.ps_stepping.Config.{Config, constants_in, constant_at}
use Rattle.machine_core.specs.ps_stepping.Steps.{Step, Stuck, text_in, with_text}
use Rattle.machine_core.specs.ps_stepping.Procedures.{procedure_of, closure}
use Rattle.machine_core.specs.joint_ops.World.{IsWorld, DenotesIn, IsUnitIn, Stands}
use Rattle.machine_core.specs.joint_ops.Code.{AnswersConstant, StandsBy}
use Rattle.joint_procedures.specs.Units.{AnswersText, AnswersLiteral}
use Rattle.machine_core.specs.declared.machine.Machine.{Machine}
use Rattle.machine_core.specs.declared.stepped.Stepped.{Stepped}
use Rattle.machine_core.specs.declared.stepped.Stepped.TheVariants.{Breaks, Damaged}
use Rattle.machine_core.specs.Full.{BreaksBy}
use Rattle.machine_core.specs.Holding.{HeldBy, IsSound, words_of, world_in}
use Rattle.machine_core.specs.Naming.{NamesObjects}
use Rattle.machine_core.specs.Stepped.{Takes, Does, UnlessBroken}
use Rattle.machine_core.proofs.Carrying.{read-holds, sound-kept, size-behind, broken-off}
use Rattle.machine_calls.specs.inside.Making.{MakesProcedureOf, with_procedure}
use Rattle.machine_calls.proofs.Fetching.{broken, names-kept, done-behind, breaks-takes, damage-breaks}

-- the constant of a number is the same as code and machine tell it
same-constant : (row : ConstantsView) (k : ℕ) → constant_at row k ≡ constant_numbered row k
same-constant no_constants k = refl
same-constant (constant_then c row) zero = refl
same-constant (constant_then c row) (suc k) = same-constant row k

-- where no constant of the number is a text, or a unit, nothing follows
text-stuck : (o : Option ConstantView) → ((bytes : List ℕ) → o ≡ Some (text bytes) → ⊥) → (next : List ℕ → Step) → text_in o next ≡ Stuck
text-stuck None none next = refl
text-stuck (Some (literal u)) none next = refl
text-stuck (Some (text bytes)) none next = absurd (none bytes refl)

literal-stuck : (o : Option ConstantView) → ((u : UnitView) → o ≡ Some (literal u) → ⊥) → (c : Config) → procedure_of o c ≡ Stuck
literal-stuck None none c = refl
literal-stuck (Some (text bytes)) none c = refl
literal-stuck (Some (literal u)) none c = absurd (none u refl)

-- a constant is no other one
text-alone : (o : Option ConstantView) (u : UnitView) (bytes : List ℕ) → o ≡ Some (literal u) → o ≡ Some (text bytes) → ⊥
text-alone o u bytes is other = let bad : Some (literal u) ≡ Some (text bytes) = sym is ∙ other in cc

module _ (before after : Outside Space) (m : Machine) (now : area.Heap) (k : ℕ) (left : LeavesOutside before after) where
  abbrev Kept : Type 0
  Kept = StandsBy m.objects now before after m.code

  abbrev pub GivesText : Result (Option ℕ) SwizzleFault → Type 0
  GivesText r = (bytes : List ℕ) (row : ConstantsView) (frame : Frame) → IsUnitIn m.objects before m.code (unit bytes row frame)
      → AnswersText m.objects now before after m.code row k r

  abbrev pub GivesLiteral : Result (Option ℕ) SwizzleFault → Type 0
  GivesLiteral r = (bytes : List ℕ) (row : ConstantsView) (frame : Frame) → IsUnitIn m.objects before m.code (unit bytes row frame)
      → IsFitUnit (unit bytes row frame) → AnswersLiteral m.objects now before after m.code row k r

  text-given : (r : Result (Option ℕ) SwizzleFault) → GivesText r → (u : UnitView) → IsUnitIn m.objects before m.code u
      → AnswersText m.objects now before after m.code (constants_in u) k r
  text-given r g (unit bytes row frame) i = g bytes row frame i

  literal-given : (r : Result (Option ℕ) SwizzleFault) → GivesLiteral r → (u : UnitView) → IsUnitIn m.objects before m.code u → IsFitUnit u
      → AnswersLiteral m.objects now before after m.code (constants_in u) k r
  literal-given r g (unit bytes row frame) i fit = g bytes row frame i fit

  -- the constant couldn't be read, and there is no step where there is none
  constant-broken : (s : Step) (row : ConstantsView) (fault : SwizzleFault) → (constant_at row k ≡ None → s ≡ Stuck)
      → AnswersConstant m.objects now before after m.code row k (Err fault) → BreaksBy before after m.objects.size s fault
  constant-broken s row fault none (inl a) =
      let d = a.1 in
      damage-breaks before after m.objects.size s fault (none (same-constant row k ∙ a.0)) ((header_at m.objects m.code).pid, d.0, d.1, d.2)
  constant-broken s row fault none (inr a) = broken-off m.objects now before after s fault a.2

  -- What follows a text constant.
  module _ (next : List ℕ → Config → Step) where
    abbrev Following : Config → Step
    Following c = with_text k c (λ bytes. next bytes c)

    pub text-then : (at : ℕ) (new : Machine) (r : Stepped) → Keeps m.objects now → Kept → GivesText (Ok (Some at)) → IsSound new
        → UnlessBroken r (NamesObjects new) → UnlessBroken r (new.objects.size ≡ now.size)
        → ((names : List Reference) (c : Config) (bytes : List ℕ) → HeldBy after names (record m { objects = now }) c → DenotesIn now after names (Some at) (Text bytes)
        → Does after after now.size (next bytes c) r new) → Takes before after Following m new r
    text-then at new r keeps kept given sound names size does = record {
      sound = sound;
      names = λ n. names;
      size = size-behind r m.objects.size now.size new.objects.size keeps.size size;
      does = λ c h.
          let s = kept c.unit h.held.unit_is c.store.held.objects h.names (world_in h.held.run) in
          let a = text-given (Ok (Some at)) given c.unit h.held.unit_is in
          subst (λ (x : Step). Does before after m.objects.size x r new)
          (sym (ap (λ (o : Option ConstantView). text_in o (λ bytes. next bytes c)) (same-constant (constants_in c.unit) k ∙ a.1)))
          (done-behind before after m now (next a.0 c) new r left keeps
          (does h.names c a.0 (read-holds m.objects now before after h.names (words_of m) c h.held s) (a.2 h.names)));
    }

    pub none-text : Keeps m.objects now → IsSound m → GivesText (Ok None) → Takes before after Following m (record m { objects = now }) Damaged
    none-text keeps sound given = record {
      sound = sound-kept m now sound;
      names = names-kept m now keeps;
      size = keeps.size;
      does = λ c h.
          let a = text-given (Ok None) given c.unit h.held.unit_is in
          let is = same-constant (constants_in c.unit) k ∙ a.1 in
          text-stuck (constant_at (constants_in c.unit) k) (λ bytes. text-alone (constant_at (constants_in c.unit) k) a.0 bytes is) (λ bytes. next bytes c);
    }

    pub text-broken : (fault : SwizzleFault) (new : Machine) (r : Stepped) → r ≡ Breaks → new ≡ broken m now fault → IsSound m → GivesText (Err fault)
        → Takes before after Following m new r
    text-broken fault new r answer is sound given =
        breaks-takes before after m now Following fault new r answer is sound
        (λ c h.
        constant-broken (Following c) (constants_in c.unit) fault (λ none. ap (λ (o : Option ConstantView). text_in o (λ bytes. next bytes c)) none)
        (text-given (Err fault) given c.unit h.held.unit_is))

  -- And a unit.

  pub literal-then : (at : ℕ) (new : Machine) (r : Stepped) → Keeps m.objects now → Kept → GivesLiteral (Ok (Some at))
      → MakesProcedureOf after at (record m { objects = now }) new r → Takes before after (closure k) m new r
  literal-then at new r keeps kept given made = record {
    sound = made.sound;
    names = λ n. made.names;
    size = size-behind r m.objects.size now.size new.objects.size keeps.size made.size;
    does = λ c h.
        let s = kept c.unit h.held.unit_is c.store.held.objects h.names (world_in h.held.run) in
        let a = literal-given (Ok (Some at)) given c.unit h.held.unit_is h.held.fit in
        subst (λ (x : Step). Does before after m.objects.size x r new)
        (sym (ap (λ (o : Option ConstantView). procedure_of o c) (same-constant (constants_in c.unit) k ∙ a.1)))
        (done-behind before after m now (with_procedure a.0 c) new r left keeps
        (made.does h.names c a.0 (read-holds m.objects now before after h.names (words_of m) c h.held s) a.2 a.3));
  }

  pub none-literal : Keeps m.objects now → IsSound m → GivesLiteral (Ok None) → Takes before after (closure k) m (record m { objects = now }) Damaged
  none-literal keeps sound given = record {
    sound = sound-kept m now sound;
    names = names-kept m now keeps;
    size = keeps.size;
    does = λ c h.
        let a = literal-given (Ok None) given c.unit h.held.unit_is h.held.fit in
        let is = same-constant (constants_in c.unit) k ∙ a.1 in
        literal-stuck (constant_at (constants_in c.unit) k) (λ u e. text-alone (constant_at (constants_in c.unit) k) u a.0 e is) c;
  }

  pub literal-broken : (fault : SwizzleFault) (new : Machine) (r : Stepped) → r ≡ Breaks → new ≡ broken m now fault → IsSound m → GivesLiteral (Err fault)
      → Takes before after (closure k) m new r
  literal-broken fault new r answer is sound given =
      breaks-takes before after m now (closure k) fault new r answer is sound
      (λ c h.
      constant-broken (closure k c) (constants_in c.unit) fault (λ none. ap (λ (o : Option ConstantView). procedure_of o c) none)
      (literal-given (Err fault) given c.unit h.held.unit_is h.held.fit))
