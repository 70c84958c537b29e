-- Each step: a plain one keeps databases and is quiet, and any step leaves a run alone.
use Rattle.std.proofs.Common.{◌≡◌, ℕ, true, List, Option, Some, refl, sym, ap, ◌∙◌}
use Rattle.ps_code.specs.ps_base.declared.line.Line.{Line}
use Rattle.ps_code.specs.ps_base.declared.instr.Instr.{Instr}
use Rattle.ps_code.specs.ps_base.declared.instr.Instr.TheVariants.{Lib}
use Rattle.ps_heap.specs.Events.{Event}
use Rattle.ps_heap.specs.Held.{Held}
use Rattle.ps_heap.specs.Library.{HeapProcedure, OnHeap, LibraryProcedure, library_procedure}
use Rattle.ps_stepping.specs.Config.{Config}
use Rattle.ps_stepping.specs.Machine.{Step, Goes, behind, Steps, at_instruction, at_nothing}
use Rattle.ps_stepping.specs.Path.{Reaches, no_step, more}
use Rattle.ps_stepping.specs.Plain.{is_plain_call, is_plain, PlainSteps, at_plain, at_another, at_none}
use Rattle.database_steps.specs.Databases.{SameDatabases, IsAlone}
use Rattle.database_steps.specs.Quiet.{AreQuiet}
use Rattle.database_steps.proofs.Going.{Going, Quietly}
use Rattle.database_steps.proofs.LibrarySteps.{plain_answers, goes_in_library}
use Rattle.database_steps.proofs.Instructions.{goes}
use Rattle.database_steps.proofs.Alone.{quietly_alone, answers_alone}

-- Plain steps.

-- the databases are as they were before, and the events quiet
record Kept (before : Held) (events : List Event) (after : Held) : Type 0 where
  same : SameDatabases before after
  quiet : AreQuiet events

quietly_kept : (h : Held) → Quietly (Kept h) h
quietly_kept h objects assigned touched counted events quiet = record {
  same = record { homes = refl; directory = refl; openings = refl; created = refl; asked = refl; replies = refl; weigh = refl };
  quiet = quiet;
}

plain_call : (i : Instr) (k : ℕ) (line : Line) (of : HeapProcedure) → is_plain i ≡ true → i ≡ Lib k line → library_procedure k ≡ Some (OnHeap of) →
    is_plain_call (Some (OnHeap of)) ≡ true
plain_call i k line of plain is found = ap (λ (p : Option LibraryProcedure). is_plain_call p) (sym found) ∙ (ap is_plain (sym is) ∙ plain)

keeps : (c : Config) (s : Step) → PlainSteps c s → Going (Kept c.store.held) s
keeps c s (at_plain {i = i} at plain) =
    let h : Held = c.store.held in
    goes (Kept h) i c.at (behind i c) (quietly_kept h)
    (λ k line is. goes_in_library (Kept h) (library_procedure k) line (behind i c) (quietly_kept h)
    (λ of found. plain_answers (Kept h) of h (plain_call i k line of plain is found) (quietly_kept h)))
keeps c s (at_another at another) = tt
keeps c s (at_none none) = tt

pub keeps_databases : (c next : Config) (events : List Event) → PlainSteps c (Goes events next) → SameDatabases c.store.held next.store.held
keeps_databases c next events step = (keeps c (Goes events next) step).same

pub is_quiet : (c next : Config) (events : List Event) → PlainSteps c (Goes events next) → AreQuiet events
is_quiet c next events step = (keeps c (Goes events next) step).quiet

-- All steps.

stays_alone : (c : Config) (s : Step) → Steps c s → IsAlone c.store.held → Going (λ events d. IsAlone d) s
stays_alone c s (at_instruction {i = i} at) alone =
    let quietly : Quietly (λ events d. IsAlone d) c.store.held = quietly_alone c.store.held alone in
    goes (λ events d. IsAlone d) i c.at (behind i c) quietly
    (λ k line is. goes_in_library (λ events d. IsAlone d) (library_procedure k) line (behind i c) quietly
    (λ of found. answers_alone of c.store.held alone))
stays_alone c s (at_nothing none) alone = tt

pub step_alone : (c next : Config) (events : List Event) → Steps c (Goes events next) → IsAlone c.store.held → IsAlone next.store.held
step_alone c next events step alone = stays_alone c (Goes events next) step alone

pub way_alone : (c last : Config) (events : List Event) → Reaches c events last → IsAlone c.store.held → IsAlone last.store.held
way_alone c last events no_step alone = alone
way_alone c last events (more {next = next} {events = first} {behind = behind} step way) alone =
    way_alone next last behind way (step_alone c next first step alone)
