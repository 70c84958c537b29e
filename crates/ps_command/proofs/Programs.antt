-- What is so of the program that a text is.
use Rattle.std.proofs.Common.{◌≡◌, ℕ, ◌≤◌, Bool, true, false, List, [], Option, Some, None, refl, subst}
use Rattle.std.specs.Prelude.{nat_lt, if◌then◌else◌}
use Rattle.std.specs.List.{AllByRecursion}
use Rattle.std.proofs.lemmas.Bool.{ltb-false}
use Rattle.ps_base.specs.TyView as types
use Rattle.ps_base.specs.CodeUnit.{unit_view}
use Rattle.ps_base.specs.declared.code_unit.CodeUnit.{CodeUnit}
use Rattle.ps_program.specs.Node.{Node, BodyNode, body}
use Rattle.ps_program.specs.Slots.{slot_count}
use Rattle.ps_causes.specs.ps_typing.Fault.{Fault, TooComplex}
use Rattle.ps_causes.specs.ps_typing.Library.{library_names}
use Rattle.ps_causes.specs.ps_typing.Placed.{placed_program}
use Rattle.ps_causes.specs.ps_typing.Checking.{Outcome, Gives, Refuses, check, wants}
use Rattle.ps_causes.specs.ps_typing.Program.{end_line, most_slots, bodies, first_complex, line_of_body, Typed, Fails, measured, verdict_of}
use Rattle.ps_code_laws.proofs.of_ps_typing_laws.OfProgram.{program_typed}
use Rattle.ps_text_laws.proofs.LetsRead.{lets_are_items}
use Rattle.ps_leaf_laws.proofs.LeavesRead.{leaves_fit}
use Rattle.ps_unit_weights.specs.ps_gen.Units.{unit_of, HasUnit}
use Rattle.ps_causes.specs.Source.{IsProgram}
use Rattle.ps_command.specs.inside.Steps.{IsRunnable}

-- of a program that is typed no body is too complex
of_measured : (p q : BodyNode) (found : Option Fault) → first_complex (bodies q) ≡ found → measured q found ≡ Typed p → first_complex (bodies p) ≡ None
of_measured p q (Some fault) is e = absurd (let both : Fails fault ≡ Typed p = e in cc)
of_measured p q None is e = let same : q ≡ p = cc in subst (λ (b : BodyNode). first_complex (bodies b) ≡ None) same is

of_outcome : (p : BodyNode) (o : Outcome Node) → verdict_of o ≡ Typed p → first_complex (bodies p) ≡ None
of_outcome p (Gives tree t names) e =
    let q = placed_program names.all (body [] types.Void tree None (record { 0 = 1 })) in
    of_measured p q (first_complex (bodies q)) refl e
of_outcome p (Refuses fault) e = absurd (let both : Fails fault ≡ Typed p = e in cc)

not_complex : (b : Bool) (fault : Fault) (rest : Option Fault) → (if b then Some fault else rest) ≡ None → b ≡ false
not_complex true fault rest e = absurd (let both : Some fault ≡ None = e in cc)
not_complex false fault rest e = refl

pub first_fits : (p : BodyNode) → first_complex (bodies p) ≡ None → slot_count p ≤ most_slots
first_fits (body params gives tree scope line) e =
    let p = body params gives tree scope line in
    ltb-false most_slots (slot_count p) (not_complex (nat_lt most_slots (slot_count p)) (TooComplex (line_of_body p) (slot_count p)) _ e)

-- the program of a text can be run, where this is its unit
pub runnable : (text : List ℕ) (unit : CodeUnit) (program : BodyNode) → IsProgram text program → unit_view unit ≡ unit_of program →
    AllByRecursion HasUnit (bodies program) → IsRunnable unit program
runnable text unit program is unit_is units =
    let lets = lets_are_items text is.tokens is.phrase is.read in
    let leaves = leaves_fit text is.tokens is.phrase is.scanned is.read in
    record {
      checked = record { tree = is.phrase; lets = lets; leaves = leaves; is = is.typed };
      typed = program_typed is.phrase program lets is.typed;
      simple = of_outcome program (wants types.Void (end_line is.phrase) (check library_names is.phrase)) is.typed;
      units = units;
      unit_is = unit_is;
    }
