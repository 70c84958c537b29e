-- The bodies of a typed program are within the limit of slots.
use Rattle.std.proofs.Common.{◌≡◌, Bool, true, false, List, [], ◌∷◌, refl, subst, arith, Option, Some, None, if◌then◌else◌}
use Rattle.std.specs.Prelude.{nat_lt}
use Rattle.std.specs.List.{AllByRecursion}
use Rattle.std.proofs.lemmas.Bool.{ltb-false}
use Rattle.ps_heap.specs.ps_base.Limits.{most_slots}
use Rattle.ps_heap.specs.ps_base.TyView as types
use Rattle.ps_soundness.specs.ps_program.Node.{Node, BodyNode, body}
use Rattle.ps_soundness.specs.ps_program.Slots.{slot_count}
use Rattle.ps_typing_laws.specs.Counted.{Each}
use Rattle.ps_typing_laws.specs.ps_tree.Phrase.{Phrase}
use Rattle.ps_soundness.specs.ps_typing.Fault.{Fault, TooComplex}
use Rattle.ps_soundness.specs.ps_typing.Placed.{placed_program}
use Rattle.ps_soundness.specs.ps_typing.Checking.{Outcome, Gives, Refuses, check, wants}
use Rattle.ps_soundness.specs.ps_typing.Library.{library_names}
use Rattle.ps_soundness.specs.ps_typing.Program.{Typed, bodies, first_complex, line_of_body, measured, verdict_of, check_program, end_line}
use Rattle.ps_soundness.specs.ps_typing.WellTyped.{IsBody, IsWellTyped}
use Rattle.ps_soundness.specs.Valued.{IsValued}
use Rattle.ps_soundness.specs.Shapes.{type_of_body}
use Rattle.heap_fit.specs.Typed.{IsSmall}

abbrev HasFew : BodyNode → Type 0
HasFew of = first_complex (bodies of) ≡ None

few_measured : (whole program : BodyNode) (complex : Option Fault) → first_complex (bodies whole) ≡ complex → measured whole complex ≡ Typed program → HasFew program
few_measured whole program None e is = let same : whole ≡ program = cc in subst HasFew same e
few_measured whole program (Some fault) e is = absurd cc

few_given : (o : Outcome Node) (program : BodyNode) → verdict_of o ≡ Typed program → HasFew program
few_given (Gives tree t names) program is =
    let whole : BodyNode = placed_program names.all (body [] types.Void tree None (record { 0 = 1 })) in few_measured whole program (first_complex (bodies whole)) refl is
few_given (Refuses fault) program is = absurd cc

each_small : (bs : List BodyNode) → first_complex bs ≡ None → AllByRecursion (λ of. IsValued (type_of_body of)) bs → Each IsSmall bs
each_small [] e valued = tt
each_small (b ∷ bs) e valued = go (nat_lt most_slots (slot_count b)) refl e (λ rest. each_small bs rest valued.1)
  where
    go : (t : Bool) → nat_lt most_slots (slot_count b) ≡ t → (if t then Some (TooComplex (line_of_body b) (slot_count b)) else first_complex bs) ≡ None
        → (first_complex bs ≡ None → Each IsSmall bs) → Each IsSmall (b ∷ bs)
    go true is e rest = absurd cc
    go false is e rest = (record { valued = valued.0; few = omega (arith, ltb-false most_slots (slot_count b) is) }, rest e)

pub program_small : (tree : Phrase) (program : BodyNode) → check_program tree ≡ Typed program → AllByRecursion (λ of. IsValued (type_of_body of)) (bodies program) → Each IsSmall (bodies program)
program_small tree program is valued = each_small (bodies program) (few_given (wants types.Void (end_line tree) (check library_names tree)) program is) valued

pub whole_body : (program : BodyNode) → IsWellTyped program → IsBody [] program
whole_body (body params gives tree scope line) typed = typed.2
