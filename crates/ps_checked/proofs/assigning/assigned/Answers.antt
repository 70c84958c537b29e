use Rattle.std.proofs.Common.{◌∙◌, ap, refl}
use Rattle.std.specs.Prelude.{option_map}
use Rattle.ps_base.specs.TyView.{ty_view}
use Rattle.ps_program.specs.NodeView.{node_of}
use Rattle.ps_declared.specs.ps_scope.Content.{names_of}
use Rattle.ps_declared.specs.ps_typing.Fault.{Mismatch, NotAssignable}
use Rattle.ps_declared.specs.ps_typing.Checking.{assigned}
use Rattle.ps_declared.proofs.Steps.{is_fault, same, not_same, assigned_to, mismatched, nothing_to_assign, constant_assigned}
use Rattle.ps_checked.proofs.assigning.assigned.Goals as goal

pub returns-then-same_type : goal.returns-then-same_type
returns-then-same_type c scope =
    assigned_to _ _ _ _ _ _ _ _ c.if-not-variable.false (ap (option_map node_of) c.in-Some.is) (same _ _ _ c.same_type.ensures c.if-same_type.true)

pub returns : goal.returns
returns c scope =
    is_fault _ _ (Mismatch c.args.e_line (ty_view c.args.found) (ty_view c.args.wanted)) refl
    (mismatched _ _ _ _ _ _ _ _ c.if-not-variable.false (ap (option_map node_of) c.in-Some.is) (not_same _ _ _ c.same_type.ensures c.if-same_type.false))

pub returns-in_default : goal.returns-in_default
returns-in_default c scope =
    is_fault _ _ (NotAssignable c.args.line) refl (ap (λ a. assigned c.args.line c.args.e_line c.args.variable a (ty_view c.args.wanted) (ty_view c.args.found) (names_of scope)) (ap (option_map node_of) c.in_default.is) ∙ nothing_to_assign _ _ _ _ _ _)

pub returns-then-not-variable : goal.returns-then-not-variable
returns-then-not-variable c scope =
    is_fault _ _ (NotAssignable c.args.line) refl (ap (λ v. assigned c.args.line c.args.e_line v (option_map node_of c.args.assignment) (ty_view c.args.wanted) (ty_view c.args.found) (names_of scope)) c.if-not-variable.true ∙ constant_assigned _ _ _ _ _ _)
