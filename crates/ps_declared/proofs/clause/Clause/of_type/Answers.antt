use Rattle.std.proofs.Common.{◌∙◌, ap, refl, subst, sym, IsTrue, Some}
use Rattle.ps_base.specs.TyView.{ty_view}
use Rattle.ps_program.specs.NodeView.{node_of}
use Rattle.ps_scope.specs.Content.{names_of}
use Rattle.ps_scope.specs.ps_typing.Fault.{Mismatch}
use Rattle.ps_scope.specs.ps_typing.Checking.{Gives, is_same}
use Rattle.ps_declared.proofs.Steps.{passed, not_passed, is_fault, same, not_same}
use Rattle.ps_declared.proofs.clause.Clause.of_type.Goals as goal

pub returns-then-same_type : goal.returns-then-same_type
returns-then-same_type c scope =
    passed (λ found. is_same found (ty_view c.args.wanted.now)) _ _ _ _ _ _ refl (same _ _ _ c.same_type.ensures c.if-same_type.true)
    ∙ ap (λ t. Gives (node_of c.args.self.tree) t (names_of scope)) (c.same_type.ensures.0 (subst IsTrue (sym c.if-same_type.true) refl))

pub returns : goal.returns
returns c scope =
    is_fault _ _ (Mismatch c.args.line (ty_view c.args.self.ty) (ty_view c.args.wanted.now)) (ap (λ w. Some (Mismatch c.args.line (ty_view c.args.self.ty) w)) c.in_ok-wanted.ensures)
    (not_passed (λ found. is_same found (ty_view c.args.wanted.now)) _ _ _ _ _ _ refl (not_same _ _ _ c.same_type.ensures c.if-same_type.false))
