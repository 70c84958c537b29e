use Rattle.std.proofs.Common.{◌∙◌, ap, refl, sym, length}
use Rattle.std.specs.Prelude.{if◌then◌else◌}
use Rattle.ps_base.specs.TyView.{Void, ty_view}
use Rattle.ps_program.specs.Node as node
use Rattle.ps_program.specs.NodeView.{node_of}
use Rattle.ps_program.specs.declared.place.Place.TheVariants.{Plain}
use Rattle.ps_scope.specs.Content.{names_of}
use Rattle.ps_scope.specs.ps_typing.Fault.{Twice}
use Rattle.ps_scope.specs.ps_typing.Names.{declare_local, is_declared}
use Rattle.ps_scope.specs.ps_typing.Checking.{Gives, Refuses}
use Rattle.ps_declared.proofs.Steps.{is_fault, made, remade}
use Rattle.ps_declared.proofs.names.introduced.Goals as goal

pub returns-then-declares : goal.returns-then-declares
returns-then-declares c =
    let names = names_of c.args.scope.now in
    let let_node = node.Let (Plain (length names.all)) (ty_view c.args.ty) (node_of c.args.e) in
    is_fault _ _ (Twice c.args.name.now.line) refl
    (ap (λ b. if b then Refuses (Twice c.args.name.now.line) else Gives let_node Void (declare_local names c.args.name.now.name (ty_view c.args.ty) c.args.variable)) (ap (is_declared names) (sym c.as_slice.ensures) ∙ sym c.declares.ensures ∙ c.if-declares.true))

pub returns : goal.returns
returns c =
    let names = names_of c.args.scope.now in
    let let_node = node.Let (Plain (length names.all)) (ty_view c.args.ty) (node_of c.args.e) in
    made _ _ _ _ c.new.result
    (ap (λ b. if b then Refuses (Twice c.args.name.now.line) else Gives let_node Void (declare_local names c.args.name.now.name (ty_view c.args.ty) c.args.variable)) (ap (is_declared names) (sym c.as_slice.ensures) ∙ sym c.declares.ensures ∙ c.if-declares.false)
    ∙ ap (λ n. Gives let_node Void n) (sym (c.in_ok-number.ensures.names ∙ ap (λ nm. declare_local names nm (ty_view c.args.ty) c.args.variable) c.as_slice-name.ensures)))
    (remade _ _ _ c.new.result (ap (λ k. node.Let (Plain k) (ty_view c.args.ty) (node_of c.args.e)) c.in_ok-number.ensures.number) c.new.ensures)
