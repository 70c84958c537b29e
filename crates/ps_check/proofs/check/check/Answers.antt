use Rattle.std.proofs.Common.{◌∙◌, ap, sym, length, ◌∷◌, None, Some}
use Rattle.ps_base.specs.List.{items_of}
use Rattle.ps_base.specs.TyView.{Void}
use Rattle.ps_tree.specs.Phrase.{phrase_of}
use Rattle.ps_program.specs.Node.{body}
use Rattle.ps_program.specs.NodeView.{node_of, params_of}
use Rattle.ps_slots.specs.ps_typing.Program.{Typed}
use Rattle.ps_slots.specs.Complexity.{fault_of}
use Rattle.ps_slots.specs.inside.Sizes.{size_of}
use Rattle.ps_slots.proofs.Sizing.{without_literals}
use Rattle.ps_check.proofs.Verdicts.{verdict_is}
use Rattle.ps_check.proofs.check.check.Goals as goal

pub place-requires : goal.place-requires
place-requires c plain =
    let of = body (params_of (items_of c.new-2.result)) Void (node_of c.in_ok-tree.field-0.tree) None (record { 0 = 1 }) in
    ap (λ bs. of ∷ bs) (without_literals (size_of c.in_ok-tree.field-0.sizes) (node_of c.in_ok-tree.field-0.tree) c.in_ok-tree.ensures.3 plain)

pub returns-in_ok-body-in-None-clause-program : goal.returns-in_ok-body-in-None-clause-program
returns-in_ok-body-in-None-clause-program c =
    verdict_is (phrase_of c.args.rough) (node_of c.in_ok-tree.field-0.tree) c.in_ok-tree.ensures.0 _ _ None c.in_ok-tree.ensures.1
    c.in_ok-tree.ensures.2
    (ap (λ ps. body (params_of ps) Void (node_of c.in_ok-tree.field-0.tree) None (record { 0 = 1 })) (c.new-2.ensures ∙ c.new.ensures.items))
    (c.in_ok-first_complex.ensures (params_of (items_of c.new-2.result)) Void (node_of c.in_ok-tree.field-0.tree) None (ap (λ ps. length (params_of ps)) (c.new-2.ensures ∙ c.new.ensures.items)) c.in_ok-tree.ensures.3 ∙ ap fault_of c.in-None.is)
    ∙ ap Typed (sym c.in_ok-body-in-None.ensures)

pub returns-in-Some-clause-fault : goal.returns-in-Some-clause-fault
returns-in-Some-clause-fault c told is =
    verdict_is (phrase_of c.args.rough) (node_of c.in_ok-tree.field-0.tree) c.in_ok-tree.ensures.0 _ _ (Some told) c.in_ok-tree.ensures.1
    c.in_ok-tree.ensures.2
    (ap (λ ps. body (params_of ps) Void (node_of c.in_ok-tree.field-0.tree) None (record { 0 = 1 })) (c.new-2.ensures ∙ c.new.ensures.items))
    (c.in_ok-first_complex.ensures (params_of (items_of c.new-2.result)) Void (node_of c.in_ok-tree.field-0.tree) None (ap (λ ps. length (params_of ps)) (c.new-2.ensures ∙ c.new.ensures.items)) c.in_ok-tree.ensures.3 ∙ ap fault_of c.in-Some.is ∙ is)
