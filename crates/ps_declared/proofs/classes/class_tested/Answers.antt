use Rattle.std.proofs.Common.{◌∙◌, ap, refl, sym}
use Rattle.std.specs.Prelude.{option_map}
use Rattle.std.specs.declared.alloc.Global.{Global}
use Rattle.std.specs.declared.rc.Rc.{Rc}
use Rattle.ps_tree.specs.Phrase.{named}
use Rattle.ps_program.specs.NodeView.{node_of}
use Rattle.ps_scope.specs.Content.{names_of}
use Rattle.ps_scope.specs.Views.{class_of}
use Rattle.ps_scope.specs.declared.meaning.Class.{Class}
use Rattle.ps_scope.specs.ps_typing.Fault.{Unknown}
use Rattle.ps_scope.specs.ps_typing.Names.{meant}
use Rattle.ps_declared.specs.inside.Meant.{class_meant, class_test}
use Rattle.ps_declared.proofs.ClassMeant.{a_class, no_class}
use Rattle.ps_declared.proofs.Steps.{is_fault, made, remade}
use Rattle.ps_declared.proofs.classes.class_tested.Goals as goal

pub returns-in_default : goal.returns-in_default
returns-in_default c =
    is_fault _ _ (Unknown c.args.class.now.line) refl
    (no_class (named c.args.class.now) c.args.negated _ _ _ ((ap class_meant (ap (meant (names_of c.args.scope.now)) (sym c.as_slice.ensures) ∙ sym c.in_ok-meaning.ensures) ∙ sym c.class_in.ensures) ∙ ap (option_map (λ (class : Rc Class Global). class_of class.value)) c.in_default.is))

pub returns : goal.returns
returns c =
    made _ _ _ _ c.class_test.result
    (a_class (named c.args.class.now) c.args.negated _ _ _ _ _ ((ap class_meant (ap (meant (names_of c.args.scope.now)) (sym c.as_slice.ensures) ∙ sym c.in_ok-meaning.ensures) ∙ sym c.class_in.ensures) ∙ ap (option_map (λ (class : Rc Class Global). class_of class.value)) c.in-Some.is))
    (remade _ _ _ c.class_test.result (ap (class_test c.args.negated (node_of c.args.e)) (c.in_ok-clone.ensures.cases ∙ ap (λ (class : Class). class.text.value) c.deref.ensures)) c.class_test.ensures)
