-- What the functions of the check do for lists of clauses.
use Rattle.std.specs.Prelude.{◌≡◌, List, [], ◌∷◌, ◌++◌, Result, MatchResult, if◌then◌else◌}
use Rattle.ps_base.specs.TyView.{TyView, ty_view}
use Rattle.ps_base.specs.TyView as types
use Rattle.ps_base.specs.declared.line.Line.{Line}
use Rattle.ps_tree.specs.Phrase.{WriteItem, item}
use Rattle.ps_program.specs.Node.{Node, Nodes}
use Rattle.ps_program.specs.Node as node
use Rattle.ps_program.specs.NodeView.{node_of, nodes_in}
use Rattle.ps_program.specs.declared.form.Tree.{Tree}
use Rattle.std.specs.declared.alloc.Global.{Global}
use Rattle.std.specs.declared.vec.Vec.{Vec}
use Rattle.ps_declared.specs.ps_scope.Content.{Content, names_of}
use Rattle.ps_declared.specs.ps_typing.Names.{Names}
use Rattle.ps_declared.specs.ps_typing.Fault.{Mismatch}
use Rattle.ps_declared.specs.ps_typing.Checking.{Outcome, Gives, Refuses, ◌>>=◌, check, check_if_any, line_of, passes, is_same, is_writable, is_present}
use Rattle.ps_declared.specs.declared.fault.CheckFault.{CheckFault}
use Rattle.ps_declared.specs.inside.Answers.{IsFault}

-- the trees of some clauses, whatever type the last of them has
abbrev pub AreTrees : Outcome Nodes → Result (Vec Tree Global) CheckFault → Content → Type 0
AreTrees outcome result scope = MatchResult result (λ trees. (ty : TyView) × (outcome ≡ Gives (nodes_in trees.items) ty (names_of scope))) (IsFault outcome)

-- the tree of a clause of this type is put after those of others
abbrev pub IsPushed : TyView → Outcome Node → List Tree → List Tree → Result (Unit {0}) CheckFault → Content → Type 0
IsPushed ty outcome before after result scope = MatchResult result (λ _. (tree : Tree) × (after ≡ before ++ tree ∷ []) × (outcome ≡ Gives (node_of tree) ty (names_of scope))) (IsFault outcome)

-- a clause after one on this line of this type, which has to be void
abbrev pub behind_void : Line → TyView → Outcome Node → Outcome Node
behind_void line before clause = if is_same before types.Void then clause else Refuses (Mismatch line before types.Void)

-- an item of a `write`
abbrev pub check_item : Names → WriteItem → Outcome Node
check_item names (item e w line) =
    passes is_writable types.Int (line_of e) (check names e) >>= λ e t names.
    check_if_any names types.Int node.Empty w >>= λ w wide names. Gives (node.Write e w (is_present wide) t line) types.Void names
