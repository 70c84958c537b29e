-- A chain of operators and applications: its links, which come after its innermost left operand.
use Rattle.std.specs.Prelude.{List, [], ◌∷◌}
use Rattle.ps_base.specs.TyView.{TyView}
use Rattle.ps_base.specs.TyView as types
use Rattle.ps_base.specs.declared.line.Line.{Line}
use Rattle.ps_tree.specs.Phrase.{Phrase, Phrases, phrase_of}
use Rattle.ps_tree.specs.PhraseLists.{phrases_in}
use Rattle.ps_program.specs.Node.{Node}
use Rattle.ps_program.specs.Node as node
use Rattle.ps_declared.specs.ps_typing.Checking.{Outcome, Gives, ◌>>=◌, check, line_of, wants, value_applied, checkers}
use Rattle.ps_checked.specs.declared.link.Joint.{Joint}
use Rattle.ps_checked.specs.declared.link.Joint.TheVariants as joint
use Rattle.ps_checked.specs.declared.link.Link.{Link}
use Rattle.ps_checked.specs.declared.link.Link.TheVariants as link

abbrev pub joint_ty : Joint → TyView
joint_ty joint.Or = types.Bool
joint_ty joint.And = types.Bool
joint_ty (joint.Join line) = types.Str
joint_ty (joint.Arith op line) = types.Int

abbrev pub joint_node : Joint → Node → Node → Node
joint_node joint.Or a b = node.Or a b
joint_node joint.And a b = node.And a b
joint_node (joint.Join line) a b = node.Join a b line
joint_node (joint.Arith op line) a b = node.Arith op a b line

-- an operator after a left operand, which begins on this line
abbrev pub joined : Joint → Line → Phrase → Outcome Node → Outcome Node
joined kind left_line right left =
    wants (joint_ty kind) left_line left >>= λ a t names.
    wants (joint_ty kind) (line_of right) (check names right) >>= λ b t names. Gives (joint_node kind a b) (joint_ty kind) names

abbrev pub applied_to : Line → Phrases → Outcome Node → Outcome Node
applied_to line args left = left >>= λ f t names. value_applied names line f t args (checkers args)

abbrev pub parted : Line → Line → Phrase → Phrase → Outcome Node → Outcome Node
parted line left_line i n left =
    wants types.Str left_line left >>= λ s t names.
    wants types.Int (line_of i) (check names i) >>= λ i t names.
    wants types.Int (line_of n) (check names n) >>= λ n t names. Gives (node.Part s i n line) types.Str names

abbrev pub check_link : Link → Outcome Node → Outcome Node
check_link (link.Operator kind left_line right) left = joined kind left_line (phrase_of right.now) left
check_link (link.Apply line args) left = applied_to line (phrases_in args.now) left
check_link (link.Part line left_line i n) left = parted line left_line (phrase_of i.now) (phrase_of n.now) left

-- the links of a chain, the outermost first, after its innermost left operand
abbrev pub check_links : List Link → Outcome Node → Outcome Node
check_links [] innermost = innermost
check_links (link ∷ links) innermost = check_link link (check_links links innermost)
