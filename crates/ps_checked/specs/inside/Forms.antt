-- What the functions of the check do for single forms.
use Rattle.std.specs.Prelude.{Bool, List, [], length, nat_lt, if◌then◌else◌}
use Rattle.ps_base.specs.Limits.{most_parameters}
use Rattle.ps_base.specs.TyView.{TyView}
use Rattle.ps_base.specs.TyView as types
use Rattle.ps_base.specs.declared.line.Line.{Line}
use Rattle.ps_tree.specs.Phrase.{NameAt, Phrase}
use Rattle.ps_program.specs.Node.{Node, Nodes, Param}
use Rattle.ps_program.specs.Node as node
use Rattle.ps_program.specs.NodeView.{node_of}
use Rattle.std.specs.Rc.{rc_value}
use Rattle.ps_declared.specs.ps_typing.Names.{Names}
use Rattle.ps_declared.specs.ps_typing.Fault.{NotApplicable, Limit}
use Rattle.ps_declared.specs.ps_typing.Checking.{Outcome, Gives, Refuses, ◌>>=◌, check, line_of, wants, passes, isnt_void, introduced, literal, named_literal, with_params}
use Rattle.ps_checked.specs.declared.head.Head.{Head}
use Rattle.ps_checked.specs.declared.head.Head.TheVariants as head
use Rattle.ps_declared.specs.inside.Looks.{LiteralAt}

-- a name that is declared after its initial clause, which is no literal
abbrev pub check_initial : Names → NameAt → Bool → Phrase → Outcome Node
check_initial names name variable e = passes isnt_void types.Bool (line_of e) (check names e) >>= λ e t names. introduced name variable e t names

-- the parameters of a literal, in the block that is theirs
abbrev pub opened : Names → LiteralAt → Outcome (List Param)
opened own l = if nat_lt most_parameters (length l.params) then Refuses (Limit l.line (length l.params)) else with_params own [] l.params

abbrev pub check_literal : Names → LiteralAt → Outcome Node
check_literal names l = literal names l.line l.params l.gives (line_of l.s) (λ own. check own l.s)

abbrev pub check_named : Names → NameAt → Bool → LiteralAt → Outcome Node
check_named names name variable l = named_literal names name variable l.line l.params l.gives (line_of l.s) (λ own. check own l.s)

abbrev pub head_node : Head → Line → Nodes → Node
head_node (head.Call f) line args = node.Call (node_of f) args line
head_node (head.Make of) line args = node.Make (rc_value of) args
head_node (head.Lib code) line args = node.Lib code args line

-- one subscript
abbrev pub check_element : Names → Line → Node → TyView → Phrase → Outcome Node
check_element names line v (types.Vector element) i = wants types.Int (line_of i) (check names i) >>= λ i int names. Gives (node.Element v i element line) element names
check_element names line v _ i = Refuses (NotApplicable line)
