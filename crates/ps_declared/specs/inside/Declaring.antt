-- What the functions of the check do for parameters and fields.
use Rattle.std.specs.Prelude.{◌≡◌, ℕ, Result, MatchResult, List, length, true, if◌then◌else◌}
use Rattle.ps_base.specs.TyView.{TyView}
use Rattle.ps_base.specs.TyView as types
use Rattle.ps_tree.specs.Phrase.{GroupAt}
use Rattle.ps_program.specs.Node.{Param, Node}
use Rattle.ps_program.specs.Node as node
use Rattle.ps_program.specs.NodeView.{param_of, params_of}
use Rattle.ps_program.specs.declared.body.Param.{Param as ParamOf}
use Rattle.ps_program.specs.declared.place.Place.TheVariants.{Plain}
use Rattle.std.specs.declared.alloc.Global.{Global}
use Rattle.std.specs.declared.vec.Vec.{Vec}
use Rattle.ps_scope.specs.Content.{Content, names_of}
use Rattle.ps_scope.specs.ps_typing.Names.{Names, declare_local, declare_field, is_declared, is_field_declared}
use Rattle.ps_scope.specs.ps_typing.Fault.{Twice}
use Rattle.ps_scope.specs.ps_typing.Checking.{Outcome, Gives, Refuses}
use Rattle.ps_declared.specs.declared.fault.CheckFault.{CheckFault}
use Rattle.ps_declared.specs.inside.Answers.{IsFault}

-- one parameter
abbrev pub one_param : Names → GroupAt → Outcome Param
one_param names group =
    if is_declared names group.name.name then Refuses (Twice group.name.line)
    else Gives (record { ty = group.ty; place = Plain (length names.all) }) types.Void (declare_local names group.name.name group.ty true)

abbrev pub IsParam : Outcome Param → Result ParamOf CheckFault → Content → Type 0
IsParam outcome result scope = MatchResult result (λ made. outcome ≡ Gives (param_of made) types.Void (names_of scope)) (IsFault outcome)

abbrev pub AreParams : Outcome (List Param) → Result (Vec ParamOf Global) CheckFault → Content → Type 0
AreParams outcome result scope = MatchResult result (λ made. outcome ≡ Gives (params_of made.items) types.Void (names_of scope)) (IsFault outcome)

-- one field
abbrev pub one_field : Names → List ℕ → ℕ → GroupAt → Outcome Node
one_field names text index group =
    if is_field_declared names group.name.name then Refuses (Twice group.name.line)
    else Gives node.Class types.Void (declare_field names (record { name = group.name.name; class = text; index = index; ty = group.ty }))

-- fields that are declared
abbrev pub AreFields : Outcome Node → Result (Unit {0}) CheckFault → Content → Type 0
AreFields outcome result scope = MatchResult result (λ _. outcome ≡ Gives node.Class types.Void (names_of scope)) (IsFault outcome)
