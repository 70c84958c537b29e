-- What the functions of the check do for the arms of a `case`.
use Rattle.std.specs.Prelude.{◌≡◌, Result, MatchResult, Option, option_map}
use Rattle.ps_base.specs.TyView.{TyView, ty_view}
use Rattle.ps_tree.specs.Phrase.{Arm, arm}
use Rattle.ps_program.specs.Node as node
use Rattle.ps_program.specs.inside.PartsView.{arms_in}
use Rattle.ps_declared.specs.ps_scope.Content.{Content, names_of}
use Rattle.ps_declared.specs.ps_typing.Names.{Names}
use Rattle.ps_declared.specs.ps_typing.Checking.{Outcome, Gives, ◌>>=◌, check, check_each, checkers, line_of, like, first_type}
use Rattle.ps_declared.specs.declared.fault.CheckFault.{CheckFault}
use Rattle.ps_checked.specs.declared.arms.Arms.{Arms}
use Rattle.ps_declared.specs.inside.Answers.{IsFault}

-- one arm
abbrev pub check_arm : Names → TyView → Option TyView → Arm → Outcome node.Arm
check_arm names t given (arm labels a) =
    check_each names t (checkers labels) >>= λ labels same names.
    like given (line_of a) (check names a) >>= λ a own names. Gives (node.arm labels a) own names

-- all arms, and the type of their clauses, where there are any
abbrev pub AreArms : Outcome node.Arms → Result Arms CheckFault → Content → Type 0
AreArms outcome result scope =
    MatchResult result (λ made. (ty : TyView) × (outcome ≡ Gives (arms_in made.arms.items) ty (names_of scope)) × (first_type (arms_in made.arms.items) ty ≡ option_map ty_view made.given)) (IsFault outcome)

abbrev pub all_arms : node.Arms → node.Arms → node.Arms
all_arms node.no_arms others = others
all_arms (node.more_arms a as_) others = node.more_arms a (all_arms as_ others)
