-- A class that is meant, and anything else.
use Rattle.std.proofs.Common.{◌≡◌, ℕ, Bool, List, refl, ap}
use Rattle.std.specs.Prelude.{Option, Some, None}
use Rattle.ps_base.specs.TyView.{TyView, TyViews}
use Rattle.ps_base.specs.TyView as types
use Rattle.ps_tree.specs.Phrase.{NameAt}
use Rattle.ps_program.specs.Node.{Node}
use Rattle.ps_scope.specs.ps_typing.Fault.{Unknown}
use Rattle.ps_scope.specs.ps_typing.Names.{Names, Meaning, local, class, library}
use Rattle.ps_scope.specs.ps_typing.Checking.{Gives, Refuses, is_of}
use Rattle.ps_declared.specs.inside.Meant.{class_meant, class_test}

text_in : List ℕ → Option Meaning → List ℕ
text_in other (Some (class t fields)) = t
text_in other _ = other

pub a_class : (name : NameAt) (negated : Bool) (e : Node) (names : Names) (m : Option Meaning) (t : List ℕ) (fields : TyViews) → class_meant m ≡ Some (class t fields) → is_of name negated e names m ≡ Gives (class_test negated e t) types.Bool names
unfolding text_in
a_class name negated e names None t fields is = absurd cc
a_class name negated e names (Some (local number ty variable)) t fields is = absurd cc
a_class name negated e names (Some (library procedure)) t fields is = absurd cc
a_class name negated e names (Some (class own others)) t fields is = ap (λ t. Gives (class_test negated e t) types.Bool names) (ap (text_in t) is)

pub no_class : (name : NameAt) (negated : Bool) (e : Node) (names : Names) (m : Option Meaning) → class_meant m ≡ None → is_of name negated e names m ≡ Refuses (Unknown name.line)
no_class name negated e names None is = refl
no_class name negated e names (Some (local number ty variable)) is = refl
no_class name negated e names (Some (library procedure)) is = refl
no_class name negated e names (Some (class own others)) is = absurd cc
