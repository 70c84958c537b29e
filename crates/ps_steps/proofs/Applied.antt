-- An application of a name, and of what is none.
use Rattle.std.proofs.Common.{◌≡◌, ℕ, List, Some, None, ap}
use Rattle.ps_base.specs.declared.line.Line.{Line}
use Rattle.ps_tree.specs.Phrase.{Phrase, Phrases}
use Rattle.ps_tree.specs.Phrase as form
use Rattle.ps_checked.specs.ps_typing.Names.{Names, meant}
use Rattle.ps_checked.specs.ps_typing.Checking.{applied, check, check_form, checkers, line_of, name_applied, name_in}
use Rattle.ps_checked.specs.inside.Links.{applied_to}

pub apply_named : (names : Names) (line : Line) (f : Phrase) (args : Phrases) (name : List ℕ) → name_in f ≡ Some name → check_form names line (form.Apply f args) ≡ name_applied names line (line_of f) (meant names name) args (checkers args)
apply_named names line f args name is = ap (λ n. applied names line (line_of f) n (check names f) args (checkers args)) is

pub apply_other : (names : Names) (line : Line) (f : Phrase) (args : Phrases) → name_in f ≡ None → check_form names line (form.Apply f args) ≡ applied_to line args (check names f)
apply_other names line f args is = ap (λ n. applied names line (line_of f) n (check names f) args (checkers args)) is
