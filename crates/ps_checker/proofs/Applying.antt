-- Applications to arguments and to subscripts.
use Rattle.std.proofs.Common.{◌≡◌, ◌+◌, ℕ, Bool, true, false, nat_eq, suc, List, [], ◌∷◌, length, get_or, arith, refl, sym, ap, ◌∙◌}
use Rattle.std.proofs.lemmas.Bool.Decides.{nat_tests}
use Rattle.std.specs.Bool.{◌==◌}
use Rattle.std.specs.Prelude.{if◌then◌else◌}
use Rattle.ps_base.specs.TyView.{TyView, TyViews, Void, ty_view, ty_views}
use Rattle.ps_base.specs.TyView as types
use Rattle.ps_base.specs.declared.line.Line.{Line}
use Rattle.ps_base.specs.declared.ty.Ty.{Ty}
use Rattle.ps_tree.specs.Phrase.{Phrase, Phrases, phrase_of}
use Rattle.ps_tree.specs.Phrase as form
use Rattle.ps_tree.specs.PhraseLists.{phrases_in}
use Rattle.ps_tree.specs.declared.rough.Rough.{Rough}
use Rattle.ps_program.specs.Node.{Node, Nodes, none}
use Rattle.ps_program.specs.Node as node
use Rattle.ps_steps.specs.ps_typing.Fault.{NotApplicable}
use Rattle.ps_steps.specs.ps_typing.Names.{Names}
use Rattle.ps_steps.specs.ps_typing.Checking.{Outcome, Gives, Refuses, ◌>>=◌, Checker, check, check_args, checkers, count_types, elements, line_of, wants, value_applied, with_args, scan_applied}
use Rattle.ps_steps.specs.ps_checked.inside.Forms.{check_element}

counted_types : (ts : List Ty) → count_types (ty_views ts) ≡ length ts
counted_types [] = refl
counted_types (t ∷ ts) = ap (λ n. n + 1) (counted_types ts) ∙ omega arith

counted_checkers : (cs : List Rough) → length (checkers (phrases_in cs)) ≡ length cs
counted_checkers [] = refl
counted_checkers (c ∷ cs) = ap suc (counted_checkers cs)

equal_lengths : (n m : ℕ) → n ≡ m → nat_eq n m ≡ true
equal_lengths n m is = grind (arith, nat_tests)

other_lengths : (n m : ℕ) → (n ≡ m → ⊥) → nat_eq n m ≡ false
other_lengths n m other = grind (arith, nat_tests)

module _ (names : Names) (line : Line) (ts : List Ty) (cs : List Rough) (make : Nodes → Node) (gives : TyView) where
  with_test : Bool → Outcome Node
  with_test b = if b then (check_args names (ty_views ts) (checkers (phrases_in cs)) >>= λ args t names. Gives (make args) gives names) else Refuses (NotApplicable line)

  test_is : with_args names line (ty_views ts) (checkers (phrases_in cs)) make gives ≡ with_test (nat_eq (length ts) (length cs))
  unfolding with_test
  test_is = ap (λ n. with_test (nat_eq n (length (checkers (phrases_in cs))))) (counted_types ts) ∙ ap (λ n. with_test (nat_eq (length ts) n)) (counted_checkers cs)

  pub same_number : length ts ≡ length cs → with_args names line (ty_views ts) (checkers (phrases_in cs)) make gives ≡ (check_args names (ty_views ts) (checkers (phrases_in cs)) >>= λ args t names. Gives (make args) gives names)
  unfolding with_test
  same_number is = test_is ∙ ap with_test (equal_lengths _ _ is)

  pub other_number : (length ts ≡ length cs → ⊥) → with_args names line (ty_views ts) (checkers (phrases_in cs)) make gives ≡ Refuses (NotApplicable line)
  unfolding with_test
  other_number other = test_is ∙ ap with_test (other_lengths _ _ other)

-- where no argument is left
pub no_args : (names : Names) (ts : TyViews) → check_args names ts [] ≡ Gives none Void names
no_args names types.none = refl
no_args names (types.more t ts) = refl

pub elements_as : (names : Names) (line : Line) (v w : Node) (t u : TyView) (cs : List Checker) → v ≡ w → t ≡ u → elements names line v t cs ≡ elements names line w u cs
elements_as names line v w t u cs v_is t_is = ap (λ v. elements names line v t cs) v_is ∙ ap (λ t. elements names line w t cs) t_is

-- a subscript, and then the others
pub elements_are : (names : Names) (line : Line) (v : Node) (t : TyView) (p : Phrase) (rest : Phrases) → elements names line v t (checkers (form.more p rest)) ≡ (check_element names line v t p >>= λ v t n. elements n line v t (checkers rest))
unfolding ◌>>=◌
elements_are names line v types.Int p rest = refl
elements_are names line v types.Bool p rest = refl
elements_are names line v types.Str p rest = refl
elements_are names line v types.Pntr p rest = refl
elements_are names line v types.Void p rest = refl
elements_are names line v (types.Proc ts g) p rest = refl
elements_are names line v (types.Vector element) p rest = one (wants types.Int (line_of p) (check names p))
  where
    one : (o : Outcome Node) → (o >>= λ i int n. elements n line (node.Element v i element line) element (checkers rest)) ≡ ((o >>= λ i int n. Gives (node.Element v i element line) element n) >>= λ v t n. elements n line v t (checkers rest))
    one (Gives i int n) = refl
    one (Refuses fault) = refl

-- the arguments of a scan
pub two_of : (xs : List Rough) (a f : Rough) → length xs ≡ 2 → a ≡ get_or xs 0 a → f ≡ get_or xs 1 f → xs ≡ a ∷ f ∷ []
two_of [] a f is a_is f_is = absurd (omega (arith, is))
two_of (x ∷ []) a f is a_is f_is = absurd (omega (arith, is))
two_of (x ∷ y ∷ []) a f is a_is f_is = ap (λ r. r ∷ y ∷ []) (sym a_is) ∙ ap (λ r. a ∷ r ∷ []) (sym f_is)
two_of (x ∷ y ∷ z ∷ zs) a f is a_is f_is = absurd (omega (arith, is))

pub not_two : (names : Names) (line : Line) (text : Bool) (xs : List Rough) → (length xs ≡ 2 → ⊥) → scan_applied names line text (checkers (phrases_in xs)) ≡ Refuses (NotApplicable line)
not_two names line text [] other = refl
not_two names line text (x ∷ []) other = refl
not_two names line text (x ∷ y ∷ []) other = absurd (other refl)
not_two names line text (x ∷ y ∷ z ∷ zs) other = refl

-- a vector at one subscript or more
pub some_subscripts : (names : Names) (line : Line) (v : Node) (element : TyView) (args : List Rough) (b : Bool) → b ≡ (length args == 0) → b ≡ false → value_applied names line v (types.Vector element) (phrases_in args) (checkers (phrases_in args)) ≡ elements names line v (types.Vector element) (checkers (phrases_in args))
some_subscripts names line v element [] b is fails = absurd cc
some_subscripts names line v element (arg ∷ args) b is fails = refl
