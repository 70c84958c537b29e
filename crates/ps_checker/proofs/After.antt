-- Lists of clauses: what was made so far, and then what the rest gives.
use Rattle.std.proofs.Common.{◌≡◌, ◌<◌, ◌+◌, ℕ, suc, List, [], ◌∷◌, ◌++◌, length, map, drop, drop-cons, get_or, Bool, true, false, arith, refl, sym, ap, ◌∙◌, subst}
use Rattle.std.specs.Prelude.{Option, Some, None, if◌then◌else◌}
use Rattle.ps_base.specs.TyView.{TyView, TyViews, Void}
use Rattle.ps_base.specs.TyView as types
use Rattle.ps_base.specs.declared.line.Line.{Line}
use Rattle.ps_tree.specs.Phrase.{Phrase, Phrases, phrase_of}
use Rattle.ps_tree.specs.Phrase as form
use Rattle.ps_program.specs.Node.{Node, Nodes, none, more, Arms, no_arms, more_arms}
use Rattle.ps_program.specs.Node as node
use Rattle.ps_program.specs.NodeView.{node_of, nodes_in, arm_of}
use Rattle.ps_program.specs.inside.PartsView.{arms_in}
use Rattle.ps_base.specs.List.{items_of}
use Rattle.ps_base.specs.declared.list.List.{List as ListOf}
use Rattle.ps_program.proofs.NodeLists.{arm_of-parts}
use Rattle.ps_program.specs.declared.form.Arm.{Arm as ArmOf, Arm-F, roll-Arm, out-roll-Arm}
use Rattle.ps_program.specs.declared.form.Tree.{Tree}
use Rattle.ps_steps.specs.ps_typing.Fault.{Mismatch}
use Rattle.ps_steps.specs.ps_typing.Names.{Names}
use Rattle.ps_steps.specs.ps_typing.Checking.{Outcome, Gives, Refuses, ◌>>=◌, Checker, check, check_all, check_arms, check_each, check_args, check_written, checkers, check_if_any, is_same, is_writable, is_present, first_type, like, line_of, passes, wants}
use Rattle.ps_steps.proofs.of_ps_typing.SameTypes.{same_is_equal}
use Rattle.ps_steps.specs.ps_declared.declared.fault.CheckFault.{CheckFault}
use Rattle.ps_steps.specs.ps_declared.inside.Answers.{IsFault}
use Rattle.ps_steps.specs.ps_checked.inside.Cases.{check_arm, all_arms}
use Rattle.ps_steps.specs.ps_checked.inside.Lists.{behind_void, check_item}
use Rattle.ps_steps.proofs.of_ps_declared.Steps.{given, fails_as, fails_first}

-- what was made, before what the rest gives
abbrev pub after : {A B : Type 0} → (A → B) → Outcome A → Outcome B
after f o = o >>= λ rest ty names. Gives (f rest) ty names

abbrev pub all_nodes : Nodes → Nodes → Nodes
all_nodes none others = others
all_nodes (more t ts) others = more t (all_nodes ts others)

abbrev pub after_nodes : List Tree → Nodes → Nodes
after_nodes done = all_nodes (nodes_in done)

abbrev pub after_arms : List ArmOf → Arms → Arms
after_arms done = all_arms (arms_in done)

pub nodes_push : (done : List Tree) (t : Tree) (others : Nodes) → after_nodes done (more (node_of t) others) ≡ after_nodes (done ++ t ∷ []) others
nodes_push [] t others = refl
nodes_push (d ∷ done) t others = ap (λ (ts : Nodes). more (node_of d) ts) (nodes_push done t others)

pub nodes_none : (done : List Tree) → after_nodes done none ≡ nodes_in done
nodes_none [] = refl
nodes_none (d ∷ done) = ap (λ (ts : Nodes). more (node_of d) ts) (nodes_none done)

pub arms_push : (done : List ArmOf) (a : ArmOf) (others : Arms) → after_arms done (more_arms (arm_of a) others) ≡ after_arms (done ++ a ∷ []) others
arms_push [] a others = refl
arms_push (d ∷ done) a others = ap (λ (as_ : Arms). more_arms (arm_of d) as_) (arms_push done a others)

pub arms_none : (done : List ArmOf) → after_arms done no_arms ≡ arms_in done
arms_none [] = refl
arms_none (d ∷ done) = ap (λ (as_ : Arms). more_arms (arm_of d) as_) (arms_none done)

-- nothing before it
pub after_nothing : {A : Type 0} (f : A → A) (o : Outcome A) → ((a : A) → f a ≡ a) → after f o ≡ o
unfolding ◌>>=◌
after_nothing f (Gives a t n) same = ap (λ a. Gives a t n) (same a)
after_nothing f (Refuses fault) same = refl

module _ {A B : Type 0} where
  -- one more at the start
  pub after_one : (f g : A → B) (one : A → A) (o : Outcome A) → ((a : A) → f (one a) ≡ g a) → after f (after one o) ≡ after g o
  unfolding ◌>>=◌
  after_one f g one (Gives a t n) same = ap (λ b. Gives b t n) (same a)
  after_one f g one (Refuses fault) same = refl

  -- the fault of the rest is that of all
  pub fails_after : (f : A → B) (o : Outcome A) (all : Outcome B) (fault : CheckFault) → after f o ≡ all → IsFault o fault → IsFault all fault
  fails_after f o all fault is h = fails_as _ _ fault (sym is) (fails_first o fault _ h)

  pub gives_after : (f : A → B) (a : A) (t : TyView) (n : Names) (o : Outcome A) (all : Outcome B) → after f o ≡ all → o ≡ Gives a t n → all ≡ Gives (f a) t n
  gives_after f a t n o all is given_is = sym is ∙ given o a t n _ given_is

  -- what is done with what is made of an outcome
  pub bind_gives : {C : Type 0} (h : A → B) (o : Outcome A) (next : B → TyView → Names → Outcome C) → ((o >>= λ a t n. Gives (h a) t n) >>= next) ≡ (o >>= λ a t n. next (h a) t n)
  unfolding ◌>>=◌
  bind_gives h (Gives a t n) next = refl
  bind_gives h (Refuses fault) next = refl

-- an outcome of this type
abbrev pub Typed : {A : Type 0} → TyView → Outcome A → Type 0
Typed ty (Gives a t n) = t ≡ ty
Typed ty (Refuses fault) = Unit {0}

module _ {A B : Type 0} where
  typed_bind : (ty : TyView) (o : Outcome A) (next : A → TyView → Names → Outcome B) → ((a : A) (t : TyView) (n : Names) → Typed ty (next a t n)) → Typed ty (o >>= next)
  unfolding ◌>>=◌
  typed_bind ty (Gives a t n) next h = h a t n
  typed_bind ty (Refuses fault) next h = tt

  typed_along : (own ty : TyView) (o : Outcome A) (next : A → TyView → Names → Outcome B) → Typed own o → ((a : A) (n : Names) → Typed ty (next a own n)) → Typed ty (o >>= next)
  unfolding ◌>>=◌
  typed_along own ty (Gives a t n) next is h = subst (λ t. Typed ty (next a t n)) (sym is) (h a n)
  typed_along own ty (Refuses fault) next is h = tt

  -- what doesn't say its type by itself may as well take that of the rest
  pub retyped : (ty : TyView) (o : Outcome A) (f : A → B) → Typed ty o → (o >>= λ a t n. Gives (f a) ty n) ≡ after f o
  unfolding ◌>>=◌
  retyped ty (Gives a t n) f is = ap (λ t. Gives (f a) t n) (sym is)
  retyped ty (Refuses fault) f is = refl

typed_wants : (ty : TyView) (line : Line) (o : Outcome Node) → Typed ty (wants ty line o)
unfolding passes
typed_wants ty line (Gives tree found n) = by_test (is_same found ty) (same_is_equal found ty)
  where
    by_test : (b : Bool) → (b ≡ true → found ≡ ty) → Typed {A = Node} ty (if b then Gives tree found n else Refuses (Mismatch line found ty))
    by_test true h = h refl
    by_test false h = tt
typed_wants ty line (Refuses fault) = tt

each_typed : (names : Names) (t : TyView) (cs : List Checker) → Typed t (check_each names t cs)
each_typed names t [] = refl
each_typed names t (c ∷ cs) = typed_bind t _ _ (λ one same n. typed_bind t _ _ (λ others last n'. refl))

args_typed : (names : Names) (ts : TyViews) (cs : List Checker) → Typed Void (check_args names ts cs)
args_typed names types.none [] = refl
args_typed names types.none (c ∷ cs) = refl
args_typed names (types.more t ts) [] = refl
args_typed names (types.more t ts) (c ∷ cs) = typed_bind Void _ _ (λ one same n. typed_bind Void _ _ (λ others last n'. refl))

written_typed : (names : Names) (items : form.WriteItems) → Typed Void (check_written names items)
written_typed names form.no_items = refl
written_typed names (form.more_items (form.item e w line) rest) =
    typed_bind Void _ _ (λ e t n. typed_bind Void _ _ (λ w wide n'. typed_bind Void _ _ (λ rest last n''. refl)))

-- one clause, and then the rest
pub each_step : (names n : Names) (t own : TyView) (one : Node) (p : Phrase) (rest : Phrases) → wants t (line_of p) (check names p) ≡ Gives one own n → check_each names t (checkers (form.more p rest)) ≡ after (more one) (check_each n t (checkers rest))
each_step names n t own one p rest is = given _ _ _ _ _ is ∙ retyped t (check_each n t (checkers rest)) (more one) (each_typed n t (checkers rest))

pub args_step : (names n : Names) (t own : TyView) (ts : TyViews) (one : Node) (p : Phrase) (rest : Phrases) → wants t (line_of p) (check names p) ≡ Gives one own n → check_args names (types.more t ts) (checkers (form.more p rest)) ≡ after (more one) (check_args n ts (checkers rest))
args_step names n t own ts one p rest is = given _ _ _ _ _ is ∙ retyped Void (check_args n ts (checkers rest)) (more one) (args_typed n ts (checkers rest))

-- an item of a sequence
abbrev with_rest : Line → Phrases → Node → TyView → Names → Outcome Nodes
with_rest line rest one t n = check_all n line t rest >>= λ trees t n. Gives (more one trees) t n

pub all_is : (names : Names) (line : Line) (before : TyView) (item : Phrase) (rest : Phrases) → check_all names line before (form.more item rest) ≡ (behind_void line before (check names item) >>= with_rest (line_of item) rest)
unfolding ◌>>=◌
all_is names line before item rest = by_test (is_same before Void)
  where
    by_test : (b : Bool) → (if b then (check names item >>= with_rest (line_of item) rest) else Refuses (Mismatch line before Void)) ≡ ((if b then check names item else Refuses (Mismatch line before Void)) >>= with_rest (line_of item) rest)
    by_test true = refl
    by_test false = refl

pub all_step : (names n : Names) (line : Line) (before t : TyView) (one : Node) (item : Phrase) (rest : Phrases) → behind_void line before (check names item) ≡ Gives one t n → check_all names line before (form.more item rest) ≡ after (more one) (check_all n (line_of item) t rest)
all_step names n line before t one item rest is = all_is names line before item rest ∙ given _ _ _ _ _ is

-- an item of a `write`
pub written_is : (names : Names) (item : form.WriteItem) (rest : form.WriteItems) → check_written names (form.more_items item rest) ≡ (check_item names item >>= λ one t n. check_written n rest >>= λ trees last n'. Gives (more one trees) Void n')
unfolding ◌>>=◌
written_is names (form.item e w line) rest = first (passes is_writable types.Int (line_of e) (check names e))
  where
    second : (e : Node) (t : TyView) (o : Outcome Node) → (o >>= λ w wide n. check_written n rest >>= λ rest last n'. Gives (more (node.Write e w (is_present wide) t line) rest) Void n')
        ≡ ((o >>= λ w wide n. Gives (node.Write e w (is_present wide) t line) Void n) >>= λ one t n. check_written n rest >>= λ trees last n'. Gives (more one trees) Void n')
    second e t (Gives w wide n) = refl
    second e t (Refuses fault) = refl

    first : (o : Outcome Node) → (o >>= λ e t n. check_if_any n types.Int node.Empty w >>= λ w wide n. check_written n rest >>= λ rest last n'. Gives (more (node.Write e w (is_present wide) t line) rest) Void n')
        ≡ ((o >>= λ e t n. check_if_any n types.Int node.Empty w >>= λ w wide n. Gives (node.Write e w (is_present wide) t line) Void n) >>= λ one t n. check_written n rest >>= λ trees last n'. Gives (more one trees) Void n')
    first (Gives e t n) = second e t (check_if_any n types.Int node.Empty w)
    first (Refuses fault) = refl

pub written_step : (names n : Names) (own : TyView) (one : Node) (i : form.WriteItem) (rest : form.WriteItems) → check_item names i ≡ Gives one own n → check_written names (form.more_items i rest) ≡ after (more one) (check_written n rest)
written_step names n own one i rest is = written_is names i rest ∙ given _ _ _ _ _ is ∙ retyped Void (check_written n rest) (more one) (written_typed n rest)

-- an arm of a `case`
abbrev with_arms : TyView → form.Arms → node.Arm → TyView → Names → Outcome Arms
with_arms t rest made own n = check_arms n t (Some own) rest >>= λ arms last n'. Gives (more_arms made arms) own n'

pub arms_are : (names : Names) (t : TyView) (given : Option TyView) (arm : form.Arm) (rest : form.Arms) → check_arms names t given (form.more_arms arm rest) ≡ (check_arm names t given arm >>= with_arms t rest)
unfolding ◌>>=◌
arms_are names t given (form.arm labels a) rest = first (check_each names t (checkers labels))
  where
    first : (o : Outcome Nodes) → (o >>= λ labels same n. like given (line_of a) (check n a) >>= λ a own n. check_arms n t (Some own) rest >>= λ rest last n'. Gives (more_arms (node.arm labels a) rest) own n')
        ≡ ((o >>= λ labels same n. like given (line_of a) (check n a) >>= λ a own n. Gives (node.arm labels a) own n) >>= with_arms t rest)
    first (Gives labels same n) = sym (bind_gives (λ a. node.arm labels a) (like given (line_of a) (check n a)) (with_arms t rest))
    first (Refuses fault) = refl

-- the type of the clause of an arm that is like those before it
pub arm_typed : (names : Names) (t own : TyView) (a : form.Arm) → Typed own (check_arm names t (Some own) a)
arm_typed names t own (form.arm labels a) = typed_bind own _ _ (λ labels same n. typed_along own own _ _ (typed_wants own (line_of a) (check n a)) (λ a n'. refl))

pub type_of : {A : Type 0} (o : Outcome A) (a : A) (ty own : TyView) (n : Names) → o ≡ Gives a ty n → Typed own o → ty ≡ own
type_of o a ty own n is typed = subst (Typed own) is typed

-- the type of the arms that were made, where there are any, else that of the rest
abbrev pub or_given : TyView → Option TyView → TyView
or_given last (Some own) = own
or_given last None = last

-- what was made, before what the rest gives, with that type
abbrev pub after_given : {A B : Type 0} → Option TyView → (A → B) → Outcome A → Outcome B
after_given known f o = o >>= λ rest last names. Gives (f rest) (or_given last known) names

after_given_one : {A B : Type 0} (known : Option TyView) (own : TyView) (f g : A → B) (one : A → A) (o : Outcome A) → or_given own known ≡ own → ((a : A) → f (one a) ≡ g a) → after_given known f (after_given (Some own) one o) ≡ after_given (Some own) g o
unfolding ◌>>=◌
after_given_one known own f g one (Gives a t n) is same = ap (λ b. Gives b (or_given own known) n) (same a) ∙ ap (λ k. Gives (g a) k n) is
after_given_one known own f g one (Refuses fault) is same = refl

-- an arm is like those before it
like_given : (names n : Names) (t own : TyView) (known : Option TyView) (made : node.Arm) (a : form.Arm) → check_arm names t known a ≡ Gives made own n → or_given own known ≡ own
like_given names n t own None made a is = refl
like_given names n t own (Some k) made a is = sym (type_of _ _ _ _ _ is (arm_typed names t k a))

-- a tree that is pushed
pub pushed : (done after_it : List Tree) (t : Tree) (o left all : Outcome Nodes) → after_it ≡ done ++ t ∷ [] → left ≡ after (more (node_of t)) o → after (after_nodes done) left ≡ all → after (after_nodes after_it) o ≡ all
pushed done after_it t o left all is step before =
    ap (λ (ts : List Tree). after (after_nodes ts) o) is ∙ sym (after_one (after_nodes done) (after_nodes (done ++ t ∷ [])) (more (node_of t)) o (nodes_push done t)) ∙ ap (after (after_nodes done)) (sym step) ∙ before

-- nothing is left
pub finished : (done : List Tree) (t : TyView) (n : Names) (left all : Outcome Nodes) → left ≡ Gives none t n → after (after_nodes done) left ≡ all → all ≡ Gives (nodes_in done) t n
finished done t n left all is before = gives_after (after_nodes done) none t n left all before is ∙ ap (λ (ts : Nodes). Gives ts t n) (nodes_none done)

-- an arm that is pushed
pub pushed_arm : (names n : Names) (t own : TyView) (known : Option TyView) (done after_it : List ArmOf) (one : ArmOf) (a : form.Arm) (rest : form.Arms) (left all : Outcome Arms) → after_it ≡ done ++ one ∷ [] → check_arm names t known a ≡ Gives (arm_of one) own n → left ≡ check_arms names t known (form.more_arms a rest) → after_given known (after_arms done) left ≡ all → after_given (Some own) (after_arms after_it) (check_arms n t (Some own) rest) ≡ all
pushed_arm names n t own known done after_it one a rest left all is made_is left_is before =
    let step : left ≡ after_given (Some own) (more_arms (arm_of one)) (check_arms n t (Some own) rest) = left_is ∙ arms_are names t known a rest ∙ given _ _ _ _ _ made_is in
    ap (λ (as_ : List ArmOf). after_given (Some own) (after_arms as_) (check_arms n t (Some own) rest)) is
    ∙ sym (after_given_one known own (after_arms done) (after_arms (done ++ one ∷ [])) (more_arms (arm_of one)) (check_arms n t (Some own) rest) (like_given names n t own known (arm_of one) a made_is) (arms_push done one))
    ∙ ap (after_given known (after_arms done)) (sym step) ∙ before

pub first_pushed : (done after_it : List ArmOf) (one : ArmOf) (own : TyView) → after_it ≡ done ++ one ∷ [] → first_type (arms_in after_it) own ≡ Some own
first_pushed [] after_it one own is = ap (λ (as_ : List ArmOf). first_type (arms_in as_) own) is
first_pushed (d ∷ done) after_it one own is = ap (λ (as_ : List ArmOf). first_type (arms_in as_) own) is

-- no arm is left
pub finished_arms : (known : Option TyView) (done : List ArmOf) (n : Names) (left all : Outcome Arms) → left ≡ Gives no_arms Void n → after_given known (after_arms done) left ≡ all → all ≡ Gives (arms_in done) (or_given Void known) n
finished_arms known done n left all is before = sym before ∙ given left no_arms Void n _ is ∙ ap (λ (as_ : Arms). Gives as_ (or_given Void known) n) (arms_none done)

-- an arm that is made
pub arm_made : (labels : ListOf Tree) (a : Tree) (ts : List Tree) → ts ≡ items_of labels → node.arm (nodes_in ts) (node_of a) ≡ arm_of (roll-Arm record { labels = labels; a = a })
arm_made labels a ts is = ap (λ l. node.arm (nodes_in l) (node_of a)) is ∙ sym (arm_of-parts (roll-Arm record { labels = labels; a = a }) ∙ ap (λ (p : Arm-F _ _ _ _ _). node.arm (nodes_in (items_of p.labels)) (node_of p.a)) (out-roll-Arm record { labels = labels; a = a }))

-- a list from a place on
pub cut : {A B : Type 0} (f : A → B) (xs : List A) (i : ℕ) (d : A) → i < length xs → map f (drop i xs) ≡ f (get_or xs i d) ∷ map f (drop (i + 1) xs)
cut f xs i d below = ap (map f) (drop-cons xs i d below) ∙ ap (λ k. f (get_or xs i d) ∷ map f (drop k xs)) (let up : suc i ≡ i + 1 = omega arith in up)
