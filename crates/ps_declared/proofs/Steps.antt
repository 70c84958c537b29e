-- How outcomes follow from one another, and what the functions of the check answer of them.
use Rattle.std.proofs.Common.{◌≡◌, Bool, true, false, refl, sym, ap, ◌∙◌, subst, IsTrue}
use Rattle.std.specs.Prelude.{Result, Ok, Err, Option, Some, None, if◌then◌else◌, MatchResult, IsErrAnd}
use Rattle.std.proofs.lemmas.Result.{err_from_is_err_and}
use Rattle.ps_base.specs.TyView.{TyView, Void, ty_view}
use Rattle.ps_base.specs.declared.line.Line.{Line}
use Rattle.ps_program.specs.Node.{Node}
use Rattle.ps_program.specs.NodeView.{node_of}
use Rattle.ps_scope.specs.ps_typing.Fault.{Fault, Mismatch, NotAssignable}
use Rattle.ps_scope.specs.ps_typing.Names.{Names}
use Rattle.ps_scope.specs.ps_typing.Checking.{Outcome, Gives, Refuses, ◌>>=◌, passes, wants, is_same, assigned}
use Rattle.ps_scope.proofs.of_ps_typing.SameTypes.{same_is_equal, equal_is_same}
use Rattle.ps_declared.specs.Faults.{fault_of}
use Rattle.ps_declared.specs.declared.clause.Clause.{Clause}
use Rattle.ps_declared.specs.declared.fault.CheckFault.{CheckFault}
use Rattle.ps_declared.specs.inside.Answers.{Refused, IsFault, IsMade, IsMemory}

-- what follows from what an outcome gives
pub given : {A B : Type 0} (o : Outcome A) (tree : A) (ty : TyView) (names : Names) (next : A → TyView → Names → Outcome B) → o ≡ Gives tree ty names → (o >>= next) ≡ next tree ty names
unfolding ◌>>=◌
given o tree ty names next is = ap (λ o. o >>= next) is

refused_first : {A B : Type 0} (o : Outcome A) (fault : Option Fault) (next : A → TyView → Names → Outcome B) → Refused o fault → Refused (o >>= next) fault
unfolding ◌>>=◌
refused_first o None next h = tt
refused_first o (Some fault) next h = ap (λ o. o >>= next) h

refused_along : {A : Type 0} (o other : Outcome A) (fault : Option Fault) → o ≡ other → Refused other fault → Refused o fault
refused_along o other None is h = tt
refused_along o other (Some fault) is h = is ∙ h

-- an outcome that is another one has its fault
pub fails_as : {A : Type 0} (o other : Outcome A) (fault : CheckFault) → o ≡ other → IsFault other fault → IsFault o fault
fails_as o other fault is h = record { is = refused_along o other (fault_of fault) is h.is }

-- the fault of what comes first is the fault of all
pub fails_first : {A B : Type 0} (o : Outcome A) (fault : CheckFault) (next : A → TyView → Names → Outcome B) → IsFault o fault → IsFault (o >>= next) fault
fails_first o fault next h = record { is = refused_first o (fault_of fault) next h.is }

pub fails_next : {A B : Type 0} (o : Outcome A) (tree : A) (ty : TyView) (names : Names) (next : A → TyView → Names → Outcome B) (fault : CheckFault) → o ≡ Gives tree ty names → IsFault (next tree ty names) fault → IsFault (o >>= next) fault
fails_next o tree ty names next fault is h = fails_as _ _ fault (given o tree ty names next is) h

-- want of memory is any outcome's
pub no_memory : {A : Type 0} (o : Outcome A) (fault : CheckFault) → IsMemory fault → IsFault o fault
no_memory o fault is = record { is = subst (Refused o) (sym is) tt }

pub is_fault : {A : Type 0} (o : Outcome A) (fault : CheckFault) (f : Fault) → fault_of fault ≡ Some f → o ≡ Refuses f → IsFault o fault
is_fault o fault f is h = record { is = subst (Refused o) (sym is) h }

-- a clause that passes the test of its type, and one that doesn't
pub passed : (test : TyView → Bool) (wanted : TyView) (line : Line) (o : Outcome Node) (tree : Node) (ty : TyView) (names : Names) → o ≡ Gives tree ty names → test ty ≡ true → passes test wanted line o ≡ Gives tree ty names
unfolding passes
passed test wanted line o tree ty names is h = ap (passes test wanted line) is ∙ ap (λ b. if b then Gives tree ty names else Refuses (Mismatch line ty wanted)) h

pub not_passed : (test : TyView → Bool) (wanted : TyView) (line : Line) (o : Outcome Node) (tree : Node) (ty : TyView) (names : Names) → o ≡ Gives tree ty names → test ty ≡ false → passes test wanted line o ≡ Refuses (Mismatch line ty wanted)
unfolding passes
not_passed test wanted line o tree ty names is h = ap (passes test wanted line) is ∙ ap (λ b. if b then Gives tree ty names else Refuses (Mismatch line ty wanted)) h

refused_test : (test : TyView → Bool) (wanted : TyView) (line : Line) (o : Outcome Node) (fault : Option Fault) → Refused o fault → Refused (passes test wanted line o) fault
unfolding passes
refused_test test wanted line o None h = tt
refused_test test wanted line o (Some fault) h = ap (passes test wanted line) h

pub fails_test : (test : TyView → Bool) (wanted : TyView) (line : Line) (o : Outcome Node) (fault : CheckFault) → IsFault o fault → IsFault (passes test wanted line o) fault
fails_test test wanted line o fault h = record { is = refused_test test wanted line o (fault_of fault) h.is }

-- what the test of two types in code says
true_or_false : (b : Bool) → (b ≡ true → ⊥) → b ≡ false
true_or_false true h = absurd (h refl)
true_or_false false h = refl

never : IsTrue false → ⊥
never h = cc

pub same : (a b : TyView) (r : Bool) → (IsTrue r → a ≡ b) × (a ≡ b → IsTrue r) → r ≡ true → is_same a b ≡ true
same a b r says holds = equal_is_same a b (says.0 (subst IsTrue (sym holds) refl))

pub not_same : (a b : TyView) (r : Bool) → (IsTrue r → a ≡ b) × (a ≡ b → IsTrue r) → r ≡ false → is_same a b ≡ false
not_same a b r says fails = true_or_false (is_same a b) (λ holds. never (subst IsTrue fails (says.1 (same_is_equal a b holds))))

-- a clause with its tree and its type, and these names after it
abbrev pub IsClauseAt : Outcome Node → Result Clause CheckFault → Names → Type 0
IsClauseAt o result names = MatchResult result (λ clause. o ≡ Gives (node_of clause.tree) (ty_view clause.ty) names) (IsFault o)

-- a tree that is made is what the clause gives
pub made : (o : Outcome Node) (tree : Node) (ty : TyView) (names : Names) (result : Result Clause CheckFault) → o ≡ Gives tree ty names → IsMade tree ty result → IsClauseAt o result names
made o tree ty names (Ok clause) is m = is ∙ ap (λ t. Gives t ty names) (sym m.0) ∙ ap (λ k. Gives (node_of clause.tree) k names) (sym m.1)
made o tree ty names (Err fault) is m = no_memory o fault m

-- an outcome that is another one is answered as that
pub leads : (o other : Outcome Node) (result : Result Clause CheckFault) (names : Names) → o ≡ other → IsClauseAt other result names → IsClauseAt o result names
leads o other (Ok clause) names is h = is ∙ h
leads o other (Err fault) names is h = fails_as o other fault is h

-- the exit of a `?`
pub exits : {T : Type 0} {A : Type 0} (r : Result T CheckFault) (P : T → Type 0) (fault : CheckFault) (o : Outcome A) → IsErrAnd r (λ y. y ≡ fault) → IsFault o fault → MatchResult r P (IsFault o)
exits r P fault o is h =
    let p = err_from_is_err_and r is in
    from_err r P o p.0 p.1 (subst (IsFault o) (sym p.2) h)
  where
    from_err : {T : Type 0} {A : Type 0} (r : Result T CheckFault) (P : T → Type 0) (o : Outcome A) (y : CheckFault) → r ≡ Err y → IsFault o y → MatchResult r P (IsFault o)
    from_err r P o y is h = subst (λ (r : Result _ CheckFault). MatchResult r P (IsFault o)) (sym is) h

-- the exit of a `?` where there was no memory
pub exhausted : {T : Type 0} {A : Type 0} (r : Result T CheckFault) (P : T → Type 0) (o : Outcome A) → IsErrAnd r IsMemory → MatchResult r P (IsFault o)
exhausted r P o is =
    let p = err_from_is_err_and r is in
    from_err r P o p.0 p.1 (no_memory o p.0 p.2)
  where
    from_err : {T : Type 0} {A : Type 0} (r : Result T CheckFault) (P : T → Type 0) (o : Outcome A) (y : CheckFault) → r ≡ Err y → IsFault o y → MatchResult r P (IsFault o)
    from_err r P o y is h = subst (λ (r : Result _ CheckFault). MatchResult r P (IsFault o)) (sym is) h

-- the same tree in other words
pub remade : (tree other : Node) (ty : TyView) (result : Result Clause CheckFault) → tree ≡ other → IsMade tree ty result → IsMade other ty result
remade tree other ty result is m = subst (λ t. IsMade t ty result) is m

-- an assignment of a value of the right type, of one of another, and to what can't be assigned to
pub assigned_to : (line e_line : Line) (variable : Bool) (assignment : Option Node) (tree : Node) (wanted found : TyView) (names : Names) → variable ≡ true → assignment ≡ Some tree → is_same found wanted ≡ true → assigned line e_line variable assignment wanted found names ≡ Gives tree Void names
unfolding assigned
assigned_to line e_line variable assignment tree wanted found names is_variable is holds =
    ap (λ v. assigned line e_line v assignment wanted found names) is_variable ∙ ap (λ a. assigned line e_line true a wanted found names) is
    ∙ ap (λ b. if b then Gives tree Void names else Refuses (Mismatch e_line found wanted)) holds

pub mismatched : (line e_line : Line) (variable : Bool) (assignment : Option Node) (tree : Node) (wanted found : TyView) (names : Names) → variable ≡ true → assignment ≡ Some tree → is_same found wanted ≡ false → assigned line e_line variable assignment wanted found names ≡ Refuses (Mismatch e_line found wanted)
unfolding assigned
mismatched line e_line variable assignment tree wanted found names is_variable is fails =
    ap (λ v. assigned line e_line v assignment wanted found names) is_variable ∙ ap (λ a. assigned line e_line true a wanted found names) is
    ∙ ap (λ b. if b then Gives tree Void names else Refuses (Mismatch e_line found wanted)) fails

pub nothing_to_assign : (line e_line : Line) (variable : Bool) (wanted found : TyView) (names : Names) → assigned line e_line variable None wanted found names ≡ Refuses (NotAssignable line)
unfolding assigned
nothing_to_assign line e_line true wanted found names = refl
nothing_to_assign line e_line false wanted found names = refl

pub constant_assigned : (line e_line : Line) (assignment : Option Node) (wanted found : TyView) (names : Names) → assigned line e_line false assignment wanted found names ≡ Refuses (NotAssignable line)
unfolding assigned
constant_assigned line e_line None wanted found names = refl
constant_assigned line e_line (Some tree) wanted found names = refl

-- a choice between a fault and what goes on
pub chosen : {A B : Type 0} (b : Bool) (fault : Fault) (of : A) (ty : TyView) (names : Names) (next : A → TyView → Names → Outcome B) → ((if b then Refuses fault else Gives of ty names) >>= next) ≡ (if b then Refuses fault else next of ty names)
unfolding ◌>>=◌
chosen true fault of ty names next = refl
chosen false fault of ty names next = refl

-- the same tree and the same type in other words
pub remade_both : (tree other : Node) (ty own : TyView) (result : Result Clause CheckFault) → tree ≡ other → ty ≡ own → IsMade tree ty result → IsMade other own result
remade_both tree other ty own result is is_own m = subst (λ t. IsMade t own result) is (subst (λ k. IsMade tree k result) is_own m)

-- the wanted type in other words
pub as_wanted : (line : Line) (o : Outcome Node) (tree : Node) (n : Names) {k own : TyView} → k ≡ own → wants k line o ≡ Gives tree k n → wants own line o ≡ Gives tree own n
as_wanted line o tree n alike is = subst (λ k. wants k line o ≡ Gives tree k n) alike is

pub fails_as_wanted : (line : Line) (o : Outcome Node) (fault : CheckFault) {k own : TyView} → k ≡ own → IsFault (wants k line o) fault → IsFault (wants own line o) fault
fails_as_wanted line o fault alike is = subst (λ k. IsFault (wants k line o) fault) alike is
