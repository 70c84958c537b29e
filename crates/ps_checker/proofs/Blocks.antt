-- Where a block ends, what was around it is still there.
use Rattle.std.proofs.Common.{◌≡◌, ◌≤◌, ℕ, Bool, true, false, List, [], ◌++◌, length, length-append, nat_lt, arith, ap}
use Rattle.std.specs.Prelude.{if◌then◌else◌}
use Rattle.ps_base.specs.TyView.{TyView}
use Rattle.ps_base.specs.declared.line.Line.{Line}
use Rattle.ps_program.specs.Node.{Node, Param}
use Rattle.ps_steps.specs.ps_typing.Fault.{Limit, Mismatch}
use Rattle.ps_steps.specs.ps_typing.Names.{Names}
use Rattle.ps_steps.specs.ps_typing.Checking.{Outcome, Gives, Refuses, passes, with_params}
use Rattle.ps_steps.specs.ps_declared.inside.Looks.{LiteralAt}
use Rattle.ps_steps.specs.ps_checked.inside.Forms.{opened}

pub stays : {A : Type 0} (block : ℕ) (last here around : List A) → last ≡ here ++ around → block ≡ length around → block ≤ length last
stays block last here around is at =
    let all : length last ≡ length (here ++ around) = ap length is in
    omega (arith, all, at, length-append here around)

-- a clause that passed its test gives what it gave
abbrev is_given : Outcome Node → Type 0
is_given (Gives tree ty names) = Unit {0}
is_given (Refuses fault) = ⊥

pub unpassed : (test : TyView → Bool) (wanted : TyView) (line : Line) (o : Outcome Node) (tree : Node) (ty : TyView) (n : Names) → passes test wanted line o ≡ Gives tree ty n → o ≡ Gives tree ty n
unfolding passes
unpassed test wanted line (Gives a k m) tree ty n is = by_test (test k) is
  where
    by_test : (b : Bool) → (if b then Gives a k m else Refuses (Mismatch line k wanted)) ≡ Gives tree ty n → Gives a k m ≡ Gives tree ty n
    by_test true same = same
    by_test false same = absurd cc
unpassed test wanted line (Refuses fault) tree ty n is = absurd cc

-- the parameters of a literal that are not too many
pub few_opened : (own : Names) (l : LiteralAt) (made : List Param) (t : TyView) (n : Names) → opened own l ≡ Gives made t n → with_params own [] l.params ≡ Gives made t n
few_opened own l made t n is = by_test (nat_lt 64 (length l.params)) is
  where
    by_test : (b : Bool) → (if b then Refuses (Limit l.line (length l.params)) else with_params own [] l.params) ≡ Gives made t n → with_params own [] l.params ≡ Gives made t n
    by_test true same = absurd cc
    by_test false same = same
