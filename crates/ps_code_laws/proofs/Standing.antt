-- Instructions that stand one after the other in the code of a unit, and constants that stand among its constants.
use Rattle.std.proofs.Common.{◌≡◌, ℕ, ◌+◌, List, [], ◌∷◌, ◌++◌, length, drop, Some, refl, sym, ap, ◌∙◌, subst, arith, suc, drop-drop, append-nil}
use Rattle.std.specs.List.{AllByRecursion}
use Rattle.ps_gen.specs.ps_base.CodeUnit.{UnitView, unit, ConstantView}
use Rattle.ps_gen.specs.ps_base.Instr.{spelling, spelled, width_of, IsInstr}
use Rattle.ps_gen.specs.ps_base.declared.instr.Instr.{Instr}
use Rattle.ps_gen.specs.ps_base.declared.code_unit.Frame.{Frame}
use Rattle.ps_gen.proofs.of_ps_base.Spellings.{length-spelling}
use Rattle.ps_gen.specs.ps_program.Node.{Node, Nodes}
use Rattle.ps_gen.specs.Emission.{size, size_all, count, emit, emit_all}
use Rattle.ps_gen.specs.Units.{constants, row_of}
use Rattle.ps_gen.proofs.Widths.{widths, width_emit, width_all, count_constants}
use Rattle.ps_stepping.specs.Config.{code_in, constants_in, constant_at, IsAt}

-- this instruction stands at an offset, and is such as may run
abbrev pub AtBy : (Instr → Type 0) → UnitView → ℕ → Instr → Type 0
AtBy Allows u at i = IsAt (code_in u) at i × Allows i

-- these instructions stand from this offset on, and are such as may run
abbrev pub Ahead : (Instr → Type 0) → UnitView → ℕ → List Instr → Type 0
Ahead Allows u at [] = Unit {0}
Ahead Allows u at (i ∷ is) = AtBy Allows u at i × Ahead Allows u (at + width_of i) is

-- these constants stand from this number on
abbrev pub Named : UnitView → ℕ → List ConstantView → Type 0
Named u k [] = Unit {0}
Named u k (c ∷ cs) = (constant_at (constants_in u) k ≡ Some c) × Named u (k + 1) cs

pub ahead_at : (Allows : Instr → Type 0) (u : UnitView) (i j : ℕ) (is : List Instr) → i ≡ j → Ahead Allows u i is → Ahead Allows u j is
ahead_at Allows u i j is e h = subst (λ (n : ℕ). Ahead Allows u n is) e h

pub named_at : (u : UnitView) (k l : ℕ) (cs : List ConstantView) → k ≡ l → Named u k cs → Named u l cs
named_at u k l cs e h = subst (λ (n : ℕ). Named u n cs) e h

pub front : (Allows : Instr → Type 0) (u : UnitView) (at : ℕ) (xs ys : List Instr) → Ahead Allows u at (xs ++ ys) → Ahead Allows u at xs
front Allows u at [] ys h = tt
front Allows u at (x ∷ xs) ys h = (h.0, front Allows u (at + width_of x) xs ys h.1)

pub behind : (Allows : Instr → Type 0) (u : UnitView) (at j : ℕ) (xs ys : List Instr) → at + widths xs ≡ j → Ahead Allows u at (xs ++ ys) → Ahead Allows u j ys
behind Allows u at j [] ys e h = ahead_at Allows u at j ys (omega arith) h
behind Allows u at j (x ∷ xs) ys e h = behind Allows u (at + width_of x) j xs ys (omega arith) h.1

pub named_front : (u : UnitView) (k : ℕ) (xs ys : List ConstantView) → Named u k (xs ++ ys) → Named u k xs
named_front u k [] ys h = tt
named_front u k (x ∷ xs) ys h = (h.0, named_front u (k + 1) xs ys h.1)

pub named_behind : (u : UnitView) (k l : ℕ) (xs ys : List ConstantView) → k + length xs ≡ l → Named u k (xs ++ ys) → Named u l ys
named_behind u k l [] ys e h = named_at u k l ys (omega arith) h
named_behind u k l (x ∷ xs) ys e h = named_behind u (k + 1) l xs ys (omega arith) h.1

-- after a clause
pub after_clause : (Allows : Instr → Type 0) (u : UnitView) (t : Node) (at k : ℕ) (ys : List Instr) → Ahead Allows u at (emit t at k ++ ys) → Ahead Allows u (at + size t) ys
after_clause Allows u t at k ys h = behind Allows u at (at + size t) (emit t at k) ys (ap (λ n. at + n) (width_emit t at k)) h

pub after_clauses : (Allows : Instr → Type 0) (u : UnitView) (ts : Nodes) (at k : ℕ) (ys : List Instr) → Ahead Allows u at (emit_all ts at k ++ ys) → Ahead Allows u (at + size_all ts) ys
after_clauses Allows u ts at k ys h = behind Allows u at (at + size_all ts) (emit_all ts at k) ys (ap (λ n. at + n) (width_all ts at k)) h

pub names_behind : (u : UnitView) (t : Node) (k : ℕ) (ys : List ConstantView) → Named u k (constants t ++ ys) → Named u (k + count t) ys
names_behind u t k ys h = named_behind u k (k + count t) (constants t) ys (ap (λ n. k + n) (count_constants t)) h

spelled_more : (i : Instr) (is : List Instr) → spelled (i ∷ is) ≡ spelling i ++ spelled is
spelled_more i [] = sym (append-nil (spelling i))
spelled_more i (j ∷ is) = refl

drop_whole : (xs ys : List ℕ) → drop (length xs) (xs ++ ys) ≡ ys
drop_whole [] ys = refl
drop_whole (x ∷ xs) ys = drop_whole xs ys

drop_more : (m n : ℕ) (xs : List ℕ) → drop (m + n) xs ≡ drop n (drop m xs)
drop_more m n xs = sym (drop-drop n m xs)

pub all_ahead : (Allows : Instr → Type 0) (u : UnitView) (at : ℕ) (is : List Instr) → AllByRecursion IsInstr is → AllByRecursion Allows is → drop at (code_in u) ≡ spelled is → Ahead Allows u at is
all_ahead Allows u at [] h k e = tt
all_ahead Allows u at (i ∷ is) h k e =
    let here : drop at (code_in u) ≡ spelling i ++ spelled is = e ∙ spelled_more i is in
    let next : drop (at + width_of i) (code_in u) ≡ spelled is = drop_more at (width_of i) (code_in u) ∙ ap (drop (width_of i)) here
    ∙ ap (λ n. drop n (spelling i ++ spelled is)) (sym (length-spelling i)) ∙ drop_whole (spelling i) (spelled is) in
    ((record { is_instr = h.0; rest = spelled is; spelled = here }, k.0), all_ahead Allows u (at + width_of i) is h.1 k.1 next)

-- the constants of a row
constants_from : (u : UnitView) (k : ℕ) (cs : List ConstantView) → ((n : ℕ) → constant_at (constants_in u) (k + n) ≡ constant_at (row_of cs) n) →
    Named u k cs
constants_from u k [] h = tt
constants_from u k (c ∷ cs) h =
    let at_first : k ≡ k + 0 = omega arith in
    let further : (n : ℕ) → k + 1 + n ≡ k + suc n = λ n. omega arith in
    (ap (constant_at (constants_in u)) at_first ∙ h 0, constants_from u (k + 1) cs (λ n. ap (constant_at (constants_in u)) (further n) ∙ h (suc n)))

pub all_named : (code : List ℕ) (c : ConstantView) (cs : List ConstantView) (frame : Frame) → Named (unit code (row_of (c ∷ cs)) frame) 1 cs
all_named code c cs frame = (constants_from (unit code (row_of (c ∷ cs)) frame) 0 (c ∷ cs) (λ n. ap (constant_at (row_of (c ∷ cs))) (zero_plus n))).1
  where
    zero_plus : (n : ℕ) → 0 + n ≡ n
    zero_plus n = omega arith
