-- What single calls put, and pieces with holes.
use Rattle.std.proofs.Common.{◌≡◌, length, ℕ, ◌+◌, List, [], ◌∷◌, ◌++◌, refl, sym, ap, subst, ◌∙◌, arith, append_assoc}
use Rattle.std.proofs.lemmas.List.{append-nil}
use Rattle.std.specs.List.{AllByRecursion}
use Rattle.ps_base.specs.TyView.{ty_view}
use Rattle.ps_emitter.specs.Pieces.{Left, LeftOpen, Hole, Halfway, AreInstrs, State, Shape, Piece, Same, Puts, Opens, ◌▷◌, empty, one, constant, to_behind, at_end, next, over, filled, fill, from_begin}
use Rattle.ps_base.specs.CodeUnit.{ConstantView}
use Rattle.ps_emitter.specs.declared.forward.Forward.{Forward}
use Rattle.ps_emitter.specs.declared.forward.Forward.TheVariants as forward
use Rattle.ps_base.specs.Instr.{spelled, spelling, width_of, IsInstr}
use Rattle.ps_base.specs.declared.instr.Instr.{Instr}
use Rattle.ps_base.specs.declared.instr.Instr.TheVariants as instr
use Rattle.ps_emitter.specs.Giving.{element_of}
use Rattle.ps_emitter.specs.declared.naming.Naming.{Naming}
use Rattle.ps_emitter.specs.declared.naming.Naming.TheVariants as name
use Rattle.ps_emitter.specs.Instructions.{naming, named_by, jump_of}
use Rattle.ps_emitter.proofs.Putting.{seq, puts_same, opened, followed, closed, beyond, both, whole, filled_long}
use Rattle.ps_emitter.proofs.ChoiceWidths.{by_type_width}

named_width : (it : Naming) (c : ℕ) → width_of (named_by it c) ≡ width_of (named_by it 0)
named_width name.Text c = refl
named_width name.Scope c = refl
named_width name.Is c = refl
named_width name.Make c = refl
named_width name.Closure c = refl
named_width (name.Field index ty line) c = by_type_width (ty_view ty.now) (instr.FieldM c index line) (instr.FieldP c index line) refl ∙ sym (by_type_width (ty_view ty.now) (instr.FieldM 0 index line) (instr.FieldP 0 index line) refl)
named_width (name.SetField index ty line) c = by_type_width (ty_view ty.now) (instr.SetFieldM c index line) (instr.SetFieldP c index line) refl ∙ sym (by_type_width (ty_view ty.now) (instr.SetFieldM 0 index line) (instr.SetFieldP 0 index line) refl)
named_width (name.Fill ty line) c = by_type_width (element_of (ty_view ty.now)) (instr.FillM c line) (instr.FillP c line) refl ∙ sym (by_type_width (element_of (ty_view ty.now)) (instr.FillM 0 line) (instr.FillP 0 line) refl)
named_width (name.List ty count line) c = by_type_width (element_of (ty_view ty.now)) (instr.ListM c count line) (instr.ListP c count line) refl ∙ sym (by_type_width (element_of (ty_view ty.now)) (instr.ListM 0 count line) (instr.ListP 0 count line) refl)

-- an instruction that names the constant after it
pub named : (it : Naming) {i : Instr} {x y : ConstantView} {k : ℕ} {a b c : State} → i ≡ named_by it k → k ≡ next a → Puts (one i) a b → y ≡ x → Puts (constant y) b c → Puts (naming (named_by it) x) a c
unfolding ◌▷◌ one constant naming
named it {i} {x} {y} {k} {a} {b} {c} i_is k_is puts same adds_same =
    let adds : Puts (constant x) b c = subst (λ z. Puts (constant z) b c) same adds_same in
    let is : i ≡ named_by it (next a) = i_is ∙ ap (named_by it) k_is in
    let both = seq (subst (λ j. Puts (one j) a b) is puts) adds in
    record {
      code = both.code;
      long = both.long ∙ ap (λ w. at_end a + w) (named_width it (next a));
      constants = both.constants;
      counted = both.counted;
      nums = both.nums;
      refs = both.refs;
      units = tt;
      are = both.are;
    }

pub one_is : {i j : Instr} {a b : State} → i ≡ j → Puts (one i) a b → Puts (one j) a b
one_is {i} {j} {a} {b} is puts = subst (λ k. Puts (one k) a b) is puts

pub nothing : (a : State) → Puts empty a a
unfolding empty
nothing a = record {
  code = sym (append-nil a.code);
  long = refl;
  constants = sym (append-nil a.constants);
  counted = refl;
  nums = omega arith;
  refs = omega arith;
  units = tt;
  are = tt;
}

-- a jump over a piece, whose target is written when it is known
pub single : (jump : ℕ → Instr) {p : Piece} {a b c d : State} {first last : Instr} {hole t : ℕ} (behind : ℕ → ℕ) → ((n : ℕ) → width_of (jump n) ≡ width_of (jump 0)) → first ≡ jump 0 → Hole (one first) hole a b → Puts p b c →
    t ≡ behind (at_end c) → last ≡ jump t → IsInstr last → d ≡ record c { code = over hole (spelling last) c.code } → Puts (to_behind behind (λ n. one (jump n) ▷ p)) a d
single jump {p} {a} {b} {c} {d} {first} {last} {hole} {t} behind same first_is at after t_is last_is fits new =
    subst (λ z. Puts (to_behind behind (λ n. one (jump n) ▷ p)) a z) (sym (new ∙ ap (λ i. fill (spelling i) (hole ∷ []) c) last_is ∙ ap (λ h. fill (spelling (jump t)) (h ∷ []) c) at.is))
    (closed t behind (followed (opened jump (one_is first_is at.puts) same) after) t_is (subst IsInstr last_is fits))

-- what depends on where it begins
pub begun : (p : ℕ → Piece) (begin : ℕ) {a b : State} → Puts (p begin) a b → begin ≡ at_end a → (p begin).shape ≡ (p 0).shape → Puts (from_begin p) a b
unfolding from_begin
begun p begin {a} {b} x is same = record {
  code = x.code ∙ ap (λ n. a.code ++ spelled ((p n).instrs (at_end a) (next a))) is;
  long = x.long ∙ ap (λ (s : Shape). s.ends (at_end a)) same;
  constants = x.constants ∙ ap (λ (s : Shape). a.constants ++ s.constants) same;
  counted = x.counted ∙ ap (λ (s : Shape). s.names (next a)) same;
  nums = x.nums ∙ ap (λ (s : Shape). a.nums + s.nums) same;
  refs = x.refs ∙ ap (λ (s : Shape). a.refs + s.refs) same;
  units = subst (λ (s : Shape). AllByRecursion AreInstrs s.literals) same x.units;
  are = subst (λ n. AllByRecursion IsInstr ((p n).instrs (at_end a) (next a))) is x.are;
}

-- what is left of a list
pub left_all : (p : Piece) (s : State) → Left p p s s
left_all p s = record { goes = λ end puts. puts }

pub left_more : {p rest now whole : Piece} {a b c : State} → Left now whole a b → Same (p ▷ rest) now → Puts p b c → Left rest whole a c
left_more left same puts = record { goes = λ end behind. left.goes end (puts_same same (seq puts behind)) }

pub left_none : {rest whole : Piece} {a b : State} → Left rest whole a b → Same empty rest → Puts whole a b
left_none {rest} {whole} {a} {b} left same = left.goes b (puts_same same (nothing b))

-- pieces with holes

pub opens_same : {jump : ℕ → Instr} {p q : ℕ → Piece} {holes : List ℕ} {a b : State} → ((t : ℕ) → Same (p t) (q t)) → ((t : ℕ) → (q t).shape ≡ (q 0).shape) → Opens jump p holes a b → Opens jump q holes a b
opens_same {jump} {p} {q} {holes} {a} {b} same shape x =
    let is : (t : ℕ) → (p t).instrs (at_end a) (next a) ≡ (q t).instrs (at_end a) (next a) = λ t. (same t).instrs (at_end a) (next a) in
    record {
      puts = puts_same (same 0) x.puts;
      shape = shape;
      fills = λ t pre post long. ap (λ z. filled (spelling (jump t)) holes (pre ++ (spelled z ++ post))) (sym (is 0)) ∙ x.fills t pre post long ∙ ap (λ z. pre ++ (spelled z ++ post)) (is t);
      wide = λ t. ap (λ (z : List Instr). at_end a + length (spelled z)) (sym (is t)) ∙ x.wide t ∙ (same t).ends (at_end a);
      are = λ t fits. subst (λ z. AllByRecursion IsInstr z) (is t) (x.are t fits);
    }

pub left_open_all : {jump : ℕ → Instr} {p : ℕ → Piece} {holes : List ℕ} {s : State} → holes ≡ [] → LeftOpen jump p p holes s s
left_open_all {jump} {p} {holes} {s} is = subst (λ hs. LeftOpen jump p p hs s s) (sym is) (record { goes = λ end others opens. opens })

pub left_open_more : {jump : ℕ → Instr} {p rest now whole : ℕ → Piece} {holes more : List ℕ} {hole : ℕ} {a b c : State} → LeftOpen jump now whole holes a b → ((t : ℕ) → Same (p t ▷ rest t) (now t)) → ((t : ℕ) → (now t).shape ≡ (now 0).shape) →
    Opens jump p (hole ∷ []) b c → more ≡ holes ++ hole ∷ [] → LeftOpen jump rest whole more a c
left_open_more {jump} {p} {rest} {now} {whole} {holes} {more} {hole} {a} {b} {c} left same shape opens pushed = subst (λ hs. LeftOpen jump rest whole hs a c) (sym pushed) (record {
  goes = λ end others behind. subst (λ hs. Opens jump whole hs a end) (sym (append_assoc holes (hole ∷ []) others)) (left.goes end (hole ∷ others) (opens_same same shape (both opens behind)));
})

pub left_open_none : {jump : ℕ → Instr} {rest all : ℕ → Piece} {holes : List ℕ} {a b : State} → LeftOpen jump rest all holes a b → ((t : ℕ) → Same empty (rest t)) → ((t : ℕ) → (rest t).shape ≡ (rest 0).shape) → Opens jump all holes a b
left_open_none {jump} {rest} {all} {holes} {a} {b} left same shape = subst (λ hs. Opens jump all hs a b) (append-nil holes) (left.goes b [] (opens_same same shape (whole jump (nothing b))))

-- an instruction whose target is missing stays so where a hole before it is filled
pub opened_at : (jump : ℕ → Instr) {a b : State} {i : Instr} {at : ℕ} → i ≡ jump 0 → Puts (one i) a b → at ≡ at_end a → ((n : ℕ) → width_of (jump n) ≡ width_of (jump 0)) → Opens jump (λ t. one (jump t)) (at ∷ []) a b
opened_at jump {a} {b} {i} {at} i_is puts at_is same = subst (λ k. Opens jump (λ t. one (jump t)) (k ∷ []) a b) (sym at_is) (opened jump (one_is i_is puts) same)

-- a piece with one hole is closed after the jump that follows it, whose own target is missing
pub halfway : (jump : ℕ → Instr) {p : ℕ → Piece} {q : Piece} {a b c d : State} {holes : List ℕ} {at t : ℕ} {last : Instr} (behind : ℕ → ℕ) → Opens jump p holes a b → Hole q at b c → t ≡ behind (at_end b) → last ≡ jump t → IsInstr last → d ≡ fill (spelling last) holes c →
    Halfway (to_behind behind p) q at a d
halfway jump {p} {q} {a} {b} {c} {d} {holes} {at} {t} {last} behind opens hole t_is last_is fits new = record {
  mid = fill (spelling (jump t)) holes b;
  first = closed t behind opens t_is (subst IsInstr last_is fits);
  second = subst (λ z. Puts q (fill (spelling (jump t)) holes b) z) (sym (new ∙ ap (λ i. fill (spelling i) holes c) last_is)) (beyond t opens hole.puts);
  is = hole.is ∙ sym (filled_long t opens);
}

-- small steps

pub jump_width : (jump : Forward) (n : ℕ) → width_of (jump_of jump n) ≡ width_of (jump_of jump 0)
jump_width forward.And n = refl
jump_width forward.Or n = refl
jump_width forward.JumpFalse n = refl
jump_width forward.Jump n = refl

pub last_is : (p : Piece) {i j : Instr} {a b : State} → i ≡ j → Puts (p ▷ one i) a b → Puts (p ▷ one j) a b
last_is p {i} {j} {a} {b} is puts = subst (λ x. Puts (p ▷ one x) a b) is puts

pub third_is : (p q : Piece) {i j : Instr} {a b : State} → i ≡ j → Puts (p ▷ (q ▷ one i)) a b → Puts (p ▷ (q ▷ one j)) a b
third_is p q {i} {j} {a} {b} is puts = subst (λ x. Puts (p ▷ (q ▷ one x)) a b) is puts

-- a piece after two
pub seq2 : (p q : Piece) {r : Piece} {a b c : State} → Puts (p ▷ q) a b → Puts r b c → Puts (p ▷ (q ▷ r)) a c
unfolding ◌▷◌
seq2 p q {r} {a} {b} {c} x y =
    let all = seq x y in
    let at = at_end a in
    let k = next a in
    let rest = r.instrs (q.shape.ends (p.shape.ends at)) (q.shape.names (p.shape.names k)) in
    let is = append_assoc (p.instrs at k) (q.instrs (p.shape.ends at) (p.shape.names k)) rest in
    record {
      code = all.code ∙ ap (λ z. a.code ++ spelled z) is;
      long = all.long;
      constants = all.constants ∙ ap (λ z. a.constants ++ z) (append_assoc p.shape.constants q.shape.constants r.shape.constants);
      counted = all.counted;
      nums = omega (arith, all.nums);
      refs = omega (arith, all.refs);
      units = subst (λ z. AllByRecursion AreInstrs z) (append_assoc p.shape.literals q.shape.literals r.shape.literals) all.units;
      are = subst (λ z. AllByRecursion IsInstr z) is all.are;
    }

pub filled_with : (w : List ℕ) {hs ks : List ℕ} (s : State) {d : State} → d ≡ fill w hs s → hs ≡ ks → d ≡ fill w ks s
filled_with w s new same = new ∙ ap (λ h. fill w h s) same

pub no_items : {A : Type 0} (xs : List A) → length xs ≡ 0 → xs ≡ []
no_items [] is = refl
no_items (x ∷ xs) is = absurd (omega arith)
