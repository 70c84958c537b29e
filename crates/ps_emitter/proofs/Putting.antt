-- Pieces put one after the other, and holes in them filled.
use Rattle.std.proofs.Common.{◌≡◌, ℕ, ◌+◌, List, [], ◌∷◌, ◌++◌, length, refl, sym, ap, subst, ◌∙◌, arith, append_assoc, length-append}
use Rattle.std.proofs.lemmas.List.{append-nil}
use Rattle.std.specs.List.{AllByRecursion}
use Rattle.ps_base.specs.declared.instr.Instr.{Instr}
use Rattle.ps_base.specs.Instr.{spelled, spelling, width_of, IsInstr}
use Rattle.ps_base.proofs.Spellings.{length-spelling}
use Rattle.ps_emitter.specs.Pieces.{AreInstrs, State, Shape, Piece, Puts, Opens, Same, join, ◌▷◌, one, at_end, next, filled, fill, to_behind, bytes_alone}
use Rattle.ps_emitter.proofs.Spelled.{spelled-append, all-append, over_at, filled-append}

-- where a piece begins after another
begins : (q : Piece) (s : Shape) (a b : State) → at_end b ≡ s.ends (at_end a) → next b ≡ s.names (next a) → q.instrs (at_end b) (next b) ≡ q.instrs (s.ends (at_end a)) (s.names (next a))
begins q s a b long counted = ap (λ n. q.instrs n (next b)) long ∙ ap (λ n. q.instrs (s.ends (at_end a)) n) counted

pub seq : {p q : Piece} {a b c : State} → Puts p a b → Puts q b c → Puts (p ▷ q) a c
unfolding ◌▷◌
seq {p} {q} {a} {b} {c} x y =
    let xs = p.instrs (at_end a) (next a) in
    let ys = q.instrs (p.shape.ends (at_end a)) (p.shape.names (next a)) in
    let same = begins q p.shape a b x.long x.counted in
    record {
      code = y.code ∙ ap (λ z. z ++ spelled (q.instrs (at_end b) (next b))) x.code ∙ ap (λ z. (a.code ++ spelled xs) ++ spelled z) same
          ∙ append_assoc a.code (spelled xs) (spelled ys) ∙ ap (λ z. a.code ++ z) (sym (spelled-append xs ys));
      long = y.long ∙ ap q.shape.ends x.long;
      constants = y.constants ∙ ap (λ z. z ++ q.shape.constants) x.constants ∙ append_assoc a.constants p.shape.constants q.shape.constants;
      counted = y.counted ∙ ap q.shape.names x.counted;
      nums = omega (arith, x.nums, y.nums);
      refs = omega (arith, x.refs, y.refs);
      units = all-append AreInstrs p.shape.literals q.shape.literals x.units y.units;
      are = all-append IsInstr xs ys x.are (subst (λ z. AllByRecursion IsInstr z) same y.are);
    }

pub puts_same : {p q : Piece} {a b : State} → Same p q → Puts p a b → Puts q a b
puts_same {p} {q} {a} {b} same x =
    let is = same.instrs (at_end a) (next a) in
    record {
      code = x.code ∙ ap (λ z. a.code ++ spelled z) is;
      long = x.long ∙ same.ends (at_end a);
      constants = x.constants ∙ ap (λ z. a.constants ++ z) same.constants;
      counted = x.counted ∙ same.names (next a);
      nums = x.nums ∙ ap (λ z. a.nums + z) same.nums;
      refs = x.refs ∙ ap (λ z. a.refs + z) same.refs;
      units = subst (λ z. AllByRecursion AreInstrs z) same.literals x.units;
      are = subst (λ z. AllByRecursion IsInstr z) is x.are;
    }

-- how long the code of a piece is
pub wide_of : {p : Piece} {a b : State} → Puts p a b → at_end a + length (spelled (p.instrs (at_end a) (next a))) ≡ p.shape.ends (at_end a)
wide_of {p} {a} {b} x =
    let e : length b.code ≡ length (a.code ++ spelled (p.instrs (at_end a) (next a))) = ap (λ (z : List ℕ). length z) x.code in
    omega (arith, e, x.long, length-append a.code (spelled (p.instrs (at_end a) (next a))))

-- a jump whose target is missing
pub opened : (jump : ℕ → Instr) {a b : State} → Puts (one (jump 0)) a b → ((t : ℕ) → width_of (jump t) ≡ width_of (jump 0)) → Opens jump (λ t. one (jump t)) (at_end a ∷ []) a b
unfolding one
opened jump {a} {b} x same = record {
  puts = x;
  shape = λ t. ap bytes_alone (same t);
  fills = λ t pre post long. over_at (at_end a) pre (spelling (jump 0)) (spelling (jump t)) post long (length-spelling (jump 0) ∙ sym (same t) ∙ sym (length-spelling (jump t)));
  wide = λ t. ap (λ n. at_end a + n) (length-spelling (jump t));
  are = λ t is. (is, tt);
}

-- nothing is missing
pub whole : (jump : ℕ → Instr) {p : Piece} {a b : State} → Puts p a b → Opens jump (λ t. p) [] a b
whole jump {p} {a} {b} x = record { puts = x; shape = λ t. refl; fills = λ t pre post long. refl; wide = λ t. wide_of x; are = λ t is. x.are }

pub both : {jump : ℕ → Instr} {p q : ℕ → Piece} {holes others : List ℕ} {a b c : State} → Opens jump p holes a b → Opens jump q others b c → Opens jump (λ t. p t ▷ q t) (holes ++ others) a c
unfolding ◌▷◌
both {jump} {p} {q} {holes} {others} {a} {b} {c} x y =
    let at = at_end a in
    let k = next a in
    let ps : ℕ → List ℕ = λ t. spelled ((p t).instrs at k) in
    let qs : ℕ → List ℕ = λ t. spelled ((q t).instrs (at_end b) (next b)) in
    let size_is : (t : ℕ) → (p t).shape.ends at ≡ (p 0).shape.ends at = λ t. ap (λ (s : Shape). s.ends at) (x.shape t) in
    let count_is : (t : ℕ) → (p t).shape.names k ≡ (p 0).shape.names k = λ t. ap (λ (s : Shape). s.names k) (x.shape t) in
    let begin : (t : ℕ) → (q t).instrs (at_end b) (next b) ≡ (q t).instrs ((p t).shape.ends at) ((p t).shape.names k) =
    λ t. begins (q t) (p t).shape a b (x.puts.long ∙ sym (size_is t)) (x.puts.counted ∙ sym (count_is t)) in
    let cut : (t : ℕ) → spelled ((p t).instrs at k ++ (q t).instrs ((p t).shape.ends at) ((p t).shape.names k)) ≡ ps t ++ qs t =
    λ t. spelled-append ((p t).instrs at k) ((q t).instrs ((p t).shape.ends at) ((p t).shape.names k)) ∙ ap (λ z. ps t ++ spelled z) (sym (begin t)) in
    record {
      puts = seq x.puts y.puts;
      shape = λ t. ap (λ s. join s (q t).shape) (x.shape t) ∙ ap (join (p 0).shape) (y.shape t);
      fills = λ t pre post long.
          let w = spelling (jump t) in
          let first : length (pre ++ ps t) ≡ at_end b = omega (arith, length-append pre (ps t), x.wide t, x.puts.long, size_is t) in
          ap (λ z. filled w (holes ++ others) (pre ++ (z ++ post))) (cut 0)
          ∙ ap (λ z. filled w (holes ++ others) (pre ++ z)) (append_assoc (ps 0) (qs 0) post)
          ∙ filled-append w holes others (pre ++ (ps 0 ++ (qs 0 ++ post)))
          ∙ ap (filled w others) (x.fills t pre (qs 0 ++ post) long ∙ sym (append_assoc pre (ps t) (qs 0 ++ post)))
          ∙ y.fills t (pre ++ ps t) post first
          ∙ append_assoc pre (ps t) (qs t ++ post)
          ∙ ap (λ z. pre ++ z) (sym (append_assoc (ps t) (qs t) post))
          ∙ ap (λ z. pre ++ (z ++ post)) (sym (cut t));
      wide = λ t.
          let e = ap (λ (z : List ℕ). length z) (cut t) in
          let behind : at + length (ps t) ≡ at_end b = x.wide t ∙ size_is t ∙ sym x.puts.long in
          let end : at_end b + length (qs t) ≡ (q t).shape.ends ((p t).shape.ends at) = y.wide t ∙ ap (q t).shape.ends (x.puts.long ∙ sym (size_is t)) in
          omega (arith, e, length-append (ps t) (qs t), behind, end);
      are = λ t is. all-append IsInstr ((p t).instrs at k) _ (x.are t is) (subst (λ z. AllByRecursion IsInstr z) (begin t) (y.are t is));
    }

pub followed : {jump : ℕ → Instr} {p : ℕ → Piece} {q : Piece} {holes : List ℕ} {a b c : State} → Opens jump p holes a b → Puts q b c → Opens jump (λ t. p t ▷ q) holes a c
followed {jump} {p} {q} {holes} {a} {b} {c} x y = subst (λ hs. Opens jump (λ t. p t ▷ q) hs a c) (append-nil holes) (both x (whole jump y))

pub behind : {jump : ℕ → Instr} {p : Piece} {q : ℕ → Piece} {holes : List ℕ} {a b c : State} → Puts p a b → Opens jump q holes b c → Opens jump (λ t. p ▷ q t) holes a c
behind {jump} x y = both (whole jump x) y

-- all holes are filled, also where more code stands after the piece
filled_at : {jump : ℕ → Instr} {p : ℕ → Piece} {holes : List ℕ} {a b : State} (t : ℕ) → Opens jump p holes a b → (post : List ℕ) → filled (spelling (jump t)) holes (b.code ++ post) ≡ (a.code ++ spelled ((p t).instrs (at_end a) (next a))) ++ post
filled_at {jump} {p} {holes} {a} {b} t x post =
    let ps : ℕ → List ℕ = λ t. spelled ((p t).instrs (at_end a) (next a)) in
    ap (λ z. filled (spelling (jump t)) holes (z ++ post)) x.puts.code ∙ ap (filled (spelling (jump t)) holes) (append_assoc a.code (ps 0) post)
    ∙ x.fills t a.code post refl ∙ sym (append_assoc a.code (ps t) post)

filled_end : {jump : ℕ → Instr} {p : ℕ → Piece} {holes : List ℕ} {a b : State} (t : ℕ) → Opens jump p holes a b → filled (spelling (jump t)) holes b.code ≡ a.code ++ spelled ((p t).instrs (at_end a) (next a))
filled_end {jump} {p} {holes} {a} {b} t x =
    ap (filled (spelling (jump t)) holes) (sym (append-nil b.code)) ∙ filled_at t x [] ∙ append-nil _

pub filled_long : {jump : ℕ → Instr} {p : ℕ → Piece} {holes : List ℕ} {a b : State} (t : ℕ) → Opens jump p holes a b → at_end (fill (spelling (jump t)) holes b) ≡ at_end b
filled_long {jump} {p} {holes} {a} {b} t x =
    let e = ap (λ (z : List ℕ). length z) (filled_end t x) in
    omega (arith, e, x.puts.long, length-append a.code (spelled ((p t).instrs (at_end a) (next a))), x.wide t, ap (λ (s : Shape). s.ends (at_end a)) (x.shape t))

-- filled with a jump to the end of what follows the piece
pub closed : {jump : ℕ → Instr} {p : ℕ → Piece} {holes : List ℕ} {a b : State} (t : ℕ) (behind : ℕ → ℕ) → Opens jump p holes a b → t ≡ behind (at_end b) → IsInstr (jump t) → Puts (to_behind behind p) a (fill (spelling (jump t)) holes b)
unfolding to_behind
closed {jump} {p} {holes} {a} {b} t behind x target is =
    let to : t ≡ behind ((p 0).shape.ends (at_end a)) = target ∙ ap behind x.puts.long in
    record {
      code = filled_end t x ∙ ap (λ z. a.code ++ spelled ((p z).instrs (at_end a) (next a))) to;
      long = filled_long t x ∙ x.puts.long;
      constants = x.puts.constants;
      counted = x.puts.counted;
      nums = x.puts.nums;
      refs = x.puts.refs;
      units = x.puts.units;
      are = subst (λ z. AllByRecursion IsInstr ((p z).instrs (at_end a) (next a))) to (x.are t is);
    }

-- and what follows stays
pub beyond : {jump : ℕ → Instr} {p : ℕ → Piece} {q : Piece} {holes : List ℕ} {a b c : State} (t : ℕ) → Opens jump p holes a b → Puts q b c → Puts q (fill (spelling (jump t)) holes b) (fill (spelling (jump t)) holes c)
beyond {jump} {p} {q} {holes} {a} {b} {c} t x y =
    let w = spelling (jump t) in
    let long = filled_long t x in
    let qs = spelled (q.instrs (at_end b) (next b)) in
    let same : q.instrs (at_end b) (next b) ≡ q.instrs (at_end (fill w holes b)) (next b) = ap (λ n. q.instrs n (next b)) (sym long) in
    let code_is : filled w holes c.code ≡ filled w holes b.code ++ qs = ap (filled w holes) y.code ∙ filled_at t x qs ∙ ap (λ z. z ++ qs) (sym (filled_end t x)) in
    let e = ap (λ (z : List ℕ). length z) code_is in
    record {
      code = code_is ∙ ap (λ z. filled w holes b.code ++ spelled z) same;
      long = omega (arith, e, length-append (filled w holes b.code) qs, wide_of y, ap q.shape.ends long, long);
      constants = y.constants;
      counted = y.counted;
      nums = y.nums;
      refs = y.refs;
      units = y.units;
      are = subst (λ z. AllByRecursion IsInstr z) same y.are;
    }
