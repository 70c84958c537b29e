-- Operands, one after the other, and what is done with their values.
use Rattle.std.proofs.Common.{◌≡◌, ℕ, ◌+◌, ◌≤◌, ℤ, List, [], ◌∷◌, ◌++◌, length, sym, ap, subst, length-append, arith as by_arith}
use Rattle.ps_gen.specs.ps_base.TyView.{TyView}
use Rattle.ps_gen.specs.ps_base.Instr.{width_of}
use Rattle.ps_gen.specs.ps_base.declared.instr.Instr.{Instr}
use Rattle.ps_gen.specs.ps_program.Node.{Node}
use Rattle.ps_gen.specs.ps_program.Parts.{Part}
use Rattle.ps_gen.proofs.of_ps_program.PartLemmas.{fold_parts}
use Rattle.ps_gen.specs.ps_program.Slots.{reaches, depth}
use Rattle.ps_stepping.specs.ps_heap.Values.{Value}
use Rattle.ps_stepping.specs.ps_heap.Objects.{Heap}
use Rattle.ps_stepping.specs.ps_meaning.Meaning.{Meaning, ◌>>=◌}
use Rattle.ps_stepping.specs.ps_meaning.Evaluation.{Context, eval}
use Rattle.ps_stepping.specs.ps_meaning.Calls.{context}
use Rattle.ps_stepping.specs.Config.{frame_in}
use Rattle.ps_soundness.specs.Over.{Grows}
use Rattle.ps_code_laws.specs.Fitting.{IsOf}
use Rattle.ps_soundness.proofs.Growing.{grows_then, of_kept}
use Rattle.ps_code_laws.specs.Meets.{nums_left, refs_left}
use Rattle.ps_code_laws.proofs.Standing.{AtBy, Ahead, ahead_at}
use Rattle.ps_code_laws.proofs.Falls.{Falling, falls_eval, calls_fall}
use Rattle.ps_code_laws.proofs.Clauses.{sounds_in, bodies_in}
use Rattle.ps_soundness.specs.Valued.{IsValued}
use Rattle.ps_code_laws.specs.Literals.{BodiesAre}
use Rattle.ps_code_laws.proofs.Holding.{Holds, holds_eval, calls_hold}
use Rattle.ps_code_laws.proofs.Clauses as clause
use Rattle.ps_code_laws.proofs.Doing.{Origin, after_it, Leads, leads_more, Way, Does, later, does_then, does_over, nums_few, refs_few}
use Rattle.fit_soundness.proofs.Levels.{fits}

-- where a clause stands on this way, and so many turns may be left: inside the bodies that wait
abbrev pub context_in : Way → ℕ → Context
context_in w n = context n (length w.callers)

abbrev pub deepest : Node → List (Part ℕ) → ℕ
deepest t parts = reaches 0 parts

pub reaches_behind : (before need : ℕ) (xs ys : List (Part ℕ)) → reaches before (xs ++ ys) ≤ need → reaches (before + length xs) ys ≤ need
reaches_behind before need [] ys h = subst (λ (b : ℕ). reaches b ys ≤ need) (omega by_arith) h
reaches_behind before need (x ∷ xs) ys h =
    subst (λ (b : ℕ). reaches b ys ≤ need) (omega by_arith) (reaches_behind (before + 1) need xs ys (omega by_arith))

pub at_least_one : (before : ℕ) (parts : List (Part ℕ)) → 1 ≤ reaches before parts
at_least_one before [] = omega by_arith
at_least_one before (part ∷ parts) = let h = at_least_one (before + 1) parts in omega by_arith

-- a clause needs room for a word at least
pub some_depth : (tree : Node) → 1 ≤ depth tree
some_depth tree =
    subst (λ (n : ℕ). 1 ≤ n) (sym (fold_parts (λ (clause : Node) (parts : List (Part ℕ)). reaches 0 parts) tree)) (at_least_one 0 _)

module _ (w : Way) where
  abbrev pub nums_of : ℕ
  nums_of = (frame_in w.unit).nums

  abbrev pub refs_of : ℕ
  refs_of = (frame_in w.unit).refs

  abbrev pub Stand : ℕ → Instr → Type 0
  Stand p i = AtBy w.Allows w.unit p i

  pub to_end : {n : Origin} {bn : List ℤ} {br : List Value} {m : Meaning} {ty : TyView} {need p : ℕ} (k k' : ℕ) → k ≡ k' →
      Does w n bn br m ty need p k →
      Does w n bn br m ty need p k'
  to_end {n = n} {bn = bn} {br = br} {m = m} {ty = ty} {need = need} {p = p} k k' e d = subst (λ (q : ℕ). Does w n bn br m ty need p q) e d

  pub from_place : {n : Origin} {bn : List ℤ} {br : List Value} {m : Meaning} {ty : TyView} {need k : ℕ} (p p' : ℕ) → p ≡ p' →
      Does w n bn br m ty need p k →
      Does w n bn br m ty need p' k
  from_place {n = n} {bn = bn} {br = br} {m = m} {ty = ty} {need = need} {k = k} p p' e d = subst (λ (q : ℕ). Does w n bn br m ty need q k) e d

  -- after an instruction of this width
  pub next_of : (p n : ℕ) (i : Instr) (is : List Instr) → width_of i ≡ n → Ahead w.Allows w.unit p (i ∷ is) → Ahead w.Allows w.unit (p + n) is
  next_of p n i is e h = ahead_at w.Allows w.unit (p + width_of i) (p + n) is (ap (λ k. p + k) e) h.1

  pub falls_in : (n : ℕ) (t : Node) → Falling (eval (context_in w n) t)
  falls_in n t = falls_eval (context_in w n) (calls_fall n (length w.callers)) t

  pub holds_in : (n : ℕ) (t : Node) → BodiesAre w.Body IsValued t → Holds w.Body (eval (context_in w n) t)
  holds_in n t fit = holds_eval w.Body (context_in w n) (calls_hold w.Body n (length w.callers)) t fit

  -- what is known of a clause where it begins
  pub leads_of : (n : Origin) {t : Node} {ty : TyView} → clause.Part w.Body nums_of refs_of n.known t ty → Leads w.Body n n.known ty (eval (context_in w n.turns) t)
  leads_of n {t = t} h = record {
    falls = falls_in n.turns t;
    sound = sounds_in h n.turns (length w.callers) n.heap;
    holds = holds_in n.turns t (bodies_in h);
  }

  -- one operand, and an instruction that takes it
  pub does_one : {n : Origin} {a : Meaning} {tya ty : TyView} (op : Value → Meaning) (na ni need p q k : ℕ) → na ≤ need → ni ≤ need →
      Leads w.Body n n.known tya a → Does w n [] [] a tya na p q →
      ((new : Heap) (v : Value) → Grows n.heap new → IsOf new tya v →
      Does w (after_it n new n.known) (nums_left tya v) (refs_left tya v) (op v) ty ni q k) →
      Does w n [] [] (a >>= λ v. op v) ty need p k
  does_one op na ni need p q k le_a le_o la da dop = does_then w (λ v. op v) na ni need p q k le_a le_o la da dop

  -- two operands, and an instruction that takes them
  pub does_two : {n : Origin} {a b : Meaning} {tya tyb ty : TyView} (op : Value → Value → Meaning) (na nb ni need p q r k : ℕ) → na ≤ need →
      nb + 1 ≤ need →
      ni ≤ need → Leads w.Body n n.known tya a → Leads w.Body n n.known tyb b → Does w n [] [] a tya na p q → Does w n [] [] b tyb nb q r →
      ((new : Heap) (v u : Value) → Grows n.heap new → IsOf new tya v → IsOf new tyb u →
      Does w (after_it n new n.known) (nums_left tyb u ++ nums_left tya v) (refs_left tyb u ++ refs_left tya v) (op v u) ty ni r k) →
      Does w n [] [] (a >>= λ v. b >>= λ u. op v u) ty need p k
  does_two {n = n} {b = b} {tya = tya} op na nb ni need p q r k le_a le_b le_o la lb da db dop =
      does_then w (λ v. b >>= λ u. op v u) na need need p q k le_a (omega by_arith) la da
      (λ h1 v g1 is. does_over w (nums_left tya v) (refs_left tya v) (λ u. op v u) 1 nb ni need q r k (nums_few tya v) (refs_few tya v) le_b le_o
      (leads_more (omega by_arith) g1 lb) (later w h1 g1 db)
      (λ h2 u g2 of. dop h2 v u (grows_then n.heap h1 h2 g1 g2) (of_kept fits h1 h2 g2 tya v is) of))

  -- three
  pub does_three : {n : Origin} {a b d : Meaning} {tya tyb tyd ty : TyView} (op : Value → Value → Value → Meaning) (na nb nd ni need p q r t k : ℕ) →
      na ≤ need →
      nb + 1 ≤ need → nd + 2 ≤ need → ni ≤ need → Leads w.Body n n.known tya a → Leads w.Body n n.known tyb b → Leads w.Body n n.known tyd d →
      Does w n [] [] a tya na p q →
      Does w n [] [] b tyb nb q r → Does w n [] [] d tyd nd r t →
      ((new : Heap) (v u x : Value) → Grows n.heap new → IsOf new tya v → IsOf new tyb u → IsOf new tyd x →
      Does w (after_it n new n.known) (nums_left tyd x ++ (nums_left tyb u ++ nums_left tya v))
      (refs_left tyd x ++ (refs_left tyb u ++ refs_left tya v))
      (op v u x) ty ni t k) →
      Does w n [] [] (a >>= λ v. b >>= λ u. d >>= λ x. op v u x) ty need p k
  does_three {n = n} {b = b} {d = d} {tya = tya} {tyb = tyb} op na nb nd ni need p q r t k le_a le_b le_d le_o la lb ld da db dd dop =
      does_then w (λ v. b >>= λ u. d >>= λ x. op v u x) na need need p q k le_a (omega by_arith) la da
      (λ h1 v g1 is. does_over w (nums_left tya v) (refs_left tya v) (λ u. d >>= λ x. op v u x) 1 nb need need q r k (nums_few tya v)
      (refs_few tya v) le_b
      (omega by_arith) (leads_more (omega by_arith) g1 lb) (later w h1 g1 db)
      (λ h2 u g2 of. let k2 = grows_then n.heap h1 h2 g1 g2 in
      does_over w (nums_left tyb u ++ nums_left tya v) (refs_left tyb u ++ refs_left tya v) (λ x. op v u x) 2 nd ni need r t k
      (let e = length-append (nums_left tyb u) (nums_left tya v) in let few = nums_few tyb u in let also = nums_few tya v in omega by_arith)
      (let e = length-append (refs_left tyb u) (refs_left tya v) in let few = refs_few tyb u in let also = refs_few tya v in omega by_arith)
      le_d le_o (leads_more (omega by_arith) k2 ld) (later w h2 k2 dd)
      (λ h3 x g3 so. dop h3 v u x (grows_then n.heap h2 h3 k2 g3) (of_kept fits h1 h3 (grows_then h1 h2 h3 g2 g3) tya v is) (of_kept fits h2 h3 g3 tyb u of)
      so)))
