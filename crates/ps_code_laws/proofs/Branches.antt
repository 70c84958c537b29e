-- The arms of a `case`: the labels are compared with a value that waits on the stack of its type.
use Rattle.std.proofs.Common.{◌≡◌, ℕ, ◌+◌, ◌<◌, ◌≤◌, ℤ, Bool, true, false, List, [], ◌∷◌, ◌++◌, length, refl, sym, ◌∙◌, length-append, arith}
use Rattle.ps_gen.specs.ps_base.TyView.{TyView}
use Rattle.ps_gen.specs.ps_base.TyView as types
use Rattle.ps_gen.specs.ps_base.declared.operator.Relation.TheVariants as relation
use Rattle.ps_gen.specs.ps_base.declared.instr.Instr.TheVariants as instr
use Rattle.ps_stepping.specs.ps_heap.Values.{Value, Flag, number_of, word_of, is_one}
use Rattle.ps_stepping.specs.ps_heap.Objects.{Heap}
use Rattle.ps_stepping.specs.ps_meaning.Meaning.{Frame, Store, State, Outcome, Value_is, Ends, Meaning, give, after, ◌>>=◌, choose}
use Rattle.ps_stepping.specs.ps_meaning.Operations.{is_equal}
use Rattle.ps_gen.specs.ps_emitter.Choices as choice
use Rattle.ps_stepping.specs.Machine.{on, act}
use Rattle.ps_soundness.specs.Over.{Grows}
use Rattle.ps_code_laws.specs.Fitting.{IsOf}
use Rattle.ps_soundness.proofs.Growing.{of_kept}
use Rattle.ps_code_laws.specs.Compiled.{compiled}
use Rattle.ps_code_laws.specs.Meets.{nums_left, refs_left}
use Rattle.ps_code_laws.proofs.Clauses.{int, bool, IsCompared}
use Rattle.ps_code_laws.proofs.Clauses as clause
use Rattle.ps_code_laws.proofs.Standing.{AtBy}
use Rattle.ps_code_laws.proofs.Doing.{Origin, after_it, Leads, Way, if_true, if_false, nums_few, refs_few, place, Room, room_above, Does, quiet, moved, does_over, does_jump, jump_goes, push_goes, push_ref_goes, does_same}
use Rattle.ps_code_laws.proofs.Comparing.{compare_acts}
use Rattle.fit_soundness.proofs.Levels.{fits}

after_after : (o : Outcome) (b d : Value → Meaning) → after (after o b) d ≡ after o (λ v. b v >>= d)
unfolding after ◌>>=◌
after_after (Value_is v f s) b d = refl
after_after (Ends e s) b d = refl

then_then : (a : Meaning) (b d : Value → Meaning) (f : Frame) (s : State) → (a >>= λ v. b v >>= d) f s ≡ ((a >>= b) >>= d) f s
unfolding ◌>>=◌
then_then a b d f s = sym (after_after (a f s) b d)

one_of : (b : Bool) → is_one (number_of b) ≡ b
one_of true = refl
one_of false = refl

module _ (w : Way) where
  -- the value that waited is let go
  drop_does : {n : Origin} {a : Meaning} {t ty : TyView} {need k : ℕ} → IsCompared relation.Equal ty → (p : ℕ) (v : Value) →
      AtBy w.Allows w.unit p (choice.by_type ty instr.DropM instr.DropP) → Does w n [] [] a t need (p + 1) k →
      Does w n (nums_left ty v) (refs_left ty v) a t need p k
  drop_does (clause.numbers int) p v at d = record {
    by =
        λ nums refs f s room since reach. quiet w instr.DropM at refl (d.by nums refs f s room since reach);
  }
  drop_does (clause.numbers bool) p v at d = record {
    by =
        λ nums refs f s room since reach. quiet w instr.DropM at refl (d.by nums refs f s room since reach);
  }
  drop_does clause.texts p v at d = record {
    by =
        λ nums refs f s room since reach. quiet w instr.DropP at refl (d.by nums refs f s room since reach);
  }
  drop_does (clause.alike clause.IsObject.pntr) p v at d =
      record { by = λ nums refs f s room since reach. quiet w instr.DropP at refl (d.by nums refs f s room since reach) }
  drop_does (clause.alike clause.IsObject.vector) p v at d =
      record { by = λ nums refs f s room since reach. quiet w instr.DropP at refl (d.by nums refs f s room since reach) }

  -- the same value is pushed once more
  twice_num : {n : Origin} {a : Meaning} {t : TyView} {need k : ℕ} (p : ℕ) (x : ℤ) → 2 ≤ need → AtBy w.Allows w.unit p instr.DupM →
      Does w n (x ∷ x ∷ []) [] a t need (p + 1) k → Does w n (x ∷ []) [] a t need p k
  twice_num {need = need} p x le at d = record {
    by = λ nums refs f s room since reach.
        let one_more : Room w 1 (x ∷ nums) refs = record {
          on_nums = let h = room.on_nums in omega arith;
          on_refs = let h = room.on_refs in omega
              arith;
        } in
        quiet w instr.DupM at (push_goes w (p + 1) x (x ∷ nums) refs f s.store one_more) (d.by nums refs f s room since reach);
  }

  twice_ref : {n : Origin} {a : Meaning} {t : TyView} {need k : ℕ} (p : ℕ) (v : Value) → 2 ≤ need → AtBy w.Allows w.unit p instr.DupP →
      Does w n [] (v ∷ v ∷ []) a t need (p + 1) k → Does w n [] (v ∷ []) a t need p k
  twice_ref {need = need} p v le at d = record {
    by = λ nums refs f s room since reach.
        let one_more : Room w 1 nums (v ∷ refs) = record {
          on_nums = let h = room.on_nums in omega arith;
          on_refs = let h = room.on_refs in omega
              arith;
        } in
        quiet w instr.DupP at (push_ref_goes w (p + 1) v nums (v ∷ refs) f s.store one_more) (d.by nums refs f s room since reach);
  }

  twice_does : {n : Origin} {a : Meaning} {t ty : TyView} {need k : ℕ} → IsCompared relation.Equal ty → (p : ℕ) (v : Value) → 2 ≤ need →
      AtBy w.Allows w.unit p (choice.by_type ty instr.DupM instr.DupP) →
      Does w n (nums_left ty v ++ nums_left ty v) (refs_left ty v ++ refs_left ty v) a t need (p + 1) k →
      Does w n (nums_left ty v) (refs_left ty v) a t need p k
  twice_does (clause.numbers int) p v le at d = twice_num p (word_of v) le at d
  twice_does (clause.numbers bool) p v le at d = twice_num p (word_of v) le at d
  twice_does clause.texts p v le at d = twice_ref p (compiled v) le at d
  twice_does (clause.alike clause.IsObject.pntr) p v le at d = twice_ref p (compiled v) le at d
  twice_does (clause.alike clause.IsObject.vector) p v le at d = twice_ref p (compiled v) le at d

  -- a label over the value that waits, and that value once more
  test_acts : (heap : Heap) {ty : TyView} → IsCompared relation.Equal ty → (q : ℕ) (v u : Value) → IsOf heap ty v → IsOf heap ty u →
      (nums : List ℤ) (refs : List Value) (f : Frame) (store : Store) → Room w 1 (nums_left ty v ++ nums) (refs_left ty v ++ refs) →
      act (choice.compare relation.Equal ty)
      (place w q ((nums_left ty u ++ (nums_left ty v ++ nums_left ty v)) ++ nums) ((refs_left ty u ++ (refs_left ty v ++ refs_left ty v)) ++ refs) f
      store)
      ≡ on (place w (q + 1) (number_of (is_equal ty v u) ∷ (nums_left ty v ++ nums)) (refs_left ty v ++ refs) f store)
  test_acts heap (clause.numbers int) q v u is of nums refs f store room =
      compare_acts w heap {op = relation.Equal} (clause.numbers int) q v u is of (nums_left types.Int v ++ nums) (refs_left types.Int v ++ refs) f
      store room
  test_acts heap (clause.numbers bool) q v u is of nums refs f store room =
      compare_acts w heap {op = relation.Equal} (clause.numbers bool) q v u is of (nums_left types.Bool v ++ nums) (refs_left types.Bool v ++ refs) f
      store room
  test_acts heap clause.texts q v u is of nums refs f store room =
      compare_acts w heap {op = relation.Equal} clause.texts q v u is of (nums_left types.Str v ++ nums) (refs_left types.Str v ++ refs) f store room
  test_acts heap (clause.alike clause.IsObject.pntr) q v u is of nums refs f store room =
      compare_acts w heap (clause.alike clause.IsObject.pntr) q v u is of (nums_left types.Pntr v ++ nums) (refs_left types.Pntr v ++ refs) f store
      room
  test_acts heap (clause.alike (clause.IsObject.vector {element = element})) q v u is of nums refs f store room =
      compare_acts w heap (clause.alike (clause.IsObject.vector {element = element})) q v u is of nums (compiled v ∷ refs) f store room

  test_label : {n : Origin} {t ty : TyView} → IsCompared relation.Equal ty →
      (need q chosen k : ℕ) (v u : Value) (rest : Meaning) (next : Value → Meaning) →
      2 ≤ need → IsOf n.heap ty v → IsOf n.heap ty u → AtBy w.Allows w.unit q (choice.compare relation.Equal ty) →
      AtBy w.Allows w.unit (q + 1) (instr.JumpTrue chosen) → q + 1 < chosen →
      Does w n (nums_left ty v) (refs_left ty v) (next (Flag true)) t need chosen k →
      Does w n (nums_left ty v) (refs_left ty v) (rest >>= next) t need (q + 1 + 5) k →
      (b : Bool) → is_equal ty v u ≡ b →
      Does w n (nums_left ty u ++ (nums_left ty v ++ nums_left ty v)) (refs_left ty u ++ (refs_left ty v ++ refs_left ty v))
      (choose b (give (Flag true)) rest >>= next) t need q k
  unfolding choose give ◌>>=◌ after
  test_label {n = n} {ty = ty} h need q chosen k v u rest next le is of at_test at_jump lt dt df true says = record {
    by = λ nums refs f s room since reach.
        let one_more = room_above w 1 1 need (nums_left ty v) (refs_left ty v) nums refs (nums_few ty v) (refs_few ty v) le room in
        quiet w (choice.compare relation.Equal ty) at_test (test_acts n.heap h q v u is of nums refs f s.store one_more)
        (jump_goes w (q + 1) chosen (place w (q + 1 + 5) (nums_left ty v ++ nums) (refs_left ty v ++ refs) f s.store) (instr.JumpTrue chosen) at_jump
        (if_true (is_one (number_of (is_equal ty v u))) _ _ (one_of (is_equal ty v u) ∙ says)) lt (dt.by nums refs f s room since reach));
  }
  test_label {n = n} {ty = ty} h need q chosen k v u rest next le is of at_test at_jump lt dt df false says = record {
    by = λ nums refs f s room since reach.
        let one_more = room_above w 1 1 need (nums_left ty v) (refs_left ty v) nums refs (nums_few ty v) (refs_few ty v) le room in
        quiet w (choice.compare relation.Equal ty) at_test (test_acts n.heap h q v u is of nums refs f s.store one_more)
        (quiet w (instr.JumpTrue chosen) at_jump
        (if_false (is_one (number_of (is_equal ty v u))) _ _ (one_of (is_equal ty v u) ∙ says)) (df.by nums refs f s room since reach));
  }

  two_few : (ty : TyView) (v : Value) → length (nums_left ty v ++ nums_left ty v) ≤ 2
  two_few ty v = let a = nums_few ty v in let b = length-append (nums_left ty v) (nums_left ty v) in omega arith

  two_refs_few : (ty : TyView) (v : Value) → length (refs_left ty v ++ refs_left ty v) ≤ 2
  two_refs_few ty v = let a = refs_few ty v in let b = length-append (refs_left ty v) (refs_left ty v) in omega arith

  -- a label and those after it, and then what follows
  pub does_label : {n : Origin} {t ty : TyView} → IsCompared relation.Equal ty → (need nl p q chosen k : ℕ) (v : Value) (label rest : Meaning)
      (next : Value → Meaning) → 2 + nl ≤ need → IsOf n.heap ty v → Leads w.Body n n.known ty label →
      AtBy w.Allows w.unit p (choice.by_type ty instr.DupM instr.DupP) → Does w n [] [] label ty nl (p + 1) q →
      AtBy w.Allows w.unit q (choice.compare relation.Equal ty) →
      AtBy w.Allows w.unit (q + 1) (instr.JumpTrue chosen) → q + 1 < chosen →
      ((new : Heap) → Grows n.heap new → Does w (after_it n new n.known) (nums_left ty v) (refs_left ty v) (next (Flag true)) t need chosen k) →
      ((new : Heap) → Grows n.heap new → Does w (after_it n new n.known) (nums_left ty v) (refs_left ty v) (rest >>= next) t need (q + 1 + 5) k) →
      Does w n (nums_left ty v) (refs_left ty v) ((label >>= λ u. choose (is_equal ty v u) (give (Flag true)) rest) >>= next) t need p k
  does_label {n = n} {ty = ty} h need nl p q chosen k v label rest next le is leads at_dup dl at_test at_jump lt dt df =
      does_same w _ (then_then label (λ u. choose (is_equal ty v u) (give (Flag true)) rest) next)
      (twice_does h p v (omega arith) at_dup
      (does_over w (nums_left ty v ++ nums_left ty v) (refs_left ty v ++ refs_left ty v)
      (λ u. choose (is_equal ty v u) (give (Flag true)) rest >>= next)
      2 nl need need (p + 1) q k (two_few ty v) (two_refs_few ty v) (omega arith) (omega arith) leads dl
      (λ new u g of. test_label h need q chosen k v u rest next (omega arith) (of_kept fits n.heap new g ty v is) of at_test at_jump lt (dt new g)
      (df new g)
      (is_equal ty v u) refl)))

  -- an arm that is chosen
  pub does_chosen : {n : Origin} {t ty : TyView} {a : Meaning} → IsCompared relation.Equal ty → (need na chosen q k : ℕ) (v : Value) → na ≤ need →
      AtBy w.Allows w.unit chosen (choice.by_type ty instr.DropM instr.DropP) →
      Does w n [] [] a t na (chosen + 1) q → AtBy w.Allows w.unit q (instr.Jump k) → q < k →
      Does w n (nums_left ty v) (refs_left ty v) a t need chosen k
  does_chosen h need na chosen q k v le at_drop da at_jump lt =
      drop_does h chosen v at_drop (does_jump w q k lt at_jump (moved w na need (chosen + 1) q q le refl da))

  -- the default
  pub does_default : {n : Origin} {t ty : TyView} {a : Meaning} → IsCompared relation.Equal ty → (need na p k : ℕ) (v : Value) → na ≤ need →
      AtBy w.Allows w.unit p (choice.by_type ty instr.DropM instr.DropP) →
      Does w n [] [] a t na (p + 1) k → Does w n (nums_left ty v) (refs_left ty v) a t need p k
  does_default h need na p k v le at_drop da = drop_does h p v at_drop (moved w na need (p + 1) k k le refl da)
