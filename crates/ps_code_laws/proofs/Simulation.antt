-- The code of a clause does what the clause means.
use Rattle.std.proofs.Common.{◌≡◌, ℕ, ◌+◌, ◌<◌, ◌≤◌, ℤ, Bool, true, false, not, List, [], ◌∷◌, ◌++◌, length, Option, Some, None, refl, sym, ap, ◌∙◌, subst, append_assoc, length-append, arith as by_arith}
use Rattle.std.specs.Prelude.{if◌then◌else◌}
use Rattle.std.specs.List.{AllByRecursion}
use Rattle.std.specs.Fmt.{signed_decimal}
use Rattle.ps_gen.specs.ps_base.TyView.{TyView, TyViews}
use Rattle.ps_gen.specs.ps_base.TyView as types
use Rattle.ps_gen.specs.ps_base.CodeUnit.{ConstantView, text as text_of, literal as literal_of}
use Rattle.ps_gen.specs.ps_base.Instr.{width_of}
use Rattle.ps_gen.specs.ps_base.declared.line.Line.{Line}
use Rattle.ps_gen.specs.ps_base.declared.trap.Trap.TheVariants.{Abort as Aborted}
use Rattle.ps_gen.specs.ps_base.declared.operator.Operator.{Operator}
use Rattle.ps_gen.specs.ps_base.declared.operator.Operator.TheVariants as operator
use Rattle.ps_gen.specs.ps_base.declared.operator.Relation.{Relation}
use Rattle.ps_gen.specs.ps_base.declared.operator.Relation.TheVariants as relation
use Rattle.ps_gen.specs.ps_base.declared.instr.Instr.{Instr}
use Rattle.ps_gen.specs.ps_base.declared.instr.Instr.TheVariants as instr
use Rattle.ps_gen.specs.ps_program.declared.place.Place.{Place}
use Rattle.ps_gen.specs.ps_program.declared.place.Place.TheVariants.{Plain, Kept}
use Rattle.ps_gen.specs.ps_program.Node.{Node, Nodes, none, more, Arms, no_arms, more_arms, arm, BodyNode, body}
use Rattle.ps_gen.specs.ps_program.Node as node
use Rattle.ps_gen.specs.ps_program.Parts.{Part, operand, label, branch, fold_all, fold_arms}
use Rattle.ps_gen.specs.ps_program.Slots.{reaches, depth}
use Rattle.ps_typing_laws.specs.ps_typing.Checking.{isnt_void}
use Rattle.ps_stepping.specs.ps_heap.Operators.{neg_of, arith_of}
use Rattle.ps_stepping.specs.ps_heap.Library.{LibraryProcedure, library_procedure}
use Rattle.ps_soundness.specs.Over.{Grows}
use Rattle.ps_code_laws.specs.Fitting.{IsOf, AreOf}
use Rattle.ps_soundness.proofs.Library.{parameters_of, type_given}
use Rattle.ps_soundness.proofs.Growing.{grows_not, grows_then, of_kept}
use Rattle.ps_soundness.proofs.Combining.{sound_then}
use Rattle.ps_stepping.specs.ps_heap.Objects.{Heap}
use Rattle.ps_stepping.specs.ps_heap.Ends.{Trapped}
use Rattle.ps_stepping.specs.ps_heap.Values.{Value, Num, Flag, Text, Nil, Procedure, Nothing, as_written, number_of, word_of, flag_of, shown}
use Rattle.ps_stepping.specs.ps_meaning.Meaning.{Frame, Store, State, Meaning, give, after, ◌>>=◌, choose, answer, made_procedure, written, and_closure, set}
use Rattle.ps_stepping.specs.ps_meaning.Operations.{compares, join_meant, part_meant, make_meant, elements_meant, fill_meant, set_field_meant, element_meant, set_element_meant, lib_meant}
use Rattle.ps_stepping.specs.ps_meaning.Evaluation.{call_meant, eval, eval_all, eval_each, eval_arms, eval_labels}
use Rattle.ps_gen.specs.ps_emitter.Choices as choice
use Rattle.ps_type_text.specs.Texts.{Field, type_text}
use Rattle.ps_gen.specs.Emission.{items_in, size_at, size, size_all, size_arms, size_labels, count, count_all, count_arms, emit, emit_all, emit_arms, emit_labels}
use Rattle.ps_gen.specs.Units.{unit_of, constants, constants_of_all, constants_of_arms}
use Rattle.ps_gen.proofs.of_ps_emitter.ChoiceWidths.{width_arith, width_compare, width_by_type}
use Rattle.ps_gen.proofs.Widths.{width_arms, width_labels, count_of_all, count_of_arms}
use Rattle.ps_stepping.specs.Config.{constants_in, constant_at}
use Rattle.ps_stepping.specs.Machine.{on, answered, push_text, act}
use Rattle.ps_code_laws.specs.Compiled.{compiled}
use Rattle.ps_code_laws.specs.Meets.{nums_left, refs_left}
use Rattle.ps_code_laws.proofs.Standing.{Ahead, Named, ahead_at, front, behind, named_front, named_behind, after_clause, after_clauses, names_behind}
use Rattle.ps_code_laws.proofs.Falls.{falls_then, falls_all, calls_fall}
use Rattle.ps_code_laws.proofs.Staying.{stays_eval, stays_all}
use Rattle.ps_code_laws.proofs.Literals.{AreLiterals}
use Rattle.ps_code_laws.proofs.Holding.{holds_then, holds_all, calls_hold}
use Rattle.ps_code_laws.proofs.Known.{opened}
use Rattle.ps_code_laws.proofs.ScopeForms.{does_get_kept, does_get_kept_ref, does_set_kept, does_set_kept_ref, does_closure}
use Rattle.ps_code_laws.proofs.Scoping.{does_scoped}
use Rattle.ps_code_laws.proofs.Clauses.{IsNum, IsRef, Kind, IsShown, IsCompared, Clause, Items, ArmsAre, AllAre, Args, fields_by, sounds_in, bodies_in, behind_items, items_sound, items_fit}
use Rattle.ps_code_laws.proofs.TypeOf.{type_in}
use Rattle.ps_code_laws.proofs.Clauses as clause
use Rattle.ps_code_laws.proofs.Doing.{Origin, after_it, Leads, Way, place, Does, does_then, does_then_held, does_nothing, does_left, does_give, push_goes, push_ref_goes, does_get, does_get_ref, does_set, does_set_ref, taken, taken_ref, does_answer, does_write, does_stop, does_jump_false, does_and, does_or, does_jump, jump_does, does_while, does_same, moved, does_over, does_over_held, less_room, nums_few, refs_few}
use Rattle.ps_code_laws.proofs.Operands.{some_depth, context_in, falls_in, holds_in, deepest, reaches_behind, at_least_one, nums_of, refs_of, Stand, to_end, from_place, next_of, leads_of, does_one, does_two, does_three}
use Rattle.ps_code_laws.proofs.TextForms.{does_join, does_part}
use Rattle.ps_code_laws.proofs.LibraryForms.{does_procedure}
use Rattle.ps_code_laws.proofs.StructureForms.{does_is, does_field, does_set_field}
use Rattle.ps_code_laws.proofs.VectorForms.{does_fill, does_element, does_set_element, does_bound}
use Rattle.ps_code_laws.proofs.RowForms.{pushed_nums, pushed_refs, all_nums, all_refs, does_make, does_list}
use Rattle.ps_code_laws.proofs.Comparing.{compare_acts}
use Rattle.ps_code_laws.proofs.Branches.{does_label, does_chosen, does_default}
use Rattle.ps_code_laws.proofs.Loops.{Stands, does_for, plain_stands, scoped_stands}
use Rattle.ps_code_laws.proofs.Calls.{Entered, does_call}
use Rattle.ps_code_laws.proofs.ScanForms.{does_scan}
use Rattle.fit_soundness.proofs.Levels.{fits}
use Rattle.fit_soundness.proofs.Standings.{Standing, in_levels}

one_or_other : (b : Bool) (x y : ℕ) → (b ≡ true → 1 ≤ x) → (b ≡ false → 1 ≤ y) → 1 ≤ x + y
one_or_other true x y h k = let l = h refl in omega by_arith
one_or_other false x y h k = let l = k refl in omega by_arith

width_scan : (strings : Bool) (q s to : ℕ) (line : Line) → width_of (choice.scan strings q s to line) ≡ 17
width_scan true q s to line = refl
width_scan false q s to line = refl

-- a clause that isn't void has an instruction
mutual
  some_size : {P : BodyNode → Type 0} {nums refs : ℕ} {known : Standing} {t : Node} {ty : TyView} → Clause P nums refs known t ty → isnt_void ty ≡ true → 1 ≤ size t
  some_size clause.int is = omega by_arith
  some_size clause.flag is = omega by_arith
  some_size clause.text is = omega by_arith
  some_size (clause.get_num of_type below) is = omega by_arith
  some_size (clause.get_ref of_type below) is = omega by_arith
  some_size (clause.block {items = items} h) is = let k = some_size_all h refl is in omega by_arith
  some_size (clause.if_else c a b) is = omega by_arith
  some_size (clause.case of_type e arms d) is = omega by_arith
  some_size (clause.and a b) is = omega by_arith
  some_size (clause.or a b) is = omega by_arith
  some_size (clause.not e) is = omega by_arith
  some_size (clause.neg e) is = omega by_arith
  some_size (clause.plus e) is = some_size_in e is
  some_size clause.nil is = omega by_arith
  some_size (clause.is_of e) is = omega by_arith
  some_size (clause.join a b) is = omega by_arith
  some_size (clause.substring a i n) is = omega by_arith
  some_size (clause.structure named text_is args) is = omega by_arith
  some_size (clause.get_field has kind e) is = omega by_arith
  some_size (clause.filled kind l u e) is = omega by_arith
  some_size (clause.listed kind l items) is = omega by_arith
  some_size (clause.get_element kind v i) is = omega by_arith
  some_size (clause.a_bound v) is = omega by_arith
  some_size (clause.library call args) is = omega by_arith
  some_size (clause.scan refs_fit nums_fit keeps scans a f) is = omega by_arith
  some_size (clause.get_kept_num of_type there) is = omega by_arith
  some_size (clause.get_kept_ref of_type there) is = omega by_arith
  some_size (clause.scoped_block own are h) is = omega by_arith
  some_size (clause.call f args) is = omega by_arith
  some_size clause.literal is = omega by_arith
  some_size (clause.arith a b) is = omega by_arith
  some_size (clause.compare of_type a b) is = omega by_arith
  some_size other is = absurd cc

  some_size_in : {P : BodyNode → Type 0} {nums refs : ℕ} {known : Standing} {t : Node} {ty : TyView} → clause.Part P nums refs known t ty → isnt_void ty ≡ true → 1 ≤ size t
  some_size_in (clause.that h sounds fit) is = some_size h is

  some_size_all : {P : BodyNode → Type 0} {nums refs : ℕ} {known : Standing} {before ty : TyView} {ts : Nodes} → Items P nums refs known before ts ty →
      isnt_void before ≡ false → isnt_void ty ≡ true → 1 ≤ size_all ts
  some_size_all clause.at_end is_void is = absurd cc
  some_size_all (clause.an_item {item = t} {rest = ts} {of = of} first sounds fit rest) is_void is =
      one_or_other (isnt_void of) (size t) (size_all ts) (λ e. some_size first e) (λ e. some_size_all rest e is)

-- the kinds of the fields of a row
kinds_of : {P : BodyNode → Type 0} {nums refs : ℕ} {known : Standing} {ts : Nodes} {fields : List Field} → Args P nums refs known ts fields →
    AllByRecursion (λ (field : Field). Kind field.ty) fields
kinds_of clause.no_arg = tt
kinds_of (clause.one_arg kind h rest) = (kind, kinds_of rest)

width_set : (control : Place) → width_of (choice.set control types.Int) ≡ size_at control
width_set (Plain slot) = refl
width_set (Kept up position) = refl

module _ (w : Way) where
  -- the instructions that are chosen by a type
  at_get : {ty : TyView} {p slot : ℕ} → IsNum ty → Stand w p (choice.get (Plain slot) ty) → Stand w p (instr.GetM slot)
  at_get clause.IsNum.int h = h
  at_get clause.IsNum.bool h = h

  at_get_ref : {ty : TyView} {p slot : ℕ} → IsRef ty → Stand w p (choice.get (Plain slot) ty) → Stand w p (instr.GetP slot)
  at_get_ref clause.str h = h
  at_get_ref clause.pntr h = h
  at_get_ref clause.vector h = h
  at_get_ref clause.proc h = h

  at_get_kept : {ty : TyView} {p up position : ℕ} → IsNum ty → Stand w p (choice.get (Kept up position) ty) → Stand w p (instr.KeptM up position)
  at_get_kept clause.IsNum.int h = h
  at_get_kept clause.IsNum.bool h = h

  at_get_kept_ref : {ty : TyView} {p up position : ℕ} → IsRef ty → Stand w p (choice.get (Kept up position) ty) → Stand w p (instr.KeptP up position)
  at_get_kept_ref clause.str h = h
  at_get_kept_ref clause.pntr h = h
  at_get_kept_ref clause.vector h = h
  at_get_kept_ref clause.proc h = h

  at_set_kept : {ty : TyView} {p up position : ℕ} → IsNum ty → Stand w p (choice.set (Kept up position) ty) → Stand w p (instr.KeepM up position)
  at_set_kept clause.IsNum.int h = h
  at_set_kept clause.IsNum.bool h = h

  at_set_kept_ref : {ty : TyView} {p up position : ℕ} → IsRef ty → Stand w p (choice.set (Kept up position) ty) → Stand w p (instr.KeepP up position)
  at_set_kept_ref clause.str h = h
  at_set_kept_ref clause.pntr h = h
  at_set_kept_ref clause.vector h = h
  at_set_kept_ref clause.proc h = h

  at_set : {ty : TyView} {p slot : ℕ} → IsNum ty → Stand w p (choice.set (Plain slot) ty) → Stand w p (instr.SetM slot)
  at_set clause.IsNum.int h = h
  at_set clause.IsNum.bool h = h

  at_set_ref : {ty : TyView} {p slot : ℕ} → IsRef ty → Stand w p (choice.set (Plain slot) ty) → Stand w p (instr.SetP slot)
  at_set_ref clause.str h = h
  at_set_ref clause.pntr h = h
  at_set_ref clause.vector h = h
  at_set_ref clause.proc h = h

  arith_acts : (op : Operator) (line : Line) (p : ℕ) (a b : ℤ) (nums : List ℤ) (refs : List Value) (f : Frame) (store : Store) →
      act (choice.arith op line) (place w p (b ∷ a ∷ nums) refs f store)
      ≡ answered line (arith_of op a b) (place w (p + width_of (choice.arith op line)) nums refs f store)
  arith_acts operator.Add line p a b nums refs f store = refl
  arith_acts operator.Sub line p a b nums refs f store = refl
  arith_acts operator.Mul line p a b nums refs f store = refl
  arith_acts operator.Div line p a b nums refs f store = refl
  arith_acts operator.Rem line p a b nums refs f store = refl

  does_flag : (n : Origin) (p : ℕ) (b : Bool) → Stand w p (choice.flag b) → Does w n [] [] (give (Flag b)) types.Bool 1 p (p + 1)
  does_flag n p true at = does_give w n p 1 [] [] (Flag true) types.Bool instr.True
      (λ nums refs f store room. push_goes w (p + 1) (number_of true) nums refs f store room) at
  does_flag n p false at = does_give w n p 1 [] [] (Flag false) types.Bool instr.False
      (λ nums refs f store room. push_goes w (p + 1) (number_of false) nums refs f store room) at

  does_text : (n : Origin) (p k : ℕ) (bytes : List ℕ) → Stand w p (instr.Text k) → constant_at (constants_in w.unit) k ≡ Some (text_of bytes) →
      Does w n [] [] (give (Text bytes)) types.Str 1 p (p + 5)
  does_text n p k bytes at is = does_give w n p 1 [] [] (Text bytes) types.Str (instr.Text k)
      (λ nums refs f store room. ap (λ (o : Option ConstantView). push_text o (place w (p + 5) nums refs f store)) is
      ∙ push_ref_goes w (p + 5) (Text bytes) nums refs f store room) at

  -- a procedure is made, and put into a place
  does_let_literal : (n : Origin) (at k : ℕ) (to : Place) (width : ℕ) (ty : TyView) (of : BodyNode) → Stand w at (instr.Closure k) →
      constant_at (constants_in w.unit) k ≡ Some (literal_of (unit_of of)) →
      ((v : Value) → Does w n [] (compiled v ∷ []) (set to ty v) types.Void 0 (at + 5) (at + 5 + width)) →
      Does w n [] [] (made_procedure of >>= λ v. set to ty v) types.Void 1 at (at + 5 + width)
  unfolding made_procedure ◌>>=◌ after
  does_let_literal n at k to width ty of stand named d = record {
    by = λ nums refs f s room since reach.
        let made : State = record s { store = and_closure s.store } in
        (does_closure w n at k {params = types.none} {gives = types.Void} of stand named).by nums refs f s room since
        ((d (Procedure (as_written of) f.scope)).by nums refs f made (less_room w 0 1 nums refs (omega by_arith) room)
        (record { few = since.few; grows = since.grows; typed = since.typed; are = since.are; held = since.held; weighs = since.weighs }) reach);
  }

  does_arith : (n : Origin) (p : ℕ) (op : Operator) (line : Line) (v u : Value) → Stand w p (choice.arith op line) →
      Does w n (word_of u ∷ word_of v ∷ []) [] (answer line (arith_of op (word_of v) (word_of u))) types.Int 0 p (p + 5)
  does_arith n p op line v u at = to_end w (p + width_of (choice.arith op line)) (p + 5) (ap (λ k. p + k) (width_arith op line))
      (does_answer w n p (word_of u ∷ word_of v ∷ []) (arith_of op (word_of v) (word_of u)) line (choice.arith op line)
      (λ nums refs f store. arith_acts op line p (word_of v) (word_of u) nums refs f store) at)

  does_compare : (n : Origin) (p : ℕ) {op : Relation} {ty : TyView} → IsCompared op ty → (v u : Value) → IsOf n.heap ty v → IsOf n.heap ty u →
      Stand w p (choice.compare op ty) →
      Does w n (nums_left ty u ++ nums_left ty v) (refs_left ty u ++ refs_left ty v) (give (Flag (compares op ty v u))) types.Bool 1 p (p + 1)
  does_compare n p {op = op} {ty = ty} h v u is of at = to_end w (p + width_of (choice.compare op ty)) (p + 1) (ap (λ k. p + k) (width_compare op ty))
      (does_give w n p 1 (nums_left ty u ++ nums_left ty v) (refs_left ty u ++ refs_left ty v) (Flag (compares op ty v u)) types.Bool
      (choice.compare op ty)
      (λ nums refs f store room. subst (λ (zs : List ℤ). act (choice.compare op ty)
      (place w p zs ((refs_left ty u ++ refs_left ty v) ++ refs) f store)
      ≡ on (place w (p + width_of (choice.compare op ty)) (number_of (compares op ty v u) ∷ nums) refs f store))
      (sym (append_assoc (nums_left ty u) (nums_left ty v) nums))
      (subst (λ (vs : List Value). act (choice.compare op ty) (place w p (nums_left ty u ++ (nums_left ty v ++ nums)) vs f store)
      ≡ on (place w (p + width_of (choice.compare op ty)) (number_of (compares op ty v u) ∷ nums) refs f store))
      (sym (append_assoc (refs_left ty u) (refs_left ty v) refs))
      (compare_acts w n.heap h p v u is of nums refs f store room))) at)

  does_shown : (n : Origin) (p : ℕ) {ty : TyView} → IsShown ty → (line : Line) (v : Value) → IsOf n.heap ty v →
      Stand w p (choice.write ty false line) →
      Does w n (nums_left ty v) (refs_left ty v) (written line None (shown ty v)) types.Void 0 p (p + 9)
  does_shown n p (clause.number clause.IsNum.int) line v is at =
      does_write w n p (word_of v ∷ []) [] line None (signed_decimal (word_of v)) (instr.WriteI 0 line) (λ nums refs f store. refl) at
  does_shown n p (clause.number clause.IsNum.bool) line v is at =
      does_write w n p (word_of v ∷ []) [] line None _ (instr.WriteB 0 line) (λ nums refs f store. refl) at
  does_shown n p clause.IsShown.text line (Text bytes) is at =
      does_write w n p [] (Text bytes ∷ []) line None bytes (instr.WriteT 0 line) (λ nums refs f store. refl) at
  does_shown n p clause.IsShown.text line _ is at = absurd is

  does_shown_wide : (n : Origin) (p : ℕ) {ty : TyView} → IsShown ty → (line : Line) (v u : Value) → IsOf n.heap ty v →
      Stand w p (choice.write ty true line) →
      Does w n (nums_left types.Int u ++ nums_left ty v) (refs_left types.Int u ++ refs_left ty v) (written line (Some (word_of u)) (shown ty v))
      types.Void 0 p (p + 9)
  does_shown_wide n p (clause.number clause.IsNum.int) line v u is at =
      does_write w n p (word_of u ∷ word_of v ∷ []) [] line (Some (word_of u)) (signed_decimal (word_of v)) (instr.WriteI 1 line)
      (λ nums refs f store. refl) at
  does_shown_wide n p (clause.number clause.IsNum.bool) line v u is at =
      does_write w n p (word_of u ∷ word_of v ∷ []) [] line (Some (word_of u)) _ (instr.WriteB 1 line) (λ nums refs f store. refl) at
  does_shown_wide n p clause.IsShown.text line (Text bytes) u is at =
      does_write w n p (word_of u ∷ []) (Text bytes ∷ []) line (Some (word_of u)) bytes (instr.WriteT 1 line) (λ nums refs f store. refl) at
  does_shown_wide n p clause.IsShown.text line _ u is at = absurd is

  mutual
    unfolding eval eval_all eval_each eval_arms eval_labels ◌>>=◌ after give choose

    pub does : (n : Origin) (entered : Entered w n.turns) (at k : ℕ) {t : Node} {ty : TyView} → clause.Part w.Body (nums_of w) (refs_of w) n.known t ty →
        Ahead w.Allows w.unit at (emit t at k) →
        Named w.unit k (constants t) → Does w n [] [] (eval (context_in w n.turns) t) ty (depth t) at (at + size t)
    does n entered at k (clause.that h sounds fit) ahead names = clause_does n entered at k h ahead names

    pub clause_does : (n : Origin) (entered : Entered w n.turns) (at k : ℕ) {t : Node} {ty : TyView} → Clause w.Body (nums_of w) (refs_of w) n.known t ty →
        Ahead w.Allows w.unit at (emit t at k) →
        Named w.unit k (constants t) → Does w n [] [] (eval (context_in w n.turns) t) ty (depth t) at (at + size t)
    clause_does n entered at k (clause.int {v = v}) h names =
        does_give w n at 1 [] [] (Num v) types.Int (instr.Int v) (λ nums refs f store room. push_goes w (at + 5) v nums refs f store room) h.0
    clause_does n entered at k (clause.flag {v = v}) h names = does_flag n at v h.0
    clause_does n entered at k (clause.text {bytes = bytes}) h names = does_text n at k bytes h.0 names.0
    clause_does n entered at k (clause.get_num {slot = slot} is below) h names = does_get w n at slot is below (at_get is h.0)
    clause_does n entered at k (clause.get_ref {slot = slot} is below) h names = does_get_ref w n at slot is below (at_get_ref is h.0)
    clause_does n entered at k (clause.set_num {slot = slot} {ty = ty} {e = e} is below te) h names =
        to_end w (at + size e + 5) (at + (size e + 5)) (omega by_arith)
        (does_then w (λ v. set (Plain slot) ty v) (depth e) 0 (depth (node.SetName (Plain slot) ty e)) at (at + size e) (at + size e + 5)
        (omega by_arith) (omega by_arith) (leads_of w n te) (does n entered at k te (front w.Allows w.unit at (emit e at k) _ h) names)
        (λ new v g is_so. taken w is v (does_set w (after_it n new n.known) (at + size e) slot v is below
        (at_set is (after_clause w.Allows w.unit e at k _ h).0))))
    clause_does n entered at k (clause.set_ref {slot = slot} {ty = ty} {e = e} is below te) h names =
        to_end w (at + size e + 5) (at + (size e + 5)) (omega by_arith)
        (does_then w (λ v. set (Plain slot) ty v) (depth e) 0 (depth (node.SetName (Plain slot) ty e)) at (at + size e) (at + size e + 5)
        (omega by_arith) (omega by_arith) (leads_of w n te) (does n entered at k te (front w.Allows w.unit at (emit e at k) _ h) names)
        (λ new v g is_so. taken_ref w is v (does_set_ref w (after_it n new n.known) (at + size e) slot v is below
        (at_set_ref is (after_clause w.Allows w.unit e at k _ h).0))))
    clause_does n entered at k (clause.let_num {slot = slot} {ty = ty} {e = e} is below te) h names =
        to_end w (at + size e + 5) (at + (size e + 5)) (omega by_arith)
        (does_then w (λ v. set (Plain slot) ty v) (depth e) 0 (depth (node.Let (Plain slot) ty e)) at (at + size e) (at + size e + 5)
        (omega by_arith) (omega by_arith) (leads_of w n te) (does n entered at k te (front w.Allows w.unit at (emit e at k) _ h) names)
        (λ new v g is_so. taken w is v (does_set w (after_it n new n.known) (at + size e) slot v is below
        (at_set is (after_clause w.Allows w.unit e at k _ h).0))))
    clause_does n entered at k (clause.let_ref {slot = slot} {ty = ty} {e = e} is below te) h names =
        to_end w (at + size e + 5) (at + (size e + 5)) (omega by_arith)
        (does_then w (λ v. set (Plain slot) ty v) (depth e) 0 (depth (node.Let (Plain slot) ty e)) at (at + size e) (at + size e + 5)
        (omega by_arith) (omega by_arith) (leads_of w n te) (does n entered at k te (front w.Allows w.unit at (emit e at k) _ h) names)
        (λ new v g is_so. taken_ref w is v (does_set_ref w (after_it n new n.known) (at + size e) slot v is below
        (at_set_ref is (after_clause w.Allows w.unit e at k _ h).0))))
    clause_does n entered at k (clause.get_kept_num {up = up} {position = position} is there) h names =
        does_get_kept w n at up position is there (at_get_kept is h.0)
    clause_does n entered at k (clause.get_kept_ref {up = up} {position = position} is there) h names =
        does_get_kept_ref w n at up position is there (at_get_kept_ref is h.0)
    clause_does n entered at k (clause.set_kept_num {up = up} {position = position} {ty = ty} {e = e} is there te) h names =
        to_end w (at + size e + 9) (at + (size e + 9)) (omega by_arith)
        (does_then w (λ v. set (Kept up position) ty v) (depth e) 0 (depth (node.SetName (Kept up position) ty e)) at (at + size e) (at + size e + 9)
        (omega by_arith) (omega by_arith) (leads_of w n te) (does n entered at k te (front w.Allows w.unit at (emit e at k) _ h) names)
        (λ new v g is_so. taken w is v (does_set_kept w (after_it n new n.known) (at + size e) up position v is there
        (at_set_kept is (after_clause w.Allows w.unit e at k _ h).0))))
    clause_does n entered at k (clause.set_kept_ref {up = up} {position = position} {ty = ty} {e = e} is there te) h names =
        to_end w (at + size e + 9) (at + (size e + 9)) (omega by_arith)
        (does_then w (λ v. set (Kept up position) ty v) (depth e) 0 (depth (node.SetName (Kept up position) ty e)) at (at + size e) (at + size e + 9)
        (omega by_arith) (omega by_arith) (leads_of w n te) (does n entered at k te (front w.Allows w.unit at (emit e at k) _ h) names)
        (λ new v g is_so. taken_ref w is v (does_set_kept_ref w (after_it n new n.known) (at + size e) up position v is there
        (at_set_kept_ref is (after_clause w.Allows w.unit e at k _ h).0))))
    clause_does n entered at k (clause.let_kept_num {up = up} {position = position} {ty = ty} {e = e} is there te) h names =
        to_end w (at + size e + 9) (at + (size e + 9)) (omega by_arith)
        (does_then w (λ v. set (Kept up position) ty v) (depth e) 0 (depth (node.Let (Kept up position) ty e)) at (at + size e) (at + size e + 9)
        (omega by_arith) (omega by_arith) (leads_of w n te) (does n entered at k te (front w.Allows w.unit at (emit e at k) _ h) names)
        (λ new v g is_so. taken w is v (does_set_kept w (after_it n new n.known) (at + size e) up position v is there
        (at_set_kept is (after_clause w.Allows w.unit e at k _ h).0))))
    clause_does n entered at k (clause.let_kept_ref {up = up} {position = position} {ty = ty} {e = e} is there te) h names =
        to_end w (at + size e + 9) (at + (size e + 9)) (omega by_arith)
        (does_then w (λ v. set (Kept up position) ty v) (depth e) 0 (depth (node.Let (Kept up position) ty e)) at (at + size e) (at + size e + 9)
        (omega by_arith) (omega by_arith) (leads_of w n te) (does n entered at k te (front w.Allows w.unit at (emit e at k) _ h) names)
        (λ new v g is_so. taken_ref w is v (does_set_kept_ref w (after_it n new n.known) (at + size e) up position v is there
        (at_set_kept_ref is (after_clause w.Allows w.unit e at k _ h).0))))
    clause_does n entered at k (clause.scoped_block {bytes = bytes} {levels = levels} {items = items} its are ti) h names =
        let whole = node.Block (Some bytes) items in
        let inside = at + 5 in
        let q = inside + size_all items in
        let context = context_in w n.turns in
        to_end w (q + 1) (at + size whole) (omega by_arith)
        (does_scoped w {last = behind_items ti} at q k bytes levels its are h.0 names.0 (after_clauses w.Allows w.unit items inside (k + 1) _ h.1).0
        (stays_all context Nothing items)
        (λ new g. record {
          falls = falls_all context (calls_fall n.turns (length w.callers)) Nothing items;
          sound = items_sound ti n.turns (length w.callers) new Nothing tt;
          holds = holds_all w.Body context (calls_hold w.Body n.turns (length w.callers)) Nothing items tt (items_fit ti);
        })
        (λ new g. does_all (after_it n new (opened n.known its.fields levels)) entered inside (k + 1) (depth whole) 0 Nothing ti (omega by_arith)
        (front w.Allows w.unit inside (emit_all items inside (k + 1)) _ h.1) names.1))
    clause_does n entered at k (clause.literal {params = params} {gives = gives} {tree = tree} {text = text} {line = line}) h names =
        moved w 1 (depth (node.Proc (body params gives tree text line))) at (at + 5) (at + 5) (omega by_arith) refl
        (does_closure w n at k (body params gives tree text line) h.0 names.0)
    clause_does n entered at k (clause.let_literal {slot = slot} {ty = ty} {of = body params gives tree text line} is below) h names =
        let of = body params gives tree text line in
        moved w 1 (depth (node.Let (Plain slot) ty (node.Proc of))) at (at + 5 + 5) (at + (5 + 5)) (omega by_arith) (omega by_arith)
        (does_let_literal n at k (Plain slot) 5 ty of h.0 names.0
        (λ v. does_set_ref w n (at + 5) slot v is below (at_set_ref is h.1.0)))
    clause_does n entered at k (clause.let_kept_literal {up = up} {position = position} {ty = ty} {of = body params gives tree text line} is there) h
        names =
        let of = body params gives tree text line in
        moved w 1 (depth (node.Let (Kept up position) ty (node.Proc of))) at (at + 5 + 9) (at + (5 + 9)) (omega by_arith) (omega by_arith)
        (does_let_literal n at k (Kept up position) 9 ty of h.0 names.0
        (λ v. does_set_kept_ref w n (at + 5) up position v is there (at_set_kept_ref is h.1.0)))
    clause_does n entered at k (clause.call {f = f} {args = args} {line = line} {tys = tys} {ty = ty} tf targs) h names =
        let whole = node.Call f args line in
        let q = at + size f in
        let rest = after_clause w.Allows w.unit f at k _ h in
        let call_at = after_clauses w.Allows w.unit args q (k + count f) _ rest in
        let names_args = names_behind w.unit f k _ names in
        let at_call : Stand w (q + size_all args) (instr.Call (choice.references tys) line)
        = subst (λ (t : TyView). Stand w (q + size_all args) (instr.Call (choice.reference_arguments t) line)) (type_in tf) call_at.0 in
        let some = at_least_one 1 (fold_all deepest operand args) in
        to_end w (q + size_all args + 9) (at + size whole) (omega by_arith)
        (does_then_held w (λ v. eval_each (context_in w n.turns) args (call_meant (context_in w n.turns) line v)) (depth f) (depth whole) (depth whole)
        at q (q + size_all args + 9) (omega by_arith) (omega by_arith) (leads_of w n tf)
        (does n entered at k tf (front w.Allows w.unit at (emit f at k) _ h) (named_front w.unit k (constants f) _ names))
        (λ new v g is fitted. does_args (after_it n new n.known) entered q (k + count f) (depth whole) 1 (q + size_all args + 9) [] (compiled v ∷ [])
        (omega by_arith) (omega by_arith) targs (omega by_arith) (front w.Allows w.unit q (emit_all args q (k + count f)) _ rest) names_args
        (call_meant (context_in w n.turns) line v)
        (λ last vs l are held. does_call w (after_it n last n.known) (q + size_all args) (depth whole) line tys ty v vs (omega by_arith) entered
        (of_kept fits new last l (types.Proc tys ty) v is) fitted are held at_call)))
    clause_does n entered at k (clause.library {code = code} {args = args} {line = line} {of = of} {ty = ty} is targs) h names =
        let whole = node.Lib code args line in
        let q = at + size_all args in
        let call_at = after_clauses w.Allows w.unit args at k _ h in
        let fields = fields_by (parameters_of of) in
        to_end w (q + 9) (at + size whole) (omega by_arith)
        (does_args n entered at k (depth whole) 0 (q + 9) [] [] (omega by_arith) (omega by_arith) targs (omega by_arith)
        (front w.Allows w.unit at (emit_all args at k) _ h) names (lib_meant line (library_procedure code))
        (λ new vs g are held.
        subst (λ (t : TyView). Does w (after_it n new n.known) (pushed_nums fields vs []) (pushed_refs fields vs [])
        (lib_meant line (library_procedure code) vs) t (depth whole) q (q + 9)) (sym is.gives)
        (subst (λ (procedure : Option LibraryProcedure). Does w (after_it n new n.known) (pushed_nums fields vs []) (pushed_refs fields vs [])
        (lib_meant line procedure vs) (type_given of) (depth whole) q (q + 9)) (sym is.by_number)
        (moved w 1 (depth whole) q (q + 9) (q + 9) (at_least_one 0 (fold_all deepest operand args)) refl
        (does_procedure w (after_it n new n.known) q code line of vs is.by_number are call_at.0)))))
    clause_does n entered at k clause.empty h names = to_end w at (at + 0) (omega by_arith) (does_nothing w n 1 at)
    clause_does n entered at k (clause.block {items = items} ti) h names =
        let start : at ≡ at + 0 = omega by_arith in
        let inside = ahead_at w.Allows w.unit at (at + 0) _ start (front w.Allows w.unit at (emit_all items (at + 0) (k + 0)) [] h) in
        let d = does_all n entered (at + 0) (k + 0) (depth (node.Block None items)) 0 Nothing ti (omega by_arith) inside
        (subst (λ (j : ℕ). Named w.unit j (constants_of_all items)) (omega by_arith) names) in
        from_place w (at + 0) at (sym start) (to_end w (at + 0 + size_all items) (at + (0 + size_all items + 0)) (omega by_arith) d)
    clause_does n entered at k (clause.if_do {c = c} {a = a} tc ta) h names =
        let whole = node.IfDo c a in
        let clause_at = at + size c + 5 in
        let rest = after_clause w.Allows w.unit c at k _ h in
        to_end w (clause_at + size a) (at + size whole) (omega by_arith)
        (does_then w _ (depth c) (depth whole) (depth whole) at (at + size c) (clause_at + size a) (omega by_arith) (omega by_arith)
        (leads_of w n tc) (does n entered at k tc (front w.Allows w.unit at (emit c at k) _ h) (named_front w.unit k (constants c) _ names))
        (λ new v g is_so. does_jump_false w (depth whole) (at + size c) (clause_at + size a) (clause_at + size a) v (eval (context_in w n.turns) a)
        (give Nothing)
        (moved w (depth a) (depth whole) clause_at (clause_at + size a) (clause_at + size a) (omega by_arith) refl
        (does (after_it n new n.known) entered clause_at (k + count c) ta rest.1 (names_behind w.unit c k _ names)))
        (does_nothing w (after_it n new n.known) (depth whole) (clause_at + size a)) (omega by_arith) rest.0 (flag_of v) refl))
    clause_does n entered at k (clause.if_else {c = c} {a = a} {b = b} tc ta tb) h names =
        let whole = node.IfElse c a b in
        let clause_at = at + size c + 5 in
        let other = clause_at + size a + 5 in
        let end = other + size b in
        let rest = after_clause w.Allows w.unit c at k _ h in
        let rest_b = after_clause w.Allows w.unit a clause_at (k + count c) _ rest.1 in
        let names_a = names_behind w.unit c k _ names in
        to_end w end (at + size whole) (omega by_arith)
        (does_then w _ (depth c) (depth whole) (depth whole) at (at + size c) end (omega by_arith) (omega by_arith)
        (leads_of w n tc) (does n entered at k tc (front w.Allows w.unit at (emit c at k) _ h) (named_front w.unit k (constants c) _ names))
        (λ new v g is_so. does_jump_false w (depth whole) (at + size c) end other v (eval (context_in w n.turns) a) (eval (context_in w n.turns) b)
        (does_jump w (clause_at + size a) end (omega by_arith) rest_b.0
        (moved w (depth a) (depth whole) clause_at (clause_at + size a) (clause_at + size a)
        (omega by_arith) refl (does (after_it n new n.known) entered clause_at (k + count c) ta
        (front w.Allows w.unit clause_at (emit a clause_at (k + count c)) _ rest.1)
        (named_front w.unit (k + count c) (constants a) _ names_a))))
        (moved w (depth b) (depth whole) other end end (omega by_arith) refl
        (does (after_it n new n.known) entered other (k + count c + count a) tb rest_b.1 (names_behind w.unit a (k + count c) _ names_a)))
        (omega by_arith) rest.0 (flag_of v) refl))
    clause_does n entered at k (clause.while {c = c} {a = a} tc ta) h names =
        let whole = node.While c a in
        let clause_at = at + 5 in
        let test_at = clause_at + size a in
        let rest = after_clause w.Allows w.unit a clause_at k _ h.1 in
        let again = after_clause w.Allows w.unit c test_at (k + count a) _ rest in
        let some = some_size_in tc refl in
        to_end w (test_at + size c + 5) (at + size whole) (omega by_arith)
        (jump_does w at test_at (omega by_arith) h.0
        (does_while w n (depth whole) (depth c) (depth a) test_at (test_at + size c) clause_at (eval (context_in w n.turns) c) (eval (context_in w n.turns) a)
        (omega by_arith) (omega by_arith) (leads_of w n tc) (leads_of w n ta)
        (does n entered test_at (k + count a) tc (front w.Allows w.unit test_at (emit c test_at (k + count a)) _ rest) (names_behind w.unit a k _ names))
        (does n entered clause_at k ta (front w.Allows w.unit clause_at (emit a clause_at k) _ h.1) (named_front w.unit k (constants a) _ names))
        (omega by_arith) again.0 n.turns n.heap (omega by_arith) (grows_not n.heap)))
    clause_does n entered at k (clause.repeat {a = a} {c = c} {b = b} ta tc tb) h names =
        let whole = node.Repeat a c b in
        let between = at + 5 in
        let clause_at = between + size b in
        let rest = after_clause w.Allows w.unit b between k _ h.1 in
        let rest_c = after_clause w.Allows w.unit a clause_at (k + count b) _ rest in
        let again = after_clause w.Allows w.unit c (clause_at + size a) (k + count b + count a) _ rest_c in
        let names_a = names_behind w.unit b k _ names in
        let some = some_size_in tc refl in
        let test : Does w n [] [] (eval (context_in w n.turns) a >>= λ u. eval (context_in w n.turns) c) types.Bool (depth whole) clause_at
        (clause_at + size a + size c)
        = does_then w (λ u. eval (context_in w n.turns) c) (depth a) (depth c) (depth whole) clause_at (clause_at + size a) (clause_at + size a + size c)
        (omega by_arith) (omega by_arith) (leads_of w n ta)
        (does n entered clause_at (k + count b) ta (front w.Allows w.unit clause_at (emit a clause_at (k + count b)) _ rest)
        (named_front w.unit (k + count b) (constants a) _ names_a))
        (λ new u g is. does (after_it n new n.known) entered (clause_at + size a) (k + count b + count a) tc
        (front w.Allows w.unit (clause_at + size a) (emit c (clause_at + size a) (k + count b + count a)) _ rest_c)
        (names_behind w.unit a (k + count b) _ names_a)) in
        let leads_test : Leads w.Body n n.known types.Bool (eval (context_in w n.turns) a >>= λ u. eval (context_in w n.turns) c)
        = record {
          falls = falls_then (eval (context_in w n.turns) a) _ (falls_in w n.turns a) (λ u. falls_in w n.turns c);
          sound = sound_then in_levels (sounds_in ta n.turns (length w.callers) n.heap) (λ new u g is. sounds_in tc n.turns (length w.callers) new);
          holds = holds_then w.Body (eval (context_in w n.turns) a) _ (holds_in w n.turns a (bodies_in ta)) (λ u is. holds_in w n.turns c (bodies_in tc));
        } in
        to_end w (clause_at + size a + size c + 5) (at + size whole) (omega by_arith)
        (jump_does w at clause_at (omega by_arith) h.0
        (does_while w n (depth whole) (depth whole) (depth b) clause_at (clause_at + size a + size c) between _ (eval (context_in w n.turns) b)
        (omega by_arith) (omega by_arith) leads_test (leads_of w n tb) test
        (does n entered between k tb (front w.Allows w.unit between (emit b between k) _ h.1) (named_front w.unit k (constants b) _ names))
        (omega by_arith) again.0 n.turns n.heap (omega by_arith) (grows_not n.heap)))
    clause_does n entered at k (clause.loop {own = own_known} {slot = slot} {a = a} {b = b} {c = c} {s = s} {control = control} {line = line} is typed
        controls in_place ta tb tc ts) h names =
        let whole = node.For slot a b c None control s line in
        let context = context_in w n.turns in
        let limit_at = at + size a + 5 in
        let step_at = limit_at + size b + 5 in
        let turn = step_at + size c + 5 + 13 in
        let clause_at = turn + 0 + 5 + size_at control in
        let own = k + count a + count b + count c in
        let rest_a = after_clause w.Allows w.unit a at k _ h in
        let rest_b = after_clause w.Allows w.unit b limit_at (k + count a) _ rest_a.1 in
        let rest_c = after_clause w.Allows w.unit c step_at (k + count a + count b) _ rest_b.1 in
        let in_turn = rest_c.1.1 in
        let set_next : turn + 5 + width_of (choice.set control types.Int) ≡ clause_at = ap (λ (n : ℕ). turn + 5 + n) (width_set control) ∙ omega by_arith in
        let same_place : turn + 5 + size_at control ≡ clause_at = omega by_arith in
        let of_s = ahead_at w.Allows w.unit (turn + 5 + width_of (choice.set control types.Int)) clause_at _ set_next in_turn.1.1 in
        let rest_s = after_clause w.Allows w.unit s clause_at (own + 0) _ of_s in
        let names_b = names_behind w.unit a k _ names in
        let names_c = names_behind w.unit b (k + count a) _ names_b in
        let names_s : Named w.unit (own + 0) (constants s)
        = subst (λ (j : ℕ). Named w.unit j (constants s)) (omega by_arith) (names_behind w.unit c (k + count a + count b) _ names_c) in
        let q = clause_at + size s in
        let start_at : Stand w (step_at + size c + 5) (instr.ForStart slot (q + 9) line)
        = subst (λ (end : ℕ). Stand w (step_at + size c + 5) (instr.ForStart slot end line)) (omega by_arith) rest_c.1.0 in
        let stands : Stands w n own_known slot None control (depth whole) turn q (eval context s)
        = plain_stands w n own_known slot (depth s) (depth whole) turn q control (eval context s) is.three in_place (omega by_arith) (omega by_arith)
        controls (leads_of w (after_it n n.heap own_known) ts) in_turn.0 in_turn.1.0
        (from_place w clause_at (turn + 5 + size_at control) (sym same_place)
        (does (after_it n n.heap own_known) entered clause_at (own + 0) ts (front w.Allows w.unit clause_at (emit s clause_at (own + 0)) _ of_s) names_s))
        typed rest_s.0 (omega by_arith) (is.keeps context) (is.keeps_limit context) (is.keeps_step context) in
        to_end w (q + 9) (at + size whole) (omega by_arith)
        (does_for w n own_known slot None control (depth whole) q (depth a) (depth b) (depth c) at (at + size a) (limit_at + size b)
        (step_at + size c)
        (eval context a) (eval context b) (eval context c) (eval context s) line stands (omega by_arith)
        (omega by_arith) (omega by_arith)
        (leads_of w n ta) (leads_of w n tb) (leads_of w n tc)
        (does n entered at k ta (front w.Allows w.unit at (emit a at k) _ h) (named_front w.unit k (constants a) _ names)) rest_a.0
        (does n entered limit_at (k + count a) tb (front w.Allows w.unit limit_at (emit b limit_at (k + count a)) _ rest_a.1)
        (named_front w.unit (k + count a) (constants b) _ names_b))
        rest_b.0
        (does n entered step_at (k + count a + count b) tc (front w.Allows w.unit step_at (emit c step_at (k + count a + count b)) _ rest_b.1)
        (named_front w.unit (k + count a + count b) (constants c) _ names_c)) rest_c.0 start_at
        (is.limit_keeps context) (is.step_keeps context) (is.step_keeps_limit context))
    clause_does n entered at k (clause.scoped_loop {own = own_known} {slot = slot} {bytes = bytes} {levels = levels} {a = a} {b = b} {c = c} {s = s}
        {control = control} {line = line} its are is typed controls in_place turns ta tb tc ts) h names =
        let whole = node.For slot a b c (Some bytes) control s line in
        let context = context_in w n.turns in
        let limit_at = at + size a + 5 in
        let step_at = limit_at + size b + 5 in
        let turn = step_at + size c + 5 + 13 in
        let clause_at = turn + 5 + 5 + size_at control in
        let own = k + count a + count b + count c in
        let rest_a = after_clause w.Allows w.unit a at k _ h in
        let rest_b = after_clause w.Allows w.unit b limit_at (k + count a) _ rest_a.1 in
        let rest_c = after_clause w.Allows w.unit c step_at (k + count a + count b) _ rest_b.1 in
        let in_turn = rest_c.1.1 in
        let of_s = ahead_at w.Allows w.unit (turn + 5 + 5 + width_of (choice.set control types.Int)) clause_at _
        (ap (λ (n : ℕ). turn + 5 + 5 + n) (width_set control)) in_turn.1.1.1 in
        let rest_s = after_clause w.Allows w.unit s clause_at (own + 1) _ of_s in
        let names_b = names_behind w.unit a k _ names in
        let names_c = names_behind w.unit b (k + count a) _ names_b in
        let names_s = names_behind w.unit c (k + count a + count b) _ names_c in
        let q = clause_at + size s in
        let start_at : Stand w (step_at + size c + 5) (instr.ForStart slot (q + 1 + 9) line)
        = subst (λ (end : ℕ). Stand w (step_at + size c + 5) (instr.ForStart slot end line)) (omega by_arith) rest_c.1.0 in
        let stands : Stands w n n.known slot (Some bytes) control (depth whole) turn (q + 1) (eval context s)
        = scoped_stands w n own_known slot (depth s) (depth whole) turn q own control (eval context s) bytes levels its are is.three in_place (omega by_arith)
        (omega by_arith) controls (leads_of w (after_it n n.heap own_known) ts) (λ z z_is. turns n.turns (length w.callers) z z_is n.heap)
        (stays_eval context s) in_turn.0 names_s.0 in_turn.1.0 in_turn.1.1.0
        (does (after_it n n.heap own_known) entered clause_at (own + 1) ts (front w.Allows w.unit clause_at (emit s clause_at (own + 1)) _ of_s) names_s.1)
        rest_s.0 typed rest_s.1.0 (omega by_arith) (is.keeps context) (is.keeps_limit context) (is.keeps_step context) in
        to_end w (q + 1 + 9) (at + size whole) (omega by_arith)
        (does_for w n n.known slot (Some bytes) control (depth whole) (q + 1) (depth a) (depth b) (depth c) at (at + size a) (limit_at + size b)
        (step_at + size c)
        (eval context a) (eval context b) (eval context c) (eval context s) line stands (omega by_arith)
        (omega by_arith) (omega by_arith)
        (leads_of w n ta) (leads_of w n tb) (leads_of w n tc)
        (does n entered at k ta (front w.Allows w.unit at (emit a at k) _ h) (named_front w.unit k (constants a) _ names)) rest_a.0
        (does n entered limit_at (k + count a) tb (front w.Allows w.unit limit_at (emit b limit_at (k + count a)) _ rest_a.1)
        (named_front w.unit (k + count a) (constants b) _ names_b))
        rest_b.0
        (does n entered step_at (k + count a + count b) tc (front w.Allows w.unit step_at (emit c step_at (k + count a + count b)) _ rest_b.1)
        (named_front w.unit (k + count a + count b) (constants c) _ names_c)) rest_c.0 start_at
        (is.limit_keeps context) (is.step_keeps context) (is.step_keeps_limit context))
    clause_does n entered at k (clause.case {e = e} {d = d} {arms = arms} {value = value} {ty = ty} is te tarms td) h names =
        let whole = node.Case e arms d value in
        let first = at + size e in
        let drop_at = first + size_arms arms in
        let default = drop_at + 1 in
        let end = default + size d in
        let rest = after_clause w.Allows w.unit e at k _ h in
        let of_arms = front w.Allows w.unit first (emit_arms value end arms first (k + count e)) _ rest in
        let rest_d = behind w.Allows w.unit first drop_at (emit_arms value end arms first (k + count e)) _
        (ap (λ j. first + j) (width_arms arms value end first (k + count e))) rest in
        let of_d = next_of w drop_at 1 (choice.by_type value instr.DropM instr.DropP) _ (width_by_type 1 value instr.DropM instr.DropP refl refl)
        rest_d in
        let names_arms = names_behind w.unit e k _ names in
        let names_d = named_behind w.unit (k + count e) (k + count e + count_arms arms) (constants_of_arms arms) _
        (ap (λ j. k + count e + j) (count_of_arms arms)) names_arms in
        let last = reaches_behind 1 (depth whole) (fold_arms deepest arms) (branch (depth d) ∷ []) (omega by_arith) in
        to_end w end (at + size whole) (omega by_arith)
        (does_then w (λ v. eval_arms (context_in w n.turns) value v arms (eval (context_in w n.turns) d)) (depth e) (depth whole) (depth whole) at first end
        (omega by_arith) (omega by_arith)
        (leads_of w n te) (does n entered at k te (front w.Allows w.unit at (emit e at k) _ h) (named_front w.unit k (constants e) _ names))
        (λ new v g is_so. does_arms (after_it n new n.known) entered first (k + count e) (depth whole) 1 end is v (eval (context_in w n.turns) d)
        (branch (depth d) ∷ []) tarms
        is_so (omega by_arith) of_arms (named_front w.unit (k + count e) (constants_of_arms arms) _ names_arms) (omega by_arith)
        (λ final l. does_default w is (depth whole) (depth d) drop_at end v (omega by_arith) rest_d.0
        (does (after_it n final n.known) entered default (k + count e + count_arms arms) td of_d names_d))))
    clause_does n entered at k (clause.and {a = a} {b = b} ta tb) h names =
        let whole = node.And a b in
        let other = at + size a + 5 in
        let rest = after_clause w.Allows w.unit a at k _ h in
        to_end w (other + size b) (at + size whole) (omega by_arith)
        (does_then w _ (depth a) (depth whole) (depth whole) at (at + size a) (other + size b) (omega by_arith) (omega by_arith)
        (leads_of w n ta) (does n entered at k ta (front w.Allows w.unit at (emit a at k) _ h) (named_front w.unit k (constants a) _ names))
        (λ new v g is_so. does_and w (depth whole) (at + size a) (other + size b) v (eval (context_in w n.turns) b)
        (moved w (depth b) (depth whole) other (other + size b) (other + size b) (omega by_arith) refl
        (does (after_it n new n.known) entered other (k + count a) tb rest.1 (names_behind w.unit a k _ names))) (omega by_arith) rest.0 (flag_of v) refl))
    clause_does n entered at k (clause.or {a = a} {b = b} ta tb) h names =
        let whole = node.Or a b in
        let other = at + size a + 5 in
        let rest = after_clause w.Allows w.unit a at k _ h in
        to_end w (other + size b) (at + size whole) (omega by_arith)
        (does_then w _ (depth a) (depth whole) (depth whole) at (at + size a) (other + size b) (omega by_arith) (omega by_arith)
        (leads_of w n ta) (does n entered at k ta (front w.Allows w.unit at (emit a at k) _ h) (named_front w.unit k (constants a) _ names))
        (λ new v g is_so. does_or w (depth whole) (at + size a) (other + size b) v (eval (context_in w n.turns) b)
        (moved w (depth b) (depth whole) other (other + size b) (other + size b) (omega by_arith) refl
        (does (after_it n new n.known) entered other (k + count a) tb rest.1 (names_behind w.unit a k _ names))) (omega by_arith) rest.0 (flag_of v) refl))
    clause_does n entered at k (clause.not {e = e} te) h names =
        to_end w (at + size e + 1) (at + (size e + 1)) (omega by_arith)
        (does_then w _ (depth e) 0 (depth (node.Not e)) at (at + size e) (at + size e + 1) (omega by_arith) (omega by_arith)
        (leads_of w n te) (does n entered at k te (front w.Allows w.unit at (emit e at k) _ h) names)
        (λ new v g is_so. does_give w (after_it n new n.known) (at + size e) 0 (word_of v ∷ []) [] (Flag (not (flag_of v))) types.Bool instr.Not
        (λ nums refs f store room. refl)
        (after_clause w.Allows w.unit e at k _ h).0))
    clause_does n entered at k (clause.neg {e = e} {line = line} te) h names =
        to_end w (at + size e + 5) (at + (size e + 5)) (omega by_arith)
        (does_then w _ (depth e) 0 (depth (node.Neg e line)) at (at + size e) (at + size e + 5) (omega by_arith) (omega by_arith)
        (leads_of w n te) (does n entered at k te (front w.Allows w.unit at (emit e at k) _ h) names)
        (λ new v g is_so. does_answer w (after_it n new n.known) (at + size e) (word_of v ∷ []) (neg_of (word_of v)) line (instr.Neg line)
        (λ nums refs f store. refl)
        (after_clause w.Allows w.unit e at k _ h).0))
    clause_does n entered at k (clause.plus {e = e} te) h names =
        moved w (depth e) (depth (node.Plus e)) at (at + size e) (at + size e) (omega by_arith) refl (does n entered at k te h names)
    clause_does n entered at k (clause.arith {op = op} {a = a} {b = b} {line = line} ta tb) h names =
        let whole = node.Arith op a b line in
        let rest = after_clause w.Allows w.unit a at k _ h in
        to_end w (at + size a + size b + 5) (at + size whole) (omega by_arith)
        (does_two w (λ v u. answer line (arith_of op (word_of v) (word_of u))) (depth a) (depth b) 0 (depth whole) at (at + size a)
        (at + size a + size b)
        (at + size a + size b + 5) (omega by_arith) (omega by_arith) (omega by_arith) (leads_of w n ta) (leads_of w n tb)
        (does n entered at k ta (front w.Allows w.unit at (emit a at k) _ h) (named_front w.unit k (constants a) _ names))
        (does n entered (at + size a) (k + count a) tb (front w.Allows w.unit (at + size a) (emit b (at + size a) (k + count a)) _ rest)
        (names_behind w.unit a k _ names))
        (λ new v u g is of. does_arith (after_it n new n.known) (at + size a + size b) op line v u
        (after_clause w.Allows w.unit b (at + size a) (k + count a) _ rest).0))
    clause_does n entered at k (clause.compare {op = op} {ty = ty} {a = a} {b = b} by ta tb) h names =
        let whole = node.Compare op ty a b in
        let rest = after_clause w.Allows w.unit a at k _ h in
        to_end w (at + size a + size b + 1) (at + size whole) (omega by_arith)
        (does_two w (λ v u. give (Flag (compares op ty v u))) (depth a) (depth b) 1 (depth whole) at (at + size a) (at + size a + size b)
        (at + size a + size b + 1) (omega by_arith) (omega by_arith) (omega by_arith) (leads_of w n ta) (leads_of w n tb)
        (does n entered at k ta (front w.Allows w.unit at (emit a at k) _ h) (named_front w.unit k (constants a) _ names))
        (does n entered (at + size a) (k + count a) tb (front w.Allows w.unit (at + size a) (emit b (at + size a) (k + count a)) _ rest)
        (names_behind w.unit a k _ names))
        (λ new v u g is of. does_compare (after_it n new n.known) (at + size a + size b) by v u is of
        (after_clause w.Allows w.unit b (at + size a) (k + count a) _ rest).0))
    clause_does n entered at k (clause.write {e = e} {ty = ty} {line = line} is te) h names =
        let whole = node.Write e node.Empty false ty line in
        to_end w (at + size e + 9) (at + size whole) (omega by_arith)
        (does_then w _ (depth e) 0 (depth whole) at (at + size e) (at + size e + 9) (omega by_arith) (omega by_arith)
        (leads_of w n te) (does n entered at k te (front w.Allows w.unit at (emit e at k) _ h) (named_front w.unit k (constants e) _ names))
        (λ new v g is_so. does_shown (after_it n new n.known) (at + size e) is line v is_so (after_clause w.Allows w.unit e at k _ h).0))
    clause_does n entered at k (clause.write_wide {e = e} {w = wide} {ty = ty} {line = line} is te tw) h names =
        let whole = node.Write e wide true ty line in
        let rest = after_clause w.Allows w.unit e at k _ h in
        to_end w (at + size e + size wide + 9) (at + size whole) (omega by_arith)
        (does_two w (λ v u. written line (Some (word_of u)) (shown ty v)) (depth e) (depth wide) 0 (depth whole) at (at + size e)
        (at + size e + size wide)
        (at + size e + size wide + 9) (omega by_arith) (omega by_arith) (omega by_arith) (leads_of w n te) (leads_of w n tw)
        (does n entered at k te (front w.Allows w.unit at (emit e at k) _ h) (named_front w.unit k (constants e) _ names))
        (does n entered (at + size e) (k + count e) tw (front w.Allows w.unit (at + size e) (emit wide (at + size e) (k + count e)) _ rest)
        (names_behind w.unit e k _ names))
        (λ new v u g is_so of. does_shown_wide (after_it n new n.known) (at + size e + size wide) is line v u is_so
        (after_clause w.Allows w.unit wide (at + size e) (k + count e) _ rest).0))
    clause_does n entered at k (clause.abort {line = line}) h names =
        moved w 0 1 at (at + 5) (at + 5) (omega by_arith) refl
        (does_stop w n at (at + 5) types.Void (Trapped Aborted line) (instr.Abort line) (λ nums refs f store. refl) h.0)
    clause_does n entered at k clause.nil h names =
        does_give w n at 1 [] [] Nil types.Pntr instr.Nil (λ nums refs f store room. push_ref_goes w (at + 1) Nil nums refs f store room) h.0
    clause_does n entered at k clause.a_class h names = to_end w at (at + 0) (omega by_arith) (does_nothing w n 1 at)
    clause_does n entered at k (clause.is_of {e = e} {class = class} te) h names =
        let whole = node.Is e class in
        to_end w (at + size e + 5) (at + size whole) (omega by_arith)
        (does_one w _ (depth e) 1 (depth whole) at (at + size e) (at + size e + 5) (omega by_arith) (omega by_arith) (leads_of w n te)
        (does n entered at k te (front w.Allows w.unit at (emit e at k) _ h) (named_front w.unit k (constants e) _ names))
        (λ new v g is. does_is w (after_it n new n.known) (at + size e) (k + count e) class v is (after_clause w.Allows w.unit e at k _ h).0
        (names_behind w.unit e k _ names).0))
    clause_does n entered at k (clause.join {a = a} {b = b} {line = line} ta tb) h names =
        let whole = node.Join a b line in
        let rest = after_clause w.Allows w.unit a at k _ h in
        to_end w (at + size a + size b + 5) (at + size whole) (omega by_arith)
        (does_two w (λ v u. join_meant line v u) (depth a) (depth b) 1 (depth whole) at (at + size a) (at + size a + size b)
        (at + size a + size b + 5) (omega by_arith) (omega by_arith) (omega by_arith) (leads_of w n ta) (leads_of w n tb)
        (does n entered at k ta (front w.Allows w.unit at (emit a at k) _ h) (named_front w.unit k (constants a) _ names))
        (does n entered (at + size a) (k + count a) tb (front w.Allows w.unit (at + size a) (emit b (at + size a) (k + count a)) _ rest)
        (names_behind w.unit a k _ names))
        (λ new v u g is of. does_join w (after_it n new n.known) (at + size a + size b) line v u is of
        (after_clause w.Allows w.unit b (at + size a) (k + count a) _ rest).0))
    clause_does n entered at k (clause.substring {a = a} {i = i} {n = m} {line = line} ta ti tm) h names =
        let whole = node.Part a i m line in
        let second = at + size a in
        let third = second + size i in
        let last = third + size m in
        let rest = after_clause w.Allows w.unit a at k _ h in
        let rest_i = after_clause w.Allows w.unit i second (k + count a) _ rest in
        let names_i = names_behind w.unit a k _ names in
        to_end w (last + 5) (at + size whole) (omega by_arith)
        (does_three w (λ v from count. part_meant line v from count) (depth a) (depth i) (depth m) 1 (depth whole) at second third last
        (last + 5) (omega by_arith) (omega by_arith) (omega by_arith) (omega by_arith) (leads_of w n ta) (leads_of w n ti) (leads_of w n tm)
        (does n entered at k ta (front w.Allows w.unit at (emit a at k) _ h) (named_front w.unit k (constants a) _ names))
        (does n entered second (k + count a) ti (front w.Allows w.unit second (emit i second (k + count a)) _ rest)
        (named_front w.unit (k + count a) (constants i) _ names_i))
        (does n entered third (k + count a + count i) tm (front w.Allows w.unit third (emit m third (k + count a + count i)) _ rest_i)
        (names_behind w.unit i (k + count a) _ names_i))
        (λ new v u x g is of so. does_part w (after_it n new n.known) last line v u x is
        (after_clause w.Allows w.unit m third (k + count a + count i) _ rest_i).0))
    clause_does n entered at k (clause.structure {class = class} {name = name} {args = args} {fields = fields} named text_is targs) h names =
        let whole = node.Make class args in
        let last = at + size_all args in
        let deep : 1 ≤ depth whole = at_least_one 0 (fold_all deepest operand args) in
        to_end w (last + 5) (at + size whole) (omega by_arith)
        (does_args n entered at k (depth whole) 0 (last + 5) [] [] (omega by_arith) (omega by_arith) targs (omega by_arith)
        (front w.Allows w.unit at (emit_all args at k) _ h) (named_front w.unit k (constants_of_all args) _ names) (make_meant class)
        (λ new vs g are held. moved w 1 (depth whole) last (last + 5) (last + 5) (omega by_arith) refl
        (does_make w (after_it n new n.known) last (k + count_all args) class name fields vs named text_is (kinds_of targs) are
        (after_clauses w.Allows w.unit args at k _ h).0 (named_behind w.unit k (k + count_all args) (constants_of_all args) _
        (ap (λ j. k + j) (count_of_all args)) names).0)))
    clause_does n entered at k (clause.get_field {p = e} {class = class} {index = index} {t = t} {line = line} has kind te) h names =
        let whole = node.Field e class index t line in
        to_end w (at + size e + 13) (at + size whole) (omega by_arith)
        (does_one w _ (depth e) 1 (depth whole) at (at + size e) (at + size e + 13) (omega by_arith) (omega by_arith) (leads_of w n te)
        (does n entered at k te (front w.Allows w.unit at (emit e at k) _ h) (named_front w.unit k (constants e) _ names))
        (λ new v g is. does_field w (after_it n new n.known) (at + size e) (k + count e) index line class v kind has is
        (after_clause w.Allows w.unit e at k _ h).0
        (names_behind w.unit e k _ names).0))
    clause_does n entered at k (clause.put_field {p = a} {e = b} {class = class} {index = index} {t = t} {line = line} has kind ta tb) h names =
        let whole = node.SetField a class index t b line in
        let rest = after_clause w.Allows w.unit a at k _ h in
        let names_b = names_behind w.unit a k _ names in
        to_end w (at + size a + size b + 13) (at + size whole) (omega by_arith)
        (does_two w (λ v u. set_field_meant line class index v u) (depth a) (depth b) 1 (depth whole) at (at + size a) (at + size a + size b)
        (at + size a + size b + 13) (omega by_arith) (omega by_arith) (omega by_arith) (leads_of w n ta) (leads_of w n tb)
        (does n entered at k ta (front w.Allows w.unit at (emit a at k) _ h) (named_front w.unit k (constants a) _ names))
        (does n entered (at + size a) (k + count a) tb (front w.Allows w.unit (at + size a) (emit b (at + size a) (k + count a)) _ rest)
        (named_front w.unit (k + count a) (constants b) _ names_b))
        (λ new v u g is of. does_set_field w (after_it n new n.known) (at + size a + size b) (k + count a + count b) index line class v u kind has
        is of
        (after_clause w.Allows w.unit b (at + size a) (k + count a) _ rest).0 (names_behind w.unit b (k + count a) _ names_b).0))
    clause_does n entered at k (clause.filled {l = a} {u = b} {e = e} {t = t} {line = line} kind ta tb te) h names =
        let whole = node.Fill a b e (types.Vector t) line in
        let second = at + size a in
        let third = second + size b in
        let last = third + size e in
        let rest = after_clause w.Allows w.unit a at k _ h in
        let rest_b = after_clause w.Allows w.unit b second (k + count a) _ rest in
        let names_b = names_behind w.unit a k _ names in
        let names_e = names_behind w.unit b (k + count a) _ names_b in
        to_end w (last + 9) (at + size whole) (omega by_arith)
        (does_three w (λ low high v. fill_meant line (type_text (types.Vector t)) low high v) (depth a) (depth b) (depth e) 1 (depth whole) at second
        third last
        (last + 9) (omega by_arith) (omega by_arith) (omega by_arith) (omega by_arith) (leads_of w n ta) (leads_of w n tb) (leads_of w n te)
        (does n entered at k ta (front w.Allows w.unit at (emit a at k) _ h) (named_front w.unit k (constants a) _ names))
        (does n entered second (k + count a) tb (front w.Allows w.unit second (emit b second (k + count a)) _ rest)
        (named_front w.unit (k + count a) (constants b) _ names_b))
        (does n entered third (k + count a + count b) te (front w.Allows w.unit third (emit e third (k + count a + count b)) _ rest_b)
        (named_front w.unit (k + count a + count b) (constants e) _ names_e))
        (λ new v u x g is of so. does_fill w (after_it n new n.known) last (k + count a + count b + count e) line v u x kind so
        (after_clause w.Allows w.unit e third (k + count a + count b) _ rest_b).0 (names_behind w.unit e (k + count a + count b) _ names_e).0))
    clause_does n entered at k (clause.listed {l = a} {items = items} {t = t} {line = line} kind ta titems) h names =
        let whole = node.Elems a items (types.Vector t) line in
        let first = at + size a in
        let last = first + size_all items in
        let of_items = k + count a in
        let deep : 1 ≤ depth whole = at_least_one 0 (operand (depth a) ∷ fold_all deepest operand items) in
        let rest = after_clause w.Allows w.unit a at k _ h in
        let names_items = names_behind w.unit a k _ names in
        to_end w (last + 13) (at + size whole) (omega by_arith)
        (does_then w (λ low. eval_each (context_in w n.turns) items (elements_meant line (type_text (types.Vector t)) low)) (depth a) (depth whole)
        (depth whole) at first
        (last + 13) (omega by_arith) (omega by_arith) (leads_of w n ta)
        (does n entered at k ta (front w.Allows w.unit at (emit a at k) _ h) (named_front w.unit k (constants a) _ names))
        (λ new low g is. does_items (after_it n new n.known) entered first of_items (depth whole) 1 (last + 13) (word_of low ∷ []) [] (omega by_arith)
        (omega by_arith) titems (omega by_arith)
        (front w.Allows w.unit first (emit_all items first of_items) _ rest) (named_front w.unit of_items (constants_of_all items) _ names_items)
        (λ vs. elements_meant line (type_text (types.Vector t)) low vs)
        (λ final vs l are many. moved w 1 (depth whole) last (last + 13) (last + 13) (omega by_arith) refl
        (does_list w (after_it n final n.known) last (of_items + count_all items) line low vs kind are
        (subst (λ (m : ℕ). Stand w last (choice.by_type t (instr.ListM (of_items + count_all items) m line)
        (instr.ListP (of_items + count_all items) m line)))
        (sym many) (after_clauses w.Allows w.unit items first of_items _ rest).0)
        (named_behind w.unit of_items (of_items + count_all items) (constants_of_all items) _ (ap (λ j. of_items + j) (count_of_all items))
        names_items).0))))
    clause_does n entered at k (clause.get_element {v = a} {i = b} {t = t} {line = line} kind ta tb) h names =
        let whole = node.Element a b t line in
        let rest = after_clause w.Allows w.unit a at k _ h in
        to_end w (at + size a + size b + 5) (at + size whole) (omega by_arith)
        (does_two w (λ v u. element_meant line v u) (depth a) (depth b) 1 (depth whole) at (at + size a) (at + size a + size b)
        (at + size a + size b + 5) (omega by_arith) (omega by_arith) (omega by_arith) (leads_of w n ta) (leads_of w n tb)
        (does n entered at k ta (front w.Allows w.unit at (emit a at k) _ h) (named_front w.unit k (constants a) _ names))
        (does n entered (at + size a) (k + count a) tb (front w.Allows w.unit (at + size a) (emit b (at + size a) (k + count a)) _ rest)
        (names_behind w.unit a k _ names))
        (λ new v u g is of. does_element w (after_it n new n.known) (at + size a + size b) line v u kind is
        (after_clause w.Allows w.unit b (at + size a) (k + count a) _ rest).0))
    clause_does n entered at k (clause.put_element {v = a} {i = b} {e = e} {t = t} {line = line} kind ta tb te) h names =
        let whole = node.SetElement a b e t line in
        let second = at + size a in
        let third = second + size b in
        let last = third + size e in
        let rest = after_clause w.Allows w.unit a at k _ h in
        let rest_b = after_clause w.Allows w.unit b second (k + count a) _ rest in
        let names_b = names_behind w.unit a k _ names in
        to_end w (last + 5) (at + size whole) (omega by_arith)
        (does_three w (λ v i x. set_element_meant line v i x) (depth a) (depth b) (depth e) 1 (depth whole) at second third last
        (last + 5) (omega by_arith) (omega by_arith) (omega by_arith) (omega by_arith) (leads_of w n ta) (leads_of w n tb) (leads_of w n te)
        (does n entered at k ta (front w.Allows w.unit at (emit a at k) _ h) (named_front w.unit k (constants a) _ names))
        (does n entered second (k + count a) tb (front w.Allows w.unit second (emit b second (k + count a)) _ rest)
        (named_front w.unit (k + count a) (constants b) _ names_b))
        (does n entered third (k + count a + count b) te (front w.Allows w.unit third (emit e third (k + count a + count b)) _ rest_b)
        (names_behind w.unit b (k + count a) _ names_b))
        (λ new v u x g is of so. does_set_element w (after_it n new n.known) last line v u x kind is so
        (after_clause w.Allows w.unit e third (k + count a + count b) _ rest_b).0))
    clause_does n entered at k (clause.a_bound {v = e} {upper = upper} {t = t} te) h names =
        let whole = node.Bound e upper in
        to_end w (at + size e + 1) (at + size whole) (omega by_arith)
        (does_one w _ (depth e) 1 (depth whole) at (at + size e) (at + size e + 1) (omega by_arith) (omega by_arith) (leads_of w n te)
        (does n entered at k te (front w.Allows w.unit at (emit e at k) _ h) names)
        (λ new v g is. does_bound w (after_it n new n.known) (at + size e) upper t v is (after_clause w.Allows w.unit e at k _ h).0))
    clause_does n entered at k (clause.scan {strings = strings} {a = a} {f = f} {q = q} {s = s} {line = line} refs_fit nums_fit keeps is ta tf) h names =
        let whole = node.Scan strings a f q s line in
        let context = context_in w n.turns in
        let pa = at + size a in
        let pf = pa + 5 + size f in
        let turn = pf + 5 + 5 + 5 + 5 + 5 + 5 + 5 in
        let rest = after_clause w.Allows w.unit a at k _ h in
        let stands = after_clause w.Allows w.unit f (pa + 5) (k + count a) _ rest.1 in
        let begins = stands.1.1.1.1.1.1 in
        let some = some_depth f in
        let same_turn : at + size a + 5 + size f + 5 + 30 ≡ turn = omega by_arith in
        let scan_at : Stand w turn (choice.scan strings q s (turn + 17 + 9 + 9) line)
        = subst (λ (end : ℕ). Stand w turn (choice.scan strings q s end line)) (ap (λ (j : ℕ). j + 17 + 9 + 9) same_turn) begins.1.0 in
        let begin = at + size a + 5 + size f + 5 + 30 in
        let behind_scan : List Instr = instr.Call (if strings then 2 else 1) line ∷ instr.ScanMore s begin ∷ instr.GetM s ∷ [] in
        let calls : Ahead w.Allows w.unit (turn + 17) behind_scan
        = next_of w turn 17 (choice.scan strings q s (begin + 17 + 9 + 9) line) behind_scan (width_scan strings q s (begin + 17 + 9 + 9) line) begins.1 in
        let more_at : Stand w (turn + 17 + 9) (instr.ScanMore s turn) = subst (λ (j : ℕ). Stand w (turn + 17 + 9) (instr.ScanMore s j)) same_turn calls.1.0 in
        to_end w (turn + 17 + 9 + 9 + 5) (at + size whole) (omega by_arith)
        (does_scan w n strings q s (depth whole) (depth a) (depth f) at pa pf line (eval context a) (eval context f) is refs_fit nums_fit (omega by_arith)
        (omega by_arith) (omega by_arith) (leads_of w n ta) (leads_of w n tf)
        (does n entered at k ta (front w.Allows w.unit at (emit a at k) _ h) (named_front w.unit k (constants a) _ names)) rest.0
        (does n entered (pa + 5) (k + count a) tf (front w.Allows w.unit (pa + 5) (emit f (pa + 5) (k + count a)) _ rest.1) (names_behind w.unit a k _ names))
        stands.0 stands.1.0 stands.1.1.0 stands.1.1.1.0 stands.1.1.1.1.0 stands.1.1.1.1.1.0 begins.0 (keeps context)
        (λ heap. record {
          refs_fit = refs_fit;
          nums_fit = nums_fit;
          deep = omega by_arith;
          texts = is.texts;
          ints = is.ints;
          answers = is.answers n.turns (length w.callers) line;
          entered = entered;
          scan_at = scan_at;
          call_at = calls.0;
          more_at = more_at;
          get_at = calls.1.1.0;
        }))

    -- the values of fields, over words that stay, and then what takes them all
    does_args : (n : Origin) (entered : Entered w n.turns) (at k need before end : ℕ) {ts : Nodes} {fields : List Field} {ty : TyView} (bn : List ℤ)
        (br : List Value) →
        length bn ≤ before →
        length br ≤ before → Args w.Body (nums_of w) (refs_of w) n.known ts fields → reaches before (fold_all deepest operand ts) ≤ need →
        Ahead w.Allows w.unit at (emit_all ts at k) → Named w.unit k (constants_of_all ts) → (next : List Value → Meaning) →
        ((new : Heap) (vs : List Value) → Grows n.heap new → AreOf new fields vs → AreLiterals w.Body vs →
        Does w (after_it n new n.known) (pushed_nums fields vs bn) (pushed_refs fields vs br) (next vs) ty need (at + size_all ts) end) →
        Does w n bn br (eval_each (context_in w n.turns) ts next) ty need at end
    does_args n entered at k need before end bn br few_nums few_refs clause.no_arg deep h names next d =
        from_place w (at + 0) at (omega by_arith) (d n.heap [] (grows_not n.heap) tt tt)
    does_args n entered at k need before end bn br few_nums few_refs (clause.one_arg {first = t} {rest = ts} {field = field} kind th tail) deep h names next
        d =
        does_over_held w bn br (λ v. eval_each (context_in w n.turns) ts (λ vs. next (v ∷ vs))) before (depth t) need need at (at + size t) end few_nums
        few_refs
        (omega by_arith) (omega by_arith) (leads_of w n th)
        (does n entered at k th (front w.Allows w.unit at (emit t at k) _ h) (named_front w.unit k (constants t) _ names))
        (λ new v g is literal. does_args (after_it n new n.known) entered (at + size t) (k + count t) need (before + 1) end (nums_left field.ty v ++ bn)
        (refs_left field.ty v ++ br)
        (let e = length-append (nums_left field.ty v) bn in let few = nums_few field.ty v in omega by_arith)
        (let e = length-append (refs_left field.ty v) br in let few = refs_few field.ty v in omega by_arith)
        tail (omega by_arith) (after_clause w.Allows w.unit t at k _ h) (names_behind w.unit t k _ names) (λ vs. next (v ∷ vs))
        (λ final vs l are held. from_place w (at + (size t + size_all ts)) (at + size t + size_all ts) (omega by_arith)
        (d final (v ∷ vs) (grows_then n.heap new final g l) (of_kept fits new final l field.ty v is, are) (literal, held))))

    -- the values of elements
    does_items : (n : Origin) (entered : Entered w n.turns) (at k need before end : ℕ) {ts : Nodes} {of ty : TyView} (bn : List ℤ) (br : List Value) →
        length bn ≤ before →
        length br ≤ before → AllAre w.Body (nums_of w) (refs_of w) n.known of ts → reaches before (fold_all deepest operand ts) ≤ need →
        Ahead w.Allows w.unit at (emit_all ts at k) → Named w.unit k (constants_of_all ts) → (next : List Value → Meaning) →
        ((new : Heap) (vs : List Value) → Grows n.heap new → AllByRecursion (IsOf new of) vs → length vs ≡ items_in ts →
        Does w (after_it n new n.known) (all_nums of vs bn) (all_refs of vs br) (next vs) ty need (at + size_all ts) end) →
        Does w n bn br (eval_each (context_in w n.turns) ts next) ty need at end
    does_items n entered at k need before end bn br few_nums few_refs clause.none_is deep h names next d =
        from_place w (at + 0) at (omega by_arith) (d n.heap [] (grows_not n.heap) tt refl)
    does_items n entered at k need before end {of = of} bn br few_nums few_refs (clause.one_is {first = t} {rest = ts} th tail) deep h names next d =
        does_over w bn br (λ v. eval_each (context_in w n.turns) ts (λ vs. next (v ∷ vs))) before (depth t) need need at (at + size t) end few_nums
        few_refs
        (omega by_arith) (omega by_arith) (leads_of w n th)
        (does n entered at k th (front w.Allows w.unit at (emit t at k) _ h) (named_front w.unit k (constants t) _ names))
        (λ new v g is. does_items (after_it n new n.known) entered (at + size t) (k + count t) need (before + 1) end (nums_left of v ++ bn)
        (refs_left of v ++ br)
        (let e = length-append (nums_left of v) bn in let few = nums_few of v in omega by_arith)
        (let e = length-append (refs_left of v) br in let few = refs_few of v in omega by_arith)
        tail (omega by_arith) (after_clause w.Allows w.unit t at k _ h) (names_behind w.unit t k _ names) (λ vs. next (v ∷ vs))
        (λ final vs l are many. from_place w (at + (size t + size_all ts)) (at + size t + size_all ts) (omega by_arith)
        (d final (v ∷ vs) (grows_then n.heap new final g l) (of_kept fits new final l of v is, are) (omega by_arith))))

    does_all : (n : Origin) (entered : Entered w n.turns) (at k need before : ℕ) {first ty : TyView} {ts : Nodes} (v : Value) →
        Items w.Body (nums_of w) (refs_of w) n.known first ts ty →
        reaches before (fold_all deepest branch ts) ≤ need → Ahead w.Allows w.unit at (emit_all ts at k) → Named w.unit k (constants_of_all ts) →
        Does w n (nums_left first v) (refs_left first v) (eval_all (context_in w n.turns) v ts) ty need at (at + size_all ts)
    does_all n entered at k need before {first = first} v clause.at_end deep h names = to_end w at (at + 0) (omega by_arith) (does_left w n need at first v)
    does_all n entered at k need before v (clause.an_item {next = next} {item = t} {rest = ts} head sounds fit tail) deep h names =
        does_then w {last = next} (λ u. eval_all (context_in w n.turns) u ts) (depth t) need need at (at + size t) (at + (size t + size_all ts))
        (omega by_arith) (omega by_arith)
        (record { falls = falls_in w n.turns t; sound = sounds n.turns (length w.callers) n.heap; holds = holds_in w n.turns t fit })
        (clause_does n entered at k head (front w.Allows w.unit at (emit t at k) _ h) (named_front w.unit k (constants t) _ names))
        (λ new u g is. to_end w (at + size t + size_all ts) (at + (size t + size_all ts)) (omega by_arith)
        (does_all (after_it n new next) entered (at + size t) (k + count t) need (before + 1) u tail (omega by_arith) (after_clause w.Allows w.unit t at k _ h)
        (names_behind w.unit t k _ names)))

    -- the arms, over the value that waits; after them the default
    does_arms : (n : Origin) (entered : Entered w n.turns) (at k need before end : ℕ) {value ty : TyView} {arms : Arms} → IsCompared relation.Equal value →
        (v : Value) (default : Meaning)
        (others : List (Part ℕ)) → ArmsAre w.Body (nums_of w) (refs_of w) n.known value arms ty → IsOf n.heap value v →
        reaches before (fold_arms deepest arms ++ others) ≤ need → Ahead w.Allows w.unit at (emit_arms value end arms at k) →
        Named w.unit k (constants_of_arms arms) → at + size_arms arms < end →
        ((new : Heap) → Grows n.heap new → Does w (after_it n new n.known) (nums_left value v) (refs_left value v) default ty need
        (at + size_arms arms) end) →
        Does w n (nums_left value v) (refs_left value v) (eval_arms (context_in w n.turns) value v arms default) ty need at end
    does_arms n entered at k need before end by v default others clause.no_more is deep h names lt d =
        from_place w (at + 0) at (omega by_arith) (d n.heap (grows_not n.heap))
    does_arms n entered at k need before end {value = value} by v default others (clause.one_arm {labels = labels} {a = a} {rest = rest} tlabels ta trest) is
        deep h names lt d =
        let jump_at = at + size_labels labels in
        let chosen = jump_at + 5 in
        let next = chosen + 1 + size a + 5 in
        let names_a = k + count_all labels in
        let labels_deep = subst (λ (parts : List (Part ℕ)). reaches before parts ≤ need)
        (append_assoc (fold_all deepest label labels) (branch (depth a) ∷ fold_arms deepest rest) others) deep in
        let arm_deep = reaches_behind before need (fold_all deepest label labels) (branch (depth a) ∷ (fold_arms deepest rest ++ others)) labels_deep
        in
        let at_jump = behind w.Allows w.unit at jump_at (emit_labels value chosen labels at k) _ (ap (λ j. at + j) (width_labels labels value chosen at k)) h
        in
        let of_a = next_of w chosen 1 (choice.by_type value instr.DropM instr.DropP) _ (width_by_type 1 value instr.DropM instr.DropP refl refl)
        at_jump.1 in
        let behind_a = after_clause w.Allows w.unit a (chosen + 1) names_a _ of_a in
        let its_names = named_behind w.unit k names_a (constants_of_all labels) _ (ap (λ j. k + j) (count_of_all labels)) names in
        does_labels n entered at k need before chosen end by v
        (λ found. choose (flag_of found) (eval (context_in w n.turns) a) (eval_arms (context_in w n.turns) value v rest default))
        (branch (depth a) ∷ (fold_arms deepest rest ++ others)) tlabels is labels_deep (front w.Allows w.unit at (emit_labels value chosen labels at k) _ h)
        (named_front w.unit k (constants_of_all labels) _ names) (omega by_arith)
        (λ new g. does_chosen w by need (depth a) chosen (chosen + 1 + size a) end v (omega by_arith) at_jump.1.0
        (does (after_it n new n.known) entered (chosen + 1) names_a ta (front w.Allows w.unit (chosen + 1) (emit a (chosen + 1) names_a) _ of_a)
        (named_front w.unit names_a (constants a) _ its_names)) behind_a.0 (omega by_arith))
        (λ new g. jump_does w jump_at next (omega by_arith) at_jump.0
        (does_arms (after_it n new n.known) entered next (names_a + count a) need (before + length (fold_all deepest label labels) + 1) end by v default
        others trest
        (of_kept fits n.heap new g value v is) (omega by_arith) behind_a.1 (names_behind w.unit a names_a _ its_names) (omega by_arith)
        (λ last l. from_place w (at + size_arms (more_arms (arm labels a) rest)) (next + size_arms rest) (omega by_arith)
        (d last (grows_then n.heap new last g l)))))

    -- the labels, and then what follows
    does_labels : (n : Origin) (entered : Entered w n.turns) (at k need before chosen end : ℕ) {value ty : TyView} {labels : Nodes} →
        IsCompared relation.Equal value → (v : Value)
        (next : Value → Meaning) (others : List (Part ℕ)) → AllAre w.Body (nums_of w) (refs_of w) n.known value labels → IsOf n.heap value v →
        reaches before (fold_all deepest label labels ++ others) ≤ need →
        Ahead w.Allows w.unit at (emit_labels value chosen labels at k) → Named w.unit k (constants_of_all labels) → at + size_labels labels < chosen →
        ((new : Heap) → Grows n.heap new → Does w (after_it n new n.known) (nums_left value v) (refs_left value v) (next (Flag true)) ty need chosen
        end) →
        ((new : Heap) → Grows n.heap new →
        Does w (after_it n new n.known) (nums_left value v) (refs_left value v) (next (Flag false)) ty need (at + size_labels labels) end) →
        Does w n (nums_left value v) (refs_left value v) (eval_labels (context_in w n.turns) value v labels >>= next) ty need at end
    does_labels n entered at k need before chosen end by v next others clause.none_is is deep h names lt found missed =
        does_same w _ (λ f s. refl) (from_place w (at + 0) at (omega by_arith) (missed n.heap (grows_not n.heap)))
    does_labels n entered at k need before chosen end {value = value} by v next others (clause.one_is {first = l} {rest = rest} tl trest) is deep h names lt
        found missed =
        let label_at = at + 1 in
        let q = label_at + size l in
        let behind_test = instr.JumpTrue chosen ∷ emit_labels value chosen rest (q + 1 + 5) (k + count l) in
        let behind_label = choice.compare relation.Equal value ∷ behind_test in
        let of_label = next_of w at 1 (choice.by_type value instr.DupM instr.DupP) (emit l label_at k ++ behind_label)
        (width_by_type 1 value instr.DupM instr.DupP refl refl) h in
        let rest_l = after_clause w.Allows w.unit l label_at k behind_label of_label in
        let at_jump = next_of w q 1 (choice.compare relation.Equal value) behind_test (width_compare relation.Equal value) rest_l in
        does_label w by need (depth l) at q chosen end v (eval (context_in w n.turns) l) (eval_labels (context_in w n.turns) value v rest) next
        (omega by_arith) is
        (leads_of w n tl) h.0
        (does n entered label_at k tl (front w.Allows w.unit label_at (emit l label_at k) _ of_label) (named_front w.unit k (constants l) _ names))
        rest_l.0 at_jump.0 (omega by_arith) found
        (λ new g. does_labels (after_it n new n.known) entered (q + 1 + 5) (k + count l) need (before + 1) chosen end by v next others trest
        (of_kept fits n.heap new g value v is) (omega by_arith) at_jump.1 (names_behind w.unit l k _ names) (omega by_arith)
        (λ last l2. found last (grows_then n.heap new last g l2))
        (λ last l2. from_place w (at + size_labels (more l rest)) (q + 1 + 5 + size_labels rest) (omega by_arith)
        (missed last (grows_then n.heap new last g l2))))
