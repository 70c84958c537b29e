-- Fit clauses are such as the machine does, where their slots are apart and among its locals, and their bodies fit.
use Rattle.std.proofs.Common.{◌≡◌, ◌≢◌, ℕ, suc, ◌+◌, ◌<◌, ◌≤◌, Bool, true, false, not as isnt_so, List, [], ◌∷◌, ◌++◌, length, length-append, Option, Some, None, inl, inr, refl, sym, ◌∙◌, ap, subst, append_assoc, arith as by_arith}
use Rattle.std.specs.Prelude.{codes, if◌then◌else◌}
use Rattle.std.specs.List.{AllByRecursion}
use Rattle.ps_gen.specs.ps_base.TyView.{TyView, TyViews}
use Rattle.ps_gen.specs.ps_base.TyView as types
use Rattle.ps_gen.specs.ps_base.declared.line.Line.{Line}
use Rattle.ps_gen.specs.ps_program.declared.place.Place.{Place}
use Rattle.ps_gen.specs.ps_program.declared.place.Place.TheVariants.{Plain, Kept}
use Rattle.ps_gen.specs.ps_program.Node.{Param, Node, Nodes, none, more, Arms, no_arms, more_arms, arm, BodyNode, body}
use Rattle.ps_gen.specs.ps_program.Node as node
use Rattle.ps_typing_laws.specs.ps_typing.Checking.{isnt_void}
use Rattle.ps_typing_laws.specs.ps_typing.Names.{lookup, plain, library}
use Rattle.ps_typing_laws.specs.ps_typing.Library.{procedures, caller, two}
use Rattle.ps_type_text.specs.Texts.{Field, class_text}
use Rattle.ps_typing_laws.specs.ps_typing.Placing.{is_number}
use Rattle.ps_typing_laws.specs.ps_typing.WellTyped.{At, IsOfType, Some_is, Local, IsLocal, Claim, ◌has◌, all_have, arms_have, types_of_fields, IsClass, Arguments, Rule}
use Rattle.ps_typing_laws.specs.ps_typing.WellTyped as typed
use Rattle.ps_typing_laws.specs.Counted.{Each}
use Rattle.ps_typing_laws.proofs.Tracked.{clauses_of, item_nodes}
use Rattle.ps_stepping.specs.ps_heap.Objects.{Heap}
use Rattle.ps_stepping.specs.ps_heap.Values.{Num}
use Rattle.ps_stepping.specs.ps_heap.Library.{CreateDatabase, OpenDatabase, Commit, MakeTable, EnterString, LookUpString, EnterInt, LookUpInt, Cardinality, LibraryProcedure, OnHeap, ReadLine, AtEnd, Length, IntText}
use Rattle.ps_stepping.specs.ps_meaning.Meaning.{Frame}
use Rattle.ps_stepping.specs.ps_meaning.Evaluation.{eval}
use Rattle.ps_stepping.specs.ps_meaning.Calls.{context}
use Rattle.ps_soundness.specs.Running.{HasAsMany, IsScopeText}
use Rattle.ps_soundness.specs.Valued.{IsValued, AllValued}
use Rattle.ps_soundness.proofs.Telling.{Told}
use Rattle.ps_soundness.proofs.Places.{IsSpare, spare_slot}
use Rattle.ps_soundness.proofs.Combining.{sound_then, sound_set, narrowed}
use Rattle.ps_soundness.proofs.Reading.{same_types}
use Rattle.ps_soundness.proofs.Sequences.{all_left, all_right}
use Rattle.ps_soundness.proofs.Library.{parameters_of, library_says}
use Rattle.ps_soundness.proofs.Rules.{as_many}
use Rattle.ps_soundness.proofs.Calling.{sound_call}
use Rattle.ps_soundness.proofs.Scans.{key_type}
use Rattle.ps_soundness.proofs.Valued.{field_valued}
use Rattle.heap_fit.specs.Slots.{from, slot_on, params_on, slots_of}
use Rattle.heap_fit.specs.Bodies.{Level, InScope, HasDeclared, IsNameAt, with_levels, Opens, Declares, Takes, NamesWell, AreApart, HasSlots, IsFit, AreFit, AreItems}
use Rattle.heap_fit.specs.Bodies as fit
use Rattle.heap_fit.proofs.InOrder.{slots, append_slots}
use Rattle.fit_soundness.specs.Levels.{HasRoom}
use Rattle.fit_soundness.proofs.Rooms.{Taken, joint, room_left, room_right, room_as, room_skip, slot_here, three_has, three_spare}
use Rattle.fit_soundness.proofs.Levels.{fits}
use Rattle.fit_soundness.proofs.Standings.{Standing, IsStanding, in_levels, stand, sound_set_local, sound_scope}
use Rattle.fit_soundness.proofs.Declaring.{declares_sound, declares_less, declares_room, literal_sound}
use Rattle.fit_soundness.proofs.Clauses.{of_clause, of_clauses, sound}
use Rattle.fit_soundness.proofs.Bodies.{within_answers, tree_room}
use Rattle.ps_code_laws.specs.Literals.{BodiesAre, AllBodiesAre}
use Rattle.ps_code_laws.proofs.Known.{HasPlace, next_place}
use Rattle.ps_code_laws.proofs.Shares.{Shared, three_nums, control_slots, scan_slots, rule_has, set_has, block_has, loop_has, first_three_have, fourth_has, scan_has, let_has}
use Rattle.ps_code_laws.proofs.Keeps.{on_nums, on_refs, Keeps, KeepClaim, each_left, each_right, apart_from, Unnamed, declared_unnamed, keeps, keeps_each}
use Rattle.ps_code_laws.proofs.Counting.{from_long}
use Rattle.ps_code_laws.proofs.LibraryResults.{result_is}
use Rattle.ps_code_laws.proofs.Giving.{Stands, parts_stand, GivesClaim, gives_each}
use Rattle.ps_code_laws.proofs.Clauses as clause_of
use Rattle.ps_code_laws.proofs.Clauses.{IsNum, int, bool, IsRef, str, pntr, vector, proc, Kind, of_num, of_ref, IsLoop, Sounds, KeepsTypes, Controls, TurnsIn, IsControl, by_local, by_scope, IsScan, fields_by, Clause, flag, text, get_num, get_ref, set_num, set_ref, let_num, let_ref, empty, block, if_do, if_else, while, repeat, loop, scoped_loop, case, and, or, not, neg, plus, arith, compare, write, write_wide, abort, nil, a_class, is_of, join, substring, structure, get_field, put_field, filled, listed, get_element, put_element, a_bound, scan, get_kept_num, get_kept_ref, set_kept_num, set_kept_ref, let_kept_num, let_kept_ref, scoped_block, literal, let_literal, let_kept_literal, call, Part, that, Items, at_end, an_item, ArmsAre, no_more, one_arm, AllAre, none_is, one_is, Args, no_arg, one_arg, clause_in, sounds_in, is_shown, kind_of, equal_by, compared}

-- a local of a type that isn't void, on the stack of its type
pub data IsSlot (nums refs slot : ℕ) (ty : TyView) : Type 0 where
  in_nums : IsNum ty → slot < nums → IsSlot nums refs slot ty
  in_refs : IsRef ty → slot < refs → IsSlot nums refs slot ty

num_is : {ty : TyView} → IsNum ty → is_number ty ≡ true
num_is int = refl
num_is bool = refl

ref_is : {ty : TyView} → IsRef ty → is_number ty ≡ false
ref_is str = refl
ref_is pntr = refl
ref_is vector = refl
ref_is proc = refl

-- how many locals a stack has
abbrev pub most_on : ℕ → ℕ → Bool → ℕ
most_on nums refs numbers = if numbers then nums else refs

slot_by_kind : (nums refs slot : ℕ) (ty : TyView) → slot < most_on nums refs (is_number ty) → Kind ty → IsSlot nums refs slot ty
slot_by_kind nums refs slot ty below (of_num is) = in_nums is (subst (λ (numbers : Bool). slot < most_on nums refs numbers) (num_is is) below)
slot_by_kind nums refs slot ty below (of_ref is) = in_refs is (subst (λ (numbers : Bool). slot < most_on nums refs numbers) (ref_is is) below)

-- Slots that are apart from one another and from those of the names in scope, where all of them are among so many locals on each stack.
pub record Placed (nums refs : ℕ) (locals : List Local) (taken : Taken) : Type 0 where
  pub room : HasRoom locals taken
  pub below : (numbers : Bool) → AllByRecursion (λ (slot : ℕ). slot < most_on nums refs numbers) (taken numbers)
  pub named : AllByRecursion (λ (local : Local). local.slot < most_on nums refs (is_number local.ty)) locals

all_append : {A : Type 0} (P : A → Type 0) (xs ys : List A) → AllByRecursion P xs → AllByRecursion P ys → AllByRecursion P (xs ++ ys)
all_append P [] ys h k = k
all_append P (x ∷ xs) ys h k = (h.0, all_append P xs ys h.1 k)

abbrev pub placed : (nums refs : ℕ) → List Local → Shared
placed nums refs locals = record {
  Has = Placed nums refs locals;
  left = λ first rest h. record {
    room = room_left first rest h.room;
    below = λ numbers. all_left (λ (slot : ℕ). slot < most_on nums refs numbers) (first numbers) (rest numbers) (h.below numbers);
    named = h.named;
  };
  right = λ first rest h. record {
    room = room_right first rest h.room;
    below = λ numbers. all_right (λ (slot : ℕ). slot < most_on nums refs numbers) (first numbers) (rest numbers) (h.below numbers);
    named = h.named;
  };
  like = λ taken other same h. record {
    room = room_as taken other same h.room;
    below = λ numbers. subst (AllByRecursion (λ (slot : ℕ). slot < most_on nums refs numbers)) (same numbers) (h.below numbers);
    named = h.named;
  };
}

-- without those between
placed_skip : (nums refs : ℕ) (locals : List Local) (first between rest : Taken) → Placed nums refs locals (joint first (joint between rest)) →
    Placed nums refs locals (joint first rest)
placed_skip nums refs locals first between rest h = record {
  room = room_skip first between rest h.room;
  below = λ numbers.
      let Below : ℕ → Type 0 = λ slot. slot < most_on nums refs numbers in
      let after = all_right Below (first numbers) (between numbers ++ rest numbers) (h.below numbers) in
      all_append Below (first numbers) (rest numbers) (all_left Below (first numbers) (between numbers ++ rest numbers) (h.below numbers))
      (all_right Below (between numbers) (rest numbers) after);
  named = h.named;
}

-- the slot of a name that is declared, and of one in scope
own_below : (nums refs slot : ℕ) (ty : TyView) (rest : Taken) {locals : List Local} →
    Placed nums refs locals (joint (λ numbers. slot_on numbers ty (Plain slot)) rest) → slot < most_on nums refs (is_number ty)
own_below nums refs slot ty rest h =
    let Below : ℕ → Type 0 = λ other. other < most_on nums refs (is_number ty) in
    (subst (AllByRecursion Below) (slot_here ty slot)
    (all_left Below (slot_on (is_number ty) ty (Plain slot)) (rest (is_number ty)) (h.below (is_number ty)))).0

name_below : (nums refs slot : ℕ) (ty : TyView) (locals : List Local) → Some_is (IsLocal slot ty) locals →
    AllByRecursion (λ (local : Local). local.slot < most_on nums refs (is_number local.ty)) locals → slot < most_on nums refs (is_number ty)
name_below nums refs slot ty [] found h = absurd found
name_below nums refs slot ty (local ∷ locals) (inl is) h =
    subst (λ (t : TyView). slot < most_on nums refs (is_number t)) is.1
    (subst (λ (n : ℕ). n < most_on nums refs (is_number local.ty)) is.0 h.0)
name_below nums refs slot ty (local ∷ locals) (inr found) h = name_below nums refs slot ty locals found h.1

-- what comes after a name is placed where the name is in scope
declares_placed : (nums refs : ℕ) {scope : Option (List ℕ)} {env own : InScope} {place : Place} {ty : TyView} (rest : Taken) → Declares scope env place ty own →
    Placed nums refs env.locals (joint (λ numbers. slot_on numbers ty place) rest) → Placed nums refs own.locals rest
declares_placed nums refs rest (fit.as_local {own = scope} {env = env} {slot = slot} {ty = ty}) h = record {
  room = declares_room rest (fit.as_local {own = scope} {env = env} {slot = slot} {ty = ty}) h.room;
  below = ((placed nums refs env.locals).right (λ numbers. slot_on numbers ty (Plain slot)) rest h).below;
  named = (own_below nums refs slot ty rest h, h.named);
}
declares_placed nums refs rest (fit.as_kept {env = env} {position = position} {ty = ty} level around is at) h =
    (placed nums refs env.locals).right (λ numbers. slot_on numbers ty (Kept 0 position)) rest h

-- those of the control of a loop, and of what is repeated
turn_placed : (nums refs : ℕ) (locals : List Local) (slot : ℕ) (control : Place) (a b c s : Node) →
    Placed nums refs locals (joint (joint (three_nums slot) (control_slots control)) (of_clauses (a ∷ b ∷ c ∷ s ∷ []))) →
    Placed nums refs locals (joint (control_slots control) (of_clause s))
turn_placed nums refs locals slot control a b c s h =
    let own = control_slots control in
    let three = three_nums slot in
    let last = of_clauses (s ∷ []) in
    let shared = placed nums refs locals in
    let parted = shared.like (joint (joint three own) (of_clauses (a ∷ b ∷ c ∷ s ∷ []))) (joint (joint three own) (joint (of_clauses (a ∷ b ∷ c ∷ [])) last))
    (λ numbers. ap (λ xs. (three numbers ++ own numbers) ++ xs) (append_slots numbers (a ∷ b ∷ c ∷ []) (s ∷ []))) h in
    let skipped = placed_skip nums refs locals (joint three own) (of_clauses (a ∷ b ∷ c ∷ [])) last parted in
    let after = shared.right three (joint own last)
    (shared.like (joint (joint three own) last) (joint three (joint own last)) (λ numbers. append_assoc (three numbers) (own numbers) (last numbers)) skipped) in
    shared.left (joint own (of_clause s)) (λ numbers. [])
    (shared.like (joint own last) (joint (joint own (of_clause s)) (λ numbers. [])) (λ numbers. sym (append_assoc (own numbers) (slots numbers s) [])) after)

-- The clause of a body is placed after its parameters.

room_after : (b : Bool) (nums refs nums_most refs_most n r : ℕ) → nums + ((if b then 1 else 0) + n) ≤ nums_most →
    refs + ((if isnt_so b then 1 else 0) + r) ≤ refs_most →
    ((if b then nums + 1 else nums) + n ≤ nums_most) × ((if b then refs else refs + 1) + r ≤ refs_most)
    × ((if b then nums else refs) < (if b then nums_most else refs_most))
room_after true nums refs nums_most refs_most n r h k = (omega by_arith, omega by_arith, omega by_arith)
room_after false nums refs nums_most refs_most n r h k = (omega by_arith, omega by_arith, omega by_arith)

-- the names of parameters are among the locals
params_named : (nums_most refs_most : ℕ) {scope : Option (List ℕ)} {env last : InScope} {nums refs : ℕ} {params : List Param} →
    Takes scope env nums refs params last → nums + params_on true params ≤ nums_most → refs + params_on false params ≤ refs_most →
    AllByRecursion (λ (local : Local). local.slot < most_on nums_most refs_most (is_number local.ty)) env.locals →
    AllByRecursion (λ (local : Local). local.slot < most_on nums_most refs_most (is_number local.ty)) last.locals
params_named nums_most refs_most fit.Takes.no_more n r h = h
params_named nums_most refs_most (fit.Takes.as_local {nums = nums} {refs = refs} {slot = slot} {ty = ty} {rest = rest} e takes) n r h =
    let room = room_after (is_number ty) nums refs nums_most refs_most (params_on true rest) (params_on false rest) n r in
    params_named nums_most refs_most takes room.0 room.1
    (subst (λ (at : ℕ). at < most_on nums_most refs_most (is_number ty)) (sym e) room.2, h)
params_named nums_most refs_most (fit.Takes.as_kept {nums = nums} {refs = refs} {ty = ty} {rest = rest} (fit.as_kept level around is at) takes) n r h =
    let room = room_after (is_number ty) nums refs nums_most refs_most (params_on true rest) (params_on false rest) n r in
    params_named nums_most refs_most takes room.0 room.1 h

params_few : (numbers : Bool) (params : List Param) (tree : Node) → params_on numbers params ≤ length (from 0 (params_on numbers params) ++ slots numbers tree)
params_few numbers params tree =
    let whole = length-append (from 0 (params_on numbers params)) (slots numbers tree) in
    let first = from_long 0 (params_on numbers params) in omega by_arith

-- in a frame that has as many locals as the slots of the body
pub tree_placed : (nums refs : ℕ) {inside : List Level} {env : InScope} {params : List Param} {gives : TyView} {tree : Node} {text : Option (List ℕ)} {line : Line} →
    Takes text (record { locals = []; levels = inside }) 0 0 params env → HasSlots (body params gives tree text line) →
    length (slots_of true (body params gives tree text line)) ≡ nums → length (slots_of false (body params gives tree text line)) ≡ refs →
    Placed nums refs env.locals (of_clause tree)
tree_placed nums refs {env = env} {params = params} {gives = gives} {tree = tree} {text = scope} {line = line} takes slots_are nums_are refs_are =
    let few_nums = params_few true params tree in
    let few_refs = params_few false params tree in
    record { room = tree_room takes slots_are; below = below; named = params_named nums refs takes (omega by_arith) (omega by_arith) tt }
  where
    below : (numbers : Bool) → AllByRecursion (λ (slot : ℕ). slot < most_on nums refs numbers) (of_clause tree numbers)
    below true = subst (λ (n : ℕ). AllByRecursion (λ (slot : ℕ). slot < n) (slots true tree)) nums_are
        (all_right (λ (slot : ℕ). slot < length (slots_of true (body params gives tree scope line))) (from 0 (params_on true params)) (slots true tree) slots_are.nums_in)
    below false = subst (λ (n : ℕ). AllByRecursion (λ (slot : ℕ). slot < n) (slots false tree)) refs_are
        (all_right (λ (slot : ℕ). slot < length (slots_of false (body params gives tree scope line))) (from 0 (params_on false params)) (slots false tree) slots_are.refs_in)

-- slots that are apart: each of the first is apart from all of the others
cross : (xs ys : List ℕ) → AreApart (xs ++ ys) → AllByRecursion (λ (x : ℕ). AllByRecursion (λ (y : ℕ). y ≢ x) ys) xs
cross [] ys h = tt
cross (x ∷ xs) ys h = (all_right (λ (y : ℕ). y ≢ x) xs ys h.0, cross xs ys h.1)

-- however many turns may be left and calls are round it, and from each heap on, a clause yields a value of its type
sounds_inside : {env : InScope} {t : Node} {ty : TyView} (told : Told) → IsFit env t ty → HasRoom env.locals (of_clause t) → Sounds (stand env) (stand env) t ty
sounds_inside told is room n depth heap = sound told is room (context n depth) (within_answers told n (suc depth)) heap

-- the place of a name in scope
name_place : (levels : List Level) (up position : ℕ) (ty : TyView) → At (HasDeclared position ty) levels up →
    At (λ (level : Level). At (IsOfType ty) level.names position) levels up
name_place [] up position ty at = absurd at
name_place (level ∷ levels) up position ty (inl at) = inl (at.0, at.1.0)
name_place (level ∷ levels) up position ty (inr (before, e, at)) = inr (before, e, name_place levels before position ty at)

declared_place : (env : InScope) (up position : ℕ) (ty : TyView) → IsNameAt env (Kept up position) ty → HasPlace (stand env) up position ty
declared_place env up position ty at = record { levels = env.levels; are = refl; at = name_place env.levels up position ty at }

-- the type of a literal is that of a procedure
literal_ref : {env : InScope} {of : BodyNode} {ty : TyView} → IsFit env (node.Proc of) ty → IsRef ty
literal_ref (fit.literal is_body) = proc
literal_ref (fit.by_rule rule names parts) = elim rule [ ]

module _ (told : Told) (P : BodyNode → Type 0) (nums refs : ℕ) where
  got : {known : Standing} (slot : ℕ) (ty : TyView) → IsSlot nums refs slot ty → Clause P nums refs known (node.Name (Plain slot) ty) ty
  got slot ty (in_nums is below) = get_num is below
  got slot ty (in_refs is below) = get_ref is below

  stored : {known : Standing} (slot : ℕ) (ty : TyView) (e : Node) → IsSlot nums refs slot ty → Part P nums refs known e ty →
      Clause P nums refs known (node.SetName (Plain slot) ty e) types.Void
  stored slot ty e (in_nums is below) h = set_num is below h
  stored slot ty e (in_refs is below) h = set_ref is below h

  named : {known : Standing} (slot : ℕ) (ty : TyView) (e : Node) → IsSlot nums refs slot ty → Part P nums refs known e ty →
      Clause P nums refs known (node.Let (Plain slot) ty e) types.Void
  named slot ty e (in_nums is below) h = let_num is below h
  named slot ty e (in_refs is below) h = let_ref is below h

  -- a name that a scope keeps
  kept_got : {known : Standing} (up position : ℕ) (ty : TyView) → Kind ty → HasPlace known up position ty →
      Clause P nums refs known (node.Name (Kept up position) ty) ty
  kept_got up position ty (of_num is) there = get_kept_num is there
  kept_got up position ty (of_ref is) there = get_kept_ref is there

  kept_stored : {known : Standing} (up position : ℕ) (ty : TyView) (e : Node) → Kind ty → HasPlace known up position ty → Part P nums refs known e ty →
      Clause P nums refs known (node.SetName (Kept up position) ty e) types.Void
  kept_stored up position ty e (of_num is) there h = set_kept_num is there h
  kept_stored up position ty e (of_ref is) there h = set_kept_ref is there h

  kept_named : {known : Standing} (up position : ℕ) (ty : TyView) (e : Node) → Kind ty → HasPlace known up position ty → Part P nums refs known e ty →
      Clause P nums refs known (node.Let (Kept up position) ty e) types.Void
  kept_named up position ty e (of_num is) there h = let_kept_num is there h
  kept_named up position ty e (of_ref is) there h = let_kept_ref is there h

  abbrev IsPart : Standing → Claim → Type 0
  IsPart known claim = Part P nums refs known claim.clause claim.ty

  all_are : {known : Standing} (value : TyView) (labels : Nodes) → Each (IsPart known) (all_have value labels) →
      AllAre P nums refs known value labels
  all_are value none h = none_is
  all_are value (more label rest) h = one_is h.0 (all_are value rest h.1)

  arms_are : {known : Standing} (value ty : TyView) (arms : Arms) → Each (IsPart known) (arms_have value ty arms) →
      ArmsAre P nums refs known value arms ty
  arms_are value ty no_arms h = no_more
  arms_are {known = known} value ty (more_arms (arm labels a) rest) h =
      let behind_labels = each_right (IsPart known) (all_have value labels) (a has ty ∷ arms_have value ty rest) h in
      one_arm (all_are value labels (each_left (IsPart known) (all_have value labels) (a has ty ∷ arms_have value ty rest) h)) behind_labels.0
      (arms_are value ty rest behind_labels.1)

  -- the arguments of a structure are its fields'
  args_are : {known : Standing} {args : Nodes} {tys : TyViews} {claims : List Claim} (fields : List Field) → Arguments args tys claims →
      tys ≡ types_of_fields fields → AllByRecursion (λ (field : Field). IsValued field.ty) fields → Each (IsPart known) claims →
      Args P nums refs known args fields
  args_are [] typed.Arguments.no_more e holds h = no_arg
  args_are (field ∷ fields) typed.Arguments.no_more e holds h = absurd cc
  args_are [] (typed.Arguments.one_more rest) e holds h = absurd cc
  args_are {known = known} (field ∷ fields) (typed.Arguments.one_more {n = n} {t = t} {ts = ts} rest) e holds h =
      let same : t ≡ field.ty = cc in
      let others : ts ≡ types_of_fields fields = cc in
      one_arg (kind_of field.ty holds.0) (subst (λ (u : TyView). Part P nums refs known n u) same h.0) (args_are fields rest others holds.1 h.1)

  make_is : {known : Standing} {args : Nodes} {tys : TyViews} {claims : List Claim} (class : List ℕ) → HasAsMany class args → IsClass class tys →
      Arguments args tys claims → Each (IsPart known) claims → Clause P nums refs known (node.Make class args) types.Pntr
  make_is class many (name, others, text_is, tys_are) are h =
      let of = many.class in
      let same = same_types told of.name name of.fields others of.named (as_many of.fields others are many.are tys_are) (sym of.text_is ∙ text_is) in
      structure of.named of.text_is (args_are of.fields are (tys_are ∙ sym same) of.valued h)

  fields_are : (tys : TyViews) → tys ≡ types_of_fields (fields_by tys)
  fields_are types.none = refl
  fields_are (types.more ty rest) = ap (types.more ty) (fields_are rest)

  fields_valued : (tys : TyViews) → AllValued tys → AllByRecursion (λ (field : Field). IsValued field.ty) (fields_by tys)
  fields_valued types.none h = tt
  fields_valued (types.more ty rest) h = (h.0, fields_valued rest h.1)

  parameters_valued : (of : LibraryProcedure) → AllValued (parameters_of of)
  parameters_valued (OnHeap CreateDatabase) = (tt, (tt, tt))
  parameters_valued (OnHeap OpenDatabase) = (tt, (tt, (tt, tt)))
  parameters_valued (OnHeap Commit) = tt
  parameters_valued (OnHeap MakeTable) = tt
  parameters_valued (OnHeap EnterString) = (tt, (tt, (tt, tt)))
  parameters_valued (OnHeap LookUpString) = (tt, (tt, tt))
  parameters_valued (OnHeap EnterInt) = (tt, (tt, (tt, tt)))
  parameters_valued (OnHeap LookUpInt) = (tt, (tt, tt))
  parameters_valued (OnHeap Cardinality) = (tt, tt)
  parameters_valued ReadLine = tt
  parameters_valued AtEnd = tt
  parameters_valued Length = (tt, tt)
  parameters_valued IntText = (tt, tt)

  lib_is : {known : Standing} {args : Nodes} {tys : TyViews} {ty : TyView} {claims : List Claim} (code : ℕ) (line : Line) (name : List ℕ) →
      lookup procedures name ≡ Some (library (plain code tys ty)) → Arguments args tys claims → Each (IsPart known) claims →
      Clause P nums refs known (node.Lib code args line) ty
  lib_is {known = known} {args = args} {tys = tys} {ty = ty} code line name found are h =
      let told = library_says code tys ty name found in
      clause_of.library {of = told.of} (record { by_number = told.by_number; gives = told.gives_it; result = result_is code tys ty name found })
      (subst (λ (ts : TyViews). Args P nums refs known args (fields_by ts)) told.takes
      (args_are (fields_by tys) are (fields_are tys) (fields_valued tys (subst AllValued (sym told.takes) (parameters_valued told.of))) h))

  by_rule : {known : Standing} {t : Node} {claims : List Claim} {ty : TyView} → Rule t claims ty → NamesWell t → AllByRecursion (GivesClaim P) claims →
      Each (IsPart known) claims → Clause P nums refs known t ty
  by_rule typed.int is given h = int
  by_rule typed.flag is given h = flag
  by_rule typed.text is given h = text
  by_rule typed.nil is given h = nil
  by_rule typed.class is given h = a_class
  by_rule typed.empty is given h = empty
  by_rule typed.abort is given h = abort
  by_rule typed.if_do is given h = if_do h.0 h.1.0
  by_rule typed.if_else is given h = if_else h.0 h.1.0 h.1.1.0
  by_rule typed.while is given h = while h.0 h.1.0
  by_rule typed.repeat is given h = repeat h.0 h.1.0 h.1.1.0
  by_rule {known = known} (typed.case {d = d} {arms = arms} {value = value} {t = t} ok) is given h =
      let behind_arms = each_right (IsPart known) (arms_have value t arms) (d has t ∷ []) h.1 in
      case (equal_by value ok) h.0 (arms_are value t arms (each_left (IsPart known) (arms_have value t arms) (d has t ∷ []) h.1)) behind_arms.0
  by_rule typed.and is given h = and h.0 h.1.0
  by_rule typed.or is given h = or h.0 h.1.0
  by_rule typed.not is given h = not h.0
  by_rule typed.neg is given h = neg h.0
  by_rule typed.plus is given h = plus h.0
  by_rule typed.arith is given h = arith h.0 h.1.0
  by_rule (typed.compare {op = op} {t = t} ok) is given h = compare (compared op t ok) h.0 h.1.0
  by_rule (typed.is of_class) is_run given h = is_of h.0
  by_rule typed.join is given h = join h.0 h.1.0
  by_rule typed.part is given h = substring h.0 h.1.0 h.1.1.0
  by_rule (typed.make {class = class} of_class are) is given h = make_is class is of_class are h
  by_rule (typed.field {class = class} {index = index} {t = t} is_field) is given h =
      get_field is (kind_of t (field_valued class index t is)) h.0
  by_rule (typed.set_field {class = class} {index = index} {t = t} is_field) is given h =
      put_field is (kind_of t (field_valued class index t is)) h.0 h.1.0
  by_rule (typed.fill {t = t} isnt) is given h = filled (kind_of t is) h.0 h.1.0 h.1.1.0
  by_rule (typed.elems {items = items} {t = t}) is given h = listed (kind_of t is) h.0 (all_are t items h.1)
  by_rule (typed.element {t = t}) is given h = get_element (kind_of t given.0) h.0 h.1.0
  by_rule (typed.set_element {t = t}) is given h = put_element (kind_of t given.0) h.0 h.1.0 h.1.1.0
  by_rule typed.bound is given h = a_bound h.0
  by_rule (typed.call {tys = tys} are) is given h =
      call h.0 (args_are (fields_by tys) are (fields_are tys) (fields_valued tys given.0.0) h.1)
  by_rule (typed.lib {code = code} {line = line} of_library are) is given h = lib_is code line of_library.0 of_library.1 are h
  by_rule (typed.write {t = t} ok) is given h = write (is_shown t ok) h.0
  by_rule (typed.write_wide {t = t} ok) is given h = write_wide (is_shown t ok) h.0 h.1.0

  as_part : {env : InScope} {t : Node} {ty : TyView} → IsFit env t ty → BodiesAre P IsValued t → Placed nums refs env.locals (of_clause t) →
      Clause P nums refs (stand env) t ty → Part P nums refs (stand env) t ty
  as_part is b at h = that h (sounds_inside told is at.room) b

  let_is : {scope : Option (List ℕ)} {env own : InScope} {place : Place} {of : TyView} (e : Node) (after : Taken) → Declares scope env place of own →
      IsValued of → Placed nums refs env.locals (joint (λ numbers. slot_on numbers of place) after) → Part P nums refs (stand env) e of →
      Clause P nums refs (stand env) (node.Let place of e) types.Void
  let_is e after (fit.as_local {slot = slot} {ty = ty}) valued at h =
      named slot ty e (slot_by_kind nums refs slot ty (own_below nums refs slot ty after at) (kind_of ty valued)) h
  let_is e after (fit.as_kept {env = env} {position = position} {ty = ty} level around is there) valued at h =
      kept_named 0 position ty e (kind_of ty valued) (next_place env.locals env.levels position ty is there) h

  literal_is_let : {scope : Option (List ℕ)} {env own : InScope} {place : Place} {of : TyView} (p : BodyNode) (after : Taken) → Declares scope env place of own →
      IsRef of → Placed nums refs env.locals (joint (λ numbers. slot_on numbers of place) after) →
      Clause P nums refs (stand env) (node.Let place of (node.Proc p)) types.Void
  literal_is_let p after (fit.as_local {slot = slot} {ty = ty}) ref at =
      let_literal ref (subst (λ (numbers : Bool). slot < most_on nums refs numbers) (ref_is ref) (own_below nums refs slot ty after at))
  literal_is_let p after (fit.as_kept {env = env} {position = position} {ty = ty} level around is there) ref at =
      let_kept_literal ref (next_place env.locals env.levels position ty is there)

  let_sounds : {scope : Option (List ℕ)} {env own : InScope} {place : Place} {of : TyView} (e : Node) (after : Taken) → Declares scope env place of own →
      isnt_void of ≡ true → HasRoom env.locals (joint (λ numbers. slot_on numbers of place) after) → Sounds (stand env) (stand env) e of →
      Sounds (stand env) (stand own) (node.Let place of e) types.Void
  unfolding eval
  let_sounds e after declares isnt room h n depth heap =
      sound_then in_levels (h n depth heap) (λ new v g is. declares_sound told after declares isnt room new v is)

  literal_sounds : {scope : Option (List ℕ)} {env own : InScope} {place : Place} {of : TyView} (p : BodyNode) (after : Taken) → Declares scope env place of own →
      IsFit own (node.Proc p) of → HasRoom env.locals (joint (λ numbers. slot_on numbers of place) after) →
      Sounds (stand env) (stand own) (node.Let place of (node.Proc p)) types.Void
  unfolding eval
  literal_sounds p after declares te room n depth heap = literal_sound told after declares te room heap

  -- A loop: its slots are apart from those of its control and of its clauses, and from those of the names in scope.
  abbrev Loop : (env : InScope) (slot : ℕ) (control : Place) (a b c s : Node) → Type 0
  Loop env slot control a b c s =
      Placed nums refs env.locals (joint (joint (three_nums slot) (control_slots control)) (of_clauses (a ∷ b ∷ c ∷ s ∷ [])))

  loop_apart : (env : InScope) (slot : ℕ) (control : Place) (a b c s : Node) → Loop env slot control a b c s → (x : ℕ) → slot ≤ x → x < slot + 3 →
      (apart_from (on_nums x)).Has (joint (control_slots control) (of_clauses (a ∷ b ∷ c ∷ s ∷ [])))
  loop_apart env slot control a b c s at x low high =
      let clauses = of_clauses (a ∷ b ∷ c ∷ s ∷ []) in
      let others = control_slots control true ++ clauses true in
      three_has slot x low high (λ (y : ℕ). AllByRecursion (λ (z : ℕ). z ≢ y) others)
      (cross (from slot 3) others (subst AreApart (append_assoc (from slot 3) (control_slots control true) (clauses true)) (at.room.apart true)))

  loop_unnamed : (env : InScope) (slot : ℕ) (control : Place) (a b c s : Node) → Loop env slot control a b c s → (x : ℕ) → slot ≤ x → x < slot + 3 →
      Unnamed (on_nums x) env
  loop_unnamed env slot control a b c s at x low high =
      three_spare env.locals true (three_nums slot) slot x low high refl
      (room_left (three_nums slot) (control_slots control)
      (room_left (joint (three_nums slot) (control_slots control)) (of_clauses (a ∷ b ∷ c ∷ s ∷ [])) at.room)).free

  is_loop : {scope : Option (List ℕ)} {env inner own : InScope} (slot : ℕ) (control : Place) (a b c s : Node) → inner.locals ≡ env.locals →
      Declares scope inner control types.Int own → AreFit env (a has types.Int ∷ b has types.Int ∷ c has types.Int ∷ []) → IsFit own s types.Void →
      Loop env slot control a b c s → IsLoop nums slot b c s
  is_loop {env = env} slot control a b c s same declares are t at =
      let clauses = of_clauses (a ∷ b ∷ c ∷ s ∷ []) in
      let apart = loop_apart env slot control a b c s at in
      let unnamed = loop_unnamed env slot control a b c s at in
      let kept : (x : ℕ) → slot ≤ x → x < slot + 3 → Each (KeepClaim (on_nums x)) (a has types.Int ∷ b has types.Int ∷ c has types.Int ∷ [])
      = λ x low high. keeps_each (on_nums x) are
      (first_three_have (apart_from (on_nums x)) a b c s ((apart_from (on_nums x)).right (control_slots control) clauses (apart x low high))) (unnamed x low high) in
      let kept_by_clause : (x : ℕ) → slot ≤ x → x < slot + 3 → Keeps (on_nums x) s
      = λ x low high. keeps (on_nums x) t
      (fourth_has (apart_from (on_nums x)) a b c s ((apart_from (on_nums x)).right (control_slots control) clauses (apart x low high)))
      (declared_unnamed (on_nums x) declares ((apart_from (on_nums x)).left (control_slots control) clauses (apart x low high))
      (subst (λ (locals : List Local). IsSpare true x locals) (sym same) (unnamed x low high))) in
      let three = (placed nums refs env.locals).left (three_nums slot) (control_slots control)
      ((placed nums refs env.locals).left (joint (three_nums slot) (control_slots control)) clauses at) in
      record {
        three = three_has slot (slot + 2) (omega by_arith) (omega by_arith) (λ (x : ℕ). x < nums) (three.below true);
        limit_keeps = (kept slot (omega by_arith) (omega by_arith)).1.0;
        step_keeps = (kept slot (omega by_arith) (omega by_arith)).1.1.0;
        step_keeps_limit = (kept (slot + 1) (omega by_arith) (omega by_arith)).1.1.0;
        keeps = kept_by_clause slot (omega by_arith) (omega by_arith);
        keeps_limit = kept_by_clause (slot + 1) (omega by_arith) (omega by_arith);
        keeps_step = kept_by_clause (slot + 2) (omega by_arith) (omega by_arith);
      }

  keeps_types : (env : InScope) (own : Standing) (slot : ℕ) → HasRoom env.locals (three_nums slot) →
      ((new : Heap) (frame : Frame) → IsStanding new frame own → IsStanding new frame (stand env)) → KeepsTypes (stand env) own slot
  keeps_types env own slot room less =
      let spares : (at : ℕ) → slot ≤ at → at < slot + 3 → IsSpare true at env.locals
      = λ at low high. three_spare env.locals true (three_nums slot) slot at low high refl room.free in
      record {
        spares = λ at low high heap v. sound_set_local at types.Int v (λ now frame g are.
            spare_slot fits now frame types.Int at v env.locals (spares at low high) are);
        counts = λ z heap. sound_set in_levels slot types.Int (Num z) (λ now frame g are.
            let before = less now frame are in
            (spare_slot fits now frame types.Int slot (Num z) env.locals (spares slot (omega by_arith) (omega by_arith)) before.0, before.1));
      }

  -- the control: a local that is none of the three, or a name of the scope of the turn
  control_in : {scope : Option (List ℕ)} {inner own : InScope} (env : InScope) (slot : ℕ) (control : Place) (a b c s : Node) → inner.locals ≡ env.locals →
      Declares scope inner control types.Int own → Loop env slot control a b c s → IsControl nums slot (stand inner) control
  control_in env slot (Plain control) a b c s same fit.as_local at =
      let apart : (x : ℕ) → slot ≤ x → x < slot + 3 → control ≡ x → ⊥ = λ x low high. (loop_apart env slot (Plain control) a b c s at x low high).0 in
      let own = (placed nums refs env.locals).left (joint (three_nums slot) (control_slots (Plain control))) (of_clauses (a ∷ b ∷ c ∷ s ∷ [])) at in
      let controls = (placed nums refs env.locals).right (three_nums slot) (control_slots (Plain control)) own in
      by_local (controls.below true).0
      (record {
        first = apart slot (omega by_arith) (omega by_arith);
        second = apart (slot + 1) (omega by_arith) (omega by_arith);
        third = apart (slot + 2) (omega by_arith) (omega by_arith);
      })
  control_in env slot (Kept up position) a b c s same (fit.as_kept {env = inner} level around is there) at =
      by_scope (next_place inner.locals inner.levels position types.Int is there)

  controls_in : {scope : Option (List ℕ)} {inner own : InScope} {control : Place} (s : Node) → Declares scope inner control types.Int own →
      HasRoom inner.locals (joint (control_slots control) (of_clause s)) → Controls (stand inner) (stand own) control
  controls_in s declares room z is heap = declares_sound told (of_clause s) declares refl room heap (Num z) is

  loop_is : {scope : Option (List ℕ)} {env own : InScope} {inside : List Level} (slot : ℕ) (control : Place) (a b c s : Node) (line : Line) →
      Opens scope env.levels inside → Declares scope (with_levels inside env) control types.Int own →
      AreFit env (a has types.Int ∷ b has types.Int ∷ c has types.Int ∷ []) → IsFit own s types.Void → Loop env slot control a b c s →
      Each (IsPart (stand env)) (a has types.Int ∷ b has types.Int ∷ c has types.Int ∷ []) → Part P nums refs (stand own) s types.Void →
      Clause P nums refs (stand env) (node.For slot a b c scope control s line) types.Void
  loop_is {env = env} {own = own} slot control a b c s line fit.unscoped declares are t at three part =
      let whole = room_left (joint (three_nums slot) (control_slots control)) (of_clauses (a ∷ b ∷ c ∷ s ∷ [])) at.room in
      loop (is_loop {env = env} slot control a b c s refl declares are t at)
      (keeps_types env (stand own) slot (room_left (three_nums slot) (control_slots control) whole) (declares_less declares))
      (controls_in s declares (turn_placed nums refs env.locals slot control a b c s at).room) (control_in env slot control a b c s refl declares at)
      three.0 three.1.0 three.1.1.0 part
  loop_is {env = env} {own = own} slot control a b c s line (fit.scoped {first = first} {rest = rest} scope_named) declares are t at three part =
      let whole = room_left (joint (three_nums slot) (control_slots control)) (of_clauses (a ∷ b ∷ c ∷ s ∷ [])) at.room in
      let its : IsScopeText (class_text (codes "scope") (first ∷ rest)) = record { fields = first ∷ rest; named = scope_named; text_is = refl } in
      let controls = controls_in s declares (turn_placed nums refs env.locals slot control a b c s at).room in
      let turns : TurnsIn (stand env) (class_text (codes "scope") (first ∷ rest)) control s
      = λ n depth z is heap. sound_scope (first ∷ rest) scope_named (λ new g. narrowed in_levels (declares_less declares)
      (sound_then in_levels (controls z is new) (λ last u g2 done. sounds_in part n depth last))) in
      scoped_loop {levels = env.levels} its refl (is_loop {env = env} slot control a b c s refl declares are t at)
      (keeps_types env (stand env) slot (room_left (three_nums slot) (control_slots control) whole) (λ new frame standing. standing))
      controls (control_in env slot control a b c s refl declares at) turns three.0 three.1.0 three.1.1.0 part

  -- A scan: its locals of each stack are apart from those of its clauses, and from those of the names in scope.
  scan_is : (env : InScope) (strings : Bool) (q s : ℕ) → HasRoom env.locals (scan_slots q s) → IsScan (stand env) strings q s
  scan_is env strings q s room =
      let in_refs : (at : ℕ) → q ≤ at → at < q + 3 → IsSpare false at env.locals
      = λ at low high. three_spare env.locals false (scan_slots q s) q at low high refl room.free in
      let in_nums : (at : ℕ) → s ≤ at → at < s + 3 → IsSpare true at env.locals
      = λ at low high. three_spare env.locals true (scan_slots q s) s at low high refl room.free in
      record {
        pntrs = λ at low high heap v. sound_set_local at types.Pntr v (λ now frame g are.
            spare_slot fits now frame types.Pntr at v env.locals (in_refs at low high) are);
        procedures = λ at low high heap v. sound_set_local at (caller (key_type strings)) v (λ now frame g are.
            spare_slot fits now frame (caller (key_type strings)) at v env.locals (in_refs at low high) are);
        texts = λ at low high heap v. sound_set_local at types.Str v (λ now frame g are.
            spare_slot fits now frame types.Str at v env.locals (in_refs at low high) are);
        ints = λ at low high heap v. sound_set_local at types.Int v (λ now frame g are.
            spare_slot fits now frame types.Int at v env.locals (in_nums at low high) are);
        answers = λ n depth line heap procedure args is vs. sound_call in_levels (context n depth) (within_answers told n (suc depth)) line procedure args
            (two (key_type strings) types.Pntr) types.Bool is vs;
      }

  mutual
    pub clause : {env : InScope} {t : Node} {ty : TyView} → IsFit env t ty → BodiesAre P IsValued t → Placed nums refs env.locals (of_clause t) →
        Clause P nums refs (stand env) t ty
    clause (fit.by_rule {env = env} rule names parts) b at =
        let stands = parts_stand P IsValued rule b in
        by_rule rule names (gives_each P parts stands) (clauses parts stands (rule_has (placed nums refs env.locals) rule at))
    clause (fit.name {env = env} {place = Plain slot} {ty = ty} found) b at =
        got slot ty (slot_by_kind nums refs slot ty (name_below nums refs slot ty env.locals found at.named) (kind_of ty b))
    clause (fit.name {env = env} {place = Kept up position} {ty = ty} found) b at =
        kept_got up position ty (kind_of ty b) (declared_place env up position ty found)
    clause (fit.set_name {env = env} {place = Plain slot} {ty = ty} {e = e} found te) b at =
        stored slot ty e (slot_by_kind nums refs slot ty (name_below nums refs slot ty env.locals found at.named) (kind_of ty b.0))
        (let here = set_has (placed nums refs env.locals) (Plain slot) ty e at in as_part te b.1 here (clause te b.1 here))
    clause (fit.set_name {env = env} {place = Kept up position} {ty = ty} {e = e} found te) b at =
        kept_stored up position ty e (kind_of ty b.0) (declared_place env up position ty found)
        (let here = set_has (placed nums refs env.locals) (Kept up position) ty e at in as_part te b.1 here (clause te b.1 here))
    clause (fit.block {env = env} {items = items} fit.unscoped are) b at = block (clause_items are b (block_has (placed nums refs env.locals) None items at))
    clause (fit.block {env = env} {items = items} (fit.scoped {first = first} {rest = rest} scope_named) are) b at =
        scoped_block {levels = env.levels} (record { fields = first ∷ rest; named = scope_named; text_is = refl }) refl
        (clause_items are b (block_has (placed nums refs env.locals) (Some (class_text (codes "scope") (first ∷ rest))) items at))
    clause (fit.loop {env = env} {slot = slot} {a = a} {b = b} {c = c} {s = s} {scope = scope} {control = control} {line = line} opens declares are t) bodies at =
        let shared = placed nums refs env.locals in
        let whole = loop_has shared slot a b c scope control s line at in
        let parts = shared.right (joint (three_nums slot) (control_slots control)) (of_clauses (a ∷ b ∷ c ∷ s ∷ [])) whole in
        let inside = declares_placed nums refs (of_clause s) declares (turn_placed nums refs env.locals slot control a b c s whole) in
        loop_is slot control a b c s line opens declares are t whole
        (clauses are (bodies.0, (bodies.1, (bodies.2, tt))) (first_three_have shared a b c s parts))
        (as_part t bodies.3 inside (clause t bodies.3 inside))
    clause (fit.scan {env = env} {string = strings} {a = a} {f = f} {q = q} {s = s} {line = line} are) b at =
        let shared = placed nums refs env.locals in
        let whole = scan_has shared strings a f q s line at in
        let own = shared.left (scan_slots q s) (of_clauses (a ∷ f ∷ [])) whole in
        let parts = shared.right (scan_slots q s) (of_clauses (a ∷ f ∷ [])) whole in
        let two = clauses are (b.0, (b.1, tt)) parts in
        let apart : (apart_from (on_refs q)).Has (of_clauses (a ∷ f ∷ []))
        = three_has q q (omega by_arith) (omega by_arith) (λ (y : ℕ). AllByRecursion (λ (z : ℕ). z ≢ y) (of_clauses (a ∷ f ∷ []) false))
        (cross (from q 3) (of_clauses (a ∷ f ∷ []) false) (whole.room.apart false)) in
        let unnamed : Unnamed (on_refs q) env
        = three_spare env.locals false (scan_slots q s) q q (omega by_arith) (omega by_arith) refl own.room.free in
        let kept = keeps_each (on_refs q) are apart unnamed in
        scan (three_has q (q + 2) (omega by_arith) (omega by_arith) (λ (x : ℕ). x < refs) (own.below false))
        (three_has s (s + 2) (omega by_arith) (omega by_arith) (λ (x : ℕ). x < nums) (own.below true)) kept.1.0 (scan_is env strings q s own.room) two.0 two.1.0
    clause (fit.literal is_body) b at = literal

    clauses : {env : InScope} {claims : List Claim} → AreFit env claims → Each (Stands P IsValued) claims →
        Placed nums refs env.locals (of_clauses (clauses_of claims)) → Each (IsPart (stand env)) claims
    clauses fit.AreFit.no_more stands at = tt
    clauses (fit.one_more {env = env} {clause = first} {rest = rest} is others) stands at =
        let here = (placed nums refs env.locals).left (of_clause first) (of_clauses (clauses_of rest)) at in (
          as_part is stands.0 here (clause is stands.0 here),
          clauses others stands.1 ((placed nums refs env.locals).right (of_clause first) (of_clauses (clauses_of rest)) at),
        )

    clause_items : {scope : Option (List ℕ)} {env last : InScope} {before ty : TyView} {items : Nodes} → AreItems scope env before items ty last →
        AllBodiesAre P IsValued items → Placed nums refs env.locals (of_clauses (item_nodes items)) → Items P nums refs (stand env) before items ty
    clause_items fit.at_end b at = at_end
    clause_items (fit.a_clause {env = env} {item = item} {rest = rest} first others) b at =
        let shared = placed nums refs env.locals in
        let here = shared.left (of_clause item) (of_clauses (item_nodes rest)) at in
        let of_first = as_part first b.0 here (clause first b.0 here) in
        an_item (clause_in of_first) (sounds_in of_first) b.0 (clause_items others b.1 (shared.right (of_clause item) (of_clauses (item_nodes rest)) at))
    clause_items (fit.a_value {env = env} {place = place} {e = e} {rest = rest} {of = of} isnt declares te others) b at =
        let shared = placed nums refs env.locals in
        let whole = let_has shared place of e rest at in
        let after = joint (of_clause e) (of_clauses (item_nodes rest)) in
        let parts = shared.right (λ numbers. slot_on numbers of place) after whole in
        let here = shared.left (of_clause e) (of_clauses (item_nodes rest)) parts in
        let value = as_part te b.0.1 here (clause te b.0.1 here) in
        let own = declares_placed nums refs after declares whole in
        an_item (let_is e after declares b.0.0 whole value) (let_sounds e after declares isnt whole.room (sounds_in value)) b.0
        (clause_items others b.1 ((placed nums refs _).right (of_clause e) (of_clauses (item_nodes rest)) own))
    clause_items (fit.a_literal {env = env} {place = place} {procedure = p} {rest = rest} {of = of} declares te others) b at =
        let shared = placed nums refs env.locals in
        let e = node.Proc p in
        let whole = let_has shared place of e rest at in
        let after = joint (of_clause e) (of_clauses (item_nodes rest)) in
        let own = declares_placed nums refs after declares whole in
        an_item (literal_is_let p after declares (literal_ref te) whole) (literal_sounds p after declares te whole.room) b.0
        (clause_items others b.1 ((placed nums refs _).right (of_clause e) (of_clauses (item_nodes rest)) own))

  pub part : {env : InScope} {t : Node} {ty : TyView} → IsFit env t ty → BodiesAre P IsValued t → Placed nums refs env.locals (of_clause t) →
      Part P nums refs (stand env) t ty
  part is b at = as_part is b at (clause is b at)
