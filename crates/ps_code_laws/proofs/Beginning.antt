-- A body's beginning: the arguments that its scope keeps are copied there.
use Rattle.std.proofs.Common.{◌≡◌, ℕ, ◌+◌, ◌<◌, ◌≤◌, Bool, true, false, List, [], ◌∷◌, ◌++◌, Option, sym, ◌∙◌, subst, arith}
use Rattle.std.specs.Prelude.{if◌then◌else◌}
use Rattle.ps_gen.specs.ps_base.TyView.{TyView}
use Rattle.ps_gen.specs.ps_base.TyView as types
use Rattle.ps_gen.specs.ps_base.CodeUnit.{UnitView}
use Rattle.ps_gen.specs.ps_base.declared.instr.Instr.{Instr}
use Rattle.ps_gen.specs.ps_base.declared.instr.Instr.TheVariants as instr
use Rattle.ps_gen.specs.ps_program.declared.place.Place.TheVariants.{Plain, Kept}
use Rattle.ps_gen.specs.ps_program.Node.{Param, BodyNode}
use Rattle.ps_typing_laws.specs.ps_typing.Placing.{is_number}
use Rattle.ps_typing_laws.specs.ps_typing.Locals.{one_on, taken_by_params}
use Rattle.ps_typing_laws.specs.ps_typing.WellTyped.{Local, types_of_params}
use Rattle.ps_stepping.specs.ps_heap.Values.{Value, Nothing, word_of}
use Rattle.ps_stepping.specs.ps_heap.Objects.{Heap}
use Rattle.ps_stepping.specs.ps_meaning.Meaning.{Frame, give, ◌>>=◌, set, change}
use Rattle.ps_stepping.specs.ps_meaning.Frames.{arguments_on, keep, keep_all}
use Rattle.ps_gen.specs.Units.{kept_at, keeps, size_keeps}
use Rattle.ps_stepping.specs.Config.{frame_in}
use Rattle.ps_soundness.specs.Valued.{AllValued}
use Rattle.ps_soundness.proofs.Telling.{Told}
use Rattle.ps_soundness.proofs.Combining.{Sound, sound_then, sound_nothing}
use Rattle.ps_soundness.proofs.Calling.{ValuesOf, values_kept}
use Rattle.ps_soundness.proofs.Rules.{valued_nonvoid}
use Rattle.heap_fit.specs.Bodies.{Level, InScope, Takes}
use Rattle.heap_fit.specs.Bodies as fit
use Rattle.fit_soundness.proofs.Declaring.{kept_sound}
use Rattle.ps_code_laws.specs.Compiled.{compiled}
use Rattle.ps_code_laws.proofs.Standing.{Ahead}
use Rattle.ps_code_laws.proofs.Known.{HasPlace, next_place}
use Rattle.ps_code_laws.proofs.Clauses.{IsNum, IsRef, int, bool, str, pntr, vector, proc, Kind, of_num, of_ref}
use Rattle.ps_code_laws.proofs.Falls.{falls_give, falls_set, falls_keep_all}
use Rattle.ps_code_laws.proofs.Literals.{AreLiterals}
use Rattle.ps_code_laws.proofs.Holding.{holds_give, holds_set, holds_keep_all}
use Rattle.ps_code_laws.proofs.Doing.{Origin, Leads, Way, place, if_lt, quiet, less_room, push_goes, got_ref, does_nothing}
use Rattle.ps_code_laws.proofs.From.{From, from_does, then_from}
use Rattle.ps_code_laws.proofs.Operands.{Stand}
use Rattle.ps_code_laws.proofs.ScopeForms.{does_set_kept, does_set_kept_ref}
use Rattle.ps_code_laws.proofs.Arguments.{KindsAre}
use Rattle.ps_code_laws.proofs.Handed.{Passed, passed_next}
use Rattle.fit_soundness.proofs.Levels.{fits}
use Rattle.fit_soundness.proofs.Standings.{in_levels, within}

keep_sound : (told : Told) {scope : Option (List ℕ)} {env last : InScope} {nums refs : ℕ} {params : List Param} → Takes scope env nums refs params last →
    AllValued (types_of_params params) → (locals : List Local) (args : List Value) (heap : Heap) → ValuesOf fits heap (types_of_params params) args →
    Sound in_levels heap (within locals env.levels) (within locals last.levels) types.Void (keep_all params args)
unfolding keep_all keep
keep_sound told fit.Takes.no_more valued locals args heap are = sound_nothing in_levels
keep_sound told (fit.Takes.as_local e rest) valued locals [] heap are = absurd are
keep_sound told (fit.Takes.as_local {env = env} {rest = params} e rest) valued locals (arg ∷ args) heap are =
    sound_then in_levels {between = within locals env.levels} (sound_nothing in_levels) (λ new u g is.
    keep_sound told rest valued.1 locals args new (values_kept fits heap new g (types_of_params params) args are.1))
keep_sound told (fit.Takes.as_kept declares rest) valued locals [] heap are = absurd are
keep_sound told (fit.Takes.as_kept {ty = ty} {rest = params} declares rest) valued locals (arg ∷ args) heap are =
    sound_then in_levels (kept_sound told locals declares (valued_nonvoid ty valued.0) heap arg are.0) (λ new u g done.
    keep_sound told rest valued.1 locals args new (values_kept fits heap new g (types_of_params params) args are.1))

-- where so many turns are left, in a heap, with these names
abbrev pub begun : ℕ → Heap → List Local → List Level → Origin
begun turns heap locals levels = record { turns = turns; heap = heap; known = within locals levels }

pub keep_leads : (P : BodyNode → Type 0) (told : Told) {scope : Option (List ℕ)} {env last : InScope} {nums refs : ℕ} {params : List Param} →
    Takes scope env nums refs params last → AllValued (types_of_params params) → (locals : List Local) (args : List Value) (turns : ℕ) (heap : Heap) →
    ValuesOf fits heap (types_of_params params) args → AreLiterals P args →
    Leads P (begun turns heap locals env.levels) (within locals last.levels) types.Void (keep_all params args)
keep_leads P told {params = params} takes valued locals args turns heap are literals = record {
  falls = falls_keep_all params args;
  sound = keep_sound told takes valued locals args heap are;
  holds = holds_keep_all P params args literals;
}

-- the locals of the next parameter and of those after it are among those of the body
room_next : (number : Bool) (nums refs nums_most refs_most n r : ℕ) → nums + ((if number then 1 else 0) + n) ≤ nums_most →
    refs + ((if number then 0 else 1) + r) ≤ refs_most →
    ((if number then nums + 1 else nums) + n ≤ nums_most) × ((if number then refs else refs + 1) + r ≤ refs_most)
room_next true nums refs nums_most refs_most n r h k = (omega arith, omega arith)
room_next false nums refs nums_most refs_most n r h k = (omega arith, omega arith)

plain_ahead : (Allows : Instr → Type 0) (u : UnitView) (number : Bool) (p slot : ℕ) (rest : List Param) (nums refs : ℕ) →
    Ahead Allows u p (if number then kept_at (Plain slot) (instr.GetM nums) (λ u i. instr.KeepM u i) ++ keeps rest (nums + 1) refs
    else kept_at (Plain slot) (instr.GetP refs) (λ u i. instr.KeepP u i) ++ keeps rest nums (refs + 1)) →
    Ahead Allows u p (keeps rest (if number then nums + 1 else nums) (if number then refs else refs + 1))
plain_ahead Allows u true p slot rest nums refs h = h
plain_ahead Allows u false p slot rest nums refs h = h

module _ (w : Way) where
  -- a kept parameter is moved from its local
  kept_num : {ty : TyView} → IsNum ty → (n : Origin) (p slot position : ℕ) (v : Value) → HasPlace n.known 0 position ty →
      slot < (frame_in w.unit).nums → Stand w p (instr.GetM slot) → Stand w (p + 5) (instr.KeepM 0 position) →
      From w n (λ f. f.nums slot ≡ v) [] [] (set (Kept 0 position) ty v) types.Void 1 p (p + 5 + 9)
  kept_num num n p slot position v there below get_at keep_at = record {
    by = λ nums refs f s is room since reach. quiet w (instr.GetM slot) get_at
        (if_lt slot (frame_in w.unit).nums _ _ below ∙ push_goes w (p + 5) (word_of (f.nums slot)) nums refs f s.store room)
        (subst (λ (x : Value). w.Holds (place w (p + 5) (word_of x ∷ nums) refs f s.store) s.events) (sym is)
        ((does_set_kept w n (p + 5) 0 position v num there keep_at).by nums refs f s (less_room w 0 1 nums refs (omega arith) room) since reach));
  }

  kept_ref : {ty : TyView} → IsRef ty → (n : Origin) (p slot position : ℕ) (v : Value) → HasPlace n.known 0 position ty →
      slot < (frame_in w.unit).refs → Stand w p (instr.GetP slot) → Stand w (p + 5) (instr.KeepP 0 position) →
      From w n (λ f. f.refs slot ≡ v) [] [] (set (Kept 0 position) ty v) types.Void 1 p (p + 5 + 9)
  kept_ref ref n p slot position v there below get_at keep_at = record {
    by = λ nums refs f s is room since reach. got_ref w n p slot f s nums refs below get_at room
        (subst (λ (x : Value). w.Holds (place w (p + 5) nums (compiled x ∷ refs) f s.store) s.events) (sym is)
        ((does_set_kept_ref w n (p + 5) 0 position v ref there keep_at).by nums refs f s (less_room w 0 1 nums refs (omega arith) room) since reach));
  }

  -- which it stands in by its type; those after it follow
  abbrev KeptAhead : Bool → ℕ → ℕ → List Param → ℕ → ℕ → Type 0
  KeptAhead number p position rest nums refs =
      Ahead w.Allows w.unit p (if number then kept_at (Kept 0 position) (instr.GetM nums) (λ u i. instr.KeepM u i) ++ keeps rest (nums + 1) refs
      else kept_at (Kept 0 position) (instr.GetP refs) (λ u i. instr.KeepP u i) ++ keeps rest nums (refs + 1))

  kept_behind : (number : Bool) (p position : ℕ) (rest : List Param) (nums refs : ℕ) → KeptAhead number p position rest nums refs →
      Ahead w.Allows w.unit (p + 5 + 9) (keeps rest (if number then nums + 1 else nums) (if number then refs else refs + 1))
  kept_behind true p position rest nums refs h = h.1.1
  kept_behind false p position rest nums refs h = h.1.1

  kept_does : {ty : TyView} → Kind ty → (n : Origin) (p position nums refs : ℕ) (rest : List Param) (v : Value) → HasPlace n.known 0 position ty →
      nums + (one_on true ty + taken_by_params true rest) ≤ (frame_in w.unit).nums →
      refs + (one_on false ty + taken_by_params false rest) ≤ (frame_in w.unit).refs → KeptAhead (is_number ty) p position rest nums refs →
      From w n (λ f. (if is_number ty then f.nums (if is_number ty then nums else refs)
      else f.refs (if is_number ty then nums else refs)) ≡ v) [] [] (set (Kept 0 position) ty v) types.Void 1 p (p + 5 + 9)
  kept_does (of_num int) n p position nums refs rest v there below_nums below_refs h = kept_num int n p nums position v there (omega arith) h.0 h.1.0
  kept_does (of_num bool) n p position nums refs rest v there below_nums below_refs h = kept_num bool n p nums position v there (omega arith) h.0 h.1.0
  kept_does (of_ref str) n p position nums refs rest v there below_nums below_refs h = kept_ref str n p refs position v there (omega arith) h.0 h.1.0
  kept_does (of_ref pntr) n p position nums refs rest v there below_nums below_refs h = kept_ref pntr n p refs position v there (omega arith) h.0 h.1.0
  kept_does (of_ref vector) n p position nums refs rest v there below_nums below_refs h = kept_ref vector n p refs position v there (omega arith) h.0 h.1.0
  kept_does (of_ref proc) n p position nums refs rest v there below_nums below_refs h = kept_ref proc n p refs position v there (omega arith) h.0 h.1.0

  pub keeps_do : (told : Told) {scope : Option (List ℕ)} {env last : InScope} {nums refs : ℕ} {params : List Param} →
      Takes scope env nums refs params last → AllValued (types_of_params params) → (locals : List Local) (args : List Value) → KindsAre params →
      (turns : ℕ) (heap : Heap) (p : ℕ) → ValuesOf fits heap (types_of_params params) args → AreLiterals w.Body args →
      nums + taken_by_params true params ≤ (frame_in w.unit).nums → refs + taken_by_params false params ≤ (frame_in w.unit).refs →
      Ahead w.Allows w.unit p (keeps params nums refs) →
      From w (begun turns heap locals env.levels) (Passed nums refs (arguments_on true params args) (arguments_on false params args)) [] []
      (keep_all params args) types.Void 1 p (p + size_keeps params)
  unfolding keep_all keep arguments_on give set change
  keeps_do told (fit.Takes.no_more {env = env} {nums = nums} {refs = refs}) valued locals args kinds turns heap p are literals below_nums below_refs h =
      let same : p ≡ p + 0 = omega arith in
      let pre : Frame → Type 0 = Passed nums refs (arguments_on true [] args) (arguments_on false [] args) in
      subst (λ (q : ℕ). From w (begun turns heap locals env.levels) pre [] [] (give Nothing) types.Void 1 p q) same
      (from_does w pre (does_nothing w (begun turns heap locals env.levels) 1 p))
  keeps_do told (fit.Takes.as_local e rest) valued locals [] kinds turns heap p are literals below_nums below_refs h = absurd are
  keeps_do told (fit.Takes.as_local {env = env} {nums = nums} {refs = refs} {slot = slot} {ty = ty} {rest = params} e rest) valued locals (arg ∷ args) kinds
      turns heap p are literals below_nums below_refs h =
      let n = begun turns heap locals env.levels in
      let room = room_next (is_number ty) nums refs (frame_in w.unit).nums (frame_in w.unit).refs (taken_by_params true params)
      (taken_by_params false params) below_nums below_refs in
      let same : p + size_keeps params ≡ p + (0 + size_keeps params) = omega arith in
      subst (λ (q : ℕ). From w n (Passed nums refs (arguments_on true (record { ty = ty; place = Plain slot } ∷ params) (arg ∷ args))
      (arguments_on false (record { ty = ty; place = Plain slot } ∷ params) (arg ∷ args))) [] []
      (give Nothing >>= λ u. keep_all params args) types.Void 1 p q) same
      (then_from w {last = n.known} (λ u. keep_all params args)
      (λ v f. Passed (if is_number ty then nums + 1 else nums) (if is_number ty then refs else refs + 1) (arguments_on true params args)
      (arguments_on false params args) f) 0 1 p p (p + size_keeps params)
      (omega arith) (record { falls = falls_give Nothing; sound = sound_nothing in_levels; holds = holds_give w.Body Nothing tt })
      (λ f s is. (passed_next (is_number ty) f nums refs arg (arguments_on true params args) (arguments_on false params args) is).0)
      (from_does w _ (does_nothing w n 0 p))
      (λ new u g done. keeps_do told rest valued.1 locals args kinds.1 turns new p
      (values_kept fits heap new g (types_of_params params) args are.1) literals.1 room.0 room.1
      (plain_ahead w.Allows w.unit (is_number ty) p slot params nums refs h)))
  keeps_do told (fit.Takes.as_kept declares rest) valued locals [] kinds turns heap p are literals below_nums below_refs h = absurd are
  keeps_do told (fit.Takes.as_kept {nums = nums} {refs = refs} {ty = ty} {rest = params} (fit.as_kept {text = text} {env = env} {position = position} level around is at) rest)
      valued locals (arg ∷ args) kinds turns heap p are literals below_nums below_refs h =
      let n = begun turns heap locals env.levels in
      let room = room_next (is_number ty) nums refs (frame_in w.unit).nums (frame_in w.unit).refs (taken_by_params true params)
      (taken_by_params false params) below_nums below_refs in
      let same : p + 5 + 9 + size_keeps params ≡ p + (14 + size_keeps params) = omega arith in
      let one = kept_does kinds.0 n p position nums refs params arg (next_place locals env.levels position ty is at) below_nums below_refs h in
      subst (λ (q : ℕ). From w n (Passed nums refs (arguments_on true (record { ty = ty; place = Kept 0 position } ∷ params) (arg ∷ args))
      (arguments_on false (record { ty = ty; place = Kept 0 position } ∷ params) (arg ∷ args))) [] []
      (set (Kept 0 position) ty arg >>= λ u. keep_all params args) types.Void 1 p q) same
      (then_from w (λ u. keep_all params args)
      (λ v f. Passed (if is_number ty then nums + 1 else nums) (if is_number ty then refs else refs + 1) (arguments_on true params args)
      (arguments_on false params args) f) 1 1 p (p + 5 + 9)
      (p + 5 + 9 + size_keeps params) (omega arith)
      (record {
        falls = falls_set (Kept 0 position) ty arg;
        sound = kept_sound told locals (fit.as_kept {text = text} {env = env} level around is at) (valued_nonvoid ty valued.0) heap arg are.0;
        holds = holds_set w.Body (Kept 0 position) ty arg literals.0;
      })
      (λ f s so. (passed_next (is_number ty) f nums refs arg (arguments_on true params args) (arguments_on false params args) so).0)
      (record {
        by = λ ns rs f s so has since reach. one.by ns rs f s
            (passed_next (is_number ty) f nums refs arg (arguments_on true params args) (arguments_on false params args) so).1 has since reach;
      })
      (λ new u g done. keeps_do told rest valued.1 locals args kinds.1 turns new (p + 5 + 9)
      (values_kept fits heap new g (types_of_params params) args are.1) literals.1 room.0 room.1
      (kept_behind (is_number ty) p position params nums refs h)))
