-- Each typed body within the limits has one unit.
use Rattle.std.proofs.Common.{◌≡◌, ℕ, ◌+◌, ◌<◌, ◌≤◌, Bool, true, false, List, [], ◌∷◌, ◌++◌, length, Option, Some, None, refl, sym, ◌∙◌, subst, arith, length-append}
use Rattle.std.specs.Prelude.{◌^◌, if◌then◌else◌}
use Rattle.std.specs.List.{AllByRecursion}
use Rattle.ps_gen.specs.ps_base.Limits.{most_slots}
use Rattle.ps_gen.specs.ps_base.TyView.{TyView}
use Rattle.ps_gen.specs.ps_base.CodeUnit.{UnitView}
use Rattle.ps_gen.specs.ps_base.Instr.{spelling, spelled, width_of}
use Rattle.ps_gen.specs.ps_base.declared.instr.Instr.{Instr}
use Rattle.ps_gen.specs.ps_base.declared.instr.Instr.TheVariants as instr
use Rattle.ps_gen.proofs.of_ps_base.Spellings.{length-spelling}
use Rattle.ps_gen.specs.ps_program.declared.place.Place.{Place}
use Rattle.ps_gen.specs.ps_program.declared.place.Place.TheVariants.{Plain, Kept}
use Rattle.ps_gen.specs.ps_program.Node.{Param, Node, Nodes, none, more, Arms, no_arms, more_arms, arm, BodyNode, body}
use Rattle.ps_gen.specs.ps_program.Node as node
use Rattle.ps_gen.specs.ps_program.Slots.{slot_count}
use Rattle.ps_gen.specs.ps_type_text.Texts.{Field}
use Rattle.ps_typing_laws.specs.ps_typing.Placing.{is_number}
use Rattle.ps_typing_laws.specs.ps_typing.Locals.{locals_on}
use Rattle.ps_typing_laws.specs.ps_typing.Program.{bodies}
use Rattle.ps_typing_laws.specs.ps_typing.WellTyped.{IsBody}
use Rattle.ps_typing_laws.specs.ps_typing.WellTyped as typed
use Rattle.ps_typing_laws.specs.Counted.{Each, Slot, slots_in, slots_of_params, slots_of_body, IsCounted}
use Rattle.ps_typing_laws.proofs.Tracked.{Inner, bodies_inner, each_map}
use Rattle.ps_gen.specs.ps_emitter.Choices as choice
use Rattle.ps_gen.specs.Emission.{size_entered, size, size_all, size_arms, size_labels, count_scope, count, count_all, count_arms, entered, emit}
use Rattle.ps_gen.specs.Units.{kept_at, size_kept_at, keeps, size_keeps, body_instrs, unit_of, HasUnit}
use Rattle.ps_gen.proofs.Widths.{widths, widths_append, widths_entered, width_emit}
use Rattle.ps_unit_laws.specs.Fields.{IsPlace, ArePlaces}
use Rattle.ps_unit_laws.specs.OneUnit.{HasFrame, IsUnitOf, IsWithinLimits}
use Rattle.ps_unit_laws.proofs.Parts.{clause, Good, each_right}
use Rattle.ps_unit_laws.proofs.Choices.{Spelled, join, kind_is}
use Rattle.ps_unit_laws.proofs.Spelling.{spell, entered_is}

-- The bytes of instructions.

pub length_spelled : (is : List Instr) → length (spelled is) ≡ widths is
length_spelled [] = refl
length_spelled (i ∷ []) = let h = length-spelling i in omega arith
length_spelled (i ∷ j ∷ is) =
    let h = length-spelling i in let k = length_spelled (j ∷ is) in let e = length-append (spelling i) (spelled (j ∷ is)) in omega arith

-- a clause names no more constants than its code has bytes
scope_count : (scope : Option (List ℕ)) → count_scope scope ≤ size_entered scope
scope_count None = omega arith
scope_count (Some text) = omega arith

mutual
  count_small : (t : Node) → count t ≤ size t
  count_small (node.Text bytes) = omega arith
  count_small (node.SetName place ty e) = let h = count_small e in omega arith
  count_small (node.Let place ty e) = let h = count_small e in omega arith
  count_small (node.Block scope items) = let h = count_all_small items in let k = scope_count scope in omega arith
  count_small (node.IfDo c a) = let h = count_small c in let k = count_small a in omega arith
  count_small (node.IfElse c a b) = let h = count_small c in let k = count_small a in let l = count_small b in omega arith
  count_small (node.While c a) = let h = count_small c in let k = count_small a in omega arith
  count_small (node.Repeat a c b) = let h = count_small c in let k = count_small a in let l = count_small b in omega arith
  count_small (node.For slot a b c scope control s line) =
      let h = count_small a in let k = count_small b in let l = count_small c in let m = count_small s in let n = scope_count scope in omega arith
  count_small (node.Case e arms d ty) = let h = count_small e in let k = count_arms_small arms in let l = count_small d in omega arith
  count_small (node.And a b) = let h = count_small a in let k = count_small b in omega arith
  count_small (node.Or a b) = let h = count_small a in let k = count_small b in omega arith
  count_small (node.Not e) = let h = count_small e in omega arith
  count_small (node.Neg e line) = let h = count_small e in omega arith
  count_small (node.Plus e) = count_small e
  count_small (node.Arith op a b line) = let h = count_small a in let k = count_small b in omega arith
  count_small (node.Compare op ty a b) = let h = count_small a in let k = count_small b in omega arith
  count_small (node.Is e class) = let h = count_small e in omega arith
  count_small (node.Join a b line) = let h = count_small a in let k = count_small b in omega arith
  count_small (node.Part a i n line) = let h = count_small a in let k = count_small i in let l = count_small n in omega arith
  count_small (node.Make class args) = let h = count_all_small args in omega arith
  count_small (node.Field e class index ty line) = let h = count_small e in omega arith
  count_small (node.SetField p class index ty e line) = let h = count_small p in let k = count_small e in omega arith
  count_small (node.Fill l u e ty line) = let h = count_small l in let k = count_small u in let m = count_small e in omega arith
  count_small (node.Elems l items ty line) = let h = count_small l in let k = count_all_small items in omega arith
  count_small (node.Element v i ty line) = let h = count_small v in let k = count_small i in omega arith
  count_small (node.SetElement v i e ty line) = let h = count_small v in let k = count_small i in let l = count_small e in omega arith
  count_small (node.Bound v upper) = let h = count_small v in omega arith
  count_small (node.Proc of) = omega arith
  count_small (node.Call f args line) = let h = count_small f in let k = count_all_small args in omega arith
  count_small (node.Lib code args line) = let h = count_all_small args in omega arith
  count_small (node.Scan text a f q s line) = let h = count_small a in let k = count_small f in omega arith
  count_small (node.Write e w wide ty line) = let h = count_small e in let k = count_small w in omega arith
  count_small other = omega arith

  count_all_small : (ts : Nodes) → count_all ts ≤ size_all ts
  count_all_small none = omega arith
  count_all_small (more first rest) = let h = count_small first in let k = count_all_small rest in omega arith

  count_arms_small : (arms : Arms) → count_arms arms ≤ size_arms arms
  count_arms_small no_arms = omega arith
  count_arms_small (more_arms (arm labels a) rest) =
      let h = count_labels_small labels in let k = count_small a in let l = count_arms_small rest in omega arith

  count_labels_small : (labels : Nodes) → count_all labels ≤ size_labels labels
  count_labels_small none = omega arith
  count_labels_small (more label rest) = let h = count_small label in let k = count_labels_small rest in omega arith

-- The parameters that a scope keeps.

widths_kept : (place : Place) (push : Instr) (keep : ℕ → ℕ → Instr) → width_of push ≡ 5 → ((u i : ℕ) → width_of (keep u i) ≡ 9) →
    widths (kept_at place push keep) ≡ size_kept_at place
widths_kept (Plain slot) push keep h k = refl
widths_kept (Kept up position) push keep h k = let e = k up position in omega arith

widths_keeps : (params : List Param) (nums refs : ℕ) → widths (keeps params nums refs) ≡ size_keeps params
widths_keeps [] nums refs = refl
widths_keeps (param ∷ rest) nums refs = by_stack (widths_keeps rest (nums + 1) refs) (widths_keeps rest nums (refs + 1)) (is_number param.ty)
  where
    by_stack : widths (keeps rest (nums + 1) refs) ≡ size_keeps rest → widths (keeps rest nums (refs + 1)) ≡ size_keeps rest → (b : Bool) → widths (if b then kept_at param.place (instr.GetM nums) (λ u i. instr.KeepM u i) ++ keeps rest (nums + 1) refs
        else kept_at param.place (instr.GetP refs) (λ u i. instr.KeepP u i) ++ keeps rest nums (refs + 1)) ≡ size_kept_at param.place + size_keeps rest
    by_stack on_nums on_refs true =
        let e = widths_append (kept_at param.place (instr.GetM nums) (λ u i. instr.KeepM u i)) (keeps rest (nums + 1) refs) in
        let h = widths_kept param.place (instr.GetM nums) (λ u i. instr.KeepM u i) refl (λ u i. refl) in omega arith
    by_stack on_nums on_refs false =
        let e = widths_append (kept_at param.place (instr.GetP refs) (λ u i. instr.KeepP u i)) (keeps rest nums (refs + 1)) in
        let h = widths_kept param.place (instr.GetP refs) (λ u i. instr.KeepP u i) refl (λ u i. refl) in omega arith

kept_num_is : (place : Place) (n : ℕ) → IsPlace place → n < 2 ^ 32 → Spelled (kept_at place (instr.GetM n) (λ u i. instr.KeepM u i))
kept_num_is (Plain slot) n h small = tt
kept_num_is (Kept up position) n h small = ((small, tt), ((h.0, (h.1, tt)), tt))

kept_ref_is : (place : Place) (n : ℕ) → IsPlace place → n < 2 ^ 32 → Spelled (kept_at place (instr.GetP n) (λ u i. instr.KeepP u i))
kept_ref_is (Plain slot) n h small = tt
kept_ref_is (Kept up position) n h small = ((small, tt), ((h.0, (h.1, tt)), tt))

keeps_are : (params : List Param) (nums refs : ℕ) → ArePlaces params → nums + length params < 2 ^ 32 → refs + length params < 2 ^ 32 →
    Spelled (keeps params nums refs)
keeps_are [] nums refs h n r = tt
keeps_are (param ∷ rest) nums refs h n r =
    by_stack (keeps_are rest (nums + 1) refs h.1 (omega arith) (omega arith)) (keeps_are rest nums (refs + 1) h.1 (omega arith) (omega arith))
    (is_number param.ty)
  where
    by_stack : Spelled (keeps rest (nums + 1) refs) → Spelled (keeps rest nums (refs + 1)) → (b : Bool) → Spelled (if b then kept_at param.place (instr.GetM nums) (λ u i. instr.KeepM u i) ++ keeps rest (nums + 1) refs
        else kept_at param.place (instr.GetP refs) (λ u i. instr.KeepP u i) ++ keeps rest nums (refs + 1))
    by_stack on_nums on_refs true =
        join (kept_at param.place (instr.GetM nums) (λ u i. instr.KeepM u i)) _ (kept_num_is param.place nums h.0 (omega arith)) on_nums
    by_stack on_nums on_refs false =
        join (kept_at param.place (instr.GetP refs) (λ u i. instr.KeepP u i)) _ (kept_ref_is param.place refs h.0 (omega arith)) on_refs

-- A body.

framed_by : (of : BodyNode) → IsCounted of → slot_count of ≤ most_slots → HasFrame of
framed_by of counted few = let room = counted.room in (omega arith, omega arith)

small_by : (of : BodyNode) → IsCounted of → slot_count of ≤ most_slots → Each (λ (s : Slot). s.slot < 2 ^ 32) (slots_of_body of)
small_by of counted few =
    each_map (λ (s : Slot). s.slot < locals_on s.is_number of) (λ (s : Slot). s.slot < 2 ^ 32) (slots_of_body of) (λ s below. by_stack s.is_number s.slot below)
    counted.slots
  where
    by_stack : (stack : Bool) (slot : ℕ) → slot < locals_on stack of → slot < 2 ^ 32
    by_stack true slot below = let room = counted.room in omega arith
    by_stack false slot below = let room = counted.room in omega arith

pub widths_body : (params : List Param) (gives : TyView) (tree : Node) (scope : Option (List ℕ)) →
    widths (body_instrs params gives tree scope) ≡ size_entered scope + (size_keeps params + (size tree + 5))
widths_body params gives tree scope =
    let first = size_entered scope + size_keeps params in
    let k = 1 + count_scope scope in
    let last = emit tree first k ++ instr.Return (choice.kind_of gives) ∷ [] in
    let a = widths_append (entered scope 1) (keeps params 0 0 ++ last) in
    let b = widths_append (keeps params 0 0) last in
    let c = widths_append (emit tree first k) (instr.Return (choice.kind_of gives) ∷ []) in
    let d = widths_entered scope 1 in let e = widths_keeps params 0 0 in let f = width_emit tree first k in
    omega arith

body_spelled : (scopes : List (List Field)) (of : BodyNode) → IsBody scopes of → IsCounted of → IsWithinLimits of → HasUnit of
body_spelled scopes (body params gives tree scope line) (typed.of_params opens takes is t) counted within =
    let first = size_entered scope + size_keeps params in
    let code : widths (body_instrs params gives tree scope) < 2 ^ 32 =
    subst (λ (n : ℕ). n < 2 ^ 32) (length_spelled (body_instrs params gives tree scope)) within.bytes in
    let all : widths (body_instrs params gives tree scope) ≡ size_entered scope + (size_keeps params + (size tree + 5)) = widths_body params gives tree scope in
    let named = count_small tree in
    let scoped = scope_count scope in
    let few = within.slots in
    let small = small_by (body params gives tree scope line) counted within.slots in
    let good : Good (2 ^ 32) tree = record {
      typed_clause = clause t;
      deep = omega arith;
      slots = each_right (λ (s : Slot). s.slot < 2 ^ 32) (slots_of_params params) (slots_in tree) small;
    } in
    join (entered scope 1) _ (entered_is scope 1 (omega arith))
    (join (keeps params 0 0) _ (keeps_are params 0 0 within.fields.0 (omega arith) (omega arith))
    (join (emit tree first (1 + count_scope scope)) _ (spell tree first (1 + count_scope scope) good within.fields.1 (omega arith) (omega arith))
    (kind_is gives, tt)))

spelled_all : (all : List BodyNode) → Each Inner all → AllByRecursion IsWithinLimits all → AllByRecursion HasUnit all
spelled_all [] h within = tt
spelled_all (of ∷ rest) h within = (body_spelled h.0.around of h.0.typed h.0.counted within.0, spelled_all rest h.1 within.1)

framed_all : (all : List BodyNode) → Each Inner all → AllByRecursion IsWithinLimits all → AllByRecursion HasFrame all
framed_all [] h within = tt
framed_all (of ∷ rest) h within = (framed_by of h.0.counted within.0.slots, framed_all rest h.1 within.1)

pub has_unit : (scopes : List (List Field)) (of : BodyNode) → IsBody scopes of → AllByRecursion IsWithinLimits (bodies of) → IsUnitOf of (unit_of of)
has_unit scopes of is_body within =
    let inner = bodies_inner is_body in
    record { is = refl; spelled_out = spelled_all (bodies of) inner within; framed = framed_all (bodies of) inner within }

pub one_unit : (of : BodyNode) (made other : UnitView) → IsUnitOf of made → IsUnitOf of other → made ≡ other
one_unit of made other h k = h.is ∙ sym k.is
