use Rattle.std.proofs.Common.{◌≡◌, ◌∙◌, List, ℕ, ap, sym, subst, arith, vec_capacity}
use Rattle.std.proofs.lemmas.List.{append-nil, nil_from_length}
use Rattle.swizzle.specs.Objects.{replace_from}
use Rattle.swizzle.specs.Heap.{Heap, IsHeap, object_at, reach_unflagged}
use Rattle.swizzle.specs.inside.Clearing.{AreLeft}
use Rattle.swizzle.specs.Kept.{heap_from}
use Rattle.swizzle.specs.View.{beside_of}
use Rattle.swizzle.specs.Kept.{with_room}
use Rattle.swizzle.proofs.KeptLaws.{Again, heap_with, lies-given}
use Rattle.swizzle.proofs.ClearLaws.{last-reached, last-reached_word, without_reached, left-again, left-step, left-all}
use Rattle.swizzle.proofs.swizzle.Swizzle.leave_last.Goals as goal

pub word-first-requires : goal.word-first-requires
word-first-requires c =
    let l = last-reached c.self.inside _ c.pop.new.self.items c.in-Some.object c.self.view_is c.self.invariant c.in-Some.ensures.items in
    lies-given c.self.inside.area _ _ 0 _ l.lies (omega arith) (omega arith)

pub overflow_sub-first : goal.overflow_sub-first
overflow_sub-first c =
    let l = last-reached c.self.inside _ c.pop.new.self.items c.in-Some.object c.self.view_is c.self.invariant c.in-Some.ensures.items in
    last-reached_word c.self.inside _ c.pop.new.self.items c.in-Some.object c.word-first.result l c.word-first.ensures

pub set_word-requires : goal.set_word-requires
set_word-requires c =
    let l = last-reached c.self.inside _ c.pop.new.self.items c.in-Some.object c.self.view_is c.self.invariant c.in-Some.ensures.items in
    lies-given c.self.inside.area _ _ 0 _ l.lies (omega arith) (omega arith)

-- an empty list stays
same : (c : goal.In_default) → c.pop.new.self.items ≡ c.self.inside.reached.items
same c = sym (append-nil c.pop.new.self.items) ∙ sym c.in_default.ensures.items

pub invariant_of-self : goal.invariant_of-self
invariant_of-self c =
    let k = c.self.invariant in
    record {
      cut = k.cut;
      heap = subst (λ (xs : List ℕ). IsHeap (heap_from c.self.inside.area.words c.self.inside.area.size (without_reached c.self.inside xs))) (sym (same c)) k.heap;
      for_assigned = k.for_assigned;
      for_reached = omega (arith, k.for_reached, c.in_default.ensures.capacity);
      pids = record { some = k.pids.some; chained = k.pids.chained; greatest = k.pids.greatest; for_fetch = k.pids.for_fetch };
    }

pub returns-in_default-clause-all : goal.returns-in_default-clause-all
returns-in_default-clause-all c none =
    let now = c.args.self.now in
    let seen = ap (λ (xs : List ℕ). heap_from c.self.inside.area.words c.self.inside.area.size (without_reached c.self.inside xs)) (same c) ∙ c.self.view_is in
    let empty = nil_from_length c.self.inside.reached.items (sym c.self.inside.reached.ok.0 ∙ c.in_default.ensures.cases.0) in
    subst (AreLeft now) (sym seen) (left-all now (subst IsHeap c.self.view_is c.self.invariant.heap) (ap (λ (h : Heap). h.reached) (sym c.self.view_is) ∙ empty))

written : (c : goal.After-set_word) → Again c.set_word.new.self.words c.set_word.new.self.size (without_reached c.self.inside c.pop.new.self.items) (with_room (beside_of c.self.inside) (vec_capacity c.self.inside.assigned) (vec_capacity c.pop.new.self))
    (heap_with (replace_from 1 c.args.self.now.objects c.in-Some.object (reach_unflagged (object_at c.args.self.now c.in-Some.object))) c.args.self.now.size (without_reached c.self.inside c.pop.new.self.items))
written c =
    let l = last-reached c.self.inside _ c.pop.new.self.items c.in-Some.object c.self.view_is c.self.invariant c.in-Some.ensures.items in
    left-again c.self.inside c.set_word.new.self c.pop.new.self.items (vec_capacity c.pop.new.self) _ c.in-Some.object c.word-first.result c.self.view_is c.self.invariant l
    c.word-first.ensures c.set_word.ensures.written (omega (arith, c.self.invariant.for_reached, c.in-Some.ensures.capacity))

pub invariant_of-self-2 : goal.invariant_of-self-2
invariant_of-self-2 c = (written c).kept

pub returns-clause-one : goal.returns-clause-one
returns-clause-one c some =
    let l = last-reached c.self.inside _ c.pop.new.self.items c.in-Some.object c.self.view_is c.self.invariant c.in-Some.ensures.items in
    left-step c.self.inside c.args.self.now _ c.pop.new.self.items c.in-Some.object c.self.view_is c.in-Some.ensures.items l (written c).seen
