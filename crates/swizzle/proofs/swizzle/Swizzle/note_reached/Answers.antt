use Rattle.std.proofs.Common.{◌≡◌, ◌∙◌, ◌++◌, ◌∷◌, [], ◌+◌, ◌/◌, ◌%◌, ℕ, List, ap, sym, arith, refl, length, vec_capacity, subst}
use Rattle.swizzle.specs.Objects.{replace_from}
use Rattle.swizzle.specs.Heap.{with_object, Heap, AreNoted, is_assigned, is_reached, object_at, reach_flagged}
use Rattle.swizzle.specs.View.{beside_of}
use Rattle.swizzle.specs.Kept.{Noted, with_room}
use Rattle.swizzle.proofs.ObjectLaws.{elsewhere}
use Rattle.swizzle.proofs.NotedLaws.{noted-set, noted-replaced, reach_is_not, reach_flagged-is, reach_flagged-assigned}
use Rattle.swizzle.proofs.KeptLaws.{Again, heap_with, inside_kept, lies_in, lies-given, lies-word_at, rewritten, set_of_reach, first_word-lt, IsFit-reach_flagged, room_to_reach}
use Rattle.swizzle.proofs.StandLaws.{stands-object, stands-lists, like_reach_flags}
use Rattle.swizzle.proofs.swizzle.Swizzle.note_reached.Goals as goal

pub word-first-requires : goal.word-first-requires
word-first-requires c =
    let l = lies_in c.self.inside _ c.args.object c.self.view_is c.self.invariant c.requires.held in
    lies-given c.self.inside.area _ _ 0 _ l (omega arith) (omega arith)

pub overflow_add-first : goal.overflow_add-first
overflow_add-first c =
    let l = lies_in c.self.inside _ c.args.object c.self.view_is c.self.invariant c.requires.held in
    let fits = first_word-lt (object_at c.args.self.now c.args.object) c.word-first.result l.split.fit (lies-word_at _ _ c.args.object 0 _ _ l (omega arith) (omega arith) c.word-first.ensures) in
    omega (arith, fits)

pub set_word-requires : goal.set_word-requires
set_word-requires c =
    let l = lies_in c.self.inside _ c.args.object c.self.view_is c.self.invariant c.requires.held in
    lies-given c.self.inside.area _ _ 0 _ l (omega arith) (omega arith)

pub unreachable-requires : goal.unreachable-requires
unreachable-requires c =
    let l = lies_in c.self.inside _ c.args.object c.self.view_is c.self.invariant c.requires.held in
    let size = ap (λ (h : Heap). h.size) c.self.view_is in
    let list = ap length (ap (λ (h : Heap). h.reached) c.self.view_is) in
    omega (arith, room_to_reach c.args.self.now c.args.object _ (vec_capacity c.self.inside.reached) l.heap_is l.is c.requires.plain (omega (arith, c.self.invariant.for_assigned)), c.in-Err.ensures.full, c.self.inside.reached.ok.0)

-- the lists with the object at the end of that of the reached
noted : goal.In-Ok → Noted
noted c = record { assigned = c.self.inside.assigned.items; reached = c.push.new.self.items }

written : (c : goal.In-Ok) → Again c.set_word.new.self.words c.set_word.new.self.size (noted c) (with_room (beside_of c.self.inside) (vec_capacity c.self.inside.assigned) (vec_capacity c.push.new.self))
    (heap_with (replace_from 1 c.args.self.now.objects c.args.object (reach_flagged (object_at c.args.self.now c.args.object))) c.args.self.now.size (noted c))
unfolding noted
written c =
    let now = c.args.self.now in
    let at = c.args.object in
    let l = lies_in c.self.inside _ c.args.object c.self.view_is c.self.invariant c.requires.held in
    let o = object_at now at in
    let list : c.push.new.self.items ≡ now.reached ++ at ∷ [] = c.in-Ok.ensures.items ∙ ap (λ (h : Heap). h.reached ++ at ∷ []) c.self.view_is in
    let other : now.assigned ≡ c.self.inside.assigned.items = ap (λ (h : Heap). h.assigned) (sym c.self.view_is) in
    let plain = reach_is_not o c.requires.plain in
    let there = noted-set is_reached now.objects now.reached at o (reach_flagged o) l.heap_is.walked l.is refl plain (reach_flagged-is o plain) in
    let stays = noted-replaced is_assigned now.objects now.assigned at o (reach_flagged o) l.heap_is.noted l.is refl (reach_flagged-assigned o) in
    rewritten c.self.inside c.set_word.new.self (noted c) (vec_capacity c.self.inside.assigned) (vec_capacity c.push.new.self) now at 0 _ (c.word-first.result + 512) (reach_flagged o)
    c.self.view_is c.self.invariant l c.set_word.ensures.written (omega arith) (omega arith)
    (set_of_reach o c.word-first.result (lies-word_at _ _ at 0 _ _ l (omega arith) (omega arith) c.word-first.ensures))
    (IsFit-reach_flagged o l.split.fit c.requires.plain) refl refl refl
    (subst (AreNoted is_assigned (replace_from 1 now.objects at (reach_flagged o))) other stays)
    (subst (AreNoted is_reached (replace_from 1 now.objects at (reach_flagged o))) (sym list) there)
    c.self.invariant.for_assigned (omega (arith, c.self.invariant.for_reached, c.in-Ok.ensures.capacity))
    (inside_kept now at l.heap_is c.requires.held)

pub invariant_of-self : goal.invariant_of-self
unfolding noted
invariant_of-self c = (written c).kept

pub returns-clause-written : goal.returns-clause-written
unfolding noted
returns-clause-written c =
    let now = c.args.self.now in
    let o = object_at now c.args.object in
    let list : c.push.new.self.items ≡ now.reached ++ c.args.object ∷ [] = c.in-Ok.ensures.items ∙ ap (λ (h : Heap). h.reached ++ c.args.object ∷ []) c.self.view_is in
    let marked : Heap = heap_with (replace_from 1 now.objects c.args.object (reach_flagged o)) now.size (record { assigned = now.assigned; reached = now.reached ++ c.args.object ∷ [] }) in
    (written c).seen
    ∙ ap (λ (x : List ℕ). heap_with (replace_from 1 now.objects c.args.object (reach_flagged o)) now.size (record { assigned = c.self.inside.assigned.items; reached = x })) list
    ∙ ap (λ (x : List ℕ). heap_with (replace_from 1 now.objects c.args.object (reach_flagged o)) now.size (record { assigned = x; reached = now.reached ++ c.args.object ∷ [] })) (ap (λ (h : Heap). h.assigned) c.self.view_is)
    ∙ sym (elsewhere (o.header.flags / 2 % 2) 1 now marked c.requires.plain)

pub returns-clause-stands : goal.returns-clause-stands
unfolding noted
returns-clause-stands c =
    let now = c.args.self.now in
    let o = object_at now c.args.object in
    stands-lists now (with_object now c.args.object (reach_flagged o)) _ c.self.inside.assigned.items c.push.new.self.items (written c).seen (stands-object now _ c.args.object (reach_flagged o) refl c.requires.held (like_reach_flags o))
