use Rattle.std.proofs.Common.{◌≡◌, ◌∙◌, ◌++◌, ◌∷◌, [], ◌+◌, ◌%◌, ℕ, List, ap, sym, arith, refl, length, vec_capacity, subst}
use Rattle.swizzle.specs.Objects.{replace_from}
use Rattle.swizzle.specs.Heap.{with_object, Heap, AreNoted, is_assigned, is_reached, object_at, flagged}
use Rattle.swizzle.specs.View.{beside_of}
use Rattle.swizzle.specs.Kept.{Noted, with_room}
use Rattle.swizzle.proofs.ObjectLaws.{elsewhere}
use Rattle.swizzle.proofs.NotedLaws.{noted-set, noted-replaced, flag_is_not, flagged-is, flagged-reached}
use Rattle.swizzle.proofs.KeptLaws.{Again, heap_with, inside_kept, lies_in, lies-given, lies-word_at, rewritten, set_of_flag, first_word-lt, IsFit-flagged, room_to_mark}
use Rattle.swizzle.proofs.StandLaws.{stands-object, stands-lists, like_flags}
use Rattle.swizzle.proofs.swizzle.Swizzle.note.Goals as goal

pub word-first-requires : goal.word-first-requires
word-first-requires c =
    let l = lies_in c.self.inside _ c.args.object c.self.view_is c.self.invariant c.requires.held in
    lies-given c.self.inside.area _ _ 0 _ l (omega arith) (omega arith)

pub overflow_add-first : goal.overflow_add-first
overflow_add-first c =
    let l = lies_in c.self.inside _ c.args.object c.self.view_is c.self.invariant c.requires.held in
    let fits = first_word-lt (object_at c.args.self.now c.args.object) c.word-first.result l.split.fit (lies-word_at _ _ c.args.object 0 _ _ l (omega arith) (omega arith) c.word-first.ensures) in
    omega (arith, fits)

pub set_word-requires : goal.set_word-requires
set_word-requires c =
    let l = lies_in c.self.inside _ c.args.object c.self.view_is c.self.invariant c.requires.held in
    lies-given c.self.inside.area _ _ 0 _ l (omega arith) (omega arith)

pub unreachable-requires : goal.unreachable-requires
unreachable-requires c =
    let l = lies_in c.self.inside _ c.args.object c.self.view_is c.self.invariant c.requires.held in
    let size = ap (λ (h : Heap). h.size) c.self.view_is in
    let list = ap length (ap (λ (h : Heap). h.assigned) c.self.view_is) in
    omega (arith, room_to_mark c.args.self.now c.args.object _ (vec_capacity c.self.inside.assigned) l.heap_is l.is c.requires.plain (omega (arith, c.self.invariant.for_assigned)), c.in-Err.ensures.full, c.self.inside.assigned.ok.0)

-- the lists with the object at the end of that of the assigned
noted : goal.In-Ok → Noted
noted c = record { assigned = c.push.new.self.items; reached = c.self.inside.reached.items }

written : (c : goal.In-Ok) → Again c.set_word.new.self.words c.set_word.new.self.size (noted c) (with_room (beside_of c.self.inside) (vec_capacity c.push.new.self) (vec_capacity c.self.inside.reached))
    (heap_with (replace_from 1 c.args.self.now.objects c.args.object (flagged (object_at c.args.self.now c.args.object))) c.args.self.now.size (noted c))
unfolding noted
written c =
    let now = c.args.self.now in
    let at = c.args.object in
    let l = lies_in c.self.inside _ c.args.object c.self.view_is c.self.invariant c.requires.held in
    let o = object_at now at in
    let list : c.push.new.self.items ≡ now.assigned ++ at ∷ [] = c.in-Ok.ensures.items ∙ ap (λ (h : Heap). h.assigned ++ at ∷ []) c.self.view_is in
    let other : now.reached ≡ c.self.inside.reached.items = ap (λ (h : Heap). h.reached) (sym c.self.view_is) in
    let plain = flag_is_not o c.requires.plain in
    let there = noted-set is_assigned now.objects now.assigned at o (flagged o) l.heap_is.noted l.is refl plain (flagged-is o plain) in
    let stays = noted-replaced is_reached now.objects now.reached at o (flagged o) l.heap_is.walked l.is refl (flagged-reached o plain) in
    rewritten c.self.inside c.set_word.new.self (noted c) (vec_capacity c.push.new.self) (vec_capacity c.self.inside.reached) now at 0 _ (c.word-first.result + 256) (flagged o)
    c.self.view_is c.self.invariant l c.set_word.ensures.written (omega arith) (omega arith)
    (set_of_flag o c.word-first.result (lies-word_at _ _ at 0 _ _ l (omega arith) (omega arith) c.word-first.ensures))
    (IsFit-flagged o l.split.fit c.requires.plain) refl refl refl
    (subst (AreNoted is_assigned (replace_from 1 now.objects at (flagged o))) (sym list) there)
    (subst (AreNoted is_reached (replace_from 1 now.objects at (flagged o))) other stays)
    (omega (arith, c.self.invariant.for_assigned, c.in-Ok.ensures.capacity)) c.self.invariant.for_reached
    (inside_kept now at l.heap_is c.requires.held)

pub invariant_of-self : goal.invariant_of-self
unfolding noted
invariant_of-self c = (written c).kept

pub returns-clause-written : goal.returns-clause-written
unfolding noted
returns-clause-written c =
    let now = c.args.self.now in
    let o = object_at now c.args.object in
    let list : c.push.new.self.items ≡ now.assigned ++ c.args.object ∷ [] = c.in-Ok.ensures.items ∙ ap (λ (h : Heap). h.assigned ++ c.args.object ∷ []) c.self.view_is in
    let marked : Heap = heap_with (replace_from 1 now.objects c.args.object (flagged o)) now.size (record { assigned = now.assigned ++ c.args.object ∷ []; reached = now.reached }) in
    (written c).seen
    ∙ ap (λ (x : List ℕ). heap_with (replace_from 1 now.objects c.args.object (flagged o)) now.size (record { assigned = x; reached = c.self.inside.reached.items })) list
    ∙ ap (λ (x : List ℕ). heap_with (replace_from 1 now.objects c.args.object (flagged o)) now.size (record { assigned = now.assigned ++ c.args.object ∷ []; reached = x })) (ap (λ (h : Heap). h.reached) c.self.view_is)
    ∙ sym (elsewhere (o.header.flags % 2) 1 now marked c.requires.plain)

pub returns-clause-stands : goal.returns-clause-stands
unfolding noted
returns-clause-stands c =
    let now = c.args.self.now in
    let o = object_at now c.args.object in
    stands-lists now (with_object now c.args.object (flagged o)) _ c.push.new.self.items c.self.inside.reached.items (written c).seen (stands-object now _ c.args.object (flagged o) refl c.requires.held (like_flags o))
