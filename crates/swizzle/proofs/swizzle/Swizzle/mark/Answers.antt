use Rattle.std.proofs.Common.{◌++◌, ◌∷◌, [], ◌%◌, sym, arith}
use Rattle.swizzle.specs.Objects.{replace_from}
use Rattle.swizzle.specs.Heap.{object_at, flagged}
use Rattle.swizzle.proofs.ObjectLaws.{here}
use Rattle.swizzle.proofs.KeptLaws.{heap_with, lies_in, lies-given, lies-flag}
use Rattle.swizzle.proofs.swizzle.Swizzle.mark.Goals as goal

pub word-first-requires : goal.word-first-requires
word-first-requires c =
    let l = lies_in c.self.inside _ c.args.object c.self.view_is c.self.invariant c.requires in
    lies-given c.self.inside.area _ _ 0 _ l (omega arith) (omega arith)

pub returns-then-first-eq1-clause-written : goal.returns-then-first-eq1-clause-written
returns-then-first-eq1-clause-written c =
    let now = c.args.self.now in
    let o = object_at now c.args.object in
    let l = lies_in c.self.inside _ c.args.object c.self.view_is c.self.invariant c.requires in
    let flag = lies-flag _ _ c.args.object c.word-first.result l c.word-first.ensures in
    sym (here (o.header.flags % 2) 1 now (heap_with (replace_from 1 now.objects c.args.object (flagged o)) now.size (record { assigned = now.assigned ++ c.args.object ∷ []; reached = now.reached })) (omega (arith, c.if-first-eq1.true)))

-- the object isn't assigned yet
pub note-requires-clause-plain : goal.note-requires-clause-plain
note-requires-clause-plain c e =
    let l = lies_in c.self.inside _ c.args.object c.self.view_is c.self.invariant c.requires in
    let flag = lies-flag _ _ c.args.object c.word-first.result l c.word-first.ensures in
    c.if-first-eq1.false (omega arith)
