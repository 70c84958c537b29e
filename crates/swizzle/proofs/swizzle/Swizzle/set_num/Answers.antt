use Rattle.std.proofs.Common.{◌+◌, arith, refl, set}
use Rattle.swizzle.specs.Heap.{header_at, object_at, with_object}
use Rattle.swizzle.specs.View.{noted_of, beside_of}
use Rattle.swizzle.proofs.ObjectLaws.{set_of_num, IsFit-num}
use Rattle.swizzle.proofs.KeptLaws.{inside_kept, lies_in, lies-given, rewritten_same, Again}
use Rattle.swizzle.proofs.StandLaws.{stands-object, like_nums}
use Rattle.swizzle.proofs.swizzle.Swizzle.set_num.Goals as goal

pub overflow_add-place : goal.overflow_add-place
overflow_add-place c =
    let l = lies_in c.self.inside _ c.args.object c.self.view_is c.self.invariant c.requires.held in
    omega (arith, l.to, l.small, c.first_num.ensures)

pub set_word-requires : goal.set_word-requires
set_word-requires c =
    let l = lies_in c.self.inside _ c.args.object c.self.view_is c.self.invariant c.requires.held in
    let place = c.first_num.ensures in
    lies-given c.self.inside.area _ _ (4 + (header_at c.args.self.now c.args.object).refs + c.args.index) _ l (omega arith) (omega arith)

written : (c : goal.After-set_word) → Again c.set_word.new.self.words c.set_word.new.self.size (noted_of c.self.inside) (beside_of c.self.inside) (with_object c.args.self.now c.args.object (record (object_at c.args.self.now c.args.object) { nums = set (object_at c.args.self.now c.args.object).nums c.args.index c.args.value }))
written c =
    let l = lies_in c.self.inside _ c.args.object c.self.view_is c.self.invariant c.requires.held in
    let place = c.first_num.ensures in
    let o = object_at c.args.self.now c.args.object in
    rewritten_same c.self.inside c.set_word.new.self c.args.self.now c.args.object (4 + o.header.refs + c.args.index) _ c.args.value
    (record o { nums = set o.nums c.args.index c.args.value })
    c.self.view_is c.self.invariant l c.set_word.ensures.written (omega arith) (omega arith) (set_of_num o c.args.index c.args.value l.split.fit) (IsFit-num o c.args.index c.args.value l.split.fit (omega arith)) refl (inside_kept c.args.self.now c.args.object l.heap_is c.requires.held)

pub invariant_of-self : goal.invariant_of-self
invariant_of-self c = (written c).kept

pub returns-clause-written : goal.returns-clause-written
returns-clause-written c = (written c).seen

pub returns-clause-stands : goal.returns-clause-stands
returns-clause-stands c = stands-object c.args.self.now _ c.args.object _ (written c).seen c.requires.held (like_nums _ _)
