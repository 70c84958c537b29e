use Rattle.std.proofs.Common.{◌≡◌, ◌∙◌, ◌+◌, ap, arith, refl, set}
use Rattle.obj_layout.specs.Reference.{IsReference, reference_word}
use Rattle.swizzle.specs.Objects.{object_words}
use Rattle.swizzle.specs.Heap.{object_at, ref_at, with_object}
use Rattle.swizzle.specs.View.{noted_of, beside_of}
use Rattle.swizzle.proofs.ObjectLaws.{word_of_ref, set_of_ref, IsFit-ref, AreReferences-at}
use Rattle.swizzle.proofs.KeptLaws.{inside_kept, inside_copied, lies_in, lies-given, lies-word_at, rewritten_same, Again}
use Rattle.swizzle.proofs.StandLaws.{stands-object}
use Rattle.swizzle.proofs.JointLaws.{like_ref}
use Rattle.swizzle.proofs.swizzle.Swizzle.copy_ref.Goals as goal

pub overflow_add-from : goal.overflow_add-from
overflow_add-from c =
    let l = lies_in c.self.inside _ c.args.from c.self.view_is c.self.invariant c.requires.from_held in
    omega (arith, l.to, l.small)

pub overflow_add-from-2 : goal.overflow_add-from-2
overflow_add-from-2 c =
    let l = lies_in c.self.inside _ c.args.from c.self.view_is c.self.invariant c.requires.from_held in
    omega (arith, l.to, l.small)

pub word-word-requires : goal.word-word-requires
word-word-requires c =
    let l = lies_in c.self.inside _ c.args.from c.self.view_is c.self.invariant c.requires.from_held in
    lies-given c.self.inside.area _ _ (4 + c.args.from_slot) _ l (omega arith) (omega arith)

pub overflow_add-to : goal.overflow_add-to
overflow_add-to c =
    let l = lies_in c.self.inside _ c.args.to c.self.view_is c.self.invariant c.requires.to_held in
    omega (arith, l.to, l.small)

pub overflow_add-to-2 : goal.overflow_add-to-2
overflow_add-to-2 c =
    let l = lies_in c.self.inside _ c.args.to c.self.view_is c.self.invariant c.requires.to_held in
    omega (arith, l.to, l.small)

pub set_word-requires : goal.set_word-requires
set_word-requires c =
    let l = lies_in c.self.inside _ c.args.to c.self.view_is c.self.invariant c.requires.to_held in
    lies-given c.self.inside.area _ _ (4 + c.args.to_slot) _ l (omega arith) (omega arith)

written : (c : goal.After-set_word) → Again c.set_word.new.self.words c.set_word.new.self.size (noted_of c.self.inside) (beside_of c.self.inside) (with_object c.args.self.now c.args.to (record (object_at c.args.self.now c.args.to) { refs = set (object_at c.args.self.now c.args.to).refs c.args.to_slot (ref_at c.args.self.now c.args.from c.args.from_slot) }))
written c =
    let now = c.args.self.now in
    let f = lies_in c.self.inside _ c.args.from c.self.view_is c.self.invariant c.requires.from_held in
    let l = lies_in c.self.inside _ c.args.to c.self.view_is c.self.invariant c.requires.to_held in
    let o = object_at now c.args.to in
    let source = object_at now c.args.from in
    let to = ref_at now c.args.from c.args.from_slot in
    let fits : IsReference to = AreReferences-at source.refs c.args.from_slot f.split.fit.references in
    let word : c.word-word.result ≡ reference_word to =
    lies-word_at _ _ c.args.from (4 + c.args.from_slot) _ _ f (omega arith) (omega arith) c.word-word.ensures ∙ word_of_ref source c.args.from_slot f.split.fit c.requires.from_below in
    rewritten_same c.self.inside c.set_word.new.self now c.args.to (4 + c.args.to_slot) _ c.word-word.result
    (record o { refs = set o.refs c.args.to_slot to })
    c.self.view_is c.self.invariant l c.set_word.ensures.written (omega arith) (omega arith) (ap (set (object_words o) (4 + c.args.to_slot)) word ∙ set_of_ref o c.args.to_slot to l.split.fit c.requires.to_below)
    (IsFit-ref o c.args.to_slot to l.split.fit fits) refl
    (inside_copied now c.args.to c.args.to_slot to l.heap_is c.requires.to_held (λ i e. inside_kept now c.args.from l.heap_is c.requires.from_held c.args.from_slot i e))

pub invariant_of-self : goal.invariant_of-self
invariant_of-self c = (written c).kept

pub returns-clause-written : goal.returns-clause-written
returns-clause-written c = (written c).seen

pub returns-clause-stands : goal.returns-clause-stands
returns-clause-stands c = stands-object c.args.self.now _ c.args.to _ (written c).seen c.requires.to_held (like_ref c.args.self.now c.args.to c.args.to_slot (ref_at c.args.self.now c.args.from c.args.from_slot))
