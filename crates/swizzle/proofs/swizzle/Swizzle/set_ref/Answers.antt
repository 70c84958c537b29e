use Rattle.std.proofs.Common.{◌≡◌, ◌+◌, ap, sym, ◌∙◌, arith, refl, set}
use Rattle.swizzle.specs.Heap.{object_at, with_object}
use Rattle.std.proofs.Common.{subst}
use Rattle.swizzle.specs.Objects.{object_words}
use Rattle.obj_layout.specs.Reference.{reference_word, IsReference}
use Rattle.swizzle.specs.Heap.{reference_to}
use Rattle.swizzle.specs.View.{noted_of, beside_of}
use Rattle.swizzle.proofs.ObjectLaws.{set_of_ref, IsFit-ref}
use Rattle.swizzle.proofs.KeptLaws.{inside_set, lies_in, lies-given, rewritten_same, Again, target_fits}
use Rattle.swizzle.proofs.StandLaws.{stands-object}
use Rattle.swizzle.proofs.JointLaws.{like_ref}
use Rattle.swizzle.proofs.swizzle.Swizzle.set_ref.Goals as goal

pub overflow_add-object : goal.overflow_add-object
overflow_add-object c =
    let l = lies_in c.self.inside _ c.args.object c.self.view_is c.self.invariant c.requires.held in
    omega (arith, l.to, l.small)

pub overflow_add-object-2 : goal.overflow_add-object-2
overflow_add-object-2 c =
    let l = lies_in c.self.inside _ c.args.object c.self.view_is c.self.invariant c.requires.held in
    omega (arith, l.to, l.small)

pub word_of-requires : goal.word_of-requires
word_of-requires c =
    subst IsReference (sym c.denoting.ensures) (target_fits c.self.inside c.args.self.now c.args.to c.self.view_is c.self.invariant c.requires.target)

pub set_word-requires : goal.set_word-requires
set_word-requires c =
    let l = lies_in c.self.inside _ c.args.object c.self.view_is c.self.invariant c.requires.held in
    lies-given c.self.inside.area _ _ (4 + c.args.slot) _ l (omega arith) (omega arith)

written : (c : goal.After-set_word) → Again c.set_word.new.self.words c.set_word.new.self.size (noted_of c.self.inside) (beside_of c.self.inside) (with_object c.args.self.now c.args.object (record (object_at c.args.self.now c.args.object) { refs = set (object_at c.args.self.now c.args.object).refs c.args.slot (reference_to c.args.to) }))
written c =
    let l = lies_in c.self.inside _ c.args.object c.self.view_is c.self.invariant c.requires.held in
    let o = object_at c.args.self.now c.args.object in
    let to = reference_to c.args.to in
    let fits = target_fits c.self.inside c.args.self.now c.args.to c.self.view_is c.self.invariant c.requires.target in
    let word : c.word_of.result ≡ reference_word to = c.word_of.ensures ∙ ap reference_word c.denoting.ensures in
    rewritten_same c.self.inside c.set_word.new.self c.args.self.now c.args.object (4 + c.args.slot) _ c.word_of.result
    (record o { refs = set o.refs c.args.slot to })
    c.self.view_is c.self.invariant l c.set_word.ensures.written (omega arith) (omega arith) (ap (set (object_words o) (4 + c.args.slot)) word ∙ set_of_ref o c.args.slot to l.split.fit c.requires.below) (IsFit-ref o c.args.slot to l.split.fit fits) refl (inside_set c.args.self.now c.args.object c.args.slot c.args.to l.heap_is c.requires.held c.requires.target)

pub invariant_of-self : goal.invariant_of-self
invariant_of-self c = (written c).kept

pub returns-clause-written : goal.returns-clause-written
returns-clause-written c = (written c).seen

pub returns-clause-stands : goal.returns-clause-stands
returns-clause-stands c = stands-object c.args.self.now _ c.args.object _ (written c).seen c.requires.held (like_ref c.args.self.now c.args.object c.args.slot (reference_to c.args.to))
