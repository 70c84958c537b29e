use Rattle.std.proofs.Common.{◌≡◌, ◌∙◌, ◌+◌, nat_eq, refl, ap, arith, bit_and}
use Rattle.std.proofs.lemmas.Nat.{and_mask}
use Rattle.swizzle.specs.Heap.{object_at}
use Rattle.obj_layout.specs.Kind.{kind_number}
use Rattle.obj_layout.specs.contracts.kind.Kind.{the_type}
use Rattle.obj_layout.specs.declared.kind.Kind.{Kind}
use Rattle.obj_layout.specs.declared.kind.Kind.TheVariants.{Text, Structure, Vector, Scope, Closure, Code, Table, Node, Directory}
use denote.Enum.Declared.{tag_of}
use Rattle.swizzle.proofs.ObjectLaws.{kind_of_word}
use Rattle.swizzle.proofs.KeptLaws.{lies_in, lies-given, lies-word_at}
use Rattle.swizzle.proofs.swizzle.Swizzle.is_kind.Goals as goal

number : (k : Kind) → tag_of the_type k + 1 ≡ kind_number k
number Text = refl
number Structure = refl
number Vector = refl
number Scope = refl
number Closure = refl
number Code = refl
number Table = refl
number Node = refl
number Directory = refl

pub word-requires : goal.word-requires
word-requires c =
    let l = lies_in c.self.inside _ c.args.object c.self.view_is c.self.invariant c.requires in
    lies-given c.self.inside.area _ _ 0 _ l (omega arith) (omega arith)

pub returns : goal.returns
returns c =
    let l = lies_in c.self.inside _ c.args.object c.self.view_is c.self.invariant c.requires in
    let word = kind_of_word (object_at c.args.self.now c.args.object) c.word.result l.split.fit (lies-word_at _ _ c.args.object 0 _ _ l (omega arith) (omega arith) c.word.ensures) in
    ap (nat_eq (bit_and c.word.result 255)) (number c.args.kind) ∙ ap (λ n. nat_eq n (kind_number c.args.kind)) (and_mask c.word.result 8 ∙ word)
