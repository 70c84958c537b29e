use Rattle.std.proofs.Common.{Bool, ap, sym, ◌∙◌, ◌≡◌, ◌^◌, ℕ, length, refl, if◌then◌else◌, to_z, of_z, w32}
use Rattle.heap_places.specs.ps_heap.Objects.{is_vector}
use Rattle.heap_places.specs.obj_layout.Stored.{damage}
use Rattle.heap_places.specs.swizzle.Joint.{shown_at}
use Rattle.heap_places.specs.text_forms.Forms.{is_number_form}
use Rattle.heap_places.specs.Words.{int_in}
use Rattle.heap_ops.proofs.ShapeLaws.{not-eq, wrong-rest, wrong-word, wrong-bounds, shaped, long-of, bound-of}
use Rattle.heap_ops.proofs.shape.find_shape.Goals as goal

pub returns-then-rest-wanted : goal.returns-then-rest-wanted
returns-then-rest-wanted c =
    let it = shown_at c.args.sw.now c.args.vector in
    let rest : c.rest_of-rest.result ≡ (if is_number_form c.args.form then length it.refs else length it.nums) =
    c.rest_of-rest.ensures ∙ ap (λ (b : Bool). if b then length it.refs else length it.nums) c.is_number-number.ensures in
    let wanted : c.rest_wanted-wanted.result ≡ (if is_number_form c.args.form then 1 else 2) =
    c.rest_wanted-wanted.ensures ∙ ap (λ (b : Bool). if b then 1 else 2) c.is_number-number.ensures in
    wrong-rest it c.args.form (not-eq _ _ (λ e. c.if-rest-wanted.true (rest ∙ e ∙ sym wanted)))
    ∙ ap (λ (n : ℕ). damage n (if is_number_form c.args.form then 1 else 2)) (sym (c.from.ensures ∙ rest))
    ∙ ap (λ (n : ℕ). damage c.from.result n) (sym (c.from-then-rest-wanted.ensures ∙ wanted))

pub returns-in_default : goal.returns-in_default
returns-in_default c =
    let it = shown_at c.args.sw.now c.args.vector in
    wrong-word it c.args.form (long-of it c.args.form c.is_number-number.result c.rest_of-rest.result c.rest_wanted-wanted.result c.rest_of-rest.ensures c.rest_wanted-wanted.ensures c.is_number-number.ensures c.if-rest-wanted.false)
    (ap int_in (sym c.lower_word-word.ensures) ∙ sym c.int_of_word.ensures ∙ c.in_default.is)
    ∙ ap (λ (n : ℕ). damage n (2 ^ 31)) (sym c.lower_word-word.ensures)

pub returns-then-not-is_vector : goal.returns-then-not-is_vector
returns-then-not-is_vector c =
    let it = shown_at c.args.sw.now c.args.vector in
    wrong-bounds it c.args.form (to_z w32 (of_z w32 c.in-Some.low))
    (long-of it c.args.form c.is_number-number.result c.rest_of-rest.result c.rest_wanted-wanted.result c.rest_of-rest.ensures c.rest_wanted-wanted.ensures c.is_number-number.ensures c.if-rest-wanted.false)
    (bound-of it c.lower_word-word.result c.int_of_word.result c.in-Some.low c.lower_word-word.ensures c.int_of_word.ensures c.in-Some.is c.lower_word-word.type_inv)
    (ap (is_vector (to_z w32 (of_z w32 c.in-Some.low))) (sym (c.from-2.ensures ∙ c.count-count.ensures)) ∙ sym c.is_vector.ensures ∙ c.if-not-is_vector.true)
    ∙ ap (λ (n : ℕ). damage n (2 ^ 20)) (sym (c.from-then-not-is_vector.ensures ∙ c.count-count.ensures))

pub returns : goal.returns
returns c =
    let it = shown_at c.args.sw.now c.args.vector in (
      shaped it c.args.form (to_z w32 (of_z w32 c.in-Some.low)) c.count-count.result
          (long-of it c.args.form c.is_number-number.result c.rest_of-rest.result c.rest_wanted-wanted.result c.rest_of-rest.ensures c.rest_wanted-wanted.ensures c.is_number-number.ensures c.if-rest-wanted.false)
          (bound-of it c.lower_word-word.result c.int_of_word.result c.in-Some.low c.lower_word-word.ensures c.int_of_word.ensures c.in-Some.is c.lower_word-word.type_inv)
          c.count-count.ensures (ap (is_vector (to_z w32 (of_z w32 c.in-Some.low))) (sym c.from-2.ensures) ∙ sym c.is_vector.ensures ∙ c.if-not-is_vector.false),
      refl,
    )
