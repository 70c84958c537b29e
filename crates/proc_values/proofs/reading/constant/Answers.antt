use Rattle.std.proofs.Common.{◌∙◌, sym, ℕ, Option, Some, subst}
use Rattle.heap_texts.specs.swizzle.Heap.{ref_at}
use Rattle.heap_texts.specs.swizzle.Joint.{name_of}
use Rattle.heap_texts.specs.swizzle.Touch.{Denotes}
use Rattle.heap_texts.proofs.of_swizzle.ReadingLaws.{reads-touch}
use Rattle.proc_values.specs.Reading.{HasConstant}
use Rattle.proc_values.proofs.ReadLaws.{has_constant, some_denoted}
use Rattle.proc_values.proofs.reading.constant.Given
use Rattle.proc_values.proofs.reading.constant.Goals as goal

denoted : (g : Given.Over) (c : goal.In-Ok-Some g) → Denotes c.touch_slot.new.self (Some c.in-Ok-Some.at)
    (name_of c.args.sw.now (ref_at c.args.sw.now c.args.code c.args.index))
denoted g c =
    subst (λ (to : Option ℕ). Denotes c.touch_slot.new.self to (name_of c.args.sw.now (ref_at c.args.sw.now c.args.code c.args.index))) c.in-Ok-Some.field-0-is
    c.in-Ok-Some.ensures.target

has : (g : Given.Over) (c : goal.In-Ok-Some g) → HasConstant c.args.sw.now c.args.code c.args.index
has g c =
    has_constant c.args.sw.now c.args.code c.args.index _ c.header-header.ensures.value
    (sym c.kind.ensures ∙ c.is_code.ensures.0 c.if-not-is_code.false) c.if-index-header.false
    (some_denoted c.args.sw.now c.touch_slot.new.self _ c.in-Ok-Some.at (denoted g c))

pub returns-in-Ok-Some-clause-given : goal.returns-in-Ok-Some-clause-given
returns-in-Ok-Some-clause-given g c = (
  has g c,
  denoted g c,
  reads-touch c.args.sw.now c.touch_slot.new.self _ _ _ c.in-Ok-Some.field-0 c.in-Ok-Some.ensures.keeps c.in-Ok-Some.ensures.joint
      (λ near. (c.in-Ok-Some.ensures.near near).0) c.in-Ok-Some.ensures.only
      c.in-Ok-Some.ensures.call,
)

pub returns-in-Ok-Some-clause-still : goal.returns-in-Ok-Some-clause-still
returns-in-Ok-Some-clause-still g c = λ none. absurd (none (has g c))
