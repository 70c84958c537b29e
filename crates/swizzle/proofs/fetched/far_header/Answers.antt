use Rattle.std.proofs.Common.{ℕ, arith, sym, ap, take, drop, ◌∙◌}
use Rattle.swizzle.specs.Damaged.{near_word}
use Rattle.swizzle.proofs.DamageLaws.{far_slot}
use Rattle.swizzle.proofs.fetched.far_header.Goals as goal

pub returns-in-None-clause-far : goal.returns-in-None-clause-far
returns-in-None-clause-far c =
    let h = c.headed-header in
    let words = c.args.words.now in
    record {
      spelled = h.ensures.spelled;
      fields = h.ensures.fields;
      lengths = h.ensures.lengths;
      long = h.ensures.long;
      home = omega arith;
      bytes = omega (arith, c.words_before.ensures, c.if-bytes-room.false);
      refs = λ slot below. far_slot words h.result.refs slot
          (ap (λ (n : ℕ). near_word (take n (drop 4 words))) (omega arith) ∙ sym c.first_near.ensures ∙ c.in-None.is) (omega (arith, h.ensures.long)) below;
    }
