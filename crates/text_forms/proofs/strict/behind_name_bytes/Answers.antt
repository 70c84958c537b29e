use Rattle.std.proofs.Common.{sym, ◌∙◌}
use Rattle.text_forms.proofs.Naming.{passed_name, ends_name, all_name}
use Rattle.text_forms.proofs.strict.behind_name_bytes.Goals as goal

pub returns-then-not-is_name_byte : goal.returns-then-not-is_name_byte
returns-then-not-is_name_byte c =
    c.split_at.ensures.back ∙ ends_name c.loop-place.place c.args.rest.now c.loop-place-test.true (sym c.is_name_byte.ensures ∙ c.if-not-is_name_byte.true)
    ∙ c.loop-place.invariant

pub loop-place-preserved : goal.loop-place-preserved
loop-place-preserved c = passed_name c.loop-place.place c.args.rest.now c.loop-place-test.true (sym c.is_name_byte.ensures ∙ c.if-not-is_name_byte.false)
    ∙ c.loop-place.invariant

pub returns : goal.returns
returns c = sym (all_name c.loop-place.place c.args.rest.now c.loop-place-test.false) ∙ c.loop-place.invariant
