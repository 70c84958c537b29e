use Rattle.std.proofs.Common.{sym, ◌∙◌, subst, rules}
use Rattle.machine_core.specs.text_forms.declared.forms.Form.{Form}
use Rattle.machine_structures.specs.inside.Making.{IsNext, LaysOne}
use Rattle.machine_structures.proofs.LaidOut.{all-laid, next-field, none-laid, one-laid}
use Rattle.machine_structures.proofs.laying.lay_fields.Goals as goal

pub loop-rest-init : goal.loop-rest-init
loop-rest-init c = record {
  so = none-laid c.args.text.now c.first_field-rest.result.now c.args.nums.now c.args.refs.now c.clear.new.self.items c.first_field-rest.ensures.found
      c.clear.ensures.items c.requires.nums c.requires.refs;
  room = search rules;
}

pub lay-passed-requires-clause-next : goal.lay-passed-requires-clause-next
lay-passed-requires-clause-next c =
    subst (λ (f : Form). IsNext f c.args.nums.now c.args.refs.now c.loop-rest.passed) (sym c.form_here.ensures)
    (next-field c.args.text.now c.loop-rest.rest.now c.args.nums.now c.args.refs.now c.loop-rest.passed c.loop-rest.values.items c.loop-rest.invariant.so
    (sym c.is_field.ensures ∙ c.loop-rest-test.true))

pub loop-rest-preserved : goal.loop-rest-preserved
loop-rest-preserved c = record {
  so = one-laid c.args.text.now c.loop-rest.rest.now c.args.nums.now c.args.refs.now c.loop-rest.passed c.loop-rest.values.items c.loop-rest.invariant.so
      (sym c.is_field.ensures ∙ c.loop-rest-test.true) c.next_field-rest.result.now c.lay-passed.new.values.items c.lay-passed.result
      c.next_field-rest.ensures.found
      (subst (λ (f : Form). LaysOne f c.args.nums.now c.args.refs.now c.loop-rest.passed c.loop-rest.values.items c.lay-passed.new.values.items
      c.lay-passed.result)
      c.form_here.ensures c.lay-passed.ensures.lays);
  room = c.lay-passed.ensures.room;
}

pub returns-clause-laid : goal.returns-clause-laid
returns-clause-laid c =
    all-laid c.args.text.now c.loop-rest.rest.now c.args.nums.now c.args.refs.now c.loop-rest.passed c.loop-rest.values.items c.loop-rest.invariant.so
    (sym c.is_field.ensures ∙ c.loop-rest-test.false)
