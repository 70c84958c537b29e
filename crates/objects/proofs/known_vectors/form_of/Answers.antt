use Rattle.std.proofs.Common.{Some, sym, ap, ◌∙◌}
use Rattle.joint_ops.specs.text_forms.Forms.{element_of}
use Rattle.objects.proofs.ElementLaws.{near-denoted}
use Rattle.objects.proofs.known_vectors.form_of.Goals as goal

pub returns-in-Text-clause-typed : goal.returns-in-Text-clause-typed
returns-in-Text-clause-typed c =
    record {
      text = c.in-Local.text;
      denotes = near-denoted c.args.sw.now c.args.vector 0 (Some c.in-Local.text) c.sound.ensures c.requires (sym c.peek.ensures.value ∙ c.in-Local.is);
      kind = sym c.kind-2.ensures ∙ c.in-Text.is;
      tells = c.element_form.ensures ∙ ap element_of c.text.ensures.value;
    }
