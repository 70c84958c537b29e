use Rattle.objects.proofs.known.Known.new.Goals as goal

pub returns : goal.returns
returns c = λ here. record {
  layouts = c.in_ok-layouts.ensures here;
  fields = c.in_ok-fields.ensures here;
  vectors = c.in_ok-vectors.ensures here;
  procedures = c.in_ok-procedures.ensures here;
  makes = c.in_ok-makes.ensures here;
}
