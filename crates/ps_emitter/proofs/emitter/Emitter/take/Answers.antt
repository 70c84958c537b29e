use Rattle.std.proofs.Common.{refl, sym}
use Rattle.std.proofs.lemmas.List.{append-nil}
use Rattle.ps_emitter.specs.Pieces.{takes}
use Rattle.ps_emitter.proofs.emitter.Emitter.take.Goals as goal

pub returns : goal.returns
unfolding takes
returns c = record {
  code = sym (append-nil _);
  long = refl;
  constants = sym (append-nil _);
  counted = refl;
  nums = c.in_ok-self.ensures;
  refs = c.in_ok-self-2.ensures;
  units = tt;
  are = tt;
}
