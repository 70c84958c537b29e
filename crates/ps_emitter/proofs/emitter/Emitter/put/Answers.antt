use Rattle.std.proofs.Common.{◌++◌, List, ℕ, length, length-append, ap, ◌∙◌, refl, sym, arith}
use Rattle.std.proofs.lemmas.List.{append-nil}
use Rattle.ps_base.specs.Instr.{spelling}
use Rattle.ps_base.proofs.Spellings.{length-spelling}
use Rattle.ps_emitter.specs.Pieces.{one}
use Rattle.ps_emitter.proofs.Spelled.{front_is}
use Rattle.ps_emitter.proofs.emitter.Emitter.put.Goals as goal

pub returns : goal.returns
unfolding one
returns c =
    let i = c.args.instr in
    let front = front_is c.encode-width.new.into (spelling i) _ c.encode-width.result c.encode-width.ensures.written (c.encode-width.ensures.width ∙ sym (length-spelling i)) in
    let code = c.in_ok-extend_from_slice.ensures.items ∙ ap (λ z. c.args.self.now.code.items ++ z) front in
    let e = ap (λ (z : List ℕ). length z) code in
    record {
      code = code;
      long = omega (arith, e, length-append c.args.self.now.code.items (spelling i), length-spelling i);
      constants = sym (append-nil _);
      counted = refl;
      nums = omega arith;
      refs = omega arith;
      units = tt;
      are = (c.encode-width.ensures.fits, tt);
    }
