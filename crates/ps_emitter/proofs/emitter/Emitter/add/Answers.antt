use Rattle.std.proofs.Common.{[], ◌∷◌, List, length, map, length-append, ap, ◌∙◌, refl, sym, arith}
use Rattle.std.proofs.lemmas.List.{append-nil, map-append}
use Rattle.ps_base.specs.CodeUnit.{ConstantView, constant_view}
use Rattle.ps_emitter.specs.Pieces.{constant}
use Rattle.ps_emitter.proofs.emitter.Emitter.add.Goals as goal

pub returns : goal.returns
unfolding constant
returns c =
    let old = c.args.self.now.constants.items in
    let constants = ap (map constant_view) c.in_ok-push.ensures.items ∙ map-append constant_view old (c.args.it ∷ []) in
    let e = ap (λ (z : List ConstantView). length z) constants in
    record {
      code = sym (append-nil _);
      long = refl;
      constants = constants;
      counted = omega (arith, e, length-append (map constant_view old) (constant_view c.args.it ∷ []));
      nums = omega arith;
      refs = omega arith;
      units = tt;
      are = tt;
    }
