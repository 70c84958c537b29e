use Rattle.std.proofs.Common.{◌%◌, ◌∙◌, None, Some, sym, ap, arith}
use Rattle.obj_store.specs.declared.kept.KeptPage.{KeptPage}
use Rattle.obj_store.proofs.KeptLaws.{same_default}
use Rattle.obj_store.proofs.kept.KeptPages.copy.Goals as goal

pub returns-in-Some-clause-found : goal.returns-in-Some-clause-found
returns-in-Some-clause-found c = λ is. record {
  place = c.args.page % 8;
  is = same_default c.args.self.now.places.items (c.args.page % 8) None c.index.result.now (omega (arith, c.if-place-len.false, c.len.ensures))
      ∙ sym c.index.ensures ∙ c.in-Some.is ∙ ap (λ (page : KeptPage). Some page) (c.copy_if.ensures.found is);
}
