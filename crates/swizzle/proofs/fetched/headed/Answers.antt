use Rattle.std.proofs.Common.{arith, sym}
use Rattle.std.proofs.lemmas.Grind.{common_steps}
use Rattle.swizzle.proofs.FetchedLaws.{header-spelled}
use Rattle.swizzle.proofs.fetched.headed.Goals as goal

pub returns-clause-header : goal.returns-clause-header
returns-clause-header c = sym (header-spelled c.args.words.now c.in-Ok.header c.in-Ok.ensures.fields (grind (arith, common_steps)))
