use Rattle.std.proofs.Common.{arith, sym, ◌∙◌}
use Rattle.closures.proofs.of_swizzle.ReadingLaws.{reads-none}
use Rattle.scopes.proofs.WayLaws.{not-damaged, parent-near}
use Rattle.scopes.proofs.way.near_parent.Goals as goal

pub returns-in-Local : goal.returns-in-Local
returns-in-Local g c = record {
  sound = not-damaged c.args.sw.now c.args.scope c.refs.result c.sound.ensures c.requires
      (sym c.is_kind.ensures ∙ c.if-not-is_kind.false) c.refs.ensures (omega (arith, c.if-refs-lt2.false));
  denotes = parent-near c.args.sw.now c.args.scope c.in-Local.parent c.sound.ensures c.requires (sym c.peek.ensures.value ∙ c.in-Local.is);
  reads = reads-none c.args.sw.now (g.V.Vault.outside c.args.vault.now) _;
}
