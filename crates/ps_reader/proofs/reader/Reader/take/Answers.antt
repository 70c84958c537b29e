use Rattle.std.proofs.Common.{refl, sym, ◌∙◌}
use denote.Enum.Bare.{differs_false}
use Rattle.ps_tree.specs.ps_symbols.contracts.kind.Kind.{the_type}
use Rattle.ps_tree.specs.ps_symbols.inside.Soundness.{IsSound}
use Rattle.ps_reader.proofs.Places.{at_place}
use Rattle.ps_reader.proofs.reader.Reader.take.Goals as goal

pub returns : goal.returns
returns c =
    let here = sym c.symbol_at.ensures ∙ c.in-Some.is in
    record { here = here; is = differs_false the_type tt c.in-Some.symbol.kind c.args.kind (sym c.ne.ensures ∙ c.if-ne.false); sound = at_place (IsSound c.args.self.now.text.now) _ _ c.in-Some.symbol c.requires.sound.symbols here; at = refl }
