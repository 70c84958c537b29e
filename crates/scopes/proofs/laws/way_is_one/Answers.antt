use Rattle.closures.specs.obj_layout.Stored.{Holds}
use Rattle.closures.specs.swizzle.Reading.{joint}
use Rattle.closures.proofs.of_swizzle.NameLaws.{Joint-one}
use Rattle.scopes.proofs.OneWay.{one-way}
use Rattle.scopes.proofs.laws.way_is_one.Goals as goal

pub returns : goal.returns
returns g c =
    let outside = g.V.Vault.outside c.args.vault.now in
    λ name a b one p q long.
    one-way (joint c.args.sw.now outside) name a b
    (λ n x y seen other. Joint-one c.args.sw.now (Holds outside) n x y c.sound.ensures one seen other) p q long
