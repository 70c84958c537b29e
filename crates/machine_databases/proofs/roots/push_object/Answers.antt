use Rattle.std.proofs.Common.{rules}
use Rattle.machine_databases.proofs.Pushing.{object-pushed}
use Rattle.machine_databases.proofs.roots.push_object.Goals as goal

pub returns : goal.returns
returns g c = λ v.
    object-pushed (g.V.Vault.outside v) c.args.m.now c.push_reserved.new.self c.args.at c.sound.ensures (search rules) c.requires.names c.requires.room c.requires.held
    c.push_reserved.ensures.below c.push_reserved.ensures.own
