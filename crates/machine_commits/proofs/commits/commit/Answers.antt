use Rattle.std.proofs.Common.{length, ap, arith}
use Rattle.machine_commits.proofs.Pushing.{stuck-takes}
use Rattle.machine_commits.proofs.commits.commit.Goals as goal

pub returns-then-own-ge-FRAME_WORDS-clause-takes : goal.returns-then-own-ge-FRAME_WORDS-clause-takes
returns-then-own-ge-FRAME_WORDS-clause-takes g c =
    let own = ap length c.own.ensures in
    stuck-takes (g.V.Vault.outside c.args.vault.now) c.args.m.now c.requires.sound c.requires.names (omega (arith, c.if-own-ge-FRAME_WORDS.true, own))
