use Rattle.joint_held.proofs.StoreLaws.{one-store}
use Rattle.joint_commit.proofs.SaveLaws.{commits-held, keeps-run}
use Rattle.joint_commit.proofs.commit.commit.Goals as goal

pub returns-clause-held : goal.returns-clause-held
returns-clause-held g c names d holds =
    let outside = g.V.Vault.outside in
    let before = c.args.vault.now in
    let after = c.commit-answer.new.vault in
    commits-held c.args.sw.now c.commit-answer.new.sw (outside before) (outside after) names c.args.writing.now c.args.directory d (g.V.Vault.used_words before) (g.V.Vault.used_words after)
    (g.V.Vault.most_words before) (g.V.Vault.directory_at after) c.sound.ensures c.sound-2.ensures
    (one-store (outside after) (g.V.Vault.used_words after) (g.V.Vault.directory_at after) (g.met.V.Vault.one after) (g.met.V.Vault.space after)) c.requires.directory holds
    c.commit-answer.result c.commit-answer.ensures.decides c.commit-answer.ensures.stores
    (keeps-run outside c.args.sw.now c.commit-answer.new.sw before after names c.args.writing.now c.args.directory d c.commit-answer.result holds c.commit-answer.ensures.still)
