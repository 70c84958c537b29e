use Rattle.joint_ops.proofs.of_heap_meaning.of_obj_layout.StoredLaws.{Holds-one}
use Rattle.joint_tables.proofs.SeenLaws.{open-fails, pid-low}
use Rattle.joint_tables.proofs.CountLaws.{counted}
use Rattle.joint_tables.proofs.tables.cardinality.Goals as goal

pub returns-clause-counted : goal.returns-clause-counted
returns-clause-counted g c of names v world d =
    let outside = g.V.Vault.outside c.args.vault.now in
    counted c.args.sw.now outside of names world
    (record { heap = c.sound.ensures; single = record { one = λ pid a b p q. Holds-one outside pid a b (g.met.V.Vault.one c.args.vault.now) p q } })
    (λ pid words there. pid-low outside (g.V.Vault.used_words c.args.vault.now) (g.V.Vault.directory_at c.args.vault.now) pid words
    (g.met.V.Vault.space c.args.vault.now) (g.met.V.Vault.bounds c.args.vault.now).1 there)
    c.args.table v c.cardinality.result d c.cardinality.ensures.nil c.cardinality.ensures.class c.cardinality.ensures.unused c.cardinality.ensures.counted

pub returns-clause-fails : goal.returns-clause-fails
returns-clause-fails g c =
    open-fails (g.V.Vault.outside c.args.vault.now) c.args.sw.now c.args.table c.cardinality.result c.cardinality.ensures.fault
