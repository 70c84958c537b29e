use Rattle.std.proofs.Common.{sym, subst, ℕ, List}
use Rattle.joint_ops.proofs.SeenLaws.{text-denoted}
use Rattle.table_lib.specs.table_nodes.Nodes.{Grows}
use Rattle.table_lib.specs.table_nodes.Steps.{place}
use Rattle.table_lib.specs.table_nodes.node_rows.Keys.{by_texts}
use Rattle.table_lib.specs.Operations.{LooksUp}
use Rattle.joint_tables.proofs.SeenLaws.{alive-unless, both, reads-fail}
use Rattle.joint_tables.proofs.ReadLaws.{looked-up, read-gains}
use Rattle.joint_tables.proofs.tables.lookup_text.Goals as goal

pub returns-clause-looked : goal.returns-clause-looked
returns-clause-looked g c of names bytes v world dk d =
    let before = g.V.Vault.outside c.args.vault.now in
    let after = g.V.Vault.outside c.lookup_text-found.new.vault in
    let old = c.args.sw.now in
    let new = c.lookup_text-found.new.sw in
    let grows = both (Grows old new before after) c.lookup_text-found.result c.lookup_text-found.ensures.grows c.lookup_text-found.ensures.still in
    let fails = reads-fail before after new c.args.table c.lookup_text-found.result grows.leaves c.lookup_text-found.ensures.fault in
    let gains = read-gains old new before after of names c.sound.ensures world grows by_texts _ _ c.args.table v c.lookup_text-found.result
    c.lookup_text-found.ensures.looked c.lookup_text-found.ensures.fetched (λ t e. (c.lookup_text-found.ensures.trapped t e).0) d in
    let same = (text-denoted old before names c.args.key bytes c.sound.ensures dk).bytes_are in
    looked-up old new before after of names c.sound.ensures world grows by_texts bytes c.args.table v c.lookup_text-found.result fails gains
    (subst (λ (b : List ℕ). LooksUp by_texts
    (place old before) new c.args.table b c.lookup_text-found.result) same c.lookup_text-found.ensures.looked) d

pub returns-clause-keeps : goal.returns-clause-keeps
returns-clause-keeps g c =
    (both (Grows c.args.sw.now c.lookup_text-found.new.sw (g.V.Vault.outside c.args.vault.now)
    (g.V.Vault.outside c.lookup_text-found.new.vault)) c.lookup_text-found.result c.lookup_text-found.ensures.grows c.lookup_text-found.ensures.still).keeps

pub returns-clause-leaves : goal.returns-clause-leaves
returns-clause-leaves g c =
    (both (Grows c.args.sw.now c.lookup_text-found.new.sw (g.V.Vault.outside c.args.vault.now)
    (g.V.Vault.outside c.lookup_text-found.new.vault)) c.lookup_text-found.result c.lookup_text-found.ensures.grows c.lookup_text-found.ensures.still).leaves

pub returns-clause-fails : goal.returns-clause-fails
returns-clause-fails g c =
    let before = g.V.Vault.outside c.args.vault.now in
    let after = g.V.Vault.outside c.lookup_text-found.new.vault in
    reads-fail before after c.lookup_text-found.new.sw c.args.table c.lookup_text-found.result
    (both (Grows c.args.sw.now c.lookup_text-found.new.sw before after) c.lookup_text-found.result c.lookup_text-found.ensures.grows c.lookup_text-found.ensures.still).leaves c.lookup_text-found.ensures.fault

pub returns-clause-alive : goal.returns-clause-alive
returns-clause-alive g c =
    alive-unless (g.V.Vault.alive c.lookup_text-found.new.vault) c.lookup_text-found.result c.lookup_text-found.ensures.alive
    (λ t e. subst (λ v. g.V.Vault.alive v) (sym (c.lookup_text-found.ensures.trapped t e).1) c.requires.alive)
