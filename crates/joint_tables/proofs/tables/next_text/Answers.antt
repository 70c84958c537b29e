use Rattle.std.proofs.Common.{sym, subst}
use Rattle.table_lib.specs.table_nodes.Nodes.{Grows}
use Rattle.table_lib.specs.table_nodes.node_rows.Keys.{by_texts}
use Rattle.joint_tables.proofs.SeenLaws.{alive-unless, both, reads-fail}
use Rattle.joint_tables.proofs.ReadLaws.{last-text, next-texts, read-gains}
use Rattle.joint_tables.proofs.tables.next_text.Goals as goal

pub returns-clause-next : goal.returns-clause-next
returns-clause-next g c of names last v world l d =
    let before = g.V.Vault.outside c.args.vault.now in
    let after = g.V.Vault.outside c.next_text-found.new.vault in
    let old = c.args.sw.now in
    let new = c.next_text-found.new.sw in
    let grows = both (Grows old new before after) c.next_text-found.result c.next_text-found.ensures.grows c.next_text-found.ensures.still in
    let fails = reads-fail before after new c.args.table c.next_text-found.result grows.leaves c.next_text-found.ensures.fault in
    let gains = read-gains old new before after of names c.sound.ensures world grows by_texts _ _ c.args.table v c.next_text-found.result
    c.next_text-found.ensures.next c.next_text-found.ensures.fetched (λ t e. (c.next_text-found.ensures.trapped t e).0) d in
    next-texts old new before after of names c.sound.ensures world grows last _ c.args.table v c.next_text-found.result fails gains
    (last-text old new before after of names c.sound.ensures world grows c.args.after last l) c.next_text-found.ensures.next d

pub returns-clause-keeps : goal.returns-clause-keeps
returns-clause-keeps g c =
    (both (Grows c.args.sw.now c.next_text-found.new.sw (g.V.Vault.outside c.args.vault.now)
    (g.V.Vault.outside c.next_text-found.new.vault)) c.next_text-found.result c.next_text-found.ensures.grows c.next_text-found.ensures.still).keeps

pub returns-clause-leaves : goal.returns-clause-leaves
returns-clause-leaves g c =
    (both (Grows c.args.sw.now c.next_text-found.new.sw (g.V.Vault.outside c.args.vault.now)
    (g.V.Vault.outside c.next_text-found.new.vault)) c.next_text-found.result c.next_text-found.ensures.grows c.next_text-found.ensures.still).leaves

pub returns-clause-fails : goal.returns-clause-fails
returns-clause-fails g c =
    let before = g.V.Vault.outside c.args.vault.now in
    let after = g.V.Vault.outside c.next_text-found.new.vault in
    reads-fail before after c.next_text-found.new.sw c.args.table c.next_text-found.result
    (both (Grows c.args.sw.now c.next_text-found.new.sw before after) c.next_text-found.result c.next_text-found.ensures.grows c.next_text-found.ensures.still).leaves c.next_text-found.ensures.fault

pub returns-clause-alive : goal.returns-clause-alive
returns-clause-alive g c =
    alive-unless (g.V.Vault.alive c.next_text-found.new.vault) c.next_text-found.result c.next_text-found.ensures.alive
    (λ t e. subst (λ v. g.V.Vault.alive v) (sym (c.next_text-found.ensures.trapped t e).1) c.requires.alive)
