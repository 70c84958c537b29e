use Rattle.std.proofs.Common.{sym, subst, arith}
use Rattle.swizzle.specs.obj_layout.Stored.{IsSpace}
use Rattle.new_pids.specs.Giving.{AreBelow}
use Rattle.reach_commit.proofs.ReadyLaws.{Given, ready}
use Rattle.reach_commit.proofs.SavesLaws.{moved-ready}
use Rattle.reach_commit.proofs.TellLaws.{stored-below}
use Rattle.reach_commit.proofs.store.make_ready.Goals as goal

pub returns-clause-ready : goal.returns-clause-ready
returns-clause-ready g c =
    let old = c.args.sw.now in
    let bounds = g.met.V.Vault.bounds c.args.vault.now in
    let given : Given old c.list_reached.new.sw c.give_all-next.new.sw c.args.writing.now c.args.directory c.used-first.result c.give_all-next.result = record {
      heap_old = c.sound.ensures;
      heap_mid = c.sound-2.ensures;
      heap_new = c.sound-3.ensures;
      lists = c.list_reached.ensures;
      gives = c.give_all-next.ensures.given;
      below = subst (AreBelow old) (sym c.used-first.ensures) c.requires.below;
      last = c.give_all-next.ensures.below;
      low = omega (arith, c.used-first.ensures, bounds.0);
      writable = c.requires.writable;
      named = c.requires.directory;
    } in
    ready old c.list_reached.new.sw c.give_all-next.new.sw c.args.writing.now c.args.directory c.used-first.result c.give_all-next.result given

pub returns-clause-moved : goal.returns-clause-moved
returns-clause-moved g c =
    let outside = g.V.Vault.outside c.args.vault.now in
    let first = c.used-first.result in
    let range = stored-below outside first (g.V.Vault.directory_at c.args.vault.now) (λ space is.
    subst (λ n. IsSpace n (g.V.Vault.directory_at c.args.vault.now) space) (sym c.used-first.ensures) (g.met.V.Vault.space c.args.vault.now space is)) in
    let l = c.list_reached.ensures in
    moved-ready c.args.sw.now c.list_reached.new.sw c.give_all-next.new.sw outside first c.sound.ensures c.sound-2.ensures l.steady l.homes.plain range c.give_all-next.ensures.renamed
