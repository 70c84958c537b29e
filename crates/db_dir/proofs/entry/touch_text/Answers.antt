use Rattle.std.proofs.Common.{inr, rules, length, ap}
use Rattle.joint_ops.proofs.of_heap_places.PlaceLaws.{fails-damage}
use Rattle.db_dir.proofs.EntryLaws.{short-text, long-text}
use Rattle.db_dir.proofs.entry.touch_text.Goals as goal

pub returns-then-bytes-from-clause-touched : goal.returns-then-bytes-from-clause-touched
returns-then-bytes-from-clause-touched g c =
    short-text c.args.sw.now c.touch_entry.new.sw (g.V.Vault.outside c.args.vault.now) (g.V.Vault.outside c.touch_entry.new.vault) c.args.object c.args.slot c.in-Ok.text
    c.args.least c.args.most _ c.damaged.result c.in-Ok.ensures.reads c.in-Ok.ensures.touched (ap length c.text.ensures.value) (search rules) (search rules)

pub returns-then-bytes-from-clause-fails : goal.returns-then-bytes-from-clause-fails
returns-then-bytes-from-clause-fails g c =
    fails-damage (g.V.Vault.outside c.args.vault.now) (g.V.Vault.outside c.touch_entry.new.vault) _ _ _ c.damaged.result c.in-Ok.ensures.reads.reads.outside c.damaged.ensures

pub returns-then-bytes-from-2-clause-touched : goal.returns-then-bytes-from-2-clause-touched
returns-then-bytes-from-2-clause-touched g c =
    long-text c.args.sw.now c.touch_entry.new.sw (g.V.Vault.outside c.args.vault.now) (g.V.Vault.outside c.touch_entry.new.vault) c.args.object c.args.slot c.in-Ok.text
    c.args.least c.args.most _ c.damaged-then-bytes-from-2.result c.in-Ok.ensures.reads c.in-Ok.ensures.touched (ap length c.text.ensures.value) (search rules) (search rules)

pub returns-in-Err-clause-touched : goal.returns-in-Err-clause-touched
returns-in-Err-clause-touched g c = inr c.in-Err.ensures.touched
