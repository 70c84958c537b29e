use Rattle.std.proofs.Common.{rules}
use Rattle.machine_core.specs.Holding.{world_in}
use Rattle.std.specs.Fmt.{signed_decimal}
use Rattle.machine_core.specs.ps_heap.Texts.{Yields}
use Rattle.machine_core.specs.ps_stepping.Objects.{make_text}
use Rattle.machine_core.specs.ps_stepping.Library.{int_text}
use Rattle.machine_core.specs.joint_ops.Made.{MakesText}
use Rattle.machine_operands.proofs.Parts.{making-fails}
use Rattle.machine_strings.proofs.Parts.{gives}
use Rattle.machine_strings.proofs.texts.int_text.Goals as goal

pub returns-clause-takes : goal.returns-clause-takes
returns-clause-takes g c =
    let vault = c.args.vault.now in
    let out = g.V.Vault.outside vault in
    let last = c.pop_int.new.m in
    let p = c.in-Some.ensures in
    let z = c.in-Some.z in
    let made = c.int_text-made in
    gives out int_text c.args.m.now last p.leaves _ made.new.self made.result c.give_text.new.m c.give_text.result
    made.ensures.keeps made.ensures.held (c.give_text.ensures vault)
    (λ names conf h.
    let n = (p.pops vault).gives names conf h in
    let did = made.ensures.made n.0.store.held.objects names (world_in n.2.run) in
    let makes : MakesText last.objects made.new.self out n.0.store.held.objects names (Yields (signed_decimal z)) made.result = search (rules, did) in
    record {
      next = n.0;
      attempt = Yields (signed_decimal z);
      step = n.1 (λ x d. make_text (signed_decimal x) d);
      held = n.2;
      makes = makes;
    })

pub returns-clause-fails : goal.returns-clause-fails
returns-clause-fails g c =
    let vault = c.args.vault.now in
    making-fails (g.V.Vault.outside vault) c.pop_int.new.m.objects c.int_text-made.new.self c.give_text.new.m c.give_text.result c.int_text-made.result
    (c.give_text.ensures vault).ends.breaks c.int_text-made.ensures.fails
