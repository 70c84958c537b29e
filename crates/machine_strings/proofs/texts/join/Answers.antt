use Rattle.machine_core.specs.ps_heap.Texts.{join_of}
use Rattle.machine_core.specs.Holding.{world_in}
use Rattle.machine_core.specs.ps_stepping.Steps.{attempted}
use Rattle.machine_core.specs.ps_stepping.Objects.{join, make_text}
use Rattle.machine_operands.proofs.Parts.{making-fails}
use Rattle.machine_strings.proofs.Parts.{both-leave, gives, two-texts}
use Rattle.machine_strings.proofs.texts.join.Goals as goal

pub returns-clause-takes : goal.returns-clause-takes
returns-clause-takes g c =
    let line = c.args.line in
    let vault = c.args.vault.now in
    let out = g.V.Vault.outside vault in
    let m = c.args.m.now in
    let mid = c.pop_text.new.m in
    let last = c.pop_text-2.new.m in
    let p = c.in-Some.ensures in
    let q = c.in-Some-pop_text.ensures in
    let made = c.join-made in
    gives out (join line) m last (both-leave m mid last p.leaves q.leaves) line made.new.self made.result c.give_text.new.m c.give_text.result
    made.ensures.keeps made.ensures.held (c.give_text.ensures vault)
    (λ names conf h.
    let t = two-texts out m mid last c.in-Some.b c.in-Some-pop_text.a (p.pops vault) (q.pops vault) q.leaves.objects names conf h in
    record {
      next = t.next;
      attempt = join_of t.left t.right;
      step = t.pops (λ x y e. attempted line (join_of x y) (λ bytes. make_text bytes e));
      held = t.held;
      makes = made.ensures.made t.next.store.held.objects names t.left t.right (world_in t.held.run) t.left_is t.right_is;
    })

pub returns-clause-fails : goal.returns-clause-fails
returns-clause-fails g c =
    let vault = c.args.vault.now in
    making-fails (g.V.Vault.outside vault) c.pop_text-2.new.m.objects c.join-made.new.self c.give_text.new.m c.give_text.result c.join-made.result
    (c.give_text.ensures vault).ends.breaks c.join-made.ensures.fails
