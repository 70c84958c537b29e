use mir.Syntax.{w32}
use Rattle.machine_core.specs.Holding.{world_in}
use mir.Val.{to_z, of_z}
use Rattle.std.proofs.Common.{◌≡◌, ℤ, ◌∙◌, subst, rules}
use Rattle.machine_core.specs.ps_heap.Texts.{part_of}
use Rattle.machine_core.specs.ps_stepping.Steps.{attempted, pop_num, pop_text}
use Rattle.machine_core.specs.ps_stepping.Objects.{part, make_text}
use Rattle.machine_core.specs.joint_ops.Made.{MakesText}
use Rattle.machine_operands.proofs.Parts.{making-fails}
use Rattle.machine_strings.proofs.Parts.{both-leave, gives}
use Rattle.machine_strings.proofs.texts.part.Goals as goal

pub returns-clause-takes : goal.returns-clause-takes
returns-clause-takes g c =
    let line = c.args.line in
    let vault = c.args.vault.now in
    let out = g.V.Vault.outside vault in
    let m = c.args.m.now in
    let one = c.pop_int.new.m in
    let two = c.pop_int-2.new.m in
    let last = c.pop_text.new.m in
    let p = c.in-Some.ensures in
    let q = c.in-Some-pop_int.ensures in
    let t = c.in-Some-pop_text.ensures in
    let made = c.part-made in
    let from = c.in-Some-pop_int.from in
    let count = c.in-Some.count in
    let same_from : to_z w32 (of_z w32 from) ≡ from = search rules in
    let same_count : to_z w32 (of_z w32 count) ≡ count = search rules in
    gives out (part line) m last (both-leave m one last p.leaves (both-leave one two last q.leaves t.leaves)) line made.new.self made.result c.give_text.new.m c.give_text.result
    made.ensures.keeps made.ensures.held (c.give_text.ensures vault)
    (λ names conf h.
    let n = (p.pops vault).gives names conf h in
    let i = (q.pops vault).gives names n.0 n.2 in
    let a = (t.pops vault).gives names i.0 i.2 in
    let did = made.ensures.made a.0.store.held.objects names a.1 (world_in a.3.run) a.4 in
    record {
      next = a.0;
      attempt = part_of a.1 from count;
      step =
          n.1 (λ y d. pop_num d (λ x e. pop_text e (λ z f. attempted line (part_of z x y) (λ bytes. make_text bytes f))))
          ∙ i.1 (λ x e. pop_text e (λ z f. attempted line (part_of z x count) (λ bytes. make_text bytes f)))
          ∙ a.2 (λ z f. attempted line (part_of z from count) (λ bytes. make_text bytes f));
      held = a.3;
      makes =
          subst (λ (y : ℤ). MakesText last.objects made.new.self out a.0.store.held.objects names (part_of a.1 from y) made.result) same_count
          (subst (λ (x : ℤ). MakesText last.objects made.new.self out a.0.store.held.objects names (part_of a.1 x (to_z w32 (of_z w32 count))) made.result) same_from did);
    })

pub returns-clause-fails : goal.returns-clause-fails
returns-clause-fails g c =
    let vault = c.args.vault.now in
    making-fails (g.V.Vault.outside vault) c.pop_text.new.m.objects c.part-made.new.self c.give_text.new.m c.give_text.result c.part-made.result
    (c.give_text.ensures vault).ends.breaks c.part-made.ensures.fails
