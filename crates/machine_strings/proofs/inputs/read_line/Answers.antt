use Rattle.std.proofs.Common.{◌≡◌, ℕ, List, sym, ap, ◌∙◌, subst, refl, rules}
use Rattle.machine_core.specs.Holding.{world_in}
use Rattle.machine_core.specs.ps_meaning.Meaning.{on_input}
use Rattle.machine_core.specs.ps_heap.Texts.{Attempt, behind_line, line_read, string_of}
use Rattle.machine_core.specs.ps_stepping.Objects.{holding}
use Rattle.machine_core.specs.ps_stepping.Library.{read_line}
use Rattle.machine_core.specs.joint_ops.Made.{MakesText}
use Rattle.machine_operands.proofs.Parts.{making-fails}
use Rattle.machine_strings.proofs.Parts.{gives}
use Rattle.machine_strings.proofs.LinesRead.{none-read, line-read, line-passed, line-leaves, held-passed, no-input}
use Rattle.machine_strings.proofs.inputs.read_line.Goals as goal

pub returns-then-is_at_end-clause-takes : goal.returns-then-is_at_end-clause-takes
returns-then-is_at_end-clause-takes g c =
    let m = c.args.m.now in
    let none = none-read m.input (sym c.is_at_end.ensures ∙ c.if-is_at_end.true) in
    λ v.
    let out = g.V.Vault.outside v in
    no-input out c.args.line m c.trapped.new.m c.trapped.result none (c.trapped.ensures.takes v)

pub returns-clause-takes : goal.returns-clause-takes
returns-clause-takes g c =
    let line = c.args.line in
    let m = c.args.m.now in
    let made = c.text_of_bytes-made in
    let left = c.pass_line.new.self in
    let some = line-read m.input (sym c.is_at_end.ensures ∙ c.if-is_at_end.false) in
    let passed : left ≡ behind_line m.input = search rules in
    λ v.
    let out = g.V.Vault.outside v in
    gives out (read_line line) m (line-passed m left) (line-leaves m left c.requires) line made.new.self made.result c.give_text.new.m c.give_text.result
    made.ensures.keeps made.ensures.held (c.give_text.ensures v)
    (λ names conf h.
    let attempt = line_read conf.store.input in
    let is : string_of c.line-text.result.now ≡ attempt = ap string_of c.line-text.ensures ∙ sym some ∙ ap line_read h.input_is in
    record {
      next = holding (on_input (behind_line conf.store.input) conf.store) conf;
      attempt = attempt;
      step = refl;
      held = held-passed m left out names conf h passed;
      makes =
          subst (λ (a : Attempt (List ℕ)). MakesText m.objects made.new.self out conf.store.held.objects names a made.result) is
          (made.ensures.made v conf.store.held.objects names (world_in h.run));
    })

pub returns-clause-fails : goal.returns-clause-fails
returns-clause-fails g c v =
    let made = c.text_of_bytes-made in
    making-fails (g.V.Vault.outside v) c.args.m.now.objects made.new.self c.give_text.new.m c.give_text.result made.result (c.give_text.ensures v).ends.breaks
    made.ensures.fails
