use Rattle.std.proofs.Common.{w32, to_z, of_z, ◌∙◌, ap, sym, subst}
use Rattle.std.specs.Ordering.{int_cmp}
use Rattle.table_nodes.specs.declared.keys.Key.TheVariants.{Int, Text}
use Rattle.table_nodes.specs.Sought.{IsKeyHeld}
use Rattle.table_nodes.specs.Spans.{keys_order}
use Rattle.table_nodes.proofs.SoughtLaws.{int_same}
use Rattle.table_nodes.proofs.placing.compare_keys.Goals as goal

pub returns-in-Int-Int : goal.returns-in-Int-Int
returns-in-Int-Int c =
    let a_held = subst (IsKeyHeld c.args.sw.now) c.in-Int-Int.is-0 c.requires.key in
    let b_held = subst (IsKeyHeld c.args.sw.now) c.in-Int-Int.is-1 c.requires.other in
    c.cmp.ensures ∙ (ap (λ y. int_cmp y (to_z w32 (of_z w32 c.in-Int-Int.b))) (int_same c.in-Int-Int.a a_held) ∙ (ap (int_cmp c.in-Int-Int.a) (int_same c.in-Int-Int.b b_held)
    ∙ sym (ap (λ k. keys_order c.args.sw.now k c.args.other) c.in-Int-Int.is-0 ∙ ap (keys_order c.args.sw.now (Int c.in-Int-Int.a)) c.in-Int-Int.is-1)))

pub returns-in-Text-Text : goal.returns-in-Text-Text
returns-in-Text-Text c =
    c.compare.ensures ∙ sym (ap (λ k. keys_order c.args.sw.now k c.args.other) c.in-Text-Text.is-0 ∙ ap (keys_order c.args.sw.now (Text c.in-Text-Text.a)) c.in-Text-Text.is-1)

pub returns-in-Int-Text : goal.returns-in-Int-Text
returns-in-Int-Text c = sym (ap (λ k. keys_order c.args.sw.now k c.args.other) c.in-Int-Text.is-0 ∙ ap (keys_order c.args.sw.now (Int _)) c.in-Int-Text.is-1)

pub returns-in-Text-Int : goal.returns-in-Text-Int
returns-in-Text-Int c = sym (ap (λ k. keys_order c.args.sw.now k c.args.other) c.in-Text-Int.is-0 ∙ ap (keys_order c.args.sw.now (Text _)) c.in-Text-Int.is-1)
