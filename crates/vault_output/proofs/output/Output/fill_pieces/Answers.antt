use Rattle.std.proofs.Common.{◌∙◌, ◌-◌, ◌++◌, List, ℕ, ap, arith, length, refl}
use Rattle.std.specs.Prelude.{replicate}
use Rattle.vault_output.proofs.SendingLaws.{sends-kept, sends-more, filled-front, left-piece}
use Rattle.vault_output.proofs.output.Output.fill_pieces.Goals as goal

pub loop-rest-init : goal.loop-rest-init
loop-rest-init g c = record {
  sends = sends-kept (g.V.Vault.outside c.args.vault.now) _ _ refl;
  left = refl;
  numbers = (refl, refl, refl, refl);
  alive = c.requires.alive;
}

pub returns-in-Err-clause-sends : goal.returns-in-Err-clause-sends
returns-in-Err-clause-sends g c =
    let outside = g.V.Vault.outside in
    let left = c.loop-rest.rest - c.room-some.result in
    sends-more (outside c.args.vault.now) (outside c.loop-rest.vault) (outside c.flush.new.vault) _ _ c.fill.new.self (replicate left 32)
    c.flush.new.self _ c.loop-rest.invariant.sends
    (filled-front c.loop-rest.self c.fill.new.self c.loop-rest.rest c.room-some.result left
    (omega (arith, c.room.ensures.room, c.room-some.ensures.room, c.loop-rest-test.true)) c.fill.ensures)
    c.in-Err.ensures.puts tt c.in-Err.ensures.emptied

pub loop-rest-preserved : goal.loop-rest-preserved
loop-rest-preserved g c =
    let outside = g.V.Vault.outside in
    let left = c.loop-rest.rest - c.room-some.result in
    let now = c.loop-rest.invariant in
    let next = c.in_default.ensures.numbers in
    record {
      sends = sends-more (outside c.args.vault.now) (outside c.loop-rest.vault) (outside c.flush.new.vault) _ _ c.fill.new.self (replicate left 32)
          (c.flush.new.self ++ replicate left 32) _ now.sends
          (filled-front c.loop-rest.self c.fill.new.self c.loop-rest.rest c.room-some.result left
          (omega (arith, c.room.ensures.room, c.room-some.ensures.room, c.loop-rest-test.true)) c.fill.ensures)
          c.in_default.ensures.puts (ap (λ (xs : List ℕ). xs ++ replicate left 32) c.in_default.ensures.emptied) tt;
      left =
          left-piece (length c.loop-rest.self) c.loop-rest.rest c.room.result left (length c.flush.new.self)
          c.room.ensures.room c.loop-rest-test.true
          (omega (arith, c.room.ensures.room, c.room-some.ensures.room, c.loop-rest-test.true))
          (ap length c.in_default.ensures.emptied)
          ∙ now.left;
      numbers = (next.0 ∙ now.numbers.0, next.1 ∙ now.numbers.1, next.2 ∙ now.numbers.2, next.3 ∙ now.numbers.3);
      alive = c.in_default.ensures.alive;
    }
