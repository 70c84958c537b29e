use Rattle.std.proofs.Common.{◌∙◌, ◌++◌, List, ℕ, ap, arith, length, refl}
use Rattle.vault_output.proofs.SendingLaws.{sends-kept, sends-more, kept-front, left-piece}
use Rattle.vault_output.proofs.output.Output.write_pieces.Goals as goal

pub loop-rest-init : goal.loop-rest-init
loop-rest-init g c = record {
  sends = sends-kept (g.V.Vault.outside c.args.vault.now) _ _ refl;
  left = refl;
  numbers = (refl, refl, refl, refl);
  alive = c.requires.alive;
}

pub returns-in-Err-clause-sends : goal.returns-in-Err-clause-sends
returns-in-Err-clause-sends g c =
    let outside = g.V.Vault.outside in
    let split = c.split_at.ensures in
    sends-more (outside c.args.vault.now) (outside c.loop-rest.vault) (outside c.flush.new.vault) _ _ c.keep.new.self c.split_at.result.1.now
    c.flush.new.self _ c.loop-rest.invariant.sends
    (kept-front c.loop-rest.self c.loop-rest.rest.now c.split_at.result.0.now c.split_at.result.1.now c.keep.new.self _
    split.front split.back c.keep.ensures)
    c.in-Err.ensures.puts tt c.in-Err.ensures.emptied

pub loop-rest-preserved : goal.loop-rest-preserved
loop-rest-preserved g c =
    let outside = g.V.Vault.outside in
    let split = c.split_at.ensures in
    let back = c.split_at.result.1.now in
    let now = c.loop-rest.invariant in
    let next = c.in_default.ensures.numbers in
    record {
      sends = sends-more (outside c.args.vault.now) (outside c.loop-rest.vault) (outside c.flush.new.vault) _ _ c.keep.new.self back
          (c.flush.new.self ++ back) _ now.sends
          (kept-front c.loop-rest.self c.loop-rest.rest.now c.split_at.result.0.now back c.keep.new.self _ split.front split.back c.keep.ensures)
          c.in_default.ensures.puts (ap (λ (xs : List ℕ). xs ++ back) c.in_default.ensures.emptied) tt;
      left =
          left-piece (length c.loop-rest.self) (length c.loop-rest.rest.now) c.room.result (length back) (length c.flush.new.self)
          c.room.ensures.room c.loop-rest-test.true (omega (arith, split.back_len, c.room.ensures.room, c.room-in-loop-rest.ensures.room))
          (ap length c.in_default.ensures.emptied)
          ∙ now.left;
      numbers = (next.0 ∙ now.numbers.0, next.1 ∙ now.numbers.1, next.2 ∙ now.numbers.2, next.3 ∙ now.numbers.3);
      alive = c.in_default.ensures.alive;
    }
