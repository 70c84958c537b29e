use Rattle.std.proofs.Common.{◌≡◌, ℕ, ◌+◌, ◌*◌, ◌<◌, true, below_more, length, sym, ap, ◌∙◌, arith}
use Rattle.page_map.specs.Pages.{is_free}
use Rattle.page_map.specs.Numbers.{first_numbers}
use Rattle.page_map.specs.Map.{MapView, is_good, with_read, with_staged, with_taken}
use Rattle.page_map.proofs.ReadLaws.{read_more, read_none}
use Rattle.page_map.proofs.page_map.PageMap.read_map_page.Goals as goal

pub loop-index-init : goal.loop-index-init
loop-index-init c = record {
  good = λ index below. absurd (omega arith);
  read = sym (read_none c.args.self.now c.args.number c.args.bytes.now);
}

pub loop-index-preserved : goal.loop-index-preserved
loop-index-preserved c =
    let old = c.args.self.now in
    let bytes = c.args.bytes.now in
    let place = 1024 * c.args.number + c.loop-index.index in
    let found = c.read_number-found.result in
    let below : place < length old.staged = omega (arith, c.sound.ensures.staged, c.requires.logical, c.loop-index-test.true) in
    -- the number that was read is good
    let good : is_good old bytes c.loop-index.index ≡ true =
    ap (λ (page : ℕ). is_free (with_read old c.args.number (first_numbers bytes c.loop-index.index)).free page) (sym c.read_number-found.ensures)
    ∙ ap (λ (map : MapView). is_free map.free found) (sym c.loop-index.invariant.read)
    ∙ sym c.take_read.ensures.answer
    ∙ c.if-not-take_read.false in
    record {
      good = below_more _ _ c.loop-index.invariant.good good;
      read = c.if-not-take_read.ensures.taken
          ∙ ap (λ (map : MapView). with_staged (with_taken map found) place found) c.loop-index.invariant.read
          ∙ ap (λ (n : ℕ). with_staged (with_taken (with_read old c.args.number (first_numbers bytes c.loop-index.index)) n) place n) c.read_number-found.ensures
          ∙ read_more old c.args.number bytes c.loop-index.index below;
    }
