use Rattle.std.proofs.Common.{arith, rules, ◌*◌, ◌<◌, ◌∙◌}
use Rattle.joint_ops.specs.swizzle.Heap.{header_at}
use Rattle.joint_ops.proofs.of_swizzle.ReadingLaws.{texts-kept}
use Rattle.db_dir.proofs.EntryLaws.{some-none, some-then, some-fails}
use Rattle.db_dir.proofs.GainLaws.{by-none, by-more}
use Rattle.db_dir.proofs.FindLaws.{others-next, first-there, name-spoilt}
use Rattle.db_dir.proofs.find.find_in.Goals as goal

pub loop-place-init : goal.loop-place-init
loop-place-init g c = record {
  reads = some-none c.args.sw.now (g.V.Vault.outside c.args.vault.now);
  gains = by-none c.args.sw.now (g.V.Vault.outside c.args.vault.now) _ c.sound.ensures;
  others = λ k lt. absurd (omega (arith, lt));
  numbers = search rules;
  alive = c.requires.alive;
}

pub has_text-requires-clause-held : goal.has_text-requires-clause-held
has_text-requires-clause-held g c = (c.loop-place.invariant.reads.reads.keeps.objects c.args.directory c.requires.directory.held).held

pub has_text-requires-clause-below : goal.has_text-requires-clause-below
has_text-requires-clause-below g c =
    let stays = c.loop-place.invariant.reads.reads.keeps.objects c.args.directory c.requires.directory.held in
    omega (arith, stays.refs, c.database_count-count.ensures.is)

pub has_text-requires-clause-text_held : goal.has_text-requires-clause-text_held
has_text-requires-clause-text_held g c = (c.loop-place.invariant.reads.reads.keeps.objects c.args.name c.requires.held).held

pub has_text-requires-clause-text_kind : goal.has_text-requires-clause-text_kind
has_text-requires-clause-text_kind g c = (texts-kept c.args.sw.now c.loop-place.sw c.loop-place.invariant.reads.reads.keeps c.args.name c.requires.held c.requires.text).kind

pub loop-place-preserved : goal.loop-place-preserved
loop-place-preserved g c =
    let a = g.V.Vault.outside c.args.vault.now in
    let b = g.V.Vault.outside c.loop-place.vault in
    let d = g.V.Vault.outside c.has_text.new.vault in
    let inv = c.loop-place.invariant in
    let e = c.in-Ok.ensures in
    record {
      reads = some-then c.args.sw.now c.loop-place.sw c.has_text.new.sw a b d inv.reads e.reads;
      gains = by-more c.args.sw.now c.loop-place.sw c.has_text.new.sw a b d c.args.directory c.requires.directory.held inv.reads inv.gains e.gains;
      others = others-next c.args.sw.now c.loop-place.sw c.has_text.new.sw c.args.directory c.loop-place.place c.args.name c.in-Ok.same c.requires.directory.held
          c.requires.held c.requires.text inv.reads.reads.keeps e.reads.reads.keeps inv.others c.if-same.false e.compared;
      numbers = (e.numbers.0 ∙ inv.numbers.0, e.numbers.1 ∙ inv.numbers.1, e.numbers.2 ∙ inv.numbers.2, e.numbers.3 ∙ inv.numbers.3);
      alive = e.alive;
    }

pub returns-then-same-clause-finds : goal.returns-then-same-clause-finds
returns-then-same-clause-finds g c =
    let inv = c.loop-place.invariant in
    let e = c.in-Ok.ensures in
    let below : 3 * c.loop-place.place < (header_at c.args.sw.now c.args.directory).refs = omega (arith, c.database_count-count.ensures.is) in (
      c.loop-place.place,
      omega arith,
      first-there c.args.sw.now c.loop-place.sw c.has_text.new.sw c.args.directory c.loop-place.place c.args.name c.in-Ok.same c.requires.directory.held
          c.requires.held c.requires.text inv.reads.reads.keeps e.reads.reads.keeps inv.others below c.if-same.true e.compared,
    )

pub returns-then-same-clause-reads : goal.returns-then-same-clause-reads
returns-then-same-clause-reads g c =
    some-then c.args.sw.now c.loop-place.sw c.has_text.new.sw (g.V.Vault.outside c.args.vault.now) (g.V.Vault.outside c.loop-place.vault)
    (g.V.Vault.outside c.has_text.new.vault) c.loop-place.invariant.reads c.in-Ok.ensures.reads

pub returns-in-Err-clause-finds : goal.returns-in-Err-clause-finds
returns-in-Err-clause-finds g c =
    let below : 3 * c.loop-place.place < (header_at c.args.sw.now c.args.directory).refs = omega (arith, c.database_count-count.ensures.is) in
    name-spoilt c.args.sw.now c.loop-place.sw c.has_text.new.sw (g.V.Vault.outside c.args.vault.now) (g.V.Vault.outside c.loop-place.vault)
    (g.V.Vault.outside c.has_text.new.vault) c.args.directory c.loop-place.place c.in-Err.fault c.sound-in-loop-place.ensures c.requires.directory.held c.loop-place.invariant.reads below
    c.in-Err.ensures.compared

pub returns-in-Err-clause-fails : goal.returns-in-Err-clause-fails
returns-in-Err-clause-fails g c =
    some-fails c.args.sw.now c.loop-place.sw (g.V.Vault.outside c.args.vault.now) (g.V.Vault.outside c.loop-place.vault) (g.V.Vault.outside c.has_text.new.vault)
    c.in-Err.fault c.loop-place.invariant.reads c.in-Err.ensures.fails

pub returns-clause-finds : goal.returns-clause-finds
returns-clause-finds g c = record { count = c.database_count-count.result; places = c.database_count-count.ensures; others = λ k lt. c.loop-place.invariant.others k (omega arith) }

pub returns-clause-reads : goal.returns-clause-reads
returns-clause-reads g c = c.loop-place.invariant.reads

pub returns-then-same-clause-gains : goal.returns-then-same-clause-gains
returns-then-same-clause-gains g c =
    by-more c.args.sw.now c.loop-place.sw c.has_text.new.sw (g.V.Vault.outside c.args.vault.now) (g.V.Vault.outside c.loop-place.vault)
    (g.V.Vault.outside c.has_text.new.vault) c.args.directory c.requires.directory.held c.loop-place.invariant.reads c.loop-place.invariant.gains c.in-Ok.ensures.gains

pub returns-clause-gains : goal.returns-clause-gains
returns-clause-gains g c = c.loop-place.invariant.gains
