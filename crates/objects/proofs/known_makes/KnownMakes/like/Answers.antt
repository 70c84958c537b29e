use Rattle.std.proofs.Common.{inl}
use Rattle.objects.proofs.MakeEntries.{listed-so}
use Rattle.objects.proofs.known_makes.KnownMakes.like.Goals as goal

pub text-requires-clause-held : goal.text-requires-clause-held
text-requires-clause-held c =
    (listed-so c.args.sw.now c.args.self.now.entries.items c.deref-known-items.result.now c.loop-known.known-index _ c.requires.so
    c.deref-known-items.ensures.value c.loop-known-test.true c.if-other-ne0.true).held

pub text-requires-clause-kind : goal.text-requires-clause-kind
text-requires-clause-kind c =
    inl (listed-so c.args.sw.now c.args.self.now.entries.items c.deref-known-items.result.now c.loop-known.known-index _ c.requires.so
    c.deref-known-items.ensures.value c.loop-known-test.true c.if-other-ne0.true).kind

pub returns-then-eq-clause-held : goal.returns-then-eq-clause-held
returns-then-eq-clause-held c =
    (listed-so c.args.sw.now c.args.self.now.entries.items c.deref-known-items.result.now c.loop-known.known-index _ c.requires.so
    c.deref-known-items.ensures.value c.loop-known-test.true c.if-other-ne0.true).held

pub returns-then-eq-clause-text : goal.returns-then-eq-clause-text
returns-then-eq-clause-text c =
    (listed-so c.args.sw.now c.args.self.now.entries.items c.deref-known-items.result.now c.loop-known.known-index _ c.requires.so
    c.deref-known-items.ensures.value c.loop-known-test.true c.if-other-ne0.true).kind
