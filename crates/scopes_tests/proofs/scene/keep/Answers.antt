use Rattle.scopes_tests.proofs.scene.keep.Goals as goal

pub set_kept-requires-clause-so : goal.set_kept-requires-clause-so
set_kept-requires-clause-so c = c.requires.so c.fetch.new.sw
