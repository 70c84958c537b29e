use Rattle.scopes_tests.proofs.scene.kept.Goals as goal

pub get_kept-requires-clause-so : goal.get_kept-requires-clause-so
get_kept-requires-clause-so c = c.requires.so c.fetch.new.sw
