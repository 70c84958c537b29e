use Rattle.std.proofs.Common.{◌≡◌, ◌∙◌, ℕ, List, length, take, drop, sym, ap}
use Rattle.obj_layout.specs.Stored.{Space, words_there}
use Rattle.memory_vault.specs.Memory.{Memory}
use Rattle.memory_vault.proofs.HeldLaws.{held-words}
use Rattle.memory_vault.proofs.memory.MemoryVaultVault.fetch.Goals as goal

pub returns-clause-told : goal.returns-clause-told
returns-clause-told c = λ words h.
    let from : c.deref.result.now ≡ c.args.self.now.space.words =
    c.deref.ensures.value ∙ ap (λ (m : Memory). m.space.words) (c.self.view_is ∙ c.in_ok-_header.ensures.after) in
    held-words c.args.self.now c.args.pid words h
    ∙ ap (λ (n : ℕ). take n (drop c.args.pid c.args.self.now.space.words)) (c.requires.fits words h)
    ∙ ap (λ (r : List ℕ). take (length c.args.into.now) (drop c.args.pid r)) (sym from)
    ∙ sym c.copy_from.ensures

pub returns-clause-stands : goal.returns-clause-stands
returns-clause-stands c = λ space told.
    let from : c.deref.result.now ≡ c.args.self.now.space.words =
    c.deref.ensures.value ∙ ap (λ (m : Memory). m.space.words) (c.self.view_is ∙ c.in_ok-_header.ensures.after) in
    ap (λ (s : Space). words_there c.args.pid (length c.args.into.now) s) (sym told.is)
    ∙ ap (λ (r : List ℕ). take (length c.args.into.now) (drop c.args.pid r)) (sym from)
    ∙ sym c.copy_from.ensures
