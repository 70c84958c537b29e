use Rattle.std.proofs.Common.{◌++◌, replicate, List, ℕ, ap, refl, ◌∙◌, subst, append_assoc}
use Rattle.std.specs.Prelude.{Err}
use Rattle.vault_output.specs.Sending.{Sends}
use Rattle.vault_output.proofs.SendingLaws.{sends-kept, sends-then}
use Rattle.machine_run.proofs.Telling.{fails-part, placed-is}
use Rattle.machine_run.proofs.tell.placed.Goals as goal

pub returns-in-Ok-clause-sends : goal.returns-in-Ok-clause-sends
returns-in-Ok-clause-sends g c =
    let outside = g.V.Vault.outside in
    let text = c.args.text.now in
    let blank = replicate c.blank_count.result 32 in
    let whole = ap (λ n. replicate n 32 ++ text) c.blank_count.ensures ∙ placed-is c.args.width text in
    subst (λ (xs : List ℕ). Sends (outside c.args.vault.now) (outside c.write.new.vault) (c.args.output.now ++ xs) c.write.new.self c.write.result) whole
    (subst (λ (xs : List ℕ). Sends (outside c.args.vault.now) (outside c.write.new.vault) xs c.write.new.self c.write.result) (append_assoc c.args.output.now blank text)
    (sends-then (outside c.args.vault.now) (outside c.blanks.new.vault) (outside c.write.new.vault) (c.args.output.now ++ blank) c.blanks.new.self text c.write.new.self c.write.result
    c.in-Ok.ensures.sends c.write.ensures.sends))

pub returns-in-Err-clause-sends : goal.returns-in-Err-clause-sends
returns-in-Err-clause-sends g c =
    let outside = g.V.Vault.outside in
    let text = c.args.text.now in
    let whole = ap (λ n. replicate n 32 ++ text) c.blank_count.ensures ∙ placed-is c.args.width text in
    subst (λ (xs : List ℕ). Sends {T = Unit {0}} (outside c.args.vault.now) (outside c.blanks.new.vault) (c.args.output.now ++ xs) c.blanks.new.self (Err c.in-Err.fault)) whole
    (fails-part (outside c.args.vault.now) (outside c.args.vault.now) (outside c.blanks.new.vault) _ c.args.output.now _ (replicate c.blank_count.result 32) text c.blanks.new.self c.in-Err.fault
    (sends-kept (outside c.args.vault.now) _ _ refl) refl c.in-Err.ensures.sends)
