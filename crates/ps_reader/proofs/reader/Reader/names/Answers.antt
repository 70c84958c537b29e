use Rattle.std.proofs.Common.{[], ◌∷◌, ◌++◌, Some, refl, ap, arith}
use Rattle.ps_tree.specs.Phrase.{NameAt, names_in}
use Rattle.ps_reader.specs.Grammar.{Go, MoreGroups}
use Rattle.ps_reader.proofs.Steps.{on, nearer, nowhere, took, took_name, failed}
use Rattle.ps_reader.proofs.Rows.{groups_other, next_group_other, goes_as, goes_by, names_again}
use Rattle.ps_reader.proofs.reader.Reader.names.Goals as goal

pub loop-at-init : goal.loop-at-init
loop-at-init c = λ room ty before. nowhere

pub returns-in_default-kind_at : goal.returns-in_default-kind_at
returns-in_default-kind_at c = λ room ty before. on (c.loop-at.invariant room ty before) (on (goes_as c.kind_at.ensures c.in-Comma.is refl) (on (took c.in_ok-take-in-Comma.ensures) (goes_by c.kind_at-in-Comma.ensures (ap Some (next_group_other _ _ _ _ c.in_default-kind_at.not-Name)))))

pub loop-at-smaller : goal.loop-at-smaller
loop-at-smaller c = nearer c.in_ok-take-in-Comma.ensures (omega arith) (omega (arith, c.in_ok-name-in-Comma.ensures.taken.at))

pub loop-at-preserved : goal.loop-at-preserved
loop-at-preserved c = λ room ty before.
    on (c.loop-at.invariant room ty before)
    (on (goes_as c.kind_at.ensures c.in-Comma.is refl)
    (on (took c.in_ok-take-in-Comma.ensures)
    (on (goes_as c.kind_at-in-Comma.ensures c.in-Name.is refl)
    (on (took_name (λ (name : NameAt). Go (MoreGroups ty ((before ++ names_in ty c.loop-at.names.items) ++ record { ty = ty; name = name } ∷ []))) c.in_ok-name-in-Comma.ensures)
    (names_again (λ all. Go (MoreGroups ty all)) ty before _ _ c.in_ok-push-in-Comma.ensures.items)))))

pub returns-in-Semicolon : goal.returns-in-Semicolon
returns-in-Semicolon c = λ room ty before. on (c.loop-at.invariant room ty before) (on (goes_as c.kind_at.ensures c.in-Semicolon.is refl) (took c.in_ok-take-in-Semicolon.ensures))

pub returns-in_default : goal.returns-in_default
returns-in_default c = λ room ty before. on (c.loop-at.invariant room ty before) (goes_by c.kind_at.ensures (ap Some (groups_other _ _ _ c.in_default.not-Comma c.in_default.not-Semicolon)))

pub returns-in_err-name-in-Comma : goal.returns-in_err-name-in-Comma
returns-in_err-name-in-Comma c = λ room ty before. failed _ _ c.from_residual-in_err-name-in-Comma.ensures.1 ((on (c.loop-at.invariant room ty before) (on (goes_as c.kind_at.ensures c.in-Comma.is refl) (on (took c.in_ok-take-in-Comma.ensures) (goes_as c.kind_at-in-Comma.ensures c.in-Name.is refl)))).halts _ (c.in_err-name-in-Comma.ensures _ _))
