use Rattle.std.proofs.Common.{[], ◌∷◌, ◌++◌, refl}
use Rattle.ps_base.specs.TyView.{ty_view}
use Rattle.ps_tree.specs.Phrase.{NameAt, groups_in}
use Rattle.ps_reader.specs.Grammar.{Go, Groups, MoreGroups, Give, all_groups}
use Rattle.ps_reader.specs.inside.Stopping.{HaltsWith}
use Rattle.ps_reader.proofs.Steps.{on, nearer, took_name, by_row, behind_first, same, failed}
use Rattle.ps_reader.proofs.Rows.{groups_begin, groups_again, further, no_next, has_next}
use Rattle.ps_reader.proofs.reader.Reader.groups.Goals as goal

pub loop-groups-init : goal.loop-groups-init
loop-groups-init c = groups_begin (λ all. Go (Groups all)) c.in_ok-groups.ensures.items

pub returns-in_err-ty : goal.returns-in_err-ty
returns-in_err-ty c = failed _ _ c.from_residual-in_err-ty.ensures.1 ((on c.loop-groups.invariant (by_row refl)).halts _ (HaltsWith.in_first c.in_err-ty.ensures))

pub returns-in_err-first : goal.returns-in_err-first
returns-in_err-first c = failed _ _ c.from_residual-in_err-first.ensures.1 ((on c.loop-groups.invariant (on (by_row refl) (behind_first c.in_ok-ty.ensures))).halts _ (c.in_err-first.ensures _ _))

pub returns-in_err-goes_on : goal.returns-in_err-goes_on
returns-in_err-goes_on c =
    failed _ _ c.from_residual-in_err-goes_on.ensures.1
    ((on c.loop-groups.invariant (on (by_row refl) (on (behind_first c.in_ok-ty.ensures) (on (took_name (λ (name : NameAt). Go (MoreGroups (ty_view c.in_ok-ty.ty) (groups_in c.loop-groups.groups.items ++ record { ty = ty_view c.in_ok-ty.ty; name = name } ∷ []))) c.in_ok-first.ensures) (further (ty_view c.in_ok-ty.ty) _ _ c.new-more.ensures.items))))).halts _ (c.in_err-goes_on.ensures _ _ _))

pub returns-then-not-goes_on : goal.returns-then-not-goes_on
returns-then-not-goes_on c =
    on (on c.loop-groups.invariant (on (by_row refl) (on (behind_first c.in_ok-ty.ensures) (on (took_name (λ (name : NameAt). Go (MoreGroups (ty_view c.in_ok-ty.ty) (groups_in c.loop-groups.groups.items ++ record { ty = ty_view c.in_ok-ty.ty; name = name } ∷ []))) c.in_ok-first.ensures) (further (ty_view c.in_ok-ty.ty) _ _ c.new-more.ensures.items)))))
    (on (c.in_ok-goes_on.ensures _ _ _) (on (same (no_next _ c.if-not-goes_on.true)) (groups_again (λ all. Give (all_groups all)) _ _ c.group_of.ensures c.in_ok-push.ensures.items)))

pub loop-groups-preserved : goal.loop-groups-preserved
loop-groups-preserved c =
    on (on c.loop-groups.invariant (on (by_row refl) (on (behind_first c.in_ok-ty.ensures) (on (took_name (λ (name : NameAt). Go (MoreGroups (ty_view c.in_ok-ty.ty) (groups_in c.loop-groups.groups.items ++ record { ty = ty_view c.in_ok-ty.ty; name = name } ∷ []))) c.in_ok-first.ensures) (further (ty_view c.in_ok-ty.ty) _ _ c.new-more.ensures.items)))))
    (on (c.in_ok-goes_on.ensures _ _ _) (on (same (has_next _ c.if-not-goes_on.false)) (groups_again (λ all. Go (Groups all)) _ _ c.group_of.ensures c.in_ok-push.ensures.items)))

pub loop-groups-smaller : goal.loop-groups-smaller
loop-groups-smaller c = nearer c.in_ok-first.ensures.taken c.in_ok-ty.ensures.forward (c.in_ok-goes_on.ensures c.args.room (ty_view c.in_ok-ty.ty) []).forward
