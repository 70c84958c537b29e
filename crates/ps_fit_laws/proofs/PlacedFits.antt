-- A clause that fits still fits when its names are placed: only places and the texts of scopes are others.
use Rattle.std.proofs.Common.{◌≡◌, List, [], ◌∷◌, map, refl, ap, subst}
use Rattle.ps_leaf_laws.specs.ps_base.TyView.{TyViews}
use Rattle.ps_leaf_laws.specs.ps_base.TyView as types
use Rattle.ps_leaf_laws.specs.ps_program.declared.place.Place.{Place}
use Rattle.ps_leaf_laws.specs.ps_program.Node.{Param, Node, Nodes, none, more, Arms, no_arms, more_arms, arm, BodyNode, body}
use Rattle.ps_leaf_laws.specs.ps_program.Node as node
use Rattle.ps_leaf_laws.specs.ps_type_text.Texts.{Field}
use Rattle.ps_leaf_laws.specs.ps_typing.Placing.{Locals, Around}
use Rattle.ps_leaf_laws.specs.ps_typing.Placed.{then_give, ◌>>=◌, placed, placed_all, placed_arms, placed_literal, placed_program}
use Rattle.ps_leaf_laws.specs.ps_typing.WellTyped.{types_of_params}
use Rattle.ps_leaf_laws.specs.ps_soundness.Valued.{IsValued}
use Rattle.ps_leaf_laws.specs.ps_soundness.Running.{AreAsMany, HasAsMany}
use Rattle.ps_fit_laws.specs.Fitting.{Fits, AllFit, ArmsFit, FitsBody}

-- as many clauses as before
as_many_placed : (around : Around) (l : Locals) (args : Nodes) (fields : List Field) → AreAsMany args fields →
    AreAsMany (placed_all around l args).of fields
unfolding then_give ◌>>=◌
as_many_placed around l none [] h = tt
as_many_placed around l (more first rest) (field ∷ fields) h = as_many_placed around (placed around l first).locals rest fields h
as_many_placed around l none (field ∷ fields) h = absurd h
as_many_placed around l (more first rest) [] h = absurd h

has_as_many_placed : (around : Around) (l : Locals) (class : List _) (args : Nodes) → HasAsMany class args →
    HasAsMany class (placed_all around l args).of
has_as_many_placed around l class args h = record { class = h.class; are = as_many_placed around l args h.class.fields h.are }

-- parameters at other places have the same types
same_types : (to : Place → Place) (params : List Param) →
    types_of_params params ≡ types_of_params (map (λ (param : Param). record param { place = to param.place }) params)
same_types to [] = refl
same_types to (param ∷ params) = ap (types.more param.ty) (same_types to params)

mutual
  unfolding then_give ◌>>=◌

  pub fits : (around : Around) (l : Locals) (tree : Node) → Fits tree → Fits (placed around l tree).of
  fits around l (node.Int v) h = h
  fits around l (node.Flag b) h = h
  fits around l (node.Text bytes) h = h
  fits around l node.Nil h = h
  fits around l node.Class h = h
  fits around l node.Empty h = h
  fits around l (node.Name place ty) h = h
  fits around l (node.SetName place ty e) h = fits around l e h
  fits around l (node.Let place ty e) h = fits around _ e h
  fits around l (node.Block scope items) h = all_fit _ l items h
  fits around l (node.IfDo c a) h = (fits around l c h.0, fits around _ a h.1)
  fits around l (node.IfElse c a b) h = (fits around l c h.0, fits around _ a h.1, fits around _ b h.2)
  fits around l (node.While c a) h = (fits around l c h.0, fits around _ a h.1)
  fits around l (node.Repeat a c b) h = (fits around l a h.0, fits around _ c h.1, fits around _ b h.2)
  fits around l (node.For slot a b c scope control s line) h =
      (fits around _ a h.0, fits around _ b h.1, fits around _ c h.2, fits _ _ s h.3)
  fits around l (node.Case e arms d ty) h = (fits around l e h.0, arms_fit around _ arms h.1, fits around _ d h.2)
  fits around l (node.And a b) h = (fits around l a h.0, fits around _ b h.1)
  fits around l (node.Or a b) h = (fits around l a h.0, fits around _ b h.1)
  fits around l (node.Not e) h = fits around l e h
  fits around l (node.Neg e line) h = fits around l e h
  fits around l (node.Plus e) h = fits around l e h
  fits around l (node.Arith op a b line) h = (fits around l a h.0, fits around _ b h.1)
  fits around l (node.Compare op ty a b) h = (fits around l a h.0, fits around _ b h.1)
  fits around l (node.Is e class) h = (h.0, fits around l e h.1)
  fits around l (node.Join a b line) h = (fits around l a h.0, fits around _ b h.1)
  fits around l (node.Part a i n line) h = (fits around l a h.0, fits around _ i h.1, fits around _ n h.2)
  fits around l (node.Make class args) h = (has_as_many_placed around l class args h.0, all_fit around l args h.1)
  fits around l (node.Field e class index ty line) h = (h.0, fits around l e h.1)
  fits around l (node.SetField p class index ty e line) h = (h.0, fits around l p h.1, fits around _ e h.2)
  fits around l (node.Fill a b e ty line) h = (fits around l a h.0, fits around _ b h.1, fits around _ e h.2)
  fits around l (node.Elems a items ty line) h = (h.0, fits around l a h.1, all_fit around _ items h.2)
  fits around l (node.Element v i ty line) h = (fits around l v h.0, fits around _ i h.1)
  fits around l (node.SetElement v i e ty line) h = (fits around l v h.0, fits around _ i h.1, fits around _ e h.2)
  fits around l (node.Bound v upper) h = fits around l v h
  fits around l (node.Lib code args line) h = all_fit around l args h
  fits around l (node.Write e w wide ty line) h = (fits around l e h.0, fits around _ w h.1)
  fits around l (node.Abort line) h = h
  fits around l (node.Proc of) h = body_fits around l of h
  fits around l (node.Call f args line) h = (fits around l f h.0, all_fit around _ args h.1)
  fits around l (node.Scan text a f q s line) h = (fits around _ a h.0, fits around _ f h.1)

  all_fit : (around : Around) (l : Locals) (trees : Nodes) → AllFit trees → AllFit (placed_all around l trees).of
  all_fit around l none h = tt
  all_fit around l (more first rest) h = (fits around l first h.0, all_fit around _ rest h.1)

  arms_fit : (around : Around) (l : Locals) (arms : Arms) → ArmsFit arms → ArmsFit (placed_arms around l arms).of
  arms_fit around l no_arms h = tt
  arms_fit around l (more_arms (arm labels a) rest) h = (all_fit around l labels h.0, fits around _ a h.1, arms_fit around _ rest h.2)

  body_fits : (around : Around) (l : Locals) (of : BodyNode) → FitsBody of → FitsBody (placed_literal around l of).of
  body_fits around l (body params gives_ tree scope line) h =
      (subst (λ (given : TyViews). IsValued (types.Proc given gives_)) (same_types _ params) h.0, fits _ _ tree h.1)

pub program_fits : (names : List Field) (program : BodyNode) → FitsBody program → FitsBody (placed_program names program)
program_fits names program h = body_fits _ _ program h
