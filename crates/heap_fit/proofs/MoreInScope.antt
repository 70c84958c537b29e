-- A body that is fit stays fit where more is in scope, and a literal makes a fit procedure.
use Rattle.std.proofs.Common.{inl, inr, ◌≡◌, ℕ, List, [], ◌∷◌, map, length, refl, sym, ap, subst, arith, Option, Some}
use Rattle.ps_heap.specs.ps_base.TyView.{TyView}
use Rattle.ps_soundness.specs.ps_program.declared.place.Place.{Place}
use Rattle.ps_soundness.specs.ps_program.declared.place.Place.TheVariants.{Plain, Kept}
use Rattle.ps_soundness.specs.ps_program.Node.{Param, Node, Nodes, BodyNode, body}
use Rattle.ps_soundness.specs.ps_program.Node as node
use Rattle.ps_soundness.specs.ps_typing.WellTyped.{At, IsOfType, Claim}
use Rattle.ps_heap.specs.Values.{Procedure, as_written}
use Rattle.ps_heap.specs.Objects.{Heap}
use Rattle.heap_fit.specs.Bodies.{Level, whole, InScope, HasDeclared, IsNameAt, with_local, with_levels, Declares, Opens, Takes, IsFit, AreFit, AreItems, IsFitBody}
use Rattle.heap_fit.specs.Bodies as fit
use Rattle.heap_fit.specs.Heaps.{AreRound, IsFitValue}
use Rattle.database_meaning.proofs.KeptLaws.{in-row}
use Rattle.heap_fit.proofs.TypedFits.{at_below}
use Rattle.heap_fit.specs.Going.{HasMore, HaveMore, names_of}

-- what is in scope, with as much or more in the scopes
abbrev Wider : InScope → InScope → Type 0
Wider env other = (other.locals ≡ env.locals) × HaveMore env.levels other.levels

at-more : (levels others : List Level) (position : ℕ) (ty : TyView) (up : ℕ) → HaveMore levels others → At (HasDeclared position ty) levels up → At (HasDeclared position ty) others up
at-more [] others position ty up more at = absurd at
at-more (level ∷ levels) [] position ty up more at = absurd more
at-more (level ∷ levels) (other ∷ others) position ty up more (inl h) =
    inl (h.0, (subst (λ names. At (IsOfType ty) names position) (sym more.0.names) h.1.0, more.0.declared position (at_below (IsOfType ty) level.names position h.1.0) h.1.1))
at-more (level ∷ levels) (other ∷ others) position ty up more (inr (before, e, h)) = inr (before, e, at-more levels others position ty before more.1 h)

name-more : (env other : InScope) (place : Place) (ty : TyView) → Wider env other → IsNameAt env place ty → IsNameAt other place ty
name-more env other (Plain slot) ty w at = subst (λ locals. fit.IsNameAt (record { locals = locals; levels = other.levels }) (Plain slot) ty) (sym w.0) at
name-more env other (Kept up position) ty w at = at-more env.levels other.levels position ty up w.1 at

declared-more : (level other : Level) (position : ℕ) → HasMore level other → HasMore (record level { declared = position ∷ level.declared }) (record other { declared = position ∷ other.declared })
declared-more level other position h = record { names = h.names; declared = λ p below l. elim l [ inl e ↦ inl e | inr m ↦ inr (h.declared p below m) ] }

record Widened (scope : Option (List ℕ)) (other : InScope) (place : Place) (ty : TyView) (own : InScope) : Type 0 where
  after : InScope
  declares : Declares scope other place ty after
  wider : Wider own after

kept-more : (text : List ℕ) (locals : _) (level : Level) (around others : List Level) (position : ℕ) (ty : TyView) → HaveMore (level ∷ around) others → At (IsOfType ty) level.names position
    → Widened (Some text) (record { locals = locals; levels = others }) (Kept 0 position) ty
    (record { locals = locals; levels = record level { declared = position ∷ level.declared } ∷ around })
kept-more text locals level around [] position ty more at = absurd more
kept-more text locals level around (other ∷ others) position ty more at = record {
  after = record { locals = locals; levels = record other { declared = position ∷ other.declared } ∷ others };
  declares = fit.as_kept other others refl (subst (λ names. At (IsOfType ty) names position) (sym more.0.names) at);
  wider = (refl, (declared-more level other position more.0, more.1));
}

declares-more : {scope : Option (List ℕ)} {env own : InScope} {place : Place} {ty : TyView} (other : InScope) → Wider env other → Declares scope env place ty own
    → Widened scope other place ty own
declares-more other w (fit.as_local {slot = slot} {ty = ty}) =
    record { after = with_local slot ty other; declares = fit.as_local; wider = (ap (λ ls. record { slot = slot; ty = ty } ∷ ls) w.0, w.1) }
declares-more other w (fit.as_kept {text = text} {env = env} {position = position} {ty = ty} level around is at) =
    subst (λ locals. Widened (Some text) (record { locals = locals; levels = other.levels }) (Kept 0 position) ty
    (record { locals = env.locals; levels = record level { declared = position ∷ level.declared } ∷ around })) (sym w.0)
    (kept-more text env.locals level around other.levels position ty (subst (λ ls. HaveMore ls other.levels) is w.1) at)

record Opened (scope : Option (List ℕ)) (around inside : List Level) : Type 0 where
  after : List Level
  opens : Opens scope around after
  more : HaveMore inside after

opens-more : {scope : Option (List ℕ)} {around inside : List Level} (others : List Level) → HaveMore around others → Opens scope around inside → Opened scope others inside
opens-more others more fit.unscoped = record { after = others; opens = fit.unscoped; more = more }
opens-more others more (fit.scoped {first = first} {rest = rest} named) = record {
  after = record { names = first ∷ rest; declared = [] } ∷ others;
  opens = fit.scoped named;
  more = (record { names = refl; declared = λ position below l. l }, more);
}

record Given (scope : Option (List ℕ)) (other : InScope) (nums refs : ℕ) (params : List Param) (last : InScope) : Type 0 where
  after : InScope
  takes : Takes scope other nums refs params after
  wider : Wider last after

takes-more : {scope : Option (List ℕ)} {env last : InScope} {nums refs : ℕ} {params : List Param} (other : InScope) → Wider env other → Takes scope env nums refs params last
    → Given scope other nums refs params last
takes-more other w fit.no_more = record { after = other; takes = fit.no_more; wider = w }
takes-more other w (fit.as_local {slot = slot} {ty = ty} e rest) =
    let r = takes-more (with_local slot ty other) (ap (λ ls. record { slot = slot; ty = ty } ∷ ls) w.0, w.1) rest in
    record { after = r.after; takes = fit.as_local e r.takes; wider = r.wider }
takes-more other w (fit.as_kept declares rest) =
    let d = declares-more other w declares in
    let r = takes-more d.after d.wider rest in
    record { after = r.after; takes = fit.as_kept d.declares r.takes; wider = r.wider }

record ItemsMore (scope : Option (List ℕ)) (other : InScope) (before : TyView) (items : Nodes) (ty : TyView) : Type 0 where
  last : InScope
  are : AreItems scope other before items ty last

mutual
  fits-more : {env : InScope} {clause : Node} {ty : TyView} (other : InScope) → Wider env other → IsFit env clause ty → IsFit other clause ty
  fits-more other w (fit.by_rule r names parts) = fit.by_rule r names (parts-more other w parts)
  fits-more other w (fit.name {env = env} {place = place} {ty = ty} at) = fit.name (name-more env other place ty w at)
  fits-more other w (fit.set_name {env = env} {place = place} {ty = ty} at e) = fit.set_name (name-more env other place ty w at) (fits-more other w e)
  fits-more other w (fit.block opens items) =
      let o = opens-more other.levels w.1 opens in
      let r = items-more (with_levels o.after other) (w.0, o.more) items in
      fit.block o.opens r.are
  fits-more other w (fit.loop opens declares parts clause) =
      let o = opens-more other.levels w.1 opens in
      let d = declares-more (with_levels o.after other) (w.0, o.more) declares in
      fit.loop o.opens d.declares (parts-more other w parts) (fits-more d.after d.wider clause)
  fits-more other w (fit.scan parts) = fit.scan (parts-more other w parts)
  fits-more other w (fit.literal {env = env} is_body) = fit.literal (body-more other.levels w.1 is_body)

  parts-more : {env : InScope} {claims : List Claim} (other : InScope) → Wider env other → AreFit env claims → AreFit other claims
  parts-more other w fit.AreFit.no_more = fit.AreFit.no_more
  parts-more other w (fit.one_more first rest) = fit.one_more (fits-more other w first) (parts-more other w rest)

  items-more : {scope : Option (List ℕ)} {env last : InScope} {before ty : TyView} {items : Nodes} (other : InScope) → Wider env other → AreItems scope env before items ty last
      → ItemsMore scope other before items ty
  items-more other w fit.at_end = record { last = other; are = fit.at_end }
  items-more other w (fit.a_clause first rest) =
      let r = items-more other w rest in record { last = r.last; are = fit.a_clause (fits-more other w first) r.are }
  items-more other w (fit.a_value isnt declares e rest) =
      let d = declares-more other w declares in
      let r = items-more d.after d.wider rest in
      record { last = r.last; are = fit.a_value isnt d.declares (fits-more other w e) r.are }
  items-more other w (fit.a_literal declares e rest) =
      let d = declares-more other w declares in
      let r = items-more d.after d.wider rest in
      record { last = r.last; are = fit.a_literal d.declares (fits-more d.after d.wider e) r.are }

  pub body-more : {levels : List Level} {of : BodyNode} (others : List Level) → HaveMore levels others → IsFitBody levels of → IsFitBody others of
  body-more others more (fit.of_params opens takes tree valued slots) =
      let o = opens-more others more opens in
      let t = takes-more (record { locals = []; levels = o.after }) (refl, o.more) takes in
      fit.of_params o.opens t.takes (fits-more t.after t.wider tree) valued slots

-- A literal.

all-whole : (levels : List Level) → HaveMore levels (map whole (names_of levels))
all-whole [] = tt
all-whole (level ∷ levels) =
    (record { names = refl; declared = λ position below l. in-row 0 (length level.names) position (omega arith) (omega (arith, below)) }, all-whole levels)

pub literal-fit : (heap : Heap) (env : InScope) (of : BodyNode) (ty : TyView) (scope : Option ℕ) → IsFit env (node.Proc of) ty → AreRound heap scope (names_of env.levels)
    → IsFitValue heap ty (Procedure (as_written of) scope)
literal-fit heap env (body params gives tree text line) ty scope (fit.literal is_body) round =
    record { scopes = names_of env.levels; round = round; fit = body-more (map whole (names_of env.levels)) (all-whole env.levels) is_body; ty_is = refl }
literal-fit heap env of ty scope (fit.by_rule r names parts) round = elim r [ ]
