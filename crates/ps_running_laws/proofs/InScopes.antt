-- A numbered tree runs inside its scopes when its names have their places.
use Rattle.std.proofs.Common.{◌≡◌, ℕ, ◌+◌, List, [], ◌∷◌, map, inl, inr, refl, sym, subst}
use Rattle.std.specs.Prelude.{Option, Some}
use Rattle.ps_base.specs.TyView.{TyView}
use Rattle.ps_base.specs.TyView as types
use Rattle.ps_base.specs.declared.line.Line.{Line}
use Rattle.ps_program.specs.declared.place.Place.{Place}
use Rattle.ps_program.specs.declared.place.Place.TheVariants.{Plain}
use Rattle.ps_program.specs.Node.{Param, Node, Nodes, body}
use Rattle.ps_program.specs.Node as node
use Rattle.ps_typing_laws.specs.ps_type_text.Texts.{Field}
use Rattle.ps_typing_laws.specs.ps_typing.Mentions.{common, numbers}
use Rattle.ps_typing_laws.specs.ps_typing.Placing.{Locals, Around, with_declared, place_of, scope_text, inside}
use Rattle.ps_typing_laws.specs.ps_typing.Placing as placing
use Rattle.ps_typing_laws.specs.ps_typing.Placed.{then_give, ◌>>=◌, placed, placed_all, with_params}
use Rattle.ps_typing_laws.specs.ps_typing.WellTyped.{Claim}
use Rattle.ps_typing_laws.specs.Counted.{Each}
use Rattle.ps_typing_laws.proofs.Numbered.{Entry, entry, IsIn, HasType, Params, Numbered, AllNumbered, ItemsNumbered}
use Rattle.ps_typing_laws.proofs.Numbered as num
use Rattle.ps_typing_laws.proofs.RulePlaced.{placed_claims, rule_placed}
use Rattle.ps_typing_laws.proofs.Scopes.{opened}
use Rattle.ps_typing_laws.proofs.Tracked.{clauses_of}
use Rattle.ps_fit_laws.specs.ps_soundness.Running.{IsPlace, ArePlaces, RunsIn, AllRunIn, BodyRuns}
use Rattle.ps_fit_laws.specs.Fitting.{Fits, AllFit}
use Rattle.ps_fit_laws.proofs.ByCheck.{AllNamed}
use Rattle.ps_running_laws.proofs.ScopePlaces.{wholes_of, has_place, is_scope}
use Rattle.ps_running_laws.proofs.RulesRun.{of_parts}

module _ (names : List Field) (named : AllNamed names) (kept : List ℕ) where
  abbrev pub around_of : List (List ℕ) → Around
  around_of scopes = record { names = names; kept = kept; scopes = scopes }

  -- inside the scopes that keep the names with these numbers
  abbrev pub Within : List (List ℕ) → Option (List (List Field))
  Within scopes = Some (wholes_of names scopes)

  around_inside : (scopes : List (List ℕ)) (ks : List ℕ) → inside (around_of scopes) ks ≡ around_of (opened ks scopes)
  around_inside scopes [] = refl
  around_inside scopes (k ∷ ks) = refl

  -- each local in scope has its type among the names of the program
  abbrev pub AreTyped : List Entry → Type 0
  AreTyped scope = (k d : ℕ) (ty : TyView) → IsIn scope k ty d → HasType names k ty

  typed_more : (scope : List Entry) (n depth : ℕ) (ty : TyView) → HasType names n ty → AreTyped scope → AreTyped (entry n ty depth ∷ scope)
  typed_more scope n depth ty is typed k d t (inl same) =
      subst (λ (u : TyView). HasType names k u) same.1 (subst (λ (j : ℕ). HasType names j ty) same.0 is)
  typed_more scope n depth ty is typed k d t (inr before) = typed k d t before

  params_typed : {scope own : List Entry} {depth n m : ℕ} {params : List Param} → Params names scope depth n params own m → AreTyped scope → AreTyped own
  params_typed num.no_params typed = typed
  params_typed (num.a_param {scope = scope} {depth = depth} {n = n} {ty = ty} is rest) typed =
      params_typed rest (typed_more scope n depth ty is typed)

  abbrev own_places : List (List ℕ) → Locals → List Param → List Param
  own_places scopes own params = map (λ (param : Param). record param { place = place_of (around_of scopes) own param.place }) params

  params_placed : {scope own : List Entry} {depth n m : ℕ} {params : List Param} → Params names scope depth n params own m →
      (scopes : List (List ℕ)) (last : Locals) → ArePlaces (wholes_of names scopes) (own_places scopes last params)
  params_placed num.no_params scopes last = tt
  params_placed (num.a_param {n = n} {ty = ty} is rest) scopes last = (has_place names last.of n ty scopes is, params_placed rest scopes last)

  -- a block, a loop and a literal, each with the scope that it makes
  block_runs : (ks : List ℕ) (scopes : List (List ℕ)) (items : Nodes) → AllRunIn (Within (opened ks scopes)) items →
      RunsIn (Within scopes) (node.Block (scope_text names ks) items)
  block_runs [] scopes items h = h
  block_runs (k ∷ ks) scopes items h = (is_scope names k ks named, h)

  loop_runs : (ks : List ℕ) (scopes : List (List ℕ)) (slot : ℕ) (a b c s : Node) (control : Place) (line : Line) →
      RunsIn (Within scopes) a → RunsIn (Within scopes) b → RunsIn (Within scopes) c → IsPlace (Within (opened ks scopes)) control types.Int →
      RunsIn (Within (opened ks scopes)) s → RunsIn (Within scopes) (node.For slot a b c (scope_text names ks) control s line)
  loop_runs [] scopes slot a b c s control line f g h is k = (f, g, h, is, k)
  loop_runs (k ∷ ks) scopes slot a b c s control line f g h is i = (f, g, h, (is_scope names k ks named, is, i))

  literal_runs : (ks : List ℕ) (scopes : List (List ℕ)) (params : List Param) (gives : TyView) (tree : Node) (line : Line) →
      ArePlaces (wholes_of names (opened ks scopes)) params → RunsIn (Within (opened ks scopes)) tree →
      BodyRuns (wholes_of names scopes) (body params gives tree (scope_text names ks) line)
  literal_runs [] scopes params gives tree line are h = (are, h)
  literal_runs (k ∷ ks) scopes params gives tree line are h = (is_scope names k ks named, are, h)

  mutual
    unfolding then_give ◌>>=◌

    pub runs : {scope : List Entry} {depth n m : ℕ} {clause : Node} {ty : TyView} → Numbered names scope depth n clause ty m → AreTyped scope →
        (scopes : List (List ℕ)) (l : Locals) → Fits (placed (around_of scopes) l clause).of → RunsIn (Within scopes) (placed (around_of scopes) l clause).of
    runs (num.by_rule r parts) typed scopes l f =
        let p = rule_placed (around_of scopes) l r in
        let h = of_parts (wholes_of names scopes) p.of_placed f in
        h.runs (all_run parts typed scopes l h.fit)
    runs (num.name {k = k} {d = d} {ty = ty} is below) typed scopes l f = has_place names l.of k ty scopes (typed k d ty is)
    runs (num.set_name {k = k} {d = d} {ty = ty} is below t) typed scopes l f =
        (has_place names l.of k ty scopes (typed k d ty is), runs t typed scopes l f)
    runs (num.block {items = items} t) typed scopes l f =
        let ks = common (placing.declared items) kept in
        subst (λ (inner : Around). AllFit (placed_all inner l items).of → RunsIn (Within scopes) (node.Block (scope_text names ks) (placed_all inner l items).of))
        (sym (around_inside scopes ks))
        (λ fit. block_runs ks scopes (placed_all (around_of (opened ks scopes)) l items).of (items_run t typed (opened ks scopes) l fit)) f
    runs (num.loop {scope = scope} {depth = depth} {k = k} {a = a} {b = b} {c = c} {s = s} {line = line} claims is t) typed scopes l f =
        let ks = common (k ∷ []) kept in
        let own : Locals = with_declared (around_of scopes) k types.Int (record l { nums = l.nums + 3 }) in
        let la : Locals = (placed (around_of scopes) own a).locals in
        let lb : Locals = (placed (around_of scopes) la b).locals in
        let lc : Locals = (placed (around_of scopes) lb c).locals in
        let a' : Node = (placed (around_of scopes) own a).of in
        let b' : Node = (placed (around_of scopes) la b).of in
        let c' : Node = (placed (around_of scopes) lb c).of in
        let h = all_run claims typed scopes own (f.0, (f.1, (f.2, tt))) in
        subst (λ (inner : Around). Fits (placed inner lc s).of → RunsIn (Within scopes)
        (node.For l.nums a' b' c' (scope_text names ks) (place_of inner own (Plain k)) (placed inner lc s).of line)) (sym (around_inside scopes ks))
        (λ fit. loop_runs ks scopes l.nums a' b' c' (placed (around_of (opened ks scopes)) lc s).of
        (place_of (around_of (opened ks scopes)) own (Plain k)) line h.0 h.1.0 h.1.1.0 (has_place names own.of k types.Int (opened ks scopes) is)
        (runs t (typed_more scope k depth types.Int is typed) (opened ks scopes) lc fit))
        f.3
    runs (num.scan claims) typed scopes l f =
        let h = all_run claims typed scopes (record l { nums = l.nums + 3; refs = l.refs + 3 }) (f.0, (f.1, tt)) in (h.0, h.1.0)
    runs (num.literal {params = params} {gives = gives_} {tree = tree} {line = line} ps t) typed scopes l f =
        let ks = common (numbers params) kept in
        let own : Locals = with_params params (record { nums = 0; refs = 0; of = l.of }) in
        subst (λ (inner : Around). Fits (placed inner own tree).of → BodyRuns (wholes_of names scopes)
        (body (map (λ (param : Param). record param { place = place_of inner own param.place }) params) gives_ (placed inner own tree).of
        (scope_text names ks) line)) (sym (around_inside scopes ks))
        (λ fit. literal_runs ks scopes (own_places (opened ks scopes) own params) gives_ (placed (around_of (opened ks scopes)) own tree).of line
        (params_placed ps (opened ks scopes) own) (runs t (params_typed ps typed) (opened ks scopes) own fit))
        f.1

    all_run : {scope : List Entry} {depth n m : ℕ} {claims : List Claim} → AllNumbered names scope depth n claims m → AreTyped scope →
        (scopes : List (List ℕ)) (l : Locals) → Each Fits (clauses_of (placed_claims (around_of scopes) l claims).of) →
        Each (RunsIn (Within scopes)) (clauses_of (placed_claims (around_of scopes) l claims).of)
    all_run num.no_more typed scopes l f = tt
    all_run (num.one_more {clause = clause} t ts) typed scopes l f =
        (runs t typed scopes l f.0, all_run ts typed scopes (placed (around_of scopes) l clause).locals f.1)

    items_run : {scope : List Entry} {depth n m : ℕ} {before ty : TyView} {items : Nodes} → ItemsNumbered names scope depth n before items ty m →
        AreTyped scope → (scopes : List (List ℕ)) (l : Locals) → AllFit (placed_all (around_of scopes) l items).of →
        AllRunIn (Within scopes) (placed_all (around_of scopes) l items).of
    items_run num.at_end typed scopes l f = tt
    items_run (num.a_clause {item = item} t ts) typed scopes l f =
        (runs t typed scopes l f.0, items_run ts typed scopes (placed (around_of scopes) l item).locals f.1)
    items_run (num.a_value {scope = scope} {depth = depth} {k = k} {e = e} {of = of} isnt t is ts) typed scopes l f =
        let own : Locals = with_declared (around_of scopes) k of l in (
          (has_place names own.of k of scopes is, runs t typed scopes own f.0),
          items_run ts (typed_more scope k depth of is typed) scopes (placed (around_of scopes) own e).locals f.1,
        )
    items_run (num.a_literal {scope = scope} {depth = depth} {k = k} {procedure = procedure} {of = of} is t ts) typed scopes l f =
        let own : Locals = with_declared (around_of scopes) k of l in
        let typed_too = typed_more scope k depth of is typed in
        let e : Node = node.Proc procedure in (
          (has_place names own.of k of scopes is, runs t typed_too scopes own f.0),
          items_run ts typed_too scopes (placed (around_of scopes) own e).locals f.1,
        )
