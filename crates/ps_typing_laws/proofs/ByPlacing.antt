-- A numbered tree that is typed is well typed when its names have their places.
use Rattle.std.proofs.Common.{◌≡◌, ℕ, ◌+◌, ◌≤◌, ◌<◌, Bool, true, false, List, [], ◌∷◌, ◌++◌, ◌⊎◌, inl, inr, arith, refl, sym, ap, ◌∙◌, subst}
use Rattle.std.specs.Prelude.{Some, None, nat_lt, map, length}
use Rattle.std.proofs.lemmas.Bool.{ltb-true, ltb-false}
use Rattle.std.proofs.lemmas.List.{append_assoc, append-nil, map-append, length-map}
use Rattle.ps_typing.specs.ps_base.TyView.{TyView, TyViews}
use Rattle.ps_typing.specs.ps_base.TyView as types
use Rattle.ps_typing.specs.ps_program.declared.place.Place.{Place}
use Rattle.ps_typing.specs.ps_program.declared.place.Place.TheVariants.{Plain, Kept}
use Rattle.ps_typing.specs.ps_program.Node.{Param, Node, Nodes, none, more, BodyNode, body}
use Rattle.ps_typing.specs.ps_program.Node as node
use Rattle.ps_typing.specs.ps_program.Parts.{branch}
use Rattle.ps_typing.specs.ps_program.inside.Listed.{parts_all}
use Rattle.ps_typing.specs.ps_type_text.Texts.{Field}
use Rattle.ps_typing.specs.Mentions.{Seen, seen, own_mention, own_declared, is_among, common, kept_of, number_of, numbers}
use Rattle.ps_typing.specs.Placing.{Locals, Around, position, local_of, found_at, with_name, with_declared, place_of, field_at, scope_text, inside}
use Rattle.ps_typing.specs.Placing as placing
use Rattle.ps_typing.specs.Placed.{Given, gives, then_give, ◌>>=◌, placed, placed_all, with_params}
use Rattle.ps_typing.specs.WellTyped.{Some_is, At, Local, Env, Free, IsLocal, IsOfType, IsAt, next_slot, behind_one, with_local, with_scopes, and_kept, Claim, ◌has◌, Rule, Opens, Declares, Takes, types_of_params, IsTyped, AreTyped, AreItems, IsBody}
use Rattle.ps_typing.specs.WellTyped as typed
use Rattle.ps_typing_laws.proofs.Numbered.{Entry, entry, IsIn, HasType, Params, Numbered, AllNumbered, ItemsNumbered, grows, all_grow, items_grow, params_grow}
use Rattle.ps_typing_laws.proofs.Numbered as num
use Rattle.ps_typing_laws.proofs.Covered.{IsSeen, Within, Covered, ClaimsCovered, PartsCovered, parts_covered, own_mentioned, own_declarations, claims_covered, among_kept}
use Rattle.ps_typing_laws.proofs.Scopes.{by_test, found_here, if_true, if_false, free_of, AllBelow, AllFrom, below_more, below_one, from_less, common_from, position_fresh, position_done, position_common, KeptIn, Outside, kept_found, outside_found, opened, opened_with, opened_some, opened_with_some, kept_opened, outside_opened, kept_more, at_last, opens, local_here, local_other, free_more}
use Rattle.ps_typing_laws.proofs.RulePlaced.{placed_claims, rule_placed}

module _ (names : List Field) (kept : List ℕ) (all_mentioned all_declared : List Seen) (kept_is : kept ≡ kept_of all_mentioned all_declared) where
  abbrev pub around_of : List (List ℕ) → Around
  around_of scopes = record { names = names; kept = kept; scopes = scopes }

  -- each local that is in scope has its place in the scopes around or among the locals of the body
  pub record Sync (scope : List Entry) (depth n : ℕ) (scopes : List (List ℕ)) (l : Locals) (env : Env) : Type 0 where
    pub below : (k d : ℕ) (ty : TyView) → IsIn scope k ty d → k < n
    pub shallow : (k d : ℕ) (ty : TyView) → IsIn scope k ty d → d ≤ depth
    pub known : (k d : ℕ) (ty : TyView) → IsIn scope k ty d → Some_is (IsSeen k d) all_declared
    pub in_scope : (k d : ℕ) (ty : TyView) → IsIn scope k ty d → is_among kept k ≡ true → KeptIn scopes env.scopes k ty
    pub in_local : (k d : ℕ) (ty : TyView) → IsIn scope k ty d → is_among kept k ≡ false → d ≡ depth → Some_is (IsLocal (local_of l.of k) ty) env.locals
    pub only : (k : ℕ) → is_among kept k ≡ false → Outside scopes k

  decide : {P : Type 0} (b : Bool) → (b ≡ true → P) → (b ≡ false → P) → P
  decide true on_true on_false = on_true refl
  decide false on_true on_false = on_false refl

  same_depth : (d depth : ℕ) → d ≤ depth → (d < depth → ⊥) → d ≡ depth
  same_depth d depth below other = decide (nat_lt d depth) (λ e. absurd (other (ltb-true d depth e))) (λ e. let k = ltb-false d depth e in omega arith)

  placed_at : (scope : List Entry) (depth n : ℕ) (scopes : List (List ℕ)) (l : Locals) (env : Env) (k d : ℕ) (ty : TyView) →
      Sync scope depth n scopes l env → IsIn scope k ty d → Some_is (IsSeen k depth) all_mentioned →
      IsAt env (place_of (around_of scopes) l (Plain k)) ty
  placed_at scope depth n scopes l env k d ty sync is mentioned =
      decide (is_among kept k)
      (λ yes_kept.
      let f = kept_found l.of k 0 ty scopes env.scopes (sync.in_scope k d ty is yes_kept) in
      let e : 0 + f.0 ≡ f.0 = omega arith in
      subst (λ (p : Place). IsAt env p ty) (sym (f.2 ∙ ap (λ (u : ℕ). Kept u f.1) e)) f.3)
      (λ isnt_kept.
      let own : d ≡ depth = same_depth d depth (sync.shallow k d ty is) (λ less.
      let among = among_kept all_mentioned all_declared k d depth mentioned (sync.known k d ty is) less in
      let kept_too : is_among kept k ≡ true = ap (λ (ks : List ℕ). is_among ks k) kept_is ∙ among in cc) in
      subst (λ (p : Place). IsAt env p ty) (sym (outside_found l.of k 0 scopes (sync.only k isnt_kept))) (sync.in_local k d ty is isnt_kept own))

  -- with more locals of later names
  sync_moved : (scope : List Entry) (depth n m : ℕ) (scopes : List (List ℕ)) (l l' : Locals) (env : Env) → n ≤ m →
      ((j : ℕ) → j < n → local_of l'.of j ≡ local_of l.of j) → Sync scope depth n scopes l env → Sync scope depth m scopes l' env
  sync_moved scope depth n m scopes l l' env less same sync = record {
    below = λ k d ty is. let b = sync.below k d ty is in omega arith;
    shallow = sync.shallow;
    known = sync.known;
    in_scope = sync.in_scope;
    in_local = λ k d ty is isnt own. subst (λ (slot : ℕ). Some_is (IsLocal slot ty) env.locals) (sym (same k (sync.below k d ty is)))
        (sync.in_local k d ty is isnt own);
    only = sync.only;
  }

  by_entry : {P : Type 0} (scope : List Entry) (k j d depth : ℕ) (ty t : TyView) → IsIn (entry k ty depth ∷ scope) j t d →
      (k ≡ j → ty ≡ t → depth ≡ d → P) → (IsIn scope j t d → P) → P
  by_entry scope k j d depth ty t (inl h) new old = new h.0 h.1 h.2
  by_entry scope k j d depth ty t (inr h) new old = old h

  -- with a name more
  sync_more : (scope : List Entry) (depth n m : ℕ) (scopes : List (List ℕ)) (l l' : Locals) (env env' : Env) (k : ℕ) (ty : TyView) →
      Sync scope depth n scopes l env → n ≤ k → k < m → Some_is (IsSeen k depth) all_declared →
      ((j : ℕ) → j < n → local_of l'.of j ≡ local_of l.of j) → ((j : ℕ) (t : TyView) → KeptIn scopes env.scopes j t → KeptIn scopes env'.scopes j t) →
      ((slot : ℕ) (t : TyView) → Some_is (IsLocal slot t) env.locals → Some_is (IsLocal slot t) env'.locals) →
      (is_among kept k ≡ true → KeptIn scopes env'.scopes k ty) →
      (is_among kept k ≡ false → Some_is (IsLocal (local_of l'.of k) ty) env'.locals) → Sync (entry k ty depth ∷ scope) depth m scopes l' env'
  sync_more scope depth n m scopes l l' env env' k ty sync less later told same old_kept old_local new_kept new_local = record {
    below = λ j d t is. by_entry scope k j d depth ty t is (λ e f g. omega arith) (λ was. let b = sync.below j d t was in omega arith);
    shallow = λ j d t is. by_entry scope k j d depth ty t is (λ e f g. omega arith) (λ was. sync.shallow j d t was);
    known = λ j d t is. by_entry scope k j d depth ty t is
        (λ e f g. subst (λ (i : ℕ). Some_is (IsSeen i d) all_declared) e (subst (λ (i : ℕ). Some_is (IsSeen k i) all_declared) g told))
        (λ was. sync.known j d t was);
    in_scope = λ j d t is yes_kept. by_entry scope k j d depth ty t is
        (λ e f g. subst (λ (i : ℕ). KeptIn scopes env'.scopes i t) e
        (subst (λ (u : TyView). KeptIn scopes env'.scopes k u) f (new_kept (ap (is_among kept) e ∙ yes_kept))))
        (λ was. old_kept j t (sync.in_scope j d t was yes_kept));
    in_local = λ j d t is isnt_kept own. by_entry scope k j d depth ty t is
        (λ e f g. subst (λ (i : ℕ). Some_is (IsLocal (local_of l'.of i) t) env'.locals) e
        (subst (λ (u : TyView). Some_is (IsLocal (local_of l'.of k) u) env'.locals) f (new_local (ap (is_among kept) e ∙ isnt_kept))))
        (λ was. old_local (local_of l'.of j) t (subst (λ (slot : ℕ). Some_is (IsLocal slot t) env.locals) (sym (same j (sync.below j d t was)))
        (sync.in_local j d t was isnt_kept own)));
    only = sync.only;
  }

  -- A scope that is being filled: of the names that it keeps some are done, and the others are among those that are due.
  record Filling (scopes outer : List (List ℕ)) (fouter : List (List Field)) (ks done due : List ℕ) (n : ℕ) (env : Env) : Type 0 where
    pub scopes_are : scopes ≡ opened ks outer
    pub names_are : ks ≡ done ++ common due kept
    pub fields_are : env.scopes ≡ opened_with ks (map (field_at names) done) fouter
    pub done_below : AllBelow n done

  filling_later : (scopes outer : List (List ℕ)) (fouter : List (List Field)) (ks done due : List ℕ) (n m : ℕ) (env : Env) → n ≤ m →
      Filling scopes outer fouter ks done due n env → Filling scopes outer fouter ks done due m env
  filling_later scopes outer fouter ks done due n m env less f = record
      { scopes_are = f.scopes_are; names_are = f.names_are; fields_are = f.fields_are; done_below = below_more n m done less f.done_below }

  -- a kept name more in its scope
  abbrev with_kept : List (List Field) → List ℕ → ℕ → TyView → Env → Env
  with_kept fouter done k ty env = with_scopes (and_kept (map (field_at names) done) (field_at names k).name ty ∷ fouter) env

  module _ (scopes outer : List (List ℕ)) (fouter : List (List Field)) (ks done due : List ℕ) (n k : ℕ) (ty : TyView) (env : Env) (less : n ≤ k)
      (f : Filling scopes outer fouter ks done (k ∷ due) n env) where
    names_here : is_among kept k ≡ true → ks ≡ done ++ k ∷ common due kept
    names_here yes_kept = f.names_are ∙ ap (λ (l : List ℕ). done ++ l) (if_true (is_among kept k) (k ∷ common due kept) (common due kept) yes_kept)

    scopes_here : is_among kept k ≡ true → scopes ≡ (done ++ k ∷ common due kept) ∷ outer
    scopes_here yes_kept = f.scopes_are ∙ ap (λ (l : List ℕ). opened l outer) (names_here yes_kept) ∙ opened_some done (common due kept) k outer

    fields_here : is_among kept k ≡ true → env.scopes ≡ map (field_at names) done ∷ fouter
    fields_here yes_kept = f.fields_are ∙ ap (λ (l : List ℕ). opened_with l (map (field_at names) done) fouter) (names_here yes_kept)
        ∙ opened_with_some done (common due kept) k (map (field_at names) done) fouter

    position_here : position (done ++ k ∷ common due kept) k ≡ Some (length done)
    position_here = position_done k done (common due kept) (below_more n k done less f.done_below)

    kept_place : (of : List (ℕ × ℕ)) → is_among kept k ≡ true → found_at of k 0 scopes ≡ Kept 0 (length done)
    kept_place of yes_kept = ap (λ (s : List (List ℕ)). found_at of k 0 s) (scopes_here yes_kept) ∙ found_here of k 0 (length done)
        (done ++ k ∷ common due kept) outer position_here

    field_is : HasType names k ty → map (field_at names) (done ++ k ∷ []) ≡ and_kept (map (field_at names) done) (field_at names k).name ty
    field_is of_ty = map-append (field_at names) done (k ∷ []) ∙ ap
        (λ (t : TyView). map (field_at names) done ++ (record { ty = t; name = (field_at names k).name } ∷ [])) of_ty

    filling_kept : HasType names k ty → is_among kept k ≡ true → Filling scopes outer fouter ks (done ++ k ∷ []) due (k + 1) (with_kept fouter done k ty env)
    filling_kept of_ty yes_kept = record {
      scopes_are = f.scopes_are;
      names_are = names_here yes_kept ∙ sym (append_assoc done (k ∷ []) (common due kept));
      fields_are = ap (λ (fs : List Field). fs ∷ fouter) (sym (field_is of_ty)) ∙ sym
          (ap (λ (l : List ℕ). opened_with l (map (field_at names) (done ++ k ∷ [])) fouter) (names_here yes_kept) ∙ opened_with_some done
          (common due kept) k (map (field_at names) (done ++ k ∷ [])) fouter);
      done_below = below_one (k + 1) k done (omega arith) (below_more n (k + 1) done (omega arith) f.done_below);
    }

    filling_local : (slot : ℕ) → is_among kept k ≡ false → Filling scopes outer fouter ks done due (k + 1) (with_local slot ty env)
    filling_local slot isnt_kept = record {
      scopes_are = f.scopes_are;
      names_are = f.names_are ∙ ap (λ (l : List ℕ). done ++ l) (if_false (is_among kept k) (k ∷ common due kept) (common due kept) isnt_kept);
      fields_are = f.fields_are;
      done_below = below_more n (k + 1) done (omega arith) f.done_below;
    }

    sync_kept : (scope : List Entry) (depth m : ℕ) (l l' : Locals) → Sync scope depth n scopes l env → HasType names k ty → is_among kept k ≡ true →
        Some_is (IsSeen k depth) all_declared → k < m → ((j : ℕ) → j < n → local_of l'.of j ≡ local_of l.of j) →
        Sync (entry k ty depth ∷ scope) depth m scopes l' (with_kept fouter done k ty env)
    sync_kept scope depth m l l' sync of_ty yes_kept told later same =
        let fs = map (field_at names) done in
        let more : List Field = record { ty = ty; name = (field_at names k).name } ∷ [] in
        let ks' = done ++ k ∷ common due kept in
        let old_kept : (j : ℕ) (t : TyView) → KeptIn scopes env.scopes j t → KeptIn scopes ((fs ++ more) ∷ fouter) j t = λ j t h.
        subst (λ (s : List (List ℕ)). KeptIn s ((fs ++ more) ∷ fouter) j t) (sym (scopes_here yes_kept))
        (kept_more ks' fs more outer fouter j t (subst (λ (e : List (List Field)). KeptIn (ks' ∷ outer) e j t) (fields_here yes_kept)
        (subst (λ (s : List (List ℕ)). KeptIn s env.scopes j t) (scopes_here yes_kept) h))) in
        let at_end : At (IsOfType ty) (fs ++ more) (length done) = subst (λ (i : ℕ). At (IsOfType ty) (fs ++ more) i)
        (length-map done (field_at names)) (at_last (IsOfType ty) fs (record { ty = ty; name = (field_at names k).name }) refl) in
        let new_kept : KeptIn scopes ((fs ++ more) ∷ fouter) k ty =
        subst (λ (s : List (List ℕ)). KeptIn s ((fs ++ more) ∷ fouter) k ty) (sym (scopes_here yes_kept)) (inl (length done, position_here, at_end)) in
        sync_more scope depth n m scopes l l' env (with_kept fouter done k ty env) k ty sync less later told same old_kept (λ slot t h. h)
        (λ e. new_kept) (λ e. absurd cc)

    sync_local : (scope : List Entry) (depth m slot : ℕ) (l l' : Locals) → Sync scope depth n scopes l env → is_among kept k ≡ false →
        Some_is (IsSeen k depth) all_declared → k < m → ((j : ℕ) → j < n → local_of l'.of j ≡ local_of l.of j) → slot ≡ local_of l'.of k →
        Sync (entry k ty depth ∷ scope) depth m scopes l' (with_local slot ty env)
    sync_local scope depth m slot l l' sync isnt_kept told later same slot_is =
        sync_more scope depth n m scopes l l' env (with_local slot ty env) k ty sync less later told same (λ j t h. h) (λ s t h. inr h)
        (λ e. absurd cc) (λ e. inl (slot_is, refl))

  -- a name that is declared
  record Declared (scope : List Entry) (depth n : ℕ) (scopes outer : List (List ℕ)) (fouter : List (List Field)) (ks due : List ℕ) (k : ℕ)
      (ty : TyView) (l own : Locals) (env : Env) : Type 0 where
    pub last : Env
    pub declares : Declares env (free_of l) (place_of (around_of scopes) own (Plain k)) ty last (free_of own)
    pub done : List ℕ
    pub filling : Filling scopes outer fouter ks done due (k + 1) last
    pub others : (j : ℕ) → (k ≡ j → ⊥) → local_of own.of j ≡ local_of l.of j
    pub sync : (l' : Locals) (m : ℕ) → k < m → ((j : ℕ) → (j < n) ⊎ (j ≡ k) → local_of l'.of j ≡ local_of own.of j) →
        Sync (entry k ty depth ∷ scope) depth m scopes l' last

  declared : (scope : List Entry) (depth n : ℕ) (scopes outer : List (List ℕ)) (fouter : List (List Field)) (ks done due : List ℕ) (k : ℕ)
      (ty : TyView) (l : Locals) (env : Env) → n ≤ k → Sync scope depth n scopes l env →
      Filling scopes outer fouter ks done (k ∷ due) n env → HasType names k ty → Some_is (IsSeen k depth) all_declared →
      Declared scope depth n scopes outer fouter ks due k ty l (with_declared (around_of scopes) k ty l) env
  declared scope depth n scopes outer fouter ks done due k ty l env less sync f of_ty told =
      by_test (λ (own : Locals). Declared scope depth n scopes outer fouter ks due k ty l own env) (is_among kept k) l (with_name k ty l)
      (λ yes_kept. record {
        last = with_kept fouter done k ty env;
        declares = subst (λ (p : Place). Declares env (free_of l) p ty (with_kept fouter done k ty env) (free_of l))
            (sym (kept_place scopes outer fouter ks done due n k ty env less f l.of yes_kept))
            (typed.as_kept (field_at names k).name (fields_here scopes outer fouter ks done due n k ty env less f yes_kept)
            (sym (length-map done (field_at names))));
        done = done ++ k ∷ [];
        filling = filling_kept scopes outer fouter ks done due n k ty env less f of_ty yes_kept;
        others = λ j differ. refl;
        sync = λ l' m later same. sync_kept scopes outer fouter ks done due n k ty env less f scope depth m l l' sync of_ty yes_kept told later
            (λ j b. same j (inl b));
      })
      (λ isnt_kept.
      let slot = next_slot ty (free_of l) in
      let own = with_name k ty l in
      let others : (j : ℕ) → (k ≡ j → ⊥) → local_of own.of j ≡ local_of l.of j = λ j differ. local_other k j ty l differ in
      record {
        last = with_local slot ty env;
        declares = subst (λ (p : Place). Declares env (free_of l) p ty (with_local slot ty env) (free_of own))
            (sym (outside_found own.of k 0 scopes (sync.only k isnt_kept) ∙ ap Plain (local_here k ty l)))
            (subst (λ (free : Free). Declares env (free_of l) (Plain slot) ty (with_local slot ty env) free) (sym (free_more k ty l)) (typed.as_local refl));
        done = done;
        filling = filling_local scopes outer fouter ks done due n k ty env less f slot isnt_kept;
        others = others;
        sync = λ l' m later same. sync_local scopes outer fouter ks done due n k ty env less f scope depth m slot l l' sync isnt_kept told later
            (λ j b. same j (inl b) ∙ others j (λ e. absurd (omega arith))) (sym (same k (inr refl) ∙ local_here k ty l));
      })

  -- where a scope begins
  filling_first : (outer : List (List ℕ)) (ks due : List ℕ) (n : ℕ) (env : Env) → ks ≡ common due kept →
      Filling (opened ks outer) outer env.scopes ks [] due n (with_scopes (opened_with ks [] env.scopes) env)
  filling_first outer ks due n env e = record { scopes_are = refl; names_are = e; fields_are = refl; done_below = tt }

  sync_first : (scope : List Entry) (depth n : ℕ) (outer : List (List ℕ)) (l : Locals) (env : Env) (ks due : List ℕ) → AllFrom n due →
      ks ≡ common due kept → Sync scope depth n outer l env → Sync scope depth n (opened ks outer) l (with_scopes (opened_with ks [] env.scopes) env)
  sync_first scope depth n outer l env ks due from e sync = record {
    below = sync.below;
    shallow = sync.shallow;
    known = sync.known;
    in_scope = λ k d ty is yes_kept. kept_opened ks outer env.scopes k ty
        (ap (λ (x : List ℕ). position x k) e ∙ position_fresh n k (common due kept) (common_from n due kept from) (sync.below k d ty is))
        (sync.in_scope k d ty is yes_kept);
    in_local = sync.in_local;
    only = λ k isnt_kept. outside_opened ks outer k (ap (λ (x : List ℕ). position x k) e ∙ position_common k due kept isnt_kept) (sync.only k isnt_kept);
  }

  -- where a scope is full
  filled : (scopes outer : List (List ℕ)) (fouter : List (List Field)) (ks done : List ℕ) (n : ℕ) (env : Env) →
      Filling scopes outer fouter ks done [] n env → env.scopes ≡ opened_with ks (map (field_at names) ks) fouter
  filled scopes outer fouter ks done n env f = f.fields_are ∙ ap (λ (x : List ℕ). opened_with ks (map (field_at names) x) fouter)
      (sym (f.names_are ∙ append-nil done))

  around_inside : (outer : List (List ℕ)) (ks : List ℕ) → inside (around_of outer) ks ≡ around_of (opened ks outer)
  around_inside outer [] = refl
  around_inside outer (k ∷ ks) = refl

  -- the parameters of a body
  abbrev ParamsTold : ℕ → List Param → Type 0
  ParamsTold depth [] = Unit {0}
  ParamsTold depth (param ∷ rest) = Some_is (IsSeen (number_of param.place) depth) all_declared × ParamsTold depth rest

  params_told : (depth : ℕ) (params : List Param) → Within (map (λ k. seen k 1) (numbers params)) depth all_declared → ParamsTold (depth + 1) params
  params_told depth [] h = tt
  params_told depth (param ∷ rest) h =
      let e : 1 + depth ≡ depth + 1 = omega arith in (
        subst (λ (n : ℕ). Some_is (IsSeen (number_of param.place) n) all_declared) e
            (h (number_of param.place) 1 (inl (refl, refl))),
        params_told depth rest (λ name literals found. h name literals (inr found)),
      )

  params_from : {scope own : List Entry} {depth n m : ℕ} {params : List Param} → Params names scope depth n params own m → AllFrom n (numbers params)
  params_from num.no_params = tt
  params_from (num.a_param {n = n} {rest = rest} of_ty params) = (omega arith, from_less n (n + 1) (numbers rest) (omega arith) (params_from params))

  abbrev own_places : List (List ℕ) → Locals → List Param → List Param
  own_places scopes final params = map (λ (param : Param). record param { place = place_of (around_of scopes) final param.place }) params

  record Taken (own : List Entry) (depth n m : ℕ) (scopes : List (List ℕ)) (fouter : List (List Field)) (ks : List ℕ) (l final : Locals) (env : Env)
      (params : List Param) : Type 0 where
    pub last : Env
    pub takes : Takes env (free_of l) (own_places scopes final params) last (free_of final)
    pub fields_are : last.scopes ≡ opened_with ks (map (field_at names) ks) fouter
    pub sync : Sync own depth m scopes final last
    pub same : (j : ℕ) → (j < n) ⊎ (m ≤ j) → local_of final.of j ≡ local_of l.of j

  param_same : (n m j : ℕ) (ty : TyView) (l final : Locals) → n < m →
      ((j : ℕ) → (j < n + 1) ⊎ (m ≤ j) → local_of final.of j ≡ local_of (with_name n ty l).of j) → (j < n) ⊎ (m ≤ j) → local_of final.of j ≡ local_of l.of j
  param_same n m j ty l final less same (inl b) = same j (inl (omega arith)) ∙ local_other n j ty l (λ e. absurd (omega arith))
  param_same n m j ty l final less same (inr b) = same j (inr b) ∙ local_other n j ty l (λ e. absurd (omega arith))

  taken : {scope own : List Entry} {depth n m : ℕ} {params : List Param} → Params names scope depth n params own m →
      (scopes outer : List (List ℕ)) (fouter : List (List Field)) (ks done : List ℕ) (l : Locals) (env : Env) →
      Sync scope depth n scopes l env → Filling scopes outer fouter ks done (numbers params) n env → ParamsTold depth params →
      Taken own depth n m scopes fouter ks l (with_params params l) env params
  taken (num.no_params {n = n}) scopes outer fouter ks done l env sync f told = record
      { last = env; takes = typed.no_more; fields_are = filled scopes outer fouter ks done n env f; sync = sync; same = λ j h. refl }
  taken (num.a_param {scope = scope} {last = own} {depth = depth} {n = n} {n' = m} {ty = ty}
      {rest = rest} of_ty params) scopes outer fouter ks done l env sync f told =
      let l1 : Locals = with_name n ty l in
      let final : Locals = with_params rest l1 in
      let grow = params_grow params in
      let before : (j : ℕ) → j < n → local_of l1.of j ≡ local_of l.of j = λ j b. local_other n j ty l (λ e. absurd (omega arith)) in
      decide (is_among kept n)
      (λ yes_kept.
      let env1 : Env = with_kept fouter done n ty env in
      let t : Taken own depth (n + 1) m scopes fouter ks l1 final env1 rest = taken params scopes outer fouter ks (done ++ n ∷ []) l1 env1
      (sync_kept scopes outer fouter ks done (numbers rest) n n ty env (omega arith) f scope depth (n + 1) l l1 sync of_ty yes_kept told.0 (omega arith) before)
      (filling_kept scopes outer fouter ks done (numbers rest) n n ty env (omega arith) f of_ty yes_kept) told.1 in
      record {
        last = t.last;
        takes = subst (λ (p : Place). Takes env (free_of l) (record { ty = ty; place = p } ∷ own_places scopes final rest) t.last (free_of final))
            (sym (kept_place scopes outer fouter ks done (numbers rest) n n ty env (omega arith) f final.of yes_kept))
            (typed.as_kept (field_at names n).name (fields_here scopes outer fouter ks done (numbers rest) n n ty env (omega arith) f yes_kept)
            (sym (length-map done (field_at names)))
            (subst (λ (free : Free). Takes env1 free (own_places scopes final rest) t.last (free_of final)) (free_more n ty l) t.takes));
        fields_are = t.fields_are;
        sync = t.sync;
        same = λ j h. param_same n m j ty l final (omega arith) t.same h;
      })
      (λ isnt_kept.
      let slot = next_slot ty (free_of l) in
      let env1 : Env = with_local slot ty env in
      let t : Taken own depth (n + 1) m scopes fouter ks l1 final env1 rest = taken params scopes outer fouter ks done l1 env1
      (sync_local scopes outer fouter ks done (numbers rest) n n ty env (omega arith) f scope depth (n + 1) slot l l1 sync isnt_kept told.0
      (omega arith) before (sym (local_here n ty l)))
      (filling_local scopes outer fouter ks done (numbers rest) n n ty env (omega arith) f slot isnt_kept) told.1 in
      record {
        last = t.last;
        takes = subst (λ (p : Place). Takes env (free_of l) (record { ty = ty; place = p } ∷ own_places scopes final rest) t.last (free_of final))
            (sym (outside_found final.of n 0 scopes (sync.only n isnt_kept) ∙ ap Plain (t.same n (inl (omega arith)) ∙ local_here n ty l)))
            (typed.as_local refl (subst (λ (free : Free). Takes env1 free (own_places scopes final rest) t.last (free_of final)) (free_more n ty l) t.takes));
        fields_are = t.fields_are;
        sync = t.sync;
        same = λ j h. param_same n m j ty l final (omega arith) t.same h;
      })

  same_types : (scopes : List (List ℕ)) (final : Locals) (params : List Param) → types_of_params (own_places scopes final params) ≡ types_of_params params
  same_types scopes final [] = refl
  same_types scopes final (param ∷ rest) = ap (types.more param.ty) (same_types scopes final rest)

  -- what is well typed with its places, and which locals are as they were: those of names that aren't declared in it
  pub record FineClause (env : Env) (l : Locals) (n m : ℕ) (ty : TyView) (out : Given Node) : Type 0 where
    pub is_typed : IsTyped env (free_of l) out.of ty (free_of out.locals)
    pub same : (j : ℕ) → (j < n) ⊎ (m ≤ j) → local_of out.locals.of j ≡ local_of l.of j

  record FineClaims (env : Env) (l : Locals) (n m : ℕ) (out : Given (List Claim)) : Type 0 where
    pub are_typed : AreTyped env (free_of l) out.of (free_of out.locals)
    pub same : (j : ℕ) → (j < n) ⊎ (m ≤ j) → local_of out.locals.of j ≡ local_of l.of j

  record FineItems (env : Env) (l : Locals) (n m : ℕ) (before ty : TyView) (fields : List (List Field)) (out : Given Nodes) : Type 0 where
    pub last : Env
    pub are_typed : AreItems env (free_of l) before out.of ty last (free_of out.locals)
    pub fields_are : last.scopes ≡ fields
    pub same : (j : ℕ) → (j < n) ⊎ (m ≤ j) → local_of out.locals.of j ≡ local_of l.of j

  -- locals that are as they were after two clauses
  same_twice : (n k m j : ℕ) (a b c : ℕ → ℕ) → n ≤ k → k ≤ m → ((i : ℕ) → (i < n) ⊎ (k ≤ i) → b i ≡ a i) → ((i : ℕ) → (i < k) ⊎ (m ≤ i) → c i ≡ b i) →
      (j < n) ⊎ (m ≤ j) → c j ≡ a j
  same_twice n k m j a b c less later first second (inl h) = second j (inl (omega arith)) ∙ first j (inl h)
  same_twice n k m j a b c less later first second (inr h) = second j (inr h) ∙ first j (inr (omega arith))

  -- the same with a name declared before both, which has the number between
  same_around : (n k m j : ℕ) (a own b c : ℕ → ℕ) → n ≤ k → k < m → ((i : ℕ) → (k ≡ i → ⊥) → own i ≡ a i) →
      ((i : ℕ) → (i < n) ⊎ (k ≤ i) → b i ≡ own i) → ((i : ℕ) → (i < k + 1) ⊎ (m ≤ i) → c i ≡ b i) → (j < n) ⊎ (m ≤ j) → c j ≡ a j
  same_around n k m j a own b c less later declared_ first second (inl h) = second j (inl (omega arith)) ∙ first j (inl h) ∙ declared_ j
      (λ e. absurd (omega arith))
  same_around n k m j a own b c less later declared_ first second (inr h) = second j (inr h) ∙ first j (inr (omega arith)) ∙ declared_ j
      (λ e. absurd (omega arith))

  by_or : {A B P : Type 0} → (A → P) → (B → P) → A ⊎ B → P
  by_or f g (inl a) = f a
  by_or f g (inr b) = g b

  -- no clause is a `let`
  no_rule_of_let : {clause : Node} {claims : List Claim} {ty : TyView} → Rule clause claims ty → (rest : Nodes) →
      placing.declared (more clause rest) ≡ placing.declared rest
  no_rule_of_let typed.int rest = refl
  no_rule_of_let other rest = refl

  no_let : {scope : List Entry} {depth n m : ℕ} {clause : Node} {ty : TyView} → Numbered names scope depth n clause ty m → (rest : Nodes) →
      placing.declared (more clause rest) ≡ placing.declared rest
  no_let (num.by_rule r claims) rest = no_rule_of_let r rest
  no_let (num.name is below) rest = refl
  no_let (num.set_name is below e) rest = refl
  no_let (num.block items) rest = refl
  no_let (num.loop claims of_ty s) rest = refl
  no_let (num.scan claims) rest = refl
  no_let (num.literal ps s) rest = refl

  items_from : {scope : List Entry} {depth n m : ℕ} {before ty : TyView} {items : Nodes} → ItemsNumbered names scope depth n before items ty m →
      AllFrom n (placing.declared items)
  items_from num.at_end = tt
  items_from (num.a_clause {n = n} {m = m} {rest = rest} first items) = subst (AllFrom n) (sym (no_let first rest))
      (from_less n m (placing.declared rest) (grows first) (items_from items))
  items_from (num.a_value {n = n} {k = k} {rest = rest} isnt e of_ty items) = let h = grows e in
      (h, from_less n (k + 1) (placing.declared rest) (omega arith) (items_from items))
  items_from (num.a_literal {k = k} {m = m} {rest = rest} of_ty e items) = let h = grows e in
      (omega arith, from_less k m (placing.declared rest) (omega arith) (items_from items))

  told_at : (k depth : ℕ) (clause : Node) → Covered all_mentioned all_declared depth clause → Some_is (IsSeen k 0) (own_declared clause) →
      Some_is (IsSeen k depth) all_declared
  told_at k depth clause cover is =
      let e : 0 + depth ≡ depth = omega arith in
      subst (λ (n : ℕ). Some_is (IsSeen k n) all_declared) e (own_declarations all_mentioned all_declared depth clause cover k 0 is)

  mentioned_at : (k depth : ℕ) (clause : Node) → Covered all_mentioned all_declared depth clause → Some_is (IsSeen k 0) (own_mention clause) →
      Some_is (IsSeen k depth) all_mentioned
  mentioned_at k depth clause cover is =
      let e : 0 + depth ≡ depth = omega arith in
      subst (λ (n : ℕ). Some_is (IsSeen k n) all_mentioned) e (own_mentioned all_mentioned all_declared depth clause cover k 0 is)

  -- inside a literal no local around is at hand
  sync_literal : (scope : List Entry) (depth n : ℕ) (scopes : List (List ℕ)) (l l' : Locals) (env : Env) → Sync scope depth n scopes l env →
      Sync scope (depth + 1) n scopes l' (record { locals = []; scopes = env.scopes })
  sync_literal scope depth n scopes l l' env sync = record {
    below = sync.below;
    shallow = λ k d ty is. let s = sync.shallow k d ty is in omega arith;
    known = sync.known;
    in_scope = sync.in_scope;
    in_local = λ k d ty is isnt own. absurd (let s = sync.shallow k d ty is in omega arith);
    only = sync.only;
  }

  mutual
    unfolding then_give ◌>>=◌

    pub place : {scope : List Entry} {depth n m : ℕ} {clause : Node} {ty : TyView} → Numbered names scope depth n clause ty m →
        (scopes : List (List ℕ)) (l : Locals) (env : Env) → Sync scope depth n scopes l env →
        Covered all_mentioned all_declared depth clause → FineClause env l n m ty (placed (around_of scopes) l clause)
    place (num.by_rule {depth = depth} {n = n} {n' = m} {clause = clause} {claims = claims} {ty = ty} r parts) scopes l env sync cover =
        let f = place_claims parts scopes l env sync (claims_covered all_mentioned all_declared depth r
        (parts_covered all_mentioned all_declared depth clause cover)) in
        let p = rule_placed (around_of scopes) l r in
        record {
          is_typed = subst (λ (x : Locals). IsTyped env (free_of l) (placed (around_of scopes) l clause).of ty (free_of x)) (sym p.locals)
              (typed.by_rule p.of_placed f.are_typed);
          same = λ j h. ap (λ (x : Locals). local_of x.of j) p.locals ∙ f.same j h;
        }
    place (num.name {scope = scope} {depth = depth} {n = n} {k = k} {d = d} {ty = ty} is below) scopes l env sync cover = record {
      is_typed = typed.name (placed_at scope depth n scopes l env k d ty sync is (mentioned_at k depth (node.Name (Plain k) ty) cover (inl (refl, refl))));
      same = λ j h. refl;
    }
    place (num.set_name {scope = scope} {depth = depth} {n = n} {n' = m} {k = k} {d = d} {ty = ty} {e = e} is below t) scopes l env sync cover =
        let f = place t scopes l env sync (parts_covered all_mentioned all_declared depth (node.SetName (Plain k) ty e) cover).0 in
        record {
          is_typed = typed.set_name (placed_at scope depth n scopes l env k d ty sync is
              (mentioned_at k depth (node.SetName (Plain k) ty e) cover (inl (refl, refl)))) f.is_typed;
          same = f.same;
        }
    place (num.block {scope = scope} {depth = depth} {n = n} {n' = m} {items = items} {ty = ty} t) scopes l env sync cover =
        let due = placing.declared items in
        let ks = common due kept in
        let inner : Env = with_scopes (opened_with ks [] env.scopes) env in
        let f = place_items t (opened ks scopes) scopes env.scopes ks [] l inner
        (sync_first scope depth n scopes l env ks due (items_from t) refl sync) (filling_first scopes ks due n env refl)
        (parts_covered all_mentioned all_declared depth (node.Block None items) cover) in
        subst (λ (a : Around). FineClause env l n m ty (then_give (λ (ts : Nodes). node.Block (scope_text names ks) ts) (placed_all a l items)))
        (sym (around_inside scopes ks))
        (record { is_typed = typed.block (opens names ks env.scopes) f.are_typed f.fields_are; same = f.same })
    place (num.loop {scope = scope} {depth = depth} {n = n} {k = k} {n' = m} {a = a} {b = b} {c = c} {s = s}
        {line = line} claims of_ty t) scopes l env sync cover =
        let l0 : Locals = record l { nums = l.nums + 3 } in
        let ks = common (k ∷ []) kept in
        let inner : Env = with_scopes (opened_with ks [] env.scopes) env in
        let less = all_grow claims in
        let told = told_at k depth (node.For 0 a b c None (Plain k) s line) cover (inl (refl, refl)) in
        let parts = parts_covered all_mentioned all_declared depth (node.For 0 a b c None (Plain k) s line) cover in
        let own : Locals = with_declared (around_of scopes) k types.Int l0 in
        let sync0 : Sync scope depth n scopes l0 env = sync_moved scope depth n n scopes l l0 env (omega arith) (λ j b. refl) sync in
        let d : Declared scope depth n (opened ks scopes) scopes env.scopes ks [] k types.Int l0 own inner =
        declared scope depth n (opened ks scopes) scopes env.scopes ks [] [] k types.Int l0 inner less
        (sync_first scope depth n scopes l0 env ks (k ∷ []) (less, tt) refl sync0) (filling_first scopes ks (k ∷ []) n env refl) of_ty told in
        let f = place_claims claims scopes own env (sync_moved scope depth n n scopes l0 own env (omega arith)
        (λ j b. d.others j (λ x. absurd (omega arith))) sync0) (parts.0, (parts.1.0, (parts.1.1.0, tt))) in
        let la : Locals = (placed (around_of scopes) own a).locals in
        let lb : Locals = (placed (around_of scopes) la b).locals in
        let lc : Locals = (placed (around_of scopes) lb c).locals in
        let g = place t (opened ks scopes) lc d.last (d.sync lc (k + 1) (omega arith)
        (λ j h. f.same j (by_or (λ b. inl b) (λ x. inr (omega arith)) h))) parts.1.1.1.0 in
        let later = grows t in
        subst (λ (inside_it : Around). FineClause env l n m types.Void
        (then_give (λ (s' : Node). node.For l.nums (placed (around_of scopes) own a).of (placed (around_of scopes) la b).of
        (placed (around_of scopes) lb c).of (scope_text names ks) (place_of inside_it own (Plain k)) s' line) (placed inside_it lc s)))
        (sym (around_inside scopes ks))
        (record {
          is_typed = typed.loop refl (opens names ks env.scopes) d.declares
              (filled (opened ks scopes) scopes env.scopes ks d.done (k + 1) d.last d.filling) f.are_typed g.is_typed;
          same = λ j h. same_around n k m j (local_of l.of) (local_of own.of) (local_of lc.of)
              (local_of (placed (around_of (opened ks scopes)) lc s).locals.of) less (omega arith) d.others f.same g.same h;
        })
    place (num.scan {depth = depth} {n = n} {n' = m} {string = string} {a = a} {f = g} {line = line} claims) scopes l env sync cover =
        let l' : Locals = record l { nums = l.nums + 3; refs = l.refs + 3 } in
        let parts = parts_covered all_mentioned all_declared depth (node.Scan string a g 0 0 line) cover in
        let f = place_claims claims scopes l' env (sync_moved _ depth n n scopes l l' env (omega arith) (λ j b. refl) sync) (parts.0, (parts.1.0, tt)) in
        record { is_typed = typed.scan refl refl f.are_typed; same = f.same }
    place (num.literal {scope = scope} {own = own_scope} {depth = depth} {n = n} {m = k} {n' = m} {params = params} {gives = gives_} {tree = tree}
        {line = line} ps t) scopes l env sync cover =
        let ks = common (numbers params) kept in
        let l0 : Locals = record { nums = 0; refs = 0; of = l.of } in
        let bare : Env = record { locals = []; scopes = env.scopes } in
        let inner : Env = record { locals = []; scopes = opened_with ks [] env.scopes } in
        let own : Locals = with_params params l0 in
        let told = params_told depth params (own_declarations all_mentioned all_declared depth (node.Proc (body params gives_ tree None line)) cover) in
        let p : Taken own_scope (depth + 1) n k (opened ks scopes) env.scopes ks l0 own inner params =
        taken ps (opened ks scopes) scopes env.scopes ks [] l0 inner
        (sync_first scope (depth + 1) n scopes l0 bare ks (numbers params) (params_from ps) refl
        (sync_literal scope depth n scopes l l0 env sync)) (filling_first scopes ks (numbers params) n bare refl) told in
        let f = place t (opened ks scopes) own p.last p.sync
        (parts_covered all_mentioned all_declared depth (node.Proc (body params gives_ tree None line)) cover).0 in
        let last : Locals = (placed (around_of (opened ks scopes)) own tree).locals in
        let tree' : Node = (placed (around_of (opened ks scopes)) own tree).of in
        let is_body : IsBody env.scopes (body (own_places (opened ks scopes) own params) gives_ tree' (scope_text names ks) line) = typed.of_params
        (opens names ks env.scopes) p.takes p.fields_are f.is_typed in
        subst (λ (inside_it : Around). FineClause env l n m (types.Proc (types_of_params params) gives_)
        (then_give node.Proc (placed inside_it own tree >>=
        (λ tree last. gives (body (map (λ (param : Param). record param { place = place_of inside_it own param.place }) params) gives_ tree
        (scope_text names ks) line) (record last { nums = l.nums; refs = l.refs })))))
        (sym (around_inside scopes ks))
        (record {
          is_typed = subst (λ (ts : TyViews). IsTyped env (free_of l)
              (node.Proc (body (own_places (opened ks scopes) own params) gives_ tree' (scope_text names ks) line)) (types.Proc ts gives_)
              (free_of l)) (same_types (opened ks scopes) own params) (typed.literal is_body);
          same = λ j h. same_twice n k m j (local_of l.of) (local_of own.of) (local_of last.of) (params_grow ps) (grows t) p.same f.same h;
        })

    place_claims : {scope : List Entry} {depth n m : ℕ} {claims : List Claim} → AllNumbered names scope depth n claims m →
        (scopes : List (List ℕ)) (l : Locals) (env : Env) → Sync scope depth n scopes l env →
        ClaimsCovered all_mentioned all_declared depth claims → FineClaims env l n m (placed_claims (around_of scopes) l claims)
    place_claims num.no_more scopes l env sync cover = record { are_typed = typed.no_more; same = λ j h. refl }
    place_claims (num.one_more {scope = scope} {depth = depth} {n = n} {m = k} {n' = m} {clause = clause} {rest = rest} t ts) scopes l env sync cover =
        let f = place t scopes l env sync cover.0 in
        let l1 : Locals = (placed (around_of scopes) l clause).locals in
        let less = grows t in
        let g = place_claims ts scopes l1 env (sync_moved scope depth n k scopes l l1 env less (λ j b. f.same j (inl b)) sync) cover.1 in
        record {
          are_typed = typed.one_more f.is_typed g.are_typed;
          same = λ j h. same_twice n k m j (local_of l.of) (local_of l1.of) (local_of (placed_claims (around_of scopes) l1 rest).locals.of) less
              (all_grow ts) f.same g.same h;
        }

    place_items : {scope : List Entry} {depth n m : ℕ} {before ty : TyView} {items : Nodes} → ItemsNumbered names scope depth n before items ty m →
        (scopes outer : List (List ℕ)) (fouter : List (List Field)) (ks done : List ℕ) (l : Locals) (env : Env) →
        Sync scope depth n scopes l env → Filling scopes outer fouter ks done (placing.declared items) n env →
        PartsCovered all_mentioned all_declared depth (parts_all branch items) →
        FineItems env l n m before ty (opened_with ks (map (field_at names) ks) fouter) (placed_all (around_of scopes) l items)
    place_items (num.at_end {n = n}) scopes outer fouter ks done l env sync filling cover = record
        { last = env; are_typed = typed.at_end; fields_are = filled scopes outer fouter ks done n env filling; same = λ j h. refl }
    place_items (num.a_clause {scope = scope} {depth = depth} {n = n} {m = k} {n' = m} {item = item}
        {rest = rest} t ts) scopes outer fouter ks done l env sync filling cover =
        let f = place t scopes l env sync cover.0 in
        let l1 : Locals = (placed (around_of scopes) l item).locals in
        let less = grows t in
        let filling' = subst (λ (due : List ℕ). Filling scopes outer fouter ks done due n env) (no_let t rest) filling in
        let g = place_items ts scopes outer fouter ks done l1 env (sync_moved scope depth n k scopes l l1 env less (λ j b. f.same j (inl b)) sync)
        (filling_later scopes outer fouter ks done (placing.declared rest) n k env less filling') cover.1 in
        record {
          last = g.last;
          are_typed = typed.a_clause f.is_typed g.are_typed;
          fields_are = g.fields_are;
          same = λ j h. same_twice n k m j (local_of l.of) (local_of l1.of) (local_of (placed_all (around_of scopes) l1 rest).locals.of) less
              (items_grow ts) f.same g.same h;
        }
    place_items (num.a_value {scope = scope} {depth = depth} {n = n} {k = k} {n' = m} {e = e} {rest = rest}
        {of = of} isnt t of_ty ts) scopes outer fouter ks done l env sync filling cover =
        let less = grows t in
        let told = told_at k depth (node.Let (Plain k) of e) cover.0 (inl (refl, refl)) in
        let own : Locals = with_declared (around_of scopes) k of l in
        let d : Declared scope depth n scopes outer fouter ks
        (placing.declared rest) k of l own env = declared scope depth n scopes outer fouter ks done
        (placing.declared rest) k of l env less sync filling of_ty told in
        let f = place t scopes own env (sync_moved scope depth n n scopes l own env (omega arith)
        (λ j b. d.others j (λ x. absurd (omega arith))) sync) (parts_covered all_mentioned all_declared depth (node.Let (Plain k) of e) cover.0).0 in
        let l1 : Locals = (placed (around_of scopes) own e).locals in
        let g = place_items ts scopes outer fouter ks d.done l1 d.last
        (d.sync l1 (k + 1) (omega arith) (λ j h. f.same j (by_or (λ b. inl b) (λ x. inr (omega arith)) h))) d.filling cover.1 in
        let later = items_grow ts in
        record {
          last = g.last;
          are_typed = typed.a_value isnt d.declares f.is_typed g.are_typed;
          fields_are = g.fields_are;
          same = λ j h. same_around n k m j (local_of l.of) (local_of own.of) (local_of l1.of)
              (local_of (placed_all (around_of scopes) l1 rest).locals.of) less (omega arith) d.others f.same g.same h;
        }
    place_items (num.a_literal {scope = scope} {depth = depth} {k = k} {m = i} {n' = m} {procedure = procedure} {rest = rest}
        {of = of} of_ty t ts) scopes outer fouter ks done l env sync filling cover =
        let told = told_at k depth (node.Let (Plain k) of (node.Proc procedure)) cover.0 (inl (refl, refl)) in
        let own : Locals = with_declared (around_of scopes) k of l in
        let d : Declared scope depth k scopes outer fouter ks
        (placing.declared rest) k of l own env = declared scope depth k scopes outer fouter ks done (placing.declared rest) k of l env
        (omega arith) sync filling of_ty told in
        let sync_own = d.sync own (k + 1) (omega arith) (λ j h. refl) in
        let f = place t scopes own d.last sync_own (parts_covered all_mentioned all_declared depth (node.Let (Plain k) of (node.Proc procedure)) cover.0).0 in
        let l1 : Locals = (placed (around_of scopes) own (node.Proc procedure)).locals in
        let less = grows t in
        let g = place_items ts scopes outer fouter ks d.done l1 d.last
        (sync_moved (entry k of depth ∷ scope) depth (k + 1) i scopes own l1 d.last less (λ j b. f.same j (inl b)) sync_own)
        (filling_later scopes outer fouter ks d.done (placing.declared rest) (k + 1) i d.last less d.filling) cover.1 in
        let later = items_grow ts in
        record {
          last = g.last;
          are_typed = typed.a_literal d.declares f.is_typed g.are_typed;
          fields_are = g.fields_are;
          same = λ j h. by_or (λ b. g.same j (inl (omega arith)) ∙ f.same j (inl (omega arith)) ∙ d.others j (λ x. absurd (omega arith)))
              (λ b. g.same j (inr b) ∙ f.same j (inr (omega arith)) ∙ d.others j (λ x. absurd (omega arith))) h;
        }
