-- One item of a list more, in loops that change it item by item.
use Rattle.std.proofs.Common.{◌≡◌, ◌<◌, ℕ, ◌+◌, List, [], ◌∷◌, ◌++◌, length, get_or, take, drop, get_or-drop, set, refl, sym, ap, ◌∙◌, arith}
use Rattle.std.proofs.lemmas.List.{take_more, take_more_set, map-append, drop-set-lt, drop-drop, get_or_read}
use Rattle.ps_base.specs.TyView.{ty_view}
use Rattle.ps_program.specs.declared.body.Param.{Param as ParamOf}
use Rattle.ps_program.specs.declared.place.Place.{Place}
use Rattle.ps_program.specs.Node.{Param}
use Rattle.ps_program.specs.NodeView.{param_of, params_of}
use Rattle.ps_typing.specs.Mentions.{number_of}
use Rattle.ps_typing.specs.Placing.{Around, Locals, with_name, place_of}
use Rattle.ps_typing.specs.Placed.{with_params}
use Rattle.ps_placer.specs.inside.Params.{placed_params}

-- one parameter more has its local
with_params_more : (params : List Param) (p : Param) (locals : Locals) → with_params (params ++ p ∷ []) locals ≡ with_name (number_of p.place) p.ty (with_params params locals)
with_params_more [] p locals = refl
with_params_more (q ∷ params) p locals = with_params_more params p (with_name (number_of q.place) q.ty locals)

pub params_one : (params : List ParamOf) (i : ℕ) (p d : ParamOf) (locals : Locals) → p ≡ get_or params i d → i < length params → with_params (params_of (take (i + 1) params)) locals ≡ with_name (number_of p.place) (ty_view p.ty) (with_params (params_of (take i params)) locals)
params_one params i p d locals p_is below =
    ap (λ ps. with_params (params_of ps) locals) (take_more params i d below)
    ∙ ap (λ ps. with_params ps locals) (map-append param_of (take i params) (get_or params i d ∷ []))
    ∙ with_params_more (params_of (take i params)) (param_of (get_or params i d)) locals
    ∙ ap (λ (q : ParamOf). with_name (number_of q.place) (ty_view q.ty) (with_params (params_of (take i params)) locals)) (sym p_is)

-- what a loop has not reached

pub same_item : {A : Type 0} (xs ys : List A) (i : ℕ) (d : A) → drop i xs ≡ drop i ys → get_or xs i d ≡ get_or ys i d
same_item xs ys i d same = ap (λ n. get_or xs n d) (let e : i ≡ i + 0 = omega arith in e) ∙ sym (get_or-drop i xs 0 d) ∙ ap (λ l. get_or l 0 d) same ∙ get_or-drop i ys 0 d ∙ ap (λ n. get_or ys n d) (let e : i + 0 ≡ i = omega arith in e)

pub same_rest : {A : Type 0} (xs ys : List A) (i : ℕ) (x : A) → drop i xs ≡ drop i ys → drop (i + 1) (set xs i x) ≡ drop (i + 1) ys
same_rest xs ys i x same = drop-set-lt (i + 1) xs i x (omega arith) ∙ sym (drop-drop 1 i xs) ∙ ap (drop 1) same ∙ drop-drop 1 i ys

-- one parameter more has its place
pub param_placed : (list before : List ParamOf) (i : ℕ) (now read : ParamOf) (place : Place) (around : Around) (locals : Locals) → i < length list → length list ≡ length before → drop i list ≡ drop i before →
    now ≡ get_or list i now → read ≡ get_or list i read → place ≡ place_of around locals read.place →
    params_of (take i list) ≡ placed_params around locals (params_of (take i before)) →
    params_of (take (i + 1) (set list i (record { ty = now.ty; place = place }))) ≡ placed_params around locals (params_of (take (i + 1) before))
param_placed list before i now read place around locals below same rest now_is read_is place_is done =
    let made : ParamOf = record { ty = now.ty; place = place } in
    let item = get_or before i now in
    let item_is : now ≡ item = now_is ∙ same_item list before i now rest in
    let read_now : read ≡ now = get_or_read list i read below read_is now ∙ sym now_is in
    let one : param_of made ≡ record (param_of item) { place = place_of around locals (param_of item).place } =
    ap (λ (p : Place). param_of (record { ty = now.ty; place = p })) (place_is ∙ ap (λ (q : ParamOf). place_of around locals q.place) read_now)
    ∙ ap (λ (q : ParamOf). record (param_of q) { place = place_of around locals q.place }) item_is in
    ap params_of (take_more_set list i made below) ∙ map-append param_of (take i list) (made ∷ [])
    ∙ ap (λ ps. ps ++ param_of made ∷ []) done ∙ ap (λ p. placed_params around locals (params_of (take i before)) ++ p ∷ []) one
    ∙ sym (map-append (λ (p : Param). record p { place = place_of around locals p.place }) (params_of (take i before)) (param_of item ∷ []))
    ∙ ap (placed_params around locals) (sym (map-append param_of (take i before) (item ∷ []))) ∙ ap (λ ps. placed_params around locals (params_of ps)) (sym (take_more before i now (omega (arith, same))))
