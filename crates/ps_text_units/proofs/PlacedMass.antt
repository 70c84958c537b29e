-- Placing its names adds nothing to the mass of a clause: no scope stands as far out, and keeps as many names, as its mass would be.
use Rattle.std.proofs.Common.{◌≡◌, ℕ, ◌+◌, ◌<◌, ◌≤◌, Bool, true, false, List, [], ◌∷◌, map, length, Option, Some, None, refl, arith}
use Rattle.std.specs.Prelude.{◌^◌, if◌then◌else◌, nat_eq}
use Rattle.ps_unit_laws.specs.ps_base.TyView as types
use Rattle.ps_unit_laws.specs.ps_program.declared.place.Place.{Place}
use Rattle.ps_unit_laws.specs.ps_program.declared.place.Place.TheVariants.{Kept}
use Rattle.ps_unit_laws.specs.ps_program.Node.{Param, Node, Nodes, none, more, Arms, no_arms, more_arms, arm, BodyNode, body}
use Rattle.ps_unit_laws.specs.ps_program.Node as node
use Rattle.ps_leaf_laws.specs.ps_type_text.Texts.{Field}
use Rattle.ps_unit_laws.specs.ps_typing.Mentions.{number_of, numbers, is_among, common}
use Rattle.ps_unit_laws.specs.ps_typing.Placing.{Locals, Around, next_position, position, with_declared, found_at, place_of, inside, declared}
use Rattle.ps_unit_laws.specs.ps_typing.Placed.{with_params, then_give, ◌>>=◌, placed, placed_all, placed_arms, placed_literal, placed_program}
use Rattle.ps_text_units.proofs.Weights.{over_small, over_place, mass, mass_all, mass_arms, mass_params, mass_body}

-- each scope keeps fewer than 2^32 names
abbrev pub AreShort : List (List ℕ) → Type 0
AreShort [] = Unit {0}
AreShort (scope ∷ scopes) = (length scope < 2 ^ 32) × AreShort scopes

abbrev IsBelow : Option ℕ → ℕ → Type 0
IsBelow None n = Unit {0}
IsBelow (Some i) n = i < n

next_below : (o : Option ℕ) (n : ℕ) → IsBelow o n → IsBelow (next_position o) (n + 1)
next_below None n h = tt
next_below (Some i) n h = omega arith

position_below : (scope : List ℕ) (k : ℕ) → IsBelow (position scope k) (length scope)
position_below [] k = tt
position_below (name ∷ names) k = by_test (next_below (position names k) (length names) (position_below names k)) (nat_eq name k)
  where
    by_test : IsBelow (next_position (position names k)) (length names + 1) → (b : Bool) →
        IsBelow (if b then Some 0 else next_position (position names k)) (length (name ∷ names))
    by_test later true = omega arith
    by_test later false = below_same (next_position (position names k)) later
      where
        below_same : (o : Option ℕ) → IsBelow o (length names + 1) → IsBelow o (length (name ∷ names))
        below_same None h = tt
        below_same (Some i) h = omega arith

found_small : (locals : List (ℕ × ℕ)) (k up : ℕ) (scopes : List (List ℕ)) → up + length scopes < 2 ^ 32 → AreShort scopes →
    over_place (found_at locals k up scopes) ≡ 0
found_small locals k up [] few short = refl
found_small locals k up (scope ∷ scopes) few short =
    by_position (position scope k) (position_below scope k) (found_small locals k (up + 1) scopes (omega arith) short.1)
  where
    by_position : (o : Option ℕ) → IsBelow o (length scope) → over_place (found_at locals k (up + 1) scopes) ≡ 0 →
        over_place (elim o [ Some i ↦ Kept up i | None ↦ found_at locals k (up + 1) scopes ]) ≡ 0
    by_position None below later = later
    by_position (Some i) below later =
        let e = over_small up (omega arith) in let small = short.0 in let f = over_small i (omega arith) in omega arith

common_few : (names kept : List ℕ) → length (common names kept) ≤ length names
common_few [] kept = omega arith
common_few (k ∷ ks) kept = by_test (common_few ks kept) (is_among kept k)
  where
    by_test : length (common ks kept) ≤ length ks → (b : Bool) → length (if b then k ∷ common ks kept else common ks kept) ≤ length (k ∷ ks)
    by_test few true = omega arith
    by_test few false = omega arith

few_declared : (items : Nodes) → length (declared items) ≤ mass_all items
few_declared none = omega arith
few_declared (more (node.Let place ty e) rest) = let h = few_declared rest in omega arith
few_declared (more first rest) = let h = few_declared rest in omega arith

few_numbers : (params : List Param) → length (numbers params) ≤ mass_params params
few_numbers [] = omega arith
few_numbers (param ∷ rest) = let h = few_numbers rest in omega arith

-- what is around has room for so many further scopes
pub record Room (around : Around) (n : ℕ) : Type 0 where
  pub few : length around.scopes + n < 2 ^ 32
  pub short : AreShort around.scopes

less : {around : Around} {n : ℕ} (m : ℕ) → m ≤ n → Room around n → Room around m
less {around = around} m le r = let few = r.few in record { few = omega arith; short = r.short }

room_inside : (around : Around) (kept : List ℕ) (n : ℕ) → length kept < 2 ^ 32 → Room around (1 + n) → Room (inside around kept) n
room_inside around [] n h r = less n (omega arith) r
room_inside around (k ∷ ks) n h r = let few = r.few in record { few = omega arith; short = (h, r.short) }

placed_small : {around : Around} {n : ℕ} (l : Locals) (place : Place) → Room around n → over_place (place_of around l place) ≡ 0
placed_small {around = around} l place r = let few = r.few in found_small l.of (number_of place) 0 around.scopes (omega arith) r.short

params_small : {around : Around} {n : ℕ} (l : Locals) (params : List Param) → Room around n →
    mass_params (map (λ (param : Param). record param { place = place_of around l param.place }) params) ≤ mass_params params
params_small l [] r = omega arith
params_small l (param ∷ rest) r = let e = placed_small l param.place r in let h = params_small l rest r in omega arith

mutual
  unfolding then_give ◌>>=◌

  pub small : {around : Around} (l : Locals) (tree : Node) → Room around (mass tree) → mass (placed around l tree).of ≤ mass tree
  small l (node.Int v) r = omega arith
  small l (node.Flag b) r = omega arith
  small l (node.Text bytes) r = omega arith
  small l node.Nil r = omega arith
  small l node.Class r = omega arith
  small l node.Empty r = omega arith
  small l (node.Name place ty) r = let e = placed_small l place r in omega arith
  small l (node.SetName place ty e) r = let z = placed_small l place r in let h = small l e (less _ (omega arith) r) in omega arith
  small {around = around} l (node.Let place ty e) r =
      let own = with_declared around (number_of place) ty l in
      let z = placed_small own place r in let h = small own e (less _ (omega arith) r) in omega arith
  small {around = around} l (node.Block scope items) r =
      let kept = common (declared items) around.kept in
      let c = common_few (declared items) around.kept in
      let d = few_declared items in
      let few = r.few in
      let h = all_small {around = inside around kept} l items (room_inside around kept (mass_all items) (omega arith) r) in omega arith
  small {around = around} l (node.IfDo c a) r = let h = small l c (less _ (omega arith) r) in let k = small (placed around l c).locals a (less _ (omega arith) r) in omega arith
  small {around = around} l (node.IfElse c a b) r =
      let h = small l c (less _ (omega arith) r) in let k = small (placed around l c).locals a (less _ (omega arith) r) in let i = small (placed around (placed around l c).locals a).locals b (less _ (omega arith) r) in omega arith
  small {around = around} l (node.While c a) r = let h = small l c (less _ (omega arith) r) in let k = small (placed around l c).locals a (less _ (omega arith) r) in omega arith
  small {around = around} l (node.Repeat a c b) r =
      let h = small l a (less _ (omega arith) r) in let k = small (placed around l a).locals c (less _ (omega arith) r) in let i = small (placed around (placed around l a).locals c).locals b (less _ (omega arith) r) in omega arith
  small {around = around} l (node.For slot a b c scope control s line) r =
      let kept = common (number_of control ∷ []) around.kept in
      let few_kept = common_few (number_of control ∷ []) around.kept in
      let within = room_inside around kept (mass s) (omega arith) (less (1 + mass s) (omega arith) r) in
      let own = with_declared around (number_of control) types.Int (record l { nums = l.nums + 3 }) in
      let l1 = (placed around own a).locals in
      let l2 = (placed around l1 b).locals in
      let l3 = (placed around l2 c).locals in
      let z = placed_small {around = inside around kept} own control within in
      let h = small own a (less _ (omega arith) r) in let k = small l1 b (less _ (omega arith) r) in let i = small l2 c (less _ (omega arith) r) in
      let j = small {around = inside around kept} l3 s within in omega arith
  small {around = around} l (node.Case e arms d ty) r =
      let h = small l e (less _ (omega arith) r) in let k = arms_small (placed around l e).locals arms (less _ (omega arith) r) in let i = small (placed_arms around (placed around l e).locals arms).locals d (less _ (omega arith) r) in
      omega arith
  small {around = around} l (node.And a b) r = let h = small l a (less _ (omega arith) r) in let k = small (placed around l a).locals b (less _ (omega arith) r) in omega arith
  small {around = around} l (node.Or a b) r = let h = small l a (less _ (omega arith) r) in let k = small (placed around l a).locals b (less _ (omega arith) r) in omega arith
  small l (node.Not e) r = let h = small l e (less _ (omega arith) r) in omega arith
  small l (node.Neg e line) r = let h = small l e (less _ (omega arith) r) in omega arith
  small l (node.Plus e) r = let h = small l e (less _ (omega arith) r) in omega arith
  small {around = around} l (node.Arith op a b line) r = let h = small l a (less _ (omega arith) r) in let k = small (placed around l a).locals b (less _ (omega arith) r) in omega arith
  small {around = around} l (node.Compare op ty a b) r = let h = small l a (less _ (omega arith) r) in let k = small (placed around l a).locals b (less _ (omega arith) r) in omega arith
  small l (node.Is e class) r = let h = small l e (less _ (omega arith) r) in omega arith
  small {around = around} l (node.Join a b line) r = let h = small l a (less _ (omega arith) r) in let k = small (placed around l a).locals b (less _ (omega arith) r) in omega arith
  small {around = around} l (node.Part a i n line) r =
      let h = small l a (less _ (omega arith) r) in let k = small (placed around l a).locals i (less _ (omega arith) r) in let j = small (placed around (placed around l a).locals i).locals n (less _ (omega arith) r) in omega arith
  small l (node.Make class args) r = let h = all_small l args (less _ (omega arith) r) in omega arith
  small l (node.Field e class index ty line) r = let h = small l e (less _ (omega arith) r) in omega arith
  small {around = around} l (node.SetField p class index ty e line) r =
      let h = small l p (less _ (omega arith) r) in let k = small (placed around l p).locals e (less _ (omega arith) r) in omega arith
  small {around = around} l (node.Fill a b e ty line) r =
      let h = small l a (less _ (omega arith) r) in let k = small (placed around l a).locals b (less _ (omega arith) r) in let i = small (placed around (placed around l a).locals b).locals e (less _ (omega arith) r) in omega arith
  small {around = around} l (node.Elems a items ty line) r = let h = small l a (less _ (omega arith) r) in let k = all_small (placed around l a).locals items (less _ (omega arith) r) in omega arith
  small {around = around} l (node.Element v i ty line) r = let h = small l v (less _ (omega arith) r) in let k = small (placed around l v).locals i (less _ (omega arith) r) in omega arith
  small {around = around} l (node.SetElement v i e ty line) r =
      let h = small l v (less _ (omega arith) r) in let k = small (placed around l v).locals i (less _ (omega arith) r) in let j = small (placed around (placed around l v).locals i).locals e (less _ (omega arith) r) in omega arith
  small l (node.Bound v upper) r = let h = small l v (less _ (omega arith) r) in omega arith
  small l (node.Proc of) r = let h = body_small l of r in omega arith
  small {around = around} l (node.Call f args line) r = let h = small l f (less _ (omega arith) r) in let k = all_small (placed around l f).locals args (less _ (omega arith) r) in omega arith
  small l (node.Lib code args line) r = let h = all_small l args (less _ (omega arith) r) in omega arith
  small {around = around} l (node.Scan text a f q s line) r =
      let own = record l { nums = l.nums + 3; refs = l.refs + 3 } in
      let h = small own a (less _ (omega arith) r) in let k = small (placed around own a).locals f (less _ (omega arith) r) in omega arith
  small {around = around} l (node.Write e w wide ty line) r = let h = small l e (less _ (omega arith) r) in let k = small (placed around l e).locals w (less _ (omega arith) r) in omega arith
  small l (node.Abort line) r = omega arith

  all_small : {around : Around} (l : Locals) (trees : Nodes) → Room around (mass_all trees) → mass_all (placed_all around l trees).of ≤ mass_all trees
  all_small l none r = omega arith
  all_small {around = around} l (more first rest) r = let h = small l first (less _ (omega arith) r) in let k = all_small (placed around l first).locals rest (less _ (omega arith) r) in omega arith

  arms_small : {around : Around} (l : Locals) (arms : Arms) → Room around (mass_arms arms) → mass_arms (placed_arms around l arms).of ≤ mass_arms arms
  arms_small l no_arms r = omega arith
  arms_small {around = around} l (more_arms (arm labels a) rest) r =
      let h = all_small l labels (less _ (omega arith) r) in let k = small (placed_all around l labels).locals a (less _ (omega arith) r) in
      let i = arms_small (placed around (placed_all around l labels).locals a).locals rest (less _ (omega arith) r) in omega arith

  body_small : {around : Around} (l : Locals) (of : BodyNode) → Room around (1 + mass_body of) → mass_body (placed_literal around l of).of ≤ mass_body of
  body_small {around = around} l (body params gives_ tree scope line) r =
      let kept = common (numbers params) around.kept in
      let c = common_few (numbers params) around.kept in
      let d = few_numbers params in
      let few = r.few in
      let within = room_inside around kept (mass_params params + mass tree) (omega arith) r in
      let own = with_params params (record { nums = 0; refs = 0; of = l.of }) in
      let e = params_small {around = inside around kept} own params within in
      let h = small {around = inside around kept} own tree (less _ (omega arith) within) in omega arith

pub program_small : (names : List Field) (program : BodyNode) → 1 + mass_body program < 2 ^ 32 → mass_body (placed_program names program) ≤ mass_body program
program_small names program h = body_small _ program (record { few = omega arith; short = tt })
