-- Programs in which a name has its place, and the same with another place, which isn't well typed.
use Rattle.std.proofs.Common.{◌≡◌, ℕ, ◌<◌, List, [], ◌∷◌, inl, inr, arith, refl, sym, ap, ◌∙◌, subst, pos, true, false}
use Rattle.std.specs.Prelude.{Option, None}
use Rattle.ps_typing.specs.ps_base.TyView.{TyView}
use Rattle.ps_typing.specs.ps_base.TyView as types
use Rattle.ps_typing.specs.ps_base.declared.line.Line.{Line}
use Rattle.ps_typing.specs.ps_program.declared.place.Place.{Place}
use Rattle.ps_typing.specs.ps_program.declared.place.Place.TheVariants.{Plain, Kept}
use Rattle.ps_typing.specs.ps_program.Node.{Node, Nodes, none, more, BodyNode, body}
use Rattle.ps_typing.specs.ps_program.Node as node
use Rattle.ps_typing.specs.WellTyped.{Claim, ◌has◌, Env, Free, Some_is, IsLocal, IsAt, Declares, IsTyped, AreTyped, AreItems, IsBody, IsWellTyped, with_local, next_slot, behind_one}
use Rattle.ps_typing.specs.WellTyped as typed

abbrev one : Line
one = record { 0 = 1 }

abbrev program : Nodes → BodyNode
program items = body [] types.Void (node.Block None items) None one

abbrev write : Place → TyView → Node
write place ty = node.Write (node.Name place ty) node.Empty false ty one

-- `let a = 1; let b = true; write a`: an int in slot 0, and a bool in slot 1
abbrev declared_at : Place → Place → Place → BodyNode
declared_at a b used = program (more (node.Let a types.Int (node.Int (pos 1)))
    (more (node.Let b types.Bool (node.Flag true)) (more (write used types.Int) none)))

well_placed : IsWellTyped (declared_at (Plain 0) (Plain 1) (Plain 0))
well_placed = (
  refl,
  refl,
  typed.of_params typed.unscoped typed.no_more refl (typed.block typed.unscoped
      (typed.a_value refl (typed.as_local refl) (typed.by_rule typed.int typed.no_more)
      (typed.a_value refl (typed.as_local refl) (typed.by_rule typed.flag typed.no_more)
      (typed.a_clause (typed.by_rule (typed.write refl) (typed.one_more (typed.name (inr (inl (refl, refl))))
      (typed.one_more (typed.by_rule typed.empty typed.no_more) typed.no_more))) typed.at_end))) refl),
)

abbrev start : Env
start = record { locals = []; scopes = [] }

abbrev all_free : Free
all_free = record { nums = 0; refs = 0 }

-- the items of a program
items_of : {items : Nodes} → IsWellTyped (program items) → (last : Env) × (free : Free) × AreItems start all_free types.Void items types.Void last free
items_of (p, q, typed.of_params typed.unscoped typed.no_more e (typed.by_rule r claims)) = elim r [ ]
items_of (p, q, typed.of_params typed.unscoped typed.no_more e (typed.block typed.unscoped items is)) = (_, _, items)

-- the declaration of an int or a bool among items
record Declaring (env : Env) (free : Free) (place : Place) (of : TyView) (rest : Nodes) (ty : TyView) (last : Env) (free' : Free) : Type 0 where
  pub with_name : Env
  pub behind : Free
  pub declares : Declares env free place of with_name behind
  pub items : AreItems with_name behind types.Void rest ty last free'

int_of : {env last : Env} {free free' : Free} {before of ty : TyView} {place : Place} {v : _} {rest : Nodes} →
    AreItems env free before (more (node.Let place of (node.Int v)) rest) ty last free' → Declaring env free place of rest ty last free'
int_of (typed.a_clause (typed.by_rule r claims) items) = elim r [ ]
int_of (typed.a_value isnt d (typed.by_rule typed.int typed.no_more) items) = record { with_name = _; behind = _; declares = d; items = items }

flag_of : {env last : Env} {free free' : Free} {before of ty : TyView} {place : Place} {v : _} {rest : Nodes} →
    AreItems env free before (more (node.Let place of (node.Flag v)) rest) ty last free' → Declaring env free place of rest ty last free'
flag_of (typed.a_clause (typed.by_rule r claims) items) = elim r [ ]
flag_of (typed.a_value isnt d (typed.by_rule typed.flag typed.no_more) items) = record { with_name = _; behind = _; declares = d; items = items }

-- a name that has a local takes the next slot
slot_is : {env with_name : Env} {free behind : Free} {slot : ℕ} {ty : TyView} → Declares env free (Plain slot) ty with_name behind →
    (slot ≡ next_slot ty free) × (with_name ≡ with_local slot ty env) × (behind ≡ behind_one ty free)
slot_is (typed.as_local e) = (e, refl, refl)

name_of : {env : Env} {free free' : Free} {place : Place} {of ty : TyView} → IsTyped env free (node.Name place of) ty free' → IsAt env place ty
name_of (typed.name is) = is
name_of (typed.by_rule r claims) = elim r [ ]

first_of : {env : Env} {free free' : Free} {clause : Node} {ty : TyView} {rest : List Claim} → AreTyped env free (clause has ty ∷ rest) free' →
    (between : Free) × IsTyped env free clause ty between
first_of (typed.one_more first rest) = (_, first)

used_at : {env last : Env} {free free' : Free} {place : Place} {of ty : TyView} {rest : Nodes} →
    AreItems env free types.Void (more (write place of) rest) ty last free' → IsAt env place of
used_at (typed.a_clause (typed.by_rule (typed.write can) claims) items) = name_of (first_of claims).1

differ : (a b : ℕ) → a < b → a ≡ b → ⊥
differ a b less same = omega arith

-- `b` in the slot of `a`, and in the slot after its own
b_as_a : IsWellTyped (declared_at (Plain 0) (Plain 0) (Plain 0)) → ⊥
b_as_a h =
    let a = int_of (items_of h).2 in
    let a_is = slot_is a.declares in
    let b = flag_of a.items in
    let e : 0 ≡ next_slot types.Bool a.behind = (slot_is b.declares).0 in
    let free_is : a.behind ≡ behind_one types.Int all_free = a_is.2 in
    differ 0 1 (omega arith) (e ∙ ap (next_slot types.Bool) free_is)

b_behind : IsWellTyped (declared_at (Plain 0) (Plain 2) (Plain 0)) → ⊥
b_behind h =
    let a = int_of (items_of h).2 in
    let b = flag_of a.items in
    let e : 2 ≡ next_slot types.Bool a.behind = (slot_is b.declares).0 in
    differ 1 2 (omega arith) (sym (e ∙ ap (next_slot types.Bool) (slot_is a.declares).2))

-- `write a` with the slot of `b`, which is a bool
a_as_b : IsWellTyped (declared_at (Plain 0) (Plain 1) (Plain 1)) → ⊥
a_as_b h =
    let a = int_of (items_of h).2 in
    let b = flag_of a.items in
    let env : b.with_name ≡ with_local 1 types.Bool (with_local 0 types.Int start) = (slot_is b.declares).1 ∙ ap (with_local 1 types.Bool)
    (slot_is a.declares).1 in
    neither (subst (λ (e : Env). IsAt e (Plain 1) types.Int) env (used_at b.items))
  where
    neither : IsAt (with_local 1 types.Bool (with_local 0 types.Int start)) (Plain 1) types.Int → ⊥
    neither (inl (slot, ty)) = cc
    neither (inr (inl (slot, ty))) = omega arith
    neither (inr (inr h)) = h

-- `{ let a = 1 }; write a`, with the slot of a name whose block has ended
rest_of : {env last : Env} {free free' : Free} {before ty : TyView} {scope : Option (List ℕ)} {items rest : Nodes} →
    AreItems env free before (more (node.Block scope items) rest) ty last free' → (of : TyView) × (between : Free) × AreItems env between of rest ty last free'
rest_of (typed.a_clause first rest) = (_, _, rest)

used_behind : {env last : Env} {free free' : Free} {before ty : TyView} {place : Place} {of : TyView} {rest : Nodes} →
    AreItems env free before (more (write place of) rest) ty last free' → IsAt env place of
used_behind (typed.a_clause (typed.by_rule (typed.write can) claims) items) = name_of (first_of claims).1

behind_its_block : IsWellTyped (program (more (node.Block None (more (node.Let (Plain 0) types.Int (node.Int (pos 1))) none))
    (more (write (Plain 0) types.Int) none))) → ⊥
behind_its_block h = used_behind (rest_of (items_of h).2).2

-- `let x := 1`, kept where no scope is
kept_nowhere : IsWellTyped (program (more (node.Let (Kept 0 0) types.Int (node.Int (pos 1))) none)) → ⊥
kept_nowhere h = no_scope (int_of (items_of h).2).declares
  where
    no_scope : {with_name : Env} {behind : Free} → Declares start all_free (Kept 0 0) types.Int with_name behind → ⊥
    no_scope (typed.as_kept name scopes position) = absurd cc
