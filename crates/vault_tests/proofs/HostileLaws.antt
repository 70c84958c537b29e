-- Words that begin no object at PID 1 hold none.
use Rattle.std.proofs.Common.{◌≡◌, ℕ, Option, ◌+◌, ◌*◌, ◌^◌, ◌≤◌, List, [], ◌∷◌, length, take, slice_index, refl, sym, ap, ◌∙◌, subst, arith}
use Rattle.std.proofs.lemmas.List.{take-append-le}
use Rattle.memory_vault.specs.obj_layout.declared.kind.Kind.{Kind}
use Rattle.memory_vault.specs.obj_layout.declared.kind.Kind.TheVariants.{Text, Structure, Vector, Scope, Closure, Code, Table, Node, Directory}
use Rattle.memory_vault.specs.obj_layout.Kind.{kind_number}
use Rattle.memory_vault.specs.obj_layout.Objects.{Placed, Cuts}
use Rattle.memory_vault.specs.obj_layout.Stored.{Space, HasObject, Holds}
use Rattle.memory_vault.proofs.of_obj_layout.ObjectLaws.{object-long}
use Rattle.memory_vault.specs.Memory.{Memory, fresh, outside_of}
use Rattle.vault_tests.specs.Hostile.{HoldsNothing}

-- no kind has the number 0
some_kind : (kind : Kind) → 1 ≤ kind_number kind
some_kind Text = omega arith
some_kind Structure = omega arith
some_kind Vector = omega arith
some_kind Scope = omega arith
some_kind Closure = omega arith
some_kind Code = omega arith
some_kind Table = omega arith
some_kind Node = omega arith
some_kind Directory = omega arith

no_cut : (rest : List ℕ) (objects : List Placed) → Cuts 1 (0 ∷ rest) objects → ⊥
no_cut rest [] cut = let long : length (0 ∷ rest) ≡ 0 = ap length cut in omega arith
no_cut rest (o ∷ os) cut =
    let object = cut.1 in
    let kind = some_kind object.header.kind in
    let front : take 4 (0 ∷ rest) ≡ take 4 o.words = ap (take 4) cut.2.1 ∙ take-append-le 4 o.words cut.2.0 (object-long o.words object) in
    let first : 0 ≡ kind_number object.header.kind + 2 ^ 8 * object.header.flags + 2 ^ 32 * object.header.refs =
    ap (λ (ws : List ℕ). slice_index ws 0) (front ∙ sym object.spelled) in
    omega arith

pub holds_nothing : (rest : List ℕ) (directory room : ℕ) → HoldsNothing (fresh (0 ∷ 0 ∷ rest) directory room)
holds_nothing rest directory room = record {
  alive = refl;
  none = λ pid words h.
      let has : HasObject (record { words = 0 ∷ 0 ∷ rest; directory = directory; file = [] }) pid words =
      subst (λ (s : Space). HasObject s pid words) (sym h.is.is) h.has in
      no_cut rest has.objects has.cut.1;
}

-- it doesn't matter which device call is to fail
pub holds_nothing-failing : (vault new : Memory) (failing : Option ℕ)
    → HoldsNothing vault → new ≡ record vault { failing = failing } → (pid : ℕ) (words : List ℕ)
    → Holds (outside_of new) pid words → ⊥
holds_nothing-failing vault new failing nothing is pid words h =
    let it : Holds (outside_of (record vault { failing = failing })) pid words = subst (λ (m : Memory). Holds (outside_of m) pid words) is h in
    nothing.none pid words (record { space = it.space; is = record { is = it.is.is; sound = it.is.sound }; has = it.has })
