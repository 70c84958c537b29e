-- How many pairs a table has: each has a node of its own name, and area and vault have few enough names.
use Rattle.std.proofs.Common.{suc, ◌||◌, Bool, ◌≡◌, ◌≢◌, ℕ, ◌+◌, ◌^◌, ◌≤◌, ◌<◌, true, false, List, [], ◌∷◌, length, Option, Some, None, Result, Ok, Err, refl, sym, ap, ◌∙◌, subst, arith, inl, inr}
use Rattle.std.specs.List.{AllByRecursion, IsDistinct, list_any}
use Rattle.std.proofs.Math.Dec.{eqb}
use Rattle.std.specs.Ordering.{ordering_reverse}
use Rattle.std.specs.declared.cmp.Ordering.TheVariants.{Less}
use Rattle.std.proofs.lemmas.Map.Steps.{length-le_from_distinct_below}
use Rattle.std.proofs.lemmas.Bool.{cases_eq, ne_eqb}
use Rattle.ps_base.specs.declared.trap.Trap.{Trap}
use Rattle.ps_base.specs.declared.trap.Trap.TheVariants as trap
use Rattle.joint_ops.specs.ps_outside.Outside.{Outside}
use Rattle.joint_ops.specs.obj_layout.Stored.{Space, Holds}
use Rattle.joint_ops.specs.obj_layout.declared.reference.Reference.{Reference}
use Rattle.joint_ops.specs.obj_layout.declared.reference.Reference.TheVariants.{Pid}
use Rattle.joint_ops.specs.swizzle.Heap as area
use Rattle.joint_ops.specs.swizzle.Heap.{header_at}
use Rattle.joint_ops.specs.obj_layout.declared.kind.Kind.TheVariants as kind
use Rattle.joint_ops.specs.heap_texts.declared.fault.OpFault.{OpFault}
use Rattle.joint_ops.specs.heap_texts.declared.fault.OpFault.TheVariants as op
use Rattle.joint_ops.specs.ps_heap.Values.{Value}
use Rattle.joint_ops.specs.ps_heap.Texts.{Attempt, Yields, Fails}
use Rattle.joint_ops.specs.ps_heap.Tables as Tables
use Rattle.joint_ops.specs.ps_heap.Tables.{Table, by_ints, by_strings, cardinality, on_yield, without_keys}
use Rattle.joint_ops.specs.ps_heap.Objects.{Heap}
use Rattle.joint_ops.specs.World.{IsWorld, DenotesIn, Answers, Stands, seen}
use Rattle.joint_ops.specs.heap_meaning.Paired.{paired}
use Rattle.joint_ops.proofs.GainLaws.{nothing-done}
use Rattle.joint_ops.specs.swizzle.Joint.{Shown, name_at}
use Rattle.joint_ops.proofs.of_swizzle.JointLaws.{held-lt}
use Rattle.table_lib.specs.Tables.{IsTable, IsUnused}
use Rattle.table_lib.specs.table_nodes.avl_trees.Rising.{AreRising}
use Rattle.table_lib.specs.table_nodes.avl_trees.Trees.{Tree, items}
use Rattle.table_lib.specs.table_nodes.avl_trees.Standing.{Entry, Has, under}
use Rattle.table_lib.proofs.of_table_nodes.of_avl_trees.Standing.{all_have}
use Rattle.table_lib.specs.table_nodes.node_rows.Keys as keys
use Rattle.table_lib.specs.table_nodes.node_rows.Keys.{Keys, KeyOf, order_by}
use Rattle.table_lib.specs.table_nodes.node_rows.Nodes.{I, Seat}
use Rattle.table_lib.specs.table_nodes.Nodes as nodes
use Rattle.table_lib.specs.table_nodes.Steps.{IsPlace, place, rows_of}
use Rattle.table_lib.proofs.of_table_nodes.KeyLaws.{total}
use Rattle.table_lib.proofs.of_table_nodes.StepLaws.{one}
use Rattle.joint_tables.specs.Tables.{entries_of}
use Rattle.joint_tables.proofs.OperandLaws.{HasTree, IsTreeOf, Operand, a_table, keyed, long-pairs, no_table, operand-is, other_object}

module _ (here : area.Heap) (outside : Outside Space) (p : IsPlace (place here outside))
    (low : (pid : ℕ) (words : List ℕ) → Holds outside pid words → pid < 2 ^ 30) where
  -- a number for a name that is seen
  abbrev number : (n : Reference) (it : Shown) → nodes.seen here outside n it → ℕ
  number n it (inl a) = 2 ^ 30 + a.at
  number n it (inr v) = v.pid

  number-low : (n : Reference) (it : Shown) (s : nodes.seen here outside n it) → number n it s < 2 ^ 31
  number-low n it (inl a) = omega (arith, held-lt here a.at p.heap a.held, p.heap.within, p.heap.small)
  number-low n it (inr v) = omega (arith, low v.pid v.words v.there.there)

  number-one : (n m : Reference) (it that : Shown) (s : nodes.seen here outside n it) (t : nodes.seen here outside m that)
      → number n it s ≡ number m that t → n ≡ m
  number-one n m it that (inl a) (inl b) e =
      let same : a.at ≡ b.at = omega (arith, e) in
      a.name_is ∙ ap (name_at here) same ∙ sym b.name_is
  number-one n m it that (inl a) (inr v) e = absurd (omega (arith, e, low v.pid v.words v.there.there))
  number-one n m it that (inr v) (inl a) e = absurd (omega (arith, e, low v.pid v.words v.there.there))
  number-one n m it that (inr v) (inr w) e = v.name_is ∙ ap (λ (i : ℕ). Pid i) e ∙ sym w.name_is

  module _ (ks : Keys) where
    abbrev numbers : (is : List (I ks)) → AllByRecursion (Has (rows_of ks (place here outside))) is → List ℕ
    numbers [] h = []
    numbers (a ∷ is) h = number a.name h.0.there.it h.0.there.there ∷ numbers is h.1

    numbers-long : (is : List (I ks)) (h : AllByRecursion (Has (rows_of ks (place here outside))) is) → length (numbers is h) ≡ length is
    numbers-long [] h = refl
    numbers-long (a ∷ is) h = ap suc (numbers-long is h.1)

    numbers-low : (is : List (I ks)) (h : AllByRecursion (Has (rows_of ks (place here outside))) is) (q : ℕ) → list_any (eqb q) (numbers is h) ≡ true
        → q < 2 ^ 31
    numbers-low [] h q e = absurd (cc)
    numbers-low (a ∷ is) h q e = elim (cases_eq q (number a.name h.0.there.it h.0.there.there)) [
      | inl same ↦ subst (λ (n : ℕ). n < 2 ^ 31) (sym same) (number-low a.name h.0.there.it h.0.there.there)
      | inr apart ↦ numbers-low is h.1 q
          (sym (ap (λ (b : Bool). b || list_any (eqb q) (numbers is h.1)) (ne_eqb q (number a.name h.0.there.it h.0.there.there) apart)) ∙ e)
    ]

    -- no key is below itself
    not-below : (k : KeyOf ks) → order_by ks k k ≡ Less → ⊥
    not-below k e = let f = (total ks).antisymm k k ∙ ap ordering_reverse e in absurd (cc (e, f))

    names-differ : (a b : I ks) → Has (rows_of ks (place here outside)) a → Has (rows_of ks (place here outside)) b → under (order_by ks) a b
        → a.name ≢ b.name
    names-differ a b ha hb u e =
        let same =
        one ks (place here outside) p b.name ha.row hb.row
        (subst (λ (n : Reference). rows_of ks (place here outside) n ha.row) e ha.there) hb.there in
        let key : a.entry.key ≡ b.entry.key =
        ap (λ (x : Entry (KeyOf ks) Reference). x.key) (sym ha.entry ∙ (ap (λ (r : Seat ks). r.entry) same ∙ hb.entry)) in
        not-below b.entry.key (subst (λ (k : KeyOf ks). order_by ks k b.entry.key ≡ Less) key u)

    apart : (a : I ks) (ha : Has (rows_of ks (place here outside)) a) (is : List (I ks))
        (h : AllByRecursion (Has (rows_of ks (place here outside))) is) → AllByRecursion (under (order_by ks) a) is
        → AllByRecursion (λ y. eqb (number a.name ha.there.it ha.there.there) y ≡ false) (numbers is h)
    apart a ha [] h u = tt
    apart a ha (b ∷ is) h u = (
      ne_eqb (number a.name ha.there.it ha.there.there) (number b.name h.0.there.it h.0.there.there)
          (λ e. names-differ a b ha h.0 u.0 (number-one a.name b.name ha.there.it h.0.there.it ha.there.there h.0.there.there e)),
      apart a ha is h.1 u.1,
    )

    distinct : (is : List (I ks)) (h : AllByRecursion (Has (rows_of ks (place here outside))) is) → AreRising (under (order_by ks)) is
        → IsDistinct eqb (numbers is h)
    unfolding IsDistinct
    distinct [] h u = tt
    distinct (a ∷ is) h u = (apart a h.0 is h.1 u.0, distinct is h.1 u.1)

    pub count-low : (at : ℕ) (t : Tree (I ks)) → IsTable ks (place here outside) at t → length (items t) ≤ 2 ^ 31
    count-low at t table =
        let h = all_have (rows_of ks (place here outside)) t table.stands in
        subst (λ (n : ℕ). n ≤ 2 ^ 31) (numbers-long (items t) h)
        (length-le_from_distinct_below (numbers (items t) h) (2 ^ 31) (distinct (items t) h table.rising) (λ q e. numbers-low (items t) h q e))

-- The number of pairs of what an operand denotes.
module _ (here : area.Heap) (outside : Outside Space) (of : Heap) (names : List Reference) (w : IsWorld here outside of names)
    (p : IsPlace (place here outside))
    (low : (pid : ℕ) (words : List ℕ) → Holds outside pid words → pid < 2 ^ 30) where
  abbrev Counts : Attempt ℕ → Result ℕ OpFault → Type 0
  Counts attempt result = Answers here here outside outside (λ (count wanted : ℕ). count ≡ wanted) of names attempt result

  still : Stands here here outside outside of names
  still = nothing-done here outside of names p.heap w

  trapped : (t : Trap) (attempt : Attempt ℕ) (result : Result ℕ OpFault) → attempt ≡ Fails t → result ≡ Err (op.Trap t) → Counts attempt result
  trapped t attempt result e f = subst (λ (r : Result ℕ OpFault). Counts attempt r) (sym f) (e, still)

  answered : (n m : ℕ) (attempt : Attempt ℕ) (result : Result ℕ OpFault) → attempt ≡ Yields m → n ≡ m → result ≡ Ok n → Counts attempt result
  answered n m attempt result e same f = subst (λ (r : Result ℕ OpFault). Counts attempt r) (sym f) (m, e, same, still)

  pub counted : (operand : Option ℕ) (v : Value) (result : Result ℕ OpFault) → DenotesIn here outside names operand v
      → (operand ≡ None → result ≡ Err (op.Trap trap.Nil))
      → ((at : ℕ) → operand ≡ Some at → (header_at here at).kind ≢ kind.Table → result ≡ Err (op.Trap trap.WrongClass))
      → ((at : ℕ) → operand ≡ Some at → IsUnused here at → result ≡ Ok 0)
      → ((at : ℕ) (ks : Keys) (t : Tree (I ks)) → operand ≡ Some at → IsTable ks (place here outside) at t → length (items t) < 2 ^ 32 → result ≡ Ok (length (items t)))
      → Counts (entries_of of v) result
  unfolding cardinality
  counted operand v result d nil class unused used = go (operand-is here outside of names p.heap w operand v d)
    where
      tree : (ks : Keys) (at : ℕ) (entries : List (Tables.Entry (KeyOf ks))) (mine : List Reference) → operand ≡ Some at
          → HasTree ks here outside names at entries mine → cardinality (keyed ks entries) ≡ length entries
          → Counts (Yields (cardinality (keyed ks entries))) result
      tree ks at entries mine e x is =
          let small = count-low here outside p low ks at x.tree x.table in
          answered (length (items x.tree)) (cardinality (keyed ks entries)) (Yields (cardinality (keyed ks entries))) result refl
          (long-pairs (seen here outside) (paired names) (items x.tree) entries x.pairs ∙ sym is) (used at ks x.tree e x.table (omega (arith, small)))

      of_table : (at : ℕ) (table : Table) (mine : List Reference) → operand ≡ Some at → IsTreeOf here outside names at table mine
          → Counts (Yields (cardinality table)) result
      of_table at without_keys mine e x = answered 0 0 (Yields 0) result refl refl (unused at e x.0)
      of_table at (by_strings entries) mine e x = tree keys.by_texts at entries mine e x refl
      of_table at (by_ints entries) mine e x = tree keys.by_ints at entries mine e x refl

      go : Operand here outside of names p.heap w operand v → Counts (entries_of of v) result
      go (no_table e f) = trapped trap.Nil (entries_of of v) result (ap (λ (a : Attempt Table). on_yield a cardinality) f) (nil e)
      go (other_object at e ne f) =
          trapped trap.WrongClass (entries_of of v) result (ap (λ (a : Attempt Table). on_yield a cardinality) f) (class at e ne)
      go (a_table at e t) = subst (λ (a : Attempt Table). Counts (on_yield a cardinality) result) (sym t.yields) (of_table at t.table _ e t.is)
