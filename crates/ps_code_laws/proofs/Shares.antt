-- What is so of the slots of a clause where it's so of those of its parts: each clause takes its own slots, and its parts take theirs.
use Rattle.std.proofs.Common.{◌≡◌, ℕ, Bool, List, [], ◌∷◌, ◌++◌, Option, refl, ap, ◌∙◌, append_assoc}
use Rattle.std.specs.Prelude.{if◌then◌else◌}
use Rattle.ps_gen.specs.ps_base.TyView.{TyView}
use Rattle.ps_gen.specs.ps_base.TyView as types
use Rattle.ps_gen.specs.ps_base.declared.line.Line.{Line}
use Rattle.ps_gen.specs.ps_program.declared.place.Place.{Place}
use Rattle.ps_gen.specs.ps_program.Node.{Node, Nodes, more}
use Rattle.ps_gen.specs.ps_program.Node as node
use Rattle.ps_typing_laws.specs.ps_typing.WellTyped.{Claim, Rule}
use Rattle.ps_typing_laws.proofs.Tracked.{clauses_of, item_nodes, parts_named}
use Rattle.heap_fit.specs.Slots.{from, slot_on}
use Rattle.heap_fit.proofs.InOrder.{slots, all_slots, slots_are, append_slots, none_own, items_are}
use Rattle.fit_soundness.proofs.Rooms.{Taken, joint}
use Rattle.fit_soundness.proofs.Clauses.{of_clause, of_clauses}

-- what is so of slots on both stacks where it's so of some and of others
pub record Shared : Type 1 where
  pub Has : Taken → Type 0
  pub left : (first rest : Taken) → Has (joint first rest) → Has first
  pub right : (first rest : Taken) → Has (joint first rest) → Has rest
  pub like : (taken other : Taken) → ((numbers : Bool) → taken numbers ≡ other numbers) → Has taken → Has other

-- the slots of a loop and of its control, and those of a scan
abbrev pub three_nums : ℕ → Taken
three_nums slot numbers = if numbers then from slot 3 else []

abbrev pub control_slots : Place → Taken
control_slots control numbers = slot_on numbers types.Int control

abbrev pub scan_slots : ℕ → ℕ → Taken
scan_slots refs nums numbers = if numbers then from nums 3 else from refs 3

module _ (h : Shared) where
  -- the parts of a clause with a rule
  pub rule_has : {t : Node} {claims : List Claim} {ty : TyView} → Rule t claims ty → h.Has (of_clause t) → h.Has (of_clauses (clauses_of claims))
  rule_has {t = t} {claims = claims} r has =
      h.like (of_clause t) (of_clauses (clauses_of claims))
      (λ numbers. slots_are numbers t (clauses_of claims) (parts_named r).0 ∙ ap (λ xs. xs ++ all_slots numbers (clauses_of claims)) (none_own r numbers)) has

  pub set_has : (place : Place) (ty : TyView) (e : Node) → h.Has (of_clause (node.SetName place ty e)) → h.Has (of_clause e)
  set_has place ty e has =
      h.left (of_clause e) (λ numbers. [])
      (h.like (of_clause (node.SetName place ty e)) (joint (of_clause e) (λ numbers. [])) (λ numbers. slots_are numbers (node.SetName place ty e) (e ∷ []) refl) has)

  pub block_has : (scope : Option (List ℕ)) (items : Nodes) → h.Has (of_clause (node.Block scope items)) → h.Has (of_clauses (item_nodes items))
  block_has scope items has =
      h.like (of_clause (node.Block scope items)) (of_clauses (item_nodes items))
      (λ numbers. slots_are numbers (node.Block scope items) (item_nodes items) (items_are items)) has

  -- a loop, and its four clauses
  pub loop_has : (slot : ℕ) (a b c : Node) (scope : Option (List ℕ)) (control : Place) (s : Node) (line : Line) →
      h.Has (of_clause (node.For slot a b c scope control s line)) →
      h.Has (joint (joint (three_nums slot) (control_slots control)) (of_clauses (a ∷ b ∷ c ∷ s ∷ [])))
  loop_has slot a b c scope control s line has =
      h.like (of_clause (node.For slot a b c scope control s line)) (joint (joint (three_nums slot) (control_slots control)) (of_clauses (a ∷ b ∷ c ∷ s ∷ [])))
      (λ numbers. slots_are numbers (node.For slot a b c scope control s line) (a ∷ b ∷ c ∷ s ∷ []) refl) has

  parted : (a b c s : Node) → h.Has (of_clauses (a ∷ b ∷ c ∷ s ∷ [])) → h.Has (joint (of_clauses (a ∷ b ∷ c ∷ [])) (of_clauses (s ∷ [])))
  parted a b c s has =
      h.like (of_clauses (a ∷ b ∷ c ∷ s ∷ [])) (joint (of_clauses (a ∷ b ∷ c ∷ [])) (of_clauses (s ∷ [])))
      (λ numbers. append_slots numbers (a ∷ b ∷ c ∷ []) (s ∷ [])) has

  pub first_three_have : (a b c s : Node) → h.Has (of_clauses (a ∷ b ∷ c ∷ s ∷ [])) → h.Has (of_clauses (a ∷ b ∷ c ∷ []))
  first_three_have a b c s has = h.left (of_clauses (a ∷ b ∷ c ∷ [])) (of_clauses (s ∷ [])) (parted a b c s has)

  pub fourth_has : (a b c s : Node) → h.Has (of_clauses (a ∷ b ∷ c ∷ s ∷ [])) → h.Has (of_clause s)
  fourth_has a b c s has =
      h.left (of_clause s) (λ numbers. []) (h.right (of_clauses (a ∷ b ∷ c ∷ [])) (of_clauses (s ∷ [])) (parted a b c s has))

  pub scan_has : (string : Bool) (a f : Node) (q s : ℕ) (line : Line) → h.Has (of_clause (node.Scan string a f q s line)) →
      h.Has (joint (scan_slots q s) (of_clauses (a ∷ f ∷ [])))
  scan_has string a f q s line has =
      h.like (of_clause (node.Scan string a f q s line)) (joint (scan_slots q s) (of_clauses (a ∷ f ∷ [])))
      (λ numbers. slots_are numbers (node.Scan string a f q s line) (a ∷ f ∷ []) refl) has

  -- a name that is declared, its clause, and what comes after it
  pub let_has : (place : Place) (ty : TyView) (e : Node) (rest : Nodes) → h.Has (of_clauses (item_nodes (more (node.Let place ty e) rest))) →
      h.Has (joint (λ numbers. slot_on numbers ty place) (joint (of_clause e) (of_clauses (item_nodes rest))))
  let_has place ty e rest has =
      h.like (of_clauses (item_nodes (more (node.Let place ty e) rest)))
      (joint (λ numbers. slot_on numbers ty place) (joint (of_clause e) (of_clauses (item_nodes rest))))
      (λ numbers. ap (λ xs. xs ++ all_slots numbers (item_nodes rest)) (slots_are numbers (node.Let place ty e) (e ∷ []) refl)
      ∙ append_assoc (slot_on numbers ty place) (slots numbers e ++ []) (all_slots numbers (item_nodes rest))
      ∙ ap (λ xs. slot_on numbers ty place ++ xs) (append_assoc (slots numbers e) [] (all_slots numbers (item_nodes rest)))) has
