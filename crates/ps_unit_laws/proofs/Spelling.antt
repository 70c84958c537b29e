-- Each instruction of a typed clause can be spelled, where its code and its constants end below 2^32.
use Rattle.std.proofs.Common.{◌≡◌, ℕ, ◌+◌, ◌<◌, ◌≤◌, Bool, true, false, List, [], ◌∷◌, ◌++◌, Option, Some, None, refl, sym, ap, ◌∙◌, subst, arith, append_assoc}
use Rattle.std.specs.Prelude.{◌^◌, map, if◌then◌else◌}
use Rattle.std.specs.Str.{bytes_eq}
use Rattle.ps_gen.specs.ps_base.TyView.{TyView, TyViews}
use Rattle.ps_gen.specs.ps_base.TyView as types
use Rattle.ps_gen.specs.ps_base.declared.line.Line.{Line}
use Rattle.ps_gen.specs.ps_base.declared.instr.Instr.TheVariants as instr
use Rattle.ps_gen.specs.ps_base.declared.operator.Relation.TheVariants.{Equal}
use Rattle.ps_gen.specs.ps_program.Node.{Node, Nodes, none, more, Arms, no_arms, more_arms, arm}
use Rattle.ps_gen.specs.ps_program.Node as node
use Rattle.ps_gen.specs.ps_program.Parts.{Part, operand, label, branch}
use Rattle.ps_gen.specs.ps_program.Slots.{depth, reaches}
use Rattle.ps_gen.specs.ps_program.inside.Listed.{parts_all, parts_arms, part_as}
use Rattle.ps_typing_laws.specs.ps_typing.Names.{Meaning, Declared, library, plain, lookup}
use Rattle.ps_typing_laws.specs.ps_typing.Library.{procedures}
use Rattle.ps_typing_laws.specs.ps_typing.Placing.{is_number}
use Rattle.ps_typing_laws.specs.ps_typing.WellTyped.{Env, Free, Claim, ◌has◌, Arguments, Rule, IsTyped, AreTyped, AreItems}
use Rattle.ps_typing_laws.specs.ps_typing.WellTyped as typed
use Rattle.ps_typing_laws.specs.Counted.{Each}
use Rattle.ps_typing_laws.proofs.Tracked.{evaluated, item_nodes}
use Rattle.ps_gen.specs.ps_emitter.Giving.{result_of, element_of, library_result, type_of, type_of_last}
use Rattle.ps_gen.specs.ps_emitter.Choices as choice
use Rattle.ps_gen.specs.Emission.{size_at, size_entered, size, size_all, size_arms, size_labels, count_scope, count, count_all, count_arms, entered, left, items_in, emit, emit_all, emit_arms, emit_labels}
use Rattle.ps_unit_laws.specs.Fields.{FieldsFit, AllFieldsFit, ArmFieldsFit}
use Rattle.ps_unit_laws.proofs.Parts.{Typed, clause, Good, items_are, few_operands, parts_deep, own_small, good_parts}
use Rattle.ps_unit_laws.proofs.Choices.{Spelled, join, by_type_is, get_is, set_is, flag_is, arith_is, compare_is, write_is, bound_is, scan_is, call_is, zero_is}

-- The type that the generator takes for what a clause gives is the clause's.

each_found : (Is : Meaning → Type 0) (ds : List Declared) (name : List ℕ) (m : Meaning) → Each (λ (d : Declared). Is d.meaning) ds →
    lookup ds name ≡ Some m → Is m
each_found Is [] name m h found = absurd cc
each_found Is (d ∷ ds) name m h found = by_name (λ is. each_found Is ds name m h.1 is) (bytes_eq d.name name) found
  where
    by_name : (lookup ds name ≡ Some m → Is m) → (same : Bool) → (if same then Some d.meaning else lookup ds name) ≡ Some m → Is m
    by_name others true is = let e : d.meaning ≡ m = cc in subst Is e h.0
    by_name others false is = others is

abbrev GivesAsSaid : Meaning → Type 0
GivesAsSaid (library (plain code params gives)) = library_result procedures code ≡ gives
GivesAsSaid _ = Unit {0}

library_type : (name : List ℕ) (code : ℕ) (params : TyViews) (gives : TyView) → lookup procedures name ≡ Some (library (plain code params gives)) →
    library_result procedures code ≡ gives
library_type name code params gives found =
    each_found GivesAsSaid procedures name (library (plain code params gives))
    (refl, (refl, (refl, (refl, (refl, (refl, (refl, (refl, (refl, (refl, (refl, (refl, (refl, (tt, (tt, (tt, tt)))))))))))))))) found

mutual
  pub type_is : {env : Env} {free free' : Free} {t : Node} {ty : TyView} → IsTyped env free t ty free' → type_of t ≡ ty
  type_is (typed.by_rule r are) = rule_type r are
  type_is (typed.name is) = refl
  type_is (typed.set_name is e) = refl
  type_is (typed.block opens are is) = items_type are
  type_is (typed.loop slot_is opens declares is are s) = refl
  type_is (typed.scan q_is s_is are) = refl
  type_is (typed.literal {params = params} is_body) = refl

  rule_type : {env : Env} {free free' : Free} {t : Node} {claims : List Claim} {ty : TyView} → Rule t claims ty → AreTyped env free claims free' → type_of t ≡ ty
  rule_type typed.if_else (typed.one_more c (typed.one_more a (typed.one_more b typed.no_more))) = type_is b
  rule_type (typed.case {d = d} {arms = arms} {value = value} {t = t} is) (typed.one_more e others) = last_type d t (typed.arms_have value t arms) others refl
  rule_type (typed.call args) (typed.one_more f others) = ap result_of (type_is f)
  rule_type (typed.lib {code = code} {tys = tys} {t = t} known args) are = library_type known.0 code tys t known.1
  rule_type other are = refl

  last_type : {env : Env} {free free' : Free} {all : List Claim} (d : Node) (t : TyView) (before : List Claim) → AreTyped env free all free' →
      all ≡ before ++ d has t ∷ [] → type_of d ≡ t
  last_type d t [] typed.no_more e = absurd cc
  last_type d t [] (typed.one_more {clause = n} {ty = u} h others) e =
      let is : n has u ≡ d has t = cc in sym (ap (λ (c : Claim). type_of c.clause) is) ∙ type_is h ∙ ap (λ (c : Claim). c.ty) is
  last_type d t (claim ∷ before) typed.no_more e = absurd cc
  last_type d t (claim ∷ before) (typed.one_more {rest = rest} h others) e =
      let is : rest ≡ before ++ d has t ∷ [] = cc in last_type d t before others is

  items_type : {env last : Env} {free free' : Free} {before ty : TyView} {items : Nodes} → AreItems env free before items ty last free' →
      type_of_last before items ≡ ty
  items_type typed.at_end = refl
  items_type (typed.a_clause {rest = rest} first others) = ap (λ (t : TyView). type_of_last t rest) (type_is first) ∙ items_type others
  items_type (typed.a_value isnt declares t others) = items_type others
  items_type (typed.a_literal declares t others) = items_type others

one_at_most : (number : Bool) → (if number then 0 else 1) ≤ 1
one_at_most true = omega arith
one_at_most false = omega arith

-- a call has no more arguments that are references than it has arguments
few_references : {args : Nodes} {tys : TyViews} {claims : List Claim} → Arguments args tys claims → choice.references tys ≤ items_in args
few_references typed.no_more = omega arith
few_references (typed.one_more {t = t} args) = let h = few_references args in let k = one_at_most (is_number t) in omega arith

call_small : {f : Node} {args : Nodes} {line : Line} → Typed (node.Call f args line) → items_in args < 2 ^ 32 → choice.reference_arguments (type_of f) < 2 ^ 32
call_small (clause (typed.by_rule (typed.call args) (typed.one_more f others))) few =
    let h = few_references args in let e = ap choice.reference_arguments (type_is f) in omega arith

-- The parts of lists of clauses.

abbrev GoodAll : Nodes → Type 0
GoodAll ns = Each (Good (2 ^ 32)) (item_nodes ns)

abbrev GoodArms : Arms → Type 0
GoodArms no_arms = Unit {0}
GoodArms (more_arms (arm labels a) rest) = GoodAll labels × Good (2 ^ 32) a × GoodArms rest

operands_are_items : (ns : Nodes) → evaluated (parts_all operand ns) ≡ item_nodes ns
operands_are_items none = refl
operands_are_items (more n ns) = ap (λ (l : List Node). n ∷ l) (operands_are_items ns)

operands_good : (ns : Nodes) → Each (Good (2 ^ 32)) (evaluated (parts_all operand ns)) → GoodAll ns
operands_good ns h = subst (Each (Good (2 ^ 32))) (operands_are_items ns) h

labels_good : (labels : Nodes) (rest : List (Part Node)) → Each (Good (2 ^ 32)) (evaluated (parts_all label labels ++ rest)) →
    GoodAll labels × Each (Good (2 ^ 32)) (evaluated rest)
labels_good none rest h = (tt, h)
labels_good (more n ns) rest h = let k = labels_good ns rest h.1 in ((h.0, k.0), k.1)

arms_good : (arms : Arms) (d : Node) → Each (Good (2 ^ 32)) (evaluated (parts_arms arms ++ branch d ∷ [])) → GoodArms arms × Good (2 ^ 32) d
arms_good no_arms d h = (tt, h.0)
arms_good (more_arms (arm labels a) rest) d h =
    let k = labels_good labels (branch a ∷ (parts_arms rest ++ branch d ∷ [])) (subst (λ (ps : List (Part Node)). Each (Good (2 ^ 32)) (evaluated ps))
    (append_assoc (parts_all label labels) (branch a ∷ parts_arms rest) (branch d ∷ [])) h) in
    let more_of = arms_good rest d k.1.1 in
    ((k.0, k.1.0, more_of.0), more_of.1)

pub entered_is : (scope : Option (List ℕ)) (k : ℕ) → k + count_scope scope ≤ 2 ^ 32 → Spelled (entered scope k)
entered_is None k h = tt
entered_is (Some text) k h = ((omega arith, tt), tt)

left_is : (scope : Option (List ℕ)) → Spelled (left scope)
left_is None = tt
left_is (Some text) = (tt, tt)

mutual
  pub spell : (t : Node) (at k : ℕ) → Good (2 ^ 32) t → FieldsFit t → at + size t < 2 ^ 32 → k + count t ≤ 2 ^ 32 → Spelled (emit t at k)
  spell (node.Int v) at k g f b n = (f, tt)
  spell (node.Flag v) at k g f b n = (flag_is v, tt)
  spell (node.Text bytes) at k g f b n = ((omega arith, tt), tt)
  spell node.Nil at k g f b n = (tt, tt)
  spell (node.Name place ty) at k g f b n = (get_is place ty f (own_small (2 ^ 32) (node.Name place ty) g), tt)
  spell (node.SetName place ty e) at k g f b n =
      let p = good_parts (2 ^ 32) (node.SetName place ty e) g in
      join (emit e at k) _ (spell e at k p.0 f.1 (omega arith) n) (set_is place ty f.0 (own_small (2 ^ 32) (node.SetName place ty e) g), tt)
  spell (node.Let place ty e) at k g f b n =
      let p = good_parts (2 ^ 32) (node.Let place ty e) g in
      join (emit e at k) _ (spell e at k p.0 f.1 (omega arith) n) (set_is place ty f.0 (own_small (2 ^ 32) (node.Let place ty e) g), tt)
  spell node.Class at k g f b n = tt
  spell node.Empty at k g f b n = tt
  spell (node.Block scope items) at k g f b n =
      let p = subst (Each (Good (2 ^ 32))) (items_are items) (good_parts (2 ^ 32) (node.Block scope items) g) in
      join (entered scope k) _ (entered_is scope k (omega arith))
      (join (emit_all items (at + size_entered scope) (k + count_scope scope)) _
      (spell_all items (at + size_entered scope) (k + count_scope scope) p f (omega arith) (omega arith)) (left_is scope))
  spell (node.IfDo c a) at k g f b n =
      let p = good_parts (2 ^ 32) (node.IfDo c a) g in
      join (emit c at k) _ (spell c at k p.0 f.0 (omega arith) (omega arith))
      ((omega arith, tt), spell a (at + size c + 5) (k + count c) p.1.0 f.1 (omega arith) (omega arith))
  spell (node.IfElse c a d) at k g f b n =
      let p = good_parts (2 ^ 32) (node.IfElse c a d) g in
      join (emit c at k) _ (spell c at k p.0 f.0 (omega arith) (omega arith)) (
        (omega arith, tt),
        join (emit a (at + size c + 5) (k + count c)) _
            (spell a (at + size c + 5) (k + count c) p.1.0 f.1 (omega arith) (omega arith))
            ((omega arith, tt), spell d (at + size c + 5 + size a + 5) (k + count c + count a) p.1.1.0 f.2 (omega arith) (omega arith)),
      )
  spell (node.While c a) at k g f b n =
      let p = good_parts (2 ^ 32) (node.While c a) g in (
        (omega arith, tt),
        join (emit a (at + 5) k) _ (spell a (at + 5) k p.1.0 f.1 (omega arith) (omega arith))
            (join (emit c (at + 5 + size a) (k + count a)) _ (spell c (at + 5 + size a) (k + count a) p.0 f.0 (omega arith) (omega arith))
            ((omega arith, tt), tt)),
      )
  spell (node.Repeat a c d) at k g f b n =
      let p = good_parts (2 ^ 32) (node.Repeat a c d) g in (
        (omega arith, tt),
        join (emit d (at + 5) k) _ (spell d (at + 5) k p.1.1.0 f.2 (omega arith) (omega arith))
            (join (emit a (at + 5 + size d) (k + count d)) _ (spell a (at + 5 + size d) (k + count d) p.0 f.0 (omega arith) (omega arith))
            (join (emit c (at + 5 + size d + size a) (k + count d + count a)) _
            (spell c (at + 5 + size d + size a) (k + count d + count a) p.1.0 f.1 (omega arith) (omega arith)) ((omega arith, tt), tt))),
      )
  spell (node.For slot x y z scope control s line) at k g f b n =
      let p = good_parts (2 ^ 32) (node.For slot x y z scope control s line) g in
      let own = own_small (2 ^ 32) (node.For slot x y z scope control s line) g in
      let limit = at + size x + 5 in
      let step = limit + size y + 5 in
      let turn = step + size z + 5 + 13 in
      let clause = turn + size_entered scope + 5 + size_at control in
      let named = k + count x + count y + count z in
      join (emit x at k) _ (spell x at k p.0 f.2 (omega arith) (omega arith)) (
        (own.0, tt),
        join (emit y limit (k + count x)) _ (spell y limit (k + count x) p.1.0 f.3 (omega arith) (omega arith)) (
          (own.1.0, tt),
          join (emit z step (k + count x + count y)) _ (spell z step (k + count x + count y) p.1.1.0 f.4 (omega arith) (omega arith)) (
            (own.1.1.0, tt),
            (
              (own.0, (omega arith, (f.1, tt))),
              join (entered scope named) _ (entered_is scope named (omega arith)) (
                (own.0, tt),
                (
                  set_is control types.Int f.0 own.1.1.1,
                  join (emit s clause (named + count_scope scope)) _
                      (spell s clause (named + count_scope scope) p.1.1.1.0 f.5 (omega arith) (omega arith))
                      (join (left scope) _ (left_is scope) ((own.0, (omega arith, tt)), tt)),
                ),
              ),
            ),
          ),
        ),
      )
  spell (node.Case e arms d ty) at k g f b n =
      let p = good_parts (2 ^ 32) (node.Case e arms d ty) g in
      let parts = arms_good arms d p.1 in
      let first = at + size e in
      let default = first + size_arms arms + 1 in
      join (emit e at k) _ (spell e at k p.0 f.0 (omega arith) (omega arith))
      (join (emit_arms ty (default + size d) arms first (k + count e)) _
      (spell_arms ty (default + size d) arms first (k + count e) parts.0 f.1 (omega arith) (omega arith) (omega arith))
      (by_type_is ty instr.DropM instr.DropP tt tt, spell d default (k + count e + count_arms arms) parts.1 f.2 (omega arith) (omega arith)))
  spell (node.And a d) at k g f b n =
      let p = good_parts (2 ^ 32) (node.And a d) g in
      join (emit a at k) _ (spell a at k p.0 f.0 (omega arith) (omega arith))
      ((omega arith, tt), spell d (at + size a + 5) (k + count a) p.1.0 f.1 (omega arith) (omega arith))
  spell (node.Or a d) at k g f b n =
      let p = good_parts (2 ^ 32) (node.Or a d) g in
      join (emit a at k) _ (spell a at k p.0 f.0 (omega arith) (omega arith))
      ((omega arith, tt), spell d (at + size a + 5) (k + count a) p.1.0 f.1 (omega arith) (omega arith))
  spell (node.Not e) at k g f b n =
      let p = good_parts (2 ^ 32) (node.Not e) g in join (emit e at k) _ (spell e at k p.0 f (omega arith) n) (tt, tt)
  spell (node.Neg e line) at k g f b n =
      let p = good_parts (2 ^ 32) (node.Neg e line) g in join (emit e at k) _ (spell e at k p.0 f.1 (omega arith) n) ((f.0, tt), tt)
  spell (node.Plus e) at k g f b n = let p = good_parts (2 ^ 32) (node.Plus e) g in spell e at k p.0 f b n
  spell (node.Arith op a d line) at k g f b n =
      let p = good_parts (2 ^ 32) (node.Arith op a d line) g in
      join (emit a at k) _ (spell a at k p.0 f.1 (omega arith) (omega arith))
      (join (emit d (at + size a) (k + count a)) _ (spell d (at + size a) (k + count a) p.1.0 f.2 (omega arith) (omega arith)) (arith_is op line f.0, tt))
  spell (node.Compare op ty a d) at k g f b n =
      let p = good_parts (2 ^ 32) (node.Compare op ty a d) g in
      join (emit a at k) _ (spell a at k p.0 f.0 (omega arith) (omega arith))
      (join (emit d (at + size a) (k + count a)) _ (spell d (at + size a) (k + count a) p.1.0 f.1 (omega arith) (omega arith)) (compare_is op ty, tt))
  spell (node.Is e class) at k g f b n =
      let p = good_parts (2 ^ 32) (node.Is e class) g in
      join (emit e at k) _ (spell e at k p.0 f (omega arith) (omega arith)) ((omega arith, tt), tt)
  spell (node.Join a d line) at k g f b n =
      let p = good_parts (2 ^ 32) (node.Join a d line) g in
      join (emit a at k) _ (spell a at k p.0 f.1 (omega arith) (omega arith))
      (join (emit d (at + size a) (k + count a)) _ (spell d (at + size a) (k + count a) p.1.0 f.2 (omega arith) (omega arith)) ((f.0, tt), tt))
  spell (node.Part a i l line) at k g f b n =
      let p = good_parts (2 ^ 32) (node.Part a i l line) g in
      join (emit a at k) _ (spell a at k p.0 f.1 (omega arith) (omega arith))
      (join (emit i (at + size a) (k + count a)) _ (spell i (at + size a) (k + count a) p.1.0 f.2 (omega arith) (omega arith))
      (join (emit l (at + size a + size i) (k + count a + count i)) _
      (spell l (at + size a + size i) (k + count a + count i) p.1.1.0 f.3 (omega arith) (omega arith)) ((f.0, tt), tt)))
  spell (node.Make class args) at k g f b n =
      let p = operands_good args (good_parts (2 ^ 32) (node.Make class args) g) in
      join (emit_all args at k) _ (spell_all args at k p f (omega arith) (omega arith)) ((omega arith, tt), tt)
  spell (node.Field e class index ty line) at k g f b n =
      let p = good_parts (2 ^ 32) (node.Field e class index ty line) g in
      let named = k + count e in
      join (emit e at k) _ (spell e at k p.0 f.2 (omega arith) (omega arith))
      (by_type_is ty (instr.FieldM named index line) (instr.FieldP named index line) (omega arith, (f.0, (f.1, tt))) (omega arith, (f.0, (f.1, tt))), tt)
  spell (node.SetField o class index ty e line) at k g f b n =
      let p = good_parts (2 ^ 32) (node.SetField o class index ty e line) g in
      let named = k + count o + count e in
      join (emit o at k) _ (spell o at k p.0 f.2 (omega arith) (omega arith))
      (join (emit e (at + size o) (k + count o)) _ (spell e (at + size o) (k + count o) p.1.0 f.3 (omega arith) (omega arith))
      (by_type_is ty (instr.SetFieldM named index line) (instr.SetFieldP named index line) (omega arith, (f.0, (f.1, tt))) (omega arith, (f.0, (f.1, tt))), tt))
  spell (node.Fill l u e ty line) at k g f b n =
      let p = good_parts (2 ^ 32) (node.Fill l u e ty line) g in
      let named = k + count l + count u + count e in
      join (emit l at k) _ (spell l at k p.0 f.1 (omega arith) (omega arith))
      (join (emit u (at + size l) (k + count l)) _ (spell u (at + size l) (k + count l) p.1.0 f.2 (omega arith) (omega arith))
      (join (emit e (at + size l + size u) (k + count l + count u)) _
      (spell e (at + size l + size u) (k + count l + count u) p.1.1.0 f.3 (omega arith) (omega arith))
      (by_type_is (element_of ty) (instr.FillM named line) (instr.FillP named line) (omega arith, (f.0, tt)) (omega arith, (f.0, tt)), tt)))
  spell (node.Elems l items ty line) at k g f b n =
      let p = good_parts (2 ^ 32) (node.Elems l items ty line) g in
      let named = k + count l + count_all items in
      let deep : reaches 1 (map (part_as depth) (parts_all operand items)) < 2 ^ 32 =
      let whole = parts_deep (2 ^ 32) (node.Elems l items ty line) g.deep in omega arith in
      let many : items_in items < 2 ^ 32 = few_operands (2 ^ 32) 1 items (omega arith) deep in
      join (emit l at k) _ (spell l at k p.0 f.1 (omega arith) (omega arith))
      (join (emit_all items (at + size l) (k + count l)) _
      (spell_all items (at + size l) (k + count l) (operands_good items p.1) f.2 (omega arith) (omega arith)) (
        by_type_is (element_of ty) (instr.ListM named (items_in items) line) (instr.ListP named (items_in items) line) (omega arith, (many, (f.0, tt)))
            (omega arith, (many, (f.0, tt))),
        tt,
      ))
  spell (node.Element v i ty line) at k g f b n =
      let p = good_parts (2 ^ 32) (node.Element v i ty line) g in
      join (emit v at k) _ (spell v at k p.0 f.1 (omega arith) (omega arith))
      (join (emit i (at + size v) (k + count v)) _ (spell i (at + size v) (k + count v) p.1.0 f.2 (omega arith) (omega arith))
      (by_type_is ty (instr.ElemM line) (instr.ElemP line) (f.0, tt) (f.0, tt), tt))
  spell (node.SetElement v i e ty line) at k g f b n =
      let p = good_parts (2 ^ 32) (node.SetElement v i e ty line) g in
      join (emit v at k) _ (spell v at k p.0 f.1 (omega arith) (omega arith))
      (join (emit i (at + size v) (k + count v)) _ (spell i (at + size v) (k + count v) p.1.0 f.2 (omega arith) (omega arith))
      (join (emit e (at + size v + size i) (k + count v + count i)) _
      (spell e (at + size v + size i) (k + count v + count i) p.1.1.0 f.3 (omega arith) (omega arith))
      (by_type_is ty (instr.SetElemM line) (instr.SetElemP line) (f.0, tt) (f.0, tt), tt)))
  spell (node.Bound v upper) at k g f b n =
      let p = good_parts (2 ^ 32) (node.Bound v upper) g in join (emit v at k) _ (spell v at k p.0 f (omega arith) n) (bound_is upper, tt)
  spell (node.Proc of) at k g f b n = ((omega arith, tt), tt)
  spell (node.Call c args line) at k g f b n =
      let p = good_parts (2 ^ 32) (node.Call c args line) g in
      let deep : reaches 1 (map (part_as depth) (parts_all operand args)) < 2 ^ 32 =
      let whole = parts_deep (2 ^ 32) (node.Call c args line) g.deep in omega arith in
      let many : items_in args < 2 ^ 32 = few_operands (2 ^ 32) 1 args (omega arith) deep in
      join (emit c at k) _ (spell c at k p.0 f.1 (omega arith) (omega arith))
      (join (emit_all args (at + size c) (k + count c)) _
      (spell_all args (at + size c) (k + count c) (operands_good args p.1) f.2 (omega arith) (omega arith))
      ((call_small g.typed_clause many, (f.0, tt)), tt))
  spell (node.Lib code args line) at k g f b n =
      let p = operands_good args (good_parts (2 ^ 32) (node.Lib code args line) g) in
      join (emit_all args at k) _ (spell_all args at k p f.2 (omega arith) n) ((f.0, (f.1, tt)), tt)
  spell (node.Scan text a c q s line) at k g f b n =
      let p = good_parts (2 ^ 32) (node.Scan text a c q s line) g in
      let own = own_small (2 ^ 32) (node.Scan text a c q s line) g in
      let procedure = at + size a + 5 in
      let turn = procedure + size c + 5 + 30 in
      let end = turn + 17 + 9 + 9 in
      let nums = own.1.1.1 in
      join (emit a at k) _ (spell a at k p.0 f.1 (omega arith) (omega arith)) (
        (own.0, tt),
        join (emit c procedure (k + count a)) _ (spell c procedure (k + count a) p.1.0 f.2 (omega arith) (omega arith)) (
          (own.1.0, tt),
          (
            zero_is,
            (
              (nums.0, tt),
              (
                zero_is,
                (
                  (nums.1.0, tt),
                  (
                    zero_is,
                    (
                      (nums.1.1.0, tt),
                      (scan_is text q s end line own.0 nums.0 (omega arith) f.0, (call_is text line f.0, ((nums.0, (omega arith, tt)), ((nums.0, tt), tt)))),
                    ),
                  ),
                ),
              ),
            ),
          ),
        ),
      )
  spell (node.Write e w wide ty line) at k g f b n =
      let p = good_parts (2 ^ 32) (node.Write e w wide ty line) g in
      join (emit e at k) _ (spell e at k p.0 f.1 (omega arith) (omega arith))
      (join (emit w (at + size e) (k + count e)) _ (spell w (at + size e) (k + count e) p.1.0 f.2 (omega arith) (omega arith)) (write_is ty wide line f.0, tt))
  spell (node.Abort line) at k g f b n = ((f, tt), tt)

  spell_all : (ns : Nodes) (at k : ℕ) → GoodAll ns → AllFieldsFit ns → at + size_all ns < 2 ^ 32 → k + count_all ns ≤ 2 ^ 32 → Spelled (emit_all ns at k)
  spell_all none at k g f b n = tt
  spell_all (more first rest) at k g f b n =
      join (emit first at k) _ (spell first at k g.0 f.0 (omega arith) (omega arith))
      (spell_all rest (at + size first) (k + count first) g.1 f.1 (omega arith) (omega arith))

  spell_arms : (ty : TyView) (end : ℕ) (arms : Arms) (at k : ℕ) → GoodArms arms → ArmFieldsFit arms → end < 2 ^ 32 → at + size_arms arms < 2 ^ 32 →
      k + count_arms arms ≤ 2 ^ 32 → Spelled (emit_arms ty end arms at k)
  spell_arms ty end no_arms at k g f e b n = tt
  spell_arms ty end (more_arms (arm labels a) rest) at k g f e b n =
      let chosen = at + size_labels labels + 5 in
      let next = chosen + 1 + size a + 5 in
      join (emit_labels ty chosen labels at k) _ (spell_labels ty chosen labels at k g.0 f.0 (omega arith) (omega arith) (omega arith)) (
        (omega arith, tt),
        (
          by_type_is ty instr.DropM instr.DropP tt tt,
          join (emit a (chosen + 1) (k + count_all labels)) _
              (spell a (chosen + 1) (k + count_all labels) g.1 f.1 (omega arith) (omega arith))
              ((e, tt), spell_arms ty end rest next (k + count_all labels + count a) g.2 f.2 e (omega arith) (omega arith)),
        ),
      )

  spell_labels : (ty : TyView) (chosen : ℕ) (labels : Nodes) (at k : ℕ) → GoodAll labels → AllFieldsFit labels → chosen < 2 ^ 32 →
      at + size_labels labels < 2 ^ 32 → k + count_all labels ≤ 2 ^ 32 → Spelled (emit_labels ty chosen labels at k)
  spell_labels ty chosen none at k g f c b n = tt
  spell_labels ty chosen (more first rest) at k g f c b n = (
    by_type_is ty instr.DupM instr.DupP tt tt,
    join (emit first (at + 1) k) _ (spell first (at + 1) k g.0 f.0 (omega arith) (omega arith))
        (compare_is Equal ty, ((c, tt), spell_labels ty chosen rest (at + 1 + size first + 1 + 5) (k + count first) g.1 f.1 c (omega arith) (omega arith))),
  )
