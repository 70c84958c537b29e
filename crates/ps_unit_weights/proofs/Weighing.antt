-- The objects of a unit weigh no more than what is counted for its body's code: each clause has 31 bytes to spare, and a body and word 0 need 25 of them.
use Rattle.std.proofs.Common.{◌≡◌, ℕ, ◌+◌, ◌≤◌, Bool, true, false, List, [], ◌∷◌, ◌++◌, length, Option, Some, None, refl, ap, length-append, arith}
use Rattle.std.specs.Prelude.{◌*◌, ◌/◌, if◌then◌else◌}
use Rattle.proc_values.specs.ps_base.TyView.{TyView}
use Rattle.proc_values.specs.ps_base.TyView as types
use Rattle.proc_values.specs.ps_base.Instr.{width_of, spelling, spelled}
use Rattle.proc_values.specs.ps_base.CodeUnit.{ConstantView, text}
use Rattle.proc_values.specs.ps_base.declared.line.Line.{Line}
use Rattle.proc_values.specs.ps_base.declared.instr.Instr.{Instr}
use Rattle.proc_values.specs.ps_base.declared.instr.Instr.TheVariants as instr
use Rattle.proc_values.proofs.of_ps_base.Spellings.{length-spelling}
use Rattle.ps_gen.specs.ps_program.declared.place.Place.{Place}
use Rattle.ps_gen.specs.ps_program.declared.place.Place.TheVariants.{Plain, Kept}
use Rattle.ps_gen.specs.ps_program.Node.{Param, Node, Nodes, none, more, Arms, no_arms, more_arms, arm, BodyNode, body}
use Rattle.ps_gen.specs.ps_program.Node as node
use Rattle.ps_gen.specs.ps_program.Parts.{Part, operand, label, branch, literal as own_code, fold_all, fold_arms}
use Rattle.ps_gen.specs.ps_type_text.Texts.{type_text}
use Rattle.ps_gen.specs.ps_typing.Placing.{is_number}
use Rattle.ps_gen.specs.ps_typing.WellTyped.{types_of_params}
use Rattle.proc_values.specs.ps_heap.Weights.{text_weight, scope_weight, head_weight, named_weight, total_of, clause_weight, code_weight}
use Rattle.ps_gen.specs.ps_emitter.Choices as choice
use Rattle.ps_gen.specs.Emission.{size_at, size_entered, size_left, size, size_all, size_arms, size_labels, count_scope, count, count_all, count_arms, entered, emit}
use Rattle.ps_gen.specs.Units.{kept_at, keeps, size_keeps, body_instrs, scope_constants, row_of, constants, constants_of_all, constants_of_arms, unit_of}
use Rattle.ps_gen.proofs.Widths.{widths, widths_append, widths_entered, width_emit, count_of_scope, count_constants}
use Rattle.proc_values.specs.Units.{count_of, unit_words, constants_words, constant_words}

-- Constants.

abbrev words_in : List ConstantView → ℕ
words_in [] = 0
words_in (first ∷ rest) = constant_words first + words_in rest

words_row : (cs : List ConstantView) → constants_words (row_of cs) ≡ words_in cs
unfolding constants_words
words_row [] = refl
words_row (first ∷ rest) = ap (λ (n : ℕ). constant_words first + n) (words_row rest)

count_row : (cs : List ConstantView) → count_of (row_of cs) ≡ length cs
unfolding count_of
count_row [] = refl
count_row (first ∷ rest) = let h = count_row rest in omega arith

words_append : (xs ys : List ConstantView) → words_in (xs ++ ys) ≡ words_in xs + words_in ys
words_append [] ys = omega arith
words_append (x ∷ xs) ys = let h = words_append xs ys in omega arith

pub text_weighs : (bytes : List ℕ) → 8 * constant_words (text bytes) ≡ text_weight bytes
unfolding constant_words
text_weighs bytes = omega arith

total_append : (xs ys : List (Part ℕ)) → total_of (xs ++ ys) ≡ total_of xs + total_of ys
total_append [] ys = omega arith
total_append (operand n ∷ xs) ys = let h = total_append xs ys in omega arith
total_append (label n ∷ xs) ys = let h = total_append xs ys in omega arith
total_append (branch n ∷ xs) ys = let h = total_append xs ys in omega arith
total_append (own_code n ∷ xs) ys = let h = total_append xs ys in omega arith

scope_weighs : (scope : Option (List ℕ)) →
    size_entered scope + size_left scope + 8 * count_scope scope + 8 * words_in (scope_constants scope) ≤ 14 + scope_weight scope
scope_weighs None = omega arith
scope_weighs (Some bytes) = let h = text_weighs bytes in omega arith

place_fits : (place : Place) → size_at place ≤ 9
place_fits (Plain slot) = omega arith
place_fits (Kept up position) = omega arith

-- The code of a body.

length_spelled : (is : List Instr) → length (spelled is) ≡ widths is
length_spelled [] = refl
length_spelled (i ∷ []) = let h = length-spelling i in omega arith
length_spelled (i ∷ j ∷ is) =
    let h = length-spelling i in let k = length_spelled (j ∷ is) in let e = length-append (spelling i) (spelled (j ∷ is)) in omega arith

kept_widths : (place : Place) (push : Instr) (keep : ℕ → ℕ → Instr) → width_of push ≡ 5 → ((u i : ℕ) → width_of (keep u i) ≡ 9) →
    widths (kept_at place push keep) ≤ 14
kept_widths (Plain slot) push keep h k = omega arith
kept_widths (Kept up position) push keep h k = let e = k up position in omega arith

-- a parameter that is kept, and those after it
keep_fits : (param : Param) (nums refs k : ℕ) (on_nums on_refs : List Instr) → widths on_nums ≤ k → widths on_refs ≤ k → (b : Bool) →
    widths (if b then kept_at param.place (instr.GetM nums) (λ u i. instr.KeepM u i) ++ on_nums
    else kept_at param.place (instr.GetP refs) (λ u i. instr.KeepP u i) ++ on_refs) ≤ 14 + k
keep_fits param nums refs k on_nums on_refs le also true =
    let e = widths_append (kept_at param.place (instr.GetM nums) (λ u i. instr.KeepM u i)) on_nums in
    let h = kept_widths param.place (instr.GetM nums) (λ u i. instr.KeepM u i) refl (λ u i. refl) in omega arith
keep_fits param nums refs k on_nums on_refs le also false =
    let e = widths_append (kept_at param.place (instr.GetP refs) (λ u i. instr.KeepP u i)) on_refs in
    let h = kept_widths param.place (instr.GetP refs) (λ u i. instr.KeepP u i) refl (λ u i. refl) in omega arith

keeps_widths : (params : List Param) (nums refs : ℕ) → widths (keeps params nums refs) ≤ 14 * length params
keeps_widths [] nums refs = omega arith
keeps_widths (param ∷ rest) nums refs =
    let h = keep_fits param nums refs (14 * length rest) (keeps rest (nums + 1) refs) (keeps rest nums (refs + 1)) (keeps_widths rest (nums + 1) refs)
    (keeps_widths rest nums (refs + 1)) (is_number param.ty) in omega arith

spanned : (n : ℕ) → 8 * ((n + 7) / 8) ≤ n + 7
spanned n = omega arith

-- of a body whose clause has 31 bytes to spare
unit_fits : (params : List Param) (gives : TyView) (tree : Node) (scope : Option (List ℕ)) (line : Line) →
    size tree + 8 * count tree + 8 * words_in (constants tree) + 31 ≤ clause_weight tree →
    8 + 8 * unit_words (unit_of (body params gives tree scope line)) ≤ head_weight params gives scope + clause_weight tree
unfolding unit_words constants_words count_of
unit_fits params gives tree scope line h =
    let own = scope_constants scope ++ constants tree in
    let is = body_instrs params gives tree scope in
    let begin = size_entered scope + size_keeps params in
    let last = instr.Return (choice.kind_of gives) ∷ [] in
    let clause = emit tree begin (1 + count_scope scope) in
    let wide : widths is ≤ size_entered scope + 14 * length params + size tree + 5
    = let a = widths_append (entered scope 1) (keeps params 0 0 ++ (clause ++ last)) in
    let b = widths_append (keeps params 0 0) (clause ++ last) in
    let c = widths_append clause last in
    let d = widths_entered scope 1 in
    let e = keeps_widths params 0 0 in
    let f = width_emit tree begin (1 + count_scope scope) in omega arith in
    let long = length_spelled is in
    let bytes = spanned (length (spelled is)) in
    let row = words_row own in
    let split = words_append (scope_constants scope) (constants tree) in
    let many = count_row own in
    let parts = length-append (scope_constants scope) (constants tree) in
    let scopes = count_of_scope scope in
    let named = count_constants tree in
    let of_type = text_weighs (type_text (types.Proc (types_of_params params) gives)) in
    let of_scope = scope_weighs scope in
    omega arith

-- the literal of such a body
literal_weighs : (params : List Param) (gives : TyView) (tree : Node) (scope : Option (List ℕ)) (line : Line) →
    8 * unit_words (unit_of (body params gives tree scope line)) ≤ head_weight params gives scope + clause_weight tree →
    size (node.Proc (body params gives tree scope line)) + 8 * count (node.Proc (body params gives tree scope line))
    + 8 * words_in (constants (node.Proc (body params gives tree scope line))) + 31 ≤ clause_weight (node.Proc (body params gives tree scope line))
unfolding constant_words
literal_weighs params gives tree scope line h = omega arith

abbrev weight : Node → List (Part ℕ) → ℕ
weight clause parts = 96 + named_weight clause + total_of parts

-- each clause has 31 bytes to spare
mutual
  weighs : (t : Node) → size t + 8 * count t + 8 * words_in (constants t) + 31 ≤ clause_weight t
  weighs (node.Int v) = omega arith
  weighs (node.Flag b) = omega arith
  weighs node.Nil = omega arith
  weighs node.Class = omega arith
  weighs node.Empty = omega arith
  weighs (node.Abort line) = omega arith
  weighs (node.Text bytes) = let h = text_weighs bytes in omega arith
  weighs (node.Name place ty) = let h = place_fits place in omega arith
  weighs (node.SetName place ty e) = let h = place_fits place in let k = weighs e in omega arith
  weighs (node.Let place ty e) = let h = place_fits place in let k = weighs e in omega arith
  weighs (node.Block scope items) =
      let h = scope_weighs scope in
      let k = branches_weigh items in
      let e = words_append (scope_constants scope) (constants_of_all items) in omega arith
  weighs (node.IfDo c a) = let h0 = weighs c in let h1 = weighs a in let e0 = words_append (constants c) (constants a) in omega arith
  weighs (node.IfElse c a b) =
      let h0 = weighs c in let h1 = weighs a in let h2 = weighs b in let e0 = words_append (constants c) (constants a ++ constants b) in let e1 =
      words_append (constants a) (constants b) in
      omega arith
  weighs (node.While c a) = let h0 = weighs c in let h1 = weighs a in let e0 = words_append (constants a) (constants c) in omega arith
  weighs (node.Repeat a c b) =
      let h0 = weighs a in let h1 = weighs c in let h2 = weighs b in let e0 = words_append (constants b) (constants a ++ constants c) in let e1 =
      words_append (constants a) (constants c) in
      omega arith
  weighs (node.For slot a b c scope control s line) =
      let p = place_fits control in
      let h = weighs a in
      let i = weighs b in
      let j = weighs c in
      let k = weighs s in
      let l = scope_weighs scope in
      let own = scope_constants scope ++ constants s in
      let d = words_append (constants a) (constants b ++ (constants c ++ own)) in
      let e = words_append (constants b) (constants c ++ own) in
      let f = words_append (constants c) own in
      let g = words_append (scope_constants scope) (constants s) in omega arith
  weighs (node.Case e arms d ty) =
      let h = weighs e in
      let i = arms_weigh arms in
      let j = weighs d in
      let k = words_append (constants e) (constants_of_arms arms ++ constants d) in
      let l = words_append (constants_of_arms arms) (constants d) in
      let m = total_append (fold_arms weight arms) (branch (clause_weight d) ∷ []) in omega arith
  weighs (node.And a b) = let h0 = weighs a in let h1 = weighs b in let e0 = words_append (constants a) (constants b) in omega arith
  weighs (node.Or a b) = let h0 = weighs a in let h1 = weighs b in let e0 = words_append (constants a) (constants b) in omega arith
  weighs (node.Not e) = let h0 = weighs e in omega arith
  weighs (node.Neg e line) = let h0 = weighs e in omega arith
  weighs (node.Plus e) = let h0 = weighs e in omega arith
  weighs (node.Arith op a b line) = let h0 = weighs a in let h1 = weighs b in let e0 = words_append (constants a) (constants b) in omega arith
  weighs (node.Compare op ty a b) = let h0 = weighs a in let h1 = weighs b in let e0 = words_append (constants a) (constants b) in omega arith
  weighs (node.Is e class) = let h = weighs e in let k = words_append (constants e) (text class ∷ []) in let l = text_weighs class in omega arith
  weighs (node.Join a b line) = let h0 = weighs a in let h1 = weighs b in let e0 = words_append (constants a) (constants b) in omega arith
  weighs (node.Part a i n line) =
      let h0 = weighs a in let h1 = weighs i in let h2 = weighs n in let e0 = words_append (constants a) (constants i ++ constants n) in let e1 =
      words_append (constants i) (constants n) in
      omega arith
  weighs (node.Make class args) =
      let h = operands_weigh args in let k = words_append (constants_of_all args) (text class ∷ []) in let l = text_weighs class in omega arith
  weighs (node.Field e class index ty line) =
      let h = weighs e in let k = words_append (constants e) (text class ∷ []) in let l = text_weighs class in omega arith
  weighs (node.SetField p class index ty e line) =
      let h = weighs p in
      let i = weighs e in
      let j = words_append (constants p) (constants e ++ text class ∷ []) in
      let k = words_append (constants e) (text class ∷ []) in
      let l = text_weighs class in omega arith
  weighs (node.Fill l u e ty line) =
      let own = text (type_text ty) ∷ [] in
      let f = weighs l in
      let g = weighs u in
      let h = weighs e in
      let i = words_append (constants l) (constants u ++ (constants e ++ own)) in
      let j = words_append (constants u) (constants e ++ own) in
      let k = words_append (constants e) own in
      let m = text_weighs (type_text ty) in omega arith
  weighs (node.Elems l items ty line) =
      let own = text (type_text ty) ∷ [] in
      let g = weighs l in
      let h = operands_weigh items in
      let i = words_append (constants l) (constants_of_all items ++ own) in
      let j = words_append (constants_of_all items) own in
      let k = text_weighs (type_text ty) in omega arith
  weighs (node.Element v i ty line) = let h0 = weighs v in let h1 = weighs i in let e0 = words_append (constants v) (constants i) in omega arith
  weighs (node.SetElement v i e ty line) =
      let h0 = weighs v in let h1 = weighs i in let h2 = weighs e in let e0 = words_append (constants v) (constants i ++ constants e) in let e1 =
      words_append (constants i) (constants e) in
      omega arith
  weighs (node.Bound v upper) = let h0 = weighs v in omega arith
  weighs (node.Proc (body params gives tree scope line)) = let h =
      unit_fits params gives tree scope line (weighs tree) in literal_weighs params gives tree scope line (omega (arith, h))
  weighs (node.Call f args line) =
      let h = weighs f in let i = operands_weigh args in let k = words_append (constants f) (constants_of_all args) in omega arith
  weighs (node.Lib code args line) = let h = operands_weigh args in omega arith
  weighs (node.Scan string a f q s line) = let h0 = weighs a in let h1 = weighs f in let e0 = words_append (constants a) (constants f) in omega arith
  weighs (node.Write e w wide ty line) = let h0 = weighs e in let h1 = weighs w in let e0 = words_append (constants e) (constants w) in omega arith

  operands_weigh : (ts : Nodes) → size_all ts + 8 * count_all ts + 8 * words_in (constants_of_all ts) ≤ total_of (fold_all weight operand ts)
  operands_weigh none = omega arith
  operands_weigh (more t ts) =
      let h = weighs t in let k = operands_weigh ts in let e = words_append (constants t) (constants_of_all ts) in omega arith

  branches_weigh : (ts : Nodes) → size_all ts + 8 * count_all ts + 8 * words_in (constants_of_all ts) ≤ total_of (fold_all weight branch ts)
  branches_weigh none = omega arith
  branches_weigh (more t ts) =
      let h = weighs t in let k = branches_weigh ts in let e = words_append (constants t) (constants_of_all ts) in omega arith

  labels_weigh : (ts : Nodes) → size_labels ts + 8 * count_all ts + 8 * words_in (constants_of_all ts) ≤ total_of (fold_all weight label ts)
  labels_weigh none = omega arith
  labels_weigh (more t ts) =
      let h = weighs t in let k = labels_weigh ts in let e = words_append (constants t) (constants_of_all ts) in omega arith

  arms_weigh : (arms : Arms) → size_arms arms + 8 * count_arms arms + 8 * words_in (constants_of_arms arms) ≤ total_of (fold_arms weight arms)
  arms_weigh no_arms = omega arith
  arms_weigh (more_arms (arm labels a) rest) =
      let h = labels_weigh labels in
      let i = weighs a in
      let j = arms_weigh rest in
      let k = words_append (constants_of_all labels) (constants a ++ constants_of_arms rest) in
      let l = words_append (constants a) (constants_of_arms rest) in
      let m = total_append (fold_all weight label labels) (branch (clause_weight a) ∷ fold_arms weight rest) in omega arith

pub unit_weighs : (of : BodyNode) → 8 + 8 * unit_words (unit_of of) ≤ code_weight of
unit_weighs (body params gives tree scope line) = unit_fits params gives tree scope line (weighs tree)
