-- What single calls put, by the code of the forms.
use Rattle.std.proofs.Common.{◌≡◌, ◌<◌, length, get_or, drop, drop-cons, ℕ, suc, ◌+◌, List, [], ◌∷◌, ◌++◌, true, false, if◌then◌else◌, Option, Some, None, Result, Ok, Err, OnOk, IfOk, map, refl, sym, ap, subst, ◌∙◌, arith}
use Rattle.std.proofs.lemmas.List.{append-nil}
use Rattle.std.specs.List.{AllByRecursion}
use Rattle.ps_base.specs.TyView.{TyView}
use Rattle.ps_program.specs.declared.body.Param.{Param as ParamOf}
use Rattle.ps_program.specs.declared.place.Place.TheVariants.{Kept}
use Rattle.ps_program.specs.Node.{BodyNode, Param, Node, body}
use Rattle.ps_program.specs.NodeView.{params_of, param_of, nodes_in}
use Rattle.ps_emitter.specs.ps_typing.Placing.{is_number}
use Rattle.ps_emitter.specs.ps_typing.Locals.{one_on, taken_in, taken_by_params}
use Rattle.ps_gen.specs.inside.Steps.{IsUnit, IsBegun, Ends}
use Rattle.ps_emitter.specs.declared.frame.Counts.{Counts}
use Rattle.ps_base.specs.CodeUnit.{ConstantView, text, constant_then, constant_view, constants_view, literal, UnitView, unit}
use Rattle.ps_base.specs.declared.code_unit.Constant.{Constant}
use Rattle.ps_gen.specs.Units.{row_of, kept_at, keeps, size_keeps, body_instrs, type_constant, scope_constants, frame_of, constants}
use Rattle.ps_gen.specs.Emission.{entered, size_entered, count_scope, emit, items_in}
use Rattle.ps_program.specs.declared.form.Tree.{Tree}
use Rattle.ps_base.specs.declared.line.Line.{Line}
use Rattle.ps_base.specs.declared.code_unit.Frame.{Frame}
use Rattle.ps_base.specs.Instr.{spelled, IsInstr}
use Rattle.ps_base.specs.declared.instr.Instr.{Instr}
use Rattle.ps_base.specs.declared.instr.Instr.TheVariants as instr
use Rattle.ps_emitter.specs.Choices as choice
use Rattle.ps_emitter.specs.Giving.{element_of}
use Rattle.ps_emitter.specs.declared.naming.Naming.TheVariants as name
use Rattle.ps_gen.specs.inside.Literals.{literals_in}
use Rattle.ps_emitter.specs.Pieces.{AreInstrs, State, Same, Puts, ◌▷◌, empty, one, constant}
use Rattle.ps_emitter.specs.Instructions.{naming, named_by}
use Rattle.ps_gen.specs.inside.Clauses.{entering, leaving, keeping, keep_one, clause, closing}
use Rattle.ps_emitter.proofs.Putting.{seq, puts_same}
use Rattle.ps_emitter.proofs.Steps.{nothing}

pub scope_left : (scope : Option (List ℕ)) (t : List ℕ) {a b : State} → scope ≡ Some t → Puts (one instr.Leave) a b → Puts (leaving scope) a b
unfolding one leaving
scope_left scope t {a} {b} is puts = subst (λ s. Puts (leaving s) a b) (sym is) puts

pub no_scope_left : (scope : Option (List ℕ)) (a : State) → scope ≡ None → Puts (leaving scope) a a
unfolding empty leaving
no_scope_left scope a is = subst (λ s. Puts (leaving s) a a) (sym is) (puts_same (record { ends = λ at. omega arith; names = λ k. refl; constants = refl; nums = refl; refs = refl; literals = refl; instrs = λ at k. refl }) (nothing a))

pub scope_entered : (scope : Option (List ℕ)) (t : List ℕ) {a b : State} → scope ≡ Some t → Puts (naming (named_by name.Scope) (text t)) a b → Puts (entering scope) a b
unfolding naming entering
scope_entered scope t {a} {b} is puts = subst (λ s. Puts (entering s) a b) (sym is) puts

pub no_scope_entered : (scope : Option (List ℕ)) (a : State) → scope ≡ None → Puts (entering scope) a a
unfolding empty entering
no_scope_entered scope a is = subst (λ s. Puts (entering s) a a) (sym is) (puts_same (record { ends = λ at. omega arith; names = λ k. omega arith; constants = refl; nums = refl; refs = refl; literals = refl; instrs = λ at k. refl }) (nothing a))

pub on_ok : {A B : Type 0} (r : Result A B) {P Q : Type 0} → (P → Q) → OnOk r P → OnOk r Q
on_ok (Ok made) step is = step is
on_ok (Err fault) step is = is

pub if_ok : {A B : Type 0} (r : Result A B) {P Q : A → Type 0} → ((x : A) → P x → Q x) → IfOk r P → IfOk r Q
if_ok (Ok made) step is = step made is
if_ok (Err fault) step is = is

pub all_if_ok : {A B : Type 0} (r : Result A B) {P Q R S : A → Type 0} → ((x : A) → P x → Q x → R x → S x) → IfOk r P → IfOk r Q → IfOk r R → IfOk r S
all_if_ok (Ok made) step p q r = step made p q r
all_if_ok (Err fault) step p q r = p

-- the constants of a unit
pub row_is : (xs : List Constant) → constants_view xs ≡ row_of (map constant_view xs)
unfolding constants_view
row_is [] = refl
row_is (x ∷ xs) = ap (λ rest. constant_then (constant_view x) rest) (row_is xs)

-- parameters

pub kept_number : (param : Param) (nums refs u i : ℕ) {a b c : State} → param.place ≡ Kept u i → is_number param.ty ≡ true → Puts (one (instr.GetM nums)) a b → Puts (one (instr.KeepM u i)) b c → Puts (keep_one param nums refs) a c
unfolding ◌▷◌ one
kept_number param nums refs u i {a} {b} {c} kept is get keep = subst (λ place. Puts (keep_one (record { ty = param.ty; place = place }) nums refs) a c) (sym kept) (puts_same (record {
  ends = λ at. omega arith;
  names = λ k. refl;
  constants = refl;
  nums = refl;
  refs = refl;
  literals = refl;
  instrs = λ at k. sym (ap (λ c. if c then instr.GetM nums ∷ instr.KeepM u i ∷ [] else (instr.GetP refs ∷ instr.KeepP u i ∷ [])) is);
}) (seq get keep))

pub kept_reference : (param : Param) (nums refs u i : ℕ) {a b c : State} → param.place ≡ Kept u i → is_number param.ty ≡ false → Puts (one (instr.GetP refs)) a b → Puts (one (instr.KeepP u i)) b c → Puts (keep_one param nums refs) a c
unfolding ◌▷◌ one
kept_reference param nums refs u i {a} {b} {c} kept is get keep = subst (λ place. Puts (keep_one (record { ty = param.ty; place = place }) nums refs) a c) (sym kept) (puts_same (record {
  ends = λ at. omega arith;
  names = λ k. refl;
  constants = refl;
  nums = refl;
  refs = refl;
  literals = refl;
  instrs = λ at k. sym (ap (λ c. if c then instr.GetM nums ∷ instr.KeepM u i ∷ [] else (instr.GetP refs ∷ instr.KeepP u i ∷ [])) is);
}) (seq get keep))

pub more_kept : (param : Param) (params : List Param) (nums refs : ℕ) → Same (keep_one param nums refs ▷ keeping params (nums + one_on true param.ty) (refs + one_on false param.ty)) (keeping (param ∷ params) nums refs)
unfolding ◌▷◌ keeping
more_kept param params nums refs = record {
  ends = λ at. omega arith;
  names = λ k. refl;
  constants = refl;
  nums = refl;
  refs = refl;
  literals = refl;
  instrs = λ at k.
      let m = kept_at param.place (instr.GetM nums) (λ u i. instr.KeepM u i) in
      let p = kept_at param.place (instr.GetP refs) (λ u i. instr.KeepP u i) in
      elim (is_number param.ty) as (λ c. (if c then m else p) ++ keeps params (nums + (if c then 1 else 0)) (refs + (if c then 0 else 1)) ≡ (if c then m ++ keeps params (nums + 1) refs else (p ++ keeps params nums (refs + 1)))) [
        | true ↦ (let e : refs + 0 ≡ refs = omega arith in ap (λ r. m ++ keeps params (nums + 1) r) e)
        | false ↦ (let e : nums + 0 ≡ nums = omega arith in ap (λ n. p ++ keeps params n (refs + 1)) e)
      ];
}

pub none_kept : (nums refs : ℕ) → Same empty (keeping [] nums refs)
unfolding empty keeping
none_kept nums refs = record { ends = λ at. omega arith; names = λ k. refl; constants = refl; nums = refl; refs = refl; literals = refl; instrs = λ at k. refl }

pub params_from : (params : List ParamOf) (i : ℕ) (param d : ParamOf) → param ≡ get_or params i d → i < length params → params_of (drop i params) ≡ param_of param ∷ params_of (drop (i + 1) params)
params_from params i param d is below =
    let up : suc i ≡ i + 1 = omega arith in
    ap params_of (drop-cons params i d below) ∙ ap (λ k. params_of (get_or params i d ∷ drop k params)) up ∙ ap (λ t. param_of t ∷ params_of (drop (i + 1) params)) (sym is)

-- a procedure of a body, whose unit is a constant
pub closing_puts : (of : BodyNode) {made : UnitView} {a b : State} → IsUnit of made → Puts (naming (named_by name.Closure) (literal made)) a b → Puts (closing of) a b
unfolding naming closing
closing_puts of {made} {a} {b} is x = record {
  code = x.code;
  long = x.long;
  constants = x.constants ∙ ap (λ u. a.constants ++ literal u ∷ []) is.unit;
  counted = x.counted;
  nums = x.nums;
  refs = x.refs;
  units = is.units;
  are = x.are;
}

-- the unit of a body
pub body_made : (params : List Param) (gives : TyView) (tree : Node) (scope : Option (List ℕ)) (line : Line) {counts : Counts} {d e : State} {made : UnitView} → IsBegun params gives scope counts d → Puts (clause tree) d e → Ends gives counts e made →
    IsUnit (body params gives tree scope line) made
unfolding ◌▷◌ one constant entering keeping clause
body_made params gives tree scope line {counts} {d} {e} {made} begun put ends =
    let f = ends.end in
    let all = seq begun.type (seq begun.enter (seq begun.keep (seq put ends.puts))) in
    let code_at : ℕ → List Instr = λ n. entered scope 1 ++ (keeps params 0 0 ++ (emit tree n (1 + count_scope scope) ++ instr.Return (choice.kind_of gives) ∷ [])) in
    let begin : 0 + size_entered scope + size_keeps params ≡ size_entered scope + size_keeps params = omega arith in
    let code : f.code ≡ spelled (body_instrs params gives tree scope) = all.code ∙ ap (λ n. spelled (code_at n)) begin in
    let constants_are : f.constants ≡ type_constant params gives ∷ (scope_constants scope ++ constants tree) = all.constants ∙ ap (λ z. type_constant params gives ∷ (scope_constants scope ++ z)) (append-nil (constants tree)) in
    let nums_all : counts.nums + f.nums ≡ taken_by_params true params + taken_in true tree = omega (arith, begun.nums, all.nums) in
    let refs_all : counts.refs + f.refs ≡ taken_by_params false params + taken_in false tree = omega (arith, begun.refs, all.refs) in
    let frame : Frame = record { nums = counts.nums + f.nums; refs = counts.refs + f.refs; num_params = counts.nums; ref_params = counts.refs } in
    let frame_all : frame ≡ frame_of (body params gives tree scope line) = λ j. record { nums = nums_all j; refs = refs_all j; num_params = begun.nums j; ref_params = begun.refs j } in
    record {
      unit = ends.is ∙ ap (λ z. unit z (row_of f.constants) frame) code ∙ ap (λ z. unit (spelled (body_instrs params gives tree scope)) (row_of z) frame) constants_are
          ∙ ap (unit (spelled (body_instrs params gives tree scope)) (row_of (type_constant params gives ∷ (scope_constants scope ++ constants tree)))) frame_all;
      units = (
        subst (λ n. AllByRecursion IsInstr (code_at n)) begin all.are,
        subst (λ z. AllByRecursion AreInstrs z) (append-nil (literals_in tree)) all.units,
      );
    }

pub entering_is : {s t : Option (List ℕ)} {a b : State} → s ≡ t → Puts (entering s) a b → Puts (entering t) a b
entering_is {s} {t} {a} {b} is puts = subst (λ x. Puts (entering x) a b) is puts

pub leaving_is : {s t : Option (List ℕ)} {a b : State} → s ≡ t → Puts (leaving s) a b → Puts (leaving t) a b
leaving_is {s} {t} {a} {b} is puts = subst (λ x. Puts (leaving x) a b) is puts

pub items_counted : (ts : List Tree) → length ts ≡ items_in (nodes_in ts)
items_counted [] = refl
items_counted (t ∷ ts) = let rest = items_counted ts in omega arith

pub list_named : (ty : TyView) (line : Line) (x : ConstantView) {n m : ℕ} {a b : State} → n ≡ m → Puts (naming (λ c. choice.by_type (element_of ty) (instr.ListM c n line) (instr.ListP c n line)) x) a b →
    Puts (naming (λ c. choice.by_type (element_of ty) (instr.ListM c m line) (instr.ListP c m line)) x) a b
list_named ty line x {n} {m} {a} {b} is puts = subst (λ k. Puts (naming (λ c. choice.by_type (element_of ty) (instr.ListM c k line) (instr.ListP c k line)) x) a b) is puts
