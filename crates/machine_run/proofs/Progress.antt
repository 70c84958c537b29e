-- Each step brings a run nearer to its end: fewer turns are left, or as many and fewer bodies wait, or as many of both and fewer bytes of the code lie
-- before it. And none lowers the count of bytes.
use Rattle.std.proofs.Common.{◌≡◌, ℕ, zero, suc, ◌+◌, ◌-◌, ◌<◌, ℤ, pos, ◌+ℤ◌, Bool, true, false, List, [], ◌∷◌, length, Option, Some, None, refl, ap, subst, arith, length-append, length-drop}
use Rattle.std.specs.Prelude.{◌≤◌, ◌++◌, ◌&&◌, not, nat_lt, map, reverse, if◌then◌else◌}
use Rattle.std.specs.Fmt.{signed_decimal}
use Rattle.std.proofs.lemmas.Bool.{ltb-true}
use Rattle.ps_base.specs.CodeUnit.{UnitView, ConstantView, text, literal}
use Rattle.ps_base.specs.Instr.{width_of, spelling}
use Rattle.ps_base.proofs.Spellings.{length-spelling}
use Rattle.ps_base.specs.declared.line.Line.{Line}
use Rattle.ps_base.specs.declared.trap.Trap.TheVariants.{Overflow}
use Rattle.ps_base.specs.declared.operator.Operator.TheVariants as operator
use Rattle.ps_base.specs.declared.operator.Relation.{Relation}
use Rattle.ps_base.specs.declared.operator.Relation.TheVariants as relation
use Rattle.ps_base.specs.declared.instr.Instr.{Instr}
use Rattle.ps_base.specs.declared.instr.Instr.TheVariants.{Int, True, False, Text, Nil, GetM, GetP, SetM, SetP, KeptM, KeptP, KeepM, KeepP, Scope, Leave, Jump, JumpFalse, Again, And, Or, Not, Neg, Add, Sub, Mul, Div, Rem, EqM, NeM, LtM, LeM, GtM, GeM, EqP, NeP, EqT, NeT, LtT, LeT, GtT, GeT, Join, Part, Is, Make, FieldM, FieldP, SetFieldM, SetFieldP, FillM, FillP, ListM, ListP, ElemM, ElemP, SetElemM, SetElemP, Lwb, Upb, Closure, Call, Return, Lib, WriteI, WriteB, WriteT, Abort, ForStart, ForNext, ScanT, ScanI, ScanMore, DupM, DupP, DropM, DropP, JumpTrue}
use Rattle.machine_core.specs.ps_heap.Operators.{Answer, Gives, Traps, is_int, is_same, neg_of, arith_of, relation_of}
use Rattle.machine_core.specs.ps_heap.Events.{Event, count_of}
use Rattle.machine_core.specs.ps_heap.Values.{Value, Num, as_written, as_compiled, word_of, number_of, is_one, flag_text}
use Rattle.machine_core.specs.ps_heap.Values as value
use Rattle.machine_core.specs.ps_heap.Scopes.{kept_name, new_scope, scope_at, scope_out}
use Rattle.machine_core.specs.ps_heap.Held.{Held, Place, Part, element_place, assigning, touching, reading, reading_name, assigned_name, way_out, denoted}
use Rattle.machine_core.specs.ps_heap.Library.{HeapProcedure, CreateDatabase, OpenDatabase, Commit, MakeTable, EnterString, LookUpString, EnterInt, LookUpInt, Cardinality, LibraryProcedure, OnHeap, ReadLine, AtEnd, Length, IntText, library_procedure, heap_call}
use Rattle.machine_core.specs.ps_heap.Calls as Calls
use Rattle.machine_core.specs.ps_heap.Calls.{answer_of, cardinality_call, enter_call, lookup_call, new_table, number_answered, table_put, then_try}
use Rattle.machine_core.specs.ps_heap.Scans.{Found, most_scan_calls, next_key, shown_key}
use Rattle.machine_core.specs.ps_heap.Tables.{Key, Table, cardinality, entered, int_key, looked_up, on_yield, string_key}
use Rattle.machine_core.specs.ps_meaning.Meaning.{is_width, in_places, some_out, with_turns, and_object, and_text, and_closure, on_input}
use Rattle.machine_core.specs.ps_heap.Texts.{Attempt, Yields, Fails, join_of, part_of, line_read, behind_line, is_at_end}
use Rattle.machine_core.specs.ps_heap.Objects.{Heap, id_of, object_of_value, table_of, value_of_object, Object, Structure, Elements, Scope as ScopeOf, Keyed, new_number, is_class, field_of, with_field, vector_of, filled_vector, with_element, low_of, high_of, element_of as element_at}
use Rattle.machine_core.specs.ps_meaning.Evaluation.{most_calls}
use Rattle.machine_core.specs.ps_meaning.Loops.{goes_on}
use Rattle.machine_core.specs.ps_meaning.Operations.{kept_as, kept_elements, text_relation, object_relation}
use Rattle.machine_core.specs.text_forms.declared.forms.Form.{Form}
use Rattle.machine_core.specs.text_forms.declared.forms.Form.TheVariants as form
use Rattle.machine_core.specs.text_forms.Forms.{forms_of, form_in, element_of}
use Rattle.machine_core.specs.ps_stepping.Steps.{text_of, text_in, attempted}
use Rattle.machine_core.specs.ps_stepping.Objects.{holding, having, changed, make, make_text, denoting_of, object_of, pop_fields, when_number, when_reference, type_of, of_type, pop_nums, pop_object, pop_refs, compare_texts, compare_objects, pop_vector, bound as bound_of}
use Rattle.machine_core.specs.ps_stepping.Library.{call_on_heap, gives_nothing, gives_num, gives_ref, library_of, read_line, text_length, int_text}
use Rattle.machine_core.specs.ps_stepping.Scans.{called_with, last_of, one_more, scan_found, scan_more, scan_on}
use Rattle.machine_core.specs.ps_stepping.Procedures.{of_scope, enter_scope, leave_scope, kept_num, kept_ref, keep_num, keep_ref, procedure_of, unit_called, takes_refs, in_turn, call}
use Rattle.machine_core.specs.ps_stepping.Config.{Config, Caller, frame_words, code_in, constants_in, frame_in, constant_at}
use Rattle.machine_core.specs.ps_stepping.Machine.{Step, Goes, Stops, Stuck, acts, on, put_num, push_num, push_ref, pop_num_of, pop_ref_of, is_num_slot, is_ref_slot, with_num, with_ref, forward, turn_to, back, answered, test, written, pop_width, push_text, started, counted, come_back, returned}
use Rattle.machine_core.specs.ps_stepping.Plain.{is_plain_call, acts_plainly, PlainSteps, at_plain, at_another, at_none}

abbrev pub size : Config → ℕ
size c = length (code_in c.unit)

-- what is left of a run: its turns, the bodies that wait, and the bytes of the code that lie before it
pub record Left : Type 0 where
  pub turns : ℕ
  pub callers : ℕ
  pub bytes : ℕ

abbrev pub left : Config → Left
left c = record { turns = c.store.turns; callers = length c.callers; bytes = size c - c.at }

-- where so much is left, a run is nearer to its end than where the first of these is
pub data IsNearer (of next : Left) : Type 0 where
  by_turns : next.turns < of.turns → IsNearer of next
  by_callers : next.turns ≡ of.turns → next.callers < of.callers → IsNearer of next
  by_bytes : next.turns ≡ of.turns → next.callers ≡ of.callers → next.bytes < of.bytes → IsNearer of next

-- where each of these events happens, so many bytes are counted at least
abbrev pub AreCounted : ℕ → List Event → Type 0
AreCounted count [] = Unit {0}
AreCounted count (event ∷ events) = (count ≤ count_of event) × AreCounted count events

-- how far a run may be from its end, and how many bytes are counted at least
record Bound : Type 0 where
  of : Left
  counted_bytes : ℕ

abbrev Lower : Bound → Step → Type 0
Lower bound (Goes events next) =
    IsNearer bound.of (left next) × (bound.counted_bytes ≤ next.store.held.counted) × AreCounted bound.counted_bytes events
Lower bound (Stops e touched) = Unit {0}
Lower bound Stuck = Unit {0}

lower_fewer : (b : Bound) (count : ℕ) (s : Step) → b.counted_bytes ≤ count → Lower (record b { counted_bytes = count }) s → Lower b s
lower_fewer b count (Goes events next) few low = let more = low.1 in (low.0, omega (arith, few, more), fewer events low.2)
  where
    fewer : (events : List Event) → AreCounted count events → AreCounted b.counted_bytes events
    fewer [] all = tt
    fewer (event ∷ events) all = let first = all.0 in (omega (arith, few, first), fewer events all.1)
lower_fewer b count (Stops e touched) few low = tt
lower_fewer b count Stuck few low = tt

-- the configuration is after an instruction at this offset of the code
abbrev Ahead : ℕ → Config → Type 0
Ahead own c = (own < size c) × (own < c.at)

-- the bound of the instruction's own offset
abbrev bound : ℕ → Config → Bound
bound own c = record { of = record { turns = c.store.turns; callers = length c.callers; bytes = size c - own }; counted_bytes = c.store.held.counted }

abbrev Drops : ℕ → Config → Step → Type 0
Drops own c s = Lower (bound own c) s

lower_if : (b : Bound) (test : Bool) (x y : Step) → (test ≡ true → Lower b x) → (test ≡ false → Lower b y) → Lower b (if test then x else y)
lower_if b true x y f g = f refl
lower_if b false x y f g = g refl

drops_on : (own : ℕ) (c : Config) → Ahead own c → Drops own c (on c)
drops_on own c a = (by_bytes refl refl (omega (arith, a.0, a.1)), omega arith, tt)

drops_push : (own : ℕ) (c : Config) (z : ℤ) → Ahead own c → Drops own c (push_num z c)
drops_push own c z a = lower_if _ (nat_lt ((frame_in c.unit).nums + length c.nums) frame_words) _ _ (λ e. drops_on own c a) (λ e. tt)

drops_push_ref : (own : ℕ) (c : Config) (v : Value) → Ahead own c → Drops own c (push_ref v c)
drops_push_ref own c v a = lower_if _ (nat_lt ((frame_in c.unit).refs + length c.refs) frame_words) _ _ (λ e. drops_on own c a) (λ e. tt)

drops_text : (own : ℕ) (c : Config) (found : Option ConstantView) → Ahead own c → Drops own c (push_text found c)
drops_text own c (Some (text bytes)) a = drops_push_ref own c (value.Text bytes) a
drops_text own c (Some (literal code)) a = tt
drops_text own c None a = tt

-- what is popped changes no bound
pops : (b : Bound) (nums : List ℤ) (c : Config) (next : ℤ → Config → Step) → ((z : ℤ) (rest : List ℤ) → Lower b (next z (record c { nums = rest }))) → Lower b (pop_num_of nums c next)
pops b [] c next f = tt
pops b (z ∷ rest) c next f = f z rest

pops_ref : (b : Bound) (refs : List Value) (c : Config) (next : Value → Config → Step) → ((v : Value) (rest : List Value) → Lower b (next v (record c { refs = rest }))) → Lower b (pop_ref_of refs c next)
pops_ref b [] c next f = tt
pops_ref b (v ∷ rest) c next f = f v rest

drops_two : (own : ℕ) (c : Config) (next : ℤ → ℤ → Config → Step) → ((x y : ℤ) (rest : List ℤ) → Drops own c (next x y (record c { nums = rest })))
    → Drops own c (pop_num_of c.nums c (λ y d. pop_num_of d.nums d (λ x e. next x y e)))
drops_two own c next f = pops _ c.nums c _ (λ y rest. pops _ rest (record c { nums = rest }) _ (λ x rest'. f x y rest'))

drops_forward : (own to : ℕ) (c : Config) → Ahead own c → Drops own c (forward own to c)
drops_forward own to c a = lower_if _ (nat_lt own to) _ _ (λ e. let after : own < to = ltb-true own to e in (by_bytes refl refl (omega (arith, a.0, after)), omega arith, tt)) (λ e. tt)

drops_turn : (own to turns : ℕ) (c : Config) → c.store.turns ≡ turns → Drops own c (turn_to (with_turns c.store turns) to c)
drops_turn own to zero c is = tt
drops_turn own to (suc n) c is = (by_turns (omega (arith, is)), omega arith, (omega arith, tt))

drops_back : (own to : ℕ) (c : Config) → Drops own c (back own to c)
drops_back own to c = lower_if _ (nat_lt to own) _ _ (λ e. drops_turn own to c.store.turns c refl) (λ e. tt)

drops_answered : (own : ℕ) (line : Line) (answer : Answer) (c : Config) → Ahead own c → Drops own c (answered line answer c)
drops_answered own line (Gives z) c a = drops_on own c a
drops_answered own line (Traps trap) c a = tt

out_counted : (bytes : List ℕ) (count : ℕ) → AreCounted count (some_out bytes count)
out_counted [] count = tt
out_counted (byte ∷ bytes) count = (omega arith, tt)

drops_written : (own : ℕ) (line : Line) (width : Option ℤ) (bytes : List ℕ) (c : Config) → Ahead own c → Drops own c (written line width bytes c)
drops_written own line width bytes c a = lower_if _ (is_width width) _ _ (λ e. (by_bytes refl refl (omega (arith, a.0, a.1)), omega arith, out_counted (in_places width bytes) c.store.held.counted)) (λ e. tt)

-- a width is popped, and what follows is lower
drops_width : (own w : ℕ) (c : Config) (next : Option ℤ → Config → Step) → ((width : Option ℤ) (rest : List ℤ) → Drops own c (next width (record c { nums = rest }))) → Drops own c (pop_width w c next)
drops_width own zero c next f = f None c.nums
drops_width own (suc zero) c next f = pops _ c.nums c _ (λ z rest. f (Some z) rest)
drops_width own (suc (suc n)) c next f = tt

-- where a body comes back to one that waits, fewer wait
lower_back : (b : Bound) (callers : List Caller) (room : Caller → Step → Step) (nums : Caller → List ℤ) (refs : Caller → List Value) (c : Config) → length callers ≡ b.of.callers → c.store.turns ≡ b.of.turns
    → b.counted_bytes ≤ c.store.held.counted → ((caller : Caller) (s : Step) → Lower b s → Lower b (room caller s)) → Lower b (come_back callers room nums refs c)
lower_back b [] room nums refs c many turns more f = tt
lower_back b (caller ∷ callers) room nums refs c many turns more f = f caller _ (by_callers turns (omega (arith, many)), more, tt)

drops_returned : (own k : ℕ) (c : Config) → Drops own c (returned k c)
drops_returned own zero c = lower_back (bound own c) c.callers _ _ _ c refl refl (omega arith) (λ caller s low. low)
drops_returned own (suc zero) c = pops _ c.nums c _ (λ z rest. lower_back (bound own c) c.callers _ _ _ (record c { nums = rest }) refl refl (omega arith)
    (λ caller s low. lower_if _ (nat_lt ((frame_in caller.unit).nums + length caller.nums) frame_words) _ _ (λ e. low) (λ e. tt)))
drops_returned own (suc (suc zero)) c = pops_ref _ c.refs c _ (λ v rest. lower_back (bound own c) c.callers _ _ _ (record c { refs = rest }) refl refl (omega arith)
    (λ caller s low. lower_if _ (nat_lt ((frame_in caller.unit).refs + length caller.refs) frame_words) _ _ (λ e. low) (λ e. tt)))
drops_returned own (suc (suc (suc n))) c = tt

drops_test : (own : ℕ) (f : ℤ → ℤ → Bool) (c : Config) → Ahead own c → Drops own c (test f c)
drops_test own f c a = drops_two own c (λ x y d. put_num (number_of (f x y)) d) (λ x y rest. drops_on own (record c { nums = number_of (f x y) ∷ rest }) a)

drops_arith : (own : ℕ) (line : Line) (f : ℤ → ℤ → Answer) (c : Config) → Ahead own c → Drops own c (pop_num_of c.nums c (λ y d. pop_num_of d.nums d (λ x e. answered line (f x y) e)))
drops_arith own line f c a = drops_two own c (λ x y d. answered line (f x y) d) (λ x y rest. drops_answered own line (f x y) (record c { nums = rest }) a)

drops_started : (own to : ℕ) (line : Line) (control limit step : ℤ) (c : Config) → Ahead own c → Drops own c (started own to line control limit step c)
drops_started own to line control limit step c a = lower_if _ (is_same step (pos 0)) _ _ (λ e. tt)
    (λ e. lower_if _ (goes_on limit step control) _ _ (λ g. drops_turn own c.at c.store.turns c refl) (λ g. drops_forward own to c a))

drops_counted : (own s to : ℕ) (limit step next : ℤ) (c : Config) → Ahead own c → Drops own c (counted own s to limit step next c)
drops_counted own s to limit step next c a = lower_if _ (goes_on limit step next) _ _ (λ e. drops_back own to (with_num c s next)) (λ e. drops_on own c a)

drops_jump : (own to : ℕ) (c : Config) (rest : List ℤ) (stays : List ℤ) (b : Bool) → Ahead own c
    → Drops own c (if b then on (record c { nums = rest }) else forward own to (record c { nums = stays }))
drops_jump own to c rest stays b a = lower_if _ b _ _ (λ e. drops_on own (record c { nums = rest }) a) (λ e. drops_forward own to (record c { nums = stays }) a)

drops_jump_true : (own to : ℕ) (c : Config) (rest : List ℤ) (stays : List ℤ) (b : Bool) → Ahead own c
    → Drops own c (if b then forward own to (record c { nums = stays }) else on (record c { nums = rest }))
drops_jump_true own to c rest stays b a = lower_if _ b _ _ (λ e. drops_forward own to (record c { nums = stays }) a) (λ e. drops_on own (record c { nums = rest }) a)

-- Structures, vectors and texts: whatever they are, what follows is lower.
lower_attempted : {A : Type 0} (b : Bound) (line : Line) (attempt : Attempt A) (next : A → Step) → ((a : A) → Lower b (next a)) → Lower b (attempted line attempt next)
lower_attempted b line (Yields a) next f = f a
lower_attempted b line (Fails trap) next f = tt

lower_text : (b : Bound) (v : Value) (c : Config) (next : List ℕ → Config → Step) → ((bytes : List ℕ) → Lower b (next bytes c)) → Lower b (text_of v c next)
lower_text b (value.Text bytes) c next f = f bytes
lower_text b (value.Num z) c next f = tt
lower_text b (value.Flag flag) c next f = tt
lower_text b value.Nil c next f = tt
lower_text b (value.Pointer id) c next f = tt
lower_text b (value.Vector id) c next f = tt
lower_text b (value.Procedure of scope) c next f = tt
lower_text b value.Nothing c next f = tt

lower_denoting : (b : Bound) (v : Value) (c : Config) (next : Value → Config → Step) → ((w : Value) → Lower b (next w c)) → Lower b (denoting_of v c next)
lower_denoting b (value.Text bytes) c next f = tt
lower_denoting b (value.Num z) c next f = tt
lower_denoting b (value.Flag flag) c next f = tt
lower_denoting b value.Nil c next f = f value.Nil
lower_denoting b (value.Pointer id) c next f = f (value.Pointer id)
lower_denoting b (value.Vector id) c next f = f (value.Vector id)
lower_denoting b (value.Procedure of scope) c next f = tt
lower_denoting b value.Nothing c next f = tt

lower_object : (b : Bound) (v : Value) (c : Config) (next : Value → Config → Step) → ((w : Value) → Lower b (next w c)) → Lower b (object_of v c next)
lower_object b (value.Text bytes) c next f = tt
lower_object b (value.Num z) c next f = tt
lower_object b (value.Flag flag) c next f = tt
lower_object b value.Nil c next f = f value.Nil
lower_object b (value.Pointer id) c next f = f (value.Pointer id)
lower_object b (value.Vector id) c next f = tt
lower_object b (value.Procedure of scope) c next f = tt
lower_object b value.Nothing c next f = tt

lower_constant : (b : Bound) (found : Option ConstantView) (next : List ℕ → Step) → ((bytes : List ℕ) → Lower b (next bytes)) → Lower b (text_in found next)
lower_constant b (Some (text bytes)) next f = f bytes
lower_constant b (Some (literal code)) next f = tt
lower_constant b None next f = tt

lower_number : (b : Bound) (found : Option Form) (s : Step) → Lower b s → Lower b (when_number found s)
lower_number b (Some form.Number) s low = low
lower_number b (Some form.Flag) s low = low
lower_number b (Some form.Reference) s low = tt
lower_number b None s low = tt

lower_reference : (b : Bound) (found : Option Form) (s : Step) → Lower b s → Lower b (when_reference found s)
lower_reference b (Some form.Number) s low = tt
lower_reference b (Some form.Flag) s low = tt
lower_reference b (Some form.Reference) s low = low
lower_reference b None s low = tt

lower_of_type : (b : Bound) (found : Option (List ℕ)) (next : List ℕ → Step) → ((ty : List ℕ) → Lower b (next ty)) → Lower b (of_type found next)
lower_of_type b (Some ty) next f = f ty
lower_of_type b None next f = tt

lower_fields : (b : Bound) (forms : List Form) (values : List Value) (c : Config) (nums : List ℤ) (refs : List Value) (next : List Value → Config → Step)
    → ((vs : List Value) (ns : List ℤ) (rs : List Value) → Lower b (next vs (record c { nums = ns; refs = rs })))
    → Lower b (pop_fields forms values (record c { nums = nums; refs = refs }) next)
lower_fields b [] values c nums refs next f = f values nums refs
lower_fields b (form.Reference ∷ forms) values c nums refs next f =
    pops_ref b refs (record c { nums = nums; refs = refs }) _ (λ v rest. lower_fields b forms (v ∷ values) c nums rest next f)
lower_fields b (form.Number ∷ forms) values c nums refs next f =
    pops b nums (record c { nums = nums; refs = refs }) _ (λ z rest. lower_fields b forms (kept_as (Some form.Number) (Num z) ∷ values) c rest refs next f)
lower_fields b (form.Flag ∷ forms) values c nums refs next f =
    pops b nums (record c { nums = nums; refs = refs }) _ (λ z rest. lower_fields b forms (kept_as (Some form.Flag) (Num z) ∷ values) c rest refs next f)

lower_nums : (b : Bound) (n : ℕ) (zs : List ℤ) (c : Config) (nums : List ℤ) (next : List ℤ → Config → Step) → ((ys : List ℤ) (ns : List ℤ) → Lower b (next ys (record c { nums = ns })))
    → Lower b (pop_nums n zs (record c { nums = nums }) next)
lower_nums b zero zs c nums next f = f zs nums
lower_nums b (suc n) zs c nums next f = pops b nums (record c { nums = nums }) _ (λ z rest. lower_nums b n (z ∷ zs) c rest next f)

lower_refs : (b : Bound) (n : ℕ) (vs : List Value) (c : Config) (refs : List Value) (next : List Value → Config → Step) → ((ws : List Value) (rs : List Value) → Lower b (next ws (record c { refs = rs })))
    → Lower b (pop_refs n vs (record c { refs = refs }) next)
lower_refs b zero vs c refs next f = f vs refs
lower_refs b (suc n) vs c refs next f = pops_ref b refs (record c { refs = refs }) _ (λ v rest. lower_refs b n (v ∷ vs) c rest next f)

drops_text_made : (own : ℕ) (c : Config) (bytes : List ℕ) → Ahead own c → Drops own c (make_text bytes c)
drops_text_made own c bytes a =
    let more = holding (and_text bytes c.store) c in
    lower_fewer (bound own c) more.store.held.counted _ (omega arith) (drops_push_ref own more (value.Text bytes) a)

drops_made : (own : ℕ) (c : Config) (denoting : ℕ → Value) (object : Object) → Ahead own c → Drops own c (make denoting object c)
drops_made own c denoting object a =
    let more = holding (and_object object c.store) c in
    lower_fewer (bound own c) more.store.held.counted _ (omega arith) (drops_push_ref own more (denoting (new_number c.store.held.objects)) a)

drops_changed : (own : ℕ) (c : Config) (place : Place) (heap : Heap) → Ahead own c → Drops own c (changed place heap c)
drops_changed own c place heap a = drops_on own (having (assigning place heap) c) a

-- objects are touched
drops_touched : (own : ℕ) (c : Config) (ids : List ℕ) (s : Step) → Drops own (having (touching ids) c) s → Drops own c s
drops_touched own c ids s low = lower_fewer (bound own c) (having (touching ids) c).store.held.counted s (omega arith) low

-- a value that was read from a place is pushed
drops_push_read : (own : ℕ) (c : Config) (v : Value) → Ahead own c → Drops own c (push_num (word_of v) (having (reading v) c))
drops_push_read own c v a = drops_touched own c (denoted v) _ (drops_push own (having (reading v) c) (word_of v) a)

drops_push_ref_read : (own : ℕ) (c : Config) (v : Value) → Ahead own c → Drops own c (push_ref v (having (reading v) c))
drops_push_ref_read own c v a = drops_touched own c (denoted v) _ (drops_push_ref own (having (reading v) c) v a)

-- two texts are popped
drops_texts : (own : ℕ) (c : Config) (next : List ℕ → List ℕ → Config → Step) → ((x y : List ℕ) (rest : List Value) → Drops own c (next x y (record c { refs = rest })))
    → Drops own c (pop_ref_of c.refs c (λ v d. text_of v d (λ y e. pop_ref_of e.refs e (λ w g. text_of w g (λ x h. next x y h)))))
drops_texts own c next f = pops_ref _ c.refs c _ (λ v rest. lower_text _ v (record c { refs = rest }) _
    (λ y. pops_ref _ rest (record c { refs = rest }) _ (λ w rest'. lower_text _ w (record c { refs = rest' }) _ (λ x. f x y rest'))))

drops_compare_texts : (own : ℕ) (op : Relation) (c : Config) → Ahead own c → Drops own c (compare_texts op c)
drops_compare_texts own op c a = drops_texts own c (λ x y d. push_num (number_of (text_relation op x y)) d)
    (λ x y rest. drops_push own (record c { refs = rest }) (number_of (text_relation op x y)) a)

drops_compare_objects : (own : ℕ) (op : Relation) (c : Config) → Ahead own c → Drops own c (compare_objects op c)
drops_compare_objects own op c a = pops_ref _ c.refs c _ (λ v rest. lower_denoting _ v (record c { refs = rest }) _
    (λ w. pops_ref _ rest (record c { refs = rest }) _ (λ v' rest'. lower_denoting _ v' (record c { refs = rest' }) _
    (λ w'. drops_push own (record c { refs = rest' }) (number_of (object_relation op w' w)) a))))

drops_length : (own : ℕ) (c : Config) → Ahead own c → Drops own c (text_length c)
drops_length own c a = pops_ref _ c.refs c _ (λ v rest. lower_text _ v (record c { refs = rest }) _ (λ bytes. drops_push own (record c { refs = rest }) (pos (length bytes)) a))

drops_int_text : (own : ℕ) (c : Config) → Ahead own c → Drops own c (int_text c)
drops_int_text own c a = pops _ c.nums c _ (λ z rest. drops_text_made own (record c { nums = rest }) (signed_decimal z) a)

drops_read_line : (own : ℕ) (line : Line) (c : Config) → Ahead own c → Drops own c (read_line line c)
drops_read_line own line c a = lower_attempted _ line (line_read c.store.input) _ (λ bytes. drops_text_made own (holding (on_input (behind_line c.store.input) c.store) c) bytes a)

-- Tables. A call counts no fewer bytes than were counted before it, and has no events.
abbrev Quiet : Held → Calls.Answer → Type 0
Quiet h a = (h.counted ≤ a.held.counted) × (a.events ≡ [])

abbrev IfYields : {A : Type 0} → (A → Type 0) → Attempt A → Type 0
IfYields is (Yields a) = is a
IfYields is (Fails trap) = Unit {0}

enter_counted : (key : Key) (table v : Value) (h : Held) → IfYields (λ (later : Held). h.counted ≤ later.counted) (enter_call key table v h)
unfolding enter_call
enter_counted key table v h = of (table_of h.objects table)
  where
    put : (before : Option ℕ) (t : Attempt Table)
        → IfYields (λ (later : Held). h.counted ≤ later.counted) (on_yield t (λ new. table_put table key before (object_of_value v) new h))
    put before (Yields new) = omega arith
    put before (Fails trap) = tt

    looked : (before : Attempt (Option ℕ)) (t : Attempt Table)
        → IfYields (λ (later : Held). h.counted ≤ later.counted)
        (then_try before (λ b. on_yield t (λ new. table_put table key b (object_of_value v) new h)))
    looked (Yields before) t = put before t
    looked (Fails trap) t = tt

    of : (t : Attempt Table)
        → IfYields (λ (later : Held). h.counted ≤ later.counted)
        (then_try t (λ u. then_try (looked_up key u) (λ b. on_yield (entered key (object_of_value v) u) (λ new. table_put table key b (object_of_value v) new h))))
    of (Yields t) = looked (looked_up key t) (entered key (object_of_value v) t)
    of (Fails trap) = tt

enter_quiet : (key : Key) (table v : Value) (h : Held) → IfYields (Quiet h) (on_yield (enter_call key table v h) (answer_of value.Nothing))
enter_quiet key table v h = of (enter_call key table v h) (enter_counted key table v h)
  where
    of : (a : Attempt Held) → IfYields (λ (later : Held). h.counted ≤ later.counted) a → IfYields (Quiet h) (on_yield a (answer_of value.Nothing))
    of (Yields later) more = (more, refl)
    of (Fails trap) more = tt

lookup_quiet : (key : Key) (table : Value) (h : Held) → IfYields (Quiet h) (lookup_call key table h)
unfolding lookup_call
lookup_quiet key table h = of (table_of h.objects table)
  where
    found : (f : Attempt (Option ℕ)) → IfYields (Quiet h) (on_yield f (λ o. answer_of (value_of_object o) (reading (value_of_object o) h)))
    found (Yields o) = (omega arith, refl)
    found (Fails trap) = tt

    of : (t : Attempt Table) → IfYields (Quiet h) (then_try t (λ u. on_yield (looked_up key u) (λ o. answer_of (value_of_object o) (reading (value_of_object o) h))))
    of (Yields t) = found (looked_up key t)
    of (Fails trap) = tt

number_quiet : (n : ℕ) (h : Held) → IfYields (Quiet h) (number_answered n h)
number_quiet n h = of (is_int (pos n))
  where
    of : (b : Bool) → IfYields (Quiet h) (if b then Yields (answer_of (Num (pos n)) h) else Fails Overflow)
    of true = (omega arith, refl)
    of false = tt

count_quiet : (table : Value) (h : Held) → IfYields (Quiet h) (cardinality_call table h)
unfolding cardinality_call
count_quiet table h = of (table_of h.objects table)
  where
    of : (t : Attempt Table) → IfYields (Quiet h) (then_try t (λ u. number_answered (cardinality u) h))
    of (Yields t) = number_quiet (cardinality t) h
    of (Fails trap) = tt

-- what gives what a call answered, and has room for it
abbrev Given : (Calls.Answer → Config → Step) → Type 0
Given gives = (own : ℕ) (c : Config) (a : Calls.Answer) → Quiet c.store.held a → Ahead own c → Drops own c (gives a c)

quiet_events : (count : ℕ) (events : List Event) → events ≡ [] → AreCounted count events
quiet_events count [] none = tt
quiet_events count (event ∷ events) none = absurd (cc)

given_nothing : Given gives_nothing
given_nothing own c a q ahead = (by_bytes refl refl (omega (arith, ahead.0, ahead.1)), q.0, quiet_events c.store.held.counted a.events q.1)

given_num : Given gives_num
given_num own c a q ahead =
    lower_if _ (nat_lt ((frame_in c.unit).nums + length c.nums) frame_words) _ _
    (λ e. (by_bytes refl refl (omega (arith, ahead.0, ahead.1)), q.0, quiet_events c.store.held.counted a.events q.1)) (λ e. tt)

given_ref : Given gives_ref
given_ref own c a q ahead =
    lower_if _ (nat_lt ((frame_in c.unit).refs + length c.refs) frame_words) _ _
    (λ e. (by_bytes refl refl (omega (arith, ahead.0, ahead.1)), q.0, quiet_events c.store.held.counted a.events q.1)) (λ e. tt)

drops_given : (own : ℕ) (line : Line) (gives : Calls.Answer → Config → Step) → Given gives → (attempt : Attempt Calls.Answer) (c : Config)
    → IfYields (Quiet c.store.held) attempt → Ahead own c → Drops own c (attempted line attempt (λ a. gives a c))
drops_given own line gives given (Yields a) c quiet ahead = given own c a quiet ahead
drops_given own line gives given (Fails trap) c quiet ahead = tt

-- nil or a structure is popped
drops_object : (own : ℕ) (c d : Config) (next : Value → Config → Step) → ((v : Value) (rest : List Value) → Drops own c (next v (record d { refs = rest })))
    → Drops own c (pop_object d next)
drops_object own c d next f = pops_ref _ d.refs d _ (λ v rest. lower_object _ v (record d { refs = rest }) _ (λ w. f w rest))

drops_on_heap : (own : ℕ) (of : HeapProcedure) (line : Line) (c : Config) → Ahead own c
    → Drops own c (if is_plain_call (Some (OnHeap of)) then call_on_heap of line c else Stuck)
unfolding heap_call
drops_on_heap own CreateDatabase line c a = tt
drops_on_heap own OpenDatabase line c a = tt
drops_on_heap own Commit line c a = tt
drops_on_heap own MakeTable line c a = drops_given own line gives_ref given_ref (Yields (new_table c.store.held)) c (omega arith, refl) a
drops_on_heap own EnterString line c a =
    drops_object own c c _ (λ v rs. drops_object own c (record c { refs = rs }) _ (λ table qs. pops_ref _ qs (record c { refs = qs }) _
    (λ k rest. lower_text _ k (record c { refs = rest }) _ (λ key. drops_given own line gives_nothing given_nothing
    (on_yield (enter_call (string_key key) table v c.store.held) (answer_of value.Nothing)) (record c { refs = rest }) (enter_quiet (string_key key) table v c.store.held) a))))
drops_on_heap own LookUpString line c a =
    drops_object own c c _ (λ table qs. pops_ref _ qs (record c { refs = qs }) _
    (λ k rest. lower_text _ k (record c { refs = rest }) _ (λ key. drops_given own line gives_ref given_ref
    (lookup_call (string_key key) table c.store.held) (record c { refs = rest }) (lookup_quiet (string_key key) table c.store.held) a)))
drops_on_heap own EnterInt line c a =
    drops_object own c c _ (λ v rs. drops_object own c (record c { refs = rs }) _ (λ table qs. pops _ c.nums (record c { refs = qs }) _
    (λ key rest. drops_given own line gives_nothing given_nothing
    (on_yield (enter_call (int_key key) table v c.store.held) (answer_of value.Nothing)) (record c { refs = qs; nums = rest }) (enter_quiet (int_key key) table v c.store.held) a)))
drops_on_heap own LookUpInt line c a =
    drops_object own c c _ (λ table qs. pops _ c.nums (record c { refs = qs }) _
    (λ key rest. drops_given own line gives_ref given_ref
    (lookup_call (int_key key) table c.store.held) (record c { refs = qs; nums = rest }) (lookup_quiet (int_key key) table c.store.held) a))
drops_on_heap own Cardinality line c a =
    drops_object own c c _ (λ table qs. drops_given own line gives_num given_num (cardinality_call table c.store.held) (record c { refs = qs }) (count_quiet table c.store.held) a)

-- Scans.
drops_handed : (strings : Bool) (own q s : ℕ) (key : Value) (object : ℕ) (c : Config) → Ahead own c → Drops own c (called_with strings q s key object c)
drops_handed true own q s key object c a =
    lower_if _ (nat_lt ((frame_in c.unit).refs + length c.refs) frame_words) _ _
    (λ e. lower_if _ (nat_lt ((frame_in c.unit).refs + length (c.locals.refs (q + 1) ∷ c.refs)) frame_words) _ _
    (λ f. lower_if _ (nat_lt ((frame_in c.unit).refs + length (key ∷ c.locals.refs (q + 1) ∷ c.refs)) frame_words) _ _
    (λ g. drops_on own (record (with_num (with_ref c (q + 2) key) (s + 2) (pos 1)) { refs = value.Pointer object ∷ key ∷ c.locals.refs (q + 1) ∷ c.refs }) a)
    (λ g. tt)) (λ f. tt)) (λ e. tt)
drops_handed false own q s key object c a =
    lower_if _ (nat_lt ((frame_in c.unit).refs + length c.refs) frame_words) _ _
    (λ e. lower_if _ (nat_lt ((frame_in c.unit).nums + length c.nums) frame_words) _ _
    (λ f. lower_if _ (nat_lt ((frame_in c.unit).refs + length (c.locals.refs (q + 1) ∷ c.refs)) frame_words) _ _
    (λ g. drops_on own (record (with_num (with_num c (s + 1) (word_of key)) (s + 2) (pos 1)) {
      refs = value.Pointer object ∷ c.locals.refs (q + 1) ∷ c.refs;
      nums = word_of key ∷ c.nums;
    }) a)
    (λ g. tt)) (λ f. tt)) (λ e. tt)

drops_found : (strings : Bool) (own q s to : ℕ) (line : Line) (found : Option Found) (c : Config) → Ahead own c
    → Drops own c (scan_found strings own q s to line found c)
drops_found strings own q s to line None c a = drops_forward own to c a
drops_found strings own q s to line (Some found) c a =
    lower_if _ (is_same (c.locals.nums s) (pos most_scan_calls)) _ _ (λ e. tt)
    (λ e. drops_touched own c (found.object ∷ []) _ (drops_handed strings own q s (shown_key found.key) found.object (having (touching (found.object ∷ [])) c) a))

drops_scan : (strings : Bool) (own q s to : ℕ) (line : Line) (c : Config) → Ahead own c → Drops own c (scan_on strings own q s to line c)
drops_scan strings own q s to line c a =
    lower_if _ (is_ref_slot c (q + 2) && is_num_slot c (s + 2)) _ _
    (λ e. lower_object _ (c.locals.refs q) c _ (λ table. lower_attempted _ line (next_key strings c.store.held.objects table (last_of strings q s c)) _
    (λ found. drops_found strings own q s to line found c a))) (λ e. tt)

drops_more : (own s to : ℕ) (c : Config) → Ahead own c → Drops own c (scan_more own s to c)
drops_more own s to c a =
    pops _ c.nums c _ (λ z rest. lower_if _ (is_num_slot c (s + 2)) _ _
    (λ e. lower_if _ (is_one z) _ _ (λ f. drops_back own to (with_num (record c { nums = rest }) s (one_more (c.locals.nums s))))
    (λ f. drops_on own (with_num (record c { nums = rest }) s (one_more (c.locals.nums s))) a)) (λ e. tt))

drops_library : (own : ℕ) (of : Option LibraryProcedure) (line : Line) (c : Config) → Ahead own c
    → Drops own c (if is_plain_call of then library_of of line c else Stuck)
drops_library own (Some (OnHeap of)) line c a = drops_on_heap own of line c a
drops_library own (Some ReadLine) line c a = drops_read_line own line c a
drops_library own (Some AtEnd) line c a = drops_push own c (number_of (is_at_end c.store.input)) a
drops_library own (Some Length) line c a = drops_length own c a
drops_library own (Some IntText) line c a = drops_int_text own c a
drops_library own None line c a = tt

-- Scopes and procedures.

lower_of_scope : (b : Bound) (found : Option Object) (next : List ℕ → Option ℕ → Step) → ((of : List ℕ) (parent : Option ℕ) → Lower b (next of parent)) → Lower b (of_scope found next)
lower_of_scope b (Some (ScopeOf of parent names)) next f = f of parent
lower_of_scope b (Some (Structure class fields)) next f = tt
lower_of_scope b (Some (Elements ty low elements)) next f = tt
lower_of_scope b (Some (Keyed table)) next f = tt
lower_of_scope b None next f = tt

drops_enter : (own k : ℕ) (c : Config) → Ahead own c → Drops own c (enter_scope k c)
drops_enter own k c a =
    let more : List ℕ → Config = λ of. record (holding (and_object (new_scope of c.scope) c.store) c) { scope = Some (new_number c.store.held.objects) } in
    lower_constant _ (constant_at (constants_in c.unit) k) (λ of. on (more of))
    (λ of. lower_fewer (bound own c) (more of).store.held.counted (on (more of)) (omega arith) (drops_on own (more of) a))

drops_leave : (own : ℕ) (c : Config) → Ahead own c → Drops own c (leave_scope c)
drops_leave own c a = lower_of_scope _ (scope_at c.store.held.objects c.scope) _ (λ of parent. drops_on own (record c { scope = parent }) a)

-- what is touched where a name is read
abbrev read_on_the_way : ℕ → ℕ → Config → List ℕ
read_on_the_way up i c = way_out c.store.held.objects c.scope up ++ denoted (kept_name c.store.held.objects c.scope up i)

drops_name_put : (own up i : ℕ) (v : Value) (c : Config) → Ahead own c → Drops own c (on (having (assigned_name c.scope up i v) c))
drops_name_put own up i v c a = drops_touched own c (way_out c.store.held.objects c.scope up) (on (having (assigned_name c.scope up i v) c)) (drops_on own (having (assigned_name c.scope up i v) c) a)

drops_kept_num : (own up i : ℕ) (c : Config) → Ahead own c → Drops own c (kept_num up i c)
drops_kept_num own up i c a = lower_of_scope _ (scope_at c.store.held.objects (scope_out c.store.held.objects c.scope up)) _
    (λ of parent. lower_number _ (form_in (forms_of of) i) _ (drops_touched own c (read_on_the_way up i c) _
    (drops_push own (having (reading_name c.scope up i) c) (word_of (kept_name c.store.held.objects c.scope up i)) a)))

drops_kept_ref : (own up i : ℕ) (c : Config) → Ahead own c → Drops own c (kept_ref up i c)
drops_kept_ref own up i c a = lower_of_scope _ (scope_at c.store.held.objects (scope_out c.store.held.objects c.scope up)) _
    (λ of parent. lower_reference _ (form_in (forms_of of) i) _ (drops_touched own c (read_on_the_way up i c) _
    (drops_push_ref own (having (reading_name c.scope up i) c) (kept_name c.store.held.objects c.scope up i) a)))

drops_keep_num : (own up i : ℕ) (c : Config) → Ahead own c → Drops own c (keep_num up i c)
drops_keep_num own up i c a = pops _ c.nums c _ (λ z rest. lower_of_scope _ (scope_at c.store.held.objects (scope_out c.store.held.objects c.scope up)) _
    (λ of parent. lower_number _ (form_in (forms_of of) i) _ (drops_name_put own up i (Num z) (record c { nums = rest }) a)))

drops_keep_ref : (own up i : ℕ) (c : Config) → Ahead own c → Drops own c (keep_ref up i c)
drops_keep_ref own up i c a = pops_ref _ c.refs c _ (λ v rest. lower_of_scope _ (scope_at c.store.held.objects (scope_out c.store.held.objects c.scope up)) _
    (λ of parent. lower_reference _ (form_in (forms_of of) i) _ (drops_name_put own up i v (record c { refs = rest }) a)))

drops_closure : (own : ℕ) (c : Config) (found : Option ConstantView) → Ahead own c → Drops own c (procedure_of found c)
drops_closure own c (Some (literal of)) a =
    let more = holding (and_closure c.store) c in
    lower_fewer (bound own c) more.store.held.counted _ (omega arith) (drops_push_ref own more (value.Procedure (as_compiled of) c.scope) a)
drops_closure own c (Some (text bytes)) a = tt
drops_closure own c None a = tt

lower_called : (b : Bound) (v : Value) (next : UnitView → Option ℕ → Step) → ((of : UnitView) (scope : Option ℕ) → Lower b (next of scope)) → Lower b (unit_called v next)
lower_called b (value.Procedure (as_compiled of) scope) next f = f of scope
lower_called b (value.Procedure (as_written of) scope) next f = tt
lower_called b (value.Text bytes) next f = tt
lower_called b (value.Num z) next f = tt
lower_called b (value.Flag flag) next f = tt
lower_called b value.Nil next f = tt
lower_called b (value.Pointer id) next f = tt
lower_called b (value.Vector id) next f = tt
lower_called b value.Nothing next f = tt

drops_in_turn : (own turns : ℕ) (c : Config) (of : UnitView) (scope : Option ℕ) (zs : List ℤ) (vs : List Value) → c.store.turns ≡ turns
    → Drops own c (in_turn (with_turns c.store turns) of scope zs vs c)
drops_in_turn own zero c of scope zs vs is = tt
drops_in_turn own (suc n) c of scope zs vs is = (by_turns (omega (arith, is)), omega arith, (omega arith, tt))

drops_call : (own n : ℕ) (line : Line) (c : Config) → Drops own c (call n line c)
drops_call own n line c = lower_refs (bound own c) n [] c c.refs _ (λ vs rs. pops_ref _ rs (record c { refs = rs }) _ (λ v rest. lower_called _ v _ (λ of scope.
    lower_if _ (takes_refs n (frame_in of)) _ _ (λ e. lower_nums (bound own c) (frame_in of).num_params [] (record c { refs = rest }) c.nums _
    (λ zs ns. lower_if _ (nat_lt (length c.callers) most_calls) _ _ (λ e'. drops_in_turn own c.store.turns (record c { nums = ns; refs = rest }) of scope zs vs refl) (λ e'. tt))) (λ e. tt))))

-- a vector is popped
drops_vector : (own : ℕ) (c d : Config) (next : List ℕ → Value → Config → Step) → ((ty : List ℕ) (v : Value) (rest : List Value) → Drops own c (next ty v (record d { refs = rest })))
    → Drops own c (pop_vector d next)
drops_vector own c d next f = pops_ref _ d.refs d _ (λ v rest. lower_of_type _ (type_of d.store.held.objects v) _ (λ ty. f ty v rest))

drops_bound : (own : ℕ) (of : Heap → Value → ℤ) (c : Config) → Ahead own c → Drops own c (bound_of of c)
drops_bound own of c a = drops_vector own c c (λ ty v d. push_num (of d.store.held.objects v) d) (λ ty v rest. drops_push own (record c { refs = rest }) (of c.store.held.objects v) a)

drops : (i : Instr) (own : ℕ) (c : Config) → Ahead own c → Drops own c (acts_plainly i own c)
drops (Int v) own c a = drops_push own c v a
drops True own c a = drops_push own c (pos 1) a
drops False own c a = drops_push own c (pos 0) a
drops (Text k) own c a = drops_text own c (constant_at (constants_in c.unit) k) a
drops Nil own c a = drops_push_ref own c value.Nil a
drops (GetM s) own c a = lower_if _ (is_num_slot c s) _ _ (λ e. drops_push own c (c.locals.nums s) a) (λ e. tt)
drops (GetP s) own c a = lower_if _ (is_ref_slot c s) _ _ (λ e. drops_push_ref own c (c.locals.refs s) a) (λ e. tt)
drops (SetM s) own c a = pops _ c.nums c _ (λ z rest. lower_if _ (is_num_slot c s) _ _ (λ e. drops_on own (with_num (record c { nums = rest }) s z) a) (λ e. tt))
drops (SetP s) own c a = pops_ref _ c.refs c _ (λ v rest. lower_if _ (is_ref_slot c s) _ _ (λ e. drops_on own (with_ref (record c { refs = rest }) s v) a) (λ e. tt))
drops (KeptM u i) own c a = drops_kept_num own u i c a
drops (KeptP u i) own c a = drops_kept_ref own u i c a
drops (KeepM u i) own c a = drops_keep_num own u i c a
drops (KeepP u i) own c a = drops_keep_ref own u i c a
drops (Scope k) own c a = drops_enter own k c a
drops Leave own c a = drops_leave own c a
drops (Jump t) own c a = drops_forward own t c a
drops (JumpFalse t) own c a = pops _ c.nums c _ (λ z rest. drops_jump own t c rest rest (is_one z) a)
drops (JumpTrue t) own c a = pops _ c.nums c _ (λ z rest. drops_jump_true own t c rest rest (is_one z) a)
drops (Again t) own c a = pops _ c.nums c _ (λ z rest. lower_if _ (is_one z) _ _ (λ e. drops_back own t (record c { nums = rest })) (λ e. drops_on own (record c { nums = rest }) a))
drops (And t) own c a = pops _ c.nums c _ (λ z rest. drops_jump own t c rest c.nums (is_one z) a)
drops (Or t) own c a = pops _ c.nums c _ (λ z rest. drops_jump_true own t c rest c.nums (is_one z) a)
drops Not own c a = pops _ c.nums c _ (λ z rest. drops_on own (record c { nums = number_of (not (is_one z)) ∷ rest }) a)
drops (Neg line) own c a = pops _ c.nums c _ (λ z rest. drops_answered own line (neg_of z) (record c { nums = rest }) a)
drops (Add line) own c a = drops_arith own line (arith_of operator.Add) c a
drops (Sub line) own c a = drops_arith own line (arith_of operator.Sub) c a
drops (Mul line) own c a = drops_arith own line (arith_of operator.Mul) c a
drops (Div line) own c a = drops_arith own line (arith_of operator.Div) c a
drops (Rem line) own c a = drops_arith own line (arith_of operator.Rem) c a
drops EqM own c a = drops_test own (relation_of relation.Equal) c a
drops NeM own c a = drops_test own (relation_of relation.NotEqual) c a
drops LtM own c a = drops_test own (relation_of relation.Less) c a
drops LeM own c a = drops_test own (relation_of relation.LessEqual) c a
drops GtM own c a = drops_test own (relation_of relation.Greater) c a
drops GeM own c a = drops_test own (relation_of relation.GreaterEqual) c a
drops EqP own c a = drops_compare_objects own relation.Equal c a
drops NeP own c a = drops_compare_objects own relation.NotEqual c a
drops EqT own c a = drops_compare_texts own relation.Equal c a
drops NeT own c a = drops_compare_texts own relation.NotEqual c a
drops LtT own c a = drops_compare_texts own relation.Less c a
drops LeT own c a = drops_compare_texts own relation.LessEqual c a
drops GtT own c a = drops_compare_texts own relation.Greater c a
drops GeT own c a = drops_compare_texts own relation.GreaterEqual c a
drops (Join line) own c a = drops_texts own c (λ x y d. attempted line (join_of x y) (λ bytes. make_text bytes d)) (λ x y rest. lower_attempted _ line (join_of x y) _ (λ bytes. drops_text_made own (record c { refs = rest }) bytes a))
drops (Part line) own c a = drops_two own c (λ i n d. pop_ref_of d.refs d (λ v e. text_of v e (λ x g. attempted line (part_of x i n) (λ bytes. make_text bytes g))))
    (λ i n rest. pops_ref _ c.refs (record c { nums = rest }) _ (λ v rest'. lower_text _ v (record c { nums = rest; refs = rest' }) _
    (λ x. lower_attempted _ line (part_of x i n) _ (λ bytes. drops_text_made own (record c { nums = rest; refs = rest' }) bytes a))))
drops (Is k) own c a = lower_constant _ (constant_at (constants_in c.unit) k) _ (λ class. pops_ref _ c.refs c _ (λ v rest. lower_object _ v (record c { refs = rest }) _
    (λ w. drops_push own (record c { refs = rest }) (number_of (is_class c.store.held.objects w class)) a)))
drops (Make k) own c a = lower_constant _ (constant_at (constants_in c.unit) k) _ (λ class. lower_fields _ (reverse (forms_of class)) [] c c.nums c.refs _
    (λ fields ns rs. drops_made own (record c { nums = ns; refs = rs }) value.Pointer (Structure class fields) a))
drops (FieldM k i line) own c a = lower_constant _ (constant_at (constants_in c.unit) k) _ (λ class. lower_number _ (form_in (forms_of class) i) _ (pops_ref _ c.refs c _ (λ v rest. lower_object _ v (record c { refs = rest }) _
    (λ w. lower_attempted _ line (field_of c.store.held.objects w class i) _ (λ x. drops_push_read own (record c { refs = rest }) x a)))))
drops (FieldP k i line) own c a = lower_constant _ (constant_at (constants_in c.unit) k) _ (λ class. lower_reference _ (form_in (forms_of class) i) _ (pops_ref _ c.refs c _ (λ v rest. lower_object _ v (record c { refs = rest }) _
    (λ w. lower_attempted _ line (field_of c.store.held.objects w class i) _ (λ x. drops_push_ref_read own (record c { refs = rest }) x a)))))
drops (SetFieldM k i line) own c a = lower_constant _ (constant_at (constants_in c.unit) k) _ (λ class. lower_number _ (form_in (forms_of class) i) _ (pops _ c.nums c _ (λ z ns. pops_ref _ c.refs (record c { nums = ns }) _ (λ v rest.
    lower_object _ v (record c { nums = ns; refs = rest }) _ (λ w. lower_attempted _ line (with_field c.store.held.objects w class i (kept_as (form_in (forms_of class) i) (Num z))) _
    (λ heap. drops_changed own (record c { nums = ns; refs = rest }) (Part (id_of v) i) heap a))))))
drops (SetFieldP k i line) own c a = lower_constant _ (constant_at (constants_in c.unit) k) _ (λ class. lower_reference _ (form_in (forms_of class) i) _ (pops_ref _ c.refs c _ (λ x below. pops_ref _ below (record c { refs = below }) _ (λ v rest.
    lower_object _ v (record c { refs = rest }) _ (λ w. lower_attempted _ line (with_field c.store.held.objects w class i x) _
    (λ heap. drops_changed own (record c { refs = rest }) (Part (id_of v) i) heap a))))))
drops (FillM k line) own c a = lower_constant _ (constant_at (constants_in c.unit) k) _ (λ ty. lower_number _ (Some (element_of ty)) _ (pops _ c.nums c _ (λ z ns. pops _ ns (record c { nums = ns }) _ (λ high ns'. pops _ ns' (record c { nums = ns' }) _ (λ low rest.
    lower_attempted _ line (filled_vector ty low high (kept_as (Some (element_of ty)) (Num z))) _ (λ object. drops_made own (record c { nums = rest }) value.Vector object a))))))
drops (FillP k line) own c a = lower_constant _ (constant_at (constants_in c.unit) k) _ (λ ty. lower_reference _ (Some (element_of ty)) _ (pops_ref _ c.refs c _ (λ v rs. pops _ c.nums (record c { refs = rs }) _ (λ high ns'. pops _ ns' (record c { nums = ns'; refs = rs }) _ (λ low rest.
    lower_attempted _ line (filled_vector ty low high v) _ (λ object. drops_made own (record c { nums = rest; refs = rs }) value.Vector object a))))))
drops (ListM k n line) own c a = lower_constant _ (constant_at (constants_in c.unit) k) _ (λ ty. lower_number _ (Some (element_of ty)) _ (lower_nums _ n [] c c.nums _ (λ zs ns. pops _ ns (record c { nums = ns }) _ (λ low rest.
    lower_attempted _ line (vector_of ty low (kept_elements ty (map Num zs))) _ (λ object. drops_made own (record c { nums = rest }) value.Vector object a)))))
drops (ListP k n line) own c a = lower_constant _ (constant_at (constants_in c.unit) k) _ (λ ty. lower_reference _ (Some (element_of ty)) _ (lower_refs _ n [] c c.refs _ (λ vs rs. pops _ c.nums (record c { refs = rs }) _ (λ low rest.
    lower_attempted _ line (vector_of ty low vs) _ (λ object. drops_made own (record c { nums = rest; refs = rs }) value.Vector object a)))))
drops (ElemM line) own c a = pops _ c.nums c _ (λ i ns. drops_vector own c (record c { nums = ns }) _ (λ ty v rest. lower_attempted _ line (element_at c.store.held.objects v i) _
    (λ w. lower_number _ (Some (element_of ty)) _ (drops_push_read own (record c { nums = ns; refs = rest }) w a))))
drops (ElemP line) own c a = pops _ c.nums c _ (λ i ns. drops_vector own c (record c { nums = ns }) _ (λ ty v rest. lower_attempted _ line (element_at c.store.held.objects v i) _
    (λ w. lower_reference _ (Some (element_of ty)) _ (drops_push_ref_read own (record c { nums = ns; refs = rest }) w a))))
drops (SetElemM line) own c a = pops _ c.nums c _ (λ z ns'. pops _ ns' (record c { nums = ns' }) _ (λ i ns. drops_vector own c (record c { nums = ns }) _ (λ ty v rest.
    lower_attempted _ line (with_element c.store.held.objects v i (kept_as (Some (element_of ty)) (Num z))) _ (λ heap. lower_number _ (Some (element_of ty)) _ (drops_changed own (record c { nums = ns; refs = rest }) (element_place c.store.held.objects v i) heap a)))))
drops (SetElemP line) own c a = pops_ref _ c.refs c _ (λ w rs. pops _ c.nums (record c { refs = rs }) _ (λ i ns. drops_vector own c (record c { nums = ns; refs = rs }) _ (λ ty v rest.
    lower_attempted _ line (with_element c.store.held.objects v i w) _ (λ heap. lower_reference _ (Some (element_of ty)) _ (drops_changed own (record c { nums = ns; refs = rest }) (element_place c.store.held.objects v i) heap a)))))
drops Lwb own c a = drops_bound own low_of c a
drops Upb own c a = drops_bound own high_of c a
drops (Closure k) own c a = drops_closure own c (constant_at (constants_in c.unit) k) a
drops (Call n line) own c a = drops_call own n line c
drops (Return k) own c a = drops_returned own k c
drops (Lib k line) own c a = drops_library own (library_procedure k) line c a
drops (WriteI w line) own c a = drops_width own w c _ (λ width rest. pops _ rest (record c { nums = rest }) _ (λ z rest'. drops_written own line width (signed_decimal z) (record c { nums = rest' }) a))
drops (WriteB w line) own c a = drops_width own w c _ (λ width rest. pops _ rest (record c { nums = rest }) _ (λ z rest'. drops_written own line width (flag_text (is_one z)) (record c { nums = rest' }) a))
drops (WriteT w line) own c a = drops_width own w c _ (λ width rest. pops_ref _ c.refs (record c { nums = rest }) _ (λ v rest'. lower_text _ v (record c { nums = rest; refs = rest' }) _ (λ bytes. drops_written own line width bytes (record c { nums = rest; refs = rest' }) a)))
drops (Abort line) own c a = tt
drops (ForStart s t line) own c a = lower_if _ (is_num_slot c (s + 2)) _ _ (λ e. drops_started own t line (c.locals.nums s) (c.locals.nums (s + 1)) (c.locals.nums (s + 2)) c a) (λ e. tt)
drops (ForNext s t) own c a = lower_if _ (is_num_slot c (s + 2)) _ _ (λ e. drops_counted own s t (c.locals.nums (s + 1)) (c.locals.nums (s + 2)) (c.locals.nums s +ℤ c.locals.nums (s + 2)) c a) (λ e. tt)
drops (ScanT q s t line) own c a = drops_scan true own q s t line c a
drops (ScanI q s t line) own c a = drops_scan false own q s t line c a
drops (ScanMore s t) own c a = drops_more own s t c a
drops DupM own c a = pops _ c.nums c _ (λ z rest. drops_push own c z a)
drops DupP own c a = pops_ref _ c.refs c _ (λ v rest. drops_push_ref own c v a)
drops DropM own c a = pops _ c.nums c _ (λ z rest. drops_on own (record c { nums = rest }) a)
drops DropP own c a = pops_ref _ c.refs c _ (λ v rest. drops_on own (record c { refs = rest }) a)

-- A step that goes on comes nearer to the end, and counts no fewer bytes.
pub nearer : {c : Config} {s : Step} → PlainSteps c s → (events : List Event) (next : Config) → s ≡ Goes events next
    → IsNearer (left c) (left next) × (c.store.held.counted ≤ next.store.held.counted) × AreCounted c.store.held.counted events
nearer {c} {s} (at_plain {i} at plain) events next is =
    let inside : c.at < size c = omega (arith, ap length at.spelled, length-append (spelling i) at.rest, length-spelling i, length-drop c.at (code_in c.unit)) in
    let after = record c { at = c.at + width_of i } in
    let lower = drops i c.at after (inside, omega arith) in
    subst (λ (x : Step). Lower (bound c.at c) x) is (subst (λ (b : Bool). Lower (bound c.at c) (if b then acts i c.at after else Stuck)) plain lower)
nearer {c} {s} (at_another at other) events next is = absurd (let both : Stuck ≡ Goes events next = is in cc)
nearer {c} {s} (at_none none) events next is = absurd (let both : Stuck ≡ Goes events next = is in cc)
