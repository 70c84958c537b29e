-- What is touched, read and assigned over what the machine holds, is touched, read and assigned over what the meaning holds, compiled; and as much is
-- counted, where code weighs what its unit does.
use Rattle.std.proofs.Common.{◌≡◌, ℕ, zero, suc, ◌+◌, ℤ, List, [], ◌∷◌, ◌++◌, length, Option, Some, None, refl, ap, ◌∙◌}
use Rattle.std.specs.Prelude.{if◌then◌else◌}
use Rattle.ps_stepping.specs.ps_heap.Values.{Value, Pointer, Procedure, Routine}
use Rattle.ps_stepping.specs.ps_heap.Tables.{Entry, without_keys, by_strings, by_ints}
use Rattle.ps_stepping.specs.ps_heap.Objects.{Heap, Object, Structure, Elements, Scope, Keyed, object_at, id_of, place_of, vector_in, low_in, elements_in}
use Rattle.ps_stepping.specs.ps_heap.Scopes.{parent_in, scope_out, with_kept_name, kept_name}
use Rattle.ps_stepping.specs.ps_heap.References.{pointers, values_of}
use Rattle.ps_stepping.specs.ps_heap.Weights.{text_weight, closure_weight, full_weight, value_weight, values_weight, whole_weight}
use Rattle.ps_stepping.specs.ps_heap.Held.{Part, Held, weight_at, is_first_touch, touched_with, touched_after, touched_weight, touching, denoted, reading, way_out, reading_name, place_or_first, element_place, places_with_name, assigned_name}
use Rattle.ps_code_laws.specs.Compiled.{compiled, compiled_all, compiled_object, compiled_heap, compiled_held, WeighsUnits}
use Rattle.ps_code_laws.proofs.Compiling.{compiled_found, object_compiled, weight_compiled, found_compiled, place_compiled, parent_compiled, out_compiled, kept_name_compiled}

-- What things weigh.

value_weighs : (weigh : Routine → ℕ) → WeighsUnits weigh → (v : Value) → value_weight weigh (compiled v) ≡ value_weight weigh v
value_weighs weigh w (Procedure does scope) = ap (λ (n : ℕ). closure_weight + n) (w does)
value_weighs weigh w v = refl

values_weigh : (weigh : Routine → ℕ) → WeighsUnits weigh → (vs : List Value) → values_weight weigh (compiled_all vs) ≡ values_weight weigh vs
values_weigh weigh w [] = refl
values_weigh weigh w (v ∷ vs) =
    ap (λ (n : ℕ). n + values_weight weigh (compiled_all vs)) (value_weighs weigh w v)
    ∙ ap (λ (n : ℕ). value_weight weigh v + n) (values_weigh weigh w vs)

pointers_compiled : {K : Type 0} (entries : List (Entry K)) → pointers entries ≡ compiled_all (pointers entries)
pointers_compiled [] = refl
pointers_compiled (entry ∷ entries) = ap (λ (vs : List Value). Pointer entry.object ∷ vs) (pointers_compiled entries)

pub places_compiled : (object : Object) → values_of (compiled_object object) ≡ compiled_all (values_of object)
places_compiled (Structure class fields) = refl
places_compiled (Elements ty low elements) = refl
places_compiled (Scope text parent names) = refl
places_compiled (Keyed without_keys) = refl
places_compiled (Keyed (by_strings entries)) = pointers_compiled entries
places_compiled (Keyed (by_ints entries)) = pointers_compiled entries

full_compiled : (object : Object) → full_weight (compiled_object object) ≡ full_weight object
full_compiled (Structure class fields) = ap (λ (n : ℕ). n + text_weight class) (weight_compiled (Structure class fields))
full_compiled (Elements ty low elements) = ap (λ (n : ℕ). n + text_weight ty) (weight_compiled (Elements ty low elements))
full_compiled (Scope text parent names) = ap (λ (n : ℕ). n + text_weight text) (weight_compiled (Scope text parent names))
full_compiled (Keyed table) = refl

pub whole_compiled : (weigh : Routine → ℕ) → WeighsUnits weigh → (object : Object) → whole_weight weigh (compiled_object object) ≡ whole_weight weigh object
whole_compiled weigh w object =
    ap (λ (n : ℕ). n + values_weight weigh (values_of (compiled_object object))) (full_compiled object)
    ∙ ap (λ (n : ℕ). full_weight object + n) (ap (values_weight weigh) (places_compiled object) ∙ values_weigh weigh w (values_of object))

found_weighs : (weigh : Routine → ℕ) → WeighsUnits weigh → (found : Option Object) → weight_at weigh (compiled_found found) ≡ weight_at weigh found
found_weighs weigh w None = refl
found_weighs weigh w (Some object) = whole_compiled weigh w object

-- Touches.

pub touches_weigh : (weigh : Routine → ℕ) → WeighsUnits weigh → (heap : Heap) (homes : List (Option ℕ)) (ids touched : List ℕ) →
    touched_weight weigh (compiled_heap heap) homes ids touched ≡ touched_weight weigh heap homes ids touched
unfolding touched_weight
touches_weigh weigh w heap homes [] touched = refl
touches_weigh weigh w heap homes (id ∷ ids) touched =
    let rest = touched_with homes id touched in
    let first = is_first_touch homes id touched in
    ap (λ (n : ℕ). (if first then n else 0) + touched_weight weigh (compiled_heap heap) homes ids rest)
    (ap (weight_at weigh) (object_compiled heap id) ∙ found_weighs weigh w (object_at heap id))
    ∙ ap (λ (n : ℕ). (if first then weight_at weigh (object_at heap id) else 0) + n) (touches_weigh weigh w heap homes ids rest)

pub touching_compiled : (ids : List ℕ) (held : Held) → WeighsUnits held.weigh → touching ids (compiled_held held) ≡ compiled_held (touching ids held)
touching_compiled ids held w =
    ap (λ (n : ℕ). record (compiled_held held) { touched = touched_after held.homes ids held.touched; counted = held.counted + n })
    (touches_weigh held.weigh w held.objects held.homes ids held.touched)

pub denoted_compiled : (v : Value) → denoted (compiled v) ≡ denoted v
denoted_compiled (Procedure does scope) = refl
denoted_compiled v = refl

pub reading_compiled : (v : Value) (held : Held) → WeighsUnits held.weigh → reading (compiled v) (compiled_held held) ≡ compiled_held (reading v held)
reading_compiled v held w =
    ap (λ (ids : List ℕ). touching ids (compiled_held held)) (denoted_compiled v) ∙ touching_compiled (denoted v) held w

way_compiled : (heap : Heap) (scope : Option ℕ) (up : ℕ) → way_out (compiled_heap heap) scope up ≡ way_out heap scope up
unfolding way_out
way_compiled heap None up = refl
way_compiled heap (Some id) zero = refl
way_compiled heap (Some id) (suc up) =
    ap (λ (ids : List ℕ). id ∷ ids)
    (ap (λ (of : Option ℕ). way_out (compiled_heap heap) of up) (ap parent_in (object_compiled heap id) ∙ parent_compiled (object_at heap id))
    ∙ way_compiled heap (parent_in (object_at heap id)) up)

-- Names that scopes keep.

pub reading_name_compiled : (scope : Option ℕ) (up position : ℕ) (held : Held) → WeighsUnits held.weigh →
    reading_name scope up position (compiled_held held) ≡ compiled_held (reading_name scope up position held)
reading_name_compiled scope up position held w =
    let heap = held.objects in
    let name = kept_name heap scope up position in
    ap (λ (ids : List ℕ). touching ids (compiled_held held))
    (ap (λ (ids : List ℕ). ids ++ denoted (kept_name (compiled_heap heap) scope up position)) (way_compiled heap scope up)
    ∙ ap (λ (ids : List ℕ). way_out heap scope up ++ ids)
    (ap denoted (kept_name_compiled heap scope up position) ∙ denoted_compiled name))
    ∙ touching_compiled (way_out heap scope up ++ denoted name) held w

-- where the machine's value is kept as the meaning's is
pub assigned_name_compiled : (scope : Option ℕ) (up position : ℕ) (x v : Value) (held : Held) → WeighsUnits held.weigh →
    with_kept_name (compiled_heap held.objects) scope up position x ≡ compiled_heap (with_kept_name held.objects scope up position v) →
    assigned_name scope up position x (compiled_held held) ≡ compiled_held (assigned_name scope up position v held)
assigned_name_compiled scope up position x v held w same =
    let heap = held.objects in
    let ids = way_out heap scope up in
    let put : Held → Heap → Option ℕ → Held =
    λ now objects out. record now { objects = objects; assigned = places_with_name held.homes out position held.assigned } in
    let machine = with_kept_name (compiled_heap heap) scope up position x in
    ap (λ (now : Held). put now machine (scope_out (compiled_heap heap) scope up))
    (ap (λ (way : List ℕ). touching way (compiled_held held)) (way_compiled heap scope up) ∙ touching_compiled ids held w)
    ∙ ap (put (compiled_held (touching ids held)) machine) (out_compiled heap scope up)
    ∙ ap (λ (objects : Heap). put (compiled_held (touching ids held)) objects (scope_out heap scope up)) same

-- Places.

pub id_compiled : (v : Value) → id_of (compiled v) ≡ id_of v
id_compiled (Procedure does scope) = refl
id_compiled v = refl

pub element_place_compiled : (heap : Heap) (v : Value) (at : ℤ) → element_place (compiled_heap heap) (compiled v) at ≡ element_place heap v at
element_place_compiled heap v at =
    let vector = vector_in heap v in
    ap (λ (found : Option Object). Part (id_of (compiled v)) (place_or_first (place_of (low_in found) (length (elements_in found)) at))) (found_compiled heap v)
    ∙ ap (λ (place : Option ℕ). Part (id_of (compiled v)) (place_or_first place)) (place_compiled vector at)
    ∙ ap (λ (id : ℕ). Part id (place_or_first (place_of (low_in vector) (length (elements_in vector)) at))) (id_compiled v)
