-- A commit over what the machine holds decides what it decides over what the meaning holds, and the heap that it saves is the same, compiled.
use Rattle.std.proofs.Common.{◌≡◌, ℕ, Bool, true, false, not, List, [], ◌∷◌, ◌++◌, length, Option, Some, None, refl, ap, ◌∙◌}
use Rattle.std.specs.Prelude.{◌&&◌, if◌then◌else◌}
use Rattle.std.proofs.lemmas.List.{length-map}
use Rattle.ps_stepping.specs.ps_heap.reaching.Reaching.{Source, is_in, first_source}
use Rattle.ps_stepping.specs.ps_heap.Values.{Value, Procedure}
use Rattle.ps_stepping.specs.ps_heap.Objects.{Heap, Object, object_at}
use Rattle.ps_stepping.specs.ps_heap.Scopes.{parent_in}
use Rattle.ps_stepping.specs.ps_heap.References.{scope_ids, value_ids, values_ids, values_of, object_ids, next_in}
use Rattle.ps_stepping.specs.ps_heap.Databases.{database_at, root_of, open_for_writing}
use Rattle.ps_stepping.specs.ps_heap.Held.{Place, object_of, Held, home_at, StoredHeap, row}
use Rattle.ps_stepping.specs.ps_heap.Commit.{loose_from, loose, after_places, at_home, source_of, sources, first_database, created_with, or_else, home_after, homes_after, are_writable, is_empty, Decision, NotWritable, NothingToDo, Saves, saved, decision}
use Rattle.ps_code_laws.specs.Compiled.{compiled, compiled_all, compiled_object, compiled_heap, compiled_held, compiled_stored}
use Rattle.ps_code_laws.proofs.Compiling.{compiled_found, object_compiled, parent_compiled}
use Rattle.ps_code_laws.proofs.HeldCompiling.{places_compiled}

-- One step of reference.

value_refers : (v : Value) → value_ids (compiled v) ≡ value_ids v
value_refers (Procedure does scope) = refl
value_refers v = refl

values_refer : (vs : List Value) → values_ids (compiled_all vs) ≡ values_ids vs
values_refer [] = refl
values_refer (v ∷ vs) =
    ap (λ (ids : List ℕ). ids ++ values_ids (compiled_all vs)) (value_refers v) ∙ ap (λ (ids : List ℕ). value_ids v ++ ids) (values_refer vs)

object_refers : (found : Option Object) → object_ids (compiled_found found) ≡ object_ids found
object_refers None = refl
object_refers (Some object) =
    ap (λ (parent : Option ℕ). scope_ids parent ++ values_ids (values_of (compiled_object object))) (parent_compiled (Some object))
    ∙ ap (λ (ids : List ℕ). scope_ids (parent_in (Some object)) ++ ids) (ap values_ids (places_compiled object) ∙ values_refer (values_of object))

refers : (heap : Heap) (id : ℕ) → next_in (compiled_heap heap) id ≡ next_in heap id
unfolding next_in
refers heap id = ap object_ids (object_compiled heap id) ∙ object_refers (object_at heap id)

pub next_compiled : (heap : Heap) → next_in (compiled_heap heap) ≡ next_in heap
next_compiled heap = λ i id. refers heap id i

places_refer : (heap : Heap) (places : List Place) → after_places (compiled_heap heap) places ≡ after_places heap places
unfolding after_places
places_refer heap [] = refl
places_refer heap (place ∷ places) =
    ap (λ (ids : List ℕ). ids ++ after_places (compiled_heap heap) places) (refers heap (object_of place))
    ∙ ap (λ (ids : List ℕ). next_in heap (object_of place) ++ ids) (places_refer heap places)

-- Homes.

loose_compiled : (held : Held) → loose (compiled_held held) ≡ loose held
unfolding loose
loose_compiled held = ap (loose_from held.homes 0) (length-map held.objects compiled_object)

source_compiled : (held : Held) (number : ℕ) → source_of (compiled_held held) number ≡ source_of held number
unfolding source_of
source_compiled held number =
    let first = if is_in number held.created then root_of (database_at held.directory number) else [] in
    ap (λ (ids : List ℕ). record { number = number; starts = first ++ ids }) (places_refer held.objects (at_home held.homes number held.assigned))

sources_compiled : (held : Held) (numbers : List ℕ) → sources (compiled_held held) numbers ≡ sources held numbers
unfolding sources
sources_compiled held [] = refl
sources_compiled held (number ∷ numbers) =
    ap (λ (of : Source). of ∷ sources (compiled_held held) numbers) (source_compiled held number)
    ∙ ap (λ (all : List Source). source_of held number ∷ all) (sources_compiled held numbers)

first_compiled : (held : Held) (id : ℕ) → first_database (compiled_held held) id ≡ first_database held id
unfolding first_database
first_compiled held id =
    let numbers = open_for_writing held.openings in
    ap (λ (next : ℕ → List ℕ). first_source next (loose (compiled_held held)) (sources (compiled_held held) numbers) id) (next_compiled held.objects)
    ∙ ap (λ (ids : List ℕ). first_source (next_in held.objects) ids (sources (compiled_held held) numbers) id) (loose_compiled held)
    ∙ ap (λ (all : List Source). first_source (next_in held.objects) (loose held) all id) (sources_compiled held numbers)

home_compiled : (held : Held) (id : ℕ) → home_after (compiled_held held) id ≡ home_after held id
unfolding home_after
home_compiled held id =
    ap (λ (home : Option ℕ). or_else (home_at held.homes id) (or_else (created_with held.directory held.created id) home)) (first_compiled held id)

homes_compiled : (held : Held) → homes_after (compiled_held held) ≡ homes_after held
unfolding homes_after
homes_compiled held =
    ap (row (home_after (compiled_held held)) 0) (length-map held.objects compiled_object)
    ∙ ap (λ (home : ℕ → Option ℕ). row home 0 (length held.objects)) (λ i id. home_compiled held id i)

-- The decision.

abbrev pub compiled_decision : Decision → Decision
compiled_decision NotWritable = NotWritable
compiled_decision NothingToDo = NothingToDo
compiled_decision (Saves heap) = Saves (compiled_stored heap)

saved_compiled : (held : Held) → saved (compiled_held held) ≡ compiled_stored (saved held)
unfolding saved
saved_compiled held =
    ap (λ (homes : List (Option ℕ)). record { objects = compiled_heap held.objects; homes = homes; directory = held.directory }) (homes_compiled held)

decided : (refuses nothing : Bool) (heap : StoredHeap) →
    (if refuses then NotWritable else if nothing then NothingToDo else Saves (compiled_stored heap))
    ≡ compiled_decision (if refuses then NotWritable else if nothing then NothingToDo else Saves heap)
decided true nothing heap = refl
decided false true heap = refl
decided false false heap = refl

pub decision_compiled : (held : Held) → decision (compiled_held held) ≡ compiled_decision (decision held)
unfolding decision
decision_compiled held =
    let refuses = not (are_writable held.homes (open_for_writing held.openings) held.assigned) in
    let nothing = is_empty held.assigned && is_empty held.created in
    ap (λ (heap : StoredHeap). if refuses then NotWritable else if nothing then NothingToDo else Saves heap) (saved_compiled held)
    ∙ decided refuses nothing (saved held)
