-- The procedures of the library but the scans, and what those over tables and databases do to what is held, and answer.
use Rattle.std.specs.Prelude.{ℕ, zero, suc, ◌++◌, List, [], ◌∷◌, Option, Some, None}
use Rattle.ps_heap.specs.Texts.{Attempt, Yields}
use Rattle.ps_heap.specs.Tables.{string_key, int_key, on_yield}
use Rattle.ps_heap.specs.Values.{Value, Nothing, word_of, bytes_of}
use Rattle.ps_heap.specs.Objects.{value_at}
use Rattle.ps_heap.specs.Held.{Held}
use Rattle.ps_heap.specs.Calls.{Answer, answer_of, new_table, enter_call, lookup_call, cardinality_call, asks_to_create, asks_to_open, create_answer, open_answer, commit_call}

-- a procedure over tables and databases
pub data HeapProcedure : Type 0 where
  CreateDatabase OpenDatabase Commit MakeTable EnterString LookUpString EnterInt LookUpInt Cardinality : HeapProcedure

pub data LibraryProcedure : Type 0 where
  OnHeap : (of : HeapProcedure) → LibraryProcedure
  ReadLine AtEnd Length IntText : LibraryProcedure

-- the procedures in the order of their numbers, from 0, in the typed tree and in code
abbrev pub library_procedures : List LibraryProcedure
library_procedures =
    OnHeap CreateDatabase ∷ OnHeap OpenDatabase ∷ OnHeap Commit ∷ OnHeap MakeTable ∷ OnHeap EnterString ∷ OnHeap LookUpString ∷ OnHeap EnterInt
    ∷ OnHeap LookUpInt ∷ OnHeap Cardinality ∷ ReadLine ∷ AtEnd ∷ Length ∷ IntText ∷ []

abbrev pub procedure_in : List LibraryProcedure → ℕ → Option LibraryProcedure
procedure_in [] number = None
procedure_in (first ∷ more) zero = Some first
procedure_in (first ∷ more) (suc number) = procedure_in more number

-- the procedure of a number
unfoldable pub library_procedure : ℕ → Option LibraryProcedure
library_procedure number = procedure_in library_procedures number

-- an argument as a text, and as an int
abbrev pub text_argument : List Value → ℕ → List ℕ
text_argument args n = bytes_of (value_at args n)

-- a call on databases asks, and is answered afterwards
abbrev pub then_answered : Answer → (Held → Answer) → Answer
then_answered asked answer = let answered = answer asked.held in record answered { events = asked.events ++ answered.events }

-- what a call with these arguments answers, or the trap that it ends in
unfoldable pub heap_call : HeapProcedure → List Value → Held → Attempt Answer
heap_call CreateDatabase args h =
    let name = text_argument args 0 in Yields (then_answered (asks_to_create name h) (create_answer name (text_argument args 1)))
heap_call OpenDatabase args h =
    let name = text_argument args 0 in
    let mode = text_argument args 2 in
    Yields (then_answered (asks_to_open name mode h) (open_answer name (text_argument args 1) mode))
heap_call Commit args h = Yields (commit_call h)
heap_call MakeTable args h = Yields (new_table h)
heap_call EnterString args h = on_yield (enter_call (string_key (text_argument args 0)) (value_at args 1) (value_at args 2) h) (answer_of Nothing)
heap_call LookUpString args h = lookup_call (string_key (text_argument args 0)) (value_at args 1) h
heap_call EnterInt args h = on_yield (enter_call (int_key (word_of (value_at args 0))) (value_at args 1) (value_at args 2) h) (answer_of Nothing)
heap_call LookUpInt args h = lookup_call (int_key (word_of (value_at args 0))) (value_at args 1) h
heap_call Cardinality args h = cardinality_call (value_at args 0) h
