-- What the machine does with calls of the library. Where what it finds on a stack isn't of the kind that the procedure wants, it is stuck.
use Rattle.std.specs.Prelude.{ℕ, ◌+◌, pos, List, [], ◌∷◌, length, nat_lt, Option, Some, None, if◌then◌else◌}
use Rattle.std.specs.Fmt.{signed_decimal}
use Rattle.ps_code.specs.ps_base.declared.line.Line.{Line}
use Rattle.ps_heap.specs.Texts.{line_read, behind_line, is_at_end}
use Rattle.ps_heap.specs.Values.{Value, Num, Text, word_of, number_of}
use Rattle.ps_heap.specs.Calls.{Answer}
use Rattle.ps_heap.specs.Library.{HeapProcedure, CreateDatabase, OpenDatabase, Commit, MakeTable, EnterString, LookUpString, EnterInt, LookUpInt, Cardinality, LibraryProcedure, OnHeap, ReadLine, AtEnd, Length, IntText, library_procedure, heap_call}
use Rattle.ps_meaning.specs.Meaning.{on_held, on_input}
use Rattle.ps_stepping.specs.Config.{frame_words, Config, frame_in}
use Rattle.ps_stepping.specs.Steps.{Step, Goes, Stuck, push_num, pop_num, pop_text, attempted}
use Rattle.ps_stepping.specs.Objects.{holding, make_text, pop_object}

-- Texts and the input.

abbrev pub text_length : Config → Step
text_length c = pop_text c (λ a d. push_num (pos (length a)) d)

abbrev pub int_text : Config → Step
int_text c = pop_num c (λ z d. make_text (signed_decimal z) d)

-- the next line of the input, as a new text
abbrev pub read_line : Line → Config → Step
read_line line c =
    attempted line (line_read c.store.input) (λ bytes. make_text bytes (holding (on_input (behind_line c.store.input) c.store) c))

abbrev pub at_end : Config → Step
at_end c = push_num (number_of (is_at_end c.store.input)) c

-- Tables and databases. What a call answers is held from then on, and its value is pushed, where it gives one and there is room.

-- with what a call leaves
abbrev pub answering : Answer → Config → Config
answering a c = holding (on_held a.held c.store) c

abbrev pub gives_nothing : Answer → Config → Step
gives_nothing a c = Goes a.events (answering a c)

abbrev pub gives_num : Answer → Config → Step
gives_num a c =
    if nat_lt ((frame_in c.unit).nums + length c.nums) frame_words then Goes a.events (answering a (record c { nums = word_of a.value ∷ c.nums })) else Stuck

abbrev pub gives_ref : Answer → Config → Step
gives_ref a c =
    if nat_lt ((frame_in c.unit).refs + length c.refs) frame_words then Goes a.events (answering a (record c { refs = a.value ∷ c.refs })) else Stuck

abbrev pub answered_by : HeapProcedure → Line → (Answer → Config → Step) → List Value → Config → Step
answered_by of line gives args c = attempted line (heap_call of args c.store.held) (λ a. gives a c)

-- the arguments are popped, the last one first
abbrev pub call_on_heap : HeapProcedure → Line → Config → Step
call_on_heap CreateDatabase line c =
    pop_text c (λ password d. pop_text d (λ name e. answered_by CreateDatabase line gives_ref (Text name ∷ Text password ∷ []) e))
call_on_heap OpenDatabase line c =
    pop_text c (λ mode d. pop_text d (λ password e. pop_text e (λ name f.
    answered_by OpenDatabase line gives_ref (Text name ∷ Text password ∷ Text mode ∷ []) f)))
call_on_heap Commit line c = answered_by Commit line gives_ref [] c
call_on_heap MakeTable line c = answered_by MakeTable line gives_ref [] c
call_on_heap EnterString line c =
    pop_object c (λ v d. pop_object d (λ table e. pop_text e (λ key f. answered_by EnterString line gives_nothing (Text key ∷ table ∷ v ∷ []) f)))
call_on_heap LookUpString line c =
    pop_object c (λ table d. pop_text d (λ key e. answered_by LookUpString line gives_ref (Text key ∷ table ∷ []) e))
call_on_heap EnterInt line c =
    pop_object c (λ v d. pop_object d (λ table e. pop_num e (λ key f. answered_by EnterInt line gives_nothing (Num key ∷ table ∷ v ∷ []) f)))
call_on_heap LookUpInt line c =
    pop_object c (λ table d. pop_num d (λ key e. answered_by LookUpInt line gives_ref (Num key ∷ table ∷ []) e))
call_on_heap Cardinality line c = pop_object c (λ table d. answered_by Cardinality line gives_num (table ∷ []) d)

abbrev pub library_of : Option LibraryProcedure → Line → Config → Step
library_of (Some (OnHeap of)) line c = call_on_heap of line c
library_of (Some ReadLine) line c = read_line line c
library_of (Some AtEnd) line c = at_end c
library_of (Some Length) line c = text_length c
library_of (Some IntText) line c = int_text c
library_of None line c = Stuck

abbrev pub library : ℕ → Line → Config → Step
library code line c = library_of (library_procedure code) line c
