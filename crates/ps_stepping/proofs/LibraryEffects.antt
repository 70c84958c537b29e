-- Each call of the library takes from the stacks and leaves on them what the table says.
use Rattle.std.proofs.Common.{◌≡◌, ℕ, zero, suc, ◌+◌, ℤ, List, [], ◌∷◌, length, refl, ap, arith}
use Rattle.std.specs.Prelude.{pos, nat_lt, if◌then◌else◌}
use Rattle.std.specs.Fmt.{signed_decimal}
use Rattle.ps_code.specs.ps_base.declared.line.Line.{Line}
use Rattle.ps_heap.specs.Texts.{line_read, behind_line, is_at_end}
use Rattle.ps_heap.specs.Values.{Value, Num, Text, word_of, number_of}
use Rattle.ps_heap.specs.Calls.{Answer}
use Rattle.ps_heap.specs.Library.{HeapProcedure, CreateDatabase, OpenDatabase, Commit, MakeTable, EnterString, LookUpString, EnterInt, LookUpInt, Cardinality, library_procedure, heap_call}
use Rattle.ps_meaning.specs.Meaning.{and_text, on_input}
use Rattle.ps_stepping.specs.Config.{frame_words, Config, frame_in}
use Rattle.ps_stepping.specs.Steps.{Step, Goes, Stuck, push_num, pop_num, pop_text, attempted}
use Rattle.ps_stepping.specs.Objects.{holding, make_text, pop_object}
use Rattle.ps_stepping.specs.Library.{text_length, int_text, read_line, at_end, answering, gives_nothing, gives_num, gives_ref, answered_by, call_on_heap, library}
use Rattle.ps_stepping.specs.Effects.{Effect, nums, refs, both, library_effect, HasEffect}
use Rattle.ps_stepping.proofs.Popping.{Does, does_if, popped_num, popped_text}
use Rattle.ps_stepping.proofs.ObjectEffects.{popped_object, does_attempted, ends_num, ends_ref}

does_read_line : (line : Line) (c : Config) → Does (refs 0 1) c (read_line line c)
does_read_line line c =
    let d = holding (on_input (behind_line c.store.input) c.store) c in
    does_attempted (refs 0 1) c line (line_read c.store.input) (λ bytes. make_text bytes d)
    (λ bytes. ends_ref (refs 0 1) c (holding (and_text bytes d.store) d) (Text bytes) (record { nums = refl; refs = omega arith }))

does_at_end : (c : Config) → Does (nums 0 1) c (at_end c)
does_at_end c = ends_num (nums 0 1) c c (number_of (is_at_end c.store.input)) (record { nums = omega arith; refs = refl })

does_text_length : (c : Config) → Does (both 0 1 1 0) c (text_length c)
does_text_length c =
    popped_text (both 0 1 1 0) c c (λ a d. push_num (pos (length a)) d)
    (λ a rest is. ends_num (both 0 1 1 0) c (record c { refs = rest }) (pos (length a)) (record { nums = omega arith; refs = omega (arith, is) }))

does_int_text : (c : Config) → Does (both 1 0 0 1) c (int_text c)
does_int_text c =
    popped_num (both 1 0 0 1) c c (λ z d. make_text (signed_decimal z) d)
    (λ z rest is. ends_ref (both 1 0 0 1) c (holding (and_text (signed_decimal z) c.store) (record c { nums = rest })) (Text (signed_decimal z))
    (record { nums = omega (arith, ap length is); refs = omega arith }))

-- An answer is pushed, or there is none.

does_give_ref : (e : Effect) (c d : Config) (a : Answer) → HasEffect e c (answering a (record d { refs = a.value ∷ d.refs })) → Does e c (gives_ref a d)
does_give_ref e c d a h =
    does_if e c (nat_lt ((frame_in d.unit).refs + length d.refs) frame_words) (Goes a.events (answering a (record d { refs = a.value ∷ d.refs }))) Stuck h tt

does_give_num : (e : Effect) (c d : Config) (a : Answer) → HasEffect e c (answering a (record d { nums = word_of a.value ∷ d.nums })) → Does e c (gives_num a d)
does_give_num e c d a h =
    does_if e c (nat_lt ((frame_in d.unit).nums + length d.nums) frame_words) (Goes a.events (answering a (record d { nums = word_of a.value ∷ d.nums }))) Stuck h tt

does_answered : (e : Effect) (c d : Config) (of : HeapProcedure) (line : Line) (gives : Answer → Config → Step) (args : List Value)
    → ((a : Answer) → Does e c (gives a d)) → Does e c (answered_by of line gives args d)
does_answered e c d of line gives args h = does_attempted e c line (heap_call of args d.store.held) (λ a. gives a d) h

-- Calls on tables and databases.

does_create : (line : Line) (c : Config) → Does (refs 2 1) c (call_on_heap CreateDatabase line c)
does_create line c =
    let e = refs 2 1 in
    popped_text e c c (λ password d. pop_text d (λ name f. answered_by CreateDatabase line gives_ref (Text name ∷ Text password ∷ []) f))
    (λ password rest is. popped_text e c (record c { refs = rest }) (λ name f. answered_by CreateDatabase line gives_ref (Text name ∷ Text password ∷ []) f)
    (λ name below is'. does_answered e c (record c { refs = below }) CreateDatabase line gives_ref (Text name ∷ Text password ∷ [])
    (λ a. does_give_ref e c (record c { refs = below }) a (record { nums = refl; refs = omega (arith, is, is') }))))

does_open : (line : Line) (c : Config) → Does (refs 3 1) c (call_on_heap OpenDatabase line c)
does_open line c =
    let e = refs 3 1 in
    popped_text e c c (λ mode d. pop_text d (λ password f. pop_text f (λ name g.
    answered_by OpenDatabase line gives_ref (Text name ∷ Text password ∷ Text mode ∷ []) g)))
    (λ mode rest is. popped_text e c (record c { refs = rest }) (λ password f. pop_text f (λ name g.
    answered_by OpenDatabase line gives_ref (Text name ∷ Text password ∷ Text mode ∷ []) g))
    (λ password below is'. popped_text e c (record c { refs = below }) (λ name g.
    answered_by OpenDatabase line gives_ref (Text name ∷ Text password ∷ Text mode ∷ []) g)
    (λ name left is''. does_answered e c (record c { refs = left }) OpenDatabase line gives_ref (Text name ∷ Text password ∷ Text mode ∷ [])
    (λ a. does_give_ref e c (record c { refs = left }) a (record { nums = refl; refs = omega (arith, is, is', is'') })))))

does_made : (of : HeapProcedure) (line : Line) (c : Config) → Does (refs 0 1) c (answered_by of line gives_ref [] c)
does_made of line c = does_answered (refs 0 1) c c of line gives_ref [] (λ a. does_give_ref (refs 0 1) c c a (record { nums = refl; refs = omega arith }))

does_enter_string : (line : Line) (c : Config) → Does (refs 3 0) c (call_on_heap EnterString line c)
does_enter_string line c =
    let e = refs 3 0 in
    let call : Value → Value → List ℕ → Config → Step = λ v table key g. answered_by EnterString line gives_nothing (Text key ∷ table ∷ v ∷ []) g in
    popped_object e c c (λ v d. pop_object d (λ table f. pop_text f (λ key g. call v table key g)))
    (λ v rest is. popped_object e c (record c { refs = rest }) (λ table f. pop_text f (λ key g. call v table key g))
    (λ table below is'. popped_text e c (record c { refs = below }) (λ key g. call v table key g)
    (λ key left is''. does_answered e c (record c { refs = left }) EnterString line gives_nothing (Text key ∷ table ∷ v ∷ [])
    (λ a. record { nums = refl; refs = omega (arith, is, is', is'') }))))

does_look_up_string : (line : Line) (c : Config) → Does (refs 2 1) c (call_on_heap LookUpString line c)
does_look_up_string line c =
    let e = refs 2 1 in
    popped_object e c c (λ table d. pop_text d (λ key f. answered_by LookUpString line gives_ref (Text key ∷ table ∷ []) f))
    (λ table rest is. popped_text e c (record c { refs = rest }) (λ key f. answered_by LookUpString line gives_ref (Text key ∷ table ∷ []) f)
    (λ key below is'. does_answered e c (record c { refs = below }) LookUpString line gives_ref (Text key ∷ table ∷ [])
    (λ a. does_give_ref e c (record c { refs = below }) a (record { nums = refl; refs = omega (arith, is, is') }))))

does_enter_int : (line : Line) (c : Config) → Does (both 1 0 2 0) c (call_on_heap EnterInt line c)
does_enter_int line c =
    let e = both 1 0 2 0 in
    let call : Value → Value → ℤ → Config → Step = λ v table key g. answered_by EnterInt line gives_nothing (Num key ∷ table ∷ v ∷ []) g in
    popped_object e c c (λ v d. pop_object d (λ table f. pop_num f (λ key g. call v table key g)))
    (λ v rest is. popped_object e c (record c { refs = rest }) (λ table f. pop_num f (λ key g. call v table key g))
    (λ table below is'. popped_num e c (record c { refs = below }) (λ key g. call v table key g)
    (λ key left is''. does_answered e c (record c { nums = left; refs = below }) EnterInt line gives_nothing (Num key ∷ table ∷ v ∷ [])
    (λ a. record { nums = omega (arith, ap length is''); refs = omega (arith, is, is') }))))

does_look_up_int : (line : Line) (c : Config) → Does (both 1 0 1 1) c (call_on_heap LookUpInt line c)
does_look_up_int line c =
    let e = both 1 0 1 1 in
    popped_object e c c (λ table d. pop_num d (λ key f. answered_by LookUpInt line gives_ref (Num key ∷ table ∷ []) f))
    (λ table rest is. popped_num e c (record c { refs = rest }) (λ key f. answered_by LookUpInt line gives_ref (Num key ∷ table ∷ []) f)
    (λ key below is'. does_answered e c (record c { nums = below; refs = rest }) LookUpInt line gives_ref (Num key ∷ table ∷ [])
    (λ a. does_give_ref e c (record c { nums = below; refs = rest }) a (record { nums = omega (arith, ap length is'); refs = omega (arith, is) }))))

does_cardinality : (line : Line) (c : Config) → Does (both 0 1 1 0) c (call_on_heap Cardinality line c)
does_cardinality line c =
    let e = both 0 1 1 0 in
    popped_object e c c (λ table d. answered_by Cardinality line gives_num (table ∷ []) d)
    (λ table rest is. does_answered e c (record c { refs = rest }) Cardinality line gives_num (table ∷ [])
    (λ a. does_give_num e c (record c { refs = rest }) a (record { nums = omega arith; refs = omega (arith, is) })))

pub does_library : (k : ℕ) (line : Line) (c : Config) → Does (library_effect k) c (library k line c)
unfolding library_procedure
does_library zero line c = does_create line c
does_library (suc zero) line c = does_open line c
does_library (suc (suc zero)) line c = does_made Commit line c
does_library (suc (suc (suc zero))) line c = does_made MakeTable line c
does_library (suc (suc (suc (suc zero)))) line c = does_enter_string line c
does_library (suc (suc (suc (suc (suc zero))))) line c = does_look_up_string line c
does_library (suc (suc (suc (suc (suc (suc zero)))))) line c = does_enter_int line c
does_library (suc (suc (suc (suc (suc (suc (suc zero))))))) line c = does_look_up_int line c
does_library (suc (suc (suc (suc (suc (suc (suc (suc zero)))))))) line c = does_cardinality line c
does_library (suc (suc (suc (suc (suc (suc (suc (suc (suc zero))))))))) line c = does_read_line line c
does_library (suc (suc (suc (suc (suc (suc (suc (suc (suc (suc zero)))))))))) line c = does_at_end c
does_library (suc (suc (suc (suc (suc (suc (suc (suc (suc (suc (suc zero))))))))))) line c = does_text_length c
does_library (suc (suc (suc (suc (suc (suc (suc (suc (suc (suc (suc (suc zero)))))))))))) line c = does_int_text c
does_library (suc (suc (suc (suc (suc (suc (suc (suc (suc (suc (suc (suc (suc k))))))))))))) line c = tt
