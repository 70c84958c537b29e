-- Tables, computed.
use Rattle.std.proofs.Common.{◌≡◌, ℕ, ℤ, [], ◌∷◌, refl, pos, Some, None}
use Rattle.std.specs.Prelude.{codes, negsuc}
use Rattle.ps_base.specs.declared.trap.Trap.TheVariants.{KeyKind, WrongClass}
use Rattle.ps_base.specs.declared.trap.Trap.TheVariants as trap
use Rattle.ps_heap.specs.Values.{Num, Nil, Pointer}
use Rattle.ps_heap.specs.Texts.{Yields, Fails}
use Rattle.ps_heap.specs.Tables.{string_key, int_key, Entry, Table, without_keys, by_strings, by_ints, IsInKeyOrder, entered, looked_up, next_string, next_int, cardinality}
use Rattle.ps_heap.specs.Objects.{Heap, Structure, Elements, Keyed, table_of}
use Rattle.ps_heap.proofs.Scenes.{entry}

abbrev at : ℤ → ℕ → Entry ℤ
at key object = record { key = key; object = object }

-- Keys come in the order of their bytes: a proper prefix is less.
abbrev towns : Table
towns = by_strings (entry (codes "ab") 7 ∷ entry (codes "abc") 8 ∷ entry (codes "b") 9 ∷ [])

first_entry : entered (string_key (codes "abc")) (Some 8) without_keys ≡ Yields (by_strings (entry (codes "abc") 8 ∷ []))
unfolding entered
first_entry = refl

entered_between : entered (string_key (codes "abc")) (Some 8) (by_strings (entry (codes "ab") 7 ∷ entry (codes "b") 9 ∷ [])) ≡ Yields towns
unfolding entered
entered_between = refl

entered_anew : entered (string_key (codes "abc")) (Some 5) towns ≡ Yields (by_strings (entry (codes "ab") 7 ∷ entry (codes "abc") 5 ∷ entry (codes "b") 9 ∷ []))
unfolding entered
entered_anew = refl

found : looked_up (string_key (codes "abc")) towns ≡ Yields (Some 8)
unfolding looked_up
found = refl

missing : looked_up (string_key (codes "a")) towns ≡ Yields None
unfolding looked_up
missing = refl

nothing_there : looked_up (int_key (pos 1)) without_keys ≡ Yields None
unfolding looked_up
nothing_there = refl

-- ints come as numbers
ints_in_order : entered (int_key (negsuc 2)) (Some 4) (by_ints (at (negsuc 9) 1 ∷ at (pos 2) 2 ∷ [])) ≡ Yields (by_ints (at (negsuc 9) 1 ∷ at (negsuc 2) 4 ∷ at (pos 2) 2 ∷ []))
unfolding entered
ints_in_order = refl

-- Nil under a key takes the key away; a key that isn't there stays away.
taken_away : entered (string_key (codes "abc")) None towns ≡ Yields (by_strings (entry (codes "ab") 7 ∷ entry (codes "b") 9 ∷ []))
unfolding entered
taken_away = refl

not_there : entered (string_key (codes "c")) None towns ≡ Yields towns
unfolding entered
not_there = refl

-- A table keeps its kind of keys when its last entry goes; one that never had an entry has none, whatever nil was entered under.
emptied : entered (string_key (codes "a")) None (by_strings (entry (codes "a") 1 ∷ [])) ≡ Yields (by_strings [])
unfolding entered
emptied = refl

still_by_strings : entered (int_key (pos 1)) (Some 1) (by_strings []) ≡ Fails KeyKind
unfolding entered
still_by_strings = refl

nil_sets_no_kind : entered (string_key (codes "a")) None without_keys ≡ Yields without_keys
unfolding entered
nil_sets_no_kind = refl

kind_by_first_entry : entered (int_key (pos 1)) (Some 1) without_keys ≡ Yields (by_ints (at (pos 1) 1 ∷ []))
unfolding entered
kind_by_first_entry = refl

-- Keys of the other kind are a trap for each call.
string_entered_by_ints : entered (string_key (codes "a")) (Some 1) (by_ints (at (pos 1) 1 ∷ [])) ≡ Fails KeyKind
unfolding entered
string_entered_by_ints = refl

nil_entered_by_ints : entered (string_key (codes "a")) None (by_ints []) ≡ Fails KeyKind
unfolding entered
nil_entered_by_ints = refl

int_looked_up_by_strings : looked_up (int_key (pos 1)) towns ≡ Fails KeyKind
unfolding looked_up
int_looked_up_by_strings = refl

string_looked_up_by_ints : looked_up (string_key (codes "a")) (by_ints []) ≡ Fails KeyKind
unfolding looked_up
string_looked_up_by_ints = refl

scanned_by_ints : next_int None towns ≡ Fails KeyKind
unfolding next_int
scanned_by_ints = refl

scanned_by_strings : next_string None (by_ints []) ≡ Fails KeyKind
unfolding next_string
scanned_by_strings = refl

-- The next key: the least of all, the least above one, above one that is gone, and none above the greatest.
least : next_string None towns ≡ Yields (Some (entry (codes "ab") 7))
unfolding next_string
least = refl

next_above : next_string (Some (codes "ab")) towns ≡ Yields (Some (entry (codes "abc") 8))
unfolding next_string
next_above = refl

above_one_that_is_gone : next_string (Some (codes "aa")) towns ≡ Yields (Some (entry (codes "ab") 7))
unfolding next_string
above_one_that_is_gone = refl

greatest_is_found : next_string (Some (codes "abc")) towns ≡ Yields (Some (entry (codes "b") 9))
unfolding next_string
greatest_is_found = refl

none_above_the_greatest : next_string (Some (codes "b")) towns ≡ Yields None
unfolding next_string
none_above_the_greatest = refl

next_of_ints : next_int (Some (negsuc 9)) (by_ints (at (negsuc 9) 1 ∷ at (pos 2) 2 ∷ [])) ≡ Yields (Some (at (pos 2) 2))
unfolding next_int
next_of_ints = refl

none_without_keys : next_int None without_keys ≡ Yields None
unfolding next_int
none_without_keys = refl

three : cardinality towns ≡ 3
unfolding cardinality
three = refl

none_yet : cardinality without_keys ≡ 0
unfolding cardinality
none_yet = refl

-- What denotes a table: nil doesn't, nor does a structure, nor a vector.
abbrev heap : Heap
heap = Structure (codes "box(int n)") (Num (pos 1) ∷ []) ∷ Keyed towns ∷ Elements (codes "*int") (pos 1) (Num (pos 1) ∷ []) ∷ []

a_table : table_of heap (Pointer 1) ≡ Yields towns
unfolding table_of
a_table = refl

nil_is_no_table : table_of heap Nil ≡ Fails trap.Nil
unfolding table_of
nil_is_no_table = refl

a_structure_is_no_table : table_of heap (Pointer 0) ≡ Fails WrongClass
unfolding table_of
a_structure_is_no_table = refl

-- Entries stand with the least key first, for both kinds of keys.
strings_stand_in_order : IsInKeyOrder towns
strings_stand_in_order = ((refl, (refl, tt)), ((refl, tt), (tt, tt)))

ints_stand_in_order : IsInKeyOrder (by_ints (at (negsuc 9) 1 ∷ at (pos 2) 2 ∷ []))
ints_stand_in_order = ((refl, tt), (tt, tt))
