-- Creating and opening databases, computed.
use Rattle.std.proofs.Common.{◌≡◌, ℕ, List, [], ◌∷◌, refl, Some, None}
use Rattle.std.specs.Prelude.{codes, replicate}
use Rattle.reaching.specs.Reaching.{is_in}
use Rattle.ps_heap.specs.Databases.{Directory, Reading, Writing, Opening, mode_of, each_once, open_for_writing, BadName, BadPassword, Exists, TooMany, NoSuchDatabase, WrongPassword, BadMode, create_fault, Admits, Refuses, admission}

abbrev long : ℕ → List ℕ
long n = replicate n 97

abbrev of_d : Directory
of_d = record { name = codes "d"; password = codes "pw"; root = 5 } ∷ []

-- as many databases as a volume holds
abbrev many : Directory
many = replicate 256 (record { name = codes "d"; password = codes "pw"; root = 5 })

-- Creating: each fault, and each before those after it.
no_name : create_fault many [] (long 65) ≡ Some BadName
unfolding create_fault
no_name = refl

long_name : create_fault many (long 65) (long 65) ≡ Some BadName
unfolding create_fault
long_name = refl

long_password : create_fault many (codes "d") (long 65) ≡ Some BadPassword
unfolding create_fault
long_password = refl

there_already : create_fault many (codes "d") (codes "pw") ≡ Some Exists
unfolding create_fault
there_already = refl

no_more : create_fault many (codes "e") (codes "pw") ≡ Some TooMany
unfolding create_fault
no_more = refl

longest_name_and_password : create_fault of_d (long 64) (long 64) ≡ None
unfolding create_fault
longest_name_and_password = refl

empty_password : create_fault [] (codes "d") [] ≡ None
unfolding create_fault
empty_password = refl

-- Opening: the same.
no_such : admission of_d (codes "e") (codes "px") (codes "both") ≡ Refuses NoSuchDatabase
unfolding admission
no_such = refl

another_password : admission of_d (codes "d") (codes "px") (codes "both") ≡ Refuses WrongPassword
unfolding admission
another_password = refl

no_mode : admission of_d (codes "d") (codes "pw") (codes "both") ≡ Refuses BadMode
unfolding admission
no_mode = refl

for_reading : admission of_d (codes "d") (codes "pw") (codes "read") ≡ Admits (record { number = 1; database = record { name = codes "d"; password = codes "pw"; root = 5 } }) Reading
unfolding admission
for_reading = refl

for_writing : admission of_d (codes "d") (codes "pw") (codes "write") ≡ Admits (record { number = 1; database = record { name = codes "d"; password = codes "pw"; root = 5 } }) Writing
unfolding admission
for_writing = refl

-- The order is that in which databases became open for writing: 2 was opened for reading first.
abbrev openings : List Opening
openings = record { number = 2; mode = Reading } ∷ record { number = 3; mode = Writing } ∷ record { number = 2; mode = Writing } ∷ record { number = 3; mode = Reading } ∷ record { number = 1; mode = Reading } ∷ []

in_order_of_writing : open_for_writing openings ≡ 3 ∷ 2 ∷ []
unfolding each_once is_in
in_order_of_writing = refl

for_writing_from_then_on : mode_of openings 2 ≡ Some Writing
unfolding is_in
for_writing_from_then_on = refl

stays_for_writing : mode_of openings 3 ≡ Some Writing
unfolding is_in
stays_for_writing = refl

read_alone : mode_of openings 1 ≡ Some Reading
unfolding is_in
read_alone = refl

not_open : mode_of openings 4 ≡ None
unfolding is_in
not_open = refl

opened_twice_stands_once : open_for_writing (record { number = 2; mode = Writing } ∷ record { number = 1; mode = Writing } ∷ record { number = 2; mode = Writing } ∷ []) ≡ 2 ∷ 1 ∷ []
unfolding each_once is_in
opened_twice_stands_once = refl
