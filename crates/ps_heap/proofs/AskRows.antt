-- Asks and their replies, and events, computed.
use Rattle.std.proofs.Common.{◌≡◌, ◌++◌, ◌+◌, List, [], ◌∷◌, refl, pos, Some, None}
use Rattle.std.specs.Prelude.{codes}
use Rattle.ps_heap.specs.Values.{Value, Num, Text, Pointer}
use Rattle.reaching.specs.Reaching.{is_in, without, walk, reach, first_source}
use Rattle.ps_heap.specs.Tables.{entered, looked_up}
use Rattle.ps_heap.specs.Objects.{Structure, table_of}
use Rattle.ps_heap.specs.References.{next_in}
use Rattle.ps_heap.specs.Databases.{database_from, database_at, every_root, each_once, create_fault, admission}
use Rattle.ps_heap.specs.Weights.{routine_weight}
use Rattle.ps_heap.specs.Held.{Held, Reply, Free, Busy, Stale, StoredHeap, nothing_stored, is_among, home_at, assigned_part, row, reached_from_roots, started, touched_after, touched_weight, is_first_touch, places_with}
use Rattle.ps_heap.specs.Commit.{loose_from, loose, roots_of, after_places, at_home, source_of, sources, first_database, created_with, home_after, homes_after, are_writable, saved, decision}
use Rattle.ps_heap.specs.Events.{Event, Ask, Commit, ToCreate, ToOpen, Out, Turn, Finish, heap_after, outputs, series_events}
use Rattle.ps_heap.specs.Calls.{Answer, enter_call, lookup_call, asks_to_create, asks_to_open, create_answer, open_answer, commit_call}
use Rattle.ps_heap.proofs.Scenes.{part_of, entry, creates, opens, new_run, table_with, database}
use Rattle.ps_heap.specs.Ends.{Done, Trapped, OutOfTurns}
use Rattle.ps_base.specs.declared.trap.Trap.TheVariants.{Abort}

abbrev stored : StoredHeap
stored = record { objects = table_with (entry (codes "k") 1 ∷ []) ∷ Structure (codes "box(int n)") (Num (pos 1) ∷ []) ∷ []; homes = Some 1 ∷ Some 1 ∷ []; directory = database (codes "d") [] 0 ∷ [] }

abbrev replied : List Reply → Held
replied replies = started routine_weight replies 0 stored

abbrev fault_of : Answer → Value
fault_of answer = part_of answer.held answer.value 1

abbrev creates_e : List Reply → Answer
creates_e replies = creates (codes "e") [] (replied replies)

abbrev opens_d : List Reply → Answer
opens_d replies = opens (codes "d") [] (codes "write") (replied replies)

-- Free lets the answer stand, and so does the end of the replies.
free : (creates_e (Free ∷ [])).value ≡ Pointer 2
unfolding create_answer create_fault asks_to_create open_answer admission asks_to_open reached_from_roots row home_at every_root reach walk without is_in next_in touched_after touched_weight is_first_touch each_once
free = refl

none_left : (creates_e []).value ≡ Pointer 2
unfolding create_answer create_fault asks_to_create open_answer admission asks_to_open reached_from_roots row home_at every_root reach walk without is_in next_in touched_after touched_weight is_first_touch each_once
none_left = refl

reply_taken : (creates_e (Free ∷ Busy ∷ [])).held.replies ≡ Busy ∷ []
unfolding create_answer create_fault asks_to_create open_answer admission asks_to_open reached_from_roots row home_at every_root reach walk without is_in next_in touched_after touched_weight is_first_touch each_once
reply_taken = refl

-- Busy and Stale answer their error records, and change nothing else but the counted bytes.
busy : fault_of (creates_e (Busy ∷ [])) ≡ Text (codes "busy")
unfolding create_answer create_fault asks_to_create open_answer admission asks_to_open reached_from_roots row home_at every_root reach walk without is_in next_in touched_after touched_weight is_first_touch each_once
busy = refl

stale : fault_of (opens_d (Stale ∷ [])) ≡ Text (codes "stale")
unfolding create_answer create_fault asks_to_create open_answer admission asks_to_open reached_from_roots row home_at every_root reach walk without is_in next_in touched_after touched_weight is_first_touch each_once
stale = refl

nothing_made : (creates_e (Busy ∷ [])).held.directory ≡ stored.directory
unfolding create_answer create_fault asks_to_create open_answer admission asks_to_open reached_from_roots row home_at every_root reach walk without is_in next_in touched_after touched_weight is_first_touch each_once
nothing_made = refl

none_created : (creates_e (Busy ∷ [])).held.created ≡ []
unfolding create_answer create_fault asks_to_create open_answer admission asks_to_open reached_from_roots row home_at every_root reach walk without is_in next_in touched_after touched_weight is_first_touch each_once
none_created = refl

nothing_opened : (opens_d (Stale ∷ [])).held.openings ≡ []
unfolding create_answer create_fault asks_to_create open_answer admission asks_to_open reached_from_roots row home_at every_root reach walk without is_in next_in touched_after touched_weight is_first_touch each_once
nothing_opened = refl

-- the root, and a directory with one database more, are counted all the same; the root of a database that is opened is touched
counted_though_busy : (creates_e (Busy ∷ [])).held.counted ≡ (64 + 48 + 40) + 64 + 88 + 368
unfolding create_answer create_fault asks_to_create open_answer admission asks_to_open reached_from_roots row home_at every_root reach walk without is_in next_in touched_after touched_weight is_first_touch each_once
counted_though_busy = refl

touched_though_stale : (opens_d (Stale ∷ [])).held.counted ≡ 152 + 200 + 384
unfolding create_answer create_fault asks_to_create open_answer admission asks_to_open reached_from_roots row home_at every_root reach walk without is_in next_in touched_after touched_weight is_first_touch each_once
touched_though_stale = refl

-- A fault of the call comes before the reply, which is left for the next one.
fault_before_busy : fault_of (creates (codes "d") [] (replied (Busy ∷ []))) ≡ Text (codes "exists")
unfolding create_answer create_fault asks_to_create open_answer admission asks_to_open reached_from_roots row home_at every_root reach walk without is_in next_in touched_after touched_weight is_first_touch each_once
fault_before_busy = refl

left_by_a_fault : (creates (codes "d") [] (replied (Busy ∷ []))).held.replies ≡ Busy ∷ []
unfolding create_answer create_fault asks_to_create open_answer admission asks_to_open reached_from_roots row home_at every_root reach walk without is_in next_in touched_after touched_weight is_first_touch each_once
left_by_a_fault = refl

fault_before_stale : fault_of (opens (codes "d") (codes "px") (codes "write") (replied (Stale ∷ []))) ≡ Text (codes "password")
unfolding create_answer create_fault asks_to_create open_answer admission asks_to_open reached_from_roots row home_at every_root reach walk without is_in next_in touched_after touched_weight is_first_touch each_once
fault_before_stale = refl

-- Who opens for reading takes no reply, nor who is writing already.
reading_takes_none : (opens (codes "d") [] (codes "read") (replied (Busy ∷ []))).value ≡ Pointer 0
unfolding create_answer create_fault asks_to_create open_answer admission asks_to_open reached_from_roots row home_at every_root reach walk without is_in next_in touched_after touched_weight is_first_touch each_once
reading_takes_none = refl

reading_leaves_it : (opens (codes "d") [] (codes "read") (replied (Busy ∷ []))).held.replies ≡ Busy ∷ []
unfolding create_answer create_fault asks_to_create open_answer admission asks_to_open reached_from_roots row home_at every_root reach walk without is_in next_in touched_after touched_weight is_first_touch each_once
reading_leaves_it = refl

writing_already : (creates (codes "e") [] (opens_d (Free ∷ Busy ∷ [])).held).value ≡ Pointer 2
unfolding create_answer create_fault asks_to_create open_answer admission asks_to_open reached_from_roots row home_at every_root reach walk without is_in next_in touched_after touched_weight is_first_touch each_once
writing_already = refl

left_by_a_writer : (creates (codes "e") [] (opens_d (Free ∷ Busy ∷ [])).held).held.replies ≡ Busy ∷ []
unfolding create_answer create_fault asks_to_create open_answer admission asks_to_open reached_from_roots row home_at every_root reach walk without is_in next_in touched_after touched_weight is_first_touch each_once
left_by_a_writer = refl

-- Each call asks before its faults are tested.
asked_all_the_same : (asks_to_open (codes "none") (codes "both") (replied [])).events ≡ Ask (ToOpen (codes "none") (codes "both")) 152 ∷ []
unfolding create_answer create_fault asks_to_create open_answer admission asks_to_open reached_from_roots row home_at every_root reach walk without is_in next_in touched_after touched_weight is_first_touch each_once
asked_all_the_same = refl

-- Events.
abbrev other : StoredHeap
other = record stored { homes = Some 1 ∷ None ∷ [] }

outputs_of_events : outputs (Out (codes "a") 0 ∷ Turn 0 ∷ Ask (ToCreate (codes "d")) 0 ∷ Out (codes "b") 0 ∷ Commit stored 0 ∷ Finish OutOfTurns 0 ∷ []) ≡ codes "about of turns\n"
outputs_of_events = refl

last_commit : heap_after nothing_stored (Commit other 0 ∷ Out (codes "a") 0 ∷ Commit stored 0 ∷ Turn 0 ∷ []) ≡ stored
last_commit = refl

no_commit : heap_after stored (Turn 0 ∷ Finish Done 0 ∷ []) ≡ stored
no_commit = refl

-- A series: each program over the heap of the last commit before it, until one isn't done.
abbrev keeps : StoredHeap → StoredHeap → List Event
keeps heap before = Commit heap 0 ∷ Finish Done 0 ∷ []

abbrev shows : StoredHeap → List Event
shows before = Commit before 1 ∷ Finish Done 1 ∷ []

abbrev aborts : StoredHeap → List Event
aborts before = Commit nothing_stored 2 ∷ Finish (Trapped Abort (record { 0 = 3 })) 2 ∷ []

over_the_last_commit : series_events (keeps other ∷ keeps stored ∷ shows ∷ []) nothing_stored ≡ Commit other 0 ∷ Finish Done 0 ∷ Commit stored 0 ∷ Finish Done 0 ∷ Commit stored 1 ∷ Finish Done 1 ∷ []
unfolding series_events
over_the_last_commit = refl

none_after_a_trap : series_events (shows ∷ aborts ∷ shows ∷ []) stored ≡ Commit stored 1 ∷ Finish Done 1 ∷ aborts stored
unfolding series_events
none_after_a_trap = refl

-- The program that changes a box of a database that it opened for reading, and the one after it: the box is as it was.
abbrev five : StoredHeap → List Event
five heap = let read = opens (codes "d") [] (codes "read") (new_run heap) in (commit_call (assigned_part 1 0 (Num (pos 5)) read.held)).events ++ Finish Done 0 ∷ []

still_one : part_of (new_run (heap_after stored (five stored))) (Pointer 1) 0 ≡ Num (pos 1)
unfolding decision are_writable each_once saved homes_after row home_after first_database sources source_of at_home created_with after_places roots_of loose loose_from home_at database_at database_from reached_from_roots every_root reach walk without is_in first_source next_in places_with is_among create_answer create_fault asks_to_create open_answer admission asks_to_open enter_call lookup_call table_of looked_up entered touched_after touched_weight is_first_touch commit_call
still_one = refl
