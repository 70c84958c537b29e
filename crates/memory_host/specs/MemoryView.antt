-- How the fields of a `MemoryHost` are seen.
use Rattle.std.specs.Prelude.{◌≡◌, ℕ, ◌+◌, ◌-◌, ◌*◌, ◌≤◌, List, [], ◌∷◌, length, take, drop, reverse, sum_by, vec_capacity}
use Rattle.memory_host.specs.Memory.{Event, Memory, contents_after, told_after, taken, AllPast, AllFit}
use Rattle.memory_host.specs.declared.memory_host.Call.{Call}
use Rattle.memory_host.specs.declared.memory_host.MemoryHost.TheInside.{Inside}

-- the calls, newest first, with the bytes of each from the end of what is kept
abbrev pub events_of : List Call → List ℕ → List Event
events_of [] kept = []
events_of (call ∷ calls) kept = record { number = call.number; act = call.act; bytes = drop (length kept - call.len) kept } ∷ events_of calls (take (length kept - call.len) kept)

abbrev pub memory_of : Inside → Memory
memory_of host = record {
  first = host.first.items;
  events = events_of (reverse host.log.items) host.kept.items;
  failing = host.failing.items;
  calls = host.calls;
  room = host.room;
  clock = host.clock;
  device_calls = host.device_calls;
  device_faults = host.device_faults;
  output_faults = host.output_faults;
}

-- what it keeps is in order, and the memory for all of the room was taken
pub record IsKeptIn (host : Inside) : Type 0 where
  pub all_past : AllPast host.clock (memory_of host).events
  pub all_fit : AllFit host.first.items (memory_of host).events
  pub contents_are : host.contents.items ≡ contents_after host.first.items (memory_of host).events
  pub told_are : host.told.items ≡ told_after (memory_of host).events
  pub taken_is : taken (memory_of host).events ≡ 64 * length host.log.items + length host.kept.items
  -- the bytes of each are there
  pub lens : sum_by (λ call. call.len) host.log.items ≡ length host.kept.items
  pub in_room : 64 * length host.log.items + length host.kept.items ≤ host.room
  pub contents_within : length host.contents.items ≤ length host.first.items + length host.kept.items
  pub told_within : length host.told.items ≤ length host.kept.items
  pub contents_taken : length host.first.items + host.room ≤ vec_capacity host.contents
  pub told_taken : host.room ≤ vec_capacity host.told
  pub kept_taken : host.room ≤ vec_capacity host.kept
  pub log_taken : host.room ≤ 64 * vec_capacity host.log + 63
