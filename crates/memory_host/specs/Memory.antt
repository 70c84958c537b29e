-- A host in memory: the calls that it keeps, newest first, and what they leave.
use Rattle.std.specs.Prelude.{◌≡◌, ℕ, ◌+◌, ◌-◌, ◌/◌, ◌^◌, ◌<◌, ◌≤◌, Bool, true, false, ◌||◌, ◌&&◌, ◌==◌, nat_le, nat_lt, not, if◌then◌else◌, List, [], ◌∷◌, ◌++◌, length, sum_by, replicate}
use Rattle.std.specs.List.{list_any}
use Rattle.memory_host.specs.declared.memory_host.Act.{Act}
use Rattle.memory_host.specs.declared.memory_host.Act.TheVariants.{Looked, Told, Wrote, Synced}
use Rattle.ps_port.specs.ps_outside.Outside.{Outside, After, next_count, counted}
use Rattle.ps_port.specs.Disk.{written, Torn}

-- a call that is kept: its number, what it did, and the bytes that it wrote or output
pub record Event : Type 0 where
  pub number : ℕ
  pub act : Act
  pub bytes : List ℕ

-- what a read gives
abbrev pub content_step : Act → List ℕ → List ℕ → List ℕ
content_step Looked bytes old = old
content_step Told bytes old = old
content_step (Wrote at true) bytes old = written at bytes old
content_step (Wrote at false) bytes old = old
content_step (Synced done) bytes old = old

abbrev pub contents_after : List ℕ → List Event → List ℕ
contents_after first [] = first
contents_after first (event ∷ events) = content_step event.act event.bytes (contents_after first events)

-- what had been output
abbrev pub told_step : Act → List ℕ → List ℕ → List ℕ
told_step Looked bytes old = old
told_step Told bytes old = old ++ bytes
told_step (Wrote at done) bytes old = old
told_step (Synced done) bytes old = old

abbrev pub told_after : List Event → List ℕ
told_after [] = []
told_after (event ∷ events) = told_step event.act event.bytes (told_after events)

-- what a crash may leave
abbrev pub ImageStep : Act → List ℕ → List ℕ → (List ℕ → Type 0) → List ℕ → Type 0
ImageStep Looked bytes contents was image = was image
ImageStep Told bytes contents was image = was image
ImageStep (Wrote at done) bytes contents was image = After was (Torn at (length bytes)) image
ImageStep (Synced true) bytes contents was image = image ≡ contents
ImageStep (Synced false) bytes contents was image = was image

abbrev pub IsImage : List ℕ → List Event → List ℕ → Type 0
IsImage first [] image = image ≡ first
IsImage first (event ∷ events) image = ImageStep event.act event.bytes (contents_after first events) (IsImage first events) image

-- the image in which each byte that wasn't synced is the filler
abbrev pub filled_step : ℕ → Act → List ℕ → List ℕ → List ℕ → List ℕ
filled_step filler Looked bytes contents was = was
filled_step filler Told bytes contents was = was
filled_step filler (Wrote at done) bytes contents was = written at (replicate (length bytes) filler) was
filled_step filler (Synced true) bytes contents was = contents
filled_step filler (Synced false) bytes contents was = was

abbrev pub filled : ℕ → List ℕ → List Event → List ℕ
filled filler first [] = first
filled filler first (event ∷ events) = filled_step filler event.act event.bytes (contents_after first events) (filled filler first events)

-- the calls before a moment
abbrev pub past : ℕ → List Event → List Event
past moment [] = []
past moment (event ∷ events) = if nat_lt event.number moment then event ∷ past moment events else past moment events

-- what a host in memory keeps
pub record Memory : Type 0 where
  -- the bytes that it was made with
  pub first : List ℕ
  -- the calls that were kept
  pub events : List Event
  -- the numbers of calls that are to fail, and the number from which on every call is to fail
  pub failing : List ℕ
  pub calls : ℕ
  -- the bytes that the records of its calls may take
  pub room : ℕ
  -- the number of calls, of those of the device, and of those that failed
  pub clock : ℕ
  pub device_calls : ℕ
  pub device_faults : ℕ
  pub output_faults : ℕ

abbrev pub told_at : Memory → ℕ → List ℕ
told_at host moment = told_after (past moment host.events)

abbrev pub contents_of : Memory → List ℕ
contents_of host = contents_after host.first (past host.clock host.events)

abbrev pub IsImageAt : Memory → ℕ → List ℕ → Type 0
IsImageAt host moment image = IsImage host.first (past moment host.events) image

-- what the trait `Host` speaks of
abbrev pub outside_of : Memory → Outside (List ℕ)
outside_of host = record {
  clock = host.clock;
  told = λ moment bytes. bytes ≡ told_at host moment;
  images = IsImageAt host;
  contents = λ bytes. bytes ≡ contents_of host;
  device_faults = host.device_faults;
  output_faults = host.output_faults;
  device_calls = host.device_calls;
}

-- a host that is made with these, and has had no call
abbrev pub fresh : List ℕ → List ℕ → ℕ → ℕ → Memory
fresh first failing calls room = record {
  first = first;
  events = [];
  failing = failing;
  calls = calls;
  room = room;
  clock = 0;
  device_calls = 0;
  device_faults = 0;
  output_faults = 0;
}

-- the next call is to fail: its number is one of those listed, or at least `calls`
abbrev pub is_to_fail : Memory → Bool
is_to_fail host = nat_le host.calls host.clock || list_any (λ number. number == host.clock) host.failing

-- what the records take of the room
abbrev pub taken : List Event → ℕ
taken events = sum_by (λ event. 64 + length event.bytes) events

-- there is room for the record of a call of so many bytes, and a number for it
abbrev pub has_room : Memory → ℕ → Bool
has_room host count = nat_le (taken host.events + 64 + count) host.room && nat_lt host.clock (2 ^ 64 - 1)

abbrev pub is_told : Act → Bool
is_told Looked = false
is_told Told = true
is_told (Wrote at done) = false
is_told (Synced done) = false

-- the counts after a call
abbrev pub after_counts : Memory → Act → Bool → Memory
after_counts host act failed = record host {
  clock = next_count host.clock;
  device_calls = counted (not (is_told act)) host.device_calls;
  device_faults = counted (failed && not (is_told act)) host.device_faults;
  output_faults = counted (failed && is_told act) host.output_faults;
}

-- the host after a call that is kept
abbrev pub after_call : Memory → Act → List ℕ → Bool → Memory
after_call host act bytes failed = record (after_counts host act failed) {
  events = record { number = host.clock; act = act; bytes = bytes } ∷ host.events;
}

-- The host after a call that does this with these bytes, and fails or not. Where there is no room for its record it fails and does nothing.
abbrev pub after_acting : Memory → Act → List ℕ → Bool → Memory
after_acting host act bytes failed = if has_room host (length bytes) then after_call host act bytes failed else after_counts host act true

-- the next call, whose record has so many bytes, fails
abbrev pub call_fails : Memory → ℕ → Bool
call_fails host count = is_to_fail host || not (has_room host count)

-- of so many bytes the next call outputs all, or the first half, rounded down, where it is to fail
abbrev pub share : Memory → ℕ → ℕ
share host count = if is_to_fail host then count / 2 else count

-- each call that was kept came before, the newest last
abbrev pub AllPast : ℕ → List Event → Type 0
AllPast clock [] = Unit {0}
AllPast clock (event ∷ events) = (event.number < clock) × AllPast event.number events

-- a write that is done begins within so many bytes
abbrev pub FitsAct : Act → ℕ → Type 0
FitsAct Looked size = Unit {0}
FitsAct Told size = Unit {0}
FitsAct (Wrote at done) size = at ≤ size
FitsAct (Synced done) size = Unit {0}

-- each write begins within what the contents were
abbrev pub AllFit : List ℕ → List Event → Type 0
AllFit first [] = Unit {0}
AllFit first (event ∷ events) = FitsAct event.act (length (contents_after first events)) × AllFit first events

-- what a crash may leave during a call
abbrev pub MayLeave : Act → ℕ → (List ℕ → Type 0) → List ℕ → Type 0
MayLeave Looked count was image = was image
MayLeave Told count was image = was image
MayLeave (Wrote at done) count was image = After was (Torn at count) image
MayLeave (Synced done) count was image = was image

-- a sync that is done leaves the contents alone
abbrev pub IsDurable : Act → Outside (List ℕ) → Type 0
IsDurable Looked outside = Unit {0}
IsDurable Told outside = Unit {0}
IsDurable (Wrote at done) outside = Unit {0}
IsDurable (Synced true) outside = (image : List ℕ) → outside.images outside.clock image → outside.contents image
IsDurable (Synced false) outside = Unit {0}

-- how many of the calls wrote, whole or not
abbrev pub is_write : Act → Bool
is_write (Wrote at done) = true
is_write act = false

abbrev pub writes_of : List Event → ℕ
writes_of events = sum_by (λ event. if is_write event.act then 1 else 0) events
