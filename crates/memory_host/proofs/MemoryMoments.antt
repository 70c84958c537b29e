-- What a call of a host in memory leaves, moment by moment.
use Rattle.std.proofs.Common.{◌≡◌, ◌⊎◌, inl, inr, ℕ, ◌+◌, ◌-◌, ◌<◌, ◌≤◌, ◌^◌, Bool, true, false, not, ◌&&◌, nat_lt, List, [], ◌∷◌, ◌++◌, length, get_or, take, drop, sum_by, replicate, reverse, min, refl, sym, ◌∙◌, ap, subst, arith, length-append, length-drop, if◌then◌else◌}
use Rattle.std.proofs.lemmas.Bool.Decides.{nat_tests}
use Rattle.std.proofs.lemmas.List.{append-nil, reverse-append, take_at, drop_at, take_more, length-take-le, length-replicate}
use Rattle.memory_host.specs.declared.memory_host.Act.{Act}
use Rattle.memory_host.specs.declared.memory_host.Act.TheVariants.{Looked, Told, Wrote, Synced}
use Rattle.memory_host.specs.declared.memory_host.Call.{Call}
use Rattle.ps_port.specs.ps_outside.Outside.{Outside, Along, Leaves, LeavesSame, Telling, TellsNothing, TellsPrefix, AddsPrefix}
use Rattle.ps_port.specs.Disk.{Torn, written}
use Rattle.memory_host.specs.Memory.{Event, Memory, content_step, contents_after, told_step, told_after, ImageStep, IsImage, past, AllPast, filled, filled_step, after_call, after_counts, outside_of, told_at, contents_of, IsImageAt, MayLeave, IsDurable, FitsAct, taken}
use Rattle.memory_host.specs.MemoryView.{events_of}
use Rattle.ps_port.proofs.of_ps_outside.Moments.{along_weaker}
use Rattle.ps_port.specs.DiskLaws.{torn_none, written_torn}
use Rattle.memory_host.specs.MemoryLaw.{contents_image}
use Rattle.std.proofs.lemmas.List.Sums.{sum_by-cons, fold_push, sum_by-take-drop}
use Rattle.std.proofs.Math.Seq.{take-add}

either_le : (m n : ℕ) → (m ≤ n) ⊎ (n < m)
either_le m n = grind arith

-- one call more
pub events_push : (log : List Call) (kept bytes : List ℕ) (call : Call) → call.len ≡ length bytes
    → events_of (reverse (log ++ call ∷ [])) (kept ++ bytes) ≡ record { number = call.number; act = call.act; bytes = bytes } ∷ events_of (reverse log) kept
events_push log kept bytes call size =
    let at : length (kept ++ bytes) - call.len ≡ length kept = omega (arith, length-append kept bytes) in
    ap (λ (calls : List Call). events_of calls (kept ++ bytes)) (reverse-append log (call ∷ []))
    ∙ ap (λ (n : ℕ). record { number = call.number; act = call.act; bytes = drop n (kept ++ bytes) } ∷ events_of (reverse log) (take n (kept ++ bytes))) at
    ∙ ap (λ (xs : List ℕ). record { number = call.number; act = call.act; bytes = xs } ∷ events_of (reverse log) (take (length kept) (kept ++ bytes))) (drop_at kept bytes (length kept) refl)
    ∙ ap (λ (xs : List ℕ). record { number = call.number; act = call.act; bytes = bytes } ∷ events_of (reverse log) xs) (take_at kept bytes (length kept) refl)

pub all_later : (clock later : ℕ) (events : List Event) → clock ≤ later → AllPast clock events → AllPast later events
all_later clock later [] le all = tt
all_later clock later (event ∷ events) le all = (let lt = all.0 in omega arith, all.1)

pub past_skips : (moment : ℕ) (event : Event) (events : List Event) → moment ≤ event.number → past moment (event ∷ events) ≡ past moment events
past_skips moment event events le = grind (arith, nat_tests)

pub past_takes : (moment : ℕ) (event : Event) (events : List Event) → event.number < moment → past moment (event ∷ events) ≡ event ∷ past moment events
past_takes moment event events lt = grind (arith, nat_tests)

-- all the calls that were kept came before any moment from now on
pub past_all : (clock moment : ℕ) (events : List Event) → AllPast clock events → clock ≤ moment → past moment events ≡ events
past_all clock moment [] all le = refl
past_all clock moment (event ∷ events) all le = past_takes moment event events (let lt = all.0 in omega arith) ∙ ap (λ (es : List Event). event ∷ es) (past_all event.number moment events all.1 (let lt = all.0 in omega arith))

module _ {X : Type 0} (sees : List Event → X → Type 0) (clock now : ℕ) (events : List Event) (all : AllPast clock events) where
  -- a call that is kept
  pub along_call : (event : Event) (during : X → Type 0) → event.number ≡ clock → clock < now → ((x : X) → sees events x → during x) → ((x : X) → sees (event ∷ events) x → during x)
      → Along clock now (λ m. sees (past m events)) (λ m. sees (past m (event ∷ events))) during
  along_call event during number lt before behind = record {
    later = omega arith;
    kept = λ m x le is. subst (λ (es : List Event). sees es x) (sym (past_skips m event events (omega arith))) is;
    no_other = λ m x le is. subst (λ (es : List Event). sees es x) (past_skips m event events (omega arith)) is;
    each = λ m x from until is. at m x from is (either_le m clock);
  }
    where
      at : (m : ℕ) (x : X) → clock ≤ m → sees (past m (event ∷ events)) x → (m ≤ clock) ⊎ (clock < m) → during x
      at m x from is (inl le) = before x (subst (λ (es : List Event). sees es x) (past_skips m event events (omega arith) ∙ past_all clock m events all from) is)
      at m x from is (inr gt) = behind x (subst (λ (es : List Event). sees es x) (past_takes m event events (omega arith) ∙ ap (λ (es : List Event). event ∷ es) (past_all clock m events all from)) is)

  -- a call that isn't
  pub along_refusal : clock ≤ now → Along clock now (λ m. sees (past m events)) (λ m. sees (past m events)) (sees (past clock events))
  along_refusal le = record {
    later = le;
    kept = λ m x past is. is;
    no_other = λ m x past is. is;
    each = λ m x from until is. subst (λ (es : List Event). sees es x) (past_all clock m events all from ∙ sym (past_all clock clock events all (omega arith))) is;
  }

may_leave_was : (act : Act) (count : ℕ) (was : List ℕ → Type 0) (image : List ℕ) → was image → MayLeave act count was image
may_leave_was Looked count was image is = is
may_leave_was Told count was image is = is
may_leave_was (Wrote at done) count was image is = record { from = image; was = is; by = torn_none at count image }
may_leave_was (Synced done) count was image is = is

step_may_leave : (act : Act) (bytes contents : List ℕ) (was : List ℕ → Type 0) (image : List ℕ) → was contents → ImageStep act bytes contents was image → MayLeave act (length bytes) was image
step_may_leave Looked bytes contents was image now is = is
step_may_leave Told bytes contents was image now is = is
step_may_leave (Wrote at done) bytes contents was image now is = is
step_may_leave (Synced true) bytes contents was image now is = subst was (sym is) now
step_may_leave (Synced false) bytes contents was image now is = is

durable : (act : Act) (bytes contents : List ℕ) (was : List ℕ → Type 0) (outside : Outside (List ℕ)) → ((image : List ℕ) → outside.images outside.clock image → ImageStep act bytes contents was image) → ((image : List ℕ) → image ≡ content_step act bytes contents → outside.contents image) → IsDurable act outside
durable Looked bytes contents was outside images is = tt
durable Told bytes contents was outside images is = tt
durable (Wrote at done) bytes contents was outside images is = tt
durable (Synced true) bytes contents was outside images is = λ image now. is image (images image now)
durable (Synced false) bytes contents was outside images is = tt

module _ (host : Memory) (act : Act) (bytes : List ℕ) (failed : Bool) (all : AllPast host.clock host.events) (room : host.clock < min (host.clock + 1) (2 ^ 64 - 1)) where
  event : Event
  event = record { number = host.clock; act = act; bytes = bytes }

  abbrev new : Memory
  new = after_call host act bytes failed

  now : past new.clock new.events ≡ new.events
  now = past_all new.clock new.clock new.events (room, all) (omega arith)

  was : past host.clock host.events ≡ host.events
  was = past_all host.clock host.clock host.events all (omega arith)

  pub contents_call : contents_of new ≡ content_step act bytes (contents_of host)
  contents_call = ap (λ (es : List Event). contents_after host.first es) now ∙ ap (λ (es : List Event). content_step act bytes (contents_after host.first es)) (sym was)

  pub told_call : told_at new new.clock ≡ told_step act bytes (told_at host host.clock)
  told_call = ap told_after now ∙ ap (λ (es : List Event). told_step act bytes (told_after es)) (sym was)

  pub images_call : Leaves (outside_of host) (outside_of new) (MayLeave act (length bytes) (IsImageAt host host.clock))
  images_call =
      subst (λ (es : List Event). Leaves (outside_of host) (outside_of new) (MayLeave act (length bytes) (IsImage host.first es))) (sym was)
      (along_call (IsImage host.first) host.clock new.clock host.events all record { number = host.clock; act = act; bytes = bytes } (MayLeave act (length bytes) (IsImage host.first host.events)) refl room
      (may_leave_was act (length bytes) (IsImage host.first host.events))
      (λ image is. step_may_leave act bytes (contents_after host.first host.events) (IsImage host.first host.events) image (contents_image host.first host.events) is))

  pub all_images_call : (image : List ℕ) → ImageStep act bytes (contents_of host) (IsImageAt host host.clock) image → IsImageAt new new.clock image
  all_images_call image is =
      subst (λ (es : List Event). IsImage host.first es image) (sym now)
      (subst (λ (es : List Event). ImageStep act bytes (contents_after host.first es) (IsImage host.first es) image) was is)

  pub telling_call : Telling (outside_of host) (outside_of new) (λ told. (told ≡ told_at host host.clock) ⊎ (told ≡ told_step act bytes (told_at host host.clock)))
  telling_call =
      subst (λ (es : List Event). Telling (outside_of host) (outside_of new) (λ told. (told ≡ told_after es) ⊎ (told ≡ told_step act bytes (told_after es)))) (sym was)
      (along_call (λ es told. told ≡ told_after es) host.clock new.clock host.events all record { number = host.clock; act = act; bytes = bytes } (λ told. (told ≡ told_after host.events) ⊎ (told ≡ told_step act bytes (told_after host.events))) refl room
      (λ told is. inl is) (λ told is. inr is))

  pub durable_call : IsDurable act (outside_of new)
  durable_call =
      durable act bytes (contents_after host.first host.events) (IsImage host.first host.events) (outside_of new)
      (λ image is. subst (λ (es : List Event). IsImage host.first es image) now is)
      (λ image is. is ∙ sym (ap (λ (es : List Event). contents_after host.first es) now))

-- what the records take of the room
pub taken_push : (event : Event) (events : List Event) → taken (event ∷ events) ≡ 64 + length event.bytes + taken events
taken_push event events = sum_by-cons (λ (e : Event). 64 + length e.bytes) event events

pub content_grows : (act : Act) (bytes old : List ℕ) → FitsAct act (length old) → length (content_step act bytes old) ≤ length old + length bytes
content_grows Looked bytes old fits = omega arith
content_grows Told bytes old fits = omega arith
content_grows (Wrote at true) bytes old fits = let torn = written_torn at bytes old in let longest = torn.no_longer in omega arith
content_grows (Wrote at false) bytes old fits = omega arith
content_grows (Synced done) bytes old fits = omega arith

pub told_grows : (act : Act) (bytes old : List ℕ) → length (told_step act bytes old) ≤ length old + length bytes
told_grows Looked bytes old = omega arith
told_grows Told bytes old = omega (arith, length-append old bytes)
told_grows (Wrote at done) bytes old = omega arith
told_grows (Synced done) bytes old = omega arith

module _ (host : Memory) (act : Act) (all : AllPast host.clock host.events) (later : host.clock ≤ min (host.clock + 1) (2 ^ 64 - 1)) where
  same_events : past (min (host.clock + 1) (2 ^ 64 - 1)) host.events ≡ past host.clock host.events
  same_events = past_all host.clock (min (host.clock + 1) (2 ^ 64 - 1)) host.events all later ∙ sym (past_all host.clock host.clock host.events all (omega arith))

  pub contents_refused : contents_of (after_counts host act true) ≡ contents_of host
  contents_refused = ap (λ (es : List Event). contents_after host.first es) same_events

  pub images_refused : LeavesSame (outside_of host) (outside_of (after_counts host act true))
  images_refused = along_refusal (IsImage host.first) host.clock (min (host.clock + 1) (2 ^ 64 - 1)) host.events all later

  pub telling_refused : TellsNothing (outside_of host) (outside_of (after_counts host act true))
  telling_refused = along_refusal (λ es told. told ≡ told_after es) host.clock (min (host.clock + 1) (2 ^ 64 - 1)) host.events all later

pub same_memory : (first failing : List ℕ) (calls room : ℕ) {events events' : List Event} {a a' b b' d d' e e' : ℕ} → events ≡ events' → a ≡ a' → b ≡ b' → d ≡ d' → e ≡ e'
    → let m : Memory = record { first = first; events = events; failing = failing; calls = calls; room = room; clock = a; device_calls = b; device_faults = d; output_faults = e } in
    m ≡ record { first = first; events = events'; failing = failing; calls = calls; room = room; clock = a'; device_calls = b'; device_faults = d'; output_faults = e' }
same_memory first failing calls room p q r s t = λ i. record { first = first; events = p i; failing = failing; calls = calls; room = room; clock = q i; device_calls = r i; device_faults = s i; output_faults = t i }

pub twice : (failed told device : Bool) → device ≡ not told → failed && not device ≡ failed && told
twice failed true device is = ap (λ (b : Bool). failed && not b) is
twice failed false device is = ap (λ (b : Bool). failed && not b) is

-- what is kept is what is seen now
pub contents_now : (host : Memory) → AllPast host.clock host.events → contents_after host.first host.events ≡ contents_of host
contents_now host all = ap (λ (es : List Event). contents_after host.first es) (sym (past_all host.clock host.clock host.events all (omega arith)))

pub told_now : (host : Memory) → AllPast host.clock host.events → told_after host.events ≡ told_at host host.clock
told_now host all = ap told_after (sym (past_all host.clock host.clock host.events all (omega arith)))

-- a call that tells a prefix of the whole
pub cuts : (host new : Memory) (front rest whole : List ℕ) → front ++ rest ≡ whole → Telling (outside_of host) (outside_of new) (λ told. (told ≡ told_at host host.clock) ⊎ (told ≡ told_at host host.clock ++ front)) → TellsPrefix (outside_of host) (outside_of new) whole
cuts host new front rest whole split telling = along_weaker telling at
  where
    at : (told : List ℕ) → (told ≡ told_at host host.clock) ⊎ (told ≡ told_at host host.clock ++ front) → AddsPrefix ((outside_of host).told host.clock) whole told
    at told (inl same) = record { front = []; is_front = record { rest = whole; whole_is = refl }; adds = record { before = told_at host host.clock; was_told = refl; bytes_are = same ∙ sym (append-nil (told_at host host.clock)) } }
    at told (inr more) = record { front = front; is_front = record { rest = rest; whole_is = sym split }; adds = record { before = told_at host host.clock; was_told = refl; bytes_are = more } }

-- one call more, where it came before the moment
pub filled_past : (filler : ℕ) (first : List ℕ) (moment : ℕ) (event : Event) (events : List Event) → filled filler first (past moment (event ∷ events)) ≡ (if nat_lt event.number moment then filled_step filler event.act event.bytes (contents_after first (past moment events)) (filled filler first (past moment events)) else filled filler first (past moment events))
filled_past filler first moment event events = by (nat_lt event.number moment)
  where
    by : (b : Bool) → filled filler first (if b then event ∷ past moment events else past moment events) ≡ (if b then filled_step filler event.act event.bytes (contents_after first (past moment events)) (filled filler first (past moment events)) else filled filler first (past moment events))
    by true = refl
    by false = refl

pub contents_past : (first : List ℕ) (moment : ℕ) (event : Event) (events : List Event) → contents_after first (past moment (event ∷ events)) ≡ (if nat_lt event.number moment then content_step event.act event.bytes (contents_after first (past moment events)) else contents_after first (past moment events))
contents_past first moment event events = by (nat_lt event.number moment)
  where
    by : (b : Bool) → contents_after first (if b then event ∷ past moment events else past moment events) ≡ (if b then content_step event.act event.bytes (contents_after first (past moment events)) else contents_after first (past moment events))
    by true = refl
    by false = refl

-- the calls so far, with one more
pub events_more : (log : List Call) (kept : List ℕ) (i from : ℕ) (d : Call) → i < length log → from + (get_or log i d).len ≤ length kept
    → events_of (reverse (take (i + 1) log)) (take (from + (get_or log i d).len) kept)
    ≡ record { number = (get_or log i d).number; act = (get_or log i d).act; bytes = take (get_or log i d).len (drop from kept) } ∷ events_of (reverse (take i log)) (take from kept)
events_more log kept i from d lt within =
    let size : (get_or log i d).len ≡ length (take (get_or log i d).len (drop from kept)) = sym (length-take-le (get_or log i d).len (drop from kept) (omega (arith, length-drop from kept))) in
    ap (λ (calls : List Call). events_of (reverse calls) (take (from + (get_or log i d).len) kept)) (take_more log i d lt)
    ∙ ap (λ (xs : List ℕ). events_of (reverse (take i log ++ get_or log i d ∷ [])) xs) (take-add from (get_or log i d).len kept)
    ∙ events_push (take i log) (take from kept) (take (get_or log i d).len (drop from kept)) (get_or log i d) size

pub lens_more : (log : List Call) (i : ℕ) (d : Call) → i < length log → sum_by (λ (call : Call). call.len) (take (i + 1) log) ≡ sum_by (λ (call : Call). call.len) (take i log) + (get_or log i d).len
lens_more log i d lt = ap (sum_by (λ (call : Call). call.len)) (take_more log i d lt) ∙ fold_push (λ (a : ℕ) (call : Call). a + call.len) 0 (take i log) (get_or log i d)

pub lens_within : (log : List Call) (i : ℕ) (d : Call) → i < length log → sum_by (λ (call : Call). call.len) (take i log) + (get_or log i d).len ≤ sum_by (λ (call : Call). call.len) log
lens_within log i d lt = omega (arith, lens_more log i d lt, sum_by-take-drop (λ (call : Call). call.len) log (i + 1))

filled_step_image : (filler : ℕ) (act : Act) (bytes contents was : List ℕ) (P : List ℕ → Type 0) → P was → ImageStep act bytes contents P (filled_step filler act bytes contents was)
filled_step_image filler Looked bytes contents was P is = is
filled_step_image filler Told bytes contents was P is = is
filled_step_image filler (Wrote at done) bytes contents was P is = record {
  from = was;
  was = is;
  by = subst (λ (n : ℕ). Torn at n was (written at (replicate (length bytes) filler) was)) (length-replicate (length bytes) filler) (written_torn at (replicate (length bytes) filler) was);
}
filled_step_image filler (Synced true) bytes contents was P is = refl
filled_step_image filler (Synced false) bytes contents was P is = is

filled_image : (filler : ℕ) (first : List ℕ) (events : List Event) → IsImage first events (filled filler first events)
filled_image filler first [] = refl
filled_image filler first (e ∷ events) = filled_step_image filler e.act e.bytes (contents_after first events) (filled filler first events) (IsImage first events) (filled_image filler first events)

-- what a crash is said to leave is one of the images
pub crash_image : (host : Memory) (moment filler : ℕ) (image : List ℕ) → image ≡ filled filler host.first (past moment host.events) → (outside_of host).images moment image
crash_image host moment filler image is = subst (λ (xs : List ℕ). IsImage host.first (past moment host.events) xs) (sym is) (filled_image filler host.first (past moment host.events))

module _ (filler : ℕ) (first : List ℕ) (moment : ℕ) (log : List Call) (kept : List ℕ) (i from : ℕ) (d : Call) (lt : i < length log) (within : from + (get_or log i d).len ≤ length kept) (bytes : List ℕ) (bytes_are : bytes ≡ take (get_or log i d).len (drop from kept)) (image contents : List ℕ)
    (image_is : image ≡ filled filler first (past moment (events_of (reverse (take i log)) (take from kept)))) (contents_are : contents ≡ contents_after first (past moment (events_of (reverse (take i log)) (take from kept)))) where
  pub image_more : (later : List ℕ) → later ≡ (if nat_lt (get_or log i d).number moment then filled_step filler (get_or log i d).act bytes contents image else image)
      → later ≡ filled filler first (past moment (events_of (reverse (take (i + 1) log)) (take (from + (get_or log i d).len) kept)))
  image_more later is =
      is ∙ (λ k. if nat_lt (get_or log i d).number moment then filled_step filler (get_or log i d).act (bytes_are k) (contents_are k) (image_is k) else image_is k)
      ∙ sym (filled_past filler first moment record { number = (get_or log i d).number; act = (get_or log i d).act; bytes = take (get_or log i d).len (drop from kept) } (events_of (reverse (take i log)) (take from kept)))
      ∙ sym (ap (λ (es : List Event). filled filler first (past moment es)) (events_more log kept i from d lt within))

  pub contents_more : (later : List ℕ) → later ≡ (if nat_lt (get_or log i d).number moment then content_step (get_or log i d).act bytes contents else contents)
      → later ≡ contents_after first (past moment (events_of (reverse (take (i + 1) log)) (take (from + (get_or log i d).len) kept)))
  contents_more later is =
      is ∙ (λ k. if nat_lt (get_or log i d).number moment then content_step (get_or log i d).act (bytes_are k) (contents_are k) else contents_are k)
      ∙ sym (contents_past first moment record { number = (get_or log i d).number; act = (get_or log i d).act; bytes = take (get_or log i d).len (drop from kept) } (events_of (reverse (take i log)) (take from kept)))
      ∙ sym (ap (λ (es : List Event). contents_after first (past moment es)) (events_more log kept i from d lt within))
