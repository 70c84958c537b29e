-- Words of a vault, and the object that they become in the area.
use Rattle.std.proofs.Common.{Bool, false, inl, inr, ◌⊎◌, ◌↔◌, ◌≡◌, ℕ, zero, suc, ◌+◌, ◌-◌, ◌<◌, ◌≤◌, ◌^◌, ◌/◌, ◌%◌, ◌==◌, List, [], ◌∷◌, ◌++◌, length, map, take, drop, slice_index, get_or, refl, sym, ap, ◌∙◌, subst, arith, Option, Some, None, unwrap_or, length-drop}
use Rattle.std.proofs.lemmas.List.{take-append-drop, length-take-le, length-map, get_or-take, get_or-drop, drop-drop, take_all}
use Rattle.std.proofs.lemmas.Grind.{common_steps}
use Rattle.obj_area.specs.Words.{AreWords}
use Rattle.obj_layout.specs.declared.header.Header.{Header}
use Rattle.obj_layout.specs.declared.reference.Reference.{Reference}
use Rattle.obj_layout.specs.declared.reference.Reference.TheVariants.{Nil, Pid, Local}
use Rattle.obj_layout.specs.Header.{HasFitFields, header_words, object_length}
use Rattle.obj_layout.specs.Reference.{IsReference, reference_word, reference_in}
use Rattle.swizzle.specs.Objects.{Object, size_of, object_words, AreReferences, IsFit, header_in, reference_at, object_in}
use Rattle.swizzle.specs.Heap.{Heap, IsHeap, IsInside, IsHeld, object_at, header_at, top_of, local_of, nothing, with_new, is_assigned, is_reached}
use Rattle.swizzle.specs.Joint.{shown, shown_words, far_of, name_of, name_by, Joint}
use Rattle.swizzle.specs.Changes.{Touched}
use Rattle.swizzle.specs.Touch.{Keeps}
use Rattle.swizzle.specs.Fetched.{IsFarWord, IsFar, IsLocal, near_header, near}
use Rattle.swizzle.proofs.ObjectLaws.{header_in-words}
use Rattle.swizzle.proofs.HeapLaws.{local-is}
use Rattle.swizzle.proofs.NameLaws.{name-pid}
use Rattle.swizzle.proofs.JointLaws.{held-top, object-top}
use Rattle.swizzle.proofs.TouchLaws.{keeps-new, joint-fetched}

-- a reference that isn't into the area
abbrev IsFarReference : Reference → Type 0
IsFarReference Nil = Unit {0}
IsFarReference (Pid pid) = Unit {0}
IsFarReference (Local at) = ⊥

far_word : (w : ℕ) → IsFarWord w → w < 2 ^ 64 → reference_word (reference_at w) ≡ w
unfolding reference_at
far_word w (inl e) fit = grind (arith, common_steps)
far_word w (inr h) fit = grind (arith, common_steps)

far_reference : (w : ℕ) → IsFarWord w → w < 2 ^ 64 → (reference_at w ≡ Nil) ⊎ ((pid : ℕ) × (1 ≤ pid) × (pid < 2 ^ 63) × (reference_at w ≡ Pid pid))
unfolding reference_at
far_reference w (inl e) fit = inl (ap (λ (n : ℕ). unwrap_or (reference_in n) Nil) e)
far_reference w (inr h) fit = inr (w - 2 ^ 63, omega arith, omega arith, grind (arith, common_steps))

abbrev pub AreFarWords : List ℕ → Type 0
AreFarWords ws = (k : ℕ) → k < length ws → IsFarWord (slice_index ws k)

far_words : (ws : List ℕ) → AreFarWords ws → AreWords ws → map reference_word (map reference_at ws) ≡ ws
far_words [] far fit = refl
far_words (w ∷ ws) far fit =
    let one = far_word w (far 0 (omega arith)) (fit 0) in
    let more = far_words ws (λ k below. far (suc k) (omega arith)) (λ k. fit (suc k)) in
    cc

far_fits : (r : Reference) → (r ≡ Nil) ⊎ ((pid : ℕ) × (1 ≤ pid) × (pid < 2 ^ 63) × (r ≡ Pid pid)) → IsReference r
far_fits r (inl e) = subst IsReference (sym e) tt
far_fits r (inr p) = subst IsReference (sym p.3) (p.1, p.2)

far_references : (ws : List ℕ) → AreFarWords ws → AreWords ws → AreReferences (map reference_at ws)
far_references [] far fit = tt
far_references (w ∷ ws) far fit =
    (far_fits (reference_at w) (far_reference w (far 0 (omega arith)) (fit 0)), far_references ws (λ k below. far (suc k) (omega arith)) (λ k. fit (suc k)))

far_itself : (r : Reference) → (r ≡ Nil) ⊎ ((pid : ℕ) × (1 ≤ pid) × (pid < 2 ^ 63) × (r ≡ Pid pid)) → far_of r ≡ r
far_itself r (inl e) = ap far_of e ∙ sym e
far_itself r (inr p) = ap far_of p.3 ∙ sym p.3

far_name : (heap : Heap) (r : Reference) → (r ≡ Nil) ⊎ ((pid : ℕ) × (1 ≤ pid) × (pid < 2 ^ 63) × (r ≡ Pid pid)) → name_of heap r ≡ r
far_name heap r (inl e) = ap (name_of heap) e ∙ sym e
far_name heap r (inr p) = ap (name_of heap) p.3 ∙ sym p.3

far_names : (heap : Heap) (ws : List ℕ) → AreFarWords ws → AreWords ws → map (name_of heap) (map reference_at ws) ≡ map far_of (map reference_at ws)
far_names heap [] far fit = refl
far_names heap (w ∷ ws) far fit =
    let here = far_reference w (far 0 (omega arith)) (fit 0) in
    let one = far_name heap (reference_at w) here ∙ sym (far_itself (reference_at w) here) in
    let more = far_names heap ws (λ k below. far (suc k) (omega arith)) (λ k. fit (suc k)) in
    cc

far_not_local : (r : Reference) (to : ℕ) → (r ≡ Nil) ⊎ ((pid : ℕ) × (1 ≤ pid) × (pid < 2 ^ 63) × (r ≡ Pid pid)) → r ≡ Local to → ⊥
far_not_local r to (inl e) l = let bad : Nil ≡ Local to = sym e ∙ l in cc
far_not_local r to (inr p) l = let bad : Pid p.0 ≡ Local to = sym p.3 ∙ l in cc

far_inside : (heap : Heap) (ws : List ℕ) → AreFarWords ws → AreWords ws → (slot to : ℕ) → get_or (map reference_at ws) slot Nil ≡ Local to → IsHeld heap to
far_inside heap [] far fit slot to e = absurd (cc)
far_inside heap (w ∷ ws) far fit zero to e = absurd (far_not_local (reference_at w) to (far_reference w (far 0 (omega arith)) (fit 0)) e)
far_inside heap (w ∷ ws) far fit (suc slot) to e = far_inside heap ws (λ k below. far (suc k) (omega arith)) (λ k. fit (suc k)) slot to e

AreWords-take : (n : ℕ) (ws : List ℕ) → AreWords ws → AreWords (take n ws)
AreWords-take zero ws h k = omega arith
AreWords-take (suc n) [] h k = omega arith
AreWords-take (suc n) (w ∷ ws) h zero = h 0
AreWords-take (suc n) (w ∷ ws) h (suc k) = AreWords-take n ws (λ j. h (suc j)) k

AreWords-drop : (n : ℕ) (ws : List ℕ) → AreWords ws → AreWords (drop n ws)
AreWords-drop zero ws h k = h k
AreWords-drop (suc n) [] h k = omega arith
AreWords-drop (suc n) (w ∷ ws) h k = AreWords-drop n ws (λ j. h (suc j)) k

-- What is known of words that may come into the area.
pub record Near (words : List ℕ) (header : Header) (pid link : ℕ) : Type 0 where
  pub words_are : object_words (near pid link words) ≡ header_words (near_header pid link header) ++ drop 4 words
  pub header_is : (near pid link words).header ≡ near_header pid link header
  pub fit : pid < 2 ^ 63 → link < 2 ^ 64 → IsFit (near pid link words)
  pub shown_as : (heap : Heap) → shown_words words ≡ shown (name_of heap) (near pid link words)
  pub inside : (heap : Heap) → IsInside heap (near pid link words)

abbrev near_by : ℕ → ℕ → Header → List Reference → List ℕ → Object
near_by pid link h refs nums = record { header = near_header pid link h; refs = refs; nums = nums }

-- the header that words begin with
pub header-spelled : (words : List ℕ) (header : Header) → HasFitFields header → take 4 words ≡ header_words header → header_in words ≡ header
header-spelled words header fields spelled =
    ap header_in (sym (take-append-drop 4 words) ∙ ap (λ (r : List ℕ). r ++ drop 4 words) spelled) ∙ header_in-words header (drop 4 words) fields

pub far_header : (words : List ℕ) (header : Header) → IsFar words header → header_in words ≡ header
far_header words header far = header-spelled words header far.fields far.spelled

-- the object's references and numbers, by its header
abbrev refs_by : List ℕ → Header → List Reference
refs_by words h = map reference_at (take h.refs (drop 4 words))

abbrev nums_by : List ℕ → Header → List ℕ
nums_by words h = take h.nums (drop (4 + h.refs) words)

near_is : (words : List ℕ) (header : Header) (pid link : ℕ) → IsFar words header → near pid link words ≡ near_by pid link header (refs_by words header) (nums_by words header)
unfolding near object_in
near_is words header pid link far = ap (λ (h : Header). near_by pid link h (refs_by words h) (nums_by words h)) (far_header words header far)

object_is : (words : List ℕ) (header : Header) → IsFar words header → object_in words ≡ record { header = header; refs = refs_by words header; nums = nums_by words header }
unfolding object_in
object_is words header far = ap (λ (h : Header). record { header = h; refs = refs_by words h; nums = nums_by words h }) (far_header words header far)

pub far_refs : (words : List ℕ) (header : Header) → IsFar words header → AreFarWords (take header.refs (drop 4 words))
far_refs words header far k below =
    let long : length (take header.refs (drop 4 words)) ≡ header.refs = length-take-le header.refs (drop 4 words) (omega (arith, length-drop 4 words, far.long)) in
    let read : slice_index (take header.refs (drop 4 words)) k ≡ slice_index words (4 + k) = get_or-take header.refs (drop 4 words) k 0 (omega arith) ∙ get_or-drop 4 words k 0 in
    subst IsFarWord (sym read) (far.refs k (omega arith))

pub near_words : (words : List ℕ) (header : Header) (pid link : ℕ) → IsFar words header → AreWords words → Near words header pid link
near_words words header pid link far fit =
    let refs_words = take header.refs (drop 4 words) in
    let nums = nums_by words header in
    let is = near_is words header pid link far in
    let was = object_is words header far in
    let good = AreWords-take header.refs (drop 4 words) (AreWords-drop 4 words fit) in
    let far_ones = far_refs words header far in
    let split : refs_words ++ nums ≡ drop 4 words =
    ap (λ (r : List ℕ). refs_words ++ take header.nums r) (sym (drop-drop header.refs 4 words))
    ∙ ap (λ (r : List ℕ). refs_words ++ r) (take_all header.nums (drop header.refs (drop 4 words)) (omega (arith, length-drop header.refs (drop 4 words), length-drop 4 words, far.long)))
    ∙ take-append-drop header.refs (drop 4 words) in
    let built : object_words (near_by pid link header (refs_by words header) nums) ≡ header_words (near_header pid link header) ++ drop 4 words =
    ap (λ (r : List ℕ). header_words (near_header pid link header) ++ (r ++ nums)) (far_words refs_words far_ones good) ∙ ap (λ (r : List ℕ). header_words (near_header pid link header) ++ r) split in
    record {
      words_are = ap object_words is ∙ built;
      header_is = ap (λ (o : Object). o.header) is;
      fit = λ low linked. subst IsFit (sym is) (record {
        fields = record { flags = omega arith; refs = far.fields.refs; nums = far.fields.nums; bytes = far.fields.bytes; pid = omega arith; chain = linked };
        lengths = record { bytes = far.lengths.bytes; words = far.lengths.words };
        pid = low;
        refs = length-map refs_words reference_at ∙ length-take-le header.refs (drop 4 words) (omega (arith, length-drop 4 words, far.long));
        nums = length-take-le header.nums (drop (4 + header.refs) words) (omega (arith, length-drop (4 + header.refs) words, far.long));
        home = far.home;
        bytes = far.bytes;
        references = far_references refs_words far_ones good;
        words = AreWords-take header.nums (drop (4 + header.refs) words) (AreWords-drop (4 + header.refs) words fit);
      });
      shown_as = λ heap.
          let names = sym (far_names heap refs_words far_ones good) in
          ap (shown far_of) was
          ∙ ap (λ (rs : List Reference). record { kind = header.kind; refs = rs; nums = nums; bytes = header.bytes }) names
          ∙ ap (shown (name_of heap)) (sym is);
      inside = λ heap slot to e. far_inside heap refs_words far_ones good slot to (sym (ap (λ (o : Object). get_or o.refs slot Nil) is) ∙ e);
    }

-- the object of a PID is local where the heap has it
pub local-place : (heap : Heap) (pid at : ℕ) → 1 ≤ pid → local_of heap pid ≡ Some at → IsLocal heap pid at
local-place heap pid at some e =
    let l = local-is 1 heap.objects pid at e in
    let held : IsHeld heap at = record { object = l.object; is = l.is } in
    let it : object_at heap at ≡ l.object = ap (λ (x : Option Object). unwrap_or x nothing) l.is in
    let pids : (header_at heap at).pid ≡ pid = ap (λ (x : Object). x.header.pid) it ∙ l.pid_is in
    record { held = held; name = name-pid (header_at heap at) at (omega arith) ∙ ap (λ (p : ℕ). Pid p) pids }

-- What a fetch did to the heap.
pub record Came (old new : Heap) (pid link : ℕ) (words : List ℕ) : Type 0 where
  pub is : new ≡ with_new old (near pid link words)
  pub header : Header
  pub near_words : Near words header pid link
  pub away : local_of old pid ≡ None
  pub good : IsHeap old

near_pid : (pid link : ℕ) (words : List ℕ) (header : Header) → Near words header pid link → (near pid link words).header.pid ≡ pid
near_pid pid link words header n = ap (λ (h : Header). h.pid) n.header_is

pub came-place : (old new : Heap) (pid link : ℕ) (words : List ℕ) → 1 ≤ pid → Came old new pid link words → IsLocal new pid (top_of old)
came-place old new pid link words some c =
    let o = near pid link words in
    let pids = near_pid pid link words c.header c.near_words in
    subst (λ (h : Heap). IsLocal h pid (top_of old)) (sym c.is) (record {
      held = held-top old o;
      name = ap (λ (x : Object). name_by x.header (top_of old)) (object-top old o) ∙ name-pid o.header (top_of old) (omega arith) ∙ ap (λ (p : ℕ). Pid p) pids;
    })

pub came-keeps : (old new : Heap) (pid link : ℕ) (words : List ℕ) → Came old new pid link words → Keeps old new
came-keeps old new pid link words c = subst (Keeps old) (sym c.is) (keeps-new old (near pid link words) c.good)

pub came-touched : (old new : Heap) (pid link : ℕ) (words : List ℕ) (holds holds_now : ℕ → List ℕ → Type 0) → 1 ≤ pid → Came old new pid link words → ((list : List ℕ) → holds pid list → list ≡ words) → ((p : ℕ) (list : List ℕ) → holds_now p list ↔ holds p list) → Touched (Joint old holds) (Joint new holds_now) (Pid pid)
came-touched old new pid link words holds holds_now some c told same =
    let o = near pid link words in
    let pids = near_pid pid link words c.header c.near_words in
    subst (λ (h : Heap). Touched (Joint old holds) (Joint h holds_now) (Pid pid)) (sym c.is)
    (joint-fetched old holds holds_now o pid c.good (c.near_words.inside old) some pids c.away same (λ list h. ap shown_words (told list h) ∙ c.near_words.shown_as old))

pub near-pid : (pid link : ℕ) (words : List ℕ) (header : Header) → Near words header pid link → (near pid link words).header.pid ≡ pid
near-pid pid link words header n = near_pid pid link words header n

pub near-size : (pid link : ℕ) (words : List ℕ) (header : Header) → Near words header pid link → size_of (near pid link words) ≡ object_length header
near-size pid link words header n = ap object_length n.header_is

assigned_by : Header → Bool
assigned_by h = h.flags % 2 == 1

pub near-plain : (pid link : ℕ) (words : List ℕ) (header : Header) → Near words header pid link → is_assigned (near pid link words) ≡ false
unfolding assigned_by
near-plain pid link words header n = ap assigned_by n.header_is

reached_by : Header → Bool
reached_by h = h.flags / 2 % 2 == 1

pub near-bare : (pid link : ℕ) (words : List ℕ) (header : Header) → Near words header pid link → is_reached (near pid link words) ≡ false
unfolding reached_by
near-bare pid link words header n = ap reached_by n.header_is
