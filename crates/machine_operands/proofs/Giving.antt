-- How an instruction ends after an operation on objects.
use Rattle.std.proofs.Common.{◌≡◌, ◌≢◌, ℕ, ◌+◌, ◌<◌, ◌≤◌, Bool, true, false, ℤ, List, [], ◌∷◌, length, Option, Some, None, inl, inr, refl, sym, ap, ◌∙◌, subst, arith}
use Rattle.std.specs.Prelude.{Result, if◌then◌else◌, IfSome, Ok, Err}
use Rattle.std.proofs.lemmas.Bool.{lt-ltb, le-ltb}
use Rattle.ps_base.specs.declared.line.Line.{Line}
use Rattle.machine_core.specs.ps_outside.Outside.{Outside}
use Rattle.machine_core.specs.obj_layout.Stored.{Space}
use Rattle.machine_core.specs.obj_layout.declared.reference.Reference.{Reference}
use Rattle.machine_core.specs.swizzle.Heap as area
use Rattle.machine_core.specs.swizzle.Heap.{IsHeld}
use Rattle.machine_core.specs.swizzle.Joint.{name_at}
use Rattle.machine_core.specs.joint_ops.heap_meaning.Paired.{and_name}
use Rattle.machine_core.specs.swizzle.Reading.{LeavesOutside}
use Rattle.machine_core.specs.swizzle.declared.fault.SwizzleFault.{SwizzleFault}
use Rattle.machine_core.specs.text_forms.declared.forms.Form.{Form}
use Rattle.machine_core.specs.text_forms.declared.forms.Form.TheVariants as form
use Rattle.machine_core.specs.heap_places.Places.{IsNear}
use Rattle.machine_core.specs.heap_places.declared.value.Value as code
use Rattle.machine_core.specs.heap_places.declared.value.Value.TheVariants as held
use Rattle.machine_core.specs.heap_texts.declared.fault.OpFault.{OpFault}
use Rattle.machine_core.specs.heap_texts.declared.fault.OpFault.TheVariants as op
use Rattle.machine_core.specs.ps_heap.Values.{Value, Text, Num, Flag, word_of, number_of}
use Rattle.machine_core.specs.ps_heap.Values as value
use Rattle.machine_core.specs.ps_heap.Held.{assigning, reading, denoted}
use Rattle.machine_core.specs.ps_heap.Texts.{Attempt, Yields, Fails}
use Rattle.machine_core.specs.ps_heap.Objects.{Heap, Object, new_number}
use Rattle.machine_core.specs.ps_meaning.Meaning.{Store, and_text, and_object, on_held}
use Rattle.machine_core.specs.ps_heap.Weights.{text_weight, own_weight}
use Rattle.machine_core.specs.ps_stepping.Config.{Config, frame_words, frame_in}
use Rattle.machine_core.specs.ps_stepping.Steps.{Step, Goes, Stuck, on, attempted, push_num, push_ref}
use Rattle.machine_core.specs.ps_stepping.Objects.{make_text, make, having, changed, when_number, when_reference}
use Rattle.machine_core.specs.joint_ops.World.{Answers, Writes, IsForIn, IsOfForm, Rewritten, Stands}
use Rattle.machine_core.specs.joint_ops.Made.{IsShort, Makes, MakesText}
use Rattle.machine_core.specs.objects.Classes.{MakesLater}
use Rattle.machine_core.specs.declared.machine.Machine.{Machine}
use Rattle.machine_core.specs.declared.stepped.Stepped.{Stepped}
use Rattle.machine_core.specs.declared.stepped.Stepped.TheVariants.{Quiet, Breaks, Damaged}
use Rattle.machine_core.specs.Full as no_room
use Rattle.machine_core.specs.Full.{BreaksBy}
use Rattle.machine_core.specs.Holding.{HeldBy, HeldIn, IsSound, words_of}
use Rattle.machine_core.specs.Stepped.{Does, Takes}
use Rattle.machine_core.specs.inside.Taking.{TakesRef}
use Rattle.machine_core.proofs.Carrying.{held-more, read-holds, touched-holds, short-full, does-behind, size-behind}
use Rattle.machine_core.proofs.Popping.{refs_taken}
use Rattle.machine_core.proofs.RunLaws.{run-counting, run-gained, run-made, run-written}
use Rattle.machine_operands.specs.Giving.{failed_of, failed_in, broken_of, broken_in, IsNaming, structures, vectors, EndsSoundly, GivesText, GivesObject, GivesStructure, GivesNumber, GivesReference, GivesBound, GivesFlag, Changes}
use Rattle.machine_operands.proofs.Breaking.{does-same, damaged-goes, failed-making, failed-soundly, broken-soundly, trap-does, off-does, failed-code, broken-code}

-- Where the stack of references is full, nothing is pushed.
pub full-stuck : (m : Machine) (outside : Outside Space) (c : Config) (names : List Reference) (v : Value) (store : Store) → HeldBy outside names m c
    → frame_words ≤ length m.refs.own → push_ref v (record c { store = store }) ≡ Stuck
full-stuck m outside c names v store h full =
    ap (λ (b : Bool). if b then on (record c { store = store; refs = v ∷ c.refs }) else Stuck)
    (le-ltb ((frame_in c.unit).refs + length c.refs) frame_words (omega (arith, full, refs_taken m outside c names h)))

pub room-pushes : (m : Machine) (outside : Outside Space) (c : Config) (names : List Reference) (v : Value) (store : Store) → HeldBy outside names m c
    → length m.refs.own < frame_words → push_ref v (record c { store = store }) ≡ Goes [] (record c { store = store; refs = v ∷ c.refs })
room-pushes m outside c names v store h room =
    ap (λ (b : Bool). if b then on (record c { store = store; refs = v ∷ c.refs }) else Stuck)
    (lt-ltb ((frame_in c.unit).refs + length c.refs) frame_words (omega (arith, room, refs_taken m outside c names h)))

-- There was no room for what is made, or not even on the stack.
short-does : (m new : Machine) (r : Stepped) (outside : Outside Space) (here : area.Heap) (names : List Reference) (c : Config) (v : Value) (store : Store) (weight : ℕ)
    (fault : SwizzleFault) (line : Line) (room : Bool) → HeldIn here outside names m c → IsShort here m.objects weight fault
    → no_room.Makes c.store (record c { store = store; refs = v ∷ c.refs }) weight → (room ≡ true → length m.refs.own < frame_words)
    → (room ≡ false → frame_words ≤ length m.refs.own) → r ≡ failed_of (op.Swizzle fault) room → new ≡ failed_in (op.Swizzle fault) line room m
    → Does outside outside here.size (push_ref v (record c { store = store })) r new
short-does m new r outside here names c v store weight fault line true h short makes room full answer left =
    let now = subst (λ (a : area.Heap). HeldIn a outside names m c) (sym short.stays) h in
    let s = push_ref v (record c { store = store }) in
    subst (λ (x : Stepped). Does outside outside here.size s x new) (sym answer)
    (subst (λ (n : Machine). BreaksBy outside outside here.size s n.fault) (sym left)
    (short-full here m.objects outside outside s c.store (record c { store = store; refs = v ∷ c.refs }) weight fault
    (room-pushes m outside c names v store now (room refl)) makes short))
short-does m new r outside here names c v store weight fault line false h short makes room full answer left =
    let now = subst (λ (a : area.Heap). HeldIn a outside names m c) (sym short.stays) h in
    subst (λ (x : Stepped). Does outside outside here.size (push_ref v (record c { store = store })) x new) (sym answer)
    (full-stuck m outside c names v store now (full refl))

-- a new object on top of the references, as a cause of want of room
makes-named : (c : Config) (object : Object) (denoting : ℕ → Value) → IsNaming denoting
    → no_room.Makes c.store (record c { store = and_object object c.store; refs = denoting (new_number c.store.held.objects) ∷ c.refs }) (own_weight object)
makes-named c object denoting structures = no_room.a_structure object refl refl
makes-named c object denoting vectors = no_room.a_vector object refl refl

module _ (outside : Outside Space) (line : Line) (m new : Machine) (r : Stepped) where
  pub text-pushed : (at : ℕ) → r ≢ Breaks → TakesRef outside outside push_ref m (Some at) new r → GivesText outside line m new r (Ok at)
  text-pushed at goes push = record {
    ends = record { sound = push.sound; names = push.names; size = push.size; breaks = λ off. absurd (goes off) };
    does = λ here names c attempt h made.
        let text = made.2 in
        let store = and_text made.0 c.store in
        let w = words_of m in
        let read = run-gained names w.writing w.asked w.directory c.store.held here m.objects outside outside text.stands.gains h.run in
        let run = run-counting names w.writing w.asked w.directory c.store.held m.objects outside (text_weight made.0) read in
        let now = held-more here m.objects outside outside names names w c store text.stands.carries h run refl refl in
        does-same outside outside here.size m.objects.size (make_text made.0 c) (attempted line attempt (λ bytes. make_text bytes c)) r new text.stands.carries.size
        (ap (λ (a : Attempt (List ℕ)). attempted line a (λ bytes. make_text bytes c)) made.1)
        (push.does names (Text made.0) (record c { store = store }) now text.denotes);
  }

  pub text-failed : (fault : OpFault) (room : Bool) → (room ≡ true → length m.refs.own < frame_words) → (room ≡ false → frame_words ≤ length m.refs.own)
      → IsSound new → r ≡ failed_of fault room → new ≡ failed_in fault line room m → GivesText outside line m new r (Err fault)
  text-failed (op.Trap t) room some none sound answer left = record {
    ends = failed-making m new r line (op.Trap t) room sound answer left;
    does = λ here names c attempt h made. trap-does m new r outside outside line here.size t attempt (λ bytes. make_text bytes c) answer left made.0;
  }
  text-failed (op.Swizzle fault) room some none sound answer left = record {
    ends = failed-making m new r line (op.Swizzle fault) room sound answer left;
    does = λ here names c attempt h made.
        does-same outside outside here.size here.size (make_text made.0 c) (attempted line attempt (λ bytes. make_text bytes c)) r new refl
        (ap (λ (a : Attempt (List ℕ)). attempted line a (λ bytes. make_text bytes c)) made.1)
        (short-does m new r outside here names c (Text made.0) (and_text made.0 c.store) (text_weight made.0) fault line room h made.2 (no_room.a_text refl refl) some none answer left);
  }

  pub object-pushed : (at : ℕ) → r ≢ Breaks → TakesRef outside outside push_ref m (Some at) new r → GivesObject outside line m new r (Ok at)
  object-pushed at goes push = record {
    ends = record { sound = push.sound; names = push.names; size = push.size; breaks = λ off. absurd (goes off) };
    does = λ here names c denoting attempt naming h made.
        let it = made.2 in
        let store = and_object made.0 c.store in
        let more = and_name names (name_at m.objects at) in
        let w = words_of m in
        let run = run-made names w.writing w.asked w.directory c.store.held here m.objects outside made.0 at it.gains
        (record { held = it.held; unstored = it.unstored; fresh = it.fresh; world = it.world }) h.run in
        let now = held-more here m.objects outside outside names more w c store it.carries h run refl refl in
        does-same outside outside here.size m.objects.size (make denoting made.0 c) (attempted line attempt (λ object. make denoting object c)) r new it.carries.size
        (ap (λ (a : Attempt Object). attempted line a (λ object. make denoting object c)) made.1)
        (push.does more (denoting (new_number c.store.held.objects)) (record c { store = store }) now it.denotes);
  }

  pub object-failed : (fault : OpFault) (room : Bool) → (room ≡ true → length m.refs.own < frame_words) → (room ≡ false → frame_words ≤ length m.refs.own)
      → IsSound new → r ≡ failed_of fault room → new ≡ failed_in fault line room m → GivesObject outside line m new r (Err fault)
  object-failed (op.Trap t) room some none sound answer left = record {
    ends = failed-making m new r line (op.Trap t) room sound answer left;
    does = λ here names c denoting attempt naming h made.
        trap-does m new r outside outside line here.size t attempt (λ object. make denoting object c) answer left made.0;
  }
  object-failed (op.Swizzle fault) room some none sound answer left = record {
    ends = failed-making m new r line (op.Swizzle fault) room sound answer left;
    does = λ here names c denoting attempt naming h made.
        does-same outside outside here.size here.size (make denoting made.0 c) (attempted line attempt (λ object. make denoting object c)) r new refl
        (ap (λ (a : Attempt Object). attempted line a (λ object. make denoting object c)) made.1)
        (short-does m new r outside here names c (denoting (new_number c.store.held.objects)) (and_object made.0 c.store) (own_weight made.0) fault line room h made.2
        (makes-named c made.0 denoting naming) some none answer left);
  }

-- an int or a bool that was read, as a number
module _ (here : area.Heap) (outside : Outside Space) (names : List Reference) where
  abbrev pub IsRead : code.Value → ℤ → Form → Value → Type 0
  IsRead k z f v = IsOfForm f k → IsForIn here outside names k v → (word_of v ≡ z) × ((s : Step) → when_number (Some f) s ≡ s)

  pub int-read : (z : ℤ) (f : Form) (v : Value) → IsRead (held.Num z) z f v
  int-read z form.Number (Num w) of is = (sym is, λ s. refl)
  int-read z form.Number (Flag b) of is = absurd is
  int-read z form.Number (Text b) of is = absurd is
  int-read z form.Number value.Nil of is = absurd is
  int-read z form.Number (value.Pointer id) of is = absurd is
  int-read z form.Number (value.Vector id) of is = absurd is
  int-read z form.Number (value.Procedure body scope) of is = absurd is
  int-read z form.Number value.Nothing of is = absurd is
  int-read z form.Flag v of is = absurd of
  int-read z form.Reference v of is = absurd of

  pub flag-read : (b : Bool) (f : Form) (v : Value) → IsRead (held.Flag b) (number_of b) f v
  flag-read b form.Flag (Flag c) of is = (ap number_of (sym is), λ s. refl)
  flag-read b form.Flag (Num z) of is = absurd is
  flag-read b form.Flag (Text t) of is = absurd is
  flag-read b form.Flag value.Nil of is = absurd is
  flag-read b form.Flag (value.Pointer id) of is = absurd is
  flag-read b form.Flag (value.Vector id) of is = absurd is
  flag-read b form.Flag (value.Procedure body scope) of is = absurd is
  flag-read b form.Flag value.Nothing of is = absurd is
  flag-read b form.Number v of is = absurd of
  flag-read b form.Reference v of is = absurd of

-- what is kept where the machine stays
stays-soundly : {T : Type 0} (lies : T → Type 0) (got : T) (m : Machine) → IsSound m → EndsSoundly (Ok got) lies m m Damaged
stays-soundly lies got m sound = record { sound = sound; names = λ n held. n; size = λ k is. is; breaks = damaged-goes Damaged refl }

module _ (before after : Outside Space) (m new : Machine) (r : Stepped) where
  -- a number was pushed after an operation that read
  pushed-after : (here : area.Heap) (names : List Reference) (c : Config) (z : ℤ) (s : Step) → LeavesOutside before after → m.objects.size ≡ here.size
      → HeldIn m.objects after names m c → s ≡ push_num z c → Takes after after (push_num z) m new r → Does before after here.size s r new
  pushed-after here names c z s left size held is push =
      does-behind before after after here.size m.objects.size s r new left size
      (subst (λ (x : Step). Does after after m.objects.size x r new) (sym is) (push.does c (record { names = names; held = held })))

  pushed-soundly : {T : Type 0} (lies : T → Type 0) (got : T) (of : Config → Step) → r ≢ Breaks → Takes after after of m new r → EndsSoundly (Ok got) lies m new r
  pushed-soundly lies got of goes push = record {
    sound = push.sound;
    names = λ n held. push.names n;
    size = λ k is. size-behind r k m.objects.size new.objects.size is push.size;
    breaks = goes;
  }

  pub bound-pushed : (z : ℤ) → r ≢ Breaks → Takes after after (push_num z) m new r → GivesBound before after m new r (Ok z)
  bound-pushed z goes push = record {
    ends = pushed-soundly (λ z. Unit {0}) z (push_num z) goes push;
    does = λ here names c wanted left h got.
        let same : wanted ≡ z = (let e : Yields wanted ≡ Yields got.0 = got.1 in cc) ∙ sym got.2 in
        pushed-after here names c z (push_num wanted c) left got.3.carries.size (read-holds here m.objects before after names (words_of m) c h got.3) (ap (λ (x : ℤ). push_num x c) same) push;
  }

  pub bound-broken : (fault : OpFault) → IsSound new → r ≡ broken_of fault → new ≡ broken_in fault m → GivesBound before after m new r (Err fault)
  bound-broken (op.Trap t) sound answer left = record {
    ends = broken-soundly m new r (λ z. Unit {0}) (op.Trap t) sound answer left;
    does = λ here names c wanted leaves h got. absurd (let e : Yields wanted ≡ Fails t = got.0 in cc);
  }
  bound-broken (op.Swizzle fault) sound answer left = record {
    ends = broken-soundly m new r (λ z. Unit {0}) (op.Swizzle fault) sound answer left;
    does = λ here names c wanted leaves h got. off-does m new r before after here (push_num wanted c) fault answer left got;
  }

  pub flag-pushed : (b : Bool) → r ≢ Breaks → Takes after after (push_num (number_of b)) m new r → GivesFlag before after m new r (Ok b)
  flag-pushed b goes push = record {
    ends = pushed-soundly (λ b. Unit {0}) b (push_num (number_of b)) goes push;
    does = λ here names c wanted left h got.
        let same : wanted ≡ b = (let e : Yields wanted ≡ Yields got.0 = got.1 in cc) ∙ sym got.2 in
        pushed-after here names c (number_of b) (push_num (number_of wanted) c) left got.3.carries.size (read-holds here m.objects before after names (words_of m) c h got.3) (ap (λ (x : Bool). push_num (number_of x) c) same) push;
    damaged = λ here at s stuck by. absurd by;
  }

  pub flag-broken : (fault : OpFault) → IsSound new → r ≡ broken_of fault → new ≡ broken_in fault m → GivesFlag before after m new r (Err fault)
  flag-broken (op.Trap t) sound answer left = record {
    ends = broken-soundly m new r (λ b. Unit {0}) (op.Trap t) sound answer left;
    does = λ here names c wanted leaves h got. absurd (let e : Yields wanted ≡ Fails t = got.0 in cc);
    damaged = λ here at s stuck by. absurd by;
  }
  flag-broken (op.Swizzle fault) sound answer left = record {
    ends = broken-soundly m new r (λ b. Unit {0}) (op.Swizzle fault) sound answer left;
    does = λ here names c wanted leaves h got. off-does m new r before after here (push_num (number_of wanted) c) fault answer left got;
    damaged = broken-code m new r before after Bool (op.Swizzle fault) answer left;
  }

  -- a structure that was made after the text of its class was read
  pub structure-pushed : (line : Line) (at : ℕ) → r ≢ Breaks → TakesRef after after push_ref m (Some at) new r → GivesStructure before after m new r (Ok at)
  structure-pushed line at goes push = record {
    ends = record {
      sound = push.sound;
      names = push.names;
      size = λ k is. size-behind r k m.objects.size new.objects.size is push.size;
      breaks = goes;
    };
    does = λ here names c object left h made.
        let held = read-holds here made.mid before after names (words_of m) c h made.read in
        let g = object-pushed after line m new r at goes push in
        does-behind before after after here.size made.mid.size (make value.Pointer object c) r new left made.read.carries.size
        (g.does made.mid names c value.Pointer (Yields object) structures held made.made);
    damaged = λ here at s stuck by. absurd by;
  }

  pub structure-broken : (line : Line) (fault : OpFault) → length m.refs.own < frame_words → IsSound new → r ≡ broken_of fault → new ≡ broken_in fault m
      → GivesStructure before after m new r (Err fault)
  structure-broken line (op.Trap t) room sound answer left = record {
    ends = broken-soundly m new r (IsHeld m.objects) (op.Trap t) sound answer left;
    does = λ here names c object leaves h made. absurd (let e : Yields object ≡ Fails t = made.made.0 in cc);
    damaged = λ here at s stuck by. absurd by;
  }
  structure-broken line (op.Swizzle fault) room sound answer left = record {
    ends = broken-soundly m new r (IsHeld m.objects) (op.Swizzle fault) sound answer left;
    does = λ here names c object leaves h made. later here names c object leaves h made;
    damaged = broken-code m new r before after ℕ (op.Swizzle fault) answer left;
  }
    where
      later : (here : area.Heap) (names : List Reference) (c : Config) (object : Object) → LeavesOutside before after → HeldIn here before names m c
          → MakesLater here m.objects before after c.store.held.objects names value.Pointer (Yields object) (Err (op.Swizzle fault))
          → Does before after here.size (make value.Pointer object c) r new
      later here names c object leaves h (inl made) =
          let held = read-holds here made.mid before after names (words_of m) c h made.read in
          let g = object-failed after line m new r (op.Swizzle fault) true (λ e. room) (λ e. absurd (cc)) sound answer left in
          does-behind before after after here.size made.mid.size (make value.Pointer object c) r new leaves made.read.carries.size
          (g.does made.mid names c value.Pointer (Yields object) structures held made.made)
      later here names c object leaves h (inr off) = off-does m new r before after here (make value.Pointer object c) fault answer left off

  module _ (line : Line) where
    pub number-pushed : (z : ℤ) (k : code.Value) → ((names : List Reference) (f : Form) (v : Value) → IsRead m.objects after names k z f v)
        → r ≢ Breaks → Takes after after (push_num z) m new r → GivesNumber before after m new r line (Ok k)
    number-pushed z k read goes push = record {
      ends = pushed-soundly (λ value. Unit {0}) k (push_num z) goes push;
      does = λ here names c f attempt left h got.
          let is = read names f got.0 got.2.0 got.2.1 in
          pushed-after here names (having (reading got.0) c) z (attempted line attempt (λ w. when_number (Some f) (push_num (word_of w) (having (reading w) c)))) left got.3.carries.size
          (touched-holds here m.objects before after names (words_of m) c (denoted got.0) h got.3)
          (ap (λ (a : Attempt Value). attempted line a (λ w. when_number (Some f) (push_num (word_of w) (having (reading w) c)))) got.1
          ∙ is.1 (push_num (word_of got.0) (having (reading got.0) c)) ∙ ap (λ (x : ℤ). push_num x (having (reading got.0) c)) is.0) push;
      damaged = λ here at s stuck by. absurd by;
    }

    pub number-failed : (fault : OpFault) → IsSound new → r ≡ failed_of fault true → new ≡ failed_in fault line true m
        → GivesNumber before after m new r line (Err fault)
    number-failed (op.Trap t) sound answer left = record {
      ends = failed-soundly m new r (λ value. Unit {0}) line (op.Trap t) sound answer left;
      does = λ here names c f attempt leaves h got.
          trap-does m new r before after line here.size t attempt (λ w. when_number (Some f) (push_num (word_of w) (having (reading w) c))) answer left got.0;
      damaged = λ here at s stuck by. absurd by;
    }
    number-failed (op.Swizzle fault) sound answer left = record {
      ends = failed-soundly m new r (λ value. Unit {0}) line (op.Swizzle fault) sound answer left;
      does = λ here names c f attempt leaves h got.
          off-does m new r before after here (attempted line attempt (λ w. when_number (Some f) (push_num (word_of w) (having (reading w) c)))) fault answer left got;
      damaged = failed-code m new r before after code.Value line (op.Swizzle fault) answer left;
    }

    pub reference-pushed : (to : Option ℕ) → r ≢ Breaks → TakesRef after after push_ref m to new r → GivesReference before after m new r line (Ok (held.Ref to))
    reference-pushed to goes push = record {
      ends = record {
        sound = push.sound;
        names = λ n near. push.names n (near-held m.objects to near);
        size = λ k is. size-behind r k m.objects.size new.objects.size is push.size;
        breaks = goes;
      };
      does = λ here names c f attempt left h got.
          let now = touched-holds here m.objects before after names (words_of m) c (denoted got.0) h got.3 in
          does-behind before after after here.size m.objects.size (attempted line attempt (λ w. when_reference (Some f) (push_ref w (having (reading w) c)))) r new left got.3.carries.size
          (subst (λ (s : Step). Does after after m.objects.size s r new)
          (sym (ap (λ (a : Attempt Value). attempted line a (λ w. when_reference (Some f) (push_ref w (having (reading w) c)))) got.1 ∙ referred f to got.2.0 (push_ref got.0 (having (reading got.0) c))))
          (push.does names got.0 (having (reading got.0) c) now got.2.1));
      damaged = λ here at s stuck by. absurd by;
    }
      where
        near-held : (here : area.Heap) (to : Option ℕ) → IsNear here (held.Ref to) → IfSome to (IsHeld here)
        near-held here None near = tt
        near-held here (Some at) near = near

        referred : (f : Form) (to : Option ℕ) → IsOfForm f (held.Ref to) → (s : Step) → when_reference (Some f) s ≡ s
        referred form.Reference to is s = refl
        referred form.Number to is s = absurd is
        referred form.Flag to is s = absurd is

    pub reference-failed : (fault : OpFault) → IsSound new → r ≡ failed_of fault true → new ≡ failed_in fault line true m
        → GivesReference before after m new r line (Err fault)
    reference-failed (op.Trap t) sound answer left = record {
      ends = failed-soundly m new r (IsNear m.objects) line (op.Trap t) sound answer left;
      does = λ here names c f attempt leaves h got.
          trap-does m new r before after line here.size t attempt (λ w. when_reference (Some f) (push_ref w (having (reading w) c))) answer left got.0;
      damaged = λ here at s stuck by. absurd by;
    }
    reference-failed (op.Swizzle fault) sound answer left = record {
      ends = failed-soundly m new r (IsNear m.objects) line (op.Swizzle fault) sound answer left;
      does = λ here names c f attempt leaves h got.
          off-does m new r before after here (attempted line attempt (λ w. when_reference (Some f) (push_ref w (having (reading w) c)))) fault answer left got;
      damaged = failed-code m new r before after code.Value line (op.Swizzle fault) answer left;
    }

    pub change-failed : (fault : OpFault) → IsSound new → r ≡ failed_of fault true → new ≡ failed_in fault line true m
        → Changes before after m new r line (Err fault)
    change-failed (op.Trap t) sound answer left = record {
      ends = failed-soundly m new r (λ unit. Unit {0}) line (op.Trap t) sound answer left;
      does = λ here names c place operand attempt same h did. trap-does m new r before after line here.size t attempt (λ heap. changed place heap c) answer left did.0;
      damaged = λ here at s stuck by. absurd by;
    }
    change-failed (op.Swizzle fault) sound answer left = record {
      ends = failed-soundly m new r (λ unit. Unit {0}) line (op.Swizzle fault) sound answer left;
      does = λ here names c place operand attempt same h did. off-does m new r before after here (attempted line attempt (λ heap. changed place heap c)) fault answer left did;
      damaged = failed-code m new r before after (Unit {0}) line (op.Swizzle fault) answer left;
    }

-- The machine stays.
module _ (before after : Outside Space) (m : Machine) (line : Line) (sound : IsSound m) where
  -- what was read is in the other row
  pub no-number : (to : Option ℕ) → GivesNumber before after m m Damaged line (Ok (held.Ref to))
  no-number to = record {
    ends = stays-soundly (λ value. Unit {0}) (held.Ref to) m sound;
    does = λ here names c f attempt left h got.
        ap (λ (a : Attempt Value). attempted line a (λ w. when_number (Some f) (push_num (word_of w) (having (reading w) c)))) got.1 ∙ of f got.2.0 (push_num (word_of got.0) (having (reading got.0) c));
    damaged = λ here at s stuck by. absurd by;
  }
    where
      of : (f : Form) → IsOfForm f (held.Ref to) → (s : Step) → when_number (Some f) s ≡ Stuck
      of form.Reference is s = refl
      of form.Number is s = absurd is
      of form.Flag is s = absurd is

  pub no-reference : (k : code.Value) → ((to : Option ℕ) → k ≡ held.Ref to → ⊥) → GivesReference before after m m Damaged line (Ok k)
  no-reference k other = record {
    ends = stays-soundly (IsNear m.objects) k m sound;
    does = λ here names c f attempt left h got.
        ap (λ (a : Attempt Value). attempted line a (λ w. when_reference (Some f) (push_ref w (having (reading w) c)))) got.1 ∙ of f k other got.2.0 (push_ref got.0 (having (reading got.0) c));
    damaged = λ here at s stuck by. absurd by;
  }
    where
      of : (f : Form) (k : code.Value) → ((to : Option ℕ) → k ≡ held.Ref to → ⊥) → IsOfForm f k → (s : Step) → when_reference (Some f) s ≡ Stuck
      of form.Number k other is s = refl
      of form.Flag k other is s = refl
      of form.Reference (held.Ref to) other is s = absurd (other to refl)
      of form.Reference (held.Num z) other is s = absurd is
      of form.Reference (held.Flag b) other is s = absurd is

  quiet-goes : Quiet ≢ Breaks
  quiet-goes breaks = cc

  -- what was written
  pub change-done : (unit : Unit {0}) → Changes before after m m Quiet line (Ok unit)
  change-done unit = record {
    ends = record { sound = sound; names = λ n held. n; size = λ k is. is; breaks = quiet-goes };
    does = λ here names c place operand attempt same h did.
        let written = subst (λ (id : ℕ). Rewritten here m.objects before after id c.store.held.objects did.0 names) (sym same) did.2 in
        let w = words_of m in
        let run = run-written names w.writing w.asked w.directory c.store.held here m.objects before after place did.0 written h.run in
        let store = on_held (assigning place did.0 c.store.held) c.store in
        let now = held-more here m.objects before after names names w c store written.carries h run refl refl in
        ([], record c { store = store }, ap (λ (a : Attempt Heap). attempted line a (λ heap. changed place heap c)) did.1, refl, record { names = names; held = now });
    damaged = λ here at s stuck by. absurd by;
  }
