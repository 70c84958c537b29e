-- Calls on databases, after the texts that they pop.
use Rattle.std.proofs.Common.{◌≡◌, ℕ, List, [], ◌∷◌, Option, Some, refl, sym, ap, ◌∙◌, subst}
use Rattle.ps_base.specs.declared.line.Line.{Line}
use Rattle.machine_core.specs.ps_outside.Outside.{Outside}
use Rattle.machine_core.specs.obj_layout.Stored.{Space}
use Rattle.machine_core.specs.obj_layout.declared.reference.Reference.{Reference}
use Rattle.machine_core.specs.swizzle.Heap as area
use Rattle.machine_core.specs.ps_heap.Library.{CreateDatabase, OpenDatabase, heap_call}
use Rattle.machine_core.specs.ps_heap.Values.{Value, Num, Flag, Text, Nil, Pointer, Vector, Procedure, Nothing}
use Rattle.machine_core.specs.ps_meaning.Meaning.{Store}
use Rattle.machine_core.specs.ps_stepping.Config.{Config}
use Rattle.machine_core.specs.ps_stepping.Steps.{Step, Goes, Stops, Stuck, on, pop_ref_of, pop_text, text_of}
use Rattle.machine_core.specs.ps_stepping.Library.{answered_by, call_on_heap, gives_ref}
use Rattle.machine_core.specs.joint_ops.World.{DenotesIn}
use Rattle.machine_core.specs.declared.machine.Machine.{Machine}
use Rattle.machine_core.specs.declared.stepped.Stepped.{Stepped}
use Rattle.machine_core.specs.Holding.{HeldBy, IsSound}
use Rattle.machine_core.specs.Naming.{NamesObjects}
use Rattle.machine_core.specs.Stepped.{UnlessBroken}
use Rattle.machine_core.specs.inside.Taking.{Leaves}
use Rattle.machine_operands.specs.Popping.{GivesAs, anything}
use Rattle.machine_operands.proofs.Parts.{both-leave}
use Rattle.database_steps.specs.Databases.{IsAlone}
use Rattle.machine_databases.specs.Calls.{DoesCall, TakesCall}
use Rattle.machine_databases.specs.inside.Answering.{AreCredentials, AreEntry, Credentials, Entry, Follows, create_with, open_with, the_same}

-- What follows a pop holds the same.
abbrev store-in : Config → Step → Store
store-in c (Goes events next) = next.store
store-in c (Stops end_of_run touched) = c.store
store-in c Stuck = c.store

text-store : (c d : Config) (v : Value) → d.store ≡ c.store → store-in c (text_of v d (λ w e. on e)) ≡ c.store
text-store c d (Num z) same = refl
text-store c d (Flag b) same = refl
text-store c d (Text bytes) same = same
text-store c d Nil same = refl
text-store c d (Pointer id) same = refl
text-store c d (Vector id) same = refl
text-store c d (Procedure does scope) same = refl
text-store c d Nothing same = refl

ref-store : (c : Config) (vs : List Value) → store-in c (pop_ref_of vs c (λ v d. text_of v d (λ w e. on e))) ≡ c.store
ref-store c [] = refl
ref-store c (v ∷ vs) = text-store c (record c { refs = vs }) v refl

popped-store : (c d : Config) (w : List ℕ) → ((next : List ℕ → Config → Step) → pop_text c next ≡ next w d) → d.store ≡ c.store
popped-store c d w pops = sym (ap (store-in c) (pops (λ v e. on e))) ∙ ref-store c c.refs

pub still-alone : (c d : Config) (w : List ℕ) → ((next : List ℕ → Config → Step) → pop_text c next ≡ next w d) → IsAlone c.store.held → IsAlone d.store.held
still-alone c d w pops alone = subst (λ (s : Store). IsAlone s.held) (sym (popped-store c d w pops)) alone

-- What was denoted is denoted where the objects stayed.
denotes-there : (old last : Machine) → last.objects ≡ old.objects → (out : Outside Space) (names : List Reference) (to : Option ℕ) (v : Value)
    → DenotesIn old.objects out names to v → DenotesIn last.objects out names to v
denotes-there old last same out names to v d = subst (λ (here : area.Heap). DenotesIn here out names to v) (sym same) d

-- What follows the texts.
create-answered : (line : Line) (of : Credentials) (c : Config) → answered_by CreateDatabase line gives_ref (Text of.name ∷ Text of.password ∷ []) c ≡ create_with of c
unfolding heap_call
create-answered line of c = refl

open-answered : (line : Line) (entry : Entry) (c : Config)
    → answered_by OpenDatabase line gives_ref (Text entry.of.name ∷ Text entry.of.password ∷ Text entry.mode ∷ []) c ≡ open_with entry c
unfolding heap_call
open-answered line entry c = refl

-- what pops of a text do
abbrev Gives : Outside Space → List Reference → Config → Option ℕ → Machine → Type 0
Gives out names c to m = GivesAs out (λ at. Some at) (λ bytes. Text bytes) anything names (pop_text c) to m

abbrev Pops : Outside Space → Machine → Machine → Option ℕ → Type 0
Pops out old new to = (names : List Reference) (c : Config) → HeldBy out names old c → Gives out names c to new

module _ (before after : Outside Space) (line : Line) (old last new : Machine) (r : Stepped) (left : Leaves old last) where
  taken : (of : Config → Step) → IsSound new → UnlessBroken r (NamesObjects new) → UnlessBroken r (new.objects.size ≡ last.objects.size)
      → ((names : List Reference) (c : Config) → HeldBy before names old c → IsAlone c.store.held → DoesCall before after last.objects.size (of c) r new)
      → TakesCall before after of old new r
  taken of sound names size does = record {
    sound = sound;
    names = names;
    size = subst (λ (here : area.Heap). UnlessBroken r (new.objects.size ≡ here.size)) left.objects size;
    does = λ c h alone. subst (λ (here : area.Heap). DoesCall before after here.size (of c) r new) left.objects (does h.names c h.held alone);
  }

-- Two texts were popped.
module _ (before after : Outside Space) (line : Line) (old one two new : Machine) (r : Stepped) (name password : ℕ) (first : Leaves old one) (second : Leaves one two)
    (p : Pops before old one (Some password)) (q : Pops before one two (Some name)) where
  pub create-taken : Follows before after (AreCredentials two.objects before name password) create_with the_same two new r
      → TakesCall before after (call_on_heap CreateDatabase line) old new r
  create-taken f =
      taken before after line old two new r (both-leave old one two first second) (call_on_heap CreateDatabase line) f.sound f.names f.size
      (λ names c h alone.
      let x = p names c h in
      let y = q names x.0 x.3 in
      let of : Credentials = record { name = y.1; password = x.1 } in
      let step : call_on_heap CreateDatabase line c ≡ create_with of y.0 =
      x.2 (λ password d. pop_text d (λ name e. answered_by CreateDatabase line gives_ref (Text name ∷ Text password ∷ []) e))
      ∙ y.2 (λ name e. answered_by CreateDatabase line gives_ref (Text name ∷ Text x.1 ∷ []) e)
      ∙ create-answered line of y.0 in
      subst (λ (s : Step). DoesCall before after two.objects.size s r new) (sym step)
      (f.does names y.0 of y.3
      (record { name_is = y.4; password_is = denotes-there one two second.objects before names (Some password) (Text x.1) x.4 })
      (still-alone x.0 y.0 y.1 y.2 (still-alone c x.0 x.1 x.2 alone))))

-- Three texts were popped.
module _ (before after : Outside Space) (line : Line) (old one two three new : Machine) (r : Stepped) (name password mode : ℕ) (first : Leaves old one)
    (second : Leaves one two) (third : Leaves two three) (p : Pops before old one (Some mode)) (q : Pops before one two (Some password))
    (s : Pops before two three (Some name)) where
  pub open-taken : Follows before after (AreEntry three.objects before name password mode) open_with the_same three new r
      → TakesCall before after (call_on_heap OpenDatabase line) old new r
  open-taken f =
      let later = both-leave one two three second third in
      taken before after line old three new r (both-leave old one three first later) (call_on_heap OpenDatabase line) f.sound f.names f.size
      (λ names c h alone.
      let x = p names c h in
      let y = q names x.0 x.3 in
      let z = s names y.0 y.3 in
      let entry : Entry = record { of = record { name = z.1; password = y.1 }; mode = x.1 } in
      let step : call_on_heap OpenDatabase line c ≡ open_with entry z.0 =
      x.2 (λ mode d. pop_text d (λ password e. pop_text e (λ name f. answered_by OpenDatabase line gives_ref (Text name ∷ Text password ∷ Text mode ∷ []) f)))
      ∙ y.2 (λ password e. pop_text e (λ name f. answered_by OpenDatabase line gives_ref (Text name ∷ Text password ∷ Text x.1 ∷ []) f))
      ∙ z.2 (λ name f. answered_by OpenDatabase line gives_ref (Text name ∷ Text y.1 ∷ Text x.1 ∷ []) f)
      ∙ open-answered line entry z.0 in
      subst (λ (t : Step). DoesCall before after three.objects.size t r new) (sym step)
      (f.does names z.0 entry z.3
      (record {
        are = record { name_is = z.4; password_is = denotes-there two three third.objects before names (Some password) (Text y.1) y.4 };
        mode_is = denotes-there one three later.objects before names (Some mode) (Text x.1) x.4;
      })
      (still-alone y.0 z.0 z.1 z.2 (still-alone x.0 y.0 y.1 y.2 (still-alone c x.0 x.1 x.2 alone)))))
