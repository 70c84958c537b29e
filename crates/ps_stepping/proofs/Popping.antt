-- What a step does to the stacks, where it begins with something that is popped.
use Rattle.std.proofs.Common.{◌≡◌, ℕ, suc, ◌+◌, ℤ, Bool, true, false, List, [], ◌∷◌, length, refl, ap, subst, arith}
use Rattle.std.specs.Prelude.{nat_lt, if◌then◌else◌}
use Rattle.ps_heap.specs.Events.{Event}
use Rattle.ps_heap.specs.Values.{Value}
use Rattle.ps_heap.specs.Values as value
use Rattle.ps_stepping.specs.Config.{frame_words, Config, frame_in}
use Rattle.ps_stepping.specs.Steps.{Step, Goes, Stops, Stuck, on, push_ref, pop_num_of, pop_num, pop_ref_of, pop_ref, text_of, pop_text}
use Rattle.ps_stepping.specs.Effects.{Effect, refs, HasEffect}

abbrev pub Does : Effect → Config → Step → Type 0
Does e c (Goes events next) = HasEffect e c next
Does e c (Stops x touched) = Unit {0}
Does e c Stuck = Unit {0}

pub does_if : (e : Effect) (c : Config) (b : Bool) (x y : Step) → Does e c x → Does e c y → Does e c (if b then x else y)
does_if e c true x y f g = f
does_if e c false x y f g = g

-- what goes on where a test is true, and is stuck else
pub does_tested : (e : Effect) (c : Config) (b : Bool) (s : Step) → (b ≡ true → Does e c s) → Does e c (if b then s else Stuck)
does_tested e c true s h = h refl
does_tested e c false s h = tt

pub popped_num : (e : Effect) (c d : Config) (next : ℤ → Config → Step) →
    ((z : ℤ) (rest : List ℤ) → d.nums ≡ z ∷ rest → Does e c (next z (record d { nums = rest }))) → Does e c (pop_num d next)
popped_num e c d next h = of_list d.nums refl
  where
    of_list : (xs : List ℤ) → d.nums ≡ xs → Does e c (pop_num_of xs d next)
    of_list [] is = tt
    of_list (z ∷ rest) is = h z rest is

pub popped_ref : (e : Effect) (c d : Config) (next : Value → Config → Step) →
    ((v : Value) (rest : List Value) → d.refs ≡ v ∷ rest → Does e c (next v (record d { refs = rest }))) → Does e c (pop_ref d next)
popped_ref e c d next h = of_list d.refs refl
  where
    of_list : (xs : List Value) → d.refs ≡ xs → Does e c (pop_ref_of xs d next)
    of_list [] is = tt
    of_list (v ∷ rest) is = h v rest is

pub does_push_ref : (c : Config) (v : Value) → Does (refs 0 1) c (push_ref v c)
does_push_ref c v =
    does_if (refs 0 1) c (nat_lt ((frame_in c.unit).refs + length c.refs) frame_words) (on (record c { refs = v ∷ c.refs })) Stuck
    (record { nums = refl; refs = omega arith }) tt

-- a text is popped
pub popped_text : (e : Effect) (c d : Config) (next : List ℕ → Config → Step) →
    ((bytes : List ℕ) (rest : List Value) → length d.refs ≡ suc (length rest) → Does e c (next bytes (record d { refs = rest }))) →
    Does e c (pop_text d next)
popped_text e c d next h = popped_ref e c d (λ v d. text_of v d next) (λ v rest is. of_value v rest (ap length is))
  where
    of_value : (v : Value) (rest : List Value) → length d.refs ≡ suc (length rest) → Does e c (text_of v (record d { refs = rest }) next)
    of_value (value.Text bytes) rest is = h bytes rest is
    of_value (value.Num z) rest is = tt
    of_value (value.Flag b) rest is = tt
    of_value value.Nil rest is = tt
    of_value (value.Pointer o) rest is = tt
    of_value (value.Vector o) rest is = tt
    of_value (value.Procedure b o) rest is = tt
    of_value value.Nothing rest is = tt

pub moved_on : (e : Effect) (c d : Config) (s : Step) (next : Config) (events : List Event) → ((x : Config) → HasEffect e d x → HasEffect e c x) →
    Does e d s → s ≡ Goes events next → HasEffect e c next
moved_on e c d s next events f h is = f next (subst (λ (x : Step). Does e d x) is h)
