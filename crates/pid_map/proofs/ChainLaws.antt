-- Chains, and how far they go.
use Rattle.std.proofs.Common.{inl, inr, ◌⊎◌, ◌≡◌, ◌≢◌, ℕ, zero, suc, ◌%◌, ◌<◌, ◌≤◌, List, [], ◌∷◌, length, refl, sym, ap, ◌∙◌, subst, arith, if◌then◌else◌, nat_eq, get_or, set, Some, None}
use Rattle.std.proofs.lemmas.Bool.{cases_Bool, cases_eq, eq-eqb, ne_eqb, eqb-true, true≢false}
use Rattle.reaching.specs.Reaching.{IsIn, without}
use Rattle.std.proofs.Common.{mod-lt}
use Rattle.reaching.proofs.Lists.{then_is, else_is, in-without}
use Rattle.pid_map.specs.Chains.{Chain, AreOnce, Belongs, IsInMap, IsFind, Relinked, steps, IsAdded}

-- No more distinct numbers are below a bound than it says.

without_same : (x : ℕ) (ys : List ℕ) → (IsIn x ys → ⊥) → length (without x ys) ≡ length ys
unfolding without
without_same x [] away = refl
without_same x (y ∷ ys) away =
    ap length (else_is (nat_eq x y) (without x ys) (y ∷ without x ys) (ne_eqb x y (λ e. away (inl e)))) ∙ ap suc (without_same x ys (λ l. away (inr l)))

without_one : (x : ℕ) (ys : List ℕ) → AreOnce ys → length ys ≤ suc (length (without x ys))
unfolding without
without_one x [] once = omega arith
without_one x (y ∷ ys) once =
    elim (cases_Bool (nat_eq x y)) [
      | inl same ↦
          let e = eqb-true x y same in
          let rest = without_same x ys (λ l. once.0 (subst (λ z. IsIn z ys) e l)) in
          let is = ap length (then_is (nat_eq x y) (without x ys) (y ∷ without x ys) same) in
          omega (arith, rest, is)
      | inr apart ↦
          let is = ap length (else_is (nat_eq x y) (without x ys) (y ∷ without x ys) apart) in
          omega (arith, is, without_one x ys once.1)
    ]

without_once : (x : ℕ) (ys : List ℕ) → AreOnce ys → AreOnce (without x ys)
unfolding without
without_once x [] once = tt
without_once x (y ∷ ys) once =
    elim (cases_Bool (nat_eq x y)) [
      | inl same ↦ subst AreOnce (sym (then_is (nat_eq x y) (without x ys) (y ∷ without x ys) same)) (without_once x ys once.1)
      | inr apart ↦
          subst AreOnce (sym (else_is (nat_eq x y) (without x ys) (y ∷ without x ys) apart)) ((λ l. once.0 (in-without x y ys l)), without_once x ys once.1)
    ]

without_apart : (x z : ℕ) (ys : List ℕ) → IsIn z (without x ys) → x ≢ z
unfolding without
without_apart x z [] l e = l
without_apart x z (y ∷ ys) l e =
    elim (cases_Bool (nat_eq x y)) [
      | inl same ↦ without_apart x z ys (subst (IsIn z) (then_is (nat_eq x y) (without x ys) (y ∷ without x ys) same) l) e
      | inr apart ↦
          elim (subst (IsIn z) (else_is (nat_eq x y) (without x ys) (y ∷ without x ys) apart) l) [
            | inl f ↦ true≢false (sym (eq-eqb x y (e ∙ f)) ∙ apart)
            | inr m ↦ without_apart x z ys m e
          ]
    ]

pub few_below : (n : ℕ) (xs : List ℕ) → AreOnce xs → ((x : ℕ) → IsIn x xs → x < n) → length xs ≤ n
few_below zero [] once below = omega arith
few_below zero (x ∷ xs) once below = let lt = below x (inl refl) in omega (arith, lt)
few_below (suc n) xs once below =
    let rest = few_below n (without n xs) (without_once n xs once) (λ x l. let lt = below x (in-without n x xs l) in let ne = without_apart n x xs l in omega (arith, lt)) in
    omega (arith, rest, without_one n xs once)

-- Chains.

pub chain_other : (old new : ℕ → ℕ) (at : ℕ) (xs : List ℕ) → ((x : ℕ) → IsIn x xs → new x ≡ old x) → Chain old at xs → Chain new at xs
chain_other old new at [] same c = c
chain_other old new at (x ∷ xs) same c =
    (c.0, c.1, subst (λ n. Chain new n xs) (sym (same x (inl refl))) (chain_other old new (old x) xs (λ z l. same z (inr l)) c.2))

pub steps-chain : (next : ℕ → ℕ) (n at : ℕ) (xs : List ℕ) → Chain next at xs → length xs ≤ n → steps next n at ≡ length xs
unfolding steps
steps-chain next zero at [] c le = refl
steps-chain next zero at (x ∷ xs) c le = absurd (omega arith)
steps-chain next (suc n) at [] c le = then_is (nat_eq at 0) 0 (suc (steps next n (next at))) (eq-eqb at 0 c)
steps-chain next (suc n) at (x ∷ xs) c le =
    let ne : at ≢ 0 = λ e. omega (arith, e, c.0, c.1) in
    let rest = steps-chain next n (next x) xs c.2 (omega (arith, le)) in
    else_is (nat_eq at 0) 0 (suc (steps next n (next at))) (ne_eqb at 0 ne) ∙ ap suc (ap (λ z. steps next n (next z)) c.0 ∙ rest)

-- Finding: what is left to be looked at of a bucket's chain.
pub record Rest (heads : List ℕ) (key next : ℕ → ℕ) (is_place : ℕ → Type 0) (map : Belongs heads key next is_place) (bucket pid at : ℕ) : Type 0 where
  pub rest : List ℕ
  pub chain : Chain next at rest
  pub once : AreOnce rest
  pub within : (x : ℕ) → IsIn x rest → IsIn x (map.places bucket)
  pub passed : (x : ℕ) → IsIn x (map.places bucket) → IsIn x rest ⊎ (key x ≢ pid)

pub rest_all : (heads : List ℕ) (key next : ℕ → ℕ) (is_place : ℕ → Type 0) (map : Belongs heads key next is_place) (bucket pid at : ℕ) → bucket < length heads → at ≡ get_or heads bucket 0
    → Rest heads key next is_place map bucket pid at
rest_all heads key next is_place map bucket pid at lt e = record {
  rest = map.places bucket;
  chain = subst (λ n. Chain next n (map.places bucket)) (sym e) (map.chains bucket lt);
  once = map.once bucket lt;
  within = λ x l. l;
  passed = λ x l. inl l;
}

-- the place that is looked at, and what is left behind it
pub record Here (heads : List ℕ) (key next : ℕ → ℕ) (is_place : ℕ → Type 0) (map : Belongs heads key next is_place) (bucket pid at : ℕ) (long : ℕ) : Type 0 where
  pub is : IsIn at (map.places bucket)
  pub behind : key at ≢ pid → Rest heads key next is_place map bucket pid (next at)
  pub shorter : (n : ℕ) → long ≤ n → steps next n (next at) < steps next n at

pub rest_here : (heads : List ℕ) (key next : ℕ → ℕ) (is_place : ℕ → Type 0) (map : Belongs heads key next is_place) (bucket pid at : ℕ) → at ≢ 0 → (r : Rest heads key next is_place map bucket pid at)
    → Here heads key next is_place map bucket pid at (length r.rest)
rest_here heads key next is_place map bucket pid at ne r = go r.rest r.chain r.once r.within r.passed
  where
    go : (xs : List ℕ) → Chain next at xs → AreOnce xs → ((x : ℕ) → IsIn x xs → IsIn x (map.places bucket)) → ((x : ℕ) → IsIn x (map.places bucket) → IsIn x xs ⊎ (key x ≢ pid))
        → Here heads key next is_place map bucket pid at (length xs)
    go [] c once within passed = absurd (ne c)
    go (x ∷ xs) c once within passed =
        let chain : Chain next (next at) xs = subst (λ n. Chain next (next n) xs) (sym c.0) c.2 in
        record {
          is = within at (inl c.0);
          behind = λ apart. record {
            rest = xs;
            chain = chain;
            once = once.1;
            within = λ z l. within z (inr l);
            passed = λ z l. elim (passed z l) [
              | inl m ↦ elim m [ inl e ↦ inr (subst (λ w. key w ≢ pid) (c.0 ∙ sym e) apart) | inr k ↦ inl k ]
              | inr n ↦ inr n
            ];
          };
          shorter = λ n le.
              let a = steps-chain next n at (x ∷ xs) c le in
              let b = steps-chain next n (next at) xs chain (omega (arith, le)) in
              omega (arith, a, b);
        }

pub found_there : (heads : List ℕ) (key next : ℕ → ℕ) (is_place : ℕ → Type 0) (map : Belongs heads key next is_place) (bucket pid at : ℕ) → bucket < length heads → IsIn at (map.places bucket) → key at ≡ pid → IsFind map pid (Some at)
found_there heads key next is_place map bucket pid at lt is e = (record { bucket = bucket; below = lt; is = is }, e)

pub found_none : (heads : List ℕ) (key next : ℕ → ℕ) (is_place : ℕ → Type 0) (map : Belongs heads key next is_place) (bucket pid at : ℕ) → bucket ≡ pid % length heads → at ≡ 0
    → Rest heads key next is_place map bucket pid at → IsFind map pid None
found_none heads key next is_place map bucket pid at b zero_is r x m is =
    let same : m.bucket ≡ bucket = sym (map.bucket m.bucket x m.below m.is) ∙ (ap (λ k. k % length heads) is ∙ sym b) in
    elim (r.passed x (subst (λ n. IsIn x (map.places n)) same m.is)) [
      | inl l ↦ none_left r.rest r.chain l
      | inr n ↦ n is
    ]
  where
    none_left : (xs : List ℕ) → Chain next at xs → IsIn x xs → ⊥
    none_left [] c l = l
    none_left (y ∷ ys) c l = omega (arith, zero_is, c.0, c.1)

pub rest_few : (heads : List ℕ) (key next : ℕ → ℕ) (is_place : ℕ → Type 0) (map : Belongs heads key next is_place) (bucket pid at bound : ℕ) → bucket < length heads → ((x : ℕ) → is_place x → (1 ≤ x) × (x < bound))
    → (r : Rest heads key next is_place map bucket pid at) → length r.rest ≤ bound
rest_few heads key next is_place map bucket pid at bound lt range r = few_below bound r.rest r.once (λ x l. (range x (map.theirs bucket x lt (r.within x l))).1)

-- Adding.
pub added : (heads : List ℕ) (key next : ℕ → ℕ) (is_place : ℕ → Type 0) (map : Belongs heads key next is_place) (at bucket : ℕ) (key_now next_now : ℕ → ℕ) (place_now : ℕ → Type 0) → bucket ≡ key at % length heads → bucket < length heads
    → is_place at → 1 ≤ at → Relinked key next is_place key_now next_now place_now at (get_or heads bucket 0) → ((x : ℕ) → IsInMap map x → key x ≢ key at)
    → IsAdded map at (set heads bucket at) key_now next_now place_now
added heads key next is_place map at bucket key_now next_now place_now b lt place low link fresh =
    let away : (c x : ℕ) → c < length heads → IsIn x (map.places c) → x ≢ at = λ c x below l e. fresh x (record { bucket = c; below = below; is = l }) (ap key e) in
    let lists : ℕ → List ℕ = λ c. if nat_eq c bucket then at ∷ map.places c else map.places c in
    let here : (c : ℕ) → c ≡ bucket → lists c ≡ at ∷ map.places c = λ c e. then_is (nat_eq c bucket) (at ∷ map.places c) (map.places c) (eq-eqb c bucket e) in
    let there : (c : ℕ) → c ≢ bucket → lists c ≡ map.places c = λ c ne. else_is (nat_eq c bucket) (at ∷ map.places c) (map.places c) (ne_eqb c bucket ne) in
    let long = set_long heads bucket at in
    let same : (c : ℕ) → c < length heads → (x : ℕ) → IsIn x (map.places c) → next_now x ≡ next x = λ c below x l. link.others x (map.theirs c x below l) (away c x below l) in
    let within : (c : ℕ) → c < length (set heads bucket at) → c < length heads = λ c below. omega (arith, below, long) in
    let cases : (c x : ℕ) → IsIn x (lists c) → ((c ≡ bucket) × (x ≡ at)) ⊎ IsIn x (map.places c) =
    λ c x l. elim (cases_eq c bucket) [
      | inl e ↦ elim (subst (IsIn x) (here c e) l) [ inl f ↦ inl (e, f) | inr m ↦ inr m ]
      | inr ne ↦ inr (subst (IsIn x) (there c ne) l)
    ] in
    let now : Belongs (set heads bucket at) key_now next_now place_now = record {
      places = lists;
      chains = λ c below.
          elim (cases_eq c bucket) [
            | inl e ↦
                let old = chain_other next next_now (get_or heads c 0) (map.places c) (same c (within c below)) (map.chains c (within c below)) in
                let head : get_or (set heads bucket at) c 0 ≡ at = ap (λ n. get_or (set heads bucket at) n 0) e ∙ set_here heads bucket at lt in
                let next_is : get_or heads c 0 ≡ next_now at = ap (λ n. get_or heads n 0) e ∙ sym link.there in
                subst (Chain next_now (get_or (set heads bucket at) c 0)) (sym (here c e)) (head, low, subst (λ n. Chain next_now n (map.places c)) next_is old)
            | inr ne ↦
                let old = chain_other next next_now (get_or heads c 0) (map.places c) (same c (within c below)) (map.chains c (within c below)) in
                subst (Chain next_now (get_or (set heads bucket at) c 0)) (sym (there c ne)) (subst (λ n. Chain next_now n (map.places c)) (sym (set_there heads bucket c at ne)) old)
          ];
      once = λ c below.
          elim (cases_eq c bucket) [
            | inl e ↦ subst AreOnce (sym (here c e)) ((λ l. away c at (within c below) l refl), map.once c (within c below))
            | inr ne ↦ subst AreOnce (sym (there c ne)) (map.once c (within c below))
          ];
      theirs = λ c x below l. link.places x (elim (cases c x l) [ inl p ↦ subst is_place (sym p.1) place | inr m ↦ map.theirs c x (within c below) m ]);
      bucket = λ c x below l. elim (cases c x l) [
        | inl p ↦ ap (λ n. key_now x % n) long ∙ (ap (λ k. k % length heads) (link.keys x (subst is_place (sym p.1) place)) ∙ (ap (λ z. key z % length heads) p.1 ∙ (sym b ∙ sym p.0)))
        | inr m ↦ ap (λ n. key_now x % n) long ∙ (ap (λ k. k % length heads) (link.keys x (map.theirs c x (within c below) m)) ∙ map.bucket c x (within c below) m)
      ];
    } in
    record {
      now = now;
      has = record { bucket = bucket; below = omega (arith, lt, long); is = subst (IsIn at) (sym (here bucket refl)) (inl refl) };
      grows = λ x m. record {
        bucket = m.bucket;
        below = omega (arith, m.below, long);
        is = elim (cases_eq m.bucket bucket) [ inl e ↦ subst (IsIn x) (sym (here m.bucket e)) (inr m.is) | inr ne ↦ subst (IsIn x) (sym (there m.bucket ne)) m.is ];
      };
      no_more = λ x m. elim (cases m.bucket x m.is) [ inl p ↦ inl p.1 | inr l ↦ inr (record { bucket = m.bucket; below = within m.bucket m.below; is = l }) ];
    }
  where
    set_long : (xs : List ℕ) (i v : ℕ) → length (set xs i v) ≡ length xs
    set_long [] i v = refl
    set_long (x ∷ xs) zero v = refl
    set_long (x ∷ xs) (suc i) v = ap suc (set_long xs i v)

    set_here : (xs : List ℕ) (i v : ℕ) → i < length xs → get_or (set xs i v) i 0 ≡ v
    set_here [] i v lt = omega arith
    set_here (x ∷ xs) zero v lt = refl
    set_here (x ∷ xs) (suc i) v lt = set_here xs i v (omega arith)

    set_there : (xs : List ℕ) (i j v : ℕ) → j ≢ i → get_or (set xs i v) j 0 ≡ get_or xs j 0
    set_there [] i j v ne = refl
    set_there (x ∷ xs) zero zero v ne = absurd (ne refl)
    set_there (x ∷ xs) zero (suc j) v ne = refl
    set_there (x ∷ xs) (suc i) zero v ne = refl
    set_there (x ∷ xs) (suc i) (suc j) v ne = set_there xs i j v (λ e. ne (ap suc e))

pub bucket_below : (pid len n : ℕ) → len ≡ n → 1 ≤ n → pid % len < n
bucket_below pid len n e le = subst (λ k. pid % len < k) e (mod-lt pid (omega (arith, e, le)))

get_any : (xs : List ℕ) (i d e : ℕ) → i < length xs → get_or xs i d ≡ get_or xs i e
get_any [] i d e lt = omega arith
get_any (x ∷ xs) zero d e lt = refl
get_any (x ∷ xs) (suc i) d e lt = get_any xs i d e (omega arith)

pub head_is : (xs : List ℕ) (i v : ℕ) → i < length xs → v ≡ get_or xs i v → v ≡ get_or xs i 0
head_is xs i v lt e = e ∙ get_any xs i v 0 lt

pub vec_long : (xs : List ℕ) (len n : ℕ) → n ≡ len → len ≡ length xs → n ≡ length xs
vec_long xs len n e f = e ∙ f
