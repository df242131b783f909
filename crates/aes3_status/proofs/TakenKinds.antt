-- What statuses take, by the kinds of them that were met.
use Rattle.std.proofs.Common.{◌≡◌, ◌≢◌, ℕ, zero, suc, ◌+◌, ◌<◌, ◌≤◌, ◌⊎◌, inl, inr, Bool, ◌||◌}
use Rattle.std.proofs.Common.{true, false, cond, eqb, eq-eqb, List, [], ◌∷◌, ◌++◌, length, get_or, set, refl, ap, ap₂}
use Rattle.std.proofs.Common.{◌∙◌, sym, arith, ne_eqb}
use Rattle.std.specs.Prelude.{option_and_then}
use Rattle.std.specs.Option.{is_some}
use Rattle.std.proofs.Common.{add-one, append-nil, take}
use Rattle.std.proofs.lemmas.List.Sums.{fold_more}
use Rattle.std.proofs.lemmas.Option.{slice_get-get_or}
use Rattle.std.specs.List.{All, list_all, list_any, range_with_len}
use Rattle.std.proofs.lemmas.Bool.{cases_eq, cases_lt, eqb-true}
use Rattle.std.proofs.lemmas.List.Folds.{list_any-append, list_any_at, Any-from_list_any}
use Rattle.std.proofs.lemmas.List.FromFn.{fill_by_all, get_or-map-range_with_len, get_or-range_with_len}
use Rattle.std.proofs.lemmas.List.FromFn.{length-map-range_with_len}
use Rattle.std.proofs.lemmas.List.{get_or-replicate, get_or-set_other}
use Rattle.std.proofs.lemmas.Grind.{get_or-set_at}
use Rattle.aes3_bits.specs.Bits.{number}
use Rattle.aes3_bits.proofs.Bits.{number-lt}
use Rattle.aes3_status.specs.declared.setting.Setting.{Setting}
use Rattle.aes3_status.specs.declared.setting.Settings.{Settings}
use Rattle.aes3_status.specs.declared.taken.Taken.{Taken}
use Rattle.aes3_status.specs.Bits.{byte_bits}
use Rattle.aes3_status.specs.Settings.{code_for, set_by, set_in_turn}
use Rattle.aes3_status.specs.Taken.{example_of, has_code, kind_of, nothing_taken, taken_by, takes, takes_wide, telling_bits}
use Rattle.aes3_status.proofs.StatusKinds.{takes-same, wide-same}
use Rattle.aes3_status.proofs.Tables.{test-get_or}

-- ---- an example of each kind
examples-tried : list_all (λ kind. eqb (kind_of (example_of kind)) kind) (range_with_len 0 64) ≡ true
unfolding byte_bits kind_of telling_bits example_of
examples-tried = refl

pub example-kind : (kind : ℕ) → kind < 64 → kind_of (example_of kind) ≡ kind
example-kind kind h =
    let e : get_or (range_with_len 0 64) kind 0 ≡ kind = get_or-range_with_len 0 64 kind 0 h ∙ omega arith in
    let p = test-get_or (λ k. eqb (kind_of (example_of k)) k) (range_with_len 0 64) kind 0 h examples-tried in
    eqb-true (kind_of (example_of kind)) kind (rw e at p)

pub length-example : (kind : ℕ) → length (example_of kind) ≡ 24
unfolding example_of
length-example kind = refl

-- ---- what one more status takes
or-last : (a b : Bool) → (a || b) ≡ (a || (b || false))
or-last true b = refl
or-last false true = refl
or-last false false = refl

any-more : {X : Type 0} (p : X → Bool) (xs : List X) (x : X) (b : Bool) → b ≡ (list_any p xs || p x)
    → b ≡ list_any p (xs ++ x ∷ [])
any-more p xs x b e = e ∙ or-last (list_any p xs) (p x) ∙ sym (list_any-append p xs (x ∷ []))

pub taken-of : (settings : Settings) (statuses : List (List ℕ)) (taken : Taken) → length taken.codes ≡ 64
    → ((k : ℕ) → k < 64 → get_or taken.codes k false ≡ list_any (λ bytes. takes settings.codes bytes k) statuses)
    → taken.wide ≡ list_any (takes_wide settings) statuses → taken ≡ taken_by settings statuses
unfolding taken_by
taken-of settings statuses taken l h w =
    ap₂ (λ (c : List Bool) (b : Bool). record { codes = c; wide = b })
    (fill_by_all (λ i. list_any (λ bytes. takes settings.codes bytes i) statuses) taken.codes 64 false l h) w

pub codes-of : (settings : Settings) (statuses : List (List ℕ)) (taken : Taken) (k : ℕ) → k < 64
    → taken ≡ taken_by settings statuses
    → get_or taken.codes k false ≡ list_any (λ bytes. takes settings.codes bytes k) statuses
unfolding taken_by
codes-of settings statuses taken k l e =
    ap (λ (t : Taken). get_or t.codes k false) e
    ∙ get_or-map-range_with_len (λ i. list_any (λ bytes. takes settings.codes bytes i) statuses) 0 64 k k false l
    (omega arith)

pub taken-more : (settings : Settings) (statuses : List (List ℕ)) (status : List ℕ) (old new : Taken)
    → length new.codes ≡ 64
    → ((k : ℕ) → k < 64 → get_or new.codes k false ≡ (get_or old.codes k false || takes settings.codes status k))
    → new.wide ≡ (old.wide || takes_wide settings status) → old ≡ taken_by settings statuses
    → new ≡ taken_by settings (statuses ++ status ∷ [])
unfolding taken_by
taken-more settings statuses status old new l h w e =
    taken-of settings (statuses ++ status ∷ []) new l
    (λ k m. any-more (λ bytes. takes settings.codes bytes k) statuses status (get_or new.codes k false)
    (h k m ∙ ap (λ b. b || takes settings.codes status k) (codes-of settings statuses old k m e)))
    (any-more (takes_wide settings) statuses status new.wide
    (w ∙ ap (λ b. b || takes_wide settings status) (ap (λ (t : Taken). t.wide) e)))

pub nothing-taken : (settings : Settings)
    → nothing_taken ≡ taken_by settings []
nothing-taken settings =
    taken-of settings [] nothing_taken refl
    (λ k l. get_or-replicate 64 k false false l) refl

-- ---- what was met
any-kind : (met : List Bool) (statuses : List (List ℕ)) (bits : List Bool) (status : List ℕ) (n kind : ℕ)
    → kind < length met → telling_bits status ≡ bits → n ≡ number bits
    → get_or met kind false ≡ list_any (λ bytes. eqb (kind_of bytes) kind) statuses
    → get_or (set met n true) kind false ≡ list_any (λ bytes. eqb (kind_of bytes) kind) (statuses ++ status ∷ [])
unfolding kind_of
any-kind met statuses bits status n kind l e q h =
    any-more (λ bytes. eqb (kind_of bytes) kind) statuses status (get_or (set met n true) kind false)
    (go (cases_eq (kind_of status) kind))
  where
    is : kind_of status ≡ n
    is = ap number e ∙ sym q

    or-true : (b : Bool) → true ≡ (b || true)
    or-true true = refl
    or-true false = refl

    or-nothing : (b : Bool) → b ≡ (b || false)
    or-nothing true = refl
    or-nothing false = refl

    go : (kind_of status ≡ kind) ⊎ (kind_of status ≡ kind → ⊥)
        → get_or (set met n true) kind false
        ≡ (list_any (λ bytes. eqb (kind_of bytes) kind) statuses || eqb (kind_of status) kind)
    go (inl s) =
        let k : kind ≡ n = sym s ∙ is in
        get_or-set_at met n kind true false k (omega arith)
        ∙ or-true (list_any (λ bytes. eqb (kind_of bytes) kind) statuses)
        ∙ ap (λ b. list_any (λ bytes. eqb (kind_of bytes) kind) statuses || b) (sym (eq-eqb (kind_of status) kind s))
    go (inr s) =
        get_or-set_other met n kind true false (λ k. s (is ∙ sym k)) ∙ h
        ∙ or-nothing (list_any (λ bytes. eqb (kind_of bytes) kind) statuses)
        ∙ ap (λ b. list_any (λ bytes. eqb (kind_of bytes) kind) statuses || b)
        (sym (ne_eqb (kind_of status) kind s))

pub more-kinds : (met : List Bool) (statuses : List (List ℕ)) (bits : List Bool) (status : List ℕ) (n : ℕ)
    → length met ≡ 64 → telling_bits status ≡ bits → n ≡ number bits
    → ((kind : ℕ) → kind < 64 → get_or met kind false ≡ list_any (λ bytes. eqb (kind_of bytes) kind) statuses)
    → (kind : ℕ) → kind < 64
    → get_or (set met n true) kind false ≡ list_any (λ bytes. eqb (kind_of bytes) kind) (statuses ++ status ∷ [])
more-kinds met statuses bits status n l e q h kind m =
    any-kind met statuses bits status n kind (omega arith) e q (h kind m)

-- ---- one more setting of those that a status meets
turn-more : (settings : List Setting) (bytes : List ℕ) (i : ℕ) (d : Setting) → i < length settings
    → set_by (get_or settings i d) (set_in_turn (take i settings) bytes) ≡ set_in_turn (take (i + 1) settings) bytes
unfolding set_in_turn
turn-more settings bytes i d l = sym (fold_more (λ status setting. set_by setting status) bytes settings i d l)

takes-here : (settings : List Setting) (bytes left : List ℕ) (i : ℕ) (d : Setting) → i < length settings
    → left ≡ set_in_turn (take i settings) bytes → has_code (get_or settings i d) left ≡ takes settings bytes i
takes-here settings bytes left i d l e =
    ap (has_code (get_or settings i d)) e
    ∙ ap (λ o. is_some (option_and_then (λ setting. code_for setting (set_in_turn (take i settings) bytes)) o))
    (sym (slice_get-get_or settings i d l))

pub turned : (settings : List Setting) (bytes left new : List ℕ) (i : ℕ) (d : Setting) → i < length settings
    → left ≡ set_in_turn (take i settings) bytes → new ≡ set_by (get_or settings i d) left
    → new ≡ set_in_turn (take (i + 1) settings) bytes
turned settings bytes left new i d l e f =
    f ∙ ap (set_by (get_or settings i d)) e ∙ turn-more settings bytes i d l

pub taken-before : (settings : List Setting) (bytes left : List ℕ) (old now : List Bool) (i : ℕ) (d : Setting) (h : Bool)
    → i < length settings → i < length now → left ≡ set_in_turn (take i settings) bytes
    → h ≡ has_code (get_or settings i d) left
    → ((k : ℕ) → k < i → get_or now k false ≡ (get_or old k false || takes settings bytes k))
    → ((k : ℕ) → i ≤ k → get_or now k false ≡ get_or old k false)
    → (k : ℕ) → k < i + 1
    → get_or (set now i (get_or now i false || h)) k false ≡ (get_or old k false || takes settings bytes k)
taken-before settings bytes left old now i d h l m e f before behind k n = go (cases_eq k i)
  where
    go : (k ≡ i) ⊎ (k ≡ i → ⊥)
        → get_or (set now i (get_or now i false || h)) k false ≡ (get_or old k false || takes settings bytes k)
    go (inl s) =
        get_or-set_at now i k (get_or now i false || h) false s m
        ∙ ap₂ (λ (a b : Bool). a || b) (behind i (omega arith))
        (f ∙ takes-here settings bytes left i d l e)
        ∙ ap (λ j. get_or old j false || takes settings bytes j) (sym s)
    go (inr s) =
        get_or-set_other now i k (get_or now i false || h) false s ∙ before k (let w : k ≢ i = s in omega arith)

pub taken-behind : (old now : List Bool) (i : ℕ) (b : Bool)
    → ((k : ℕ) → i ≤ k → get_or now k false ≡ get_or old k false)
    → (k : ℕ) → i + 1 ≤ k → get_or (set now i b) k false ≡ get_or old k false
taken-behind old now i b behind k n =
    get_or-set_other now i k b false (λ s. omega arith) ∙ behind k (omega arith)

-- ---- examples of the kinds below a number that were met
pub examples : List Bool → ℕ → List (List ℕ)
examples met zero = []
examples met (suc kind) = examples met kind ++ cond (get_or met kind false) (example_of kind ∷ []) []

pub examples-with : (met : List Bool) (kind : ℕ) → get_or met kind false ≡ true
    → examples met kind ++ example_of kind ∷ [] ≡ examples met (kind + 1)
unfolding examples
examples-with met kind e =
    ap (λ b. examples met kind ++ cond b (example_of kind ∷ []) []) (sym e) ∙ ap (examples met) (sym (add-one kind))

pub examples-without : (met : List Bool) (kind : ℕ) → get_or met kind false ≡ false
    → examples met kind ≡ examples met (kind + 1)
unfolding examples
examples-without met kind e =
    sym (append-nil (examples met kind))
    ∙ ap (λ b. examples met kind ++ cond b (example_of kind ∷ []) []) (sym e) ∙ ap (examples met) (sym (add-one kind))

-- one of them test-get_or a test where one of the statuses does
record Passing (p : List ℕ → Bool) (met : List Bool) (n : ℕ) : Type 0 where
  kind : ℕ
  below : kind < n
  is_met : get_or met kind false ≡ true
  passed : p (example_of kind) ≡ true

one-passes : (p : List ℕ → Bool) (met : List Bool) (n : ℕ) → list_any p (examples met n) ≡ true → Passing p met n
unfolding examples
one-passes p met zero h = cc
one-passes p met (suc n) h =
    go (list_any p (examples met n)) (one-passes p met n) refl (get_or met n false) refl
    (sym (list_any-append p (examples met n) (cond (get_or met n false) (example_of n ∷ []) [])) ∙ h)
  where
    more : Passing p met n → Passing p met (suc n)
    more k = record { kind = k.kind; below = (let b = k.below in omega arith); is_met = k.is_met; passed = k.passed }

    last : (b : Bool) → p (example_of n) ≡ b → get_or met n false ≡ true → (b || false) ≡ true → Passing p met (suc n)
    last true e m g = record { kind = n; below = omega arith; is_met = m; passed = e }
    last false e m g = cc

    go : (a : Bool) → (list_any p (examples met n) ≡ true → Passing p met n) → list_any p (examples met n) ≡ a
        → (b : Bool) → get_or met n false ≡ b
        → (a || list_any p (cond b (example_of n ∷ []) [])) ≡ true → Passing p met (suc n)
    go true k e b f g = more (k e)
    go false k e false f g = cc
    go false k e true f g = last (p (example_of n)) refl f g

or-true : (b : Bool) → (b || true) ≡ true
or-true true = refl
or-true false = refl

its-example : (p : List ℕ → Bool) (met : List Bool) (n kind : ℕ) → kind < n → get_or met kind false ≡ true
    → p (example_of kind) ≡ true → list_any p (examples met n) ≡ true
unfolding examples
its-example p met zero kind l m e = absurd (omega arith)
its-example p met (suc n) kind l m e =
    list_any-append p (examples met n) (cond (get_or met n false) (example_of n ∷ []) [])
    ∙ go (λ k. its-example p met n kind k m e) (cases_lt kind n)
  where
    here : kind ≡ n → list_any p (cond (get_or met n false) (example_of n ∷ []) []) ≡ true
    here s =
        ap (λ b. list_any p (cond b (example_of n ∷ []) [])) (ap (λ j. get_or met j false) (sym s) ∙ m)
        ∙ ap (λ b. b || false) (ap (λ j. p (example_of j)) (sym s) ∙ e)

    go : (kind < n → list_any p (examples met n) ≡ true) → (kind < n) ⊎ (n ≤ kind)
        → (list_any p (examples met n) || list_any p (cond (get_or met n false) (example_of n ∷ []) [])) ≡ true
    go before (inl k) =
        ap (λ b. b || list_any p (cond (get_or met n false) (example_of n ∷ []) [])) (before k)
    go before (inr k) =
        ap (λ b. list_any p (examples met n) || b) (here (omega arith)) ∙ or-true (list_any p (examples met n))

both-ways : (a b : Bool) → (a ≡ true → b ≡ true) → (b ≡ true → a ≡ true) → a ≡ b
both-ways true b f g = sym (f refl)
both-ways false true f g = g refl
both-ways false false f g = refl

pub kind-few : (bytes : List ℕ) → kind_of bytes < 64
unfolding kind_of telling_bits
kind-few bytes = number-lt (telling_bits bytes)

pub any-met : (p : List ℕ → Bool) (met : List Bool) (statuses : List (List ℕ))
    → ((s t : List ℕ) → length s ≡ 24 → length t ≡ 24 → kind_of s ≡ kind_of t → p s ≡ p t)
    → All (λ status. length status ≡ 24) statuses
    → ((kind : ℕ) → kind < 64 → get_or met kind false ≡ list_any (λ bytes. eqb (kind_of bytes) kind) statuses)
    → list_any p (examples met 64) ≡ list_any p statuses
any-met p met statuses same long h =
    both-ways (list_any p (examples met 64)) (list_any p statuses) to from
  where
    to : list_any p (examples met 64) ≡ true → list_any p statuses ≡ true
    to e =
        let k = one-passes p met 64 e in
        let a = Any-from_list_any (λ bytes. eqb (kind_of bytes) k.kind) statuses (sym (h k.kind k.below) ∙ k.is_met) in
        let l : length a.1 ≡ 24 = ap length (sym a.3) ∙ long a.0 a.1 a.2 in
        let q : kind_of (example_of k.kind) ≡ kind_of a.1 =
        example-kind k.kind k.below ∙ sym (eqb-true (kind_of a.1) k.kind a.4) in
        list_any_at p statuses a.0 a.1 a.2 (ap p a.3
        ∙ sym (same (example_of k.kind) a.1 (length-example k.kind) l q) ∙ k.passed)

    from : list_any p statuses ≡ true → list_any p (examples met 64) ≡ true
    from e =
        let a = Any-from_list_any p statuses e in
        let l : length a.1 ≡ 24 = ap length (sym a.3) ∙ long a.0 a.1 a.2 in
        let kind = kind_of a.1 in
        let m : get_or met kind false ≡ true = h kind (kind-few a.1)
        ∙ list_any_at (λ bytes. eqb (kind_of bytes) kind) statuses a.0 a.1 a.2 (eq-eqb _ _ (ap kind_of a.3)) in
        its-example p met 64 kind (kind-few a.1) m
        (same (example_of kind) a.1 (length-example kind) l (example-kind kind (kind-few a.1)) ∙ a.4)

-- what is taken by the examples
pub none-taken : (settings : Settings) (met : List Bool)
    → nothing_taken ≡ taken_by settings (examples met 0)
unfolding examples
none-taken settings met = nothing-taken settings

length-taken : (settings : Settings) (statuses : List (List ℕ)) → length (taken_by settings statuses).codes ≡ 64
unfolding taken_by
length-taken settings statuses =
    length-map-range_with_len (λ i. list_any (λ bytes. takes settings.codes bytes i) statuses) 0 64

wide-of : (settings : Settings) (statuses : List (List ℕ))
    → (taken_by settings statuses).wide ≡ list_any (takes_wide settings) statuses
unfolding taken_by
wide-of settings statuses = refl

pub same-taken : (settings : Settings) (xs ys : List (List ℕ))
    → ((p : List ℕ → Bool) → list_any p xs ≡ list_any p ys) → taken_by settings xs ≡ taken_by settings ys
same-taken settings xs ys h =
    taken-of settings ys (taken_by settings xs) (length-taken settings xs)
    (λ k l. codes-of settings xs (taken_by settings xs) k l refl ∙ h (λ bytes. takes settings.codes bytes k))
    (wide-of settings xs ∙ h (takes_wide settings))

pub kinds-taken : (settings : Settings) (met : List Bool) (statuses : List (List ℕ))
    → All (λ status. length status ≡ 24) statuses
    → ((kind : ℕ) → kind < 64 → get_or met kind false ≡ list_any (λ bytes. eqb (kind_of bytes) kind) statuses)
    → taken_by settings (examples met 64) ≡ taken_by settings statuses
kinds-taken settings met statuses long h =
    let xs = examples met 64 in
    taken-of settings statuses (taken_by settings xs) (length-taken settings xs)
    (λ k l. codes-of settings xs (taken_by settings xs) k l refl
    ∙ any-met (λ bytes. takes settings.codes bytes k) met statuses (takes-same settings.codes k) long h)
    (wide-of settings xs ∙ any-met (takes_wide settings) met statuses (wide-same settings) long h)

-- what a status takes, another of its kind does
pub kind-taken : (settings : Settings) (s t : List ℕ) → length s ≡ 24 → length t ≡ 24 → kind_of s ≡ kind_of t
    → taken_by settings (s ∷ []) ≡ taken_by settings (t ∷ [])
kind-taken settings s t l m e =
    let xs = s ∷ [] in
    taken-of settings (t ∷ []) (taken_by settings xs) (length-taken settings xs)
    (λ k n. codes-of settings xs (taken_by settings xs) k n refl
    ∙ ap (λ b. b || false) (takes-same settings.codes k s t l m e))
    (wide-of settings xs ∙ ap (λ b. b || false) (wide-same settings s t l m e))
