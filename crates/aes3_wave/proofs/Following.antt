-- A reader that follows a header.
use Rattle.std.proofs.Common.{inl, inr, ◌≡◌, true, false, Bool, ℕ, ◌+◌, ◌-◌, ◌<◌, ◌≤◌, List, [], ◌∷◌, ◌++◌, length, take, drop, get_or, refl, sym, ap}
use Rattle.std.proofs.Common.{subst, ◌∙◌, arith, append_assoc, append-nil}
use Rattle.std.specs.Prelude.{Some, None, Ok, Err, if◌then◌else◌}
use Rattle.std.proofs.lemmas.Bool.{cases_lt, lt-ltb, le-ltb}
use Rattle.std.proofs.lemmas.List.{drop_all, length-append, length-drop, length-take-le}
use Rattle.std.proofs.Math.Seq.{drop-append-add, take-add}
use Rattle.aes3_wave.specs.declared.header_error.HeaderError.{HeaderError}
use Rattle.aes3_wave.specs.declared.chunk.Known.{Known}
use Rattle.aes3_wave.specs.declared.chunk.WaveHeader.{WaveHeader}
use Rattle.aes3_wave.specs.declared.header_reader.Stage.{Stage}
use Rattle.aes3_wave.specs.declared.header_reader.Stage.TheVariants.{First, Chunks, Whole}
use Rattle.aes3_wave.specs.Chunks.{chunk_len, head_len, is_data}
use Rattle.aes3_wave.specs.Headers.{Judged, judged, judged_from}
use Rattle.aes3_wave.specs.Following.{FollowsAt, Holds, IsNext, IsOpen, IsOpenChunk}
use Rattle.aes3_wave.specs.Following.{IsRefused, IsRefusedOctet, IsWhole, goes_on, header_of, missing, part_at, part_len}
use Rattle.aes3_wave.proofs.Chunks.{chunk-append, data-append, from-more, from-short, head_len-append, head_len-most}
use Rattle.aes3_wave.proofs.Steps.{judged-short, open-none}

-- ---- what is judged of all that was taken

pub answered : (seen : ℕ) (stage : Stage) (at : ℕ) (f : List ℕ) (left : ℕ) (b : List ℕ)
    → FollowsAt seen stage at f left b → judged b ≡ Ok (header_of stage)
answered seen First at f left b w =
    ap judged (sym (append-nil b)) ∙ w.on [] ∙ ap judged (append-nil f) ∙ judged-short f w.holds.begun.few
answered seen (Chunks k) at f left b w =
    ap judged (sym (append-nil b)) ∙ w.on []
    ∙ ap (λ v. judged_from at k (f ++ v)) (drop_all left [] (omega arith))
    ∙ ap (judged_from at k) (append-nil f) ∙ open-none at k f w.holds.begun
answered seen (Whole header) at f left b w = ap judged (sym (append-nil b)) ∙ w.on []

-- ---- one octet

shifted : (stage : Stage) (at : ℕ) (f c : List ℕ) (x : ℕ) → header_of stage ≡ None
    → goes_on stage at f 0 (x ∷ c) ≡ goes_on stage at (f ++ x ∷ []) 0 c
shifted First at f c x h = ap judged (sym (append_assoc f (x ∷ []) c))
shifted (Chunks k) at f c x h = ap (judged_from at k) (sym (append_assoc f (x ∷ []) c))
shifted (Whole header) at f c x h = cc

-- a reader that leaves nothing out takes an octet
octet-on : (seen : ℕ) (stage : Stage) (at : ℕ) (f g : List ℕ) (left : ℕ) (b c : List ℕ) (x : ℕ)
    → FollowsAt seen stage at f left b → left ≡ 0 → header_of stage ≡ None → g ≡ f ++ x ∷ []
    → judged (b ++ x ∷ c) ≡ goes_on stage at g 0 c
octet-on seen stage at f g left b c x w z h e =
    w.on (x ∷ c) ∙ ap (λ n. goes_on stage at f n (x ∷ c)) z ∙ shifted stage at f c x h
    ∙ ap (λ v. goes_on stage at v 0 c) (sym e)

pub octet-refused : (seen : ℕ) (stage : Stage) (at : ℕ) (f g : List ℕ) (left : ℕ) (b : List ℕ) (x : ℕ) (e : HeaderError)
    → FollowsAt seen stage at f left b → left ≡ 0 → header_of stage ≡ None → g ≡ f ++ x ∷ []
    → ((c : List ℕ) → goes_on stage at g 0 c ≡ Err e) → IsRefusedOctet b x e
octet-refused seen stage at f g left b x e w z h q r = record {
  before = answered seen stage at f left b w ∙ ap Ok h;
  on = λ c. octet-on seen stage at f g left b c x w z h q ∙ r c;
}

holds-more : (seen : ℕ) (stage : Stage) (f g : List ℕ) (left : ℕ) (x : ℕ) → Holds stage seen f left → left ≡ 0
    → g ≡ f ++ x ∷ [] → IsOpen stage g → Holds stage (seen + 1) g left
holds-more seen First f g left x w z e o = record {
  begun = o;
  all = let l = length-append f (x ∷ []) in let n = ap length e in let m = w.all in omega arith;
  none = z;
}
holds-more seen (Chunks k) f g left x w z e o = record {
  begun = o;
  none = λ h. absurd (omega arith);
}
holds-more seen (Whole header) f g left x w z e o = absurd o

pub octet-more : (seen : ℕ) (stage : Stage) (at : ℕ) (f g : List ℕ) (left : ℕ) (b : List ℕ) (x : ℕ)
    → FollowsAt seen stage at f left b → left ≡ 0 → header_of stage ≡ None → g ≡ f ++ x ∷ [] → IsOpen stage g
    → FollowsAt (seen + 1) stage at g left (b ++ x ∷ [])
octet-more seen stage at f g left b x w z h e o = record {
  count = let l = length-append b (x ∷ []) in let n = w.count in omega arith;
  on = λ c. ap judged (append_assoc b (x ∷ []) c) ∙ octet-on seen stage at f g left b c x w z h e
      ∙ ap (λ n. goes_on stage at g n c) (sym z);
  holds = holds-more seen stage f g left x w.holds z e o;
}

-- the octets in hand are at most those of the part that they begin
part-within : (seen : ℕ) (stage : Stage) (f g : List ℕ) (left x : ℕ) → Holds stage seen f left
    → g ≡ f ++ x ∷ [] → header_of stage ≡ None → length g ≤ part_len stage g
part-within seen First f g left x w e h =
    let l = length-append f (x ∷ []) in let n = ap length e in let few = w.begun.few in omega arith
part-within seen (Chunks k) f g left x w e h =
    let l = length-append f (x ∷ []) in
    let n = ap length e in
    elim (cases_lt (length f) 8) [
      | inl q ↦ omega (arith, q)
      | inr q ↦
          (let few = w.begun.head q in
          let most = head_len-most k f in
          let same : chunk_len g ≡ chunk_len f = ap chunk_len e ∙ chunk-append f (x ∷ []) q in
          omega arith)
    ]
part-within seen (Whole header) f g left x w e h = cc

-- and the next one begins behind it
part-behind : (seen : ℕ) (stage : Stage) (at : ℕ) (f g : List ℕ) (left x part : ℕ) → Holds stage seen f left
    → g ≡ f ++ x ∷ [] → header_of stage ≡ None → at + length f ≡ seen → part ≡ part_len stage g
    → part_at stage at + part ≡ seen + 1 + (part - length g)
part-behind seen First at f g left x part w e h place p =
    let l = length-append f (x ∷ []) in
    let n = ap length e in
    let all = w.all in
    let few = w.begun.few in
    omega arith
part-behind seen (Chunks k) at f g left x part w e h place p =
    let l = length-append f (x ∷ []) in
    let n = ap length e in
    let most = part-within seen (Chunks k) f g left x w e h in
    omega arith
part-behind seen (Whole header) at f g left x part w e h place p = cc

drop-past : (n : ℕ) (g c : List ℕ) → length g ≤ n → drop n (g ++ c) ≡ drop (n - length g) c
drop-past n g c h =
    ap (λ m. drop m (g ++ c)) (let e : n ≡ length g + (n - length g) = omega arith in e)
    ∙ drop-append-add g c (n - length g)

open-nothing : (k : Known) → IsOpenChunk k []
open-nothing k = record {
  few = omega arith;
  other = λ h. absurd (omega (arith, h));
  head = λ h. absurd (omega (arith, h));
}

pub octet-next : (seen : ℕ) (stage : Stage) (at : ℕ) (f g : List ℕ) (left : ℕ) (b : List ℕ) (x : ℕ) (known : Known)
    (part : ℕ) → FollowsAt seen stage at f left b → left ≡ 0 → header_of stage ≡ None → g ≡ f ++ x ∷ []
    → at + length f ≡ seen → IsNext stage at g known part
    → FollowsAt (seen + 1) (Chunks known) (seen + 1 + (part - length g)) [] (part - length g) (b ++ x ∷ [])
octet-next seen stage at f g left b x known part w z h e place n = record {
  count = let l = length-append b (x ∷ []) in let q = w.count in omega arith;
  on = λ c. ap judged (append_assoc b (x ∷ []) c) ∙ octet-on seen stage at f g left b c x w z h e ∙ n.on c
      ∙ ap (λ m. judged_from m known (drop part (g ++ c)))
      (part-behind seen stage at f g left x part w.holds e h place n.count)
      ∙ ap (judged_from (seen + 1 + (part - length g)) known)
      (drop-past part g c (let l = part-within seen stage f g left x w.holds e h in let q = n.count in omega arith));
  holds = record { begun = open-nothing known; none = λ _. refl };
}

samples-start : (seen : ℕ) (stage : Stage) (at : ℕ) (f g : List ℕ) (left x : ℕ) (header : WaveHeader)
    → Holds stage seen f left → g ≡ f ++ x ∷ [] → at + length f ≡ seen → IsWhole stage at g header
    → header.start ≡ seen + 1
samples-start seen First at f g left x header w e place s = absurd s
samples-start seen (Chunks k) at f g left x header w e place s =
    let l = length-append f (x ∷ []) in
    let n = ap length e in
    let start = s.start in
    let head = s.head in
    elim (cases_lt (length f) 8) [
      | inl q ↦ omega (arith, q)
      | inr q ↦
          (let no : false ≡ true = sym (w.begun.other q) ∙ sym (data-append f (x ∷ []) q) ∙ ap is_data (sym e) ∙ s.named in
          cc)
    ]
samples-start seen (Whole whole) at f g left x header w e place s = absurd s

whole-on : (stage : Stage) (at : ℕ) (g c : List ℕ) (header : WaveHeader) → IsWhole stage at g header
    → goes_on stage at g 0 c ≡ Ok (Some header)
whole-on First at g c header s = absurd s
whole-on (Chunks k) at g c header s = s.on c
whole-on (Whole whole) at g c header s = absurd s

pub octet-whole : (seen : ℕ) (stage : Stage) (at : ℕ) (f g : List ℕ) (left : ℕ) (b : List ℕ) (x : ℕ) (header : WaveHeader)
    (at' left' : ℕ) → FollowsAt seen stage at f left b → left ≡ 0 → header_of stage ≡ None → g ≡ f ++ x ∷ []
    → at + length f ≡ seen → IsWhole stage at g header
    → FollowsAt (seen + 1) (Whole header) at' [] left' (b ++ x ∷ [])
octet-whole seen stage at f g left b x header at' left' w z h e place s = record {
  count = let l = length-append b (x ∷ []) in let q = w.count in omega arith;
  on = λ c. ap judged (append_assoc b (x ∷ []) c) ∙ octet-on seen stage at f g left b c x w z h e
      ∙ whole-on stage at g c header s;
  holds = samples-start seen stage at f g left x header w.holds e place s;
}

-- ---- a front of a piece

pub take-one : (p : List ℕ) (d : ℕ) → 0 < length p → take 1 p ≡ get_or p 0 d ∷ []
take-one [] d h = absurd (omega arith)
take-one (x ∷ p) d h = refl

pub front-refused : (b p : List ℕ) (x : ℕ) (e : HeaderError) → 0 < length p → take 1 p ≡ x ∷ [] → IsRefusedOctet b x e
    → IsRefused b p e
front-refused b p x e h q r = record {
  n = 0;
  within = h;
  before = ap judged (append-nil b) ∙ r.before;
  on = λ c. ap (λ v. judged (b ++ v ++ c)) q ∙ ap judged (append_assoc b (x ∷ []) c) ∙ r.on c;
}

-- a reader that leaves octets out takes some of them
left-on : (seen : ℕ) (stage : Stage) (at : ℕ) (f : List ℕ) (left n : ℕ) (p c : List ℕ) → Holds stage seen f left
    → header_of stage ≡ None → 0 < left → n ≤ left → length p ≡ n
    → goes_on stage at f left (p ++ c) ≡ goes_on stage at f (left - n) c
left-on seen First at f left n p c w h some few e = let z = w.none in absurd (omega arith)
left-on seen (Chunks k) at f left n p c w h some few e =
    ap (λ v. judged_from at k (f ++ v)) (drop-past left p c (omega arith) ∙ ap (λ m. drop (left - m) c) e)
left-on seen (Whole header) at f left n p c w h some few e = cc

left-holds : (seen : ℕ) (stage : Stage) (f : List ℕ) (left n : ℕ) → Holds stage seen f left → header_of stage ≡ None
    → 0 < left → Holds stage (seen + n) f (left - n)
left-holds seen First f left n w h some = let z = w.none in absurd (omega arith)
left-holds seen (Chunks k) f left n w h some = record { begun = w.begun; none = λ _. w.none some }
left-holds seen (Whole header) f left n w h some = cc

pub front-left : (seen : ℕ) (stage : Stage) (at : ℕ) (f : List ℕ) (left n : ℕ) (b p : List ℕ)
    → FollowsAt seen stage at f left b → header_of stage ≡ None → 0 < left → n ≤ left → n ≤ length p
    → FollowsAt (seen + n) stage at f (left - n) (b ++ take n p)
front-left seen stage at f left n b p w h some few within =
    let len = length-take-le n p within in
    record {
      count = let l = length-append b (take n p) in let q = w.count in omega arith;
      on = λ c. ap judged (append_assoc b (take n p) c) ∙ w.on (take n p ++ c)
          ∙ left-on seen stage at f left n (take n p) c w.holds h some few len;
      holds = left-holds seen stage f left n w.holds h some;
    }

-- ---- a piece

joined : (b p : List ℕ) (at n : ℕ) → b ++ take at p ++ take n (drop at p) ≡ b ++ take (at + n) p
joined b p at n =
    append_assoc b (take at p) (take n (drop at p)) ∙ ap (λ v. b ++ v) (sym (take-add at n p))

pub piece-more : (seen : ℕ) (stage : Stage) (at : ℕ) (f : List ℕ) (left : ℕ) (b p : List ℕ) (place n : ℕ)
    → FollowsAt seen stage at f left (b ++ take place p ++ take n (drop place p))
    → FollowsAt seen stage at f left (b ++ take (place + n) p)
piece-more seen stage at f left b p place n w =
    subst (λ v. FollowsAt seen stage at f left v) (joined b p place n) w

pub piece-refused : (b p : List ℕ) (place : ℕ) (e : HeaderError) → place ≤ length p
    → IsRefused (b ++ take place p) (drop place p) e → IsRefused b p e
piece-refused b p place e h r = record {
  n = place + r.n;
  within = let l = length-drop place p in let q = r.within in omega arith;
  before = ap judged (sym (joined b p place r.n)) ∙ r.before;
  on = λ c. ap (λ v. judged (v ++ c))
      (ap (λ m. b ++ take m p) (let q : place + r.n + 1 ≡ place + (r.n + 1) = omega arith in q)
      ∙ sym (joined b p place (r.n + 1))) ∙ r.on c;
}

-- ---- how many octets more it takes

missing-short : (k : Known) (f : List ℕ) → length f < 8 → missing k f ≡ 8 - length f
missing-short k f h = ap (λ (t : Bool). if t then 8 - length f else head_len k f - length f) (lt-ltb (length f) 8 h)

missing-long : (k : Known) (f : List ℕ) → 8 ≤ length f → missing k f ≡ head_len k f - length f
missing-long k f h = ap (λ (t : Bool). if t then 8 - length f else head_len k f - length f) (le-ltb (length f) 8 h)

missing-some : (k : Known) (f : List ℕ) → IsOpenChunk k f → 0 < missing k f
missing-some k f o =
    elim (cases_lt (length f) 8) [
      | inl h ↦ let e = missing-short k f h in omega (arith, h)
      | inr h ↦ let e = missing-long k f h in omega (arith, h, o.head h)
    ]

missing-open : (at : ℕ) (k : Known) (f c : List ℕ) → IsOpenChunk k f → length c < missing k f
    → judged_from at k (f ++ c) ≡ Ok None
missing-open at k f c o few =
    let l = length-append f c in
    elim (cases_lt (length f) 8) [
      | inl h ↦ let e = missing-short k f h in from-short at k (f ++ c) (omega (arith, h))
      | inr h ↦
          (let e = missing-long k f h in
          let n = head_len-append k f c h in
          from-more at k (f ++ c) (omega (arith, h)) (data-append f c h ∙ o.other h) (omega (arith, h)))
    ]

pub first-open : (seen at : ℕ) (f : List ℕ) (left : ℕ) (b piece : List ℕ) (stage : Stage) → stage ≡ First
    → FollowsAt seen stage at f left b → length piece < 12 - length f → judged (b ++ piece) ≡ Ok None
first-open seen at f left b piece stage e w few =
    let v : FollowsAt seen First at f left b = subst (λ t. FollowsAt seen t at f left b) e w in
    let l = length-append f piece in
    v.on piece ∙ judged-short (f ++ piece) (omega arith)

pub first-some : (seen at : ℕ) (f : List ℕ) (left : ℕ) (b : List ℕ) (stage : Stage) → stage ≡ First
    → FollowsAt seen stage at f left b → 0 < 12 - length f
first-some seen at f left b stage e w =
    let v : FollowsAt seen First at f left b = subst (λ t. FollowsAt seen t at f left b) e w in
    let few = v.holds.begun.few in
    omega arith

pub chunks-open : (seen at : ℕ) (f : List ℕ) (left : ℕ) (b piece : List ℕ) (stage : Stage) (k : Known)
    → stage ≡ Chunks k → FollowsAt seen stage at f left b → length piece < left + missing k f
    → judged (b ++ piece) ≡ Ok None
chunks-open seen at f left b piece stage k e w few =
    let v : FollowsAt seen (Chunks k) at f left b = subst (λ t. FollowsAt seen t at f left b) e w in
    let l = length-drop left piece in
    let some = missing-some k f v.holds.begun in
    v.on piece ∙ missing-open at k f (drop left piece) v.holds.begun (omega arith)

pub chunks-some : (seen at : ℕ) (f : List ℕ) (left : ℕ) (b : List ℕ) (stage : Stage) (k : Known)
    → stage ≡ Chunks k → FollowsAt seen stage at f left b → 0 < missing k f
chunks-some seen at f left b stage k e w =
    let v : FollowsAt seen (Chunks k) at f left b = subst (λ t. FollowsAt seen t at f left b) e w in
    missing-some k f v.holds.begun

pub whole-some : (seen at : ℕ) (f : List ℕ) (left : ℕ) (b : List ℕ) (stage : Stage) (header : WaveHeader)
    → stage ≡ Whole header → FollowsAt seen stage at f left b → judged b ≡ Ok None → ⊥
whole-some seen at f left b stage header e w h =
    let q = answered seen stage at f left b w in
    let r : Ok (Some header) ≡ Ok None = ap (λ t. Ok (header_of t)) (sym e) ∙ sym q ∙ h in
    absurd (some-none r)
  where
    some-none : ◌≡◌ {A = Judged} (Ok (Some header)) (Ok None) → ⊥
    some-none r = cc
