-- A header that is read from a source piece by piece.
use Rattle.std.proofs.Common.{inl, inr, ◌≡◌, ℕ, ◌+◌, ◌-◌, ◌<◌, ◌≤◌, Bool, IsTrue, List, [], ◌++◌, Option, Some, None, Ok, Err}
use Rattle.std.proofs.Common.{length, take, drop, refl, sym, ap, ◌∙◌, subst, append_assoc, append-nil, take-append-drop, arith}
use Rattle.std.proofs.lemmas.Bool.{cases_lt}
use Rattle.std.proofs.lemmas.List.{length-append, length-take-le, take_all}
use Rattle.std.proofs.Math.Seq.{take-append-add}
use Rattle.aes3_cell.specs.Ends.{Grew}
use Rattle.aes3_refusals.specs.declared.run_error.RunError.TheVariants.{Read, TooLong}
use Rattle.aes3_cell.proofs.Growing.{grew-is, grew-join, grew-none}
use Rattle.aes3_input.proofs.Pieces.{changed}
use Rattle.aes3_wave.specs.declared.chunk.WaveHeader.{WaveHeader}
use Rattle.aes3_wave.specs.declared.header_error.HeaderError.{HeaderError}
use Rattle.aes3_wave.specs.declared.header_reader.HeaderReader.{HeaderReader}
use Rattle.aes3_wave.specs.declared.header_reader.Stage.{Stage}
use Rattle.aes3_wave.specs.declared.header_reader.Stage.TheVariants.{First, Chunks, Whole}
use Rattle.aes3_wave.specs.Following as following
use Rattle.aes3_wave.specs.Following.{Follows, FollowsAt, Took, header_of}
use Rattle.aes3_wave.specs.Headers.{Judged, at_end, judged, judged_at_end}
use Rattle.aes3_wave.proofs.Steps.{judged-short}
use Rattle.aes3_wave_runs.specs.Headers.{HeaderRun}
use Rattle.aes3_wave_runs.specs.declared.wave_error.WaveError.TheVariants.{Header, Run}

-- a reader that has taken all octets that came, of which no header is whole
pub record ReadSo (told₀ told : Option (List ℕ)) (r : HeaderReader) (seen : ℕ) : Type 0 where
  pub bytes : List ℕ
  pub given : Grew told₀ told bytes
  pub count : seen ≡ length bytes
  pub follows : Follows r bytes
  pub none : judged bytes ≡ Ok None

pub begins : (g : Option (List ℕ)) (r : HeaderReader) → Follows r [] → ReadSo g g r 0
begins g r w = record {
  bytes = [];
  given = grew-none refl;
  count = refl;
  follows = w;
  none = judged-short [] (omega arith);
}

pub some-none : {h : WaveHeader} → ◌≡◌ {A = Judged} (Ok (Some h)) (Ok None) → ⊥
some-none e = cc

err-none : {e : HeaderError} → ◌≡◌ {A = Judged} (Err e) (Ok None) → ⊥
err-none e = cc

-- a piece of which no header is whole
pub read-more : {g₀ g g' : Option (List ℕ)} {r : HeaderReader} {seen : ℕ} (r' : HeaderReader) (p : List ℕ) (k n : ℕ)
    → (u : ReadSo g₀ g r seen) → Grew g g' p → length p ≡ n → Took r' u.bytes p k → header_of r'.stage ≡ None
    → ((b : List ℕ) → Follows r' b → judged b ≡ Ok None) → ReadSo g₀ g' r' (seen + n)
read-more r' p k n u g l t none still =
    let all : take k p ≡ p = take_all k p (let e = t.all none in omega arith) in
    let w : Follows r' (u.bytes ++ p) = subst (λ v. Follows r' (u.bytes ++ v)) all t.follows in
    record {
      bytes = u.bytes ++ p;
      given = grew-join u.given g;
      count = let m = length-append u.bytes p in let c = u.count in omega arith;
      follows = w;
      none = still (u.bytes ++ p) w;
    }

-- it ends
pub read-ended : {g₀ g g' : Option (List ℕ)} {r : HeaderReader} {seen : ℕ} (max n₀ n : ℕ) (ended : Bool)
    (e : HeaderError) → (u : ReadSo g₀ g r seen) → seen ≤ max → n ≡ n₀ → Grew g g' [] → IsTrue ended
    → Err e ≡ judged_at_end u.bytes
    → HeaderRun max ended (changed g₀ g' n₀ n) (Err (Header e))
read-ended max n₀ n ended e u h q g end w = record {
  bytes = u.bytes;
  given = grew-is (append-nil u.bytes) (grew-join u.given g);
  ran = (record { says = sym w; end = λ _. end }, (let c = u.count in omega arith), q);
}

-- one octet too many
pub read-long : {g₀ g g' : Option (List ℕ)} {r : HeaderReader} {seen : ℕ} (max n₀ n : ℕ) (ended : Bool) (p : List ℕ)
    (wanted m : ℕ) → (u : ReadSo g₀ g r seen) → seen ≤ max → n ≡ n₀ → Grew g g' p → length p ≡ m → m ≤ wanted
    → m ≤ max + 1 - seen → max < seen + m
    → ((b piece : List ℕ) → Follows r b → length piece < wanted → judged (b ++ piece) ≡ Ok None)
    → HeaderRun max ended (changed g₀ g' n₀ n) (Err (Run TooLong))
read-long {r = r} max n₀ n ended p wanted m u h q g l few room long still =
    let c = u.count in
    let a = length-append u.bytes p in
    let k : max ≡ length u.bytes + (max - length u.bytes) = omega arith in
    let i = length-take-le (max - length u.bytes) p (omega arith) in
    record {
      bytes = u.bytes ++ p;
      given = grew-join u.given g;
      ran = (
        ap (λ j. judged (take j (u.bytes ++ p))) k ∙ ap judged (take-append-add u.bytes p (max - length u.bytes))
            ∙ still u.bytes (take (max - length u.bytes) p) u.follows (omega arith),
        omega arith,
        q,
      );
    }

-- a piece is refused
pub read-refused : {g₀ g g' : Option (List ℕ)} {r : HeaderReader} {seen : ℕ} (max n₀ n : ℕ) (ended : Bool) (p : List ℕ)
    (m : ℕ) (e : HeaderError) → (u : ReadSo g₀ g r seen) → n ≡ n₀ → Grew g g' p → length p ≡ m → seen + m ≤ max
    → following.IsRefused u.bytes p e
    → HeaderRun max ended (changed g₀ g' n₀ n) (Err (Header e))
read-refused max n₀ n ended p m e u q g l h w =
    let is : judged (u.bytes ++ p) ≡ Err e
    = ap judged (ap (λ v. u.bytes ++ v) (sym (take-append-drop (w.n + 1) p))
    ∙ sym (append_assoc u.bytes (take (w.n + 1) p) (drop (w.n + 1) p))) ∙ w.on (drop (w.n + 1) p) in
    record {
      bytes = u.bytes ++ p;
      given = grew-join u.given g;
      ran = (
        record {
          says = ap (at_end (length (u.bytes ++ p))) is;
          end = λ o. absurd (err-none (sym is ∙ o));
        },
        (let c = u.count in let a = length-append u.bytes p in omega arith),
        q,
      );
    }

-- a header is whole
whole-start : (seen : ℕ) (stage : Stage) (at : ℕ) (f : List ℕ) (left : ℕ) (b : List ℕ) (h : WaveHeader)
    → FollowsAt seen stage at f left b → header_of stage ≡ Some h → length b ≡ h.start
whole-start seen First at f left b h w e = cc
whole-start seen (Chunks k) at f left b h w e = cc
whole-start seen (Whole x) at f left b h w e =
    let q : x ≡ h = cc in sym w.count ∙ sym w.holds ∙ ap (λ (v : WaveHeader). v.start) q

pub read-whole : {g₀ g g' : Option (List ℕ)} {r : HeaderReader} {seen : ℕ} (max n₀ n : ℕ) (ended : Bool) (p : List ℕ)
    (wanted m k : ℕ) (r' : HeaderReader) (h : WaveHeader) → (u : ReadSo g₀ g r seen) → n ≡ n₀ → Grew g g' p
    → length p ≡ m → m ≤ wanted → seen + m ≤ max
    → ((b piece : List ℕ) → Follows r b → length piece < wanted → judged (b ++ piece) ≡ Ok None)
    → Took r' u.bytes p k → Some h ≡ header_of r'.stage → ((b : List ℕ) → Follows r' b → judged b ≡ Ok (Some h))
    → HeaderRun max ended (changed g₀ g' n₀ n) (Ok h)
read-whole {r = r} max n₀ n ended p wanted m k r' h u q g l few short still t s is =
    let all : take k p ≡ p = elim (cases_lt k (length p)) [
      | inl o ↦
          (let i = length-take-le k p (omega (arith, o)) in
          absurd (some-none (sym (is (u.bytes ++ take k p) t.follows)
          ∙ still u.bytes (take k p) u.follows (omega (arith, o)))))
      | inr o ↦ take_all k p o
    ] in
    let w : Follows r' (u.bytes ++ p) = subst (λ v. Follows r' (u.bytes ++ v)) all t.follows in
    record {
      bytes = u.bytes ++ p;
      given = grew-join u.given g;
      ran = (
        is (u.bytes ++ p) w,
        whole-start r'.seen r'.stage r'.at (take r'.len r'.held) r'.left (u.bytes ++ p) h w (sym s),
        (let c = u.count in let a = length-append u.bytes p in omega arith),
        q,
      );
    }
