-- What a reader of a header that took octets says of all of them.
use Rattle.std.proofs.Common.{◌≡◌, ℕ, ◌+◌, List, [], take, drop, sym, ap, ◌∙◌, subst, take-append-drop, arith}
use Rattle.std.proofs.Common.{Option, Some, None, Ok, Err}
use Rattle.std.proofs.lemmas.List.{take_all}
use Rattle.aes3_wave.specs.declared.chunk.WaveHeader.{WaveHeader}
use Rattle.aes3_wave.specs.declared.header_error.HeaderError.{HeaderError}
use Rattle.aes3_wave.specs.declared.header_reader.HeaderReader.{HeaderReader}
use Rattle.aes3_wave.specs.Following.{Follows, IsRefused, Took, header_of}
use Rattle.aes3_wave.specs.Headers.{Judged, judged}
use Rattle.aes3_wave.proofs.Parts.{decided-stays}

-- it refused a front of them
pub refused-all : (b : List ℕ) (e : HeaderError) → IsRefused [] b e → Err e ≡ judged b
refused-all b e w =
    sym (ap judged (sym (take-append-drop (w.n + 1) b)) ∙ w.on (drop (w.n + 1) b))

-- it took a front of them, all where the header is not whole then
all-taken : (r : HeaderReader) (b : List ℕ) (n : ℕ) → Took r [] b n → header_of r.stage ≡ None → take n b ≡ b
all-taken r b n w e = let a = w.all e in take_all n b (omega arith)

pub follows-all : (r : HeaderReader) (b : List ℕ) (n : ℕ) → Took r [] b n → header_of r.stage ≡ None → Follows r b
follows-all r b n w e = subst (Follows r) (all-taken r b n w e) w.follows

pub judged-all : (r : HeaderReader) (b : List ℕ) (n : ℕ) (o : Option WaveHeader) → Took r [] b n → o ≡ header_of r.stage
    → judged (take n b) ≡ Ok o → Ok o ≡ judged b
judged-all r b n None w e j = sym j ∙ ap judged (all-taken r b n w (sym e))
judged-all r b n (Some header) w e j =
    sym (ap judged (sym (take-append-drop n b))
    ∙ decided-stays (take n b) (drop n b) (λ q. some-none (sym j ∙ q)) ∙ j)
  where
    some-none : ◌≡◌ {A = Judged} (Ok (Some header)) (Ok None) → ⊥
    some-none q = cc
