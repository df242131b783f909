-- The lines that tell changes, block by block.
use Rattle.std.proofs.Common.{◌≡◌, ℕ, zero, suc, ◌+◌, Bool, true, false, cond, not, List, [], ◌∷◌, ◌++◌, Option, Some}
use Rattle.std.proofs.Common.{None, length, drop, get_or, refl, ap, ap₂, ◌∙◌, arith}
use Rattle.std.specs.List.{flat_map, range_with_len}
use Rattle.std.specs.Str.{bytes_eq}
use Rattle.std.proofs.lemmas.List.{drop-drop, get_or-drop}
use Rattle.aes3_frame.specs.declared.block.Channel.{Channel}
use Rattle.aes3_frame.specs.declared.block.Channel.TheVariants.{First, Second}
use Rattle.aes3_frame.specs.Statuses.{status_of}
use Rattle.aes3_lock_runs.specs.BlockRuns.{numbered}
use Rattle.aes3_text_lines.specs.StatusLines.{status_line}
use Rattle.aes3_text.specs.Runs.{block_changes, change_line, change_lines, changes_from, channel_line, channel_lines}
use Rattle.aes3_text.specs.Runs.{status_in, status_lines}
use Rattle.aes3_text.specs.ChangeLaws.{line_at, new_line_at}

-- what stands at place n of a list, where the rest from there on is known
here : (all bs : List (List (List Bool))) (b : List (List Bool)) (n : ℕ) → b ∷ bs ≡ drop n all → b ≡ get_or all n []
here all bs b n e = ap (λ v. get_or v 0 []) e ∙ get_or-drop n all 0 []
    ∙ ap (λ m. get_or all m []) (let z : n + 0 ≡ n = omega arith in z)

behind : (all bs : List (List (List Bool))) (b : List (List Bool)) (n : ℕ) → b ∷ bs ≡ drop n all → bs ≡ drop (suc n) all
behind all bs b n e = ap (drop 1) e ∙ drop-drop 1 n all
    ∙ ap (λ m. drop m all) (let z : n + 1 ≡ suc n = omega arith in z)

next : (f : ℕ → List ℕ) (n len : ℕ) → flat_map f (range_with_len (suc n) len) ≡ flat_map f (range_with_len (n + 1) len)
next f n len = ap (λ m. flat_map f (range_with_len m len)) (let z : suc n ≡ n + 1 = omega arith in z)

each-from : (all bs : List (List (List Bool))) (n : ℕ) → bs ≡ drop n all
    → numbered channel_lines n bs
    ≡ flat_map (λ k. line_at all First k ++ line_at all Second k) (range_with_len n (length bs))
each-from all [] n e = refl
each-from all (b ∷ bs) n e =
    ap₂ (λ x y. x ++ y) (ap (channel_lines n) (here all bs b n e))
    (each-from all bs (suc n) (behind all bs b n e)
    ∙ next (λ k. line_at all First k ++ line_at all Second k) n (length bs))

pub lines-of-each : (bs : List (List (List Bool)))
    → status_lines bs ≡ flat_map (λ k. line_at bs First k ++ line_at bs Second k) (range_with_len 0 (length bs))
lines-of-each bs = each-from bs bs 0 refl

-- the block before block n
abbrev prior : List (List (List Bool)) → ℕ → Option (List (List Bool))
prior all zero = None
prior all (suc n) = Some (get_or all n [])

one-line : (all : List (List (List Bool))) (channel : Channel) (n : ℕ)
    → change_line channel n (status_in channel (prior all n)) (status_of (get_or all n []) channel)
    ≡ new_line_at all channel n
unfolding change_line channel_line
one-line all channel zero = refl
one-line all channel (suc n)
    = go (bytes_eq (status_of (get_or all n []) channel) (status_of (get_or all (suc n) []) channel))
    (status_line (suc n) channel (status_of (get_or all (suc n) []) channel))
  where
    go : (b : Bool) (x : List ℕ) → cond b [] x ≡ cond (not b) x []
    go true x = refl
    go false x = refl

changes : (all : List (List (List Bool))) (n : ℕ)
    → block_changes n (prior all n) (get_or all n []) ≡ new_line_at all First n ++ new_line_at all Second n
unfolding block_changes
changes all n = ap₂ (λ x y. x ++ y) (one-line all First n) (one-line all Second n)

new-from : (all bs : List (List (List Bool))) (n : ℕ) → bs ≡ drop n all
    → changes_from n (prior all n) bs
    ≡ flat_map (λ k. new_line_at all First k ++ new_line_at all Second k) (range_with_len n (length bs))
new-from all [] n e = refl
new-from all (b ∷ bs) n e =
    ap₂ (λ x y. x ++ y) (ap (block_changes n (prior all n)) (here all bs b n e) ∙ changes all n)
    (ap (λ v. changes_from (suc n) (Some v) bs) (here all bs b n e) ∙ new-from all bs (suc n) (behind all bs b n e)
    ∙ next (λ k. new_line_at all First k ++ new_line_at all Second k) n (length bs))

pub changes-new : (bs : List (List (List Bool)))
    → change_lines bs ≡ flat_map (λ k. new_line_at bs First k ++ new_line_at bs Second k) (range_with_len 0 (length bs))
changes-new bs = new-from bs bs 0 refl
