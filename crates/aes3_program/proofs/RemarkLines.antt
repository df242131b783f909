-- Remarks that are told: the lines of settings that no block took, one behind the other, and what could not be told whole.
use Rattle.std.proofs.Common.{◌≡◌, sym, ℕ, suc, ◌+◌, ◌<◌, List, [], ◌∷◌, ◌++◌, length, get_or, take, drop, false, ap, ◌∙◌}
use Rattle.std.proofs.Common.{append-nil, append_assoc, arith, Result, Ok, Err, OnErr, refl, codes, decimal}
use Rattle.std.proofs.lemmas.List.{length-take-le, take-append-drop, take_more}
use Rattle.std.specs.Result.{is_ok}
use Rattle.aes3_cell.specs.declared.ends.Fault.{Fault}
use Rattle.aes3_cell.specs.Ends.{GrewFront}
use Rattle.aes3_cell.proofs.Growing.{grew-is}
use Rattle.aes3_input.specs.Running.{Movement}
use Rattle.aes3_status.specs.declared.setting.Settings.{Settings}
use Rattle.aes3_status.specs.declared.taken.Taken.{Taken}
use Rattle.aes3_status.specs.Untaken.{told_line, untaken_line, untaken_lines}
use Rattle.aes3_program.specs.Outcomes.{RemarkTold}

-- a line is its front and the rest
pub line-joined : (channel : ℕ) (text remedy : List ℕ)
    → (codes "aes3: no block took --set" ++ decimal channel ++ codes " ") ++ (text ++ remedy)
    ≡ told_line channel text remedy
line-joined channel text remedy =
    sym (append_assoc (codes "aes3: no block took --set" ++ decimal channel ++ codes " ") text remedy)

-- the lines of texts behind others
lines-behind : (channel : ℕ) (settings : Settings) (taken : Taken) (at : ℕ) (before behind : List (List ℕ))
    → untaken_lines channel settings taken at (before ++ behind)
    ≡ untaken_lines channel settings taken at before ++ untaken_lines channel settings taken (at + length before) behind
lines-behind channel settings taken at [] behind =
    let same : at ≡ at + 0 = omega arith in ap (λ k. untaken_lines channel settings taken k behind) same
lines-behind channel settings taken at (text ∷ before) behind =
    let line = untaken_line channel settings taken at text in
    let next : suc at + length before ≡ at + suc (length before) = omega arith in
    ap (λ lines. line ++ lines) (lines-behind channel settings taken (suc at) before behind)
    ∙ sym (append_assoc line (untaken_lines channel settings taken (suc at) before)
    (untaken_lines channel settings taken (suc at + length before) behind))
    ∙ ap (λ k. (line ++ untaken_lines channel settings taken (suc at) before)
    ++ untaken_lines channel settings taken k behind) next

-- one line more
pub lines-next : (channel : ℕ) (settings : Settings) (taken : Taken) (texts : List (List ℕ)) (at : ℕ)
    → at < length texts
    → untaken_lines channel settings taken 0 (take at texts) ++ untaken_line channel settings taken at (get_or texts at [])
    ≡ untaken_lines channel settings taken 0 (take (at + 1) texts)
lines-next channel settings taken texts at l =
    let text = get_or texts at [] in
    let before = untaken_lines channel settings taken 0 (take at texts) in
    let few = length-take-le at texts (omega arith) in
    let number : 0 + length (take at texts) ≡ at = omega (arith, few) in
    sym (ap (untaken_lines channel settings taken 0) (take_more texts at [] l)
    ∙ lines-behind channel settings taken 0 (take at texts) (text ∷ [])
    ∙ ap (λ k. before ++ untaken_lines channel settings taken k (text ∷ [])) number
    ∙ ap (λ line. before ++ line) (append-nil (untaken_line channel settings taken at text)))

-- what stands behind a line, up to the last
pub lines-rest : (channel : ℕ) (settings : Settings) (taken : Taken) (texts : List (List ℕ)) (at : ℕ)
    → at < length texts
    → (rest : List ℕ) × ((untaken_lines channel settings taken 0 (take at texts)
    ++ untaken_line channel settings taken at (get_or texts at [])) ++ rest
    ≡ untaken_lines channel settings taken 0 texts)
lines-rest channel settings taken texts at l =
    let rest = untaken_lines channel settings taken (0 + length (take (at + 1) texts)) (drop (at + 1) texts) in (
      rest,
      ap (λ lines. lines ++ rest) (lines-next channel settings taken texts at l)
          ∙ sym (lines-behind channel settings taken 0 (take (at + 1) texts) (drop (at + 1) texts))
          ∙ ap (untaken_lines channel settings taken 0) (take-append-drop (at + 1) texts),
    )

-- what is told of a remark that could not be told whole: of none nothing
none-before : (part rest : List ℕ) → part ++ rest ≡ [] → part ≡ []
none-before [] rest e = refl
none-before (x ∷ part) rest e = absurd cc

pub told-front : (r : Result (Unit {0}) Fault) (errors : Movement) (lines : List ℕ) → is_ok r ≡ false
    → OnErr r ((errors.failed_new ≡ errors.failed_old + 1) × GrewFront errors.old errors.new lines)
    → RemarkTold lines errors
told-front (Ok v) errors lines e h = absurd cc
told-front (Err x) errors lines e h =
    let failed = h.0 in record {
      told = λ q. absurd (omega (arith, failed, q));
      silent = λ n. grew-is (none-before h.1.part h.1.rest (h.1.is ∙ n)) h.1.grew;
    }
