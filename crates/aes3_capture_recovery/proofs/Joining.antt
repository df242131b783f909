-- A line that was found gives its cells.
use Rattle.std.proofs.Common.{ℕ, suc, List, [], ◌∷◌, ◌++◌, ◌≡◌, ◌≤◌, ◌+◌, Option, length, replicate}
use Rattle.std.proofs.Common.{Result, Ok, Err, IfOk, sym, ap, ap₂, ◌∙◌, subst, arith, append_assoc, append-nil, take}
use Rattle.aes3_level.specs.declared.level.Level.{Level}
use Rattle.aes3_level.specs.declared.level.Level.TheVariants.{Low, High}
use Rattle.aes3_level.specs.Cells.{line, other}
use Rattle.aes3_level.proofs.Runs.{other-other}
use Rattle.aes3_capture.specs.declared.follower.Bounds.{Bounds}
use Rattle.aes3_capture.specs.Captures.{Captures, SpreadsLate}
use Rattle.aes3_capture.specs.Following.{Follows}
use Rattle.aes3_capture.proofs.Counts.{captures-late}
use Rattle.aes3_capture.proofs.Mirror.{Displaced, displaced-by-numbers}
use Rattle.aes3_capture_recovery.specs.Beginning.{Awaits, BeginsWith, GivesLine, IsLastingBehind, IsLastingLine, IsLineBehind, KeepsLine}
use Rattle.aes3_capture_recovery.specs.Finding.{AreCapturedRuns}
use Rattle.aes3_capture_recovery.specs.LineFollowing.{Gives}
use Rattle.aes3_capture_recovery.specs.Endings.{level_if}
use Rattle.aes3_capture_recovery.specs.Recovering.{Setting, first_cells, first_level, runs_to_end}
use Rattle.aes3_capture_recovery.specs.Runs.{runs_behind}
use Rattle.aes3_capture_recovery.specs.declared.recovery.Recovery.{Recovery}
use Rattle.aes3_capture_recovery.specs.declared.recovery.State.TheVariants.{Following}
use Rattle.aes3_capture_recovery.proofs.Awaiting.{awaits-joins, same-last}
use Rattle.aes3_capture_recovery.proofs.Beginning.{before-last, end-behind, heads, tails}
use Rattle.aes3_capture_recovery.proofs.Followed.{followed-gives}
use Rattle.aes3_capture_recovery.proofs.Found.{spreads-first, spreads-wider}
use Rattle.aes3_capture_recovery.proofs.Lasting.{unasked-allows}
use Rattle.aes3_capture_recovery.proofs.RunsBehind.{behind-same}
use Rattle.aes3_capture_recovery.proofs.RunsToEnd.{end-none}

-- a capture begins with one of the first runs
spreads-front : (bounds : Bounds) (spread late later displaced : ℕ) (counts xs ys : List ℕ)
    → SpreadsLate bounds spread late later displaced counts (xs ++ ys)
    → SpreadsLate bounds spread late later displaced (take (length xs) counts) xs
spreads-front bounds spread late later displaced [] [] ys s = tt
spreads-front bounds spread late later displaced (n ∷ counts) [] ys s = tt
spreads-front bounds spread late later displaced [] (x ∷ xs) ys s = absurd s
spreads-front bounds spread late later displaced (n ∷ counts) (x ∷ xs) ys s =
    (s.0, s.1, s.2, s.3, spreads-front bounds spread later late s.0 counts xs ys s.4)

line-displaced : (known : Option ℕ) (levels : List Level) (first : ℕ) (counts : List ℕ)
    → (l : IsLineBehind known levels first counts)
    → Displaced l.narrow l.spread l.late l.later l.displaced (take 256 counts) l.window
line-displaced known levels first counts l =
    let long = l.long in
    let some : 1 ≤ length l.window = omega (arith, long) in
    let all = spreads-front l.narrow l.spread l.late l.later l.displaced counts l.window l.more l.captured in
    let front = subst (λ n. SpreadsLate l.narrow l.spread l.late l.later l.displaced (take n counts) l.window) long all in
    displaced-by-numbers l.narrow l.spread l.late l.later l.displaced (take 256 counts) l.window
    (spreads-first l.narrow l.spread l.late l.later l.displaced (take 256 counts) l.window some front) front

-- the first 256 runs of a line are runs in which it can be found
line-captured : (known : Option ℕ) (levels : List Level) (first : ℕ) (counts : List ℕ)
    → (l : IsLineBehind known levels first counts)
    → (d : Displaced l.narrow l.spread l.late l.later l.displaced (take 256 counts) l.window)
    → AreCapturedRuns l.narrow l.spread l.late l.later l.place l.side d.places (take 256 counts) l.window
line-captured known levels first counts l d = record { displaced = d.are; many = l.many; findable = l.findable }

pub begins-line : (known : Option ℕ) (levels : List Level) (first : ℕ) (counts : List ℕ)
    → (l : IsLineBehind known levels first counts) → BeginsWith known levels first l.window
begins-line known levels first counts l =
    let d = line-displaced known levels first counts l in
    record {
      more = l.more;
      runs_are = l.runs_are;
      findable = record {
        narrow = l.narrow;
        spread = l.spread;
        late = l.late;
        later = l.later;
        place = l.place;
        side = l.side;
        places = d.places;
        cells = take 256 counts;
        captured = line-captured known levels first counts l d;
        allows = l.allows;
        short = l.short;
      };
    }

-- the samples behind a first run
at-least : (s : Level) (run : ℕ) (xs : List Level) (n : ℕ) (rest : List ℕ) → runs_behind s run xs ≡ n ∷ rest → run ≤ n
at-least Low run [] n rest e = cc
at-least High run [] n rest e = cc
at-least Low run (Low ∷ xs) n rest e = let h = at-least Low (suc run) xs n rest e in omega (arith, h)
at-least High run (High ∷ xs) n rest e = let h = at-least High (suc run) xs n rest e in omega (arith, h)
at-least Low run (High ∷ xs) n rest e = let h = heads run n _ _ e in omega (arith, h)
at-least High run (Low ∷ xs) n rest e = let h = heads run n _ _ e in omega (arith, h)

behind-first : (s : Level) (first : ℕ) (xs : List Level) (rest : List ℕ) → runs_behind s first xs ≡ first ∷ rest
    → runs_behind (other s) 0 xs ≡ rest
behind-first Low first [] rest e = cc
behind-first High first [] rest e = cc
behind-first Low first (Low ∷ xs) rest e =
    let h = at-least Low (suc first) xs first rest e in absurd (omega (arith, h))
behind-first High first (High ∷ xs) rest e =
    let h = at-least High (suc first) xs first rest e in absurd (omega (arith, h))
behind-first Low first (High ∷ xs) rest e = tails first first _ _ e
behind-first High first (Low ∷ xs) rest e = tails first first _ _ e

since-first : (s : Level) (first : ℕ) (since levels : List Level) (rest : List ℕ)
    → line (other s) (first ∷ []) ++ since ≡ levels → runs_behind s 0 levels ≡ first ∷ rest
    → runs_behind (other s) 0 since ≡ rest
since-first s first since levels rest is runs =
    behind-first s first since rest
    (ap (λ n. runs_behind s n since) (let z : first ≡ 0 + first = omega arith in z)
    ∙ sym (behind-same s 0 first since)
    ∙ ap (λ x. runs_behind s 0 (replicate first x ++ since)) (sym (other-other s))
    ∙ ap (λ x. runs_behind s 0 (x ++ since)) (sym (append-nil (replicate first (other (other s)))))
    ∙ ap (runs_behind s 0) is ∙ runs)

pub joined-gives : (told : Option (List ℕ)) (setting : Setting) (levels : List Level) (now : Recovery) (first : ℕ)
    (counts : List ℕ) → now.state ≡ Following → now.figures.measured ≡ 1
    → IsLineBehind setting.known levels first counts → Awaits told setting levels [] now
    → GivesLine told setting levels first counts now
joined-gives told setting levels now first counts is one l a =
    let s : Level = first_level levels in
    let b = begins-line setting.known levels first counts l in
    let f = awaits-joins told setting levels now first l.window is one b a in
    let d = line-displaced setting.known levels first counts l in
    let found = f.found.found l.narrow l.spread l.late l.later l.place l.side d.places (take 256 counts)
    (line-captured setting.known levels first counts l d) l.allows in
    let at = found.starts.at in
    let borne = found.starts.borne in
    let follows : Follows f.start at.first at.second l.displaced 0 0
    = subst (λ n. Follows f.start at.first at.second n 0 0) d.first at.follows in
    let wide = spreads-wider l.narrow f.start.bounds l.spread l.late l.later l.displaced counts (l.window ++ l.more)
    found.starts.wide l.captured in
    let captures = captures-late f.start.bounds l.spread l.late l.later at.first at.second l.displaced counts
    (l.window ++ l.more) borne.narrow borne.above borne.below at.first_side at.second_side wide in
    let since : runs_behind (other (other (other s))) 0 f.since ≡ l.window ++ l.more
    = ap (λ x. runs_behind x 0 f.since) (other-other (other s))
    ∙ since-first s first f.since levels (l.window ++ l.more) f.samples l.runs_are in
    record {
      start = f.start;
      gives = subst (λ (x : Level). Gives told setting.begun (first_cells (other s) (first ∷ []) f.start) now.line
          (line x counts)) (other-other s)
          (followed-gives told setting.begun (first_cells (other s) (first ∷ []) f.start) now.line f.start
          (other (other s)) f.since at.first at.second l.displaced counts f.followed follows
          (subst (λ (x : List ℕ). Captures f.start.bounds at.first at.second l.displaced counts x) (sym since) captures));
    }

-- A line that lasts is one.
pub lasting-line : (known : Option ℕ) (levels : List Level) (first : ℕ) (counts : List ℕ)
    → IsLastingBehind known levels first counts → IsLineBehind known levels first counts
lasting-line known levels first counts l =
    let e = end-behind (first_level levels) 0 levels in
    record {
      window = l.window;
      more = l.more;
      runs_are = before-last (runs_behind (first_level levels) 0 levels) (first ∷ (l.window ++ l.more)) e.0 l.behind
          (sym e.1 ∙ l.runs_are ∙ ap (λ x. first ∷ x) (sym (append_assoc l.window l.more (l.behind ∷ []))));
      long = l.line.long;
      short = l.line.short;
      narrow = l.narrow;
      spread = l.spread;
      late = l.line.late;
      later = l.line.later;
      displaced = l.line.displaced;
      captured = l.line.captured;
      place = l.line.place;
      side = l.line.side;
      many = l.line.many;
      findable = l.line.findable;
      allows = unasked-allows known l.narrow l.line.unasked;
    }

-- It is found, and followed to the end.
pub lasting-kept : (told : Option (List ℕ)) (setting : Setting) (levels : List Level) (now : Recovery) (first : ℕ)
    (counts : List ℕ) → IsLastingBehind setting.known levels first counts → Awaits told setting levels [] now
    → KeepsLine told setting levels first counts now
lasting-kept told setting levels now first counts l a =
    let w = a.recovered in
    let all : w.runs ++ w.behind ∷ [] ≡ (first ∷ (l.window ++ l.more)) ++ l.behind ∷ []
    = ap (λ x. w.runs ++ x) (sym (end-none (level_if now.line.edges.high) w.behind)) ∙ sym (w.split [])
    ∙ ap₂ (λ x y. runs_to_end x 0 y) w.first (append-nil levels) ∙ l.runs_are
    ∙ ap (λ x. first ∷ x) (sym (append_assoc l.window l.more (l.behind ∷ []))) in
    let last = same-last w.runs (first ∷ (l.window ++ l.more)) w.behind l.behind all in
    let runs = before-last w.runs (first ∷ (l.window ++ l.more)) w.behind l.behind all in
    let alive = l.alive in
    let kept = a.stays l.narrow l.spread first counts l.window l.more [] runs
    (subst (λ (x : List ℕ). IsLastingLine setting.known l.narrow l.spread counts l.window x) (sym (append-nil l.more)) l.line)
    (omega (arith, last, alive)) in
    record {
      state = kept.state;
      once = kept.once;
      gives = joined-gives told setting levels now first counts kept.state kept.once
          (lasting-line setting.known levels first counts l) a;
    }

pub lasting-ok : {R E : Type 0} (r : Result R E) (told : Option (List ℕ)) (setting : Setting) (levels : List Level) (now : Recovery)
    (first : ℕ) (counts : List ℕ) → IsLastingBehind setting.known levels first counts
    → IfOk r (λ x. Awaits told setting levels [] now) → IfOk r (λ x. KeepsLine told setting levels first counts now)
lasting-ok (Ok v) told setting levels now first counts l a = lasting-kept told setting levels now first counts l a
lasting-ok (Err e) told setting levels now first counts l a = tt
