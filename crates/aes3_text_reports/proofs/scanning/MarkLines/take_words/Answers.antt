use Rattle.std.proofs.Common.{◌≡◌, ◌+◌, ◌*◌, ◌^◌, ◌<◌, ◌≤◌, [], ◌++◌, List, Option, ℕ, length, take, drop, get_or, refl}
use Rattle.std.proofs.Common.{Result, Ok, Err, OnOk, OnErr, sym, ap, ◌∙◌, subst, arith, append_assoc, length-append}
use Rattle.std.specs.List.{flat_map}
use Rattle.std.proofs.lemmas.List.{length-take-le, set-get_or, take_all}
use Rattle.std.proofs.lemmas.Result.{err_from_is_err_and}
use Rattle.aes3_level.specs.declared.level.Level.{Level}
use Rattle.aes3_level.specs.Words.{word_cells}
use Rattle.aes3_level.proofs.WordLists.{words-more as more-words}
use Rattle.aes3_level.proofs.CellsIn.{length-words, words-parted}
use Rattle.aes3_cell.specs.declared.ends.Fault.{Fault}
use Rattle.aes3_cell.proofs.Growing.{front-is, front-more}
use Rattle.aes3_input.specs.Forms.{CellsRan}
use Rattle.aes3_input.specs.Running.{Movement, movement_of}
use Rattle.aes3_input.specs.Taking.{TakerState, behind}
use Rattle.aes3_input.proofs.Items.{items-join}
use Rattle.aes3_text_lines.specs.Gathering.{AllButHeld}
use Rattle.aes3_text_reports.specs.Scanning.{Scanned, mark_state, marking}
use Rattle.aes3_text_lines.proofs.Gathering.{held-is, held-join, held-front, all-handed, front-handed}
use Rattle.aes3_text_reports.proofs.scanning.MarkLines.take_words.Goals as goal

-- one word more
words-more : (ws : List ℕ) (i : ℕ) → i < length ws
    → flat_map word_cells (take (i + 1) ws) ≡ flat_map word_cells (take i ws) ++ word_cells (get_or ws i 0)
words-more ws i h =
    ap (λ v. flat_map word_cells (take (i + 1) v)) (sym (set-get_or ws i 0)) ∙ more-words ws i (get_or ws i 0) h

pub take_word-requires-clause-following : goal.take_word-requires-clause-following
take_word-requires-clause-following g c =
    let q = c.requires.following in
    let ws = c.args.words.now in
    let i = c.loop-word.word-index in
    let l : length q.0 + 64 * length ws ≤ 2 ^ 43 = q.1 in
    let d = flat_map word_cells (take i ws) in
    let n = length-append q.0 d in
    let k = length-words (take i ws) in
    let m : length (take i ws) ≡ i = length-take-le i ws (omega arith) in
    (q.0 ++ d, omega arith, c.loop-word.invariant.next q.0 q.3)

-- what the words so far and one more write
more : (d : List Level) (ws : List ℕ) (i : ℕ) → i < length ws
    → behind marking d (flat_map word_cells (take i ws))
    ++ behind marking (d ++ flat_map word_cells (take i ws)) (word_cells (get_or ws i 0))
    ≡ behind marking d (flat_map word_cells (take (i + 1) ws))
more d ws i h =
    sym (items-join marking d (flat_map word_cells (take i ws)) (word_cells (get_or ws i 0)))
    ∙ ap (behind marking d) (sym (words-more ws i h))

pub loop-word-preserved : goal.loop-word-preserved
loop-word-preserved g c =
    let v = c.loop-word.invariant in
    let r = c.in_ok-take_word.ensures in
    let ws = c.args.words.now in
    let i = c.loop-word.word-index in
    let f = flat_map word_cells (take i ws) in
    record {
      next = λ d h.
          subst (Scanned c.take_word.new.self.scan c.take_word.new.self.marks)
          (append_assoc d f (word_cells (get_or ws i 0)) ∙ ap (λ z. d ++ z) (sym (words-more ws i (omega arith))))
          (r.next (d ++ f) (v.next d h));
      held = λ d h. held-is (more d ws i (omega arith)) (held-join (v.held d h) (r.wrote (d ++ f) (v.next d h)));
      fits = r.fits;
      quiet = r.no_failure ∙ v.quiet;
    }

pub returns-in_err-take_word : goal.returns-in_err-take_word
returns-in_err-take_word g c =
    let v = c.loop-word.invariant in
    let r = c.in_err-take_word.ensures in
    let ws = c.args.words.now in
    let i = c.loop-word.word-index in
    let f = flat_map word_cells (take i ws) in
    let rest = flat_map word_cells (drop (i + 1) ws) in
    let error = err_from_is_err_and c.from_residual.result c.from_residual.ensures.1 in
    record {
      ran = rw error.1 (
        r.one_failure ∙ ap (λ k. k + 1) v.quiet,
        (λ d h.
            front-is
            (ap (λ z. z ++ behind marking (d ++ flat_map word_cells (take (i + 1) ws)) rest)
            (ap (λ z. z ++ (behind marking d f ++ behind marking (d ++ f) (word_cells (get_or ws i 0)))) h.0
            ∙ more d ws i (omega arith))
            ∙ sym (ap (behind marking d) (words-parted ws (i + 1))
            ∙ items-join marking d (flat_map word_cells (take (i + 1) ws)) rest))
            (front-more (held-front (behind marking (d ++ f) (word_cells (get_or ws i 0))) (v.held d h.1)
            (r.err_grew (d ++ f) (v.next d h.1)))
            (behind marking (d ++ flat_map word_cells (take (i + 1) ws)) rest))),
      );
    }

-- all words were taken, behind none that were held
all : {t t' : Option (List ℕ)} {h k : List ℕ} (d : List Level) (ws : List ℕ) (i : ℕ) → length ws ≤ i → h ≡ []
    → AllButHeld t t' h k (behind marking d (flat_map word_cells (take i ws)))
    → AllButHeld t t' [] k (behind marking d (flat_map word_cells ws))
all {t} {t'} {h} {k} d ws i l e x =
    subst (λ z. AllButHeld t t' z k (behind marking d (flat_map word_cells ws))) e
    (held-is (ap (λ z. behind marking d (flat_map word_cells z)) (take_all i ws l)) x)

-- what the last call answers is answered
ran-by : (old new : TakerState Level) (d : List Level) (sink : Movement) {A B C D : Type 0}
    (r : Result (Unit {0}) Fault) → OnOk r A → OnOk r B → OnOk r C → OnErr r D
    → (A → B → C → CellsRan old new d sink (Ok tt)) → (D → (x : Fault) → CellsRan old new d sink (Err x))
    → CellsRan old new d sink r
ran-by old new d sink (Ok u) a b c e f k = f a b c
ran-by old new d sink (Err x) a b c e f k = k e x

pub returns : goal.returns
returns g c =
    let v = c.loop-word.invariant in
    let r = c.write_to.ensures in
    let ws = c.args.words.now in
    let i = c.loop-word.word-index in
    record {
      ran = ran-by (mark_state c.args.self.now.lines c.args.self.now.scan c.args.self.now.marks)
          (mark_state c.write_to.new.self c.loop-word.self.scan c.loop-word.self.marks) (flat_map word_cells ws)
          (movement_of g.T.Sink.taken g.T.Sink.failed c.args.sink.now c.write_to.new.sink)
          c.write_to.result r.none r.wrote.grew r.wrote.no_failure r.wrote.err
          (λ none grew count. (
            refl,
            (λ d h. (
              none,
              subst (λ z. Scanned c.loop-word.self.scan c.loop-word.self.marks (d ++ flat_map word_cells z))
                  (take_all i ws (omega arith)) (v.next d h.1),
            )),
            (λ d h. all-handed (all d ws i (omega arith) h.0 (v.held d h.1)) grew),
            count ∙ v.quiet,
          ))
          (λ e x. (
            e.0 ∙ ap (λ k. k + 1) v.quiet,
            (λ d h. front-handed (all d ws i (omega arith) h.0 (v.held d h.1)) e.1),
          ));
    }
