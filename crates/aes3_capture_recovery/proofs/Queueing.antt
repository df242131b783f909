-- Cells put into words, and words written.
use Rattle.std.proofs.Common.{◌≡◌, ℕ, ◌+◌, ◌<◌, ◌≤◌, List, [], ◌++◌, length, take, set, Option, Some, Result, Ok, Err}
use Rattle.std.proofs.Common.{sym, ap, ◌∙◌, subst, arith, append_assoc, append-nil}
use Rattle.std.specs.List.{flat_map}
use Rattle.std.proofs.lemmas.Grind.{flat_map-append}
use Rattle.aes3_level.specs.declared.level.Level.{Level}
use Rattle.aes3_cell.specs.declared.form.Form.{Form}
use Rattle.aes3_cell.specs.Ends.{Grew, GrewFront}
use Rattle.aes3_cell.specs.Writes.{Wrote}
use Rattle.aes3_level.specs.Words.{word_cells}
use Rattle.aes3_cell.specs.Written.{bytes_of}
use Rattle.std.proofs.lemmas.List.{take_all, length-set}
use Rattle.aes3_level.proofs.WordLists.{words-more}
use Rattle.aes3_cell.proofs.ManyWords.{length-words}
use Rattle.aes3_cell.proofs.WrittenForms.{bytes-append}
use Rattle.aes3_capture_recovery.specs.declared.queue.CellQueue.{CellQueue}
use Rattle.aes3_capture_recovery.specs.Endings.{ending_of, finished}
use Rattle.aes3_capture_recovery.specs.Queues.{Queued, Stopped, Puts, Finishes, waiting}
use Rattle.aes3_capture_recovery.proofs.EndBytes.{finished-append, finished-begins}

-- the bytes of words and of those behind them
pub bytes-all : (form : Form) (words more : List ℕ)
    → bytes_of form (flat_map word_cells (words ++ more))
    ≡ bytes_of form (flat_map word_cells words) ++ bytes_of form (flat_map word_cells more)
bytes-all form words more =
    ap (bytes_of form) (flat_map-append word_cells words more)
    ∙ bytes-append form (length words) (flat_map word_cells words) (flat_map word_cells more) (length-words words)

cells-all : (words more : List ℕ) (old new added all : List Level) → old ++ added ≡ flat_map word_cells more ++ new
    → flat_map word_cells words ++ old ≡ all
    → flat_map word_cells (words ++ more) ++ new ≡ all ++ added
cells-all words more old new added all e h =
    ap (λ c. c ++ new) (flat_map-append word_cells words more)
    ∙ append_assoc (flat_map word_cells words) (flat_map word_cells more) new
    ∙ ap (λ c. flat_map word_cells words ++ c) (sym e) ∙ sym (append_assoc (flat_map word_cells words) old added)
    ∙ ap (λ c. c ++ added) h

-- words that were written, of the cells that waited and of those added
pub written-puts : {A R E : Type 0} {taken : A → Option (List ℕ)} {failed : A → ℕ} {a b : A} (old new : CellQueue)
    (r : Result R E) (more : List ℕ) (added : List Level)
    → new.form ≡ old.form → waiting old ++ added ≡ flat_map word_cells more ++ waiting new
    → Wrote taken failed a b (bytes_of old.form (flat_map word_cells more)) r → Puts taken old new a b r added
written-puts old new (Ok v) more added f e w = record {
  form = f;
  cells = λ begun all q. record {
    words = q.words ++ more;
    tells = w.grew.by _ q.tells
        ∙ ap Some (append_assoc begun _ _ ∙ ap (λ z. begun ++ z) (sym (bytes-all old.form q.words more)));
    cells = cells-all q.words more (waiting old) (waiting new) added all e q.cells;
  };
  err = λ begun all q. tt;
}
written-puts old new (Err x) more added f e w = record {
  form = f;
  cells = λ begun all q. tt;
  err = λ begun all q. record {
    words = q.words ++ more;
    more = waiting new;
    cells = cells-all q.words more (waiting old) (waiting new) added all e q.cells;
    front = record {
      part = bytes_of old.form (flat_map word_cells q.words) ++ w.err.1.part;
      rest = w.err.1.rest;
      front = append_assoc (bytes_of old.form (flat_map word_cells q.words)) w.err.1.part w.err.1.rest
          ∙ ap (λ z. bytes_of old.form (flat_map word_cells q.words) ++ z) w.err.1.is
          ∙ sym (bytes-all old.form q.words more);
      tells = w.err.1.grew.by _ q.tells ∙ ap Some (append_assoc begun _ _);
    };
  };
}

-- cells that wait, with nothing written
pub waits-puts : {A R E : Type 0} {taken : A → Option (List ℕ)} {a : A} (old new : CellQueue) (v : R)
    (added : List Level)
    → new.form ≡ old.form → waiting old ++ added ≡ waiting new → Puts {R = R} {E = E} taken old new a a (Ok v) added
waits-puts old new v added f e = record {
  form = f;
  cells = λ begun all q. record {
    words = q.words;
    tells = q.tells;
    cells = ap (λ c. flat_map word_cells q.words ++ c) (sym e)
        ∙ sym (append_assoc (flat_map word_cells q.words) (waiting old) added) ∙ ap (λ c. c ++ added) q.cells;
  };
  err = λ begun all q. tt;
}

pub puts-is : {A R E : Type 0} {taken : A
    → Option (List ℕ)} {old new : CellQueue} {a b : A} {r : Result R E} {x y : List Level} → x ≡ y
    → Puts taken old new a b r x → Puts taken old new a b r y
puts-is {taken} {old} {new} {a} {b} {r} e p = subst (λ (z : List Level). Puts taken old new a b r z) e p

-- what was put before a call, whatever the call's result is like
abbrev pub Put : {A : Type 0} → (A → Option (List ℕ)) → CellQueue → CellQueue → A → A → List Level → Type 0
Put taken old new a b added = Puts {R = Unit {0}} {E = Unit {0}} taken old new a b (Ok tt) added

pub put-is : {A R E : Type 0} {taken : A → Option (List ℕ)} {old new : CellQueue} {a b : A} {x : List Level} (v : R)
    → Puts {R = R} {E = E} taken old new a b (Ok v) x
    → Put taken old new a b x
put-is v p = record { form = p.form; cells = p.cells; err = λ begun all q. tt }

stopped-more : {t : Option (List ℕ)} {begun : List ℕ} {form : Form} {all : List Level} (more : List Level)
    → Stopped t begun form all → Stopped t begun form (all ++ more)
stopped-more more s = record {
  words = s.words;
  more = s.more ++ more;
  cells = sym (append_assoc (flat_map word_cells s.words) s.more more) ∙ ap (λ c. c ++ more) s.cells;
  front = s.front;
}

-- one call behind another
pub puts-chain : {A R E : Type 0} {taken : A → Option (List ℕ)} (old mid new : CellQueue) (a b d : A) (r : Result R E)
    (x y : List Level)
    → Put taken old mid a b x → Puts taken mid new b d r y → Puts taken old new a d r (x ++ y)
puts-chain {taken = taken} old mid new a b d (Ok v) x y p n = record {
  form = n.form ∙ p.form;
  cells = λ begun all q.
      let q' : Queued (taken b) begun mid.form (waiting mid) (all ++ x) = rw p.form (p.cells begun all q) in
      let s : Queued (taken d) begun old.form (waiting new) ((all ++ x) ++ y)
      = rw p.form at (n.cells begun (all ++ x) q') in
      subst (λ c. Queued (taken d) begun old.form (waiting new) c) (append_assoc all x y) s;
  err = λ begun all q. tt;
}
puts-chain {taken = taken} old mid new a b d (Err e) x y p n = record {
  form = n.form ∙ p.form;
  cells = λ begun all q. tt;
  err = λ begun all q.
      let q' : Queued (taken b) begun mid.form (waiting mid) (all ++ x) = rw p.form (p.cells begun all q) in
      let s : Stopped (taken d) begun old.form ((all ++ x) ++ y) = rw p.form at (n.err begun (all ++ x) q') in
      subst (λ c. Stopped (taken d) begun old.form c) (append_assoc all x y) s;
}

-- a call that failed put a front of what was to come
pub puts-stop : {A R S E F : Type 0} {taken : A → Option (List ℕ)} (old new : CellQueue) (a b : A) (e : E) (f : F)
    (x y : List Level)
    → Puts {R = R} {E = E} taken old new a b (Err e) x → Puts {R = S} {E = F} taken old new a b (Err f) (x ++ y)
puts-stop {taken = taken} old new a b e f x y p = record {
  form = p.form;
  cells = λ begun all q. tt;
  err = λ begun all q. subst (λ c. Stopped (taken b) begun old.form c) (append_assoc all x y)
      (stopped-more y (p.err begun all q));
}

-- the end behind the words
pub ends-finish : {A R E : Type 0} {taken : A → Option (List ℕ)} {failed : A → ℕ} (old mid : CellQueue) (a b d : A)
    (r : Result R E) (rest : List Level)
    → Put taken old mid a b [] → waiting mid ≡ rest → length rest < 64
    → Wrote taken failed b d (ending_of mid.form rest) r → Finishes taken old a d r
ends-finish {taken = taken} old mid a b d (Ok v) rest p is few w = record {
  cells = λ begun all q.
      let s : Queued (taken b) begun old.form (waiting mid) (all ++ []) = p.cells begun all q in
      let w' : Grew (taken b) (taken d) (ending_of old.form rest) = rw p.form at w.grew in
      w'.by _ s.tells ∙ ap Some
      (append_assoc begun _ _ ∙ ap (λ z. begun ++ z) (sym (finished-append old.form s.words rest few)
      ∙ ap (finished old.form) (ap (λ c. flat_map word_cells s.words ++ c) (sym is) ∙ s.cells ∙ append-nil all)));
  err = λ begun all q. tt;
}
ends-finish {taken = taken} old mid a b d (Err e) rest p is few w = record {
  cells = λ begun all q. tt;
  err = λ begun all q.
      let s : Queued (taken b) begun old.form (waiting mid) (all ++ []) = p.cells begun all q in
      let w' : GrewFront (taken b) (taken d) (ending_of old.form rest) = rw p.form at w.err.1 in
      record {
        part = bytes_of old.form (flat_map word_cells s.words) ++ w'.part;
        rest = w'.rest;
        front = append_assoc _ w'.part w'.rest ∙ ap (λ z. bytes_of old.form (flat_map word_cells s.words) ++ z) w'.is
            ∙ sym (finished-append old.form s.words rest few)
            ∙ ap (finished old.form) (ap (λ c. flat_map word_cells s.words ++ c) (sym is) ∙ s.cells ∙ append-nil all);
        tells = w'.grew.by _ s.tells ∙ ap Some (append_assoc begun _ _);
      };
}

pub stops-finish : {A R S E F : Type 0} {taken : A → Option (List ℕ)} (old mid : CellQueue) (a b : A) (e : E) (f : F)
    → Puts {R = R} {E = E} taken old mid a b (Err e) [] → Finishes {R = S} {E = F} taken old a b (Err f)
stops-finish old mid a b e f p = record {
  cells = λ begun all q. tt;
  err = λ begun all q.
      let s = p.err begun all q in
      let m = finished-begins old.form s.words s.more in record {
        part = s.front.part;
        rest = s.front.rest ++ m.0;
        front = sym (append_assoc s.front.part s.front.rest m.0) ∙ ap (λ z. z ++ m.0) s.front.front ∙ m.1
            ∙ ap (finished old.form) (s.cells ∙ append-nil all);
        tells = s.front.tells;
      };
}

-- the words of a queue once its last is whole
pub full-words : (words : List ℕ) (count word : ℕ) (before added after : List Level) → length words ≡ 16 → count < 16
    → 16 ≤ count + 1
    → before ++ added ≡ word_cells word ++ after
    → (flat_map word_cells (take count words) ++ before) ++ added ≡ flat_map word_cells (set words count word) ++ after
full-words words count word before added after room within full e =
    let h : count < length words = omega (arith, room, within) in
    let l : length (set words count word) ≤ count + 1 = omega (arith, length-set words count word, room, full) in
    append_assoc (flat_map word_cells (take count words)) before added
    ∙ ap (λ c. flat_map word_cells (take count words) ++ c) e
    ∙ sym (append_assoc (flat_map word_cells (take count words)) (word_cells word) after)
    ∙ ap (λ c. c ++ after) (sym (words-more words count word h)
    ∙ ap (flat_map word_cells) (take_all (count + 1) (set words count word) l))

-- a word that was put behind the others
pub more-words : (words : List ℕ) (count word : ℕ) (before added after : List Level) → count < length words
    → before ++ added ≡ word_cells word ++ after
    → (flat_map word_cells (take count words) ++ before) ++ added
    ≡ flat_map word_cells (take (count + 1) (set words count word)) ++ after
more-words words count word before added after h e =
    append_assoc (flat_map word_cells (take count words)) before added
    ∙ ap (λ c. flat_map word_cells (take count words) ++ c) e
    ∙ sym (append_assoc (flat_map word_cells (take count words)) (word_cells word) after)
    ∙ ap (λ c. c ++ after) (sym (words-more words count word h))

pub waits-more : (words : List ℕ) (count : ℕ) (before added after : List Level) → after ≡ before ++ added
    → (flat_map word_cells (take count words) ++ before) ++ added ≡ flat_map word_cells (take count words) ++ after
waits-more words count before added after e =
    append_assoc (flat_map word_cells (take count words)) before added
    ∙ ap (λ c. flat_map word_cells (take count words) ++ c) (sym e)
