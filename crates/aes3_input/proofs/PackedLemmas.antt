-- Packed cells taken octet by octet.
use Rattle.std.proofs.Common.{◌≡◌, ℕ, ◌+◌, ◌-◌, ◌*◌, ◌≤◌, List, [], ◌∷◌, ◌++◌, cond, Option, Some, None, Result, Ok}
use Rattle.std.proofs.Common.{Err, IfOk, OnErr, length, take, refl, sym, ap, ap₂, ◌∙◌, subst, arith, append-nil}
use Rattle.std.proofs.Common.{length-append}
use Rattle.std.proofs.lemmas.List.{length-take-le}
use Rattle.std.specs.Option.{unwrap_or}
use Rattle.aes3_level.specs.declared.level.Level.{Level}
use Rattle.aes3_refusals.specs.declared.run_error.RunError.{RunError}
use Rattle.aes3_refusals.specs.declared.run_error.RunError.TheVariants.{BadPadding}
use Rattle.aes3_cell.specs.declared.packed_in.BadPadding as padding
use Rattle.aes3_cell.specs.declared.ends.Fault as device
use Rattle.aes3_cell.specs.Ends.{Grew, GrewFront}
use Rattle.aes3_cell.specs.Packed.{octet_cells, last_place, cells_of_packed, whole_cells}
use Rattle.aes3_cell.specs.PackedReading.{PackedReader, packed_reader_of, packed_answer, packed_next, packed_end}
use Rattle.aes3_cell.specs.PackedReading.{answer_cells, end_cells}
use Rattle.aes3_cell.proofs.Growing.{grew-none, grew-is, grew-join, front-is, front-join}
use Rattle.aes3_cell.proofs.Octets.{length-octet_cells}
use Rattle.aes3_cell.proofs.PackedCells.{length-cells_of_octets}
use Rattle.aes3_cell.proofs.PackedReads.{packed_reader-more, whole_cells-more, end-ok, end-fault, end-used, cells-end}
use Rattle.aes3_input.specs.Converting.{fault_behind, out_behind}
use Rattle.aes3_input.specs.Running.{Fed}
use Rattle.aes3_input.specs.Taking.{TakerState, Writing, behind}
use Rattle.aes3_input.specs.Forms.{octet_front, packed_reading, PackedTaken, PackedEnded}
use Rattle.aes3_input.specs.Forms.{CellsRan, EndCellsRan}

-- the first cells of an octet
all-eight : (octet : ℕ) → octet_front 8 octet ≡ octet_cells octet
unfolding octet_front
all-eight octet = refl

pub length-front : (n octet : ℕ) → n ≤ 8 → length (octet_front n octet) ≡ n
unfolding octet_front
length-front n octet h = length-take-le n (octet_cells octet) (let k = length-octet_cells octet in omega arith)

-- one octet is no fault, and writes what the cells write that it makes whole
one-octet : (w : Writing Level) (b : List ℕ) (x : ℕ)
    → out_behind (packed_reading w) b (x ∷ [])
    ≡ behind w (whole_cells b) (answer_cells (packed_answer (packed_reader_of b)))
unfolding packed_reading
one-octet w b x = append-nil (behind w (whole_cells b) (answer_cells (packed_answer (packed_reader_of b))))

no-fault : (w : Writing Level) (b : List ℕ) (x : ℕ) → fault_behind (packed_reading w) b (x ∷ []) ≡ None
unfolding packed_reading
no-fault w b x = refl

fed-octet : (w₀ w : Writing Level) (f₀ f : List Level → Type 0) (packed new : PackedReader) (cells : ℕ) (x : ℕ)
    (o : Option ℕ) (t t' : Option (List ℕ))
    → o ≡ packed_answer packed → new ≡ packed_next packed x → w ≡ w₀
    → ((c : List Level) → f₀ c → f (c ++ answer_cells o))
    → ((c : List Level) → f₀ c → Grew t t' (behind w₀ c (answer_cells o)))
    → Fed (packed_reading w₀) (packed_reading w) (PackedTaken packed cells f₀)
    (PackedTaken new (cells + length (answer_cells o)) f) t t' (x ∷ [])
fed-octet w₀ w f₀ f packed new cells x o t t' a n s next g = record {
  same = ap packed_reading s;
  clean = λ b h. no-fault w₀ b x;
  follows = λ b h.
      let q : o ≡ packed_answer (packed_reader_of b) = a ∙ ap packed_answer h.reader in
      let e : whole_cells (b ++ x ∷ []) ≡ whole_cells b ++ answer_cells o
      = whole_cells-more b x ∙ ap (λ v. whole_cells b ++ answer_cells v) (sym q) in
      record {
        reader = n ∙ ap (λ r. packed_next r x) h.reader ∙ packed_reader-more b x;
        count = ap (λ k. k + length (answer_cells o)) h.count ∙ sym (length-append (whole_cells b) (answer_cells o))
            ∙ ap length (sym e);
        taker = subst f (sym e) (next (whole_cells b) h.taker);
      };
  grew = λ b h.
      let q : o ≡ packed_answer (packed_reader_of b) = a ∙ ap packed_answer h.reader in
      grew-is (ap (λ v. behind w₀ (whole_cells b) (answer_cells v)) q ∙ sym (one-octet w₀ b x))
      (g (whole_cells b) h.taker);
}

pub octet-none : (w : Writing Level) (f : List Level → Type 0) (packed new : PackedReader) (cells : ℕ) (x : ℕ)
    (t : Option (List ℕ))
    → None ≡ packed_answer packed → new ≡ packed_next packed x
    → Fed (packed_reading w) (packed_reading w) (PackedTaken packed cells f) (PackedTaken new cells f) t t (x ∷ [])
octet-none w f packed new cells x t a n =
    subst (λ (k : ℕ). Fed (packed_reading w) (packed_reading w) (PackedTaken packed cells f) (PackedTaken new k f) t t
    (x ∷ [])) (omega arith)
    (fed-octet w w f f packed new cells x None t t a n refl (λ c h. subst f (sym (append-nil c)) h)
    (λ c h. grew-none refl))

pub octet-whole : (w₀ w : Writing Level) (f₀ f : List Level → Type 0) (packed new : PackedReader) (cells : ℕ)
    (x octet : ℕ) (t t' : Option (List ℕ))
    → Some octet ≡ packed_answer packed → new ≡ packed_next packed x → w ≡ w₀
    → ((c : List Level) → f₀ c → f (c ++ octet_front 8 octet))
    → ((c : List Level) → f₀ c → Grew t t' (behind w₀ c (octet_front 8 octet)))
    → Fed (packed_reading w₀) (packed_reading w) (PackedTaken packed cells f₀) (PackedTaken new (cells + 8) f) t t'
    (x ∷ [])
octet-whole w₀ w f₀ f packed new cells x octet t t' a n s next g =
    subst (λ (k : ℕ). Fed (packed_reading w₀) (packed_reading w) (PackedTaken packed cells f₀)
    (PackedTaken new (cells + k) f) t t' (x ∷ [])) (length-octet_cells octet)
    (fed-octet w₀ w f₀ f packed new cells x (Some octet) t t' a n s
    (λ c h. subst (λ (d : List Level). f (c ++ d)) (all-eight octet) (next c h))
    (λ c h. grew-is (ap (behind w₀ c) (all-eight octet)) (g c h)))

pub octet-front : (w₀ : Writing Level) (f₀ : List Level → Type 0) (packed : PackedReader) (cells : ℕ) (x octet : ℕ)
    (t t' : Option (List ℕ))
    → Some octet ≡ packed_answer packed → ((c : List Level) → f₀ c → GrewFront t t' (behind w₀ c (octet_front 8 octet)))
    → (b : List ℕ) → PackedTaken packed cells f₀ b → GrewFront t t' (out_behind (packed_reading w₀) b (x ∷ []))
octet-front w₀ f₀ packed cells x octet t t' a g b h =
    let q : Some octet ≡ packed_answer (packed_reader_of b) = a ∙ ap packed_answer h.reader in
    front-is (ap (behind w₀ (whole_cells b)) (all-eight octet) ∙ ap (λ v. behind w₀ (whole_cells b) (answer_cells v)) q
    ∙ sym (one-octet w₀ b x)) (g (whole_cells b) h.taker)

-- what a reader has seen, and how many cells stand
pub octets-seen : {packed : PackedReader} {cells : ℕ} {f : List Level → Type 0} {b : List ℕ}
    → PackedTaken packed cells f b → packed.seen ≡ length b
unfolding packed_reader_of
octets-seen h = ap (λ r. r.seen) h.reader

pub few-cells : (b : List ℕ) → length (whole_cells b) ≤ 8 * (length b - 2)
unfolding whole_cells
few-cells b =
    let n = length-cells_of_octets (take (length b - 2) b) in
    let k = length-take-le (length b - 2) b (omega arith) in
    omega arith

-- the end: the cells of the last octets
pub last-used : (packed : PackedReader) (o : Option (ℕ × ℕ)) (p : ℕ × ℕ) → Ok o ≡ packed_end packed
    → p ≡ unwrap_or o (0, 0) → p.1 ≤ 8
last-used packed (Some q) p a e
    = let u = end-used packed q.0 q.1 (sym a) in let v = ap (λ (k : ℕ × ℕ). k.1) e in let w = u.1 in omega arith
last-used packed None p a e = let v = ap (λ (k : ℕ × ℕ). k.1) e in omega arith

last-cells : (o : Option (ℕ × ℕ)) (p : ℕ × ℕ) → p ≡ unwrap_or o (0, 0) → octet_front p.1 p.0 ≡ end_cells (Ok o)
unfolding octet_front
last-cells (Some q) p e = ap (λ (k : ℕ × ℕ). octet_front k.1 k.0) e
last-cells None p e = ap (λ (k : ℕ × ℕ). octet_front k.1 k.0) e

pub last-ok : (w₀ : Writing Level) (f₀ z : List Level → Type 0) (packed : PackedReader) (cells : ℕ) (o : Option (ℕ × ℕ))
    (p : ℕ × ℕ) (used : ℕ) (t t' : Option (List ℕ))
    → Ok o ≡ packed_end packed → p ≡ unwrap_or o (0, 0) → used ≡ p.1
    → ((c : List Level) → f₀ c
    → z (c ++ octet_front p.1 p.0)
    × Grew t t' (behind w₀ c (octet_front p.1 p.0) ++ w₀.ends (c ++ octet_front p.1 p.0)))
    → (b : List ℕ) → PackedTaken packed cells f₀ b
    → ((packed_reading w₀).end_fault b ≡ None) × PackedEnded (cells + used) z b × Grew t t' ((packed_reading w₀).ends b)
unfolding packed_reading
last-ok w₀ f₀ z packed cells o p used t t' a e u g b h =
    let d = octet_front p.1 p.0 in
    let q : packed_end (packed_reader_of b) ≡ Ok o = sym (a ∙ ap packed_end h.reader) in
    let k = end-ok b o q in
    let ce : d ≡ end_cells (packed_end (packed_reader_of b)) = last-cells o p e ∙ ap end_cells (sym q) in
    let all : whole_cells b ++ d ≡ cells_of_packed b = ap (λ v. whole_cells b ++ v) ce ∙ sym (cells-end b k) in
    let n : length d ≡ used = length-front p.1 p.0 (last-used packed o p a e) ∙ sym u in
    let r = g (whole_cells b) h.taker in (
      ap (λ v. cond {A = Option RunError} v None (Some (BadPadding (last_place b)))) k,
      record {
        count = ap₂ ◌+◌ h.count (sym n) ∙ sym (length-append (whole_cells b) d) ∙ ap length all;
        taker = subst z all r.0;
      },
      grew-is (ap₂ (λ u v. behind w₀ (whole_cells b) u ++ w₀.ends v) ce all) r.1,
    )

pub last-front : (w₀ : Writing Level) (f₀ : List Level → Type 0) (packed : PackedReader) (cells : ℕ)
    (o : Option (ℕ × ℕ)) (p : ℕ × ℕ) (t t' : Option (List ℕ))
    → Ok o ≡ packed_end packed → p ≡ unwrap_or o (0, 0)
    → ((c : List Level) → f₀ c
    → GrewFront t t' (behind w₀ c (octet_front p.1 p.0) ++ w₀.ends (c ++ octet_front p.1 p.0)))
    → (b : List ℕ) → PackedTaken packed cells f₀ b
    → ((packed_reading w₀).end_fault b ≡ None) × GrewFront t t' ((packed_reading w₀).ends b)
unfolding packed_reading
last-front w₀ f₀ packed cells o p t t' a e g b h =
    let d = octet_front p.1 p.0 in
    let q : packed_end (packed_reader_of b) ≡ Ok o = sym (a ∙ ap packed_end h.reader) in
    let k = end-ok b o q in
    let ce : d ≡ end_cells (packed_end (packed_reader_of b)) = last-cells o p e ∙ ap end_cells (sym q) in
    let all : whole_cells b ++ d ≡ cells_of_packed b = ap (λ v. whole_cells b ++ v) ce ∙ sym (cells-end b k) in (
      ap (λ v. cond {A = Option RunError} v None (Some (BadPadding (last_place b)))) k,
      front-is (ap₂ (λ u v. behind w₀ (whole_cells b) u ++ w₀.ends v) ce all) (g (whole_cells b) h.taker),
    )

pub last-bad : (w₀ : Writing Level) (f₀ : List Level → Type 0) (packed : PackedReader) (cells : ℕ)
    (fault : padding.BadPadding) (t : Option (List ℕ))
    → Err fault ≡ packed_end packed → (b : List ℕ) → PackedTaken packed cells f₀ b
    → ((packed_reading w₀).end_fault b ≡ Some (BadPadding fault.at)) × f₀ (whole_cells b) × Grew t t []
unfolding packed_reading
last-bad w₀ f₀ packed cells fault t a b h =
    let q = end-fault b fault (sym (a ∙ ap packed_end h.reader)) in
    (ap₂ (λ v k. cond {A = Option RunError} v None (Some (BadPadding k))) q.0 (sym q.1), h.taker, grew-none refl)

-- the last cells, and the end
pub ended : (old mid new : TakerState Level) (d : List Level) (t t' t'' : Option (List ℕ))
    (k k' k'' : ℕ) (result : Result (Unit {0}) device.Fault)
    → CellsRan old mid d (record { old = t; new = t'; failed_old = k; failed_new = k' }) (Ok tt)
    → IfOk result (λ (x : Unit {0}). (c : List Level) → mid.follows c → new.finished c)
    → IfOk result (λ (x : Unit {0}). (c : List Level) → mid.follows c → Grew t' t'' (mid.writes.ends c))
    → IfOk result (λ (x : Unit {0}). k'' ≡ k')
    → OnErr result (k'' ≡ k' + 1)
    → OnErr result ((c : List Level) → mid.follows c → GrewFront t' t'' (mid.writes.ends c))
    → EndCellsRan old new d (record { old = t; new = t''; failed_old = k; failed_new = k'' }) result
ended old mid new d t t' t'' k k' k'' (Ok x) (s, a, g, q) done grew count failed front = (
  λ c h. (
    done (c ++ d) (a c h),
    grew-join (g c h) (grew-is (ap (λ (v : Writing Level). v.ends (c ++ d)) s) (grew (c ++ d) (a c h))),
  ),
  count ∙ q,
)
ended old mid new d t t' t'' k k' k'' (Err x) (s, a, g, q) done grew count failed front = (
  failed ∙ ap (λ n. n + 1) q,
  λ c h. front-join (g c h) (front-is (ap (λ (v : Writing Level). v.ends (c ++ d)) s) (front (c ++ d) (a c h))),
)
