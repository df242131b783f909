-- Marks of a kept recovery.
use Rattle.std.proofs.Common.{ℕ, List, [], ◌++◌, ◌≡◌, ◌≤◌, ◌+◌, ◌*◌, Some, inr, refl, sym, subst, length, true}
use Rattle.aes3_level.specs.declared.level.Level.{Level}
use Rattle.aes3_capture_recovery.specs.Queues.{waiting}
use Rattle.aes3_capture_recovery.specs.Recovering.{Recovered, runs_waiting, samples_of}
use Rattle.aes3_capture_recovery.specs.declared.recovery.Recovery.{Recovery}
use Rattle.aes3_capture_places.specs.Placing.{IsMark}
use Rattle.aes3_capture_places.specs.declared.marks.Mark.{Mark}
use Rattle.aes3_capture_places.proofs.Marking.{mark-made, mark-stays}
use Rattle.aes3_c.specs.Capturing.{packed_by, period_of}
use Rattle.aes3_c.specs.Owed.{owed_in}
use Rattle.aes3_c.specs.Streaming.{IsTaking}
use Rattle.aes3_c.specs.declared.streaming.Aes3Recovery.{Aes3Recovery}

-- what a kept recovery wrote, of samples with these levels
pub recovered-of : (period : ℕ) (levels : List Level) (octets : List ℕ) (kept : Aes3Recovery) (now : Recovery)
    (k : IsTaking period levels octets kept) → now ≡ k.now
    → Recovered (Some (octets ++ owed_in kept.owed)) (packed_by period) levels [] now
recovered-of period levels octets kept now k same =
    subst (λ (n : Recovery). Recovered (Some (octets ++ owed_in kept.owed)) (packed_by period) levels [] n) (sym same)
    (k.took.recovered (packed_by period) [] (k.fresh.recovered (packed_by period) refl refl))

-- a mark of it, which stays one
pub mark-of : (period : ℕ) (levels more : List Level) (octets : List ℕ) (now : Recovery) (m : Mark)
    → Recovered (Some octets) (packed_by period) levels [] now → now.found ≡ true → 1 ≤ length levels
    → m.cells ≡ 8 * length octets + length (waiting now.line.queue)
    → m.samples + (samples_of (runs_waiting now) + now.line.edges.run) ≡ length levels
    → IsMark (period_of period) (levels ++ more) m
mark-of period levels more octets now m r found some cells_are samples_are =
    mark-stays (period_of period) levels more m
    (inr (mark-made (period_of period) levels octets now m.cells m.samples r found some cells_are samples_are))
