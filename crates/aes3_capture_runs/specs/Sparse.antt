-- Samples in which a line has too few edges for an AES3 line.
use Rattle.std.specs.Prelude.{Bool, Option, Some, None, ◌-◌, ◌==◌, ◌&&◌, nat_le, nat_lt, if◌then◌else◌}
use Rattle.aes3_capture_recovery.specs.declared.figures.Figures.{Figures}
use Rattle.aes3_capture_runs.specs.Lines.{product}
use Rattle.aes3_capture_runs.specs.declared.edge_watch.SparseSamples.{SparseSamples}

-- so many cells came from one time to another that their edges are counted
abbrev pub is_due : Figures → Figures → Bool
is_due before now = nat_le 2048 (now.cells - before.cells)

-- a line was followed from one time to another, and not measured
abbrev pub was_followed : Figures → Figures → Bool
was_followed before now =
    nat_lt 0 now.measured && (now.measured == before.measured) && (now.misses == before.misses)
    && (now.dead == before.dead) && nat_lt 0 (now.edges - before.edges)

-- It had more than 33 cells for each 16 edges. An AES3 line has at most two cells for each edge, but for those at the two
-- ends: each time slot of two cells begins with an edge, and a preamble of eight has four.
abbrev pub has_few_edges : Figures → Figures → Bool
has_few_edges before now =
    was_followed before now && is_due before now
    && nat_lt (product (now.edges - before.edges) 33) (product (now.cells - before.cells) 16)

abbrev pub sparse_samples : Figures → Figures → Option SparseSamples
sparse_samples before now =
    if has_few_edges before now then Some (record { from = before.samples; to = now.samples }) else None
