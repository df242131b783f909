-- What jobs write as packed cells is whole octets of them.
use Rattle.std.proofs.Common.{◌≡◌, ◌%◌, ℕ, Bool, true, false, List, length, IsTrue, arith, ap, sym, ◌∙◌}
use Rattle.aes3_level.specs.declared.level.Level.{Level}
use Rattle.aes3_level.specs.declared.level.Level.TheVariants.{Low}
use Rattle.aes3_level.proofs.WordCells.{word_len_64}
use Rattle.aes3_cell.specs.declared.form.Form.{Form}
use Rattle.aes3_cell.specs.declared.form.Form.TheVariants.{Text, Packed}
use Rattle.aes3_cell.specs.Written.{written}
use Rattle.aes3_cell.proofs.PackedCells.{packed_of-packs}
use Rattle.aes3_cell_octets.proofs.ReversedOctets.{whole-reversed}
use Rattle.aes3_forms_words.specs.declared.alsa_am824.Words.TheVariants.{Own, Alsa, Am824}
use Rattle.aes3_forms_words.specs.Lists.{own_of}
use Rattle.aes3_frame.specs.Blocks.{stream}
use Rattle.aes3_frame.specs.Files.{file_blocks}
use Rattle.aes3_frame.proofs.Streams.{EachBlock27, each27-whole}
use Rattle.aes3_lock.specs.Reports.{blocks, normal, reports}
use Rattle.aes3_input.specs.Inputs.{cells_of}
use Rattle.aes3_lock_runs.specs.BlockRuns.{cut_blocks, written_stream}
use Rattle.aes3_lock_runs.proofs.BlockRuns.{blocks27, cut-each, lines}
use Rattle.aes3_engine.specs.Filling.{placed}
use Rattle.aes3_engine.specs.Rewriting.{rewritten_blocks}
use Rattle.aes3_engine.specs.RewritingExactly.{taking}
use Rattle.aes3_engine.proofs.RewrittenBlocks.{each-blocks}
use Rattle.aes3_engine.proofs.RewritingExactly.{taken27}
use Rattle.aes3_cli_jobs.specs.Forms.{is_packed, writes_packed}
use Rattle.aes3_cli_jobs.specs.declared.job.Job.{Job}
use Rattle.aes3_cli_jobs.specs.declared.job.Job.TheVariants.{Encode, Stream, Read, FromPcm, FromWav}
use Rattle.aes3_cli_jobs.specs.declared.work.StreamWork.{StreamWork}
use Rattle.aes3_cli_jobs.specs.declared.work.StreamWork.TheVariants.{Normal, Cut, Rewrite}
use Rattle.aes3_program.specs.JobRuns.{stream_promise, written_whole}
use Rattle.aes3_program.specs.OctetRuns.{PackBoth}

-- blocks one behind the other are
of-blocks : (form : Form) (bs : List (List (List Bool))) → IsTrue (is_packed form) → EachBlock27 bs
    → PackBoth (written_stream form bs)
of-blocks Text bs h e = absurd cc
of-blocks Packed bs h e =
    let l : length (stream Low bs) % 64 ≡ 0 = ap (λ k. length (stream Low bs) % k) (sym word_len_64) ∙ lines bs e in
    record {
      cells = stream Low bs;
      packs = packed_of-packs (stream Low bs);
      reversed = whole-reversed (stream Low bs) (omega (arith, l));
    }

of-normal : (form : Form) (c : List Level) → IsTrue (is_packed form) → PackBoth (written form (normal c))
unfolding normal
of-normal form c h = of-blocks form (blocks c) h (blocks27 c)

of-stream : (i o : Form) (work : StreamWork) → IsTrue (is_packed o) → (bytes : List ℕ)
    → PackBoth ((stream_promise i o work).whole bytes)
of-stream i o Normal h b = of-normal o (cells_of i b) h
of-stream i o (Cut from count) h b =
    of-blocks o (cut_blocks from count (blocks (cells_of i b))) h
    (cut-each from count (blocks (cells_of i b)) (blocks27 (cells_of i b)))
of-stream i o (Rewrite change true) h b =
    of-blocks o (rewritten_blocks change (taking change (placed (reports (cells_of i b))))) h
    (taken27 change (cells_of i b))
of-stream i o (Rewrite change false) h b =
    of-blocks o (rewritten_blocks change (blocks (cells_of i b))) h
    (each-blocks change (blocks (cells_of i b)) (blocks27 (cells_of i b)))

pub can-be-reversed : (job : Job) → IsTrue (writes_packed job) → (bytes : List ℕ)
    → PackBoth (written_whole job bytes)
can-be-reversed (Encode o Own) h b = of-blocks o (file_blocks b) h (each27-whole b)
can-be-reversed (Encode o Alsa) h b = of-blocks o (file_blocks (own_of Alsa b)) h (each27-whole (own_of Alsa b))
can-be-reversed (Encode o Am824) h b = of-blocks o (file_blocks (own_of Am824 b)) h (each27-whole (own_of Am824 b))
can-be-reversed (Stream i o work) h b = of-stream i o work h b
can-be-reversed (Read i work) h b = absurd cc
can-be-reversed (FromPcm format exact change words) h b = absurd cc
can-be-reversed (FromWav channels mono exact professional change words) h b = absurd cc
