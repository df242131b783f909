-- Blocks with other channel status, V and U bits.
use Rattle.std.proofs.Common.{◌≡◌, ℕ, suc, List, [], ◌∷◌, ◌++◌, Bool, true, false, cond, Option, Some, None, refl, ap}
use Rattle.std.proofs.Common.{◌∙◌, ◌≤◌, arith}
use Rattle.aes3_level.specs.declared.level.Level.{Level}
use Rattle.aes3_cell.specs.declared.form.Form.{Form}
use Rattle.aes3_cell.specs.Written.{ending}
use Rattle.aes3_frame.specs.declared.block.Channel.{Channel}
use Rattle.aes3_frame.specs.declared.block.Channel.TheVariants.{First, Second}
use Rattle.aes3_frame.specs.Subframes.{audio_len}
use Rattle.aes3_frame.specs.Statuses.{status_of, bits_of_bytes, with_bits_at, with_status, with_user, with_validity}
use Rattle.aes3_frame.specs.Statuses.{status_place, user_place, validity_place}
use Rattle.aes3_frame.proofs.Runs.{Each27}
use Rattle.aes3_frame.proofs.Streams.{EachBlock27}
use Rattle.aes3_lock.specs.Reports.{reports, decided, blocks}
use Rattle.aes3_status.specs.Statuses.{is_professional}
use Rattle.aes3_status.specs.declared.change.Change.{Change}
use Rattle.aes3_lock_runs.specs.ReportRuns.{output}
use Rattle.aes3_lock_runs.specs.BlockRuns.{decided_blocks, report_bytes, numbered, normal_block, begun_stream}
use Rattle.aes3_lock_runs.specs.BlockRuns.{written_stream}
use Rattle.aes3_status.specs.declared.setting.Settings.{Settings}
use Rattle.aes3_status.specs.Settings.{set_all}
use Rattle.aes3_engine.specs.Rewriting.{all_bits, cleared, set_validity, set_user, with_bits_given, set_status}
use Rattle.aes3_engine.specs.Rewriting.{set_settings, checked, mended, changed, rewritten, rewritten_block}
use Rattle.aes3_engine.specs.Rewriting.{rewritten_blocks}
use Rattle.aes3_lock_runs.proofs.BlockRuns.{whole-stream, begun-stream, normal-numbered}
use Rattle.aes3_engine.proofs.BitsAt.{each-at}

-- what each new status keeps of a block, a change keeps
module _ (P : List (List Bool) → Type 0) (keeps : (channel : Channel) (b : List (List Bool)) (status : List ℕ) → P b
    → P (with_status b channel status)) where
  set-keeps : (channel : Channel) (status : Option (List ℕ)) (b : List (List Bool)) → P b
      → P (set_status channel status b)
  set-keeps channel None b h = h
  set-keeps channel (Some status) b h = keeps channel b status h

  settings-keep : (channel : Channel) (settings : Option Settings) (b : List (List Bool)) → P b
      → P (set_settings channel settings b)
  settings-keep channel None b h = h
  settings-keep channel (Some settings) b h = keeps channel b (set_all settings (status_of b channel)) h

  changed-keeps : (change : Change) (b : List (List Bool)) → P (with_bits_given change b) → P (changed change b)
  changed-keeps change b h =
      let d = with_bits_given change b in
      let s = set_status Second change.status2 (set_status First change.status1 d) in
      let k = set-keeps Second change.status2 (set_status First change.status1 d)
      (set-keeps First change.status1 d h) in
      settings-keep Second change.settings2 (set_settings First change.settings1 s)
      (settings-keep First change.settings1 s k)

  if-keeps : (t : Bool) (a b : List (List Bool)) → P a → P b → P (cond t a b)
  if-keeps true a b h k = h
  if-keeps false a b h k = k

  mended-keeps : (channel : Channel) (b : List (List Bool)) → P b → P (mended channel b)
  mended-keeps channel b h =
      if-keeps (is_professional (status_of b channel)) (with_status b channel (checked (status_of b channel))) b
      (keeps channel b (checked (status_of b channel)) h) h

  pub statuses-keep : (change : Change) (b : List (List Bool)) → P (with_bits_given change b) → P (rewritten change b)
  statuses-keep change b h =
      let s = changed change b in
      let k = changed-keeps change b h in
      if-keeps change.mend (mended Second (mended First s)) s
      (mended-keeps Second (mended First s) (mended-keeps First s k)) k

-- what bits behind the audio keep of a block, a change keeps
module _ (P : List (List Bool) → Type 0) (keeps : (place : ℕ) (channel : Channel) (b : List (List Bool))
    (bits : List Bool) → audio_len ≤ place → P b → P (with_bits_at place channel b bits)) where
  status-keeps : (channel : Channel) (b : List (List Bool)) (status : List ℕ) → P b → P (with_status b channel status)
  unfolding with_status status_place
  status-keeps channel b status h = keeps status_place channel b (bits_of_bytes status) (omega arith) h

  validity-keeps : (channel : Channel) (bit : Option Bool) (b : List (List Bool)) → P b → P (set_validity channel bit b)
  unfolding with_validity validity_place
  validity-keeps channel None b h = h
  validity-keeps channel (Some bit) b h =
      keeps validity_place channel b (bits_of_bytes (all_bits bit)) (omega arith) h

  user-keeps : (channel : Channel) (bit : Option Bool) (b : List (List Bool)) → P b → P (set_user channel bit b)
  unfolding with_user user_place
  user-keeps channel None b h = h
  user-keeps channel (Some bit) b h = keeps user_place channel b (bits_of_bytes (all_bits bit)) (omega arith) h

  given-keeps : (change : Change) (b : List (List Bool)) → P b → P (with_bits_given change b)
  given-keeps change b h =
      let v = set_validity First change.validity1 b in
      let w = set_validity Second change.validity2 v in
      let u = set_user First (cleared change.clear_user1) w in
      user-keeps Second (cleared change.clear_user2) u (user-keeps First (cleared change.clear_user1) w
      (validity-keeps Second change.validity2 v (validity-keeps First change.validity1 b h)))

  pub rewritten-keeps : (change : Change) (b : List (List Bool)) → P b → P (rewritten change b)
  rewritten-keeps change b h = statuses-keep P status-keeps change b (given-keeps change b h)

pub each-blocks : (change : Change) (bs : List (List (List Bool))) → EachBlock27 bs
    → EachBlock27 (rewritten_blocks change bs)
each-blocks change [] h = tt
each-blocks change (b ∷ bs) h = (
  rewritten-keeps Each27 (λ place channel d bits l. each-at place channel d bits) change b h.0,
  each-blocks change bs h.1,
)

-- what the changed blocks write
changed-numbered : (form : Form) (change : Change) (n : ℕ) (bs : List (List (List Bool)))
    → numbered (rewritten_block form change) n bs ≡ numbered (normal_block form) n (rewritten_blocks change bs)
changed-numbered form change n [] = refl
changed-numbered form change n (b ∷ bs) = ap (λ z. normal_block form n (rewritten change b) ++ z)
    (changed-numbered form change (suc n) bs)

changed-bytes : (form : Form) (change : Change) (bs : List (List (List Bool))) → EachBlock27 bs
    → numbered (rewritten_block form change) 0 bs ≡ begun_stream form (rewritten_blocks change bs)
changed-bytes form change bs h = changed-numbered form change 0 bs
    ∙ normal-numbered form 0 (rewritten_blocks change bs) (each-blocks change bs h)

pub rewritten-whole : (form : Form) (change : Change) (c : List Level)
    → output (report_bytes (rewritten_block form change)) (reports c) ++ ending form ≡ written_stream form
    (rewritten_blocks change (blocks c))
rewritten-whole form change c = whole-stream form (rewritten_block form change) (rewritten_blocks change)
    (changed-bytes form change) (each-blocks change) c

pub rewritten-begun : (form : Form) (change : Change) (c : List Level)
    → output (report_bytes (rewritten_block form change)) (decided c) ≡ begun_stream form
    (rewritten_blocks change (decided_blocks c))
rewritten-begun form change c = begun-stream form (rewritten_block form change) (rewritten_blocks change)
    (changed-bytes form change) c
