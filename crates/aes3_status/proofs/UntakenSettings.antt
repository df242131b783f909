-- Settings that a status does not take.
use Rattle.std.proofs.Common.{◌≡◌, ℕ, zero, suc, ◌∷◌, [], false, List, Option, Some, None, refl}
use Rattle.std.proofs.Common.{ap, sym}
use Rattle.std.specs.Prelude.{fold}
use Rattle.std.specs.Option.{is_some}
use Rattle.aes3_status.specs.declared.setting.Setting.{Setting}
use Rattle.aes3_status.specs.Settings.{code_for, place_of, set_by, set_in_turn, with_code}
use Rattle.aes3_status.specs.Taken.{UntakenCanGo}

stays : (setting : Setting) (bytes : List ℕ) (o : Option ℕ) → is_some o ≡ false
    → with_code (place_of setting.field) o bytes ≡ bytes
stays setting bytes None h = refl
stays setting bytes (Some code) h = cc

pub untaken-go : UntakenCanGo
unfolding set_in_turn
untaken-go [] zero bytes h = refl
untaken-go [] (suc i) bytes h = refl
untaken-go (setting ∷ settings) zero bytes h =
    ap (λ left. fold (λ status each. set_by each status) left settings)
    (sym (stays setting bytes (code_for setting bytes) h))
untaken-go (setting ∷ settings) (suc i) bytes h = untaken-go settings i (set_by setting bytes) h
