use Rattle.std.proofs.Common.{◌≡◌, ◌+◌, ◌*◌, ◌%◌, ◌<◌, ◌^◌, get_or, slice_set, refl, ap, ◌∙◌, arith}
use Rattle.aes3_frame.proofs.Files.{le_bytes-is}
use Rattle.aes3_c.specs.Professional.{professional_fields}
use Rattle.aes3_c.proofs.Professionals.{AreBytes, fields-back}
use Rattle.aes3_c.proofs.StatusBytes.{cons}
use Rattle.aes3_c.proofs.professional_calls.bytes_of.Goals as goal

pub returns-clause-bytes : goal.returns-clause-bytes
returns-clause-bytes c =
    let f = c.args.fields.now in
    let payload : f.payload < 2 = c.requires.payload in
    let emphasis : f.emphasis < 8 = c.requires.emphasis in
    let unlocked : f.unlocked < 2 = c.requires.unlocked in
    let rate : f.rate < 4 = c.requires.rate in
    let mode : f.mode < 16 = c.requires.mode in
    let user : f.user < 16 = c.requires.user in
    let aux : f.aux < 8 = c.requires.aux in
    let word : f.word < 8 = c.requires.word in
    let b2high : f.b2high < 4 = c.requires.b2high in
    let unreliable : f.unreliable < 16 = c.requires.unreliable in
    let b22low : f.b22low < 16 = c.requires.b22low in
    let local-fits : f.local < 2 ^ 32 = omega arith in
    let time-fits : f.time < 2 ^ 32 = omega arith in
    let local = c.to_le_bytes-local.ensures ∙ le_bytes-is f.local local-fits in
    let time = c.to_le_bytes-time.ensures ∙ le_bytes-is f.time time-fits in
    let byte0 : 1 + f.payload * 2 % 256 + f.emphasis * 4 % 256 + f.unlocked * 32 % 256 + f.rate * 64 % 256
    ≡ 1 + 2 * f.payload + 4 * f.emphasis + 32 * f.unlocked + 64 * f.rate
    = omega (arith, payload, emphasis, unlocked, rate) in
    let byte1 : f.mode + f.user * 16 % 256 ≡ 1 * f.mode + 16 * f.user = omega (arith, mode, user) in
    let byte2 : f.aux + f.word * 8 % 256 + f.b2high * 64 % 256 ≡ 1 * f.aux + 8 * f.word + 64 * f.b2high
    = omega (arith, aux, word, b2high) in
    let byte22 : f.b22low + f.unreliable * 16 % 256 ≡ 1 * f.b22low + 16 * f.unreliable
    = omega (arith, b22low, unreliable) in
    cons byte0 (cons byte1 (cons byte2 (cons refl (cons refl (cons refl (cons refl (cons refl (cons refl (cons refl
    (cons refl (cons refl (cons refl (cons refl (cons (ap (λ four. get_or four 0 0) local)
    (cons (ap (λ four. get_or four 1 0) local) (cons (ap (λ four. get_or four 2 0) local)
    (cons (ap (λ four. get_or four 3 0) local) (cons (ap (λ four. get_or four 0 0) time)
    (cons (ap (λ four. get_or four 1 0) time) (cons (ap (λ four. get_or four 2 0) time)
    (cons (ap (λ four. get_or four 3 0) time) (cons byte22 refl))))))))))))))))))))))

pub returns-clause-fields : goal.returns-clause-fields
returns-clause-fields c = λ check small.
    let f = c.args.fields.now in
    let are : AreBytes f = record {
      b3 = omega arith;
      b4 = omega arith;
      b5 = omega arith;
      origin = omega arith;
      destination = omega arith;
      local = omega arith;
      time = omega arith;
    } in
    ap (λ b. professional_fields (slice_set b 23 check)) (returns-clause-bytes c)
    ∙ fields-back f check c.requires are small
