-- `siv_parts::counter::mask` meets its contract: after k blocks the text is masked with as many of key stream. Assumes nothing.
use Rattle.std.proofs.Common.{◌≡◌, ◌+◌, ◌-◌, ◌*◌, ◌/◌, length, take, drop, ap, ◌∙◌, arith}
use Rattle.octets.specs.Strings.{xor_bytes}
use Rattle.modes.specs.Stream.{stream}
use Rattle.aead.specs.Cipher.{encrypted}
use Rattle.aead.proofs.Ciphers.{encrypted_length}
use Rattle.modes.proofs.Stream.{after, mask_start, count_start, mask_turn, count_turn, mask_done}
use Rattle.rfc8452.specs.Counter.{next_counter}
use Rattle.siv_parts.proofs.counter.mask.Goals as goal

pub loop-k-init : goal.loop-k-init
loop-k-init c =
    let a = c.args in
    (count_start next_counter (encrypted a.cipher.now) a.start, mask_start next_counter (encrypted a.cipher.now) a.start a.text.now)

pub loop-k-preserved : goal.loop-k-preserved
loop-k-preserved c =
    let l = c.loop-k in
    let a = c.args in
    let f = encrypted a.cipher.now in
    let at = l.k * 16 in
    let here : l.k ≡ at / 16 = omega arith in
    let next : (at + 16) / 16 ≡ l.k + 1 = omega arith in
    let counter = l.invariant.0 ∙ ap (λ n. after next_counter n a.start) here in
    let masked = l.invariant.1 ∙ ap (λ n. xor_bytes a.text.now (stream next_counter f n a.start)) here in (
      count_turn next_counter f a.start l.counter c.next_counter-next.result at counter c.next_counter-next.ensures ∙ ap (λ n. after next_counter n a.start) next,
      mask_turn next_counter f (encrypted_length a.cipher.now) a.start l.counter a.text.now l.text c.xor_into.new.text at (omega arith) counter masked
          (c.xor_into.ensures ∙ ap (xor_bytes (take (length l.text - at) (drop at l.text))) c.encrypt.ensures)
          ∙ ap (λ n. xor_bytes a.text.now (stream next_counter f n a.start)) next,
    )

pub returns : goal.returns
returns c =
    let l = c.loop-k in
    let a = c.args in
    let f = encrypted a.cipher.now in
    let at = l.k * 16 in
    let here : l.k ≡ at / 16 = omega arith in
    mask_done next_counter f a.start a.text.now l.text at (omega arith) (omega arith) (omega arith)
    (l.invariant.1 ∙ ap (λ n. xor_bytes a.text.now (stream next_counter f n a.start)) here)
