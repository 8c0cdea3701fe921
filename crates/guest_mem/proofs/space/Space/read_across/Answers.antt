use Rattle.std.proofs.Common.{◌^◌, ◌≡◌, ◌<◌, sym, ap, subst, arith, add-zero}
use Rattle.std.specs.Prelude.{IsSome, option_map}
use Rattle.std.proofs.lemmas.Result.{err_from_is_err_and}
use Rattle.plain_process.specs.Memory.{byte_at, little_endian}
use Rattle.guest_pages.proofs.Checks.{refusal-none, refusal-some, readable-byte}
use Rattle.guest_mem.proofs.Copies.{spelt-2, spelt-4}
use Rattle.guest_mem.proofs.space.Space.read_across.Goals as goal

pub returns-in_err-check-clause-value : goal.returns-in_err-check-clause-value
returns-in_err-check-clause-value c =
    let p = err_from_is_err_and c.from_residual.result c.from_residual.ensures.1 in
    rw p.1 (sym (ap (option_map little_endian) (refusal-some c.args.self.now c.args.right c.args.address c.args.size _ c.in_err-check.ensures.refused)))

pub byte-requires : goal.byte-requires
byte-requires c = subst (λ a. IsSome (byte_at c.args.self.now c.args.right a)) (add-zero c.args.address) (readable-byte c.args.self.now c.args.right c.args.address c.args.size 0 (omega arith) (refusal-none c.args.self.now c.args.right c.args.address c.args.size c.in_ok-check.ensures.refused))

pub byte-requires-in-2 : goal.byte-requires-in-2
byte-requires-in-2 c = readable-byte c.args.self.now c.args.right c.args.address c.args.size 1 (omega arith) (refusal-none c.args.self.now c.args.right c.args.address c.args.size c.in_ok-check.ensures.refused)

pub byte-requires-in_default : goal.byte-requires-in_default
byte-requires-in_default c = subst (λ a. IsSome (byte_at c.args.self.now c.args.right a)) (add-zero c.args.address) (readable-byte c.args.self.now c.args.right c.args.address c.args.size 0 (omega arith) (refusal-none c.args.self.now c.args.right c.args.address c.args.size c.in_ok-check.ensures.refused))

pub byte-requires-in_default-2 : goal.byte-requires-in_default-2
byte-requires-in_default-2 c = readable-byte c.args.self.now c.args.right c.args.address c.args.size 1 (omega arith) (refusal-none c.args.self.now c.args.right c.args.address c.args.size c.in_ok-check.ensures.refused)

pub byte-requires-in_default-3 : goal.byte-requires-in_default-3
byte-requires-in_default-3 c = readable-byte c.args.self.now c.args.right c.args.address c.args.size 2 (omega arith) (refusal-none c.args.self.now c.args.right c.args.address c.args.size c.in_ok-check.ensures.refused)

pub byte-requires-in_default-4 : goal.byte-requires-in_default-4
byte-requires-in_default-4 c = readable-byte c.args.self.now c.args.right c.args.address c.args.size 3 (omega arith) (refusal-none c.args.self.now c.args.right c.args.address c.args.size c.in_ok-check.ensures.refused)

pub returns-in-2-clause-value : goal.returns-in-2-clause-value
returns-in-2-clause-value c =
    spelt-2 c.args.self.now c.args.right c.args.address c.args.size c.byte.result c.byte-in-2.result c.from_le_bytes.result c.byte.ensures c.byte-in-2.ensures c.from_le_bytes.ensures c.in-2.is

pub returns-in_default-clause-value : goal.returns-in_default-clause-value
returns-in_default-clause-value c =
    let four : c.args.size ≡ 4 = omega arith in
    spelt-4 c.args.self.now c.args.right c.args.address c.args.size c.byte-in_default.result c.byte-in_default-2.result c.byte-in_default-3.result c.byte-in_default-4.result c.from_le_bytes-in_default.result
    c.byte-in_default.ensures c.byte-in_default-2.ensures c.byte-in_default-3.ensures c.byte-in_default-4.ensures c.from_le_bytes-in_default.ensures four

pub returns-in-2-clause-fits : goal.returns-in-2-clause-fits
returns-in-2-clause-fits c = subst (λ size. c.from_le_bytes.result < 256 ^ size) (sym c.in-2.is) c.from_le_bytes.type_inv

pub returns-in_default-clause-fits : goal.returns-in_default-clause-fits
returns-in_default-clause-fits c =
    let four : c.args.size ≡ 4 = omega arith in
    subst (λ size. c.from_le_bytes-in_default.result < 256 ^ size) (sym four) c.from_le_bytes-in_default.type_inv
