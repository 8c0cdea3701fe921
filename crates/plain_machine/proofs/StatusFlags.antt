-- Status flags that openat and fcntl make: an access mode, O_APPEND and O_NONBLOCK.
--     opened_flags      of a new description      set_are, set_mode      with others set      flags_small      they are a word
use Rattle.std.proofs.Common.{◌≡◌, ℕ, ◌+◌, ◌*◌, ◌/◌, ◌%◌, ◌<◌, false, sym, ap, subst, ◌∙◌, arith}
use Rattle.std.specs.Prelude.{◌==◌, bit_and, bit_or}
use Rattle.std.proofs.lemmas.Bool.Decides.{nat_tests}
use Rattle.std.proofs.lemmas.Nat.{and_le_r, and_mask, and_mod, and_block, and_assoc, or_comm, or_shifted}
use Rattle.plain_tables.specs.OfPlainProcess.Valid.{IsWord}
use Rattle.plain_tables.specs.Valid.Descriptions.{AreFlags}
use Rattle.plain_machine.specs.Rows.Descriptors.{set_flags}
use Rattle.plain_machine.specs.Rows.Files.{status_flags}

pub flags_small : (flags : ℕ) → AreFlags flags → IsWord flags
flags_small flags are = let least = and_le_r flags 0xC03 in let same = are.known in omega arith

mode_of : (flags : ℕ) → bit_and flags 0xC03 % 4 ≡ flags % 4
mode_of flags = and_mod flags 0xC03 2 ∙ and_mask (flags % 4) 2 ∙ twice
  where
    twice : flags % 4 % 4 ≡ flags % 4
    twice = omega arith

pub opened_flags : (flags : ℕ) → (flags % 4 == 3) ≡ false → AreFlags (status_flags flags)
opened_flags flags mode = record {
  known = and_assoc 0xC03 flags 0xC03;
  mode = λ three. let same = mode_of flags in let both : flags % 4 ≡ 3 = sym same ∙ three in grind (arith, nat_tests, mode, both);
}

module _ (flags argument : ℕ) (are : AreFlags flags) where
  rest_is : bit_and flags 0xFFFFF3FF ≡ flags % 4
  rest_is = ap (λ n. bit_and n 0xFFFFF3FF) (sym are.known) ∙ and_assoc 0xFFFFF3FF flags 0xC03 ∙ and_mask flags 2

  chosen_is : bit_and argument 0xC00 ≡ argument / 1024 % 4 * 1024
  chosen_is =
      let parts : argument ≡ argument / 1024 * 1024 + argument % 1024 = omega arith in
      let low : bit_and (argument % 1024) 0 ≡ 0 = let none = and_le_r (argument % 1024) 0 in omega arith in
      let high : bit_and (argument / 1024) 3 ≡ argument / 1024 % 4 = and_mask (argument / 1024) 2 in
      let block = and_block 10 (argument / 1024) 3 (argument % 1024) 0 (omega arith) (omega arith) in
      ap (λ n. bit_and n 0xC00) parts ∙ block ∙ ap (λ n. n * 1024 + bit_and (argument % 1024) 0) high ∙ ap (λ n. argument / 1024 % 4 * 1024 + n) low ∙ sum
    where
      sum : argument / 1024 % 4 * 1024 + 0 ≡ argument / 1024 % 4 * 1024
      sum = omega arith

  set_is : set_flags flags argument ≡ argument / 1024 % 4 * 1024 + flags % 4
  set_is = ap (λ n. bit_or n (bit_and argument 0xC00)) rest_is ∙ ap (λ n. bit_or (flags % 4) n) chosen_is ∙ or_comm (flags % 4) (argument / 1024 % 4 * 1024)
      ∙ or_shifted (argument / 1024 % 4) 10 (flags % 4) (omega arith)

  pub set_mode : set_flags flags argument % 4 ≡ flags % 4
  set_mode = let is = set_is in omega arith

  sum_known : (high low : ℕ) → high < 4 → low < 4 → bit_and (high * 1024 + low) 0xC03 ≡ high * 1024 + low
  sum_known high low few less =
      let block = and_block 10 high 3 low 3 (omega arith) (omega arith) in
      let upper : bit_and high 3 ≡ high % 4 = and_mask high 2 in
      let lower : bit_and low 3 ≡ low % 4 = and_mask low 2 in
      block ∙ ap (λ n. n * 1024 + bit_and low 3) upper ∙ ap (λ n. high % 4 * 1024 + n) lower ∙ same
    where
      same : high % 4 * 1024 + low % 4 ≡ high * 1024 + low
      same = omega arith

  pub set_are : AreFlags (set_flags flags argument)
  set_are = record {
    known = subst (λ n. bit_and n 0xC03 ≡ n) (sym set_is) (sum_known (argument / 1024 % 4) (flags % 4) (omega arith) (omega arith));
    mode = λ three. are.mode (sym set_mode ∙ three);
  }
