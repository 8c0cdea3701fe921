-- The worked examples, by computation.
use Rattle.std.proofs.Common.{refl}
use Rattle.plain_process.specs.Instructions.{decoded, insn_of, row_of, mask_of, match_of, encoding, immediate, effect_by}
use Rattle.plain_process.specs.Start.{start_sp, string_places}
use Rattle.plain_process.specs.Examples.{AreDecoded, AreQuotients, AreProducts, IsStarted, AreAnswers}

pub are_decoded : AreDecoded
unfolding decoded insn_of row_of mask_of match_of encoding immediate
are_decoded = record {
  li_a0_1 = refl;
  auipc_a1_0 = refl;
  addi_a1_a1_32 = refl;
  li_a2_6 = refl;
  li_a7_64 = refl;
  ecall = refl;
  div_a0_a1_a2 = refl;
  rem_a0_a1_a2 = refl;
  addi_sp_sp_minus_16 = refl;
  lw_a0_8_sp = refl;
  sw_a0_8_sp = refl;
  beq_a0_a1_minus_4 = refl;
  jal_ra_2048 = refl;
  zeros = refl;
}

pub are_quotients : AreQuotients
unfolding effect_by
are_quotients = record {
  quotient = λ regs memory. refl;
  remainder = λ regs memory. refl;
  by_zero = λ regs memory. refl;
  rest_by_zero = λ regs memory. refl;
  overflow = λ regs memory. refl;
  rest_of_overflow = λ regs memory. refl;
}

pub are_products : AreProducts
unfolding effect_by
are_products = record {
  low = λ regs memory. refl;
  signed = λ regs memory. refl;
  mixed = λ regs memory. refl;
  unsigned = λ regs memory. refl;
  shift = λ regs memory. refl;
  less = λ regs memory. refl;
}

pub is_started : IsStarted
unfolding start_sp string_places
is_started = record { stack = refl; argument = refl }

pub are_answers : AreAnswers
are_answers = record { value = refl; bad_descriptor = refl; no_such_call = refl }
