-- What a step tells of an instruction's effect, where the registers are a list and the program counter stands
-- beside it.
--     regs_at x pc                            these registers, with this program counter
--     effect_by_fields o f g w regs m         the effect of a word with opcode o, funct3 f and funct7 g
--     effect_by_key key w regs m              the same, where the key is bits 2 to 6 of the opcode and 32 times funct3
--     effect_of_row row rd i a b regs m       the effect of a row of the table, or that of a word which has none
--     effect_of_value value rd regs m         a value is written to the destination, where there is a row
--     effect_of_branch taken target regs m    a branch to the target, where there is a row
--     IsStep next effect old new m            the effect goes on at next with registers new and memory m, where there is one
--     IsStepOfFields, IsStepOfKey, IsStepOfWord    the same of the effect of a word, by its fields, by its key, or whole
--     IsZeroHeld x                            the place of x0 holds 0
use Rattle.std.specs.Prelude.{◌≡◌, ℕ, ◌+◌, ◌*◌, ◌/◌, ◌%◌, ◌^◌, List, Bool, Option, Some, None, slice_index}
use Rattle.std.specs.Option.{option_map}
use Rattle.plain_process.specs.declared.instruction.Op.{Op}
use Rattle.plain_process.specs.declared.regs.Regs.{Regs}
use Rattle.plain_process.specs.Memory.{Memory}
use Rattle.plain_process.specs.Instructions.{Effect, Next, Traps, ILLEGAL, decoded, effect_by, writes, branches}
use Rattle.plain_process.specs.Steps.{effect_of_insn}
use Rattle.rv_words.specs.Fields.{row_at, with_operands}

abbrev pub regs_at : List ℕ → ℕ → Regs
regs_at x pc = record { x = x; pc = pc }

abbrev pub effect_by_fields : ℕ → ℕ → ℕ → ℕ → Regs → Memory → Effect
effect_by_fields o f g w regs memory = effect_of_insn (option_map (with_operands w) (row_at o f g w)) regs memory

abbrev pub effect_by_key : ℕ → ℕ → Regs → Memory → Effect
effect_by_key key w regs memory = effect_by_fields (4 * (key % 32) + 3) (key / 32) (w / 2 ^ 25) w regs memory

abbrev pub effect_of_row : Option Op → ℕ → ℕ → ℕ → ℕ → Regs → Memory → Effect
effect_of_row None rd i a b regs memory = Traps ILLEGAL
effect_of_row (Some op) rd i a b regs memory = effect_by op rd i a b regs memory

abbrev pub effect_of_value : Option ℕ → ℕ → Regs → Memory → Effect
effect_of_value None rd regs memory = Traps ILLEGAL
effect_of_value (Some value) rd regs memory = writes regs memory rd value

abbrev pub effect_of_branch : Option Bool → ℕ → Regs → Memory → Effect
effect_of_branch None target regs memory = Traps ILLEGAL
effect_of_branch (Some taken) target regs memory = branches regs memory taken target

abbrev pub IsStep : Option ℕ → Effect → List ℕ → List ℕ → Memory → Type 0
IsStep (Some next) effect old new memory = effect ≡ Next (regs_at new next) memory
IsStep None effect old new memory = new ≡ old

abbrev pub IsStepOfFields : Option ℕ → ℕ → ℕ → ℕ → ℕ → List ℕ → ℕ → Memory → List ℕ → Memory → Type 0
IsStepOfFields next o f g w old pc memory new after =
    IsStep next (effect_by_fields o f g w (regs_at old pc) memory) old new after

abbrev pub IsStepOfKey : Option ℕ → ℕ → ℕ → List ℕ → ℕ → Memory → List ℕ → Memory → Type 0
IsStepOfKey next key w old pc memory new after = IsStep next (effect_by_key key w (regs_at old pc) memory) old new after

abbrev pub IsStepOfWord : Option ℕ → ℕ → List ℕ → ℕ → Memory → List ℕ → Memory → Type 0
IsStepOfWord next w old pc memory new after =
    IsStep next (effect_of_insn (decoded w) (regs_at old pc) memory) old new after

abbrev pub IsZeroHeld : List ℕ → Type 0
IsZeroHeld x = slice_index x 0 ≡ 0
