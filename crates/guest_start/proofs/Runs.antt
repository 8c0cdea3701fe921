-- Instructions in a row, one after another.
use Rattle.std.proofs.Common.{◌≡◌, ℕ, zero, suc, ◌+◌, refl, sym, ap, subst, ◌∙◌, arith}
use Rattle.std.specs.Prelude.{Option, Some, option_and_then}
use Rattle.plain_process.specs.declared.regs.Regs.{Regs}
use Rattle.plain_process.specs.Memory.{Memory, fetch}
use Rattle.plain_process.specs.Instructions.{Effect, Next, decoded}
use Rattle.plain_process.specs.Steps.{running_after, effect_of_insn, effect_of_word, effect_at, instructions}
use Rattle.guest_start.specs.Running.{HasRun}

pub none_yet : (regs : Regs) (memory : Memory) → HasRun 0 regs memory regs memory
unfolding instructions
none_yet regs memory = refl

pub one_more : (n : ℕ) (regs : Regs) (memory : Memory) (regs' : Regs) (memory' : Memory) (regs'' : Regs) (memory'' : Memory)
    → HasRun n regs memory regs' memory' → effect_at regs' memory' ≡ Next regs'' memory'' → HasRun (n + 1) regs memory regs'' memory''
unfolding instructions
one_more n regs memory regs' memory' regs'' memory'' before is =
    let more : n + 1 ≡ suc n = omega arith in
    ap (λ k. instructions k regs memory) more ∙ ap (option_and_then (λ b. running_after (effect_at b.regs b.memory))) before ∙ ap running_after is

goes_on : (m n : ℕ) (regs : Regs) (memory : Memory) (regs' : Regs) (memory' : Memory) → HasRun m regs memory regs' memory'
    → instructions (m + n) regs memory ≡ instructions n regs' memory'
unfolding instructions
goes_on m zero regs memory regs' memory' before =
    let none : m + 0 ≡ m = omega arith in
    ap (λ k. instructions k regs memory) none ∙ before
goes_on m (suc n) regs memory regs' memory' before =
    let more : m + suc n ≡ suc (m + n) = omega arith in
    ap (λ k. instructions k regs memory) more
    ∙ ap (option_and_then (λ b. running_after (effect_at b.regs b.memory))) (goes_on m n regs memory regs' memory' before)

-- some instructions, and then further ones
pub run_on : (m n : ℕ) (regs : Regs) (memory : Memory) (regs' : Regs) (memory' : Memory) (regs'' : Regs) (memory'' : Memory)
    → HasRun m regs memory regs' memory' → HasRun n regs' memory' regs'' memory'' → HasRun (m + n) regs memory regs'' memory''
run_on m n regs memory regs' memory' regs'' memory'' before after = goes_on m n regs memory regs' memory' before ∙ after

-- what stopped has changed nothing
pub stays : (n : ℕ) (regs : Regs) (memory : Memory) (regs' : Regs) (memory' : Memory) (regs'' : Regs) (memory'' : Memory)
    → HasRun n regs memory regs' memory' → regs'' ≡ regs' → memory'' ≡ memory' → HasRun n regs memory regs'' memory''
stays n regs memory regs' memory' regs'' memory'' run r m =
    subst (λ (q : Regs). HasRun n regs memory q memory'') (sym r) (subst (λ (q : Memory). HasRun n regs memory regs' q) (sym m) run)

-- the effect at a word that was fetched from the same memory
pub at_word : (regs : Regs) (memory code : Memory) (word : ℕ) (effect : Effect) → code ≡ memory → fetch code regs.pc ≡ Some word
    → effect_of_insn (decoded word) regs memory ≡ effect → effect_at regs memory ≡ effect
unfolding effect_at
at_word regs memory code word effect same there is =
    ap (λ (found : Option ℕ). effect_of_word found regs memory) (ap (λ (m : Memory). fetch m regs.pc) (sym same) ∙ there) ∙ is
