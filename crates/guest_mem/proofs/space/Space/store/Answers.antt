use Rattle.std.proofs.Common.{◌≡◌, ◌+◌, ◌%◌, ◌≤◌, ◌<◌, ℕ, take, ◌-◌, sym, ap, ◌∙◌, arith}
use Rattle.std.specs.Prelude.{OnOk, Result, Ok, Err}
use Rattle.std.specs.Result.{result_err}
use Rattle.std.proofs.lemmas.Result.{err_from_is_err_and}
use Rattle.plain_process.specs.declared.memory.Right.TheVariants.{Write}
use Rattle.plain_process.specs.Memory.{Memory, with_bytes, store_bytes, low_bytes}
use Rattle.guest_pages.specs.declared.mem_fault.MemFault.{MemFault}
use Rattle.guest_pages.specs.Refusals.{refusal, stored}
use Rattle.guest_pages.proofs.InPage.{refusal-in_page, length-low_bytes}
use Rattle.guest_pages.proofs.Checks.{store_told}
use Rattle.guest_mem.proofs.Copies.{low_bytes-word}
use Rattle.guest_mem.proofs.space.Space.store.Goals as goal

pub returns-then-offset-size-gt-PAGE_SIZE-clause-told : goal.returns-then-offset-size-gt-PAGE_SIZE-clause-told
returns-then-offset-size-gt-PAGE_SIZE-clause-told c =
    let piece = low_bytes-word c.args.value c.args.size c.to_le_bytes.result c.to_le_bytes.ensures c.requires in
    ap (store_bytes c.args.self.now c.args.address) (sym piece)
    ∙ store_told c.copy_in.result c.args.self.now c.copy_in.new.self c.args.address (take (c.args.size - 0) c.to_le_bytes.result) c.copy_in.ensures.ok c.copy_in.ensures.refused

-- a store into one page, by what the page's look-up says
told : (r : Result (Unit {0}) MemFault) (m after : Memory) (a size value : ℕ) → OnOk r (after ≡ with_bytes m a (low_bytes size value)) → result_err r ≡ refusal m Write a size
    → store_bytes m a (low_bytes size value) ≡ stored r after
told r m after a size value made is = store_told r m after a (low_bytes size value) made (is ∙ ap (refusal m Write a) (sym (length-low_bytes size value)))

pub returns-in_err-frame-clause-refused : goal.returns-in_err-frame-clause-refused
returns-in_err-frame-clause-refused c =
    let p = err_from_is_err_and c.from_residual.result c.from_residual.ensures.1 in
    let some : 0 < c.args.size = omega arith in
    let inside : c.args.address % 4096 + c.args.size ≤ 4096 = omega arith in
    rw (p.1, p.2) (ap result_err c.in_err-frame.ensures ∙ sym (refusal-in_page c.args.self.now Write c.args.address c.args.size some inside))

pub returns-in_err-frame-clause-told : goal.returns-in_err-frame-clause-told
returns-in_err-frame-clause-told c =
    let p = err_from_is_err_and c.from_residual.result c.from_residual.ensures.1 in
    let some : 0 < c.args.size = omega arith in
    let inside : c.args.address % 4096 + c.args.size ≤ 4096 = omega arith in
    let refused = ap result_err c.in_err-frame.ensures ∙ sym (refusal-in_page c.args.self.now Write c.args.address c.args.size some inside) in
    rw p.1 (told (Err c.in_err-frame.field-0.0) c.args.self.now c.args.self.now c.args.address c.args.size c.args.value tt refused)

pub returns-clause-refused : goal.returns-clause-refused
returns-clause-refused c =
    let some : 0 < c.args.size = omega arith in
    let inside : c.args.address % 4096 + c.args.size ≤ 4096 = omega arith in
    ap result_err c.in_ok-frame.ensures ∙ sym (refusal-in_page c.args.self.now Write c.args.address c.args.size some inside)

pub returns-clause-told : goal.returns-clause-told
returns-clause-told c =
    let some : 0 < c.args.size = omega arith in
    let inside : c.args.address % 4096 + c.args.size ≤ 4096 = omega arith in
    let refused = ap result_err c.in_ok-frame.ensures ∙ sym (refusal-in_page c.args.self.now Write c.args.address c.args.size some inside) in
    told (Ok tt) c.args.self.now c.put.new.self c.args.address c.args.size c.args.value c.put.ensures refused
