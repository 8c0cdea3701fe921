use Rattle.std.proofs.Common.{◌+◌, ◌%◌, ◌≤◌, ◌<◌, sym, ap, ◌∙◌, arith}
use Rattle.std.specs.Prelude.{Some, option_map}
use Rattle.std.specs.Result.{result_err}
use Rattle.std.proofs.lemmas.Result.{err_from_is_err_and}
use Rattle.plain_process.specs.Memory.{little_endian}
use Rattle.guest_pages.proofs.InPage.{bytes_at-in_page, refusal-in_page, bytes_of}
use Rattle.guest_mem.proofs.space.Space.read.Goals as goal

pub returns-in_err-frame-clause-value : goal.returns-in_err-frame-clause-value
returns-in_err-frame-clause-value c =
    let p = err_from_is_err_and c.from_residual.result c.from_residual.ensures.1 in
    let some : 0 < c.args.size = omega arith in
    let inside : c.args.address % 4096 + c.args.size ≤ 4096 = omega arith in
    rw p.1 (sym (ap (option_map little_endian) (bytes_at-in_page c.args.self.now c.args.right c.args.address c.args.size some inside
    ∙ ap (bytes_of (c.args.address % 4096) c.args.size) (sym c.in_err-frame.ensures))))

pub returns-in_err-frame-clause-refused : goal.returns-in_err-frame-clause-refused
returns-in_err-frame-clause-refused c =
    let p = err_from_is_err_and c.from_residual.result c.from_residual.ensures.1 in
    let some : 0 < c.args.size = omega arith in
    let inside : c.args.address % 4096 + c.args.size ≤ 4096 = omega arith in
    rw (p.1, p.2) (ap result_err c.in_err-frame.ensures ∙ sym (refusal-in_page c.args.self.now c.args.right c.args.address c.args.size some inside))

pub returns-clause-value : goal.returns-clause-value
returns-clause-value c =
    let some : 0 < c.args.size = omega arith in
    let inside : c.args.address % 4096 + c.args.size ≤ 4096 = omega arith in
    sym (ap (option_map little_endian) (bytes_at-in_page c.args.self.now c.args.right c.args.address c.args.size some inside
    ∙ ap (bytes_of (c.args.address % 4096) c.args.size) (sym c.in_ok-frame.ensures))
    ∙ ap (λ value. Some value) (sym c.number_at.ensures.value))

pub returns-clause-refused : goal.returns-clause-refused
returns-clause-refused c =
    let some : 0 < c.args.size = omega arith in
    let inside : c.args.address % 4096 + c.args.size ≤ 4096 = omega arith in
    ap result_err c.in_ok-frame.ensures ∙ sym (refusal-in_page c.args.self.now c.args.right c.args.address c.args.size some inside)
