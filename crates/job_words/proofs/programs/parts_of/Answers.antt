use Rattle.std.proofs.Common.{◌≡◌, ◌≤◌, length, Some, None, refl, ap, arith}
use Rattle.std.proofs.lemmas.Str.Pattern.{split_parts}
use Rattle.job_words.specs.Programs.{COLON}
use Rattle.option_words.proofs.Numbers.{IfNone-of_any}
use Rattle.job_words.proofs.ProgramWords.{NoProgram, cut_of, host_small, not_empty, empty_name, first_is_name, found_program, bytes_length}
use Rattle.job_words.proofs.programs.parts_of.Goals as goal

pub returns-in_err-host-clause-none : goal.returns-in_err-host-clause-none
returns-in_err-host-clause-none c =
    IfNone-of_any (NoProgram c.args.word.now) _ (λ program is text. cut_of program is c.args.word.now text None c.in_err-host.ensures.cases)

pub returns-in_err-host-2-clause-none : goal.returns-in_err-host-2-clause-none
returns-in_err-host-2-clause-none c =
    IfNone-of_any (NoProgram c.args.word.now) _ (λ program is text.
    let cut = cut_of program is c.args.word.now text (Some (c.in_ok-host.host, c.in_ok-host.listed)) c.in_ok-host.ensures.cases in
    c.in_err-host-2.ensures.none program.host (omega arith) (host_small program is) cut.0)

pub returns-then-is_empty-clause-none : goal.returns-then-is_empty-clause-none
returns-then-is_empty-clause-none c program is text =
    let cut = cut_of program is c.args.word.now text (Some (c.in_ok-host.host, c.in_ok-host.listed)) c.in_ok-host.ensures.cases in
    let same : c.name_of-name.result.now ≡ program.name = first_is_name c.in_ok-host.listed.now program.name program.arguments c.name_of-name.result.now is.name cut.1 c.name_of-name.ensures in
    empty_name c.name_of-name.result.now program.name c.is_empty.result c.is_empty.ensures c.if-is_empty.true same is.some

pub returns-then-name-gt-LONGEST_NAME-clause-none : goal.returns-then-name-gt-LONGEST_NAME-clause-none
returns-then-name-gt-LONGEST_NAME-clause-none c program is text =
    let cut = cut_of program is c.args.word.now text (Some (c.in_ok-host.host, c.in_ok-host.listed)) c.in_ok-host.ensures.cases in
    let same : c.name_of-name.result.now ≡ program.name = first_is_name c.in_ok-host.listed.now program.name program.arguments c.name_of-name.result.now is.name cut.1 c.name_of-name.ensures in
    let size : length c.name_of-name.result.now ≡ length program.name = ap length same in
    let short : length program.name ≤ 255 = is.short in
    omega (arith, size, short)

pub returns-then-listed-ge-MOST_BYTES-clause-none : goal.returns-then-listed-ge-MOST_BYTES-clause-none
returns-then-listed-ge-MOST_BYTES-clause-none c program is text =
    let cut = cut_of program is c.args.word.now text (Some (c.in_ok-host.host, c.in_ok-host.listed)) c.in_ok-host.ensures.cases in
    omega (arith, ap length cut.1, bytes_length program.name program.arguments is.name is.arguments, is.bytes)

pub returns-clause-some : goal.returns-clause-some
returns-clause-some c =
    let parts = split_parts COLON c.args.word.now (Some (c.in_ok-host.host, c.in_ok-host.listed)) c.in_ok-host.ensures.cases (omega arith) in
    found_program c.args.word.now c.in_ok-host.host.now c.in_ok-host.listed.now c.name_of-name.result.now c.in_ok-host-2.host parts.0 c.in_ok-host-2.ensures.some.2 c.in_ok-host-2.ensures.some.1
    c.name_of-name.ensures (not_empty c.name_of-name.result.now c.is_empty.result c.is_empty.ensures c.if-is_empty.false) (omega arith) (omega arith) _ refl refl refl
