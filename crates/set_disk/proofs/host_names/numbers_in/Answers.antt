use Rattle.std.proofs.Common.{Some, None, arith}
use Rattle.std.specs.Fmt.{decimal}
use Rattle.std.proofs.lemmas.Str.Pattern.{strip_prefix_char}
use Rattle.set_disk.proofs.HostNames.{halves, ending, slot_text, index_text, not_refused, reads, same_name}
use Rattle.set_disk.proofs.host_names.numbers_in.Goals as goal

pub returns-in_err-front : goal.returns-in_err-front
returns-in_err-front c name small is = absurd (halves name small c.args.text.now is None c.in_err-front.ensures.cases)

pub returns-in_err-strip_prefix : goal.returns-in_err-strip_prefix
unfolding lib.Utf8.encode
returns-in_err-strip_prefix c name small is =
    let half = halves name small c.args.text.now is (Some (c.in_ok-front.front, c.in_ok-front.rest)) c.in_ok-front.ensures.cases in
    absurd (c.in_err-strip_prefix.ensures.cases (decimal name.slot) half.0)

pub returns-in_err-slot : goal.returns-in_err-slot
returns-in_err-slot c name small is =
    let front = strip_prefix_char 115 c.in_ok-front.front.now (Some c.in_ok-strip_prefix.field-0) c.in_ok-strip_prefix.ensures.cases (omega arith) in
    let digits = slot_text name small c.args.text.now is (c.in_ok-front.front, c.in_ok-front.rest) c.in_ok-front.ensures.cases c.in_ok-strip_prefix.field-0.now front in
    absurd (not_refused name.slot small.slot c.in_ok-strip_prefix.field-0.now digits c.parse.result c.parse.ensures.value.0 c.in_err-slot.ensures.variant)

pub returns-in_err-digits : goal.returns-in_err-digits
returns-in_err-digits c name small is =
    let half = halves name small c.args.text.now is (Some (c.in_ok-front.front, c.in_ok-front.rest)) c.in_ok-front.ensures.cases in
    absurd (ending name small c.in_ok-front.rest.now half.1 None c.in_err-digits.ensures.cases)

pub returns-in_err-index : goal.returns-in_err-index
returns-in_err-index c name small is =
    let digits = index_text name small c.args.text.now is (c.in_ok-front.front, c.in_ok-front.rest) (c.in_ok-digits.digits, c.in_ok-digits._ending) c.in_ok-front.ensures.cases c.in_ok-digits.ensures.cases in
    absurd (not_refused name.index small.index c.in_ok-digits.digits.now digits c.parse-2.result c.parse-2.ensures.value.0 c.in_err-index.ensures.variant)

pub returns : goal.returns
returns c name small is =
    let front = strip_prefix_char 115 c.in_ok-front.front.now (Some c.in_ok-strip_prefix.field-0) c.in_ok-strip_prefix.ensures.cases (omega arith) in
    let slot = slot_text name small c.args.text.now is (c.in_ok-front.front, c.in_ok-front.rest) c.in_ok-front.ensures.cases c.in_ok-strip_prefix.field-0.now front in
    let index = index_text name small c.args.text.now is (c.in_ok-front.front, c.in_ok-front.rest) (c.in_ok-digits.digits, c.in_ok-digits._ending) c.in_ok-front.ensures.cases c.in_ok-digits.ensures.cases in
    same_name name c.in_ok-slot.slot c.in_ok-index.index
    (reads c.in_ok-slot.slot name.slot small.slot c.in_ok-strip_prefix.field-0.now slot c.parse.result c.parse.ensures.value.0 c.in_ok-slot.ensures.value)
    (reads c.in_ok-index.index name.index small.index c.in_ok-digits.digits.now index c.parse-2.result c.parse-2.ensures.value.0 c.in_ok-index.ensures.value)
