use Rattle.std.proofs.Common.{◌+◌, ◌<◌, take, length, sym, subst, arith}
use Rattle.std.specs.Prelude.{string_bytes, max}
use Rattle.std.proofs.lemmas.List.{length-map}
use Rattle.job_words.specs.Parts.{AreCounted}
use Rattle.option_words.specs.Reading.{texts_of}
use Rattle.option_words.proofs.Numbers.{IfNone-of_any}
use Rattle.job_words.proofs.ProgramLists.{text_at, texts_more, not_all, one_counted}
use Rattle.job_words.proofs.programs.hosts_in.Goals as goal

pub loop-word-preserved : goal.loop-word-preserved
loop-word-preserved c =
    let more = texts_more c.args.words.now c.loop-word.word-index c.word-item.result c.as_str.result.now c.loop-word-test.true c.word-item.is c.as_str.ensures.value in
    let counted = one_counted (texts_of (take c.loop-word.word-index c.args.words.now)) c.loop-word.hosts c.as_str.result.now c.in_ok-parts.parts c.loop-word.invariant.0 c.in_ok-parts.ensures.some in
    let small = c.in_ok-parts.ensures.host in
    let few = c.loop-word.invariant.1 in
    let is = c.larger-hosts.ensures in
    (subst (λ hosts. AreCounted (texts_of (take (c.loop-word.word-index + 1) c.args.words.now)) hosts) (sym is) (subst (λ words. AreCounted words (max c.loop-word.hosts (c.in_ok-parts.parts.host + 1))) (sym more) counted), omega (arith, small, few, is))

pub returns-in_err-parts-clause-none : goal.returns-in_err-parts-clause-none
returns-in_err-parts-clause-none c =
    let inside : c.loop-word.word-index < length (texts_of c.args.words.now) = omega (arith, length-map c.args.words.now string_bytes, c.loop-word-test.true) in
    IfNone-of_any _ c.from_residual.result
    (not_all (texts_of c.args.words.now) c.loop-word.word-index c.as_str.result.now inside
    (text_at c.args.words.now c.loop-word.word-index c.word-item.result c.as_str.result.now c.loop-word-test.true c.word-item.is c.as_str.ensures.value) c.in_err-parts.ensures.none)
