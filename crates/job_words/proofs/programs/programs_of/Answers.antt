use Rattle.std.proofs.Common.{◌<◌, length, arith}
use Rattle.std.specs.Prelude.{string_bytes}
use Rattle.std.proofs.lemmas.List.{length-map}
use Rattle.option_words.specs.Reading.{texts_of}
use Rattle.job_words.proofs.ProgramLists.{text_at, word_of_all, one_started}
use Rattle.job_words.proofs.programs.programs_of.Goals as goal

pub program_of-requires : goal.program_of-requires
program_of-requires c =
    let inside : c.loop-word.word-index < length (texts_of c.args.words.now) = omega (arith, length-map c.args.words.now string_bytes, c.loop-word-test.true) in
    word_of_all (texts_of c.args.words.now) c.loop-word.word-index c.as_str.result.now inside
    (text_at c.args.words.now c.loop-word.word-index c.word-item.result c.as_str.result.now c.loop-word-test.true c.word-item.is c.as_str.ensures.value) c.requires

pub loop-word-preserved : goal.loop-word-preserved
loop-word-preserved c =
    one_started c.args.words.now c.loop-word.word-index c.loop-word.list c.push.new.self c.as_str.result.now c.in_ok-program_of.field-0 c.loop-word-test.true
    (text_at c.args.words.now c.loop-word.word-index c.word-item.result c.as_str.result.now c.loop-word-test.true c.word-item.is c.as_str.ensures.value)
    c.loop-word.invariant c.in_ok-program_of.ensures c.in_ok-push.ensures.ok
